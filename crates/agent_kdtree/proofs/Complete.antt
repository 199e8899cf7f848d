-- Whoever is not among the neighbours is no nearer than the last of them, or out of range.
use Rattle.std.proofs.Common.{◌≡◌, ◌≢◌, ◌∙◌, ◌⊎◌, inl, inr, ⊎_elim, ℕ, zero, suc, ◌+◌, ◌-◌, ◌*◌, ◌<◌, ◌≤◌, Bool, true, false, cond, List, [], ◌∷◌, ◌++◌, map, take, length, get_or, refl, sym, ap, subst, arith}
use Rattle.std.specs.List.{Contains, filter}
use Rattle.std.proofs.lemmas.Bool.{cases_lt}
use Rattle.std.proofs.lemmas.Bool.Decides.{nat_tests}
use Rattle.std.proofs.lemmas.List.Elements.{All-contains}
use Rattle.std.proofs.lemmas.List.Sorted.{All-permutation, IsPermutation-sym}
use Rattle.crowd_data.specs.declared.pair.Place.{Place}
use Rattle.crowd_data.specs.Neighbours.{MissesNear, Seen, in_order, is_before, is_in_range, neighbours, numbers, place_at, placed_in, seen_from, squared_gap}
use Rattle.agent_kdtree.specs.Gather.{AtLeast, Rises}
use Rattle.agent_kdtree.specs.Boxes.{Covers, CoversAll, box_at}
use Rattle.agent_kdtree.specs.declared.tree.Tree.{Tree}
use Rattle.agent_kdtree.specs.Stands.{StandsFor}
use Rattle.agent_kdtree.proofs.Coverings.{covered-covers}
use Rattle.agent_kdtree.proofs.MissedAgents.{not_near}
use Rattle.agent_kdtree.proofs.Order.{rises-placed_in}
use Rattle.agent_kdtree.proofs.Stands.{numbers-contain}
use Rattle.agent_kdtree.specs.Seen.{seen_of}
use Rattle.agent_kdtree.specs.declared.near.Near.{Near}
use Rattle.std.proofs.lemmas.List.{get_or-map, length-map}
use Rattle.std.proofs.lemmas.Simd.{map-map}

abbrev In : {X : Type 0} → X → List X → Type 0
In x [] = ⊥
In x (y ∷ ys) = (x ≡ y) ⊎ In x ys

in_push : {X : Type 0} (l : List X) (x : X) → In x (l ++ x ∷ [])
in_push [] x = inl refl
in_push (y ∷ ys) x = inr (in_push ys x)

in_more : {X : Type 0} (l m : List X) (x : X) → In x l → In x (l ++ m)
in_more [] m x i = absurd i
in_more (y ∷ ys) m x i = ⊎_elim (λ e. inl e) (λ j. inr (in_more ys m x j)) i

in_numbers : (n k : ℕ) → k < n → In k (numbers n)
in_numbers zero k h = absurd (omega arith)
in_numbers (suc n) k h =
    ⊎_elim (λ (l : k < n). in_more (numbers n) (n ∷ []) k (in_numbers n k l))
    (λ (g : n ≤ k). let e : k ≡ n = omega arith in rw e (in_push (numbers n) n))
    (cases_lt k n)

in_map : {X Y : Type 0} (f : X → Y) (l : List X) (x : X) → In x l → In (f x) (map f l)
in_map f [] x i = absurd i
in_map f (y ∷ ys) x i = ⊎_elim (λ e. inl (ap f e)) (λ j. inr (in_map f ys x j)) i

in_contains : {X Y : Type 0} (f : X → Y) (l : List X) (x : X) → In x l → Contains (map f l) (f x)
in_contains f [] x i = absurd i
in_contains f (y ∷ ys) x i = ⊎_elim (λ e. (0, omega arith, sym (ap f e))) (λ j. let c = in_contains f ys x j in (suc c.0, omega (arith, c.1), c.2)) i

in_filter : (p : Seen → Bool) (l : List Seen) (x : Seen) → p x ≡ true → In x l → In x (filter p l)
in_filter p [] x h i = absurd i
in_filter p (y ∷ ys) x h i = ⊎_elim (λ e. first e) (λ j. later (p y) (in_filter p ys x h j)) i
  where
    first : x ≡ y → In x (filter p (y ∷ ys))
    first e = let t : p y ≡ true = sym (ap p e) ∙ h in rw t (inl e)

    later : (b : Bool) → In x (filter p ys) → In x (cond b (y ∷ filter p ys) (filter p ys))
    later true j = inr j
    later false j = j

in_placed : (a : Seen) (l : List Seen) (x : Seen) → In x (a ∷ l) → In x (placed_in a l)
in_placed a [] x i = i
in_placed a (b ∷ bs) x i = by (is_before a b) (λ j. in_placed a bs x j) i
  where
    by : (t : Bool) → (In x (a ∷ bs) → In x (placed_in a bs)) → In x (a ∷ b ∷ bs) → In x (cond t (a ∷ b ∷ bs) (b ∷ placed_in a bs))
    by true f j = j
    by false f j = ⊎_elim (λ e. inr (f (inl e))) (λ k. ⊎_elim (λ e. inl e) (λ n. inr (f (inr n))) k) j

in_ordered : (l : List Seen) (x : Seen) → In x l → In x (in_order l)
in_ordered [] x i = absurd i
in_ordered (a ∷ rest) x i = in_placed a (in_order rest) x (⊎_elim (λ e. inl e) (λ j. inr (in_ordered rest x j)) i)

rises-in_order : (l : List Seen) → Rises (in_order l)
rises-in_order [] = tt
rises-in_order (a ∷ rest) = rises-placed_in a (in_order rest) (rises-in_order rest)

at_least : (d : ℕ) (l : List Seen) (x : Seen) → AtLeast d l → In x l → d ≤ x.dist
at_least d [] x h i = absurd i
at_least d (y ∷ ys) x h i = ⊎_elim (λ e. let f = ap (λ (s : Seen). s.dist) e in omega arith) (λ j. at_least d ys x h.1 j) i

-- among the first m, or no nearer than each of them
abbrev IsLate : ℕ → List Seen → Seen → Type 0
IsLate m l x = (length (take m l) ≡ m) × ((d : Seen) (i : ℕ) → i + 1 ≡ m → (get_or (take m l) i d).dist ≤ x.dist)

among : (m : ℕ) (l : List Seen) (x : Seen) → Rises l → In x l → In x (take m l) ⊎ IsLate m l x
among zero l x r i = inr (refl, λ d i h. absurd (omega arith))
among (suc m) [] x r i = absurd i
among (suc m) (y ∷ ys) x r i = ⊎_elim (λ e. inl (inl e)) (λ j. ⊎_elim (λ k. inl (inr k)) (λ late. inr (ap suc late.0, last m late.1 j)) (among m ys x r.1 j)) i
  where
    last : (m : ℕ) → ((d : Seen) (i : ℕ) → i + 1 ≡ m → (get_or (take m ys) i d).dist ≤ x.dist) → In x ys → (d : Seen) (i : ℕ) → i + 1 ≡ suc m → (get_or (y ∷ take m ys) i d).dist ≤ x.dist
    last m f j d zero h = at_least y.dist ys x r.0 j
    last m f j d (suc i) h = f d i (omega arith)

module _ (places : List Place) (who range most : ℕ) where
  abbrev Beyond : ℕ → Type 0
  Beyond far = (far < range * range) × (0 < most) × (length (neighbours places who range most) ≡ most → (d : Seen) → far < (get_or (neighbours places who range most) (most - 1) d).dist)

  wanted : (k : ℕ) → k ≢ who → squared_gap (place_at places k).pos (place_at places who).pos < range * range → is_in_range who range (seen_from places who k) ≡ true
  wanted k other h = grind (arith, nat_tests)

  pub complete : (far k : ℕ) → Beyond far → k < length places → k ≢ who → ¬ Contains (map (λ (s : Seen). s.agent) (neighbours places who range most)) k
      → far < squared_gap (place_at places k).pos (place_at places who).pos
  complete far k b h other missing =
      ⊎_elim
      (λ (l : squared_gap (place_at places k).pos (place_at places who).pos < range * range).
      let inside : List Seen = filter (is_in_range who range) (map (seen_from places who) (numbers (length places))) in
      let seen = in_ordered inside (seen_from places who k) (in_filter (is_in_range who range) (map (seen_from places who) (numbers (length places))) (seen_from places who k) (wanted k other l)
      (in_map (seen_from places who) (numbers (length places)) k (in_numbers (length places) k h))) in
      ⊎_elim (λ i. absurd (missing (in_contains (λ (s : Seen). s.agent) (take most (in_order inside)) (seen_from places who k) i)))
      (λ late. let last = late.1 (seen_from places who k) (most - 1) (omega (arith, b.1)) in let past = b.2 late.0 (seen_from places who k) in omega arith)
      (among most (in_order inside) (seen_from places who k) (rises-in_order inside) seen))
      (λ (g : range * range ≤ squared_gap (place_at places k).pos (place_at places who).pos). omega (arith, b.0))
      (cases_lt (squared_gap (place_at places k).pos (place_at places who).pos) (range * range))

  pub none_beyond : (tree : Tree) (touching : ℕ) → StandsFor tree places → touching ≡ (box_at tree.boxes.items 0).greatest_reach + ((place_at places who).radius + (place_at places who).speed)
      → Beyond (touching * touching) → ¬ MissesNear places who (map (λ (s : Seen). s.agent) (neighbours places who range most))
  none_beyond tree touching stands e b = λ m.
      let box = box_at tree.boxes.items 0 in
      let covers : CoversAll box places tree.order.items = covered-covers places tree.order.items tree.boxes.items stands.covered in
      let all = All-permutation (λ k. Covers box (place_at places k)) tree.order.items (numbers (length places)) (IsPermutation-sym _ _ stands.room.order) covers in
      let one = All-contains (λ k. Covers box (place_at places k)) (numbers (length places)) m.0 all (numbers-contain (length places) m.0 m.1) in
      not_near (place_at places who) (place_at places m.0) touching (squared_gap (place_at places m.0).pos (place_at places who).pos) box one e
      (complete (touching * touching) m.0 b m.1 m.2 m.4) (omega arith) m.3

  pub beyond : (near : List Near) (far : ℕ) → map seen_of near ≡ neighbours places who range most
      → (far < range * range) × (length near < most ⊎ (0 < most) × ((d : Near) → far < (get_or near (length near - 1) d).dist)) → Beyond far
  beyond near far found h = (h.0, ⊎_elim (λ l. omega arith) (λ g. g.0) h.1, λ full d. ⊎_elim (λ l. absurd (omega (arith, same, full))) (λ g. last full d g.0 g.1) h.1)
    where
      same : length (neighbours places who range most) ≡ length near
      same = ap length (sym found) ∙ length-map near seen_of

      last : length (neighbours places who range most) ≡ most → (d : Seen) → 0 < most → ((d : Near) → far < (get_or near (length near - 1) d).dist) → far < (get_or (neighbours places who range most) (most - 1) d).dist
      last full d some g =
          let e : Near = record { agent = 0; dist = 0 } in
          let at : length near - 1 ≡ most - 1 = omega (arith, same, full) in
          let inside : most - 1 < length near = omega (arith, same, full) in
          let it : get_or (map seen_of near) (most - 1) d ≡ seen_of (get_or near (most - 1) e) = get_or-map seen_of near (most - 1) e d inside in
          let there : far < (get_or near (most - 1) e).dist = rw at at (g e) in
          subst (λ (l : List Seen). far < (get_or l (most - 1) d).dist) found (rw it there)

  pub none_unseen : (tree : Tree) (near : List Near) (touching : ℕ) → map seen_of near ≡ neighbours places who range most → StandsFor tree places
      → touching ≡ (box_at tree.boxes.items 0).greatest_reach + ((place_at places who).radius + (place_at places who).speed)
      → (touching * touching < range * range) × (length near < most ⊎ (0 < most) × ((d : Near) → touching * touching < (get_or near (length near - 1) d).dist))
      → ¬ MissesNear places who (map (λ (n : Near). n.agent) near)
  none_unseen tree near touching found stands e h = λ m.
      let same : map (λ (n : Near). n.agent) near ≡ map (λ (s : Seen). s.agent) (neighbours places who range most) = sym (map-map (λ (s : Seen). s.agent) seen_of near) ∙ ap (map (λ (s : Seen). s.agent)) found in
      none_beyond tree touching stands e (beyond near (touching * touching) found h) (subst (λ (l : List ℕ). MissesNear places who l) same m)
