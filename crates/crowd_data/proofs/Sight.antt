-- Whom an agent sees: its neighbours are agents of the crowd within its range, and one that isn't crowded
-- sees all that are near.
use Rattle.std.proofs.Common.{◌≡◌, ◌≢◌, ◌⊎◌, inl, inr, ⊎_elim, ◌*◌, ◌<◌, ℕ, zero, suc, Bool, true, false, cond, List, [], ◌∷◌, map, length, All, refl, ap, arith, unsigned_abs}
use Rattle.std.specs.Prelude.{Contains}
use Rattle.std.specs.List.{filter}
use Rattle.std.proofs.lemmas.Bool.{cases_eq, ltb-true}
use Rattle.std.proofs.lemmas.List.Elements.{All-cons, All-contains, All-head, All-map, All-nil, All-push, All-tail, All-take, All-weaker}
use Rattle.exact_algebra.proofs.Ring.{quotes, equal}
use Rattle.exact_algebra.proofs.Tests.{both_of}
use Rattle.fixed_vec.specs.declared.vector.V2.{V2}
use Rattle.fixed_vec.specs.Vector.{minus, square}
use Rattle.crowd_data.specs.declared.agent.Agent.{Agent}
use Rattle.crowd_data.specs.declared.pair.Place.{Place}
use Rattle.crowd_data.specs.Advice.{IsCrowded, agent_at, neighbours_of, place_of}
use Rattle.crowd_data.specs.Neighbours.{IsNear, Seen, in_order, is_before, is_in_range, neighbours, numbers, place_at, placed_in, seen_from, squared_gap}

-- ---- membership

-- a number is in a list or not
pub contains_or_not : (xs : List ℕ) (x : ℕ) → Contains xs x ⊎ ¬ Contains xs x
contains_or_not [] x = inr (λ c. absurd (omega (arith, c.1)))
contains_or_not (y ∷ ys) x = ⊎_elim (λ e. inl (0, omega arith, e)) (λ ne. ⊎_elim (λ c. inl (suc c.0, omega (arith, c.1), c.2)) (λ none. inr (neither ne none)) (contains_or_not ys x)) (cases_eq y x)
  where
    neither : (y ≢ x) → ¬ Contains ys x → ¬ Contains (y ∷ ys) x
    neither ne none (zero, below, e) = ne e
    neither ne none (suc k, below, e) = none (k, omega arith, e)

-- what isn't crowded sees each other one that is near
pub sees_near : (crowd : List Agent) (who other : ℕ) → ¬ IsCrowded crowd who → other < length (map place_of crowd) → other ≢ who
    → IsNear (place_at (map place_of crowd) who) (place_at (map place_of crowd) other) → Contains (neighbours_of crowd who) other
sees_near crowd who other roomy below another near =
    ⊎_elim (λ seen. seen) (λ missed. absurd (roomy (other, below, another, near, missed))) (contains_or_not (neighbours_of crowd who) other)

-- ---- what holds of each one seen holds of each in order

module _ (P : Seen → Type 0) where
  all_first : (first : Bool) (a b : Seen) (rest after : List Seen) → P a → All P (b ∷ rest) → All P after → All P (cond first (a ∷ b ∷ rest) (b ∷ after))
  all_first true a b rest after h all more = All-cons P a (b ∷ rest) h all
  all_first false a b rest after h all more = All-cons P b after (All-head P b rest all) more

  all_placed_in : (a : Seen) (seen : List Seen) → P a → All P seen → All P (placed_in a seen)
  all_placed_in a [] h all = All-cons P a [] h all
  all_placed_in a (b ∷ rest) h all = all_first (is_before a b) a b rest (placed_in a rest) h all (all_placed_in a rest h (All-tail P b rest all))

  pub all_in_order : (seen : List Seen) → All P seen → All P (in_order seen)
  all_in_order [] all = all
  all_in_order (a ∷ rest) all = all_placed_in a (in_order rest) (All-head P a rest all) (all_in_order rest (All-tail P a rest all))

  all_kept : (kept : Bool) (a : Seen) (rest : List Seen) → (kept ≡ true → P a) → All P rest → All P (cond kept (a ∷ rest) rest)
  all_kept true a rest h all = All-cons P a rest (h refl) all
  all_kept false a rest h all = all

-- ---- range

-- as far from b to a as from a to b
pub squared_gap-comm : (a b : V2) → squared_gap a b ≡ squared_gap b a
squared_gap-comm a b =
    let e : square (minus a b) ≡ square (minus b a) = equal (a.x ∷ a.y ∷ b.x ∷ b.y ∷ []) (search quotes depth 40) tt in
    ap unsigned_abs e

pub all_numbers : (n : ℕ) → All (λ k. k < n) (numbers n)
all_numbers zero = All-nil (λ k. k < zero)
all_numbers (suc n) = All-push (λ k. k < suc n) (numbers n) n (All-weaker (λ k. k < n) (λ k. k < suc n) (λ k h. omega (arith, h)) (numbers n) (all_numbers n)) (omega arith)

module _ (places : List Place) (who range : ℕ) where
  -- one of the places, nearer than the range
  abbrev pub InRange : ℕ → Type 0
  InRange k = (k < length places) × (squared_gap (place_at places k).pos (place_at places who).pos < range * range)

  abbrev SeenInRange : Seen → Type 0
  SeenInRange seen = InRange seen.agent

  all_filtered : (ks : List ℕ) → All (λ k. k < length places) ks → All SeenInRange (filter (is_in_range who range) (map (seen_from places who) ks))
  all_filtered [] all = All-nil SeenInRange
  all_filtered (k ∷ ks) all =
      all_kept SeenInRange (is_in_range who range (seen_from places who k)) (seen_from places who k) _
      (λ e. (All-head (λ k. k < length places) k ks all, ltb-true _ _ (both_of _ _ e).1))
      (all_filtered ks (All-tail (λ k. k < length places) k ks all))

  pub neighbours_in_range : (most : ℕ) → All InRange (map (λ (seen : Seen). seen.agent) (neighbours places who range most))
  neighbours_in_range most =
      All-map InRange (λ (seen : Seen). seen.agent) (neighbours places who range most)
      (All-take SeenInRange most _ (all_in_order SeenInRange _ (all_filtered (numbers (length places)) (all_numbers (length places)))))

-- a neighbour is nearer than the range
pub neighbour_in_range : (crowd : List Agent) (who other : ℕ) → Contains (neighbours_of crowd who) other
    → squared_gap (place_at (map place_of crowd) other).pos (place_at (map place_of crowd) who).pos < (agent_at crowd who).range * (agent_at crowd who).range
neighbour_in_range crowd who other seen =
    (All-contains (InRange (map place_of crowd) who (agent_at crowd who).range) (neighbours_of crowd who) other
    (neighbours_in_range (map place_of crowd) who (agent_at crowd who).range (agent_at crowd who).most) seen).1
