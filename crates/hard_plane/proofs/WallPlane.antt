-- The wall plane of a clear segment in reach is within the bounds of the type, and so it is drawn in.
use Rattle.std.proofs.Common.{◌≡◌, ⊎_elim, sym, subst, ℕ, ◌+◌, ◌*◌, ◌^◌, ◌<◌, ◌≤◌, true, [], ◌∷◌, arith, ℤ, pos, neg_ℤ, ◌+ℤ◌, ◌-ℤ◌, ◌*ℤ◌, ◌≤ℤ◌, ◌<ℤ◌, unsigned_abs, mul-le-mul, int_le}
use Rattle.std.specs.Int.{div_ceil, int_min, int_max}
use Rattle.std.proofs.lemmas.Int.{ints, clamps}
use Rattle.std.proofs.lemmas.Bool.{cases_lt}
use Rattle.exact_algebra.specs.Numbers.{ceil, ceil_root}
use Rattle.exact_algebra.proofs.Ring.{quotes, equal}
use Rattle.exact_algebra.proofs.Machine.{Within, bounded, reads, abs-product}
use Rattle.exact_algebra.proofs.Rounding.{ceil_root_first}
use Rattle.exact_algebra.proofs.Tests.{le_true, both_of}
use Rattle.fixed_vec.specs.declared.vector.V2.{V2}
use Rattle.fixed_vec.specs.Vector.{minus, square, IsBelow}
use Rattle.fixed_vec.specs.HalfPlane.{FitsPlane, drawn_of, whole_length}
use Rattle.crowd_data.specs.declared.agent.Agent.{Agent}
use Rattle.crowd_data.specs.declared.segment.Segment.{Segment}
use Rattle.crowd_data.specs.Limits.{IsBuild, IsSegment}
use Rattle.crowd_data.specs.Walls.{IsClear, in_reach, is_between, normal_beside, plane_from, reach_of, wall_plane}
use Rattle.crowd_data.proofs.ClearOfSegment.{clear_start, clear_end, square_some}
use Rattle.crowd_data.proofs.WallCases.{normal_elim, wall_elim}
use Rattle.hard_plane.proofs.Sizes.{ceil_within}

root_most : (m b : ℕ) → m ≤ b * b → ceil_root m ≤ b
root_most m b h = ⊎_elim (λ l. absurd (omega (arith, ceil_root_first m b l))) (λ k. k) (cases_lt b (ceil_root m))

-- a half-plane fits, drawn in or not
abbrev FitsTwice : V2 → V2 → V2 → Agent → Type 0
FitsTwice n q at agent = FitsPlane (plane_from n q at agent) × FitsPlane (drawn_of (plane_from n q at agent))

-- where n is below 2^27, and q at most the wall horizon times 2^24 away. The horizon counts: n . n alone may pass 2^53
plane_from_fits : (n q at : V2) (agent : Agent) → IsBuild agent → pos 0 <ℤ square n → IsBelow n (2 ^ 27)
    → unsigned_abs (q.x -ℤ at.x) ≤ agent.wall_horizon * 2 ^ 24 → unsigned_abs (q.y -ℤ at.y) ≤ agent.wall_horizon * 2 ^ 24 → FitsTwice n q at agent
plane_from_fits n q at agent build some small ex ey =
    let within : Within (n.x ∷ n.y ∷ []) (2 ^ 27 ∷ 2 ^ 27 ∷ []) = (omega (arith, small.0), (omega (arith, small.1), tt)) in
    let nn : unsigned_abs (square n) < 2 ^ 56 = bounded (n.x ∷ n.y ∷ []) (2 ^ 27 ∷ 2 ^ 27 ∷ []) (2 ^ 56) (square n) within (search reads depth 40 fits 20000) tt in
    let l : whole_length n ≤ 2 ^ 28 = root_most (unsigned_abs (square n)) (2 ^ 28) (omega (arith, nn)) in
    let x : unsigned_abs (n.x *ℤ (q.x -ℤ at.x)) ≤ 2 ^ 27 * (agent.wall_horizon * 2 ^ 24) = abs-product n.x (q.x -ℤ at.x) (2 ^ 27) (agent.wall_horizon * 2 ^ 24) (omega (arith, small.0)) ex in
    let y : unsigned_abs (n.y *ℤ (q.y -ℤ at.y)) ≤ 2 ^ 27 * (agent.wall_horizon * 2 ^ 24) = abs-product n.y (q.y -ℤ at.y) (2 ^ 27) (agent.wall_horizon * 2 ^ 24) (omega (arith, small.1)) ey in
    let rr : agent.radius ≤ 2 ^ 15 = omega (arith, build.radius) in
    let z : agent.radius * whole_length n ≤ 2 ^ 15 * 2 ^ 28 = mul-le-mul rr l in
    let c = sum (n.x *ℤ (q.x -ℤ at.x)) (n.y *ℤ (q.y -ℤ at.y)) (agent.radius * whole_length n) agent.wall_horizon build.some_wall_horizon x y z in
    let k : ℤ = ceil (n.x *ℤ (q.x -ℤ at.x) +ℤ n.y *ℤ (q.y -ℤ at.y) +ℤ pos (agent.radius * whole_length n)) (pos agent.wall_horizon) in (
      record { nonzero = some; normal = below (square n) nn; offset = last k c.0 c.1 },
      record { nonzero = some; normal = below (square n) nn; offset = drawn k (unsigned_abs n.x) (unsigned_abs n.y) c.0 c.1 small.0 small.1 },
    )
  where
    below : (z : ℤ) → unsigned_abs z < 2 ^ 56 → z <ℤ pos (2 ^ 64)
    below z h = omega (arith, ints)

    last : (c : ℤ) → neg_ℤ (pos (2 ^ 52 + 2 ^ 43)) ≤ℤ c → c ≤ℤ pos (2 ^ 52 + 2 ^ 43) → unsigned_abs c < 2 ^ 53
    last c h k = omega (arith, ints)

    sum : (a b : ℤ) (z t : ℕ) → 1 ≤ t → unsigned_abs a ≤ 2 ^ 27 * (t * 2 ^ 24) → unsigned_abs b ≤ 2 ^ 27 * (t * 2 ^ 24) → z ≤ 2 ^ 15 * 2 ^ 28
        → (neg_ℤ (pos (2 ^ 52 + 2 ^ 43)) ≤ℤ ceil (a +ℤ b +ℤ pos z) (pos t)) × (ceil (a +ℤ b +ℤ pos z) (pos t) ≤ℤ pos (2 ^ 52 + 2 ^ 43))
    sum a b z t ht ha hb hz =
        ceil_within (a +ℤ b +ℤ pos z) (pos t) (pos (2 ^ 52 + 2 ^ 43)) (omega (arith, ints)) (omega (arith, ints)) (omega (arith, ints))

    drawn : (c : ℤ) (a b : ℕ) → neg_ℤ (pos (2 ^ 52 + 2 ^ 43)) ≤ℤ c → c ≤ℤ pos (2 ^ 52 + 2 ^ 43) → a < 2 ^ 27 → b < 2 ^ 27 → unsigned_abs (c +ℤ pos (div_ceil (a + b) 2)) < 2 ^ 53
    drawn c a b h k l m = omega (arith, ints)

-- ---- in reach, each end is near

reach_small : (agent : Agent) → IsBuild agent → (reach_of agent ≤ 2 ^ 26 + 2 ^ 15) × (reach_of agent + 2 ^ 23 ≤ agent.wall_horizon * 2 ^ 24)
reach_small agent build =
    let h : agent.wall_horizon ≤ 2 ^ 12 = omega (arith, build.wall_horizon) in
    let s : agent.speed ≤ 2 ^ 14 = omega (arith, build.speed) in
    let same : agent.wall_horizon ≤ agent.wall_horizon = omega arith in
    let p : agent.wall_horizon * agent.speed ≤ 2 ^ 12 * 2 ^ 14 = mul-le-mul h s in
    let q : agent.wall_horizon * agent.speed ≤ agent.wall_horizon * 2 ^ 14 = mul-le-mul same s in
    (omega (arith, build.radius, p), omega (arith, build.radius, build.some_wall_horizon, q))

between_near : (z a b : ℤ) (g : ℕ) → unsigned_abs a ≤ 2 ^ 22 → unsigned_abs b ≤ 2 ^ 22 → is_between z a b (pos g) ≡ true
    → (unsigned_abs (z -ℤ a) ≤ g + 2 ^ 23) × (unsigned_abs (z -ℤ b) ≤ g + 2 ^ 23)
between_near z a b g ha hb t =
    let h = both_of (int_le (int_min a b -ℤ pos g) z) (int_le z (int_max a b +ℤ pos g)) t in
    let low = le_true (int_min a b -ℤ pos g) z h.0 in
    let high = le_true z (int_max a b +ℤ pos g) h.1 in
    (omega (arith, ints, clamps), omega (arith, ints, clamps))

flip : (a b : ℤ) (n : ℕ) → unsigned_abs (a -ℤ b) ≤ n → unsigned_abs (b -ℤ a) ≤ n
flip a b n h = omega (arith, ints)

module _ (at : V2) (agent : Agent) (s : Segment) (build : IsBuild agent) (hs : IsSegment s) (reach : in_reach at agent s ≡ true) (clear : IsClear at agent.radius s) where
  abbrev p : V2
  p = minus at s.a

  abbrev d : V2
  d = minus s.b s.a

  near_x : (unsigned_abs (at.x -ℤ s.a.x) ≤ reach_of agent + 2 ^ 23) × (unsigned_abs (at.x -ℤ s.b.x) ≤ reach_of agent + 2 ^ 23)
  near_x = between_near at.x s.a.x s.b.x (reach_of agent) hs.a.0 hs.b.0 (both_of (is_between at.x s.a.x s.b.x (pos (reach_of agent))) (is_between at.y s.a.y s.b.y (pos (reach_of agent))) reach).0

  near_y : (unsigned_abs (at.y -ℤ s.a.y) ≤ reach_of agent + 2 ^ 23) × (unsigned_abs (at.y -ℤ s.b.y) ≤ reach_of agent + 2 ^ 23)
  near_y = between_near at.y s.a.y s.b.y (reach_of agent) hs.a.1 hs.b.1 (both_of (is_between at.x s.a.x s.b.x (pos (reach_of agent))) (is_between at.y s.a.y s.b.y (pos (reach_of agent))) reach).1

  near_fits : (n q : V2) → pos 0 <ℤ square n → IsBelow n (2 ^ 27) → unsigned_abs (at.x -ℤ q.x) ≤ reach_of agent + 2 ^ 23 → unsigned_abs (at.y -ℤ q.y) ≤ reach_of agent + 2 ^ 23 → FitsTwice n q at agent
  near_fits n q some small x y =
      let r = (reach_small agent build).1 in
      plane_from_fits n q at agent build some small (omega (arith, flip at.x q.x _ x)) (omega (arith, flip at.y q.y _ y))

  -- the turned direction of the segment is as long as the segment
  length_small : (a b : ℤ) → unsigned_abs a ≤ 2 ^ 22 → unsigned_abs b ≤ 2 ^ 22 → (unsigned_abs (b -ℤ a) < 2 ^ 27) × (unsigned_abs (neg_ℤ (b -ℤ a)) < 2 ^ 27) × (unsigned_abs (neg_ℤ (neg_ℤ (b -ℤ a))) < 2 ^ 27)
  length_small a b h k = (omega (arith, ints), omega (arith, ints), omega (arith, ints))

  turned : IsBelow (normal_beside p d) (2 ^ 27) × (square (normal_beside p d) ≡ square d)
  turned =
      let x = length_small s.a.x s.b.x hs.a.0 hs.b.0 in
      let y = length_small s.a.y s.b.y hs.a.1 hs.b.1 in
      normal_elim p d (λ n. IsBelow n (2 ^ 27) × (square n ≡ square d))
      (λ l. ((y.1, x.0), equal (s.a.x ∷ s.a.y ∷ s.b.x ∷ s.b.y ∷ []) (search quotes depth 40 fits 20000) tt))
      (λ l. ((y.2, x.1), equal (s.a.x ∷ s.a.y ∷ s.b.x ∷ s.b.y ∷ []) (search quotes depth 40 fits 20000) tt))

  pub wall_fits : FitsPlane (wall_plane at agent s) × FitsPlane (drawn_of (wall_plane at agent s))
  wall_fits =
      let one = square_some agent.radius build.some_radius in
      let r = (reach_small agent build).0 in
      wall_elim at agent s (λ plane. FitsPlane plane × FitsPlane (drawn_of plane))
      (λ low high.
      let some : pos 0 <ℤ square d = omega (arith, ints) in
      near_fits (normal_beside p d) s.a (subst (λ z. pos 0 <ℤ z) (sym turned.1) some) turned.0 near_x.0 near_y.0)
      (λ behind.
      let far = clear_start at agent.radius s clear in
      let some : pos 0 <ℤ square p = omega (arith, ints) in
      near_fits p s.a some (omega (arith, near_x.0), omega (arith, near_y.0)) near_x.0 near_y.0)
      (λ past.
      let far = clear_end at agent.radius s clear in
      let some : pos 0 <ℤ square (minus at s.b) = omega (arith, ints) in
      near_fits (minus at s.b) s.b some (omega (arith, near_x.1), omega (arith, near_y.1)) near_x.1 near_y.1)
