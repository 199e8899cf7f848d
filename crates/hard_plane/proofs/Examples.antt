-- A half-plane of the speed polygon and a wall plane, computed.
use Rattle.std.proofs.Common.{◌≡◌, ℕ, inl, inr, refl, sym, subst, arith, Some, length, pos, negsuc}
use Rattle.std.specs.List.{slice_get}
use Rattle.std.proofs.lemmas.Nat.{mul-lt}
use Rattle.exact_algebra.specs.Numbers.{ceil_root}
use Rattle.exact_algebra.proofs.Rounding.{ceil_root_is}
use Rattle.fixed_vec.specs.Vector.{zero_vector}
use Rattle.crowd_data.specs.declared.agent.Agent.{Agent}
use Rattle.crowd_data.specs.Limits.{IsRing}
use Rattle.crowd_data.specs.RingPlanes.{ring_planes}
use Rattle.crowd_data.specs.Walls.{wall_plane}

-- a ring has as many half-planes as points
pub length-ring_planes : (ring speed : ℕ) → IsRing ring → length (ring_planes ring speed) ≡ ring
unfolding ring_planes
length-ring_planes ring speed (inl e) = subst (λ (n : ℕ). length (ring_planes n speed) ≡ n) (sym e) refl
length-ring_planes ring speed (inr e) = subst (λ (n : ℕ). length (ring_planes n speed) ≡ n) (sym e) refl

-- the edge from (65, 0) to (63, 16) at speed 66: normal (-16, -2), offset -1040
first_plane : slice_get (ring_planes 36 66) 0 ≡ Some (record { n = record { x = negsuc 15; y = negsuc 1 }; c = negsuc 1039 })
unfolding ring_planes
first_plane = refl

-- the edge from (325, 0) to (323, 36) at speed 326: normal (-36, -2), offset -11700
first_fine_plane : slice_get (ring_planes 60 326) 0 ≡ Some (record { n = record { x = negsuc 35; y = negsuc 1 }; c = negsuc 11699 })
unfolding ring_planes
first_fine_plane = refl

-- an agent of radius 500 at the origin, whose wall horizon is 4 steps
abbrev walker : Agent
walker = record { pos = zero_vector; vel = zero_vector; pref = zero_vector; radius = 500; speed = 400; range = 0; most = 0; horizon = 1; wall_horizon = 4; weight = 1 }

-- a wall from (-2000, 800) to (2000, 800): normal (0, -4000), offset (4000 * 500 - 4000 * 800) / 4
wall_beside : wall_plane zero_vector walker (record { a = record { x = negsuc 1999; y = pos 800 }; b = record { x = pos 2000; y = pos 800 } }) ≡ record { n = record { x = pos 0; y = negsuc 3999 }; c = negsuc 299999 }
wall_beside =
    let root : ceil_root 16000000 ≡ 4000 = ceil_root_is 16000000 4000 (omega arith) (λ j h. omega (arith, mul-lt j j 4000 4000 h h)) in
    rw root refl
