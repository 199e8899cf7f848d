-- The definitions at the numbers of the pairs that the tests work out.
use Rattle.std.proofs.Common.{◌≡◌, ℕ, ◌*◌, ◌≤◌, refl, arith, ℤ, pos, neg_ℤ, mul-le-mul}
use Rattle.std.proofs.lemmas.Nat.{mul-lt}
use Rattle.exact_algebra.specs.Numbers.{ceil_root}
use Rattle.exact_algebra.proofs.Rounding.{ceil_root_is}
use Rattle.fixed_vec.specs.declared.vector.V2.{V2}
use Rattle.fixed_vec.specs.HalfPlane.{Plane, drawn_of}
use Rattle.crowd_data.specs.declared.pair.Disc.{Disc}
use Rattle.crowd_data.specs.declared.pair.Region.TheVariants.{Arc, Left, Right, Overlap}
use Rattle.crowd_data.specs.Pairs.{higher_share, lack, lower_share, region_of, relative_plane}

abbrev vector : ℤ → ℤ → V2
vector x y = record { x = x; y = y }

abbrev plane : ℤ → ℤ → ℤ → Plane
plane x y c = record { n = vector x y; c = c }

-- a disc on the first axis
abbrev disc : ℕ → V2 → ℕ → Disc
disc x vel radius = record { pos = vector (pos x) (pos 0); vel = vel; radius = radius }

-- a number is the root of its square
root : (r : ℕ) → ceil_root (r * r) ≡ r
root r = ceil_root_is (r * r) r (omega arith) (λ j h. mul-lt j j r r h h)

-- head on, far off: the arc
abbrev eastward : Disc
eastward = disc 0 (vector (pos 200) (pos 0)) 500

abbrev far_off : Disc
far_off = disc 10000 (vector (neg_ℤ (pos 200)) (pos 0)) 500

arc_region : region_of eastward far_off 10 ≡ Arc
arc_region = refl

arc_relative : relative_plane eastward far_off 10 ≡ plane (neg_ℤ (pos 6000)) (pos 0) (neg_ℤ (pos 5400000))
arc_relative = rw (root 6000) refl

arc_lack : lack eastward far_off 10 ≡ neg_ℤ (pos 3000000)
arc_lack = rw (root 6000) refl

arc_lower : lower_share eastward far_off 10 1 1 ≡ plane (neg_ℤ (pos 6000)) (pos 0) (neg_ℤ (pos 2700000))
arc_lower = rw (root 6000) refl

arc_drawn : drawn_of (lower_share eastward far_off 10 1 1) ≡ plane (neg_ℤ (pos 6000)) (pos 0) (neg_ℤ (pos 2697000))
arc_drawn = rw (root 6000) refl

-- head on, nearer: the right leg, whose square is 8,000,000
abbrev near_by : Disc
near_by = disc 3000 (vector (neg_ℤ (pos 200)) (pos 0)) 500

leg : ceil_root 8000001 ≡ 2829
leg = ceil_root_is 8000001 2829 (omega arith) (λ j h. let k : j ≤ 2828 = omega arith in omega (arith, mul-le-mul k k))

right_region : region_of eastward near_by 10 ≡ Right
right_region = refl

right_relative : relative_plane eastward near_by 10 ≡ plane (neg_ℤ (pos 3000000)) (neg_ℤ (pos 8484000)) (pos 0)
right_relative = rw leg refl

right_lower : drawn_of (lower_share eastward near_by 10 1 1) ≡ plane (neg_ℤ (pos 3000000)) (neg_ℤ (pos 8484000)) (pos 5742000)
right_lower = rw leg refl

right_higher : drawn_of (higher_share eastward near_by 10 1 1) ≡ plane (pos 3000000) (pos 8484000) (pos 5742000)
right_higher = rw leg refl

-- not quite head on: the left leg
abbrev aside : Disc
aside = disc 3000 (vector (neg_ℤ (pos 200)) (neg_ℤ (pos 1))) 500

left_region : region_of eastward aside 10 ≡ Left
left_region = refl

left_lack : lack eastward aside 10 ≡ pos 1191516000
left_lack = rw leg refl

left_lower : drawn_of (lower_share eastward aside 10 1 1) ≡ plane (neg_ℤ (pos 3000000)) (pos 8484000) (pos 1500000)
left_lower = rw leg refl

left_higher : drawn_of (higher_share eastward aside 10 1 1) ≡ plane (pos 3000000) (neg_ℤ (pos 8484000)) (pos 9984000)
left_higher = rw leg refl

-- touching at rest: a leg of length 0
abbrev resting : ℕ → Disc
resting x = disc x (vector (pos 0) (pos 0)) 500

touching_region : region_of (resting 0) (resting 1000) 10 ≡ Right
touching_region = refl

touching_relative : relative_plane (resting 0) (resting 1000) 10 ≡ plane (neg_ℤ (pos 1000000)) (pos 0) (pos 0)
touching_relative = rw (root 1) refl

-- in one place at rest: no way out is nearer than another
one_place_relative : relative_plane (resting 0) (resting 0) 10 ≡ plane (pos 1) (pos 0) (pos 1000)
one_place_relative = rw (root 1) refl

one_place_lower : drawn_of (lower_share (resting 0) (resting 0) 10 1 1) ≡ plane (pos 1) (pos 0) (pos 501)
one_place_lower = rw (root 1) refl

one_place_higher : drawn_of (higher_share (resting 0) (resting 0) 10 1 1) ≡ plane (neg_ℤ (pos 1)) (pos 0) (pos 501)
one_place_higher = rw (root 1) refl

-- an overlap at the limits, with an odd lack
abbrev greatest : ℕ → ℤ → Disc
greatest x speed = disc x (vector speed (pos 0)) 32768

limits_region : region_of (greatest 0 (pos 16384)) (greatest 65535 (neg_ℤ (pos 16384))) 4096 ≡ Overlap
limits_region = refl

limits_lack : lack (greatest 0 (pos 16384)) (greatest 65535 (neg_ℤ (pos 16384))) 4096 ≡ pos 1073741823
limits_lack = rw (root 32767) refl

limits_lower : drawn_of (lower_share (greatest 0 (pos 16384)) (greatest 65535 (neg_ℤ (pos 16384))) 4096 1 1) ≡ plane (neg_ℤ (pos 32767)) (pos 0) (pos 32768)
limits_lower = rw (root 32767) refl

limits_higher : drawn_of (higher_share (greatest 0 (pos 16384)) (greatest 65535 (neg_ℤ (pos 16384))) 4096 1 1) ≡ plane (pos 32767) (pos 0) (pos 32767)
limits_higher = rw (root 32767) refl

-- in one place, with weights of 3 and 1: three parts of four fall to the heavier one
one_place_heavier : drawn_of (lower_share (resting 0) (resting 0) 10 3 1) ≡ plane (pos 1) (pos 0) (pos 751)
one_place_heavier = rw (root 1) refl

one_place_lighter : drawn_of (higher_share (resting 0) (resting 0) 10 3 1) ≡ plane (neg_ℤ (pos 1)) (pos 0) (pos 251)
one_place_lighter = rw (root 1) refl
