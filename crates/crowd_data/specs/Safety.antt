-- What keeping apart and keeping off means, for every fraction k/m of a step.
use Rattle.std.specs.Prelude.{ℤ, pos, ◌*ℤ◌, ◌≤ℤ◌, ◌<ℤ◌, ℕ}
use Rattle.fixed_vec.specs.declared.vector.V2.{V2}
use Rattle.fixed_vec.specs.Vector.{minus, plus, square, times}
use Rattle.crowd_data.specs.declared.segment.Segment.{Segment}

-- two discs are apart, R being the sum of their radii; touching is apart
abbrev pub IsApart : V2 → V2 → ℤ → Type 0
IsApart a b R = (R *ℤ R) ≤ℤ square (minus b a)

-- they are apart all the way, moving with these velocities
abbrev pub ApartThroughout : V2 → V2 → V2 → V2 → ℤ → Type 0
ApartThroughout a a_vel b b_vel R = (k m : ℤ) → pos 0 ≤ℤ k → k ≤ℤ m → pos 0 <ℤ m
    → (m *ℤ m *ℤ (R *ℤ R)) ≤ℤ square (plus (times m (minus b a)) (times k (minus b_vel a_vel)))

-- a disc is clear of each point a + (j/i) (b - a) of a segment all the way, moving with this velocity
abbrev pub OffThroughout : V2 → V2 → ℕ → Segment → Type 0
OffThroughout at vel radius segment = (k m j i : ℤ) → pos 0 ≤ℤ k → k ≤ℤ m → pos 0 <ℤ m → pos 0 ≤ℤ j → j ≤ℤ i → pos 0 <ℤ i
    → ((m *ℤ i *ℤ pos radius) *ℤ (m *ℤ i *ℤ pos radius))
    ≤ℤ square (minus (plus (times (m *ℤ i) (minus at segment.a)) (times (k *ℤ i) vel)) (times (m *ℤ j) (minus segment.b segment.a)))
