-- A version and a ring that are known are those of a scenario.
use Rattle.std.proofs.Common.{◌≡◌, ◌⊎◌, inl, inr, ⊎_elim, ℕ, Bool, true, false, refl, arith, Some, None}
use Rattle.std.specs.Prelude.{◌==◌, ◌||◌, unwrap_or}
use Rattle.std.specs.declared.option.Option.{Option}
use Rattle.std.specs.Option.{ForSome}
use Rattle.std.proofs.lemmas.Bool.{cases_lt}
use Rattle.std.proofs.lemmas.Bool.Decides.{nat_tests}
use Rattle.crowd_data.specs.Limits.{IsRing, IsVersion}
use Rattle.crowd_data.specs.declared.limits.TheConstants.{FINE_RING, PLAIN_RING}
use Rattle.scenario_read.specs.Read.{IsKnown}
use Rattle.scenario_read.specs.RingRecord.{is_ring}

pub version_known : (version : ℕ) → IsKnown version → IsVersion version
version_known version known = ⊎_elim (λ less. inl (omega (arith, known.0, less))) (λ more. inr (omega (arith, known.1, more))) (cases_lt version 2)

either_of : (a b : Bool) → (a || b) ≡ true → (a ≡ true) ⊎ (b ≡ true)
either_of true b e = inl refl
either_of false b e = inr e

pub equal_is : (a b : ℕ) → (a == b) ≡ true → a ≡ b
equal_is a b e = grind (arith, nat_tests)

ring_known : (points : ℕ) → is_ring points ≡ true → IsRing points
ring_known points e = ⊎_elim (λ h. inl (equal_is points PLAIN_RING h)) (λ h. inr (equal_is points FINE_RING h)) (either_of (points == PLAIN_RING) (points == FINE_RING) e)

-- the plain one, where no ring was read
pub ring_or_plain : (ring : Option ℕ) → ForSome ring (λ points. is_ring points ≡ true) → IsRing (unwrap_or ring PLAIN_RING)
ring_or_plain None h = inl refl
ring_or_plain (Some points) h = ring_known points (h points refl)
