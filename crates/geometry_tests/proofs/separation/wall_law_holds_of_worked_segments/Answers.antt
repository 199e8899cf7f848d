use Rattle.std.proofs.Common.{inl, refl, arith}
use Rattle.std.proofs.lemmas.Int.{ints}
use Rattle.std.proofs.lemmas.Nat.{mul-lt}
use Rattle.exact_algebra.proofs.Rounding.{ceil_root_is}
use Rattle.geometry_tests.proofs.separation.wall_law_holds_of_worked_segments.Goals as goal

-- the normal is as long as the wall: 4000
pub off_segment-requires-clause-respects : goal.off_segment-requires-clause-respects
off_segment-requires-clause-respects g c =
    inl (refl, rw (ceil_root_is 16000000 4000 (omega arith) (λ j h. mul-lt j j 4000 4000 h h)) (omega (arith, ints)))
