-- The record of the ring, which version 2 has: ring,POINTS
use Rattle.std.specs.Prelude.{ℕ, ◌==◌, ◌||◌, Bool, if◌then◌else◌, length, Some, None, Result, Ok, Err}
use Rattle.std.specs.declared.option.Option.{Option}
use Rattle.crowd_data.specs.declared.limits.TheConstants.{FINE_RING, PLAIN_RING}
use Rattle.scenario_read.specs.declared.cause.Cause.{Cause}
use Rattle.scenario_read.specs.declared.cause.Cause.TheVariants.{FieldCount, OutOfRange, RingTwice}
use Rattle.scenario_read.specs.Read.{Read}
use Rattle.scenario_read.specs.Records.{Record}
use Rattle.scenario_read.specs.Values.{and_then, count_in}

-- 36 or 60 points
abbrev pub is_ring : ℕ → Bool
is_ring points = (points == PLAIN_RING) || (points == FINE_RING)

unfoldable pub ring_of : Record → Result ℕ Cause
ring_of fields =
    if length fields == 2
    then and_then (count_in fields 1 PLAIN_RING FINE_RING) (λ points. if is_ring points then Ok points else Err (OutOfRange 1))
    else Err FieldCount

-- the ring, where there was none before
abbrev pub with_ring : Read → Option ℕ → ℕ → Result Read Cause
with_ring p None points = Ok (record p { ring = Some points })
with_ring p (Some before) points = Err RingTwice
