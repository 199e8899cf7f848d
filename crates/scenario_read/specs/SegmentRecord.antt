-- The record of a wall segment: segment,AX,AY,BX,BY
use Rattle.std.specs.Prelude.{◌==◌, if◌then◌else◌, nat_lt, [], ◌∷◌, ◌++◌, length, Result, Ok, Err}
use Rattle.crowd_data.specs.declared.segment.Segment.{Segment}
use Rattle.crowd_data.specs.declared.limits.TheConstants.{GREATEST_COORDINATE, MOST_SEGMENTS}
use Rattle.scenario_read.specs.declared.cause.Cause.{Cause}
use Rattle.scenario_read.specs.declared.cause.Cause.TheVariants.{FieldCount, TooMany}
use Rattle.scenario_read.specs.Read.{Read}
use Rattle.scenario_read.specs.Records.{Record}
use Rattle.scenario_read.specs.Values.{and_then, vector_in}

unfoldable pub segment_of : Record → Result Segment Cause
segment_of fields =
    if length fields == 5
    then and_then (vector_in fields 1 2 GREATEST_COORDINATE) (λ a. and_then (vector_in fields 3 4 GREATEST_COORDINATE) (λ b. Ok (record { a = a; b = b })))
    else Err FieldCount

-- one segment more
abbrev pub with_segment : Read → Segment → Result Read Cause
with_segment p segment = if nat_lt (length p.segments) MOST_SEGMENTS then Ok (record p { segments = p.segments ++ segment ∷ [] }) else Err TooMany
