-- What a call on one record did to what was read.
use Rattle.std.specs.Prelude.{◌≡◌, Result, Ok, Err}
use Rattle.scenario_read.specs.Read.{Read}
use Rattle.scenario_read.specs.declared.cause.Cause.{Cause}
use Rattle.scenario_read.specs.declared.reading.Reading.{Reading}
use Rattle.scenario_read.specs.declared.record_fault.RecordFault.{RecordFault}
use Rattle.scenario_read.specs.declared.record_fault.RecordFault.TheVariants.{NoMemory, Refused}

-- what the code holds, without its spare room and its table of agents that have a goal
abbrev pub read_of : Reading → Read
read_of p = record { version = p.version; ring = p.ring; steps = p.steps; agents = p.agents.items; segments = p.segments.items; posts = p.posts.items; goals = p.goals.items }

-- the call did what is defined: it added a record, or refused it for its cause
abbrev pub Adds : Read → Read → Result (Unit {0}) RecordFault → Result Read Cause → Type 0
Adds old new (Ok u) defined = defined ≡ Ok new
Adds old new (Err (Refused cause)) defined = defined ≡ Err cause
Adds old new (Err NoMemory) defined = Unit {0}
