-- How a scenario is read: a fold over the list of records, with the first cause that holds.
use Rattle.std.specs.Prelude.{◌≡◌, ◌⊎◌, ℕ, ◌+◌, ◌==◌, ◌&&◌, if◌then◌else◌, List, [], ◌∷◌, length, Some, None, Result, Ok, Err, codes, unwrap_or}
use Rattle.std.specs.declared.option.Option.{Option}
use Rattle.std.specs.Str.{bytes_eq}
use Rattle.crowd_data.specs.declared.limits.TheConstants.{FIRST_VERSION, LATEST_VERSION, PLAIN_RING}
use Rattle.crowd_data.specs.Scenario.{Parts}
use Rattle.crowd_data.specs.Standing.{AllClear, OnSegment}
use Rattle.scenario_read.specs.declared.cause.Cause.{Cause}
use Rattle.scenario_read.specs.declared.cause.Cause.TheVariants.{NoHeader, UnknownKind, NoSteps, AgentOnSegment}
use Rattle.scenario_read.specs.declared.cause.ScenarioFault.{ScenarioFault}
use Rattle.scenario_read.specs.declared.cause.ScenarioFault.TheVariants.{NoMemory, At}
use Rattle.scenario_read.specs.AgentRecord.{agent_of, with_agent}
use Rattle.scenario_read.specs.Fields.{field_text, is_kind}
use Rattle.scenario_read.specs.GoalRecord.{goal_of, with_goal}
use Rattle.scenario_read.specs.PostRecord.{post_of, with_post}
use Rattle.scenario_read.specs.Read.{Read, nothing_read}
use Rattle.scenario_read.specs.Records.{Record}
use Rattle.scenario_read.specs.RingRecord.{ring_of, with_ring}
use Rattle.scenario_read.specs.SegmentRecord.{segment_of, with_segment}
use Rattle.scenario_read.specs.StepsRecord.{steps_of, with_steps}
use Rattle.scenario_read.specs.Values.{and_then}

-- ---- the records one at a time

-- the version of a header: crowd,1 or crowd,2
abbrev pub header_version : Record → Option ℕ
header_version fields =
    if (length fields == 2) && is_kind fields (codes "crowd")
    then (if bytes_eq (field_text fields 1) (codes "1") then Some FIRST_VERSION
    else if bytes_eq (field_text fields 1) (codes "2") then Some LATEST_VERSION
    else None)
    else None

-- the header, if it is one
abbrev pub with_header : Read → Option ℕ → Result Read Cause
with_header p None = Err NoHeader
with_header p (Some version) = Ok (record p { version = Some version })

-- one more record behind the header; version 1 knows of no ring
unfoldable pub with_kind : Read → ℕ → Record → Result Read Cause
with_kind p version fields =
    if is_kind fields (codes "agent") then and_then (agent_of version fields) (with_agent p)
    else if is_kind fields (codes "segment") then and_then (segment_of fields) (with_segment p)
    else if is_kind fields (codes "steps") then and_then (steps_of fields) (with_steps p p.steps)
    else if is_kind fields (codes "post") then and_then (post_of fields) (with_post p)
    else if is_kind fields (codes "goal") then and_then (goal_of fields) (with_goal p)
    else if (version == LATEST_VERSION) && is_kind fields (codes "ring") then and_then (ring_of fields) (with_ring p p.ring)
    else Err UnknownKind

-- one more record, where the header was of this version, if there was one
abbrev pub with_record_in : Read → Option ℕ → Record → Result Read Cause
with_record_in p None fields = with_header p (header_version fields)
with_record_in p (Some version) fields = with_kind p version fields

unfoldable pub with_record : Read → Record → Result Read Cause
with_record p fields = with_record_in p p.version fields

-- the scenario with these steps, if there are any; the ring is the plain one where no record says else
abbrev pub with_all : Read → ℕ → Option ℕ → Result Parts Cause
with_all p version None = Err NoSteps
with_all p version (Some n) =
    Ok
    (record {
      version = version;
      ring = unwrap_or p.ring PLAIN_RING;
      steps = n;
      agents = p.agents;
      segments = p.segments;
      posts = p.posts;
      goals = p.goals;
    })

-- the end of the records, where the header was of this version
abbrev pub ended_in : Read → Option ℕ → Result Parts Cause
ended_in p None = Err NoHeader
ended_in p (Some version) = with_all p version p.steps

unfoldable pub ended : Read → Result Parts Cause
ended p = ended_in p p.version

-- a cause with the number of its record
abbrev pub numbered : {A : Type 0} → ℕ → Result A Cause → Result A (ℕ × Cause)
numbered k (Ok a) = Ok a
numbered k (Err cause) = Err (k, cause)

abbrev pub go_on : {A B : Type 0} → Result A (ℕ × Cause) → (A → Result B (ℕ × Cause)) → Result B (ℕ × Cause)
go_on (Ok a) more = more a
go_on (Err first) more = Err first

-- the records from number k on; causes at their end have the count of records as number
unfoldable pub outcome_from : Read → ℕ → List Record → Result Parts (ℕ × Cause)
outcome_from p k [] = numbered k (ended p)
outcome_from p k (fields ∷ rest) = go_on (numbered k (with_record p fields)) (λ q. outcome_from q (k + 1) rest)

-- ---- what is answered

-- the scenario of the records, or the first cause, but for agents on segments
abbrev pub outcome : List Record → Result Parts (ℕ × Cause)
outcome rows = outcome_from nothing_read 0 rows

-- records are accepted as a scenario: no cause holds
pub record IsAccepted (rows : List Record) (scenario : Parts) : Type 0 where
  pub read : outcome rows ≡ Ok scenario
  pub clear : AllClear scenario.agents scenario.segments

-- the cause that comes last: an agent on a segment, with the count of records as number
pub record IsOnSegment (rows : List Record) (index : ℕ) (cause : Cause) : Type 0 where
  pub scenario : Parts
  pub who : ℕ
  pub which : ℕ
  pub read : outcome rows ≡ Ok scenario
  pub on : OnSegment scenario.agents scenario.segments who which
  pub index_is : index ≡ length rows
  pub cause_is : cause ≡ AgentOnSegment who which

-- records are refused with the first cause that holds, and its number
abbrev pub IsRefusedFor : List Record → ℕ → Cause → Type 0
IsRefusedFor rows index cause = (outcome rows ≡ Err (index, cause)) ⊎ IsOnSegment rows index cause

-- what a fault says of the records
abbrev pub HasFault : List Record → ScenarioFault → Type 0
HasFault rows NoMemory = Unit {0}
HasFault rows (At index cause) = IsRefusedFor rows index cause
