-- Why arrays stand for no scenario.
use Rattle.std.specs.Prelude.{◌≤◌, ◌≡◌, ◌⊎◌, ℕ, ◌<◌, List, [], ◌∷◌, length, map, take, unsigned_abs, slice_get, slice_index_or, Some}
use Rattle.std.specs.List.{All}
use Rattle.crowd_data.specs.declared.limits.TheConstants.{GREATEST_COORDINATE, GREATEST_HORIZON, GREATEST_RADIUS, GREATEST_RANGE, GREATEST_SPEED, GREATEST_WEIGHT, MOST_AGENTS, MOST_NEIGHBOURS, MOST_SEGMENTS}
use Rattle.crowd_data.specs.Limits.{IsAgent, IsRing, IsSegment}
use Rattle.crowd_data.specs.Standing.{OnSegment}
use Rattle.array_step.specs.declared.agent.CrowdAgent.{CrowdAgent}
use Rattle.array_step.specs.declared.segment.CrowdSegment.{CrowdSegment}
use Rattle.array_step.specs.declared.fault.ArrayFault.{ArrayFault}
use Rattle.array_step.specs.declared.fault.ArrayFault.TheVariants.{NoSuchRing, TooManyAgents, AgentOutOfRange, TooManySegments, SegmentOutOfRange, AgentOnSegment}
use Rattle.array_step.specs.declared.fault.StepFault.{StepFault}
use Rattle.array_step.specs.declared.fault.StepFault.TheVariants.{NoMemory, Arrays}
use Rattle.array_step.specs.Arrays.{agent_of, ring_of, segment_of}

-- ---- fields

-- the sizes of an agent's fields that have limits, in order
abbrev pub sizes_of : CrowdAgent → List ℕ
sizes_of a =
    unsigned_abs a.x ∷ unsigned_abs a.y ∷ unsigned_abs a.vel_x ∷ unsigned_abs a.vel_y ∷ unsigned_abs a.pref_x ∷ unsigned_abs a.pref_y
    ∷ a.radius ∷ a.speed ∷ a.range ∷ a.most ∷ a.horizon ∷ a.wall_horizon ∷ a.weight ∷ []

-- the least and the most that each may be
abbrev pub leasts : List ℕ
leasts = 0 ∷ 0 ∷ 0 ∷ 0 ∷ 0 ∷ 0 ∷ 1 ∷ 0 ∷ 0 ∷ 0 ∷ 1 ∷ 1 ∷ 0 ∷ []

abbrev pub mosts : List ℕ
mosts =
    GREATEST_COORDINATE ∷ GREATEST_COORDINATE ∷ GREATEST_SPEED ∷ GREATEST_SPEED ∷ GREATEST_SPEED ∷ GREATEST_SPEED
    ∷ GREATEST_RADIUS ∷ GREATEST_SPEED ∷ GREATEST_RANGE ∷ MOST_NEIGHBOURS ∷ GREATEST_HORIZON ∷ GREATEST_HORIZON ∷ GREATEST_WEIGHT ∷ []

abbrev pub at : List ℕ → ℕ → ℕ
at list field = slice_index_or list field 0

-- a field of an agent is neither too small nor too great
abbrev pub IsInside : CrowdAgent → ℕ → Type 0
IsInside a field = (at leasts field ≤ at (sizes_of a) field) × (at (sizes_of a) field ≤ at mosts field)

-- a field of an agent is the least that is too small or too great
pub record IsFieldOutside (a : CrowdAgent) (field : ℕ) : Type 0 where
  pub there : field < 13
  pub outside : (at (sizes_of a) field < at leasts field) ⊎ (at mosts field < at (sizes_of a) field)
  pub least : (k : ℕ) → k < field → IsInside a k

-- the sizes of a segment's coordinates, in order
abbrev pub reaches_of : CrowdSegment → List ℕ
reaches_of s = unsigned_abs s.ax ∷ unsigned_abs s.ay ∷ unsigned_abs s.bx ∷ unsigned_abs s.by ∷ []

-- a coordinate of a segment is the least that is too great
pub record IsCoordinateOutside (s : CrowdSegment) (field : ℕ) : Type 0 where
  pub there : field < 4
  pub outside : GREATEST_COORDINATE < at (reaches_of s) field
  pub least : (k : ℕ) → k < field → at (reaches_of s) k ≤ GREATEST_COORDINATE

-- ---- arrays

-- an agent is the least with a field outside of its limits, and this is its least such field
pub record IsAgentOutside (agents : List CrowdAgent) (who field : ℕ) : Type 0 where
  pub agent : CrowdAgent
  pub agent_is : slice_get agents who ≡ Some agent
  pub outside : IsFieldOutside agent field
  pub least : All IsAgent (map agent_of (take who agents))

-- a segment is the least with a field outside of its limits, and this is its least such field
pub record IsSegmentOutside (segments : List CrowdSegment) (which field : ℕ) : Type 0 where
  pub segment : CrowdSegment
  pub segment_is : slice_get segments which ≡ Some segment
  pub outside : IsCoordinateOutside segment field
  pub least : All IsSegment (map segment_of (take which segments))

abbrev pub AreAgents : List CrowdAgent → Type 0
AreAgents agents = (length agents ≤ MOST_AGENTS) × All IsAgent (map agent_of agents)

abbrev pub AreSegments : List CrowdSegment → Type 0
AreSegments segments = (length segments ≤ MOST_SEGMENTS) × All IsSegment (map segment_of segments)

-- what a fault says of arrays and a ring: its cause holds, and none of those before it
abbrev pub IsFault : List CrowdAgent → List CrowdSegment → ℕ → ArrayFault → Type 0
IsFault agents segments ring NoSuchRing = ¬ IsRing (ring_of ring)
IsFault agents segments ring TooManyAgents = IsRing (ring_of ring) × (MOST_AGENTS < length agents)
IsFault agents segments ring (AgentOutOfRange who field) = IsRing (ring_of ring) × (length agents ≤ MOST_AGENTS) × IsAgentOutside agents who field
IsFault agents segments ring TooManySegments = IsRing (ring_of ring) × AreAgents agents × (MOST_SEGMENTS < length segments)
IsFault agents segments ring (SegmentOutOfRange which field) =
    IsRing (ring_of ring) × AreAgents agents × (length segments ≤ MOST_SEGMENTS) × IsSegmentOutside segments which field
IsFault agents segments ring (AgentOnSegment who which) =
    IsRing (ring_of ring) × AreAgents agents × AreSegments segments × OnSegment (map agent_of agents) (map segment_of segments) who which

abbrev pub Tells : List CrowdAgent → List CrowdSegment → ℕ → StepFault → Type 0
Tells agents segments ring NoMemory = Unit {0}
Tells agents segments ring (Arrays fault) = IsFault agents segments ring fault
