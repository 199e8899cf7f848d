-- The lines of a scenario and of a transcript. Fields are joined by commas, and a line feed ends a line.
use Rattle.std.specs.Prelude.{ℕ, ◌==◌, if◌then◌else◌, List, [], ◌∷◌, ◌++◌, codes, decimal}
use Rattle.std.specs.Fmt.{signed_decimal}
use Rattle.fixed_vec.specs.declared.vector.V2.{V2}
use Rattle.crowd_data.specs.declared.agent.Agent.{Agent}
use Rattle.crowd_data.specs.declared.limits.TheConstants.{FINE_RING, FIRST_VERSION}
use Rattle.crowd_data.specs.declared.segment.Segment.{Segment}
use Rattle.crowd_data.specs.declared.post.ScriptPost.{ScriptPost}
use Rattle.crowd_data.specs.declared.post.Goal.{Goal}
use Rattle.crowd_data.specs.declared.post.Post.{Post}
use Rattle.crowd_data.specs.declared.frame.Body.{Body}
use Rattle.crowd_data.specs.declared.frame.Mark.{Mark}
use Rattle.crowd_data.specs.declared.frame.Mark.TheVariants.{Start, Feasible, Fallback, Stopped, Crowded}

-- X,Y
unfoldable pub vector_text : V2 → List ℕ
vector_text v = signed_decimal v.x ++ codes "," ++ signed_decimal v.y

-- crowd,VERSION
unfoldable pub header_line : ℕ → List ℕ
header_line version = codes "crowd," ++ decimal version ++ codes "\n"

-- steps,N
unfoldable pub steps_line : ℕ → List ℕ
steps_line steps = codes "steps," ++ decimal steps ++ codes "\n"

-- ring,POINTS
unfoldable pub ring_line : ℕ → List ℕ
ring_line points = codes "ring," ++ decimal points ++ codes "\n"

-- the line of the ring, where it is the fine one
abbrev pub ring_lines : ℕ → List (List ℕ)
ring_lines points = if points == FINE_RING then ring_line points ∷ [] else []

-- the field of the weight, which version 1 doesn't have
abbrev pub weight_text : ℕ → ℕ → List ℕ
weight_text version weight = if version == FIRST_VERSION then [] else codes "," ++ decimal weight

-- agent,X,Y,VX,VY,PX,PY,RADIUS,SPEED,RANGE,MOST,HORIZON,WALL HORIZON
-- and, behind these in version 2, WEIGHT
unfoldable pub agent_line : ℕ → Agent → List ℕ
agent_line version a =
    codes "agent," ++ vector_text a.pos ++ codes "," ++ vector_text a.vel ++ codes "," ++ vector_text a.pref
    ++ codes "," ++ decimal a.radius ++ codes "," ++ decimal a.speed ++ codes "," ++ decimal a.range
    ++ codes "," ++ decimal a.most ++ codes "," ++ decimal a.horizon ++ codes "," ++ decimal a.wall_horizon ++ weight_text version a.weight ++ codes "\n"

-- segment,AX,AY,BX,BY
unfoldable pub segment_line : Segment → List ℕ
segment_line s = codes "segment," ++ vector_text s.a ++ codes "," ++ vector_text s.b ++ codes "\n"

-- post,FRAME,AGENT,VX,VY
unfoldable pub post_line : ScriptPost → List ℕ
post_line p = codes "post," ++ decimal p.frame ++ codes "," ++ decimal p.agent ++ codes "," ++ vector_text p.vel ++ codes "\n"

-- goal,CONTROLLER,AGENT,X,Y,PACE
unfoldable pub goal_line : Goal → List ℕ
goal_line g =
    codes "goal," ++ decimal g.controller ++ codes "," ++ decimal g.agent ++ codes "," ++ vector_text g.at ++ codes "," ++ decimal g.pace ++ codes "\n"

-- frame,K
unfoldable pub frame_line : ℕ → List ℕ
frame_line number = codes "frame," ++ decimal number ++ codes "\n"

-- take,CONTROLLER,SEQ,AGENT,VX,VY
unfoldable pub take_line : Post → List ℕ
take_line p =
    codes "take," ++ decimal p.controller ++ codes "," ++ decimal p.seq ++ codes "," ++ decimal p.agent ++ codes "," ++ vector_text p.vel ++ codes "\n"

-- how a mark is spelt
abbrev pub mark_word : Mark → List ℕ
mark_word Start = codes "start"
mark_word Feasible = codes "feasible"
mark_word Fallback = codes "fallback"
mark_word Stopped = codes "stopped"
mark_word Crowded = codes "crowded"

-- body,AGENT,X,Y,VX,VY,PX,PY,MARK,RELIEF
unfoldable pub body_line : Body → List ℕ
body_line b =
    codes "body," ++ decimal b.agent ++ codes "," ++ vector_text b.pos ++ codes "," ++ vector_text b.vel ++ codes "," ++ vector_text b.pref
    ++ codes "," ++ mark_word b.mark ++ codes "," ++ decimal b.relief ++ codes "\n"

-- end,N
unfoldable pub end_line : ℕ → List ℕ
end_line number = codes "end," ++ decimal number ++ codes "\n"
