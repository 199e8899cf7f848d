-- The record of a scripted post: post,FRAME,AGENT,VX,VY
use Rattle.std.specs.Prelude.{ℕ, ◌-◌, ◌==◌, Bool, true, if◌then◌else◌, nat_le, nat_lt, List, [], ◌∷◌, ◌++◌, length, slice_get, Some, None, Result, Ok, Err}
use Rattle.std.specs.declared.option.Option.{Option}
use Rattle.crowd_data.specs.declared.post.ScriptPost.{ScriptPost}
use Rattle.crowd_data.specs.declared.limits.TheConstants.{GREATEST_AGENT, GREATEST_SPEED, MOST_POSTS, MOST_STEPS}
use Rattle.scenario_read.specs.declared.cause.Cause.{Cause}
use Rattle.scenario_read.specs.declared.cause.Cause.TheVariants.{FieldCount, NoSteps, NoSuchAgent, OutOfRange, PostOrder, TooMany}
use Rattle.scenario_read.specs.Read.{Read}
use Rattle.scenario_read.specs.Records.{Record}
use Rattle.scenario_read.specs.Values.{and_then, count_in, vector_in}

unfoldable pub post_of : Record → Result ScriptPost Cause
post_of fields =
    if length fields == 5
    then and_then (count_in fields 1 1 MOST_STEPS) (λ frame.
    and_then (count_in fields 2 0 GREATEST_AGENT) (λ agent.
    and_then (vector_in fields 3 4 GREATEST_SPEED) (λ vel. Ok (record { frame = frame; agent = agent; vel = vel }))))
    else Err FieldCount

-- a frame isn't below that of the post before it, if there is one
abbrev pub keeps_order : Option ScriptPost → ℕ → Bool
keeps_order None frame = true
keeps_order (Some before) frame = nat_le before.frame frame

abbrev pub last_post : List ScriptPost → Option ScriptPost
last_post posts = slice_get posts (length posts - 1)

-- one post more, with the steps that were read
abbrev pub with_post_in : Read → Option ℕ → ScriptPost → Result Read Cause
with_post_in p None post = Err NoSteps
with_post_in p (Some steps) post =
    if nat_lt steps post.frame then Err (OutOfRange 1)
    else if nat_le (length p.agents) post.agent then Err NoSuchAgent
    else if keeps_order (last_post p.posts) post.frame then Ok (record p { posts = p.posts ++ post ∷ [] })
    else Err PostOrder

-- one post more
abbrev pub with_post : Read → ScriptPost → Result Read Cause
with_post p post = if nat_lt (length p.posts) MOST_POSTS then with_post_in p p.steps post else Err TooMany
