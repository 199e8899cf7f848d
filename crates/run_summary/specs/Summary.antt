-- The summary of a run: one line that counts the marks of its bodies, and adds up where they end.
use Rattle.std.specs.Prelude.{◌≡◌, ℕ, ◌+◌, ◌*◌, ◌≤◌, max, Bool, true, false, List, [], ◌∷◌, ◌++◌, length, count_by, flat_map, codes, decimal}
use Rattle.std.specs.Fmt.{signed_decimal}
use Rattle.fixed_vec.specs.declared.vector.V2.{V2}
use Rattle.fixed_vec.specs.Vector.{plus, zero_vector}
use Rattle.crowd_data.specs.declared.frame.Body.{Body}
use Rattle.crowd_data.specs.declared.frame.Mark.{Mark}
use Rattle.crowd_data.specs.declared.frame.Mark.TheVariants.{Start, Feasible, Fallback, Stopped, Crowded}
use Rattle.crowd_data.specs.declared.limits.TheConstants.{MOST_AGENTS, MOST_STEPS}
use Rattle.crowd_data.specs.Run.{IsRun, Snapshot, scripts_of}
use Rattle.crowd_data.specs.Scenario.{Parts}

-- two marks are the same
abbrev pub same_mark : Mark → Mark → Bool
same_mark Start Start = true
same_mark Feasible Feasible = true
same_mark Fallback Fallback = true
same_mark Stopped Stopped = true
same_mark Crowded Crowded = true
same_mark one other = false

-- how many of the bodies have a mark
abbrev pub count_of_mark : Mark → List Body → ℕ
count_of_mark mark bodies = count_by (λ (body : Body). same_mark body.mark mark) bodies

-- the greatest relief among the bodies, or 0 where there are none
abbrev pub greatest_relief : List Body → ℕ
greatest_relief [] = 0
greatest_relief (body ∷ rest) = max body.relief (greatest_relief rest)

-- the sum of the positions of the bodies
abbrev pub sum_of_positions : List Body → V2
sum_of_positions [] = zero_vector
sum_of_positions (body ∷ rest) = plus body.pos (sum_of_positions rest)

-- how many frames there are, how many of their bodies have each mark, and the greatest relief among these
pub record Tally : Type 0 where
  pub frames : ℕ
  pub feasible : ℕ
  pub fallback : ℕ
  pub stopped : ℕ
  pub crowded : ℕ
  pub relief : ℕ

-- no more frames than a run has, and no mark more often than these frames have bodies
pub record IsWithinLimits (tally : Tally) : Type 0 where
  pub frames : tally.frames ≤ MOST_STEPS
  pub feasible : tally.feasible ≤ MOST_AGENTS * tally.frames
  pub fallback : tally.fallback ≤ MOST_AGENTS * tally.frames
  pub stopped : tally.stopped ≤ MOST_AGENTS * tally.frames
  pub crowded : tally.crowded ≤ MOST_AGENTS * tally.frames

-- the bodies of all the frames
abbrev pub bodies_of : List Snapshot → List Body
bodies_of frames = flat_map (λ (frame : Snapshot). frame.bodies) frames

-- the tally of frames
abbrev pub tally_of : List Snapshot → Tally
tally_of frames = record {
  frames = length frames;
  feasible = count_of_mark Feasible (bodies_of frames);
  fallback = count_of_mark Fallback (bodies_of frames);
  stopped = count_of_mark Stopped (bodies_of frames);
  crowded = count_of_mark Crowded (bodies_of frames);
  relief = greatest_relief (bodies_of frames);
}

-- a tally with one more frame
abbrev pub with_frame : Tally → Snapshot → Tally
with_frame tally frame = record {
  frames = tally.frames + 1;
  feasible = tally.feasible + count_of_mark Feasible frame.bodies;
  fallback = tally.fallback + count_of_mark Fallback frame.bodies;
  stopped = tally.stopped + count_of_mark Stopped frame.bodies;
  crowded = tally.crowded + count_of_mark Crowded frame.bodies;
  relief = max tally.relief (greatest_relief frame.bodies);
}

-- soak,STEPS,AGENTS,FEASIBLE,FALLBACK,STOPPED,CROWDED,RELIEF,X,Y: the steps and the count of agents of a
-- scenario, a tally of its frames, and the sums of the coordinates of all positions in its last frame
unfoldable pub line_of : Parts → Tally → Snapshot → List ℕ
line_of scenario tally last =
    codes "soak," ++ decimal scenario.steps ++ codes "," ++ decimal (length scenario.agents)
    ++ codes "," ++ decimal tally.feasible ++ codes "," ++ decimal tally.fallback ++ codes "," ++ decimal tally.stopped
    ++ codes "," ++ decimal tally.crowded ++ codes "," ++ decimal tally.relief
    ++ codes "," ++ signed_decimal (sum_of_positions last.bodies).x
    ++ codes "," ++ signed_decimal (sum_of_positions last.bodies).y ++ codes "\n"

-- the summary line of a scenario, for its frames from frame 1 on and its last frame
abbrev pub summary_line : Parts → List Snapshot → Snapshot → List ℕ
summary_line scenario frames last = line_of scenario (tally_of frames) last

-- the last of the frames that begin with this one
abbrev pub last_of : Snapshot → List Snapshot → Snapshot
last_of first [] = first
last_of first (next ∷ rest) = last_of next rest

-- a text is the summary line of a scenario's run with its scripted posts
abbrev pub IsSummary : Parts → List ℕ → Type 0
IsSummary scenario text =
    (first : Snapshot) × (rest : List Snapshot) × IsRun scenario (scripts_of scenario) (first ∷ rest)
    × (text ≡ summary_line scenario rest (last_of first rest))
