use Rattle.std.proofs.Common.{List, ◌≡◌, [], ◌∙◌, sym, ap, arith, length}
use Rattle.std.specs.Option.{option_copied}
use Rattle.scenario_read.specs.Additions.{read_of}
use Rattle.scenario_read.specs.Part.{part_of}
use Rattle.scenario_read.specs.Records.{Record}
use Rattle.scenario_read.specs.Remaining.{outcome_with}
use Rattle.scenario_read.proofs.ScenarioRecords.{part_accepted, part_counted, part_ends, part_goes_on, part_none, part_refused}
use Rattle.scenario_read.proofs.read.read_until.Goals as goal
use Rattle.scenario_read.proofs.read.read_until.Goals.{then-branch+else-not-ends_part, else-branch, After-end}

pub loop-reading-preserved : goal.loop-reading-preserved
loop-reading-preserved c =
    let (bound, same, count) = c.loop-reading.invariant in
    let read = rw c.if-branch.true at c.in_ok-read.ensures.next in
    let more = ap (part_of (option_copied c.args.stop)) read ∙ part_goes_on (option_copied c.args.stop) _ _ (sym c.ends_part.ensures ∙ c.if-not-ends_part.true) in
    let size = ap (λ (rows : List Record). length rows) more in
    let taken = ap (λ (rows : List Record). length rows) read in (
      omega arith,
      sym (c.in_ok-add_next.ensures _) ∙ ap (outcome_with (read_of c.loop-reading.reading) c.loop-reading.refusal c.loop-reading.index) (sym more) ∙ same,
      omega (arith, size, count),
    )

module _ (c : After-end) where
  -- the part has no more records
  over : part_of (option_copied c.args.stop) c.loop-reading.reader ≡ []
  over = elim c.if-branch.branch [
    | then-branch+else-not-ends_part w ↦ ap (part_of (option_copied c.args.stop)) (rw w.if-branch.true at c.in_ok-read.ensures.next) ∙ part_ends (option_copied c.args.stop) _ _ (sym w.ends_part.ensures ∙ w.if-not-ends_part.false)
    | else-branch w ↦ ap (part_of (option_copied c.args.stop)) (rw w.if-branch.false at c.in_ok-read.ensures.next).0 ∙ part_none (option_copied c.args.stop)
  ]

pub returns-clause-accepted : goal.returns-clause-accepted
returns-clause-accepted c =
    let (bound, same, count) = c.loop-reading.invariant in
    part_accepted _ _ c.loop-reading.index (over (goal.at.returns-clause-accepted c).After-end) (read_of c.loop-reading.reading) c.loop-reading.refusal same count c.end.result c.end.ensures.accepted

pub returns-clause-records : goal.returns-clause-records
returns-clause-records c =
    let (bound, same, count) = c.loop-reading.invariant in
    part_counted _ _ c.loop-reading.index (over (goal.at.returns-clause-records c).After-end) (read_of c.loop-reading.reading) c.loop-reading.refusal same count c.end.result c.end.ensures.records

pub returns-clause-refused : goal.returns-clause-refused
returns-clause-refused c =
    let (bound, same, count) = c.loop-reading.invariant in
    part_refused _ _ c.loop-reading.index (over (goal.at.returns-clause-refused c).After-end) (read_of c.loop-reading.reading) c.loop-reading.refusal same count c.end.result c.end.ensures.refused
