use Rattle.std.proofs.Common.{◌∙◌, ap, sym, arith}
use Rattle.std.proofs.lemmas.Grind.{common_steps}
use Rattle.crowd_data.specs.Run.{snapshot_of}
use Rattle.run_summary.specs.Summary.{Tally, with_frame}
use Rattle.run_summary.proofs.SummaryLemmas.{tally_of-push}
use Rattle.run_summary.proofs.summary.Summary.add.Goals as goal

pub returns-clause-counted : goal.returns-clause-counted
returns-clause-counted c = grind (arith, common_steps)

pub returns-clause-tally : goal.returns-clause-tally
returns-clause-tally c = λ frames e.
    returns-clause-counted c ∙ ap (λ (t : Tally). with_frame t (snapshot_of c.args.frame.now)) e ∙ sym (tally_of-push frames (snapshot_of c.args.frame.now))
