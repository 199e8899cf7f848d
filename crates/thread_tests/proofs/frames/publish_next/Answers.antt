use Rattle.std.proofs.Common.{◌∙◌, ap}
use Rattle.crowd_data.specs.Run.{start_of}
use Rattle.published_frames.specs.History.{last_of, step_of}
use Rattle.published_frames.specs.Names.{writer_history, writer_source}
use Rattle.published_frames.proofs.Histories.{last_of-append}
use Rattle.thread_tests.proofs.frames.publish_next.Goals as goal

pub returns-clause-frame : goal.returns-clause-frame
returns-clause-frame g c =
    let first = start_of (writer_source c.publish_again.new.writer).1 in
    ap (last_of first) c.in-Ok.ensures.history ∙ (last_of-append first (writer_history c.args.writer.now) (step_of c.in_ok-moves.moves)
    ∙ (λ i. record { number = c.in_ok-moves.ensures.0 i; bodies = c.in_ok-moves.ensures.1 i }))
