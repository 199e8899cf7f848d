use Rattle.std.proofs.Common.{ap, ◌+◌, arith, length}
use Rattle.live_session.proofs.Listed.{length-scripted_from}
use Rattle.live_session.proofs.gathering.gather.Goals as goal

pub take-requires-clause-room : goal.take-requires-clause-room
take-requires-clause-room g c =
    let scenario = c.args.stepper.now.scenario in
    let few = length-scripted_from 0 scenario.posts (c.args.stepper.now.frame.number + 1) in
    let are = ap (λ l. length l) c.list_script-later.ensures.posts in
    omega (arith, few, are, c.list_script-later.ensures.room, c.requires.room)
