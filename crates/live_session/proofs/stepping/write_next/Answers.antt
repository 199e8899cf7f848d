use Rattle.std.proofs.Common.{◌+◌}
use Rattle.live_session.proofs.Listed.{listed_sound}
use Rattle.live_session.proofs.stepping.write_next.Goals as goal

pub write_next-requires-clause-posts : goal.write_next-requires-clause-posts
write_next-requires-clause-posts g c κs within = listed_sound c.args.stepper.now.scenario (c.args.stepper.now.frame.number + 1) c.args.posts.now c.scenario-scenario.ensures.valid c.requires.posts
