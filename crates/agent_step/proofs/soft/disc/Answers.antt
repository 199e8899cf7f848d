use Rattle.std.proofs.Common.{sym, ap}
use Rattle.crowd_data.specs.Advice.{disc_of}
use Rattle.crowd_data.proofs.Crowds.{agent_at-crowd_of}
use Rattle.agent_step.proofs.soft.disc.Goals as goal

pub returns : goal.returns
returns c = sym (ap disc_of (agent_at-crowd_of c.args.agents.now c.args.bodies.now c.args.who c.requires.who c.requires.bodies))
