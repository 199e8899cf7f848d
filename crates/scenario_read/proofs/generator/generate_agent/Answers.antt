use Rattle.scenario_read.proofs.GeneratedSteps.{agent_is}
use Rattle.scenario_read.proofs.generator.generate_agent.Goals as goal

pub returns-clause-agent : goal.returns-clause-agent
returns-clause-agent c =
    let radius = c.draw-radius.ensures in
    let speed = c.draw-speed.ensures in
    agent_is c.args.side c.args.number c.args.draws.now.state c.generate_place-pos.result c.draw-radius.result c.draw-speed.result c.generate_place-pos.new.draws.state
    c.draw-radius.new.self.state c.draw-speed.new.self.state c.velocity-pref.result c.generate_place-pos.ensures.place c.generate_place-pos.ensures.state radius.state radius.value
    speed.state speed.value c.velocity-pref.ensures.value
