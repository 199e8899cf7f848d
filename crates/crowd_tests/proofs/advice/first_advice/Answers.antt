use Rattle.std.proofs.Common.{◌≡◌, ◌∙◌, List, ap, sym, subst, map}
use Rattle.crowd_data.specs.declared.frame.Body.{Body}
use Rattle.crowd_data.specs.Advice.{place_of}
use Rattle.crowd_data.specs.Present.{IsPresent}
use Rattle.crowd_data.specs.Run.{Snapshot, crowd_of, starting_bodies}
use Rattle.crowd_data.proofs.Frames.{start_present}
use Rattle.agent_step.proofs.FirstFrames.{crowd_of-start}
use Rattle.crowd_tests.proofs.advice.first_advice.Goals as goal

pub of-crowd-requires-clause-present : goal.of-crowd-requires-clause-present
of-crowd-requires-clause-present c =
    subst (λ (frame : Snapshot). IsPresent c.args.scenario.now frame) (sym c.in_ok-frame.ensures) (start_present c.args.scenario.now c.agents.ensures.valid)

pub of-crowd-requires-clause-places : goal.of-crowd-requires-clause-places
of-crowd-requires-clause-places c =
    let agents = c.args.scenario.now.agents in
    let bodies : c.in_ok-frame.frame.bodies.items ≡ starting_bodies 0 agents = ap (λ (frame : Snapshot). frame.bodies) c.in_ok-frame.ensures in
    c.items.ensures ∙ c.in_ok-places.ensures.places ∙ ap (map place_of) (c.agents.ensures.value ∙ sym (crowd_of-start 0 agents) ∙ sym (ap (λ (bodies : List Body). crowd_of agents bodies) bodies))
