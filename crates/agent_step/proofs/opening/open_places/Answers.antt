use Rattle.std.proofs.Common.{◌≡◌, ◌∙◌, map, subst, sym}
use Rattle.std.specs.List.{All}
use Rattle.crowd_data.specs.Advice.{place_of}
use Rattle.agent_kdtree.specs.Placed.{IsPlaced}
use Rattle.agent_step.proofs.FirstFrames.{all_places}
use Rattle.agent_step.proofs.opening.open_places.Goals as goal

pub over-requires-clause-placed : goal.over-requires-clause-placed
over-requires-clause-placed c =
    let places : c.items.result.now ≡ map place_of c.args.agents.now = c.items.ensures ∙ c.in_ok-places.ensures in
    subst (All IsPlaced) (sym places) (all_places c.args.agents.now c.requires.agents)
