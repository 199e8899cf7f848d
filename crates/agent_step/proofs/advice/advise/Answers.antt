use Rattle.std.proofs.Common.{◌∙◌, ap, sym, map}
use Rattle.std.proofs.lemmas.Simd.{map-map}
use Rattle.crowd_data.specs.Neighbours.{Seen}
use Rattle.agent_kdtree.specs.Seen.{seen_of}
use Rattle.agent_step.specs.Frozen.{agents_in}
use Rattle.agent_step.proofs.AmongMoves.{crowded_mark, plain_mark}
use Rattle.agent_step.proofs.advice.advise.Goals as goal

pub advise_against-roomy-requires-clause-near : goal.advise_against-roomy-requires-clause-near
advise_against-roomy-requires-clause-near c =
    sym (map-map (λ (seen : Seen). seen.agent) seen_of c.as_slice.result.now)
    ∙ ap (map (λ (seen : Seen). seen.agent)) (ap (map seen_of) c.as_slice.ensures.value ∙ c.find_neighbours.ensures)

pub is_crowded-requires-clause-near : goal.is_crowded-requires-clause-near
is_crowded-requires-clause-near c = ap (map seen_of) c.as_slice-2.ensures.value ∙ c.find_neighbours.ensures

pub returns-then-is_crowded-clause-advice : goal.returns-then-is_crowded-clause-advice
returns-then-is_crowded-clause-advice c =
    (c.advise_against-roomy.result.mark, c.advise_against-roomy.ensures.moves, crowded_mark (agents_in c.args.crowd.now) c.args.who _ (c.is_crowded.ensures.0 c.if-is_crowded.true))

pub returns-else-is_crowded-clause-advice : goal.returns-else-is_crowded-clause-advice
returns-else-is_crowded-clause-advice c = (
  c.advise_against-roomy.result.mark,
  c.advise_against-roomy.ensures.moves,
  plain_mark (agents_in c.args.crowd.now) c.args.who _ (λ crowded. let t = c.is_crowded.ensures.1 crowded in cc (t, c.if-is_crowded.false)),
)
