use Rattle.std.proofs.Common.{◌∙◌, ◌<◌, ℕ, List, [], ◌∷◌, ◌++◌, length, map, take, get_or, sym, ap, subst, arith}
use Rattle.std.specs.List.{All}
use Rattle.std.proofs.lemmas.List.{map-append, take_more}
use Rattle.std.proofs.lemmas.List.Elements.{All-push, All-weaker}
use Rattle.crowd_data.specs.declared.agent.Agent.{Agent}
use Rattle.crowd_data.specs.declared.limits.TheConstants.{GREATEST_SPEED}
use Rattle.agent_step.proofs.SharedPlaces.{kept_places}
use Rattle.agent_step.proofs.shared_polygons.speeds_of.Goals as goal

pub loop-agent-preserved : goal.loop-agent-preserved
loop-agent-preserved c =
    let so_far = c.loop-agent.invariant in
    let found = c.place_for-place.ensures in
    let agents = c.args.agents.now in
    let i = c.loop-agent.agent-index in
    let before = c.loop-agent.speeds.items in
    let after = c.place_for-place.new.speeds.items in
    let places = c.loop-agent.places.items in
    let place = c.place_for-place.result in
    let of = λ (agent : Agent). agent.speed in
    record {
      places =
          ap (map (λ k. get_or after k 0)) c.push.ensures.items
          ∙ map-append (λ (k : ℕ). get_or after k 0) places (place ∷ [])
          ∙ ap (λ (l : List ℕ). l ++ get_or after place 0 ∷ []) (kept_places before after found.kept places so_far.within ∙ so_far.places)
          ∙ ap (λ (s : ℕ). map of (take i agents) ++ s ∷ []) found.value
          ∙ sym (ap (map of) (take_more agents i _ c.loop-agent-test.true) ∙ map-append of (take i agents) (get_or agents i _ ∷ []));
      within = subst (All (λ k. k < length after)) (sym c.push.ensures.items)
          (All-push (λ k. k < length after) places place (All-weaker (λ k. k < length before) (λ k. k < length after) (λ k h. omega (arith, h, found.no_fewer)) places so_far.within) found.within);
      slow = found.slow GREATEST_SPEED (c.requires.agents i _ c.loop-agent-test.true).build.speed so_far.slow;
      few = omega (arith, found.one_more, so_far.few);
      room = omega (arith, found.spare, so_far.room);
      room_too = omega (arith, c.push.ensures.spare, so_far.room_too);
    }
