use Rattle.std.proofs.Common.{◌≡◌, ◌∙◌, ◌≤◌, ◌+◌, List, All, ap, sym, subst, refl, arith, length}
use Rattle.std.proofs.lemmas.List.{length-append}
use Rattle.std.proofs.lemmas.List.Sorted.{All-permutation, length_permutation}
use Rattle.crowd_data.specs.Limits.{IsBuild, IsSegment, fine_ring}
use Rattle.crowd_data.specs.Scenario.{Parts}
use Rattle.crowd_data.specs.Walls.{IsClear}
use Rattle.hard_plane.proofs.ScenarioRings.{length-ring_planes_le}
use Rattle.crowd_data.specs.declared.agent.Agent.{Agent}
use Rattle.crowd_data.specs.Advice.{agent_at, hard_planes, soft_planes, wall_planes}
use Rattle.planar_program.specs.declared.relief.TheConstants.{GREATEST_RELIEF}
use Rattle.pair_plane.specs.Sized.{IsShareSized}
use Rattle.planar_program.specs.Met.{IsMet}
use Rattle.agent_step.specs.Among.{AdvisedAmong}
use Rattle.agent_step.specs.Frozen.{KeepsLimits, agents_in}
use Rattle.agent_step.proofs.AmongMoves.{IsListed, hard_are, hard_from, length-wall_planes, listed, moves_among, relieved_are, soft_are}
use Rattle.agent_step.proofs.AnyOrder.{moves_in_any_order, with_walls}
use Rattle.agent_step.proofs.Reliefs.{enough_relief, shares_keep}
use Rattle.agent_step.proofs.advice.advise_fully.Goals as goal
use Rattle.agent_step.proofs.advice.advise_fully.Goals.{After-items}

pub fill-requires-clause-room : goal.fill-requires-clause-room
fill-requires-clause-room c =
    let polygon : length c.polygon.result.now ≤ fine_ring = rw c.polygon.ensures (length-ring_planes_le _ _) in
    let held : length c.scratch.inside.planes.items + c.scratch.inside.planes.spare ≡ c.args.scratch.now = c.scratch.view_is in
    omega (arith, length_permutation _ _ c.walls.ensures.stands.order, c.requires.room, polygon, held)

pub fill-requires-clause-segments : goal.fill-requires-clause-segments
fill-requires-clause-segments c = All-permutation IsSegment _ _ c.walls.ensures.stands.order c.walls.ensures.valid

pub fill-requires-clause-clear : goal.fill-requires-clause-clear
fill-requires-clause-clear c = All-permutation (IsClear c.agent-agent.result.pos c.agent-agent.result.radius) _ _ c.walls.ensures.stands.order c.agent-agent.ensures.clear

pub push_soft-requires-clause-room : goal.push_soft-requires-clause-room
push_soft-requires-clause-room c =
    let held : length c.scratch.inside.planes.items + c.scratch.inside.planes.spare ≡ c.args.scratch.now = c.scratch.view_is in
    let polygon : length c.polygon.result.now ≤ fine_ring = rw c.polygon.ensures (length-ring_planes_le _ _) in
    let walls = length-wall_planes c.walls.result.now.segments.items c.agent-agent.result in
    let all = ap length c.fill.ensures.items ∙ length-append c.polygon.result.now (wall_planes c.walls.result.now.segments.items c.agent-agent.result) in
    omega (arith, length_permutation _ _ c.walls.ensures.stands.order, c.requires.room, held, polygon, walls, all, c.fill.ensures.room)

-- ---- the half-planes that are handed on: those of the agent, the walls by blocks
module _ (c : After-items) where
  abbrev crowd : List Agent
  crowd = agents_in c.args.crowd.now

  abbrev by_blocks : Parts
  by_blocks = with_walls c.args.crowd.now.scenario c.walls.result.now.segments.items

  are : IsListed by_blocks crowd c.args.who (length c.items-hard.result.now) c.items.result.now
  are = listed by_blocks crowd c.args.who c.items.result.now c.fill.new.planes.items c.items-hard.result.now
      (hard_from c.args.crowd.now.scenario c.walls.result.now.segments.items crowd c.args.who c.agent-agent.result c.polygon.result.now c.fill.new.planes.items c.polygon.ensures c.agent-agent.ensures.value c.fill.ensures.items)
      c.items-hard.ensures (c.items.ensures ∙ c.push_soft.ensures.items)

pub advise_among-requires-clause-bounds : goal.advise_among-requires-clause-bounds
advise_among-requires-clause-bounds c =
    let b = (goal.at.advise_among-requires-clause-bounds c).After-items in
    shares_keep (length c.items-hard.result.now) c.items.result.now
    (subst (All IsShareSized) (sym (soft_are (by_blocks b) (crowd b) c.args.who (length c.items-hard.result.now) c.items.result.now (are b))) c.push_soft.ensures.sized)

pub advise_among-requires-clause-enough : goal.advise_among-requires-clause-enough
advise_among-requires-clause-enough c = λ met.
    let b = (goal.at.advise_among-requires-clause-enough c).After-items in
    let agent = agent_at (crowd b) c.args.who in
    let build = subst IsBuild c.agent-agent.ensures.value c.agent-agent.ensures.build in
    subst IsMet (sym (relieved_are (by_blocks b) (crowd b) c.args.who (length c.items-hard.result.now) c.items.result.now (are b) GREATEST_RELIEF))
    (enough_relief (hard_planes (by_blocks b) agent) (soft_planes (crowd b) c.args.who) _ (by_blocks b).ring agent.speed build.speed refl c.push_soft.ensures.sized
    (subst IsMet (hard_are (by_blocks b) (crowd b) c.args.who (length c.items-hard.result.now) c.items.result.now (are b)) met))

pub returns-clause-limits : goal.returns-clause-limits
returns-clause-limits c =
    subst (λ speed. KeepsLimits speed c.advise_among.result.vel c.advise_among.result.relief) c.agent-agent.ensures.speed c.advise_among.ensures.limits

pub returns-clause-moves : goal.returns-clause-moves
returns-clause-moves c =
    let b = (goal.at.returns-clause-moves c).After-items in
    moves_in_any_order c.args.crowd.now.scenario c.walls.result.now.segments.items (crowd b) c.args.who _ _ _ c.walls.ensures.stands.order
    (moves_among (by_blocks b) (crowd b) c.args.who (length c.items-hard.result.now) c.items.result.now (are b) _ _ _
    (subst (λ (agent : Agent). AdvisedAmong (length c.items-hard.result.now) c.items.result.now agent.pref c.advise_among.result.vel c.advise_among.result.mark c.advise_among.result.relief)
    c.agent-agent.ensures.value c.advise_among.ensures.advised))
