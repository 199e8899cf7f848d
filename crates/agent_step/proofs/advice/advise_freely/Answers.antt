use Rattle.std.proofs.Common.{◌≡◌, ◌∙◌, ◌⊎◌, ◌+◌, ◌++◌, append_assoc, List, Option, Some, None, All, ap, sym, subst, refl, arith, length, drop}
use Rattle.std.specs.Prelude.{IfSome}
use Rattle.std.proofs.lemmas.List.{length-append}
use Rattle.std.proofs.lemmas.List.Sorted.{All-permutation, length_permutation}
use Rattle.fixed_vec.specs.HalfPlane.{Plane}
use Rattle.crowd_data.specs.declared.agent.Agent.{Agent}
use Rattle.crowd_data.specs.Advice.{GivesWay, StandsStill, soft_planes}
use Rattle.crowd_data.specs.Limits.{IsSegment}
use Rattle.crowd_data.specs.RingPlanes.{ring_planes}
use Rattle.crowd_data.specs.Walls.{IsClear}
use Rattle.pair_plane.specs.Sized.{IsShareSized}
use Rattle.planar_program.specs.Met.{IsMet}
use Rattle.agent_step.specs.Among.{AdvisedAmong}
use Rattle.agent_step.specs.Frozen.{KeepsLimits, agents_in}
use Rattle.agent_step.specs.declared.advice.Advice.{Advice}
use Rattle.agent_step.proofs.AmongMoves.{hard_from, length-wall_planes, listed, moves_among, relieved_shares, shares_behind}
use Rattle.agent_step.proofs.AnyOrder.{moves_in_any_order, with_walls}
use Rattle.agent_step.proofs.Reliefs.{shares_keep, shares_met, shares_stand}
use Rattle.agent_step.proofs.advice.advise_freely.Goals as goal
use Rattle.agent_step.proofs.advice.advise_freely.Goals.{After-items}

pub fill_walls-requires-clause-room : goal.fill_walls-requires-clause-room
fill_walls-requires-clause-room c =
    let held : length c.scratch.inside.planes.items + c.scratch.inside.planes.spare ≡ c.args.scratch.now = c.scratch.view_is in
    omega (arith, length_permutation _ _ c.walls.ensures.stands.order, c.requires.room, held)

pub fill_walls-requires-clause-segments : goal.fill_walls-requires-clause-segments
fill_walls-requires-clause-segments c = All-permutation IsSegment _ _ c.walls.ensures.stands.order c.walls.ensures.valid

pub fill_walls-requires-clause-clear : goal.fill_walls-requires-clause-clear
fill_walls-requires-clause-clear c = All-permutation (IsClear c.agent-agent.result.pos c.agent-agent.result.radius) _ _ c.walls.ensures.stands.order c.agent-agent.ensures.clear

pub push_soft-requires-clause-room : goal.push_soft-requires-clause-room
push_soft-requires-clause-room c =
    let held : length c.scratch.inside.planes.items + c.scratch.inside.planes.spare ≡ c.args.scratch.now = c.scratch.view_is in
    let walls = length-wall_planes c.walls.result.now.segments.items c.agent-agent.result in
    omega (arith, length_permutation _ _ c.walls.ensures.stands.order, c.requires.room, held, walls, ap length c.fill_walls.ensures.items, c.fill_walls.ensures.room)

-- ---- the half-planes that are handed on: the walls by blocks, and the agent's shares
module _ (c : After-items) where
  abbrev crowd : List Agent
  crowd = agents_in c.args.crowd.now

  all : c.items.result.now ≡ c.fill_walls.new.planes.items ++ soft_planes crowd c.args.who
  all = c.items.ensures ∙ c.push_soft.ensures.items

  rest : drop (length c.items-walls.result.now) c.items.result.now ≡ soft_planes crowd c.args.who
  rest = shares_behind c.fill_walls.new.planes.items c.items-walls.result.now c.items.result.now (soft_planes crowd c.args.who) c.items-walls.ensures all

  sized : All IsShareSized (drop (length c.items-walls.result.now) c.items.result.now)
  sized = subst (All IsShareSized) (sym rest) c.push_soft.ensures.sized

pub free_advice-requires-clause-bounds : goal.free_advice-requires-clause-bounds
free_advice-requires-clause-bounds c =
    let b = (goal.at.free_advice-requires-clause-bounds c).After-items in
    shares_stand (length c.items-walls.result.now) c.items.result.now (sized b)

pub free_advice-requires-clause-relieved : goal.free_advice-requires-clause-relieved
free_advice-requires-clause-relieved c =
    let b = (goal.at.free_advice-requires-clause-relieved c).After-items in
    shares_keep (length c.items-walls.result.now) c.items.result.now (sized b)

pub free_advice-requires-clause-enough : goal.free_advice-requires-clause-enough
free_advice-requires-clause-enough c = λ none.
    let b = (goal.at.free_advice-requires-clause-enough c).After-items in
    let soft = soft_planes (crowd b) c.args.who in
    subst (λ (l : List Plane). IsMet l) (sym (relieved_shares c.items.result.now soft (length c.items-walls.result.now) none (rest b))) (shares_met soft c.push_soft.ensures.sized)

pub free_advice-requires-clause-polygon : goal.free_advice-requires-clause-polygon
free_advice-requires-clause-polygon c =
    let ring = c.args.crowd.now.scenario.ring in
    (ring, c.polygon.ensures ∙ sym (ap (λ (agent : Agent). ring_planes ring agent.speed) c.agent-agent.ensures.value))

pub returns-clause-limits : goal.returns-clause-limits
returns-clause-limits c =
    subst (λ speed. IfSome c.free_advice.result (λ a. KeepsLimits speed a.vel a.relief)) c.agent-agent.ensures.speed c.free_advice.ensures.limits

if_some : (P Q : Advice → Type 0) → ((a : Advice) → P a → Q a) → (r : Option Advice) → IfSome r P → IfSome r Q
if_some P Q f None h = h
if_some P Q f (Some a) h = f a h

pub returns-clause-moves : goal.returns-clause-moves
returns-clause-moves c =
    let b = (goal.at.returns-clause-moves c).After-items in
    let who = c.args.who in
    let segments = c.walls.result.now.segments.items in
    let scenario = with_walls c.args.crowd.now.scenario segments in
    let agent = c.agent-agent.result in
    let polygon = c.polygon.result.now in
    let walls = c.fill_walls.new.planes.items in
    let there = c.agent-agent.ensures.value in
    let firm = hard_from c.args.crowd.now.scenario segments (crowd b) who agent polygon (polygon ++ walls) c.polygon.ensures there (ap (λ (rest : List Plane). polygon ++ rest) c.fill_walls.ensures.items) in
    let whole : polygon ++ c.items.result.now ≡ (polygon ++ walls) ++ soft_planes (crowd b) who = ap (λ (rest : List Plane). polygon ++ rest) (all b) ∙ sym (append_assoc polygon walls _) in
    let is = listed scenario (crowd b) who (polygon ++ c.items.result.now) (polygon ++ walls) (polygon ++ walls) firm refl whole in
    let count : length polygon + length c.items-walls.result.now ≡ length (polygon ++ walls) = ap (λ n. length polygon + n) (ap length c.items-walls.ensures) ∙ sym (length-append polygon walls) in
    if_some
    (λ a. AdvisedAmong (length polygon + length c.items-walls.result.now) (polygon ++ c.items.result.now) agent.pref a.vel a.mark a.relief)
    (λ a. StandsStill c.args.crowd.now.scenario (crowd b) who a.vel a.mark a.relief ⊎ GivesWay c.args.crowd.now.scenario (crowd b) who a.vel a.mark a.relief)
    (λ a h. moves_in_any_order c.args.crowd.now.scenario segments (crowd b) who a.vel a.mark a.relief c.walls.ensures.stands.order
    (moves_among scenario (crowd b) who (length (polygon ++ walls)) (polygon ++ c.items.result.now) is a.vel a.mark a.relief
    (subst (λ (agent : Agent). AdvisedAmong (length (polygon ++ walls)) (polygon ++ c.items.result.now) agent.pref a.vel a.mark a.relief) there
    (subst (λ n. AdvisedAmong n (polygon ++ c.items.result.now) agent.pref a.vel a.mark a.relief) count h))))
    c.free_advice.result c.free_advice.ensures.advised
