use Rattle.std.proofs.Common.{◌≡◌, ◌∙◌, ◌++◌, List, All, ap, map, sym, subst}
use Rattle.exact_algebra.proofs.Elements.{before_map}
use Rattle.fixed_vec.specs.HalfPlane.{Plane}
use Rattle.crowd_data.specs.declared.agent.Agent.{Agent}
use Rattle.crowd_data.specs.Advice.{share_against}
use Rattle.crowd_data.specs.Run.{crowd_of}
use Rattle.agent_kdtree.specs.declared.near.Near.{Near}
use Rattle.agent_step.specs.Frozen.{agents_in}
use Rattle.agent_step.specs.Sight.{IsSeen}
use Rattle.agent_step.proofs.AmongMoves.{shares_are}
use Rattle.agent_step.proofs.Sight.{neighbours_seen}
use Rattle.agent_step.proofs.SoftPlanes.{moves-at, present_as, soft_sized}
use Rattle.agent_step.proofs.advice.push_soft.Goals as goal
use Rattle.agent_step.proofs.advice.push_soft.Goals.{After-bodies}

-- ---- the crowd whose shares are pushed
module _ (c : After-bodies) where
  abbrev crowd : List Agent
  crowd = agents_in c.args.crowd.now

  same : crowd_of c.agents.result.now c.bodies.result.now ≡ crowd
  same = λ i. crowd_of (c.agents.ensures i) (c.bodies.ensures.value i)

pub push_shares-requires-clause-present : goal.push_shares-requires-clause-present
push_shares-requires-clause-present c = present_as _ _ _ _ c.agents.ensures c.bodies.ensures.value c.bodies.ensures.present

pub push_shares-requires-clause-seen : goal.push_shares-requires-clause-seen
push_shares-requires-clause-seen c =
    let who = c.args.who in
    let all = neighbours_seen (crowd c) who (moves-at c.args.crowd.now.scenario.agents c.args.crowd.now.frame.bodies c.bodies.ensures.present who c.requires.who).build.range in
    subst (λ (crowd : List Agent). All (λ (near : Near). IsSeen crowd who near.agent) c.args.near.now) (sym (same c))
    (before_map (IsSeen (crowd c) who) (λ (near : Near). near.agent) c.args.near.now (subst (All (IsSeen (crowd c) who)) (sym c.requires.near) all))

pub returns-clause-items : goal.returns-clause-items
returns-clause-items c =
    let seen = (goal.at.returns-clause-items c).After-bodies in
    let who = c.args.who in
    c.push_shares.ensures.items
    ∙ ap (λ (crowd : List Agent). c.args.planes.now.items ++ map (λ (near : Near). share_against crowd who near.agent) c.args.near.now) (same seen)
    ∙ ap (λ (soft : List Plane). c.args.planes.now.items ++ soft) (shares_are (crowd seen) who c.args.near.now c.requires.near)

pub returns-clause-sized : goal.returns-clause-sized
returns-clause-sized c = soft_sized c.args.crowd.now.scenario.agents c.args.crowd.now.frame.bodies c.bodies.ensures.present c.args.who c.requires.who
