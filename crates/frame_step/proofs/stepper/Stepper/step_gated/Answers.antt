use Rattle.std.proofs.Common.{◌∙◌, ◌+◌, ap, arith, length, sym, subst}
use Rattle.crowd_data.specs.Run.{Snapshot, snapshot_of}
use Rattle.agent_kdtree.specs.Stands.{HasRoomFor}
use Rattle.agent_step.specs.Frozen.{FrozenState}
use Rattle.frame_step.specs.Workers.{IsTeam}
use Rattle.frame_step.proofs.Present.{all_placed, length-placed}
use Rattle.frame_step.proofs.Stepping.{frozen_present, made_next, made_present, made_safe}
use Rattle.frame_step.proofs.stepper.Stepper.step_gated.Goals as goal

pub place_all-requires-clause-full : goal.place_all-requires-clause-full
place_all-requires-clause-full g c =
    let ready = c.self.invariant in
    let still = frozen_present c.self.inside.scenario (snapshot_of c.self.inside.frame) c.args.posts.now _ ready.valid ready.present (rw (← c.self.view_is) at c.requires.posts) c.take_all.ensures.items in
    ap length c.items.ensures ∙ still.full ∙ sym (ap length c.agents-agents.ensures.value)

pub rebuild-requires-clause-room : goal.rebuild-requires-clause-room
rebuild-requires-clause-room g c =
    let ready = c.self.invariant in
    let still = frozen_present c.self.inside.scenario (snapshot_of c.self.inside.frame) c.args.posts.now _ ready.valid ready.present (rw (← c.self.view_is) at c.requires.posts) c.take_all.ensures.items in
    let are = c.items-2.ensures ∙ (rw (c.agents-agents.ensures.value, c.items.ensures) at c.place_all.ensures.places) in
    subst (HasRoomFor c.self.inside.tree) (sym (length-placed c.self.inside.scenario (record { number = c.self.inside.frame.number; bodies = c.take_all.new.bodies.items }) _ still.full are)) ready.tree

pub rebuild-requires-clause-placed : goal.rebuild-requires-clause-placed
rebuild-requires-clause-placed g c =
    let ready = c.self.invariant in
    let still = frozen_present c.self.inside.scenario (snapshot_of c.self.inside.frame) c.args.posts.now _ ready.valid ready.present (rw (← c.self.view_is) at c.requires.posts) c.take_all.ensures.items in
    let are = c.items-2.ensures ∙ (rw (c.agents-agents.ensures.value, c.items.ensures) at c.place_all.ensures.places) in
    all_placed c.self.inside.scenario (record { number = c.self.inside.frame.number; bodies = c.take_all.new.bodies.items }) _ ready.valid still are

pub of-crowd-requires-clause-present : goal.of-crowd-requires-clause-present
of-crowd-requires-clause-present g c =
    let ready = c.self.invariant in
    frozen_present c.self.inside.scenario (snapshot_of c.self.inside.frame) c.args.posts.now _ ready.valid ready.present (rw (← c.self.view_is) at c.requires.posts) c.take_all.ensures.items

pub move_all-requires-clause-few : goal.move_all-requires-clause-few
move_all-requires-clause-few g c = let ready = c.self.invariant in omega (arith, ready.bodies, ready.valid.agent_count)

pub invariant_of-self : goal.invariant_of-self
invariant_of-self g c =
    let ready = c.self.invariant in
    let scenario = c.self.inside.scenario in
    let frame = snapshot_of c.self.inside.frame in
    let still = frozen_present scenario frame c.args.posts.now _ ready.valid ready.present (rw (← c.self.view_is) at c.requires.posts) c.take_all.ensures.items in
    let are = c.items-2.ensures ∙ (rw (c.agents-agents.ensures.value, c.items.ensures) at c.place_all.ensures.places) in
    let now : Snapshot = record { number = c.self.inside.frame.number; bodies = c.take_all.new.bodies.items } in
    let moved = rw c.of-crowd.ensures at c.move_all.ensures.moved in
    record {
      valid = ready.valid;
      present = rw (c.swap.ensures.x_after) (made_present scenario frame c.args.posts.now _ ready.valid ready.present (rw (← c.self.view_is) at c.requires.posts) c.take_all.ensures.items (rw (← c.self.view_is) at c.requires.below) _ moved);
      polygons = ready.polygons;
      walls = ready.walls;
      bodies = rw (c.swap.ensures.y_after) still.full;
      places = omega (arith, ap length c.agents-agents.ensures.value, c.place_all.ensures.room);
      tree = subst (HasRoomFor c.rebuild.new.self) (length-placed scenario now _ still.full are) c.rebuild.ensures.stands.room;
      workers = subst (λ (s : FrozenState). IsTeam s.scenario (frame.number + 1) c.move_all.new.self) c.of-crowd.ensures (c.move_all.ensures.team frame.number (subst (λ (s : FrozenState). IsTeam s.scenario frame.number c.self.inside.team) (sym c.of-crowd.ensures) ready.workers));
    }

pub returns-clause-next : goal.returns-clause-next
returns-clause-next g c =
    let ready = c.self.invariant in
    let scenario = c.self.inside.scenario in
    let frame = snapshot_of c.self.inside.frame in
    let moved = rw c.of-crowd.ensures at c.move_all.ensures.moved in
    rw (← c.self.view_is, c.swap.ensures.x_after) (made_next scenario frame c.args.posts.now _ ready.valid ready.present (rw (← c.self.view_is) at c.requires.posts) c.take_all.ensures.items (rw (← c.self.view_is) at c.requires.below) _ moved)

pub returns-clause-safe : goal.returns-clause-safe
returns-clause-safe g c =
    let ready = c.self.invariant in
    let scenario = c.self.inside.scenario in
    let frame = snapshot_of c.self.inside.frame in
    let moved = rw c.of-crowd.ensures at c.move_all.ensures.moved in
    rw (← c.self.view_is, c.swap.ensures.x_after)
    (made_safe scenario frame c.args.posts.now _ ready.valid ready.present (rw (← c.self.view_is) at c.requires.posts) c.take_all.ensures.items (rw (← c.self.view_is) at c.requires.below) _ moved c.every_step_is_safe.ensures)
