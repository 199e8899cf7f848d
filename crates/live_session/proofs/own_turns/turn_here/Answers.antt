use Rattle.std.proofs.Common.{arith, refl}
use Rattle.live_session.proofs.Standing.{after_turn, by_true, can_turn, has_room}
use Rattle.live_session.proofs.own_turns.turn_here.Goals as goal

pub turn-requires-clause-frame : goal.turn-requires-clause-frame
turn-requires-clause-frame g c =
    let d = c.args.desk.now in
    let s = c.requires.steered in
    can_turn c.args.posts.now d.writer d.stepper s.0 d.stepper.frame.number c.args.steered.now c.scenario-valid.ensures.valid c.requires.published c.frame-frame.ensures.present s.1 _ c.frame-frame.ensures.value

pub turn-requires-clause-room : goal.turn-requires-clause-room
turn-requires-clause-room g c =
    let d = c.args.desk.now in
    let s = c.requires.steered in
    has_room c.args.posts.now d.writer d.stepper s.0 d.stepper.frame.number c.args.steered.now c.scenario-valid.ensures.valid c.requires.published c.frame-frame.ensures.present s.1 (omega (arith, c.frame-frame.ensures.present.number))

pub returns : goal.returns
returns g c = λ number steered.
    let d = c.args.desk.now in
    after_turn c.args.posts.now d.writer d.stepper number d.stepper.frame.number c.args.steered.now c.scenario-valid.ensures.valid c.requires.published c.frame-frame.ensures.present steered
    (record { controller = c.turn.new.self; poster = c.turn.new.poster; reader = c.args.steered.now.reader; last = _ }) _ c.frame-frame.ensures.value
    (by_true _ _ c.is_newer.result c.is_newer.ensures c.if-not-is_newer.false) c.turn.ensures.same c.in_ok-turn.ensures.posted refl refl
