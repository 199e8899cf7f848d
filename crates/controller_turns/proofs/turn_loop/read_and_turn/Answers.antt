use Rattle.std.proofs.Common.{◌∙◌, ap, arith}
use Rattle.std.proofs.lemmas.Bool.{MatchBool-at_true}
use Rattle.crowd_data.specs.Run.{Snapshot, snapshot_of}
use Rattle.published_frames.specs.Names.{guard_seen, guard_source, reader_seen, reader_source}
use Rattle.controller_turns.proofs.Posters.{turn_posted}
use Rattle.controller_turns.proofs.Rounds.{room_to_turn, turn_read, turned_read}
use Rattle.controller_turns.proofs.turn_loop.read_and_turn.Goals as goal

pub returns-then-not-is_newer-clause-turned : goal.returns-then-not-is_newer-clause-turned
returns-then-not-is_newer-clause-turned g c =
    turned_read c.args.controller.now.goals (reader_source c.args.reader).1 (reader_seen c.args.reader) (guard_seen c.read-guard.result) (reader_seen c.leave.result) c.args.poster.now c.args.last
    c.read-guard.ensures.later_than_read c.leave.ensures.seen c.requires.turned

pub turn-requires-clause-room : goal.turn-requires-clause-room
turn-requires-clause-room g c =
    let read = c.read-guard.ensures in
    let number = ap (λ (s : Snapshot). s.number) c.frame.ensures ∙ read.number in
    let room = room_to_turn c.args.controller.now.goals (reader_source c.args.reader).1 (guard_source c.read-guard.result).1 (reader_seen c.args.reader) (guard_seen c.read-guard.result) c.args.poster.now c.args.last c.frame.result.now.number
    (ap (λ s. s.1) read.source) read.later_than_read read.legal.steps number c.requires.turned (MatchBool-at_true _ _ c.if-not-is_newer.false c.is_newer.ensures) in
    omega (arith, room, c.requires.suits.room)

pub returns-in-Ok-clause-few : goal.returns-in-Ok-clause-few
returns-in-Ok-clause-few g c =
    let read = c.read-guard.ensures in
    let number = ap (λ (s : Snapshot). s.number) c.frame.ensures ∙ read.number in
    let room = room_to_turn c.args.controller.now.goals (reader_source c.args.reader).1 (guard_source c.read-guard.result).1 (reader_seen c.args.reader) (guard_seen c.read-guard.result) c.args.poster.now c.args.last c.frame.result.now.number
    (ap (λ s. s.1) read.source) read.later_than_read read.legal.steps number c.requires.turned (MatchBool-at_true _ _ c.if-not-is_newer.false c.is_newer.ensures) in
    let posted = turn_posted c.args.poster.now c.turn.new.poster c.args.controller.now.goals (snapshot_of c.frame-2.result.now) c.in-Ok.ensures.posted in
    omega (arith, room, posted.2)

pub returns-in-Ok-clause-turned : goal.returns-in-Ok-clause-turned
returns-in-Ok-clause-turned g c =
    let read = c.read-guard.ensures in
    let number = ap (λ (s : Snapshot). s.number) c.frame.ensures ∙ read.number in
    let posted = turn_posted c.args.poster.now c.turn.new.poster c.args.controller.now.goals (snapshot_of c.frame-2.result.now) c.in-Ok.ensures.posted in
    turn_read c.args.controller.now.goals (reader_source c.args.reader).1 (guard_source c.read-guard.result).1 (reader_seen c.args.reader) (guard_seen c.read-guard.result) (reader_seen c.leave-in-Ok.result)
    c.args.poster.now c.turn.new.poster (snapshot_of c.frame-2.result.now) c.args.last c.frame.result.now.number
    (ap (λ s. s.1) read.source) read.later_than_read c.leave-in-Ok.ensures.seen (c.frame-2.ensures ∙ read.frame) number c.requires.turned (MatchBool-at_true _ _ c.if-not-is_newer.false c.is_newer.ensures) posted.1
