use Rattle.std.proofs.Common.{arith, ◌∙◌}
use Rattle.work_claim.proofs.Keeps.{joins, looks}
use Rattle.work_claim.proofs.root.Root.take_back.Goals as goal

pub join_seat-requires : goal.join_seat-requires
join_seat-requires c =
    let s = c.args.self.now in
    let w = c.args.claimer in
    let one = c.args.claims.now.one_word in
    (c.requires.claims, c.requires.claimer_claims, w.seat.bare, omega arith, joins c.args.claims.now.table.shared.key c.args.claims.now.table.shared.table_id.slots s.seat.seat.id s.seat.seat.me w.seat.seat.id w.seat.seat.me.0 s.is_root)

pub load-requires : goal.load-requires
load-requires c =
    let s = c.join_seat.new.seat in
    let one = c.args.claims.now.one_word in
    (c.join_seat.ensures.0 ∙ c.requires.claims, omega arith, looks c.args.claims.now.table.shared.key c.args.claims.now.table.shared.table_id.slots s.id s.me)
