use Rattle.std.proofs.Common.{arith}
use Rattle.work_claim.proofs.Keeps.{splits}
use Rattle.work_claim.proofs.root.Root.lend.Goals as goal

pub split_seat-seat-requires : goal.split_seat-seat-requires
split_seat-seat-requires c =
    let s = c.args.self.now in
    let one = c.args.claims.now.one_word in
    (c.requires.claims, omega arith, splits c.args.claims.now.table.shared.key c.args.claims.now.table.shared.table_id.slots s.seat.seat.id s.seat.seat.me s.is_root c.requires.few)
