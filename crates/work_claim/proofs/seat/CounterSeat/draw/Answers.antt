use Rattle.std.proofs.Common.{arith}
use Rattle.work_claim.proofs.Keeps.{draws}
use Rattle.work_claim.proofs.seat.CounterSeat.draw.Goals as goal

pub fetch_add-found-requires : goal.fetch_add-found-requires
fetch_add-found-requires c =
    let s = c.args.self.now in
    let one = c.args.claims.now.one_word in
    (c.requires.claims, omega arith, draws c.args.claims.now.table.shared.key c.args.claims.now.table.shared.table_id.slots s.seat.id s.seat.me c.requires.live c.requires.ends c.requires.one_part)
