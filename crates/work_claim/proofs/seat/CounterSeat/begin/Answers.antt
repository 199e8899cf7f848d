use Rattle.std.proofs.Common.{arith}
use Rattle.work_claim.proofs.Keeps.{begins}
use Rattle.work_claim.proofs.seat.CounterSeat.begin.Goals as goal

pub load-self-requires : goal.load-self-requires
load-self-requires c =
    let s = c.args.self.now in
    let one = c.args.claims.now.one_word in
    (c.requires.claims, omega arith, begins c.args.claims.now.table.shared.key c.args.claims.now.table.shared.table_id.slots s.seat.id s.seat.me c.requires.root c.requires.all_back c.requires.rounds)
