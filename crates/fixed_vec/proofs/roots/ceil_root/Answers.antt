use Rattle.std.proofs.Common.{◌≤◌, ◌+◌, arith, sym, mul-le-mul}
use Rattle.std.proofs.lemmas.Nat.{mul-lt}
use Rattle.exact_algebra.proofs.Rounding.{ceil_root_is}
use Rattle.fixed_vec.proofs.roots.ceil_root.Goals as goal

pub returns-then-wide-n : goal.returns-then-wide-n
returns-then-wide-n c =
    let r = c.floor_root-root.result in
    sym (ceil_root_is c.args.n r (omega arith) (λ j h. omega (arith, mul-lt j j r r h h)))

pub returns-else-wide-n : goal.returns-else-wide-n
returns-else-wide-n c =
    let r = c.floor_root-root.result in
    sym (ceil_root_is c.args.n (r + 1) (omega arith) (λ j h. let k : j ≤ r = omega arith in omega (arith, mul-le-mul k k)))
