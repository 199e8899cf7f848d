use Rattle.std.proofs.Common.{ℕ, ◌<◌, ◌≤◌, ◌^◌, arith, lit<}
use Rattle.std.proofs.Math.Nat.{pow-le-pow_right}
use Rattle.scenario_read.proofs.fields.natural.Goals as goal

-- a number of at most 18 digits
of_18_digits : (n i : ℕ) → n < 10 ^ i → i ≤ 18 → n < 10 ^ 18
of_18_digits n i h le = omega (arith, pow-le-pow_right {n = 10} (lit< tt) le)

pub overflow_mul-number : goal.overflow_mul-number
overflow_mul-number c = let b = of_18_digits c.loop-digit.number c.loop-digit.digit-index c.loop-digit.invariant.1 (omega arith) in omega arith

pub overflow_add-number : goal.overflow_add-number
overflow_add-number c = let b = of_18_digits c.loop-digit.number c.loop-digit.digit-index c.loop-digit.invariant.1 (omega arith) in omega (arith, c.from.ensures)

pub returns-clause-bound : goal.returns-clause-bound
returns-clause-bound c = of_18_digits c.loop-digit.number c.loop-digit.digit-index c.loop-digit.invariant.1 (omega arith)
