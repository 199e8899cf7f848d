use Rattle.std.proofs.Common.{◌≤◌}
use Rattle.planar_program.proofs.optimum.farthest_out.Given as goal

abbrev pub invariant-loop-k : goal.invariant-loop-k
invariant-loop-k l = l.farthest ≤ l.hard
