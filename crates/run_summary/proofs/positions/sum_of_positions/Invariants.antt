use Rattle.std.proofs.Common.{◌≡◌, ◌≤◌, ◌*◌, ◌^◌, take, unsigned_abs}
use Rattle.run_summary.specs.Summary.{sum_of_positions as sum_of_positions_of}
use Rattle.run_summary.proofs.positions.sum_of_positions.Given as goal

-- the sums so far, and how large they can be
abbrev pub invariant-loop-body : goal.invariant-loop-body
invariant-loop-body l = record {
  x : l.sum.x ≡ (sum_of_positions_of (take l.body-index l.bodies)).x;
  y : l.sum.y ≡ (sum_of_positions_of (take l.body-index l.bodies)).y;
  x_size : unsigned_abs l.sum.x ≤ l.body-index * 2 ^ 31;
  y_size : unsigned_abs l.sum.y ≤ l.body-index * 2 ^ 31;
}
