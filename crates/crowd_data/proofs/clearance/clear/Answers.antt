use Rattle.std.proofs.Common.{rules, arith, pos, ◌≤ℤ◌, ◌<ℤ◌, FitsSigned, w64, to_z-of_z}
use Rattle.std.proofs.lemmas.Int.{ints}
use Rattle.exact_algebra.proofs.Tests.{le_true, le_false}
use Rattle.fixed_vec.specs.Vector.{dot, square}
use Rattle.crowd_data.proofs.ClearOfSegment.{before_is, after_is, beside_is, decides_clear}
use Rattle.crowd_data.proofs.clearance.clear.Goals as goal

pub returns-then-foot-le0 : goal.returns-then-foot-le0
returns-then-foot-le0 c =
    let f : FitsSigned w64 c.along-foot.result = search rules in
    let t = le_true c.along-foot.result (pos 0) (simp to_z-of_z at c.if-foot-le0.true) in
    let behind : dot c.minus-p.result c.minus-d.result ≤ℤ pos 0 = omega (arith, ints, c.along-foot.ensures) in
    decides_clear c.is_far.result c.args.pos c.args.radius c.args.segment.now c.minus-p.result c.minus-d.result c.minus-p.ensures c.minus-d.ensures
    c.is_far.ensures (before_is c.minus-p.result c.minus-d.result c.args.radius behind)

pub returns-then-along-foot : goal.returns-then-along-foot
returns-then-along-foot c =
    let f : FitsSigned w64 c.along-foot.result = search rules in
    let h : FitsSigned w64 c.along.result = search rules in
    let t = le_true c.along.result c.along-foot.result (simp to_z-of_z at c.if-along-foot.true) in
    let past : square c.minus-d.result ≤ℤ dot c.minus-p.result c.minus-d.result = omega (arith, ints, c.along.ensures, c.along-foot.ensures) in
    decides_clear c.is_far-then-along-foot.result c.args.pos c.args.radius c.args.segment.now c.minus-p.result c.minus-d.result c.minus-p.ensures c.minus-d.ensures
    (rw c.minus.ensures at c.is_far-then-along-foot.ensures) (after_is c.minus-p.result c.minus-d.result c.args.radius past)

pub returns-else-along-foot : goal.returns-else-along-foot
returns-else-along-foot c =
    let f : FitsSigned w64 c.along-foot.result = search rules in
    let h : FitsSigned w64 c.along.result = search rules in
    let t = le_false c.along-foot.result (pos 0) (simp to_z-of_z at c.if-foot-le0.false) in
    let l = le_false c.along.result c.along-foot.result (simp to_z-of_z at c.if-along-foot.false) in
    let low : pos 0 <ℤ dot c.minus-p.result c.minus-d.result = omega (arith, ints, c.along-foot.ensures) in
    let high : dot c.minus-p.result c.minus-d.result <ℤ square c.minus-d.result = omega (arith, ints, c.along.ensures, c.along-foot.ensures) in
    decides_clear c.is_far_from_line.result c.args.pos c.args.radius c.args.segment.now c.minus-p.result c.minus-d.result c.minus-p.ensures c.minus-d.ensures
    c.is_far_from_line.ensures (beside_is c.minus-p.result c.minus-d.result c.args.radius low high)
