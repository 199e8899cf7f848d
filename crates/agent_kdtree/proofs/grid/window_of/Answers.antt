use Rattle.std.proofs.Common.{arith, FitsSigned, w64, to_z-of_z}
use Rattle.std.proofs.lemmas.Int.{ints}
use Rattle.agent_kdtree.proofs.grid.window_of.Goals as goal

pub returns : goal.returns
returns c =
    let mesh = c.args.mesh.now in
    let at = c.args.query.now.at in
    let lx : FitsSigned w64 mesh.low.x = omega (arith, ints, c.requires.mesh.low) in
    let ly : FitsSigned w64 mesh.low.y = omega (arith, ints, c.requires.mesh.low) in
    let ax : FitsSigned w64 at.x = omega (arith, ints, c.requires.query.at) in
    let ay : FitsSigned w64 at.y = omega (arith, ints, c.requires.query.at) in
    let left = simp to_z-of_z at c.first_line.ensures in
    let right = simp to_z-of_z at c.last_line.ensures in
    let below = simp to_z-of_z at c.first_line-2.ensures in
    let above = simp to_z-of_z at c.last_line-2.ensures in
    record {
      left = λ z h k. left z h (omega (arith, k, c.min.ensures));
      right = λ z h k l. right z h (omega (arith, k, l, c.min-2.ensures));
      below = λ z h k. below z h (omega (arith, k, c.min-3.ensures));
      above = λ z h k l. above z h (omega (arith, k, l, c.min-4.ensures));
      columns = omega (arith, c.min.ensures);
      last = omega (arith, c.min-2.ensures, c.requires.in_mesh.column);
      rows = omega (arith, c.min-4.ensures, c.requires.in_mesh.row);
    }
