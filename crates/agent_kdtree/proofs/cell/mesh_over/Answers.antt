use Rattle.std.proofs.Common.{◌≡◌, ◌<◌, ◌+◌, arith, FitsSigned, w64, to_z-of_z}
use Rattle.std.proofs.lemmas.Int.{ints}
use Rattle.agent_kdtree.specs.Cells.{line_of}
use Rattle.agent_kdtree.proofs.CellLines.{line-mono}
use Rattle.agent_kdtree.proofs.cell.mesh_over.Goals as goal

pub returns-clause-in_mesh : goal.returns-clause-in_mesh
returns-clause-in_mesh c = λ v h.
    let w = c.width_for-width.result in
    let b = c.args.bounds.now in
    let lx : FitsSigned w64 b.low.x = omega (arith, ints, c.requires.bounds.low) in
    let ly : FitsSigned w64 b.low.y = omega (arith, ints, c.requires.bounds.low) in
    let hx : FitsSigned w64 b.high.x = omega (arith, ints, c.requires.bounds.high) in
    let hy : FitsSigned w64 b.high.y = omega (arith, ints, c.requires.bounds.high) in
    let e : c.line-columns.result ≡ line_of b.low.x w b.high.x = simp to_z-of_z at c.line-columns.ensures.value in
    let f : c.line-rows.result ≡ line_of b.low.y w b.high.y = simp to_z-of_z at c.line-rows.ensures.value in
    let column : line_of b.low.x w v.x < c.line-columns.result + 1 = omega (arith, line-mono b.low.x w v.x b.high.x c.width_for-width.ensures.some h.left h.right, e) in
    let row : line_of b.low.y w v.y < c.line-rows.result + 1 = omega (arith, line-mono b.low.y w v.y b.high.y c.width_for-width.ensures.some h.below h.above, f) in
    record { left = h.left; below = h.below; column = column; row = row }
