use Rattle.std.proofs.Common.{◌≡◌, ◌^◌, ◌∙◌, ap, arith, rules, unsigned_abs, FitsSigned, to_z-of_z, w64}
use Rattle.std.proofs.lemmas.Int.{ints}
use Rattle.exact_algebra.specs.Numbers.{ceil_root}
use Rattle.fixed_vec.specs.HalfPlane.{whole_length}
use Rattle.pair_plane.proofs.Lengths.{length_le_twice}
use Rattle.pair_plane.proofs.narrow.length.Goals as goal
use Rattle.pair_plane.proofs.narrow.length.Goals.{After-ceil_root}

root_is : (c : After-ceil_root) → c.ceil_root.result ≡ whole_length c.args.n
root_is c =
    let f : FitsSigned w64 c.dot.result = search rules in
    let e = simp to_z-of_z at c.unsigned_abs.ensures.value in
    c.ceil_root.ensures ∙ ap ceil_root (e ∙ ap unsigned_abs c.dot.ensures.value)

pub overflow_cast-result : goal.overflow_cast-result
overflow_cast-result c = let e = root_is c in let l = length_le_twice c.args.n (2 ^ 28) c.requires in omega (arith, ints)

pub returns : goal.returns
returns c =
    let e = root_is c in let l = length_le_twice c.args.n (2 ^ 28) c.requires in
    record { value = omega (arith, ints); small = omega (arith, ints) }
