use Rattle.std.proofs.Common.{◌≡◌, ap, sym, ◌∙◌, arith, rules, pos, unsigned_abs, FitsSigned, to_z-of_z, w64}
use Rattle.std.proofs.lemmas.Int.{ints}
use Rattle.exact_algebra.specs.Numbers.{floor_root}
use Rattle.exact_algebra.proofs.Rounding.{floor_root_is}
use Rattle.crowd_data.specs.Pairs.{leg_length}
use Rattle.pair_plane.proofs.Legs.{leg_small}
use Rattle.pair_plane.proofs.leg.leg_length.Goals as goal
use Rattle.pair_plane.proofs.leg.leg_length.Goals.{After-floor_root}

root_is : (c : After-floor_root) → pos c.floor_root.result ≡ leg_length c.args.pair.now.low c.args.pair.now.high
root_is c =
    let f : FitsSigned w64 c.leg_square.result = search rules in
    let e = simp to_z-of_z at c.unsigned_abs.ensures.value in
    ap pos (sym (floor_root_is _ _ c.floor_root.ensures.square_le c.floor_root.ensures.next_square_gt) ∙ ap floor_root (e ∙ ap unsigned_abs c.leg_square.ensures))

pub returns : goal.returns
returns c =
    let e = root_is c in let l = leg_small _ _ _ c.args.pair.now.limits in
    record { value = omega (arith, ints); small = omega (arith, ints) }
