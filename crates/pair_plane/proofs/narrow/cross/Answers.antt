use Rattle.std.proofs.Common.{[], ◌∷◌, ap, ◌∙◌, w64, FitsSigned, to_z-of_z, rules}
use Rattle.exact_algebra.proofs.Ring.{equal, quotes}
use Rattle.fixed_vec.specs.Vector.{dot}
use Rattle.pair_plane.proofs.narrow.cross.Goals as goal

pub returns : goal.returns
returns c =
    let f : FitsSigned w64 c.dot.result = search rules in
    simp to_z-of_z
    (c.dot.ensures.value
    ∙ ap (λ across. dot across c.args.b) c.perp.ensures
    ∙ equal (c.args.a.x ∷ c.args.a.y ∷ c.args.b.x ∷ c.args.b.y ∷ []) (search quotes depth 40 fits 20000) tt)
