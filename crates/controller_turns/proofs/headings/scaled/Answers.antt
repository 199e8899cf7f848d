use Rattle.std.proofs.Common.{◌∙◌, ◌≤◌, ◌*ℤ◌, ℕ, ℤ, pos, ap, arith, sym, subst, FitsSigned, to_z, of_z, to_z-of_z, unsigned_abs, w64}
use Rattle.std.proofs.lemmas.Int.{fits_signed_from_abs}
use Rattle.crowd_data.specs.Headings.{cut}
use Rattle.crowd_data.specs.declared.limits.TheConstants.{GREATEST_SPEED}
use Rattle.controller_turns.proofs.Lengths.{scaled_is, scaled_small}
use Rattle.controller_turns.proofs.headings.scaled.Goals as goal

fits : (coordinate : ℤ) (pace length : ℕ) → unsigned_abs coordinate ≤ length → pace ≤ GREATEST_SPEED → FitsSigned w64 (cut (coordinate *ℤ pos pace) (pos length))
fits coordinate pace length h k = let small = scaled_small coordinate pace length h in fits_signed_from_abs w64 (cut (coordinate *ℤ pos pace) (pos length)) (omega (arith, small, k))

pub overflow_cast-result : goal.overflow_cast-result
overflow_cast-result c =
    let r = c.requires in
    let is = scaled_is c.args.coordinate c.args.pace c.args.length _ _ _ (c.from.ensures ∙ to_z-of_z c.ranges.coordinate) c.from-2.ensures c.from-3.ensures r.coordinate r.pace r.length.0 r.length.1 in
    subst (FitsSigned w64) (sym is) (fits c.args.coordinate c.args.pace c.args.length r.coordinate r.pace)

pub returns-clause-exact : goal.returns-clause-exact
returns-clause-exact c =
    let r = c.requires in
    let is = scaled_is c.args.coordinate c.args.pace c.args.length _ _ _ (c.from.ensures ∙ to_z-of_z c.ranges.coordinate) c.from-2.ensures c.from-3.ensures r.coordinate r.pace r.length.0 r.length.1 in
    ap (λ z. to_z w64 (of_z w64 z)) is ∙ to_z-of_z (fits c.args.coordinate c.args.pace c.args.length r.coordinate r.pace)

pub returns-clause-small : goal.returns-clause-small
returns-clause-small c =
    subst (λ (z : ℤ). unsigned_abs z ≤ c.args.pace) (sym (returns-clause-exact c)) (scaled_small c.args.coordinate c.args.pace c.args.length c.requires.coordinate)
