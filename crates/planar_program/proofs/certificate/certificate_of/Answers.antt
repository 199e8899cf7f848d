use Rattle.std.proofs.Common.{ℕ, Option, Some, None, IfSome}
use Rattle.fixed_vec.specs.Point.{Rational, IsPoint, IsIn}
use Rattle.planar_program.specs.declared.certificate.Certificate.{Certificate}
use Rattle.planar_program.specs.Certificate.{IsCertificate, IsTooSmall, moved_back}
use Rattle.planar_program.proofs.certificate.certificate_of.Goals as goal

if_some : (P Q : Certificate → Type 0) → ((r : Certificate) → P r → Q r) → (o : Option Certificate) → IfSome o P → IfSome o Q
if_some P Q f None h = tt
if_some P Q f (Some r) h = f r h

pub returns-then-conflict : goal.returns-then-conflict
returns-then-conflict c =
    let line = c.in_ok-line.line in let low = c.in_ok-low.low in
    if_some (λ r. (d : ℕ) → IsTooSmall r.lack r.give d → (p : Rational) → IsPoint p → IsIn (moved_back line.plane line.give d) p → IsIn (moved_back low.plane low.give d) p → ⊥)
    (λ r. IsCertificate c.args.hard c.args.planes.now r.lack r.give)
    (λ r exclude d small p m. exclude d small p m.point (c.in_ok-line.ensures.has d p m) (c.in_ok-low.ensures.has d p m))
    c.certificate_of_two.result c.certificate_of_two.ensures

pub returns : goal.returns
returns c =
    let line = c.in_ok-line.line in let low = c.in_ok-low.low in let high = c.in_ok-high.high in
    if_some (λ r. (d : ℕ) → IsTooSmall r.lack r.give d → (p : Rational) → IsPoint p → IsIn (moved_back line.plane line.give d) p → IsIn (moved_back low.plane low.give d) p → IsIn (moved_back high.plane high.give d) p → ⊥)
    (λ r. IsCertificate c.args.hard c.args.planes.now r.lack r.give)
    (λ r exclude d small p m. exclude d small p m.point (c.in_ok-line.ensures.has d p m) (c.in_ok-low.ensures.has d p m) (c.in_ok-high.ensures.has d p m))
    c.certificate_of_three.result c.certificate_of_three.ensures
