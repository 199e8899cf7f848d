use Rattle.std.proofs.Common.{sym}
use Rattle.std.proofs.lemmas.Bool.{false≢true}
use Rattle.planar_program.proofs.optimum.nearest.Goals as goal

pub returns-in-Ok-clause-none : goal.returns-in-Ok-clause-none
returns-in-Ok-clause-none c = (λ e. absurd (false≢true (sym e)), λ h. absurd (h c.in-Ok.point c.in-Ok.ensures.nearest.meets))
