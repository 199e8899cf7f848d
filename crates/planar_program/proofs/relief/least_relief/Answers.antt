use Rattle.std.proofs.Common.{refl, sym, arith}
use Rattle.std.proofs.lemmas.Bool.{false≢true}
use Rattle.planar_program.specs.declared.relief.TheConstants.{GREATEST_RELIEF}
use Rattle.planar_line.proofs.Reliefs.{keep-less}
use Rattle.planar_program.proofs.Looser.{meeting-hard}
use Rattle.planar_program.proofs.relief.least_relief.Goals as goal

pub optimum-requires-clause-bounds : goal.optimum-requires-clause-bounds
optimum-requires-clause-bounds c = keep-less c.args.hard c.loop-relief.relief GREATEST_RELIEF c.args.planes.now (omega arith) c.requires.bounds

pub returns-in-Ok-clause-none : goal.returns-in-Ok-clause-none
returns-in-Ok-clause-none c =
    let met = meeting-hard c.args.hard c.args.planes.now c.requires.hard c.loop-relief.relief c.in-Ok.point c.in-Ok.ensures.nearest.meets in
    (λ e. absurd (false≢true (sym e)), λ h. absurd (h c.in-Ok.point met))

pub returns-clause-none : goal.returns-clause-none
returns-clause-none c = (
  λ e p m.
      let met = c.requires.enough (p, m) in
      c.loop-relief.invariant.empty GREATEST_RELIEF (omega arith) met.0 met.1,
  λ h. refl,
)
