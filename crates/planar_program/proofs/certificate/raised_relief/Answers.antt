use Rattle.std.proofs.Common.{⊎_elim, arith}
use Rattle.std.proofs.lemmas.Bool.{cases_lt}
use Rattle.planar_program.proofs.Looser.{meeting-looser}
use Rattle.planar_program.proofs.certificate.raised_relief.Goals as goal

pub returns-in-Some-clause-empty : goal.returns-in-Some-clause-empty
returns-in-Some-clause-empty c = λ d l p meets. ⊎_elim
    (λ less. c.in-Some.ensures d (c.least_enough.ensures d less) p meets)
    (λ more. c.requires.empty p (meeting-looser c.args.hard c.args.planes.now c.requires.hard d c.args.relief p (omega arith) meets))
    (cases_lt d c.least_enough.result)

pub returns-in-None-clause-empty : goal.returns-in-None-clause-empty
returns-in-None-clause-empty c = λ d l p meets. c.requires.empty p (meeting-looser c.args.hard c.args.planes.now c.requires.hard d c.args.relief p (omega arith) meets)
