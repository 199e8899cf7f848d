use Rattle.std.proofs.Common.{◌∙◌, ◌++◌, ap, sym, append_assoc}
use Rattle.std.specs.Prelude.{codes, decimal}
use Rattle.orca_cli.specs.Status.{cause_text}
use Rattle.orca_cli.proofs.status.put_cause.Goals as goal

pub returns-in-NotANumber-clause-text : goal.returns-in-NotANumber-clause-text
unfolding cause_text
returns-in-NotANumber-clause-text c =
    c.put_number.ensures.text ∙ ap (λ t. t ++ decimal c.in-NotANumber.field) c.put-in-NotANumber.ensures
    ∙ append_assoc c.args.line.now (codes "NotANumber field ") (decimal c.in-NotANumber.field) ∙ ap (λ k. c.args.line.now ++ cause_text k) (sym c.in-NotANumber.is)

pub returns-in-OutOfRange-clause-text : goal.returns-in-OutOfRange-clause-text
unfolding cause_text
returns-in-OutOfRange-clause-text c =
    c.put_number-in-OutOfRange.ensures.text ∙ ap (λ t. t ++ decimal c.in-OutOfRange.field) c.put-in-OutOfRange.ensures
    ∙ append_assoc c.args.line.now (codes "OutOfRange field ") (decimal c.in-OutOfRange.field) ∙ ap (λ k. c.args.line.now ++ cause_text k) (sym c.in-OutOfRange.is)

pub returns-in-AgentOnSegment-clause-text : goal.returns-in-AgentOnSegment-clause-text
unfolding cause_text
returns-in-AgentOnSegment-clause-text c =
    let line = c.args.line.now in
    let agent = decimal c.in-AgentOnSegment.agent in
    let segment = decimal c.in-AgentOnSegment.segment in
    c.put_number-in-AgentOnSegment-2.ensures.text
    ∙ ap (λ t. t ++ segment) (c.put-in-AgentOnSegment-2.ensures ∙ ap (λ t. t ++ codes " segment ") (c.put_number-in-AgentOnSegment.ensures.text ∙ ap (λ t. t ++ agent) c.put-in-AgentOnSegment.ensures))
    ∙ ap (λ t. t ++ segment) (ap (λ t. t ++ codes " segment ") (append_assoc line (codes "AgentOnSegment agent ") agent) ∙ append_assoc line (codes "AgentOnSegment agent " ++ agent) (codes " segment "))
    ∙ append_assoc line ((codes "AgentOnSegment agent " ++ agent) ++ codes " segment ") segment
    ∙ ap (λ k. line ++ cause_text k) (sym c.in-AgentOnSegment.is)
