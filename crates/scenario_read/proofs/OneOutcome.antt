-- Records that are accepted as a scenario have no cause, and stand for no other scenario.
use Rattle.std.proofs.Common.{◌≡◌, ◌∙◌, inl, inr, sym, ℕ, List, subst, Ok}
use Rattle.std.specs.List.{All}
use Rattle.exact_algebra.proofs.Elements.{all_at}
use Rattle.crowd_data.specs.declared.agent.Agent.{Agent}
use Rattle.crowd_data.specs.Scenario.{Parts}
use Rattle.crowd_data.specs.Walls.{IsClear}
use Rattle.scenario_read.specs.declared.cause.Cause.{Cause}
use Rattle.crowd_data.specs.Standing.{AllClear}
use Rattle.scenario_read.specs.Reading.{IsAccepted, IsRefusedFor, outcome}
use Rattle.scenario_read.specs.Records.{Record}

pub same_parts : (rows : List Record) (a b : Parts) → outcome rows ≡ Ok a → outcome rows ≡ Ok b → a ≡ b
same_parts rows a b e f = let g = sym e ∙ f in cc g

pub accepted_or_refused : (rows : List Record) (scenario : Parts) (index : ℕ) (cause : Cause) → IsAccepted rows scenario → IsRefusedFor rows index cause → ⊥
accepted_or_refused rows scenario index cause ok (inl e) = let read = ok.read in cc (read, e)
accepted_or_refused rows scenario index cause ok (inr on) =
    let clear = subst (λ (s : Parts). AllClear s.agents s.segments) (same_parts rows scenario on.scenario ok.read on.read) ok.clear in
    let o = on.on in
    o.touched
    (all_at (IsClear o.agent.pos o.agent.radius) _ _ o.segment (all_at (λ (agent : Agent). All (IsClear agent.pos agent.radius) on.scenario.segments) _ _ o.agent clear o.agent_is) o.segment_is)
