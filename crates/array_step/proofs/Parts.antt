-- Parts one behind the other, and a part that has all agents.
use Rattle.std.proofs.Common.{◌≡◌, ◌∙◌, ℕ, ◌+◌, List, ◌++◌, drop, length, take, ap, sym, subst, arith}
use Rattle.std.proofs.Math.Seq.{take-add}
use Rattle.std.proofs.lemmas.List.{drop-drop, length-append, take_all}
use Rattle.array_step.specs.declared.agent.CrowdAgent.{CrowdAgent}
use Rattle.array_step.specs.declared.segment.CrowdSegment.{CrowdSegment}
use Rattle.array_step.specs.Steps.{IsPart, IsStep}
use Rattle.array_step.proofs.MovedAgents.{length-all_moved}
use Rattle.array_step.proofs.StepMade.{one_step}

-- two slices one behind the other make one
joined_slices : (first : ℕ) (a b list : List CrowdAgent) → a ≡ take (length a) (drop first list) → b ≡ take (length b) (drop (first + length a) list)
    → a ++ b ≡ take (length (a ++ b)) (drop first list)
joined_slices first a b list front back =
    let both : a ++ b ≡ take (length a) (drop first list) ++ take (length b) (drop (length a) (drop first list)) =
    λ i. front i ++ (back ∙ ap (take (length b)) (sym (drop-drop (length a) first list))) i in
    both ∙ sym (take-add (length a) (length b) (drop first list)) ∙ ap (λ n. take n (drop first list)) (sym (length-append a b))

pub joined : (agents : List CrowdAgent) (segments : List CrowdSegment) (ring first : ℕ) (a b : List CrowdAgent) → IsPart agents segments ring first a
    → IsPart agents segments ring (first + length a) b → IsPart agents segments ring first (a ++ b)
joined agents segments ring first a b one two =
    let same = one_step agents segments ring two.new one.new two.step one.step in
    record {
      new = one.new;
      step = one.step;
      part = joined_slices first a b one.new one.part (two.part ∙ ap (λ list. take (length b) (drop (first + length a) list)) same);
    }

pub whole : (agents : List CrowdAgent) (segments : List CrowdSegment) (ring : ℕ) (new : List CrowdAgent) → length new ≡ length agents → IsPart agents segments ring 0 new
    → IsStep agents segments ring new
whole agents segments ring new all one =
    let count = ap length one.step.moved ∙ length-all_moved agents one.step.next.bodies in
    subst (IsStep agents segments ring) (sym (one.part ∙ take_all (length new) one.new (omega (arith, count, all)))) one.step
