-- What the end of the records says of all of them.
use Rattle.std.proofs.Common.{◌≡◌, ◌∙◌, ◌⊎◌, inl, inr, ◌+◌, ap, sym, refl, arith, ℕ, true, false, List, [], ◌∷◌, length, Some, None, Ok, Err}
use Rattle.std.specs.Prelude.{Result, IfOk, IfErr}
use Rattle.std.specs.declared.option.Option.{Option}
use Rattle.scenario_read.specs.declared.cause.Cause.{Cause}
use Rattle.scenario_read.specs.declared.cause.ScenarioFault.{ScenarioFault}
use Rattle.scenario_read.specs.declared.cause.ScenarioFault.TheVariants.{NoMemory, At}
use Rattle.scenario_read.specs.declared.part.Part.{Part}
use Rattle.scenario_read.specs.declared.refusal.Refusal.{Refusal}
use Rattle.scenario_read.specs.Part.{ends_part, part_of}
use Rattle.scenario_read.specs.Read.{Read}
use Rattle.scenario_read.specs.Reading.{HasFault, IsAccepted, IsRefusedFor, outcome}
use Rattle.scenario_read.specs.Records.{Record}
use Rattle.scenario_read.specs.Remaining.{EndsAccepted, EndsOnSegment, EndsRefused, outcome_with}

-- ---- the records before the first of a kind

pub part_none : (stop : Option (List ℕ)) → part_of stop [] ≡ []
part_none None = refl
part_none (Some kind) = refl

pub part_ends : (stop : Option (List ℕ)) (row : Record) (rest : List Record) → ends_part stop row ≡ true → part_of stop (row ∷ rest) ≡ []
part_ends None row rest e = cc e
part_ends (Some kind) row rest e = rw e refl

pub part_goes_on : (stop : Option (List ℕ)) (row : Record) (rest : List Record) → ends_part stop row ≡ false → part_of stop (row ∷ rest) ≡ row ∷ part_of stop rest
part_goes_on None row rest e = refl
part_goes_on (Some kind) row rest e = rw e refl

-- ---- the end of the records

module _ (rows rest : List Record) (k : ℕ) (none : rest ≡ []) (p : Read) (refusal : Option Refusal) (same : outcome_with p refusal k rest ≡ outcome rows)
    (count : k + length rest ≡ length rows) where
  count_is : k ≡ length rows
  count_is = let size = ap (λ (rs : List Record). length rs) none in omega (arith, size, count)

  same_at_end : outcome_with p refusal k [] ≡ outcome rows
  same_at_end = ap (outcome_with p refusal k) (sym none) ∙ same

  by_cause : (index : ℕ) (cause : Cause) → (outcome_with p refusal k [] ≡ Err (index, cause)) ⊎ EndsOnSegment (outcome_with p refusal k []) k index cause → IsRefusedFor rows index cause
  by_cause index cause (inl e) = inl (sym same_at_end ∙ e)
  by_cause index cause (inr h) =
      inr
      (record {
        scenario = h.scenario;
        who = h.who;
        which = h.which;
        read = sym same_at_end ∙ h.read;
        on = h.on;
        index_is = h.index_is ∙ count_is;
        cause_is = h.cause_is;
      })

  by_fault : (fault : ScenarioFault) → EndsRefused (outcome_with p refusal k []) k fault → HasFault rows fault
  by_fault NoMemory h = absurd h
  by_fault (At index cause) h = by_cause index cause h

  pub part_accepted : (r : Result Part ScenarioFault) → IfOk r (λ part. EndsAccepted (outcome_with p refusal k []) part.scenario) → IfOk r (λ part. IsAccepted rows part.scenario)
  part_accepted (Ok part) h = record { read = sym same_at_end ∙ h.read; clear = h.clear }
  part_accepted (Err e) h = tt

  pub part_counted : (r : Result Part ScenarioFault) → IfOk r (λ part. part.records ≡ k) → IfOk r (λ part. part.records ≡ length rows)
  part_counted (Ok part) h = h ∙ count_is
  part_counted (Err e) h = tt

  pub part_refused : (r : Result Part ScenarioFault) → IfErr r (EndsRefused (outcome_with p refusal k []) k) → IfErr r (HasFault rows)
  part_refused (Ok part) h = tt
  part_refused (Err e) h = by_fault e h
