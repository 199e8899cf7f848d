-- The root's and the claimers' views in a step.
use Rattle.std.proofs.Common.{◌≡◌, ℕ, ◌+◌, ◌-◌, List, [], ap, arith}
use Rattle.atomic_table.specs.Seated.{TableId}
use Rattle.crowd_data.specs.Scenario.{Parts}
use Rattle.work_claim.specs.declared.view.RoundView.{RoundView}
use Rattle.work_claim.specs.Views.{lending}
use Rattle.frame_step.specs.Workers.{IsEquipped, lending_to}
use Rattle.frame_step.specs.declared.worker.Worker.{Worker}

-- a claimer that drew nothing
pub drew_none : (v : RoundView) → v.drawn ≡ [] → v ≡ record v { drawn = [] }
drew_none v e = ap (λ (xs : List ℕ). record v { drawn = xs }) e

pub lending_to-none : (v : RoundView) → v ≡ lending_to v 0
lending_to-none v = let a : v.parts ≡ v.parts - 0 = omega arith in let b : v.lent ≡ v.lent + 0 = omega arith in λ i. record v { parts = a i; lent = b i }

pub lending_to-more : (v : RoundView) (i : ℕ) → lending (lending_to v i) ≡ lending_to v (i + 1)
lending_to-more v i = let a : v.parts - i - 1 ≡ v.parts - (i + 1) = omega arith in let b : v.lent + i + 1 ≡ v.lent + (i + 1) = omega arith in λ j. record v { parts = a j; lent = b j }

-- the round is the same for all whom the root lends a claimer
pub same_round : (id : TableId) (v : RoundView) (i : ℕ) (scenario : Parts) (worker : Worker) → IsEquipped id (lending_to v i) scenario worker → IsEquipped id v scenario worker
same_round id v i scenario worker e = record { room = e.room; none = e.none; claimer = e.claimer }
