use Rattle.std.proofs.Common.{◌≡◌, refl, ◌≤◌, ◌+◌, Bool, true, false, ap, subst, arith, length, List, MatchBool}
use Rattle.std.proofs.lemmas.Bool.Decides.{nat_tests}
use mathlib.Core.List.{IsPrefix}
use Rattle.published_frames.specs.declared.entry.Entry.{Entry}
use Rattle.published_frames.specs.History.{StartsWith}
use Rattle.published_frames.specs.Log.{attempted_in, published_in}
use Rattle.published_frames.proofs.Accounts.{attempted_reaches}
use Rattle.published_frames.proofs.log_prefix.LogPrefix.is_within.Goals as goal

by_answer : (F : Type 0) (b : Bool) → (b ≡ true → F) → MatchBool b F (Unit {0})
by_answer F true h = h refl
by_answer F false h = tt

pub returns : goal.returns
returns c =
    let this = c.args.self.now in
    let other = c.args.other.now in
    let both = c.learn.new.self.log in
    let begins : IsPrefix this.seen.log both = subst (λ (l : List Entry). IsPrefix l both) (ap (λ s. s.log) c.again-both.ensures) c.learn.ensures.2 in
    let reaches : length this.seen.log ≤ length other.seen.log + 1 → StartsWith (attempted_in other.seen.log) (published_in this.seen.log)
    = λ le. attempted_reaches this.seen.log other.seen.log both begins c.learn.ensures.3 le c.requires.settled in
    by_answer (StartsWith (attempted_in other.seen.log) (published_in this.seen.log)) _
    (λ is. reaches (let a = c.saturating_sub.ensures in let b = c.args.self.now.counted in let d = c.args.other.now.counted in grind (arith, nat_tests)))
