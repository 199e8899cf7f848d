-- What each step at the counter tells.
use Rattle.std.specs.Prelude.{◌≡◌, ℕ, ◌+◌, ◌<◌, ◌≤◌, ◌⊎◌, [], ◌∷◌, ◌++◌, length}
use Rattle.atomic_table.specs.Table.{Me, Step}
use Rattle.work_claim.specs.declared.view.RoundView.{RoundView}
use Rattle.work_claim.specs.Views.{IsWholeRound, begun}

-- a seat draws the number k of the round. It drew at most k numbers before
pub record DrawsNumber (v w : RoundView) (k : ℕ) : Type 0 where
  pub below : k < v.pieces
  pub view : w ≡ record v { drawn = v.drawn ++ k ∷ [] }
  pub earlier : length v.drawn ≤ k

-- a seat draws a number that is past the round's
pub record FindsNone (v w : RoundView) : Type 0 where
  pub view : w ≡ record v { own_ends = v.own_ends + 1; ends = v.ends + 1 }
  pub whole : IsWholeRound w

-- one addition to the counter, which was n
abbrev pub Draws : {S : Type 0} → Step S → Me S RoundView → ℕ → Me S RoundView → Type 0
Draws step m n m' = (m'.1 ≡ m.1) × (m.0.first ≤ n) × (((k : ℕ) × (n ≡ m.0.first + k) × DrawsNumber m.0 m'.0 k) ⊎ ((m.0.first + m.0.pieces ≤ n) × FindsNone m.0 m'.0))

-- a round begins at the counter's value n
abbrev pub Begins : {S : Type 0} → Step S → Me S RoundView → ℕ → Me S RoundView → Type 0
Begins step m n m' = (m'.1 ≡ m.1) × (m'.0 ≡ begun m.0 n)

-- nothing changes
abbrev pub Looks : {S : Type 0} → Step S → Me S RoundView → ℕ → Me S RoundView → Type 0
Looks step m n m' = (m' ≡ m) × IsWholeRound m.0
