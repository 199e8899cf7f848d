-- The log of publishes: the rule of its word, and the history that its entries tell.
use Rattle.std.specs.Prelude.{ℕ, ◌≡◌, ◌==◌, Bool, true, false, List, [], ◌∷◌, ◌++◌, length, MatchBool}
use Rattle.logbook.specs.Pages.{Book, Cell, Named, View}
use Rattle.logbook.specs.Pages
use Rattle.crowd_data.specs.Scenario.{Parts}
use Rattle.published_frames.specs.declared.entry.Step.{Step}
use Rattle.published_frames.specs.declared.entry.Entry.{Entry}
use Rattle.published_frames.specs.declared.entry.Entry.TheVariants.{Start, Attempt, Success}

-- the first word is the length of the log. A book has two words, of which this log leaves the second at 0
pub record IsCounted (cells : List Cell) (log : List Entry) : Type 0 where
  pub words : cells ≡ (length log, true) ∷ (0, true) ∷ []

-- the word that holds the length of a log
abbrev pub length_word : Book → Named
length_word book = record { tracked = true; key = 0; book = book }

-- the entry was added to all that had been seen; or the log was longer, and was seen
abbrev pub AddsEntry : Pages.Step Entry → View Entry ℕ → ℕ → View Entry ℕ → Type 0
AddsEntry step before found after = MatchBool (found == step.old) (after.0 ≡ before.0 ++ step.ask ∷ []) (length after.0 ≡ found)

-- what a log tells: the history that is published, the history with the step that was attempted last, whether nothing
-- was attempted since the last publish, and the scenario
pub record Account : Type 0 where
  pub published : List Step
  pub attempted : List Step
  pub is_settled : Bool
  pub scenario : Parts

abbrev pub after_entry : Account → Entry → Account
after_entry told (Start scenario) = record { published = told.attempted; attempted = told.attempted; is_settled = true; scenario = scenario }
after_entry told (Attempt step) = record { published = told.published; attempted = told.published ++ step ∷ []; is_settled = false; scenario = told.scenario }
after_entry told Success = record { published = told.attempted; attempted = told.attempted; is_settled = true; scenario = told.scenario }

abbrev pub after_entries : Account → List Entry → Account
after_entries told [] = told
after_entries told (entry ∷ rest) = after_entries (after_entry told entry) rest

-- no scenario
abbrev pub no_parts : Parts
no_parts = record { version = 0; ring = 0; steps = 0; agents = []; segments = []; posts = []; goals = [] }

-- what a log without entries tells
abbrev pub no_account : Account
no_account = record { published = []; attempted = []; is_settled = true; scenario = no_parts }

abbrev pub account_of : List Entry → Account
account_of log = after_entries no_account log

abbrev pub published_in : List Entry → List Step
published_in log = (account_of log).published

abbrev pub attempted_in : List Entry → List Step
attempted_in log = (account_of log).attempted

abbrev pub is_settled : List Entry → Bool
is_settled log = (account_of log).is_settled

abbrev pub scenario_in : List Entry → Parts
scenario_in log = (account_of log).scenario
