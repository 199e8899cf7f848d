-- A whole parse of a command that has options alone.
use Rattle.std.proofs.Common.{◌≡◌, ◌∙◌, Bool, true, false, cond, ◌||◌, ◌&&◌, not, List, [], ◌∷◌, map, Option, Some, None, refl, sym, ap, ap₂, fold}
use Rattle.std.specs.List.{list_any}
use Rattle.clap.specs.Walk.{Held, Row, Rule, has_row, idle, nothing_held, settled, walk, walk_from, with_default}
use Rattle.clap.specs.Simple.{App, Shape, built, matches_of}
use Rattle.clap.specs.Faults.{built_fault, check_fault, default_fault, defaults_fault, fault_of, level_fault, walk_fault}
use Rattle.clap.specs.Kinds.{Kinds, or_else}
use Rattle.clap.specs.Takes.{is_given as is_given_row}
use Rattle.clap.specs.declared.error.kind.ErrorKind.TheVariants as kind
use Rattle.clap.proofs.FaultLemmas.{leaf_fault}
use Rattle.command_words.specs.Options.{Given, Known, Text, has_required, if_complete, is_given, options_after, options_of}
use Rattle.command_words.specs.Reading.{ArePlain, app_for}
use Rattle.command_words.proofs.Tables.{built_is, full_rule, leaf}
use Rattle.command_words.proofs.Rows.{given_is, row_for}
use Rattle.command_words.proofs.Turns.{one_of_nil, some≢nil, standing}
use Rattle.command_words.proofs.Walks.{Agrees, ends, held, rows_left, start_agrees}

-- ---- no option has a default

same_rows : (rows : List Row) (k : Known) → with_default rows (full_rule k) ≡ rows
same_rows rows k = go (has_row k.name rows)
  where
    go : (b : Bool) → cond b rows rows ≡ rows
    go true = refl
    go false = refl

no_fault : (rows : List Row) (k : Known) → default_fault rows (full_rule k) ≡ []
no_fault rows k = go (has_row k.name rows) _
  where
    go : (b : Bool) (x : Kinds) → cond (b || true) [] x ≡ []
    go true x = refl
    go false x = refl

no_defaults : (rows : List Row) (known : List Known) → defaults_fault rows (map full_rule known) ≡ []
unfolding defaults_fault
no_defaults rows [] = refl
no_defaults rows (k ∷ ks) = ap₂ (λ first now. or_else first (defaults_fault now (map full_rule ks))) (no_fault rows k) (same_rows rows k) ∙ no_defaults rows ks

rows_stay : (rows : List Row) (known : List Known) → fold with_default rows (map full_rule known) ≡ rows
rows_stay rows [] = refl
rows_stay rows (k ∷ ks) = ap (λ now. fold with_default now (map full_rule ks)) (same_rows rows k) ∙ rows_stay rows ks

-- ---- what is required

missing_is : (given : List Given) (known : List Known) → list_any (λ (a : Rule). a.required && not (is_given_row a.id (map row_for given))) (map full_rule known) ≡ not (has_required known given)
missing_is given [] = refl
missing_is given (k ∷ ks) =
    ap₂ (λ b rest. (k.is_required && not b) || rest) (given_is given k.name) (missing_is given ks) ∙ go k.is_required (is_given given k.name) (has_required ks given)
  where
    go : (r b rest : Bool) → ((r && not b) || not rest) ≡ not ((not r || b) && rest)
    go true true rest = refl
    go true false rest = refl
    go false b rest = refl

-- ---- the whole

in_turn : (a b c : Kinds) → or_else (or_else a b) c ≡ or_else a (or_else b c)
in_turn [] b c = refl
in_turn (k ∷ ks) b c = refl

-- clap refuses the words where there are no options, and finds these otherwise
abbrev pub Reads : App → List Text → Option (List Given) → Type 0
Reads a words None = fault_of a words ≡ [] → ⊥
Reads a words (Some given) = (fault_of a words ≡ []) × (matches_of a words ≡ map row_for given)

module _ (name : Text) (known : List Known) (words : List Text) where
  abbrev rules : List Rule
  rules = map full_rule known

  abbrev s : Shape
  s = leaf name rules

  abbrev start : Rattle.clap.specs.Walk.Walk
  start = standing (held [] None) idle

  pub fault_is : fault_of (app_for name known) words ≡ level_fault s [] nothing_held words false []
  fault_is = ap (λ (a : App). built_fault a nothing_held words) (built_is name known) ∙ leaf_fault (record { top = s; subs = [] }) nothing_held words refl

  matches_are : matches_of (app_for name known) words ≡ rows_left s start words
  matches_are = ap (λ (a : App). Rattle.clap.specs.Walk.rows_after a.top.rules (Rattle.clap.specs.Simple.names_of a) words) (built_is name known)
      ∙ rows_stay (rows_left s start words) known

  -- the walk's faults come first, then what is missing
  level_is : level_fault s [] nothing_held words false []
      ≡ or_else (ends s start words) (or_else (defaults_fault (rows_left s start words) rules) (check_fault s (fold with_default (rows_left s start words) rules) false))
  level_is = sym (in_turn (walk_fault s [] start words) _ _)

  level_then : (given : List Given) → ends s start words ≡ [] → rows_left s start words ≡ map row_for given
      → level_fault s [] nothing_held words false [] ≡ cond (has_required known given) [] (kind.MissingRequiredArgument ∷ [])
  level_then given none rows =
      level_is ∙ ap₂ (λ a b. or_else a (or_else b (check_fault s (fold with_default (rows_left s start words) rules) false))) none (no_defaults (rows_left s start words) known)
      ∙ ap (λ rs. check_fault s rs false) (rows_stay (rows_left s start words) known ∙ rows)
      ∙ ap (λ b. cond b (kind.MissingRequiredArgument ∷ []) []) (missing_is given known) ∙ flipped (has_required known given)
    where
      flipped : (b : Bool) → cond (not b) (kind.MissingRequiredArgument ∷ []) [] ≡ cond b [] (kind.MissingRequiredArgument ∷ [])
      flipped true = refl
      flipped false = refl

  -- clap reads exactly the options of the grammar
  pub options_read : ArePlain words → Reads (app_for name known) words (options_of known words)
  options_read plain = go (options_after known [] None words) (start_agrees name known words plain)
    where
      checked : (given : List Given) → ends s start words ≡ [] → rows_left s start words ≡ map row_for given → (b : Bool) → has_required known given ≡ b
          → Reads (app_for name known) words (cond b (Some given) None)
      checked given none rows true all = (fault_is ∙ level_then given none rows ∙ ap (λ b. cond b [] (kind.MissingRequiredArgument ∷ [])) all, matches_are ∙ rows)
      checked given none rows false some = λ e.
          some≢nil _ _ (sym (fault_is ∙ level_then given none rows ∙ ap (λ b. cond b [] (kind.MissingRequiredArgument ∷ [])) some) ∙ e)

      go : (o : Option (List Given)) → Agrees s start words o → Reads (app_for name known) words (if_complete known o)
      go None bad = λ e. bad (one_of_nil _ _ (sym (fault_is ∙ level_is) ∙ e))
      go (Some given) agrees = checked given agrees.0 agrees.1 (has_required known given) refl
