-- What clap keeps of the options given so far.
use Rattle.std.proofs.Common.{◌≡◌, ◌∙◌, Bool, true, false, cond, ◌||◌, ◌&&◌, List, [], ◌∷◌, ◌++◌, map, Some, None, option_map, refl, sym, ap, find, true≢false, append-nil}
use Rattle.std.proofs.lemmas.List.{map-append}
use Rattle.std.specs.Str.{bytes_eq}
use Rattle.std.specs.Prelude.{option_and_then, slice_get}
use Rattle.std.specs.Option.{option_map_or}
use Rattle.clap.specs.Facts.{explicit_source}
use Rattle.clap.specs.Walk.{Row, at_row, first_of, has_row, more_values, used}
use Rattle.clap.specs.Faults.{use_fault}
use Rattle.clap.specs.Kinds.{Kinds, or_else}
use Rattle.clap.specs.Takes.{is_given as is_given_row}
use Rattle.clap.specs.declared.error.kind.ErrorKind.TheVariants as kind
use Rattle.clap.specs.declared.parser.matches.ValueSource.TheVariants.{CommandLine}
use Rattle.clap.specs.declared.builder.value_parser.Reading.TheVariants.{AsWritten}
use Rattle.clap.proofs.WalkLemmas.{list_any-map}
use Rattle.command_words.specs.Options.{Given, Known, Text, is_given, value_of}
use Rattle.command_words.proofs.Tables.{full_rule}

abbrev pub row_for : Given → Row
row_for g = record { id = g.name; values = g.value ∷ []; count = None; source = Some CommandLine; reading = AsWritten }

pub has_row_for : (given : List Given) (name : Text) → has_row name (map row_for given) ≡ is_given given name
has_row_for given name = sym (list_any-map (λ (r : Row). bytes_eq r.id name) row_for given)

-- a name that was not given leaves the rows, and is put at their end
rows_past : (given : List Given) (name : Text) (change : Row → List Row) (missing : List Row) → is_given given name ≡ false
    → at_row name change missing (map row_for given) ≡ map row_for given ++ missing
rows_past [] name change missing none = refl
rows_past (g ∷ gs) name change missing none = go (bytes_eq g.name name) none (rows_past gs name change missing)
  where
    go : (b : Bool) → (b || is_given gs name) ≡ false → (is_given gs name ≡ false → at_row name change missing (map row_for gs) ≡ map row_for gs ++ missing)
        → cond b (change (row_for g) ++ map row_for gs) (row_for g ∷ at_row name change missing (map row_for gs)) ≡ row_for g ∷ (map row_for gs ++ missing)
    go true e h = absurd (true≢false e)
    go false e h = ap (λ rs. row_for g ∷ rs) (h e)

pub used_rows : (k : Known) (given : List Given) (value : Text) → is_given given k.name ≡ false
    → used (full_rule k) (value ∷ []) (map row_for given) ≡ map row_for (given ++ record { name = k.name; value = value } ∷ [])
used_rows k given value none =
    let more : Row → List Row = more_values CommandLine (value ∷ []) in
    ap (at_row k.name more (row_for (record { name = k.name; value = value }) ∷ [])) (rows_past given k.name (λ _. []) [] none ∙ append-nil (map row_for given))
    ∙ rows_past given k.name more _ none ∙ sym (map-append row_for given (record { name = k.name; value = value } ∷ []))

-- clap refuses a second use, and nothing else of a use with one value
pub use_of_one : (k : Known) (given : List Given) (value : Text) → use_fault false (full_rule k) (value ∷ []) (map row_for given) ≡ cond (is_given given k.name) (kind.ArgumentConflict ∷ []) []
use_of_one k given value = ap again (has_row_for given k.name) ∙ same (is_given given k.name)
  where
    again : Bool → Kinds
    again b = or_else (cond (b && true) (kind.ArgumentConflict ∷ []) []) []

    same : (b : Bool) → again b ≡ cond b (kind.ArgumentConflict ∷ []) []
    same true = refl
    same false = refl

-- ---- what the caller reads

pub first_is : (given : List Given) (name : Text) → first_of name (map row_for given) ≡ value_of given name
first_is [] name = refl
first_is (g ∷ gs) name = go (bytes_eq g.name name) (first_is gs name)
  where
    go : (b : Bool) → first_of name (map row_for gs) ≡ value_of gs name
        → option_and_then (λ (r : Row). slice_get r.values 0) (cond b (Some (row_for g)) (find (λ (r : Row). bytes_eq r.id name) (map row_for gs)))
        ≡ option_map (λ (g : Given). g.value) (cond b (Some g) (find (λ (g : Given). bytes_eq g.name name) gs))
    go true e = refl
    go false e = e

pub given_is : (given : List Given) (name : Text) → is_given_row name (map row_for given) ≡ is_given given name
given_is [] name = refl
given_is (g ∷ gs) name = go (bytes_eq g.name name) (given_is gs name)
  where
    go : (b : Bool) → is_given_row name (map row_for gs) ≡ is_given gs name
        → option_map_or (λ (r : Row). explicit_source r.source) (cond b (Some (row_for g)) (find (λ (r : Row). bytes_eq r.id name) (map row_for gs))) false ≡ (b || is_given gs name)
    go true e = refl
    go false e = e
