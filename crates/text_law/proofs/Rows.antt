-- Rows of fields that call for no quotes, joined by commas and ended by a line feed: each reads as its fields.
use Rattle.std.proofs.Common.{◌≡◌, ◌∙◌, ap, refl, ℕ, List, [], ◌∷◌, ◌++◌, Some, append_assoc, subst, map, flat_map}
use Rattle.std.specs.List.{All, AllByRecursion}
use Rattle.std.proofs.lemmas.List.Elements.{All-head, All-tail}
use Rattle.csv.specs.Machine.{next_record}
use Rattle.csv.specs.Reading.{default_config}
use Rattle.csv.specs.Writing.{default_writer, fields_text, is_blank, row_text}
use Rattle.csv.specs.declared.parser.State.TheVariants as st
use Rattle.csv.proofs.RoundTrip.{read-write-many}
use Rattle.scenario_read.specs.Records.{Record, records_after}
use Rattle.scenario_read.proofs.RecordSteps.{records_more}
use Rattle.text_law.proofs.Numerals.{IsPlain}

-- none of the fields calls for quotes
abbrev pub ArePlain : Record → Type 0
ArePlain fields = AllByRecursion IsPlain fields

-- fields, each behind a comma, then a line feed, then a text
abbrev pub fields_then : Record → List ℕ → List ℕ
fields_then [] tail = 10 ∷ tail
fields_then (x ∷ xs) tail = 44 ∷ (x ++ fields_then xs tail)

-- the same as csv writes it
written : (xs : Record) (tail : List ℕ) → ArePlain xs → fields_text default_writer xs ++ (10 ∷ tail) ≡ fields_then xs tail
unfolding fields_text
written [] tail h = refl
written (x ∷ xs) tail h =
    rw h.0 (ap (λ (t : List ℕ). 44 ∷ t) (append_assoc x (fields_text default_writer xs) (10 ∷ tail) ∙ ap (λ (t : List ℕ). x ++ t) (written xs tail h.1)))

-- a row of plain fields is what csv writes
row_is : (x y : List ℕ) (ys : Record) (tail : List ℕ) → ArePlain (x ∷ y ∷ ys) → row_text default_writer (x ∷ y ∷ ys) ++ tail ≡ x ++ fields_then (y ∷ ys) tail
unfolding is_blank
row_is x y ys tail h =
    let rest = fields_text default_writer (y ∷ ys) in
    rw h.0 (append_assoc (x ++ rest) (10 ∷ []) tail ∙ append_assoc x rest (10 ∷ tail) ∙ ap (λ (t : List ℕ). x ++ t) (written (y ∷ ys) tail h.1))

-- a row of two fields or more is the next record
pub row_read : (x y : List ℕ) (ys : Record) (tail : List ℕ) → ArePlain (x ∷ y ∷ ys)
    → records_after st.StartRecord (x ++ fields_then (y ∷ ys) tail) ≡ (x ∷ y ∷ ys) ∷ records_after st.StartRecord tail
row_read x y ys tail h =
    records_more st.StartRecord (x ++ fields_then (y ∷ ys) tail) (x ∷ y ∷ ys, st.StartRecord, tail) refl
    (subst (λ (t : List ℕ). next_record default_config st.StartRecord [] [] t ≡ Some (x ∷ y ∷ ys, st.StartRecord, tail)) (row_is x y ys tail h) (read-write-many x y ys tail))

-- lines one after another, each read as its row
module _ {A : Type 0} (line : A → List ℕ) (row : A → Record) (P : A → Type 0)
    (reads : (x : A) (tail : List ℕ) → P x → records_after st.StartRecord (line x ++ tail) ≡ row x ∷ records_after st.StartRecord tail) where
  pub lines_read : (xs : List A) (tail : List ℕ) → All P xs → records_after st.StartRecord (flat_map line xs ++ tail) ≡ map row xs ++ records_after st.StartRecord tail
  lines_read [] tail h = refl
  lines_read (x ∷ xs) tail h =
      ap (records_after st.StartRecord) (append_assoc (line x) (flat_map line xs) tail)
      ∙ reads x (flat_map line xs ++ tail) (All-head P x xs h)
      ∙ ap (λ t. row x ∷ t) (lines_read xs tail (All-tail P x xs h))
