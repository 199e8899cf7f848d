-- How the records of a text come one at a time.
use Rattle.std.proofs.Common.{◌≡◌, ◌<◌, ◌≤◌, ◌+◌, ◌-◌, ℕ, zero, suc, List, [], ◌∷◌, length, Bool, true, false, cond, Some, None, refl, ap, inl, inr, arith, add-one}
use Rattle.std.specs.Prelude.{◌==◌, ◌||◌}
use Rattle.std.specs.declared.option.Option.{Option}
use Rattle.csv.specs.Machine.{Read, in_field, start_field, start_record, step, is_end, ends_at_end, next_record, fields_after, field_after}
use Rattle.csv.specs.Reading.{ExplainsRead, Reached, ReadRecord, default_config, records_from, records_next, source_of, stops_reader}
use Rattle.csv.specs.declared.error.ErrorKind.{ErrorKind}
use Rattle.csv.specs.declared.error.ErrorKind.TheVariants as kind
use Rattle.csv.specs.declared.reader.Reader.{Reader}
use Rattle.csv.specs.declared.parser.State.{State}
use Rattle.csv.specs.declared.parser.State.TheVariants as st
use Rattle.csv.specs.declared.parser.Action.{Action}
use Rattle.csv.specs.declared.parser.Action.TheVariants as act
use Rattle.csv.proofs.ReadFacts.{rows-end, rows-more}
use Rattle.std.proofs.lemmas.Option.{same_Some}
use Rattle.exact_algebra.proofs.Choices.{chosen}
use Rattle.scenario_read.specs.Records.{records_after}

-- ---- a record ends between records

record Safe (p : State × Action) : Type 0 where
  at_end : is_end p.1 ≡ true → ends_at_end p.0 ≡ false

safe_if : (b : Bool) {x y : State × Action} → Safe x → Safe y → Safe (cond b x y)
safe_if true p q = p
safe_if false p q = q

skips : (s : State) → Safe (s, act.Skip)
skips s = record { at_end = λ e. cc e }

copies : (s : State) → Safe (s, act.Copy)
copies s = record { at_end = λ e. cc e }

splits : (s : State) → Safe (s, act.EndField)
splits s = record { at_end = λ e. cc e }

ends : (b : Bool) → Safe (cond b st.AfterCr st.StartRecord, act.EndRecord)
ends true = record { at_end = λ e. refl }
ends false = record { at_end = λ e. refl }

in_field_safe : (c : ℕ) → Safe (in_field default_config c)
in_field_safe c = safe_if (c == 44) (splits st.StartField) (safe_if ((c == 13) || (c == 10)) (ends (c == 13)) (copies st.InField))

start_field_safe : (c : ℕ) → Safe (start_field default_config c)
start_field_safe c = safe_if (c == 34) (skips st.InQuoted) (in_field_safe c)

start_record_safe : (c : ℕ) → Safe (start_record default_config c)
start_record_safe c = safe_if ((c == 13) || (c == 10)) (skips st.StartRecord) (start_field_safe c)

step_safe : (s : State) (c : ℕ) → Safe (step default_config s c)
step_safe st.StartRecord c = start_record_safe c
step_safe st.StartField c = start_field_safe c
step_safe st.InField c = in_field_safe c
step_safe st.InQuoted c = safe_if (c == 34) (skips st.AfterQuote) (copies st.InQuoted)
step_safe st.InEscape c = copies st.InQuoted
step_safe st.AfterQuote c = safe_if (c == 34) (copies st.InQuoted) (in_field_safe c)
step_safe st.InComment c = safe_if (c == 10) (skips st.StartRecord) (skips st.InComment)
step_safe st.AfterCr c = safe_if (c == 10) (skips st.StartRecord) (start_record_safe c)

-- ---- what one record takes

between : (s : State) (fields : List (List ℕ)) (field xs : List ℕ) (p : Read) → next_record default_config s fields field xs ≡ Some p → ends_at_end p.1 ≡ false
unfolding next_record
between s fields field [] p e = elim (chosen (ends_at_end s) _ _ _ e) [
  | inl h ↦ rw (← same_Some _ _ h.1) refl
  | inr h ↦ cc h.1
]
between s fields field (c ∷ rest) p e = elim (chosen (is_end (step default_config s c).1) _ _ _ e) [
  | inl h ↦ rw (← same_Some _ _ h.1) ((step_safe s c).at_end h.0)
  | inr h ↦ between (step default_config s c).0 (fields_after (step default_config s c).1 fields field) (field_after (step default_config s c).1 c field) rest p h.1
]

shorter : (s : State) (fields : List (List ℕ)) (field xs : List ℕ) (p : Read) → next_record default_config s fields field xs ≡ Some p → length p.2 ≤ length xs - 1
unfolding next_record
shorter s fields field [] p e = elim (chosen (ends_at_end s) _ _ _ e) [
  | inl h ↦ rw (← same_Some _ _ h.1) (omega arith)
  | inr h ↦ cc h.1
]
shorter s fields field (c ∷ rest) p e = elim (chosen (is_end (step default_config s c).1) _ _ _ e) [
  | inl h ↦ rw (← same_Some _ _ h.1) (omega arith)
  | inr h ↦ let less = shorter (step default_config s c).0 (fields_after (step default_config s c).1 fields field) (field_after (step default_config s c).1 c field) rest p h.1 in omega arith
]

not_empty : (s : State) (xs : List ℕ) (p : Read) → ends_at_end s ≡ false → next_record default_config s [] [] xs ≡ Some p → 0 < length xs
unfolding next_record
not_empty s [] p h e = elim (chosen (ends_at_end s) _ _ _ e) [ inl k ↦ cc (h, k.0) | inr k ↦ cc k.1 ]
not_empty s (c ∷ rest) p h e = omega arith

-- ---- as many turns as there are bytes are enough

same_next : (n m : ℕ) (s : State) (xs : List ℕ)
    → ((t : State) (ys : List ℕ) → ends_at_end t ≡ false → length ys < n → length ys < m → records_from default_config n t ys ≡ records_from default_config m t ys)
    → ends_at_end s ≡ false → length xs < suc n → length xs < suc m
    → (o : Option Read) → next_record default_config s [] [] xs ≡ o → records_next (records_from default_config n) o ≡ records_next (records_from default_config m) o
same_next n m s xs ih h a b None e = refl
same_next n m s xs ih h a b (Some p) e =
    let less = shorter s [] [] xs p e in
    let some = not_empty s xs p h e in
    ap (λ t. p.0 ∷ t) (ih p.1 p.2 (between s [] [] xs p e) (omega arith) (omega arith))

enough : (n m : ℕ) (s : State) (xs : List ℕ) → ends_at_end s ≡ false → length xs < n → length xs < m
    → records_from default_config n s xs ≡ records_from default_config m s xs
unfolding records_from
enough zero m s xs h a b = absurd (omega arith)
enough (suc n) zero s xs h a b = absurd (omega arith)
enough (suc n) (suc m) s xs h a b = same_next n m s xs (enough n m) h a b (next_record default_config s [] [] xs) refl

-- ---- one record at a time

pub records_more : (s : State) (xs : List ℕ) (p : Read) → ends_at_end s ≡ false → next_record default_config s [] [] xs ≡ Some p
    → records_after s xs ≡ p.0 ∷ records_after p.1 p.2
unfolding records_after records_from
records_more s xs p h e =
    let less = shorter s [] [] xs p e in
    let some = not_empty s xs p h e in
    rw (add-one, e) (ap (λ t. p.0 ∷ t) (enough (length xs) (length p.2 + 1) p.1 p.2 (between s [] [] xs p e) (omega arith) (omega arith)))

pub records_none : (s : State) (xs : List ℕ) → next_record default_config s [] [] xs ≡ None → records_after s xs ≡ []
unfolding records_after records_from
records_none s xs e = rw (add-one, e) refl

-- ---- a record takes a byte at least

at_most_next : (n : ℕ) (s : State) (xs : List ℕ)
    → ((t : State) (ys : List ℕ) → ends_at_end t ≡ false → length (records_from default_config n t ys) ≤ length ys)
    → ends_at_end s ≡ false → (o : Option Read) → next_record default_config s [] [] xs ≡ o → length (records_next (records_from default_config n) o) ≤ length xs
at_most_next n s xs ih h None e = omega arith
at_most_next n s xs ih h (Some p) e =
    let less = shorter s [] [] xs p e in
    let some = not_empty s xs p h e in
    let rest = ih p.1 p.2 (between s [] [] xs p e) in
    omega arith

at_most : (n : ℕ) (s : State) (xs : List ℕ) → ends_at_end s ≡ false → length (records_from default_config n s xs) ≤ length xs
unfolding records_from
at_most zero s xs h = omega arith
at_most (suc n) s xs h = at_most_next n s xs (at_most n) h (next_record default_config s [] [] xs) refl

pub records_at_most : (s : State) (xs : List ℕ) → ends_at_end s ≡ false → length (records_after s xs) ≤ length xs
unfolding records_after
records_at_most s xs h = at_most (length xs + 1) s xs h

-- ---- one read of a reader

one_more : (s t : State) (y z : List ℕ) (f : List (List ℕ)) (p : Read) → ends_at_end s ≡ false → next_record default_config s [] [] y ≡ Some p
    → f ≡ p.0 → p.1 ≡ t → p.2 ≡ z → (records_after s y ≡ f ∷ records_after t z) × (ends_at_end t ≡ false) × (length z < length y)
one_more s t y z f p h next is_f is_t is_z =
    let less = shorter s [] [] y p next in
    let some = not_empty s y p h next in
    rw (is_f, ← is_t, ← is_z) (records_more s y p h next, between s [] [] y p next, omega arith)

-- a read that found a record
pub read_one : {R : Type 0} (rem : R → Option (List ℕ)) (a b : Reader R) (f : List (List ℕ)) (y : List ℕ)
    → a.config ≡ default_config → source_of rem a ≡ Some y → ends_at_end a.state ≡ false → ReadRecord rem a b true f
    → (z : List ℕ) × (source_of rem b ≡ Some z) × (records_after a.state y ≡ f ∷ records_after b.state z) × (ends_at_end b.state ≡ false) × (length z < length y)
unfolding Reached
read_one rem a b f y ec ex h r =
    let (z, at_z, reached) = rows-more rem a b f default_config a.state y y [] ec ex (refl, refl) r in
    let (p, next, is_f, rest) = reached in
    let (more, safe, less) = one_more a.state b.state y z f p h next is_f rest.0 rest.1 in
    (z, at_z, more, safe, less)

-- a read that found none
pub read_none : {R : Type 0} (rem : R → Option (List ℕ)) (a b : Reader R) (f : List (List ℕ)) (y : List ℕ)
    → a.config ≡ default_config → source_of rem a ≡ Some y → ReadRecord rem a b false f → records_after a.state y ≡ []
read_none rem a b f y ec ex r = records_none a.state y (rows-end rem a b f default_config y ec ex r)

-- a reader that takes records of any lengths fails for memory, or by the reader underneath
pub flexible_reads : {R : Type 0} (rem : R → Option (List ℕ)) (a b : Reader R) (k : ErrorKind) → a.flexible ≡ true → ExplainsRead rem a b false k → stops_reader k ≡ true
flexible_reads rem a b (kind.Io e) f why = refl
flexible_reads rem a b kind.OutOfMemory f why = refl
flexible_reads rem a b (kind.UnequalLengths pos expected len) f why = let g = why.0 in cc (f, g)
flexible_reads rem a b (kind.Utf8 pos err) f why = let g = why.0 in cc g
flexible_reads rem a b (kind.Serialize text) f why = absurd why
flexible_reads rem a b (kind.Deserialize pos err) f why = absurd why
