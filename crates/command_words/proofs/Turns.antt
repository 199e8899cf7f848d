-- What clap makes of one word, at a command that has options alone.
use Rattle.std.proofs.Common.{◌≡◌, ◌∙◌, ℕ, Bool, true, false, cond, nat_lt, List, [], ◌∷◌, map, length, drop, Option, Some, None, option_map, is_some, refl, sym, ap, ap₂, subst, arith, true≢false, slice_get, eqb-true, option_and_then, ◌==◌, chars, encode_utf8, encode_utf8_all, if◌then◌else◌}
use Rattle.std.specs.Str.{IsUtf8, bytes_eq}
use Rattle.std.specs.Option.{option_map_or}
use Rattle.std.proofs.lemmas.Slice.Eq.{bytes_eq-Decides}
use Rattle.std.proofs.lemmas.Str.{IsCharBoundary-after_ascii, IsUtf8-drop, chars-encodes}
use Rattle.clap.specs.Lexer.{long_of, short_of, short_of_rest}
use Rattle.clap.specs.Walk.{Held, Rule, Step, Waiting, Walk, after_flag, after_step, idle, long_met, long_or_other, option, option_word, positional, Row, next, reacted, settled, short_or_plain, trailing, walked}
use Rattle.clap.specs.Simple.{Shape}
use Rattle.clap.specs.Faults.{bundle_fault, bundle_step_fault, flag_word_fault, flags_fault, long_fault, positional_fault, react_fault, settle_fault, short_fault, step_fault, stray_fault, turn_fault}
use Rattle.clap.specs.Kinds.{Kinds, or_else}
use Rattle.clap.specs.declared.error.kind.ErrorKind.TheVariants as kind
use Rattle.command_words.specs.Options.{Known, Text}
use Rattle.command_words.proofs.Tables.{by_id, by_long, entry_of, full_rule, leaf, no_index, no_short}

abbrev pub dashes : Text
dashes = 45 ∷ 45 ∷ []

-- between two words, where no `--` and no subcommand came
abbrev pub standing : Held → Waiting → Walk
standing h waiting = record { held = h; waiting = waiting; position = 1; is_trailing = false; stopped = None }

abbrev pub met_by : List Rule → Waiting → Text → Held → Bool → Option (Text × Option Text) → Held × Step
met_by rules waiting word h b l = if b then (h, trailing 1) else long_or_other rules waiting word l h

abbrev pub turn_by : Shape → Waiting → Text → Held → Bool → Option (Text × Option Text) → Kinds
turn_by s waiting word h b l = or_else (if b then [] else flag_word_fault s.rules s.args_override_self l word h)
    (step_fault s 1 (met_by s.rules waiting word h b l).0 (met_by s.rules waiting word h b l).1)

abbrev walk_by : List Rule → Waiting → Text → Held → Bool → Option (Text × Option Text) → Walk
walk_by rules waiting word h b l = after_step rules word (standing h waiting) (met_by rules waiting word h b l).0 (met_by rules waiting word h b l).1

pub turn_is : (s : Shape) (waiting : Waiting) (word : Text) (h : Held) → turn_fault s [] (standing h waiting) word ≡ turn_by s waiting word h (bytes_eq word dashes) (long_of word)
turn_is s idle word h = refl
turn_is s (option id) word h = refl
turn_is s positional word h = refl

walk_is : (rules : List Rule) (waiting : Waiting) (word : Text) (h : Held) → walked rules [] (standing h waiting) word ≡ walk_by rules waiting word h (bytes_eq word dashes) (long_of word)
unfolding walked
walk_is rules idle word h = refl
walk_is rules (option id) word h = refl
walk_is rules positional word h = refl

pub or_nil : (a : Kinds) → or_else a [] ≡ a
or_nil [] = refl
or_nil (k ∷ ks) = refl

abbrev is_cons : {X : Type 0} → List X → Bool
is_cons [] = false
is_cons (x ∷ xs) = true

pub some≢nil : {X : Type 0} (x : X) (xs : List X) → x ∷ xs ≡ [] → ⊥
some≢nil x xs e = true≢false (ap is_cons e)

pub one_of_nil : (a b : Kinds) → or_else a b ≡ [] → a ≡ []
one_of_nil [] b e = refl
one_of_nil (k ∷ ks) b e = e

-- a text that is not empty has a first character
first_char : (b : ℕ) (bs : List ℕ) → IsUtf8 (b ∷ bs) → (x : ℕ) × (slice_get (chars (b ∷ bs)) 0 ≡ Some x)
first_char b bs (cs, is) = go cs is.1 (ap chars (sym is.1) ∙ chars-encodes cs is.0)
  where
    go : (cs : List ℕ) → encode_utf8_all cs ≡ b ∷ bs → chars (b ∷ bs) ≡ cs → (x : ℕ) × (slice_get (chars (b ∷ bs)) 0 ≡ Some x)
    go [] is same = absurd (some≢nil b bs (sym is))
    go (c ∷ cs) is same = (c, ap (λ xs. slice_get xs 0) same)

-- no option has a short name
pub bundle_refused : (known : List Known) (b : ℕ) (bs : List ℕ) (h : Held) → h.skip ≡ 0 → IsUtf8 (b ∷ bs) → bundle_fault (map full_rule known) false (b ∷ bs) h ≡ kind.UnknownArgument ∷ []
unfolding flags_fault
bundle_refused known b bs h zero_skip u =
    let rules = map full_rule known in
    let (x, first) = first_char b bs u in
    let at_zero : Held = record h { skip = 0 } in
    ap (λ n. flags_fault rules false (length (b ∷ bs)) (b ∷ bs) n at_zero) zero_skip
    ∙ ap (λ o. bundle_step_fault rules false o (b ∷ bs) 0 at_zero (flags_fault rules false (length bs))) first
    ∙ ap (λ o. short_fault rules false o (drop (length (encode_utf8 x)) (b ∷ bs)) at_zero (flags_fault rules false (length bs) (drop (length (encode_utf8 x)) (b ∷ bs)) 0)) (no_short known x)

abbrev the_text : {X : Type 0} → X → Option X → X
the_text d None = d
the_text d (Some x) = x

-- what stands behind the `-` of a word `-abc` is a text, and not empty
pub behind : (word : Text) (flags : Text) → short_of word ≡ Some flags → IsUtf8 word → (b : ℕ) × (bs : List ℕ) × (flags ≡ b ∷ bs) × IsUtf8 flags
behind [] flags e u = absurd (true≢false (sym (ap is_some e)))
behind (c ∷ []) flags e u = absurd (true≢false (sym (ap is_some (sym (none (c == 45)) ∙ e))))
  where
    none : (d : Bool) → option_and_then short_of_rest (cond d (Some []) None) ≡ None
    none true = refl
    none false = refl
behind (c ∷ b ∷ bs) flags e u = go (c == 45) refl e
  where
    found : c ≡ 45 → (f : Bool) → cond f None (Some (b ∷ bs)) ≡ Some flags → (b : ℕ) × (bs : List ℕ) × (flags ≡ b ∷ bs) × IsUtf8 flags
    found dash true h = absurd (true≢false (sym (ap is_some h)))
    found dash false h =
        let same : b ∷ bs ≡ flags = ap (the_text []) h in
        (b, bs, sym same, subst IsUtf8 same (IsUtf8-drop (c ∷ b ∷ bs) 1 u (IsCharBoundary-after_ascii (c ∷ b ∷ bs) 0 u (omega arith) (omega (arith, dash)))))

    go : (d : Bool) → (c == 45) ≡ d → option_and_then short_of_rest (cond d (Some (b ∷ bs)) None) ≡ Some flags → (b : ℕ) × (bs : List ℕ) × (flags ≡ b ∷ bs) × IsUtf8 flags
    go true is h = found (eqb-true c 45 is) (b == 45) h
    go false is h = absurd (true≢false (sym (ap is_some h)))

module _ (name : Text) (known : List Known) (word : Text) (plain : bytes_eq word dashes ≡ false) where
  abbrev rules : List Rule
  rules = map full_rule known

  abbrev s : Shape
  s = leaf name rules

  -- ---- a word `--name` or `--name=value`

  module _ (n : Text) (v : Option Text) (is_option : long_of word ≡ Some (n, v)) (waiting : Waiting) (h : Held) where
    abbrev fault_at : Option Rule → Kinds
    fault_at o = or_else (long_fault rules false o v h)
        (step_fault s 1 (after_flag rules waiting word (long_met rules o v h).0 (long_met rules o v h).1).0
        (after_flag rules waiting word (long_met rules o v h).0 (long_met rules o v h).1).1)

    abbrev walk_at : Option Rule → Walk
    walk_at o = after_step rules word (standing h waiting) (after_flag rules waiting word (long_met rules o v h).0 (long_met rules o v h).1).0
        (after_flag rules waiting word (long_met rules o v h).0 (long_met rules o v h).1).1

    fault_long : (o : Option Known) → entry_of known n ≡ o → turn_fault s [] (standing h waiting) word ≡ fault_at (option_map full_rule o)
    fault_long o e = turn_is s waiting word h ∙ ap₂ (turn_by s waiting word h) plain is_option ∙ ap fault_at (by_long known n ∙ ap (option_map full_rule) e)

    walk_long : (o : Option Known) → entry_of known n ≡ o → walked rules [] (standing h waiting) word ≡ walk_at (option_map full_rule o)
    walk_long o e = walk_is rules waiting word h ∙ ap₂ (walk_by rules waiting word h) plain is_option ∙ ap walk_at (by_long known n ∙ ap (option_map full_rule) e)

    pub unknown_fault : entry_of known n ≡ None → turn_fault s [] (standing h waiting) word ≡ kind.UnknownArgument ∷ []
    unknown_fault e = fault_long None e

  pub joined_fault : (n value : Text) (waiting : Waiting) (h : Held) (k : Known) → long_of word ≡ Some (n, Some value) → entry_of known n ≡ Some k
      → turn_fault s [] (standing h waiting) word ≡ react_fault rules false (full_rule k) (value ∷ []) h
  joined_fault n value waiting h k is_option e = fault_long n (Some value) is_option waiting h (Some k) e ∙ or_nil _

  pub joined_walk : (n value : Text) (waiting : Waiting) (h : Held) (k : Known) → long_of word ≡ Some (n, Some value) → entry_of known n ≡ Some k
      → walked rules [] (standing h waiting) word ≡ standing (reacted rules (full_rule k) (value ∷ []) h) idle
  joined_walk n value waiting h k is_option e = walk_long n (Some value) is_option waiting h (Some k) e

  pub apart_fault : (n : Text) (waiting : Waiting) (h : Held) (k : Known) → long_of word ≡ Some (n, None) → entry_of known n ≡ Some k
      → turn_fault s [] (standing h waiting) word ≡ settle_fault rules false h
  apart_fault n waiting h k is_option e = fault_long n None is_option waiting h (Some k) e ∙ or_nil _

  pub apart_walk : (n : Text) (waiting : Waiting) (h : Held) (k : Known) → long_of word ≡ Some (n, None) → entry_of known n ≡ Some k
      → walked rules [] (standing h waiting) word ≡ standing (record (settled rules h) { pending = Some (k.name, []) }) (option k.name)
  apart_walk n waiting h k is_option e = walk_long n None is_option waiting h (Some k) e

  -- ---- any other word

  module _ (no_option : long_of word ≡ None) (waiting : Waiting) (h : Held) where
    abbrev other_at : Option Text → Kinds
    other_at flags = or_else (option_map_or (λ t. bundle_fault rules false t h) flags [])
        (step_fault s 1 (short_or_plain rules waiting word flags h).0 (short_or_plain rules waiting word flags h).1)

    other_fault : (o : Option Text) → short_of word ≡ o → turn_fault s [] (standing h waiting) word ≡ other_at o
    other_fault o e = turn_is s waiting word h ∙ ap₂ (turn_by s waiting word h) plain no_option ∙ ap other_at e

    other_walk : (o : Option Text) → short_of word ≡ o
        → walked rules [] (standing h waiting) word ≡ after_step rules word (standing h waiting) (short_or_plain rules waiting word o h).0 (short_or_plain rules waiting word o h).1
    other_walk o e = walk_is rules waiting word h ∙ ap₂ (walk_by rules waiting word h) plain no_option
        ∙ ap (λ x. after_step rules word (standing h waiting) (short_or_plain rules waiting word x h).0 (short_or_plain rules waiting word x h).1) e

    -- a word `-abc` names no option
    pub flag_fault : (flags : Text) → h.skip ≡ 0 → short_of word ≡ Some flags → IsUtf8 word → turn_fault s [] (standing h waiting) word ≡ [] → ⊥
    flag_fault flags zero_skip e u none =
        let (b, bs, is, text) = behind word flags e u in
        let here : bundle_fault rules false flags h ≡ kind.UnknownArgument ∷ [] = ap (λ t. bundle_fault rules false t h) is ∙ bundle_refused known b bs h zero_skip (subst IsUtf8 is text) in
        some≢nil _ _ (sym here ∙ one_of_nil _ _ (sym (other_fault (Some flags) e) ∙ none))

  -- where nothing waits, a word that is no flag is no option's
  pub stray : (h : Held) → long_of word ≡ None → short_of word ≡ None → turn_fault s [] (standing h idle) word ≡ kind.UnknownArgument ∷ []
  stray h no_option no_flag = other_fault no_option idle h None no_flag ∙ ap (λ o. option_map_or (λ a. positional_fault rules false a h) o (stray_fault s)) (no_index known 1)

  -- where an option waits, the word is its value
  pub value_fault : (id : Text) (h : Held) → long_of word ≡ None → short_of word ≡ None → turn_fault s [] (standing h (option id)) word ≡ []
  value_fault id h no_option no_flag = other_fault no_option (option id) h None no_flag

  pub value_walk : (k : Known) (rows : List Row) → entry_of known k.name ≡ Some k → long_of word ≡ None → short_of word ≡ None
      → walked rules [] (standing (record { rows = rows; pending = Some (k.name, []); skip = 0 }) (option k.name)) word
      ≡ standing (record { rows = rows; pending = Some (k.name, word ∷ []); skip = 0 }) idle
  value_walk k rows e no_option no_flag =
      let h : Held = record { rows = rows; pending = Some (k.name, []); skip = 0 } in
      other_walk no_option (option k.name) h None no_flag
      ∙ ap (λ o. after_step rules word (standing h (option k.name)) (option_word o k.name word h).0 (next (option_word o k.name word h).1)) (by_id known k.name ∙ ap (option_map full_rule) e)
      ∙ ap (λ b. standing (record { rows = rows; pending = Some (k.name, word ∷ []); skip = 0 }) (if nat_lt (if b then 1 else 0) 1 then option k.name else idle)) ((bytes_eq-Decides k.name k.name).1 refl)
