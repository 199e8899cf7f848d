-- clap's walk over the words of a command that has options alone takes what the grammar takes, and gives the same options.
use Rattle.std.proofs.Common.{◌≡◌, ◌∙◌, Bool, true, false, cond, ◌||◌, ◌&&◌, not, List, [], ◌∷◌, ◌++◌, map, Option, Some, None, option_map, option_and_then, is_some, refl, sym, ap, ap₂, subst, fold, true≢false}
use Rattle.std.specs.Str.{IsUtf8, bytes_eq}
use Rattle.std.specs.Option.{option_map_or}
use Rattle.std.proofs.lemmas.Slice.Eq.{bytes_eq-Decides}
use Rattle.clap.specs.Lexer.{long_of, short_of}
use Rattle.clap.specs.Walk.{arg_by_id, used_by_id, Held, Row, Rule, Waiting, Walk, idle, option, settled, used, walked}
use Rattle.clap.specs.Simple.{Shape}
use Rattle.clap.specs.Faults.{settle_fault, turn_fault, use_fault, walk_fault}
use Rattle.clap.specs.Kinds.{Kinds, or_else}
use Rattle.clap.specs.declared.error.kind.ErrorKind.TheVariants as kind
use Rattle.command_words.specs.Options.{Given, Known, Text, from_option, from_word, is_flag, is_given, is_known, options_after, with_option}
use Rattle.command_words.specs.Reading.{ArePlain}
use Rattle.command_words.proofs.Tables.{by_id, entry_of, full_rule, known_is, leaf}
use Rattle.command_words.proofs.Rows.{row_for, use_of_one, used_rows}
use Rattle.command_words.proofs.Shapes.{flag_is, option_is}
use Rattle.command_words.proofs.Turns.{apart_fault, apart_walk, dashes, flag_fault, joined_fault, joined_walk, one_of_nil, some≢nil, standing, stray, unknown_fault, value_fault, value_walk}

abbrev pub ends : Shape → Walk → List Text → Kinds
ends s w words = or_else (walk_fault s [] w words) (settle_fault s.rules false (fold (walked s.rules []) w words).held)

abbrev pub rows_left : Shape → Walk → List Text → List Row
rows_left s w words = (settled s.rules (fold (walked s.rules []) w words).held).rows

-- the walk fails where there are no options, and ends with these otherwise
abbrev pub Agrees : Shape → Walk → List Text → Option (List Given) → Type 0
Agrees s w words None = ends s w words ≡ [] → ⊥
Agrees s w words (Some given) = (ends s w words ≡ []) × (rows_left s w words ≡ map row_for given)

-- the same of what is pending, if the words end here
abbrev pub Settles : List Rule → Held → Option (List Given) → Type 0
Settles rules h None = settle_fault rules false h ≡ [] → ⊥
Settles rules h (Some given) = (settle_fault rules false h ≡ []) × ((settled rules h).rows ≡ map row_for given)

abbrev pub held : List Row → Option (Text × List Text) → Held
held rows pending = record { rows = rows; pending = pending; skip = 0 }

passes : (s : Shape) (w after : Walk) (word : Text) (words : List Text) (o : Option (List Given)) → turn_fault s [] w word ≡ [] → walked s.rules [] w word ≡ after
    → Agrees s after words o → Agrees s w (word ∷ words) o
unfolding walk_fault
passes s w after word words o t is h = go o (subst (λ x. Agrees s x words o) (sym is) h)
  where
    same : ends s w (word ∷ words) ≡ ends s (walked s.rules [] w word) words
    same = ap (λ k. or_else (or_else k (walk_fault s [] (walked s.rules [] w word) words)) (settle_fault s.rules false (fold (walked s.rules []) (walked s.rules [] w word) words).held)) t

    go : (o : Option (List Given)) → Agrees s (walked s.rules [] w word) words o → Agrees s w (word ∷ words) o
    go None h = λ e. h (sym same ∙ e)
    go (Some given) h = (same ∙ h.0, h.1)

fails : (s : Shape) (w : Walk) (word : Text) (words : List Text) → (turn_fault s [] w word ≡ [] → ⊥) → Agrees s w (word ∷ words) None
unfolding walk_fault
fails s w word words t e = t (one_of_nil _ _ (one_of_nil _ _ e))

-- a fault of what is pending is the word's
abbrev settle_first : (a b : Kinds) → (a ≡ [] → ⊥) → or_else a b ≡ [] → ⊥
settle_first a b h e = h (one_of_nil a b e)

abbrev name_in : Text → Option Known → Text
name_in n None = n
name_in n (Some k) = k.name

-- an entry has the name by which it is found
entry_name : (known : List Known) (n : Text) (k : Known) → entry_of known n ≡ Some k → k.name ≡ n
entry_name [] n k e = absurd (true≢false (sym (ap is_some e)))
entry_name (x ∷ xs) n k e = go (bytes_eq x.name n) refl e (entry_name xs n k)
  where
    go : (b : Bool) → bytes_eq x.name n ≡ b → cond b (Some x) (entry_of xs n) ≡ Some k → (entry_of xs n ≡ Some k → k.name ≡ n) → k.name ≡ n
    go true is e later = sym (ap (name_in n) e) ∙ (bytes_eq-Decides x.name n).0 is
    go false is e later = later e

by_own_name : (known : List Known) (n : Text) (k : Known) → entry_of known n ≡ Some k → entry_of known k.name ≡ Some k
by_own_name known n k e = ap (entry_of known) (entry_name known n k e) ∙ e

module _ (name : Text) (known : List Known) where
  abbrev rules : List Rule
  rules = map full_rule known

  abbrev s : Shape
  s = leaf name rules

  abbrev pub Idle : List Text → Type 0
  Idle words = (rows : List Row) (p : Option (Text × List Text)) (o : Option (List Given)) → Settles rules (held rows p) o
      → Agrees s (standing (held rows p) idle) words (option_and_then (λ given. options_after known given None words) o)

  abbrev pub Waits : List Text → Type 0
  Waits words = (given : List Given) (k : Known) → entry_of known k.name ≡ Some k
      → Agrees s (standing (held (map row_for given) (Some (k.name, []))) (option k.name)) words (options_after known given (Some k.name) words)

  -- ---- the grammar at a known and at an unknown name

  unknown_waits : (n : Text) (given : List Given) (words : List Text) → is_known known n ≡ false → options_after known given (Some n) words ≡ None
  unfolding options_after
  unknown_waits n given [] e = refl
  unknown_waits n given (word ∷ words) e = go (is_flag word) (is_known known n) e
    where
      go : (f b : Bool) → b ≡ false → cond f None (cond (b && not (is_given given n)) (options_after known (given ++ record { name = n; value = word } ∷ []) None words) None) ≡ None
      go true b e = refl
      go false true e = absurd (true≢false e)
      go false false e = refl

  unknown_option : (n : Text) (v : Option Text) (words : List Text) (o : Option (List Given)) → is_known known n ≡ false
      → option_and_then (λ given. from_option known given n v (λ more waiting. options_after known more waiting words)) o ≡ None
  unknown_option n v words None e = refl
  unknown_option n None words (Some given) e = unknown_waits n given words e
  unknown_option n (Some value) words (Some given) e =
      ap (λ b. cond (b && not (is_given given n)) (options_after known (given ++ record { name = n; value = value } ∷ []) None words) None) e

  flipped : (b : Bool) (o : Option (List Given)) → cond (not b) o None ≡ cond b None o
  flipped true o = refl
  flipped false o = refl

  with_known : (n : Text) (k : Known) (given : List Given) (value : Text) (then : List Given → Option (List Given)) → entry_of known n ≡ Some k
      → with_option known given n value then ≡ cond (is_given given k.name) None (then (given ++ record { name = k.name; value = value } ∷ []))
  with_known n k given value then e =
      ap (λ b. cond (b && not (is_given given n)) (then (given ++ record { name = n; value = value } ∷ [])) None) (known_is known n ∙ ap is_some e)
      ∙ ap (λ m. cond (not (is_given given m)) (then (given ++ record { name = m; value = value } ∷ [])) None) (sym (entry_name known n k e))
      ∙ flipped (is_given given k.name) _

  -- ---- what is pending

  settle_waiting : (rows : List Row) (k : Known) → entry_of known k.name ≡ Some k → settle_fault rules false (held rows (Some (k.name, []))) ≡ kind.InvalidValue ∷ []
  settle_waiting rows k e = ap (λ o. option_map_or (λ a. use_fault false a [] rows) o []) (by_id known k.name ∙ ap (option_map full_rule) e)

  settle_one : (given : List Given) (k : Known) (value : Text) → entry_of known k.name ≡ Some k
      → Settles rules (held (map row_for given) (Some (k.name, value ∷ []))) (cond (is_given given k.name) None (Some (given ++ record { name = k.name; value = value } ∷ [])))
  settle_one given k value e = go (is_given given k.name) refl
    where
      found : arg_by_id rules k.name ≡ Some (full_rule k)
      found = by_id known k.name ∙ ap (option_map full_rule) e

      fault : settle_fault rules false (held (map row_for given) (Some (k.name, value ∷ []))) ≡ cond (is_given given k.name) (kind.ArgumentConflict ∷ []) []
      fault = ap (λ o. option_map_or (λ a. use_fault false a (value ∷ []) (map row_for given)) o []) found ∙ use_of_one k given value

      go : (b : Bool) → is_given given k.name ≡ b
          → Settles rules (held (map row_for given) (Some (k.name, value ∷ []))) (cond b None (Some (given ++ record { name = k.name; value = value } ∷ [])))
      go true is = λ none. some≢nil _ _ (sym (fault ∙ ap (λ b. cond b (kind.ArgumentConflict ∷ []) []) is) ∙ none)
      go false is = (fault ∙ ap (λ b. cond b (kind.ArgumentConflict ∷ []) []) is, ap (λ o. used_by_id o (value ∷ []) (map row_for given)) found ∙ used_rows k given value is)

  walk_start : Idle [] × Waits []
  unfolding options_after walk_fault
  walk_start = (λ rows p o h. go o rows p h, λ given k e none. some≢nil _ _ (sym (settle_waiting (map row_for given) k e) ∙ none))
    where
      go : (o : Option (List Given)) (rows : List Row) (p : Option (Text × List Text)) → Settles rules (held rows p) o
          → Agrees s (standing (held rows p) idle) [] (option_and_then (λ given. options_after known given None []) o)
      go None rows p h = h
      go (Some given) rows p h = h

  -- ---- one more word

  module _ (word : Text) (words : List Text) (plain : bytes_eq word dashes ≡ false) (text : IsUtf8 word) (ih : Idle words × Waits words) where
    abbrev then : List Given → Option Text → Option (List Given)
    then more waiting = options_after known more waiting words

    -- a word that is no option, where no value is waited for
    no_option : (h : Held) → h.skip ≡ 0 → long_of word ≡ None → turn_fault s [] (standing h idle) word ≡ [] → ⊥
    no_option h zero_skip is none = go (short_of word) refl
      where
        go : (o : Option Text) → short_of word ≡ o → ⊥
        go (Some flags) e = flag_fault name known word plain is idle h flags zero_skip e text none
        go None e = some≢nil _ _ (sym (stray name known word plain h is e) ∙ none)

    -- an option, where what is pending fails
    late_fault : (n : Text) (v : Option Text) (waiting : Waiting) (h : Held) → long_of word ≡ Some (n, v) → (settle_fault rules false h ≡ [] → ⊥)
        → turn_fault s [] (standing h waiting) word ≡ [] → ⊥
    late_fault n v waiting h is bad none = go (entry_of known n) refl v is
      where
        go : (o : Option Known) → entry_of known n ≡ o → (v : Option Text) → long_of word ≡ Some (n, v) → ⊥
        go None e v is = some≢nil _ _ (sym (unknown_fault name known word plain n v is waiting h e) ∙ none)
        go (Some k) e (Some value) is = settle_first _ _ bad (sym (joined_fault name known word plain n value waiting h k is e) ∙ none)
        go (Some k) e None is = bad (sym (apart_fault name known word plain n waiting h k is e) ∙ none)

    joined : (n value : Text) (k : Known) (given : List Given) (rows : List Row) (p : Option (Text × List Text)) → long_of word ≡ Some (n, Some value) → entry_of known n ≡ Some k
        → Settles rules (held rows p) (Some given) → Agrees s (standing (held rows p) idle) (word ∷ words) (with_option known given n value (λ more. then more None))
    joined n value k given rows p is e settles =
        subst (Agrees s (standing (held rows p) idle) (word ∷ words)) (sym (with_known n k given value (λ more. then more None) e)) (go (is_given given k.name) refl)
      where
        fault : turn_fault s [] (standing (held rows p) idle) word ≡ cond (is_given given k.name) (kind.ArgumentConflict ∷ []) []
        fault = joined_fault name known word plain n value idle (held rows p) k is e
            ∙ ap (λ first. or_else first (use_fault false (full_rule k) (value ∷ []) (settled rules (held rows p)).rows)) settles.0
            ∙ ap (use_fault false (full_rule k) (value ∷ [])) settles.1 ∙ use_of_one k given value

        go : (b : Bool) → is_given given k.name ≡ b
            → Agrees s (standing (held rows p) idle) (word ∷ words) (cond b None (then (given ++ record { name = k.name; value = value } ∷ []) None))
        go true same = fails s _ word words (λ none. some≢nil _ _ (sym (fault ∙ ap (λ b. cond b (kind.ArgumentConflict ∷ []) []) same) ∙ none))
        go false same = passes s _ _ word words _ (fault ∙ ap (λ b. cond b (kind.ArgumentConflict ∷ []) []) same)
            (joined_walk name known word plain n value idle (held rows p) k is e
            ∙ ap (λ rs. standing (held (used (full_rule k) (value ∷ []) rs) None) idle) settles.1
            ∙ ap (λ rs. standing (held rs None) idle) (used_rows k given value same))
            (ih.0 _ None (Some (given ++ record { name = k.name; value = value } ∷ [])) (refl, refl))

    apart : (n : Text) (k : Known) (given : List Given) (rows : List Row) (p : Option (Text × List Text)) → long_of word ≡ Some (n, None) → entry_of known n ≡ Some k
        → Settles rules (held rows p) (Some given) → Agrees s (standing (held rows p) idle) (word ∷ words) (then given (Some n))
    apart n k given rows p is e settles =
        subst (λ m. Agrees s (standing (held rows p) idle) (word ∷ words) (then given (Some m))) (entry_name known n k e)
        (passes s _ _ word words _ (apart_fault name known word plain n idle (held rows p) k is e ∙ settles.0)
        (apart_walk name known word plain n idle (held rows p) k is e ∙ ap (λ rs. standing (held rs (Some (k.name, []))) (option k.name)) settles.1)
        (ih.1 given k (by_own_name known n k e)))

    -- the word, where no value is waited for
    at_idle : (l : Option (Text × Option Text)) → long_of word ≡ l → (rows : List Row) (p : Option (Text × List Text)) (o : Option (List Given)) → Settles rules (held rows p) o
        → Agrees s (standing (held rows p) idle) (word ∷ words) (option_and_then (λ given. from_word known given l (then)) o)
    at_idle None is rows p None settles = fails s _ word words (no_option (held rows p) refl is)
    at_idle None is rows p (Some given) settles = fails s _ word words (no_option (held rows p) refl is)
    at_idle (Some q) is rows p None settles = fails s _ word words (late_fault q.0 q.1 idle (held rows p) is settles)
    at_idle (Some q) is rows p (Some given) settles = go (entry_of known q.0) refl q.1 is
      where
        go : (o : Option Known) → entry_of known q.0 ≡ o → (v : Option Text) → long_of word ≡ Some (q.0, v)
            → Agrees s (standing (held rows p) idle) (word ∷ words) (from_option known given q.0 v (then))
        go None e v is = subst (Agrees s (standing (held rows p) idle) (word ∷ words)) (sym (unknown_option q.0 v words (Some given) (known_is known q.0 ∙ ap is_some e)))
            (fails s _ word words (λ none. some≢nil _ _ (sym (unknown_fault name known word plain q.0 v is idle (held rows p) e) ∙ none)))
        go (Some k) e (Some value) is = joined q.0 value k given rows p is e settles
        go (Some k) e None is = apart q.0 k given rows p is e settles

    -- the word, where an option waits for its value
    at_waiting : (given : List Given) (k : Known) → entry_of known k.name ≡ Some k
        → Agrees s (standing (held (map row_for given) (Some (k.name, []))) (option k.name)) (word ∷ words)
        (cond (is_flag word) None (with_option known given k.name word (λ more. then more None)))
    at_waiting given k e = go (long_of word) refl (short_of word) refl
      where
        flag : (l : Option (Text × Option Text)) (f : Option Text) → long_of word ≡ l → short_of word ≡ f → is_flag word ≡ (is_some l || is_some f)
        flag l f is is₂ = flag_is word plain ∙ ap₂ (λ l f. is_some l || is_some f) is is₂

        taken : (b : Bool) (o : Option (List Given)) → (is_flag word ≡ b) → cond (is_flag word) None o ≡ cond b None o
        taken b o is = ap (λ b. cond b None o) is

        one_more : (b : Bool) (more : List Given) → option_and_then (λ given. then given None) (cond b None (Some more)) ≡ cond b None (then more None)
        one_more true more = refl
        one_more false more = refl

        go : (l : Option (Text × Option Text)) → long_of word ≡ l → (f : Option Text) → short_of word ≡ f
            → Agrees s (standing (held (map row_for given) (Some (k.name, []))) (option k.name)) (word ∷ words)
            (cond (is_flag word) None (with_option known given k.name word (λ more. then more None)))
        go (Some q) is f is₂ =
            subst (Agrees s (standing (held (map row_for given) (Some (k.name, []))) (option k.name)) (word ∷ words)) (sym (taken true _ (flag (Some q) f is is₂)))
            (fails s _ word words (late_fault q.0 q.1 (option k.name) (held (map row_for given) (Some (k.name, []))) is
            (λ none. some≢nil _ _ (sym (settle_waiting (map row_for given) k e) ∙ none))))
        go None is (Some flags) is₂ =
            subst (Agrees s (standing (held (map row_for given) (Some (k.name, []))) (option k.name)) (word ∷ words)) (sym (taken true _ (flag None (Some flags) is is₂)))
            (fails s _ word words (flag_fault name known word plain is (option k.name) (held (map row_for given) (Some (k.name, []))) flags refl is₂ text))
        go None is None is₂ =
            let more : List Given = given ++ record { name = k.name; value = word } ∷ [] in
            subst (Agrees s (standing (held (map row_for given) (Some (k.name, []))) (option k.name)) (word ∷ words))
            (one_more (is_given given k.name) more ∙ sym (with_known k.name k given word (λ more. then more None) e) ∙ sym (taken false _ (flag None None is is₂)))
            (passes s _ _ word words _ (value_fault name known word plain k.name _ is is₂) (value_walk name known word plain k (map row_for given) e is is₂)
            (ih.0 (map row_for given) (Some (k.name, word ∷ [])) (cond (is_given given k.name) None (Some more)) (settle_one given k word e)))

    walk_next : Idle (word ∷ words) × Waits (word ∷ words)
    unfolding options_after
    walk_next = (
      λ rows p o settles.
          subst (λ l. Agrees s (standing (held rows p) idle) (word ∷ words) (option_and_then (λ given. from_word known given l (then)) o)) (sym (option_is word))
          (at_idle (long_of word) refl rows p o settles),
      at_waiting,
    )

  walk_agrees : (words : List Text) → ArePlain words → Idle words × Waits words
  walk_agrees [] plain = walk_start
  walk_agrees (word ∷ words) plain = walk_next word words plain.0 plain.1 (walk_agrees words plain.2)

  -- from the start
  pub start_agrees : (words : List Text) → ArePlain words → Agrees s (standing (held [] None) idle) words (options_after known [] None words)
  start_agrees words plain = (walk_agrees words plain).0 [] None (Some []) (refl, refl)
