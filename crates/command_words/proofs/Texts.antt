-- The recursion over the words, against a relation: options whose values are any texts.
use Rattle.std.proofs.Common.{◌≡◌, ◌∙◌, ◌==◌, ◌⊎◌, ℕ, Bool, true, false, cond, not, ◌&&◌, ◌||◌, List, [], ◌∷◌, ◌++◌, codes, Option, Some, None, option_map, option_and_then, is_some, inl, inr, refl, sym, ap, ap₂, subst, append-nil, append_assoc, eqb-true, true≢false}
use Rattle.std.specs.Str.{bytes_eq}
use Rattle.std.specs.List.{list_any, list_all}
use Rattle.std.proofs.lemmas.Slice.Eq.{bytes_eq-Decides}
use Rattle.clap.proofs.WalkLemmas.{both}
use Rattle.command_words.specs.Options.{Given, Known, Text, behind_dash, cut_at_equals, from_word, has_required, if_complete, has_more, if_more, is_flag, is_given, is_known, option_word, options_after, options_of, with_option}
use Rattle.command_words.specs.Spelling.{EachOnce}

pub some≢none : {X : Type 0} (x : X) → Some x ≡ None → ⊥
some≢none x e = true≢false (ap is_some e)

abbrev the_given : List Given → Option (List Given) → List Given
the_given d None = d
the_given d (Some given) = given

-- ---- a word and its parts

abbrev joined : Text → Option Text → Text
joined name None = name
joined name (Some value) = name ++ codes "=" ++ value

abbrev joined_pair : Text × Option Text → Text
joined_pair p = joined p.0 p.1

joined_more : (b : ℕ) (name : Text) (v : Option Text) → joined (b ∷ name) v ≡ b ∷ joined name v
joined_more b name None = refl
joined_more b name (Some value) = refl

uncut : (t : Text) → t ≡ joined (cut_at_equals t).0 (cut_at_equals t).1
uncut [] = refl
uncut (b ∷ bs) = go (b == 61) refl (uncut bs)
  where
    go : (p : Bool) → (b == 61) ≡ p → bs ≡ joined (cut_at_equals bs).0 (cut_at_equals bs).1
        → b ∷ bs ≡ joined_pair (cond p ([], Some bs) (b ∷ (cut_at_equals bs).0, (cut_at_equals bs).1))
    go true is e = ap (λ c. c ∷ bs) (eqb-true b 61 is)
    go false is e = ap (λ t. b ∷ t) e ∙ sym (joined_more b (cut_at_equals bs).0 (cut_at_equals bs).1)

abbrev the_parts : Option (Text × Option Text) → Text × Option Text
the_parts None = ([], None)
the_parts (Some p) = p

-- an option's word is `--` and its parts
word_is : (word : Text) (p : Text × Option Text) → option_word word ≡ Some p → word ≡ codes "--" ++ joined p.0 p.1
word_is [] p e = absurd (some≢none p (sym e))
word_is (c ∷ []) p e = absurd (some≢none p (sym (sym (none (c == 45)) ∙ e)))
  where
    none : (q : Bool) → option_map cut_at_equals (option_and_then if_more (option_and_then behind_dash (cond q (Some []) None))) ≡ None
    none true = refl
    none false = refl
word_is (c ∷ d ∷ t) p e = go (c == 45) refl e
  where
    more : (t : Text) → option_map cut_at_equals (if_more t) ≡ Some p → t ≡ joined p.0 p.1
    more [] e = absurd (some≢none p (sym e))
    more (b ∷ bs) e = uncut (b ∷ bs) ∙ ap (λ o. joined (the_parts o).0 (the_parts o).1) e

    second : c ≡ 45 → (q : Bool) → (d == 45) ≡ q → option_map cut_at_equals (option_and_then if_more (cond q (Some t) None)) ≡ Some p → c ∷ d ∷ t ≡ codes "--" ++ joined p.0 p.1
    second first true is e = ap₂ (λ x y. x ∷ y ∷ t) first (eqb-true d 45 is) ∙ ap (λ t. codes "--" ++ t) (more t e)
    second first false is e = absurd (some≢none p (sym e))

    go : (q : Bool) → (c == 45) ≡ q → option_map cut_at_equals (option_and_then if_more (option_and_then behind_dash (cond q (Some (d ∷ t)) None))) ≡ Some p
        → c ∷ d ∷ t ≡ codes "--" ++ joined p.0 p.1
    go true is e = second (eqb-true c 45 is) (d == 45) refl e
    go false is e = absurd (some≢none p (sym e))

-- a name is not empty, and has no `=`
abbrev pub is_name : Text → Bool
is_name name = has_more name && not (list_any (λ b. b == 61) name)

cut_alone : (name : Text) → list_any (λ b. b == 61) name ≡ false → cut_at_equals name ≡ (name, None)
cut_alone [] e = refl
cut_alone (b ∷ bs) e = go (b == 61) e (cut_alone bs)
  where
    go : (p : Bool) → (p || list_any (λ b. b == 61) bs) ≡ false → (list_any (λ b. b == 61) bs ≡ false → cut_at_equals bs ≡ (bs, None))
        → ◌≡◌ {A = Text × Option Text} (cond p ([], Some bs) (b ∷ (cut_at_equals bs).0, (cut_at_equals bs).1)) (b ∷ bs, None)
    go true e later = absurd (true≢false e)
    go false e later = ap (λ (c : Text × Option Text). (b ∷ c.0, c.1)) (later e)

cut_joined : (name value : Text) → list_any (λ b. b == 61) name ≡ false → cut_at_equals (name ++ codes "=" ++ value) ≡ (name, Some value)
cut_joined [] value e = refl
cut_joined (b ∷ bs) value e = go (b == 61) e (cut_joined bs value)
  where
    rest : Text
    rest = bs ++ codes "=" ++ value

    go : (p : Bool) → (p || list_any (λ b. b == 61) bs) ≡ false → (list_any (λ b. b == 61) bs ≡ false → cut_at_equals (bs ++ codes "=" ++ value) ≡ (bs, Some value))
        → ◌≡◌ {A = Text × Option Text} (cond p ([], Some (bs ++ codes "=" ++ value)) (b ∷ (cut_at_equals (bs ++ codes "=" ++ value)).0, (cut_at_equals (bs ++ codes "=" ++ value)).1)) (b ∷ bs, Some value)
    go true e later = absurd (true≢false e)
    go false e later = ap (λ (c : Text × Option Text). (b ∷ c.0, c.1)) (later e)

no_equals : (a b : Bool) → (a && not b) ≡ true → b ≡ false
no_equals a false e = refl
no_equals true true e = absurd (true≢false (sym e))
no_equals false true e = absurd (true≢false (sym e))

pub alone_word : (name : Text) → is_name name ≡ true → option_word (codes "--" ++ name) ≡ Some (name, None)
alone_word [] e = absurd (true≢false (sym e))
alone_word (b ∷ bs) e = ap Some (cut_alone (b ∷ bs) (no_equals true _ e))

pub joined_word : (name value : Text) → is_name name ≡ true → option_word (codes "--" ++ name ++ codes "=" ++ value) ≡ Some (name, Some value)
joined_word [] value e = absurd (true≢false (sym e))
joined_word (b ∷ bs) value e = ap Some (cut_joined (b ∷ bs) value (no_equals true _ e))

-- two words, `--name` and a value that is no flag, or one word, `--name=value`
abbrev pub SpellsText : Given → List Text → Type 0
SpellsText g words = ((words ≡ (codes "--" ++ g.name) ∷ g.value ∷ []) × (is_flag g.value ≡ false))
    ⊎ (words ≡ (codes "--" ++ g.name ++ codes "=" ++ g.value) ∷ [])

abbrev pub SpellsTexts : List Given → List Text → Type 0
SpellsTexts [] words = words ≡ []
SpellsTexts (g ∷ gs) words = (front : List Text) × (rest : List Text) × (words ≡ front ++ rest) × SpellsText g front × SpellsTexts gs rest

-- ---- from the recursion to the relation

-- what the recursion found lies in words that spell it
abbrev SoundIdle : List Known → List Text → Type 0
SoundIdle known words = (given final : List Given) → options_after known given None words ≡ Some final
    → (more : List Given) × (final ≡ given ++ more) × SpellsTexts more words × EachOnce known given more

abbrev SoundWaits : List Known → List Text → Type 0
SoundWaits known words = (given final : List Given) (name : Text) → options_after known given (Some name) words ≡ Some final
    → (value : Text) × (rest : List Text) × (more : List Given) × (words ≡ value ∷ rest) × (is_flag value ≡ false)
    × (final ≡ given ++ record { name = name; value = value } ∷ more) × SpellsTexts more rest × EachOnce known given (record { name = name; value = value } ∷ more)

first_alone : (a b : Bool) → (a && not b) ≡ true → (a ≡ true) × (b ≡ false)
first_alone true false e = (refl, refl)
first_alone true true e = absurd (true≢false (sym e))
first_alone false b e = absurd (true≢false (sym e))

-- one more option, and what follows it
with_sound : (known : List Known) (given final : List Given) (name value : Text) (words : List Text) → SoundIdle known words
    → with_option known given name value (λ more. options_after known more None words) ≡ Some final
    → (more : List Given) × (final ≡ given ++ record { name = name; value = value } ∷ more) × SpellsTexts more words × EachOnce known given (record { name = name; value = value } ∷ more)
with_sound known given final name value words sound e = go (is_known known name && not (is_given given name)) refl e
  where
    go : (b : Bool) → (is_known known name && not (is_given given name)) ≡ b
        → cond b (options_after known (given ++ record { name = name; value = value } ∷ []) None words) None ≡ Some final
        → (more : List Given) × (final ≡ given ++ record { name = name; value = value } ∷ more) × SpellsTexts more words × EachOnce known given (record { name = name; value = value } ∷ more)
    go true is e =
        let (more, same, spells, once) = sound (given ++ record { name = name; value = value } ∷ []) final e in
        let parts = first_alone (is_known known name) (is_given given name) is in
        (more, same ∙ append_assoc given (record { name = name; value = value } ∷ []) more, spells, (parts.0, parts.1, once))
    go false is e = absurd (some≢none final (sym e))

sound : (known : List Known) (words : List Text) → SoundIdle known words × SoundWaits known words
unfolding options_after
sound known [] =
    (λ given final e. ([], sym (ap (the_given []) e) ∙ sym (append-nil given), refl, tt), λ given final name e. absurd (some≢none final (sym e)))
sound known (word ∷ words) = (λ given final e. idle given final (option_word word) refl e (sound known words), λ given final name e. waits given final name (is_flag word) refl e (sound known words))
  where
    idle : (given final : List Given) (l : Option (Text × Option Text)) → option_word word ≡ l
        → from_word known given l (λ more waiting. options_after known more waiting words) ≡ Some final → SoundIdle known words × SoundWaits known words
        → (more : List Given) × (final ≡ given ++ more) × SpellsTexts more (word ∷ words) × EachOnce known given more
    idle given final None is e later = absurd (some≢none final (sym e))
    idle given final (Some p) is e later = parts p.1 is e
      where
        parts : (v : Option Text) → option_word word ≡ Some (p.0, v) → from_word known given (Some (p.0, v)) (λ more waiting. options_after known more waiting words) ≡ Some final
            → (more : List Given) × (final ≡ given ++ more) × SpellsTexts more (word ∷ words) × EachOnce known given more
        parts None is e =
            let (value, rest, more, behind, no_flag, same, spells, once) = later.1 given final p.0 e in (
              record { name = p.0; value = value } ∷ more,
              same,
              (word ∷ value ∷ [], rest, ap (λ ws. word ∷ ws) behind, inl (ap (λ w. w ∷ value ∷ []) (word_is word (p.0, None) is), no_flag), spells),
              once,
            )
        parts (Some value) is e =
            let (more, same, spells, once) = with_sound known given final p.0 value words later.0 e in
            (record { name = p.0; value = value } ∷ more, same, (word ∷ [], words, refl, inr (ap (λ w. w ∷ []) (word_is word (p.0, Some value) is)), spells), once)

    waits : (given final : List Given) (name : Text) (f : Bool) → is_flag word ≡ f
        → cond f None (with_option known given name word (λ more. options_after known more None words)) ≡ Some final → SoundIdle known words × SoundWaits known words
        → (value : Text) × (rest : List Text) × (more : List Given) × (word ∷ words ≡ value ∷ rest) × (is_flag value ≡ false)
        × (final ≡ given ++ record { name = name; value = value } ∷ more) × SpellsTexts more rest × EachOnce known given (record { name = name; value = value } ∷ more)
    waits given final name true is e later = absurd (some≢none final (sym e))
    waits given final name false is e later =
        let (more, same, spells, once) = with_sound known given final name word words later.0 e in
        (word, words, more, refl, is, same, spells, once)

-- ---- from the relation to the recursion

abbrev pub are_names : List Known → Bool
are_names known = list_all (λ k. is_name k.name) known

known_name : (known : List Known) (name : Text) → are_names known ≡ true → is_known known name ≡ true → is_name name ≡ true
known_name [] name names e = absurd (true≢false (sym e))
known_name (k ∷ ks) name names e =
    let parts = both (is_name k.name) (are_names ks) names in
    go (bytes_eq k.name name) refl e parts.0 (known_name ks name parts.1)
  where
    go : (b : Bool) → bytes_eq k.name name ≡ b → (b || is_known ks name) ≡ true → is_name k.name ≡ true → (is_known ks name ≡ true → is_name name ≡ true) → is_name name ≡ true
    go true is e here later = subst (λ n. is_name n ≡ true) ((bytes_eq-Decides k.name name).0 is) here
    go false is e here later = later e

with_new : (known : List Known) (before : List Given) (g : Given) (make : List Given → Option (List Given)) → is_known known g.name ≡ true → is_given before g.name ≡ false
    → with_option known before g.name g.value make ≡ make (before ++ g ∷ [])
with_new known before g make has new = ap₂ (λ a b. cond (a && not b) (make (before ++ g ∷ [])) None) has new

complete : (known : List Known) → are_names known ≡ true → (gs : List Given) (before : List Given) (words : List Text) → SpellsTexts gs words → EachOnce known before gs
    → options_after known before None words ≡ Some (before ++ gs)
unfolding options_after
complete known names [] before words none once = ap (options_after known before None) none ∙ ap Some (sym (append-nil before))
complete known names (g ∷ gs) before words (front, rest, is, spells, more) (has, new, once) =
    ap (options_after known before None) is ∙ go spells (complete known names gs (before ++ g ∷ []) rest more once ∙ ap Some (append_assoc before (g ∷ []) gs))
  where
    name : is_name g.name ≡ true
    name = known_name known g.name names has

    go : SpellsText g front → options_after known (before ++ g ∷ []) None rest ≡ Some (before ++ g ∷ gs) → options_after known before None (front ++ rest) ≡ Some (before ++ g ∷ gs)
    go (inl two) later =
        ap (λ ws. options_after known before None (ws ++ rest)) two.0
        ∙ ap (λ l. from_word known before l (λ more waiting. options_after known more waiting (g.value ∷ rest))) (alone_word g.name name)
        ∙ ap (λ f. cond f None (with_option known before g.name g.value (λ more. options_after known more None rest))) two.1
        ∙ with_new known before g (λ more. options_after known more None rest) has new ∙ later
    go (inr one) later =
        ap (λ ws. options_after known before None (ws ++ rest)) one
        ∙ ap (λ l. from_word known before l (λ more waiting. options_after known more waiting rest)) (joined_word g.name g.value name)
        ∙ with_new known before g (λ more. options_after known more None rest) has new ∙ later

-- ---- the options of a command

pub options_spelled : (known : List Known) (words : List Text) (given : List Given) → options_of known words ≡ Some given
    → SpellsTexts given words × EachOnce known [] given × (has_required known given ≡ true)
options_spelled known words given e = go (options_after known [] None words) refl e
  where
    checked : (all : List Given) → options_after known [] None words ≡ Some all → (b : Bool) → has_required known all ≡ b → cond b (Some all) None ≡ Some given
        → SpellsTexts given words × EachOnce known [] given × (has_required known given ≡ true)
    checked all is true required e =
        let (more, same, spells, once) = (sound known words).0 [] all is in
        let final : more ≡ given = sym same ∙ ap (the_given []) e in
        (subst (λ gs. SpellsTexts gs words) final spells, subst (EachOnce known []) final once, ap (has_required known) (sym (ap (the_given []) e)) ∙ required)
    checked all is false required e = absurd (some≢none given (sym e))

    go : (o : Option (List Given)) → options_after known [] None words ≡ o → if_complete known o ≡ Some given
        → SpellsTexts given words × EachOnce known [] given × (has_required known given ≡ true)
    go None is e = absurd (some≢none given (sym e))
    go (Some all) is e = checked all is (has_required known all) refl e

pub spelled_options : (known : List Known) (words : List Text) (given : List Given) → are_names known ≡ true → SpellsTexts given words → EachOnce known [] given
    → has_required known given ≡ true → options_of known words ≡ Some given
spelled_options known words given names spells once required =
    ap (if_complete known) (complete known names given [] words spells once) ∙ ap (λ b. cond b (Some given) None) required
