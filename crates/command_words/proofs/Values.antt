-- Where a command was made, each option's value is a number.
use Rattle.std.proofs.Common.{◌≡◌, ◌∙◌, ◌+◌, ◌-◌, ◌*◌, ◌==◌, ◌⊎◌, ℕ, Bool, true, false, cond, ◌&&◌, ◌||◌, nat_le, List, [], ◌∷◌, ◌++◌, length, codes, Option, Some, None, option_map, option_and_then, inl, inr, refl, sym, ap, ap₂, subst, find, append_assoc, eqb-true, true≢false}
use Rattle.std.specs.Str.{bytes_eq}
use Rattle.std.specs.List.{list_all}
use Rattle.std.specs.Option.{option_map_or}
use Rattle.std.proofs.lemmas.Slice.Eq.{bytes_eq-Decides}
use Rattle.command_words.specs.Options.{Given, Known, Text, has_more, is_flag, is_given, is_known, value_of}
use Rattle.command_words.specs.Numbers.{digits_after, is_digit, number_in, number_or, within}
use Rattle.command_words.specs.Commands.{Values, command_with, options_for}
use Rattle.command_words.specs.Spelling.{EachOnce, SpellsAll, is_number}
use Rattle.command_words.specs.declared.commands.Command.{Command}
use Rattle.command_words.specs.declared.commands.Name.{Name}
use Rattle.command_words.specs.declared.commands.Name.TheVariants as name
use Rattle.clap.proofs.WalkLemmas.{both}
use Rattle.command_words.proofs.Texts.{SpellsText, SpellsTexts, some≢none}

-- ---- a number that was read

digits_all : (n x : ℕ) (value : Text) → digits_after n value ≡ Some x → list_all is_digit value ≡ true
digits_all n x [] e = refl
digits_all n x (b ∷ bs) e = go (is_digit b) e (λ m. digits_all m x bs)
  where
    go : (d : Bool) → cond d (digits_after (10 * n + (b - 48)) bs) None ≡ Some x → ((m : ℕ) → digits_after m bs ≡ Some x → list_all is_digit bs ≡ true) → (d && list_all is_digit bs) ≡ true
    go true e later = later _ e
    go false e later = absurd (some≢none x (sym e))

number_is : (low high x : ℕ) (value : Text) → number_in low high value ≡ Some x → is_number value ≡ true
number_is low high x value e = go (nat_le 1 (length value) && nat_le (length value) 10) e
  where
    read : (o : Option ℕ) → digits_after 0 value ≡ o → within low high o ≡ Some x → list_all is_digit value ≡ true
    read None is e = absurd (some≢none x (sym e))
    read (Some y) is e = digits_all 0 y value is

    go : (b : Bool) → cond b (within low high (digits_after 0 value)) None ≡ Some x → (b && list_all is_digit value) ≡ true
    go true e = read (digits_after 0 value) refl e
    go false e = absurd (some≢none x (sym e))

abbrev pub number_or_none : Option Text → Bool
number_or_none None = true
number_or_none (Some value) = is_number value

needs : (default : Option ℕ) (low high x : ℕ) (o : Option Text) → number_or default low high o ≡ Some x → number_or_none o ≡ true
needs default low high x None e = refl
needs default low high x (Some value) e = number_is low high x value e

-- ---- the numbers of each command

mapped : {X Y : Type 0} (f : X → Y) (o : Option X) (y : Y) → option_map f o ≡ Some y → (x : X) × (o ≡ Some x)
mapped f None y e = absurd (some≢none y (sym e))
mapped f (Some x) y e = (x, refl)

followed : {X Y : Type 0} (f : X → Option Y) (o : Option X) (y : Y) → option_and_then f o ≡ Some y → (x : X) × (o ≡ Some x) × (f x ≡ Some y)
followed f None y e = absurd (some≢none y (sym e))
followed f (Some x) y e = (x, refl, e)

abbrev pub are_read : List Known → Values → Bool
are_read known values = list_all (λ k. number_or_none (values k.name)) known

one : (b : Bool) → b ≡ true → (b && true) ≡ true
one b e = ap (λ x. x && true) e

pub numbers_read : (n : Name) (values : Values) (c : Command) → command_with n values ≡ Some c → are_read (options_for n) values ≡ true
numbers_read name.Run values c e = one _ (needs _ _ _ _ (values (codes "workers")) (mapped _ _ c e).1)
numbers_read name.Check values c e = refl
numbers_read name.Sample values c e =
    let (number, number_is, e₁) = followed _ _ c e in
    let (agents, agents_is, e₂) = followed _ _ c e₁ in
    let (steps, steps_is, e₃) = followed _ _ c e₂ in
    ap₂ (λ a b. a && b) (needs _ _ _ number (values (codes "number")) number_is) (ap₂ (λ a b. a && b) (needs _ _ _ agents (values (codes "agents")) agents_is) (one _ (needs _ _ _ steps (values (codes "steps")) steps_is)))
numbers_read name.Soak values c e =
    let (number, number_is, e₁) = followed _ _ c e in
    let (agents, agents_is, e₂) = followed _ _ c e₁ in
    let (steps, steps_is, e₃) = followed _ _ c e₂ in
    ap₂ (λ a b. a && b) (needs _ _ _ number (values (codes "number")) number_is) (ap₂ (λ a b. a && b) (needs _ _ _ agents (values (codes "agents")) agents_is)
    (ap₂ (λ a b. a && b) (needs _ _ _ steps (values (codes "steps")) steps_is) (one _ (needs _ _ _ _ (values (codes "workers")) (mapped _ _ c e₃).1))))
numbers_read name.Live values c e = one _ (needs _ _ _ _ (values (codes "workers")) (mapped _ _ c e).1)

-- ---- the numbers of all options that were given

abbrev pub are_numbers : List Given → Bool
are_numbers given = list_all (λ g. is_number g.value) given

read_at : (known : List Known) (values : Values) (name : Text) → are_read known values ≡ true → is_known known name ≡ true → number_or_none (values name) ≡ true
read_at [] values name all e = absurd (true≢false (sym e))
read_at (k ∷ ks) values name all e = go (bytes_eq k.name name) refl e (both _ _ all) (λ rest. read_at ks values name rest)
  where
    go : (b : Bool) → bytes_eq k.name name ≡ b → (b || is_known ks name) ≡ true → (number_or_none (values k.name) ≡ true) × (are_read ks values ≡ true)
        → (are_read ks values ≡ true → is_known ks name ≡ true → number_or_none (values name) ≡ true) → number_or_none (values name) ≡ true
    go true is e all later = ap (λ n. number_or_none (values n)) (sym ((bytes_eq-Decides k.name name).0 is)) ∙ all.0
    go false is e all later = later all.1 e

value_past : (before gs : List Given) (g : Given) → is_given before g.name ≡ false → value_of (before ++ g ∷ gs) g.name ≡ Some g.value
value_past [] gs g new = ap (λ b. option_map (λ (x : Given). x.value) (cond b (Some g) (find (λ (x : Given). bytes_eq x.name g.name) gs))) ((bytes_eq-Decides g.name g.name).1 refl)
value_past (b ∷ bs) gs g new = go (bytes_eq b.name g.name) new (value_past bs gs g)
  where
    go : (p : Bool) → (p || is_given bs g.name) ≡ false → (is_given bs g.name ≡ false → value_of (bs ++ g ∷ gs) g.name ≡ Some g.value)
        → option_map (λ (x : Given). x.value) (cond p (Some b) (find (λ (x : Given). bytes_eq x.name g.name) (bs ++ g ∷ gs))) ≡ Some g.value
    go true e later = absurd (true≢false e)
    go false e later = later e

numbers_past : (known : List Known) (before gs : List Given) → EachOnce known before gs → are_read known (value_of (before ++ gs)) ≡ true → are_numbers gs ≡ true
numbers_past known before [] once all = refl
numbers_past known before (g ∷ gs) (has, new, once) all =
    ap₂ (λ a b. a && b)
    (ap number_or_none (sym (value_past before gs g new)) ∙ read_at known (value_of (before ++ g ∷ gs)) g.name all has)
    (numbers_past known (before ++ g ∷ []) gs once (subst (λ xs. are_read known (value_of xs) ≡ true) (sym (append_assoc before (g ∷ []) gs)) all))

pub given_numbers : (known : List Known) (given : List Given) → EachOnce known [] given → are_read known (value_of given) ≡ true → are_numbers given ≡ true
given_numbers known given once all = numbers_past known [] given once all

-- ---- between the two relations

flag_no_number : (value : Text) → is_number value ≡ true → is_flag value ≡ false
flag_no_number [] e = refl
flag_no_number (b ∷ bs) e = go (b == 45) refl
  where
    digit : is_digit b ≡ true
    digit = (both _ _ (both (nat_le 1 (length (b ∷ bs)) && nat_le (length (b ∷ bs)) 10) _ e).1).0

    go : (p : Bool) → (b == 45) ≡ p → option_map_or has_more (cond p (Some bs) None) false ≡ false
    go true is = absurd (true≢false (sym digit ∙ ap is_digit (eqb-true b 45 is)))
    go false is = refl

pub with_numbers : (gs : List Given) (words : List Text) → SpellsTexts gs words → are_numbers gs ≡ true → SpellsAll gs words
with_numbers [] words none all = none
with_numbers (g ∷ gs) words (front, rest, is, spells, more) all =
    let parts = both (is_number g.value) (are_numbers gs) all in
    (front, rest, is, (parts.0, go spells), with_numbers gs rest more parts.1)
  where
    go : SpellsText g front → (front ≡ (codes "--" ++ g.name) ∷ g.value ∷ []) ⊎ (front ≡ (codes "--" ++ g.name ++ codes "=" ++ g.value) ∷ [])
    go (inl two) = inl two.0
    go (inr one) = inr one

pub without_numbers : (gs : List Given) (words : List Text) → SpellsAll gs words → SpellsTexts gs words
without_numbers [] words none = none
without_numbers (g ∷ gs) words (front, rest, is, (number, spells), more) = (front, rest, is, go spells, without_numbers gs rest more)
  where
    go : ((front ≡ (codes "--" ++ g.name) ∷ g.value ∷ []) ⊎ (front ≡ (codes "--" ++ g.name ++ codes "=" ++ g.value) ∷ [])) → SpellsText g front
    go (inl two) = inl (two, flag_no_number g.value number)
    go (inr one) = inr one
