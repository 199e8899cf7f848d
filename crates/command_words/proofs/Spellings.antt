-- The words that ask for a command are those of which the recursion makes it.
use Rattle.std.proofs.Common.{◌≡◌, ◌∙◌, ◌⊎◌, inl, inr, Bool, true, false, cond, List, [], ◌∷◌, Result, Ok, Err, IfOk, IsErrOf, Option, Some, None, option_and_then, refl, sym, ap, subst, find}
use Rattle.std.specs.Str.{bytes_eq}
use Rattle.std.proofs.lemmas.Slice.Eq.{bytes_eq-Decides}
use Rattle.command_words.specs.Options.{Given, Text, options_of, value_of}
use Rattle.command_words.specs.Commands.{Answers, all_names, command_of, command_with, name_of, named_command, options_for, text_of}
use Rattle.command_words.specs.Spelling.{Asks}
use Rattle.command_words.specs.declared.commands.Command.{Command}
use Rattle.command_words.specs.declared.commands.WordsFault.{WordsFault}
use Rattle.command_words.specs.declared.commands.WordsFault.TheVariants.{NoMemory, Usage}
use Rattle.command_words.specs.declared.commands.Name.{Name}
use Rattle.command_words.specs.declared.commands.Name.TheVariants as name
use Rattle.command_words.proofs.Values.{given_numbers, numbers_read, with_numbers, without_numbers}
use Rattle.command_words.proofs.Texts.{are_names, options_spelled, some≢none, spelled_options}

-- ---- the command

find_passes : {X : Type 0} (p : X → Bool) (xs : List X) (x : X) → find p xs ≡ Some x → p x ≡ true
find_passes p [] x e = absurd (some≢none x (sym e))
find_passes {X} p (y ∷ ys) x e = go (p y) refl e (find_passes p ys x)
  where
    go : (b : Bool) → p y ≡ b → cond b (Some y) (find p ys) ≡ Some x → (find p ys ≡ Some x → p x ≡ true) → p x ≡ true
    go true is e later = ap p (sym (ap (λ o. elim o as (λ _. X) [ None ↦ y | Some z ↦ z ]) e)) ∙ is
    go false is e later = later e

name_named : (n : Name) → name_of (text_of n) ≡ Some n
name_named name.Run = refl
name_named name.Check = refl
name_named name.Sample = refl
name_named name.Soak = refl
name_named name.Live = refl

option_names : (n : Name) → are_names (options_for n) ≡ true
option_names name.Run = refl
option_names name.Check = refl
option_names name.Sample = refl
option_names name.Soak = refl
option_names name.Live = refl

-- words that ask for a command give it, and no others do
pub asks : (words : List Text) (c : Command) → command_of words ≡ Some c → Asks words c
unfolding command_of
asks [] c e = absurd (some≢none c (sym e))
asks (word ∷ words) c e = go (name_of word) refl e
  where
    with_options : (n : Name) → name_of word ≡ Some n → (o : Option (List Given)) → options_of (options_for n) words ≡ o
        → option_and_then (λ given. command_with n (value_of given)) o ≡ Some c → Asks (word ∷ words) c
    with_options n named None is e = absurd (some≢none c (sym e))
    with_options n named (Some given) is e =
        let (spells, once, required) = options_spelled (options_for n) words given is in
        let same : word ≡ text_of n = (bytes_eq-Decides word (text_of n)).0 (find_passes (λ m. bytes_eq word (text_of m)) all_names n named) in
        let numbers = given_numbers (options_for n) given once (numbers_read n (value_of given) c e) in
        (n, given, words, ap (λ w. w ∷ words) same, with_numbers given words spells numbers, once, required, e)

    go : (o : Option Name) → name_of word ≡ o → named_command o words ≡ Some c → Asks (word ∷ words) c
    go None named e = absurd (some≢none c (sym e))
    go (Some n) named e = with_options n named (options_of (options_for n) words) refl e

pub asked : (words : List Text) (c : Command) → Asks words c → command_of words ≡ Some c
unfolding command_of
asked words c (n, given, options, is, spells, once, required, made) =
    ap command_of is ∙ ap (λ named. named_command named options) (name_named n)
    ∙ ap (option_and_then (λ given. command_with n (value_of given))) (spelled_options (options_for n) options given (option_names n) (without_numbers given options spells) once required) ∙ made

pub asked_if_ok : (words : List Text) (r : Result Command WordsFault) → Answers (command_of words) r → IfOk r (Asks words)
asked_if_ok words (Ok c) e = asks words c e
asked_if_ok words (Err fault) e = tt

pub none_asked : (words : List Text) (r : Result Command WordsFault) → Answers (command_of words) r → IsErrOf r Usage → (c : Command) → ¬ Asks words c
none_asked words r e is c asking = some≢none c (sym (asked words c asking) ∙ subst (Answers (command_of words)) is e)

abbrev the_command : Command → Option Command → Command
the_command d None = d
the_command d (Some c) = c

pub taken : (words : List Text) (r : Result Command WordsFault) → Answers (command_of words) r → (c : Command) → Asks words c → (r ≡ Ok c) ⊎ (r ≡ Err NoMemory)
taken words (Ok d) e c asking = inl (ap (λ o. Ok (the_command d o)) (sym e ∙ asked words c asking))
taken words (Err Usage) e c asking = absurd (some≢none c (sym (asked words c asking) ∙ e))
taken words (Err NoMemory) e c asking = inr refl
