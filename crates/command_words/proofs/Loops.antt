-- The loops over the words and over the options of a command.
use Rattle.std.specs.Borrow.{Bor}
use Rattle.std.proofs.Common.{◌≡◌, ◌∙◌, ◌<◌, ◌≤◌, ◌+◌, ℕ, Bool, true, false, ◌||◌, List, [], ◌∷◌, codes, map, length, take, drop, get_or, refl, sym, ap, ap₂, subst, add-one, drop-cons, drop_of_length-le}
use Rattle.std.specs.Str.{IsUtf8, bytes_eq}
use Rattle.std.specs.List.{list_any}
use Rattle.std.proofs.lemmas.List.{map-append, map_more}
use Rattle.clap.specs.Walk.{Rule}
use Rattle.clap.specs.Words.{App, app_of, with_rule}
use Rattle.clap.specs.declared.builder.command.Command.{Command}
use Rattle.command_words.specs.Options.{Text}
use Rattle.command_words.specs.Reading.{ArePlain, app_for, known_of, rule_for}
use Rattle.command_words.specs.declared.options.KnownOption.{KnownOption}

rest_is : (words : List (Bor Text)) (i : ℕ) (d : Bor Text) → i < length words
    → map (λ w. w.now) (drop i words) ≡ (get_or words i d).now ∷ map (λ w. w.now) (drop (i + 1) words)
rest_is words i d h = rw (add-one, drop-cons words i d h) refl

no_word : Bor Text
no_word = record { ref_ptr = (0, 0); now = [] }

pub found_later : (words : List (Bor Text)) (i : ℕ) → i < length words
    → list_any (λ w. bytes_eq w (codes "--")) (map (λ w. w.now) (drop (i + 1) words)) ≡ true
    → list_any (λ w. bytes_eq w (codes "--")) (map (λ w. w.now) (drop i words)) ≡ true
found_later words i h e = ap (list_any (λ w. bytes_eq w (codes "--"))) (rest_is words i no_word h) ∙ go (bytes_eq (get_or words i no_word).now (codes "--")) e
  where
    go : (b : Bool) → list_any (λ w. bytes_eq w (codes "--")) (map (λ w. w.now) (drop (i + 1) words)) ≡ true
        → (b || list_any (λ w. bytes_eq w (codes "--")) (map (λ w. w.now) (drop (i + 1) words))) ≡ true
    go true e = refl
    go false e = e

pub found_here : (words : List (Bor Text)) (i : ℕ) (d : Bor Text) → i < length words → bytes_eq (get_or words i d).now (codes "--") ≡ true
    → list_any (λ w. bytes_eq w (codes "--")) (map (λ w. w.now) (drop i words)) ≡ true
found_here words i d h e = ap (list_any (λ w. bytes_eq w (codes "--"))) (rest_is words i d h)
    ∙ ap (λ b. b || list_any (λ w. bytes_eq w (codes "--")) (map (λ w. w.now) (drop (i + 1) words))) e

pub plain_more : (words : List (Bor Text)) (i : ℕ) (d : Bor Text) → i < length words → bytes_eq (get_or words i d).now (codes "--") ≡ false → IsUtf8 (get_or words i d).now
    → ArePlain (map (λ w. w.now) (drop (i + 1) words)) → ArePlain (map (λ w. w.now) (drop i words))
plain_more words i d h e text more = subst ArePlain (sym (rest_is words i d h)) (e, text, more)

pub plain_end : (words : List (Bor Text)) (i : ℕ) → length words ≤ i → ArePlain (map (λ w. w.now) (drop i words))
plain_end words i past = subst (λ rest. ArePlain (map (λ w. w.now) rest)) (sym (drop_of_length-le words past)) tt

abbrev app_with : Text → List Rule → App
app_with name rules = record (app_for name []) { top = record (app_for name []).top { rules = rules } }

-- one more option
pub app_more : (before after : Command) (rule : Rule) (name : Text) (known : List KnownOption) (i : ℕ) (d : KnownOption) → i < length known
    → app_of before ≡ app_for name (map known_of (take i known)) → app_of after ≡ with_rule (app_of before) rule → rule ≡ rule_for (known_of (get_or known i d))
    → app_of after ≡ app_for name (map known_of (take (i + 1) known))
app_more before after rule name known i d h so_far adds is =
    adds ∙ ap₂ with_rule so_far is
    ∙ ap (app_with name) (sym (map-append rule_for (map known_of (take i known)) (known_of (get_or known i d) ∷ [])) ∙ ap (map rule_for) (sym (map_more known_of known i d h)))
