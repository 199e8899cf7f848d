-- What clap answers, against the grammar.
use Rattle.std.proofs.Common.{◌≡◌, ◌∙◌, Bool, true, false, cond, ◌||◌, ◌&&◌, not, List, [], ◌∷◌, ◌≤◌, ◌-◌, length, map, take, drop, get_or, arith, option_and_then, take_all, codes, Option, Some, None, refl, sym, ap, subst, inl, inr, true≢false}
use Rattle.std.specs.Str.{bytes_eq}
use Rattle.std.specs.List.{list_any}
use Rattle.std.proofs.lemmas.Slice.Eq.{bytes_eq-Decides}
use Rattle.clap.specs.Words.{App, HasKind, IsAmong, Kinds, fault_of, first_of, first_value, is_simple, is_simple_and_free, kind_of, matches_of, rows_of}
use Rattle.clap.specs.declared.error.Error.{Error}
use Rattle.clap.specs.declared.error.kind.ErrorKind.TheVariants as kind
use Rattle.clap.specs.declared.parser.matches.Found.{Found}
use Rattle.clap.proofs.WalkLemmas.{first_value-rows}
use Rattle.command_words.specs.Options.{Given, Known, Text, from_option, from_word, if_complete, is_flag, is_given, is_known, option_word, options_after, options_of, value_of, with_option}
use Rattle.std.specs.Borrow.{Bor}
use Rattle.command_words.specs.Commands.{Values, command_of, command_with, name_of, named_command, options_for}
use Rattle.command_words.specs.declared.commands.Command.{Command}
use Rattle.command_words.specs.declared.commands.Name.{Name}
use Rattle.command_words.specs.Reading.{ArePlain, app_for}
use Rattle.command_words.proofs.Parses.{Reads, options_read}
use Rattle.command_words.proofs.Rows.{first_is}
use Rattle.command_words.proofs.Tables.{simple, simple_and_free}

-- ---- words with `--`

nothing_then : (known : List Known) (given : List Given) (l : Option (Text × Option Text)) (then : List Given → Option Text → Option (List Given))
    → ((more : List Given) (waiting : Option Text) → then more waiting ≡ None) → from_word known given l then ≡ None
nothing_then known given None then h = refl
nothing_then known given (Some p) then h = go p.1
  where
    none : (b : Bool) (more : List Given) → cond b (then more None) None ≡ None
    none true more = h more None
    none false more = refl

    go : (v : Option Text) → from_option known given p.0 v then ≡ None
    go None = h given (Some p.0)
    go (Some value) = none (is_known known p.0 && not (is_given given p.0)) _

dashed_after : (known : List Known) (words : List Text) → list_any (λ w. bytes_eq w (codes "--")) words ≡ true
    → (given : List Given) (waiting : Option Text) → options_after known given waiting words ≡ None
unfolding options_after
dashed_after known [] e given waiting = absurd (true≢false (sym e))
dashed_after known (word ∷ words) e given None = go (bytes_eq word (codes "--")) refl e (dashed_after known words)
  where
    go : (b : Bool) → bytes_eq word (codes "--") ≡ b → (b || list_any (λ w. bytes_eq w (codes "--")) words) ≡ true
        → (list_any (λ w. bytes_eq w (codes "--")) words ≡ true → (given : List Given) (waiting : Option Text) → options_after known given waiting words ≡ None)
        → from_word known given (option_word word) (λ more waiting. options_after known more waiting words) ≡ None
    go true is h later = ap (λ w. from_word known given (option_word w) (λ more waiting. options_after known more waiting words)) ((bytes_eq-Decides word (codes "--")).0 is)
    go false is h later = nothing_then known given (option_word word) (λ more waiting. options_after known more waiting words) (later h)
dashed_after known (word ∷ words) e given (Some name) = go (bytes_eq word (codes "--")) refl e (dashed_after known words)
  where
    none : (f b : Bool) (more : List Given) → options_after known more None words ≡ None → cond f None (cond b (options_after known more None words) None) ≡ None
    none true b more h = refl
    none false true more h = h
    none false false more h = refl

    go : (b : Bool) → bytes_eq word (codes "--") ≡ b → (b || list_any (λ w. bytes_eq w (codes "--")) words) ≡ true
        → (list_any (λ w. bytes_eq w (codes "--")) words ≡ true → (given : List Given) (waiting : Option Text) → options_after known given waiting words ≡ None)
        → cond (is_flag word) None (with_option known given name word (λ more. options_after known more None words)) ≡ None
    go true is h later =
        ap (λ w. cond (is_flag w) None (with_option known given name word (λ more. options_after known more None words))) ((bytes_eq-Decides word (codes "--")).0 is)
    go false is h later = none (is_flag word) _ _ (later h _ None)

pub dashed : (known : List Known) (words : List Text) → list_any (λ w. bytes_eq w (codes "--")) words ≡ true → options_of known words ≡ None
dashed known words e = ap (if_complete known) (dashed_after known words e [] None)

-- ---- an answer of clap

-- clap took the words
pub read_ok : {Q : Type 0} (a : App) (name : Text) (known : List Known) (words : List Text) (f : Found) → a ≡ app_for name known → ArePlain words
    → (is_simple_and_free a ≡ true → fault_of a words ≡ []) → (is_simple a ≡ true → (rows_of f ≡ matches_of a words) × Q)
    → (given : List Given) × (options_of known words ≡ Some given) × (first_value f ≡ value_of given)
read_ok a name known words f e plain kinds rows = go (options_of known words) refl (options_read name known words plain)
  where
    no_fault : fault_of (app_for name known) words ≡ []
    no_fault = subst (λ x. is_simple_and_free x ≡ true → fault_of x words ≡ []) e kinds (simple_and_free name known)

    rows_are : rows_of f ≡ matches_of (app_for name known) words
    rows_are = subst (λ x. is_simple x ≡ true → rows_of f ≡ matches_of x words) e (λ s. (rows s).0) (simple name known)

    go : (o : Option (List Given)) → options_of known words ≡ o → Reads (app_for name known) words o
        → (given : List Given) × (options_of known words ≡ Some given) × (first_value f ≡ value_of given)
    go None is bad = absurd (bad no_fault)
    go (Some given) is reads = (given, is, λ i n. (first_value-rows f n ∙ ap (first_of n) (rows_are ∙ reads.1) ∙ first_is given n) i)

-- an error other than lack of memory shows that there was a fault
not_among : (ks : Kinds) (e : Error) → ks ≡ [] → (kind_of e ≡ kind.OutOfMemory → ⊥) → HasKind ks e → ⊥
not_among ks e none other (inl memory) = other memory
not_among ks e none other (inr among) = subst (λ (k : Kinds). IsAmong (kind_of e) k) none among

-- clap refused them
pub read_err : (a : App) (name : Text) (known : List Known) (words : List Text) (error : Error) → a ≡ app_for name known → ArePlain words
    → (is_simple_and_free a ≡ true → HasKind (fault_of a words) error) → (kind_of error ≡ kind.OutOfMemory → ⊥) → options_of known words ≡ None
read_err a name known words error e plain kinds other = go (options_of known words) refl (options_read name known words plain)
  where
    fault : HasKind (fault_of (app_for name known) words) error
    fault = subst (λ x. is_simple_and_free x ≡ true → HasKind (fault_of x words) error) e kinds (simple_and_free name known)

    go : (o : Option (List Given)) → options_of known words ≡ o → Reads (app_for name known) words o → options_of known words ≡ None
    go None is bad = is
    go (Some given) is reads = absurd (not_among _ error reads.0 other fault)

-- ---- the command

-- the words behind the name give these options, and they this command or none
pub command_is : (words : List (Bor Text)) (d : Bor Text) (n : Name) (o : Option Command) (values : Values) → 1 ≤ length words → Some n ≡ name_of (get_or words 0 d).now
    → ((given : List Given) × (options_of (options_for n) (map (λ w. w.now) (take (length words - 1) (drop 1 words))) ≡ Some given) × (values ≡ value_of given))
    → o ≡ command_with n values → command_of (map (λ w. w.now) words) ≡ o
unfolding command_of
command_is [] d n o values some named (given, read, gives) made = absurd (omega arith)
command_is (w ∷ ws) d n o values some named (given, read, gives) made =
    let all : length (w ∷ ws) - 1 ≡ length ws = omega arith in
    let rest : take (length (w ∷ ws) - 1) ws ≡ ws = ap (λ k. take k ws) all ∙ take_all (length ws) ws (omega arith) in
    let words_read : options_of (options_for n) (map (λ w. w.now) ws) ≡ Some given = ap (λ xs. options_of (options_for n) (map (λ (w : Bor Text). w.now) xs)) (sym rest) ∙ read in
    ap (λ named. named_command named (map (λ w. w.now) ws)) (sym named)
    ∙ ap (option_and_then (λ given. command_with n (value_of given))) words_read
    ∙ ap (command_with n) (sym gives) ∙ sym made
