-- The clap command of a table of options, and what clap finds in it.
use Rattle.std.proofs.Common.{◌≡◌, ◌∙◌, ℕ, Bool, true, false, cond, not, ◌&&◌, ◌||◌, List, [], ◌∷◌, map, Option, Some, None, option_map, is_some, refl, ap, ap₂, find}
use Rattle.std.specs.Str.{bytes_eq}
use Rattle.std.specs.List.{list_all, list_any, count_by}
use Rattle.clap.specs.Walk.{Rule, arg_by_id, arg_by_index, arg_by_long, arg_by_short, is_early_multiple}
use Rattle.clap.specs.Simple.{Shape, built, filled, filled_from, is_in_order, is_simple, new_shape, with_index}
use Rattle.clap.specs.Faults.{is_simple_and_free}
use Rattle.command_words.specs.Options.{Known, Text, is_known}
use Rattle.command_words.specs.Reading.{app_for, rule_for}

-- an option as clap fills it in
abbrev pub full_rule : Known → Rule
full_rule k = with_index 0 (filled (rule_for k))

-- the command, built
abbrev pub leaf : Text → List Rule → Shape
leaf name rules = record (new_shape name) { rules = rules; no_binary_name = true; disable_help_flag = true; disable_version_flag = true; disable_help_subcommand = true; is_built = true }

pub filled_rules : (i : ℕ) (known : List Known) → filled_from i (map rule_for known) ≡ map full_rule known
filled_rules i [] = refl
filled_rules i (k ∷ ks) = ap (λ rs. full_rule k ∷ rs) (filled_rules i ks)

pub built_is : (name : Text) (known : List Known) → built (app_for name known) ≡ record { top = leaf name (map full_rule known); subs = [] }
built_is name known = ap (λ rs. record { top = leaf name rs; subs = [] }) (filled_rules 1 known)

pub simple_given : (known : List Known) → list_all (λ (a : Rule). a.is_simple) (map rule_for known) ≡ true
simple_given [] = refl
simple_given (k ∷ ks) = simple_given ks

pub simple_full : (known : List Known) → list_all (λ (a : Rule). a.is_simple) (map full_rule known) ≡ true
simple_full [] = refl
simple_full (k ∷ ks) = simple_full ks

pub free_full : (known : List Known) → list_all (λ (a : Rule). a.is_free) (map full_rule known) ≡ true
free_full [] = refl
free_full (k ∷ ks) = free_full ks

none_early : (n : ℕ) (known : List Known) → list_any (is_early_multiple n) (map full_rule known) ≡ false
none_early n [] = refl
none_early n (k ∷ ks) = none_early n ks

pub in_order : (known : List Known) → is_in_order (map full_rule known) ≡ true
in_order known = ap not (none_early (count_by (λ (a : Rule). is_some a.index) (map full_rule known)) known)

simple_parts : (name : Text) (known : List Known) (rules : List Rule) → rules ≡ map full_rule known
    → ((list_all (λ (a : Rule). a.is_simple) (map rule_for known) && true) && ((list_all (λ (a : Rule). a.is_simple) rules && is_in_order rules) && true)) ≡ true
simple_parts name known rules e =
    ap₂ (λ a b. (a && true) && (b && true)) (simple_given known)
    (ap (λ rs. list_all (λ (a : Rule). a.is_simple) rs && is_in_order rs) e ∙ ap₂ (λ x y. x && y) (simple_full known) (in_order known))

pub simple : (name : Text) (known : List Known) → is_simple (app_for name known) ≡ true
simple name known = simple_parts name known (filled_from 1 (map rule_for known)) (filled_rules 1 known)

pub simple_and_free : (name : Text) (known : List Known) → is_simple_and_free (app_for name known) ≡ true
simple_and_free name known =
    ap₂ (λ a b. a && (b && true)) (simple name known)
    (ap (list_all (λ (a : Rule). a.is_free)) (filled_rules 1 known) ∙ free_full known)

-- ---- what clap finds

abbrev pub entry_of : List Known → Text → Option Known
entry_of known name = find (λ k. bytes_eq k.name name) known

pub by_long : (known : List Known) (name : Text) → arg_by_long (map full_rule known) name ≡ option_map full_rule (entry_of known name)
by_long [] name = refl
by_long (k ∷ ks) name = go (bytes_eq k.name name) (by_long ks name)
  where
    go : (b : Bool) → arg_by_long (map full_rule ks) name ≡ option_map full_rule (entry_of ks name)
        → cond (b || false) (Some (full_rule k)) (arg_by_long (map full_rule ks) name) ≡ option_map full_rule (cond b (Some k) (entry_of ks name))
    go true e = refl
    go false e = e

pub by_id : (known : List Known) (name : Text) → arg_by_id (map full_rule known) name ≡ option_map full_rule (entry_of known name)
by_id [] name = refl
by_id (k ∷ ks) name = go (bytes_eq k.name name) (by_id ks name)
  where
    go : (b : Bool) → arg_by_id (map full_rule ks) name ≡ option_map full_rule (entry_of ks name)
        → cond b (Some (full_rule k)) (arg_by_id (map full_rule ks) name) ≡ option_map full_rule (cond b (Some k) (entry_of ks name))
    go true e = refl
    go false e = e

pub no_short : (known : List Known) (x : ℕ) → arg_by_short (map full_rule known) x ≡ None
no_short [] x = refl
no_short (k ∷ ks) x = no_short ks x

pub no_index : (known : List Known) (i : ℕ) → arg_by_index (map full_rule known) i ≡ None
no_index [] i = refl
no_index (k ∷ ks) i = no_index ks i

pub known_is : (known : List Known) (name : Text) → is_known known name ≡ is_some (entry_of known name)
known_is [] name = refl
known_is (k ∷ ks) name = go (bytes_eq k.name name) (known_is ks name)
  where
    go : (b : Bool) → is_known ks name ≡ is_some (entry_of ks name) → (b || is_known ks name) ≡ is_some (cond b (Some k) (entry_of ks name))
    go true e = refl
    go false e = e
