-- The grammar's tests of a word against clap's, at every word but `--`.
use Rattle.std.proofs.Common.{◌≡◌, ◌∙◌, ◌+◌, ◌==◌, ℕ, suc, Bool, true, false, cond, ◌||◌, ◌&&◌, not, List, [], ◌∷◌, drop, take, Option, Some, None, option_map, option_and_then, is_some, refl, ap, ap₂, arith, true≢false}
use Rattle.std.specs.Str.{bytes_eq}
use Rattle.std.specs.List.{position_or_len}
use Rattle.std.specs.Option.{option_map_or}
use Rattle.clap.specs.Lexer.{has_byte, long_of, long_of_rest, name_and_value, short_of, short_of_rest, strip_byte}
use Rattle.command_words.specs.Options.{Text, behind_dash, cut_at_equals, has_more, if_more, is_flag, option_word}
use Rattle.command_words.proofs.Turns.{dashes}

cut_is : (t : Text) → cut_at_equals t ≡ name_and_value t
cut_is [] = refl
cut_is (b ∷ bs) = go (b == 61) (position_or_len (λ x. x == 61) bs) (cut_is bs)
  where
    go : (p : Bool) (n : ℕ) → cut_at_equals bs ≡ (take n bs, cond (has_byte 61 bs) (Some (drop (n + 1) bs)) None)
        → ◌≡◌ {A = Text × Option Text} (cond p ([], Some bs) (b ∷ (cut_at_equals bs).0, (cut_at_equals bs).1))
        (take (cond (not p) (1 + n) 0) (b ∷ bs), cond (p || has_byte 61 bs) (Some (drop (cond (not p) (1 + n) 0 + 1) (b ∷ bs))) None)
    go true n e = refl
    go false n e =
        let before : suc n ≡ 1 + n = omega arith in
        let behind : suc (n + 1) ≡ 1 + n + 1 = omega arith in
        ap (λ (c : Text × Option Text). (b ∷ c.0, c.1)) e
        ∙ ap₂ (λ j k. (take j (b ∷ bs), cond (has_byte 61 bs) (Some (drop k (b ∷ bs))) None)) before behind

pub option_is : (word : Text) → option_word word ≡ long_of word
option_is [] = refl
option_is (c ∷ []) = go (c == 45)
  where
    go : (p : Bool) → option_map cut_at_equals (option_and_then if_more (option_and_then behind_dash (cond p (Some []) None)))
        ≡ option_and_then long_of_rest (option_and_then (strip_byte 45) (cond p (Some []) None))
    go true = refl
    go false = refl
option_is (c ∷ d ∷ bs) = go (c == 45)
  where
    second : (q : Bool) (bs : List ℕ) → option_map cut_at_equals (option_and_then if_more (cond q (Some bs) None)) ≡ option_and_then long_of_rest (cond q (Some bs) None)
    second true [] = refl
    second true (b ∷ bs) = ap Some (cut_is (b ∷ bs))
    second false bs = refl

    go : (p : Bool) → option_map cut_at_equals (option_and_then if_more (option_and_then behind_dash (cond p (Some (d ∷ bs)) None)))
        ≡ option_and_then long_of_rest (option_and_then (strip_byte 45) (cond p (Some (d ∷ bs)) None))
    go true = second (d == 45) bs
    go false = refl

pub flag_is : (word : Text) → bytes_eq word dashes ≡ false → is_flag word ≡ (is_some (long_of word) || is_some (short_of word))
flag_is [] plain = refl
flag_is (c ∷ []) plain = go (c == 45)
  where
    go : (p : Bool) → option_map_or has_more (cond p (Some []) None) false
        ≡ (is_some (option_and_then long_of_rest (option_and_then (strip_byte 45) (cond p (Some []) None))) || is_some (option_and_then short_of_rest (cond p (Some []) None)))
    go true = refl
    go false = refl
flag_is (c ∷ d ∷ bs) plain = go (c == 45) plain
  where
    second : (q : Bool) (bs : List ℕ) → (q && bytes_eq bs []) ≡ false
        → true ≡ (is_some (option_and_then long_of_rest (cond q (Some bs) None)) || is_some (cond q None (Some (d ∷ bs))))
    second true [] e = absurd (true≢false e)
    second true (b ∷ bs) e = refl
    second false bs e = refl

    go : (p : Bool) → (p && ((d == 45) && bytes_eq bs [])) ≡ false
        → option_map_or has_more (cond p (Some (d ∷ bs)) None) false
        ≡ (is_some (option_and_then long_of_rest (option_and_then (strip_byte 45) (cond p (Some (d ∷ bs)) None))) || is_some (option_and_then short_of_rest (cond p (Some (d ∷ bs)) None)))
    go true e = second (d == 45) bs e
    go false e = refl
