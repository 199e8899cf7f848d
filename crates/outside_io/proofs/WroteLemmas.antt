-- A text that is written in several calls.
use Rattle.std.proofs.Common.{◌∙◌, ◌++◌, [], List, ℕ, Result, Ok, Err, refl, sym, ap, take, drop, append_assoc, append-nil, take-append-drop}
use Rattle.std.specs.declared.option.Option.{Option}
use Rattle.std.specs.Io.KnownBytes.{Appends, Keeps}
use Rattle.std.proofs.KnownBytes.{Appends-kept, Appends-nil, Appends-trans}
use Rattle.outside_io.specs.Causes.{AppendsPrefix, Wrote}

-- nothing is a prefix
pub prefix_nothing : (a : Option (List ℕ)) (text : List ℕ) → AppendsPrefix a a text
prefix_nothing a text = ([], text, refl, Appends-nil a)

-- the whole is a prefix
pub prefix_whole : (a b : Option (List ℕ)) (text : List ℕ) → Appends a b text → AppendsPrefix a b text
prefix_whole a b text p = (text, [], sym (append-nil text), p)

-- the first n bytes are a prefix, and stand where they are kept
pub prefix_kept : (a b c : Option (List ℕ)) (n : ℕ) (text : List ℕ) → Appends a b (take n text) → Keeps b c
    → AppendsPrefix a c text
prefix_kept a b c n text p q =
    (take n text, drop n text, sym (take-append-drop n text), Appends-kept a b c (take n text) p q)

-- a prefix is one of a longer text
pub prefix_longer : (a b : Option (List ℕ)) (x y : List ℕ) → AppendsPrefix a b x → AppendsPrefix a b (x ++ y)
prefix_longer a b x y (front, back, e, p) =
    (front, back ++ y, ap (λ t. t ++ y) e ∙ append_assoc front back y, p)

-- a whole text, and then a prefix of the next
pub prefix_then : (a b c : Option (List ℕ)) (x y : List ℕ) → Appends a b x → AppendsPrefix b c y
    → AppendsPrefix a c (x ++ y)
prefix_then a b c x y p (front, back, e, q) =
    (x ++ front, back, ap (λ t. x ++ t) e ∙ sym (append_assoc x front back), Appends-trans a b c x front p q)

-- a text was written, and then what a call says of the next
pub wrote_then : {T E : Type 0} (a b c : Option (List ℕ)) (r : Result T E) (x y : List ℕ) → Appends a b x
    → Wrote b c r y → Wrote a c r (x ++ y)
wrote_then a b c (Ok v) x y p w = Appends-trans a b c x y p w
wrote_then a b c (Err e) x y p w = prefix_then a b c x y p w
