-- Lines that are written one after another.
use Rattle.std.specs.declared.option.Option.{Option}
use Rattle.std.specs.Io.KnownBytes.{Appends}
use Rattle.outside_io.specs.Causes.{AppendsPrefix}
use Rattle.outside_io.proofs.WroteLemmas.{prefix_longer, prefix_then}
use Rattle.std.proofs.Common.{◌≡◌, ◌∙◌, ◌<◌, ◌+◌, ◌++◌, List, ℕ, length, drop, get_or, suc, sym, ap, add-one, drop-cons, append_assoc, flat_map}

module _ {A : Type 0} (line : A → List ℕ) (items : List A) (i : ℕ) (x : A) (here : x ≡ get_or items i x) (h : i < length items) where
  -- the lines of the rest begin with the line of its first item
  first_line : flat_map line (drop i items) ≡ line x ++ flat_map line (drop (i + 1) items)
  first_line = rw (add-one, drop-cons items i x h) (ap (λ y. line y ++ flat_map line (drop (suc i) items)) (sym here))

  -- after one more line
  pub more_lines : (done : List ℕ) → flat_map line items ≡ done ++ flat_map line (drop i items)
      → flat_map line items ≡ (done ++ line x) ++ flat_map line (drop (i + 1) items)
  more_lines done e = e ∙ ap (λ t. done ++ t) first_line ∙ sym (append_assoc done (line x) (flat_map line (drop (i + 1) items)))

  -- a refusal in the midst leaves a prefix of all the lines
  pub prefix_lines : (a b c : Option (List ℕ)) (done : List ℕ) → flat_map line items ≡ done ++ flat_map line (drop i items)
      → Appends a b done → AppendsPrefix b c (line x) → AppendsPrefix a c (flat_map line items)
  prefix_lines a b c done e held p =
      let rest = flat_map line (drop (i + 1) items) in
      rw (e, first_line) (prefix_then a b c done (line x ++ rest) held (prefix_longer b c (line x) rest p))
