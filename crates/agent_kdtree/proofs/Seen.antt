-- Lists of the code's records, as the definitions see them.
use Rattle.std.proofs.Common.{◌≡◌, ◌≢◌, ℕ, List, ◌∷◌, take, drop, refl, ◌∙◌}
use Rattle.std.proofs.lemmas.List.{drop-map, map-append, take-map}
use Rattle.std.proofs.lemmas.List.Elements.{All-contains, All-map}
use Rattle.std.specs.List.{All, Contains, insert}
use Rattle.agent_kdtree.specs.declared.near.Near.{Near}
use Rattle.agent_kdtree.specs.Seen.{agents_of, seen_all, seen_of}

pub seen_all-insert : (l : List Near) (i : ℕ) (near : Near) → seen_all (insert l i near) ≡ insert (seen_all l) i (seen_of near)
seen_all-insert l i near = map-append seen_of (take i l) (near ∷ drop i l) ∙ rw (take-map seen_of i l, drop-map seen_of i l) refl

-- an agent that no record has is not listed
pub not_listed : (near : List Near) (k : ℕ) → All (λ (other : Near). other.agent ≢ k) near → ¬ Contains (agents_of near) k
not_listed near k h = λ c. All-contains (λ a. a ≢ k) (agents_of near) k (All-map (λ a. a ≢ k) (λ (other : Near). other.agent) near h) c refl
