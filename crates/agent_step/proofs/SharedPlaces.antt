-- Places of items that stay where they are, and of items that are mapped.
use Rattle.std.proofs.Common.{◌≡◌, ◌∙◌, ℕ, ◌<◌, List, [], ◌∷◌, length, map, get_or, refl, ap}
use Rattle.std.specs.List.{All}
use Rattle.std.proofs.lemmas.List.{get_or-map}
use Rattle.std.proofs.lemmas.List.Elements.{All-head, All-tail}
use Rattle.fixed_vec.specs.HalfPlane.{Plane}
use Rattle.agent_step.specs.SharedPolygons.{at_places}

pub kept_places : (before after : List ℕ) → ((k : ℕ) → k < length before → get_or after k 0 ≡ get_or before k 0) → (places : List ℕ) → All (λ k. k < length before) places
    → map (λ k. get_or after k 0) places ≡ map (λ k. get_or before k 0) places
kept_places before after kept [] within = refl
kept_places before after kept (k ∷ ks) within =
    ap (λ (n : ℕ). n ∷ map (λ k. get_or after k 0) ks) (kept k (All-head (λ k. k < length before) k ks within))
    ∙ ap (λ (l : List ℕ). get_or before k 0 ∷ l) (kept_places before after kept ks (All-tail (λ k. k < length before) k ks within))

pub mapped_places : (f : ℕ → List Plane) (speeds places : List ℕ) → All (λ k. k < length speeds) places → at_places (map f speeds) places ≡ map f (map (λ k. get_or speeds k 0) places)
mapped_places f speeds [] within = refl
mapped_places f speeds (k ∷ ks) within =
    ap (λ (p : List Plane). p ∷ at_places (map f speeds) ks) (get_or-map f speeds k 0 [] (All-head (λ k. k < length speeds) k ks within))
    ∙ ap (λ (l : List (List Plane)). f (get_or speeds k 0) ∷ l) (mapped_places f speeds ks (All-tail (λ k. k < length speeds) k ks within))
