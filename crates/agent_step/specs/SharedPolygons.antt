-- Lists of polygons that stand in another list.
use Rattle.std.specs.Prelude.{ℕ, List, [], map, slice_index_or}
use Rattle.fixed_vec.specs.HalfPlane.{Plane}

-- the polygons at these places
abbrev pub at_places : List (List Plane) → List ℕ → List (List Plane)
at_places polygons places = map (λ k. slice_index_or polygons k []) places
