-- Square cells of the plane, and places in the order of their cells.
use Rattle.std.specs.Prelude.{ℕ, ◌+◌, ◌*◌, ◌/◌, ◌^◌, ◌<◌, ◌≤◌, ℤ, ◌-ℤ◌, ◌≤ℤ◌, unsigned_abs, List, length, slice_index_or}
use Rattle.std.specs.List.{All}
use Rattle.fixed_vec.specs.declared.vector.V2.{V2}
use Rattle.fixed_vec.specs.Vector.{IsBelow}
use Rattle.crowd_data.specs.declared.pair.Place.{Place}
use Rattle.crowd_data.specs.Neighbours.{place_at, squared_gap}
use Rattle.agent_kdtree.specs.declared.cell.Mesh.{Mesh}
use Rattle.agent_kdtree.specs.declared.query.Query.{Query}

-- in which column or row of a width a coordinate lies, beyond an edge
unfoldable pub line_of : ℤ → ℕ → ℤ → ℕ
line_of edge width z = unsigned_abs (z -ℤ edge) / width

abbrev pub column_of : Mesh → V2 → ℕ
column_of mesh v = line_of mesh.low.x mesh.width v.x

abbrev pub row_of : Mesh → V2 → ℕ
row_of mesh v = line_of mesh.low.y mesh.width v.y

-- the cells are numbered row by row
abbrev pub cell_of : Mesh → V2 → ℕ
cell_of mesh v = row_of mesh v * mesh.columns + column_of mesh v

pub record IsMesh (mesh : Mesh) : Type 0 where
  pub low : IsBelow mesh.low (2 ^ 31)
  pub some : 0 < mesh.width
  pub columns : mesh.columns ≤ 65535
  pub rows : mesh.rows ≤ 65535

-- the point lies in a cell of the mesh
pub record IsInMesh (mesh : Mesh) (v : V2) : Type 0 where
  pub left : mesh.low.x ≤ℤ v.x
  pub below : mesh.low.y ≤ℤ v.y
  pub column : column_of mesh v < mesh.columns
  pub row : row_of mesh v < mesh.rows

-- the cell of the j-th number
abbrev pub cell_at : List Place → Mesh → List ℕ → ℕ → ℕ
cell_at places mesh order j = cell_of mesh (place_at places (slice_index_or order j 0)).pos

-- of the first numbers, those before `at` lie in cells before the cell, and the others don't
pub record IsStart (places : List Place) (mesh : Mesh) (order : List ℕ) (first cell at : ℕ) : Type 0 where
  pub most : at ≤ first
  pub before : (j : ℕ) → j < at → cell_at places mesh order j < cell
  pub behind : (j : ℕ) → at ≤ j → j < first → cell ≤ cell_at places mesh order j

-- all places lie in the mesh, and in the order of their cells
pub record IsGrid (places : List Place) (mesh : Mesh) (order starts : List ℕ) : Type 0 where
  pub cells : IsMesh mesh
  pub numbers : All (λ k. k < length places) order
  pub in_mesh : All (λ k. IsInMesh mesh (place_at places k).pos) order
  pub begins : (cell : ℕ) → cell < length starts → IsStart places mesh order (length order) cell (slice_index_or starts cell 0)

-- out of the range of a query
abbrev pub IsOutOfRange : List Place → Query → ℕ → Type 0
IsOutOfRange places q k = q.range * q.range ≤ squared_gap (place_at places k).pos q.at
