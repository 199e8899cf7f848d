-- The wall segments of a scenario in blocks of near ones, with a box around each block.
use Rattle.std.specs.Prelude.{◌≡◌, ℕ, ◌+◌, ◌*◌, ◌/◌, ◌<◌, List, take, drop, length, slice_index_or}
use Rattle.std.specs.List.{All}
use Rattle.std.specs.List.Sorted.{IsPermutation}
use Rattle.fixed_vec.specs.Vector.{zero_vector}
use Rattle.crowd_data.specs.declared.segment.Segment.{Segment}
use Rattle.agent_kdtree.specs.Boxes.{IsNoHigher}
use Rattle.agent_step.specs.declared.extent.Extent.{Extent}
use Rattle.agent_step.specs.declared.wall_blocks.WallBlocks.{WallBlocks}

-- a segment lies in a box
pub record IsAround (e : Extent) (segment : Segment) : Type 0 where
  pub low_a : IsNoHigher e.low segment.a
  pub low_b : IsNoHigher e.low segment.b
  pub high_a : IsNoHigher segment.a e.high
  pub high_b : IsNoHigher segment.b e.high

abbrev pub no_extent : Extent
no_extent = record { low = zero_vector; high = zero_vector }

abbrev pub no_segment : Segment
no_segment = record { a = zero_vector; b = zero_vector }

-- the k-th block: 16 segments, or what is left of them
abbrev pub block_at : List Segment → ℕ → List Segment
block_at segments k = take 16 (drop (16 * k) segments)

-- each block lies in its box
pub record IsInBlocks (segments : List Segment) (boxes : List Extent) : Type 0 where
  pub count : length boxes ≡ (length segments + 15) / 16
  pub around : (k : ℕ) → k < length boxes → All (IsAround (slice_index_or boxes k no_extent)) (block_at segments k)

-- these segments in an order of their own
pub record StandsForWalls (walls : WallBlocks) (segments : List Segment) : Type 0 where
  pub order : IsPermutation segments walls.segments.items
  pub blocks : IsInBlocks walls.segments.items walls.boxes.items
