-- What a tree stands for.
use Rattle.std.specs.Prelude.{ℕ, List, length}
use Rattle.std.specs.List.{All}
use Rattle.std.specs.List.Sorted.{IsPermutation}
use Rattle.crowd_data.specs.declared.pair.Place.{Place}
use Rattle.crowd_data.specs.Neighbours.{numbers}
use Rattle.agent_kdtree.specs.declared.tree.Tree.{Tree}
use Rattle.agent_kdtree.specs.Boxes.{IsCovered, IsEnough}
use Rattle.agent_kdtree.specs.ByCell.{HasNumbers, IsByCell}
use Rattle.agent_kdtree.specs.Placed.{IsPlaced}

-- a tree that was opened for so many places: it has each number once, in the tree and by cells, and enough boxes
pub record HasRoomFor (tree : Tree) (n : ℕ) : Type 0 where
  pub order : IsPermutation (numbers n) tree.order.items
  pub boxes : IsEnough n (length tree.boxes.items)
  pub layout : HasNumbers tree.layout n

-- a tree over these places, which are within the limits: the box of each of its nodes covers the node's places, and
-- they are laid out by cells
pub record StandsFor (tree : Tree) (places : List Place) : Type 0 where
  pub placed : All IsPlaced places
  pub room : HasRoomFor tree (length places)
  pub covered : IsCovered places tree.order.items tree.boxes.items
  pub by_cell : IsByCell tree.layout places
