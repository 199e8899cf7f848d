use Rattle.std.proofs.Common.{◌≡◌, ◌+◌, ℕ, List, length, subst, arith}
use Rattle.std.specs.List.{All}
use Rattle.std.proofs.lemmas.List.{length_push}
use Rattle.crowd_data.specs.declared.segment.Segment.{Segment}
use Rattle.agent_step.specs.declared.extent.Extent.{Extent}
use Rattle.agent_step.specs.WallBlocks.{IsAround, block_at}
use Rattle.agent_step.proofs.Blocks.{each_more}
use Rattle.agent_step.proofs.wall_blocks.boxes_of.Goals as goal

pub loop-k-preserved : goal.loop-k-preserved
loop-k-preserved c = record {
  so_far = let e : length c.push.new.self.items ≡ c.loop-k.k + 1 = rw c.push.ensures.items (omega (arith, length_push c.loop-k.boxes.items c.extent_of.result, c.loop-k.invariant.so_far)) in e;
  around =
      let new : All (IsAround c.extent_of.result) (block_at c.args.segments.now c.loop-k.k) = subst (λ (l : List Segment). All (IsAround c.extent_of.result) l) c.block.ensures c.extent_of.ensures in
      rw c.push.ensures.items
      (each_more (λ (k : ℕ) (box : Extent). All (IsAround box) (block_at c.args.segments.now k)) c.loop-k.boxes.items c.loop-k.k c.extent_of.result c.loop-k.invariant.so_far c.loop-k.invariant.around new);
  room = omega (arith, c.loop-k.invariant.room, c.push.ensures.spare);
}

pub returns : goal.returns
returns c = record {
  count = omega (arith, c.loop-k.invariant.so_far, c.div_ceil-count.ensures, c.loop-k-test.false);
  around = λ k h. c.loop-k.invariant.around k (omega (arith, c.loop-k.invariant.so_far, h));
}
