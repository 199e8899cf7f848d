use Rattle.std.proofs.Common.{◌≡◌, ◌∙◌, ◌+◌, ◌*◌, ◌++◌, List, append_assoc, ap, false, length, map, subst, sym, arith, drop}
use Rattle.std.specs.List.{All, filter}
use Rattle.std.proofs.lemmas.List.Elements.{All-drop, All-take, All-weaker}
use Rattle.fixed_vec.specs.HalfPlane.{Plane, drawn_of}
use Rattle.crowd_data.specs.declared.segment.Segment.{Segment}
use Rattle.crowd_data.specs.Limits.{IsSegment}
use Rattle.crowd_data.specs.Walls.{IsClear, in_reach, wall_plane}
use Rattle.agent_step.specs.WallBlocks.{IsAround, block_at}
use Rattle.agent_step.proofs.Blocks.{by_block, length-block_at, length-block_at-few, none_in, out_of_reach, planes_from}
use Rattle.agent_step.proofs.hard.push_walls.Goals as goal

pub loop-k-preserved-then-are_apart : goal.loop-k-preserved-then-are_apart
loop-k-preserved-then-are_apart c =
    let agent = c.args.agent.now in
    let segments = c.args.segments.now in
    let k = c.loop-k.k in
    let none : All (λ s. in_reach agent.pos agent s ≡ false) (block_at segments k) =
    All-weaker (IsAround _) (λ s. in_reach agent.pos agent s ≡ false)
    (λ s h. out_of_reach agent.pos agent c.reached_extent-reached.result _ s c.reached_extent-reached.ensures.left c.reached_extent-reached.ensures.right c.reached_extent-reached.ensures.below c.reached_extent-reached.ensures.above
    (c.are_apart.ensures c.if-are_apart.true) h)
    (block_at segments k) (c.requires.blocks.around k c.loop-k-test.true) in
    let step = none_in (λ (segment : Segment). drawn_of (wall_plane agent.pos agent segment)) (in_reach agent.pos agent) segments k none in
    record {
      items = ap (λ (l : List Plane). c.loop-k.planes.items ++ l) (sym step) ∙ c.loop-k.invariant.items;
      room = c.loop-k.invariant.room;
      left = omega (arith, c.loop-k.invariant.left);
    }

pub push_block-requires-clause-room : goal.push_block-requires-clause-room
push_block-requires-clause-room c = omega (arith, ap length c.block.ensures, length-block_at c.args.segments.now c.loop-k.k, c.loop-k.invariant.left)

pub push_block-requires-clause-segments : goal.push_block-requires-clause-segments
push_block-requires-clause-segments c =
    rw c.block.ensures (All-take IsSegment 16 (drop (16 * c.loop-k.k) c.args.segments.now) (All-drop IsSegment (16 * c.loop-k.k) c.args.segments.now c.requires.segments))

pub push_block-requires-clause-clear : goal.push_block-requires-clause-clear
push_block-requires-clause-clear c =
    let P = IsClear c.args.agent.now.pos c.args.agent.now.radius in
    subst (λ (l : List Segment). All P l) (sym c.block.ensures) (All-take P 16 (drop (16 * c.loop-k.k) c.args.segments.now) (All-drop P (16 * c.loop-k.k) c.args.segments.now c.requires.clear))

pub loop-k-preserved : goal.loop-k-preserved
loop-k-preserved c =
    let agent = c.args.agent.now in
    let segments = c.args.segments.now in
    let k = c.loop-k.k in
    let f = λ (segment : Segment). drawn_of (wall_plane agent.pos agent segment) in
    let q = in_reach agent.pos agent in
    let block : map f (filter q c.block.result.now) ≡ map f (filter q (block_at segments k)) = ap (λ (l : List Segment). map f (filter q l)) c.block.ensures in
    let items : c.push_block.new.planes.items ++ planes_from f q segments (k + 1) ≡ c.loop-k.planes.items ++ planes_from f q segments k =
    ap (λ (l : List Plane). l ++ planes_from f q segments (k + 1)) c.push_block.ensures.items
    ∙ append_assoc c.loop-k.planes.items (map f (filter q c.block.result.now)) (planes_from f q segments (k + 1))
    ∙ ap (λ (l : List Plane). c.loop-k.planes.items ++ (l ++ planes_from f q segments (k + 1))) block
    ∙ ap (λ (l : List Plane). c.loop-k.planes.items ++ l) (sym (by_block f q segments k)) in
    record {
      items = items ∙ c.loop-k.invariant.items;
      room = c.push_block.ensures.room ∙ c.loop-k.invariant.room;
      left = omega (arith, c.loop-k.invariant.left, c.push_block.ensures.spare, ap length c.block.ensures, length-block_at-few segments k);
    }
