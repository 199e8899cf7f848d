use Rattle.std.proofs.Common.{◌≡◌, ◌∙◌, length, drop, min, arith, ap, sym, length-append, length-drop, length-take}
use Rattle.outside_io.proofs.Pieces.{front_read, none_read}
use Rattle.outside_io.proofs.memory.MemSourceSource.read.Goals as goal

pub returns-clause-bytes : goal.returns-clause-bytes
returns-clause-bytes c =
    let s = c.self.inside in
    let n = c.min-count.result in
    let rest : c.split_at.result.1.now ≡ drop s.at s.bytes.items = c.split_at.ensures.back ∙ ap (drop s.at) c.items.ensures in
    let count : n ≡ min (min (length (drop s.at s.bytes.items)) (length c.args.into.now)) s.chunk = rw (← rest) (c.min-count.ensures ∙ ap (λ m. min m s.chunk) c.min.ensures) in
    let front = front_read s.at n s.bytes.items c.copy_from_slice.new.self _ (omega arith) (rw (← rest) c.copy_from_slice.ensures.after) in (
      sym (ap (λ v. v.left) c.self.view_is) ∙ front,
      λ none room. none_read s.at s.chunk n s.bytes.items c.args.into.now c.self.invariant.0 c.self.invariant.1 count none
          (omega (arith, simp (length-append, length-drop, c.copy_from_slice.ensures.len, length-take) at room)),
    )
