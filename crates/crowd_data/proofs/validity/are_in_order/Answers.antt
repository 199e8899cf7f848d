use Rattle.std.proofs.Common.{◌≡◌, ◌⊎◌, ◌<◌, ◌-◌, ℕ, zero, suc, inl, inr, arith, pos}
use Rattle.crowd_data.specs.declared.post.ScriptPost.{ScriptPost}
use Rattle.crowd_data.proofs.validity.are_in_order.Goals as goal

zero_or_more : (n : ℕ) → (n ≡ 0) ⊎ (0 < n)
zero_or_more zero = inl (omega arith)
zero_or_more (suc n) = inr (omega arith)

abbrev no_post : ScriptPost
no_post = record { frame = 0; agent = 0; vel = record { x = pos 0; y = pos 0 } }

-- the post before this one has a greater frame
pub returns-then-post-last : goal.returns-then-post-last
returns-then-post-last c = (
  λ e. cc e,
  λ order.
      elim (zero_or_more c.loop-post.post-index) [
        | inl none ↦ let first = c.loop-post.invariant.first none in absurd (omega (arith, first, c.if-post-last.true))
        | inr some ↦
            let last = c.loop-post.invariant.last no_post some in
            let kept = order (c.loop-post.post-index - 1) c.loop-post.post-index no_post (omega arith) c.loop-post-test.true in
            absurd (omega (arith, last, kept, c.if-post-last.true))
      ],
)
