use Rattle.run_text.proofs.PostFits.{posts_fit}
use Rattle.run_text.proofs.frames.write_next.Goals as goal

pub write_frame-requires-clause-posts : goal.write_frame-requires-clause-posts
write_frame-requires-clause-posts g c = posts_fit _ _ c.requires.posts
