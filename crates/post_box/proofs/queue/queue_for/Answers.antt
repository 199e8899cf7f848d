use Rattle.post_box.proofs.Keeps.{begins}
use Rattle.post_box.proofs.queue.queue_for.Goals as goal

pub with_rule-requires : goal.with_rule-requires
with_rule-requires c = begins
