use Rattle.frame_step.specs.Workers.{desk_of}
use Rattle.frame_step.proofs.Pieces.{pieces_cover}
use Rattle.frame_step.proofs.putting.take_in.Goals as goal

pub returns-clause-moved : goal.returns-clause-moved
returns-clause-moved c = λ state all.
    pieces_cover state (desk_of c.args.worker.now).drawn.items c.put_pieces.new.into.items
    (rw (c.items-2.ensures, c.deref-desk.ensures) at (c.put_pieces.ensures.moved state (rw (c.items.ensures, c.items-2.ensures, c.deref-desk.ensures) all)))

pub returns-clause-others : goal.returns-clause-others
returns-clause-others c = λ state all. c.put_pieces.ensures.others state (rw (c.items.ensures, c.items-2.ensures, c.deref-desk.ensures) all)
