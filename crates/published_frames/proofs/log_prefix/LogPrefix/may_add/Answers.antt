use Rattle.std.proofs.Common.{sym, ◌∙◌, ap}
use Rattle.published_frames.proofs.Adding.{adds_entry}
use Rattle.published_frames.proofs.log_prefix.LogPrefix.may_add.Goals as goal

pub compare_exchange-found-requires : goal.compare_exchange-found-requires
compare_exchange-found-requires g c =
    let h = c.requires.word in
    let offer = c.plain-offer.ensures in
    let pen = c.no_pen-pen.ensures in (
      ap (λ w. w.tracked) h,
      sym (ap (λ w. w.book) h),
      pen.0 ∙ sym (ap (λ w. w.book) h),
      offer.0,
      rw (ap (λ w. w.key) h, pen.1, offer.1, offer.3, c.requires.plain) (adds_entry c.args.self.now.seen.log _ c.args.self.now.count (sym c.args.self.now.counted)),
    )
