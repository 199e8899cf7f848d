use Rattle.std.proofs.Common.{subst, refl, arith}
use Rattle.std.proofs.lemmas.List.{get_or_default}
use Rattle.fixed_vec.specs.Meeting.{relieved_after}
use Rattle.fixed_vec.specs.Point.{IsIn}
use Rattle.planar_line.specs.Relief.{no_plane}
use Rattle.planar_line.proofs.Reliefs.{length-relieved_after}
use Rattle.planar_line.proofs.Ranges.{range_more}
use Rattle.planar_program.proofs.meeting.meets.Goals as goal

pub loop-place-preserved : goal.loop-place-preserved
loop-place-preserved c = record {
  inside = range_more (relieved_after c.args.hard c.args.relief c.args.planes.now) 0 c.loop-place.place c.args.point.now c.loop-place.invariant.inside (rw c.of-probe.ensures at (c.if-not-contains_at.ensures.0 refl));
}

pub returns : goal.returns
returns c =
    let list = relieved_after c.args.hard c.args.relief c.args.planes.now in
    let long = length-relieved_after c.args.hard c.args.relief c.args.planes.now c.requires.hard in (
      λ e. record {
        point = c.q-q.ensures.fits.positive;
        inside = λ k d l. subst (λ g. IsIn g c.args.point.now) (get_or_default list k no_plane d l) (c.loop-place.invariant.inside.at k (omega arith) (omega arith));
      },
      λ m. refl,
    )
