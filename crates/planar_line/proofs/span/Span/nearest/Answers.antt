use Rattle.std.proofs.Common.{pos, ◌≤ℤ◌, rules}
use Rattle.std.specs.Option.{ForSome}
use Rattle.planar_line.specs.Border.{lead_of}
use Rattle.planar_line.proofs.Toward.{no_farther}
use Rattle.planar_line.proofs.Stretch.{low-best, high-best, foot-best, some_by, none_by}
use Rattle.planar_line.proofs.span.Span.nearest.Goals as goal
use Rattle.planar_line.proofs.span.Span.nearest.Goals.{in-Some+else-lead-le0, in_default, in-Some-high+else-lead-ge0, in_default-high}

pub returns-then-lead-le0 : goal.returns-then-lead-le0
returns-then-lead-le0 c =
    let sign : c.lead.result ≤ℤ pos 0 = search rules in
    let behind = rw (c.lead.ensures, c.point-low.ensures) at sign in
    let best = low-best _ c.args.pref c.self.invariant c.in-Some.low c.in-Some.is behind in
    rw (c.point-low.ensures, ← c.self.view_is) (record { within = best.within; toward = best.toward; no_farther = λ v w. no_farther c.args.pref c.in-Some.low v w.on.point (best.toward v w) })

pub returns-then-lead-ge0 : goal.returns-then-lead-ge0
returns-then-lead-ge0 c =
    let sign : pos 0 ≤ℤ c.lead-in-Some-high.result = search rules in
    let beyond = rw (c.lead-in-Some-high.ensures, c.point-high.ensures) at sign in
    let best = high-best _ c.args.pref c.self.invariant c.in-Some-high.high c.in-Some-high.is beyond in
    rw (c.point-high.ensures, ← c.self.view_is) (record { within = best.within; toward = best.toward; no_farther = λ v w. no_farther c.args.pref c.in-Some-high.high v w.on.point (best.toward v w) })

pub returns : goal.returns
returns c =
    let pref = c.args.pref in
    let beyond : ForSome c.self.inside.low (λ low. pos 0 ≤ℤ lead_of c.self.inside.border low pref) =
    elim c.match-self.branch [
      | in-Some+else-lead-le0 w ↦ let sign : pos 0 ≤ℤ w.lead.result = search rules in some_by _ (λ low. pos 0 ≤ℤ lead_of c.self.inside.border low pref) w.in-Some.low w.in-Some.is (rw (w.lead.ensures, w.point-low.ensures) at sign)
      | in_default w ↦ none_by _ (λ low. pos 0 ≤ℤ lead_of c.self.inside.border low pref) w.in_default.is
    ] in
    let behind : ForSome c.self.inside.high (λ high. lead_of c.self.inside.border high pref ≤ℤ pos 0) =
    elim c.match-self-2.branch [
      | in-Some-high+else-lead-ge0 w ↦ let sign : w.lead-in-Some-high.result ≤ℤ pos 0 = search rules in some_by _ (λ high. lead_of c.self.inside.border high pref ≤ℤ pos 0) w.in-Some-high.high w.in-Some-high.is (rw (w.lead-in-Some-high.ensures, w.point-high.ensures) at sign)
      | in_default-high w ↦ none_by _ (λ high. lead_of c.self.inside.border high pref ≤ℤ pos 0) w.in_default-high.is
    ] in
    let best = foot-best _ pref c.self.invariant beyond behind in
    rw (c.foot.ensures, ← c.self.view_is) (record { within = best.within; toward = best.toward; no_farther = λ v w. no_farther pref _ v w.on.point (best.toward v w) })
