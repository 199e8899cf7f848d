use Rattle.std.proofs.Common.{◌≡◌, ap, refl, subst, sym, Option, Some, []}
use Rattle.std.specs.Prelude.{IfSome}
use Rattle.logbook.specs.Pages.{Book}
use Rattle.crowd_data.specs.Scenario.{Parts}
use Rattle.published_frames.specs.declared.reader.FrameReader.{FrameReader}
use Rattle.published_frames.specs.Names.{reader_source}
use Rattle.controller_turns.specs.Controllers.{Suits}
use Rattle.live_session.proofs.Standing.{ended, suits}
use Rattle.live_session.proofs.starting.start.Goals as goal

pub begin-requires-clause-suits : goal.begin-requires-clause-suits
begin-requires-clause-suits g c κs lives =
    let source : reader_source c.in-Some.reader ≡ (g.J.Writes.book, c.args.scenario.now) = subst (λ (o : Option FrameReader). IfSome o (λ r. reader_source r ≡ (g.J.Writes.book, c.args.scenario.now))) c.in-Some.is c.requires.reader in
    subst (λ (p : Parts). Suits p c.args.controller c.args.poster) (sym (ap (λ (s : Book × Parts). s.1) source))
    (suits c.args.posts.now c.args.scenario.now c.args.controller.number c.args.controller c.args.poster c.goals-valid.ensures.valid c.requires.controller c.requires.poster)

pub returns-in-Ok-done : goal.returns-in-Ok-done
returns-in-Ok-done g c =
    let source : reader_source c.in-Some.reader ≡ (g.J.Writes.book, c.args.scenario.now) = subst (λ (o : Option FrameReader). IfSome o (λ r. reader_source r ≡ (g.J.Writes.book, c.args.scenario.now))) c.in-Some.is c.requires.reader in
    ended c.args.posts.now (g.J.Writes.book, c.args.scenario.now) (reader_source c.in-Some.reader) [] 0 c.args.controller.number c.args.controller c.args.poster
    (c.in-Err.controller, c.in-Err.poster, c.in-Err.reader, c.in-Err.done) c.in-Ok-done.last
    (record { controller = c.in-Err.controller; poster = c.in-Err.poster; reader = Some c.in-Err.reader; last = c.in-Ok-done.last })
    c.requires.controller c.requires.poster source c.in-Err.ensures.here c.in-Ok-done.is refl refl refl refl
