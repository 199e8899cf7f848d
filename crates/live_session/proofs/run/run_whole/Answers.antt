use Rattle.std.proofs.Common.{◌≡◌, ◌∙◌, [], ◌++◌, ap, arith, refl, subst, sym}
use Rattle.outside_io.proofs.WroteLemmas.{prefix_nothing}
use Rattle.crowd_data.specs.Run.{start_of}
use Rattle.crowd_data.specs.Scenario.{Parts}
use Rattle.frame_text.specs.Transcript.{frame_text, scenario_text}
use Rattle.outside_io.specs.Sinks.{sink_state}
use Rattle.live_session.specs.LiveText.{WroteLive, WroteLivePart}
use Rattle.live_session.specs.declared.fault.LiveFault.TheVariants.{NoMemory, WriteFault}
use Rattle.live_session.proofs.Lived.{begun, cut_off_at_once, lived_at_once}
use Rattle.live_session.proofs.run.run_whole.Goals as goal

pub returns-in-Err-clause-fault : goal.returns-in-Err-clause-fault
returns-in-Err-clause-fault g c =
    let s = c.args.scenario in
    let now = sink_state (g.T.Sink.held c.args.out) (g.T.Sink.faults c.args.out) in
    begun s (start_of s) now now NoMemory refl (prefix_nothing now.held (scenario_text s ++ frame_text (start_of s) [])) (omega arith) (λ e. absurd cc)

pub returns-in-Err-write_start-clause-fault : goal.returns-in-Err-write_start-clause-fault
returns-in-Err-write_start-clause-fault g c =
    let s = c.in-Ok.stepper in
    let e = c.in-Err-write_start.ensures in
    let start = sink_state (g.T.Sink.held c.args.out) (g.T.Sink.faults c.args.out) in
    let now = sink_state (g.T.Sink.held c.write_start.new.out) (g.T.Sink.faults c.write_start.new.out) in
    subst (λ (p : Parts). WroteLivePart p start now WriteFault) c.in-Ok.ensures.scenario
    (begun s.scenario s.frame start now WriteFault (c.in-Ok.ensures.frame ∙ ap start_of (sym c.in-Ok.ensures.scenario)) e.text e.cause.later (λ same. e.cause.failed))

pub returns-in-Ok-write_end-clause-done : goal.returns-in-Ok-write_end-clause-done
returns-in-Ok-write_end-clause-done g c =
    let s = c.in-Ok.stepper in
    let e = c.in-Ok-write_start.ensures in
    let f = c.in-Ok-write_end.ensures in
    let start = sink_state (g.T.Sink.held c.args.out) (g.T.Sink.faults c.args.out) in
    let now = sink_state (g.T.Sink.held c.write_start.new.out) (g.T.Sink.faults c.write_start.new.out) in
    let end = sink_state (g.T.Sink.held c.write_end.new.out) (g.T.Sink.faults c.write_end.new.out) in
    let none : s.scenario.steps ≡ 0 = omega (arith, c.if-steps-eq0.true, c.steps.ensures.value, ap (λ (p : Parts). p.steps) c.scenario.ensures.value) in
    subst (λ (p : Parts). WroteLive p start end) c.in-Ok.ensures.scenario
    (lived_at_once s.scenario s.frame start now end (c.in-Ok.ensures.frame ∙ ap start_of (sym c.in-Ok.ensures.scenario)) e.text e.cause.later f.cause.later none f.text)

pub returns-in-Err-write_end-clause-fault : goal.returns-in-Err-write_end-clause-fault
returns-in-Err-write_end-clause-fault g c =
    let s = c.in-Ok.stepper in
    let e = c.in-Ok-write_start.ensures in
    let f = c.in-Err-write_end.ensures in
    let start = sink_state (g.T.Sink.held c.args.out) (g.T.Sink.faults c.args.out) in
    let now = sink_state (g.T.Sink.held c.write_start.new.out) (g.T.Sink.faults c.write_start.new.out) in
    let end = sink_state (g.T.Sink.held c.write_end.new.out) (g.T.Sink.faults c.write_end.new.out) in
    subst (λ (p : Parts). WroteLivePart p start end WriteFault) c.in-Ok.ensures.scenario
    (cut_off_at_once s.scenario s.frame start now end (c.in-Ok.ensures.frame ∙ ap start_of (sym c.in-Ok.ensures.scenario)) e.text e.cause.later f.cause.later f.text f.cause.failed)
