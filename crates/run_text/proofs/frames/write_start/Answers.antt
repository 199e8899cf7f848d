use Rattle.std.proofs.Common.{[], subst}
use Rattle.outside_io.specs.Causes.{AppendsPrefix, Wrote}
use Rattle.outside_io.proofs.WroteLemmas.{prefix_longer, wrote_then}
use Rattle.crowd_data.specs.Run.{Snapshot}
use Rattle.crowd_data.specs.Scenario.{Parts}
use Rattle.std.specs.Io.KnownBytes.{Appends}
use Rattle.frame_text.specs.Transcript.{frame_text, scenario_text}
use Rattle.run_text.proofs.frames.write_start.Goals as goal

pub returns-in-Err-clause-text : goal.returns-in-Err-clause-text
returns-in-Err-clause-text g c =
    let text = subst (λ (p : Parts). AppendsPrefix (g.T.Sink.held c.args.out.now) (g.T.Sink.held c.write_scenario.new.out) (scenario_text p)) c.scenario.ensures.value c.in-Err.ensures.text in
    prefix_longer (g.T.Sink.held c.args.out.now) (g.T.Sink.held c.write_scenario.new.out) (scenario_text c.args.stepper.now.scenario) (frame_text c.args.stepper.now.frame []) text

pub returns-clause-text : goal.returns-clause-text
returns-clause-text g c =
    let text = subst (λ (p : Parts). Appends (g.T.Sink.held c.args.out.now) (g.T.Sink.held c.write_scenario.new.out) (scenario_text p)) c.scenario.ensures.value c.in-Ok.ensures.text in
    let wrote = subst (λ (f : Snapshot). Wrote (g.T.Sink.held c.write_scenario.new.out) (g.T.Sink.held c.write_frame.new.out) c.write_frame.result (frame_text f [])) c.frame.ensures.value c.write_frame.ensures.text in
    wrote_then (g.T.Sink.held c.args.out.now) (g.T.Sink.held c.write_scenario.new.out) (g.T.Sink.held c.write_frame.new.out) c.write_frame.result (scenario_text c.args.stepper.now.scenario) (frame_text c.args.stepper.now.frame []) text wrote
