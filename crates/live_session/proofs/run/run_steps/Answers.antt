use Rattle.std.proofs.Common.{[], ◌++◌}
use Rattle.outside_io.proofs.WroteLemmas.{prefix_whole}
use Rattle.frame_text.specs.Transcript.{frame_text, scenario_text}
use Rattle.outside_io.specs.Sinks.{sink_state}
use Rattle.live_session.specs.declared.fault.LiveFault.TheVariants.{NoMemory}
use Rattle.live_session.proofs.Lived.{begun}
use Rattle.live_session.proofs.run.run_steps.Goals as goal

pub returns-in_default-clause-fault : goal.returns-in_default-clause-fault
returns-in_default-clause-fault g c =
    let s = c.args.stepper in
    let start = sink_state (g.T.Sink.held c.args.start.value) (g.T.Sink.faults c.args.start.value) in
    let now = sink_state (g.T.Sink.held c.args.out) (g.T.Sink.faults c.args.out) in
    begun s.scenario s.frame start now NoMemory c.requires.first (prefix_whole start.held now.held (scenario_text s.scenario ++ frame_text s.frame []) c.requires.written) c.requires.later (λ e. absurd cc)

pub returns-in-Err-clause-fault : goal.returns-in-Err-clause-fault
returns-in-Err-clause-fault g c =
    let s = c.args.stepper in
    let start = sink_state (g.T.Sink.held c.args.start.value) (g.T.Sink.faults c.args.start.value) in
    let now = sink_state (g.T.Sink.held c.args.out) (g.T.Sink.faults c.args.out) in
    begun s.scenario s.frame start now NoMemory c.requires.first (prefix_whole start.held now.held (scenario_text s.scenario ++ frame_text s.frame []) c.requires.written) c.requires.later (λ e. absurd cc)
