-- What a text is for: that of a scenario reads back as that scenario.
use Rattle.crowd_data.specs.Scenario.{IsValid, Parts}
use Rattle.frame_text.specs.Transcript.{scenario_text}
use Rattle.scenario_read.specs.Reading.{IsAccepted}
use Rattle.scenario_read.specs.Records.{records_of}

-- the records of the scenario's text are accepted as that scenario
abbrev pub ReadsBack : Parts → Type 0
ReadsBack scenario = IsValid scenario → IsAccepted (records_of (scenario_text scenario)) scenario
