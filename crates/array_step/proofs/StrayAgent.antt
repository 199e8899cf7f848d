-- An agent that stands for one that isn't there.
use Rattle.std.proofs.Common.{pos}
use Rattle.array_step.specs.declared.agent.CrowdAgent.{CrowdAgent}

abbrev pub stray : CrowdAgent
stray = record { x = pos 0; y = pos 0; vel_x = pos 0; vel_y = pos 0; pref_x = pos 0; pref_y = pos 0; radius = 0; speed = 0; range = 0; most = 0; horizon = 0; wall_horizon = 0; weight = 0; mark = 0; relief = 0 }
