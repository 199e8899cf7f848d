-- Faults as C sees them.
use Rattle.array_step.specs.declared.fault.ArrayFault.{ArrayFault}
use Rattle.array_step.specs.declared.fault.ArrayFault.TheVariants.{NoSuchRing, TooManyAgents, AgentOutOfRange, TooManySegments, SegmentOutOfRange, AgentOnSegment}
use Rattle.crowd_c.specs.declared.fault.CrowdFault.{CrowdFault}

-- a cause by its number, with what it names; all else is 0
abbrev pub numbers_of : ArrayFault → CrowdFault
numbers_of NoSuchRing = record { cause = 1; agent = 0; field = 0; segment = 0 }
numbers_of TooManyAgents = record { cause = 2; agent = 0; field = 0; segment = 0 }
numbers_of (AgentOutOfRange agent field) = record { cause = 3; agent = agent; field = field; segment = 0 }
numbers_of TooManySegments = record { cause = 4; agent = 0; field = 0; segment = 0 }
numbers_of (SegmentOutOfRange segment field) = record { cause = 5; agent = 0; field = field; segment = segment }
numbers_of (AgentOnSegment agent segment) = record { cause = 6; agent = agent; field = 0; segment = segment }

-- a part that asks for agents that aren't there
abbrev pub no_such_part : CrowdFault
no_such_part = record { cause = 7; agent = 0; field = 0; segment = 0 }
