-- The limits of a command's numbers.
use Rattle.std.specs.Prelude.{ℕ, ◌≤◌}
use Rattle.command_words.specs.declared.limits.TheConstants.{GREATEST_SAMPLE, MOST_AGENTS, MOST_STEPS, MOST_WORKERS}
use Rattle.command_words.specs.declared.commands.Command.{Command}
use Rattle.command_words.specs.declared.commands.Command.TheVariants as command

abbrev pub IsWorkers : ℕ → Type 0
IsWorkers workers = (1 ≤ workers) × (workers ≤ MOST_WORKERS)

-- the numbers of a generated crowd
pub record IsCrowd (number agents steps : ℕ) : Type 0 where
  pub number_most : number ≤ GREATEST_SAMPLE
  pub some_agents : 1 ≤ agents
  pub agents_most : agents ≤ MOST_AGENTS
  pub steps_most : steps ≤ MOST_STEPS

abbrev pub IsSized : Command → Type 0
IsSized (command.Run workers) = IsWorkers workers
IsSized command.Check = Unit {0}
IsSized (command.Sample number agents steps) = IsCrowd number agents steps
IsSized (command.Soak number agents steps workers) = IsCrowd number agents steps × IsWorkers workers
IsSized (command.Live workers) = IsWorkers workers
