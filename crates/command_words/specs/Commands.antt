-- Which command the words ask for.
use Rattle.std.specs.Prelude.{◌≡◌, ℕ, true, false, List, [], ◌∷◌, Option, Some, None, Result, Ok, Err, option_and_then, option_map, find, codes}
use Rattle.std.specs.Str.{bytes_eq}
use Rattle.command_words.specs.Options.{Known, Text, options_of, value_of}
use Rattle.command_words.specs.Numbers.{number_or}
use Rattle.command_words.specs.declared.limits.TheConstants.{GREATEST_SAMPLE, MOST_AGENTS, MOST_STEPS, MOST_WORKERS}
use Rattle.command_words.specs.declared.commands.Command.{Command}
use Rattle.command_words.specs.declared.commands.Command.TheVariants as command
use Rattle.command_words.specs.declared.commands.Name.{Name}
use Rattle.command_words.specs.declared.commands.Name.TheVariants as name
use Rattle.command_words.specs.declared.commands.WordsFault.{WordsFault}
use Rattle.command_words.specs.declared.commands.WordsFault.TheVariants.{NoMemory, Usage}

abbrev pub text_of : Name → Text
text_of name.Run = codes "run"
text_of name.Check = codes "check"
text_of name.Sample = codes "sample"
text_of name.Soak = codes "soak"
text_of name.Live = codes "live"

abbrev pub all_names : List Name
all_names = name.Run ∷ name.Check ∷ name.Sample ∷ name.Soak ∷ name.Live ∷ []

-- what the first word names
abbrev pub name_of : Text → Option Name
name_of word = find (λ n. bytes_eq word (text_of n)) all_names

-- ---- the options that it has

abbrev pub required : Text → Known
required text = record { name = text; is_required = true }

abbrev pub optional : Text → Known
optional text = record { name = text; is_required = false }

abbrev pub options_for : Name → List Known
options_for name.Run = optional (codes "workers") ∷ []
options_for name.Check = []
options_for name.Sample = required (codes "number") ∷ required (codes "agents") ∷ required (codes "steps") ∷ []
options_for name.Soak = required (codes "number") ∷ required (codes "agents") ∷ required (codes "steps") ∷ optional (codes "workers") ∷ []
options_for name.Live = optional (codes "workers") ∷ []

-- ---- their numbers, where each option has this value or none

abbrev pub Values : Type 0
Values = Text → Option Text

abbrev pub workers_in : Values → Option ℕ
workers_in value = number_or (Some 1) 1 MOST_WORKERS (value (codes "workers"))

abbrev pub sample_number_in : Values → Option ℕ
sample_number_in value = number_or None 0 GREATEST_SAMPLE (value (codes "number"))

abbrev pub agents_in : Values → Option ℕ
agents_in value = number_or None 1 MOST_AGENTS (value (codes "agents"))

abbrev pub steps_in : Values → Option ℕ
steps_in value = number_or None 0 MOST_STEPS (value (codes "steps"))

-- the command that the three numbers of a crowd make
abbrev pub with_crowd : Values → (ℕ → ℕ → ℕ → Option Command) → Option Command
with_crowd value make = option_and_then (λ number. option_and_then (λ agents. option_and_then (λ steps. make number agents steps)
    (steps_in value)) (agents_in value)) (sample_number_in value)

abbrev pub command_with : Name → Values → Option Command
command_with name.Run value = option_map (λ workers. command.Run workers) (workers_in value)
command_with name.Check value = Some command.Check
command_with name.Sample value = with_crowd value (λ number agents steps. Some (command.Sample number agents steps))
command_with name.Soak value = with_crowd value (λ number agents steps. option_map (λ workers. command.Soak number agents steps workers) (workers_in value))
command_with name.Live value = option_map (λ workers. command.Live workers) (workers_in value)

-- the first word names the command, and those behind it give its options
abbrev pub named_command : Option Name → List Text → Option Command
named_command None words = None
named_command (Some named) words = option_and_then (λ given. command_with named (value_of given)) (options_of (options_for named) words)

unfoldable pub command_of : List Text → Option Command
command_of [] = None
command_of (word ∷ words) = named_command (name_of word) words

-- the answer is the command where the words are one's, and Usage where they are none's; running out of memory says nothing
abbrev pub Answers : Option Command → Result Command WordsFault → Type 0
Answers asked (Ok answered) = asked ≡ Some answered
Answers asked (Err Usage) = asked ≡ None
Answers asked (Err NoMemory) = Unit {0}
