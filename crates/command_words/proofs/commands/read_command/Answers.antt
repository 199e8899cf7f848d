use Rattle.std.proofs.Common.{List, ℕ, Bor, map}
use Rattle.command_words.proofs.Spellings.{asked_if_ok, none_asked, taken}
use Rattle.command_words.proofs.commands.read_command.Goals as goal

pub returns-clause-asked : goal.returns-clause-asked
returns-clause-asked c = asked_if_ok (map (λ (w : Bor (List ℕ)). w.now) c.args.words.now) c.find_command.result c.find_command.ensures.read

pub returns-clause-usage : goal.returns-clause-usage
returns-clause-usage c = none_asked (map (λ (w : Bor (List ℕ)). w.now) c.args.words.now) c.find_command.result c.find_command.ensures.read

pub returns-clause-taken : goal.returns-clause-taken
returns-clause-taken c = taken (map (λ (w : Bor (List ℕ)). w.now) c.args.words.now) c.find_command.result c.find_command.ensures.read
