use Rattle.std.proofs.Common.{Some, None}
use Rattle.clap.specs.Words.{first_value, found_of}
use Rattle.command_words.proofs.Answers.{command_is}
use Rattle.command_words.proofs.commands.find_command.Goals as goal

pub returns-in-Some-command_with-clause-read : goal.returns-in-Some-command_with-clause-read
returns-in-Some-command_with-clause-read c =
    command_is c.args.words.now _ c.in-Some.name (Some c.in-Some-command_with.command) (first_value (found_of c.in-Ok.matches)) c.in-len1-up.len_at_least
    c.in-Some.ensures c.in-Ok.ensures c.in-Some-command_with.ensures.value

pub returns-in-Ok-clause-read : goal.returns-in-Ok-clause-read
returns-in-Ok-clause-read c =
    command_is c.args.words.now _ c.in-Some.name None (first_value (found_of c.in-Ok.matches)) c.in-len1-up.len_at_least c.in-Some.ensures c.in-Ok.ensures c.in-None.ensures.value
