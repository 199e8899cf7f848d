use Rattle.command_words.proofs.Loops.{app_more}
use Rattle.command_words.proofs.options.command.Goals as goal

pub loop-option-preserved : goal.loop-option-preserved
loop-option-preserved c =
    app_more c.loop-option.command c.in_ok-command.command _ c.args.name.now c.args.known.now c.loop-option.option-index _ c.loop-option-test.true
    c.loop-option.invariant (c.in_ok-command.ensures.shape c.arg.ensures.local) c.arg.ensures.rule
