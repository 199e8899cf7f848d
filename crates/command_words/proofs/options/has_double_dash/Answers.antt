use Rattle.std.proofs.Common.{◌∙◌, sym}
use Rattle.command_words.proofs.Loops.{found_here, found_later, plain_end, plain_more}
use Rattle.command_words.proofs.options.has_double_dash.Goals as goal

pub loop-word-preserved : goal.loop-word-preserved
loop-word-preserved c =
    let words = c.args.words.now in
    let here = c.loop-word-test.true in
    record {
      found = λ later. c.loop-word.invariant.found (found_later words c.loop-word.word-index here later);
      plain = λ later. c.loop-word.invariant.plain
          (plain_more words c.loop-word.word-index _ here (sym c.is_double_dash.ensures.exact ∙ c.if-is_double_dash.false) c.is_double_dash.ensures.text later);
    }

pub returns-then-is_double_dash : goal.returns-then-is_double_dash
returns-then-is_double_dash c = c.loop-word.invariant.found
    (found_here c.args.words.now c.loop-word.word-index _ c.loop-word-test.true (sym c.is_double_dash.ensures.exact ∙ c.if-is_double_dash.true))

pub returns : goal.returns
returns c = c.loop-word.invariant.plain (plain_end c.args.words.now c.loop-word.word-index c.loop-word-test.false)
