use Rattle.std.proofs.Common.{◌≡◌, ◌∙◌, List, ℕ, Bor, false, map, true}
use Rattle.clap.specs.Words.{app_of, found_of}
use Rattle.command_words.specs.Reading.{known_of}
use Rattle.command_words.proofs.Answers.{dashed, read_err, read_ok}
use Rattle.command_words.proofs.options.read_options.Goals as goal

pub returns-then-has_double_dash : goal.returns-then-has_double_dash
returns-then-has_double_dash c = dashed (map known_of c.args.known.now) (map (λ (w : Bor (List ℕ)). w.now) c.args.words.now) c.if-has_double_dash.ensures

pub returns-in-Ok-try_get_matches_from : goal.returns-in-Ok-try_get_matches_from
returns-in-Ok-try_get_matches_from c =
    let words = map (λ (w : Bor (List ℕ)). w.now) c.args.words.now in
    let parse = c.in-Ok-try_get_matches_from.ensures in
    read_ok (app_of c.in-Ok.command) c.args.name.now (map known_of c.args.known.now) words (found_of c.in-Ok-try_get_matches_from.matches) c.in-Ok.ensures c.if-has_double_dash.ensures parse.kinds parse.matches

pub returns-else-eq : goal.returns-else-eq
returns-else-eq c =
    let words = map (λ (w : Bor (List ℕ)). w.now) c.args.words.now in
    read_err (app_of c.in-Ok.command) c.args.name.now (map known_of c.args.known.now) words c.in-Err.error c.in-Ok.ensures c.if-has_double_dash.ensures c.in-Err.ensures.kinds
    (λ memory. let bad : false ≡ true = rw (c.kind.ensures ∙ memory) at c.if-eq.ensures in cc bad)
