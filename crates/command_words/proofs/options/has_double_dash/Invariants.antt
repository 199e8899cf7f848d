use Rattle.std.proofs.Common.{◌≡◌, codes, drop, map, true}
use Rattle.std.specs.Str.{bytes_eq}
use Rattle.std.specs.List.{list_any}
use Rattle.command_words.specs.Reading.{ArePlain}
use Rattle.command_words.proofs.options.has_double_dash.Given as goal

-- what holds of the rest holds of the whole
abbrev pub invariant-loop-word : goal.invariant-loop-word
invariant-loop-word l = record {
  found : list_any (λ w. bytes_eq w (codes "--")) (map (λ w. w.now) (drop l.word-index l.words)) ≡ true
      → list_any (λ w. bytes_eq w (codes "--")) (map (λ w. w.now) l.words) ≡ true;
  plain : ArePlain (map (λ w. w.now) (drop l.word-index l.words)) → ArePlain (map (λ w. w.now) l.words);
}
