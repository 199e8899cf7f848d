use Rattle.std.proofs.Common.{◌≡◌, true}
use Rattle.left_right.specs.Sides.{view}
use Rattle.published_frames.specs.History.{StartsWith}
use Rattle.published_frames.proofs.reader.FrameReader.read.Given as goal

-- the reader is of the same writer, and what it has seen begins with what it had seen
abbrev pub invariant-loop : goal.invariant-loop
invariant-loop g l = record {
  learnt : l.learnt ≡ l.initial.learnt;
  knows : (view l.reader.place).knows ≡ true;
  name : (view l.reader.place).name ≡ (view l.initial.reader.place).name;
  scenario : (view l.reader.place).scenario ≡ (view l.initial.reader.place).scenario;
  later : StartsWith (view l.reader.place).seen (view l.initial.reader.place).seen;
  can_next : (goal.iterator-loop g).can_next l.iterator';
  is_finite : (goal.iterator-loop g).is_finite l.iterator';
}
