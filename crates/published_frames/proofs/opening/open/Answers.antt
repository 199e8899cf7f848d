use Rattle.std.proofs.Common.{◌≡◌, ◌∙◌, ◌∷◌, ◌++◌, [], zero, suc, All, subst, sym, ap, length, length-append, arith}
use Rattle.std.proofs.lemmas.List.Elements.{All-append}
use Rattle.published_frames.specs.declared.reader.FrameReader.{FrameReader}
use Rattle.published_frames.specs.Names.{IsNewReader, writer_source}
use Rattle.published_frames.proofs.opening.open.Goals as goal

all_one : (P : FrameReader → Type 0) (reader : FrameReader) → P reader → All P (reader ∷ [])
all_one P reader p zero d lt = p
all_one P reader p (suc k) d lt = absurd (omega arith)

pub loop-preserved : goal.loop-preserved
loop-preserved g c =
    let kept = c.loop.invariant in
    let P : FrameReader → Type 0 = IsNewReader (writer_source c.in_ok-writer.writer) [] in
    let items : c.push_reserved.new.self.items ≡ c.loop.places.items ++ c.in-Ok-reader.reader ∷ [] = c.push_reserved.ensures.items in
    let writer = c.reader.ensures.writer in
    let reader = c.in-Ok-reader.ensures.reader in
    let made : P c.in-Ok-reader.reader = record { one_source = reader.one_source ∙ kept.source; has_seen = reader.has_seen ∙ kept.history; has_learnt = reader.has_learnt ∙ kept.history } in
    record {
      count = (let a = ap length items in let b = length-append c.loop.places.items (c.in-Ok-reader.reader ∷ []) in let d = kept.count in omega arith);
      room = c.push_reserved.ensures.capacity ∙ kept.room;
      readers = subst (All P) (sym items) (All-append P c.loop.places.items (c.in-Ok-reader.reader ∷ []) kept.readers (all_one P c.in-Ok-reader.reader made));
      source = writer.0 ∙ kept.source;
      history = writer.1 ∙ kept.history;
    }
