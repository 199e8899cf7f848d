-- What a reader of records is and has left after it was made and after a read.
use Rattle.std.proofs.Common.{Bor, ◌≡◌, ◌∙◌, ◌≤◌, ℕ, List, length, Bool, true, false, refl, ap, arith, not, Some}
use Rattle.csv.specs.Reading.{Ready, ReadRecord, strip_bom}
use Rattle.csv.specs.declared.parser.State.TheVariants as st
use Rattle.csv.specs.declared.reader.Reader.{Reader}
use Rattle.scenario_read.specs.Records.{Record, records_of}
use Rattle.scenario_read.specs.Unread.{IsBetween, IsBetweenUnlessOver, ReadsNext, left_of, records_in}
use Rattle.scenario_read.proofs.Boms.{strip_bom-le}
use Rattle.scenario_read.proofs.RecordSteps.{read_none, read_one, records_at_most}

module _ (a b : Reader (Bor (List ℕ))) (fields : Record) (between : IsBetween a) (ready : Ready b) (flexible : b.flexible ≡ a.flexible) where
  left_before : left_of false a ≡ records_in a.state (Some between.bytes)
  left_before = ap (records_in a.state) between.left

  pub after_read : (found : Bool) → ReadRecord (λ s. Some s.now) a b found fields → IsBetweenUnlessOver (not found) b × ReadsNext found (left_of false a) fields (left_of (not found) b)
  after_read true read =
      let (bytes, left, more, state, less) = read_one (λ (s : Bor (List ℕ)). Some s.now) a b fields between.bytes between.config between.left between.state read in (
        record {
          trim = read.3 ∙ between.trim;
          ready = ready;
          config = read.2 ∙ between.config;
          flexible = flexible ∙ between.flexible;
          state = state;
          bytes = bytes;
          left = left;
        },
        rw left (left_before ∙ more),
      )
  after_read false read = (tt, (left_before ∙ read_none (λ (s : Bor (List ℕ)). Some s.now) a b fields between.bytes between.config between.left read, refl))

-- a text has no more records than bytes
pub few_records : (bytes : List ℕ) → length (records_of bytes) ≤ length bytes
few_records bytes =
    let shorter = strip_bom-le bytes in
    let few = records_at_most st.StartRecord (strip_bom bytes) refl in
    omega arith
