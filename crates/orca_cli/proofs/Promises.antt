-- What the causes of a status say of the promise of the top calls.
use Rattle.std.proofs.Common.{◌≡◌, ◌≢◌, ◌∙◌, ◌⊎◌, inl, inr, ⊎_elim, ◌<◌, ◌≤◌, ℕ, Bool, true, false, List, [], length, Option, Some, None, IfSome, refl, sym, subst, arith, true≢false}
use Rattle.std.specs.Io.KnownBytes.{IsAtEnd}
use Rattle.outside_io.specs.Causes.{Rose}
use Rattle.command_words.specs.declared.commands.Command.{Command}
use Rattle.orca_cli.specs.Output.{IsRefused, IsRefusedBy, RunsAreSafe, reads}
use Rattle.orca_cli.specs.Promise.{ErrorOutput, KeepsPromise}
use Rattle.orca_cli.specs.Status.{AsksToRead, AsksToWait, Channels, CausesHold, IsUntouched, IsUnwritten, OnBytes, ReadInput, Reports, WroteOutput, WrotePart, code_of, input_limit}
use Rattle.orca_cli.specs.declared.status.Status.{Status}
use Rattle.orca_cli.specs.declared.status.Status.TheVariants.{Done, NoMemory, NoMemoryInRun, Usage, Refused, ReadFault, WriteFault, TooLong}

-- ---- what holds of bytes, where they are told

if_more : (o : Option (List ℕ)) (P Q : List ℕ → Type 0) → ((bytes : List ℕ) → P bytes → Q bytes) → IfSome o P → IfSome o Q
if_more (Some bytes) P Q more p = more bytes p
if_more None P Q more p = p

if_any : (o : Option (List ℕ)) (P : List ℕ → Type 0) → ((bytes : List ℕ) → P bytes) → IfSome o P
if_any (Some bytes) P any = any bytes
if_any None P any = tt

module _ (old new : Channels) where
  on_bytes : (b : Bool) (P Q : List ℕ → Type 0) → ((bytes : List ℕ) → P bytes → Q bytes) → ReadInput b old new P → OnBytes b old.left Q
  on_bytes true P Q more (inside, end) =
      if_more old.left (λ bytes. (length bytes ≤ input_limit) × (¬ IsRefused bytes) × P bytes) Q (λ bytes (short, fine, p). more bytes p) inside
  on_bytes false P Q more (p, same) = more [] p

  -- a command that reads: short bytes without a cause, read to the end
  read_all : (b : Bool) (P : List ℕ → Type 0) → b ≡ true → ReadInput b old new P → IfSome old.left (λ bytes. (length bytes ≤ input_limit) × (¬ IsRefused bytes)) × IsAtEnd new.left
  read_all true P e (inside, end) =
      (if_more old.left (λ bytes. (length bytes ≤ input_limit) × (¬ IsRefused bytes) × P bytes) (λ bytes. (length bytes ≤ input_limit) × (¬ IsRefused bytes)) (λ bytes (short, fine, p). (short, fine)) inside, end)
  read_all false P e input = absurd (true≢false (sym e))

  read_none : (b : Bool) (P : List ℕ → Type 0) → b ≡ false → ReadInput b old new P → IsUntouched old new
  read_none true P e input = absurd (true≢false e)
  read_none false P e (p, same) = same

module _ (asked : Option Command) (old new : Channels) where
  abbrev Asks : Command → Type 0
  Asks command = asked ≡ Some command

  -- the words ask for one command
  one : (c d : Command) → Asks c → Asks d → c ≡ d
  one c d first second = cc

  none : (c : Command) → Asks c → asked ≡ None → ⊥
  none c asks nothing = cc

  transcript : (s : Status) → CausesHold asked old new s → code_of s ≡ 0 → (c : Command) → Asks c → OnBytes (reads c) old.left (WroteOutput c old new)
  transcript Done (d, asks, input) e c also =
      subst (λ x. OnBytes (reads x) old.left (WroteOutput x old new)) (one d c asks also)
      (on_bytes old new (reads d) (λ bytes. WroteOutput d old new bytes × RunsAreSafe d bytes) (WroteOutput d old new) (λ bytes (wrote, safe). wrote) input)
  transcript NoMemory h e c also = absurd (omega arith)
  transcript NoMemoryInRun h e c also = absurd (omega arith)
  transcript Usage h e c also = absurd (omega arith)
  transcript (Refused index cause) h e c also = absurd (omega arith)
  transcript ReadFault h e c also = absurd (omega arith)
  transcript WriteFault h e c also = absurd (omega arith)
  transcript TooLong h e c also = absurd (omega arith)

  cut_short : (s : Status) → CausesHold asked old new s → code_of s ≡ 5 → (c : Command) → Asks c → OnBytes (reads c) old.left (WrotePart c old new)
  cut_short WriteFault (d, asks, input, rose) e c also =
      subst (λ x. OnBytes (reads x) old.left (WrotePart x old new)) (one d c asks also)
      (on_bytes old new (reads d) (λ bytes. WrotePart d old new bytes × RunsAreSafe d bytes) (WrotePart d old new) (λ bytes (wrote, safe). wrote) input)
  cut_short Done h e c also = absurd (omega arith)
  cut_short NoMemory h e c also = absurd (omega arith)
  cut_short NoMemoryInRun h e c also = absurd (omega arith)
  cut_short Usage h e c also = absurd (omega arith)
  cut_short (Refused index cause) h e c also = absurd (omega arith)
  cut_short ReadFault h e c also = absurd (omega arith)
  cut_short TooLong h e c also = absurd (omega arith)

  safe : (s : Status) → CausesHold asked old new s → (code_of s ≡ 0) ⊎ (code_of s ≡ 5) → (c : Command) → Asks c → OnBytes (reads c) old.left (RunsAreSafe c)
  safe Done (d, asks, input) e c also =
      subst (λ x. OnBytes (reads x) old.left (RunsAreSafe x)) (one d c asks also)
      (on_bytes old new (reads d) (λ bytes. WroteOutput d old new bytes × RunsAreSafe d bytes) (RunsAreSafe d) (λ bytes (wrote, safe). safe) input)
  safe WriteFault (d, asks, input, rose) e c also =
      subst (λ x. OnBytes (reads x) old.left (RunsAreSafe x)) (one d c asks also)
      (on_bytes old new (reads d) (λ bytes. WrotePart d old new bytes × RunsAreSafe d bytes) (RunsAreSafe d) (λ bytes (wrote, safe). safe) input)
  safe NoMemory h e c also = ⊎_elim (λ zero. absurd (omega arith)) (λ five. absurd (omega arith)) e
  safe NoMemoryInRun h e c also = ⊎_elim (λ zero. absurd (omega arith)) (λ five. absurd (omega arith)) e
  safe Usage h e c also = ⊎_elim (λ zero. absurd (omega arith)) (λ five. absurd (omega arith)) e
  safe (Refused index cause) h e c also = ⊎_elim (λ zero. absurd (omega arith)) (λ five. absurd (omega arith)) e
  safe ReadFault h e c also = ⊎_elim (λ zero. absurd (omega arith)) (λ five. absurd (omega arith)) e
  safe TooLong h e c also = ⊎_elim (λ zero. absurd (omega arith)) (λ five. absurd (omega arith)) e

  unwritten : (s : Status) → CausesHold asked old new s → code_of s ≢ 0 → code_of s ≢ 5 → (code_of s ≡ 1 → ¬ AsksToWait asked) → IsUnwritten old new
  unwritten Done h not_done not_cut nobody = absurd (not_done refl)
  unwritten WriteFault h not_done not_cut nobody = absurd (not_cut refl)
  unwritten NoMemoryInRun (d, asks, waiting, input) not_done not_cut nobody = absurd (nobody refl (d, asks, waiting))
  unwritten NoMemory (most, kept, same) not_done not_cut nobody = kept
  unwritten Usage (nothing, same, kept) not_done not_cut nobody = kept
  unwritten ReadFault (asks, rose, most, kept) not_done not_cut nobody = kept
  unwritten TooLong (asks, long, takes, kept) not_done not_cut nobody = kept
  unwritten (Refused index cause) (asks, inside, end, kept) not_done not_cut nobody = kept

  -- a prefix of a transcript so far was written, where memory ran out while controllers ran
  abbrev CutInRun : Type 0
  CutInRun = (c : Command) × Asks c × OnBytes (reads c) old.left (λ bytes. WrotePart c old new bytes × RunsAreSafe c bytes)

  cut_in_run : (s : Status) → CausesHold asked old new s → code_of s ≡ 1 → IsUnwritten old new ⊎ CutInRun
  cut_in_run NoMemory (most, kept, same) e = inl kept
  cut_in_run NoMemoryInRun (d, asks, waiting, input) e =
      inr (d, asks, on_bytes old new (reads d) (λ bytes. WrotePart d old new bytes × RunsAreSafe d bytes) (λ bytes. WrotePart d old new bytes × RunsAreSafe d bytes) (λ bytes both. both) input)
  cut_in_run Done h e = absurd (omega arith)
  cut_in_run Usage h e = absurd (omega arith)
  cut_in_run (Refused index cause) h e = absurd (omega arith)
  cut_in_run ReadFault h e = absurd (omega arith)
  cut_in_run WriteFault h e = absurd (omega arith)
  cut_in_run TooLong h e = absurd (omega arith)

  usage : (s : Status) → CausesHold asked old new s → code_of s ≡ 2 → asked ≡ None
  usage Usage (nothing, same, kept) e = nothing
  usage Done h e = absurd (omega arith)
  usage NoMemory h e = absurd (omega arith)
  usage NoMemoryInRun h e = absurd (omega arith)
  usage (Refused index cause) h e = absurd (omega arith)
  usage ReadFault h e = absurd (omega arith)
  usage WriteFault h e = absurd (omega arith)
  usage TooLong h e = absurd (omega arith)

  no_command : (s : Status) → CausesHold asked old new s → asked ≡ None → (code_of s ≡ 1) ⊎ (code_of s ≡ 2)
  no_command Usage h nothing = inr refl
  no_command NoMemory h nothing = inl refl
  no_command NoMemoryInRun h nothing = inl refl
  no_command Done (d, asks, input) nothing = absurd (none d asks nothing)
  no_command WriteFault (d, asks, input, rose) nothing = absurd (none d asks nothing)
  no_command ReadFault ((d, asks, reading), rose, most, kept) nothing = absurd (none d asks nothing)
  no_command TooLong ((d, asks, reading), long, takes, kept) nothing = absurd (none d asks nothing)
  no_command (Refused index cause) ((d, asks, reading), inside, end, kept) nothing = absurd (none d asks nothing)

  untouched : (s : Status) → CausesHold asked old new s → code_of s ≡ 2 → IsUntouched old new
  untouched Usage (nothing, same, kept) e = same
  untouched Done h e = absurd (omega arith)
  untouched NoMemory h e = absurd (omega arith)
  untouched NoMemoryInRun h e = absurd (omega arith)
  untouched (Refused index cause) h e = absurd (omega arith)
  untouched ReadFault h e = absurd (omega arith)
  untouched WriteFault h e = absurd (omega arith)
  untouched TooLong h e = absurd (omega arith)

  -- a command that reads isn't one that doesn't
  never_both : (c d : Command) → Asks c → Asks d → reads c ≡ true → reads d ≡ false → ⊥
  never_both c d asks also reading not = true≢false (sym reading ∙ subst (λ x. reads x ≡ false) (one d c also asks) not)

  unread : (s : Status) → CausesHold asked old new s → (c : Command) → Asks c → reads c ≡ false → IsUntouched old new
  unread Usage (nothing, same, kept) c asks not = same
  unread NoMemory (most, kept, same) c asks not = same c asks not
  unread NoMemoryInRun (d, asks, waiting, input) c also not = read_none old new (reads d) _ (subst (λ x. reads x ≡ false) (one c d also asks) not) input
  unread Done (d, asks, input) c also not = read_none old new (reads d) _ (subst (λ x. reads x ≡ false) (one c d also asks) not) input
  unread WriteFault (d, asks, input, rose) c also not = read_none old new (reads d) _ (subst (λ x. reads x ≡ false) (one c d also asks) not) input
  unread ReadFault ((d, asks, reading), rose, most, kept) c also not = absurd (never_both d c asks also reading not)
  unread TooLong ((d, asks, reading), long, takes, kept) c also not = absurd (never_both d c asks also reading not)
  unread (Refused index cause) ((d, asks, reading), inside, end, kept) c also not = absurd (never_both d c asks also reading not)

  read_fault : (s : Status) → CausesHold asked old new s → code_of s ≡ 4 → Rose old.reads new.reads
  read_fault ReadFault (asks, rose, most, kept) e = rose
  read_fault Done h e = absurd (omega arith)
  read_fault NoMemory h e = absurd (omega arith)
  read_fault NoMemoryInRun h e = absurd (omega arith)
  read_fault Usage h e = absurd (omega arith)
  read_fault (Refused index cause) h e = absurd (omega arith)
  read_fault WriteFault h e = absurd (omega arith)
  read_fault TooLong h e = absurd (omega arith)

  write_fault : (s : Status) → CausesHold asked old new s → code_of s ≡ 5 → Rose old.writes new.writes
  write_fault WriteFault (d, asks, input, rose) e = rose
  write_fault Done h e = absurd (omega arith)
  write_fault NoMemory h e = absurd (omega arith)
  write_fault NoMemoryInRun h e = absurd (omega arith)
  write_fault Usage h e = absurd (omega arith)
  write_fault (Refused index cause) h e = absurd (omega arith)
  write_fault ReadFault h e = absurd (omega arith)
  write_fault TooLong h e = absurd (omega arith)

  too_long : (s : Status) → CausesHold asked old new s → code_of s ≡ 6 → IfSome old.left (λ bytes. input_limit < length bytes)
  too_long TooLong (asks, long, takes, kept) e = long
  too_long Done h e = absurd (omega arith)
  too_long NoMemory h e = absurd (omega arith)
  too_long NoMemoryInRun h e = absurd (omega arith)
  too_long Usage h e = absurd (omega arith)
  too_long (Refused index cause) h e = absurd (omega arith)
  too_long ReadFault h e = absurd (omega arith)
  too_long WriteFault h e = absurd (omega arith)

  refused : (s : Status) → CausesHold asked old new s → code_of s ≡ 3 → IfSome old.left IsRefused
  refused (Refused index cause) (asks, inside, end, kept) e =
      if_more old.left (λ bytes. (length bytes ≤ input_limit) × IsRefusedBy bytes index cause) IsRefused (λ bytes (short, told). (index, cause, told)) inside
  refused Done h e = absurd (omega arith)
  refused NoMemory h e = absurd (omega arith)
  refused NoMemoryInRun h e = absurd (omega arith)
  refused Usage h e = absurd (omega arith)
  refused ReadFault h e = absurd (omega arith)
  refused WriteFault h e = absurd (omega arith)
  refused TooLong h e = absurd (omega arith)

  -- of a command that reads, all bytes were read, were short enough and had no cause
  all_read : (d : Command) (P : List ℕ → Type 0) → Asks d → AsksToRead asked → ReadInput (reads d) old new P → IfSome old.left (λ bytes. (length bytes ≤ input_limit) × (¬ IsRefused bytes)) × IsAtEnd new.left
  all_read d P asks (c, also, reading) input = read_all old new (reads d) P (subst (λ x. reads x ≡ true) (one c d also asks) reading) input

  abbrev NotLonger : ℕ → List ℕ → Type 0
  NotLonger code bytes = input_limit < length bytes → (code ≡ 1) ⊎ ((code ≡ 4) ⊎ (code ≡ 6))

  short_enough : (d : Command) (P : List ℕ → Type 0) (code : ℕ) → Asks d → AsksToRead asked → ReadInput (reads d) old new P → IfSome old.left (NotLonger code)
  short_enough d P code asks reading input =
      if_more old.left (λ bytes. (length bytes ≤ input_limit) × (¬ IsRefused bytes)) (NotLonger code) (λ bytes (short, fine) long. absurd (omega arith)) (all_read d P asks reading input).0

  not_longer : (s : Status) → CausesHold asked old new s → AsksToRead asked → IfSome old.left (NotLonger (code_of s))
  not_longer Done (d, asks, input) reading = short_enough d (λ bytes. WroteOutput d old new bytes × RunsAreSafe d bytes) 0 asks reading input
  not_longer WriteFault (d, asks, input, rose) reading = short_enough d (λ bytes. WrotePart d old new bytes × RunsAreSafe d bytes) 5 asks reading input
  not_longer Usage (nothing, same, kept) (c, asks, reading) = absurd (none c asks nothing)
  not_longer NoMemory h reading = if_any old.left (NotLonger 1) (λ bytes long. inl refl)
  not_longer NoMemoryInRun h reading = if_any old.left (NotLonger 1) (λ bytes long. inl refl)
  not_longer ReadFault h reading = if_any old.left (NotLonger 4) (λ bytes long. inr (inl refl))
  not_longer TooLong h reading = if_any old.left (NotLonger 6) (λ bytes long. inr (inr refl))
  not_longer (Refused index cause) (asks, inside, end, kept) reading =
      if_more old.left (λ bytes. (length bytes ≤ input_limit) × IsRefusedBy bytes index cause) (NotLonger 3) (λ bytes (short, told) long. absurd (omega arith)) inside

  abbrev Accepted : ℕ → List ℕ → Type 0
  Accepted code bytes = IsRefused bytes → (code ≡ 1) ⊎ ((code ≡ 4) ⊎ ((code ≡ 6) ⊎ (code ≡ 3)))

  without_cause : (d : Command) (P : List ℕ → Type 0) (code : ℕ) → Asks d → AsksToRead asked → ReadInput (reads d) old new P → IfSome old.left (Accepted code)
  without_cause d P code asks reading input =
      if_more old.left (λ bytes. (length bytes ≤ input_limit) × (¬ IsRefused bytes)) (Accepted code) (λ bytes (short, fine) told. absurd (fine told)) (all_read d P asks reading input).0

  accepted : (s : Status) → CausesHold asked old new s → AsksToRead asked → IfSome old.left (Accepted (code_of s))
  accepted Done (d, asks, input) reading = without_cause d (λ bytes. WroteOutput d old new bytes × RunsAreSafe d bytes) 0 asks reading input
  accepted WriteFault (d, asks, input, rose) reading = without_cause d (λ bytes. WrotePart d old new bytes × RunsAreSafe d bytes) 5 asks reading input
  accepted Usage (nothing, same, kept) (c, asks, reading) = absurd (none c asks nothing)
  accepted NoMemory h reading = if_any old.left (Accepted 1) (λ bytes told. inl refl)
  accepted NoMemoryInRun h reading = if_any old.left (Accepted 1) (λ bytes told. inl refl)
  accepted ReadFault h reading = if_any old.left (Accepted 4) (λ bytes told. inr (inl refl))
  accepted TooLong h reading = if_any old.left (Accepted 6) (λ bytes told. inr (inr (inl refl)))
  accepted (Refused index cause) h reading = if_any old.left (Accepted 3) (λ bytes told. inr (inr (inr refl)))

  read_whole : (s : Status) → CausesHold asked old new s → AsksToRead asked → (code_of s ≡ 0) ⊎ ((code_of s ≡ 3) ⊎ (code_of s ≡ 5)) → IsAtEnd new.left
  read_whole Done (d, asks, input) reading e = (all_read d (λ bytes. WroteOutput d old new bytes × RunsAreSafe d bytes) asks reading input).1
  read_whole WriteFault (d, asks, input, rose) reading e = (all_read d (λ bytes. WrotePart d old new bytes × RunsAreSafe d bytes) asks reading input).1
  read_whole (Refused index cause) (asks, inside, end, kept) reading e = end
  read_whole NoMemory h reading e = ⊎_elim (λ zero. absurd (omega arith)) (λ more. ⊎_elim (λ three. absurd (omega arith)) (λ five. absurd (omega arith)) more) e
  read_whole NoMemoryInRun h reading e = ⊎_elim (λ zero. absurd (omega arith)) (λ more. ⊎_elim (λ three. absurd (omega arith)) (λ five. absurd (omega arith)) more) e
  read_whole Usage h reading e = ⊎_elim (λ zero. absurd (omega arith)) (λ more. ⊎_elim (λ three. absurd (omega arith)) (λ five. absurd (omega arith)) more) e
  read_whole ReadFault h reading e = ⊎_elim (λ zero. absurd (omega arith)) (λ more. ⊎_elim (λ three. absurd (omega arith)) (λ five. absurd (omega arith)) more) e
  read_whole TooLong h reading e = ⊎_elim (λ zero. absurd (omega arith)) (λ more. ⊎_elim (λ three. absurd (omega arith)) (λ five. absurd (omega arith)) more) e

  complete : (s : Status) → CausesHold asked old new s → (c : Command) → Asks c → ¬ Rose old.reads new.reads → ¬ Rose old.writes new.writes
      → (code_of s ≡ 0) ⊎ ((code_of s ≡ 1) ⊎ ((reads c ≡ true) × ((code_of s ≡ 3) ⊎ (code_of s ≡ 6))))
  complete Done h c asks calm quiet = inl refl
  complete NoMemory h c asks calm quiet = inr (inl refl)
  complete NoMemoryInRun h c asks calm quiet = inr (inl refl)
  complete Usage (nothing, same, kept) c asks calm quiet = absurd (none c asks nothing)
  complete ReadFault (also, rose, most, kept) c asks calm quiet = absurd (calm rose)
  complete WriteFault (d, also, input, rose) c asks calm quiet = absurd (quiet rose)
  complete TooLong ((d, also, reading), long, takes, kept) c asks calm quiet = inr (inr (subst (λ x. reads x ≡ true) (one d c also asks) reading, inr refl))
  complete (Refused index cause) ((d, also, reading), inside, end, kept) c asks calm quiet = inr (inr (subst (λ x. reads x ≡ true) (one d c also asks) reading, inl refl))

  -- all of it
  pub kept : (err later : ErrorOutput) (s : Status) (answer : ℕ) → answer ≡ code_of s → CausesHold asked old new s → Reports err.held later.held err.faults later.faults s → KeepsPromise asked old new err later answer
  kept err later s answer e h reported = subst (KeepsPromise asked old new err later) (sym e) (record {
    status = (s, refl, h, reported);
    transcript = transcript s h;
    cut_short = cut_short s h;
    safe = safe s h;
    unwritten = unwritten s h;
    cut_in_run = cut_in_run s h;
    usage = usage s h;
    no_command = no_command s h;
    untouched = untouched s h;
    unread = unread s h;
    read_fault = read_fault s h;
    write_fault = write_fault s h;
    too_long = too_long s h;
    not_longer = not_longer s h;
    refused = refused s h;
    accepted = accepted s h;
    read_whole = read_whole s h;
    complete = complete s h;
  })
