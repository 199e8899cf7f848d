-- The grammar at words that are written out.
use Rattle.std.proofs.Common.{◌≡◌, [], ◌∷◌, Some, None, codes, refl}
use Rattle.command_words.specs.Commands.{command_of}
use Rattle.command_words.specs.Options.{options_after}
use Rattle.command_words.specs.declared.commands.Command.TheVariants as command

nothing : command_of [] ≡ None
unfolding command_of
nothing = refl

run_alone : command_of (codes "run" ∷ []) ≡ Some (command.Run 1)
unfolding command_of options_after
run_alone = refl

live_with_workers : command_of (codes "live" ∷ codes "--workers=3" ∷ []) ≡ Some (command.Live 3)
unfolding command_of options_after
live_with_workers = refl

leading_zeros : command_of (codes "run" ∷ codes "--workers" ∷ codes "0000000008" ∷ []) ≡ Some (command.Run 8)
unfolding command_of options_after
leading_zeros = refl

any_order : command_of (codes "soak" ∷ codes "--steps=50" ∷ codes "--workers" ∷ codes "4" ∷ codes "--number=7" ∷ codes "--agents" ∷ codes "4000" ∷ [])
    ≡ Some (command.Soak 7 4000 50 4)
unfolding command_of options_after
any_order = refl

twice : command_of (codes "run" ∷ codes "--workers=8" ∷ codes "--workers=8" ∷ []) ≡ None
unfolding command_of options_after
twice = refl

missing : command_of (codes "sample" ∷ codes "--number=7" ∷ codes "--agents=1" ∷ []) ≡ None
unfolding command_of options_after
missing = refl

other_option : command_of (codes "check" ∷ codes "--workers=1" ∷ []) ≡ None
unfolding command_of options_after
other_option = refl

above : command_of (codes "run" ∷ codes "--workers=65" ∷ []) ≡ None
unfolding command_of options_after
above = refl

signed : (command_of (codes "run" ∷ codes "--workers=+8" ∷ []) ≡ None) × (command_of (codes "run" ∷ codes "--workers" ∷ codes "-8" ∷ []) ≡ None)
unfolding command_of options_after
signed = (refl, refl)

eleven_digits : command_of (codes "run" ∷ codes "--workers=00000000008" ∷ []) ≡ None
unfolding command_of options_after
eleven_digits = refl

dashes : (command_of (codes "run" ∷ codes "--" ∷ []) ≡ None) × (command_of (codes "run" ∷ codes "-" ∷ []) ≡ None) × (command_of (codes "run" ∷ codes "--workers" ∷ codes "--" ∷ codes "8" ∷ []) ≡ None)
unfolding command_of options_after
dashes = (refl, refl, refl)

stray : (command_of (codes "run" ∷ codes "8" ∷ []) ≡ None) × (command_of (codes "--workers" ∷ codes "8" ∷ codes "run" ∷ []) ≡ None)
unfolding command_of options_after
stray = (refl, refl)

two_equals : command_of (codes "run" ∷ codes "--workers==8" ∷ []) ≡ None
unfolding command_of options_after
two_equals = refl
