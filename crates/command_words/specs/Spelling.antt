-- The grammar of the words, as a relation: which words ask for a command.
use Rattle.std.specs.Prelude.{◌≡◌, ◌⊎◌, Bool, true, false, ◌&&◌, nat_le, length, List, [], ◌∷◌, ◌++◌, Some, codes}
use Rattle.command_words.specs.Options.{Given, Known, Text, has_required, is_given, is_known, value_of}
use Rattle.std.specs.List.{list_all}
use Rattle.command_words.specs.Numbers.{is_digit}
use Rattle.command_words.specs.Commands.{command_with, options_for, text_of}
use Rattle.command_words.specs.declared.commands.Command.{Command}
use Rattle.command_words.specs.declared.commands.Name.{Name}

-- a value is 1 to 10 digits
abbrev pub is_number : Text → Bool
is_number value = nat_le 1 (length value) && nat_le (length value) 10 && list_all is_digit value

-- an option is two words, `--name` and its value, or one word, `--name=value`
abbrev pub Spells : Given → List Text → Type 0
Spells g words = (is_number g.value ≡ true)
    × ((words ≡ (codes "--" ++ g.name) ∷ g.value ∷ []) ⊎ (words ≡ (codes "--" ++ g.name ++ codes "=" ++ g.value) ∷ []))

-- the words are these options, one behind the other
abbrev pub SpellsAll : List Given → List Text → Type 0
SpellsAll [] words = words ≡ []
SpellsAll (g ∷ gs) words = (front : List Text) × (rest : List Text) × (words ≡ front ++ rest) × Spells g front × SpellsAll gs rest

-- each is an option of the command, and is none of those before it
abbrev pub EachOnce : List Known → List Given → List Given → Type 0
EachOnce known before [] = Unit {0}
EachOnce known before (g ∷ gs) = (is_known known g.name ≡ true) × (is_given before g.name ≡ false) × EachOnce known (before ++ g ∷ []) gs

-- the words are a command's name and options of it, each at most once and all that are required, whose numbers make this command
abbrev pub Asks : List Text → Command → Type 0
Asks words command = (name : Name) × (given : List Given) × (options : List Text) × (words ≡ text_of name ∷ options) × SpellsAll given options
    × EachOnce (options_for name) [] given × (has_required (options_for name) given ≡ true) × (command_with name (value_of given) ≡ Some command)
