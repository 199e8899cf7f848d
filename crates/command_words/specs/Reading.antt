-- What the reading of options with clap promises.
use Rattle.std.specs.Prelude.{◌≡◌, true, false, List, [], ◌∷◌, map, Option, Some, None, Result, Ok, Err, IsUtf8, codes}
use Rattle.std.specs.Str.{bytes_eq}
use Rattle.clap.specs.Words.{App, Rule, first_value, found_of, new_rule}
use Rattle.clap.specs.Simple.{new_shape}
use Rattle.clap.specs.declared.builder.action.ArgAction.TheVariants.{Set}
use Rattle.clap.specs.declared.parser.matches.ArgMatches.{ArgMatches}
use Rattle.command_words.specs.Options.{Given, Known, Text, value_of}
use Rattle.command_words.specs.declared.commands.WordsFault.{WordsFault}
use Rattle.command_words.specs.declared.commands.WordsFault.TheVariants.{NoMemory, Usage}
use Rattle.command_words.specs.declared.options.KnownOption.{KnownOption}

-- the words are texts, and none is `--`
abbrev pub ArePlain : List Text → Type 0
ArePlain [] = Unit {0}
ArePlain (w ∷ ws) = (bytes_eq w (codes "--") ≡ false) × IsUtf8 w × ArePlain ws

abbrev pub known_of : KnownOption → Known
known_of o = record { name = o.name.now; is_required = o.is_required }

-- an option, and a command that has options alone, as clap is given them
abbrev pub rule_for : Known → Rule
rule_for k = record (new_rule k.name) { long = Some k.name; action = Some Set; required = k.is_required }

abbrev pub app_for : Text → List Known → App
app_for name known = record {
  top = record (new_shape name) { rules = map rule_for known; no_binary_name = true; disable_help_flag = true; disable_version_flag = true };
  subs = [];
}

-- each option has the value that the words give it
abbrev pub Gives : ArgMatches → List Given → Type 0
Gives matches given = first_value (found_of matches) ≡ value_of given

-- the options of the words, and Usage where there are none
abbrev pub ReadsOptions : Option (List Given) → Result ArgMatches WordsFault → Type 0
ReadsOptions options (Ok matches) = (given : List Given) × (options ≡ Some given) × Gives matches given
ReadsOptions options (Err Usage) = options ≡ None
ReadsOptions options (Err NoMemory) = Unit {0}
