-- What clap is told of the words, and what it finds in them.
use Rattle.std.specs.Prelude.{◌≡◌, ℕ, true, false, List, [], ◌∷◌, Option, Some, None, codes, unwrap_or}
use Rattle.clap.specs.Simple.{new_shape, shape_of}
use Rattle.clap.specs.Words.{App, Row, Rule, Shape, Text, all_of, new_rule, subcommand_rows_of}
use Rattle.clap.specs.declared.builder.command.Command.{Command}
use Rattle.clap.specs.declared.builder.command.Command.TheViews.{out-Command}
use Rattle.clap.specs.declared.parser.matches.ArgMatches.{ArgMatches}

-- the words behind a name, as many as there are names of places
abbrev pub words_rule : ℕ → Rule
words_rule places = record (new_rule (codes "words")) { value_names = places; required = true }

abbrev pub subcommand_shape : Text → ℕ → Shape
subcommand_shape name places = record (new_shape name) { rules = words_rule places ∷ [] }

-- a command of this name with a word for each of so many places
abbrev pub IsSubcommand : Text → ℕ → Command → Type 0
IsSubcommand name places command = (shape_of command ≡ subcommand_shape name places) × ((out-Command command).has_globals ≡ false)

-- one command with eight subcommands, without what clap adds by itself
abbrev pub forms_app : App
forms_app = record {
  top = record (new_shape (codes "picc")) {
    is_leaf = false;
    no_binary_name = true;
    disable_help_flag = true;
    disable_help_subcommand = true;
  };
  subs = subcommand_shape (codes "build") 3 ∷ subcommand_shape (codes "trace") 3 ∷ subcommand_shape (codes "sim") 4
      ∷ subcommand_shape (codes "agree") 3 ∷ subcommand_shape (codes "gen") 1 ∷ subcommand_shape (codes "check") 1
      ∷ subcommand_shape (codes "build84") 3 ∷ subcommand_shape (codes "sim84") 4 ∷ [];
}

-- the name that was found, and the words behind it
abbrev pub words_in : Option (Text × List Row) → List Text
words_in None = []
words_in (Some p) = p.0 ∷ unwrap_or (all_of (codes "words") p.1) []

abbrev pub words_found : ArgMatches → List Text
words_found matches = words_in (subcommand_rows_of matches)
