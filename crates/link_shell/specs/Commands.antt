-- The commands: which one the words are a form of, by the part `usage` of the clause `performed` of `perform`, and its script, which the part
-- `follows` says is followed.
use Rattle.std.specs.Prelude.{◌∷◌, ◌==◌, [], ℕ, List, Bool, drop, length, if◌then◌else◌, codes, Option, Some, None}
use Rattle.settings_readers.specs.Values.{named_in}
use Rattle.command_scripts.specs.Words.{Script}
use Rattle.link_shell.specs.Generate.{are_generate_words, generate_script, rows_asked, are_keys_words, keys_script, help_script, are_column_words, Columns, columns_in, columns_script}
use Rattle.link_shell.specs.SettingsCommands.{are_frontier_words, Asked, asked_in, frontier_script, OfFile, settings_named, settings_script}
use Rattle.link_shell.specs.DuplicatesSettings.{are_many_words, many_in, many_script, ManyFiles}
use Rattle.link_shell.specs.ReviewSettings.{are_review_words, NewReview, review_in, review_script}
use Rattle.link_shell.specs.Words.{word}
use Rattle.link_shell.specs.declared.command.Form.{Form}
use Rattle.link_shell.specs.declared.command.Form.TheVariants as form
use Rattle.link_shell.specs.declared.settings_commands.SettingsVerb.{SettingsVerb}
use Rattle.link_shell.specs.declared.settings_commands.SettingsVerb.TheVariants as ask

-- a command that is built
pub data Command : Type 0 where
  of_settings : SettingsVerb → List ℕ → Command
  pairs_of_columns : Columns → Command
  keys : List (List ℕ) → Command
  frontier_of_settings : Asked → Command
  review_of_settings : NewReview → Command
  many_of_settings : ManyFiles → Command
  generation : ℕ → Command
  help : Command

abbrev pub run_of_settings : List ℕ → Command
run_of_settings = of_settings ask.Run

abbrev pub verification_of_settings : List ℕ → Command
verification_of_settings = of_settings ask.Verify

abbrev pub migration_of_settings : List ℕ → Command
migration_of_settings = of_settings ask.Migrate

-- the verbs of the commands that take other words
abbrev pub forms : List (List ℕ × Form)
forms = (codes "pairs", form.Columns) ∷ (codes "keys", form.Keys) ∷ (codes "frontier", form.Frontier) ∷ (codes "review", form.Review)
    ∷ (codes "many", form.Many) ∷ (codes "generate", form.Generate) ∷ (codes "help", form.Help) ∷ (codes "--help", form.Help) ∷ []

-- the words of each, its verb apart
abbrev pub are_words : Form → List (List ℕ) → Bool
are_words form.Columns = are_column_words
are_words form.Keys = are_keys_words
are_words form.Frontier = are_frontier_words
are_words form.Review = are_review_words
are_words form.Many = are_many_words
are_words form.Generate = are_generate_words
are_words form.Help = λ words. length words == 1

-- what they ask for
abbrev pub command_in : Form → List (List ℕ) → Command
command_in form.Columns words = pairs_of_columns (columns_in words)
command_in form.Keys words = keys (drop 1 words)
command_in form.Frontier words = frontier_of_settings (asked_in words)
command_in form.Review words = review_of_settings (review_in words)
command_in form.Many words = many_of_settings (many_in words)
command_in form.Generate words = generation (rows_asked words)
command_in form.Help words = help

abbrev pub form_command : Option Form → List (List ℕ) → Option Command
form_command None words = None
form_command (Some f) words = if are_words f words then Some (command_in f words) else None

-- the command of a settings file alone, and else of other words
abbrev pub or_form : Option OfFile → Option Command → Option Command
or_form None next = next
or_form (Some file) next = Some (of_settings file.verb file.name)

-- the command that the words are a form of
unfoldable pub command_of : List (List ℕ) → Option Command
command_of words = or_form (settings_named words) (form_command (named_in forms (word words 0)) words)

-- the script of a command
abbrev pub script_of : Command → Script
script_of (of_settings v name) = settings_script v name
script_of (pairs_of_columns w) = columns_script w
script_of (keys words) = keys_script words
script_of (frontier_of_settings asked) = frontier_script asked
script_of (review_of_settings review) = review_script review
script_of (many_of_settings w) = many_script w
script_of (generation rows) = generate_script rows
script_of help = help_script
