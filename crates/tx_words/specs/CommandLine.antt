-- The command line as `clap` sees it: the program's command with its three subcommands and their arguments.
use Rattle.std.specs.Prelude.{ℕ, true, [], ◌∷◌, Some, codes}
use Rattle.clap.specs.Words.{App, Rule, Shape, Text, new_app, new_rule, with_rule, with_subcommand}
use Rattle.clap.specs.declared.builder.action.ArgAction.TheVariants.{Set, SetTrue}
use Rattle.clap.specs.declared.builder.value_parser.ValueParser.TheVariants.{Unsigned}

-- ---- how large numbers may be: N of `--sample`, the number of rows, and any other, which is one of 64 bits

abbrev pub most_sample : ℕ
most_sample = 10000

abbrev pub most_rows : ℕ
most_rows = 1000000

abbrev pub most_number : ℕ
most_number = 18446744073709551615

-- ---- arguments

-- a word that has to be there
abbrev pub word_rule : Text → Rule
word_rule id = record (new_rule id) { action = Some Set; required = true }

-- a number that has to be there
abbrev pub number_rule : Text → ℕ → Rule
number_rule id most = record (word_rule id) { parser = Some (Unsigned 0 most) }

-- an option that takes a number, by its long name
abbrev pub option_rule : Text → ℕ → Rule
option_rule id most = record (new_rule id) { long = Some id; action = Some Set; parser = Some (Unsigned 0 most) }

-- N is 100 where it is not given
abbrev pub sample_rule : Rule
sample_rule = record (option_rule (codes "sample") most_sample) { defaults = codes "100" ∷ [] }

-- a flag, by its long name
abbrev pub flag_rule : Text → Rule
flag_rule id = record (new_rule id) { long = Some id; action = Some SetTrue }

-- ---- the command

-- `run SCRIPT [--sample N] [--order K] [--stats]`
abbrev pub run_app : App
run_app = with_rule (with_rule (with_rule (with_rule (new_app (codes "run"))
    (word_rule (codes "script"))) sample_rule) (option_rule (codes "order") most_number)) (flag_rule (codes "stats"))

-- `check SCRIPT`
abbrev pub check_app : App
check_app = with_rule (new_app (codes "check")) (word_rule (codes "script"))

-- `generate SEED ROWS FILE`
abbrev pub generate_app : App
generate_app = with_rule (with_rule (with_rule (new_app (codes "generate"))
    (number_rule (codes "seed") most_number)) (number_rule (codes "rows") most_rows)) (word_rule (codes "file"))

-- no help and no version; one of the subcommands has to be there; the program's own name is none of the words
abbrev pub top_shape : Shape
top_shape = record (new_app (codes "tuplex")).top {
  no_binary_name = true;
  disable_help_flag = true;
  disable_help_subcommand = true;
  disable_version_flag = true;
  subcommand_required = true;
}

abbrev pub top_app : App
top_app = record { top = top_shape; subs = [] }

abbrev pub tuplex_app : App
tuplex_app = with_subcommand (with_subcommand (with_subcommand top_app run_app.top) check_app.top) generate_app.top
