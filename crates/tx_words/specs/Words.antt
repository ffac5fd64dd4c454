-- What the words of a command line ask for: clap's own function of a simple command, for the command of `CommandLine`.
use Rattle.std.specs.Prelude.{ℕ, Bool, false, List, [], ◌∷◌, Option, Some, None, if◌then◌else◌, codes, map, option_map, option_and_then, encode_utf8_all}
use Rattle.std.specs.Option.{option_map_or}
use Rattle.std.specs.Str.{bytes_eq, chars}
use Rattle.std.specs.Str.Parse.{digits_value, without_leading_plus}
use Rattle.clap.specs.ValueTests.{is_unsigned_in}
use Rattle.clap.specs.Words.{Kinds, Row, Text, fault_of, first_of, subcommand_of}
use Rattle.tx_words.specs.CommandLine.{most_number, most_rows, most_sample, tuplex_app}
use Rattle.tx_words.specs.declared.command.Command.{Command}
use Rattle.tx_words.specs.declared.command.Command.TheVariants.{Run, Check, Generate}

infixl 10 ◌>>=◌
abbrev ◌>>=◌ : {A B : Type 0} → Option A → (A → Option B) → Option B
o >>= f = option_and_then f o

-- ---- values

-- the number that a text is: decimal digits with or without a `+` in front, up to `most`
abbrev pub number_up_to : ℕ → Text → Option ℕ
number_up_to most text =
    if is_unsigned_in 0 most text then Some (digits_value 10 (without_leading_plus text)) else None

-- a number that need not be there
abbrev pub optional_number : Option Text → Option (Option ℕ)
optional_number None = Some None
optional_number (Some text) = option_map (λ number. Some number) (number_up_to most_number text)

-- clap's value of a flag
abbrev pub is_true_text : Option Text → Bool
is_true_text text = option_map_or (λ t. bytes_eq t (codes "true")) text false

-- ---- the subcommands, by the values of their arguments

abbrev pub run_in : List Row → Option Command
run_in rows = do
  script ← first_of (codes "script") rows
  given ← first_of (codes "sample") rows
  sample ← number_up_to most_sample given
  order ← optional_number (first_of (codes "order") rows)
  Some (Run (chars script) sample order (is_true_text (first_of (codes "stats") rows)))

abbrev pub check_in : List Row → Option Command
check_in rows = do
  script ← first_of (codes "script") rows
  Some (Check (chars script))

abbrev pub generate_in : List Row → Option Command
generate_in rows = do
  first ← first_of (codes "seed") rows
  seed ← number_up_to most_number first
  second ← first_of (codes "rows") rows
  count ← number_up_to most_rows second
  file ← first_of (codes "file") rows
  Some (Generate seed count (chars file))

-- a subcommand by its name
abbrev pub asked : Text × List Row → Option Command
asked (name, rows) =
    if bytes_eq name (codes "run") then run_in rows
    else (if bytes_eq name (codes "check") then check_in rows
    else (if bytes_eq name (codes "generate") then generate_in rows else None))

-- ---- the words

abbrev pub unless_refused : {A : Type 0} → Kinds → Option A → Option A
unless_refused [] o = o
unless_refused (kind ∷ kinds) o = None

-- what clap's function finds in words of bytes: the subcommand with its values, where there is no fault
abbrev pub found_in : List Text → Option (Text × List Row)
found_in words = unless_refused (fault_of tuplex_app words) (subcommand_of tuplex_app words)

-- the words are texts, which clap sees in UTF-8
abbrev pub command_of : List (List ℕ) → Option Command
command_of words = option_and_then asked (found_in (map encode_utf8_all words))
