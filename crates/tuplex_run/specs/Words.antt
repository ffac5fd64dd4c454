-- The script that the words of a command name.
use Rattle.std.specs.Prelude.{ℕ, List, Option, Some, None, option_and_then}
use Rattle.tx_words.specs.declared.command.Command.{Command}
use Rattle.tx_words.specs.declared.command.Command.TheVariants.{Run, Check, Generate}
use Rattle.tx_words.specs.Words.{command_of}

-- the script that a command names: to run it, or to check it
abbrev pub script_in : Command → Option (List ℕ)
script_in (Run script sample order stats) = Some script
script_in (Check script) = Some script
script_in (Generate seed count file) = None

-- the script that the words name
abbrev pub script_of : List (List ℕ) → Option (List ℕ)
script_of words = option_and_then script_in (command_of words)
