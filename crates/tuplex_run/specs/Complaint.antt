-- The complaint of each outcome: one line, or nothing.
use Rattle.std.specs.Prelude.{◌++◌, ℕ, List, [], codes, decimal, encode_utf8_all}
use Rattle.tx_script.specs.declared.fault.ScriptFault.{ScriptFault}
use Rattle.tx_script.specs.declared.fault.ScriptKind.{ScriptKind}
use Rattle.tx_script.specs.declared.fault.ScriptKind.TheVariants as kind
use Rattle.tuplex_run.specs.declared.outcome.ColumnFault.{ColumnFault}
use Rattle.tuplex_run.specs.declared.outcome.Outcome.{Outcome}
use Rattle.tuplex_run.specs.declared.outcome.Outcome.TheVariants.{Done, Words, Script, Columns, TooLarge, ReadFault, WriteFault, ConsoleFault, NoMemory}

abbrev pub usage : List ℕ
usage = codes "usage: tuplex run SCRIPT [--sample N] [--order K] [--stats] | check SCRIPT | generate SEED ROWS FILE\n"

abbrev pub out_of_memory : List ℕ
out_of_memory = codes "tuplex: out of memory\n"

abbrev pub too_large : List ℕ
too_large = codes ": too large\n"

abbrev pub read_failed : List ℕ
read_failed = codes ": read failed\n"

abbrev pub write_failed : List ℕ
write_failed = codes ": write failed\n"

-- a complaint of one file
abbrev pub complaint_of : List ℕ → List ℕ → List ℕ
complaint_of name what = codes "tuplex: " ++ (encode_utf8_all name ++ what)

-- the word of each check of a script
abbrev pub kind_word : ScriptKind → List ℕ
kind_word kind.TooLong = codes "TooLong"
kind_word kind.NotText = codes "NotText"
kind_word kind.Token = codes "Token"
kind_word kind.Indent = codes "Indent"
kind_word kind.Width = codes "Width"
kind_word kind.Outside = codes "Outside"
kind_word kind.NotABlock = codes "NotABlock"
kind_word kind.TooDeep = codes "TooDeep"
kind_word kind.Operator = codes "Operator"
kind_word kind.TooManyOperators = codes "TooManyOperators"
kind_word kind.TooManyDefs = codes "TooManyDefs"
kind_word kind.Name = codes "Name"
kind_word kind.Arity = codes "Arity"
kind_word kind.Recursive = codes "Recursive"
kind_word kind.RowUse = codes "RowUse"
kind_word kind.HandlerPlace = codes "HandlerPlace"
kind_word kind.PipeUse = codes "PipeUse"
kind_word kind.NoEnd = codes "NoEnd"
kind_word kind.OutputIsInput = codes "OutputIsInput"

-- `tuplex: script line 2: Outside`
abbrev pub script_complaint : ScriptFault → List ℕ
script_complaint fault = codes "tuplex: script line " ++ (decimal fault.line ++ (codes ": " ++ (kind_word fault.kind ++ codes "\n")))

-- `tuplex: operator 2: no column zz`
abbrev pub column_complaint : ColumnFault → List ℕ
column_complaint fault =
    (codes "tuplex: operator " ++ (decimal fault.operator ++ codes ": no column ")) ++ (encode_utf8_all fault.name ++ codes "\n")

abbrev pub complaint : Outcome → List ℕ
complaint (Done rows reported) = []
complaint Words = usage
complaint (Script fault) = script_complaint fault
complaint (Columns fault) = column_complaint fault
complaint (TooLarge name) = complaint_of name too_large
complaint (ReadFault name) = complaint_of name read_failed
complaint (WriteFault name) = complaint_of name write_failed
complaint ConsoleFault = []
complaint NoMemory = out_of_memory
