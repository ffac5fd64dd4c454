-- Command lines with what they ask for, as facts of the definition.
use Rattle.std.specs.Prelude.{◌≡◌, true, false, [], ◌∷◌, Some, None, codes}
use Rattle.tx_words.specs.Words.{command_of}
use Rattle.tx_words.specs.declared.command.Command.TheVariants.{Run, Check, Generate}

pub record Examples : Type 0 where
  -- `run s.py`
  pub plain : command_of (codes "run" ∷ codes "s.py" ∷ []) ≡ Some (Run (codes "s.py") 100 None false)
  -- `run --sample 5 s.py --stats --order=+7`
  pub options : command_of (codes "run" ∷ codes "--sample" ∷ codes "5" ∷ codes "s.py" ∷ codes "--stats" ∷ codes "--order=+7" ∷ [])
      ≡ Some (Run (codes "s.py") 5 (Some 7) true)
  -- `check -- -s`
  pub dashes : command_of (codes "check" ∷ codes "--" ∷ codes "-s" ∷ []) ≡ Some (Check (codes "-s"))
  -- `generate 1 1000000 g.csv`
  pub generated : command_of (codes "generate" ∷ codes "1" ∷ codes "1000000" ∷ codes "g.csv" ∷ [])
      ≡ Some (Generate 1 1000000 (codes "g.csv"))
  -- `generate 1 1000001 g.csv`
  pub too_many : command_of (codes "generate" ∷ codes "1" ∷ codes "1000001" ∷ codes "g.csv" ∷ []) ≡ None
  -- `run s.py --stats --stats`
  pub twice : command_of (codes "run" ∷ codes "s.py" ∷ codes "--stats" ∷ codes "--stats" ∷ []) ≡ None
