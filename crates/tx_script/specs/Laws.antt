-- Laws above the definitions.
use Rattle.std.specs.Prelude.{◌≡◌, ◌<◌, ℕ, List, length, Option}
use Rattle.tx_tokens.specs.declared.token.Token.{Token}
use Rattle.tx_tree.specs.Tree.{BlockTree}
use Rattle.tx_tokens.specs.Tokens.{most_characters}
use Rattle.tx_names.specs.Scope.{Text}
use Rattle.tx_pipe.specs.Lawful.{Lawful}
use Rattle.tx_script.specs.declared.fault.ScriptFault.{ScriptFault}
use Rattle.tx_script.specs.declared.fault.ScriptKind.TheVariants as kind
use Rattle.tx_script.specs.Linked.{at, Pipe}
use Rattle.tx_script.specs.Accepted.{AreRead, Accepted, Refused}

-- blocks are read in one way
abbrev pub OneReadingLaw : Type 0
OneReadingLaw = (tss : List (List Token)) (bs cs : List BlockTree) (u v : Option ScriptFault)
    → AreRead tss bs u → AreRead tss cs v → (bs ≡ cs) × (u ≡ v)

-- the pipe of an accepted script is lawful
abbrev pub LawfulLaw : Type 0
LawfulLaw = (own : Text) (bytes : List ℕ) (pipe : Pipe) → Accepted own bytes pipe → Lawful pipe

-- a script with more bytes than the most is refused for that, whatever they are
abbrev pub LongLaw : Type 0
LongLaw = (own : Text) (bytes : List ℕ) → most_characters < length bytes → Refused own bytes (at kind.TooLong 0)
