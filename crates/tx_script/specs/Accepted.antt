-- What `read_script` answers.
use Rattle.std.specs.Prelude.{◌≡◌, ℕ, true, false, List, [], ◌∷◌, Option, Some, None, Ok, ⊤}
use Rattle.tx_tokens.specs.declared.token.Token.{Token}
use Rattle.tx_tree.specs.Tree.{BlockTree}
use Rattle.tx_parse.specs.Lexemes.{Lexeme, lexemes}
use Rattle.tx_parse.specs.Block.{IsBlock}
use Rattle.tx_parse.specs.Faults.{first_outside, NoTree}
use Rattle.tx_names.specs.Scope.{Text}
use Rattle.tx_script.specs.declared.fault.ScriptFault.{ScriptFault}
use Rattle.tx_script.specs.declared.fault.ScriptKind.{ScriptKind}
use Rattle.tx_script.specs.declared.fault.ScriptKind.TheVariants as kind
use Rattle.tx_script.specs.Linked.{Pipe, linked_script}
use Rattle.tx_script.specs.Checks.{blocks_in, entries, refusal}

-- ---- blocks

-- why lexemes are no block
abbrev pub IsUnread : ScriptKind → ℕ → List Lexeme → Type 0
IsUnread kind.Outside line ls = (word : Text) × (first_outside ls ≡ Some (line, word))
IsUnread kind.TooDeep line ls = NoTree ls line true
IsUnread kind.NotABlock line ls = NoTree ls line false
IsUnread _ line ls = ⊥

-- blocks are read in order as these trees; where one is no block, that is why, and those behind it are not read
abbrev pub AreRead : List (List Token) → List BlockTree → Option ScriptFault → Type 0
AreRead [] [] None = ⊤
AreRead (ts ∷ tss) (b ∷ bs) unread = IsBlock b (lexemes ts) × AreRead tss bs unread
AreRead (ts ∷ tss) [] (Some f) = IsUnread f.kind f.line (lexemes ts)
AreRead _ _ _ = ⊥

-- ---- answers

-- a script that no check refuses, and its pipe
pub record Accepted (own : Text) (bytes : List ℕ) (pipe : Pipe) : Type 0 where
  pub blocks : List BlockTree
  pub read : AreRead (blocks_in bytes) blocks None
  pub passes : refusal own bytes blocks None ≡ None
  pub linked : linked_script (entries blocks) ≡ Ok pipe

-- a script that is refused so
pub record Refused (own : Text) (bytes : List ℕ) (fault : ScriptFault) : Type 0 where
  pub blocks : List BlockTree
  pub unread : Option ScriptFault
  pub read : AreRead (blocks_in bytes) blocks unread
  pub fails : refusal own bytes blocks unread ≡ Some fault
