-- What a lexeme opens or closes, and whether it is a keyword outside the language, are told by its symbol.
use Rattle.std.proofs.Common.{◌≡◌, ℕ, Bool, true, false, Option, Some, None, refl}
use Rattle.tx_tree.specs.declared.symbol.Keyword.{Keyword}
use Rattle.tx_tree.specs.Kind as kind
use Rattle.tx_tree.specs.Kind.{Kind}
use Rattle.tx_parse.specs.Faults.{Place, is_outside, outside_or, kind_outside_or, step_of}
use Rattle.tx_parse.specs.Calls.Front.{symbol_of, symbol_step, word_outside, symbol_outside, placed}

pub step_of_symbol : (o : Option Kind) → symbol_step (symbol_of o) ≡ step_of o
step_of_symbol None = refl
step_of_symbol (Some (kind.named n)) = refl
step_of_symbol (Some (kind.keyword k)) = refl
step_of_symbol (Some (kind.number n)) = refl
step_of_symbol (Some (kind.quoted t)) = refl
step_of_symbol (Some (kind.mark m)) = refl
step_of_symbol (Some kind.newline) = refl
step_of_symbol (Some kind.indent) = refl
step_of_symbol (Some kind.dedent) = refl

word_placed : (b : Bool) (k : Keyword) (line : ℕ) (later : Option Place) → outside_or b k line later ≡ placed line (word_outside k b) later
word_placed true k line later = refl
word_placed false k line later = refl

pub outside_of_symbol : (o : Option Kind) (line : ℕ) (later : Option Place) → kind_outside_or o line later ≡ placed line (symbol_outside (symbol_of o)) later
outside_of_symbol None line later = refl
outside_of_symbol (Some (kind.named n)) line later = refl
outside_of_symbol (Some (kind.keyword k)) line later = word_placed (is_outside k) k line later
outside_of_symbol (Some (kind.number n)) line later = refl
outside_of_symbol (Some (kind.quoted t)) line later = refl
outside_of_symbol (Some (kind.mark m)) line later = refl
outside_of_symbol (Some kind.newline) line later = refl
outside_of_symbol (Some kind.indent) line later = refl
outside_of_symbol (Some kind.dedent) line later = refl
