-- One link, and then those behind it.
use Rattle.std.proofs.Common.{◌≡◌, ℕ, List, ◌∷◌, length, Result, Ok, Err, refl, sym, ap, ◌∙◌}
use Rattle.tx_script.specs.declared.fault.ScriptFault.{ScriptFault}
use Rattle.tx_script.specs.Written.{Part, operator, handler, Link}
use Rattle.tx_tree.specs.Tree.{BlockTree}
use Rattle.tx_names.specs.Scope.{Text}
use Rattle.tx_names.specs.Function.{Function}
use Rattle.tx_script.specs.Linked.{◌>>=◌, Ahead, Pipe, State, with_def, with_operator, nodes_by, linked_nodes}

abbrev reached : Pipe → ℕ → Result (Pipe × ℕ) ScriptFault
reached p end = Ok (p, end)

by_operator : (r : Result Pipe ScriptFault) (rest : Pipe → ℕ → Result (Pipe × ℕ) ScriptFault)
    → r >>= (λ p. rest p (length p)) ≡ (r >>= (λ p. reached p (length p))) >>= (λ s. rest s.0 s.1)
by_operator (Ok p) rest = refl
by_operator (Err f) rest = refl

by_part : (a : Ahead) (done : Pipe) (input line : ℕ) (part : Part) (links : List Link) (rest : Pipe → ℕ → Result (Pipe × ℕ) ScriptFault)
    → nodes_by a done input line part links rest ≡ nodes_by a done input line part links reached >>= (λ s. rest s.0 s.1)
by_part a done input line (handler h) links rest = refl
by_part a done input line (operator op) links rest = by_operator (with_operator a done input line op links) rest

-- where the first link gives a pipe, the others go on behind it
pub next_nodes : (a : Ahead) (done : Pipe) (input : ℕ) (x : Link) (links : List Link) (p : Pipe) (end : ℕ)
    → nodes_by a done input x.line x.part links reached ≡ Ok (p, end) → linked_nodes a p end links ≡ linked_nodes a done input (x ∷ links)
next_nodes a done input x links p end h =
    sym (by_part a done input x.line x.part links (λ q e. linked_nodes a q e links) ∙ ap (λ r. r >>= (λ s. linked_nodes a s.0 s.1 links)) h)

-- where it is in fault, that is the fault
pub first_nodes : (a : Ahead) (done : Pipe) (input : ℕ) (x : Link) (links : List Link) (f : ScriptFault)
    → nodes_by a done input x.line x.part links reached ≡ Err f → linked_nodes a done input (x ∷ links) ≡ Err f
first_nodes a done input x links f h =
    by_part a done input x.line x.part links (λ q e. linked_nodes a q e links) ∙ ap (λ r. r >>= (λ s. linked_nodes a s.0 s.1 links)) h

abbrev fault_of : Result Ahead ScriptFault → ScriptFault → Result State ScriptFault
fault_of (Err e) d = Err e
fault_of (Ok a) d = Err d

abbrev defined : Ahead → Text → BlockTree → Function ℕ → Result Ahead ScriptFault
defined a n b g = Ok (with_def a n g b)

abbrev defined_in : Ahead → Pipe → Text → BlockTree → Function ℕ → Result State ScriptFault
defined_in a done n b g = Ok (with_def a n g b, done)

-- a def that is in fault is so in a script
pub def_fault : (x : Result Text ScriptFault) (y : Result (Function ℕ) ScriptFault) (a : Ahead) (done : Pipe) (n : Text) (b : BlockTree) (f : ScriptFault)
    → x >>= (λ free. y >>= defined a n b) ≡ Err f → x >>= (λ free. y >>= defined_in a done n b) ≡ Err f
def_fault (Err d) y a done n b f h = ap (λ (r : Result Ahead ScriptFault). fault_of r d) h
def_fault (Ok t) (Err d) a done n b f h = ap (λ (r : Result Ahead ScriptFault). fault_of r d) h
def_fault (Ok t) (Ok g) a done n b f h = cc
