-- Cells that are put in a place, and the columns of names.
use Rattle.std.proofs.Common.{◌≡◌, ℕ, ◌+◌, ◌<◌, ◌≤◌, ◌++◌, true, false, List, [], ◌∷◌, drop, get_or, length, set, take, sym, ap, ◌∙◌, arith, add-one}
use Rattle.std.proofs.lemmas.List.{drop_all, set_split, take_all}
use Rattle.std.proofs.lemmas.List.Sums.{position_or_len_is}
use Rattle.tx_tree.specs.Words.{same_text}
use Rattle.tx_values.specs.declared.value.Value.{Value}
use Rattle.tx_names.specs.Scope.{Text}
use Rattle.tx_pipe.specs.Column.{Schema, bytes_of}
use Rattle.tx_plain.specs.RowWise.{column_in, put_cell}

pub put_within : (cells : List Value) (place : ℕ) (x : Value) → place < length cells → set cells place x ≡ put_cell place x cells
put_within cells place x h = set_split cells place x h ∙ ap (λ (n : ℕ). take place cells ++ x ∷ drop n cells) (sym (add-one place))

pub put_behind : (cells : List Value) (place : ℕ) (x : Value) → length cells ≤ place → cells ++ x ∷ [] ≡ put_cell place x cells
put_behind cells place x h =
    let front : take place cells ≡ cells = take_all place cells h in
    let end : drop (place + 1) cells ≡ [] = drop_all (place + 1) cells (omega (arith, h)) in
    sym (ap (λ (l : List Value). l ++ x ∷ drop (place + 1) cells) front ∙ ap (λ (l : List Value). cells ++ x ∷ l) end)

pub ruleset put_cells = (put_within, put_behind)

-- the first column of a name is here, or behind
pub column_here : (schema : Schema) (place : ℕ) (name : Text) (d : List ℕ) → place < length schema
    → ((k : ℕ) → k < place → same_text (bytes_of name) (get_or schema k d) ≡ false) → same_text (bytes_of name) (get_or schema place d) ≡ true → column_in schema name ≡ place
column_here schema place name d less before here = position_or_len_is (same_text (bytes_of name)) schema place d (omega (arith, less)) before (λ h. here)

pub column_none : (schema : Schema) (name : Text) (d : List ℕ)
    → ((k : ℕ) → k < length schema → same_text (bytes_of name) (get_or schema k d) ≡ false) → column_in schema name ≡ length schema
column_none schema name d before = position_or_len_is (same_text (bytes_of name)) schema (length schema) d (omega arith) before (λ h. absurd (omega (arith, h)))

pub ruleset columns = (column_here, column_none)
