use Rattle.std.proofs.Common.{◌≡◌, ◌<◌, ◌≤◌, ◌++◌, ◌∷◌, ◌∙◌, [], ap, length, arith}
use Rattle.std.proofs.lemmas.List.{take_all}
use Rattle.std.specs.Prelude.{map, unwrap_or}
use Rattle.tx_records.specs.Cell.{value_of}
use Rattle.tx_records.specs.Records.{field_in, numbered_at}
use Rattle.tx_records.proofs.PackedLemmas.{field_at_place, length_rows, value_more, wide_at}
use Rattle.tx_records.proofs.raw.RawRows.cells_of.Goals as goal

pub columns-preserved : goal.columns-preserved
columns-preserved c =
    let a = c.self.inside in
    let self = c.args.self.now in
    let size : length self.records ≡ length a.numbers.items = rw (← c.self.view_is) (length_rows a.width a.numbers.items a.fields) in
    let within : c.args.row < length a.numbers.items = omega (arith, c.requires) in
    let wide : length (numbered_at self c.args.row).1 ≡ a.width = rw (← c.self.view_is) (wide_at a.width a.numbers.items a.fields c.args.row c.self.invariant.count within) in
    let column = c.columns.column in
    let there : column < length (numbered_at self c.args.row).1 = omega (arith, c.columns-test.true) in
    value_more (value_of self.dialect.null) (numbered_at self c.args.row).1 column (unwrap_or (field_in self c.args.row column) []) c.columns.cells.items c.push.new.self.items there
    (field_at_place self.records c.args.row column c.requires) c.columns.invariant
    (c.in_ok-push.ensures.items ∙ ap (λ v. c.columns.cells.items ++ v ∷ []) c.in_ok-cell.ensures)

pub returns : goal.returns
returns c =
    let a = c.self.inside in
    let self = c.args.self.now in
    let size : length self.records ≡ length a.numbers.items = rw (← c.self.view_is) (length_rows a.width a.numbers.items a.fields) in
    let within : c.args.row < length a.numbers.items = omega (arith, c.requires) in
    let wide : length (numbered_at self c.args.row).1 ≡ a.width = rw (← c.self.view_is) (wide_at a.width a.numbers.items a.fields c.args.row c.self.invariant.count within) in
    let all : length (numbered_at self c.args.row).1 ≤ c.columns.column = omega (arith, c.columns-test.false) in
    c.from_vec.ensures ∙ (c.columns.invariant ∙ ap (map (value_of self.dialect.null)) (take_all c.columns.column (numbered_at self c.args.row).1 all))
