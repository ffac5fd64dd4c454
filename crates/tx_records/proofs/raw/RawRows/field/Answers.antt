use Rattle.std.proofs.Common.{◌<◌, ◌≤◌, ◌∙◌, length, sym, arith}
use Rattle.tx_records.proofs.PackedLemmas.{column_past, field_found, row_past, text_at}
use Rattle.tx_records.proofs.raw.RawRows.field.Goals.{else-row-len-via-then-row-len+else-column-self, else-row-len-via-else-row-len}
use Rattle.tx_records.proofs.raw.RawRows.field.Goals as goal

pub returns-then-column-self-clause-value : goal.returns-then-column-self-clause-value
returns-then-column-self-clause-value c =
    let a = c.self.inside in
    let size = c.len.ensures ∙ c.self.inside.numbers.ok.0 in
    let within : c.args.row < length a.numbers.items = omega (arith, c.if-row-len.true) in
    rw (← c.self.view_is) (field_found a.width a.numbers.items a.fields c.args.row c.args.column c.get.result.now within c.if-column-self.true c.get.ensures)

pub returns-then-column-self-clause-text : goal.returns-then-column-self-clause-text
returns-then-column-self-clause-text c =
    text_at c.self.inside.fields _ c.get.result.now c.self.invariant.text c.get.ensures

pub returns-clause-value : goal.returns-clause-value
returns-clause-value c =
    let a = c.self.inside in
    let size = c.len.ensures ∙ c.self.inside.numbers.ok.0 in
    rw (← c.self.view_is) (sym (elim c.else-row-len.branch [
      | else-row-len-via-then-row-len+else-column-self w ↦
          let within : c.args.row < length a.numbers.items = omega (arith, w.if-row-len.true) in
          column_past a.width a.numbers.items a.fields c.args.row c.args.column within w.if-column-self.false
      | else-row-len-via-else-row-len w ↦
          let past : length a.numbers.items ≤ c.args.row = omega (arith, w.if-row-len.false) in
          row_past a.width a.numbers.items a.fields c.args.row c.args.column past
    ]))
