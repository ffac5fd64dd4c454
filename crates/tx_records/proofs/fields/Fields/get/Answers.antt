use Rattle.std.proofs.Common.{◌≡◌, ◌<◌, ◌∙◌, length, sym, ap, arith}
use Rattle.csv.proofs.RecordFacts.{cut-length, field-bounds}
use Rattle.tx_records.proofs.FieldsLemmas.{found}
use Rattle.tx_records.proofs.fields.Fields.get.Goals as goal

pub bounds-start-requires : goal.bounds-start-requires
bounds-start-requires c =
    let n : length c.args.self.now ≡ length c.self.inside.ends.items = ap length (sym c.self.view_is) ∙ cut-length 0 c.self.inside.ends.items c.self.inside.bytes.items in
    omega (arith, c.requires)

pub returns : goal.returns
returns c =
    let n : length c.args.self.now ≡ length c.self.inside.ends.items = ap length (sym c.self.view_is) ∙ cut-length 0 c.self.inside.ends.items c.self.inside.bytes.items in
    let lt : c.args.at < length c.self.inside.ends.items = omega (arith, c.requires) in
    let b = c.bounds-start.ensures in
    rw (← c.self.view_is, c.as_slice.ensures.value, b.start, b.end) (found c.self.inside.ends.items c.self.inside.bytes.items c.args.at lt)

pub slice_bounds-result-count : goal.slice_bounds-result-count
slice_bounds-result-count c =
    let n : length c.args.self.now ≡ length c.self.inside.ends.items = ap length (sym c.self.view_is) ∙ cut-length 0 c.self.inside.ends.items c.self.inside.bytes.items in
    let lt : c.args.at < length c.self.inside.ends.items = omega (arith, c.requires) in
    let b = c.bounds-start.ensures in
    let f = field-bounds 0 c.self.inside.ends.items (length c.self.inside.bytes.items) c.args.at c.self.invariant.0 lt in
    rw (b.start, b.end) f.0

pub slice_bounds-result-start : goal.slice_bounds-result-start
slice_bounds-result-start c =
    let n : length c.args.self.now ≡ length c.self.inside.ends.items = ap length (sym c.self.view_is) ∙ cut-length 0 c.self.inside.ends.items c.self.inside.bytes.items in
    let lt : c.args.at < length c.self.inside.ends.items = omega (arith, c.requires) in
    let b = c.bounds-start.ensures in
    let f = field-bounds 0 c.self.inside.ends.items (length c.self.inside.bytes.items) c.args.at c.self.invariant.0 lt in
    omega (arith, b.start, b.end, f.0, f.1, ap length c.as_slice.ensures.value)

pub slice_bounds-result-end : goal.slice_bounds-result-end
slice_bounds-result-end c =
    let n : length c.args.self.now ≡ length c.self.inside.ends.items = ap length (sym c.self.view_is) ∙ cut-length 0 c.self.inside.ends.items c.self.inside.bytes.items in
    let lt : c.args.at < length c.self.inside.ends.items = omega (arith, c.requires) in
    let b = c.bounds-start.ensures in
    let f = field-bounds 0 c.self.inside.ends.items (length c.self.inside.bytes.items) c.args.at c.self.invariant.0 lt in
    omega (arith, b.start, b.end, f.0, f.1, ap length c.as_slice.ensures.value)
