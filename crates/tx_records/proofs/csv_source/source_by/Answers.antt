use Rattle.std.proofs.Common.{◌≡◌, ◌∙◌, refl, true, false}
use Rattle.csv.specs.Records.{fields_of}
use Rattle.tx_records.specs.Calls.Packed.{rows_from}
use Rattle.tx_records.specs.Calls.Reading.{left_of}
use Rattle.tx_records.proofs.PackedLemmas.{held_by, none_held, none_kept}
use Rattle.tx_records.proofs.SourceLemmas.{faults_end, faults_step, good_end, good_step, none_added, kept_at}
use Rattle.tx_records.proofs.csv_source.source_by.Goals as goal

pub records-init : goal.records-init
records-init c =
    let kept = c.in_ok-kept.kept in
    record {
      names = refl;
      stands = c.requires;
      holds = none_held c.len-width.result kept.numbers.items kept.fields c.in_ok-kept.ensures.numbers c.in_ok-kept.ensures.fields;
      good = none_kept c.len-width.result kept.numbers.items kept.fields _ c.in_ok-kept.ensures.numbers;
      faults = none_added kept.faults _ c.in_ok-kept.ensures.faults;
    }

pub finished-requires : goal.finished-requires
finished-requires c =
    let inv = c.records.invariant in
    held_by c.records.kept.fields c.records.kept.numbers.items c.records.names c.args.names c.len-width.result inv.names c.len-width.ensures inv.holds

pub returns-then-not-found : goal.returns-then-not-found
returns-then-not-found c =
    let inv = c.records.invariant in
    let kept = c.records.kept in
    let width = c.len-width.result in
    let end : c.in_ok-found.found ≡ false = c.if-not-found.true in
    let none = c.in_ok-found.ensures.end end in
    let left = left_of c.records.reader in
    let good = good_end width c.records.number left _ (rows_from width kept.numbers.items kept.fields) none inv.good in
    let faults = faults_end c.args.operator width c.records.number left _ kept.faults none inv.faults in
    c.finished.ensures ∙ kept_at c.args.dialect c.args.operator c.records.names c.args.names width kept.numbers.items kept.fields kept.faults (left_of c.args.reader.now) inv.names c.len-width.ensures good faults

pub records-preserved : goal.records-preserved
records-preserved c =
    let inv = c.records.invariant in
    let more : c.in_ok-found.found ≡ true = c.if-not-found.false in
    let next = c.in_ok-found.ensures.next more in
    let f = fields_of c.read_next.new.row in
    let left = left_of c.read_next.new.reader in
    record {
      names = inv.names;
      stands = c.in_ok-found.ensures.stands more;
      holds = c.in_ok-keep.ensures.holds;
      good = good_step c.len-width.result c.records.number f left (left_of c.records.reader) _ _ _ next inv.good c.in_ok-keep.ensures.good;
      faults = faults_step c.args.operator c.len-width.result c.records.number f left (left_of c.records.reader) _ _ _ next inv.faults c.in_ok-keep.ensures.faults;
    }
