use Rattle.std.proofs.Common.{◌≡◌, take}
use Rattle.tx_report.specs.Report.{report_text}
use Rattle.tx_report.proofs.report.Entries.text.Given as goal

abbrev pub invariant-entries : goal.invariant-entries
invariant-entries l = l.text ≡ report_text l.kinds (take l.entry-index l.self)
