use Rattle.std.proofs.Common.{◌≡◌, ◌++◌, take}
use Rattle.tx_report.specs.Report.{further_text}
use Rattle.tx_report.proofs.report.push_further.Given as goal

abbrev pub invariant-marks : goal.invariant-marks
invariant-marks l = l.text ≡ l.fn.text ++ further_text (take l.mark-index l.marks)
