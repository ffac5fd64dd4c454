use Rattle.std.proofs.Common.{◌≡◌, drop}
use Rattle.tx_methods.specs.Calls.{stands}
use Rattle.tx_methods.specs.TextMethods.{some_fits}
use Rattle.tx_methods.proofs.fits.some_stands.Given as goal

abbrev pub invariant-loop-item : goal.invariant-loop-item
invariant-loop-item l = some_fits (stands l.at_end l.text) (drop l.item-index l.items) ≡ some_fits (stands l.at_end l.text) l.items
