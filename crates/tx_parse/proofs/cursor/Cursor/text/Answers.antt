use Rattle.std.proofs.Common.{sym}
use Rattle.tx_parse.proofs.Options.{on_ok}
use Rattle.tx_parse.proofs.Fronts.{name_in_front}
use Rattle.tx_parse.proofs.cursor.Cursor.text.Goals as goal

pub returns-in-Some-clause-named : goal.returns-in-Some-clause-named
returns-in-Some-clause-named c = on_ok _ (name_in_front _ _ (sym c.self.view_is))
