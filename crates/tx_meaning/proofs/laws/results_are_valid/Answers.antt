use Rattle.std.proofs.Common.{nat_eq}
use Rattle.tx_tree.specs.Words.{same_text}
use Rattle.tx_meaning.proofs.Validity.{Laws, validity}
use Rattle.tx_meaning.proofs.laws.results_are_valid.Goals as goal

pub returns : goal.returns
returns c =
    let equality = c.equality_is_an_equivalence.ensures in
    let methods = c.results_are_valid-2.ensures in
    let laws : Laws = record { valid = c.validity_goes_by_parts.ensures; symmetric = equality.symmetric; operators = c.results_are_valid.ensures; builtins = methods.builtins; methods = methods.methods; items = methods.iterate; walks = methods.walks } in
    record { names = validity laws same_text; slots = validity laws nat_eq }
