use Rattle.tx_methods.proofs.ValidBuiltins.{builtins_valid}
use Rattle.tx_methods.proofs.ValidItems.{iterate_valid, walks_valid}
use Rattle.tx_methods.proofs.ValidMethods.{methods_valid}
use Rattle.tx_methods.proofs.laws.results_are_valid.Goals as goal

pub returns : goal.returns
returns c =
    let law = c.validity_goes_by_parts.ensures in
    let range = c.ranges_stop_before_the_end.ensures in
    record {
      builtins = builtins_valid law;
      methods = methods_valid law c.parts_are_less.ensures c.places_are_least_and_greatest.ensures;
      iterate = iterate_valid law;
      walks = walks_valid law range.end range.items;
    }
