-- The pipe of an accepted script is lawful.
use Rattle.tx_script.specs.Laws.{LawfulLaw}
use Rattle.tx_script.proofs.LawfulPartsPipe.{parts_few, parts_forms, parts_functions, parts_handlers}
use Rattle.tx_script.proofs.LawfulShape.{shape_some, shape_inputs, shape_once, shape_last}

pub lawful_law : LawfulLaw
lawful_law own bytes pipe a = record {
  some = shape_some own bytes pipe a;
  few = parts_few own bytes pipe a;
  forms = parts_forms own bytes pipe a;
  inputs = shape_inputs own bytes pipe a;
  once = shape_once own bytes pipe a;
  last = shape_last own bytes pipe a;
  functions = parts_functions own bytes pipe a;
  handlers = parts_handlers own bytes pipe a;
}
