use Rattle.std.proofs.Common.{ap, ◌∙◌}
use Rattle.tx_tree.specs.Tree.{block_of}
use Rattle.tx_names.specs.Faults.{first_some}
use Rattle.tx_script.specs.Checks.{misused}
use Rattle.tx_script.proofs.uses.use_of.Goals as goal

pub returns : goal.returns
returns c = record {
  counts = λ behind counted. c.in_ok-add_entry.ensures _ counted;
  tells = λ behind counted is.
      c.first_of.ensures
      ∙ ap (λ o. first_some o c.args.found) (c.misused-misuse.ensures behind counted)
      ∙ ap (λ o. first_some (misused (block_of c.args.entry.now.block.now) behind) o) is;
}
