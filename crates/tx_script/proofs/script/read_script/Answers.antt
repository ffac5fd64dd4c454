use Rattle.std.proofs.Common.{rules, ◌≡◌, [], Ok, Err, None, map, IfOk, subst, sym, ap, ◌∙◌}
use Rattle.tx_tree.specs.Tree.{block_of}
use Rattle.tx_pipe.specs.Pipe.{pipe_of}
use Rattle.tx_script.specs.Checks.{text_fault, blocks_in}
use Rattle.tx_script.specs.Accepted.{AreRead, Accepted}
use Rattle.tx_script.specs.Calls.View.{entry_view}
use Rattle.tx_script.specs.Calls.Formed.{entries_behind}
use Rattle.tx_script.specs.Calls.Reading.{IsFaultOfText}
use Rattle.tx_script.proofs.RefusedFirst.{refused_blocks, refused_form, refused_links, accepted_answer, lawful_answer}
use Rattle.tx_script.proofs.script.read_script.Goals as goal

pub returns-in_err-blocks-clause-fault : goal.returns-in_err-blocks-clause-fault
returns-in_err-blocks-clause-fault c = λ f h.
    refused_blocks c.args.own.now c.args.b.now f (subst (λ b. IsFaultOfText b f) c.as_slice.ensures (c.in_err-blocks.ensures.fault f (search rules)))

pub returns-in_err-entries-clause-fault : goal.returns-in_err-entries-clause-fault
returns-in_err-entries-clause-fault c = λ f h.
    refused_form c.args.own.now c.args.b.now (map block_of c.in_ok-blocks.blocks) f
    (subst (λ b. text_fault b ≡ None) c.as_slice.ensures c.in_ok-blocks.ensures.none)
    (subst (λ b. AreRead (blocks_in b) (map block_of c.in_ok-blocks.blocks) None) c.as_slice.ensures c.in_ok-blocks.ensures.read)
    (subst (λ l. entries_behind [] (map block_of l) ≡ Err f) c.as_slice-2.ensures (c.in_err-entries.ensures.fault f (search rules)))

pub returns : goal.returns
returns c =
    let none : text_fault c.args.b.now ≡ None = subst (λ b. text_fault b ≡ None) c.as_slice.ensures c.in_ok-blocks.ensures.none in
    let read : AreRead (blocks_in c.args.b.now) (map block_of c.as_slice-3.result.now) None =
    subst (λ l. AreRead (blocks_in c.args.b.now) (map block_of l) None) (sym c.as_slice-3.ensures)
    (subst (λ b. AreRead (blocks_in b) (map block_of c.in_ok-blocks.blocks) None) c.as_slice.ensures c.in_ok-blocks.ensures.read) in
    let formed : entries_behind [] (map block_of c.as_slice-3.result.now) ≡ Ok (map entry_view c.as_slice-4.result.now) =
    ap (λ l. entries_behind [] (map block_of l)) (c.as_slice-3.ensures ∙ sym c.as_slice-2.ensures) ∙ c.in_ok-entries.ensures.ok ∙ ap (λ l. Ok (map entry_view l)) (sym c.as_slice-4.ensures) in
    let accepted : IfOk c.pipe_of_links.result (λ p. Accepted c.args.own.now c.args.b.now (pipe_of p)) =
    accepted_answer pipe_of c.pipe_of_links.result c.args.own.now c.args.b.now (map block_of c.as_slice-3.result.now) (map entry_view c.as_slice-4.result.now)
    none read formed c.pipe_of_links.ensures.passes c.pipe_of_links.ensures.linked in
    record {
      pipe = accepted;
      lawful = lawful_answer pipe_of c.pipe_of_links.result c.args.own.now c.args.b.now c.accepted_pipes_are_lawful.ensures accepted;
      fault = λ f h. refused_links c.args.own.now c.args.b.now (map block_of c.as_slice-3.result.now) (map entry_view c.as_slice-4.result.now) f none read formed (c.pipe_of_links.ensures.fault f h);
    }
