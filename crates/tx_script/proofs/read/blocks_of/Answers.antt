use Rattle.std.proofs.Common.{◌≡◌, ◌∙◌, None, Some, map, IfOk, subst, inr}
use Rattle.tx_tree.specs.Tree.{block_of}
use Rattle.tx_script.specs.Checks.{blocks_in}
use Rattle.tx_script.specs.Accepted.{AreRead}
use Rattle.tx_script.specs.Calls.Reading.{parts_of}
use Rattle.tx_script.proofs.CoverBlocks.{parts_in, are_within}
use Rattle.tx_script.proofs.read.blocks_of.Goals as goal

pub read_blocks-requires : goal.read_blocks-requires
read_blocks-requires c = are_within c.blocks_cover_the_tokens.ensures c.in_ok-list.list c.as_slice.result.now (c.as_slice.ensures ∙ c.in_ok-spans.ensures)

pub returns-clause-read : goal.returns-clause-read
returns-clause-read c =
    let e : parts_of c.in_ok-list.list c.as_slice.result.now ≡ blocks_in c.args.bytes.now =
    parts_in c.args.bytes.now c.in_ok-list.list c.as_slice.result.now c.in_ok-list.ensures.none c.in_ok-list.ensures.tokens (c.as_slice.ensures ∙ c.in_ok-spans.ensures) in
    subst (λ p. IfOk c.read_blocks.result (λ bs. AreRead p (map block_of bs) None)) e c.read_blocks.ensures.ok

pub returns-clause-fault : goal.returns-clause-fault
returns-clause-fault c = λ f h.
    let e : parts_of c.in_ok-list.list c.as_slice.result.now ≡ blocks_in c.args.bytes.now =
    parts_in c.args.bytes.now c.in_ok-list.list c.as_slice.result.now c.in_ok-list.ensures.none c.in_ok-list.ensures.tokens (c.as_slice.ensures ∙ c.in_ok-spans.ensures) in
    let g = c.read_blocks.ensures.fault f h in
    inr (record { none = c.in_ok-list.ensures.none; blocks = g.0; read = subst (λ p. AreRead p g.0 (Some f)) e g.1 })
