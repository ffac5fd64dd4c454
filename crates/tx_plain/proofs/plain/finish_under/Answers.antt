use Rattle.std.proofs.Common.{◌≡◌, ◌+◌, IfOk, OnOk, Result, Ok, Err, ap, length, subst, ◌∙◌, arith}
use Rattle.tx_pipe.specs.Pipe.{pipe_of}
use Rattle.tx_pipe.specs.Lawful.{ends_once}
use Rattle.tx_plain.specs.declared.plain.Answer.{Answer}
use Rattle.tx_plain.specs.Pipeline.{all_made, evaluate, evaluations_of}
use Rattle.tx_plain.specs.Calls.Holding.{rows_stored}
use Rattle.tx_plain.proofs.Endings.{nodes_length}
use Rattle.tx_plain.proofs.Finishing.{end_part, last_answer, last_steps}
use Rattle.tx_plain.proofs.Uses.{ends_behind}
use Rattle.tx_plain.proofs.plain.finish_under.Goals as goal

pub run_output-requires-clause-end : goal.run_output-requires-clause-end
run_output-requires-clause-end g c =
    let same : length (pipe_of c.args.nodes.now) ≡ length c.args.nodes.now = nodes_length c.args.nodes.now in
    ap ends_once (end_part c.args.nodes.now c.args.at) ∙ ends_behind (pipe_of c.args.nodes.now) c.args.at (omega (arith, same, c.requires.within)) c.requires.lawful.last

pub returns-in_err-written-clause-most : goal.returns-in_err-written-clause-most
returns-in_err-written-clause-most g c sources start w = let sum = last_steps sources c.args.s.now c.args.nodes.now c.requires.lawful c.args.at start c.args.steps.now c.args.work.stored.items c.args.work.entries c.index-nodes-at.result c.requires.within c.index-nodes-at.is c.requires.run w (rows_stored c.take-taken.result) c.take-taken.ensures.taken in omega (arith, sum, c.run_output.ensures.most)

pub returns-clause-most : goal.returns-clause-most
returns-clause-most g c sources start w = let sum = last_steps sources c.args.s.now c.args.nodes.now c.requires.lawful c.args.at start c.args.steps.now c.args.work.stored.items c.args.work.entries c.index-nodes-at.result c.requires.within c.index-nodes-at.is c.requires.run w (rows_stored c.take-taken.result) c.take-taken.ensures.taken in omega (arith, sum, c.run_output.ensures.most)

on_ok_of : {X E : Type 0} (r : Result X E) (A : Type 0) → A → OnOk r A
on_ok_of (Ok x) A a = a
on_ok_of (Err e) A a = tt

pub returns-clause-answer : goal.returns-clause-answer
returns-clause-answer g c sources start w =
    subst (λ (t : Answer). IfOk c.answer_of.result (λ a. a ≡ t))
    (last_answer sources c.args.s.now c.args.nodes.now c.requires.lawful c.args.at start c.args.steps.now c.args.work.stored.items c.args.work.entries c.index-nodes-at.result c.requires.within c.index-nodes-at.is c.requires.run w (rows_stored c.take-taken.result) c.take-taken.ensures.taken c.args.header.now c.in_ok-written.written.bytes c.in_ok-written.written.rows c.run_output.new.entries c.requires.header
    c.in_ok-written.ensures.bytes c.in_ok-written.ensures.rows c.in_ok-written.ensures.entries)
    c.answer_of.ensures

pub returns-clause-steps : goal.returns-clause-steps
returns-clause-steps g c sources start w =
    on_ok_of c.answer_of.result (c.run_output.new.steps ≡ start + evaluations_of (all_made evaluate sources c.args.s.now (pipe_of c.args.nodes.now)))
    (c.in_ok-written.ensures.steps ∙ last_steps sources c.args.s.now c.args.nodes.now c.requires.lawful c.args.at start c.args.steps.now c.args.work.stored.items c.args.work.entries c.index-nodes-at.result c.requires.within c.index-nodes-at.is c.requires.run w (rows_stored c.take-taken.result) c.take-taken.ensures.taken)
