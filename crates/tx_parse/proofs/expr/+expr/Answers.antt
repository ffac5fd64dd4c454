use Rattle.std.proofs.Common.{◌≡◌, ◌∙◌, rules, sym, ap, arith, max, true, false, [], ◌∷◌, ◌++◌, map, Some, None}
use Rattle.std.proofs.lemmas.List.{map-append}
use Rattle.std.proofs.lemmas.Result.{IfOk-weaker}
use Rattle.tx_tree.specs.declared.symbol.Mark.TheVariants as sign
use Rattle.tx_tree.specs.Tree.{Tree, tree_of, operand_of, binary}
use Rattle.tx_parse.specs.declared.symbol.Symbol.TheVariants as symbol
use Rattle.tx_parse.specs.declared.place.Place.TheVariants as place
use Rattle.tx_parse.specs.Calls.Front.{at, rest_of, compare_at, behind_op}
use Rattle.tx_parse.specs.Calls.Reader.{read, tighter, joint, op_at, may_compare, trails, post}
use Rattle.tx_parse.proofs.Loops.{leaning_deep, leaning_step, postfix_deep, postfix_step, joining_deep, joining_none, joining_step, joining_end, comparing_deep, comparing_refused, comparing_step, one_deeper, one_operand, operator_depth}
use Rattle.tx_parse.proofs.expr.+expr.Goals as goal

pub comparing-returns-then-first_deep-left-clause-none :
    goal.comparing-returns-then-first_deep-left-clause-none
comparing-returns-then-first_deep-left-clause-none t c = λ _.
    let i = c.loop-turn.invariant in
    let e : compare_at c.loop-turn.cursor ≡ Some c.in-Some.op = search rules in
    comparing_deep c.args.left (read c.args.left) c.left-most.result c.loop-turn._turn c.loop-turn.cursor _ c.in_ok-first.first_deep _ (map operand_of c.loop-turn.others) _ c.in-Some.op i.same c.loop-turn-test.true e i.known c.if-first_deep-left.true

pub comparing-returns-in_err-add_operand-clause-none :
    goal.comparing-returns-in_err-add_operand-clause-none
comparing-returns-in_err-add_operand-clause-none t c = λ h.
    let i = c.loop-turn.invariant in
    let e : compare_at c.loop-turn.cursor ≡ Some c.in-Some.op = search rules in
    let f : read c.args.left place.Sum (behind_op c.in-Some.op c.loop-turn.cursor) ≡ Some (tree_of c.in_ok-right.right, c.expr.new.cursor) = search rules in
    let g : may_compare c.in-Some.op (tree_of c.in_ok-right.right) ≡ false = c.in_err-add_operand.ensures.none (search rules) in
    comparing_refused c.args.left (read c.args.left) c.left-most.result c.loop-turn._turn c.loop-turn.cursor _ c.in_ok-first.first_deep _ (map operand_of c.loop-turn.others) _ c.in-Some.op i.same c.loop-turn-test.true e i.known (tree_of c.in_ok-right.right) c.expr.new.cursor c.if-first_deep-left.false f g

pub comparing-loop-turn-preserved : goal.comparing-loop-turn-preserved
comparing-loop-turn-preserved t c =
    let i = c.loop-turn.invariant in
    let e : compare_at c.loop-turn.cursor ≡ Some c.in-Some.op = search rules in
    let f : read c.args.left place.Sum (behind_op c.in-Some.op c.loop-turn.cursor) ≡ Some (tree_of c.in_ok-right.right, c.expr.new.cursor) = search rules in
    record {
      bound = omega arith;
      same = comparing_step c.args.left (read c.args.left) c.left-most.result c.loop-turn._turn c.loop-turn.cursor _ c.in_ok-first.first_deep _ (map operand_of c.loop-turn.others) _ c.in-Some.op i.same c.loop-turn-test.true e i.known (tree_of c.in_ok-right.right) (map operand_of c.add_operand.new.others) c.expr.new.cursor c.if-first_deep-left.false f c.in_ok-add_operand.ensures.may c.in_ok-add_operand.ensures.added;
      deep = one_operand (map operand_of c.loop-turn.others) (map operand_of c.add_operand.new.others) c.in-Some.op (tree_of c.in_ok-right.right) c.loop-turn.deep c.in_ok-right.next_deep c.max-deep.result c.in_ok-add_operand.ensures.added i.deep c.in_ok-right.ensures.deep c.max-deep.ensures;
      low = omega (arith, c.in_ok-right.ensures.low, i.low, c.max-deep.ensures);
      known = i.known;
      tested = λ _. c.if-first_deep-left.false;
    }

pub joining-returns-then-first_deep-left-clause-none :
    goal.joining-returns-then-first_deep-left-clause-none
joining-returns-then-first_deep-left-clause-none t c = λ _.
    let i = c.loop-turn.invariant in
    let e : at (joint c.args.place) c.loop-turn.cursor ≡ true = search rules in
    joining_deep c.args.left (read c.args.left) c.left-most.result c.loop-turn._turn c.loop-turn.cursor _ c.in_ok-first.first_deep c.args.place _ (map tree_of c.loop-turn.others) _ i.same c.loop-turn-test.true e i.known c.if-first_deep-left.true

pub joining-returns-in_err-next-clause-none : goal.joining-returns-in_err-next-clause-none
joining-returns-in_err-next-clause-none t c = λ h.
    let i = c.loop-turn.invariant in
    let e : at (joint c.args.place) c.loop-turn.cursor ≡ true = search rules in
    let g : read c.args.left c.tighter-in-loop-turn.result c.advance.new.self ≡ None = c.in_err-next.ensures.none (search rules) in
    let f : read c.args.left (tighter c.args.place) (rest_of c.loop-turn.cursor) ≡ None = search (rules, g) in
    joining_none c.args.left (read c.args.left) c.left-most.result c.loop-turn._turn c.loop-turn.cursor _ c.in_ok-first.first_deep c.args.place _ (map tree_of c.loop-turn.others) _ i.same c.loop-turn-test.true e i.known c.if-first_deep-left.false f

pub joining-loop-turn-preserved : goal.joining-loop-turn-preserved
joining-loop-turn-preserved t c =
    let i = c.loop-turn.invariant in
    let e : at (joint c.args.place) c.loop-turn.cursor ≡ true = search rules in
    let f : read c.args.left (tighter c.args.place) (rest_of c.loop-turn.cursor) ≡ Some (tree_of c.in_ok-next.next, c.expr.new.cursor) = search rules in
    let q : c.push.new.self ≡ c.loop-turn.others ++ c.in_ok-next.next ∷ [] = search rules in
    let k : map tree_of c.push.new.self ≡ map tree_of c.loop-turn.others ++ tree_of c.in_ok-next.next ∷ [] = ap (map tree_of) q ∙ map-append tree_of c.loop-turn.others (c.in_ok-next.next ∷ []) in
    record {
      bound = omega arith;
      same = joining_step c.args.left (read c.args.left) c.left-most.result c.loop-turn._turn c.loop-turn.cursor _ c.in_ok-first.first_deep c.args.place _ (map tree_of c.loop-turn.others) _ i.same c.loop-turn-test.true e i.known (tree_of c.in_ok-next.next) (map tree_of c.push.new.self) c.expr.new.cursor c.if-first_deep-left.false f k;
      deep = one_deeper (map tree_of c.loop-turn.others) (map tree_of c.push.new.self) (tree_of c.in_ok-next.next) c.loop-turn.deep c.in_ok-next.next_deep c.max-deep.result k i.deep c.in_ok-next.ensures.deep c.max-deep.ensures;
      low = omega (arith, c.in_ok-next.ensures.low, i.low, c.max-deep.ensures);
      known = i.known;
      tested = λ _. c.if-first_deep-left.false;
    }

pub joining-returns-clause-ok : goal.joining-returns-clause-ok
joining-returns-clause-ok t c =
    let i = c.loop-turn.invariant in
    IfOk-weaker c.joined-2.result _ _
    (λ e h. joining_end c.args.left (read c.args.left) c.left-most.result c.loop-turn._turn c.loop-turn.cursor _ c.in_ok-first.first_deep c.args.place _ (map tree_of c.loop-turn.others) _ i.same c.loop-turn-test.false ∙ ap (λ (z : Tree). Some (z, c.loop-turn.cursor)) (sym h))
    c.joined-2.ensures.ok

pub leaning-returns-then-deep-left-clause-none : goal.leaning-returns-then-deep-left-clause-none
leaning-returns-then-deep-left-clause-none t c = λ _.
    let i = c.loop-turn.invariant in
    let e : op_at c.args.place c.loop-turn.cursor ≡ Some c.in-Some.op = search rules in
    leaning_deep c.args.left (read c.args.left) c.left-most.result c.loop-turn._turn c.loop-turn.cursor _ c.loop-turn.deep c.args.place c.line-line.result (tree_of c.loop-turn.first) c.in-Some.op i.same c.loop-turn-test.true e i.deep c.if-deep-left.true

pub leaning-loop-turn-preserved : goal.leaning-loop-turn-preserved
leaning-loop-turn-preserved t c =
    let i = c.loop-turn.invariant in
    let e : op_at c.args.place c.loop-turn.cursor ≡ Some c.in-Some.op = search rules in
    let f : read c.args.left (tighter c.args.place) (rest_of c.loop-turn.cursor) ≡ Some (tree_of c.in_ok-right.right, c.expr.new.cursor) = search rules in
    let g : tree_of c.in_ok-first-2.first ≡ binary c.line-line.result (tree_of c.loop-turn.first) c.in-Some.op (tree_of c.in_ok-right.right) = c.in_ok-first-2.ensures.ok in
    record {
      bound = omega arith;
      same = leaning_step c.args.left (read c.args.left) c.left-most.result c.loop-turn._turn c.loop-turn.cursor _ c.loop-turn.deep c.args.place c.line-line.result (tree_of c.loop-turn.first) c.in-Some.op i.same c.loop-turn-test.true e i.deep (tree_of c.in_ok-right.right) (tree_of c.in_ok-first-2.first) c.expr.new.cursor c.if-deep-left.false f g;
      deep = operator_depth c.line-line.result (tree_of c.loop-turn.first) c.in-Some.op (tree_of c.in_ok-right.right) (tree_of c.in_ok-first-2.first) c.loop-turn.deep c.in_ok-right.right_deep c.max-deep.result g i.deep c.in_ok-right.ensures.deep c.max-deep.ensures;
      low = omega (arith, c.in_ok-right.ensures.low, c.if-deep-left.false, c.max-deep.ensures);
    }

pub postfix-returns-then-deep-left-clause-none : goal.postfix-returns-then-deep-left-clause-none
postfix-returns-then-deep-left-clause-none t c = λ _.
    let i = c.loop-turn.invariant in
    let e : trails c.loop-turn.cursor ≡ true = search rules in
    postfix_deep c.args.left (read c.args.left) c.left-most.result c.loop-turn._turn c.loop-turn.cursor _ c.loop-turn.deep c.line-line.result (tree_of c.loop-turn.first) i.same c.loop-turn-test.true e i.deep c.if-deep-left.true

pub postfix-loop-turn-preserved : goal.postfix-loop-turn-preserved
postfix-loop-turn-preserved t c =
    let i = c.loop-turn.invariant in
    let e : trails c.loop-turn.cursor ≡ true = search rules in
    let f : post c.args.left (read c.args.left) c.at-dot.result c.line-line.result (tree_of c.loop-turn.first) (rest_of c.loop-turn.cursor) ≡ Some (tree_of c.in_ok-next.next, c.post.new.cursor) = search rules in
    record {
      bound = omega arith;
      same = postfix_step c.args.left (read c.args.left) c.left-most.result c.loop-turn._turn c.loop-turn.cursor _ c.loop-turn.deep c.line-line.result (tree_of c.loop-turn.first) i.same c.loop-turn-test.true e i.deep c.at-dot.result (tree_of c.in_ok-next.next) c.post.new.cursor c.if-deep-left.false (sym c.at-dot.ensures) f;
      deep = c.in_ok-next.ensures.deep;
      low = c.in_ok-next.ensures.low;
    }
