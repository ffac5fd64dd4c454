use Rattle.std.proofs.Common.{◌≡◌, ◌+◌, ◌*◌, ◌-◌, ◌<◌, ◌≤◌, length, map, []}
use Rattle.tx_tree.specs.Tree.{tree_of, trees, pair_of, pair_trees, operand_of, operands}
use Rattle.tx_tree.specs.Depth.{depth, depth_each, depth_pairs, depth_operands}
use Rattle.tx_parse.specs.declared.symbol.Symbol.TheVariants as symbol
use Rattle.tx_parse.specs.declared.place.Place.TheVariants as place
use Rattle.tx_tree.specs.declared.symbol.Mark.TheVariants as sign
use Rattle.tx_parse.specs.Calls.Reader.{give, and_read, read, at_place, tighter, joined_tree, compared_tree, joints, joining, comparisons, a_comparison, operations, leaning, posts, postfix, more_items, items_behind, pair}
use Rattle.tx_parse.proofs.Ranks.{rank}
use Rattle.tx_parse.proofs.expr.+expr.Given as goal

abbrev pub decreases-expr : goal.decreases-expr
decreases-expr l = 32 * l.left

abbrev pub decreases-at_place : goal.decreases-at_place
decreases-at_place l = 32 * l.left + (2 * rank l.place + 7)

abbrev pub decreases-choosing : goal.decreases-choosing
decreases-choosing l = 32 * l.left + 24

abbrev pub decreases-joining : goal.decreases-joining
decreases-joining l = 32 * l.left + (2 * rank l.place + 6)

abbrev pub decreases-negating : goal.decreases-negating
decreases-negating l = 32 * l.left + 18

abbrev pub decreases-comparing : goal.decreases-comparing
decreases-comparing l = 32 * l.left + 16

abbrev pub decreases-leaning : goal.decreases-leaning
decreases-leaning l = 32 * l.left + (2 * rank l.place + 6)

abbrev pub decreases-signed : goal.decreases-signed
decreases-signed l = 32 * l.left + 10

abbrev pub decreases-postfix : goal.decreases-postfix
decreases-postfix l = 32 * l.left + 8

abbrev pub decreases-post : goal.decreases-post
decreases-post l = 32 * l.left + 5

abbrev pub decreases-method : goal.decreases-method
decreases-method l = 32 * l.left + 4

abbrev pub decreases-subscript : goal.decreases-subscript
decreases-subscript l = 32 * l.left + 4

abbrev pub decreases-bound : goal.decreases-bound
decreases-bound l = 32 * l.left + 1

abbrev pub decreases-atom : goal.decreases-atom
decreases-atom l = 32 * l.left + 6

abbrev pub decreases-name : goal.decreases-name
decreases-name l = 32 * l.left + 4

abbrev pub decreases-bracket : goal.decreases-bracket
decreases-bracket l = 32 * l.left + 5

abbrev pub decreases-args : goal.decreases-args
decreases-args l = 32 * l.left + 3

abbrev pub decreases-items_behind : goal.decreases-items_behind
decreases-items_behind l = 32 * l.left + 1

abbrev pub decreases-square : goal.decreases-square
decreases-square l = 32 * l.left + 4

abbrev pub decreases-comprehension : goal.decreases-comprehension
decreases-comprehension l = 32 * l.left + 3

abbrev pub decreases-condition : goal.decreases-condition
decreases-condition l = 32 * l.left + 1

abbrev pub decreases-brace : goal.decreases-brace
decreases-brace l = 32 * l.left + 4

abbrev pub decreases-pairs : goal.decreases-pairs
decreases-pairs l = 32 * l.left + 3

abbrev pub decreases-pair : goal.decreases-pair
decreases-pair l = 32 * l.left + 1

abbrev pub invariant-joining-loop-turn : goal.invariant-joining-loop-turn
invariant-joining-loop-turn l = record {
  bound : l._turn ≤ l.most;
  same : and_read (joints l.left (read l.left) l.place (tree_of l.first) (l.most - l._turn) (map tree_of l.others) l.cursor) (λ es. give (joined_tree l.place l.line (tree_of l.first) es)) ≡ joining l.left (read l.left) l.place (at_place l.left (read l.left) (tighter l.place)) l.fn.cursor;
  deep : depth_each (trees (map tree_of l.others)) ≡ l.deep;
  low : l.deep ≤ l.left;
  known : depth (tree_of l.first) ≡ l.first_deep;
  tested : 0 < length l.others → l.first_deep ≤ l.left;
}

abbrev pub invariant-comparing-loop-turn : goal.invariant-comparing-loop-turn
invariant-comparing-loop-turn l = record {
  bound : l._turn ≤ l.most;
  same : and_read (comparisons l.left (read l.left) (tree_of l.first) (l.most - l._turn) (map operand_of l.others) l.cursor) (λ os. give (compared_tree l.line (tree_of l.first) os)) ≡ a_comparison l.left (read l.left) l.fn.cursor;
  deep : depth_operands (operands (map operand_of l.others)) ≡ l.deep;
  low : l.deep ≤ l.left;
  known : depth (tree_of l.first) ≡ l.first_deep;
  tested : 0 < length l.others → l.first_deep ≤ l.left;
}

abbrev pub invariant-leaning-loop-turn : goal.invariant-leaning-loop-turn
invariant-leaning-loop-turn l = record {
  bound : l._turn ≤ l.most;
  same : operations l.left (read l.left) l.place (l.most - l._turn) l.line (tree_of l.first) l.cursor ≡ leaning l.left (read l.left) l.place (at_place l.left (read l.left) (tighter l.place)) l.fn.cursor;
  deep : depth (tree_of l.first) ≡ l.deep;
  low : l.deep ≤ l.left + 1;
}

abbrev pub invariant-postfix-loop-turn : goal.invariant-postfix-loop-turn
invariant-postfix-loop-turn l = record {
  bound : l._turn ≤ l.most;
  same : posts l.left (read l.left) (l.most - l._turn) l.line (tree_of l.first) l.cursor ≡ postfix l.left (read l.left) l.fn.cursor;
  deep : depth (tree_of l.first) ≡ l.deep;
  low : l.deep ≤ l.left + 1;
}

abbrev pub invariant-items_behind-loop-turn : goal.invariant-items_behind-loop-turn
invariant-items_behind-loop-turn l = record {
  bound : l._turn ≤ l.most;
  same : more_items (read l.left place.Test) l.end (l.most - l._turn) (map tree_of l.items) l.cursor ≡ items_behind (read l.left place.Test) l.end (tree_of l.fn.first) l.fn.cursor;
  deep : depth_each (trees (map tree_of l.items)) ≡ l.deep;
  low : l.deep ≤ l.left;
}

abbrev pub invariant-pairs-loop-turn : goal.invariant-pairs-loop-turn
invariant-pairs-loop-turn l = record {
  bound : l._turn ≤ l.most;
  same : more_items (pair l.left (read l.left)) (symbol.Mark sign.CloseBrace) (l.most - l._turn) (map pair_of l.done) l.cursor ≡ and_read (pair l.left (read l.left) l.fn.cursor) (items_behind (pair l.left (read l.left)) (symbol.Mark sign.CloseBrace));
  deep : depth_pairs (pair_trees (map pair_of l.done)) ≡ l.deep;
  low : l.deep ≤ l.left;
}
