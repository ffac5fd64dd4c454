use Rattle.std.proofs.Common.{◌≡◌, ◌++◌, [], map, drop, nat_eq, Ok}
use Rattle.tx_values.specs.Answer.{◌>>=◌}
use Rattle.tx_names.specs.View.{exprs, pairs, comparisons, statements, arms, target_of, expr_of, statement_of, operand_of, pair_of, arm_of}
use Rattle.tx_meaning.specs.Maps.{row_of}
use Rattle.tx_meaning.specs.Meaning.{means_each, means_pairs, means_chain, means_and, means_or, runs, runs_all, turns}
use Rattle.tx_interp.specs.Frames.{map_of, value_in, adds_all, chooses_from}
use Rattle.tx_interp.specs.Weighed.{IsGrowing}
use Rattle.tx_interp.proofs.eval.+eval.Given as goal

abbrev pub invariant-make_each-loop-e : goal.invariant-make_each-loop-e
invariant-make_each-loop-e l = (means_each nat_eq (exprs (map expr_of (drop l.e-index l.es))) (row_of l.names l.cells) (map_of l.frame.items) >>= (λ vs. Ok (l.out ++ vs))) ≡ means_each nat_eq (exprs (map expr_of l.es)) (row_of l.names l.cells) (map_of l.frame.items)

abbrev pub invariant-make_pairs-loop-p : goal.invariant-make_pairs-loop-p
invariant-make_pairs-loop-p l = (means_pairs nat_eq (pairs (map pair_of (drop l.p-index l.ps))) (row_of l.names l.cells) (map_of l.frame.items) >>= (λ vs. Ok (l.out ++ vs))) ≡ means_pairs nat_eq (pairs (map pair_of l.ps)) (row_of l.names l.cells) (map_of l.frame.items)

abbrev pub invariant-chain-loop-o : goal.invariant-chain-loop-o
invariant-chain-loop-o l = means_chain nat_eq (comparisons (map operand_of (drop l.o-index l.os))) (value_in l.x) (row_of l.names l.cells) (map_of l.frame.items) ≡ means_chain nat_eq (comparisons (map operand_of l.os)) (value_in l.fn.first) (row_of l.names l.cells) (map_of l.frame.items)

abbrev pub invariant-conjoin-loop-e : goal.invariant-conjoin-loop-e
invariant-conjoin-loop-e l = means_and nat_eq (exprs (map expr_of (drop l.e-index l.es))) (value_in l.x) (row_of l.names l.cells) (map_of l.frame.items) ≡ means_and nat_eq (exprs (map expr_of l.es)) (value_in l.fn.first) (row_of l.names l.cells) (map_of l.frame.items)

abbrev pub invariant-disjoin-loop-e : goal.invariant-disjoin-loop-e
invariant-disjoin-loop-e l = means_or nat_eq (exprs (map expr_of (drop l.e-index l.es))) (value_in l.x) (row_of l.names l.cells) (map_of l.frame.items) ≡ means_or nat_eq (exprs (map expr_of l.es)) (value_in l.fn.first) (row_of l.names l.cells) (map_of l.frame.items)

abbrev pub invariant-comprehend-loop-item : goal.invariant-comprehend-loop-item
invariant-comprehend-loop-item l = (adds_all (expr_of l.e) (row_of l.names l.cells) l.out.items (drop l.item-index l.item-items) (map_of l.frame.items) ≡ adds_all (expr_of l.e) (row_of l.names l.cells) [] l.item-items (map_of l.frame.items)) × IsGrowing l.out.items l.out.weight

abbrev pub invariant-run_all-loop-s : goal.invariant-run_all-loop-s
invariant-run_all-loop-s l = runs_all nat_eq (statements (map statement_of (drop l.s-index l.body))) (row_of l.names l.cells) (map_of l.frame.items) ≡ runs_all nat_eq (statements (map statement_of l.body)) (row_of l.names l.cells) (map_of l.fn.frame.items)

abbrev pub invariant-choose-loop-arm : goal.invariant-choose-loop-arm
invariant-choose-loop-arm l = chooses_from (statement_of l.s) (arms (map arm_of (drop l.arm-index l.arm-items))) (row_of l.names l.cells) (map_of l.frame.items) ≡ runs nat_eq (statement_of l.s) (row_of l.names l.cells) (map_of l.fn.frame.items)

abbrev pub invariant-run_turns-loop-item : goal.invariant-run_turns-loop-item
invariant-run_turns-loop-item l = turns nat_eq (runs_all nat_eq (statements (map statement_of l.body)) (row_of l.names l.cells)) (target_of l.target) (drop l.item-index l.items) (map_of l.frame.items) ≡ turns nat_eq (runs_all nat_eq (statements (map statement_of l.body)) (row_of l.names l.cells)) (target_of l.target) l.items (map_of l.fn.frame.items)
