use Rattle.std.proofs.Common.{◌≡◌, ◌≤◌, ◌+◌, ◌++◌, ◌∷◌, [], ℕ, suc, List, Option, add-one, drop, length, map, take, sym, subst, ap, ◌∙◌, arith}
use Rattle.std.proofs.lemmas.List.{length_push}
use Rattle.std.specs.HashMap.{get}
use Rattle.tx_values.specs.declared.row.Row.{Row}
use Rattle.tx_values.specs.Keys.{same_key}
use Rattle.tx_joins.specs.Calls.Chains.{IsIndex, KeyAtoms, row_key}
use Rattle.tx_joins.proofs.Chains.{IsLast, is_last}
use Rattle.tx_joins.proofs.index.add_rows.Goals as goal

pub keys-preserved : goal.keys-preserved
keys-preserved c =
    let rows : List Row = c.args.rows.now in
    let keys : List (Option KeyAtoms) = c.pop.new.self.items in
    let n : ℕ = length keys in
    let popped : c.keys.keys.items ≡ keys ++ c.in-Some.key ∷ [] = c.in-Some.ensures.items in
    let last : IsLast c.args.column rows keys c.in-Some.key
    = is_last c.args.column rows keys c.in-Some.key
    (subst (λ (ks : List (Option KeyAtoms)). ks ≡ take (length ks) (map (row_key c.args.column) rows)) popped c.keys.invariant.front) in
    let count : c.len.result ≡ n = omega (arith, c.len.ensures, c.pop.new.self.ok.0) in
    let before : length c.keys.keys.items ≡ suc n = ap length popped ∙ length_push keys c.in-Some.key ∙ add-one n in
    let few : length c.keys.keys.items ≤ length rows = c.keys.invariant.within in
    let place : c.args.at + suc n ≡ (c.args.at + c.len.result) + 1 = omega (arith, count) in
    record {
      within = omega (arith, before, few);
      front = last.front;
      room = c.in_ok-add_key.ensures.same ∙ c.keys.invariant.room;
      held = λ behind index.
          let old : IsIndex c.args.column (get same_key c.keys.index.heads) c.keys.index.next.items (c.args.at + suc n) (drop (suc n) rows ++ behind)
          = subst (λ (m : ℕ). IsIndex c.args.column (get same_key c.keys.index.heads) c.keys.index.next.items (c.args.at + m) (drop m rows ++ behind))
          before (c.keys.invariant.held behind index) in
          let new : IsIndex c.args.column (get same_key c.add_key.new.index.heads) c.add_key.new.index.next.items (c.args.at + c.len.result) (last.row ∷ (drop (suc n) rows ++ behind))
          = c.in_ok-add_key.ensures.index c.args.column last.row (drop (suc n) rows ++ behind) last.is
          (subst (λ (m : ℕ). IsIndex c.args.column (get same_key c.keys.index.heads) c.keys.index.next.items m (drop (suc n) rows ++ behind)) place old) in
          let here : IsIndex c.args.column (get same_key c.add_key.new.index.heads) c.add_key.new.index.next.items (c.args.at + n) (last.row ∷ (drop (suc n) rows ++ behind))
          = subst (λ (m : ℕ). IsIndex c.args.column (get same_key c.add_key.new.index.heads) c.add_key.new.index.next.items (c.args.at + m) (last.row ∷ (drop (suc n) rows ++ behind)))
          count new in
          subst (λ (rs : List Row). IsIndex c.args.column (get same_key c.add_key.new.index.heads) c.add_key.new.index.next.items (c.args.at + n) (rs ++ behind))
          (sym last.rest) here;
    }
