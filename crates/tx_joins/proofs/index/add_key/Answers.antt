use Rattle.std.proofs.Common.{◌≡◌, ◌∷◌, ℕ, List, Option, Some, cond, slice_set, subst, sym, ap, ◌∙◌}
use Rattle.std.specs.HashMap.{get}
use Rattle.tx_values.specs.Keys.{key_of, same_key}
use Rattle.tx_joins.specs.Join.{cell_of}
use Rattle.tx_joins.specs.Calls.Chains.{IsIndex, KeyAtoms}
use Rattle.tx_joins.proofs.Chains.{keyless-in-front, keyed-in-front, row_key-none, row_key-some}
use Rattle.tx_joins.proofs.index.add_key.Goals as goal

pub returns-in-None-clause-index : goal.returns-in-None-clause-index
returns-in-None-clause-index c column row rows told index =
    keyless-in-front column (get same_key c.args.index.now.heads) c.args.index.now.next.items c.args.place row rows
    (row_key-none column row (sym c.in-None.is ∙ told)) index

pub returns-in_ok-behind-in-Some-clause-index : goal.returns-in_ok-behind-in-Some-clause-index
returns-in_ok-behind-in-Some-clause-index c column row rows told index =
    let keyed = row_key-some column row c.in-Some.key (sym c.in-Some.is ∙ told) in
    let mine : c.in-Some.key ≡ key_of (cell_of column row) = keyed.1 in
    let updates = c.in_ok-behind-in-Some.ensures.updates in
    let old : c.in_ok-behind-in-Some.behind ≡ get same_key c.args.index.now.heads c.in-Some.key = c.in_ok-behind-in-Some.ensures.old in
    let stored : c.link.new.next.items ≡ slice_set c.args.index.now.next.items c.args.place (get same_key c.args.index.now.heads (key_of (cell_of column row)))
    = c.link.ensures ∙ ap (slice_set c.args.index.now.next.items c.args.place) (old ∙ ap (get same_key c.args.index.now.heads) mine) in
    let head : (key : KeyAtoms) → get same_key c.insert.new.self key
    ≡ cond (same_key (key_of (cell_of column row)) key) (Some c.args.place) (get same_key c.args.index.now.heads key)
    = λ key. updates.0 key ∙ ap (λ (k : KeyAtoms). cond (same_key k key) (Some c.args.place) (get same_key c.args.index.now.heads key)) mine in
    subst (λ (next : List (Option ℕ)). IsIndex column (get same_key c.insert.new.self) next c.args.place (row ∷ rows)) (sym stored)
    (keyed-in-front c.keys_follow_equality.ensures.same column (get same_key c.args.index.now.heads) (get same_key c.insert.new.self) c.args.index.now.next.items
    c.args.place row rows keyed.0 c.requires head index)
