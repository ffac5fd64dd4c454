use Rattle.std.proofs.Common.{◌≡◌, ◌++◌, ◌∷◌, [], List, Bool, true, false, if◌then◌else◌, append-nil, sym, ap, subst, ◌∙◌}
use Rattle.std.proofs.lemmas.Result.{on_ok_weaker}
use Rattle.tx_values.specs.declared.row.Row.{Row}
use Rattle.tx_joins.specs.FirstPlaces.{FirstPlace, was_seen}
use Rattle.tx_joins.specs.Calls.Seen.{AreSeen}
use Rattle.tx_joins.proofs.SeenRows.{new_of, seen-is, seen-more, seen_of}
use Rattle.tx_joins.proofs.firsts.add_new.Goals as goal

-- the row, where none ahead is equal to it
first_of : Row → Bool → List Row
first_of row known = if known then [] else row ∷ []

pub returns-else-is_new-clause-seen : goal.returns-else-is_new-clause-seen
returns-else-is_new-clause-seen c ahead are =
    subst (λ (ps : List FirstPlace). AreSeen ps (ahead ++ c.args.row.now ∷ [])) (sym c.in_ok-is_new.ensures.seen)
    (seen-more c.keys_follow_equality.ensures.same c.keys_follow_equality.ensures.equal c.args.row.now c.requires.keys c.args.key c.requires.key
    c.args.seen.now c.args.place ahead are)

pub returns-else-is_new-clause-kept : goal.returns-else-is_new-clause-kept
unfolding first_of
returns-else-is_new-clause-kept c ahead are =
    let known : was_seen c.args.seen.now c.args.key ≡ true
    = seen_of (was_seen c.args.seen.now c.args.key) (sym c.in_ok-is_new.ensures.is_new ∙ c.if-is_new.false) in
    let is = seen-is c.keys_follow_equality.ensures.same c.keys_follow_equality.ensures.equal c.args.row.now c.requires.keys c.args.key c.requires.key
    c.args.seen.now ahead are in
    sym (append-nil c.args.kept.now) ∙ ap (λ (b : Bool). c.args.kept.now ++ first_of c.args.row.now b) (sym known ∙ is)

pub returns-in_ok-copy_row-clause-seen : goal.returns-in_ok-copy_row-clause-seen
returns-in_ok-copy_row-clause-seen c ahead are =
    let more : AreSeen c.see.new.self (ahead ++ c.args.row.now ∷ [])
    = subst (λ (ps : List FirstPlace). AreSeen ps (ahead ++ c.args.row.now ∷ [])) (sym c.in_ok-is_new.ensures.seen)
    (seen-more c.keys_follow_equality.ensures.same c.keys_follow_equality.ensures.equal c.args.row.now c.requires.keys c.args.key c.requires.key
    c.args.seen.now c.args.place ahead are) in
    on_ok_weaker c.push.result (λ (h : c.push.new.self ≡ c.args.kept.now ++ c.in_ok-copy_row.field-0 ∷ []). more) c.push.ensures.ok

pub returns-in_ok-copy_row-clause-kept : goal.returns-in_ok-copy_row-clause-kept
unfolding first_of
returns-in_ok-copy_row-clause-kept c ahead are =
    let known : was_seen c.args.seen.now c.args.key ≡ false
    = new_of (was_seen c.args.seen.now c.args.key) (sym c.in_ok-is_new.ensures.is_new ∙ c.if-is_new.true) in
    let is = seen-is c.keys_follow_equality.ensures.same c.keys_follow_equality.ensures.equal c.args.row.now c.requires.keys c.args.key c.requires.key
    c.args.seen.now ahead are in
    on_ok_weaker c.push.result
    (λ (h : c.push.new.self ≡ c.args.kept.now ++ c.in_ok-copy_row.field-0 ∷ []).
    h ∙ ap (λ (r : Row). c.args.kept.now ++ r ∷ []) c.in_ok-copy_row.ensures
    ∙ ap (λ (b : Bool). c.args.kept.now ++ first_of c.args.row.now b) (sym known ∙ is))
    c.push.ensures.ok
