use Rattle.std.proofs.Common.{◌≡◌, ◌++◌, ℕ, Bool, true, false, List, ◌∷◌, [], Option, if◌then◌else◌, length, unwrap_or, not, sym, ap, subst, ◌∙◌}
use Rattle.std.proofs.lemmas.Map.Made.{is_some-lookup}
use Rattle.tx_values.specs.Keys.{same_key}
use Rattle.tx_joins.specs.FirstPlaces.{FirstPlace, number_of_key, seen_at, was_seen}
use Rattle.indexmap.proofs.CallerLemmas.{insert_entry-new}
use Rattle.tx_joins.proofs.SeenRows.{none_of}
use Rattle.tx_joins.proofs.first_places.FirstPlaces.see.Goals as goal

pub returns-in-Some-clause-seen : goal.returns-in-Some-clause-seen
returns-in-Some-clause-seen c =
    let there : was_seen c.self.inside.places.entries c.args.key ≡ true
    = sym (is_some-lookup (same_key c.args.key) c.self.inside.places.entries) ∙ sym c.in-Some.ensures.found in
    let known : was_seen c.args.self.now c.args.key ≡ true = subst (λ (es : List FirstPlace). was_seen es c.args.key ≡ true) c.self.view_is there in
    ap (λ (b : Bool). if b then c.args.self.now else c.args.self.now ++ (c.args.key, c.args.place) ∷ []) (sym known)

pub returns-in_ok-insert-in-None-clause-seen : goal.returns-in_ok-insert-in-None-clause-seen
returns-in_ok-insert-in-None-clause-seen c =
    let missing : was_seen c.self.inside.places.entries c.args.key ≡ false
    = sym (is_some-lookup (same_key c.args.key) c.self.inside.places.entries) ∙ sym c.in-None.ensures.found in
    let new : c.insert.new.self.entries ≡ c.self.inside.places.entries ++ (c.args.key, c.args.place) ∷ []
    = c.in_ok-insert-in-None.ensures.entries
    ∙ insert_entry-new same_key c.self.inside.places c.args.key c.args.place (none_of _ c.in-None.ensures.found) in
    let whole : c.insert.new.self.entries ≡ seen_at c.self.inside.places.entries c.args.key c.args.place
    = new ∙ ap (λ (b : Bool). if b then c.self.inside.places.entries else c.self.inside.places.entries ++ (c.args.key, c.args.place) ∷ []) (sym missing) in
    subst (λ (es : List FirstPlace). c.insert.new.self.entries ≡ seen_at es c.args.key c.args.place) c.self.view_is whole

pub returns-in-Some-clause-is_new : goal.returns-in-Some-clause-is_new
returns-in-Some-clause-is_new c =
    let there : was_seen c.self.inside.places.entries c.args.key ≡ true
    = sym (is_some-lookup (same_key c.args.key) c.self.inside.places.entries) ∙ sym c.in-Some.ensures.found in
    subst (λ (es : List FirstPlace). false ≡ not (was_seen es c.args.key)) c.self.view_is (ap not (sym there))

pub returns-in_ok-insert-in-None-clause-is_new : goal.returns-in_ok-insert-in-None-clause-is_new
returns-in_ok-insert-in-None-clause-is_new c =
    let missing : was_seen c.self.inside.places.entries c.args.key ≡ false
    = sym (is_some-lookup (same_key c.args.key) c.self.inside.places.entries) ∙ sym c.in-None.ensures.found in
    subst (λ (es : List FirstPlace). true ≡ not (was_seen es c.args.key)) c.self.view_is (ap not (sym missing))

pub returns-in_ok-insert-in-None-clause-number : goal.returns-in_ok-insert-in-None-clause-number
returns-in_ok-insert-in-None-clause-number c =
    let number : c.len-at.result ≡ number_of_key c.self.inside.places.entries c.args.key
    = c.len-at.ensures.len ∙ ap (λ (o : Option ℕ). unwrap_or o (length c.self.inside.places.entries)) c.in-None.ensures.index in
    subst (λ (es : List FirstPlace). c.len-at.result ≡ number_of_key es c.args.key) c.self.view_is number
