use Rattle.std.proofs.Common.{◌≡◌, ◌+◌, ◌++◌, ap, ◌∙◌, arith, length, string_bytes, subst, sym}
use Rattle.std.specs.Str.{chars}
use Rattle.std.proofs.lemmas.Str.{IsUtf8-string_bytes, chars-append}
use Rattle.tx_text.specs.Calls.Store.{IsCounted, store_bytes}
use Rattle.tx_text.proofs.Chars.{count_more, length-chars-String}
use Rattle.tx_text.proofs.store.Store.push_str.Goals as goal

pub overflow_add-count : goal.overflow_add-count
overflow_add-count c =
    let more : chars (string_bytes c.push_str.new.self) ≡ chars (string_bytes c.in-Long.text) ++ chars c.args.more.now =
    ap chars c.in_ok-push_str-in-Long.ensures.bytes ∙ chars-append (string_bytes c.in-Long.text) c.args.more.now (IsUtf8-string_bytes c.in-Long.text) in
    let all : c.in-Long.count + c.char_count.result ≡ length (chars (string_bytes c.push_str.new.self)) =
    count_more c.in-Long.count c.char_count.result (chars (string_bytes c.in-Long.text)) (chars c.args.more.now) (chars (string_bytes c.push_str.new.self)) (subst IsCounted c.in-Long.is c.requires) c.char_count.ensures more in
    omega (arith, all, length-chars-String c.push_str.new.self)

pub returns-in_ok-push_str-in-Long-clause-counted : goal.returns-in_ok-push_str-in-Long-clause-counted
returns-in_ok-push_str-in-Long-clause-counted c =
    count_more c.in-Long.count c.char_count.result (chars (string_bytes c.in-Long.text)) (chars c.args.more.now) _ (subst IsCounted c.in-Long.is c.requires) c.char_count.ensures
    (ap chars c.in_ok-push_str-in-Long.ensures.bytes ∙ chars-append (string_bytes c.in-Long.text) c.args.more.now (IsUtf8-string_bytes c.in-Long.text))

pub returns-in_ok-push_str-in-Long-clause-ok : goal.returns-in_ok-push_str-in-Long-clause-ok
returns-in_ok-push_str-in-Long-clause-ok c =
    ap chars c.in_ok-push_str-in-Long.ensures.bytes
    ∙ (chars-append (string_bytes c.in-Long.text) c.args.more.now (IsUtf8-string_bytes c.in-Long.text)
    ∙ ap (λ s. chars (store_bytes s) ++ chars c.args.more.now) (sym c.in-Long.is))
