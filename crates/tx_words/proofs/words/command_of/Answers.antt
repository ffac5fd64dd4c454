use Rattle.std.proofs.Common.{◌≡◌, ◌∙◌, ℕ, List, Option, Bor, ap, sym, subst, rules, true, map, encode_utf8_all, option_and_then}
use Rattle.clap.specs.Words.{App, HasKind, Row, Text, app_of, fault_of, is_simple_and_free, subcommand_of}
use Rattle.tx_words.specs.CommandLine.{tuplex_app}
use Rattle.tx_words.specs.Words.{asked}
use Rattle.tx_words.proofs.Refusals.{refused-none, tuplex-free}
use Rattle.tx_words.proofs.words.command_of.Goals as goal

pub returns : goal.returns
returns c =
    let given : List Text = map (λ (s : Bor (List ℕ)). s.now) c.as_slice-2.result.now in
    let words : List Text = map encode_utf8_all c.args.words.now in
    let words_are : given ≡ words = search rules in
    let app_is = c.in_ok-command.ensures in
    let free : is_simple_and_free (app_of c.in_ok-command.command) ≡ true = ap is_simple_and_free app_is ∙ tuplex-free in
    let of_app : HasKind (fault_of tuplex_app given) c.in-Err.error = subst (λ (a : App). HasKind (fault_of a given) c.in-Err.error) app_is (c.in-Err.ensures.kinds free) in
    let of_words : HasKind (fault_of tuplex_app words) c.in-Err.error = subst (λ (ws : List Text). HasKind (fault_of tuplex_app ws) c.in-Err.error) words_are of_app in
    let none = refused-none (fault_of tuplex_app words) c.in-Err.error (subcommand_of tuplex_app words) of_words
    (λ m. c.in_default.not-OutOfMemory (c.kind.ensures ∙ m)) in
    sym (ap (λ (o : Option (Text × List Row)). option_and_then asked o) none)
