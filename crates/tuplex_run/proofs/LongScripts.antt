-- A script that is too long is refused for that, whatever its text is.
use Rattle.std.proofs.Common.{◌≡◌, ◌<◌, ℕ, true, List, [], ◌∷◌, Some, None, length, sym, ap, subst, arith}
use Rattle.std.specs.Prelude.{nat_lt, chars}
use Rattle.std.proofs.lemmas.Bool.Decides.{nat_tests}
use Rattle.tx_tokens.specs.Tokens.{tokens_of}
use Rattle.tx_parse.specs.Spans.{blocks_of}
use Rattle.tx_names.specs.Faults.{first_some}
use Rattle.tx_script.specs.declared.fault.ScriptFault.{ScriptFault}
use Rattle.tx_script.specs.declared.fault.ScriptKind.TheVariants as kind
use Rattle.tx_script.specs.Linked.{at}
use Rattle.tx_script.specs.Checks.{when, first_of, too_long, not_text, token_fault, text_fault, tokens_unless, blocks_in, operator_fault, too_many_operators, too_many_defs, name_fault, handler_place, pipe_use, no_end, output_is_input, entries, refusal}
use Rattle.tx_script.specs.Accepted.{AreRead, Refused}

abbrev fault : ScriptFault
fault = at kind.TooLong 0

-- the first check fails, and so it is the first that does
module _ (bytes : List ℕ) (l : 262144 < length bytes) where
  is_too_long : too_long bytes ≡ Some fault
  is_too_long =
      let long : nat_lt 262144 (length bytes) ≡ true = grind (arith, nat_tests, l) in
      ap (λ b. when b fault) long

  text_refused : text_fault bytes ≡ Some fault
  text_refused = ap (λ o. first_some o (first_of (not_text bytes ∷ token_fault bytes ∷ []))) is_too_long

  no_blocks : blocks_in bytes ≡ []
  no_blocks = ap (λ o. blocks_of (tokens_unless o (tokens_of (chars bytes)))) text_refused

  pub long_refused_as : (own : List ℕ) → refusal own bytes [] None ≡ Some fault
  long_refused_as own =
      ap (λ o. first_some o (first_of
      (not_text bytes
      ∷ token_fault bytes
      ∷ None
      ∷ operator_fault []
      ∷ too_many_operators []
      ∷ too_many_defs []
      ∷ name_fault (entries [])
      ∷ handler_place (entries [])
      ∷ pipe_use (entries [])
      ∷ no_end (entries [])
      ∷ output_is_input own (entries [])
      ∷ []))) is_too_long

pub long_refused : (own bytes : List ℕ) → 262144 < length bytes → Refused own bytes fault
long_refused own bytes l = record {
  blocks = [];
  unread = None;
  read = subst (λ bs. AreRead bs [] None) (sym (no_blocks bytes l)) tt;
  fails = long_refused_as bytes l own;
}
