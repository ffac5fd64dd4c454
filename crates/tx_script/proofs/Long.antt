-- A script with more bytes than the most is refused for that.
use Rattle.std.proofs.Common.{◌≡◌, ℕ, ◌<◌, List, [], ◌∷◌, true, Option, Some, None, length, nat_lt, sym, ap, subst, arith}
use Rattle.std.specs.Str.{chars}
use Rattle.tx_tokens.specs.Tokens.{most_characters, tokens_of}
use Rattle.tx_parse.specs.Spans.{blocks_of}
use Rattle.tx_names.specs.Faults.{first_some}
use Rattle.tx_script.specs.declared.fault.ScriptKind.TheVariants as kind
use Rattle.tx_script.specs.declared.fault.ScriptFault.{ScriptFault}
use Rattle.tx_script.specs.Linked.{at}
use Rattle.tx_script.specs.Checks.{when, first_of, too_long, not_text, token_fault, tokens_unless, operator_fault, too_many_operators, too_many_defs, name_fault, handler_place, pipe_use, no_end, output_is_input, entries}
use Rattle.tx_script.specs.Accepted.{AreRead}
use Rattle.tx_script.specs.Laws.{LongLaw}

lt_true : (a b : ℕ) → a < b → nat_lt a b ≡ true
lt_true a b h = grind arith

is_long : (bytes : List ℕ) → most_characters < length bytes → too_long bytes ≡ Some (at kind.TooLong 0)
is_long bytes h = ap (λ b. when b (at kind.TooLong 0)) (lt_true most_characters (length bytes) h)

first_is : (o p : Option ScriptFault) (f : ScriptFault) → o ≡ Some f → first_some o p ≡ Some f
first_is o p f h = ap (λ q. first_some q p) h

pub long_law : LongLaw
long_law own bytes h =
    let e = is_long bytes h in
    record {
      blocks = [];
      unread = None;
      read = subst (λ o. AreRead (blocks_of (tokens_unless (first_some o (first_some (not_text bytes) (first_some (token_fault bytes) None))) (tokens_of (chars bytes)))) [] None) (sym e) tt;
      fails = first_is (too_long bytes) (first_of (not_text bytes ∷ token_fault bytes ∷ None ∷ operator_fault [] ∷ too_many_operators [] ∷ too_many_defs [] ∷ name_fault (entries []) ∷ handler_place (entries []) ∷ pipe_use (entries []) ∷ no_end (entries []) ∷ output_is_input own (entries []) ∷ [])) (at kind.TooLong 0) e;
    }
