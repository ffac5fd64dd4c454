-- The blocks of tokens are the parts at their spans, and the spans lie within the tokens.
use Rattle.std.proofs.Common.{◌≡◌, ℕ, ◌+◌, ◌-◌, ◌≤◌, Bool, true, false, List, [], ◌∷◌, ◌++◌, None, Ok, length, take, drop, if◌then◌else◌, refl, sym, ap, ◌∙◌, subst, append_assoc, length-append, arith}
use Rattle.std.specs.Prelude.{slice_range}
use Rattle.std.specs.Str.{chars}
use Rattle.tx_tokens.specs.declared.token.Token.{Token}
use Rattle.tx_tokens.specs.Tokens.{tokens_of}
use Rattle.tx_parse.specs.declared.cover.Span.{Span}
use Rattle.tx_parse.specs.Spans.{begins_behind, before_next, blocks_behind, blocks_of, spans_from, spans_of}
use Rattle.tx_parse.specs.Laws.{Joins, CoverLaw}
use Rattle.tx_script.specs.Checks.{text_fault, tokens_unless, blocks_in}
use Rattle.tx_script.specs.Calls.Reading.{AreWithin, parts_of}

-- ---- the blocks joined are the tokens

abbrev joined : List (List Token) → List Token
joined [] = []
joined (b ∷ bs) = b ++ joined bs

join_step : (begins : Bool) (t : Token) (before ts : List Token) (bs : List (List Token)) → before ++ joined bs ≡ ts → (if begins then [] else t ∷ before) ++ joined (if begins then (t ∷ before) ∷ bs else bs) ≡ t ∷ ts
join_step true t before ts bs e = ap (λ l. t ∷ l) e
join_step false t before ts bs e = ap (λ l. t ∷ l) e

behind_join : (ahead ts : List Token) → before_next ahead ts ++ joined (blocks_behind ahead ts) ≡ ts
behind_join ahead [] = refl
behind_join ahead (t ∷ ts) = join_step (begins_behind ahead t) t (before_next (t ∷ ahead) ts) ts (blocks_behind (t ∷ ahead) ts) (behind_join (t ∷ ahead) ts)

blocks_join : (ts : List Token) → joined (blocks_of ts) ≡ ts
blocks_join [] = refl
blocks_join (t ∷ ts) = ap (λ l. t ∷ l) (behind_join (t ∷ []) ts)

-- ---- a block is the part at its span

take_front : (xs ys : List Token) → take (length xs) (xs ++ ys) ≡ xs
take_front [] ys = refl
take_front (x ∷ xs) ys = ap (λ l. x ∷ l) (take_front xs ys)

drop_front : (xs ys : List Token) → drop (length xs) (xs ++ ys) ≡ ys
drop_front [] ys = refl
drop_front (x ∷ xs) ys = drop_front xs ys

part_is : (xs b rest : List Token) → slice_range (xs ++ (b ++ rest)) (length xs) (length xs + length b) ≡ b
part_is xs b rest =
    let e : length xs + length b - length xs ≡ length b = omega arith in
    ap (λ n. take n (drop (length xs) (xs ++ (b ++ rest)))) e ∙ ap (λ l. take (length b) l) (drop_front xs (b ++ rest)) ∙ take_front b rest

part_at : (xs b rest ts : List Token) (n : ℕ) → length xs ≡ n → xs ++ (b ++ rest) ≡ ts → slice_range ts n (n + length b) ≡ b
part_at xs b rest ts n e s =
    subst (λ l. slice_range l n (n + length b) ≡ b) s
    (subst (λ m. slice_range (xs ++ (b ++ rest)) m (m + length b) ≡ b) e (part_is xs b rest))

parts_from : (xs ts : List Token) (bs : List (List Token)) (n : ℕ) → length xs ≡ n → xs ++ joined bs ≡ ts → parts_of ts (spans_from n bs) ≡ bs
parts_from xs ts [] n e s = refl
parts_from xs ts (b ∷ bs) n e s =
    ap (λ x. x ∷ parts_of ts (spans_from (n + length b) bs)) (part_at xs b (joined bs) ts n e s)
    ∙ ap (λ l. b ∷ l) (parts_from (xs ++ b) ts bs (n + length b) (length-append xs b ∙ ap (λ m. m + length b) e) (append_assoc xs b (joined bs) ∙ s))

pub parts_are_blocks : (ts : List Token) → parts_of ts (spans_of ts) ≡ blocks_of ts
parts_are_blocks ts = parts_from [] ts (blocks_of ts) 0 refl (blocks_join ts)

-- those of a text whose checks hold
pub parts_in : (bytes : List ℕ) (ts : List Token) (spans : List Span) → text_fault bytes ≡ None → tokens_of (chars bytes) ≡ Ok ts → spans ≡ spans_of ts → parts_of ts spans ≡ blocks_in bytes
parts_in bytes ts spans none tokens is =
    ap (λ ss. parts_of ts ss) is
    ∙ parts_are_blocks ts
    ∙ ap (λ r. blocks_of (tokens_unless None r)) (sym tokens)
    ∙ ap (λ o. blocks_of (tokens_unless o (tokens_of (chars bytes)))) (sym none)

-- ---- spans that cover tokens lie within them

joins_up : (from to : ℕ) (ss : List Span) → Joins from ss to → from ≤ to
joins_up from to [] h = omega (arith, h)
joins_up from to (s ∷ ss) h = omega (arith, h.0, h.1.0, joins_up s.to to ss h.1.1)

within_from : (ts : List Token) (from : ℕ) (ss : List Span) → Joins from ss (length ts) → AreWithin ts ss
within_from ts from [] h = tt
within_from ts from (s ∷ ss) h = (h.1.0, (joins_up s.to (length ts) ss h.1.1, within_from ts s.to ss h.1.1))

pub are_within : CoverLaw → (ts : List Token) (spans : List Span) → spans ≡ spans_of ts → AreWithin ts spans
are_within law ts spans is = subst (λ ss. AreWithin ts ss) (sym is) (within_from ts 0 (spans_of ts) (law ts))
