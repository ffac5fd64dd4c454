-- The first line of a text.
use Rattle.std.proofs.Common.{◌≡◌, ◌≢◌, ◌∙◌, ◌==◌, ◌&&◌, inl, inr, ℕ, suc, ◌+◌, ◌<◌, true, false, List, [], ◌∷◌, ◌++◌, length, length-append, ap, refl, subst, arith}
use Rattle.std.specs.Str.{NonePass}
use Rattle.std.proofs.lemmas.Bool.{and_parts, cases_Bool, eqb-true}
use Rattle.tx_tokens.specs.Lines.{Line, carriage_return, is_empty, is_line_feed_alone, line_feed, lines, longer_line, onto_first_line}
use Rattle.tx_tokens.specs.Calls.Walking.{fed}

-- ---- one character more in front of a line

longer_plain : (c : ℕ) (l : Line) → is_line_feed_alone l ≡ false → longer_line c l ≡ record { content = c ∷ l.content; ending = l.ending }
longer_plain c l h = elim (cases_Bool (c == carriage_return)) [ inl is ↦ rw (is, h) refl | inr other ↦ rw other refl ]

two_alone : (content : List ℕ) → is_line_feed_alone (record { content = content; ending = 2 }) ≡ false
two_alone [] = refl
two_alone (c ∷ content) = refl

-- ---- what stands before a line feed

pub fed_return : (content : List ℕ) → fed (content ++ carriage_return ∷ []) ≡ record { content = content; ending = 2 }
fed_return [] = refl
fed_return (c ∷ content) = ap (longer_line c) (fed_return content) ∙ longer_plain c (record { content = content; ending = 2 }) (two_alone content)

pub fed_plain : (text : List ℕ) → ((front : List ℕ) → text ≢ front ++ carriage_return ∷ []) → fed text ≡ record { content = text; ending = 1 }
fed_plain [] h = refl
fed_plain (c ∷ []) h = elim (cases_Bool (c == carriage_return)) [
  | inl is ↦ absurd (h [] (ap (λ x. x ∷ []) (eqb-true c carriage_return is)))
  | inr other ↦ rw other refl
]
fed_plain (c ∷ d ∷ text) h =
    ap (longer_line c) (fed_plain (d ∷ text) (λ front e. h (c ∷ front) (ap (λ t. c ∷ t) e))) ∙ longer_plain c (record { content = d ∷ text; ending = 1 }) refl

-- ---- the first line

abbrev NoFeed : List ℕ → Type 0
NoFeed text = NonePass (λ c. c == line_feed) text

pub line_fed : (before behind : List ℕ) → NoFeed before → lines (before ++ line_feed ∷ behind) ≡ fed before ∷ lines behind
line_fed [] behind h = refl
line_fed (c ∷ before) behind h = rw h.0 (ap (onto_first_line c) (line_fed before behind h.1))

pub line_last : (c : ℕ) (text : List ℕ) → NoFeed (c ∷ text) → lines (c ∷ text) ≡ (record { content = c ∷ text; ending = 0 }) ∷ []
line_last c [] h = rw h.0 refl
line_last c (d ∷ text) h =
    rw h.0 (ap (onto_first_line c) (line_last d text h.1) ∙ ap (λ l. l ∷ []) (longer_plain c (record { content = d ∷ text; ending = 0 }) refl))

none_size : (content : List ℕ) → is_empty content ≡ true → length content ≡ 0
none_size [] h = refl
none_size (c ∷ content) h = absurd (cc)

alone_size : (l : Line) → is_line_feed_alone l ≡ true → length l.content + l.ending ≡ 1
alone_size l h =
    let parts = and_parts (is_empty l.content) (l.ending == 1) h in
    omega (arith, none_size l.content parts.0, eqb-true l.ending 1 parts.1)

pub fed_size : (text : List ℕ) → length (fed text).content + (fed text).ending ≡ length text + 1
fed_size [] = refl
fed_size (c ∷ text) = elim (cases_Bool ((c == carriage_return) && is_line_feed_alone (fed text))) [
  | inl both ↦ rw both (omega (arith, alone_size (fed text) (and_parts (c == carriage_return) (is_line_feed_alone (fed text)) both).1, fed_size text))
  | inr apart ↦ rw apart (omega (arith, fed_size text))
]

-- ---- a line that a function answers

module _ (text line behind content : List ℕ) (ending : ℕ) (e : text ≡ line ++ line_feed ∷ behind) (f : fed line ≡ record { content = content; ending = ending }) where
  pub line_is : NoFeed line → lines text ≡ (record { content = content; ending = ending }) ∷ lines behind
  line_is plain = ap lines e ∙ (line_fed line behind plain ∙ ap (λ l. l ∷ lines behind) f)

  pub line_sizes : length text ≡ length content + ending + length behind
  line_sizes = omega (arith, ap length e, length-append line (line_feed ∷ behind), fed_size line, ap (λ l. length l.content + l.ending) f)

  pub line_some : 0 < length content + ending
  line_some = omega (arith, fed_size line, ap (λ l. length l.content + l.ending) f)

pub last_is : (text more : List ℕ) (c : ℕ) → text ≡ c ∷ more → NoFeed text → lines text ≡ (record { content = text; ending = 0 }) ∷ []
last_is text more c e h = rw e (line_last c more (subst NoFeed e h))
