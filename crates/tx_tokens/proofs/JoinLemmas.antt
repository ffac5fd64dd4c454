-- A text is its lines with their endings.
use Rattle.std.proofs.Common.{◌≡◌, ◌∙◌, ◌==◌, ◌&&◌, ◌⊎◌, inl, inr, ℕ, suc, ◌+◌, true, false, List, [], ◌∷◌, ◌++◌, length, drop, refl, sym, ap, arith, drop-drop}
use Rattle.std.proofs.Math.Seq.{drop-append_seam}
use Rattle.std.proofs.lemmas.Bool.{cases_Bool, eqb-true, and_parts}
use Rattle.tx_tokens.specs.Lines.{Line, carriage_return, is_empty, is_line_feed_alone, line_feed, lines, onto_first_line}

abbrev pub NoFeed : List ℕ → Type 0
NoFeed [] = Unit {0}
NoFeed (c ∷ text) = ((c == line_feed) ≡ false) × NoFeed text

-- a line feed, a carriage return and a line feed, or the end of the text
abbrev pub IsEnd : List ℕ → List ℕ → List Line → Type 0
IsEnd ending after ls = (ending ≡ 10 ∷ []) ⊎ ((ending ≡ 13 ∷ 10 ∷ []) ⊎ ((ending ≡ []) × ((after ≡ []) × (ls ≡ []))))

-- what ends a line and what follows it
pub record Ends (l : Line) (ls : List Line) (text ending after : List ℕ) : Type 0 where
  pub is : text ≡ l.content ++ (ending ++ after)
  pub size : length ending ≡ l.ending
  pub plain : NoFeed l.content
  pub end : IsEnd ending after ls

abbrev pub Joined : List Line → List ℕ → Type 0
Joined [] text = text ≡ []
Joined (l ∷ ls) text = (ending : List ℕ) × ((after : List ℕ) × (Ends l ls text ending after × Joined ls after))

both_end : (ending after : List ℕ) (ls : List Line) → length ending ≡ 1 → IsEnd ending after ls → IsEnd (13 ∷ ending) after ls
both_end ending after ls n (inl feed) = inr (inl (ap (λ t. 13 ∷ t) feed))
both_end ending after ls n (inr (inl two)) = absurd (let m : 2 ≡ 1 = sym (ap length two) ∙ n in omega arith)
both_end ending after ls n (inr (inr none)) = absurd (let m : 0 ≡ 1 = sym (ap length none.0) ∙ n in omega arith)

is_none : (content : List ℕ) → is_empty content ≡ true → content ≡ []
is_none [] e = refl
is_none (x ∷ content) e = absurd (cc)

onto_joined : (c : ℕ) (ls : List Line) (text : List ℕ) → (c == line_feed) ≡ false → Joined ls text → Joined (onto_first_line c ls) (c ∷ text)
onto_joined c [] text other h = ([], ([], (record { is = ap (λ t. c ∷ t) h; size = refl; plain = (other, tt); end = inr (inr (refl, (refl, refl))) }, refl)))
onto_joined c (l ∷ ls) text other h = elim (cases_Bool ((c == carriage_return) && is_line_feed_alone l)) [
  | inl both ↦ rw both (
      let halves = and_parts (c == carriage_return) (is_line_feed_alone l) both in
      let parts = and_parts (is_empty l.content) (l.ending == 1) halves.1 in
      let return : c ≡ 13 = eqb-true c carriage_return halves.0 in
      let one : length h.0 ≡ 1 = h.1.1.0.size ∙ eqb-true l.ending 1 parts.1 in (
        13 ∷ h.0,
        (
          h.1.0,
          (
            record {
              is = ap (λ t. c ∷ t) (h.1.1.0.is ∙ ap (λ t. t ++ (h.0 ++ h.1.0)) (is_none l.content parts.0)) ∙ ap (λ x. x ∷ (h.0 ++ h.1.0)) return;
              size = ap suc one;
              plain = tt;
              end = both_end h.0 h.1.0 ls one h.1.1.0.end;
            },
            h.1.1.1,
          ),
        ),
      )
      )
  | inr apart ↦ rw apart (h.0, (h.1.0, (record { is = ap (λ t. c ∷ t) h.1.1.0.is; size = h.1.1.0.size; plain = (other, h.1.1.0.plain); end = h.1.1.0.end }, h.1.1.1)))
]

pub lines_joined : (text : List ℕ) → Joined (lines text) text
lines_joined [] = refl
lines_joined (c ∷ text) = elim (cases_Bool (c == line_feed)) [
  | inl feed ↦ rw feed (
    10 ∷ [],
    (text, (record { is = ap (λ x. x ∷ text) (eqb-true c line_feed feed); size = refl; plain = tt; end = inl refl }, lines_joined text)),
  )
  | inr other ↦ rw other (onto_joined c (lines text) text other (lines_joined text))
]

-- ---- places

-- behind a part of a text
pub drop_on : (all xs rest : List ℕ) (p : ℕ) → drop p all ≡ xs ++ rest → drop (p + length xs) all ≡ rest
drop_on all xs rest p is = sym (drop-drop (length xs) p all) ∙ (ap (drop (length xs)) is ∙ drop-append_seam xs rest)

-- behind a line and what ends it
module _ (all : List ℕ) (p : ℕ) (l : Line) (ls : List Line) (text ending after : List ℕ) (ends : Ends l ls text ending after) (is : drop p all ≡ text) where
  pub behind_content : drop (p + length l.content) all ≡ ending ++ after
  behind_content = drop_on all l.content (ending ++ after) p (is ∙ ends.is)

  pub behind_ending : drop (p + length l.content + l.ending) all ≡ after
  behind_ending = ap (λ n. drop (p + length l.content + n) all) (sym ends.size) ∙ drop_on all ending after (p + length l.content) behind_content
