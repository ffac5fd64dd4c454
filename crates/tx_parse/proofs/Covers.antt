-- The blocks of a script as the code finds them, in one walk; they cover its tokens, and begin where lines begin.
use Rattle.std.proofs.Common.{◌≡◌, ℕ, zero, suc, ◌+◌, ◌-◌, ◌≤◌, ◌<◌, Bool, true, false, List, [], ◌∷◌, All, length, if◌then◌else◌, refl, sym, ap, ◌∙◌, subst, arith}
use Rattle.std.proofs.lemmas.List.Elements.{All-nil, All-cons}
use Rattle.tx_tokens.specs.declared.token.Token.{Token}
use Rattle.tx_parse.specs.declared.cover.Span.{Span}
use Rattle.tx_parse.specs.Spans.{open_behind, open_indents, fresh_behind, is_fresh, begins, begins_behind, before_next, blocks_behind, span, spans_from, spans_of}
use Rattle.tx_parse.specs.Laws.{Joins, CoverLaw, begins_at, NoneWithin, LinesLaw}

none_more : (n : ℕ) → n + 0 ≡ n
none_more n = omega arith

none_ahead : (n : ℕ) → 0 + n ≡ n
none_ahead n = omega arith

-- ---- one walk

-- the spans from that of a block that begins at a place, where so many tokens are read
abbrev pub spans_behind : ℕ → ℕ → ℕ → Bool → List Token → List Span
spans_behind from at count fresh [] = span from at ∷ []
spans_behind from at count fresh (t ∷ ts) =
    if begins count fresh t.kind
    then span from at ∷ spans_behind at (at + 1) (open_behind t.kind count) (fresh_behind t.kind fresh) ts
    else spans_behind from (at + 1) (open_behind t.kind count) (fresh_behind t.kind fresh) ts

-- the spans of a block that ends so many tokens on, and of those behind it
abbrev spans_on : ℕ → ℕ → List (List Token) → List Span
spans_on from end bs = span from end ∷ spans_from end bs

walk_step : (b : Bool) (from at : ℕ) (t : Token) (walk : ℕ → List Span) (before : List Token) (bs : List (List Token)) → ((o : ℕ) → walk o ≡ spans_on o (at + 1 + length before) bs) → (if b then span from at ∷ walk at else walk from) ≡ spans_on from (at + length (if b then [] else t ∷ before)) (if b then (t ∷ before) ∷ bs else bs)
walk_step true from at t walk before bs p =
    let same : at + 1 + length before ≡ at + length (t ∷ before) = omega arith in
    let whole : span from at ∷ walk at ≡ span from at ∷ spans_on at (at + length (t ∷ before)) bs = subst (λ n. span from at ∷ walk at ≡ span from at ∷ spans_on at n bs) same (ap (λ ss. span from at ∷ ss) (p at)) in
    subst (λ n. span from at ∷ walk at ≡ spans_on from n ((t ∷ before) ∷ bs)) (sym (none_more at)) whole
walk_step false from at t walk before bs p =
    let same : at + 1 + length before ≡ at + length (t ∷ before) = omega arith in
    subst (λ n. walk from ≡ spans_on from n bs) same (p from)

walk_finds : (ahead ts : List Token) (from at : ℕ) → spans_behind from at (open_indents ahead) (is_fresh ahead) ts ≡ spans_on from (at + length (before_next ahead ts)) (blocks_behind ahead ts)
walk_finds ahead [] from at = ap (λ n. span from n ∷ []) (sym (none_more at))
walk_finds ahead (t ∷ ts) from at =
    walk_step (begins_behind ahead t) from at t (λ o. spans_behind o (at + 1) (open_indents (t ∷ ahead)) (is_fresh (t ∷ ahead)) ts) (before_next (t ∷ ahead) ts) (blocks_behind (t ∷ ahead) ts)
    (λ o. walk_finds (t ∷ ahead) ts o (at + 1))

pub walk_is_spans : (t : Token) (ts : List Token) → spans_behind 0 1 (open_behind t.kind 0) (fresh_behind t.kind true) ts ≡ spans_of (t ∷ ts)
walk_is_spans t ts =
    let same : 1 + length (before_next (t ∷ []) ts) ≡ 0 + length (t ∷ before_next (t ∷ []) ts) = omega arith in
    subst (λ n. spans_behind 0 1 (open_behind t.kind 0) (fresh_behind t.kind true) ts ≡ spans_on 0 n (blocks_behind (t ∷ []) ts)) same (walk_finds (t ∷ []) ts 0 1)

-- ---- blocks cover the tokens

either_joins : (b : Bool) (xs ys : List Span) (from to : ℕ) → Joins from xs to → Joins from ys to → Joins from (if b then xs else ys) to
either_joins true xs ys from to p q = p
either_joins false xs ys from to p q = q

spans_join : (ts : List Token) (from at count : ℕ) (fresh : Bool) (to : ℕ) → from < at → at + length ts ≡ to → Joins from (spans_behind from at count fresh ts) to
spans_join [] from at count fresh to l e = (refl, (l, omega arith))
spans_join (t ∷ ts) from at count fresh to l e =
    either_joins (begins count fresh t.kind) _ _ from to
    (refl, (l, spans_join ts at (at + 1) (open_behind t.kind count) (fresh_behind t.kind fresh) to (omega arith) (omega arith)))
    (spans_join ts from (at + 1) (open_behind t.kind count) (fresh_behind t.kind fresh) to (omega arith) (omega arith))

pub covers : CoverLaw
covers [] = refl
covers (t ∷ ts) =
    subst (λ ss. Joins 0 ss (length (t ∷ ts))) (walk_is_spans t ts)
    (spans_join ts 0 1 (open_behind t.kind 0) (fresh_behind t.kind true) (length (t ∷ ts)) (omega arith) (omega arith))

-- ---- blocks begin where lines begin

none_step : (b : Bool) (ahead : List Token) (t : Token) (ts before : List Token) → begins_behind ahead t ≡ b → ((k : ℕ) → k < length before → begins_at (t ∷ ahead) ts k ≡ false) → (k : ℕ) → k < length (if b then [] else t ∷ before) → begins_at ahead (t ∷ ts) k ≡ false
none_step true ahead t ts before e p k l = absurd (omega (arith, l))
none_step false ahead t ts before e p zero l = e
none_step false ahead t ts before e p (suc k) l = p k (omega (arith, l))

none_before : (ahead ts : List Token) (k : ℕ) → k < length (before_next ahead ts) → begins_at ahead ts k ≡ false
none_before ahead [] k l = refl
none_before ahead (t ∷ ts) k l = none_step (begins_behind ahead t) ahead t ts (before_next (t ∷ ahead) ts) refl (none_before (t ∷ ahead) ts) k l

-- a block of a place on at which a test holds, and nowhere behind in it
abbrev Begins : (ℕ → Bool) → Span → Type 0
Begins f s = (f s.from ≡ true) × ((place : ℕ) → s.from < place → place < s.to → f place ≡ false)

-- a test of places tells, from one on, of tokens which begin a block
abbrev Tells : (ℕ → Bool) → ℕ → List Token → List Token → Type 0
Tells f o ahead ts = (k : ℕ) → f (o + k) ≡ begins_at ahead ts k

tells_on : (f : ℕ → Bool) (o : ℕ) (ahead : List Token) (t : Token) (ts : List Token) → Tells f o ahead (t ∷ ts) → Tells f (o + 1) (t ∷ ahead) ts
tells_on f o ahead t ts h k =
    let same : o + 1 + k ≡ o + suc k = omega arith in
    ap f same ∙ h (suc k)

-- behind a place, as far as the next block, the test fails
fails_within : (f : ℕ → Bool) (o : ℕ) (ahead ts : List Token) → Tells f o ahead ts → (place : ℕ) → o ≤ place → place < o + length (before_next ahead ts) → f place ≡ false
fails_within f o ahead ts h place l m =
    let same : o + (place - o) ≡ place = omega (arith, l) in
    ap f (sym same) ∙ (h (place - o) ∙ none_before ahead ts (place - o) (omega (arith, l, m)))

begin_step : (b : Bool) (f : ℕ → Bool) (o : ℕ) (ahead : List Token) (t : Token) (ts : List Token) → begins_behind ahead t ≡ b → Tells f o ahead (t ∷ ts) → All (Begins f) (spans_from (o + 1 + length (before_next (t ∷ ahead) ts)) (blocks_behind (t ∷ ahead) ts)) → All (Begins f) (spans_from (o + length (if b then [] else t ∷ before_next (t ∷ ahead) ts)) (if b then (t ∷ before_next (t ∷ ahead) ts) ∷ blocks_behind (t ∷ ahead) ts else blocks_behind (t ∷ ahead) ts))
begin_step true f o ahead t ts e h p =
    let same : o + 1 + length (before_next (t ∷ ahead) ts) ≡ o + length (t ∷ before_next (t ∷ ahead) ts) = omega arith in
    let at_first : f o ≡ true = ap f (sym (none_more o)) ∙ (h zero ∙ e) in
    let behind_it : (place : ℕ) → o < place → place < o + length (t ∷ before_next (t ∷ ahead) ts) → f place ≡ false = λ place l m. fails_within f (o + 1) (t ∷ ahead) ts (tells_on f o ahead t ts h) place (omega (arith, l)) (omega (arith, m)) in
    let all : All (Begins f) (spans_from o ((t ∷ before_next (t ∷ ahead) ts) ∷ blocks_behind (t ∷ ahead) ts)) =
    All-cons (Begins f) _ _ (at_first, behind_it) (subst (λ n. All (Begins f) (spans_from n (blocks_behind (t ∷ ahead) ts))) same p)
    in
    subst (λ n. All (Begins f) (spans_from n ((t ∷ before_next (t ∷ ahead) ts) ∷ blocks_behind (t ∷ ahead) ts))) (sym (none_more o)) all
begin_step false f o ahead t ts e h p =
    let same : o + 1 + length (before_next (t ∷ ahead) ts) ≡ o + length (t ∷ before_next (t ∷ ahead) ts) = omega arith in
    subst (λ n. All (Begins f) (spans_from n (blocks_behind (t ∷ ahead) ts))) same p

later_begin : (f : ℕ → Bool) (o : ℕ) (ahead ts : List Token) → Tells f o ahead ts → All (Begins f) (spans_from (o + length (before_next ahead ts)) (blocks_behind ahead ts))
later_begin f o ahead [] h = All-nil (Begins f)
later_begin f o ahead (t ∷ ts) h = begin_step (begins_behind ahead t) f o ahead t ts refl h (later_begin f (o + 1) (t ∷ ahead) ts (tells_on f o ahead t ts h))

pub begin_at_lines : LinesLaw
begin_at_lines [] = tt
begin_at_lines (t ∷ ts) =
    let starts : ℕ → Bool = begins_at [] (t ∷ ts) in
    let tells : Tells starts 1 (t ∷ []) ts = tells_on starts 0 [] t ts (λ k. ap starts (none_ahead k)) in
    let same : 1 + length (before_next (t ∷ []) ts) ≡ 0 + length (t ∷ before_next (t ∷ []) ts) = omega arith in
    let first : NoneWithin (t ∷ ts) (span 0 (0 + length (t ∷ before_next (t ∷ []) ts))) = λ place l m. fails_within starts 1 (t ∷ []) ts tells place (omega (arith, l)) (omega (arith, m)) in
    (first, subst (λ n. All (Begins starts) (spans_from n (blocks_behind (t ∷ []) ts))) same (later_begin starts 1 (t ∷ []) ts tells))
