-- The longest front of a text whose characters pass a test, character by character.
use Rattle.std.proofs.Common.{◌≡◌, ◌∙◌, inl, inr, ℕ, suc, ◌+◌, ◌<◌, ◌≤◌, Bool, true, false, true≢false, List, [], ◌∷◌, ◌++◌, IsAscii, IsUtf8, length, take, drop, refl, sym, ap, subst, arith, one-add, take_at, take-append-drop}
use Rattle.std.specs.List.{prefix_len}
use Rattle.std.specs.Str.{IsCharBoundary, chars}
use Rattle.std.proofs.Math.Seq.{drop-append_seam}
use Rattle.std.proofs.Math.Utf8.{encode, encodes}
use Rattle.std.proofs.lemmas.Bool.{cases_Bool}
use Rattle.std.proofs.lemmas.Bool.Decides.{nat_tests}
use Rattle.std.proofs.lemmas.List.Folds.{length-prefix_len}
use Rattle.std.proofs.lemmas.List.Sums.{prefix_len-le-length}
use Rattle.std.proofs.lemmas.Str.{IsCharBoundary-from_take, IsUtf8-from_ascii, char_from_byte, chars-IsAscii, chars-append, encode_ascii, encodes-chars}
use Rattle.std.proofs.lemmas.Str.Ascii.{IsAscii-nil, IsAscii-cons}
use Rattle.tx_tokens.specs.Pieces.{is_word_char, run}

module _ (p : ℕ → Bool) (text more : List ℕ) (c : ℕ) (e : text ≡ c ∷ more) where
  pub count_more : p c ≡ true → prefix_len p text ≡ 1 + prefix_len p more
  count_more t = rw (e, t) refl

  pub count_none : p c ≡ false → prefix_len p text ≡ 0
  count_none f = rw (e, f) refl

  pub run_more : p c ≡ true → run p text ≡ c ∷ run p more
  run_more t = rw (e, t, one-add) refl

  pub run_none : p c ≡ false → run p text ≡ []
  run_none f = rw (e, f) refl

  pub skip_more : p c ≡ true → drop (prefix_len p text) text ≡ drop (prefix_len p more) more
  skip_more t = rw (e, t, one-add) refl

  pub skip_none : p c ≡ false → drop (prefix_len p text) text ≡ text
  skip_none f = rw (e, f) refl

pub count_end : (p : ℕ → Bool) (text : List ℕ) → text ≡ [] → prefix_len p text ≡ 0
count_end p text e = rw e refl

pub run_end : (p : ℕ → Bool) (text : List ℕ) → text ≡ [] → run p text ≡ []
run_end p text e = rw e refl

pub skip_end : (p : ℕ → Bool) (text : List ℕ) → text ≡ [] → drop (prefix_len p text) text ≡ text
skip_end p text e = rw e refl

-- ---- by bytes, where each character that passes is one byte

module _ (p : ℕ → Bool) (low : (c : ℕ) → p c ≡ true → c < 128) where
  stops : (bs rest : List ℕ) (c : ℕ) → bs ≡ encode c ++ rest → p c ≡ false → prefix_len p bs ≡ 0
  stops [] rest c e f = refl
  stops (b ∷ bs) rest c e f = elim (cases_Bool (p b)) [
    | inl t ↦ absurd (true≢false (sym t ∙ (ap p (sym (char_from_byte (b ∷ bs) rest c e (low b t) (omega arith))) ∙ f)))
    | inr g ↦ rw g refl
  ]

  bytes_run : (cs : List ℕ) → prefix_len p (encodes cs) ≡ prefix_len p cs
  bytes_run [] = refl
  bytes_run (c ∷ cs) = elim (cases_Bool (p c)) [
    | inl t ↦ ap (λ b. prefix_len p (b ++ encodes cs)) (encode_ascii c (low c t)) ∙ rw t (ap (λ (n : ℕ). 1 + n) (bytes_run cs))
    | inr f ↦ stops (encode c ++ encodes cs) (encodes cs) c refl f ∙ sym (rw f refl)
  ]

  run_before : (cs : List ℕ) → encodes cs ≡ run p cs ++ encodes (drop (prefix_len p cs) cs)
  run_before [] = refl
  run_before (c ∷ cs) = elim (cases_Bool (p c)) [
    | inl t ↦ rw (t, one-add) (ap (λ b. b ++ encodes cs) (encode_ascii c (low c t)) ∙ ap (λ r. c ∷ r) (run_before cs))
    | inr f ↦ rw f refl
  ]

  ascii_run : (cs : List ℕ) → IsAscii (run p cs)
  ascii_run [] = IsAscii-nil
  ascii_run (c ∷ cs) = elim (cases_Bool (p c)) [
    | inl t ↦ rw (t, one-add) (IsAscii-cons c (run p cs) (low c t) (ascii_run cs))
    | inr f ↦ rw f IsAscii-nil
  ]

  module _ (s : List ℕ) (n : ℕ) (u : IsUtf8 s) (h : n ≡ prefix_len p s) where
    count_is : n ≡ prefix_len p (chars s)
    count_is = h ∙ (ap (prefix_len p) (sym (encodes-chars s u)) ∙ bytes_run (chars s))

    front_is : take n s ≡ run p (chars s)
    front_is =
        let len : length (run p (chars s)) ≡ n = length-prefix_len p (chars s) ∙ sym count_is in
        ap (take n) (sym (encodes-chars s u) ∙ run_before (chars s)) ∙ take_at (run p (chars s)) (encodes (drop (prefix_len p (chars s)) (chars s))) n len

    front_utf8 : IsUtf8 (take n s)
    front_utf8 = subst IsUtf8 (sym front_is) (IsUtf8-from_ascii (run p (chars s)) (ascii_run (chars s)))

    pub run_boundary : IsCharBoundary s n
    run_boundary = IsCharBoundary-from_take s n u (omega (arith, h, prefix_len-le-length p s)) front_utf8

    pub run_front : (front : List ℕ) → front ≡ take n s → chars front ≡ run p (chars s)
    run_front front e = ap chars (e ∙ front_is) ∙ chars-IsAscii (run p (chars s)) (ascii_run (chars s))

    pub run_rest : (rest : List ℕ) → rest ≡ drop n s → chars rest ≡ drop (prefix_len p (chars s)) (chars s)
    run_rest rest e =
        let whole : chars s ≡ run p (chars s) ++ chars rest = ap chars (sym (take-append-drop n s)) ∙ (chars-append (take n s) (drop n s) front_utf8
        ∙ (ap (λ t. t ++ chars (drop n s)) (run_front (take n s) refl) ∙ ap (λ t. run p (chars s) ++ chars t) (sym e))) in
        sym (ap (drop (prefix_len p (chars s))) whole ∙ (ap (λ (k : ℕ). drop k (run p (chars s) ++ chars rest)) (sym (length-prefix_len p (chars s))) ∙ drop-append_seam (run p (chars s)) (chars rest)))

pub word_char_low : (c : ℕ) → is_word_char c ≡ true → c < 128
word_char_low c h = grind (arith, nat_tests)
