-- What is true of each character of texts is true of each of the texts that are made of them.
use Rattle.std.proofs.Common.{ℕ, zero, suc, ◌-◌, ◌++◌, Bool, true, false, List, [], ◌∷◌, length}
use Rattle.std.specs.Prelude.{filter, if◌then◌else◌, replicate}
use Rattle.std.specs.List.{All, AllByRecursion, flat_map, prefix_len, suffix_len}
use Rattle.std.proofs.lemmas.List.Elements.{All-append, All-cons, All-drop, All-filter, All-from_recursion, All-head, All-nil, All-replicate, All-tail, All-take, recursion_from_All}
use Rattle.tx_text.specs.Text.{begins, between, filled, is_blank, is_sign, is_some_text, joined, onto_first, pieces, pieces_from, replaced, split_where, stripped, without_back, without_front, words, zeros_behind}
use Rattle.tx_text.specs.declared.strip.Side.{Side}
use Rattle.tx_text.specs.declared.strip.Side.TheVariants.{Both, Left, Right}

module _ (P : ℕ → Type 0) where
  abbrev pub EachOf : List (List ℕ) → Type 0
  EachOf texts = AllByRecursion (All P) texts

  pub All-single : (c : ℕ) → P c → All P (c ∷ [])
  All-single c p = All-cons P c [] p (All-nil P)

  pub All-flat_map : (f : ℕ → List ℕ) (text : List ℕ) → All (λ c. All P (f c)) text → All P (flat_map f text)
  All-flat_map f [] h = All-nil P
  All-flat_map f (c ∷ text) h = All-append P (f c) (flat_map f text) (All-head (λ d. All P (f d)) c text h) (All-flat_map f text (All-tail (λ d. All P (f d)) c text h))

  -- ---- ends

  front_kept : (p : ℕ → Bool) (text : List ℕ) → All P text → All P (without_front p text)
  front_kept p text h = All-drop P (prefix_len p text) text h

  back_kept : (p : ℕ → Bool) (text : List ℕ) → All P text → All P (without_back p text)
  back_kept p text h = All-take P (length text - suffix_len p text) text h

  pub All-stripped : (side : Side) (p : ℕ → Bool) (text : List ℕ) → All P text → All P (stripped side p text)
  All-stripped Left p text h = front_kept p text h
  All-stripped Right p text h = back_kept p text h
  All-stripped Both p text h = back_kept p (without_front p text) (front_kept p text h)

  -- ---- pieces

  onto_kept : (c : ℕ) (texts : List (List ℕ)) → P c → EachOf texts → EachOf (onto_first c texts)
  onto_kept c [] p h = (All-single c p, tt)
  onto_kept c (text ∷ texts) p h = (All-cons P c text p h.0, h.1)

  pieces_kept : (sep : List ℕ) (skip : ℕ) (text : List ℕ) → All P text → EachOf (pieces_from sep skip text)
  pieces_kept sep skip [] h = (All-nil P, tt)
  pieces_kept sep (suc skip) (x ∷ text) h = pieces_kept sep skip text (All-tail P x text h)
  pieces_kept sep zero (x ∷ text) h =
      by_test (pieces_kept sep (length sep - 1) text (All-tail P x text h)) (pieces_kept sep zero text (All-tail P x text h)) (begins sep (x ∷ text))
    where
      by_test : EachOf (pieces_from sep (length sep - 1) text) → EachOf (pieces_from sep zero text) → (b : Bool) → EachOf (if b then [] ∷ pieces_from sep (length sep - 1) text else onto_first x (pieces_from sep zero text))
      by_test behind here true = (All-nil P, behind)
      by_test behind here false = onto_kept x (pieces_from sep zero text) (All-head P x text h) here

  pub EachOf-pieces : (sep text : List ℕ) → All P text → EachOf (pieces sep text)
  EachOf-pieces sep text h = pieces_kept sep 0 text h

  split_kept : (p : ℕ → Bool) (text : List ℕ) → All P text → EachOf (split_where p text)
  split_kept p [] h = (All-nil P, tt)
  split_kept p (x ∷ text) h = by_test (split_kept p text (All-tail P x text h)) (p x)
    where
      by_test : EachOf (split_where p text) → (b : Bool) → EachOf (if b then [] ∷ split_where p text else onto_first x (split_where p text))
      by_test behind true = (All-nil P, behind)
      by_test behind false = onto_kept x (split_where p text) (All-head P x text h) behind

  pub EachOf-words : (text : List ℕ) → All P text → EachOf (words text)
  EachOf-words text h =
      let parts : List (List ℕ) = split_where is_blank text in
      recursion_from_All (All P) (filter is_some_text parts) (All-filter is_some_text (All P) parts (All-from_recursion (All P) parts (split_kept is_blank text h)))

  -- ---- texts put together

  pub All-joined : (sep : List ℕ) (texts : List (List ℕ)) → All P sep → EachOf texts → All P (joined sep texts)
  All-joined sep [] h k = All-nil P
  All-joined sep (text ∷ []) h k = k.0
  All-joined sep (text ∷ next ∷ texts) h k =
      let behind : List ℕ = joined sep (next ∷ texts) in
      All-append P text (sep ++ behind) k.0 (All-append P sep behind h (All-joined sep (next ∷ texts) h k.1))

  between_kept : (new text : List ℕ) → All P new → All P text → All P (between new text)
  between_kept new [] h k = h
  between_kept new (x ∷ text) h k =
      All-append P new (x ∷ between new text) h (All-cons P x (between new text) (All-head P x text k) (between_kept new text h (All-tail P x text k)))

  pub All-replaced : (old new text : List ℕ) → All P new → All P text → All P (replaced old new text)
  All-replaced [] new text h k = between_kept new text h k
  All-replaced (c ∷ old) new text h k = All-joined new (pieces (c ∷ old) text) h (EachOf-pieces (c ∷ old) text k)

  zeros_kept : (zeros : ℕ) (text : List ℕ) → P 48 → All P text → All P (zeros_behind zeros text)
  zeros_kept zeros [] z h = All-replicate P zeros 48 z
  zeros_kept zeros (c ∷ text) z h = by_test (is_sign c)
    where
      by_test : (b : Bool) → All P (if b then c ∷ (replicate zeros 48 ++ text) else replicate zeros 48 ++ (c ∷ text))
      by_test true = All-cons P c (replicate zeros 48 ++ text) (All-head P c text h) (All-append P (replicate zeros 48) text (All-replicate P zeros 48 z) (All-tail P c text h))
      by_test false = All-append P (replicate zeros 48) (c ∷ text) (All-replicate P zeros 48 z) h

  pub All-filled : (width : ℕ) (text : List ℕ) → P 48 → All P text → All P (filled width text)
  All-filled width text z h = zeros_kept (width - length text) text z h
