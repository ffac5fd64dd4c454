-- UTF-8 keeps the order of code points: the first byte that differs decides as the first character that differs.
use Rattle.std.proofs.Common.{◌≡◌, ◌∙◌, sym, refl, ap, ap₂, ℕ, ◌+◌, ◌/◌, ◌<◌, ◌≤◌, ◌==◌, ◌&&◌, ◌||◌, Bool, true, false, List, [], ◌∷◌, ◌++◌, length, ⊎_elim, IsUtf8, nat_cmp, is_lt, Less, Equal, Greater, arith, length-append}
use Rattle.std.specs.Cmp.Lexicographic.{slice_cmp, nat_list_cmp_total}
use Rattle.std.specs.Ordering.{ordering_then, ordering_reverse}
use Rattle.std.specs.Str.{chars}
use Rattle.std.proofs.Math.Utf8.{encode, encodes, next}
use Rattle.std.proofs.lemmas.Bool.{cases_lt, cases_order, eq-eqb, le-ltb, lt-ltb, ne_eqb}
use Rattle.std.proofs.lemmas.Str.{encode_ascii, encodes-chars, length-encode, len_utf8_bounds}
use Rattle.tx_text.specs.Text.{less}

-- ---- two lists of bytes, by their heads

nat_cmp_less : (a b : ℕ) → a < b → nat_cmp a b ≡ Less
nat_cmp_less a b l = rw (lt-ltb a b l) refl

nat_cmp_equal : (a b : ℕ) → a ≡ b → nat_cmp a b ≡ Equal
nat_cmp_equal a b e = rw (le-ltb a b (omega arith), eq-eqb a b e) refl

head_less : (a b : ℕ) (xs ys : List ℕ) → a < b → slice_cmp nat_cmp (a ∷ xs) (b ∷ ys) ≡ Less
head_less a b xs ys l = ap (λ o. ordering_then o (slice_cmp nat_cmp xs ys)) (nat_cmp_less a b l)

tail_less : (a b : ℕ) (xs ys : List ℕ) → a ≡ b → slice_cmp nat_cmp xs ys ≡ Less → slice_cmp nat_cmp (a ∷ xs) (b ∷ ys) ≡ Less
tail_less a b xs ys e h = ap (λ o. ordering_then o (slice_cmp nat_cmp xs ys)) (nat_cmp_equal a b e) ∙ h

front_same : (front xs ys : List ℕ) → slice_cmp nat_cmp (front ++ xs) (front ++ ys) ≡ slice_cmp nat_cmp xs ys
front_same [] xs ys = refl
front_same (a ∷ front) xs ys = ap (λ o. ordering_then o (slice_cmp nat_cmp (front ++ xs) (front ++ ys))) (nat_cmp_equal a a refl) ∙ front_same front xs ys

empty_less : (ys : List ℕ) → 0 < length ys → slice_cmp nat_cmp [] ys ≡ Less
empty_less [] l = absurd (omega arith)
empty_less (y ∷ ys) l = refl

more_greater : (xs : List ℕ) → 0 < length xs → slice_cmp nat_cmp xs [] ≡ Greater
more_greater [] l = absurd (omega arith)
more_greater (x ∷ xs) l = refl

-- ---- the bytes of two characters, six bits a byte behind the first

sixth_twice : (u : ℕ) → u / 64 / 64 ≡ u / 4096
sixth_twice u = omega arith

sixth_thrice : (u : ℕ) → u / 64 / 4096 ≡ u / 262144
sixth_thrice u = omega arith

by_high_bits : {G : Type 0} (u v : ℕ) → u < v → (u / 64 < v / 64 → G) → (u / 64 ≡ v / 64 → G) → G
by_high_bits u v l high low = ⊎_elim high (λ h. low (omega arith)) (cases_lt (u / 64) (v / 64))

last_less : (u v : ℕ) (xs ys : List ℕ) → u < v → u / 64 ≡ v / 64 → slice_cmp nat_cmp (next u ∷ xs) (next v ∷ ys) ≡ Less
last_less u v xs ys l e = head_less (next u) (next v) xs ys (omega arith)

two_less : (k u v : ℕ) (xs ys : List ℕ) → u < v → slice_cmp nat_cmp ((k + u / 64) ∷ next u ∷ xs) ((k + v / 64) ∷ next v ∷ ys) ≡ Less
two_less k u v xs ys l = by_high_bits u v l
    (λ h. head_less (k + u / 64) (k + v / 64) (next u ∷ xs) (next v ∷ ys) (omega arith))
    (λ e. tail_less (k + u / 64) (k + v / 64) (next u ∷ xs) (next v ∷ ys) (omega arith) (last_less u v xs ys l e))

three_less : (k u v : ℕ) (xs ys : List ℕ) → u < v → slice_cmp nat_cmp ((k + u / 4096) ∷ next (u / 64) ∷ next u ∷ xs) ((k + v / 4096) ∷ next (v / 64) ∷ next v ∷ ys) ≡ Less
three_less k u v xs ys l = rw (← sixth_twice u, ← sixth_twice v) (by_high_bits u v l
    (λ h. two_less k (u / 64) (v / 64) (next u ∷ xs) (next v ∷ ys) h)
    (λ e. tail_less (k + u / 64 / 64) (k + v / 64 / 64) (next (u / 64) ∷ next u ∷ xs) (next (v / 64) ∷ next v ∷ ys) (ap (λ n. k + n / 64) e)
    (tail_less (next (u / 64)) (next (v / 64)) (next u ∷ xs) (next v ∷ ys) (ap next e) (last_less u v xs ys l e))))

four_less : (k u v : ℕ) (xs ys : List ℕ) → u < v → slice_cmp nat_cmp ((k + u / 262144) ∷ next (u / 4096) ∷ next (u / 64) ∷ next u ∷ xs) ((k + v / 262144) ∷ next (v / 4096) ∷ next (v / 64) ∷ next v ∷ ys) ≡ Less
four_less k u v xs ys l = rw (← sixth_thrice u, ← sixth_thrice v, ← sixth_twice u, ← sixth_twice v) (by_high_bits u v l
    (λ h. three_less k (u / 64) (v / 64) (next u ∷ xs) (next v ∷ ys) h)
    (λ e. tail_less (k + u / 64 / 4096) (k + v / 64 / 4096) (next (u / 64 / 64) ∷ next (u / 64) ∷ next u ∷ xs) (next (v / 64 / 64) ∷ next (v / 64) ∷ next v ∷ ys) (ap (λ n. k + n / 4096) e)
    (tail_less (next (u / 64 / 64)) (next (v / 64 / 64)) (next (u / 64) ∷ next u ∷ xs) (next (v / 64) ∷ next v ∷ ys) (ap (λ n. next (n / 64)) e)
    (tail_less (next (u / 64)) (next (v / 64)) (next u ∷ xs) (next v ∷ ys) (ap next e) (last_less u v xs ys l e)))))

encode_two : (c : ℕ) → 128 ≤ c → c < 2048 → encode c ≡ (192 + c / 64) ∷ next c ∷ []
unfolding encode
encode_two c l h = rw (le-ltb c 128 l, lt-ltb c 2048 h) refl

encode_three : (c : ℕ) → 2048 ≤ c → c < 65536 → encode c ≡ (224 + c / 4096) ∷ next (c / 64) ∷ next c ∷ []
unfolding encode
encode_three c l h = rw (le-ltb c 128 (omega arith), le-ltb c 2048 l, lt-ltb c 65536 h) refl

encode_four : (c : ℕ) → 65536 ≤ c → encode c ≡ (240 + c / 262144) ∷ next (c / 4096) ∷ next (c / 64) ∷ next c ∷ []
unfolding encode
encode_four c l = rw (le-ltb c 128 (omega arith), le-ltb c 2048 (omega arith), le-ltb c 65536 l) refl

module _ (c d : ℕ) (xs ys : List ℕ) (l : c < d) where
  to_one : d < 128 → slice_cmp nat_cmp (encode c ++ xs) (encode d ++ ys) ≡ Less
  to_one h = rw (encode_ascii c (omega arith), encode_ascii d h) (head_less c d xs ys l)

  to_two : 128 ≤ d → d < 2048 → slice_cmp nat_cmp (encode c ++ xs) (encode d ++ ys) ≡ Less
  to_two a h = rw (encode_two d a h) (⊎_elim
      (λ k. rw (encode_ascii c k) (head_less c (192 + d / 64) xs (next d ∷ ys) (omega arith)))
      (λ k. rw (encode_two c k (omega arith)) (two_less 192 c d xs ys l))
      (cases_lt c 128))

  to_three : 2048 ≤ d → d < 65536 → slice_cmp nat_cmp (encode c ++ xs) (encode d ++ ys) ≡ Less
  to_three a h = rw (encode_three d a h) (⊎_elim
      (λ k. rw (encode_ascii c k) (head_less c (224 + d / 4096) xs (next (d / 64) ∷ next d ∷ ys) (omega arith)))
      (λ k. ⊎_elim
      (λ m. rw (encode_two c k m) (head_less (192 + c / 64) (224 + d / 4096) (next c ∷ xs) (next (d / 64) ∷ next d ∷ ys) (omega arith)))
      (λ m. rw (encode_three c m (omega arith)) (three_less 224 c d xs ys l))
      (cases_lt c 2048))
      (cases_lt c 128))

  to_four : 65536 ≤ d → slice_cmp nat_cmp (encode c ++ xs) (encode d ++ ys) ≡ Less
  to_four a = rw (encode_four d a) (⊎_elim
      (λ k. rw (encode_ascii c k) (head_less c (240 + d / 262144) xs (next (d / 4096) ∷ next (d / 64) ∷ next d ∷ ys) (omega arith)))
      (λ k. ⊎_elim
      (λ m. rw (encode_two c k m) (head_less (192 + c / 64) (240 + d / 262144) (next c ∷ xs) (next (d / 4096) ∷ next (d / 64) ∷ next d ∷ ys) (omega arith)))
      (λ m. ⊎_elim
      (λ o. rw (encode_three c m o) (head_less (224 + c / 4096) (240 + d / 262144) (next (c / 64) ∷ next c ∷ xs) (next (d / 4096) ∷ next (d / 64) ∷ next d ∷ ys) (omega arith)))
      (λ o. rw (encode_four c o) (four_less 240 c d xs ys l))
      (cases_lt c 65536))
      (cases_lt c 2048))
      (cases_lt c 128))

  encode_less : slice_cmp nat_cmp (encode c ++ xs) (encode d ++ ys) ≡ Less
  encode_less = ⊎_elim to_one
      (λ a. ⊎_elim (to_two a) (λ b. ⊎_elim (to_three b) to_four (cases_lt d 65536)) (cases_lt d 2048))
      (cases_lt d 128)

-- ---- two texts

some_bytes : (c : ℕ) (xs : List ℕ) → 0 < length (encode c ++ xs)
some_bytes c xs = omega (arith, length-append (encode c) xs, length-encode c, (len_utf8_bounds c).0)

less_head : (c d : ℕ) (a b : List ℕ) → c < d → less (c ∷ a) (d ∷ b) ≡ true
less_head c d a b l = ap (λ t. t || ((c == d) && less a b)) (lt-ltb c d l)

less_tail : (c d : ℕ) (a b : List ℕ) → c ≡ d → less (c ∷ a) (d ∷ b) ≡ less a b
less_tail c d a b e = ap₂ (λ s t. s || (t && less a b)) (le-ltb c d (omega arith)) (eq-eqb c d e)

less_not : (c d : ℕ) (a b : List ℕ) → d < c → less (c ∷ a) (d ∷ b) ≡ false
less_not c d a b l = ap₂ (λ s t. s || (t && less a b)) (le-ltb c d (omega arith)) (ne_eqb c d (λ e. absurd (omega arith)))

order_same : (c d : ℕ) (cs ds : List ℕ) → c ≡ d → is_lt (slice_cmp nat_cmp (encodes cs) (encodes ds)) ≡ less cs ds → is_lt (slice_cmp nat_cmp (encode c ++ encodes cs) (encode d ++ encodes ds)) ≡ less (c ∷ cs) (d ∷ ds)
order_same c d cs ds e h =
    ap (λ x. is_lt (slice_cmp nat_cmp (encode c ++ encodes cs) (encode x ++ encodes ds))) (sym e)
    ∙ (ap is_lt (front_same (encode c) (encodes cs) (encodes ds)) ∙ (h ∙ sym (less_tail c d cs ds e)))

order_before : (c d : ℕ) (cs ds : List ℕ) → c < d → is_lt (slice_cmp nat_cmp (encode c ++ encodes cs) (encode d ++ encodes ds)) ≡ less (c ∷ cs) (d ∷ ds)
order_before c d cs ds l = ap is_lt (encode_less c d (encodes cs) (encodes ds) l) ∙ sym (less_head c d cs ds l)

order_behind : (c d : ℕ) (cs ds : List ℕ) → d < c → is_lt (slice_cmp nat_cmp (encode c ++ encodes cs) (encode d ++ encodes ds)) ≡ less (c ∷ cs) (d ∷ ds)
order_behind c d cs ds l =
    ap is_lt (nat_list_cmp_total.antisymm (encode c ++ encodes cs) (encode d ++ encodes ds) ∙ ap ordering_reverse (encode_less d c (encodes ds) (encodes cs) l))
    ∙ sym (less_not c d cs ds l)

encodes_order : (cs ds : List ℕ) → is_lt (slice_cmp nat_cmp (encodes cs) (encodes ds)) ≡ less cs ds
encodes_order [] [] = refl
encodes_order [] (d ∷ ds) = ap is_lt (empty_less (encode d ++ encodes ds) (some_bytes d (encodes ds)))
encodes_order (c ∷ cs) [] = ap is_lt (more_greater (encode c ++ encodes cs) (some_bytes c (encodes cs)))
encodes_order (c ∷ cs) (d ∷ ds) = ⊎_elim
    (λ e. order_same c d cs ds e (encodes_order cs ds))
    (λ other. ⊎_elim (order_before c d cs ds) (order_behind c d cs ds) other)
    (cases_order c d)

pub text_order : (a b : List ℕ) (r : Bool) → IsUtf8 a → IsUtf8 b → r ≡ is_lt (slice_cmp nat_cmp a b) → r ≡ less (chars a) (chars b)
text_order a b r u v h =
    h ∙ (ap₂ (λ x y. is_lt (slice_cmp nat_cmp x y)) (sym (encodes-chars a u)) (sym (encodes-chars b v)) ∙ encodes_order (chars a) (chars b))
