-- The words of a text, and that they are the only list of texts that stand in it between blanks.
use Rattle.std.proofs.Common.{◌≡◌, ◌≢◌, ◌∙◌, ◌||◌, ℕ, Bool, true, false, List, [], ◌∷◌, ◌++◌, if◌then◌else◌, filter, sym, refl, ap, subst, append_assoc, append-nil}
use Rattle.std.specs.List.{list_all, list_any}
use Rattle.std.proofs.lemmas.Bool.{and_from, and_parts, or_from}
use Rattle.std.proofs.lemmas.List.Folds.{list_any-append}
use Rattle.tx_text.specs.Text.{is_blank, is_some_text, onto_first, split_where, words}
use Rattle.tx_text.specs.Laws.{StandBetweenBlanks, WordsLaw}

-- a text in front of the first piece
abbrev pub onto_word : List ℕ → List (List ℕ) → List (List ℕ)
onto_word word [] = word ∷ []
onto_word word (piece ∷ pieces) = (word ++ piece) ∷ pieces

onto_word-onto_first : (word : List ℕ) (x : ℕ) (pieces : List (List ℕ)) → onto_word word (onto_first x pieces) ≡ onto_word (word ++ x ∷ []) pieces
onto_word-onto_first word x [] = refl
onto_word-onto_first word x (piece ∷ pieces) = ap (λ t. t ∷ pieces) (sym (append_assoc word (x ∷ []) piece))

onto_nothing-step : (x : ℕ) (b : Bool) (pieces : List (List ℕ)) → onto_word [] (if b then [] ∷ pieces else onto_first x pieces) ≡ (if b then [] ∷ pieces else onto_first x pieces)
onto_nothing-step x true pieces = refl
onto_nothing-step x false [] = refl
onto_nothing-step x false (piece ∷ pieces) = refl

pub onto_nothing : (p : ℕ → Bool) (text : List ℕ) → onto_word [] (split_where p text) ≡ split_where p text
onto_nothing p [] = refl
onto_nothing p (x ∷ text) = onto_nothing-step x (p x) (split_where p text)

split_on : (p : ℕ → Bool) (x : ℕ) (text : List ℕ) → p x ≡ true → split_where p (x ∷ text) ≡ [] ∷ split_where p text
split_on p x text e = rw e refl

split_off : (p : ℕ → Bool) (x : ℕ) (text : List ℕ) → p x ≡ false → split_where p (x ∷ text) ≡ onto_first x (split_where p text)
split_off p x text e = rw e refl

-- ---- a loop over the characters of a word

-- one character further in a word
pub front_more : (all front rest more : List ℕ) (c : ℕ) → rest ≡ c ∷ more → all ≡ front ++ rest → all ≡ (front ++ c ∷ []) ++ more
front_more all front rest more c e w = w ∙ ap (λ t. front ++ t) e ∙ sym (append_assoc front (c ∷ []) more)

pub split_more : (p : ℕ → Bool) (all front rest more : List ℕ) (c : ℕ) → rest ≡ c ∷ more → p c ≡ false
    → split_where p all ≡ onto_word front (split_where p rest) → split_where p all ≡ onto_word (front ++ c ∷ []) (split_where p more)
split_more p all front rest more c e off a =
    a ∙ ap (λ t. onto_word front (split_where p t)) e ∙ ap (onto_word front) (split_off p c more off) ∙ onto_word-onto_first front c (split_where p more)

-- a blank ends it
pub split_here : (p : ℕ → Bool) (all front rest more : List ℕ) (c : ℕ) → rest ≡ c ∷ more → p c ≡ true
    → split_where p all ≡ onto_word front (split_where p rest) → split_where p all ≡ front ∷ split_where p more
split_here p all front rest more c e on a =
    a ∙ ap (λ t. onto_word front (split_where p t)) e ∙ ap (onto_word front) (split_on p c more on) ∙ ap (λ t. t ∷ split_where p more) (append-nil front)

-- ---- a loop over the words

filter_first : (word : List ℕ) (pieces : List (List ℕ)) → filter is_some_text (word ∷ pieces) ≡ filter is_some_text (word ∷ []) ++ filter is_some_text pieces
filter_first [] pieces = refl
filter_first (x ∷ word) pieces = refl

pub words_more : (p : ℕ → Bool) (rest word behind : List ℕ) (all found next : List (List ℕ)) → split_where p rest ≡ word ∷ split_where p behind
    → all ≡ found ++ filter is_some_text (split_where p rest) → next ≡ found ++ filter is_some_text (word ∷ [])
    → all ≡ next ++ filter is_some_text (split_where p behind)
words_more p rest word behind all found next s a n =
    a ∙ ap (λ t. found ++ t) (ap (λ t. filter is_some_text t) s ∙ filter_first word (split_where p behind))
    ∙ sym (ap (λ t. t ++ filter is_some_text (split_where p behind)) n ∙ append_assoc found (filter is_some_text (word ∷ [])) (filter is_some_text (split_where p behind)))

pub words_all : (p : ℕ → Bool) (rest : List ℕ) (all found next : List (List ℕ)) → split_where p rest ≡ rest ∷ []
    → all ≡ found ++ filter is_some_text (split_where p rest) → next ≡ found ++ filter is_some_text (rest ∷ []) → next ≡ all
words_all p rest all found next s a n = n ∙ sym (a ∙ ap (λ t. found ++ filter is_some_text t) s)

pub filter_nothing : (text : List ℕ) (found : List (List ℕ)) → text ≡ [] → found ≡ found ++ filter is_some_text (text ∷ [])
filter_nothing text found e = rw e (sym (append-nil found))

pub filter_some : (text : List ℕ) (found next : List (List ℕ)) → text ≢ [] → next ≡ found ++ text ∷ [] → next ≡ found ++ filter is_some_text (text ∷ [])
filter_some [] found next some n = absurd (some refl)
filter_some (x ∷ text) found next some n = n

-- ---- the words are such a list

-- a blank in front changes nothing
behind_blank : (c : ℕ) (text : List ℕ) (texts : List (List ℕ)) → is_blank c ≡ true → StandBetweenBlanks text texts → StandBetweenBlanks (c ∷ text) texts
behind_blank c text [] on stand = and_from (is_blank c) (list_all is_blank text) on stand
behind_blank c text (word ∷ texts) on stand =
    let first = stand.1.0 in (
      stand.0,
      (
        record {
          blanks = c ∷ first.blanks;
          whole = ap (λ t. c ∷ t) first.whole;
          all_blank = and_from (is_blank c) (list_all is_blank first.blanks) on first.all_blank;
          some = first.some;
          none_blank = first.none_blank;
          ends = first.ends;
        },
        stand.1.1,
      ),
    )

-- a word at the front, up to a blank or the end
word_first : (word behind : List ℕ) (texts : List (List ℕ)) → list_any is_blank word ≡ false
    → ((c : ℕ) (rest : List ℕ) → behind ≡ c ∷ rest → is_blank c ≡ true)
    → StandBetweenBlanks behind texts → StandBetweenBlanks (word ++ behind) (filter is_some_text (word ∷ []) ++ texts)
word_first [] behind texts none ends stand = stand
word_first (x ∷ word) behind texts none ends stand = (
  behind,
  (record { blanks = []; whole = refl; all_blank = refl; some = refl; none_blank = none; ends = ends }, stand),
)

longer_word : (word : List ℕ) (x : ℕ) → list_any is_blank word ≡ false → is_blank x ≡ false → list_any is_blank (word ++ x ∷ []) ≡ false
longer_word word x none off =
    list_any-append is_blank word (x ∷ []) ∙ or_from (list_any is_blank word) (list_any is_blank (x ∷ [])) none (or_from (is_blank x) false off refl)

stand_step : (word text : List ℕ) (x : ℕ) (b : Bool) → is_blank x ≡ b → list_any is_blank word ≡ false
    → ((more : List ℕ) → list_any is_blank more ≡ false → StandBetweenBlanks (more ++ text) (filter is_some_text (onto_word more (split_where is_blank text))))
    → StandBetweenBlanks (word ++ (x ∷ text)) (filter is_some_text (onto_word word (if b then [] ∷ split_where is_blank text else onto_first x (split_where is_blank text))))
stand_step word text x true on none rest =
    let behind : StandBetweenBlanks text (filter is_some_text (split_where is_blank text)) =
    subst (λ t. StandBetweenBlanks text (filter is_some_text t)) (onto_nothing is_blank text) (rest [] refl) in
    let more : StandBetweenBlanks (x ∷ text) (filter is_some_text (split_where is_blank text)) = behind_blank x text (filter is_some_text (split_where is_blank text)) on behind in
    let ends : (c : ℕ) (more : List ℕ) → x ∷ text ≡ c ∷ more → is_blank c ≡ true =
    λ c more e. let same : x ≡ c = cc in subst (λ d. is_blank d ≡ true) same on in
    subst (StandBetweenBlanks (word ++ (x ∷ text)))
    (sym (ap (λ t. filter is_some_text (t ∷ split_where is_blank text)) (append-nil word) ∙ filter_first word (split_where is_blank text)))
    (word_first word (x ∷ text) (filter is_some_text (split_where is_blank text)) none ends more)
stand_step word text x false off none rest =
    subst (λ t. StandBetweenBlanks t (filter is_some_text (onto_word word (onto_first x (split_where is_blank text))))) (append_assoc word (x ∷ []) text)
    (subst (λ t. StandBetweenBlanks ((word ++ x ∷ []) ++ text) (filter is_some_text t)) (sym (onto_word-onto_first word x (split_where is_blank text)))
    (rest (word ++ x ∷ []) (longer_word word x none off)))

stand : (text word : List ℕ) → list_any is_blank word ≡ false → StandBetweenBlanks (word ++ text) (filter is_some_text (onto_word word (split_where is_blank text)))
stand [] word none =
    let ends : (c : ℕ) (more : List ℕ) → [] ≡ c ∷ more → is_blank c ≡ true = λ c more e. absurd (cc) in
    subst (λ t. StandBetweenBlanks (word ++ []) (filter is_some_text (t ∷ []))) (sym (append-nil word))
    (subst (StandBetweenBlanks (word ++ [])) (append-nil (filter is_some_text (word ∷ []))) (word_first word [] [] none ends refl))
stand (x ∷ text) word none = stand_step word text x (is_blank x) refl none (λ more lack. stand text more lack)

words_stand : (text : List ℕ) → StandBetweenBlanks text (words text)
words_stand text = subst (λ t. StandBetweenBlanks text (filter is_some_text t)) (onto_nothing is_blank text) (stand text [] refl)

-- ---- and no other list is

words_blank : (x : ℕ) (text : List ℕ) → is_blank x ≡ true → words (x ∷ text) ≡ words text
words_blank x text on = ap (λ t. filter is_some_text t) (split_on is_blank x text on)

words_blanks : (blanks text : List ℕ) → list_all is_blank blanks ≡ true → words (blanks ++ text) ≡ words text
words_blanks [] text all = refl
words_blanks (x ∷ blanks) text all =
    let both = and_parts (is_blank x) (list_all is_blank blanks) all in
    words_blank x (blanks ++ text) both.0 ∙ words_blanks blanks text both.1

no_words : (text : List ℕ) → list_all is_blank text ≡ true → words text ≡ []
no_words text all = sym (ap words (append-nil text)) ∙ words_blanks text [] all

not_or : (a b : Bool) → (a || b) ≡ false → (a ≡ false) × (b ≡ false)
not_or true b e = cc e
not_or false b e = (refl, e)

split_word : (word text : List ℕ) → list_any is_blank word ≡ false → split_where is_blank (word ++ text) ≡ onto_word word (split_where is_blank text)
split_word [] text none = sym (onto_nothing is_blank text)
split_word (x ∷ word) text none =
    let both = not_or (is_blank x) (list_any is_blank word) none in
    split_off is_blank x (word ++ text) both.0 ∙ ap (onto_first x) (split_word word text both.1) ∙ front x word (split_where is_blank text)
  where
    front : (x : ℕ) (word : List ℕ) (pieces : List (List ℕ)) → onto_first x (onto_word word pieces) ≡ onto_word (x ∷ word) pieces
    front x word [] = refl
    front x word (piece ∷ pieces) = refl

split_behind : (behind : List ℕ) → ((c : ℕ) (rest : List ℕ) → behind ≡ c ∷ rest → is_blank c ≡ true)
    → (pieces : List (List ℕ)) × (split_where is_blank behind ≡ [] ∷ pieces) × (filter is_some_text pieces ≡ words behind)
split_behind [] ends = ([], refl, refl)
split_behind (x ∷ rest) ends =
    let on : is_blank x ≡ true = ends x rest refl in
    (split_where is_blank rest, split_on is_blank x rest on, sym (words_blank x rest on))

filter_word : (word : List ℕ) (pieces : List (List ℕ)) → is_some_text word ≡ true → filter is_some_text (word ∷ pieces) ≡ word ∷ filter is_some_text pieces
filter_word word pieces some = rw some refl

words_word : (word behind : List ℕ) → is_some_text word ≡ true → list_any is_blank word ≡ false
    → ((c : ℕ) (rest : List ℕ) → behind ≡ c ∷ rest → is_blank c ≡ true) → words (word ++ behind) ≡ word ∷ words behind
words_word word behind some none ends =
    let cut = split_behind behind ends in
    ap (λ t. filter is_some_text t) (split_word word behind none ∙ ap (onto_word word) cut.1 ∙ ap (λ t. t ∷ cut.0) (append-nil word))
    ∙ filter_word word cut.0 some ∙ ap (λ t. word ∷ t) cut.2

only_words : (text : List ℕ) (texts : List (List ℕ)) → StandBetweenBlanks text texts → texts ≡ words text
only_words text [] all = sym (no_words text all)
only_words text (word ∷ texts) stand =
    let first = stand.1.0 in
    ap (λ t. word ∷ t) (only_words stand.0 texts stand.1.1)
    ∙ sym (ap words first.whole ∙ words_blanks first.blanks (word ++ stand.0) first.all_blank ∙ words_word word stand.0 first.some first.none_blank first.ends)

pub words_law : WordsLaw
words_law text texts = (λ is. subst (StandBetweenBlanks text) (sym is) (words_stand text), only_words text texts)
