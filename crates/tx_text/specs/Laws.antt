-- Laws above the definitions of `Text`. Each is the contract of a function with an empty body, which is named at it.
use Rattle.std.specs.Prelude.{◌≡◌, ◌≢◌, ◌↔◌, ℕ, ◌+◌, ◌<◌, ◌≤◌, ◌++◌, Bool, true, false, List, [], ◌∷◌, Option, Some, None, length, drop, map, replicate}
use Rattle.std.specs.List.{AllByRecursion, list_all, list_any}
use Rattle.tx_text.specs.Text.{begins, count_of, first_place, is_blank, is_sign, is_some_text, joined, last_place, pieces, replaced, stripped, words, zeros_behind}
use Rattle.tx_text.specs.declared.strip.Side.{Side}
use Rattle.tx_text.specs.declared.strip.Side.TheVariants.{Both, Left, Right}

-- ---- places: `places_are_least_and_greatest`

-- a part stands at a place, or at none
abbrev pub StandsAt : List ℕ → List ℕ → ℕ → Type 0
StandsAt part text place = begins part (drop place text) ≡ true

abbrev pub StandsNot : List ℕ → List ℕ → ℕ → Type 0
StandsNot part text place = begins part (drop place text) ≡ false

-- the least place where a part stands, or none where it stands nowhere
abbrev pub IsLeastPlace : List ℕ → List ℕ → Option ℕ → Type 0
IsLeastPlace part text None = (k : ℕ) → k ≤ length text → StandsNot part text k
IsLeastPlace part text (Some place) =
    (place ≤ length text) × (StandsAt part text place × ((k : ℕ) → k < place → StandsNot part text k))

-- the greatest one
abbrev pub IsGreatestPlace : List ℕ → List ℕ → Option ℕ → Type 0
IsGreatestPlace part text None = (k : ℕ) → k ≤ length text → StandsNot part text k
IsGreatestPlace part text (Some place) =
    (place ≤ length text) × (StandsAt part text place × ((k : ℕ) → place < k → k ≤ length text → StandsNot part text k))

abbrev pub PlacesLaw : Type 0
PlacesLaw = (part text : List ℕ) → IsLeastPlace part text (first_place part text) × IsGreatestPlace part text (last_place part text)

-- ---- pieces: `pieces_are_the_text`, `pieces_end_at_first_places`

-- the pieces joined by the separator are the text, and no piece contains it
abbrev pub PiecesLaw : Type 0
PiecesLaw = (sep text : List ℕ) → sep ≢ []
    → (joined sep (pieces sep text) ≡ text) × AllByRecursion (λ piece. first_place sep piece ≡ None) (pieces sep text)

-- a text is cut at the first place of a part
pub record IsFirstSplit (part text before behind : List ℕ) : Type 0 where
  pub whole : text ≡ before ++ (part ++ behind)
  pub place : first_place part text ≡ Some (length before)

-- each piece but the last ends at the first place of the separator in what is left of the text, and the last has none
abbrev pub EndAtFirstPlaces : List ℕ → List ℕ → List (List ℕ) → Type 0
EndAtFirstPlaces sep text [] = ⊥
EndAtFirstPlaces sep text (piece ∷ []) = (piece ≡ text) × (first_place sep text ≡ None)
EndAtFirstPlaces sep text (piece ∷ next ∷ texts) =
    (behind : List ℕ) × (IsFirstSplit sep text piece behind × EndAtFirstPlaces sep behind (next ∷ texts))

-- the pieces are the only such list
abbrev pub FirstCutsLaw : Type 0
FirstCutsLaw = (sep text : List ℕ) (texts : List (List ℕ)) → sep ≢ [] → (texts ≡ pieces sep text) ↔ EndAtFirstPlaces sep text texts

-- ---- `count`: `counts_are_of_pieces`

-- one less than the pieces; the empty part stands before each character and at the end
abbrev pub CountLaw : Type 0
CountLaw = (part text : List ℕ)
    → (part ≢ [] → count_of part text + 1 ≡ length (pieces part text)) × (part ≡ [] → count_of part text ≡ length text + 1)

-- ---- `replace`: `replacing_is_joining`

-- the empty part cuts a text before each character and at the end
abbrev pub cut_everywhere : List ℕ → List (List ℕ)
cut_everywhere text = [] ∷ (map (λ c. c ∷ []) text ++ [] ∷ [])

-- the pieces with the new part between them
abbrev pub ReplaceLaw : Type 0
ReplaceLaw = (old new text : List ℕ)
    → (old ≢ [] → replaced old new text ≡ joined new (pieces old text)) × (old ≡ [] → replaced old new text ≡ joined new (cut_everywhere text))

-- ---- words: `words_stand_between_blanks`

-- behind blanks stands a word that is not empty and has no blank, and then comes a blank or the end
pub record IsFirstWord (text word behind : List ℕ) : Type 0 where
  pub blanks : List ℕ
  pub whole : text ≡ blanks ++ (word ++ behind)
  pub all_blank : list_all is_blank blanks ≡ true
  pub some : is_some_text word ≡ true
  pub none_blank : list_any is_blank word ≡ false
  pub ends : (c : ℕ) (rest : List ℕ) → behind ≡ c ∷ rest → is_blank c ≡ true

-- each is the first word of what is left of the text, and behind the last are blanks alone
abbrev pub StandBetweenBlanks : List ℕ → List (List ℕ) → Type 0
StandBetweenBlanks text [] = list_all is_blank text ≡ true
StandBetweenBlanks text (word ∷ texts) = (behind : List ℕ) × (IsFirstWord text word behind × StandBetweenBlanks behind texts)

-- the words are the only such list
abbrev pub WordsLaw : Type 0
WordsLaw = (text : List ℕ) (texts : List (List ℕ)) → (texts ≡ words text) ↔ StandBetweenBlanks text texts

-- ---- `strip`: `stripped_ends_are_clean`

-- what was taken off the front of what is left are such characters, and what is left begins with none
pub record IsCleanFront (p : ℕ → Bool) (taken left : List ℕ) : Type 0 where
  pub such : list_all p taken ≡ true
  pub clean : (c : ℕ) (rest : List ℕ) → left ≡ c ∷ rest → p c ≡ false

-- the same at the end
pub record IsCleanBack (p : ℕ → Bool) (left taken : List ℕ) : Type 0 where
  pub such : list_all p taken ≡ true
  pub clean : (rest : List ℕ) (c : ℕ) → left ≡ rest ++ c ∷ [] → p c ≡ false

-- from an end that is not stripped nothing is taken
abbrev pub FrontIsTaken : Side → (ℕ → Bool) → List ℕ → List ℕ → Type 0
FrontIsTaken Both p taken left = IsCleanFront p taken left
FrontIsTaken Left p taken left = IsCleanFront p taken left
FrontIsTaken Right p taken left = taken ≡ []

abbrev pub BackIsTaken : Side → (ℕ → Bool) → List ℕ → List ℕ → Type 0
BackIsTaken Both p left taken = IsCleanBack p left taken
BackIsTaken Left p left taken = taken ≡ []
BackIsTaken Right p left taken = IsCleanBack p left taken

pub record IsStripped (side : Side) (p : ℕ → Bool) (text left : List ℕ) : Type 0 where
  pub front : List ℕ
  pub back : List ℕ
  pub whole : text ≡ front ++ (left ++ back)
  pub front_taken : FrontIsTaken side p front left
  pub back_taken : BackIsTaken side p left back

abbrev pub StripLaw : Type 0
StripLaw = (side : Side) (p : ℕ → Bool) (text : List ℕ) → IsStripped side p text (stripped side p text)

-- ---- `zfill`: `zeros_stand_behind_the_sign`

-- so many zeros more than the text, behind its sign, or in front where it begins with none
pub record IsZeroFilled (zeros : ℕ) (text filled : List ℕ) : Type 0 where
  pub count : length filled ≡ zeros + length text
  pub signed : (sign : ℕ) (rest : List ℕ) → text ≡ sign ∷ rest → is_sign sign ≡ true → filled ≡ sign ∷ (replicate zeros 48 ++ rest)
  pub unsigned : ((sign : ℕ) (rest : List ℕ) → text ≡ sign ∷ rest → is_sign sign ≡ false) → filled ≡ replicate zeros 48 ++ text

abbrev pub ZerosLaw : Type 0
ZerosLaw = (zeros : ℕ) (text : List ℕ) → IsZeroFilled zeros text (zeros_behind zeros text)
