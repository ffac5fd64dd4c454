-- Texts as lists of code points: what Python's `str` does with them (built-in types, "Text Sequence Type").
use Rattle.std.specs.Prelude.{ℕ, zero, suc, ◌+◌, ◌-◌, ◌==◌, ◌&&◌, ◌||◌, ◌++◌, Bool, true, false, not, nat_le, nat_lt, List, [], ◌∷◌, Option, Some, None, if◌then◌else◌, length, take, drop, filter, replicate, option_map, codes}
use Rattle.std.specs.List.{list_all, list_any, flat_map, prefix_len, suffix_len}
use Rattle.tx_text.specs.declared.strip.Side.{Side}
use Rattle.tx_text.specs.declared.strip.Side.TheVariants.{Both, Left, Right}

-- ---- parts

-- the characters from a place to before another, clamped (common sequence operations, `s[i:j]`)
abbrev pub part_of : ℕ → ℕ → List ℕ → List ℕ
part_of from to text = take (to - from) (drop from text)

-- a part stands at the front
abbrev pub begins : List ℕ → List ℕ → Bool
begins [] text = true
begins (c ∷ part) [] = false
begins (c ∷ part) (x ∷ text) = (c == x) && begins part text

-- "ab" begins "abc", and "b" does not

-- the first place where a part stands (`str.find`)
abbrev pub first_place : List ℕ → List ℕ → Option ℕ
first_place part [] = if begins part [] then Some 0 else None
first_place part (x ∷ text) = if begins part (x ∷ text) then Some 0 else option_map suc (first_place part text)

-- of "b" in "abab" it is 1, and of "" it is 0

-- the later of a place in the rest and this one
abbrev pub later_place : Bool → Option ℕ → Option ℕ
later_place here (Some place) = Some (suc place)
later_place here None = if here then Some 0 else None

-- the last place where a part stands (`str.rfind`)
abbrev pub last_place : List ℕ → List ℕ → Option ℕ
last_place part [] = if begins part [] then Some 0 else None
last_place part (x ∷ text) = later_place (begins part (x ∷ text)) (last_place part text)

-- of "b" in "abab" it is 3, and of "" in "ab" it is 2

-- ---- order: by code points, and a text before its continuations (`<` on texts)

abbrev pub less : List ℕ → List ℕ → Bool
less [] [] = false
less [] (d ∷ b) = true
less (c ∷ a) [] = false
less (c ∷ a) (d ∷ b) = nat_lt c d || ((c == d) && less a b)

-- "ab" < "abc" < "b"

-- ---- pieces between occurrences from the left that do not overlap (`str.split` with a separator)

-- a character in front of the first piece
abbrev pub onto_first : ℕ → List (List ℕ) → List (List ℕ)
onto_first c [] = (c ∷ []) ∷ []
onto_first c (piece ∷ pieces) = (c ∷ piece) ∷ pieces

-- the same where the next `skip` characters belong to an occurrence
abbrev pub pieces_from : List ℕ → ℕ → List ℕ → List (List ℕ)
pieces_from sep skip [] = [] ∷ []
pieces_from sep (suc skip) (x ∷ text) = pieces_from sep skip text
pieces_from sep zero (x ∷ text) =
    if begins sep (x ∷ text) then [] ∷ pieces_from sep (length sep - 1) text else onto_first x (pieces_from sep zero text)

abbrev pub pieces : List ℕ → List ℕ → List (List ℕ)
pieces sep text = pieces_from sep 0 text

-- "a,,b" at "," is "a", "" and "b"; "aaaa" at "aaa" is "" and "a"

-- how often a part stands there without overlaps (`str.count`); an empty one before each character and at the end
abbrev pub count_of : List ℕ → List ℕ → ℕ
count_of [] text = length text + 1
count_of (c ∷ part) text = length (pieces (c ∷ part) text) - 1

-- "aa" stands twice in "aaaaa", and "" three times in "ab"

-- texts with one between them (`str.join`)
abbrev pub joined : List ℕ → List (List ℕ) → List ℕ
joined sep [] = []
joined sep (text ∷ []) = text
joined sep (text ∷ next ∷ texts) = text ++ (sep ++ joined sep (next ∷ texts))

-- "a" and "b" with ", " are "a, b"

-- a text before each character and at the end
abbrev pub between : List ℕ → List ℕ → List ℕ
between new [] = new
between new (x ∷ text) = new ++ (x ∷ between new text)

-- "-" and "ab" are "-a-b-"

-- each occurrence replaced (`str.replace`)
abbrev pub replaced : List ℕ → List ℕ → List ℕ → List ℕ
replaced [] new text = between new text
replaced (c ∷ old) new text = joined new (pieces (c ∷ old) text)

-- "a" by "xy" in "banana" is "bxynxynxy"

-- a text so many times (`s * n`)
abbrev pub repeated : ℕ → List ℕ → List ℕ
repeated zero text = []
repeated (suc n) text = text ++ repeated n text

-- "ab" three times is "ababab"

-- ---- whitespace

abbrev pub is_between : ℕ → ℕ → ℕ → Bool
is_between first last c = nat_le first c && nat_le c last

-- the characters that `str.isspace` is true of
abbrev pub is_blank : ℕ → Bool
is_blank c = is_between 0x9 0xD c || (is_between 0x1C 0x20 c || ((c == 0x85) || ((c == 0xA0) || ((c == 0x1680)
    || (is_between 0x2000 0x200A c || ((c == 0x2028) || ((c == 0x2029) || ((c == 0x202F) || ((c == 0x205F) || (c == 0x3000))))))))))

-- the pieces between characters that pass a test, empty ones too
abbrev pub split_where : (ℕ → Bool) → List ℕ → List (List ℕ)
split_where p [] = [] ∷ []
split_where p (x ∷ text) = if p x then [] ∷ split_where p text else onto_first x (split_where p text)

-- " a  b" at blanks is "", "a", "" and "b"

abbrev pub is_some_text : List ℕ → Bool
is_some_text [] = false
is_some_text (c ∷ text) = true

-- the pieces between runs of whitespace (`str.split` without a separator)
abbrev pub words : List ℕ → List (List ℕ)
words text = filter is_some_text (split_where is_blank text)

-- of " a  b " they are "a" and "b"

-- the characters that are taken off: whitespace, or those of a text
abbrev pub is_taken : Option (List ℕ) → ℕ → Bool
is_taken None c = is_blank c
is_taken (Some those) c = list_any (λ d. d == c) those

abbrev pub without_front : (ℕ → Bool) → List ℕ → List ℕ
without_front p text = drop (prefix_len p text) text

abbrev pub without_back : (ℕ → Bool) → List ℕ → List ℕ
without_back p text = take (length text - suffix_len p text) text

-- the text without them at its ends (`str.strip`, `str.lstrip`, `str.rstrip`)
abbrev pub stripped : Side → (ℕ → Bool) → List ℕ → List ℕ
stripped Left p text = without_front p text
stripped Right p text = without_back p text
stripped Both p text = without_back p (without_front p text)

-- "a-a" without "a" is "-" at both sides, "-a" at the left one and "a-" at the right one

-- ---- digits, and case up to U+00FF

abbrev pub is_ascii : ℕ → Bool
is_ascii c = nat_lt c 128

abbrev pub is_ascii_digit : ℕ → Bool
is_ascii_digit c = is_between 48 57 c

-- whether all are digits (`str.isdigit`); none where characters past ASCII would decide
abbrev pub digits_of : List ℕ → Option Bool
digits_of [] = Some false
digits_of (c ∷ text) =
    if list_any (λ d. is_ascii d && not (is_ascii_digit d)) (c ∷ text) then Some false
    else if list_all is_ascii_digit (c ∷ text) then Some true
    else None

-- "12" is, "" and "1a" are not

-- zeros in front up to a width, behind a sign (`str.zfill`)
abbrev pub is_sign : ℕ → Bool
is_sign c = (c == 43) || (c == 45)

abbrev pub zeros_behind : ℕ → List ℕ → List ℕ
zeros_behind zeros [] = replicate zeros 48
zeros_behind zeros (c ∷ text) = if is_sign c then c ∷ (replicate zeros 48 ++ text) else replicate zeros 48 ++ (c ∷ text)

abbrev pub filled : ℕ → List ℕ → List ℕ
filled width text = zeros_behind (width - length text) text

-- "-7" at width 4 is "-007", and "12345" stays

-- A to Z, and U+00C0 to U+00DE without U+00D7
abbrev pub is_upper : ℕ → Bool
is_upper c = is_between 65 90 c || (is_between 0xC0 0xDE c && not (c == 0xD7))

-- a to z, and U+00E0 to U+00FE without U+00F7
abbrev pub is_lower : ℕ → Bool
is_lower c = is_between 97 122 c || (is_between 0xE0 0xFE c && not (c == 0xF7))

abbrev pub is_latin : ℕ → Bool
is_latin c = nat_le c 0xFF

abbrev pub lower_char : ℕ → ℕ
lower_char c = if is_upper c then c + 32 else c

-- ß is two letters; ÿ and µ have theirs past U+00FF
abbrev pub upper_char : ℕ → List ℕ
upper_char c =
    if is_lower c then (c - 32) ∷ []
    else if c == 0xDF then codes "SS"
    else if c == 0xFF then 0x178 ∷ []
    else if c == 0xB5 then 0x39C ∷ []
    else c ∷ []

abbrev pub lower_of : List ℕ → Option (List ℕ)
lower_of text = if list_all is_latin text then Some (flat_map (λ c. lower_char c ∷ []) text) else None

abbrev pub upper_of : List ℕ → Option (List ℕ)
upper_of text = if list_all is_latin text then Some (flat_map upper_char text) else None
