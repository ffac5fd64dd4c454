-- What Python's `int` reads of a text (Library Reference, `int`), within this project's profile of characters.
use Rattle.std.specs.Prelude.{ℕ, ◌==◌, ◌&&◌, ◌||◌, Bool, true, false, not, List, [], ◌∷◌, codes, filter, if◌then◌else◌, ℤ, pos, neg_ℤ}
use Rattle.std.specs.List.{list_all, list_any}
use Rattle.std.specs.Str.Parse.{digits_value}
use Rattle.ucd_category.specs.GeneralCategory.{general_category}
use Rattle.ucd_category.specs.declared.GeneralCategory.{GeneralCategory}
use Rattle.ucd_category.specs.declared.GeneralCategory.TheVariants.{DecimalNumber}
use Rattle.tx_text.specs.Text.{is_ascii, is_ascii_digit, is_between, is_blank, is_some_text, pieces, stripped}
use Rattle.tx_text.specs.declared.strip.Side.TheVariants.{Both}
use Rattle.tx_base.specs.Width.{is_128_bit}
use Rattle.tx_num.specs.declared.read.IntRead.{IntRead}
use Rattle.tx_num.specs.declared.read.IntRead.TheVariants.{Value, NotInt, Past, OutOfProfile}

-- ---- the profile: no separators of ASCII, and no decimal digits past ASCII (general category Nd)

abbrev pub is_decimal_number : GeneralCategory → Bool
is_decimal_number DecimalNumber = true
is_decimal_number _ = false

abbrev pub is_outside : ℕ → Bool
is_outside c = is_between 0x1C 0x1F c || (not (is_ascii c) && is_decimal_number (general_category c))

-- ---- the grammar

-- one or more digits
abbrev pub is_digits : List ℕ → Bool
is_digits text = is_some_text text && list_all is_ascii_digit text

-- digits with single underscores between them: each piece between underscores is one or more digits
abbrev pub is_number : List ℕ → Bool
is_number text = list_all is_digits (pieces (codes "_") text)

abbrev pub with_sign : Bool → ℕ → ℤ
with_sign negative n = if negative then neg_ℤ (pos n) else pos n

-- a number, where it has 128 bits
abbrev pub value_read : ℤ → IntRead
value_read n = if is_128_bit n then Value n else Past

-- what stands behind the sign
abbrev pub read_digits : Bool → List ℕ → IntRead
read_digits negative text =
    if is_number text then value_read (with_sign negative (digits_value 10 (filter is_ascii_digit text)))
    else NotInt

-- a sign may stand first
abbrev pub read_signed : List ℕ → IntRead
read_signed [] = NotInt
read_signed (c ∷ text) =
    if c == 45 then read_digits true text
    else if c == 43 then read_digits false text
    else read_digits false (c ∷ text)

-- `int(text)`: whitespace at the ends counts for nothing
abbrev pub read_int : List ℕ → IntRead
read_int text = if list_any is_outside text then OutOfProfile else read_signed (stripped Both is_blank text)
