-- What is still to be read behind the front of a text. Only the parts of `read_int` speak of it.
use Rattle.std.specs.Prelude.{ℕ, ◌==◌, ◌&&◌, Bool, true, false, List, [], ◌∷◌, Option, Some, None, filter, if◌then◌else◌}
use Rattle.std.specs.List.{list_all, list_any}
use Rattle.std.specs.Str.Parse.{digits_value_after}
use Rattle.tx_text.specs.Text.{is_ascii_digit, is_blank, stripped, without_back}
use Rattle.tx_text.specs.declared.strip.Side.TheVariants.{Both}
use Rattle.tx_num.specs.ReadInt.{is_outside, read_signed, value_read, with_sign}
use Rattle.tx_num.specs.declared.read.IntRead.{IntRead}
use Rattle.tx_num.specs.declared.read.IntRead.TheVariants.{NotInt, Past, OutOfProfile}
use Rattle.tx_num.specs.declared.reading.Reading.{Reading}
use Rattle.tx_num.specs.declared.reading.Reading.TheVariants.{Blank, Number, Done}

-- digits with single underscores between them, and a digit last; the flag says that a digit stands right before
abbrev pub goes_on : Bool → List ℕ → Bool
goes_on after_digit [] = after_digit
goes_on after_digit (c ∷ text) =
    if is_ascii_digit c then goes_on true text
    else (c == 95) && (after_digit && goes_on false text)

-- a number with these digits at its end; none stands for one that is past 128 bits whatever follows
abbrev pub longer_read : Bool → Option ℕ → List ℕ → IntRead
longer_read negative None digits = Past
longer_read negative (Some n) digits = value_read (with_sign negative (digits_value_after 10 n digits))

-- the rest of a number
abbrev pub number_read : Bool → Option ℕ → Bool → List ℕ → IntRead
number_read negative size after_digit text =
    if goes_on after_digit text then longer_read negative size (filter is_ascii_digit text) else NotInt

-- the rest of a text that is within the profile
abbrev pub rest_read : Reading → List ℕ → IntRead
rest_read Blank text = read_signed (stripped Both is_blank text)
rest_read (Number negative size after_digit) text = number_read negative size after_digit (without_back is_blank text)
rest_read (Done answer) text = if list_all is_blank text then answer else NotInt

-- the rest of any text
abbrev pub any_rest_read : Reading → List ℕ → IntRead
any_rest_read reading text = if list_any is_outside text then OutOfProfile else rest_read reading text
