use Rattle.std.proofs.Common.{refl}
use Rattle.tx_text.proofs.text.examples_hold.Goals as goal

pub returns : goal.returns
returns c = record {
  part_is = refl;
  begins_is = refl;
  begins_not_is = refl;
  first_is = refl;
  first_empty_is = refl;
  last_is = refl;
  last_empty_is = refl;
  less_longer_is = refl;
  less_letter_is = refl;
  pieces_is = refl;
  pieces_from_left_is = refl;
  count_is = refl;
  count_empty_is = refl;
  joined_is = refl;
  between_is = refl;
  replaced_is = refl;
  repeated_is = refl;
  split_is = refl;
  words_is = refl;
  stripped_is = refl;
  stripped_left_is = refl;
  stripped_right_is = refl;
  digits_is = refl;
  digits_not_is = refl;
  digits_none_is = refl;
  filled_is = refl;
  filled_already_is = refl;
}
