-- The examples behind the definitions of `Text`, as facts: `examples_hold`.
use Rattle.std.specs.Prelude.{◌≡◌, true, false, [], ◌∷◌, Some, codes}
use Rattle.tx_text.specs.Text.{begins, between, count_of, digits_of, filled, first_place, is_blank, is_taken, joined, last_place, less, part_of, pieces, repeated, replaced, split_where, stripped, words}
use Rattle.tx_text.specs.declared.strip.Side.TheVariants.{Both, Left, Right}

pub record Examples : Type 0 where
  pub part_is : part_of 1 9 (codes "abc") ≡ codes "bc"
  pub begins_is : begins (codes "ab") (codes "abc") ≡ true
  pub begins_not_is : begins (codes "b") (codes "abc") ≡ false
  pub first_is : first_place (codes "b") (codes "abab") ≡ Some 1
  pub first_empty_is : first_place [] (codes "abab") ≡ Some 0
  pub last_is : last_place (codes "b") (codes "abab") ≡ Some 3
  pub last_empty_is : last_place [] (codes "ab") ≡ Some 2
  pub less_longer_is : less (codes "ab") (codes "abc") ≡ true
  pub less_letter_is : less (codes "abc") (codes "b") ≡ true
  pub pieces_is : pieces (codes ",") (codes "a,,b") ≡ codes "a" ∷ [] ∷ codes "b" ∷ []
  pub pieces_from_left_is : pieces (codes "aaa") (codes "aaaa") ≡ [] ∷ codes "a" ∷ []
  pub count_is : count_of (codes "aa") (codes "aaaaa") ≡ 2
  pub count_empty_is : count_of [] (codes "ab") ≡ 3
  pub joined_is : joined (codes ", ") (codes "a" ∷ codes "b" ∷ []) ≡ codes "a, b"
  pub between_is : between (codes "-") (codes "ab") ≡ codes "-a-b-"
  pub replaced_is : replaced (codes "a") (codes "xy") (codes "banana") ≡ codes "bxynxynxy"
  pub repeated_is : repeated 3 (codes "ab") ≡ codes "ababab"
  pub split_is : split_where is_blank (codes " a  b") ≡ [] ∷ codes "a" ∷ [] ∷ codes "b" ∷ []
  pub words_is : words (codes " a  b ") ≡ codes "a" ∷ codes "b" ∷ []
  pub stripped_is : stripped Both (is_taken (Some (codes "a"))) (codes "a-a") ≡ codes "-"
  pub stripped_left_is : stripped Left (is_taken (Some (codes "a"))) (codes "a-a") ≡ codes "-a"
  pub stripped_right_is : stripped Right (is_taken (Some (codes "a"))) (codes "a-a") ≡ codes "a-"
  pub digits_is : digits_of (codes "12") ≡ Some true
  pub digits_not_is : digits_of (codes "1a") ≡ Some false
  pub digits_none_is : digits_of [] ≡ Some false
  pub filled_is : filled 4 (codes "-7") ≡ codes "-007"
  pub filled_already_is : filled 4 (codes "12345") ≡ codes "12345"
