-- Examples of what indexes, slices and factors mean, as facts: `places_are_as_in_python`. What stands on the right is what
-- CPython answers.
use Rattle.std.specs.Prelude.{◌≡◌, ℕ, List, [], ◌∷◌, Option, Some, None, ℤ, pos, negsuc}
use Rattle.tx_num.specs.Place.{place_of, sliced, start_of, stop_of, times_of}

-- 0 to 4
abbrev pub five : List ℕ
five = 0 ∷ 1 ∷ 2 ∷ 3 ∷ 4 ∷ []

pub record PlaceExamples : Type 0 where
  -- of three items
  pub first_is : place_of 3 (pos 0) ≡ Some 0
  pub last_is : place_of 3 (negsuc 0) ≡ Some 2
  pub first_from_the_end_is : place_of 3 (negsuc 2) ≡ Some 0
  pub behind_the_end_is : place_of 3 (pos 3) ≡ None
  pub before_the_front_is : place_of 3 (negsuc 3) ≡ None
  -- slice(-9, 9, 2).indices(5), slice(9, -9, -2).indices(5), slice(None, None, -1).indices(0)
  pub forwards_is : (start_of (pos 2) 5 (Some (negsuc 8)) ≡ pos 0) × (stop_of (pos 2) 5 (Some (pos 9)) ≡ pos 5)
  pub backwards_is : (start_of (negsuc 1) 5 (Some (pos 9)) ≡ pos 4) × (stop_of (negsuc 1) 5 (Some (negsuc 8)) ≡ negsuc 0)
  pub nothing_is : (start_of (negsuc 0) 0 None ≡ negsuc 0) × (stop_of (negsuc 0) 0 None ≡ negsuc 0)
  -- [1:3], [3:1], [-2:], [:-9], [::2], [1::2], [::-1], [3:0:-2], [-1:-9:-3], [0:3:-1]
  pub middle_is : sliced (pos 1) (Some (pos 1)) (Some (pos 3)) five ≡ 1 ∷ 2 ∷ []
  pub crossed_is : sliced (pos 1) (Some (pos 3)) (Some (pos 1)) five ≡ []
  pub tail_is : sliced (pos 1) (Some (negsuc 1)) None five ≡ 3 ∷ 4 ∷ []
  pub before_all_is : sliced (pos 1) None (Some (negsuc 8)) five ≡ []
  pub second_ones_is : sliced (pos 2) None None five ≡ 0 ∷ 2 ∷ 4 ∷ []
  pub odd_ones_is : sliced (pos 2) (Some (pos 1)) None five ≡ 1 ∷ 3 ∷ []
  pub reversed_is : sliced (negsuc 0) None None five ≡ 4 ∷ 3 ∷ 2 ∷ 1 ∷ 0 ∷ []
  pub back_by_two_is : sliced (negsuc 1) (Some (pos 3)) (Some (pos 0)) five ≡ 3 ∷ 1 ∷ []
  pub back_by_three_is : sliced (negsuc 2) (Some (negsuc 0)) (Some (negsuc 8)) five ≡ 4 ∷ 1 ∷ []
  pub crossed_back_is : sliced (negsuc 0) (Some (pos 0)) (Some (pos 3)) five ≡ []
  -- -5, 2^63 - 1 and 2^63
  pub no_times_is : times_of (negsuc 4) ≡ Some 0
  pub most_times_is : times_of (pos 9223372036854775807) ≡ Some 9223372036854775807
  pub too_many_is : times_of (pos 9223372036854775808) ≡ None
