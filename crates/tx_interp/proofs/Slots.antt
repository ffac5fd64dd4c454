-- Frames as maps, and the loops over them.
use Rattle.std.proofs.Common.{◌≡◌, ℕ, zero, suc, ◌+◌, ◌<◌, ◌≤◌, List, [], ◌∷◌, ◌++◌, Option, Some, None, Ok, Err, length, map, drop, min, Bool, true, false, if◌then◌else◌, nat_eq, ◌==◌, slice_get, slice_set, refl, sym, ap, ◌∙◌, arith, append_assoc, append-nil}
use Rattle.std.specs.Prelude.{option_map, take as take_first}
use Rattle.std.proofs.lemmas.List.{map-append}
use Rattle.std.proofs.lemmas.Bool.{eqb-true, eqb-false}
use mathlib.Core.Path.{fun_ext}
use Rattle.tx_base.specs.declared.class.Class.{Class}
use Rattle.tx_base.specs.declared.class.Class.TheVariants.{ValueError}
use Rattle.tx_values.specs.declared.value.Value.{Value}
use Rattle.tx_values.specs.declared.value.Value.TheVariants as v
use Rattle.tx_values.specs.Answer.{Answer, ◌>>=◌}
use Rattle.tx_values.specs.Limits.{made}
use Rattle.tx_methods.specs.Walks.{iterate_of}
use Rattle.tx_names.specs.Function.{Target, one, several, Expr, comprehension}
use Rattle.tx_meaning.specs.Maps.{Row, put, put_all, put_items, take, no_locals}
use Rattle.tx_meaning.specs.Containers.{longer}
use Rattle.tx_meaning.specs.Meaning.{Course, goes_on, collect, turn, turns, and_again}
use Rattle.tx_interp.specs.declared.held.Held.{Held}
use Rattle.tx_interp.specs.Frames.{Slots, map_of, at_slot, held_values, value_in, adds, adds_all}

abbrev Frame : Type 0
Frame = List (Option Held)

push_at : (f : Frame) (k : ℕ) → at_slot (slice_get (f ++ None ∷ []) k) ≡ at_slot (slice_get f k)
push_at [] zero = refl
push_at [] (suc k) = nothing k
  where
    nothing : (k : ℕ) → at_slot (slice_get [] k) ≡ None
    nothing zero = refl
    nothing (suc k) = refl
push_at (o ∷ f) zero = refl
push_at (o ∷ f) (suc k) = push_at f k

pub map_at : (f : Frame) (k : ℕ) → map_of f k ≡ at_slot (slice_get f k)
unfolding map_of
map_at f k = refl

pub map_none : (k : ℕ) → map_of [] k ≡ None
unfolding map_of
map_none zero = refl
map_none (suc k) = refl

-- an empty slot more is no value more
pub map_push : (f : Frame) → map_of (f ++ None ∷ []) ≡ map_of f
unfolding map_of
map_push f = fun_ext (push_at f)

get_set_same : {A : Type 0} (xs : List A) (i : ℕ) (x : A) → i < length xs → slice_get (slice_set xs i x) i ≡ Some x
get_set_same [] i x h = absurd (omega arith)
get_set_same (y ∷ xs) zero x h = refl
get_set_same (y ∷ xs) (suc i) x h = get_set_same xs i x (omega arith)

get_set_other : {A : Type 0} (xs : List A) (i j : ℕ) (x : A) → (i ≡ j → ⊥) → slice_get (slice_set xs i x) j ≡ slice_get xs j
get_set_other [] zero j x h = refl
get_set_other [] (suc i) j x h = refl
get_set_other (y ∷ xs) zero zero x h = absurd (h refl)
get_set_other (y ∷ xs) zero (suc j) x h = refl
get_set_other (y ∷ xs) (suc i) zero x h = refl
get_set_other (y ∷ xs) (suc i) (suc j) x h = get_set_other xs i j x (λ e. h (ap suc e))

set_at : (f : Frame) (slot : ℕ) (x : Held) → slot < length f → (k : ℕ) → at_slot (slice_get (slice_set f slot (Some x)) k) ≡ (if nat_eq slot k then Some (value_in x) else at_slot (slice_get f k))
set_at f slot x h k = by_test (nat_eq slot k) refl
  where
    by_test : (b : Bool) → nat_eq slot k ≡ b → at_slot (slice_get (slice_set f slot (Some x)) k) ≡ (if b then Some (value_in x) else at_slot (slice_get f k))
    by_test true e = ap at_slot (ap (slice_get (slice_set f slot (Some x))) (sym (eqb-true slot k e)) ∙ get_set_same f slot (Some x) h)
    by_test false e = ap at_slot (get_set_other f slot k (Some x) (eqb-false slot k e))

pub length_push : {A : Type 0} (xs : List A) (x : A) → length (xs ++ x ∷ []) ≡ length xs + 1
length_push [] x = refl
length_push (y ∷ xs) x = let e : length (xs ++ x ∷ []) ≡ length xs + 1 = length_push xs x in omega (arith, e)

-- writing a slot is putting its value
pub map_set : (f : Frame) (slot : ℕ) (x : Held) → slot < length f → map_of (slice_set f slot (Some x)) ≡ put nat_eq slot (value_in x) (map_of f)
unfolding map_of put
map_set f slot x h = fun_ext (set_at f slot x h)

-- frames with the same values are the same map
same_at : (f g : Frame) → held_values f ≡ held_values g → (k : ℕ) → at_slot (slice_get f k) ≡ at_slot (slice_get g k)
same_at f g e k = sym (by_values f k) ∙ ap (λ vs. flat (slice_get vs k)) e ∙ by_values g k
  where
    flat : Option (Option Value) → Option Value
    flat None = None
    flat (Some o) = o

    by_values : (f : Frame) (k : ℕ) → flat (slice_get (held_values f) k) ≡ at_slot (slice_get f k)
    by_values [] zero = refl
    by_values [] (suc k) = refl
    by_values (o ∷ f) zero = refl
    by_values (o ∷ f) (suc k) = by_values f k

pub map_same : (f g : Frame) → held_values f ≡ held_values g → map_of f ≡ map_of g
unfolding map_of
map_same f g e = fun_ext (same_at f g e)

take_whole : {A : Type 0} (xs : List A) (n : ℕ) → length xs ≤ n → take_first n xs ≡ xs
take_whole [] zero h = refl
take_whole [] (suc n) h = refl
take_whole (x ∷ xs) zero h = absurd (omega arith)
take_whole (x ∷ xs) (suc n) h = ap (λ ys. x ∷ ys) (take_whole xs n (omega arith))

pub map_lent : (out f : Frame) (n : ℕ) → held_values out ≡ held_values (take_first n f) → length f ≤ n → map_of out ≡ map_of f
map_lent out f n e h = map_same out f (e ∙ ap held_values (take_whole f n h))

-- nothing is left to put
pub put_all_end : (slots : List ℕ) (xs : List Value) (i : ℕ) (m : Slots) → min (length slots) (length xs) ≤ i → put_all nat_eq (drop i slots) (drop i xs) m ≡ m
put_all_end [] xs i m h = none_left i
  where
    none_left : (i : ℕ) → put_all nat_eq (drop i []) (drop i xs) m ≡ m
    none_left zero = refl
    none_left (suc i) = refl
put_all_end (s ∷ slots) [] i m h = ended (drop i (s ∷ slots)) i
  where
    ended : (ss : List ℕ) (i : ℕ) → put_all nat_eq ss (drop i []) m ≡ m
    ended [] zero = refl
    ended [] (suc i) = refl
    ended (s ∷ ss) zero = refl
    ended (s ∷ ss) (suc i) = refl
put_all_end (s ∷ slots) (x ∷ xs) zero m h = absurd (omega arith)
put_all_end (s ∷ slots) (x ∷ xs) (suc i) m h = put_all_end slots xs i m (omega arith)

-- one more value is out, and then the others
pub out_more : {A : Type 0} (out : List A) (x : A) (o : Answer (List A)) → ((o >>= (λ vs. Ok (x ∷ vs))) >>= (λ vs. Ok (out ++ vs))) ≡ (o >>= (λ vs. Ok ((out ++ x ∷ []) ++ vs)))
out_more out x (Ok vs) = ap Ok (sym (append_assoc out (x ∷ []) vs))
out_more out x (Err c) = refl

-- a frame without slots
pub map_empty : map_of [] ≡ no_locals nat_eq
unfolding map_of no_locals
map_empty = fun_ext map_none

-- ---- equations of what is not unfolded

pub take_one : (slot : ℕ) (x : Value) (m : Slots) → take nat_eq (one slot) x m ≡ Ok (put nat_eq slot x m)
unfolding take
take_one slot x m = refl

pub take_several : (slots : List ℕ) (x : Value) (m : Slots) → take nat_eq (several slots) x m ≡ (iterate_of x >>= (λ items. if length items == length slots then Ok (put_all nat_eq slots items m) else Err ValueError))
unfolding take
take_several slots x m = refl

pub longer_is : (items : List Value) (x : Value) → longer items x ≡ (made (v.List (items ++ x ∷ [])) >>= (λ all. Ok (items ++ x ∷ [])))
unfolding longer
longer_is items x = refl

pub adds_end : (a : Expr ℕ) (r : Row) (sofar : List Value) (m : Slots) → adds_all a r sofar [] m ≡ Ok sofar
unfolding collect
adds_end (comprehension a t i c) r sofar m = refl
adds_end _ r sofar m = refl

pub adds_more : (a : Expr ℕ) (r : Row) (sofar : List Value) (x : Value) (xs : List Value) (m : Slots) → adds_all a r sofar (x ∷ xs) m ≡ (adds a r sofar x m >>= (λ all. adds_all a r all xs m))
unfolding collect
adds_more (comprehension a t i c) r sofar x xs m = refl
adds_more _ r sofar x xs m = refl

pub turns_end : (body : Slots → Answer (Course Slots)) (t : Target ℕ) (m : Slots) → turns nat_eq body t [] m ≡ Ok (goes_on m)
unfolding turns
turns_end body t m = refl

pub turns_more : (body : Slots → Answer (Course Slots)) (t : Target ℕ) (x : Value) (xs : List Value) (m : Slots) → turns nat_eq body t (x ∷ xs) m ≡ (turn nat_eq body t x m >>= and_again (turns nat_eq body t xs))
unfolding turns
turns_more body t x xs m = refl

pub ruleset takes = (take_one, take_several)

pub ruleset outs = (out_more, append_assoc, append-nil)

pub ruleset adding = (adds_end, adds_more)

pub ruleset turning = (turns_end, turns_more)

pub ruleset frames = (map_at, map_push, length_push, map_set, put_all_end, out_more, append_assoc, append-nil, map-append)

pub ruleset lending = (map_same, map-append)

-- a turn whose body raises
pub turn_raises : (body : Slots → Answer (Course Slots)) (t : Target ℕ) (x : Value) (m n : Slots) (c : Class) → take nat_eq t x m ≡ Ok n → body n ≡ Err c → turn nat_eq body t x m ≡ Err c
turn_raises body t x m n c e h = ap (λ o. o >>= body) e ∙ h
