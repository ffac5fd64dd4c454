-- A part at the end of a text.
use Rattle.std.proofs.Common.{◌≡◌, ◌∙◌, ℕ, ◌-◌, ◌<◌, ◌≤◌, Bool, true, false, ◌&&◌, List, [], ◌∷◌, length, take, drop, refl, sym, ap, arith}
use Rattle.std.specs.Prelude.{IsTrue, nat_eq, ◌↔◌}
use Rattle.std.specs.Bool.{Decides}
use Rattle.std.specs.Cmp.Lexicographic.{bytes_decides, pointwise}
use Rattle.std.proofs.Math.Seq.{take-length}
use Rattle.std.proofs.lemmas.Bool.Decides.{same_from_decides}
use Rattle.std.proofs.lemmas.List.{length-drop}
use Rattle.tx_text.specs.Text.{part_of}
use Rattle.tx_methods.specs.TextMethods.{ends}

longer : (xs ys : List ℕ) → length ys < length xs → pointwise nat_eq xs ys ≡ false
longer [] ys h = absurd (omega arith)
longer (x ∷ xs) [] h = refl
longer (x ∷ xs) (y ∷ ys) h = by_test (nat_eq x y) (longer xs ys (omega arith))
  where
    by_test : (b : Bool) → pointwise nat_eq xs ys ≡ false → (b && pointwise nat_eq xs ys) ≡ false
    by_test true e = e
    by_test false e = refl

-- a part that is longer than the text stands nowhere
pub too_long : (part text : List ℕ) → length text < length part → false ≡ ends part text
too_long part text h = sym (longer part (drop (length text - length part) text) (omega (arith, length-drop (length text - length part) text)))

abbrev end_of : List ℕ → List ℕ → List ℕ
end_of part text = drop (length text - length part) text

-- the characters at the end, as many as the part has, are compared with it
pub same_end : (part text : List ℕ) (n m : ℕ) (end : List ℕ) (b : Bool) → n ≡ length text → m ≡ length part → m ≤ n → end ≡ part_of (n - m) n text → (IsTrue b ↔ (end ≡ part)) → b ≡ ends part text
same_end part text n m end b e f h is same =
    same_from_decides b (ends part text) tested (bytes_decides part (drop (length text - length part) text))
  where
    at_end : end ≡ (end_of part text)
    at_end =
        let many : length (end_of part text) ≡ n - (n - m) = omega (arith, length-drop (length text - length part) text) in
        is ∙ ap (λ k. take (n - (n - m)) (drop k text)) (let k : n - m ≡ length text - length part = omega arith in k) ∙ ap (λ k. take k (end_of part text)) (sym many) ∙ take-length (end_of part text)

    tested : Decides b (part ≡ (end_of part text))
    tested = ((λ t. sym (same.0 t) ∙ at_end), (λ t. same.1 (at_end ∙ sym t)))
