use Rattle.std.proofs.Common.{◌≡◌, ◌∙◌, ◌++◌, ◌%◌, ℕ, List, codes, decimal, append_assoc}
use Rattle.tx_generate.specs.Generated.{quantity_text}
use Rattle.tx_generate.proofs.generated.push_row.Goals as goal

-- eight parts at the end, one after the other
parts : (old number c1 quantity c2 price c3 note c4 t1 t2 t3 t4 t5 t6 t7 t8 : List ℕ) → t1 ≡ old ++ number → t2 ≡ t1 ++ c1 → t3 ≡ t2 ++ quantity → t4 ≡ t3 ++ c2
    → t5 ≡ t4 ++ price → t6 ≡ t5 ++ c3 → t7 ≡ t6 ++ note → t8 ≡ t7 ++ c4
    → t8 ≡ old ++ (number ++ (c1 ++ (quantity ++ (c2 ++ (price ++ (c3 ++ (note ++ c4)))))))
parts old number c1 quantity c2 price c3 note c4 t1 t2 t3 t4 t5 t6 t7 t8 e1 e2 e3 e4 e5 e6 e7 e8 = e8 ∙ rw (e7, e6, e5, e4, e3, e2, e1) (simp append_assoc)

pub returns : goal.returns
returns c =
    let row = c.args.row in
    parts c.args.text.now (decimal c.args.number) (codes ",") (quantity_text row) (codes ",") (decimal row.price) (codes ",n") (decimal (row.amount % 7)) (codes "\n") _ _ _ _ _ _ _ _
    c.in_ok-push_number.ensures c.in_ok-push_all.ensures.ok c.in_ok-push_quantity.ensures c.in_ok-push_all-2.ensures.ok c.in_ok-push_number-2.ensures
    c.in_ok-push_all-3.ensures.ok c.in_ok-push_number-3.ensures c.in_ok-push_all-4.ensures.ok
