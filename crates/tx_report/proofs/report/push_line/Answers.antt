use Rattle.std.proofs.Common.{◌≡◌, ◌∙◌, ◌++◌, ℕ, List, decimal, append_assoc}
use Rattle.tx_base.specs.Class.{name_of}
use Rattle.tx_report.specs.Report.{comma, kind_of, line_feed, origin_text}
use Rattle.tx_report.proofs.report.push_line.Goals as goal

-- eight parts at the end, one after the other
parts : (old number kind class origin t1 t2 t3 t4 t5 t6 t7 t8 : List ℕ) → t1 ≡ old ++ number → t2 ≡ t1 ++ comma → t3 ≡ t2 ++ kind → t4 ≡ t3 ++ comma
    → t5 ≡ t4 ++ class → t6 ≡ t5 ++ comma → t7 ≡ t6 ++ origin → t8 ≡ t7 ++ line_feed
    → t8 ≡ old ++ (number ++ (comma ++ (kind ++ (comma ++ (class ++ (comma ++ (origin ++ line_feed)))))))
parts old number kind class origin t1 t2 t3 t4 t5 t6 t7 t8 e1 e2 e3 e4 e5 e6 e7 e8 = e8 ∙ rw (e7, e6, e5, e4, e3, e2, e1) (simp append_assoc)

pub returns : goal.returns
returns c =
    let entry = c.args.entry.now in
    let kind : c.push_all-2.new.self ≡ c.push_all.new.self ++ kind_of c.args.kinds.now entry.operator = rw c.kind_of.ensures at c.in_ok-push_all-2.ensures.ok in
    let name : c.push_all-4.new.self ≡ c.push_all-3.new.self ++ name_of entry.class = rw (c.as_bytes.ensures.value, c.class_name.ensures) at c.in_ok-push_all-4.ensures.ok in
    let origin : c.push_origin.new.text ≡ c.push_all-5.new.self ++ origin_text entry.origin = rw c.as_slice.ensures at c.in_ok-push_origin.ensures in
    parts c.args.text.now (decimal entry.operator) (kind_of c.args.kinds.now entry.operator) (name_of entry.class) (origin_text entry.origin) _ _ _ _ _ _ _ _
    c.in_ok-push_number.ensures c.in_ok-push_all.ensures.ok kind c.in_ok-push_all-3.ensures.ok name c.in_ok-push_all-5.ensures.ok origin c.in_ok-push_all-6.ensures.ok
