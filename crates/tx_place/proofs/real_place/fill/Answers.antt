use Rattle.std.proofs.Common.{◌≡◌, ◌∙◌, ◌≤◌, ℕ, ◌+◌, ◌-◌, List, ◌++◌, ap, sym, subst, rules, le_refl, length, take, drop, length-take-le}
use Rattle.std.proofs.lemmas.List.{drop_at, take-append-le}
use Rattle.std.proofs.lemmas.Slice.{take-put_mid_below}
use Rattle.std.proofs.Math.Seq.{take-add}
use Rattle.std.proofs.KnownBytes.{Consumes-trans}
use Rattle.std.specs.Io.KnownBytes.{Consumes}
use borrow.Rule.Slice.PartMut.{put_mid, post_of}
use Rattle.tx_place.proofs.real_place.fill.Goals as goal

-- what a slice begins with once a read has given n more bytes to its part from a on
take-put_mid_more : (a k n : ℕ) (xs ys : List ℕ) → a ≤ length xs → n ≤ length ys → take (a + n) (put_mid a k xs ys) ≡ take a xs ++ take n ys
take-put_mid_more a k n xs ys within fits =
    let all = put_mid a k xs ys in
    take-add a n all
    ∙ ap (λ l. l ++ take n (drop a all)) (take-put_mid_below a k xs ys a (le_refl a) within)
    ∙ ap (λ l. take a xs ++ take n l) (drop_at (take a xs) (ys ++ post_of a k xs) a (length-take-le a xs within))
    ∙ ap (λ l. take a xs ++ l) (take-append-le n ys (post_of a k xs) fits)

pub loop-taken-preserved : goal.loop-taken-preserved
loop-taken-preserved g c =
    let taken = c.loop-taken.taken in
    let room = length c.loop-taken.into - taken in
    let was = c.loop-taken.invariant in
    let joined = take-put_mid_more taken room c.in_ok-more.more c.loop-taken.into c.read.new.buf was.within c.in_ok-more.ensures.bound.0 in
    record {
      within = search rules;
      next = subst (Consumes _ _) (sym joined) (Consumes-trans _ _ _ _ _ was.next c.in_ok-more.ensures.bytes.0);
    }
