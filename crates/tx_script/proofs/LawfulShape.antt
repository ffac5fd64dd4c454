-- The pipe of an accepted script has operators, inputs that stand ahead, each operator but the last used once, and one end.
use Rattle.std.proofs.Common.{◌≡◌, ℕ, ◌+◌, ◌≤◌, ◌<◌, ◌==◌, Bool, true, false, not, ◌&&◌, if◌then◌else◌, List, [], ◌∷◌, ◌++◌, length, Option, None, option_to_list, Ok, Err, refl, sym, ap, subst, arith}
use Rattle.std.proofs.lemmas.Bool.{false≢true, and_parts, not-false, eqb-true}
use Rattle.std.proofs.lemmas.Bool.Decides.{nat_tests}
use Rattle.tx_tree.specs.declared.target.Word.{Word}
use Rattle.tx_tree.specs.Tree.{BlockTree, define, pipeline, alone}
use Rattle.tx_names.specs.declared.role.Role.TheVariants.{Plain}
use Rattle.tx_names.specs.Scope.{Text}
use Rattle.tx_names.specs.Bind.{bound_def}
use Rattle.tx_name_set.specs.NameSet.{is_in}
use Rattle.tx_pipe.specs.Lawful.{are_fed, uses, ends_once}
use Rattle.tx_script.specs.declared.fault.ScriptKind.TheVariants as kind
use Rattle.tx_script.specs.Written.{Link, Entry}
use Rattle.tx_script.specs.Forms.{start_of}
use Rattle.tx_script.specs.Linked.{◌>>=◌, at, told, Ahead, nothing_ahead, is_taken, free_at, Pipe, State, with_def, with_pipeline, linked_chain, linked_block, linked}
use Rattle.tx_script.specs.Checks.{when, misused, pipe_use, end_in, ends_in_output, end_ahead, line_of, is_unnamed, last_fault, inner_fault, no_end, names_in, entries}
use Rattle.tx_script.specs.Checks as checks
use Rattle.tx_script.specs.Accepted.{Accepted}
use Rattle.tx_script.proofs.Free.{is_no_pipeline}
use Rattle.tx_script.proofs.LawfulShapeParts.{no_ok, ok_is, no_none, bind_ok, first_none, when_none, passes}
use Rattle.tx_script.proofs.LawfulShapeForms.{Begins, BeginsIn, EachBegins, entries_begin}
use Rattle.tx_script.proofs.LawfulShapeNodes.{length_push}
use Rattle.tx_script.proofs.LawfulShapeCounts.{one, upto, ending, texts, joins, chain_nodes, count_chain}
use Rattle.tx_script.proofs.LawfulShapeFed.{EndsWithin, wider, fed_chain}
use Rattle.tx_script.proofs.LawfulShapeEnds.{AreSilent, silent_nodes, end_nodes}
use Rattle.tx_script.proofs.LawfulShapeUses.{owed, owed-cons, none_owed, owed_new, ends_new, none_ends}

-- what holds ahead of these entries: each operator so far is used once, or stands for a name that they use once
record Sound (a : Ahead) (done : Pipe) (es : List Entry) : Type 0 where
  ends : EndsWithin a (length done)
  fed : are_fed 1 done ≡ true
  count : (k : ℕ) → 1 ≤ k → uses k done + owed a k es ≡ upto k (length done)
  silent : AreSilent done
  even : length a.pipelines ≡ length a.ends

-- ---- a chain

counted : (a : Ahead) (done : Pipe) (e : Entry) (es : List Entry) (start : Option Word) (r : Pipe × ℕ) → names_in e ≡ texts (option_to_list start ++ joins e.links) → Sound a done (e ∷ es) → Begins start e.links → linked_chain a done start e.links ≡ Ok r
    → (k : ℕ) → 1 ≤ k → uses k r.0 + one r.1 k + owed a k es ≡ upto k (length r.0)
counted a done e es start r n g b l k h =
    let c = count_chain a k done start e.links r b l in
    let o = owed-cons a k e es in
    let m : ending a k (names_in e) ≡ ending a k (texts (option_to_list start ++ joins e.links)) = ap (ending a k) n in
    let s = g.count k h in
    omega arith

-- ---- a block that is not the last

is_free : (b : Bool) (line : ℕ) (n m : Text) → (if b then Err (at kind.Name line) else Ok n) ≡ Ok m → b ≡ false
is_free true line n m e = absurd (no_ok (at kind.Name line) m e)
is_free false line n m e = refl

used_once : (l : ℕ) (n : Text) (es : List Entry) → when (not (checks.uses n es == 1)) (at kind.PipeUse l) ≡ None → checks.uses n es ≡ 1
used_once l n es e = eqb-true (checks.uses n es) 1 (not-false (checks.uses n es == 1) (when_none (not (checks.uses n es == 1)) (at kind.PipeUse l) e))

named_sound : (a : Ahead) (done : Pipe) (n : Text) (e : Entry) (es : List Entry) (start : Option Word) (r : Pipe × ℕ) → names_in e ≡ texts (option_to_list start ++ joins e.links)
    → is_in a.pipelines n ≡ false → checks.uses n es ≡ 1 → Begins start e.links → end_in e.links ≡ None → Sound a done (e ∷ es) → linked_chain a done start e.links ≡ Ok r → Sound (with_pipeline a n r.1) r.0 es
named_sound a done n e es start r names free once b w g l =
    let f = fed_chain a done start e.links r b g.ends g.fed l in
    record {
      ends = ends_new a (length r.0) n r.1 (wider a (length done) (length r.0) f.longer g.ends) f.end;
      fed = f.fed;
      count = λ k h. let c = counted a done e es start r names g b l k h in let o = owed_new a k n r.1 es g.even free once in omega arith;
      silent = let c = chain_nodes a done start e.links r l in silent_nodes a e.links w done c.0 r g.silent c.2;
      even = let p = length_push a.pipelines n in let q = length_push a.ends r.1 in let v = g.even in omega arith;
    }

block_sound : (a : Ahead) (done : Pipe) (b : BlockTree) (links : List Link) (es : List Entry) (s : State) → is_unnamed b ≡ false → BeginsIn b links → end_in links ≡ None → misused b es ≡ None
    → Sound a done ((record { block = b; links = links }) ∷ es) → linked_block a done b links ≡ Ok s → Sound s.0 s.1 es
block_sound a done (define l n params comma body) links es s u b w m g e =
    let x = bind_ok (free_at a l n) (λ free. told (bound_def a.defs (Plain (length params)) l n params body) >>= (λ f. Ok (with_def a n f (define l n params comma body), done))) s e in
    let y = bind_ok (told (bound_def a.defs (Plain (length params)) l n params body)) (λ f. Ok (with_def a n f (define l n params comma body), done)) s x.2 in
    subst (λ (z : State). Sound z.0 z.1 es) (ok_is (with_def a n y.0 (define l n params comma body), done) s y.2) (record {
      ends = g.ends;
      fed = g.fed;
      count = λ k h.
          let o = owed-cons a k (record { block = define l n params comma body; links = links }) es in
          let v : ending a k (texts (joins links)) ≡ 0 = ap (λ (xs : List Link). ending a k (texts (joins xs))) b in
          let c = g.count k h in
          omega arith;
      silent = g.silent;
      even = g.even;
    })
block_sound a done (pipeline l n c) links es s u b w m g e =
    let x = bind_ok (free_at a l n) (λ free. linked_chain a done (start_of c) links >>= (λ chain. Ok (with_pipeline a n chain.1, chain.0))) s e in
    let y = bind_ok (linked_chain a done (start_of c) links) (λ chain. Ok (with_pipeline a n chain.1, chain.0)) s x.2 in
    subst (λ (z : State). Sound z.0 z.1 es) (ok_is (with_pipeline a n y.0.1, y.0.0) s y.2)
    (named_sound a done n (record { block = pipeline l n c; links = links }) es (start_of c) y.0 refl (is_no_pipeline a n (is_free (is_taken a n) l n x.0 x.1)) (used_once l n es m) b w g y.1)
block_sound a done (alone c) links es s u b w m g e = absurd (false≢true (sym u))

-- ---- the last block

record Whole (p : Pipe) : Type 0 where
  some : 1 ≤ length p
  inputs : are_fed 1 p ≡ true
  once : (number : ℕ) → 1 ≤ number → number < length p → uses number p ≡ 1
  last : ends_once p ≡ true

not_last : (k end d : ℕ) → end ≡ d → k < d → one end k ≡ 0
not_last k end d e h = grind (arith, nat_tests)

not_past : (k d : ℕ) → k < d → upto k d ≡ 1
not_past k d h = grind (arith, nat_tests)

last_whole : (a : Ahead) (done : Pipe) (b : BlockTree) (links : List Link) (s : State) → is_unnamed b ≡ true → BeginsIn b links → ends_in_output links ≡ true → end_ahead links ≡ None
    → Sound a done ((record { block = b; links = links }) ∷ []) → linked_block a done b links ≡ Ok s → Whole s.1
last_whole a done (alone c) links s u b o w g e =
    let x = bind_ok (linked_chain a done (start_of c) links) (λ chain. Ok (a, chain.0)) s e in
    let y = chain_nodes a done (start_of c) links x.0 x.1 in
    let f = fed_chain a done (start_of c) links x.0 b g.ends g.fed x.1 in
    let z = end_nodes a links o w done y.0 x.0 g.silent y.2 in
    subst (λ (z : State). Whole z.1) (ok_is (a, x.0.0) s x.2) (record {
      some = z.some;
      inputs = f.fed;
      once = λ k h i.
          let t = counted a done (record { block = alone c; links = links }) [] (start_of c) x.0 refl g b x.1 k h in
          let m = not_last k x.0.1 (length x.0.0) z.end i in
          let n = not_past k (length x.0.0) i in
          omega arith;
      last = z.ended;
    })
last_whole a done (define l n params comma body) links s u b o w g e = absurd (false≢true u)
last_whole a done (pipeline l n c) links s u b o w g e = absurd (false≢true u)

-- ---- all blocks

whole : (es : List Entry) → EachBegins es → pipe_use es ≡ None → no_end es ≡ None → (a : Ahead) (done p : Pipe) → Sound a done es → linked a done es ≡ Ok p → Whole p
whole [] b u n a done p g l = absurd (no_none (at kind.NoEnd 0) n)
whole (e ∷ []) b u n a done p g l =
    let x = bind_ok (linked_block a done e.block e.links) (λ s. linked s.0 s.1 []) p l in
    let y = first_none (when (not (is_unnamed e.block && ends_in_output e.links)) (at kind.NoEnd (line_of e.block))) (end_ahead e.links) n in
    let z = and_parts (is_unnamed e.block) (ends_in_output e.links) (not-false (is_unnamed e.block && ends_in_output e.links) (when_none (not (is_unnamed e.block && ends_in_output e.links)) (at kind.NoEnd (line_of e.block)) y.0)) in
    subst Whole (ok_is x.0.1 p x.2) (last_whole a done e.block e.links x.0 z.0 b.0 z.1 y.1 g x.1)
whole (e ∷ f ∷ es) b u n a done p g l =
    let x = bind_ok (linked_block a done e.block e.links) (λ s. linked s.0 s.1 (f ∷ es)) p l in
    let v = first_none (misused e.block (f ∷ es)) (pipe_use (f ∷ es)) u in
    let y = first_none (inner_fault e) (no_end (f ∷ es)) n in
    let z = first_none (when (is_unnamed e.block) (at kind.NoEnd (line_of e.block))) (end_in e.links) y.0 in
    whole (f ∷ es) b.1 v.1 y.1 x.0.0 x.0.1 p (block_sound a done e.block e.links (f ∷ es) x.0 (when_none (is_unnamed e.block) (at kind.NoEnd (line_of e.block)) z.0) b.0 z.1 v.0 g x.1) x.2

begun : (es : List Entry) → Sound nothing_ahead [] es
begun es = record { ends = none_ends 0; fed = refl; count = λ k h. none_owed k es h; silent = refl; even = refl }

whole_of : (own : Text) (bytes : List ℕ) (pipe : Pipe) → Accepted own bytes pipe → Whole pipe
whole_of own bytes pipe h =
    let q = passes own bytes h.blocks h.passes in
    whole (entries h.blocks) (entries_begin h.blocks q.operators) q.uses q.end nothing_ahead [] pipe (begun (entries h.blocks)) h.linked

pub shape_some : (own : Text) (bytes : List ℕ) (pipe : Pipe) → Accepted own bytes pipe → 1 ≤ length pipe
shape_some own bytes pipe h = (whole_of own bytes pipe h).some

pub shape_inputs : (own : Text) (bytes : List ℕ) (pipe : Pipe) → Accepted own bytes pipe → are_fed 1 pipe ≡ true
shape_inputs own bytes pipe h = (whole_of own bytes pipe h).inputs

pub shape_once : (own : Text) (bytes : List ℕ) (pipe : Pipe) → Accepted own bytes pipe → (number : ℕ) → 1 ≤ number → number < length pipe → uses number pipe ≡ 1
shape_once own bytes pipe h = (whole_of own bytes pipe h).once

pub shape_last : (own : Text) (bytes : List ℕ) (pipe : Pipe) → Accepted own bytes pipe → ends_once pipe ≡ true
shape_last own bytes pipe h = (whole_of own bytes pipe h).last
