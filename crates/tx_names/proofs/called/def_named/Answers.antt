use Rattle.std.proofs.Common.{◌≡◌, ℕ, ◌<◌, suc, List, ◌∷◌, drop, get_or, length, true, false, if◌then◌else◌, Some, sym, ap, ◌∙◌, drop-cons, add-one}
use Rattle.std.specs.Cmp.Lexicographic.{bytes_decides}
use Rattle.std.proofs.lemmas.Bool.Decides.{same_from_decides}
use Rattle.tx_tree.specs.Words.{same_text}
use Rattle.tx_names.specs.declared.bound.Def.{Def}
use Rattle.tx_names.specs.Scope.{Text}
use Rattle.tx_names.specs.Linked.{def_named}
use Rattle.tx_names.specs.Bind.{function_of, defs_of}
use Rattle.tx_names.proofs.called.def_named.Goals as goal

at_first : (ds : List Def) (i : ℕ) (d : Def) (n : Text) → i < length ds → d ≡ get_or ds i d → def_named (defs_of (drop i ds)) n ≡ (if same_text d.name n then Some (function_of d.function.value) else def_named (defs_of (drop (suc i) ds)) n)
at_first ds i d n h e = ap (λ (xs : List Def). def_named (defs_of xs) n) (drop-cons ds i d h ∙ ap (λ (x : Def). x ∷ drop (suc i) ds) (sym e))

found : (ds : List Def) (i : ℕ) (d : Def) (n : Text) → i < length ds → d ≡ get_or ds i d → same_text d.name n ≡ true → def_named (defs_of (drop i ds)) n ≡ Some (function_of d.function.value)
found ds i d n h e t = at_first ds i d n h e ∙ ap (λ b. if b then Some (function_of d.function.value) else def_named (defs_of (drop (suc i) ds)) n) t

passed : (ds : List Def) (i j : ℕ) (d : Def) (n : Text) → i < length ds → d ≡ get_or ds i d → j ≡ suc i → same_text d.name n ≡ false → def_named (defs_of (drop j ds)) n ≡ def_named (defs_of (drop i ds)) n
passed ds i j d n h e k t = ap (λ m. def_named (defs_of (drop m ds)) n) k ∙ sym (at_first ds i d n h e ∙ ap (λ b. if b then Some (function_of d.function.value) else def_named (defs_of (drop (suc i) ds)) n) t)

pub returns-then-equal : goal.returns-then-equal
returns-then-equal c =
    ap (λ f. Some (function_of f)) c.deref.ensures
    ∙ sym (found c.args.defs.now c.loop-def.def-index c.def-item.result c.args.name.now c.loop-def-test.true c.def-item.is
    (same_from_decides (same_text c.def-item.result.name c.args.name.now) c.equal.result (bytes_decides c.def-item.result.name c.args.name.now) c.equal.ensures ∙ c.if-equal.true))
    ∙ c.loop-def.invariant

pub loop-def-preserved : goal.loop-def-preserved
loop-def-preserved c =
    passed c.args.defs.now c.loop-def.def-index _ c.def-item.result c.args.name.now c.loop-def-test.true c.def-item.is (add-one c.loop-def.def-index)
    (same_from_decides (same_text c.def-item.result.name c.args.name.now) c.equal.result (bytes_decides c.def-item.result.name c.args.name.now) c.equal.ensures ∙ c.if-equal.false)
    ∙ c.loop-def.invariant
