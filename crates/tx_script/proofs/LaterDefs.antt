-- A def that links with the defs ahead of it gives the same function with more of them behind those, and on any line.
use Rattle.std.proofs.Common.{◌≡◌, ℕ, ◌++◌, List, [], ◌∷◌, length, Option, Some, None, Result, Ok, Err, refl, sym, ap, subst, Bool, true, false, ◌==◌, if◌then◌else◌}
use Rattle.std.specs.Prelude.{is_some, ⊤}
use Rattle.tx_tree.specs.declared.target.Target.{Target}
use Rattle.tx_tree.specs.declared.function.Builtin.{Builtin}
use Rattle.tx_tree.specs.declared.function.Walk.{Walk}
use Rattle.tx_tree.specs.Words.{same_text}
use Rattle.tx_tree.specs.Takes.{walk_takes}
use Rattle.tx_tree.specs.Tree as t
use Rattle.tx_tree.specs.Tree.{Tree, Trees, PairTrees, Operands, MaybeTree, Body, Tail, BlockTree, define, pipeline, alone}
use Rattle.tx_name_set.specs.NameSet.{place_in}
use Rattle.tx_names.specs.declared.role.Role.{Role}
use Rattle.tx_names.specs.declared.role.Role.TheVariants.{Plain}
use Rattle.tx_names.specs.declared.fault.Fault.{Fault}
use Rattle.tx_names.specs.Named.{builtin_at, method_at, walk_function_at, view_at}
use Rattle.tx_names.specs.Scope.{Text, number_of, Scope, is_name_of, is_variable, within, role_size, names_of_def, scope_of_def}
use Rattle.tx_names.specs.Faults.{cell_in}
use Rattle.tx_names.specs.Function as f
use Rattle.tx_names.specs.Function.{Function, function, role_of}
use Rattle.tx_names.specs.Linked as l
use Rattle.tx_names.specs.Linked.{◌>>=◌, counted, Callee, by_def, by_builtin, by_walk, by_view, by_cell, as_value, walk_in, def_named, by_method}
use Rattle.tx_names.specs.Bind.{bound_block}

-- an answer stays
abbrev Stays : {A : Type 0} → Result A Fault → Result A Fault → Type 0
Stays (Ok x) u = u ≡ Ok x
Stays (Err e) u = ⊤

-- as a record, so that antt sees what it is of
record Kept {A : Type 0} (o u : Result A Fault) : Type 0 where
  kept : Stays o u

go : {A B : Type 0} {o u : Result A Fault} {j k : A → Result B Fault} → Kept o u → ((a : A) → Kept (j a) (k a)) → Kept (o >>= j) (u >>= k)
go {o = Ok a} {j = j} {k = k} r s = record { kept = subst (λ v. Stays (j a) (v >>= k)) (sym r.kept) (s a).kept }
go {o = Err e} r s = record { kept = tt }

same : {A : Type 0} (o : Result A Fault) → Kept o o
same (Ok x) = record { kept = refl }
same (Err e) = record { kept = tt }

here : {A : Type 0} {x : A} → Kept (Ok x) (Ok x)
here = record { kept = refl }

fails : {A : Type 0} {e : Fault} {u : Result A Fault} → Kept (Err e) u
fails = record { kept = tt }

choose : {A : Type 0} {x y z w : Result A Fault} (b : Bool) → Kept x y → Kept z w → Kept (if b then x else z) (if b then y else w)
choose true r s = r
choose false r s = s

def_kept : (ds more : List (Text × Function ℕ)) (line count : ℕ) (n : Text) → Kept (by_def line count (def_named ds n)) (by_def line count (def_named (ds ++ more) n))
def_kept [] more line count n = fails
def_kept (d ∷ ds) more line count n = by_test (same_text d.0 n) (def_kept ds more line count n)
  where
    by_test : (b : Bool) → Kept (by_def line count (def_named ds n)) (by_def line count (def_named (ds ++ more) n))
        → Kept (by_def line count (if b then Some d.1 else def_named ds n)) (by_def line count (if b then Some d.1 else def_named (ds ++ more) n))
    by_test true r = same (by_def line count (Some d.1))
    by_test false r = r

builtin_kept : (line count : ℕ) (b : Option Builtin) {o u : Result (Callee ℕ) Fault} → Kept o u → Kept (by_builtin line count b o) (by_builtin line count b u)
builtin_kept line count None r = r
builtin_kept line count (Some b) {o = o} r = same (by_builtin line count (Some b) o)

value_kept : {o u : Result (f.Expr ℕ) Fault} → Kept o u → Kept (as_value o) (as_value u)
value_kept r = go r λ x. here

walk_kept : (line count : ℕ) (w : Option Walk) {a b : Result (f.Exprs ℕ) Fault} {o u : Result (f.Expr ℕ) Fault} → Kept a b → Kept o u → Kept (by_walk w line count a o) (by_walk w line count b u)
walk_kept line count None r s = value_kept s
walk_kept line count (Some w) r s = go (same (counted (walk_takes w) line count w)) λ v. go r λ xs. here

view_kept : (line count : ℕ) (w : Option Walk) {c d : Result (f.Expr ℕ) Fault} {a b : Result (f.Exprs ℕ) Fault} {o u : Result (f.Expr ℕ) Fault}
    → Kept c d → Kept a b → Kept o u → Kept (by_view w line count c a o) (by_view w line count d b u)
view_kept line count None q r s = value_kept s
view_kept line count (Some w) q r s = go q λ x. go (same (counted (walk_takes w) line count w)) λ v. go r λ xs. here

cell_kept : (c : Option Text) {o u : Result (f.Expr ℕ) Fault} → Kept o u → Kept (by_cell c o) (by_cell c u)
cell_kept None r = r
cell_kept (Some c) r = here

module _ (slot : Text → ℕ) (ds more : List (Text × Function ℕ)) where
  abbrev es : List (Text × Function ℕ)
  es = ds ++ more

  called_kept : (s : Scope) (line : ℕ) (n : Text) (count : ℕ) → Kept (l.called slot ds s line n count) (l.called slot es s line n count)
  called_kept s line n count = choose (is_name_of s.own n) fails (choose (is_variable s n) fails (builtin_kept line count (builtin_at n)
      (choose (is_some (walk_function_at n)) fails (def_kept ds more line count n))))

  target_kept : (s : Scope) (u : Target) → Kept (l.linked_target slot ds s u) (l.linked_target slot es s u)
  target_kept s u = same (l.linked_target slot ds s u)

  mutual
    linked_kept : (s : Scope) (a : Tree) → Kept (l.linked slot ds s a) (l.linked slot es s a)
    linked_kept s (t.nil line) = here
    linked_kept s (t.truth line b) = here
    linked_kept s (t.int line n) = here
    linked_kept s (t.text line x) = here
    linked_kept s (t.name line n) = same (l.read slot ds s line n)
    linked_kept s (t.paren line a) = go (linked_kept s a) λ x. here
    linked_kept s (t.tuple line ts comma) = go (each_kept s ts) λ x. here
    linked_kept s (t.bare_tuple line ts comma) = go (each_kept s ts) λ x. here
    linked_kept s (t.list line ts comma) = go (each_kept s ts) λ x. here
    linked_kept s (t.dict line ps comma) = go (pairs_kept s ps) λ x. here
    linked_kept s (t.comprehension line a u j c) = go (linked_kept (within s u) a) λ x. go (target_kept s u) λ y. go (iterable_kept s j (linked_kept s j)) λ z. go (maybe_kept (within s u) c) λ w. here
    linked_kept s (t.call line n ts comma) = go (called_kept s line n (number_of ts)) λ c. go (each_kept s ts) λ xs. here
    linked_kept s (t.method line a w ts comma) = go (linked_kept s a) λ x. go (same (by_method w.line (number_of ts) (method_at w.text))) λ m. go (each_kept s ts) λ xs. here
    linked_kept s (t.index line a j) = cell_kept (cell_in s.row a j) (go (linked_kept s a) λ x. go (linked_kept s j) λ y. here)
    linked_kept s (t.slice line a j k) = go (linked_kept s a) λ x. go (maybe_kept s j) λ y. go (maybe_kept s k) λ z. here
    linked_kept s (t.unary line op a) = go (linked_kept s a) λ x. here
    linked_kept s (t.binary line a op b) = go (linked_kept s a) λ x. go (linked_kept s b) λ y. here
    linked_kept s (t.compare line a os) = go (linked_kept s a) λ x. go (operands_kept s os) λ y. here
    linked_kept s (t.negation line a) = go (linked_kept s a) λ x. here
    linked_kept s (t.conjunction line a ts) = go (linked_kept s a) λ x. go (each_kept s ts) λ y. here
    linked_kept s (t.disjunction line a ts) = go (linked_kept s a) λ x. go (each_kept s ts) λ y. here
    linked_kept s (t.conditional line a b c) = go (linked_kept s a) λ x. go (linked_kept s b) λ y. go (linked_kept s c) λ z. here

    each_kept : (s : Scope) (ts : Trees) → Kept (l.linked_each slot ds s ts) (l.linked_each slot es s ts)
    each_kept s t.none = here
    each_kept s (t.more a ts) = go (linked_kept s a) λ x. go (each_kept s ts) λ y. here

    pairs_kept : (s : Scope) (ps : PairTrees) → Kept (l.linked_pairs slot ds s ps) (l.linked_pairs slot es s ps)
    pairs_kept s t.no_pair = here
    pairs_kept s (t.pair a b ps) = go (linked_kept s a) λ x. go (linked_kept s b) λ y. go (pairs_kept s ps) λ z. here

    operands_kept : (s : Scope) (os : Operands) → Kept (l.linked_operands slot ds s os) (l.linked_operands slot es s os)
    operands_kept s t.no_operand = here
    operands_kept s (t.operand op a os) = go (linked_kept s a) λ x. go (operands_kept s os) λ y. here

    maybe_kept : (s : Scope) (a : MaybeTree) → Kept (l.linked_maybe slot ds s a) (l.linked_maybe slot es s a)
    maybe_kept s t.absent = here
    maybe_kept s (t.present a) = go (linked_kept s a) λ x. here

    iterable_kept : (s : Scope) (a : Tree) {o u : Result (f.Expr ℕ) Fault} → Kept o u → Kept (l.linked_iterable slot ds s a o) (l.linked_iterable slot es s a u)
    iterable_kept s (t.call line n ts comma) r = walk_kept line (number_of ts) (walk_in s n) (each_kept s ts) r
    iterable_kept s (t.method line a w ts comma) r = view_kept w.line (number_of ts) (view_at w.text) (linked_kept s a) (each_kept s ts) r
    iterable_kept s _ r = value_kept r

  mutual
    does_kept : (s : Scope) (a : t.Statement) → Kept (l.does slot ds s a) (l.does slot es s a)
    does_kept s (t.pass line) = here
    does_kept s (t.break line) = here
    does_kept s (t.continue line) = here
    does_kept s (t.return line a) = go (maybe_kept s a) λ x. here
    does_kept s (t.assign line u a) = go (target_kept s u) λ x. go (linked_kept s a) λ y. here
    does_kept s (t.augment line n op a) = go (same (l.assigned_slot slot ds s line n)) λ k. go (linked_kept s a) λ x. here
    does_kept s (t.express line a) = go (linked_kept s a) λ x. here
    does_kept s (t.branch line a b tail) = go (linked_kept s a) λ x. go (body_kept s b) λ y. go (arms_kept s tail) λ z. go (other_kept s tail) λ w. here
    does_kept s (t.repeat line u j b) = go (target_kept s u) λ x. go (iterable_kept s j (linked_kept s j)) λ y. go (body_kept s b) λ z. here

    body_kept : (s : Scope) (b : Body) → Kept (l.does_body slot ds s b) (l.does_body slot es s b)
    body_kept s (t.line a) = go (does_kept s a) λ x. here
    body_kept s (t.indented ss) = all_kept s ss

    all_kept : (s : Scope) (ss : t.Statements) → Kept (l.does_all slot ds s ss) (l.does_all slot es s ss)
    all_kept s t.finish = here
    all_kept s (t.next a ss) = go (does_kept s a) λ x. go (all_kept s ss) λ y. here

    arms_kept : (s : Scope) (tail : Tail) → Kept (l.arms_of slot ds s tail) (l.arms_of slot es s tail)
    arms_kept s t.nothing = here
    arms_kept s (t.otherwise b) = here
    arms_kept s (t.elif a b tail) = go (linked_kept s a) λ x. go (body_kept s b) λ y. go (arms_kept s tail) λ z. here

    other_kept : (s : Scope) (tail : Tail) → Kept (l.other_of slot ds s tail) (l.other_of slot es s tail)
    other_kept s t.nothing = here
    other_kept s (t.otherwise b) = body_kept s b
    other_kept s (t.elif a b tail) = other_kept s tail

  -- the line is told in a fault alone
  told_kept : {A : Type 0} {o u : Result A Fault} (at line : ℕ) → Kept o u → Kept (l.told_at slot ds at o) (l.told_at slot es line u)
  told_kept {o = Ok x} at line r = record { kept = ap (λ v. l.told_at slot es line v) r.kept }
  told_kept {o = Err e} at line r = fails

  function_kept : (names : List Text) (role : Role) (at line : ℕ) (n : Text) (params : List Text) (b : Body)
      → Kept (l.function_of_def slot ds names role at n params b) (l.function_of_def slot es names role line n params b)
  function_kept names role at line n params b =
      go (body_kept (scope_of_def (Plain (length params)) n params b) b) λ y.
      choose (length params == role_size role) (go (told_kept at line (body_kept (scope_of_def role n params b) b)) λ x. here) fails

abbrev pub Defs : Type 0
Defs = List (Text × Function ℕ)

block_kept : (ds more : Defs) (role : Role) (at line : ℕ) (b : BlockTree) → Kept (bound_block ds role at b) (bound_block (ds ++ more) role line b)
block_kept ds more role at line (define k n params comma b) = function_kept (place_in (names_of_def role params b)) ds more (names_of_def role params b) role at line n params b
block_kept ds more role at line (pipeline k n c) = fails
block_kept ds more role at line (alone c) = fails

pub more_defs : (ds more : Defs) (role : Role) (at line : ℕ) (b : BlockTree) (g : Function ℕ) → bound_block ds role at b ≡ Ok g → bound_block (ds ++ more) role line b ≡ Ok g
more_defs ds more role at line b g h = subst (λ o. Stays o (bound_block (ds ++ more) role line b)) h (block_kept ds more role at line b).kept

-- ---- its role

-- an answer has this role
abbrev Answers : Role → Result (Function ℕ) Fault → Type 0
Answers role (Ok g) = role_of g ≡ role
Answers role (Err e) = ⊤

record Has (role : Role) (o : Result (Function ℕ) Fault) : Type 0 where
  has : Answers role o

has_none : {role : Role} {e : Fault} → Has role (Err e)
has_none = record { has = tt }

has_by : {A : Type 0} {role : Role} (o : Result A Fault) {j : A → Result (Function ℕ) Fault} → ((a : A) → Has role (j a)) → Has role (o >>= j)
has_by (Ok a) s = s a
has_by (Err e) s = has_none

has_if : {role : Role} (b : Bool) {x z : Result (Function ℕ) Fault} → Has role x → Has role z → Has role (if b then x else z)
has_if true r s = r
has_if false r s = s

module _ (slot : Text → ℕ) (ds : Defs) where
  function_has : (names : List Text) (role : Role) (at : ℕ) (n : Text) (params : List Text) (b : Body) → Has role (l.function_of_def slot ds names role at n params b)
  function_has names role at n params b =
      has_by (l.does_body slot ds (scope_of_def (Plain (length params)) n params b) b) λ y.
      has_if (length params == role_size role) (has_by (l.told_at slot ds at (l.does_body slot ds (scope_of_def role n params b) b)) λ x. record { has = refl }) has_none

block_has : (ds : Defs) (role : Role) (at : ℕ) (b : BlockTree) → Has role (bound_block ds role at b)
block_has ds role at (define k n params comma b) = function_has (place_in (names_of_def role params b)) ds (names_of_def role params b) role at n params b
block_has ds role at (pipeline k n c) = has_none
block_has ds role at (alone c) = has_none

pub role_kept : (ds : Defs) (role : Role) (at : ℕ) (b : BlockTree) (g : Function ℕ) → bound_block ds role at b ≡ Ok g → role_of g ≡ role
role_kept ds role at b g h = subst (Answers role) h (block_has ds role at b).has
