-- A function linked with slots is the one linked with names, but for its names.
use Rattle.std.proofs.Common.{◌≡◌, ℕ, suc, List, [], ◌∷◌, length, map, Option, Some, None, Result, Ok, Err, refl, sym, ap, ◌∙◌, subst, Bool, true, false, ◌==◌, if◌then◌else◌}
use Rattle.std.specs.Prelude.{option_map, is_some}
use Rattle.tx_tree.specs.declared.target.Word.{Word}
use Rattle.tx_tree.specs.declared.target.Target as declared
use Rattle.tx_tree.specs.declared.target.Target.TheVariants as target
use Rattle.tx_tree.specs.declared.function.Builtin.{Builtin}
use Rattle.tx_tree.specs.declared.function.Walk.{Walk}
use Rattle.tx_tree.specs.Words.{same_text}
use Rattle.tx_tree.specs.Takes.{exactly, allows, builtin_takes, walk_takes}
use Rattle.tx_tree.specs.Tree as t
use Rattle.tx_tree.specs.Tree.{Tree, Trees, PairTrees, Operands, MaybeTree, Body, Tail}
use Rattle.tx_name_set.specs.NameSet.{is_in, place_in}
use Rattle.tx_names.specs.declared.role.Role.{Role}
use Rattle.tx_names.specs.declared.role.Role.TheVariants.{Plain}
use Rattle.tx_names.specs.declared.fault.Fault.{Fault}
use Rattle.tx_names.specs.Named.{builtin_at, method_at, walk_function_at, view_at}
use Rattle.tx_names.specs.Scope.{Text, number_of, Scope, is_name_of, is_variable, within, role_size, plain_params, names_of_def, names_of_lambda, scope_of_def, scope_of_lambda}
use Rattle.tx_names.specs.Faults.{cell_in}
use Rattle.tx_names.specs.Function as f
use Rattle.tx_names.specs.Function.{Target, one, several, Function, function, params_of}
use Rattle.tx_names.specs.Linked as l
use Rattle.tx_names.specs.Linked.{◌>>=◌, counted, Callee, builtin_function, earlier_def, call_of, by_def, by_builtin, by_walk, by_view, by_cell, as_value, walk_in, def_named, by_method, told_at, has_params}
use Rattle.tx_names.specs.Numbered.{numbered_target, numbered_expr, numbered_exprs, numbered_pairs, numbered_comparisons, numbered_maybe, numbered_iterable, numbered_statement, numbered_statements, numbered_arms, numbered, numbered_defs}
use Rattle.tx_names.specs.Laws.{NumberingLaw, named_def, named_lambda, numbered_result}

abbrev mapped : {A B : Type 0} → (A → B) → Result A Fault → Result B Fault
mapped h (Ok a) = Ok (h a)
mapped h (Err e) = Err e

-- as a record, so that antt sees what it is of
record Seen {A B : Type 0} (h : A → B) (o : Result B Fault) (u : Result A Fault) : Type 0 where
  seen : o ≡ mapped h u

go : {A B C D : Type 0} {h : A → B} {i : C → D} {o : Result B Fault} {u : Result A Fault} (j : B → Result D Fault) {k : A → Result C Fault} → Seen h o u → ((a : A) → Seen i (j (h a)) (k a)) → Seen i (o >>= j) (u >>= k)
go {u = Ok a} j r s = record { seen = ap (λ x. x >>= j) r.seen ∙ (s a).seen }
go {u = Err e} j r s = record { seen = ap (λ x. x >>= j) r.seen }

choose : {A B : Type 0} {h : A → B} {x z : Result B Fault} {y w : Result A Fault} (b : Bool) → Seen h x y → Seen h z w → Seen h (if b then x else z) (if b then y else w)
choose true r s = r
choose false r s = s

-- of one answer
go_one : {A C D : Type 0} {i : C → D} (o : Result A Fault) {j : A → Result D Fault} {k : A → Result C Fault} → ((a : A) → Seen i (j a) (k a)) → Seen i (o >>= j) (o >>= k)
go_one (Ok a) s = s a
go_one (Err e) s = record { seen = refl }

here : {A B : Type 0} {h : A → B} {a : A} → Seen h (Ok (h a)) (Ok a)
here = record { seen = refl }

fails : {A B : Type 0} {h : A → B} {e : Fault} → Seen h (Err e) (Err e)
fails = record { seen = refl }

map_id : {A : Type 0} (xs : List A) → map (λ x. x) xs ≡ xs
map_id [] = refl
map_id (x ∷ xs) = ap (λ r. x ∷ r) (map_id xs)

length_map : {A B : Type 0} (h : A → B) (xs : List A) → length (map h xs) ≡ length xs
length_map h [] = refl
length_map h (x ∷ xs) = ap suc (length_map h xs)

-- a def keeps its number of parameters
params_same : (g : Function Text) → length (params_of (numbered g)) ≡ length (params_of g)
params_same (function role params locals body) = length_map (place_in locals) params

abbrev callee_numbered : Callee Text → Callee ℕ
callee_numbered (builtin_function b) = builtin_function b
callee_numbered (earlier_def g) = earlier_def (numbered g)

defs_same : (ds : List (Text × Function Text)) (n : Text) → def_named (numbered_defs ds) n ≡ option_map numbered (def_named ds n)
defs_same [] n = refl
defs_same (d ∷ ds) n = by_test (same_text d.0 n) (defs_same ds n)
  where
    by_test : (b : Bool) → def_named (numbered_defs ds) n ≡ option_map numbered (def_named ds n)
        → (if b then Some (numbered d.1) else def_named (numbered_defs ds) n) ≡ option_map numbered (if b then Some d.1 else def_named ds n)
    by_test true e = refl
    by_test false e = e

def_by : (line count : ℕ) (d : Option (Function Text)) → Seen callee_numbered (by_def line count (option_map numbered d)) (by_def line count d)
def_by line count None = fails
def_by line count (Some g) = subst (λ (k : ℕ). Seen callee_numbered (counted (exactly k) line count (earlier_def (numbered g))) (counted (exactly (length (params_of g))) line count (earlier_def g)))
    (sym (params_same g)) (choose (allows (exactly (length (params_of g))) count) here fails)

builtin_by : (line count : ℕ) (b : Option Builtin) {o : Result (Callee ℕ) Fault} {u : Result (Callee Text) Fault} → Seen callee_numbered o u → Seen callee_numbered (by_builtin line count b o) (by_builtin line count b u)
builtin_by line count None r = r
builtin_by line count (Some b) r = choose (allows (builtin_takes b) count) here fails

module _ (names : List Text) (ds : List (Text × Function Text)) where
  abbrev p : Text → ℕ
  p = place_in names

  abbrev i : Text → Text
  i n = n

  abbrev es : List (Text × Function ℕ)
  es = numbered_defs ds

  read_same : (s : Scope) (line : ℕ) (n : Text) → Seen (numbered_expr p) (l.read p es s line n) (l.read i ds s line n)
  read_same s line n = choose (is_name_of s.row n) fails (choose (is_in s.locals n) here fails)

  assigned_same : (s : Scope) (line : ℕ) (n : Text) → Seen p (l.assigned_slot p es s line n) (l.assigned_slot i ds s line n)
  assigned_same s line n = choose (is_name_of s.row n) fails here

  slots_same : (s : Scope) (ws : List Word) → Seen (map p) (l.assigned_slots p es s ws) (l.assigned_slots i ds s ws)
  slots_same s [] = here
  slots_same s (w ∷ ws) = go _ (assigned_same s w.line w.text) λ k. go _ (slots_same s ws) λ ks. here

  target_same : (s : Scope) (u : declared.Target) → Seen (numbered_target p) (l.linked_target p es s u) (l.linked_target i ds s u)
  target_same s (target.Name w) = go _ (assigned_same s w.line w.text) λ k. here
  target_same s (target.Names ws comma) = go _ (slots_same s ws) λ ks. here
  target_same s (target.Bracketed line ws comma) = go _ (slots_same s ws) λ ks. here

  called_same : (s : Scope) (line : ℕ) (n : Text) (count : ℕ) → Seen callee_numbered (l.called p es s line n count) (l.called i ds s line n count)
  called_same s line n count = choose (is_name_of s.own n) fails (choose (is_variable s n) fails (builtin_by line count (builtin_at n)
      (choose (is_some (walk_function_at n)) fails
      (subst (λ (o : Option (Function ℕ)). Seen callee_numbered (by_def line count o) (by_def line count (def_named ds n))) (sym (defs_same ds n)) (def_by line count (def_named ds n))))))

  call_same : (c : Callee Text) (xs : f.Exprs Text) → call_of (callee_numbered c) (numbered_exprs p xs) ≡ numbered_expr p (call_of c xs)
  call_same (builtin_function b) xs = refl
  call_same (earlier_def g) xs = refl

  value_same : {o : Result (f.Expr ℕ) Fault} {u : Result (f.Expr Text) Fault} → Seen (numbered_expr p) o u → Seen (numbered_iterable p) (as_value o) (as_value u)
  value_same r = go _ r λ x. here

  walk_same : (line count : ℕ) (w : Option Walk) {a : Result (f.Exprs ℕ) Fault} {b : Result (f.Exprs Text) Fault} {o : Result (f.Expr ℕ) Fault} {u : Result (f.Expr Text) Fault} → Seen (numbered_exprs p) a b → Seen (numbered_expr p) o u
      → Seen (numbered_iterable p) (by_walk w line count a o) (by_walk w line count b u)
  walk_same line count None r s = value_same s
  walk_same line count (Some w) r s = go_one (counted (walk_takes w) line count w) λ v. go _ r λ xs. here

  view_same : (line count : ℕ) (w : Option Walk) {c : Result (f.Expr ℕ) Fault} {d : Result (f.Expr Text) Fault} {a : Result (f.Exprs ℕ) Fault} {b : Result (f.Exprs Text) Fault} {o : Result (f.Expr ℕ) Fault} {u : Result (f.Expr Text) Fault}
      → Seen (numbered_expr p) c d → Seen (numbered_exprs p) a b → Seen (numbered_expr p) o u → Seen (numbered_iterable p) (by_view w line count c a o) (by_view w line count d b u)
  view_same line count None q r s = value_same s
  view_same line count (Some w) q r s = go _ q λ x. go_one (counted (walk_takes w) line count w) λ v. go _ r λ xs. here

  cell_same : (c : Option Text) {o : Result (f.Expr ℕ) Fault} {u : Result (f.Expr Text) Fault} → Seen (numbered_expr p) o u → Seen (numbered_expr p) (by_cell c o) (by_cell c u)
  cell_same None r = r
  cell_same (Some c) r = here

  mutual
    linked_same : (s : Scope) (a : Tree) → Seen (numbered_expr p) (l.linked p es s a) (l.linked i ds s a)
    linked_same s (t.nil line) = here
    linked_same s (t.truth line b) = here
    linked_same s (t.int line n) = here
    linked_same s (t.text line x) = here
    linked_same s (t.name line n) = read_same s line n
    linked_same s (t.paren line a) = go _ (linked_same s a) λ x. here
    linked_same s (t.tuple line ts comma) = go _ (each_same s ts) λ x. here
    linked_same s (t.bare_tuple line ts comma) = go _ (each_same s ts) λ x. here
    linked_same s (t.list line ts comma) = go _ (each_same s ts) λ x. here
    linked_same s (t.dict line ps comma) = go _ (pairs_same s ps) λ x. here
    linked_same s (t.comprehension line a u j c) = go _ (linked_same (within s u) a) λ x. go _ (target_same s u) λ y. go _ (iterable_same s j (linked_same s j)) λ z. go _ (maybe_same (within s u) c) λ w. here
    linked_same s (t.call line n ts comma) = go _ (called_same s line n (number_of ts)) λ c. go _ (each_same s ts) λ xs. record { seen = ap Ok (call_same c xs) }
    linked_same s (t.method line a w ts comma) = go _ (linked_same s a) λ x. go_one (by_method w.line (number_of ts) (method_at w.text)) λ m. go _ (each_same s ts) λ xs. here
    linked_same s (t.index line a j) = cell_same (cell_in s.row a j) (go _ (linked_same s a) λ x. go _ (linked_same s j) λ y. here)
    linked_same s (t.slice line a j k) = go _ (linked_same s a) λ x. go _ (maybe_same s j) λ y. go _ (maybe_same s k) λ z. here
    linked_same s (t.unary line op a) = go _ (linked_same s a) λ x. here
    linked_same s (t.binary line a op b) = go _ (linked_same s a) λ x. go _ (linked_same s b) λ y. here
    linked_same s (t.compare line a os) = go _ (linked_same s a) λ x. go _ (operands_same s os) λ y. here
    linked_same s (t.negation line a) = go _ (linked_same s a) λ x. here
    linked_same s (t.conjunction line a ts) = go _ (linked_same s a) λ x. go _ (each_same s ts) λ y. here
    linked_same s (t.disjunction line a ts) = go _ (linked_same s a) λ x. go _ (each_same s ts) λ y. here
    linked_same s (t.conditional line a b c) = go _ (linked_same s a) λ x. go _ (linked_same s b) λ y. go _ (linked_same s c) λ z. here

    each_same : (s : Scope) (ts : Trees) → Seen (numbered_exprs p) (l.linked_each p es s ts) (l.linked_each i ds s ts)
    each_same s t.none = here
    each_same s (t.more a ts) = go _ (linked_same s a) λ x. go _ (each_same s ts) λ y. here

    pairs_same : (s : Scope) (ps : PairTrees) → Seen (numbered_pairs p) (l.linked_pairs p es s ps) (l.linked_pairs i ds s ps)
    pairs_same s t.no_pair = here
    pairs_same s (t.pair a b ps) = go _ (linked_same s a) λ x. go _ (linked_same s b) λ y. go _ (pairs_same s ps) λ z. here

    operands_same : (s : Scope) (os : Operands) → Seen (numbered_comparisons p) (l.linked_operands p es s os) (l.linked_operands i ds s os)
    operands_same s t.no_operand = here
    operands_same s (t.operand op a os) = go _ (linked_same s a) λ x. go _ (operands_same s os) λ y. here

    maybe_same : (s : Scope) (a : MaybeTree) → Seen (numbered_maybe p) (l.linked_maybe p es s a) (l.linked_maybe i ds s a)
    maybe_same s t.absent = here
    maybe_same s (t.present a) = go _ (linked_same s a) λ x. here

    iterable_same : (s : Scope) (a : Tree) {o : Result (f.Expr ℕ) Fault} {u : Result (f.Expr Text) Fault} → Seen (numbered_expr p) o u → Seen (numbered_iterable p) (l.linked_iterable p es s a o) (l.linked_iterable i ds s a u)
    iterable_same s (t.call line n ts comma) r = walk_same line (number_of ts) (walk_in s n) (each_same s ts) r
    iterable_same s (t.method line a w ts comma) r = view_same w.line (number_of ts) (view_at w.text) (linked_same s a) (each_same s ts) r
    iterable_same s _ r = value_same r

  mutual
    does_same : (s : Scope) (a : t.Statement) → Seen (numbered_statement p) (l.does p es s a) (l.does i ds s a)
    does_same s (t.pass line) = here
    does_same s (t.break line) = here
    does_same s (t.continue line) = here
    does_same s (t.return line a) = go _ (maybe_same s a) λ x. here
    does_same s (t.assign line u a) = go _ (target_same s u) λ x. go _ (linked_same s a) λ y. here
    does_same s (t.augment line n op a) = go _ (assigned_same s line n) λ k. go _ (linked_same s a) λ x. here
    does_same s (t.express line a) = go _ (linked_same s a) λ x. here
    does_same s (t.branch line a b tail) = go _ (linked_same s a) λ x. go _ (body_same s b) λ y. go _ (arms_same s tail) λ z. go _ (other_same s tail) λ w. here
    does_same s (t.repeat line u j b) = go _ (target_same s u) λ x. go _ (iterable_same s j (linked_same s j)) λ y. go _ (body_same s b) λ z. here

    body_same : (s : Scope) (b : Body) → Seen (numbered_statements p) (l.does_body p es s b) (l.does_body i ds s b)
    body_same s (t.line a) = go _ (does_same s a) λ x. here
    body_same s (t.indented ss) = all_same s ss

    all_same : (s : Scope) (ss : t.Statements) → Seen (numbered_statements p) (l.does_all p es s ss) (l.does_all i ds s ss)
    all_same s t.finish = here
    all_same s (t.next a ss) = go _ (does_same s a) λ x. go _ (all_same s ss) λ y. here

    arms_same : (s : Scope) (tail : Tail) → Seen (numbered_arms p) (l.arms_of p es s tail) (l.arms_of i ds s tail)
    arms_same s t.nothing = here
    arms_same s (t.otherwise b) = here
    arms_same s (t.elif a b tail) = go _ (linked_same s a) λ x. go _ (body_same s b) λ y. go _ (arms_same s tail) λ z. here

    other_same : (s : Scope) (tail : Tail) → Seen (numbered_statements p) (l.other_of p es s tail) (l.other_of i ds s tail)
    other_same s t.nothing = here
    other_same s (t.otherwise b) = body_same s b
    other_same s (t.elif a b tail) = other_same s tail

  told_same : {A B : Type 0} {h : A → B} {o : Result B Fault} {u : Result A Fault} (at : ℕ) → Seen h o u → Seen h (told_at p es at o) (told_at i ds at u)
  told_same {u = Ok a} at r = record { seen = ap (λ x. told_at p es at x) r.seen }
  told_same {u = Err e} at r = record { seen = ap (λ x. told_at p es at x) r.seen }

  lambda_same : (role : Role) (at : ℕ) (params : List Text) (a : Tree) → Seen numbered (l.function_of_lambda p es names role at params a) (l.function_of_lambda i ds names role at params a)
  lambda_same role at params a = choose (length params == role_size role) (go _ (linked_same (scope_of_lambda role params) a) λ x. record { seen = ap Ok (whole x) }) fails
    where
      whole : (x : f.Expr Text) → function role (map p (plain_params role params)) (map p names) (f.gives (numbered_expr p x)) ≡ numbered (function role (map i (plain_params role params)) (map i names) (f.gives x))
      whole x = sym (ap (λ xs. numbered (function role xs (map i names) (f.gives x))) (map_id (plain_params role params)) ∙ ap (λ ls. numbered (function role (plain_params role params) ls (f.gives x))) (map_id names))

  def_same : (role : Role) (at : ℕ) (n : Text) (params : List Text) (b : Body) → Seen numbered (l.function_of_def p es names role at n params b) (l.function_of_def i ds names role at n params b)
  def_same role at n params b = go _ (body_same (scope_of_def (Plain (length params)) n params b) b) λ y. choose (length params == role_size role) (go _ (told_same at (body_same (scope_of_def role n params b) b)) λ x. record { seen = ap Ok (whole x) }) fails
    where
      whole : (x : f.Statements Text) → function role (map p (plain_params role params)) (map p names) (f.does (numbered_statements p x)) ≡ numbered (function role (map i (plain_params role params)) (map i names) (f.does x))
      whole x = sym (ap (λ xs. numbered (function role xs (map i names) (f.does x))) (map_id (plain_params role params)) ∙ ap (λ ls. numbered (function role (plain_params role params) ls (f.does x))) (map_id names))

result_same : (u : Result (Function Text) Fault) → mapped numbered u ≡ numbered_result u
result_same (Ok g) = refl
result_same (Err e) = refl

pub numbering : NumberingLaw
numbering = record {
  def = λ ds role at n params b. (def_same (names_of_def role params b) ds role at n params b).seen ∙ result_same (named_def ds role at n params b);
  lambda = λ ds role at params a. (lambda_same (names_of_lambda role params a) ds role at params a).seen ∙ result_same (named_lambda ds role at params a);
}
