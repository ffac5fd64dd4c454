-- Where a def has no fault as a def, each fault that it has with a row's parameter is a use of that parameter.
use Rattle.std.proofs.Common.{◌≡◌, ℕ, suc, List, [], ◌∷◌, ◌++◌, length, Option, Some, None, refl, sym, ap, ◌∙◌, subst, Bool, true, false, not, ◌&&◌, ◌||◌, if◌then◌else◌}
use Rattle.std.specs.Prelude.{option_map, is_some}
use Rattle.std.specs.List.{list_all, flat_map}
use Rattle.std.specs.Option.{option_map_or}
use Rattle.std.specs.Cmp.Lexicographic.{bytes_decides}
use Rattle.std.proofs.lemmas.Bool.{true≢false}
use Rattle.std.proofs.lemmas.List.Folds.{list_any-append, list_all-append}
use Rattle.tx_tree.specs.declared.target.Word.{Word}
use Rattle.tx_tree.specs.declared.target.Target as declared
use Rattle.tx_tree.specs.declared.function.Walk.{Walk}
use Rattle.tx_tree.specs.Words.{same_text}
use Rattle.tx_tree.specs.Takes.{Takes, allows, walk_takes}
use Rattle.tx_tree.specs.Tree as t
use Rattle.tx_tree.specs.Tree.{Tree, Trees, PairTrees, Operands, MaybeTree, Body, Tail}
use Rattle.tx_name_set.specs.NameSet.{is_in, add_all}
use Rattle.tx_names.specs.declared.role.Role.{Role}
use Rattle.tx_names.specs.declared.role.Role.TheVariants.{Plain, OfRow, OfAccRow}
use Rattle.tx_names.specs.declared.fault.Fault.{Fault}
use Rattle.tx_names.specs.declared.fault.FaultKind.TheVariants.{Recursive, Unknown, Arity, RowUse}
use Rattle.tx_names.specs.Named.{walk_function_at, view_at}
use Rattle.tx_names.specs.Scope.{Text, number_of, words_of, names_of, Scope, is_name_of, is_variable, within, role_size, assigned_body, scope_of_def}
use Rattle.tx_names.specs.Faults as g
use Rattle.tx_names.specs.Faults.{fault, when, Known, called_takes, is_miscounted, at_read, at_called, at_method, at_assigned, at_target, cell_in, unless_cell, walk_here, is_row_use}
use Rattle.tx_names.proofs.Soundness.{in_all_added}

-- each fault is a use of the row's parameter
pub record Rows (fs : List Fault) : Type 0 where
  pub rows : list_all is_row_use fs ≡ true

cons_nil : {A : Type 0} {x : A} {xs : List A} → x ∷ xs ≡ [] → ⊥
cons_nil h = cc

no_rows : Rows []
no_rows = record { rows = refl }

left_nil : {A : Type 0} (xs ys : List A) → xs ++ ys ≡ [] → xs ≡ []
left_nil [] ys h = refl
left_nil (x ∷ xs) ys h = absurd (cons_nil h)

right_nil : {A : Type 0} (xs ys : List A) → xs ++ ys ≡ [] → ys ≡ []
right_nil [] ys h = h
right_nil (x ∷ xs) ys h = absurd (cons_nil h)

and_true : {a b : Bool} → a ≡ true → b ≡ true → (a && b) ≡ true
and_true {a = true} h r = r
and_true {a = false} h r = absurd (true≢false (sym h))

join : {fs gs : List Fault} → Rows fs → Rows gs → Rows (fs ++ gs)
join {fs = fs} {gs = gs} h r = record { rows = list_all-append is_row_use fs gs ∙ and_true h.rows r.rows }

-- from no fault in the one to row uses in the other
pub record From (fs gs : List Fault) : Type 0 where
  pub from : fs ≡ [] → Rows gs

both : {fs gs hs is : List Fault} → From fs hs → From gs is → From (fs ++ gs) (hs ++ is)
both {fs = fs} {gs = gs} h r = record { from = λ e. join (h.from (left_nil fs gs e)) (r.from (right_nil fs gs e)) }

plain : From [] []
plain = record { from = λ e. no_rows }

alike : {fs : List Fault} → From fs fs
alike {fs = fs} = record { from = λ e. subst (λ (xs : List Fault). Rows xs) (sym e) no_rows }

row_when : (b : Bool) (line : ℕ) → Rows (when b (fault RowUse line))
row_when true line = record { rows = refl }
row_when false line = no_rows

read_by : (v row seen : Bool) (line : ℕ) → From (when (not v) (fault Unknown line) ++ when row (fault RowUse line)) (when (not v) (fault Unknown line) ++ when seen (fault RowUse line))
read_by true row seen line = record { from = λ e. row_when seen line }
read_by false row seen line = record { from = λ e. absurd (cons_nil e) }

called_by : (own v known miscounted row seen : Bool) (line : ℕ)
    → From (((when own (fault Recursive line) ++ when (v || not known) (fault Unknown line)) ++ when miscounted (fault Arity line)) ++ when row (fault RowUse line))
    (((when own (fault Recursive line) ++ when (v || not known) (fault Unknown line)) ++ when miscounted (fault Arity line)) ++ when seen (fault RowUse line))
called_by true v known miscounted row seen line = record { from = λ e. absurd (cons_nil e) }
called_by false true known miscounted row seen line = record { from = λ e. absurd (cons_nil e) }
called_by false false false miscounted row seen line = record { from = λ e. absurd (cons_nil e) }
called_by false false true true row seen line = record { from = λ e. absurd (cons_nil e) }
called_by false false true false row seen line = record { from = λ e. row_when seen line }

-- a scope without a row, and one with the same variables
pub record Alike (s r : Scope) : Type 0 where
  pub own : r.own ≡ s.own
  pub no_row : s.row ≡ None
  pub same : (n : Text) → is_variable r n ≡ is_variable s n

or_swap : (a u b : Bool) → (a || (u || b)) ≡ (u || (a || b))
or_swap true true b = refl
or_swap true false b = refl
or_swap false u b = refl

within_alike : (s r : Scope) (u : declared.Target) → Alike s r → Alike (within s u) (within r u)
within_alike s r u h = record {
  own = h.own;
  no_row = h.no_row;
  same = λ n. moved r n ∙ ap (λ b. is_in (add_all [] (names_of u)) n || b) (h.same n) ∙ sym (moved s n);
}
  where
    moved : (x : Scope) (n : Text) → is_variable (within x u) n ≡ (is_in (add_all [] (names_of u)) n || is_variable x n)
    moved x n = ap (λ b. is_name_of x.row n || b) (list_any-append (same_text n) (add_all [] (names_of u)) x.locals) ∙ or_swap (is_name_of x.row n) (is_in (add_all [] (names_of u)) n) (is_in x.locals n)

no_cell : (a i : Tree) → cell_in None a i ≡ None
no_cell (t.name j n) (t.text k c) = refl
no_cell _ _ = refl

target_rows : (r : Scope) (ws : List Word) → Rows (flat_map (λ w. at_assigned r w.line w.text) ws)
target_rows r [] = no_rows
target_rows r (w ∷ ws) = join (row_when (is_name_of r.row w.text) w.line) (target_rows r ws)

target_from : (fs : List Fault) (r : Scope) (u : declared.Target) → From fs (at_target r u)
target_from fs r u = record { from = λ e. target_rows r (words_of u) }

cell_from : {fs gs : List Fault} (s r : Scope) (a i : Tree) → s.row ≡ None → From fs gs → From (unless_cell (cell_in s.row a i) fs) (unless_cell (cell_in r.row a i) gs)
cell_from {fs = fs} {gs = gs} s r a i e h = by_cell (cell_in r.row a i)
  where
    here : unless_cell (cell_in s.row a i) fs ≡ fs
    here = ap (λ row. unless_cell (cell_in row a i) fs) e ∙ ap (λ c. unless_cell c fs) (no_cell a i)

    by_cell : (c : Option Text) → From (unless_cell (cell_in s.row a i) fs) (unless_cell c gs)
    by_cell None = record { from = λ k. h.from (sym here ∙ k) }
    by_cell (Some c) = record { from = λ k. no_rows }

iterable_by : (o : Option Takes) (fs gs : Takes → List Fault) {hs is : List Fault} → ((x : Takes) → From (fs x) (gs x)) → From hs is → From (option_map_or fs o hs) (option_map_or gs o is)
iterable_by None fs gs h r = r
iterable_by (Some x) fs gs h r = h x

view_by : (o : Option Walk) (fs gs : Walk → List Fault) {hs is : List Fault} → ((x : Walk) → From (fs x) (gs x)) → From hs is → From (option_map_or fs o hs) (option_map_or gs o is)
view_by None fs gs h r = r
view_by (Some x) fs gs h r = h x

module _ (ds : Known) where
  read_from : (s r : Scope) → Alike s r → (line : ℕ) (n : Text) → From (at_read s line n) (at_read r line n)
  read_from s r h line n = subst (λ (b : Bool). From (at_read s line n) (when (not b) (fault Unknown line) ++ when (is_name_of r.row n) (fault RowUse line))) (sym (h.same n)) (read_by (is_variable s n) (is_name_of s.row n) (is_name_of r.row n) line)

  called_from : (s r : Scope) → Alike s r → (line : ℕ) (n : Text) (count : ℕ) → From (at_called s line n (called_takes ds n) count) (at_called r line n (called_takes ds n) count)
  called_from s r h line n count =
      subst (λ (o : Option Text). From (at_called s line n takes count) (((when (is_name_of o n) (fault Recursive line) ++ when (is_variable r n || not (is_some takes)) (fault Unknown line)) ++ when (is_miscounted takes count) (fault Arity line)) ++ when (is_name_of r.row n) (fault RowUse line)))
      (sym h.own)
      (subst (λ (b : Bool). From (at_called s line n takes count) (((when (is_name_of s.own n) (fault Recursive line) ++ when (b || not (is_some takes)) (fault Unknown line)) ++ when (is_miscounted takes count) (fault Arity line)) ++ when (is_name_of r.row n) (fault RowUse line)))
      (sym (h.same n))
      (called_by (is_name_of s.own n) (is_variable s n) (is_some takes) (is_miscounted takes count) (is_name_of s.row n) (is_name_of r.row n) line))
    where
      takes : Option Takes
      takes = called_takes ds n

  walk_same : (s r : Scope) → Alike s r → (n : Text) → walk_here s n ≡ walk_here r n
  walk_same s r h n = sym (ap (λ o. if is_name_of o n || is_variable r n then None else option_map walk_takes (walk_function_at n)) h.own ∙ ap (λ b. if is_name_of s.own n || b then None else option_map walk_takes (walk_function_at n)) (h.same n))

  mutual
    pub faults_from : (s r : Scope) → Alike s r → (a : Tree) → From (g.faults ds s a) (g.faults ds r a)
    faults_from s r h (t.nil i) = plain
    faults_from s r h (t.truth i b) = plain
    faults_from s r h (t.int i n) = plain
    faults_from s r h (t.text i x) = plain
    faults_from s r h (t.name i n) = read_from s r h i n
    faults_from s r h (t.paren i a) = faults_from s r h a
    faults_from s r h (t.tuple i es comma) = each_from s r h es
    faults_from s r h (t.bare_tuple i es comma) = each_from s r h es
    faults_from s r h (t.list i es comma) = each_from s r h es
    faults_from s r h (t.dict i ps comma) = pairs_from s r h ps
    faults_from s r h (t.comprehension i a u j c) = both (both (both (faults_from (within s u) (within r u) (within_alike s r u h) a) (target_from _ r u)) (iterable_from s r h j (faults_from s r h j))) (maybe_from (within s u) (within r u) (within_alike s r u h) c)
    faults_from s r h (t.call i n es comma) = both (called_from s r h i n (number_of es)) (each_from s r h es)
    faults_from s r h (t.method i a w es comma) = both (both (faults_from s r h a) alike) (each_from s r h es)
    faults_from s r h (t.index i a j) = cell_from s r a j h.no_row (both (faults_from s r h a) (faults_from s r h j))
    faults_from s r h (t.slice i a j k) = both (both (faults_from s r h a) (maybe_from s r h j)) (maybe_from s r h k)
    faults_from s r h (t.unary i op a) = faults_from s r h a
    faults_from s r h (t.binary i a op b) = both (faults_from s r h a) (faults_from s r h b)
    faults_from s r h (t.compare i a os) = both (faults_from s r h a) (operands_from s r h os)
    faults_from s r h (t.negation i a) = faults_from s r h a
    faults_from s r h (t.conjunction i a es) = both (faults_from s r h a) (each_from s r h es)
    faults_from s r h (t.disjunction i a es) = both (faults_from s r h a) (each_from s r h es)
    faults_from s r h (t.conditional i a b c) = both (both (faults_from s r h a) (faults_from s r h b)) (faults_from s r h c)

    pub each_from : (s r : Scope) → Alike s r → (es : Trees) → From (g.faults_each ds s es) (g.faults_each ds r es)
    each_from s r h t.none = plain
    each_from s r h (t.more a es) = both (faults_from s r h a) (each_from s r h es)

    pub pairs_from : (s r : Scope) → Alike s r → (ps : PairTrees) → From (g.faults_pairs ds s ps) (g.faults_pairs ds r ps)
    pairs_from s r h t.no_pair = plain
    pairs_from s r h (t.pair a b ps) = both (both (faults_from s r h a) (faults_from s r h b)) (pairs_from s r h ps)

    pub operands_from : (s r : Scope) → Alike s r → (os : Operands) → From (g.faults_operands ds s os) (g.faults_operands ds r os)
    operands_from s r h t.no_operand = plain
    operands_from s r h (t.operand op a os) = both (faults_from s r h a) (operands_from s r h os)

    pub maybe_from : (s r : Scope) → Alike s r → (a : MaybeTree) → From (g.faults_maybe ds s a) (g.faults_maybe ds r a)
    maybe_from s r h t.absent = plain
    maybe_from s r h (t.present a) = faults_from s r h a

    pub iterable_from : (s r : Scope) → Alike s r → (a : Tree) {fs gs : List Fault} → From fs gs → From (g.faults_iterable ds s a fs) (g.faults_iterable ds r a gs)
    iterable_from s r h (t.call i n es comma) {fs = fs} {gs = gs} k =
        subst (λ (o : Option Takes). From (g.faults_iterable ds s (t.call i n es comma) fs) (option_map_or (λ x. when (not (allows x (number_of es))) (fault Arity i) ++ g.faults_each ds r es) o gs)) (walk_same s r h n)
        (iterable_by (walk_here s n) (λ x. when (not (allows x (number_of es))) (fault Arity i) ++ g.faults_each ds s es) (λ x. when (not (allows x (number_of es))) (fault Arity i) ++ g.faults_each ds r es) (λ x. both alike (each_from s r h es)) k)
    iterable_from s r h (t.method i a w es comma) k =
        view_by (view_at w.text) (λ v. (g.faults ds s a ++ at_method w.line (Some (walk_takes v)) (number_of es)) ++ g.faults_each ds s es) (λ v. (g.faults ds r a ++ at_method w.line (Some (walk_takes v)) (number_of es)) ++ g.faults_each ds r es)
        (λ v. both (both (faults_from s r h a) alike) (each_from s r h es)) k
    iterable_from s r h _ k = k

  mutual
    pub of_from : (s r : Scope) → Alike s r → (a : t.Statement) → From (g.faults_of ds s a) (g.faults_of ds r a)
    of_from s r h (t.pass i) = plain
    of_from s r h (t.break i) = plain
    of_from s r h (t.continue i) = plain
    of_from s r h (t.return i a) = maybe_from s r h a
    of_from s r h (t.assign i u a) = both (target_from _ r u) (faults_from s r h a)
    of_from s r h (t.augment i n op a) = both (record { from = λ e. row_when (is_name_of r.row n) i }) (faults_from s r h a)
    of_from s r h (t.express i a) = faults_from s r h a
    of_from s r h (t.branch i a b rest) = both (both (faults_from s r h a) (body_from s r h b)) (tail_from s r h rest)
    of_from s r h (t.repeat i u j b) = both (both (target_from _ r u) (iterable_from s r h j (faults_from s r h j))) (body_from s r h b)

    pub body_from : (s r : Scope) → Alike s r → (b : Body) → From (g.faults_body ds s b) (g.faults_body ds r b)
    body_from s r h (t.line a) = of_from s r h a
    body_from s r h (t.indented ss) = all_from s r h ss

    pub all_from : (s r : Scope) → Alike s r → (ss : t.Statements) → From (g.faults_all ds s ss) (g.faults_all ds r ss)
    all_from s r h t.finish = plain
    all_from s r h (t.next a ss) = both (of_from s r h a) (all_from s r h ss)

    pub tail_from : (s r : Scope) → Alike s r → (rest : Tail) → From (g.faults_tail ds s rest) (g.faults_tail ds r rest)
    tail_from s r h t.nothing = plain
    tail_from s r h (t.otherwise b) = body_from s r h b
    tail_from s r h (t.elif a b rest) = both (both (faults_from s r h a) (body_from s r h b)) (tail_from s r h rest)

-- ---- the two scopes of a def

turned : (m n : Text) → same_text m n ≡ same_text n m
turned m n = by_test (same_text m n) refl
  where
    other : (b : Bool) → same_text n m ≡ b → (same_text m n ≡ true → ⊥) → false ≡ b
    other true e h = absurd (h ((bytes_decides m n).1 (sym ((bytes_decides n m).0 e))))
    other false e h = refl

    by_test : (b : Bool) → same_text m n ≡ b → same_text m n ≡ same_text n m
    by_test true e = e ∙ sym ((bytes_decides n m).1 (sym ((bytes_decides m n).0 e)))
    by_test false e = e ∙ other (same_text n m) refl (λ k. true≢false (sym k ∙ e))

row_alone : (m n : Text) (a : Bool) → (same_text m n || (false || a)) ≡ (false || ((false || (same_text n m || false)) || a))
row_alone m n a = ap (λ b. b || a) (turned m n) ∙ ap (λ b. b || a) (or_false (same_text n m))
  where
    or_false : (b : Bool) → b ≡ (b || false)
    or_false true = refl
    or_false false = refl

row_behind : (k m n : Text) (a : Bool) → (same_text m n || ((false || (same_text n k || false)) || a)) ≡ (false || ((false || (same_text n k || (same_text n m || false))) || a))
row_behind k m n a = ap (λ b. b || ((same_text n k || false) || a)) (turned m n) ∙ swapped (same_text n m) (same_text n k) a
  where
    swapped : (x y z : Bool) → (x || ((y || false) || z)) ≡ ((y || (x || false)) || z)
    swapped true true z = refl
    swapped true false z = refl
    swapped false true z = refl
    swapped false false z = refl

zero_suc : {n : ℕ} → 0 ≡ suc n → ⊥
zero_suc h = cc

suc_one : {m n : ℕ} → suc m ≡ suc n → m ≡ n
suc_one h = cc

locals_in : (params assigned : List Text) (n : Text) → is_in (add_all (add_all [] params) assigned) n ≡ ((false || is_in params n) || is_in assigned n)
locals_in params assigned n = in_all_added (add_all [] params) assigned n ∙ ap (λ b. b || is_in assigned n) (in_all_added [] params n)

pub def_alike : (role : Role) (n : Text) (params : List Text) (b : Body) → length params ≡ role_size role → Alike (scope_of_def (Plain (length params)) n params b) (scope_of_def role n params b)
def_alike (Plain k) n params b e = record { own = refl; no_row = refl; same = λ m. refl }
def_alike OfRow n (r ∷ []) b e = record {
  own = refl;
  no_row = refl;
  same = λ m. ap (λ x. same_text r m || x) (in_all_added [] (assigned_body b) m) ∙ row_alone r m (is_in (assigned_body b) m) ∙ sym (ap (λ x. false || x) (locals_in (r ∷ []) (assigned_body b) m));
}
def_alike OfRow n [] b e = absurd (zero_suc e)
def_alike OfRow n (r ∷ k ∷ params) b e = absurd (zero_suc (sym (suc_one e)))
def_alike OfAccRow n (k ∷ r ∷ []) b e = record {
  own = refl;
  no_row = refl;
  same = λ m. ap (λ x. same_text r m || x) (locals_in (k ∷ []) (assigned_body b) m) ∙ row_behind k r m (is_in (assigned_body b) m) ∙ sym (ap (λ x. false || x) (locals_in (k ∷ r ∷ []) (assigned_body b) m));
}
def_alike OfAccRow n [] b e = absurd (zero_suc e)
def_alike OfAccRow n (k ∷ []) b e = absurd (zero_suc (suc_one e))
def_alike OfAccRow n (k ∷ r ∷ x ∷ params) b e = absurd (zero_suc (sym (suc_one (suc_one e))))

pub def_rows : (ds : Known) (role : Role) (n : Text) (params : List Text) (b : Body) → length params ≡ role_size role → g.faults_body ds (scope_of_def (Plain (length params)) n params b) b ≡ [] → Rows (g.faults_body ds (scope_of_def role n params b) b)
def_rows ds role n params b e h = (body_from ds _ _ (def_alike role n params b e) b).from h
