-- Linking tells the first fault of the list, whatever names become.
use Rattle.std.proofs.Common.{◌≡◌, ℕ, List, [], ◌∷◌, ◌++◌, length, Option, Some, None, Result, Ok, Err, refl, sym, subst, Bool, true, false, not, ◌||◌, if◌then◌else◌, append_assoc}
use Rattle.std.specs.Prelude.{option_map, is_some}
use Rattle.std.specs.List.{flat_map}
use Rattle.std.specs.Option.{option_map_or}
use Rattle.tx_tree.specs.declared.target.Word.{Word}
use Rattle.tx_tree.specs.declared.target.Target as declared
use Rattle.tx_tree.specs.declared.target.Target.TheVariants as target
use Rattle.tx_tree.specs.declared.function.Method.{Method}
use Rattle.tx_tree.specs.declared.function.Builtin.{Builtin}
use Rattle.tx_tree.specs.declared.function.Walk.{Walk}
use Rattle.tx_tree.specs.Words.{same_text}
use Rattle.tx_tree.specs.Takes.{Takes, exactly, allows, builtin_takes, method_takes, walk_takes}
use Rattle.tx_tree.specs.Tree as t
use Rattle.tx_tree.specs.Tree.{Tree, Trees, PairTrees, Operands, MaybeTree, Body, Tail}
use Rattle.tx_name_set.specs.NameSet.{is_in}
use Rattle.tx_names.specs.declared.fault.Fault.{Fault}
use Rattle.tx_names.specs.declared.fault.FaultKind.TheVariants.{Recursive, Unknown, Arity, RowUse}
use Rattle.tx_names.specs.Named.{builtin_at, method_at, walk_function_at, view_at}
use Rattle.tx_names.specs.Scope.{Text, number_of, Scope, is_name_of, is_variable, within}
use Rattle.tx_names.specs.Faults as g
use Rattle.tx_names.specs.Faults.{fault, when, first, first_some, is_miscounted, params_of_def, called_takes, at_read, at_called, at_method, at_assigned, at_target, cell_in, unless_cell, walk_here}
use Rattle.tx_names.specs.Function as f
use Rattle.tx_names.specs.Function.{Target, one, several, Function, function, params_of}
use Rattle.tx_names.specs.Linked as l
use Rattle.tx_names.specs.Linked.{◌>>=◌, counted, Callee, builtin_function, earlier_def, by_def, by_builtin, by_method, by_walk, by_view, by_cell, as_value, walk_in, def_named}
use Rattle.tx_names.specs.Bind.{known_of}
use Rattle.tx_names.specs.Laws.{fault_in}

-- ---- answers and lists of faults

pub record Told {A : Type 0} (o : Result A Fault) (fs : List Fault) : Type 0 where
  pub told : fault_in o ≡ first fs

none_some : {A : Type 0} {x : A} → None ≡ Some x → ⊥
none_some h = cc

fine : {A : Type 0} {x : A} → Told (Ok x) []
fine = record { told = refl }

pub go : {A B : Type 0} {o : Result A Fault} {k : A → Result B Fault} {fs gs : List Fault} → Told o fs → ((a : A) → Told (k a) gs) → Told (o >>= k) (fs ++ gs)
go {o = Ok a} {fs = []} h r = r a
go {o = Ok a} {fs = e ∷ es} h r = absurd (none_some h.told)
go {o = Err e} {fs = []} h r = absurd (none_some (sym h.told))
go {o = Err e} {fs = d ∷ es} h r = record { told = h.told }

pub done : {A B : Type 0} {o : Result A Fault} (c : A → B) {fs : List Fault} → Told o fs → Told (o >>= (λ a. Ok (c a))) fs
done {o = Ok a} c h = record { told = h.told }
done {o = Err e} c h = record { told = h.told }

-- a third part, and a fourth
pub go3 : {A B : Type 0} {o : Result A Fault} {k : A → Result B Fault} {fs : List Fault} (gs hs : List Fault) → Told o fs → ((a : A) → Told (k a) (gs ++ hs)) → Told (o >>= k) ((fs ++ gs) ++ hs)
go3 {o = o} {k = k} {fs = fs} gs hs h r = subst (λ (xs : List Fault). Told (o >>= k) xs) (sym (append_assoc fs gs hs)) (go h r)

pub go4 : {A B : Type 0} {o : Result A Fault} {k : A → Result B Fault} {fs : List Fault} (gs hs js : List Fault) → Told o fs → ((a : A) → Told (k a) ((gs ++ hs) ++ js)) → Told (o >>= k) (((fs ++ gs) ++ hs) ++ js)
go4 {o = o} {k = k} {fs = fs} gs hs js h r =
    subst (λ (xs : List Fault). Told (o >>= k) (xs ++ js)) (sym (append_assoc fs gs hs)) (go3 (gs ++ hs) js h r)

-- what goes on inside
go_in : {A B C : Type 0} {o : Result A Fault} (j : A → Result B Fault) (k : B → Result C Fault) {fs gs : List Fault} → Told o fs → ((a : A) → Told (j a >>= k) gs) → Told ((o >>= j) >>= k) (fs ++ gs)
go_in {o = Ok a} j k {fs = []} h r = r a
go_in {o = Ok a} j k {fs = e ∷ es} h r = absurd (none_some h.told)
go_in {o = Err e} j k {fs = []} h r = absurd (none_some (sym h.told))
go_in {o = Err e} j k {fs = d ∷ es} h r = record { told = h.told }

go_in3 : {A B C : Type 0} {o : Result A Fault} (j : A → Result B Fault) (k : B → Result C Fault) {fs : List Fault} (gs hs : List Fault) → Told o fs → ((a : A) → Told (j a >>= k) (gs ++ hs)) → Told ((o >>= j) >>= k) ((fs ++ gs) ++ hs)
go_in3 {o = o} j k {fs = fs} gs hs h r = subst (λ (xs : List Fault). Told ((o >>= j) >>= k) xs) (sym (append_assoc fs gs hs)) (go_in j k h r)

in_place : {A B C : Type 0} (o : Result A Fault) (c : A → B) (k : B → Result C Fault) {fs : List Fault} → Told (o >>= (λ a. k (c a))) fs → Told ((o >>= (λ a. Ok (c a))) >>= k) fs
in_place (Ok a) c k h = h
in_place (Err e) c k h = record { told = h.told }

-- ---- one token

allowed_by : {A : Type 0} (x : A) (line : ℕ) (b : Bool) → Told (if b then Ok x else Err (fault Arity line)) (when (not b) (fault Arity line))
allowed_by x line true = record { told = refl }
allowed_by x line false = record { told = refl }

called_allowed : {A : Type 0} (x : A) (line : ℕ) (b : Bool) → Told (if b then Ok x else Err (fault Arity line)) ((([] ++ []) ++ when (not b) (fault Arity line)) ++ [])
called_allowed x line true = record { told = refl }
called_allowed x line false = record { told = refl }

method_allowed : {A : Type 0} (x : A) (line : ℕ) (b : Bool) → Told (if b then Ok x else Err (fault Arity line)) ([] ++ when (not b) (fault Arity line))
method_allowed x line true = record { told = refl }
method_allowed x line false = record { told = refl }

read_by : {A : Type 0} (x : A) (line : ℕ) (row here : Bool)
    → Told (if row then Err (fault RowUse line) else if here then Ok x else Err (fault Unknown line)) (when (not (row || here)) (fault Unknown line) ++ when row (fault RowUse line))
read_by x line true here = record { told = refl }
read_by x line false true = record { told = refl }
read_by x line false false = record { told = refl }

assigned_by : {A : Type 0} (x : A) (line : ℕ) (row : Bool) → Told (if row then Err (fault RowUse line) else Ok x) (when row (fault RowUse line))
assigned_by x line true = record { told = refl }
assigned_by x line false = record { told = refl }

abbrev takes_by : {K : Type 0} → Option Builtin → Bool → Option (Function K) → Option Takes
takes_by b walks d = first_some (option_map builtin_takes b) (if walks then None else option_map exactly (option_map (λ h. length (params_of h)) d))

called_by : {K : Type 0} (line count : ℕ) (own row here : Bool) (b : Option Builtin) (walks : Bool) (d : Option (Function K))
    → Told (if own then Err (fault Recursive line) else if row || here then Err (fault Unknown line) else by_builtin line count b (if walks then Err (fault Unknown line) else by_def line count d))
    (((when own (fault Recursive line) ++ when ((row || here) || not (is_some (takes_by b walks d))) (fault Unknown line)) ++ when (is_miscounted (takes_by b walks d) count) (fault Arity line)) ++ when row (fault RowUse line))
called_by line count true row here b walks d = record { told = refl }
called_by line count false true here b walks d = record { told = refl }
called_by line count false false true b walks d = record { told = refl }
called_by line count false false false (Some b) walks d = called_allowed _ line (allows (builtin_takes b) count)
called_by line count false false false None true d = record { told = refl }
called_by line count false false false None false None = record { told = refl }
called_by line count false false false None false (Some h) = called_allowed _ line (allows (exactly (length (params_of h))) count)

sizes_same : {K : Type 0} (ds : List (Text × Function K)) (n : Text) → params_of_def (known_of ds) n ≡ option_map (λ h. length (params_of h)) (def_named ds n)
sizes_same [] n = refl
sizes_same (d ∷ ds) n = by_test (same_text d.0 n) (sizes_same ds n)
  where
    by_test : (b : Bool) → params_of_def (known_of ds) n ≡ option_map (λ h. length (params_of h)) (def_named ds n)
        → (if b then Some (length (params_of d.1)) else params_of_def (known_of ds) n) ≡ option_map (λ h. length (params_of h)) (if b then Some d.1 else def_named ds n)
    by_test true e = refl
    by_test false e = e

method_by : (line count : ℕ) (m : Option Method) → Told (by_method line count m) (at_method line (option_map method_takes m) count)
method_by line count None = record { told = refl }
method_by line count (Some m) = method_allowed _ line (allows (method_takes m) count)

module _ {K : Type 0} (slot : Text → K) (ds : List (Text × Function K)) where
  read_told : (s : Scope) (line : ℕ) (n : Text) → Told (l.read slot ds s line n) (at_read s line n)
  read_told s line n = read_by _ line (is_name_of s.row n) (is_in s.locals n)

  assigned_told : (s : Scope) (line : ℕ) (n : Text) → Told (l.assigned_slot slot ds s line n) (at_assigned s line n)
  assigned_told s line n = assigned_by _ line (is_name_of s.row n)

  slots_told : (s : Scope) (ws : List Word) → Told (l.assigned_slots slot ds s ws) (flat_map (λ w. at_assigned s w.line w.text) ws)
  slots_told s [] = fine
  slots_told s (w ∷ ws) = go (assigned_told s w.line w.text) λ k. done _ (slots_told s ws)

  target_told : (s : Scope) (u : declared.Target) → Told (l.linked_target slot ds s u) (at_target s u)
  target_told s (target.Name w) = go (assigned_told s w.line w.text) λ k. fine
  target_told s (target.Names ws comma) = done _ (slots_told s ws)
  target_told s (target.Bracketed i ws comma) = done _ (slots_told s ws)

  called_told : (s : Scope) (line : ℕ) (n : Text) (count : ℕ) → Told (l.called slot ds s line n count) (at_called s line n (called_takes (known_of ds) n) count)
  called_told s line n count =
      subst (λ (o : Option ℕ). Told (l.called slot ds s line n count) (at_called s line n (first_some (option_map builtin_takes (builtin_at n)) (if is_some (walk_function_at n) then None else option_map exactly o)) count))
      (sym (sizes_same ds n))
      (called_by line count (is_name_of s.own n) (is_name_of s.row n) (is_in s.locals n) (builtin_at n) (is_some (walk_function_at n)) (def_named ds n))

  value_told : {o : Result (f.Expr K) Fault} {fs : List Fault} → Told o fs → Told (as_value o) fs
  value_told h = done _ h

  walk_by : (line count : ℕ) (taken : Bool) (w : Option Walk) {args : Result (f.Exprs K) Fault} {o : Result (f.Expr K) Fault} {es fs : List Fault} → Told args es → Told o fs
      → Told (by_walk (if taken then None else w) line count args o) (option_map_or (λ t. when (not (allows t count)) (fault Arity line) ++ es) (if taken then None else option_map walk_takes w) fs)
  walk_by line count true w h r = done _ r
  walk_by line count false None h r = done _ r
  walk_by line count false (Some w) h r = go (allowed_by _ line (allows (walk_takes w) count)) λ v. done _ h

  view_by : (line count : ℕ) (w : Option Walk) {receiver : Result (f.Expr K) Fault} {args : Result (f.Exprs K) Fault} {o : Result (f.Expr K) Fault} {rs es fs : List Fault} → Told receiver rs → Told args es → Told o fs
      → Told (by_view w line count receiver args o) (option_map_or (λ v. (rs ++ at_method line (Some (walk_takes v)) count) ++ es) w fs)
  view_by line count None q h r = done _ r
  view_by line count (Some w) q h r = go3 _ _ q λ x. go (method_allowed _ line (allows (walk_takes w) count)) λ v. done _ h

  cell_by : (c : Option Text) {o : Result (f.Expr K) Fault} {fs : List Fault} → Told o fs → Told (by_cell c o) (unless_cell c fs)
  cell_by None h = h
  cell_by (Some c) h = fine

  mutual
    pub linked_told : (s : Scope) (a : Tree) → Told (l.linked slot ds s a) (g.faults (known_of ds) s a)
    linked_told s (t.nil i) = fine
    linked_told s (t.truth i b) = fine
    linked_told s (t.int i n) = fine
    linked_told s (t.text i x) = fine
    linked_told s (t.name i n) = read_told s i n
    linked_told s (t.paren i a) = done _ (linked_told s a)
    linked_told s (t.tuple i es comma) = done _ (each_told s es)
    linked_told s (t.bare_tuple i es comma) = done _ (each_told s es)
    linked_told s (t.list i es comma) = done _ (each_told s es)
    linked_told s (t.dict i ps comma) = done _ (pairs_told s ps)
    linked_told s (t.comprehension i a u j c) = go4 _ _ _ (linked_told (within s u) a) λ x. go3 _ _ (target_told s u) λ p. go (iterable_told s j (linked_told s j)) λ y. done _ (maybe_told (within s u) c)
    linked_told s (t.call i n es comma) = go (called_told s i n (number_of es)) λ c. done _ (each_told s es)
    linked_told s (t.method i a w es comma) = go3 _ _ (linked_told s a) λ x. go (method_by w.line (number_of es) (method_at w.text)) λ m. done _ (each_told s es)
    linked_told s (t.index i a j) = cell_by (cell_in s.row a j) (go (linked_told s a) λ x. done _ (linked_told s j))
    linked_told s (t.slice i a j k) = go3 _ _ (linked_told s a) λ x. go (maybe_told s j) λ y. done _ (maybe_told s k)
    linked_told s (t.unary i op a) = done _ (linked_told s a)
    linked_told s (t.binary i a op b) = go (linked_told s a) λ x. done _ (linked_told s b)
    linked_told s (t.compare i a os) = go (linked_told s a) λ x. done _ (operands_told s os)
    linked_told s (t.negation i a) = done _ (linked_told s a)
    linked_told s (t.conjunction i a es) = go (linked_told s a) λ x. done _ (each_told s es)
    linked_told s (t.disjunction i a es) = go (linked_told s a) λ x. done _ (each_told s es)
    linked_told s (t.conditional i a b c) = go3 _ _ (linked_told s a) λ x. go (linked_told s b) λ y. done _ (linked_told s c)

    pub each_told : (s : Scope) (es : Trees) → Told (l.linked_each slot ds s es) (g.faults_each (known_of ds) s es)
    each_told s t.none = fine
    each_told s (t.more a es) = go (linked_told s a) λ x. done _ (each_told s es)

    pub pairs_told : (s : Scope) (ps : PairTrees) → Told (l.linked_pairs slot ds s ps) (g.faults_pairs (known_of ds) s ps)
    pairs_told s t.no_pair = fine
    pairs_told s (t.pair a b ps) = go3 _ _ (linked_told s a) λ x. go (linked_told s b) λ y. done _ (pairs_told s ps)

    pub operands_told : (s : Scope) (os : Operands) → Told (l.linked_operands slot ds s os) (g.faults_operands (known_of ds) s os)
    operands_told s t.no_operand = fine
    operands_told s (t.operand op a os) = go (linked_told s a) λ x. done _ (operands_told s os)

    pub maybe_told : (s : Scope) (a : MaybeTree) → Told (l.linked_maybe slot ds s a) (g.faults_maybe (known_of ds) s a)
    maybe_told s t.absent = fine
    maybe_told s (t.present a) = done _ (linked_told s a)

    pub iterable_told : (s : Scope) (a : Tree) {o : Result (f.Expr K) Fault} {fs : List Fault} → Told o fs → Told (l.linked_iterable slot ds s a o) (g.faults_iterable (known_of ds) s a fs)
    iterable_told s (t.call i n es comma) h = walk_by i (number_of es) (is_name_of s.own n || is_variable s n) (walk_function_at n) (each_told s es) h
    iterable_told s (t.method i a w es comma) h = view_by w.line (number_of es) (view_at w.text) (linked_told s a) (each_told s es) h
    iterable_told s _ h = done _ h

  mutual
    pub does_told : (s : Scope) (a : t.Statement) → Told (l.does slot ds s a) (g.faults_of (known_of ds) s a)
    does_told s (t.pass i) = fine
    does_told s (t.break i) = fine
    does_told s (t.continue i) = fine
    does_told s (t.return i a) = done _ (maybe_told s a)
    does_told s (t.assign i u a) = go (target_told s u) λ p. done _ (linked_told s a)
    does_told s (t.augment i n op a) = go (assigned_told s i n) λ k. done _ (linked_told s a)
    does_told s (t.express i a) = done _ (linked_told s a)
    does_told s (t.branch i a b tail) = go3 _ _ (linked_told s a) λ x. go (body_told s b) λ ss. tail_told s tail (λ xs ys. f.branch (f.arm x ss xs) ys)
    does_told s (t.repeat i u j b) = go3 _ _ (target_told s u) λ p. go (iterable_told s j (linked_told s j)) λ y. done _ (body_told s b)

    pub body_told : (s : Scope) (b : Body) → Told (l.does_body slot ds s b) (g.faults_body (known_of ds) s b)
    body_told s (t.line a) = done _ (does_told s a)
    body_told s (t.indented ss) = all_told s ss

    pub all_told : (s : Scope) (ss : t.Statements) → Told (l.does_all slot ds s ss) (g.faults_all (known_of ds) s ss)
    all_told s t.finish = fine
    all_told s (t.next a ss) = go (does_told s a) λ x. done _ (all_told s ss)

    pub tail_told : (s : Scope) (tail : Tail) (h : f.Arms K → f.Statements K → f.Statement K)
        → Told (l.arms_of slot ds s tail >>= (λ xs. l.other_of slot ds s tail >>= (λ ys. Ok (h xs ys)))) (g.faults_tail (known_of ds) s tail)
    tail_told s t.nothing h = fine
    tail_told s (t.otherwise b) h = done _ (body_told s b)
    tail_told s (t.elif a b tail) h =
        go_in3 (λ x. l.does_body slot ds s b >>= (λ ss. l.arms_of slot ds s tail >>= (λ xs. Ok (f.arm x ss xs)))) (λ xs. l.other_of slot ds s tail >>= (λ ys. Ok (h xs ys))) (g.faults_body (known_of ds) s b) (g.faults_tail (known_of ds) s tail) (linked_told s a) λ x.
        go_in (λ ss. l.arms_of slot ds s tail >>= (λ xs. Ok (f.arm x ss xs))) (λ xs. l.other_of slot ds s tail >>= (λ ys. Ok (h xs ys))) (body_told s b) λ ss.
        in_place (l.arms_of slot ds s tail) (λ xs. f.arm x ss xs) (λ xs. l.other_of slot ds s tail >>= (λ ys. Ok (h xs ys))) (tail_told s tail (λ xs ys. h (f.arm x ss xs) ys))
