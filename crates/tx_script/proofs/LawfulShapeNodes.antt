-- What an operator and the links of a chain add to a pipe: inputs that stand ahead, and each but the last operator used once more.
use Rattle.std.proofs.Common.{◌≡◌, ℕ, ◌+◌, true, List, [], ◌∷◌, ◌++◌, length, Option, Some, None, is_some, option_to_list, slice_get, Result, Ok, Err, refl, sym, ap, ◌∙◌, subst, length-append}
use Rattle.std.specs.Prelude.{⊤}
use Rattle.std.proofs.lemmas.Bool.{false≢true}
use Rattle.tx_tree.specs.declared.target.Word.{Word}
use Rattle.tx_name_set.specs.NameSet.{place_in}
use Rattle.tx_names.specs.Scope.{Text}
use Rattle.tx_names.specs.Function.{Function}
use Rattle.tx_names.specs.declared.role.Role.{Role}
use Rattle.tx_pipe.specs.Pipe.{Operation, csv, map_to, filter, with_column, map_column, select_columns, rename_column, join, left_join, unique, aggregate, to_csv, source_file, output_file, role_in, PipeNode}
use Rattle.tx_pipe.specs.Lawful.{inputs_by}
use Rattle.tx_script.specs.declared.fault.ScriptFault.{ScriptFault}
use Rattle.tx_script.specs.declared.fault.ScriptKind.TheVariants as kind
use Rattle.tx_script.specs.Written.{Code, operator, Link}
use Rattle.tx_script.specs.Linked.{◌>>=◌, at, known_at, Ahead, linked_code, linked_operator, linked_handlers, Pipe, with_operator, nodes_by}
use Rattle.tx_script.specs.Checks.{right_of}
use Rattle.tx_script.proofs.LawfulShapeParts.{no_ok, ok_is, bind_ok}

-- ---- operators

-- the number of the right pipeline's end
abbrev pub IsRight : Ahead → Option Word → Option ℕ → Type 0
IsRight a None None = ⊤
IsRight a (Some w) (Some q) = slice_get a.ends (place_in a.pipelines w.text) ≡ Some q
IsRight a _ _ = ⊥

-- a source has no inputs
abbrev pub unless_source : Option Text → List ℕ → List ℕ
unless_source None inputs = inputs
unless_source (Some file) inputs = []

-- what an operator keeps when it is linked
pub record Keeps (a : Ahead) (op : Operation Code Word) (x : Operation (Function ℕ) ℕ) : Type 0 where
  pub right : Option ℕ
  pub is_right : IsRight a (right_of op) right
  pub source : source_file x ≡ source_file op
  pub output : output_file x ≡ output_file op
  pub inputs : (i : ℕ) → inputs_by x i ≡ unless_source (source_file op) (i ∷ option_to_list right)

module _ (a : Ahead) (op : Operation Code Word) (x : Operation (Function ℕ) ℕ) where
  at_once : (y : Operation (Function ℕ) ℕ) → Keeps a op y → ◌≡◌ {A = Result (Operation (Function ℕ) ℕ) ScriptFault} (Ok y) (Ok x) → Keeps a op x
  at_once y h e = subst (λ z. Keeps a op z) (ok_is y x e) h

  by_code : (r : Result (Function ℕ) ScriptFault) (made : Function ℕ → Operation (Function ℕ) ℕ) → ((g : Function ℕ) → Keeps a op (made g)) → r >>= (λ g. Ok (made g)) ≡ Ok x → Keeps a op x
  by_code (Ok g) made h e = at_once (made g) (h g) e
  by_code (Err f) made h e = absurd (no_ok f x e)

  by_end : (line : ℕ) (o : Option ℕ) (made : ℕ → Operation (Function ℕ) ℕ) → ((q : ℕ) → o ≡ Some q → Keeps a op (made q)) → known_at line o >>= (λ q. Ok (made q)) ≡ Ok x → Keeps a op x
  by_end line (Some q) made h e = at_once (made q) (h q refl) e
  by_end line None made h e = absurd (no_ok (at kind.Name line) x e)

plain : (a : Ahead) (op : Operation Code Word) (x : Operation (Function ℕ) ℕ) → right_of op ≡ None → source_file op ≡ None → source_file x ≡ None → output_file x ≡ output_file op → ((i : ℕ) → inputs_by x i ≡ i ∷ []) → Keeps a op x
plain a op x r s t o i = record {
  right = None;
  is_right = subst (λ (w : Option Word). IsRight a w None) (sym r) tt;
  source = t ∙ sym s;
  output = o;
  inputs = λ n. i n ∙ ap (λ (f : Option Text). unless_source f (n ∷ [])) (sym s);
}

abbrev role_at : Operation Code Word → Option Role
role_at op = role_in op

keeps : (a : Ahead) (op : Operation Code Word) (x : Operation (Function ℕ) ℕ) → linked_operator a op ≡ Ok x → Keeps a op x
keeps a (csv file names) x e = at_once a (csv file names) x (csv file names) (record { right = None; is_right = tt; source = refl; output = refl; inputs = λ n. refl }) e
keeps a (map_to f r) x e = by_code a (map_to f r) x (linked_code a (role_at (map_to f r)) f) (λ g. map_to g r) (λ g. plain a (map_to f r) (map_to g r) refl refl refl refl (λ n. refl)) e
keeps a (filter f) x e = by_code a (filter f) x (linked_code a (role_at (filter f)) f) (λ g. filter g) (λ g. plain a (filter f) (filter g) refl refl refl refl (λ n. refl)) e
keeps a (with_column m f) x e = by_code a (with_column m f) x (linked_code a (role_at (with_column m f)) f) (λ g. with_column m g) (λ g. plain a (with_column m f) (with_column m g) refl refl refl refl (λ n. refl)) e
keeps a (map_column m f) x e = by_code a (map_column m f) x (linked_code a (role_at (map_column m f)) f) (λ g. map_column m g) (λ g. plain a (map_column m f) (map_column m g) refl refl refl refl (λ n. refl)) e
keeps a (select_columns ns) x e = at_once a (select_columns ns) x (select_columns ns) (plain a (select_columns ns) (select_columns ns) refl refl refl refl (λ n. refl)) e
keeps a (rename_column m n) x e = at_once a (rename_column m n) x (rename_column m n) (plain a (rename_column m n) (rename_column m n) refl refl refl refl (λ i. refl)) e
keeps a (join w l r) x e = by_end a (join w l r) x w.line (slice_get a.ends (place_in a.pipelines w.text)) (λ q. join q l r) (λ q h. record { right = Some q; is_right = h; source = refl; output = refl; inputs = λ n. refl }) e
keeps a (left_join w l r) x e = by_end a (left_join w l r) x w.line (slice_get a.ends (place_in a.pipelines w.text)) (λ q. left_join q l r) (λ q h. record { right = Some q; is_right = h; source = refl; output = refl; inputs = λ n. refl }) e
keeps a unique x e = at_once a unique x unique (plain a unique unique refl refl refl refl (λ n. refl)) e
keeps a (aggregate f v m) x e = by_code a (aggregate f v m) x (linked_code a (role_at (aggregate f v m)) f) (λ g. aggregate g v m) (λ g. plain a (aggregate f v m) (aggregate g v m) refl refl refl refl (λ n. refl)) e
keeps a (to_csv file) x e = at_once a (to_csv file) x (to_csv file) (plain a (to_csv file) (to_csv file) refl refl refl refl (λ n. refl)) e

-- a source has no right pipeline
pub alone_source : (op : Operation Code Word) → is_some (source_file op) ≡ true → right_of op ≡ None
alone_source (csv file names) e = refl
alone_source _ e = absurd (false≢true e)

-- ---- the next link

pub length_push : {A : Type 0} (xs : List A) (x : A) → length (xs ++ x ∷ []) ≡ length xs + 1
length_push xs x = length-append xs (x ∷ [])

-- an operator is a node more, with this input
pub record Adds (a : Ahead) (done : Pipe) (input : ℕ) (op : Operation Code Word) (rest : Pipe → ℕ → Result (Pipe × ℕ) ScriptFault) (r : Pipe × ℕ) : Type 0 where
  pub node : PipeNode (Function ℕ)
  pub input_is : node.input ≡ input
  pub keeps_all : Keeps a op node.operation
  pub goes_on : rest (done ++ node ∷ []) (length done + 1) ≡ Ok r

pub adds : (a : Ahead) (done : Pipe) (input line : ℕ) (op : Operation Code Word) (links : List Link) (rest : Pipe → ℕ → Result (Pipe × ℕ) ScriptFault) (r : Pipe × ℕ)
    → nodes_by a done input line (operator op) links rest ≡ Ok r → Adds a done input op rest r
adds a done input line op links rest r e =
    let b = bind_ok (with_operator a done input line op links) (λ p. rest p (length p)) r e in
    let c = bind_ok (linked_operator a op) (λ x. linked_handlers a (role_in op) links >>= (λ hs. Ok (done ++ (record { operation = x; input = input; handlers = hs; line = line }) ∷ []))) b.0 b.1 in
    let d = bind_ok (linked_handlers a (role_in op) links) (λ hs. Ok (done ++ (record { operation = c.0; input = input; handlers = hs; line = line }) ∷ [])) b.0 c.2 in
    let node : PipeNode (Function ℕ) = record { operation = c.0; input = input; handlers = d.0; line = line } in
    let on : rest (done ++ node ∷ []) (length (done ++ node ∷ [])) ≡ Ok r = subst (λ (p : Pipe). rest p (length p) ≡ Ok r) (sym (ok_is (done ++ node ∷ []) b.0 d.2)) b.2 in
    record {
      node = node;
      input_is = refl;
      keeps_all = keeps a op c.0 c.1;
      goes_on = subst (λ (n : ℕ). rest (done ++ node ∷ []) n ≡ Ok r) (length_push done node) on;
    }
