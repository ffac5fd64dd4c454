-- The forms of operators and handlers: what a word with its arguments writes, if it is a form of the language at all.
use Rattle.std.specs.Prelude.{ℕ, ℤ, neg_ℤ, if◌then◌else◌, List, [], ◌∷◌, ◌++◌, map, Option, Some, None, option_map, option_and_then, filter_map}
use Rattle.tx_base.specs.declared.class.Class.{Class}
use Rattle.tx_values.specs.declared.value.Value.{Value}
use Rattle.tx_values.specs.declared.value.Value as value
use Rattle.tx_tree.specs.declared.target.Word.{Word}
use Rattle.tx_tree.specs.declared.operator.UnaryOp.{UnaryOp}
use Rattle.tx_tree.specs.declared.operator.UnaryOp.TheVariants as sign
use Rattle.tx_tree.specs.Tree.{Tree, nil, truth, int, text, name, tuple, list, unary, Trees, none, more, ArgTree, lambda, plain, ArgTrees, LinkTree, ChainTree, BlockTree, define, pipeline, alone}
use Rattle.tx_names.specs.Scope.{Text}
use Rattle.tx_names.specs.Faults.{first_some}
use Rattle.tx_names.specs.Named.{with_word}
use Rattle.tx_pipe.specs.declared.verb.Verb.{Verb}
use Rattle.tx_pipe.specs.declared.verb.Verb.TheVariants as verb
use Rattle.tx_pipe.specs.declared.pipe.MapTo.{MapTo}
use Rattle.tx_pipe.specs.declared.pipe.MapTo.TheVariants as to
use Rattle.tx_pipe.specs.Verbs.{verb_word, verb_at, class_at}
use Rattle.tx_pipe.specs.Pipe.{Operation, csv, map_to, filter, with_column, map_column, select_columns, rename_column, join, left_join, unique, aggregate, to_csv, resolve, ignore}
use Rattle.tx_pipe.specs.Lawful.{is_signed_literal, has_form}
use Rattle.tx_pipe.specs.Column.{bytes_of}
use Rattle.tx_script.specs.Written as w
use Rattle.tx_script.specs.Written.{Code, Part, operator, handler, Link, Entry}

infixl 10 ◌>>=◌
abbrev pub ◌>>=◌ : {A B : Type 0} → Option A → (A → Option B) → Option B
o >>= f = option_and_then f o

-- ---- arguments; commas behind a last one count for nothing

-- the name of a file or of a column: a text literal
abbrev pub text_of : Tree → Option Text
text_of (text l t) = Some t
text_of _ = None

-- in the place of a lambda stands nothing else
abbrev pub plain_in : {A : Type 0} → (Tree → Option A) → ArgTree → Option A
plain_in f (plain a) = f a
plain_in f (lambda l params a) = None

abbrev pub text_in : ArgTree → Option Text
text_in = plain_in text_of

-- names: a list display of text literals
abbrev pub texts_of : Trees → Option (List Text)
texts_of none = Some []
texts_of (more a es) = do t ← text_of a; ts ← texts_of es; Some (t ∷ ts)

abbrev pub texts_of_list : Tree → Option (List Text)
texts_of_list (list l es comma) = texts_of es
texts_of_list _ = None

abbrev pub texts_in : ArgTree → Option (List Text)
texts_in = plain_in texts_of_list

-- what a `map` makes: one column, or columns of these names
abbrev pub results_in : ArgTree → Option MapTo
results_in x = first_some (option_map to.Column (text_in x)) (option_map to.Columns (texts_in x))

-- a bare name
abbrev pub word_of : Tree → Option Word
word_of (name l n) = Some (record { line = l; text = n })
word_of _ = None

-- a pipeline, by its name
abbrev pub word_in : ArgTree → Option Word
word_in = plain_in word_of

-- a function: a lambda, or the name of a def
abbrev pub code_in : ArgTree → Option Code
code_in (lambda l params a) = Some (w.lambda l params a)
code_in (plain a) = option_map (λ x. w.named x.line x.text) (word_of a)

-- a class, by its name
abbrev pub class_in : ArgTree → Option Class
class_in x = do w ← word_in x; class_at w.text

-- a first accumulator: None, a truth value, an integer literal with or without a minus, a text, or a tuple or list display of such
abbrev pub integer : ℤ → Option Value
integer n = if is_signed_literal n then Some (value.Int n) else None

abbrev pub number_of : Tree → Option ℤ
number_of (int l n) = Some n
number_of _ = None

abbrev pub negative : UnaryOp → Tree → Option Value
negative sign.Minus a = do n ← number_of a; integer (neg_ℤ n)
negative sign.Plus a = None

abbrev pub tuple_of : Option (List Value) → Option Value
tuple_of = option_map value.Tuple

abbrev pub list_of : Option (List Value) → Option Value
list_of = option_map value.List

abbrev mutual
  pub literal : Tree → Option Value
  literal (nil l) = Some value.Nil
  literal (truth l b) = Some (value.Truth b)
  literal (int l n) = integer n
  literal (unary l op a) = negative op a
  literal (text l t) = Some (value.Text t)
  literal (tuple l es comma) = tuple_of (literals es)
  literal (list l es comma) = list_of (literals es)
  literal _ = None

  pub literals : Trees → Option (List Value)
  literals none = Some []
  literals (more a es) = do v ← literal a; vs ← literals es; Some (v ∷ vs)

abbrev pub value_in : ArgTree → Option Value
value_in = plain_in literal

-- ---- sources: they stand at the head of a chain, and nowhere else

-- each word that names a source
abbrev pub sources : List Verb
sources = verb.Csv ∷ []

abbrev pub source_at : Text → Option Verb
source_at = with_word verb_word sources

abbrev pub source_by : Verb → List ArgTree → Option (Operation Code Word)
source_by verb.Csv (file ∷ []) = do
  f ← text_in file
  Some (csv f None)
source_by verb.Csv (file ∷ names ∷ []) = do
  f ← text_in file
  ns ← texts_in names
  Some (csv f (Some (map bytes_of ns)))
source_by _ _ = None

-- ---- the other operators, and handlers

abbrev pub operator_by : Verb → List ArgTree → Option (Operation Code Word)
operator_by verb.Map (f ∷ results ∷ []) = do c ← code_in f; r ← results_in results; Some (map_to c r)
operator_by verb.Filter (f ∷ []) = do c ← code_in f; Some (filter c)
operator_by verb.WithColumn (column ∷ f ∷ []) = do n ← text_in column; c ← code_in f; Some (with_column n c)
operator_by verb.MapColumn (column ∷ f ∷ []) = do n ← text_in column; c ← code_in f; Some (map_column n c)
operator_by verb.SelectColumns (columns ∷ []) = do ns ← texts_in columns; Some (select_columns ns)
operator_by verb.RenameColumn (old ∷ new ∷ []) = do m ← text_in old; n ← text_in new; Some (rename_column m n)
operator_by verb.Join (right ∷ l ∷ r ∷ []) = do p ← word_in right; m ← text_in l; n ← text_in r; Some (join p m n)
operator_by verb.LeftJoin (right ∷ l ∷ r ∷ []) = do p ← word_in right; m ← text_in l; n ← text_in r; Some (left_join p m n)
operator_by verb.Unique [] = Some unique
operator_by verb.Aggregate (f ∷ init ∷ column ∷ []) = do
  c ← code_in f
  v ← value_in init
  n ← text_in column
  Some (aggregate c v n)
operator_by verb.ToCsv (file ∷ []) = do f ← text_in file; Some (to_csv f)
operator_by _ _ = None

abbrev pub handler_by : Verb → List ArgTree → Option Part
handler_by verb.Resolve (class ∷ f ∷ []) = do c ← class_in class; g ← code_in f; Some (handler (resolve c g))
handler_by verb.Ignore (class ∷ []) = do c ← class_in class; Some (handler (ignore c))
handler_by _ _ = None

-- lists of names have one or more, and a first accumulator is within the limits of values
abbrev pub of_form : Operation Code Word → Option Part
of_form op = if has_form op then Some (operator op) else None

-- what the head of a chain writes that has arguments, and what a link writes
abbrev pub part_by_source : Verb → List ArgTree → Option Part
part_by_source v args = do op ← source_by v args; of_form op

abbrev pub head_part : Text → List ArgTree → Option Part
head_part word args = do
  v ← source_at word
  part_by_source v args

abbrev pub part_by : Verb → List ArgTree → Option Part
part_by verb.Resolve args = handler_by verb.Resolve args
part_by verb.Ignore args = handler_by verb.Ignore args
part_by v args = do op ← operator_by v args; of_form op

abbrev pub link_part : Text → List ArgTree → Option Part
link_part word args = do
  v ← verb_at word
  part_by v args

-- ---- the operators and handlers of a block in the order of the text: the line of each word, and what it writes, if that has a form

abbrev pub Place : Type 0
Place = ℕ × Option Part

abbrev pub head_places : Word → Option ArgTrees → List Place
head_places word None = []
head_places word (Some args) = (word.line, head_part word.text args.items) ∷ []

abbrev pub link_place : LinkTree → Place
link_place x = (x.word.line, link_part x.word.text x.args.items)

abbrev pub chain_places : ChainTree → List Place
chain_places c = head_places c.head.word c.head.args ++ map link_place c.links

abbrev pub places_of : BlockTree → List Place
places_of (define l n params comma b) = []
places_of (pipeline l n c) = chain_places c
places_of (alone c) = chain_places c

-- ---- a block with the links that have a form

abbrev pub link_at : Place → Option Link
link_at p = option_map (λ part. record { line = p.0; part = part }) p.1

abbrev pub entry_of : BlockTree → Entry
entry_of b = record { block = b; links = filter_map link_at (places_of b) }

-- the pipeline that a chain begins with, where its head has no arguments
abbrev pub start_by : Word → Option ArgTrees → Option Word
start_by word None = Some word
start_by word (Some args) = None

abbrev pub start_of : ChainTree → Option Word
start_of c = start_by c.head.word c.head.args
