-- Each operator that a block writes has a form.
use Rattle.std.specs.Prelude.{⊤}
use Rattle.std.proofs.Common.{◌≡◌, ℕ, Bool, true, false, if◌then◌else◌, List, [], ◌∷◌, ◌++◌, map, length, ◌≤◌, Option, Some, None, refl, arith}
use Rattle.std.specs.Prelude.{filter_map}
use Rattle.std.specs.List.{AllByRecursion}
use Rattle.tx_tree.specs.declared.target.Word.{Word}
use Rattle.tx_tree.specs.Tree.{ArgTree, ArgTrees, LinkTree, ChainTree, BlockTree, define, pipeline, alone}
use Rattle.tx_names.specs.Scope.{Text}
use Rattle.tx_pipe.specs.declared.verb.Verb.{Verb}
use Rattle.tx_pipe.specs.declared.verb.Verb.TheVariants as verb
use Rattle.tx_pipe.specs.Verbs.{verb_at}
use Rattle.tx_pipe.specs.Pipe.{Operation, resolve, ignore}
use Rattle.tx_pipe.specs.Lawful.{has_form}
use Rattle.tx_script.specs.Written.{Code, Part, operator, handler, Link}
use Rattle.tx_script.specs.Forms.{◌>>=◌, code_in, class_in, source_at, source_by, operator_by, handler_by, of_form, part_by_source, head_part, part_by, link_part, Place, head_places, link_place, chain_places, places_of, link_at, entry_of}

abbrev pub PartFits : Part → Type 0
PartFits (operator op) = has_form op ≡ true
PartFits (handler h) = ⊤

abbrev MaybeFits : Option Part → Type 0
MaybeFits None = ⊤
MaybeFits (Some part) = PartFits part

behind : {A : Type 0} (o : Option A) (f : A → Option Part) → ((x : A) → MaybeFits (f x)) → MaybeFits (o >>= f)
behind None f h = tt
behind (Some x) f h = h x

formed_if : (op : Operation Code Word) (b : Bool) → has_form op ≡ b → MaybeFits (if b then Some (operator op) else None)
formed_if op true h = h
formed_if op false h = tt

formed : (op : Operation Code Word) → MaybeFits (of_form op)
formed op = formed_if op (has_form op) refl

operators : (v : Verb) (args : List ArgTree) → MaybeFits (operator_by v args >>= of_form)
operators v args = behind (operator_by v args) of_form formed

handlers : (v : Verb) (args : List ArgTree) → MaybeFits (handler_by v args)
handlers verb.Resolve [] = tt
handlers verb.Resolve (class ∷ []) = tt
handlers verb.Resolve (class ∷ f ∷ []) =
    behind (class_in class) (λ c. code_in f >>= (λ g. Some (handler (resolve c g)))) (λ c. behind (code_in f) (λ g. Some (handler (resolve c g))) (λ g. tt))
handlers verb.Resolve (class ∷ f ∷ x ∷ more) = tt
handlers verb.Ignore [] = tt
handlers verb.Ignore (class ∷ []) = behind (class_in class) (λ c. Some (handler (ignore c))) (λ c. tt)
handlers verb.Ignore (class ∷ x ∷ more) = tt
handlers _ args = tt

parts : (args : List ArgTree) (v : Verb) → MaybeFits (part_by v args)
parts args verb.Resolve = handlers verb.Resolve args
parts args verb.Ignore = handlers verb.Ignore args
parts args verb.Csv = operators verb.Csv args
parts args verb.Map = operators verb.Map args
parts args verb.Filter = operators verb.Filter args
parts args verb.WithColumn = operators verb.WithColumn args
parts args verb.MapColumn = operators verb.MapColumn args
parts args verb.SelectColumns = operators verb.SelectColumns args
parts args verb.RenameColumn = operators verb.RenameColumn args
parts args verb.Join = operators verb.Join args
parts args verb.LeftJoin = operators verb.LeftJoin args
parts args verb.Unique = operators verb.Unique args
parts args verb.Aggregate = operators verb.Aggregate args
parts args verb.ToCsv = operators verb.ToCsv args

heads : (word : Text) (args : List ArgTree) → MaybeFits (head_part word args)
heads word args = behind (source_at word) (λ v. part_by_source v args) (λ v. behind (source_by v args) of_form formed)

links : (word : Text) (args : List ArgTree) → MaybeFits (link_part word args)
links word args = behind (verb_at word) (λ v. part_by v args) (parts args)

-- ---- places

abbrev PlacesFit : List Place → Type 0
PlacesFit = AllByRecursion (λ p. MaybeFits p.1)

link_places_fit : (ls : List LinkTree) → PlacesFit (map link_place ls)
link_places_fit [] = tt
link_places_fit (l ∷ ls) = (links l.word.text l.args.items, link_places_fit ls)

behind_head : (word : Word) (args : Option ArgTrees) (ps : List Place) → PlacesFit ps → PlacesFit (head_places word args ++ ps)
behind_head word None ps h = h
behind_head word (Some args) ps h = (heads word.text args.items, h)

chain_fits : (c : ChainTree) → PlacesFit (chain_places c)
chain_fits c = behind_head c.head.word c.head.args (map link_place c.links) (link_places_fit c.links)

block_fits : (b : BlockTree) → PlacesFit (places_of b)
block_fits (define l n params comma b) = tt
block_fits (pipeline l n c) = chain_fits c
block_fits (alone c) = chain_fits c

-- ---- links

abbrev pub LinksFit : List Link → Type 0
LinksFit = AllByRecursion (λ x. PartFits x.part)

add_link : (line : ℕ) (o : Option Part) (ps : List Place) → MaybeFits o → LinksFit (filter_map link_at ps) → LinksFit (filter_map link_at ((line, o) ∷ ps))
add_link line None ps h k = k
add_link line (Some part) ps h k = (h, k)

of_places : (ps : List Place) → PlacesFit ps → LinksFit (filter_map link_at ps)
of_places [] h = tt
of_places (p ∷ ps) h = add_link p.0 p.1 ps h.0 (of_places ps h.1)

pub links_fit : (b : BlockTree) → LinksFit (entry_of b).links
links_fit b = of_places (places_of b) (block_fits b)

count_link : (line : ℕ) (o : Option Part) (ps : List Place) → length (filter_map link_at ps) ≤ length ps → length (filter_map link_at ((line, o) ∷ ps)) ≤ length ((line, o) ∷ ps)
count_link line None ps h = omega (arith, h)
count_link line (Some part) ps h = omega (arith, h)

pub links_are_few : (ps : List Place) → length (filter_map link_at ps) ≤ length ps
links_are_few [] = omega arith
links_are_few (p ∷ ps) = count_link p.0 p.1 ps (links_are_few ps)
