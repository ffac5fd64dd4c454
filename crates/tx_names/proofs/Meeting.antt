-- The names of a function grow at the end alone, and each stands once.
use Rattle.std.proofs.Common.{◌≡◌, ℕ, suc, ◌+◌, List, [], ◌∷◌, ◌++◌, length, map, take, refl, sym, ap, ◌∙◌, subst, Bool, true, false, ◌||◌, if◌then◌else◌, append_assoc, append-nil}
use Rattle.std.proofs.Math.Seq.{take-append_seam}
use Rattle.std.proofs.lemmas.List.Folds.{list_any-append}
use Rattle.tx_tree.specs.Words.{same_text}
use Rattle.tx_tree.specs.Tree as t
use Rattle.tx_tree.specs.Tree.{Tree, Trees, PairTrees, Operands, MaybeTree, Body, Tail, tail}
use Rattle.tx_name_set.specs.NameSet.{is_in, add, add_all}
use Rattle.tx_names.specs.declared.role.Role.{Role}
use Rattle.tx_names.proofs.Tails.{if_tree, for_tree}
use Rattle.tx_names.specs.Scope.{Text, names_of, assigned_body, assigned_tail, with_inner, with_inner_each, with_inner_pairs, with_inner_operands, with_inner_maybe, with_inner_of, with_inner_body, with_inner_all, with_inner_tail, locals_of_def, locals_of_lambda, names_of_def, names_of_lambda}

-- these names, with others behind them
pub record Front (met all : List Text) : Type 0 where
  pub rest : List Text
  pub is : all ≡ met ++ rest

pub stays : {met : List Text} → Front met met
stays {met = met} = record { rest = []; is = sym (append-nil met) }

pub further : {a b c : List Text} → Front a b → Front b c → Front a c
further {a = a} f g = record { rest = f.rest ++ g.rest; is = g.is ∙ ap (λ x. x ++ g.rest) f.is ∙ append_assoc a f.rest g.rest }

pub add_front : (met : List Text) (n : Text) → Front met (add met n)
add_front met n = by_test (is_in met n)
  where
    by_test : (b : Bool) → Front met (if b then met else met ++ n ∷ [])
    by_test true = stays
    by_test false = record { rest = n ∷ []; is = refl }

pub add_all_front : (met ns : List Text) → Front met (add_all met ns)
add_all_front met [] = stays
add_all_front met (n ∷ ns) = further (add_front met n) (add_all_front (add met n) ns)

mutual
  pub inner_front : (a : Tree) (met : List Text) → Front met (with_inner a met)
  inner_front (t.nil i) met = stays
  inner_front (t.truth i b) met = stays
  inner_front (t.int i n) met = stays
  inner_front (t.text i x) met = stays
  inner_front (t.name i n) met = stays
  inner_front (t.paren i a) met = inner_front a met
  inner_front (t.tuple i es comma) met = each_front es met
  inner_front (t.bare_tuple i es comma) met = each_front es met
  inner_front (t.list i es comma) met = each_front es met
  inner_front (t.dict i ps comma) met = pairs_front ps met
  inner_front (t.comprehension i a u j c) met = further (inner_front a met) (further (add_all_front (with_inner a met) (names_of u)) (further (inner_front j _) (maybe_front c _)))
  inner_front (t.call i n es comma) met = each_front es met
  inner_front (t.method i a w es comma) met = further (inner_front a met) (each_front es _)
  inner_front (t.index i a j) met = further (inner_front a met) (inner_front j _)
  inner_front (t.slice i a j k) met = further (inner_front a met) (further (maybe_front j _) (maybe_front k _))
  inner_front (t.unary i op a) met = inner_front a met
  inner_front (t.binary i a op b) met = further (inner_front a met) (inner_front b _)
  inner_front (t.compare i a os) met = further (inner_front a met) (operands_front os _)
  inner_front (t.negation i a) met = inner_front a met
  inner_front (t.conjunction i a es) met = further (inner_front a met) (each_front es _)
  inner_front (t.disjunction i a es) met = further (inner_front a met) (each_front es _)
  inner_front (t.conditional i a b c) met = further (inner_front a met) (further (inner_front b _) (inner_front c _))

  pub each_front : (es : Trees) (met : List Text) → Front met (with_inner_each es met)
  each_front t.none met = stays
  each_front (t.more a es) met = further (inner_front a met) (each_front es _)

  pub pairs_front : (ps : PairTrees) (met : List Text) → Front met (with_inner_pairs ps met)
  pairs_front t.no_pair met = stays
  pairs_front (t.pair a b ps) met = further (inner_front a met) (further (inner_front b _) (pairs_front ps _))

  pub operands_front : (os : Operands) (met : List Text) → Front met (with_inner_operands os met)
  operands_front t.no_operand met = stays
  operands_front (t.operand op a os) met = further (inner_front a met) (operands_front os _)

  pub maybe_front : (a : MaybeTree) (met : List Text) → Front met (with_inner_maybe a met)
  maybe_front t.absent met = stays
  maybe_front (t.present a) met = inner_front a met

mutual
  pub of_front : (a : t.Statement) (met : List Text) → Front met (with_inner_of a met)
  of_front (t.pass i) met = stays
  of_front (t.break i) met = stays
  of_front (t.continue i) met = stays
  of_front (t.return i a) met = maybe_front a met
  of_front (t.assign i u a) met = inner_front a met
  of_front (t.augment i n op a) met = inner_front a met
  of_front (t.express i a) met = inner_front a met
  of_front (t.branch i a b rest) met = further (inner_front a met) (further (body_front b _) (tail_front rest _))
  of_front (t.repeat i u a b) met = further (inner_front a met) (body_front b _)

  pub body_front : (b : Body) (met : List Text) → Front met (with_inner_body b met)
  body_front (t.line a) met = of_front a met
  body_front (t.indented ss) met = all_front ss met

  pub all_front : (ss : t.Statements) (met : List Text) → Front met (with_inner_all ss met)
  all_front t.finish met = stays
  all_front (t.next a ss) met = further (of_front a met) (all_front ss _)

  pub tail_front : (rest : Tail) (met : List Text) → Front met (with_inner_tail rest met)
  tail_front t.nothing met = stays
  tail_front (t.otherwise b) met = body_front b met
  tail_front (t.elif a b rest) met = further (inner_front a met) (further (body_front b _) (tail_front rest _))

-- ---- the first ones, and membership

pub first_ones : {met all : List Text} → Front met all → take (length met) all ≡ met
first_ones {met = met} f = ap (λ xs. take (length met) xs) f.is ∙ take-append_seam met f.rest

pub or_true : (b c : Bool) → b ≡ true → (b || c) ≡ true
or_true true c e = refl
or_true false c e = ap (λ x. x || c) e

pub still_in : {met all : List Text} (n : Text) → Front met all → is_in met n ≡ true → is_in all n ≡ true
still_in {met = met} n f e = ap (λ xs. is_in xs n) f.is ∙ list_any-append (same_text n) met f.rest ∙ or_true (is_in met n) (is_in f.rest n) e

pub def_front : (role : Role) (params : List Text) (b : Body) → take (length (locals_of_def role params b)) (names_of_def role params b) ≡ locals_of_def role params b
def_front role params b = first_ones (body_front b (locals_of_def role params b))

pub lambda_front : (role : Role) (params : List Text) (a : Tree) → take (length (locals_of_lambda role params)) (names_of_lambda role params a) ≡ locals_of_lambda role params
lambda_front role params a = first_ones (inner_front a (locals_of_lambda role params))

-- ---- names added one list after the other

pub add_all-append : (met a b : List Text) → add_all met (a ++ b) ≡ add_all (add_all met a) b
add_all-append met [] b = refl
add_all-append met (n ∷ a) b = add_all-append (add met n) a b

-- the arms behind `elif`, and then what stands behind them
pub assigned_arms : (arms : List (Tree × Body)) (other : Tail) → assigned_tail (tail arms other) ≡ assigned_tail (tail arms t.nothing) ++ assigned_tail other
assigned_arms [] other = refl
assigned_arms (arm ∷ arms) other = ap (λ ns. assigned_body arm.1 ++ ns) (assigned_arms arms other) ∙ sym (append_assoc (assigned_body arm.1) (assigned_tail (tail arms t.nothing)) (assigned_tail other))

pub inner_arms : (arms : List (Tree × Body)) (other : Tail) (met : List Text) → with_inner_tail (tail arms other) met ≡ with_inner_tail other (with_inner_tail (tail arms t.nothing) met)
inner_arms [] other met = refl
inner_arms (arm ∷ arms) other met = inner_arms arms other (with_inner_body arm.1 (with_inner arm.0 met))

pub ruleset meets = (add_all-append, assigned_arms, inner_arms, append-nil, if_tree, for_tree)
