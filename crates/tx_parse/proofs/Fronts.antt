-- What stands in front of lexemes whose first one is of a symbol.
use Rattle.std.proofs.Common.{◌≡◌, ℕ, zero, suc, ◌+◌, ◌<◌, ◌≤◌, true, List, [], ◌∷◌, length, drop, Option, Some, None, refl, sym, ap, ◌∙◌, add-one, arith}
use Rattle.std.specs.List.{slice_get}
use Rattle.std.proofs.lemmas.List.{drop-map, drop_all, drop_more}
use Rattle.std.proofs.lemmas.Option.{slice_get_within, get_or_from_slice_get}
use Rattle.tx_tokens.specs.declared.token.Token.{Token}
use Rattle.tx_tree.specs.Form.{is_name}
use Rattle.tx_tree.specs.declared.symbol.Keyword.{Keyword}
use Rattle.tx_tree.specs.declared.symbol.Mark.{Mark}
use Rattle.tx_tree.specs.Kind as kind
use Rattle.tx_tree.specs.Kind.{Kind}
use Rattle.tx_parse.specs.declared.symbol.Symbol.{Symbol}
use Rattle.tx_parse.specs.declared.symbol.Symbol.TheVariants as symbol
use Rattle.tx_parse.specs.Lexemes.{Lexeme, lexeme, lexeme_of, lexemes, line_at}
use Rattle.tx_parse.specs.Spells.{Lone, one}
use Rattle.tx_parse.specs.Calls.Front.{symbol_of, symbol_at, text_of, text_at, number_of, number_at, rest_of, at}
use Rattle.tx_parse.proofs.Symbols.{same_only, name_named}

-- ---- the kind of a symbol

keyword_kind : (o : Option Kind) (k : Keyword) → symbol.Keyword k ≡ symbol_of o → o ≡ Some (kind.keyword k)
keyword_kind None k h = cc
keyword_kind (Some (kind.keyword w)) k h = cc
keyword_kind (Some _) k h = cc

mark_kind : (o : Option Kind) (m : Mark) → symbol.Mark m ≡ symbol_of o → o ≡ Some (kind.mark m)
mark_kind None m h = cc
mark_kind (Some (kind.mark w)) m h = cc
mark_kind (Some _) m h = cc

name_kind : (o : Option Kind) → symbol.Name ≡ symbol_of o → o ≡ Some (kind.named (text_of o))
name_kind None h = cc
name_kind (Some (kind.named n)) h = refl
name_kind (Some _) h = cc

number_kind : (o : Option Kind) → symbol.Number ≡ symbol_of o → o ≡ Some (kind.number (number_of o))
number_kind None h = cc
number_kind (Some (kind.number n)) h = refl
number_kind (Some _) h = cc

quoted_kind : (o : Option Kind) → symbol.Quoted ≡ symbol_of o → o ≡ Some (kind.quoted (text_of o))
quoted_kind None h = cc
quoted_kind (Some (kind.quoted n)) h = refl
quoted_kind (Some _) h = cc

newline_kind : (o : Option Kind) → symbol.Newline ≡ symbol_of o → o ≡ Some kind.newline
newline_kind None h = cc
newline_kind (Some kind.newline) h = refl
newline_kind (Some _) h = cc

indent_kind : (o : Option Kind) → symbol.Indent ≡ symbol_of o → o ≡ Some kind.indent
indent_kind None h = cc
indent_kind (Some kind.indent) h = refl
indent_kind (Some _) h = cc

dedent_kind : (o : Option Kind) → symbol.Dedent ≡ symbol_of o → o ≡ Some kind.dedent
dedent_kind None h = cc
dedent_kind (Some kind.dedent) h = refl
dedent_kind (Some _) h = cc

front_of : (x : Lexeme) (ts : List Lexeme) (k : Kind) → x.kind ≡ Some k → x ∷ ts ≡ lexeme k x.line ∷ ts
front_of x ts k e = ap (λ (z : Option Kind). (record { kind = z; line = x.line }) ∷ ts) e

-- ---- one lexeme in front, by its symbol

pub word_front : (k : Keyword) (ts : List Lexeme) → symbol.Keyword k ≡ symbol_at ts → one (kind.keyword k) (line_at ts) ts (rest_of ts)
word_front k [] h = cc
word_front k (x ∷ ts) h = front_of x ts (kind.keyword k) (keyword_kind x.kind k h)

pub mark_front : (m : Mark) (ts : List Lexeme) → symbol.Mark m ≡ symbol_at ts → one (kind.mark m) (line_at ts) ts (rest_of ts)
mark_front m [] h = cc
mark_front m (x ∷ ts) h = front_of x ts (kind.mark m) (mark_kind x.kind m h)

pub name_front : (ts : List Lexeme) → symbol.Name ≡ symbol_at ts → one (kind.named (text_at ts)) (line_at ts) ts (rest_of ts)
name_front [] h = cc
name_front (x ∷ ts) h = front_of x ts (kind.named (text_of x.kind)) (name_kind x.kind h)

pub number_front : (ts : List Lexeme) → symbol.Number ≡ symbol_at ts → one (kind.number (number_at ts)) (line_at ts) ts (rest_of ts)
number_front [] h = cc
number_front (x ∷ ts) h = front_of x ts (kind.number (number_of x.kind)) (number_kind x.kind h)

pub quoted_front : (ts : List Lexeme) → symbol.Quoted ≡ symbol_at ts → one (kind.quoted (text_at ts)) (line_at ts) ts (rest_of ts)
quoted_front [] h = cc
quoted_front (x ∷ ts) h = front_of x ts (kind.quoted (text_of x.kind)) (quoted_kind x.kind h)

pub newline_front : (ts : List Lexeme) → symbol.Newline ≡ symbol_at ts → one kind.newline (line_at ts) ts (rest_of ts)
newline_front [] h = cc
newline_front (x ∷ ts) h = front_of x ts kind.newline (newline_kind x.kind h)

pub indent_front : (ts : List Lexeme) → symbol.Indent ≡ symbol_at ts → one kind.indent (line_at ts) ts (rest_of ts)
indent_front [] h = cc
indent_front (x ∷ ts) h = front_of x ts kind.indent (indent_kind x.kind h)

pub dedent_front : (ts : List Lexeme) → symbol.Dedent ≡ symbol_at ts → one kind.dedent (line_at ts) ts (rest_of ts)
dedent_front [] h = cc
dedent_front (x ∷ ts) h = front_of x ts kind.dedent (dedent_kind x.kind h)

-- ---- the same, by a test

pub at_only : (s : Symbol) (ts : List Lexeme) → at s ts ≡ true → s ≡ symbol_at ts
at_only s ts h = same_only s (symbol_at ts) h

pub lone : (k : Kind) (l : ℕ) (ts r : List Lexeme) → one k l ts r → Lone k ts r
lone k l ts r h = record { at = l; same = h }

pub at_mark : (m : Mark) (ts : List Lexeme) → at (symbol.Mark m) ts ≡ true → one (kind.mark m) (line_at ts) ts (rest_of ts)
at_mark m ts h = mark_front m ts (at_only (symbol.Mark m) ts h)

pub at_word : (k : Keyword) (ts : List Lexeme) → at (symbol.Keyword k) ts ≡ true → one (kind.keyword k) (line_at ts) ts (rest_of ts)
at_word k ts h = word_front k ts (at_only (symbol.Keyword k) ts h)

pub at_name : (ts : List Lexeme) → at symbol.Name ts ≡ true → one (kind.named (text_at ts)) (line_at ts) ts (rest_of ts)
at_name ts h = name_front ts (at_only symbol.Name ts h)

pub at_newline : (ts : List Lexeme) → at symbol.Newline ts ≡ true → one kind.newline (line_at ts) ts (rest_of ts)
at_newline ts h = newline_front ts (at_only symbol.Newline ts h)

pub at_indent : (ts : List Lexeme) → at symbol.Indent ts ≡ true → one kind.indent (line_at ts) ts (rest_of ts)
at_indent ts h = indent_front ts (at_only symbol.Indent ts h)

pub at_dedent : (ts : List Lexeme) → at symbol.Dedent ts ≡ true → one kind.dedent (line_at ts) ts (rest_of ts)
at_dedent ts h = dedent_front ts (at_only symbol.Dedent ts h)

pub lone_mark : (m : Mark) (ts : List Lexeme) → at (symbol.Mark m) ts ≡ true → Lone (kind.mark m) ts (rest_of ts)
lone_mark m ts h = lone (kind.mark m) (line_at ts) ts (rest_of ts) (at_mark m ts h)

pub lone_word : (k : Keyword) (ts : List Lexeme) → at (symbol.Keyword k) ts ≡ true → Lone (kind.keyword k) ts (rest_of ts)
lone_word k ts h = lone (kind.keyword k) (line_at ts) ts (rest_of ts) (at_word k ts h)

-- ---- what is left behind one

pub lone_shorter : (k : Kind) (ts r : List Lexeme) → Lone k ts r → length r < length ts
lone_shorter k ts r s = omega (arith, ap length s.same)

pub one_shorter : (k : Kind) (l : ℕ) (ts r : List Lexeme) → one k l ts r → length r < length ts
one_shorter k l ts r s = omega (arith, ap length s)

rest_of-drop_suc : {A : Type 0} (i : ℕ) (xs : List A) → rest_of (drop i xs) ≡ drop (suc i) xs
rest_of-drop_suc zero [] = refl
rest_of-drop_suc zero (x ∷ xs) = refl
rest_of-drop_suc (suc i) [] = refl
rest_of-drop_suc (suc i) (x ∷ xs) = rest_of-drop_suc i xs

pub rest_of_drop : {A : Type 0} (i : ℕ) (xs : List A) → rest_of (drop i xs) ≡ drop (i + 1) xs
rest_of_drop i xs = rw add-one (rest_of-drop_suc i xs)

-- ---- what is left of some tokens

pub rest_of_lexemes : (i : ℕ) (ts : List Token) → rest_of (lexemes (drop i ts)) ≡ lexemes (drop (i + 1) ts)
rest_of_lexemes i ts = sym (ap rest_of (drop-map lexeme_of i ts)) ∙ rest_of_drop i (lexemes ts) ∙ drop-map lexeme_of (i + 1) ts

pub lexemes_more : (ts : List Token) (i : ℕ) (t : Token) → slice_get ts i ≡ Some t → lexemes (drop i ts) ≡ lexeme_of t ∷ lexemes (drop (i + 1) ts)
lexemes_more ts i t h = ap lexemes (drop_more ts i t (slice_get_within ts i t h)) ∙ ap (λ x. lexeme_of x ∷ lexemes (drop (i + 1) ts)) (get_or_from_slice_get ts i t t h)

pub lexemes_end : (ts : List Token) (i : ℕ) → length ts ≤ i → lexemes (drop i ts) ≡ []
lexemes_end ts i h = ap lexemes (drop_all i ts h)

pub name_is_named : (ts : List Token) → at symbol.Name (lexemes ts) ≡ true → is_name (text_at (lexemes ts)) ≡ true
name_is_named [] h = cc
name_is_named (t ∷ ts) h = name_named t.kind h

pub name_in_front : (xs : List Lexeme) (ts : List Token) → xs ≡ lexemes ts → at symbol.Name xs ≡ true → is_name (text_at xs) ≡ true
name_in_front xs ts e h = ap (λ ys. is_name (text_at ys)) e ∙ name_is_named ts (sym (ap (at symbol.Name) e) ∙ h)

-- what is neither a name nor a text has no text
pub text_of-none : (o : Option Kind) → (symbol_of o ≡ symbol.Name → ⊥) → (symbol_of o ≡ symbol.Quoted → ⊥) → text_of o ≡ []
text_of-none None f g = refl
text_of-none (Some (kind.named n)) f g = absurd (f refl)
text_of-none (Some (kind.quoted t)) f g = absurd (g refl)
text_of-none (Some (kind.keyword k)) f g = refl
text_of-none (Some (kind.number n)) f g = refl
text_of-none (Some (kind.mark m)) f g = refl
text_of-none (Some kind.newline) f g = refl
text_of-none (Some kind.indent) f g = refl
text_of-none (Some kind.dedent) f g = refl
