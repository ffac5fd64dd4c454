-- Symbols are known by their words.
use Rattle.std.proofs.Common.{◌≡◌, ◌↔◌, ℕ, Bool, true, false, not, ◌&&◌, ◌||◌, nat_lt, cond, List, [], ◌∷◌, Option, Some, None, option_map, refl, sym, ap, ◌∙◌}
use Rattle.std.specs.Cmp.Lexicographic.{bytes_decides}
use Rattle.std.specs.List.{find, list_any, list_all}
use Rattle.std.specs.Str.{IsAscii, chars}
use Rattle.std.proofs.lemmas.Str.{chars-IsAscii}
use Rattle.std.proofs.lemmas.Str.Ascii.{IsAscii-from_all}
use Rattle.std.proofs.lemmas.List.Sums.{AllPass-from_list_all}
use Rattle.std.proofs.lemmas.Bool.{ltb-true}
use Rattle.std.proofs.lemmas.Bool.Decides.{same_from_decides}
use denote.Enum.Bare.{sameb, same_true, true_same}
use Rattle.tx_tree.specs.contracts.symbol.Keyword as keyword_type
use Rattle.tx_tree.specs.contracts.symbol.Mark as mark_type
use Rattle.tx_tree.specs.declared.symbol.Keyword.{Keyword}
use Rattle.tx_tree.specs.declared.symbol.Keyword.TheVariants as word
use Rattle.tx_tree.specs.declared.symbol.Mark.{Mark}
use Rattle.tx_tree.specs.declared.symbol.Mark.TheVariants as sign
use Rattle.tx_tree.specs.Words.{keyword_word, keywords, mark_word, same_text}
use Rattle.tx_tree.specs.Form.{is_name}
use Rattle.tx_tree.specs.Kind as kind
use Rattle.tx_tokens.specs.declared.token.TokenKind.{TokenKind}
use Rattle.tx_tokens.specs.declared.token.TokenKind.TheVariants as token
use Rattle.tx_parse.specs.declared.symbol.Symbol.{Symbol}
use Rattle.tx_parse.specs.declared.symbol.Symbol.TheVariants as symbol
use Rattle.tx_parse.specs.Lexemes.{keyword_of, mark_of, marks, name_kind, kind_of}
use Rattle.tx_parse.specs.Calls.Front.{symbol_of, text_of, same_symbol}
use Rattle.tx_parse.proofs.Options.{one_some, and_left, and_right}

pub keyword_of-keyword_word : (k : Keyword) → keyword_of (keyword_word k) ≡ Some k
keyword_of-keyword_word word.False = refl
keyword_of-keyword_word word.None = refl
keyword_of-keyword_word word.True = refl
keyword_of-keyword_word word.And = refl
keyword_of-keyword_word word.As = refl
keyword_of-keyword_word word.Assert = refl
keyword_of-keyword_word word.Async = refl
keyword_of-keyword_word word.Await = refl
keyword_of-keyword_word word.Break = refl
keyword_of-keyword_word word.Class = refl
keyword_of-keyword_word word.Continue = refl
keyword_of-keyword_word word.Def = refl
keyword_of-keyword_word word.Del = refl
keyword_of-keyword_word word.Elif = refl
keyword_of-keyword_word word.Else = refl
keyword_of-keyword_word word.Except = refl
keyword_of-keyword_word word.Finally = refl
keyword_of-keyword_word word.For = refl
keyword_of-keyword_word word.From = refl
keyword_of-keyword_word word.Global = refl
keyword_of-keyword_word word.If = refl
keyword_of-keyword_word word.Import = refl
keyword_of-keyword_word word.In = refl
keyword_of-keyword_word word.Is = refl
keyword_of-keyword_word word.Lambda = refl
keyword_of-keyword_word word.Nonlocal = refl
keyword_of-keyword_word word.Not = refl
keyword_of-keyword_word word.Or = refl
keyword_of-keyword_word word.Pass = refl
keyword_of-keyword_word word.Raise = refl
keyword_of-keyword_word word.Return = refl
keyword_of-keyword_word word.Try = refl
keyword_of-keyword_word word.While = refl
keyword_of-keyword_word word.With = refl
keyword_of-keyword_word word.Yield = refl

pub mark_of-mark_word : (m : Mark) → mark_of (mark_word m) ≡ Some m
mark_of-mark_word sign.Open = refl
mark_of-mark_word sign.Close = refl
mark_of-mark_word sign.OpenSquare = refl
mark_of-mark_word sign.CloseSquare = refl
mark_of-mark_word sign.OpenBrace = refl
mark_of-mark_word sign.CloseBrace = refl
mark_of-mark_word sign.Comma = refl
mark_of-mark_word sign.Colon = refl
mark_of-mark_word sign.Dot = refl
mark_of-mark_word sign.Assign = refl
mark_of-mark_word sign.Plus = refl
mark_of-mark_word sign.Minus = refl
mark_of-mark_word sign.Star = refl
mark_of-mark_word sign.DoubleSlash = refl
mark_of-mark_word sign.Percent = refl
mark_of-mark_word sign.PlusAssign = refl
mark_of-mark_word sign.MinusAssign = refl
mark_of-mark_word sign.StarAssign = refl
mark_of-mark_word sign.DoubleSlashAssign = refl
mark_of-mark_word sign.PercentAssign = refl
mark_of-mark_word sign.Equal = refl
mark_of-mark_word sign.NotEqual = refl
mark_of-mark_word sign.Less = refl
mark_of-mark_word sign.LessEqual = refl
mark_of-mark_word sign.Greater = refl
mark_of-mark_word sign.GreaterEqual = refl

same_keyword : (a b : Keyword) → keyword_word a ≡ keyword_word b → a ≡ b
same_keyword a b e = one_some a b (sym (keyword_of-keyword_word a) ∙ ap keyword_of e ∙ keyword_of-keyword_word b)

same_mark : (a b : Mark) → mark_word a ≡ mark_word b → a ≡ b
same_mark a b e = one_some a b (sym (mark_of-mark_word a) ∙ ap mark_of e ∙ mark_of-mark_word b)

pub same_text-refl : (s : List ℕ) → same_text s s ≡ true
same_text-refl s = (bytes_decides s s).1 refl

pub same_symbol-refl : (s : Symbol) → same_symbol s s ≡ true
same_symbol-refl (symbol.Keyword k) = same_text-refl (keyword_word k)
same_symbol-refl (symbol.Mark m) = same_text-refl (mark_word m)
same_symbol-refl symbol.Name = refl
same_symbol-refl symbol.Number = refl
same_symbol-refl symbol.Quoted = refl
same_symbol-refl symbol.Newline = refl
same_symbol-refl symbol.Indent = refl
same_symbol-refl symbol.Dedent = refl
same_symbol-refl symbol.Unknown = refl
same_symbol-refl symbol.End = refl

pub same_only : (a b : Symbol) → same_symbol a b ≡ true → a ≡ b
same_only (symbol.Keyword a) (symbol.Keyword b) h = ap symbol.Keyword (same_keyword a b ((bytes_decides (keyword_word a) (keyword_word b)).0 h))
same_only (symbol.Mark a) (symbol.Mark b) h = ap symbol.Mark (same_mark a b ((bytes_decides (mark_word a) (mark_word b)).0 h))
same_only symbol.Name symbol.Name h = refl
same_only symbol.Number symbol.Number h = refl
same_only symbol.Quoted symbol.Quoted h = refl
same_only symbol.Newline symbol.Newline h = refl
same_only symbol.Indent symbol.Indent h = refl
same_only symbol.Dedent symbol.Dedent h = refl
same_only symbol.Unknown symbol.Unknown h = refl
same_only symbol.End symbol.End h = refl
same_only _ _ h = cc

-- ---- the test of two, in code

pub keyword_test : (a b : Keyword) → sameb keyword_type.the_type a b ≡ same_text (keyword_word a) (keyword_word b)
keyword_test a b = same_from_decides _ _ (same_true keyword_type.the_type tt a b, true_same keyword_type.the_type a b) (λ h. same_keyword a b ((bytes_decides (keyword_word a) (keyword_word b)).0 h), λ e. (bytes_decides (keyword_word a) (keyword_word b)).1 (ap keyword_word e))

pub mark_test : (a b : Mark) → sameb mark_type.the_type a b ≡ same_text (mark_word a) (mark_word b)
mark_test a b = same_from_decides _ _ (same_true mark_type.the_type tt a b, true_same mark_type.the_type a b) (λ h. same_mark a b ((bytes_decides (mark_word a) (mark_word b)).0 h), λ e. (bytes_decides (mark_word a) (mark_word b)).1 (ap mark_word e))

-- ---- the look-up of a word

-- the answer names what is written so
abbrev pub Names : {A : Type 0} → (A → List ℕ) → Option A → List ℕ → Type 0
Names {A = A} word answer cs = (x : A) → (answer ≡ Some x) ↔ (cs ≡ word x)

no_yes : (b : Bool) → (b ≡ true → ⊥) → b ≡ false
no_yes true h = absurd (h refl)
no_yes false h = refl

find_none : {A : Type 0} (p : A → Bool) (xs : List A) → ((x : A) → p x ≡ false) → find p xs ≡ None
find_none p [] h = refl
find_none p (x ∷ xs) h = ap (λ b. cond b (Some x) (find p xs)) (h x) ∙ find_none p xs h

some_or_none : {A : Type 0} (x : A) → None ≡ Some x → ⊥
some_or_none x h = cc

found_word : {A : Type 0} (word : A → List ℕ) (xs : List A) (answer : Option A) (n cs : List ℕ) → ((x : A) → find (λ y. same_text (word x) (word y)) xs ≡ Some x) → Names word answer cs → cs ≡ n → find (λ y. same_text n (word y)) xs ≡ answer
found_word word xs None n cs known h e = find_none (λ y. same_text n (word y)) xs (λ y. no_yes _ (λ p. some_or_none y ((h y).1 (e ∙ (bytes_decides n (word y)).0 p))))
found_word word xs (Some x) n cs known h e = ap (λ m. find (λ y. same_text m (word y)) xs) (sym e ∙ (h x).0 refl) ∙ known x

pub keyword_found : (answer : Option Keyword) (n cs : List ℕ) → Names keyword_word answer cs → cs ≡ n → keyword_of n ≡ answer
keyword_found answer n cs = found_word keyword_word keywords answer n cs keyword_of-keyword_word

pub mark_found : (answer : Option Mark) (n cs : List ℕ) → Names mark_word answer cs → cs ≡ n → mark_of n ≡ answer
mark_found answer n cs = found_word mark_word marks answer n cs mark_of-mark_word

-- ---- a name is no keyword

none_here : {A : Type 0} (b c : Bool) (x : A) (o : Option A) → (o ≡ None → c ≡ false) → cond b (Some x) o ≡ None → (b || c) ≡ false
none_here true c x o f e = absurd (some_or_none x (sym e))
none_here false c x o f e = f e

none_any : {A : Type 0} (p : A → Bool) (xs : List A) → find p xs ≡ None → list_any p xs ≡ false
none_any p [] h = refl
none_any p (x ∷ xs) h = none_here (p x) (list_any p xs) x (find p xs) (none_any p xs) h

named_by : (n : List ℕ) (o : Option Keyword) → keyword_of n ≡ o → same_symbol symbol.Name (symbol_of (Some (name_kind n o))) ≡ true → is_name (text_of (Some (name_kind n o))) ≡ true
named_by n None e h = ap not (none_any (λ k. same_text n (keyword_word k)) keywords e)
named_by n (Some k) e h = cc

mark_by : (o : Option Mark) → same_symbol symbol.Name (symbol_of (option_map kind.mark o)) ≡ true → is_name (text_of (option_map kind.mark o)) ≡ true
mark_by None h = cc
mark_by (Some m) h = cc

pub name_named : (k : TokenKind) → same_symbol symbol.Name (symbol_of (kind_of k)) ≡ true → is_name (text_of (kind_of k)) ≡ true
name_named (token.Name n) h = named_by n (keyword_of n) refl h
name_named (token.Mark m) h = mark_by (mark_of m) h
name_named (token.Int n) h = cc
name_named (token.Text t) h = cc
name_named token.Newline h = cc
name_named token.Indent h = cc
name_named token.Dedent h = cc

-- ---- the words of keywords are ASCII

found_passes : {A : Type 0} (b : Bool) (q : A → Bool) (y x : A) (o : Option A) (c : Bool) → (o ≡ Some x → c ≡ true → q x ≡ true) → cond b (Some y) o ≡ Some x → (q y && c) ≡ true → q x ≡ true
found_passes true q y x o c later f h = ap q (sym (one_some y x f)) ∙ and_left (q y) c h
found_passes false q y x o c later f h = later f (and_right (q y) c h)

find_passes : {A : Type 0} (p q : A → Bool) (xs : List A) (x : A) → find p xs ≡ Some x → list_all q xs ≡ true → q x ≡ true
find_passes p q [] x f h = absurd (some_or_none x f)
find_passes p q (y ∷ xs) x f h = found_passes (p y) q y x (find p xs) (list_all q xs) (find_passes p q xs x) f h

abbrev is_ascii : List ℕ → Bool
is_ascii = list_all (λ c. nat_lt c 128)

ascii : (w : List ℕ) → is_ascii w ≡ true → IsAscii w
ascii w e = IsAscii-from_all w (λ k d l. ltb-true _ 128 (AllPass-from_list_all (λ c. nat_lt c 128) w e k d l))

pub keyword_chars : (k : Keyword) → chars (keyword_word k) ≡ keyword_word k
keyword_chars k = chars-IsAscii (keyword_word k) (ascii (keyword_word k) (find_passes (λ y. same_text (keyword_word k) (keyword_word y)) (λ y. is_ascii (keyword_word y)) keywords k (keyword_of-keyword_word k) refl))
