-- Text literals, item by item.
use Rattle.std.proofs.Common.{◌≡◌, ◌≢◌, ◌==◌, ◌≤◌, inl, inr, ℕ, ◌+◌, List, [], ◌∷◌, ◌++◌, Option, Some, None, refl, sym, ap, append_assoc, append-nil, add_assoc, zero-add, ◌∙◌, eq-eqb, arith, length, drop, length-append}
use Rattle.std.proofs.lemmas.Bool.{cases_Bool, eqb-false, ne_eqb}
use Rattle.std.specs.Str.{NonePass}
use Rattle.std.proofs.Math.Seq.{drop-append-add}
use Rattle.tx_tokens.specs.Pieces.{backslash, escaped, in_front, quoted}
use Rattle.tx_tokens.specs.Calls.Walking.{quoted_behind}

pub quote_here : (quote : ℕ) (text more : List ℕ) (c : ℕ) → text ≡ c ∷ more → c ≡ quote → quoted quote text ≡ Some ([], 1)
quote_here quote text [] c e is = rw (e, eq-eqb c quote is) refl
quote_here quote text (d ∷ more) c e is = rw (e, eq-eqb c quote is) refl

pub quote_missing : (quote : ℕ) (text : List ℕ) → text ≡ [] → quoted quote text ≡ None
quote_missing quote text e = rw e refl

pub plain_item : (quote c : ℕ) (more : List ℕ) → c ≢ backslash → c ≢ quote → quoted quote (c ∷ more) ≡ in_front 1 (Some c) (quoted quote more)
plain_item quote c [] plain other = rw (ne_eqb c quote other) refl
plain_item quote c (d ∷ more) plain other = rw (ne_eqb c quote other, ne_eqb c backslash plain) refl

pub escape_missing : (quote c : ℕ) (more : List ℕ) → c ≡ backslash → more ≡ [] → c ≢ quote → quoted quote (c ∷ more) ≡ None
escape_missing quote c more is e other = rw (e, ne_eqb c quote other) refl

pub escape_none : (quote c d : ℕ) (more rest : List ℕ) → c ≡ backslash → more ≡ d ∷ rest → escaped d ≡ None → c ≢ quote → quoted quote (c ∷ more) ≡ None
escape_none quote c d more rest is e none other = rw (e, ne_eqb c quote other, eq-eqb c backslash is) (ap (λ o. in_front 2 o (quoted quote rest)) none)

pub escape_item : (quote c d meant : ℕ) (more rest : List ℕ) → c ≡ backslash → more ≡ d ∷ rest → escaped d ≡ Some meant → c ≢ quote
    → quoted quote (c ∷ more) ≡ in_front 2 (Some meant) (quoted quote rest)
escape_item quote c d meant more rest is e some other = rw (e, ne_eqb c quote other, eq-eqb c backslash is) (ap (λ o. in_front 2 o (quoted quote rest)) some)

pub in_more : (value : List ℕ) (size n meant : ℕ) (o : Option (List ℕ × ℕ)) → quoted_behind (value ++ meant ∷ []) (size + n) o ≡ quoted_behind value size (in_front n (Some meant) o)
in_more value size n meant None = refl
in_more value size n meant (Some r) = rw (append_assoc, add_assoc) refl

pub behind_none : (value : List ℕ) (size : ℕ) (o whole : Option (List ℕ × ℕ)) → o ≡ None → quoted_behind value size o ≡ whole → whole ≡ None
behind_none value size o whole e h = sym h ∙ ap (quoted_behind value size) e

pub behind_end : (value : List ℕ) (size : ℕ) (o whole : Option (List ℕ × ℕ)) → o ≡ Some ([], 1) → quoted_behind value size o ≡ whole → whole ≡ Some (value, size + 1)
behind_end value size o whole e h = sym h ∙ (ap (quoted_behind value size) e ∙ ap (λ t. Some (t, size + 1)) (append-nil value))

pub behind_nothing : (o : Option (List ℕ × ℕ)) → quoted_behind [] 0 o ≡ o
behind_nothing None = refl
behind_nothing (Some r) = rw (zero-add r.1) refl

-- ---- a literal with no backslash before the next quote

module _ (quote : ℕ) where
  abbrev NoQuote : List ℕ → Type 0
  NoQuote text = NonePass (λ c. c == quote) text

  pub plain_literal : (before behind : List ℕ) → NoQuote before → NonePass (λ c. c == backslash) before → quoted quote (before ++ quote ∷ behind) ≡ Some (before, length before + 1)
  plain_literal [] behind other plain = quote_here quote (quote ∷ behind) behind quote refl refl
  plain_literal (c ∷ before) behind other plain =
      plain_item quote c (before ++ quote ∷ behind) (eqb-false c backslash plain.0) (eqb-false c quote other.0)
      ∙ (ap (in_front 1 (Some c)) (plain_literal before behind other.1 plain.1) ∙ ap (λ (n : ℕ). Some (c ∷ before, n)) (omega arith))

  pub no_literal : (text : List ℕ) → NoQuote text → quoted quote text ≡ None
  no_literal [] other = refl
  no_literal (c ∷ []) other = rw other.0 refl
  no_literal (c ∷ d ∷ text) other = elim (cases_Bool (c == backslash)) [
    | inl escape ↦ rw (other.0, escape) (nothing_behind 2 (escaped d) (quoted quote text) (no_literal text other.1.1))
    | inr plain ↦ rw (other.0, plain) (nothing_behind 1 (Some c) (quoted quote (d ∷ text)) (no_literal (d ∷ text) other.1))
  ]
    where
      nothing_behind : (size : ℕ) (item : Option ℕ) (o : Option (List ℕ × ℕ)) → o ≡ None → in_front size item o ≡ None
      nothing_behind size None o e = refl
      nothing_behind size (Some c) o e = ap (in_front size (Some c)) e

  module _ (text before behind : List ℕ) (e : text ≡ before ++ quote ∷ behind) where
    pub literal_is : NoQuote before → NonePass (λ c. c == backslash) before → quoted quote text ≡ Some (before, length before + 1)
    literal_is other plain = ap (quoted quote) e ∙ plain_literal before behind other plain

    pub literal_rest : behind ≡ drop (length before + 1) text
    literal_rest = sym (ap (drop (length before + 1)) e ∙ drop-append-add before (quote ∷ behind) 1)

    pub literal_size : length before + 1 ≤ length text
    literal_size = omega (arith, ap length e, length-append before (quote ∷ behind))
