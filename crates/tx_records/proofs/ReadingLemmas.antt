-- What a read of csv takes of the records that are left.
use Rattle.std.proofs.Common.{◌≡◌, ◌∙◌, ◌⊎◌, ◌<◌, ◌+◌, ℕ, zero, suc, Bool, true, false, cond, List, [], ◌∷◌, ◌++◌, Option, Some, None, length, sym, refl, ap, arith, inl, inr, add-one}
use Rattle.std.specs.Prelude.{IsSome}
use Rattle.csv.specs.Machine.{Read, ends_at_end, field_after, fields_after, is_end, next_record, step}
use Rattle.csv.specs.Reading.{ReadRecord, Reached, records_from}
use Rattle.csv.specs.declared.parser.Config.{Config}
use Rattle.csv.specs.declared.parser.State.{State}
use Rattle.csv.specs.declared.parser.State.TheVariants as st
use Rattle.csv.proofs.ReadFacts.{rows-end, rows-more}
use Rattle.tx_records.specs.Records.{Record}
use Rattle.tx_records.specs.Calls.Reading.{SliceReader, Stands, bytes_left, left_of, records_left}

-- what a read leaves: less than there was, or nothing, at the start of a record
abbrev Leaves : List ℕ → Read → Type 0
Leaves xs r = (length r.2 < length xs) ⊎ ((r.2 ≡ []) × (r.1 ≡ st.StartRecord))

some : {r p : Read} → Some r ≡ Some p → r ≡ p
some e = cc e

at_end : (b : Bool) (fields : Record) (r : Read) → cond b (Some (fields, st.StartRecord, [])) None ≡ Some r → (r.2 ≡ []) × (r.1 ≡ st.StartRecord)
at_end true fields r e = let q : (fields, st.StartRecord, []) ≡ r = some e in (sym (ap (λ p. p.2) q), sym (ap (λ p. p.1) q))
at_end false fields r e = cc e

leaves_by : (b : Bool) (p : Read) (o : Option Read) (c : ℕ) (rest : List ℕ) (r : Read) → p.2 ≡ rest → ((o ≡ Some r) → Leaves rest r) → cond b (Some p) o ≡ Some r → Leaves (c ∷ rest) r
leaves_by true p o c rest r e go h = inl (rw (← some h, e) (omega arith))
leaves_by false p o c rest r e go h = elim (go h) [ inl l ↦ inl (omega (arith, l)) | inr d ↦ inr d ]

leaves : (cfg : Config) (s : State) (fields : Record) (field xs : List ℕ) (r : Read) → next_record cfg s fields field xs ≡ Some r → Leaves xs r
unfolding next_record
leaves cfg s fields field [] r e = inr (at_end (ends_at_end s) (fields ++ (field ∷ [])) r e)
leaves cfg s fields field (c ∷ rest) r e =
    leaves_by (is_end (step cfg s c).1) (fields_after (step cfg s c).1 fields field, (step cfg s c).0, rest)
    (next_record cfg (step cfg s c).0 (fields_after (step cfg s c).1 fields field) (field_after (step cfg s c).1 c field) rest) c rest r refl
    (leaves cfg (step cfg s c).0 (fields_after (step cfg s c).1 fields field) (field_after (step cfg s c).1 c field) rest r) e

-- nothing is left at the start of a record
none_at_end : (cfg : Config) → next_record cfg st.StartRecord [] [] [] ≡ None
unfolding next_record
none_at_end cfg = refl

records_none : (cfg : Config) (n : ℕ) (s : State) (xs : List ℕ) → next_record cfg s [] [] xs ≡ None → records_from cfg n s xs ≡ []
unfolding records_from
records_none cfg zero s xs e = refl
records_none cfg (suc n) s xs e = rw e refl

records_some : (cfg : Config) (n : ℕ) (s : State) (xs : List ℕ) (p : Read) → next_record cfg s [] [] xs ≡ Some p → records_from cfg (suc n) s xs ≡ p.0 ∷ records_from cfg n p.1 p.2
unfolding records_from
records_some cfg n s xs p e = rw e refl

-- how many records are asked for makes no difference, where there are fewer bytes
abbrev Enough : Config → ℕ → ℕ → Type 0
Enough cfg m n = (s : State) (xs : List ℕ) → length xs < m → length xs < n → records_from cfg m s xs ≡ records_from cfg n s xs

-- the same behind a record that was read
behind : (cfg : Config) (m n : ℕ) (xs : List ℕ) (p : Read) → Leaves xs p → Enough cfg m n → (length p.2 < length xs → (length p.2 < m) × (length p.2 < n))
    → records_from cfg m p.1 p.2 ≡ records_from cfg n p.1 p.2
behind cfg m n xs p (inl less) enough short = enough p.1 p.2 (short less).0 (short less).1
behind cfg m n xs p (inr done) enough short =
    let stop : next_record cfg p.1 [] [] p.2 ≡ None = rw (done.0, done.1) (none_at_end cfg) in
    records_none cfg m p.1 p.2 stop ∙ sym (records_none cfg n p.1 p.2 stop)

enough_step : (cfg : Config) (m n : ℕ) (s : State) (xs : List ℕ) (o : Option Read) → next_record cfg s [] [] xs ≡ o → length xs < suc m → length xs < suc n → Enough cfg m n
    → records_from cfg (suc m) s xs ≡ records_from cfg (suc n) s xs
enough_step cfg m n s xs None e l k enough = records_none cfg (suc m) s xs e ∙ sym (records_none cfg (suc n) s xs e)
enough_step cfg m n s xs (Some p) e l k enough =
    records_some cfg m s xs p e
    ∙ (ap (λ t. p.0 ∷ t) (behind cfg m n xs p (leaves cfg s [] [] xs p e) enough (λ less. (omega (arith, l, less), omega (arith, k, less))))
    ∙ sym (records_some cfg n s xs p e))

enough : (cfg : Config) (m n : ℕ) → Enough cfg m n
enough cfg zero n s xs l k = absurd (omega (arith, l))
enough cfg (suc m) zero s xs l k = absurd (omega (arith, k))
enough cfg (suc m) (suc n) s xs l k = enough_step cfg m n s xs (next_record cfg s [] [] xs) refl l k (enough cfg m n)

-- a record was read, and the others are left
left_more : (cfg : Config) (s : State) (xs : List ℕ) (p : Read) → next_record cfg s [] [] xs ≡ Some p
    → records_from cfg (length xs + 1) s xs ≡ p.0 ∷ records_from cfg (length p.2 + 1) p.1 p.2
left_more cfg s xs p e =
    rw (add-one (length xs)) (records_some cfg (length xs) s xs p e
    ∙ ap (λ t. p.0 ∷ t) (behind cfg (length xs) (length p.2 + 1) xs p (leaves cfg s [] [] xs p e) (enough cfg (length xs) (length p.2 + 1)) (λ less. (less, omega arith))))

-- a reader of bytes that are known
record Takes (cfg : Config) (s : State) (xs : List ℕ) (f : Record) (s2 : State) (ys : List ℕ) : Type 0 where
  is : records_from cfg (length xs + 1) s xs ≡ f ∷ records_from cfg (length ys + 1) s2 ys

taken : (cfg : Config) (s s2 : State) (xs ys : List ℕ) (f : Record) → Reached cfg s xs (f ∷ []) s2 ys → Takes cfg s xs f s2 ys
unfolding Reached
taken cfg s s2 xs ys f h =
    record { is = left_more cfg s xs h.0 h.1 ∙ rw (h.2, h.3.0, h.3.1) refl }

at_start : (cfg : Config) (s : State) (xs : List ℕ) → Reached cfg s xs [] s xs
unfolding Reached
at_start cfg s xs = (refl, refl)

-- what the contracts of a read say, of its records
pub record ReadsOne (a b : SliceReader) (f : Record) : Type 0 where
  pub known : IsSome (bytes_left b)
  pub next : left_of a ≡ f ∷ left_of b

known_rest : (o : Option (List ℕ)) → IsSome o → (xs : List ℕ) × (o ≡ Some xs)
known_rest None h = cc h
known_rest (Some xs) h = (xs, refl)

is_known : (o : Option (List ℕ)) (xs : List ℕ) → o ≡ Some xs → IsSome o
is_known None xs e = cc e
is_known (Some x) xs e = refl

pub reads_one : (a b : SliceReader) (f : Record) → Stands a → ReadRecord (λ s. Some s.now) a b true f → ReadsOne a b f
reads_one a b f stands r =
    let rest = known_rest (bytes_left a) stands.known in
    let m = rows-more (λ s. Some s.now) a b f a.config a.state rest.0 rest.0 [] refl rest.1 (at_start a.config a.state rest.0) r in
    let t = taken a.config a.state b.state rest.0 m.0 f m.2 in
    let after : left_of b ≡ records_left a.config b.state (Some m.0) = ap (λ (c : Config). records_left c b.state (bytes_left b)) r.2 ∙ ap (records_left a.config b.state) m.1 in
    record { known = is_known (bytes_left b) m.0 m.1; next = ap (records_left a.config a.state) rest.1 ∙ (t.is ∙ ap (λ x. f ∷ x) (sym after)) }

pub reads_none : (a b : SliceReader) (f : Record) → Stands a → ReadRecord (λ s. Some s.now) a b false f → left_of a ≡ []
reads_none a b f stands r =
    let rest = known_rest (bytes_left a) stands.known in
    let stop = rows-end (λ s. Some s.now) a b f a.config rest.0 refl rest.1 r in
    ap (records_left a.config a.state) rest.1 ∙ records_none a.config (length rest.0 + 1) a.state rest.0 stop
