use Rattle.std.proofs.Common.{◌≡◌, ℕ, ◌+◌, ◌≤◌, List, ◌++◌, length, take, Option, Some, None, sym, ap, ◌∙◌, arith, length-append}
use Rattle.std.proofs.lemmas.List.{length-take-le}
use Rattle.std.proofs.Math.Seq.{take-add}
use Rattle.tx_place.specs.Place.{PlaceState, Took}
use Rattle.tx_place.specs.Calls.Reading.{IsAsBefore, IsFrontOf}

-- one piece more
pub length-more : (all piece more : List ℕ) (n : ℕ) → n ≤ length piece → more ≡ all ++ take n piece → length more ≡ length all + n
length-more all piece more n le e =
    ap length e ∙ (length-append all (take n piece) ∙ ap (λ k. length all + k) (length-take-le n piece le))

-- what was read so far and the next piece are the first bytes of the file
pub IsFrontOf-more : (file : Option (List ℕ)) (all piece more : List ℕ) (n : ℕ) → IsFrontOf file all → Took file (length all) n piece → n ≤ length piece → more ≡ all ++ take n piece → IsFrontOf file more
IsFrontOf-more None all piece more n f t le e = absurd t
IsFrontOf-more (Some bytes) all piece more n f t le e =
    let lens = length-more all piece more n le e in
    let is : more ≡ take (length all + n) bytes =
    e ∙ (ap (λ x. x ++ take n piece) f.0 ∙ (ap (λ y. take (length all) bytes ++ y) t.are ∙ sym (take-add (length all) n bytes))) in
    (is ∙ ap (λ k. take k bytes) (sym lens), omega (arith, lens, t.no_more, f.1))

-- a call that changes nothing goes on from there
pub IsAsBefore-more : (old mid new : PlaceState) → IsAsBefore old mid → IsAsBefore mid new → IsAsBefore old new
IsAsBefore-more old mid new a b = record {
  telling = record {
    tells = b.telling.tells ∙ a.telling.tells;
    names_faults = b.telling.names_faults ∙ a.telling.names_faults;
  };
  reads = b.reads ∙ a.reads;
  writes = b.writes ∙ a.writes;
  open_file = b.open_file ∙ a.open_file;
  named = λ h. b.named (a.telling.names_faults ∙ h) ∙ a.named h;
  held = λ h. b.held (a.telling.tells ∙ h) ∙ a.held h;
}
