-- What was complained, from the parts of a command.
use Rattle.std.proofs.Common.{◌≡◌, ◌<◌, ℕ, List, ◌++◌, length, take, true, sym, ap, ◌∙◌, arith, Result, Ok, Err}
use Rattle.std.proofs.Math.Seq.{take-length}
use Rattle.tx_place.specs.Console.{ConsoleState, Complains}
use Rattle.tx_place.specs.declared.place.CallError.{CallError}
use Rattle.tx_place.specs.declared.place.CallError.TheVariants as call_error
use Rattle.tuplex_run.specs.Ends.{Complained}
use Rattle.tuplex_run.specs.Calls.Finish.{OnlySays, OnlyComplains}

-- one complaint
pub complained_by : (result : Result (Unit {0}) CallError) (bytes : List ℕ) (old new : ConsoleState) → Complains result bytes old new → old.tells ≡ true → Complained bytes old new
complained_by (Ok u) bytes old new h t = record {
  partly = (length bytes, h.complained t ∙ ap (λ b. old.complained ++ b) (sym (take-length bytes)));
  whole = λ _ _. h.complained t;
}
complained_by (Err call_error.Failed) bytes old new h t = record {
  partly = h.complained t;
  whole = λ still _. let more = h.complains.is in absurd (omega (arith, more, still.0, still.1));
}
complained_by (Err call_error.NoMemory) bytes old new h t = record {
  partly = h.complained t;
  whole = λ _ still. let more = h.memory_refusals.is in absurd (omega (arith, more, still.0, still.1));
}

-- the complaint comes behind the rest
pub complained_from : (bytes : List ℕ) (was mid now : ConsoleState) → OnlySays was mid → OnlyComplains mid now → was.tells ≡ true → Complained bytes mid now → Complained bytes was now
complained_from bytes was mid now a b t h =
    let same : mid.complained ≡ was.complained = a.complained t in
    record {
      partly = (h.partly.0, h.partly.1 ∙ ap (λ c. c ++ take h.partly.0 bytes) same);
      whole = λ f m.
          let few : mid.complain_faults < 18446744073709551615 = omega (arith, f.0, a.complain_faults) in
          let is : now.complain_faults ≡ mid.complain_faults = f.1 ∙ sym a.complain_faults in
          let low : mid.memory_refusals < 18446744073709551615 = omega (arith, m.0, m.1, b.memory_refusals) in
          let stay : now.memory_refusals ≡ mid.memory_refusals = omega (arith, m.1, a.memory_refusals, b.memory_refusals) in
          h.whole (few, is) (low, stay) ∙ ap (λ c. c ++ bytes) same;
    }
