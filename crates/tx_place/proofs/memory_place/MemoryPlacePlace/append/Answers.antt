use Rattle.std.proofs.Common.{length, ◌/◌, rules}
use Rattle.tx_place.proofs.memory_place.MemoryPlacePlace.append.Goals as goal

pub returns : goal.returns
returns c = record {
  does = record {
    telling = search rules;
    reads = search rules;
    writes = search rules;
    named = search rules;
    open_file = search rules;
    held = search rules;
    refused = λ _. rw (← c.self.view_is) (length c.args.bytes.now / 2, c.in_ok-add-2.ensures.ok);
  };
  exact = search rules;
  due = search rules;
  calls = search rules;
  failing = search rules;
  most = search rules;
  kept = search rules;
  half = search rules;
}
