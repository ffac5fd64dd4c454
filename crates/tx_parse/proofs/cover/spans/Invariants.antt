use Rattle.std.proofs.Common.{◌≡◌, ◌+◌, ◌++◌, ◌≤◌, drop}
use Rattle.tx_parse.specs.Spans.{spans_of}
use Rattle.tx_parse.proofs.Covers.{spans_behind}
use Rattle.tx_parse.proofs.cover.spans.Given as goal

abbrev pub invariant-loop-token : goal.invariant-loop-token
invariant-loop-token l = record {
  place : l.at ≡ l.token-index + 1;
  few : l.count ≤ l.at;
  same : l.done ++ spans_behind l.from l.at l.count l.fresh (drop l.token-index l.rest) ≡ spans_of l.fn.tokens;
}
