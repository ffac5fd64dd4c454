use Rattle.std.proofs.Common.{◌≡◌, ◌++◌, map, drop}
use Rattle.tuplex_run.specs.Inputs.{header_of}
use Rattle.tuplex_run.proofs.header.headers_of.Given as goal

abbrev pub invariant-loop-source : goal.invariant-loop-source
invariant-loop-source l = l.headers ++ map header_of (drop l.source-index l.sources) ≡ map header_of l.sources
