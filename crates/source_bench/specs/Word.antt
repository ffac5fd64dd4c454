-- The words of the jobs.
use Rattle.std.specs.Prelude.{ℕ, List, codes}
use Rattle.source_bench.specs.declared.job.Job.{Job}
use Rattle.source_bench.specs.declared.job.Job.TheVariants.{Source, Cells, Write}

abbrev pub word_of : Job → List ℕ
word_of Source = codes "source"
word_of Cells = codes "cells"
word_of Write = codes "write"
