-- The words of the jobs.
use Rattle.std.specs.Prelude.{ℕ, List, codes}
use Rattle.function_bench.specs.declared.job.Job.{Job}
use Rattle.function_bench.specs.declared.job.Job.TheVariants.{Each, First}

abbrev pub word_of : Job → List ℕ
word_of Each = codes "each"
word_of First = codes "first"
