-- The words of the jobs.
use Rattle.std.specs.Prelude.{ℕ, List, codes}
use Rattle.join_bench.specs.declared.job.Job.{Job}
use Rattle.join_bench.specs.declared.job.Job.TheVariants.{Join, Unique}

abbrev pub word_of : Job → List ℕ
word_of Join = codes "join"
word_of Unique = codes "unique"
