use Rattle.function_bench.proofs.run.run.Given as goal

abbrev pub ghosts-tallied : goal.ghosts-tallied
ghosts-tallied g a = record { name = a.blank.name; parts = a.blank.parts }
