use Rattle.value_vectors.proofs.tests.classes.two_steps.Given as goal

abbrev pub ghosts-stepped : goal.ghosts-stepped
ghosts-stepped a = record { name = a.blank.name; parts = a.blank.parts }
