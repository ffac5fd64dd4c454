use Rattle.tuplex_run.proofs.accepting.accept_command.Goals as goal

pub returns-in-Run-clause-accepted : goal.returns-in-Run-clause-accepted
returns-in-Run-clause-accepted g c = rw c.in-Run.is (c.run_script.ensures.accepted c.in-Run.sample c.in-Run.order)

pub returns-in-Run-clause-refused : goal.returns-in-Run-clause-refused
returns-in-Run-clause-refused g c = rw c.in-Run.is (c.run_script.ensures.refused c.in-Run.sample c.in-Run.order)

pub returns-in-Run-clause-named : goal.returns-in-Run-clause-named
returns-in-Run-clause-named g c = rw c.in-Run.is (c.run_script.ensures.named c.in-Run.sample c.in-Run.order)

pub returns-in-Run-clause-steps : goal.returns-in-Run-clause-steps
returns-in-Run-clause-steps g c = rw c.in-Run.is (c.run_script.ensures.steps c.in-Run.sample c.in-Run.order)
