use Rattle.tx_methods.proofs.joins.joined_within.Goals as goal

pub returns-clause-value : goal.returns-clause-value
returns-clause-value c = c.made_text.ensures.value _ c.join.ensures

pub returns-clause-raise : goal.returns-clause-raise
returns-clause-raise c = λ class. c.made_text.ensures.raise _ class c.join.ensures
