use Rattle.tx_methods.proofs.texts.replaced.Goals as goal

pub returns-clause-value : goal.returns-clause-value
returns-clause-value c = c.made_text.ensures.value _ c.replace.ensures

pub returns-clause-raise : goal.returns-clause-raise
returns-clause-raise c = λ class. c.made_text.ensures.raise _ class c.replace.ensures
