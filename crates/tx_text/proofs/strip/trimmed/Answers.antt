use Rattle.tx_text.proofs.strip.trimmed.Goals as goal

pub returns-in-Both : goal.returns-in-Both
returns-in-Both c = rw (c.in-Both.is, ← c.front_trimmed.ensures) c.back_trimmed.ensures
