use Rattle.tuplex_run.proofs.Runs.{deed_made}
use Rattle.tuplex_run.proofs.work.files_of.Goals as goal

pub returns : goal.returns
returns c = λ evaluations.
    deed_made c.args.answer c.in_ok-writes.writes c.in_ok-line.line c.in_ok-name.name c.in_ok-beside.beside _ c.args.stats evaluations
    c.in_ok-name.ensures c.in_ok-beside.ensures c.in_ok-line.ensures c.in_ok-writes.ensures
