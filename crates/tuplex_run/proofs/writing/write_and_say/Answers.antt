use Rattle.std.proofs.Common.{ap, ◌∙◌}
use Rattle.tuplex_run.specs.Deed.{written}
use Rattle.tuplex_run.proofs.Writes.{whole_is_part}
use Rattle.tuplex_run.proofs.writing.write_and_say.Goals as goal

pub returns-in-Err-NoMemory-clause-stands : goal.returns-in-Err-NoMemory-clause-stands
returns-in-Err-NoMemory-clause-stands g c =
    let old = (g.P.Place.state c.args.place.now).held in
    λ t. whole_is_part c.args.run.now.writes old _ (c.in_default.ensures.held t ∙ ap (λ w. written w old) c.as_slice.ensures)
