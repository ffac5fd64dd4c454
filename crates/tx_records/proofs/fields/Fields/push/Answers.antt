use Rattle.std.proofs.Common.{◌≡◌, ◌+◌, ◌++◌, ◌∷◌, [], length, rules, true, arith}
use Rattle.std.specs.Result.{is_ok}
use Rattle.tx_records.proofs.FieldsLemmas.{pushed, pushed_last, pushed_rising}
use Rattle.tx_records.proofs.fields.Fields.push.Goals as goal

pub invariant_of-self-else-is_err : goal.invariant_of-self-else-is_err
invariant_of-self-else-is_err c =
    let good : is_ok c.push.result ≡ true = search rules in
    let ends : c.push.new.self.items ≡ c.self.inside.ends.items ++ c.in-Some.end ∷ [] = rw good at c.push.ensures.items in
    let grown : c.extend_from_slice.new.self.items ≡ c.self.inside.bytes.items ++ c.args.field.now = c.in_ok-extend_from_slice.ensures.items in
    let size : c.in-Some.end ≡ length c.self.inside.bytes.items + length c.args.field.now = omega (arith, c.in-Some.ensures, c.len-start.ensures, c.self.inside.bytes.ok.0) in
    rw (ends, grown) (
      pushed_rising c.self.inside.ends.items c.self.inside.bytes.items c.args.field.now c.in-Some.end c.self.invariant.0 size,
      pushed_last c.self.inside.ends.items c.self.inside.bytes.items c.args.field.now c.in-Some.end size,
    )

pub returns-clause-ok : goal.returns-clause-ok
returns-clause-ok c =
    let good : is_ok c.push.result ≡ true = search rules in
    let ends : c.push.new.self.items ≡ c.self.inside.ends.items ++ c.in-Some.end ∷ [] = rw good at c.push.ensures.items in
    let grown : c.extend_from_slice.new.self.items ≡ c.self.inside.bytes.items ++ c.args.field.now = c.in_ok-extend_from_slice.ensures.items in
    let size : c.in-Some.end ≡ length c.self.inside.bytes.items + length c.args.field.now = omega (arith, c.in-Some.ensures, c.len-start.ensures, c.self.inside.bytes.ok.0) in
    rw (← c.self.view_is, ends, grown) (pushed c.self.inside.ends.items c.self.inside.bytes.items c.args.field.now c.in-Some.end c.self.invariant.0 c.self.invariant.1 size)
