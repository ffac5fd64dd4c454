use Rattle.std.proofs.Common.{◌++◌, map, option_to_list, OnOk, subst}
use Rattle.tx_script.specs.Calls.Counts.{Counts}
use Rattle.tx_script.proofs.uses.Uses.add_head.Goals as goal

pub returns-in-Some : goal.returns-in-Some
returns-in-Some c names counts = subst (λ o. OnOk c.add.result (Counts c.add.new.self.once c.add.new.self.twice (map (λ w. w.text) (option_to_list o) ++ names))) c.in-Some.ensures (c.add.ensures names counts)

pub returns-in-None : goal.returns-in-None
returns-in-None c names counts = subst (λ o. Counts c.args.self.now.once c.args.self.now.twice (map (λ w. w.text) (option_to_list o) ++ names)) c.in-None.ensures counts
