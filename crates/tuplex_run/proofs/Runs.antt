-- The deed of a run, from its parts.
use Rattle.std.proofs.Common.{◌≡◌, ◌∙◌, ◌+◌, ◌-◌, ℕ, Bool, List, [], ◌∷◌, Some, None, sym, ap, arith}
use Rattle.tx_names.specs.Scope.{Text}
use Rattle.tx_pipe.specs.declared.pipe.Node.{Node}
use Rattle.tx_pipe.specs.Pipe.{PipeNode, output_file, pipe_of}
use Rattle.tx_plain.specs.declared.plain.Answer as plain
use Rattle.tuplex_run.specs.Commands.{first_of, output_name, report_name, line_of, deed_with}

-- ---- the file that is written

pub output_met : {F : Type 0} (n : PipeNode F) (ns : List (PipeNode F)) (name : Text) → Some name ≡ output_file n.operation → output_name (n ∷ ns) ≡ name
output_met n ns name h = ap (λ o. first_of o (output_name ns)) (sym h)

pub output_passed : {F : Type 0} (n : PipeNode F) (ns : List (PipeNode F)) → None ≡ output_file n.operation → output_name (n ∷ ns) ≡ output_name ns
output_passed n ns h = ap (λ o. first_of o (output_name ns)) (sym h)

pub ruleset outputs = (output_met, output_passed)

-- ---- the deed

-- what the code made is the deed of the answer
pub deed_made : (answer : plain.Answer) (writes : List (List ℕ × List ℕ)) (line name beside target : List ℕ) (stats : Bool) (evaluations : ℕ)
    → name ≡ target → beside ≡ report_name name → line ≡ line_of answer.rows answer.reported → writes ≡ (name, answer.output) ∷ (beside, answer.report) ∷ []
    → record { writes = writes; line = line; stats = stats; rows = answer.rows; reported = answer.reported; evaluations = evaluations } ≡ deed_with target stats answer evaluations
deed_made answer writes line name beside target stats evaluations n b l w =
    let there : beside ≡ report_name target = b ∙ ap report_name n in
    let files : writes ≡ (target, answer.output) ∷ (report_name target, answer.report) ∷ [] = w ∙ (λ i. (n i, answer.output) ∷ (there i, answer.report) ∷ []) in
    λ i. record { writes = files i; line = l i; stats = stats; rows = answer.rows; reported = answer.reported; evaluations = evaluations }

rise : (s s' count : ℕ) → s' ≡ s + count → s' - s ≡ count
rise s s' count e = omega (arith, e)

-- with as many evaluations as were made
pub deed_is : (nodes pipe : List Node) (made answer : plain.Answer) (stats : Bool) (s s' count : ℕ) → nodes ≡ pipe → made ≡ answer → s' ≡ s + count
    → deed_with (output_name (pipe_of nodes)) stats made (s' - s) ≡ deed_with (output_name (pipe_of pipe)) stats answer count
deed_is nodes pipe made answer stats s s' count n m e = λ i. deed_with (output_name (pipe_of (n i))) stats (m i) (rise s s' count e i)
