-- Laws above the definition of the table.
use Rattle.std.specs.Prelude.{◌≡◌, ◌+◌, ◌++◌, ℕ, List, codes}
use Rattle.tx_generate.specs.Generated.{rows}

-- tables of two seeds, as PCG's reference code draws them
abbrev pub Examples : Type 0
Examples =
    (rows 0 0 ≡ codes "id,qty,price,note\n")
    × (rows 1 3 ≡ codes "id,qty,price,note\n1,574,214,n0\n2,,235,n4\n3,784,712,n0\n")

-- a table with fewer rows of the same seed is the beginning of one with more
abbrev pub FewerRowsStandInFront : Type 0
FewerRowsStandInFront = (seed count more : ℕ) → (behind : List ℕ) × (rows seed (count + more) ≡ rows seed count ++ behind)
