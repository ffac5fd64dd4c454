-- The generated table: what is drawn for its rows, and their text.
use Rattle.std.specs.Prelude.{ℕ, zero, suc, ◌+◌, ◌%◌, ◌==◌, ◌++◌, List, [], if◌then◌else◌, codes, decimal}
use Rattle.rand_core.specs.Stream.{Stream, next_u32}
use Rattle.rand_core.specs.Steps.{stream_of, steps_u32}
use Rattle.rand_core.specs.Pcg32Seed.{pcg32_seed}
use Rattle.rand_pcg.specs.Pcg.{pcg32, pcg32_of_seed}
use Rattle.tx_generate.specs.declared.generated.Draw.{Draw}

-- the words that Pcg32 (O'Neill's PCG, XSH RR 64/32) draws when `seed_from_u64` has made it of the seed
abbrev pub stream_from : ℕ → Stream
stream_from seed = stream_of (steps_u32 pcg32) (pcg32_of_seed (pcg32_seed 16 seed))

-- three words a row, in this order, and the stream behind them
abbrev pub drawn : Stream → Draw × Stream
drawn stream =
    let a = next_u32 stream in
    let b = next_u32 a.1 in
    let k = next_u32 b.1 in
    (record { amount = a.0 % 1000; price = b.0 % 1000; kind = k.0 % 20 }, k.1)

abbrev pub head : List ℕ
head = codes "id,qty,price,note\n"

-- no quantity where the kind is 0, a text that is no number where it is 1, else the amount
abbrev pub quantity_text : Draw → List ℕ
quantity_text row = if row.kind == 0 then [] else (if row.kind == 1 then codes "x" ++ decimal row.amount else decimal row.amount)

-- the number of the row, its quantity, its price and a note, which is one of seven
abbrev pub row_text : ℕ → Draw → List ℕ
row_text number row =
    decimal number ++ (codes "," ++ (quantity_text row ++ (codes "," ++ (decimal row.price
    ++ (codes ",n" ++ (decimal (row.amount % 7) ++ codes "\n"))))))

-- so many rows, the first of which has this number
unfoldable pub rows_from : ℕ → ℕ → Stream → List ℕ
rows_from number zero stream = []
rows_from number (suc count) stream =
    row_text number (drawn stream).0 ++ rows_from (number + 1) count (drawn stream).1

-- the rows are numbered from 1
abbrev pub rows : ℕ → ℕ → List ℕ
rows seed count = head ++ rows_from 1 count (stream_from seed)
