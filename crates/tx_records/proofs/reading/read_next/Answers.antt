use Rattle.std.proofs.Common.{◌∙◌, inl}
use Rattle.csv.specs.Records.{fields_of}
use Rattle.tx_records.proofs.ReadingLemmas.{reads_none, reads_one}
use Rattle.tx_records.proofs.reading.read_next.Goals as goal

pub returns-clause-stands : goal.returns-clause-stands
returns-clause-stands c = λ t.
    let read = rw t at (c.in-Ok.ensures.reads c.requires.no_trim c.requires.ready) in
    record {
      no_trim = read.3 ∙ c.requires.no_trim;
      ready = inl (c.in-Ok.ensures.ready c.requires.no_trim);
      known = (reads_one c.args.reader.now c.read_byte_record.new.self (fields_of c.read_byte_record.new.row) c.requires read).known;
    }

pub returns-clause-next : goal.returns-clause-next
returns-clause-next c = λ t.
    let read = rw t at (c.in-Ok.ensures.reads c.requires.no_trim c.requires.ready) in
    (reads_one c.args.reader.now c.read_byte_record.new.self (fields_of c.read_byte_record.new.row) c.requires read).next

pub returns-clause-end : goal.returns-clause-end
returns-clause-end c = λ t.
    let read = rw t at (c.in-Ok.ensures.reads c.requires.no_trim c.requires.ready) in
    reads_none c.args.reader.now c.read_byte_record.new.self (fields_of c.read_byte_record.new.row) c.requires read
