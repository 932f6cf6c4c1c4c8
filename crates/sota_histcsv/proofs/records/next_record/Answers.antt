use Rattle.sota_histcsv.proofs.Reading.{taken}
use Rattle.sota_histcsv.proofs.records.next_record.Goals as goal
use Rattle.sota_histcsv.proofs.records.next_record.Goals.{in-Ok, in-Err}

pub returns : goal.returns
returns c left leaves =
    elim c.match-read_byte_record.branch [
      | in-Ok w ↦
          rw w.result-is
          (taken c.args.reader.now c.read_byte_record.new.self w.in-Ok.found _ left leaves (w.in-Ok.ensures.reads leaves.trim leaves.ready) (w.in-Ok.ensures.ready leaves.trim))
      | in-Err w ↦ rw w.result-is tt
    ]
