-- A write that failed has taken no byte.
use Rattle.piper_transfer.proofs.Sides.{poured_kept, poured_none}
use Rattle.piper_transfer.proofs.draining.write_chunk.Goals as goal

pub returns-in_err-count-clause-poured : goal.returns-in_err-count-clause-poured
returns-in_err-count-clause-poured g c =
    let contents = g.D.Destination.contents in
    let took = g.D.Destination.took in
    poured_kept contents took c.args.dest.now c.args.dest.now c.write_patiently.new.dest c.args.reader.now.side.end c.args.reader.now.side.end
    (poured_none contents took c.args.dest.now c.args.reader.now.side.end) c.in_err-count.ensures.bytes c.in_err-count.ensures.taken
