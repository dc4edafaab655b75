-- Every step of a call brings its answer nearer: fewer steps remain.
use Rattle.std.proofs.Common.{◌≡◌, ℕ, ◌<◌, ◌≤◌, List, true, None, arith}
use Rattle.piper_machine.specs.Types.{ReadPoint, WritePoint, Busy}
use Rattle.piper_machine.specs.Pipe.{Pipe}
use Rattle.piper_machine.specs.Refusal.{reader_state, writer_state}
use Rattle.piper_machine.specs.Step.{MayOffer}
use Rattle.piper_machine.specs.Alone.{is_draining, is_filling}
use Rattle.piper_machine.proofs.Alone.{read_step, reads_left, writes_left}
use Rattle.piper_machine.proofs.Copies.{WriterValid, fill_step}
use Rattle.piper_machine.proofs.Validity.{ReaderValid}

pub drain-falls : (point : ReadPoint) (p : Pipe) → is_draining point ≡ true → ReaderValid point p → let s = read_step point p in s.answer ≡ None → reads_left s.pipe.reader s.pipe < reads_left point p
drain-falls point p drains valid goes = grind arith

pub reads-some : (point : ReadPoint) (p : Pipe) → reader_state point ≡ Busy → 1 ≤ reads_left point p
reads-some point p busy = grind arith

-- the writer

pub fill-falls : (point : WritePoint) (lent : List ℕ) (p : Pipe) → is_filling point ≡ true → WriterValid point p → MayOffer point p.source lent (record p { writer = point })
    → let s = fill_step point lent p in s.answer ≡ None → writes_left s.pipe.writer s.pipe < writes_left point p
fill-falls point lent p fills valid may goes = grind arith

pub writes-some : (point : WritePoint) (p : Pipe) → writer_state point ≡ Busy → 1 ≤ writes_left point p
writes-some point p busy = grind arith
