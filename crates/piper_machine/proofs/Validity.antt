-- What a side that runs alone depends on, and that its steps keep it.
use Rattle.std.proofs.Common.{◌≡◌, ℕ, ◌<◌, ◌≤◌, List, length, Bool, true, false, Option, None, Some, arith}
use Rattle.std.proofs.lemmas.Grind.{common_steps}
use Rattle.piper_machine.specs.Types.{AfterWrite, SideState, Answer, ReadPoint, WritePoint, Busy}
use Rattle.piper_protocol.specs.Table.{head_store}
use Rattle.piper_machine.specs.Pipe.{Pipe}
use Rattle.piper_machine.specs.Places.{peeked_count}
use Rattle.piper_machine.specs.Refusal.{reader_state, writer_state, cannot_go}
use Rattle.piper_machine.specs.Step.{MayOffer}
use Rattle.piper_machine.proofs.Alone.{read_step}
use Rattle.piper_machine.proofs.Copies.{WriterValid, fill_step}

-- a side that gave no answer goes on, and one that gave it rests
abbrev pub IsSettled : Option Answer → SideState → Type 0
IsSettled None state = state ≡ Busy
IsSettled (Some answer) state = cannot_go state ≡ None → ⊥

pub record ReaderValid (point : ReadPoint) (p : Pipe) : Type 0 where
  pub unread : length p.unread ≤ p.capacity
  pub start : p.start < p.capacity
  pub known : p.known ≤ length p.unread
  pub store : head_store point ≤ peeked_count p

pub reader-settled : (point : ReadPoint) (p : Pipe) → reader_state point ≡ Busy → let s = read_step point p in IsSettled s.answer (reader_state s.pipe.reader)
reader-settled point p busy = grind arith

pub reader-valid : (point : ReadPoint) (p : Pipe) → reader_state point ≡ Busy → ReaderValid point p → let s = read_step point p in ReaderValid s.pipe.reader s.pipe
reader-valid point p busy valid = grind (arith, common_steps)

-- the writer

-- a point that no call comes to: a close of both sides inside the round of a copy
abbrev pub closes_round : WritePoint → Bool
closes_round (WritePoint.StoreClosed (AfterWrite.Round form sum)) = true
closes_round point = false

pub writer-settled : (point : WritePoint) (lent : List ℕ) (p : Pipe) → writer_state point ≡ Busy → closes_round point ≡ false → let s = fill_step point lent p in IsSettled s.answer (writer_state s.pipe.writer)
writer-settled point lent p busy plain = grind arith

pub writer-valid : (point : WritePoint) (lent : List ℕ) (p : Pipe) → writer_state point ≡ Busy → closes_round point ≡ false → WriterValid point p → MayOffer point p.source lent (record p { writer = point })
    → let s = fill_step point lent p in WriterValid s.pipe.writer s.pipe × (closes_round s.pipe.writer ≡ false)
writer-valid point lent p busy plain valid may = grind (arith, common_steps)
