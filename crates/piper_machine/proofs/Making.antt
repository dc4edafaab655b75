-- A step of a side is its access, and then where the call table leads by what that found.
use Rattle.std.proofs.Common.{◌≡◌, ◌≤◌, ℕ, List, length, false, true, arith}
use Rattle.piper_machine.specs.Types.{Action, WritePoint, Reader, Writer}
use Rattle.piper_protocol.specs.Table.{moved_in, publishes, write_action}
use Rattle.piper_machine.specs.Action.{found_by, performed}
use Rattle.piper_machine.specs.Pipe.{Pipe}
use Rattle.piper_machine.specs.Step.{MayOffer, drain_answer, drain_left, offering, reader_stepped, round_answer, round_left, went}

pub record ReaderMakes (action : Action) (p : Pipe) : Type 0 where
  pub after : drain_left (found_by Reader action p) (performed Reader action p) ≡ (reader_stepped action p).pipe
  pub answer_is : drain_answer (found_by Reader action p) (performed Reader action p) ≡ (reader_stepped action p).answer
  pub stays : (performed Reader action p).reader ≡ p.reader

pub reader-makes : (action : Action) (p : Pipe) → ReaderMakes action p
reader-makes action p = grind arith

pub record WriterMakes (point : WritePoint) (p : Pipe) : Type 0 where
  pub after : (lent : List ℕ) → round_left (found_by Writer (write_action point) p) (performed Writer (write_action point) p) ≡ (went Writer (offering lent p)).pipe
  pub answer_is : (lent : List ℕ) → round_answer (found_by Writer (write_action point) p) (performed Writer (write_action point) p) ≡ (went Writer (offering lent p)).answer
  pub may : (lent : List ℕ) → MayOffer point p.source lent p
  pub stays : (performed Writer (write_action point) p).writer ≡ p.writer
  pub publishes_none : publishes point ≡ false
  pub within : moved_in (found_by Writer (write_action point) p) ≤ length (performed Writer (write_action point) p).lent

pub writer-makes : (p : Pipe) → (write_action p.writer ≡ Action.LoadIndex → ⊥) → ((n : ℕ) → write_action p.writer ≡ Action.StoreTail n → ⊥) → (write_action p.writer ≡ Action.StoreClosed true → ⊥) → (write_action p.writer ≡ Action.CallSource → ⊥) → WriterMakes p.writer p
writer-makes p = grind arith
