-- Disjoint places: what the reader holds and what the writer holds
-- share no place, and the writer leaves what the reader holds.
use Rattle.std.specs.Prelude.{◌≡◌, ℕ, take}
use Rattle.piper_machine.specs.Types.{Step, Writer, Begin, Go, Put}
use Rattle.piper_machine.specs.Call.{side_of}
use Rattle.piper_machine.specs.Pipe.{Pipe}
use Rattle.piper_machine.specs.Places.{HeldByReader, HeldByWriter}

abbrev pub IsDisjoint : Pipe → Type 0
IsDisjoint p = (place : ℕ) → HeldByReader p place → HeldByWriter p place → ⊥

-- the known bytes are as they were, at the same places
pub record KeepsKnown (old new : Pipe) : Type 0 where
  pub capacity : new.capacity ≡ old.capacity
  pub start : new.start ≡ old.start
  pub known : new.known ≡ old.known
  pub bytes : take old.known new.unread ≡ take old.known old.unread

-- a step of the writer
abbrev pub IsWriterStep : Step → Type 0
IsWriterStep (Begin c) = side_of c ≡ Writer
IsWriterStep (Go side) = side ≡ Writer
IsWriterStep (Put offset byte) = Unit {0}
