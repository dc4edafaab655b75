-- The state of a pipe, as every contract sees it: a list of bytes, two known counts, and no buffer.
use Rattle.std.specs.Prelude.{ℕ, List, [], Bool, false, Option, None}
use Rattle.piper_machine.specs.Types.{OpenCall, SourceAct, Destination, ReadPoint, WritePoint, Slice}
use Rattle.piper_machine.specs.Open.{no_call}

pub record Pipe : Type 0 where
  pub capacity : ℕ
  -- the bytes published and not yet consumed, oldest first
  pub unread : List ℕ
  -- the place in the buffer of the first unread byte
  pub start : ℕ
  -- how many unread bytes the reader knows of
  pub known : ℕ
  -- how many free places the writer knows of
  pub room : ℕ
  -- what is left of the slice last lent to the writer
  pub lent : List ℕ
  -- one side was dropped, or the writer closed
  pub is_closed : Bool
  -- the writer itself closed
  pub is_shut : Bool
  pub reader_waker : Option ℕ
  pub writer_waker : Option ℕ
  -- the wakers called by the last whole call, oldest first
  pub woken : List ℕ
  -- where each side is inside its open call, and what that call holds
  pub reader : ReadPoint
  pub reader_call : OpenCall
  pub writer : WritePoint
  pub writer_call : OpenCall
  -- what is left for an open drain to fill, and for an open fill to give
  pub destination : Destination
  pub source : List SourceAct

-- a pipe as it is made
abbrev pub fresh : ℕ → Pipe
fresh capacity = record {
  capacity = capacity;
  unread = [];
  start = 0;
  known = 0;
  room = capacity;
  lent = [];
  is_closed = false;
  is_shut = false;
  reader_waker = None;
  writer_waker = None;
  woken = [];
  reader = ReadPoint.Idle;
  reader_call = no_call;
  writer = WritePoint.Idle;
  writer_call = no_call;
  destination = Slice 0;
  source = [];
}

-- a whole call begins: it has called no waker yet
abbrev pub begun : Pipe → Pipe
begun p = record p { woken = [] }
