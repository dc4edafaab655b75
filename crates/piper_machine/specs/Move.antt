-- Bytes go in and out, and a waker is called.
use Rattle.std.specs.Prelude.{ℕ, ◌+◌, ◌-◌, List, [], ◌∷◌, ◌++◌, take, drop, Option, Some, None}
use Rattle.piper_protocol.specs.Index.{offset_of}
use Rattle.piper_machine.specs.Pipe.{Pipe}

-- the names called so far, and that of the waker found in a slot
abbrev pub with_waker : List ℕ → Option ℕ → List ℕ
with_waker names None = names
with_waker names (Some name) = names ++ name ∷ []

-- a wake empties the slot and calls what it held
abbrev pub reader_woken : Pipe → Pipe
reader_woken p = record p { reader_waker = None; woken = with_waker p.woken p.reader_waker }

abbrev pub writer_woken : Pipe → Pipe
writer_woken p = record p { writer_waker = None; woken = with_waker p.woken p.writer_waker }

-- the first n bytes of what is lent, as they are now, become unread bytes
abbrev pub published : ℕ → Pipe → Pipe
published n p =
    record p { unread = p.unread ++ take n p.lent; room = p.room - n; lent = drop n p.lent }

-- the first n unread bytes are given up, and their places become free
abbrev pub consumed : ℕ → Pipe → Pipe
consumed n p = record p {
  unread = drop n p.unread;
  known = p.known - n;
  start = offset_of p.capacity (p.start + n);
}

abbrev pub produce : ℕ → Pipe → Pipe
produce n p = reader_woken (published n p)

abbrev pub consume : ℕ → Pipe → Pipe
consume n p = writer_woken (consumed n p)
