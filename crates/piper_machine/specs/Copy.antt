-- A call that copies bytes between the pipe and a slice, run whole.
use Rattle.std.specs.Prelude.{ℕ, ◌+◌, ◌-◌, min, List, [], ◌∷◌, ◌++◌, take, drop, length, Bool, true, false, Option, None, Some, if◌then◌else◌, ◌==◌}
use Rattle.piper_machine.specs.Types.{Polled, Context, Pending, Ready, Memory}
use Rattle.piper_protocol.specs.Index.{offset_of}
use Rattle.piper_machine.specs.Pipe.{Pipe, begun}
use Rattle.piper_machine.specs.Look.{reader_look, writer_look}
use Rattle.piper_machine.specs.Move.{with_waker}

-- what a copying call returns, and the pipe that it leaves
pub record Copied (A : Type 0) : Type 0 where
  pub answer : Polled A
  pub pipe : Pipe

abbrev pub answered : {A : Type 0} → Polled A → Pipe → Copied A
answered answer p = record { answer = answer; pipe = p }

-- a yield: the caller's own waker is called, if its clone is granted, and no byte moves
abbrev pub yield_answer : {A : Type 0} → Bool → Polled A
yield_answer false = Memory
yield_answer true = Pending

abbrev pub yield_pipe : Bool → ℕ → Pipe → Pipe
yield_pipe false waker p = p
yield_pipe true waker p = record p { woken = p.woken ++ waker ∷ [] }

abbrev pub yielded : {A : Type 0} → Bool → ℕ → Pipe → Copied A
yielded granted waker p = answered (yield_answer granted) (yield_pipe granted waker p)

-- whether the draw was 0
abbrev pub drawn : {A : Type 0} → Bool → Context → (Pipe → Copied A) → Pipe → Copied A
drawn true cx moves p = yielded cx.luck.yield_granted cx.waker p
drawn false cx moves p = moves p

abbrev pub moved_unless_drawn : {A : Type 0} → Option Context → (Pipe → Copied A) → Pipe → Copied A
moved_unless_drawn None moves p = moves p
moved_unless_drawn (Some cx) moves p = drawn (cx.luck.draw == 0) cx moves p

-- what follows a look: `moves` where it was true, the answer `none` at an end
abbrev pub copied_after : {A : Type 0} →
    Option Context → A → (Pipe → Copied A) → Polled Bool → Pipe → Copied A
copied_after cx none moves (Ready true) p = moved_unless_drawn cx moves p
copied_after cx none moves (Ready false) p = answered (Ready none) p
copied_after cx none moves Pending p = answered Pending p
copied_after cx none moves Memory p = answered Memory p

-- the waker that is left where so many bytes moved, and the names called
abbrev pub waker_after : ℕ → Option ℕ → Option ℕ
waker_after count waker = if count == 0 then waker else None

abbrev pub woken_after : ℕ → List ℕ → Option ℕ → List ℕ
woken_after count names waker = if count == 0 then names else with_waker names waker

-- these bytes are published, and the reader is woken if there is one
abbrev pub filled : List ℕ → Pipe → Pipe
filled bytes p =
    record p {
      unread = p.unread ++ bytes;
      room = p.room - length bytes;
      lent = [];
      reader_waker = waker_after (length bytes) p.reader_waker;
      woken = woken_after (length bytes) p.woken p.reader_waker;
    }

-- the first n bytes are consumed, and the writer is woken if n is not 0
abbrev pub drained : ℕ → Pipe → Pipe
drained n p =
    record p {
      unread = drop n p.unread;
      known = p.known - n;
      start = offset_of p.capacity (p.start + n);
      writer_waker = waker_after n p.writer_waker;
      woken = woken_after n p.woken p.writer_waker;
    }

-- as many of the first bytes as there is known room
abbrev pub fill_moves : List ℕ → Pipe → Copied ℕ
fill_moves bytes p =
    let n = min (length bytes) p.room in answered (Ready n) (filled (take n bytes) p)

-- as many of the first known bytes as fit
abbrev pub drain_moves : ℕ → Pipe → Copied ℕ
drain_moves size p = let n = min size p.known in answered (Ready n) (drained n p)

-- a fill ends with nothing lent, whatever it returns
abbrev pub unlent : Pipe → Pipe
unlent p = record p { lent = [] }

abbrev pub fill : Option Context → List ℕ → Pipe → Copied ℕ
fill cx bytes p =
    let look = writer_look cx (unlent (begun p)) in
    copied_after cx 0 (fill_moves bytes) look.answer look.pipe

abbrev pub drain : Option Context → ℕ → Pipe → Copied ℕ
drain cx size p =
    let look = reader_look cx (begun p) in
    copied_after cx 0 (drain_moves size) look.answer look.pipe

-- the try forms answer a count: 0 where there was nothing to move
abbrev pub count_of : Polled ℕ → ℕ
count_of (Ready n) = n
count_of Pending = 0
count_of Memory = 0

abbrev pub try_fill : List ℕ → Pipe → Copied ℕ
try_fill = fill None

abbrev pub try_drain : ℕ → Pipe → Copied ℕ
try_drain = drain None
