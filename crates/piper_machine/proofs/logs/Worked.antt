-- Pairs of logs that may be, one pair as handles note it, and others that may not.
use Rattle.std.proofs.Common.{◌≡◌, List, [], ◌∷◌, true, false, None, Some, refl, arith}
use Rattle.piper_machine.specs.Types.{AfterRead, Found, ReadPoint, Try, WritePoint, Reader, Writer}
use Rattle.piper_protocol.specs.declared.log.Note.{Note}
use Rattle.piper_protocol.specs.declared.table.Point.{Point}
use Rattle.piper_protocol.specs.declared.table.Purpose.TheVariants.{Poll, Copy}
use Rattle.piper_protocol.specs.Lines as handle
use Rattle.piper_protocol.specs.OneList as shared
use Rattle.piper_protocol.specs.Told.{AreTrueLogs, are_calls, are_told, have_met, moved_in, seen_in, shut_in, tickets_in, waits_in}
use Rattle.piper_machine.specs.logs.Line.{Line, polls, try_drains_with, poll_drains_bytes, poll_drains, consumes, try_fills, try_fills_with, poll_fills, produces, closes, drops, began, loaded_head, loaded_tail, loaded_closed, stored_head, stored_tail, stored_closed, loaded_slot, swapped, met_tail, knew_empty, took, gave, failed, drew, refused, yielded, woke}
use Rattle.piper_machine.specs.logs.OfHandles.{lines_in}
use Rattle.piper_machine.specs.logs.OneList.{AreInOrder, By, by, did, is_access, kept_if}
use Rattle.piper_machine.specs.logs.OneRun.{AreLogs}
use Rattle.piper_machine.specs.logs.Reading.{AreReaderRuns}
use Rattle.piper_machine.specs.logs.Writing.{AreWriterRuns}
use Rattle.piper_machine.specs.logs.Worked.{fill_and_drain, wait_again, wait_and_wake}
use Rattle.piper_machine.specs.logs.Wide.{goes_beyond}

abbrev accessed : List (By Line) → List (By Line)
accessed [] = []
accessed (by side line ∷ before) = kept_if (is_access line) (by side line) (accessed before)

filled-order : AreInOrder (accessed fill_and_drain)
filled-order = search

filled-reader : AreReaderRuns 4 (did Reader fill_and_drain)
filled-reader = search arith

filled-writer : AreWriterRuns 4 (did Writer fill_and_drain)
filled-writer = search arith

pub filled : AreLogs 4 (did Reader fill_and_drain) (did Writer fill_and_drain)
filled = record { some = omega arith; list = (accessed fill_and_drain, filled-order, refl, refl); reads = filled-reader; writes = filled-writer }

woken-order : AreInOrder (accessed wait_and_wake)
woken-order = search

woken-reader : AreReaderRuns 4 (did Reader wait_and_wake)
woken-reader = search

woken-writer : AreWriterRuns 4 (did Writer wait_and_wake)
woken-writer = search arith

pub woken : AreLogs 4 (did Reader wait_and_wake) (did Writer wait_and_wake)
woken = record { some = omega arith; list = (accessed wait_and_wake, woken-order, refl, refl); reads = woken-reader; writes = woken-writer }

again-order : AreInOrder (accessed wait_again)
again-order = search

again-reader : AreReaderRuns 4 (did Reader wait_again)
again-reader = search arith

again-writer : AreWriterRuns 4 (did Writer wait_again)
again-writer = search arith

pub again : AreLogs 4 (did Reader wait_again) (did Writer wait_again)
again = record { some = omega arith; list = (accessed wait_again, again-order, refl, refl); reads = again-reader; writes = again-writer }

-- a waker that is taken out before a registration goes beyond the machine
again-beyond : goes_beyond Reader 4 (did Reader wait_again) ≡ true
again-beyond = refl

-- one call of each kind

drains : AreReaderRuns 4 (took [] ∷ woke 3 ∷ swapped Writer (Some 3) None ∷ loaded_slot Writer true ∷ stored_head (5 ∷ []) ∷ took (5 ∷ []) ∷ knew_empty ∷ drew false ∷ loaded_tail 2 ∷ began (poll_drains 9) ∷ [])
drains = search arith

yields : AreReaderRuns 4 (yielded 9 ∷ swapped Reader None None ∷ drew true ∷ loaded_tail 2 ∷ began (poll_drains_bytes 9 4) ∷ [])
yields = search arith

finds_end : AreReaderRuns 4 (loaded_tail 0 ∷ loaded_closed true ∷ swapped Reader None (Some 7) ∷ loaded_tail 0 ∷ began (polls 7) ∷ [])
finds_end = search arith

-- the second poll knows of the byte that the first one found
polls_twice : AreReaderRuns 4 (knew_empty ∷ began (polls 8) ∷ loaded_slot Reader false ∷ loaded_tail 1 ∷ began (polls 7) ∷ [])
polls_twice = search arith

-- a meet taught it of two bytes, and so it loads none
polls_after_meet : AreReaderRuns 4 (knew_empty ∷ began (polls 7) ∷ met_tail 2 ∷ [])
polls_after_meet = search arith

-- its own destination takes one of two bytes, and then fails
drains_with : AreReaderRuns 4 (failed ∷ loaded_slot Writer false ∷ stored_head (5 ∷ []) ∷ took (5 ∷ []) ∷ loaded_tail 2 ∷ began try_drains_with ∷ [])
drains_with = search arith

wants_memory : AreReaderRuns 4 (refused ∷ loaded_tail 0 ∷ began (polls 7) ∷ [])
wants_memory = search arith

-- a registration over a waker of an earlier poll, which may have been taken meanwhile

looks_again : AreReaderRuns 4 (swapped Reader None (Some 8) ∷ loaded_slot Reader false ∷ loaded_tail 0 ∷ began (polls 8) ∷ loaded_tail 0 ∷ loaded_closed false ∷ swapped Reader None (Some 7) ∷ loaded_tail 0 ∷ began (polls 7) ∷ [])
looks_again = search arith

replaces : AreReaderRuns 4 (swapped Reader (Some 7) (Some 8) ∷ loaded_slot Reader true ∷ loaded_tail 0 ∷ began (polls 8) ∷ loaded_tail 0 ∷ loaded_closed false ∷ swapped Reader None (Some 7) ∷ loaded_tail 0 ∷ began (polls 7) ∷ [])
replaces = search arith

-- if none was there, that is no more than the machine does
abbrev finds_none : List Line
finds_none =
    refused ∷ swapped Writer None None ∷ loaded_slot Writer true ∷ loaded_head 0 ∷ loaded_closed false ∷ began (polls 4)
    ∷ loaded_closed false ∷ loaded_head 0 ∷ swapped Writer None (Some 3) ∷ loaded_head 0 ∷ loaded_closed false ∷ began (polls 3)
    ∷ loaded_slot Reader false ∷ stored_tail (5 ∷ []) ∷ began (produces (5 ∷ [])) ∷ []

wants_memory_again : AreWriterRuns 1 finds_none
wants_memory_again = search arith

not_beyond : goes_beyond Writer 1 finds_none ≡ false
not_beyond = refl

leaves : AreReaderRuns 4 (loaded_slot Writer false ∷ stored_closed ∷ began drops ∷ [])
leaves = search arith

consumes_one : AreReaderRuns 4 (loaded_slot Writer false ∷ stored_head (5 ∷ []) ∷ began (consumes (5 ∷ [])) ∷ knew_empty ∷ loaded_tail 1 ∷ began (polls 7) ∷ [])
consumes_one = search arith

waits_for_room : AreWriterRuns 1
    (loaded_closed false ∷ loaded_head 0 ∷ swapped Writer None (Some 3) ∷ loaded_head 0 ∷ loaded_closed false ∷ began (polls 3)
    ∷ gave [] ∷ loaded_slot Reader false ∷ stored_tail (5 ∷ []) ∷ loaded_closed false ∷ gave (5 ∷ []) ∷ loaded_closed false ∷ began (try_fills (5 ∷ 6 ∷ [])) ∷ [])
waits_for_room = search arith

source_fails : AreWriterRuns 4 (failed ∷ knew_empty ∷ drew false ∷ loaded_closed false ∷ began (poll_fills 3) ∷ [])
source_fails = search arith

shuts : AreWriterRuns 4 (knew_empty ∷ woke 7 ∷ swapped Reader (Some 7) None ∷ stored_closed ∷ began closes ∷ [])
shuts = search arith

-- a poll, its two bytes and a second poll, which waits, and a fill without a context, as handles note them

abbrev read_by_handle : List handle.Line
read_by_handle =
    handle.note (Note.Told (Found.IndexLoaded true)) ∷ handle.access (shared.loaded_tail 2)
    ∷ handle.note (Note.Told (Found.Flag false)) ∷ handle.access (shared.loaded_closed false)
    ∷ handle.note (Note.Told (Found.Granted true)) ∷ handle.access (shared.swapped Reader None (Some 1))
    ∷ handle.note (Note.Told (Found.IndexLoaded true)) ∷ handle.access (shared.loaded_tail 2) ∷ handle.note (Note.Began (Point.Reader (ReadPoint.LookTail Poll)))
    ∷ handle.note (Note.Told (Found.Waker false)) ∷ handle.access (shared.loaded_slot Writer false)
    ∷ handle.note (Note.Told Found.Nothing) ∷ handle.access (shared.stored_head (5 ∷ 6 ∷ [])) ∷ handle.note (Note.Began (Point.Reader (ReadPoint.StoreHead 2 AfterRead.Answer)))
    ∷ handle.note (Note.Made Found.Nothing) ∷ handle.note (Note.Told (Found.IndexLoaded false)) ∷ handle.access (shared.loaded_tail 2) ∷ handle.note (Note.Began (Point.Reader (ReadPoint.LookTail Poll))) ∷ []

abbrev written_by_handle : List handle.Line
written_by_handle =
    handle.note (Note.Made (Found.Moved 0))
    ∷ handle.note (Note.Told (Found.Waker false)) ∷ handle.access (shared.loaded_slot Reader false)
    ∷ handle.note (Note.Told Found.Nothing) ∷ handle.access (shared.stored_tail (5 ∷ 6 ∷ []))
    ∷ handle.note (Note.Told (Found.Flag false)) ∷ handle.access (shared.loaded_closed false) ∷ handle.note (Note.Made (Found.Moved 2))
    ∷ handle.note (Note.ClosedLoaded false false) ∷ handle.access (shared.loaded_closed false) ∷ handle.note (Note.Began (Point.Writer (WritePoint.LookClosed (Copy Try)))) ∷ []

abbrev shared_by_handles : List (shared.By shared.Access)
shared_by_handles =
    shared.by Reader (shared.loaded_tail 2) ∷ shared.by Reader (shared.loaded_closed false) ∷ shared.by Reader (shared.swapped Reader None (Some 1)) ∷ shared.by Reader (shared.loaded_tail 2)
    ∷ shared.by Reader (shared.loaded_slot Writer false) ∷ shared.by Reader (shared.stored_head (5 ∷ 6 ∷ [])) ∷ shared.by Reader (shared.loaded_tail 2)
    ∷ shared.by Writer (shared.loaded_slot Reader false) ∷ shared.by Writer (shared.stored_tail (5 ∷ 6 ∷ [])) ∷ shared.by Writer (shared.loaded_closed false) ∷ shared.by Writer (shared.loaded_closed false) ∷ []

by_handles : AreTrueLogs 4 read_by_handle written_by_handle (5 ∷ 6 ∷ []) (5 ∷ 6 ∷ [])
unfolding are_told are_calls moved_in seen_in shut_in tickets_in waits_in
by_handles = record {
  some = omega arith;
  reads = record { told = refl; calls = refl; settled = refl; bytes = refl };
  writes = record { told = refl; calls = refl; settled = refl; bytes = refl };
  list = (shared_by_handles, search arith, refl, refl);
  rest = [];
  order = refl;
}

not_met : (have_met read_by_handle ≡ false) × (have_met written_by_handle ≡ false)
unfolding have_met
not_met = (refl, refl)

lines_read : lines_in Reader read_by_handle
    ≡ loaded_tail 2 ∷ loaded_closed false ∷ swapped Reader None (Some 1) ∷ loaded_tail 2 ∷ began (polls 1)
    ∷ loaded_slot Writer false ∷ stored_head (5 ∷ 6 ∷ []) ∷ began (consumes (5 ∷ 6 ∷ [])) ∷ knew_empty ∷ loaded_tail 2 ∷ began (polls 1) ∷ []
unfolding tickets_in
lines_read = refl

lines_written : lines_in Writer written_by_handle
    ≡ gave [] ∷ loaded_slot Reader false ∷ stored_tail (5 ∷ 6 ∷ []) ∷ loaded_closed false ∷ gave (5 ∷ 6 ∷ []) ∷ loaded_closed false ∷ began try_fills_with ∷ []
unfolding tickets_in
lines_written = refl

-- a byte is found before it is published
early : AreInOrder (by Writer (stored_tail (5 ∷ [])) ∷ by Reader (loaded_tail 1) ∷ []) → ⊥
early order = grind arith

-- a byte is consumed that is not the one that was published
changed : AreInOrder (by Reader (stored_head (6 ∷ [])) ∷ by Writer (stored_tail (5 ∷ [])) ∷ []) → ⊥
changed order = grind arith

-- a slot is found empty in which a waker is
missed : AreInOrder (by Writer (loaded_slot Reader false) ∷ by Reader (swapped Reader None (Some 7)) ∷ []) → ⊥
missed order = grind arith

-- another waker is taken than the one that is there
other_taken : AreInOrder (by Writer (swapped Reader (Some 8) None) ∷ by Reader (swapped Reader None (Some 7)) ∷ []) → ⊥
other_taken order = grind arith

-- no line may be left out, made twice, or in another place

tail_twice : AreReaderRuns 4 (loaded_tail 0 ∷ loaded_tail 0 ∷ began (polls 7) ∷ []) → ⊥
tail_twice runs = grind arith

head_first : AreWriterRuns 4 (loaded_closed false ∷ loaded_head 0 ∷ began (polls 7) ∷ []) → ⊥
head_first runs = grind arith

stored_in_two : AreWriterRuns 4 (stored_tail (6 ∷ []) ∷ stored_tail (5 ∷ []) ∷ began (produces (5 ∷ 6 ∷ [])) ∷ []) → ⊥
stored_in_two runs = grind arith

closed_unseen : AreWriterRuns 4 (stored_tail (5 ∷ []) ∷ gave (5 ∷ []) ∷ loaded_closed false ∷ began (try_fills (5 ∷ [])) ∷ []) → ⊥
closed_unseen runs = grind arith

-- after the last look, and so too late
registers_last : AreReaderRuns 4 (swapped Reader None (Some 7) ∷ loaded_tail 0 ∷ loaded_closed false ∷ loaded_tail 0 ∷ began (polls 7) ∷ []) → ⊥
registers_last runs = grind arith

withdraws_late : AreReaderRuns 4 (swapped Reader (Some 7) None ∷ swapped Reader None (Some 7) ∷ loaded_tail 0 ∷ began (polls 7) ∷ []) → ⊥
withdraws_late runs = grind arith

-- where no waker of its own can be
withdraws_nothing : AreReaderRuns 4 (swapped Reader None None ∷ loaded_tail 0 ∷ began (polls 7) ∷ []) → ⊥
withdraws_nothing runs = grind arith

-- the other side's
withdraws_other : AreReaderRuns 4 (swapped Writer (Some 3) None ∷ loaded_tail 0 ∷ began (polls 8) ∷ loaded_tail 0 ∷ loaded_closed false ∷ swapped Reader None (Some 7) ∷ loaded_tail 0 ∷ began (polls 7) ∷ []) → ⊥
withdraws_other runs = grind arith

-- a waker that was withdrawn is not called
withdrawn_woken : AreReaderRuns 4 (woke 7 ∷ swapped Reader (Some 7) None ∷ loaded_tail 0 ∷ began (polls 8) ∷ loaded_tail 0 ∷ loaded_closed false ∷ swapped Reader None (Some 7) ∷ loaded_tail 0 ∷ began (polls 7) ∷ []) → ⊥
withdrawn_woken runs = grind arith

other_waker : AreReaderRuns 4 (swapped Reader None (Some 8) ∷ loaded_tail 0 ∷ began (polls 7) ∷ []) → ⊥
other_waker runs = grind arith

left_in_slot : AreReaderRuns 4 (began (consumes (5 ∷ [])) ∷ loaded_tail 1 ∷ began (polls 7) ∷ []) → ⊥
left_in_slot runs = grind arith

passed_over : AreReaderRuns 4 (knew_empty ∷ loaded_tail 1 ∷ swapped Reader None (Some 7) ∷ loaded_tail 0 ∷ began (polls 7) ∷ []) → ⊥
passed_over runs = grind arith

not_woken : AreWriterRuns 4 (began closes ∷ swapped Reader (Some 7) None ∷ stored_tail (5 ∷ []) ∷ began (produces (5 ∷ [])) ∷ []) → ⊥
not_woken runs = grind arith

slot_unseen : AreWriterRuns 4 (began closes ∷ stored_tail (5 ∷ []) ∷ began (produces (5 ∷ [])) ∷ []) → ⊥
slot_unseen runs = grind arith

taken_twice : AreReaderRuns 4 (stored_head (5 ∷ []) ∷ stored_head (5 ∷ []) ∷ began (consumes (5 ∷ [])) ∷ []) → ⊥
taken_twice runs = grind arith

after_drop : AreReaderRuns 4 (began (polls 7) ∷ loaded_slot Writer false ∷ stored_closed ∷ began drops ∷ []) → ⊥
after_drop runs = grind arith

-- inside a call
meets_inside : AreReaderRuns 4 (met_tail 1 ∷ loaded_tail 0 ∷ began (polls 7) ∷ []) → ⊥
meets_inside runs = grind arith
