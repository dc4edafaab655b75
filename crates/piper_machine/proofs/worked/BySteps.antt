-- The same call run whole and made by steps, evaluated side by side.
use Rattle.std.specs.Prelude.{◌≡◌, ℕ, [], ◌∷◌, replicate, None, Some, refl}
use Rattle.piper_machine.specs.Types.{Answer, Call, Kind, Polled, Seen, SideState, Step, StepRefusal, Reader, Writer, Began, Consumed, Woken, Answered, Looked}
use Rattle.piper_machine.specs.declared.calls.Call as calls
use Rattle.piper_machine.specs.Pipe.{Pipe, fresh}
use Rattle.piper_machine.specs.Counts.{most_steps}
use Rattle.piper_machine.specs.Refusal.{refusal_of, state_of}
use Rattle.piper_machine.specs.BySteps.{whole, names_of, found_alone}
use Rattle.piper_machine.proofs.worked.Gone.{yielding, Gone, gone}

-- four bytes are unread, and the writer waits
abbrev full : Pipe
full = record (fresh 4) { unread = 1 ∷ 2 ∷ 3 ∷ 4 ∷ []; room = 0; writer_waker = Some 2 }

-- a call and so many steps of the reader
abbrev by_steps : ℕ → calls.Call → Gone
by_steps k c = gone (Step.Begin c ∷ replicate k (Step.Go Reader)) full

-- the drain wakes the writer in its one round, and its second call of the destination takes nothing
drain_by_steps :
    (by_steps 6 (Call.TryDrain 3)).events
    ≡ (Began Reader Kind.TryDrain None ∷ Looked Reader (Seen.Tail 4) ∷ Consumed (1 ∷ 2 ∷ 3 ∷ []) ∷ Woken 2 ∷ Answered Reader (Answer.Count 3) ∷ [])
drain_by_steps = refl

drain_whole :
    ((whole [] (Call.TryDrain 3) full).answer ≡ Answer.Count 3)
    × ((whole [] (Call.TryDrain 3) full).pipe.woken ≡ names_of (by_steps 6 (Call.TryDrain 3)).events)
    × ((by_steps 6 (Call.TryDrain 3)).pipe ≡ record (whole [] (Call.TryDrain 3) full).pipe { woken = full.woken })
drain_whole = (refl, refl, refl)

-- a yield calls the caller's own waker, and no byte moves
abbrev yields : calls.Call
yields = Call.PollDrainBytes 7 (yielding 7).luck 3

yield_whole :
    ((whole [] yields full).answer ≡ Answer.Copy Polled.Pending)
    × ((whole [] yields full).pipe.woken ≡ 7 ∷ [])
    × (names_of (by_steps 3 yields).events ≡ 7 ∷ [])
    × ((by_steps 3 yields).pipe ≡ record (whole [] yields full).pipe { woken = full.woken })
yield_whole = (refl, refl, refl, refl)

-- a fill of a full pipe moves nothing, and one of an empty pipe what there is room for
fill_whole : ((whole [] (Call.TryFill (1 ∷ 2 ∷ [])) full).answer ≡ Answer.Count 0) × ((whole [] (Call.TryFill (1 ∷ 2 ∷ 3 ∷ 4 ∷ 5 ∷ 6 ∷ [])) (fresh 4)).answer ≡ Answer.Count 4)
fill_whole = (refl, refl)

-- what their looks find: the reader has not looked yet, the writer of the full pipe finds no place,
-- and that of the empty one knows of four
found_by_the_looks : (found_alone Reader full ≡ 4) × (found_alone Writer full ≡ 0) × (found_alone Writer (fresh 4) ≡ 4)
found_by_the_looks = (refl, refl, refl)

steps_of_the_drain : most_steps (found_alone Reader full) (Call.TryDrain 3) ≡ 22
steps_of_the_drain = refl

-- the drain has not returned after five steps; it has after six, and then there is no seventh
end_of_the_drain :
    (state_of Reader (by_steps 5 (Call.TryDrain 3)).pipe ≡ SideState.Busy)
    × (state_of Reader (by_steps 6 (Call.TryDrain 3)).pipe ≡ SideState.Idle)
    × (refusal_of (Step.Go Reader) (by_steps 6 (Call.TryDrain 3)).pipe ≡ Some StepRefusal.Idle)
end_of_the_drain = (refl, refl, refl)
