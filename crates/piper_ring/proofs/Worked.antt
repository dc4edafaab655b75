-- Logs that no call makes, evaluated: a line that the table doesn't have where it stands is the end of
-- the run, and a note that is not true of its access is found.
use Rattle.piper_ring.proofs.Kit.{◌≡◌, Bool, true, false, List, [], ◌∷◌, None, Some, ap, sym, ◌∙◌, refl, Found, Point, loaded_closed, loaded_slot, loaded_tail, stored_tail, are_told, moved_in, seen_in, Began, ClosedLoaded, Made, Told}
use Rattle.std.proofs.lemmas.Option.{none-some}
use Rattle.piper_protocol.specs.Table.{Next, goes_on}
use Rattle.piper_protocol.specs.declared.answer.Answer.{Answer}
use Rattle.piper_protocol.specs.declared.answer.Answer.TheVariants as answers
use Rattle.piper_protocol.specs.declared.answer.Polled.TheVariants.{Ready}
use Rattle.piper_protocol.specs.declared.table.Form.TheVariants.{Try}
use Rattle.piper_protocol.specs.declared.table.Found.TheVariants.{Flag as flag, IndexLoaded as index_loaded, Moved, Nothing, Waker as waker}
use Rattle.piper_protocol.specs.declared.table.Point.TheVariants.{Reader, Writer}
use Rattle.piper_protocol.specs.declared.table.Purpose.TheVariants.{Copy, Poll}
use Rattle.piper_protocol.specs.declared.table.ReadPoint.TheVariants as reads
use Rattle.piper_protocol.specs.declared.table.WritePoint.TheVariants as on
use Rattle.piper_protocol.specs.declared.table.Side.TheVariants as sides
use Rattle.piper_protocol.specs.Lines.{Line, access, comes_to, drawn, idle, looks, note, step}
use Rattle.piper_ring.specs.Log.{Log, Ran}

-- where no call is open no line leads on but the beginning of one
found_idle : (side : Point) (found : Found) → step (idle side) found ≡ goes_on (idle side)
found_idle (Reader point) found = refl
found_idle (Writer point) found = refl

looked_idle : (side : Point) (none is_closed : Bool)
    → looks none is_closed (idle side) ≡ goes_on (idle side)
looked_idle (Reader point) none is_closed = refl
looked_idle (Writer point) none is_closed = refl

drawn_idle : (side : Point) (is_drawn : Bool) → drawn is_drawn (idle side) ≡ idle side
drawn_idle (Reader point) is_drawn = refl
drawn_idle (Writer point) is_drawn = refl

-- so lines that lead nowhere are no run, whatever is added to them
no_run : (start : Point) (answer : Answer) (a b : Log) (lines : List Line) → b.lines ≡ lines
    → (comes_to lines).answer ≡ None → Ran start answer a b → ⊥
unfolding Ran
no_run start answer a b lines same none ran =
    let now : (comes_to b.lines).answer ≡ Some answer =
    ap (λ (next : Next Point). next.answer) ran.now in
    none-some answer (sym none ∙ ap (λ ls. (comes_to ls).answer) (sym same) ∙ now)

-- a poll of the writer that loads closed once more before its first load
stutters : (a b : Log)
    → b.lines ≡ note (Made Nothing) ∷ note (ClosedLoaded false false) ∷ access (loaded_closed false)
    ∷ access (loaded_closed false) ∷ note (Began (Writer (on.LookClosed Poll))) ∷ a.lines
    → Ran (Writer (on.LookClosed Poll)) (answers.Poll (Ready true)) a b → ⊥
stutters a b same ran = no_run _ _ a b _ same refl ran

-- one that notes a load that was not made
skips : (a b : Log)
    → b.lines ≡ note (Made Nothing) ∷ note (ClosedLoaded false false)
    ∷ note (Began (Writer (on.LookClosed Poll))) ∷ a.lines
    → Ran (Writer (on.LookClosed Poll)) (answers.Poll (Ready true)) a b → ⊥
skips a b same ran = no_run _ _ a b _ same refl ran

-- and one that does neither is a run
polls : (a b : Log)
    → b.lines ≡ note (Made Nothing) ∷ note (ClosedLoaded false false) ∷ access (loaded_closed false)
    ∷ note (Began (Writer (on.LookClosed Poll))) ∷ a.lines
    → Ran (Writer (on.LookClosed Poll)) (answers.Poll (Ready true)) a b
unfolding Ran
polls a b same = record { first = rw same refl; before = rw same refl; now = rw same refl }

-- a fill without a context that loads closed twice in its round, and tells both
loads_twice : (a b : Log)
    → b.lines ≡ note (Made (Moved 0)) ∷ note (Told (waker false)) ∷ access (loaded_slot sides.Reader false)
    ∷ note (Told Nothing) ∷ access (stored_tail (0 ∷ []))
    ∷ note (Told (flag false)) ∷ access (loaded_closed false)
    ∷ note (ClosedLoaded false false) ∷ access (loaded_closed false) ∷ note (Made (Moved 1))
    ∷ note (ClosedLoaded false false) ∷ access (loaded_closed false)
    ∷ note (Began (Writer (on.LookClosed (Copy Try)))) ∷ a.lines
    → Ran (Writer (on.LookClosed (Copy Try))) (answers.Count 1) a b → ⊥
loads_twice a b same ran = no_run _ _ a b _ same refl ran

-- a look that says of a tail past its head that nothing is there does not tell the truth, and one that
-- says it of the tail at its head does
lies : are_told 4 sides.Reader (note (Told (index_loaded true)) ∷ access (loaded_tail 3)
    ∷ note (Began (Reader (reads.LookTail Poll))) ∷ []) ≡ false
unfolding are_told moved_in seen_in
lies = refl

is_true : are_told 4 sides.Reader (note (Told (index_loaded true)) ∷ access (loaded_tail 0)
    ∷ note (Began (Reader (reads.LookTail Poll))) ∷ []) ≡ true
unfolding are_told moved_in seen_in
is_true = refl
