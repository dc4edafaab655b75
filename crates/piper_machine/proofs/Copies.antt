-- A step of a copying call leaves what remains of it, and it brings the answer nearer.
use Rattle.std.proofs.Common.{◌≡◌, ℕ, ◌+◌, ◌-◌, ◌<◌, ◌≤◌, min, List, ◌∷◌, ◌++◌, take, drop, length, Bool, true, false, ◌==◌, refl, sym, ap, ◌∙◌, arith, Result, Ok, Err, []}
use Rattle.std.proofs.lemmas.Grind.{common_steps}
use Rattle.std.proofs.lemmas.Bool.Decides.{nat_tests}
use Rattle.piper_machine.specs.Types.{AfterWrite, Purpose, Failed, DestAct, SourceAct, Form, ReadPoint, WritePoint, Writer, Ready, MOST_A_ROUND, Slice, Acts, Go}
use Rattle.piper_protocol.specs.Table.{Next, count_answer, failed_answer, write_action, reader_moved, writer_moved, tail_store}
use Rattle.piper_machine.specs.Pipe.{Pipe}
use Rattle.piper_machine.specs.Move.{published, reader_woken}
use Rattle.piper_machine.specs.Copy.{Copied, answered, drained, filled, unlent}
use Rattle.piper_machine.specs.Scripted.{drain_moves_to, taken_by, fill_moves_more}
use Rattle.piper_machine.specs.Round.{unspent}
use Rattle.piper_machine.specs.Action.{round_count}
use Rattle.piper_machine.specs.Lend.{Lendable}
use Rattle.piper_machine.specs.Step.{Stepped, stepped, filled_out, MayOffer}
use Rattle.piper_machine.specs.Alone.{Ended, heard, moved_answer, reader_left, reader_ended, reader_alone, is_draining, writer_ended, writer_filled, writer_alone, writer_moves_alone, is_filling}
use Rattle.piper_machine.proofs.Alone.{reader_rest, read_step, reader_rest_at, writer_rest, writer_rest_at}
use Rattle.piper_machine.proofs.Rounds.{filled_nothing}
use Rattle.piper_machine.proofs.Acts.{give-part, give-ends, give-fails, give-none, give-nothing}

-- one call of the destination
module _ (form : Form) (sum : ℕ) (p : Pipe) (start : p.start < p.capacity) (known : p.known ≤ p.capacity) where
  abbrev left : Pipe
  left = reader_left ReadPoint.Idle p

  abbrev moving : Copied (Result ℕ Failed) → Ended
  moving moved = record { answer = moved_answer form moved.answer; pipe = moved.pipe }

  abbrev counted : ℕ → Pipe → Ended
  counted count q = record { answer = moved_answer form (Ready (Ok count)); pipe = q }

  ended : counted sum left ≡ reader_ended ReadPoint.Idle (count_answer form sum) p
  ended = grind arith

  slice : (size : ℕ) (none : Bool) → (min size (round_count p) == 0) ≡ none → let n = min size (round_count p) in
      counted (sum + min size p.known) (drained (min size p.known) left) ≡ reader_rest_at (reader_moved none n form sum) (record p { destination = Slice (size - n) })
  slice size none test = grind (arith, common_steps)

  act : (most : ℕ) (acts : List DestAct) (none : Bool) → (taken_by most left == 0) ≡ none → let n = taken_by most left in
      moving (drain_moves_to (DestAct.Take most ∷ acts) sum left) ≡ reader_rest_at (reader_moved none n form sum) (record p { destination = Acts acts })
  act most acts none test = grind arith

pub drain-rest : (point : ReadPoint) (p : Pipe) → is_draining point ≡ true → p.start < p.capacity → p.known ≤ p.capacity → let s = read_step point p in reader_alone point p ≡ reader_rest s.answer s.pipe
drain-rest point p drains start known = grind (arith, common_steps)

-- the writer

-- a fill that has returned leaves nothing lent
abbrev pub fill_rest_at : Next WritePoint → Pipe → Ended
fill_rest_at next p = writer_rest_at next (record p { lent = filled_out true next.answer p.lent })

-- a round that moves some bytes wakes the reader
woken-filled : (n : ℕ) (bytes lent : List ℕ) (p : Pipe) → 1 ≤ n → n ≤ length bytes → p.lent ≡ take n bytes ++ drop n lent → filled (take n bytes) p ≡ unlent (reader_woken (published n p))
woken-filled n bytes lent p some within front = grind (arith, common_steps)

-- one call of the source
module _ (form : Form) (sum : ℕ) (p : Pipe) (unclosed : p.is_closed ≡ false) where
  abbrev writer_moving : Copied (Result ℕ Failed) → Ended
  writer_moving moved = writer_ended WritePoint.Idle (moved_answer form moved.answer) moved.pipe

  abbrev spent : Pipe
  spent = record p { writer = WritePoint.Idle; lent = [] }

  writer_counted : writer_moving (answered (Ready (Ok sum)) spent) ≡ writer_filled (count_answer form sum) p
  writer_counted = grind arith

  gives : (byte : ℕ) (bytes : List ℕ) (acts : List SourceAct) (lent : List ℕ) (none : Bool) → let xs = byte ∷ bytes in let n = min (length lent) (length xs) in
      (n == 0) ≡ none → length lent ≤ p.room → (length lent ≡ 0 → p.room ≡ 0) →
      writer_moving (fill_moves_more sum (SourceAct.Bytes xs ∷ acts) p) ≡ fill_rest_at (writer_moved none n form sum) (record p { lent = take n xs ++ drop n lent; source = unspent (drop n xs) acts })
  gives byte bytes acts lent true test within least =
      let full : p.room ≡ 0 = least (grind (arith, nat_tests)) in
      let none : min (length (byte ∷ bytes)) p.room ≡ 0 = omega arith in
      let same : sum + 0 ≡ sum = omega arith in
      ap writer_moving (give-ends sum 0 (byte ∷ bytes) acts spent (λ some. absurd (cc)) (sym none) (omega arith))
      ∙ ap (λ (k : ℕ). writer_moving (answered (Ready (Ok k)) (filled [] spent))) same
      ∙ ap (λ (q : Pipe). writer_moving (answered (Ready (Ok sum)) q)) (filled_nothing spent refl)
      ∙ writer_counted
  gives byte bytes acts lent false test within least =
      let xs = byte ∷ bytes in
      let n = min (length lent) (length xs) in
      let q : Pipe = record p { lent = take n xs ++ drop n lent; source = unspent (drop n xs) acts; writer = WritePoint.Idle } in
      let some : 1 ≤ n = grind (arith, nat_tests) in
      ap writer_moving (give-part sum n xs acts spent some (omega arith) (omega arith))
      ∙ ap (λ (r : Pipe). writer_moving (fill_moves_more (sum + n) (unspent (drop n xs) acts) r)) (woken-filled n xs lent q some (omega arith) refl)
      ∙ rw unclosed refl

-- what a fill that runs alone depends on: it has seen the pipe open, and nobody else closes it
abbrev pub saw_open : WritePoint → Bool
saw_open (WritePoint.LookClosed l) = false
saw_open point = is_filling point

pub record WriterValid (point : WritePoint) (p : Pipe) : Type 0 where
  pub unread : length p.unread ≤ p.capacity
  pub start : p.start < p.capacity
  pub room : p.room ≤ p.capacity - length p.unread
  pub store : tail_store point ≤ p.room
  pub shut : p.is_shut ≡ true → p.is_closed ≡ true
  pub unclosed : saw_open point ≡ true → p.is_closed ≡ false

not_shut : (is_shut is_closed : Bool) → (is_shut ≡ true → is_closed ≡ true) → is_closed ≡ false → is_shut ≡ false
not_shut is_shut is_closed shut unclosed = grind arith

-- an open pipe with room lends some places
lends_some : (p : Pipe) (n : ℕ) → length p.unread ≤ p.capacity → p.start < p.capacity → p.is_shut ≡ false → Lendable MOST_A_ROUND p n → n ≡ 0 → p.room ≡ 0
lends_some p n unread start not_shut lendable none = grind arith

failed-answer : (form : Form) (p : Pipe) → writer_ended WritePoint.Idle (moved_answer form (Ready (Err (record {})))) p ≡ writer_ended WritePoint.Idle failed_answer p
failed-answer form p = grind arith

source-rest : (form : Form) (sum : ℕ) (acts : List SourceAct) (lent : List ℕ) (p : Pipe) → WriterValid (WritePoint.CallSource form sum) p → let asked = record p { writer = WritePoint.CallSource form sum; source = acts } in MayOffer (WritePoint.CallSource form sum) acts lent asked
    → let s = stepped lent (Go Writer) asked in writer_moves_alone form sum (record p { writer = WritePoint.Idle; source = acts }) ≡ writer_rest s.answer s.pipe
source-rest form sum [] lent p valid may = ap (writer_moving form sum p (valid.unclosed refl)) (give-none sum (record p { writer = WritePoint.Idle; lent = [] }) refl) ∙ writer_counted form sum p (valid.unclosed refl)
source-rest form sum (SourceAct.Fail ∷ acts) lent p valid may = ap (writer_moving form sum p (valid.unclosed refl)) (give-fails sum acts (record p { writer = WritePoint.Idle; lent = [] }) refl) ∙ failed-answer form (record p { lent = [] })
source-rest form sum (SourceAct.Bytes [] ∷ acts) lent p valid may =
    let none : (min (length lent) 0 == 0) ≡ true = grind (arith, nat_tests) in
    ap (writer_moving form sum p (valid.unclosed refl)) (give-nothing sum acts (record p { writer = WritePoint.Idle; lent = [] }) refl)
    ∙ writer_counted form sum p (valid.unclosed refl)
    ∙ ap (λ (b : Bool). fill_rest_at (writer_moved b (min (length lent) 0) form sum) (record p { lent = take (min (length lent) 0) [] ++ drop (min (length lent) 0) lent; source = unspent (drop (min (length lent) 0) []) acts })) (sym none)
source-rest form sum (SourceAct.Bytes (byte ∷ bytes) ∷ acts) lent p valid may =
    let most = may.at_most in
    gives form sum p (valid.unclosed refl) byte bytes acts lent (min (length lent) (length (byte ∷ bytes)) == 0) refl (omega arith)
    (lends_some (record p { writer = WritePoint.CallSource form sum; source = SourceAct.Bytes (byte ∷ bytes) ∷ acts }) (length lent) valid.unread valid.start (not_shut p.is_shut p.is_closed valid.shut (valid.unclosed refl)) may)

-- the writer's step from a point, with these bytes in what it lends
abbrev pub fill_step : WritePoint → List ℕ → Pipe → Stepped
fill_step point lent p = stepped lent (Go Writer) (heard Writer (write_action point) (record p { writer = point }))

pub fill-rest : (point : WritePoint) (lent : List ℕ) (p : Pipe) → is_filling point ≡ true → WriterValid point p → MayOffer point p.source lent (record p { writer = point })
    → let s = fill_step point lent p in writer_alone point p ≡ writer_rest s.answer s.pipe
fill-rest (WritePoint.LookClosed (Purpose.Copy form)) lent p fills valid may = grind arith
fill-rest (WritePoint.LookHead (Purpose.Copy form)) lent p fills valid may = grind arith
fill-rest (WritePoint.LookRegister (Purpose.Copy form)) lent p fills valid may = grind arith
fill-rest (WritePoint.LookHeadAgain (Purpose.Copy form)) lent p fills valid may = grind arith
fill-rest (WritePoint.LookClosedAgain (Purpose.Copy form)) lent p fills valid may = refl
fill-rest (WritePoint.LookTake (Purpose.Copy form)) lent p fills valid may = grind arith
fill-rest WritePoint.Yield lent p fills valid may = refl
fill-rest (WritePoint.CallSource form sum) lent p fills valid may = source-rest form sum p.source lent p valid may
fill-rest (WritePoint.RoundClosed n form sum) lent p fills valid may = grind arith
fill-rest (WritePoint.StoreTail n (AfterWrite.Round form sum)) lent p fills valid may = refl
fill-rest (WritePoint.TakeReader (AfterWrite.Round form sum)) lent p fills valid may = grind arith
fill-rest (WritePoint.WakeReader (AfterWrite.Round form sum)) lent p fills valid may = refl
fill-rest (WritePoint.StoreClosed (AfterWrite.Round form sum)) lent p fills valid may = refl
fill-rest point lent p fills valid may = absurd (cc)
