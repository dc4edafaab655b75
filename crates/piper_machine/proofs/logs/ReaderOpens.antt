-- What a destination takes, and how a call of the reader begins.
use Rattle.std.proofs.Common.{◌≡◌, ℕ, ◌≤◌, ◌<◌, List, ◌∷◌, Bool, true, false, Option, None, ◌==◌, nat_le, nat_lt, arith}
use Rattle.std.proofs.lemmas.Bool.Decides.{nat_tests}
use Rattle.piper_machine.specs.Types.{AfterRead, Found, ReadPoint, WritePoint, StepRefusal, DestAct, Try, Polling}
use Rattle.piper_protocol.specs.declared.table.Purpose.TheVariants.{Poll, Copy}
use Rattle.piper_protocol.specs.Table.{reader_looks_for}
use Rattle.piper_machine.specs.Refusal.{unless}
use Rattle.piper_machine.specs.Round.{found_of, left_of_destination, taken}
use Rattle.piper_machine.specs.logs.Reading.{MayTake, size_after}
use Rattle.piper_machine.proofs.logs.Joint.{destination_at, number_of, reader_drawn, reader_point, writer_point}

module _ (round n : ℕ) (acts : List DestAct) where
  pub left-taken : (size : Option ℕ) → MayTake round size n → left_of_destination round (destination_at size (DestAct.Take n ∷ acts)) ≡ destination_at (size_after n size) acts
  left-taken size may = grind arith

  pub found-taken : (size : Option ℕ) → MayTake round size n → found_of (taken round (destination_at size (DestAct.Take n ∷ acts))) ≡ Found.Moved n
  found-taken size may = grind arith

pub left-failed : (round : ℕ) (acts : List DestAct) (size : Option ℕ) → size ≡ None → left_of_destination round (destination_at size (DestAct.Fail ∷ acts)) ≡ destination_at size acts
left-failed round acts size e = grind arith

pub found-failed : (round : ℕ) (acts : List DestAct) (size : Option ℕ) → size ≡ None → found_of (taken round (destination_at size (DestAct.Fail ∷ acts))) ≡ Found.Failed
found-failed round acts size e = grind arith

pub good-draw : (b : Bool) → nat_lt (number_of b) 100 ≡ true
good-draw b = grind arith

pub idle-same : (draw : Option Bool) (b : Bool) (point : ReadPoint) → point ≡ ReadPoint.Idle → reader_point draw b point ≡ ReadPoint.Idle
idle-same draw b point e = grind arith

pub writer-idle-same : (draw : Option Bool) (b : Bool) (point : WritePoint) → point ≡ WritePoint.Idle → writer_point draw b point ≡ WritePoint.Idle
writer-idle-same draw b point e = grind arith

pub polls-at : (none b : Bool) → reader_drawn b (reader_looks_for none Poll) ≡ reader_looks_for none Poll
polls-at none b = grind arith

pub tries-at : (none b : Bool) → reader_drawn b (reader_looks_for none (Copy Try)) ≡ reader_looks_for none (Copy Try)
tries-at none b = grind arith

pub copies-at : (none b : Bool) → reader_drawn b (reader_looks_for none (Copy (Polling false))) ≡ reader_looks_for none (Copy (Polling (number_of b == 0)))
copies-at none b = grind arith

pub stores-at : (draw : Option Bool) (b : Bool) (n : ℕ) → reader_point draw b (ReadPoint.StoreHead n AfterRead.Answer) ≡ ReadPoint.StoreHead n AfterRead.Answer
stores-at draw b n = grind arith

pub closes-at : (draw : Option Bool) (b : Bool) → reader_point draw b ReadPoint.StoreClosed ≡ ReadPoint.StoreClosed
closes-at draw b = grind arith

pub within : (n m : ℕ) (refusal : StepRefusal) → n ≤ m → unless (nat_le n m) refusal ≡ None
within n m refusal below = grind (arith, nat_tests)

pub below : (n m : ℕ) (refusal : StepRefusal) → n < m → unless (nat_lt n m) refusal ≡ None
below n m refusal less = grind (arith, nat_tests)
