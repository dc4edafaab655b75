-- What stays after the end was reported.
use Rattle.std.proofs.Common.{◌≡◌, ℕ, Bool, true, false, refl, sym, ap, ◌∙◌, Result, Ok, Err, length, true≢false, arith}
use Rattle.piper_ring.specs.Streams.{either}
use Rattle.piper_ring.specs.ReadView.{KeepsAll, KnowsEnd, ReadView}
use Rattle.futures.specs.declared.task.Poll.{Poll}
use Rattle.futures.specs.declared.task.Poll.TheVariants.{Ready, Pending}
use Rattle.piper.specs.Drains.{EndIsUnseen}
use Rattle.piper.specs.Looks.{IsEnded}
use Rattle.piper.specs.Polls.{TakesNone}

-- who saw the end knows where it is
knows : (observed saw : Bool) → saw ≡ true → either observed saw ≡ true
knows false saw seen = seen
knows true saw seen = refl

pub ended_knows : (r : ReadView) → IsEnded r → KnowsEnd r
ended_knows r ended = knows r.observed_shut r.saw ended.saw

-- what was taken stays the same
ended_takes : (a b : ReadView) → KeepsAll a b → IsEnded a → IsEnded b → b.taken ≡ a.taken
ended_takes a b same before now = now.all ∙ same (ended_knows a before) ∙ sym before.all

-- a drain after the end takes none, and doesn't wait
pub ended_after : {E : Type 0} (r : Poll (Result ℕ E)) (a b : ReadView) → KeepsAll a b → (IsEnded a → IsEnded b) → EndIsUnseen r a b → IsEnded a → TakesNone r (IsEnded b) a.taken b.taken
ended_after (Ready (Ok n)) a b same stays unseen ended = (stays ended, ended_takes a b same ended (stays ended), tt)
ended_after (Ready (Err e)) a b same stays unseen ended = (stays ended, ended_takes a b same ended (stays ended), tt)
ended_after Pending a b same stays unseen ended =
    let now = stays ended in
    let taken : b.taken ≡ a.taken = ended_takes a b same ended now in
    (now, taken, absurd (true≢false (sym now.saw ∙ (unseen (omega (arith, ap length taken, ap length now.known))).0)))
