-- Steps as a run makes them: what they log, and what the laws over runs count of them.
use Rattle.std.proofs.Common.{arith, ◌≡◌, List, [], ◌∷◌, take, Some, None, refl}
use Rattle.piper_machine.specs.Types.{Answer, Call, Kind, Step, Event, Writer, Began, Published, Answered}
use Rattle.piper_machine.specs.Pipe.{Pipe, fresh}
use Rattle.piper_machine.specs.Lend.{Lendable}
use Rattle.piper_machine.specs.Step.{stepped}
use Rattle.piper_machine.specs.Conservation.{published_of, consumed_of}
use Rattle.piper_machine.specs.Counts.{most_steps, tally_of}
use Rattle.piper_machine.specs.Run.{Runs}
use Rattle.piper_machine.proofs.worked.Gone.{gone}

-- a byte is lent, put and published
abbrev published_in_place : List Step
published_in_place =
    Step.Begin (Call.WriteBuf 2) ∷ Step.Put 0 5 ∷ Step.Begin (Call.Produced 1) ∷ Step.Go Writer ∷ Step.Go Writer ∷ []

abbrev logged_in_place : List Event
logged_in_place =
    Began Writer Kind.WriteBuf None ∷ Answered Writer (Answer.Lent 2)
    ∷ Began Writer Kind.Produced None ∷ Published (5 ∷ []) ∷ Answered Writer Answer.Done ∷ []

steps_in_place :
    let out = gone published_in_place (fresh 2) in
    (out.events ≡ logged_in_place) × (out.refusal ≡ None) × (out.pipe.unread ≡ 5 ∷ [])
steps_in_place = (refl, refl, refl)

-- And these steps are a run, as the contract of `run` has it.
two_places_are_lendable : Lendable 2 (fresh 2) 2
two_places_are_lendable = record { at_most = omega arith; at_least = λ is_open. omega arith; some = λ is_open asked known. omega arith; shut = λ is_shut. absurd (cc) }

abbrev lent_two : Pipe
lent_two = (stepped (0 ∷ 0 ∷ []) (Step.Begin (Call.WriteBuf 2)) (fresh 2)).pipe

abbrev put_one : Pipe
put_one = (stepped [] (Step.Put 0 5) lent_two).pipe

abbrev produced_opened : Pipe
produced_opened = (stepped [] (Step.Begin (Call.Produced 1)) put_one).pipe

abbrev stored_tail : Pipe
stored_tail = (stepped [] (Step.Go Writer) produced_opened).pipe

a_run : Runs (fresh 2) [] published_in_place (stepped [] (Step.Go Writer) stored_tail).pipe logged_in_place
a_run = (
  lent_two,
  take 2 logged_in_place,
  record { accepted = refl; made = record { lent = two_places_are_lendable; pipe = refl; events = refl } },
  (
    put_one,
    take 2 logged_in_place,
    record { accepted = refl; made = record { lent = tt; pipe = refl; events = refl } },
    (
      produced_opened,
      take 3 logged_in_place,
      record { accepted = refl; made = record { lent = tt; pipe = refl; events = refl } },
      (
        stored_tail,
        take 4 logged_in_place,
        record { accepted = refl; made = record { lent = tt; pipe = refl; events = refl } },
        (
          (stepped [] (Step.Go Writer) stored_tail).pipe,
          logged_in_place,
          record { accepted = refl; made = record { lent = tt; pipe = refl; events = refl } },
          (refl, refl),
        ),
      ),
    ),
  ),
)

-- What the laws over runs count here: one byte published and none consumed, and two steps of at
-- most three.
bytes_in_place : (published_of logged_in_place ≡ 5 ∷ []) × (consumed_of logged_in_place ≡ [])
bytes_in_place = (refl, refl)

counted_in_place : (tally_of Writer published_in_place ≡ record { made = 2; call = Some (Call.Produced 1) }) × (most_steps 2 (Call.Produced 1) ≡ 3)
counted_in_place = (refl, refl)
