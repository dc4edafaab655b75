-- What the laws say of what the sides know, over a run from a fresh pipe.
use Rattle.std.proofs.Common.{◌≡◌, ℕ, ◌≤◌, List, ◌∷◌, ◌++◌, length, None, refl, sym, subst, ◌∙◌, arith, []}
use Rattle.piper_machine.specs.Types.{Side, Step, Event, ReadPoint, WritePoint, Action, Reader, Writer, Begin, Go, Put}
use Rattle.piper_protocol.specs.Table.{head_store, read_action, tail_store, write_action}
use Rattle.piper_machine.specs.Pipe.{Pipe, fresh}
use Rattle.piper_machine.specs.Action.{logged_of}
use Rattle.piper_machine.specs.Sound.{IsSound}
use Rattle.piper_machine.specs.Step.{went, stepped, offering, MayLend}
use Rattle.piper_machine.specs.Places.{peeked_count}
use Rattle.piper_machine.specs.Refusal.{refusal_of}
use Rattle.piper_machine.specs.Known.{Knowledge, knowledge_after, knowledge_from, knowledge_first, knowledge_of, IsKnown}
use Rattle.piper_machine.specs.Ready.{IsReadyFrom, IsReady}
use Rattle.piper_machine.specs.Counts.{Tally, tallied, tally_from, tally_of, IsCounted}
use Rattle.piper_machine.specs.Called.{called, calls_from, AreCallsCounted}
use Rattle.piper_machine.specs.Run.{Made, Runs}
use Rattle.piper_machine.proofs.Knowing.{knowledge-append, learns, learned, learned-exactly, Stores, knows}
use Rattle.piper_machine.proofs.ReaderCounts.{reader-fits}
use Rattle.piper_machine.proofs.WriterCounts.{writer-fits}
use Rattle.piper_machine.proofs.Counting.{Counts, noted, counts-step, counts-found}

-- a poll that is true leaves something to do

ready-append : (c : ℕ) (side : Side) (k : Knowledge) (es fs : List Event) → IsReadyFrom c side k es → IsReadyFrom c side (knowledge_from c side k es) fs → IsReadyFrom c side k (es ++ fs)
ready-append c side k [] fs first then = then
ready-append c side k (e ∷ es) fs first then = (first.0, ready-append c side (knowledge_after c side k e) es fs first.1 then)

ready-step : (side : Side) (s : Step) (lent : List ℕ) (p : Pipe) (k : Knowledge) (t : Tally) (calls : ℕ) → MayLend lent s p → refusal_of s p ≡ None → Counts side p k t calls
    → IsReadyFrom p.capacity side k (stepped lent s p).events
ready-step side s lent p k t calls may accepted held = grind arith

-- a step leaves the capacity, and a call as it is opened what is known

step-capacity : (s : Step) (lent : List ℕ) (p : Pipe) → (stepped lent s p).pipe.capacity ≡ p.capacity
step-capacity s lent p = grind arith

-- along a run of a pipe of capacity c

pub record Along (c : ℕ) (side : Side) (p : Pipe) (events : List Event) (t : Tally) (calls : ℕ) : Type 0 where
  pub capacity : p.capacity ≡ c
  pub counts : Counts side p (knowledge_of c side events) t calls
  pub ready : IsReadyFrom c side (knowledge_first c side) events

abbrev no_tally : Tally
no_tally = record { made = 0; call = None }

along_none : (c : ℕ) (side : Side) → Along c side (fresh c) [] no_tally 0
along_none c side = grind arith

along-step : (c : ℕ) (side : Side) (s : Step) (p q : Pipe) (before after : List Event) (t : Tally) (calls : ℕ) → Along c side p before t calls → Made p s q before after → Along c side q after (tallied side t s) (called side p s calls)
along-step c side s p q before after t calls held made =
    let new = stepped q.lent s p in
    let k = knowledge_of c side before in
    let counts = counts-step side s q.lent p k t calls made.made.lent made.accepted held.counts in
    let ready = ready-step side s q.lent p k t calls made.made.lent made.accepted held.counts in
    let next : Along c side new.pipe (before ++ new.events) (tallied side t s) (called side p s calls) = record {
      capacity = step-capacity s q.lent p ∙ held.capacity;
      counts =
          subst (λ (i : Knowledge). Counts side new.pipe i (tallied side t s) (called side p s calls)) (sym (knowledge-append c side (knowledge_first c side) before new.events))
          (subst (λ (d : ℕ). Counts side new.pipe (knowledge_from d side k new.events) (tallied side t s) (called side p s calls)) held.capacity counts);
      ready = ready-append c side (knowledge_first c side) before new.events held.ready (subst (λ (d : ℕ). IsReadyFrom d side k new.events) held.capacity ready);
    } in
    subst (λ (es : List Event). Along c side q es (tallied side t s) (called side p s calls)) (sym made.made.events)
    (subst (λ (x : Pipe). Along c side x (before ++ new.events) (tallied side t s) (called side p s calls)) (sym made.made.pipe) next)

along-runs : (c : ℕ) (side : Side) (ss : List Step) (p : Pipe) (before : List Event) (q : Pipe) (after : List Event) (t : Tally) (calls : ℕ) → Along c side p before t calls
    → (run : Runs p before ss q after) → Along c side q after (tally_from side t ss) (calls_from side calls ss p before q after run)
along-runs c side [] p before q after t calls held run = grind arith
along-runs c side (s ∷ ss) p before q after t calls held run =
    along-runs c side ss run.0 run.1 q after (tallied side t s) (called side p s calls) (along-step c side s p run.0 before run.1 t calls held run.2) run.3

along : (c : ℕ) (side : Side) (ss : List Step) (p : Pipe) (events : List Event) → (run : Runs (fresh c) [] ss p events) → Along c side p events (tally_of side ss) (calls_from side 0 ss (fresh c) [] p events run)
along c side ss p events run = along-runs c side ss (fresh c) [] p events no_tally 0 (along_none c side) run

-- the laws

pub counted-run : (c : ℕ) (ss : List Step) (p : Pipe) (events : List Event) → Runs (fresh c) [] ss p events → IsCounted c ss events
counted-run c ss p events run side = (counts-found side p _ _ _ (along c side ss p events run).counts).0

pub calls-counted : (c : ℕ) (ss : List Step) (p : Pipe) (events : List Event) → AreCallsCounted c ss p events
calls-counted c ss p events side run = (counts-found side p _ _ _ (along c side ss p events run).counts).1

pub ready-run : (c : ℕ) (ss : List Step) (p : Pipe) (events : List Event) → Runs (fresh c) [] ss p events → IsReady c events
ready-run c ss p events run side = (along c side ss p events run).ready

-- what the log reports is what is known: a store stays within what there is

reader-stores : (point : ReadPoint) (p : Pipe) → head_store point ≤ peeked_count p → p.known ≤ length p.unread → Stores Reader (read_action point) p
reader-stores point p store known = grind arith

writer-stores : (point : WritePoint) (lent : List ℕ) (p : Pipe) → tail_store point ≤ length p.lent → Stores Writer (write_action point) (offering lent (record p { writer = point }))
writer-stores point lent p store = grind arith

-- what the log reports of a side is what the pipe has, and what a look found is no more than the
-- capacity
record Known (c : ℕ) (side : Side) (p : Pipe) (k : Knowledge) : Type 0 where
  known : k.known ≡ knows side p
  found : k.found ≤ c

learned-within : (side : Side) (action : Action) (p : Pipe) (k : Knowledge) → length p.unread ≤ p.capacity → k.found ≤ p.capacity → (learned side action p k).found ≤ p.capacity
learned-within side action p k fits held = grind arith

known-step : (side : Side) (s : Step) (lent : List ℕ) (p : Pipe) (k : Knowledge) (t : Tally) (calls : ℕ) → IsSound p → Counts side p k t calls → Known p.capacity side p k
    → let new = stepped lent s p in Known p.capacity side new.pipe (knowledge_from p.capacity side k new.events)
known-step side (Begin c) lent p k t calls sound held same = grind arith
known-step Reader (Go Reader) lent p k t calls sound held same =
    let action = read_action p.reader in
    let j = learned Reader action p k in
    let next : Known p.capacity Reader (went Reader p).pipe j = record {
      known = learned-exactly Reader action p k (reader-stores p.reader p sound.head_store sound.known) same.known;
      found = learned-within Reader action p k sound.unread same.found;
    } in
    subst (λ (i : Knowledge). Known p.capacity Reader (went Reader p).pipe i) (sym (noted p.capacity Reader Reader k j (logged_of Reader action p) (went Reader p).answer (learns Reader action p k (reader-fits p.reader p.known k held.sees)))) next
known-step Writer (Go Writer) lent p k t calls sound held same =
    let action = write_action p.writer in
    let q = offering lent p in
    let j = learned Writer action q k in
    let next : Known p.capacity Writer (went Writer q).pipe j = record {
      known = learned-exactly Writer action q k (writer-stores p.writer lent p sound.tail_store) same.known;
      found = learned-within Writer action q k sound.unread same.found;
    } in
    subst (λ (i : Knowledge). Known p.capacity Writer (went Writer q).pipe i) (sym (noted p.capacity Writer Writer k j (logged_of Writer action q) (went Writer q).answer (learns Writer action q k (writer-fits p.writer p.room k held.sees)))) next
known-step Writer (Go Reader) lent p k t calls sound held same = grind arith
known-step Reader (Go Writer) lent p k t calls sound held same = grind arith
known-step Reader (Put offset byte) lent p k t calls sound held same = record { known = same.known; found = same.found }
known-step Writer (Put offset byte) lent p k t calls sound held same = record { known = same.known; found = same.found }

known-made : (c : ℕ) (side : Side) (s : Step) (p q : Pipe) (before after : List Event) (t : Tally) (calls : ℕ) → IsSound p → Along c side p before t calls → Made p s q before after
    → Known c side p (knowledge_of c side before) → Known c side q (knowledge_of c side after)
known-made c side s p q before after t calls sound held made same =
    let new = stepped q.lent s p in
    let k = knowledge_of c side before in
    let at_p = subst (λ (d : ℕ). Known d side p k) (sym held.capacity) same in
    let next = subst (λ (d : ℕ). Known d side new.pipe (knowledge_from d side k new.events)) held.capacity (known-step side s q.lent p k t calls sound held.counts at_p) in
    let joined = subst (λ (i : Knowledge). Known c side new.pipe i) (sym (knowledge-append c side (knowledge_first c side) before new.events)) next in
    subst (λ (es : List Event). Known c side q (knowledge_of c side es)) (sym made.made.events)
    (subst (λ (x : Pipe). Known c side x (knowledge_of c side (before ++ new.events))) (sym made.made.pipe) joined)

abbrev AreKnown : ℕ → Pipe → List Event → Type 0
AreKnown c p events = Known c Reader p (knowledge_of c Reader events) × Known c Writer p (knowledge_of c Writer events)

noted-known : (p : Pipe) (events : List Event) → AreKnown p.capacity p events → IsKnown p events
noted-known p events both = record { reader = both.0.known; writer = both.1.known; within = within }
  where
    within : (side : Side) → (knowledge_of p.capacity side events).found ≤ p.capacity
    within Reader = both.0.found
    within Writer = both.1.found

pub known_none : (c : ℕ) → IsKnown (fresh c) []
known_none c = noted-known (fresh c) [] (record { known = refl; found = omega arith }, record { known = refl; found = omega arith })

pub known_more : (c : ℕ) (ss : List Step) (s : Step) (p q : Pipe) (before after : List Event) → IsSound p → p.capacity ≡ c → q.capacity ≡ p.capacity → Runs (fresh c) [] ss p before → IsKnown p before → Made p s q before after → IsKnown q after
known_more c ss s p q before after sound capacity same run held made =
    let reader : Known p.capacity Reader p (knowledge_of p.capacity Reader before) = record { known = held.reader; found = held.within Reader } in
    let writer : Known p.capacity Writer p (knowledge_of p.capacity Writer before) = record { known = held.writer; found = held.within Writer } in
    let at_c = subst (λ (d : ℕ). AreKnown d p before) capacity (reader, writer) in
    let reads = known-made c Reader s p q before after _ _ sound (along c Reader ss p before run) made at_c.0 in
    let writes = known-made c Writer s p q before after _ _ sound (along c Writer ss p before run) made at_c.1 in
    noted-known q after (subst (λ (d : ℕ). AreKnown d q after) (sym (same ∙ capacity)) (reads, writes))
