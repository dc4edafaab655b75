-- A side that is inside a call can go on, and comes to its answer.
use Rattle.std.proofs.Common.{◌≡◌, ℕ, zero, suc, ◌+◌, ◌-◌, ◌<◌, ◌≤◌, min, List, ◌++◌, take, drop, length, replicate, Bool, true, false, Option, None, Some, refl, sym, ap, ◌∙◌, subst, arith, length-append, length-drop, length-take-le}
use Rattle.std.proofs.lemmas.List.{length-replicate}
use Rattle.std.proofs.lemmas.Slice.{drop-append-drop}
use Rattle.piper_machine.specs.Types.{Side, WritePoint, Answer, SideState, Event, Reader, Writer, MOST_A_ROUND, Busy, Go}
use Rattle.piper_machine.specs.Pipe.{Pipe}
use Rattle.piper_machine.specs.Source.{bytes_of}
use Rattle.piper_machine.specs.Action.{source_called}
use Rattle.piper_machine.specs.Round.{given, found_of, moved_by}
use Rattle.piper_machine.specs.Lend.{Lendable, lend_limit, lending}
use Rattle.piper_machine.specs.Refusal.{cannot_go, state_of}
use Rattle.piper_machine.specs.Step.{Stepped, round_left, stepped}
use Rattle.piper_machine.specs.Run.{Made, Runs}
use Rattle.piper_machine.specs.BySteps.{Returns}
use Rattle.piper_machine.proofs.Soundness.{place_left}
use Rattle.piper_machine.proofs.Offering.{source-called-step}
use Rattle.piper_machine.proofs.Sources.{moved-given}
use Rattle.piper_machine.proofs.BySteps.{named, left_of, IsValid, IsHeard, one_step, no_more, state-named}

-- some places may be lent
pub record CanLend (most : ℕ) (p : Pipe) : Type 0 where
  pub count : ℕ
  pub may : Lendable most p count

-- as many as there are, and none of a shut pipe
can-lend : (is_shut : Bool) (most : ℕ) (p : Pipe) → p.is_shut ≡ is_shut → length p.unread ≤ p.capacity → p.start < p.capacity → CanLend most p
can-lend true most p shut unread start = grind arith
can-lend false most p shut unread start =
    let left = place_left p.capacity (p.start + length p.unread) (omega arith) in
    record {
      count = lend_limit most p;
      may = record { at_most = omega arith; at_least = λ is_open. omega arith; some = λ is_open asked known. omega arith; shut = λ is_shut. absurd (cc) };
    }

pub lends-some : (most : ℕ) (p : Pipe) → length p.unread ≤ p.capacity → p.start < p.capacity → CanLend most p
lends-some most p unread start = can-lend p.is_shut most p refl unread start

-- the source is called, and what it was lent is what the pipe shows after that
pub record IsLentTo (p : Pipe) : Type 0 where
  pub after : Pipe
  pub called : after ≡ source_called (lending after.lent p)
  pub lendable : Lendable MOST_A_ROUND p (length after.lent)

lends-source : (p : Pipe) → CanLend MOST_A_ROUND p → IsLentTo p
lends-source p can =
    let places : List ℕ = replicate can.count 0 in
    let bytes = bytes_of p.source in
    let n = min can.count (length bytes) in
    let given_bytes = take n bytes in
    let lent : List ℕ = given_bytes ++ drop n places in
    let all : length places ≡ can.count = length-replicate can.count 0 in
    let front : length given_bytes ≡ n = length-take-le n bytes (omega arith) in
    let rest : length (drop n places) ≡ length places - n = length-drop n places in
    let long : length lent ≡ can.count = length-append given_bytes (drop n places) ∙ omega arith in
    let moved : moved_by (given (length lent) p.source) ≡ n = moved-given (length lent) p.source ∙ ap (λ (m : ℕ). min m (length bytes)) long in
    let kept : (source_called (lending lent p)).lent ≡ lent =
    ap (λ (m : ℕ). take m bytes ++ drop m lent) moved ∙ ap (λ (xs : List ℕ). given_bytes ++ xs) (drop-append-drop n places given_bytes n (omega arith) front) in
    record {
      after = source_called (lending lent p);
      called = ap (λ (xs : List ℕ). source_called (lending xs p)) (sym kept);
      lendable = subst (λ (m : ℕ). Lendable MOST_A_ROUND p m) (sym (ap (λ (xs : List ℕ). length xs) kept ∙ long)) can.may;
    }

-- the side can make its next step
pub record CanGo (side : Side) (p : Pipe) (before : List Event) : Type 0 where
  pub pipe : Pipe
  pub log : List Event
  pub made : Made p (Go side) pipe before log

writer-can : (point : WritePoint) (p : Pipe) (before : List Event) → let q = record p { writer = point } in state_of Writer q ≡ Busy → length p.unread ≤ p.capacity → p.start < p.capacity → CanGo Writer q before
writer-can (WritePoint.CallSource form sum) p before busy unread start =
    let q = record p { writer = WritePoint.CallSource form sum } in
    let lent = lends-source q (lends-some MOST_A_ROUND q unread start) in
    let found = found_of (given (length lent.after.lent) q.source) in
    let new = round_left found lent.after in
    let goes = source-called-step q lent.after refl lent.lendable lent.called in
    record {
      pipe = new;
      log = before ++ (stepped new.lent (Go Writer) q).events;
      made = record { accepted = ap cannot_go busy; made = record { lent = goes.lent; pipe = goes.pipe; events = refl } };
    }
writer-can point p before busy unread start = grind arith

can-go : (side : Side) (p : Pipe) (names : List ℕ) (before : List Event) → state_of side p ≡ Busy → IsValid side p → CanGo side (named names p) before
can-go Reader p names before busy valid = grind arith
can-go Writer p names before busy valid = writer-can p.writer (named names p) before busy valid.0.unread valid.0.start

-- a call that gave its answer is not open
rests-after : (side : Side) (p : Pipe) (names : List ℕ) → (cannot_go (state_of side p) ≡ None → ⊥) → state_of side (named names p) ≡ Busy → ⊥
rests-after side p names rests busy = rests (ap cannot_go (sym (state-named side names p) ∙ busy))

returns-on : (side : Side) (p mid : Pipe) (names : List ℕ) (before log : List Event) (made : Stepped) (answer : Option Answer) → IsHeard side p names made answer → mid ≡ made.pipe → Made (named names p) (Go side) mid before log
    → ((u : Pipe) → state_of side u ≡ Busy → IsValid side u → left_of side u < left_of side p → Returns side (named names u) log) → Returns side (named names p) before
returns-on side p mid names before log made None heard mid_is step later =
    let u = heard.after in
    let rest = later u heard.settled heard.valid (heard.falls refl) in
    record {
      steps = suc rest.steps;
      pipe = rest.pipe;
      after = rest.after;
      runs = (mid, log, step, subst (λ (r : Pipe). Runs r log (replicate rest.steps (Go side)) rest.pipe rest.after) (sym (mid_is ∙ heard.pipe)) rest.runs);
      returned = rest.returned;
    }
returns-on side p mid names before log made (Some answer) heard mid_is step later = record {
  steps = 1;
  pipe = mid;
  after = log;
  runs = (mid, log, step, (refl, refl));
  returned = subst (λ (r : Pipe). state_of side r ≡ Busy → ⊥) (sym (mid_is ∙ heard.pipe)) (rests-after side heard.after names heard.settled);
}

-- from any point inside a call
returns-from : (most : ℕ) (side : Side) (p : Pipe) (names : List ℕ) (before : List Event) → state_of side p ≡ Busy → IsValid side p → left_of side p ≤ most → Returns side (named names p) before
returns-from zero side p names before busy valid few = grind arith
returns-from (suc most) side p names before busy valid few =
    let can = can-go side p names before busy valid in
    let step = stepped can.pipe.lent (Go side) (named names p) in
    returns-on side p can.pipe names before can.log step step.answer (one_step side can.pipe.lent p names busy valid can.made.made.lent) can.made.made.pipe can.made
    (λ u busy_after valid_after falls. returns-from most side u names can.log busy_after valid_after (omega arith))

-- steps that were made before lead to a point from which the side returns
comes-on : (k : ℕ) (side : Side) (names : List ℕ) (mid q : Pipe) (log after : List Event) (made : Stepped) (p : Pipe) (answer : Option Answer) → IsHeard side p names made answer → mid ≡ made.pipe → Runs mid log (replicate k (Go side)) q after
    → ((u : Pipe) → state_of side u ≡ Busy → IsValid side u → Runs (named names u) log (replicate k (Go side)) q after → Returns side q after) → Returns side q after
comes-on k side names mid q log after made p None heard mid_is run later = grind arith
comes-on k side names mid q log after made p (Some answer) heard mid_is run later =
    let u = heard.after in
    let over = no_more k side (named names u) q log after (subst (λ (s : SideState). cannot_go s ≡ None → ⊥) (sym (state-named side names u)) heard.settled) (subst (λ (r : Pipe). Runs r log (replicate k (Go side)) q after) (mid_is ∙ heard.pipe) run) in
    record { steps = 0; pipe = q; after = after; runs = (refl, refl); returned = subst (λ (r : Pipe). state_of side r ≡ Busy → ⊥) (sym over.1) (rests-after side u names heard.settled) }

pub comes-back : (k : ℕ) (side : Side) (p : Pipe) (names : List ℕ) (before after : List Event) (q : Pipe) → state_of side p ≡ Busy → IsValid side p → Runs (named names p) before (replicate k (Go side)) q after → Returns side q after
comes-back zero side p names before after q busy valid run =
    subst (λ (r : Pipe). Returns side r after) (sym run.0) (returns-from (left_of side p) side p names after busy valid (omega arith))
comes-back (suc k) side p names before after q busy valid run =
    let mid = run.0 in
    let made = run.2.made in
    let step = stepped mid.lent (Go side) (named names p) in
    comes-on k side names mid q run.1 after step p step.answer (one_step side mid.lent p names busy valid made.lent) made.pipe run.3
    (λ u busy_after valid_after rest. comes-back k side u names run.1 after q busy_after valid_after rest)
