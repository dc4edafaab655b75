use Rattle.std.proofs.Common.{◌≡◌, ◌∙◌, List, ℕ, sym, ap, subst, arith}
use Rattle.std.proofs.lemmas.Grind.{common_steps}
use Rattle.piper_machine.specs.Types.{DestAct, Acts}
use Rattle.piper_machine.specs.Round.{found_of, taken_by_acts}
use Rattle.piper_machine.specs.Action.{round_count}
use Rattle.piper_machine.specs.Step.{drain_opened}
use Rattle.piper_machine.proofs.Draining.{IsGone, IsGoneOn, opened, goes-on, called, goes}
use Rattle.piper_machine.proofs.machine.Machine.drain_script.Goals as goal
use Rattle.piper_machine.proofs.machine.Machine.drain_script.Goals.{Joined-action, in-CallDestination, in_default}

pub steps-init : goal.steps-init
steps-init c = record { draining = opened c.args.context (Acts c.args.acts.now) c.args.self.now c.open_drain.new.self c.open_drain.ensures.sound c.requires.woken c.open_drain.ensures.after }

pub hear-requires : goal.hear-requires
hear-requires c = grind (arith, common_steps)

-- a step: of the destination, or another
gone : (c : Joined-action) → IsGone (drain_opened c.args.context (Acts c.args.acts.now) c.args.self.now) (Acts c.match-action.acts.now) c.steps.self c.match-action.answer c.match-action.self
gone c =
    let p = drain_opened c.args.context (Acts c.args.acts.now) c.args.self.now in
    let q = c.steps.self in
    let left = c.steps.acts.now in
    record {
      on =
          elim c.match-action.branch [
            | in-CallDestination w ↦
                let most : round_count q ≡ w.min-most.result = omega (arith, w.peekable.ensures, w.min-most.ensures) in
                let found = ap found_of (ap (λ (k : ℕ). taken_by_acts k left) most ∙ sym w.next-taken.ensures.taken) in
                rw (w.self-is, w.answer-is, w.acts-is)
                (subst (λ (acts : List DestAct). IsGoneOn p (Acts acts) q w.destination_called-answer.result w.destination_called-answer.new.self) (sym w.next-taken.ensures.rest)
                (called (Acts left) (found_of w.next-taken.result.0) p q w.destination_called-answer.new.self w.destination_called-answer.result (sym c.reader_next-action.ensures.step ∙ w.in-CallDestination.is)
                c.steps.invariant.draining found (record { answer_is = w.destination_called-answer.ensures.answer; after = w.destination_called-answer.ensures.after })))
            | in_default w ↦
                rw (w.self-is, w.answer-is, w.acts-is)
                (goes-on p q w.hear.new.self w.reader_goes-answer.new.self (Acts left) w.reader_goes-answer.result c.steps.invariant.draining
                (λ calls. w.in_default.not-CallDestination (c.reader_next-action.ensures.step ∙ calls)) w.hear.ensures.after w.reader_goes-answer.ensures.answer w.reader_goes-answer.ensures.after)
          ];
    }

pub steps-preserved : goal.steps-preserved
steps-preserved c = record { draining = (goes (gone (goal.at.steps-preserved c).Joined-action) c.in-None.is).0 }

pub steps-smaller : goal.steps-smaller
steps-smaller c = (goes (gone (goal.at.steps-smaller c).Joined-action) c.in-None.is).1

pub returns-in-Some : goal.returns-in-Some
returns-in-Some c = grind arith
