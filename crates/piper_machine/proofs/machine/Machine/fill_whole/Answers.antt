use Rattle.std.proofs.Common.{◌≡◌, ◌∙◌, ℕ, List, length, take, min, sym, ap, arith}
use Rattle.std.proofs.lemmas.Grind.{common_steps}
use Rattle.std.proofs.lemmas.List.{take_rest}
use Rattle.piper_machine.specs.Round.{given, unspent}
use Rattle.piper_machine.specs.Step.{fill_opened}
use Rattle.piper_machine.proofs.Filling.{IsGone, goes-on, goes, ends, gave, gives, fails}
use Rattle.piper_machine.proofs.machine.Machine.fill_whole.Goals as goal
use Rattle.piper_machine.proofs.machine.Machine.fill_whole.Goals.{Joined-action, in-CallSource, then-is_failing, else-is_failing, in_default}

-- a step: of the source, or another
gone : (c : Joined-action) → IsGone (fill_opened c.args.context (unspent c.args.bytes.now c.args.acts.now) c.args.self.now) (unspent c.match-action.bytes.now c.match-action.acts.now) c.steps.self c.match-action.answer c.match-action.self
gone c =
    let p = fill_opened c.args.context (unspent c.args.bytes.now c.args.acts.now) c.args.self.now in
    let acts = unspent c.steps.bytes.now c.steps.acts.now in
    record {
      on =
          elim c.match-action.branch [
            | in-CallSource w ↦
                let lent = w.write_round-count.new.self.lent in
                let n = w.write_round-count.result in
                let front = w.next-is_failing.ensures.front in
                let count = w.write_round-count.ensures.count ∙ ap (λ (xs : List ℕ). min (length lent) (length xs)) front in
                let noted : w.if-is_failing.source_called ≡ given (length lent) acts =
                elim w.if-is_failing.branch [
                  | then-is_failing v ↦ v.source_called-is ∙ fails (length lent) acts (sym w.next-is_failing.ensures.fails ∙ v.if-is_failing.true)
                  | else-is_failing v ↦ v.source_called-is ∙ gives (length lent) n acts (sym w.next-is_failing.ensures.fails ∙ v.if-is_failing.false) count
                ] in
                rw (w.self-is, w.answer-is, w.bytes-is, w.acts-is, take_rest w.next-is_failing.result.0.now n)
                (gave acts _ n w.if-is_failing.source_called p c.steps.self w.write_round-count.new.self w.source_called-answer.new.self w.source_called-answer.result (sym c.writer_next-action.ensures.step ∙ w.in-CallSource.is)
                c.steps.invariant.filling w.write_round-count.ensures.lent w.write_round-count.ensures.after count (w.write_round-count.ensures.front ∙ ap (take n) front) (w.next-is_failing.ensures.rest n) noted
                (record { answer_is = w.source_called-answer.ensures.answer; after = w.source_called-answer.ensures.after }))
            | in_default w ↦
                rw (w.self-is, w.answer-is, w.bytes-is, w.acts-is)
                (goes-on p c.steps.self w.hear.new.self w.writer_goes-answer.new.self acts w.writer_goes-answer.result c.steps.invariant.filling
                (λ calls. w.in_default.not-CallSource (c.writer_next-action.ensures.step ∙ calls)) w.hear.ensures.after w.writer_goes-answer.ensures.answer w.writer_goes-answer.ensures.after)
          ];
    }

pub steps-init : goal.steps-init
steps-init c = grind arith

pub source_called-answer-requires-clause-lent : goal.source_called-answer-requires-clause-lent
source_called-answer-requires-clause-lent c = grind arith

pub hear-requires : goal.hear-requires
hear-requires c = grind (arith, common_steps)

pub steps-preserved : goal.steps-preserved
steps-preserved c = record { filling = (goes (gone (goal.at.steps-preserved c).Joined-action) c.in-None.is).0 }

pub steps-smaller : goal.steps-smaller
steps-smaller c = (goes (gone (goal.at.steps-smaller c).Joined-action) c.in-None.is).1

pub returns-in-Some : goal.returns-in-Some
returns-in-Some c =
    let ended = ends (gone (goal.at.returns-in-Some c).Joined-action) c.in-Some.is in
    record { answer = ended.answer_is; after = ended.after }
