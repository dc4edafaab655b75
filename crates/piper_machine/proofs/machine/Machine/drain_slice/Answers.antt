use Rattle.std.proofs.Common.{◌≡◌, ◌∙◌, ◌+◌, ◌-◌, ◌++◌, List, ℕ, min, length, take, drop, Option, sym, ap, subst, arith, is_some, length-drop}
use Rattle.std.proofs.lemmas.List.{take_rest}
use Rattle.piper_machine.specs.Types.{Answer, Action, Slice}
use Rattle.piper_protocol.specs.Table.{read_action}
use Rattle.piper_machine.specs.Action.{round_count}
use Rattle.piper_machine.specs.Step.{drain_opened}
use Rattle.piper_machine.proofs.Draining.{IsGone, IsReadOn, IsCopied, goes-along, goes, ends, takes-in, took, took-none, copies, wake-room, calls-store, drained-bytes}
use Rattle.piper_machine.proofs.machine.Machine.drain_slice.Goals as goal
use Rattle.piper_machine.proofs.machine.Machine.drain_slice.Goals.{After-reader_goes, in-CallDestination, in_default}

pub steps-init : goal.steps-init
steps-init c = grind arith

pub hear-requires : goal.hear-requires
hear-requires c =
    let p = c.steps.self in
    let room = wake-room p.reader p c.steps.invariant.draining.wakes in
    record { next = c.reader_next-action.ensures.step; wakes = λ wakes. room; yields = λ yields. room }

gone : (c : After-reader_goes) → IsGone (drain_opened c.args.context (Slice (length c.args.dest.now)) c.args.self.now) c.reader_goes.new.self.destination c.steps.self c.reader_goes.result c.reader_goes.new.self
gone c = goes-along (drain_opened c.args.context (Slice (length c.args.dest.now)) c.args.self.now) c.steps.self c.hear.new.self c.reader_goes.new.self c.reader_goes.result c.steps.invariant.draining c.hear.ensures.after c.reader_goes.ensures.answer c.reader_goes.ensures.after

-- what is copied in front of the step is what it takes in
copied : (c : After-reader_goes) → IsCopied c.args.self.now.unread c.args.dest.now (c.steps.done + took (read_action c.steps.self.reader) (length c.args.dest.now - c.steps.done) c.steps.self) c.match-action.done c.match-action.dest
copied c =
    let q = c.steps.self in
    let d = c.steps.done in
    let xs = c.steps.dest in
    let before = c.args.self.now.unread in
    let dest = c.args.dest.now in
    let inv = c.steps.invariant in
    elim c.match-action.branch [
      | in-CallDestination w ↦
          let n = w.read_round-done.result in
          let long = c.steps.auto.dest in
          let rest = take_rest xs d in
          let count = rw rest at w.read_round-done.ensures.count in
          let bytes = rw rest at w.read_round-done.ensures.bytes in
          let calls : read_action q.reader ≡ Action.CallDestination = sym c.reader_next-action.ensures.step ∙ w.in-CallDestination.is in
          let unread : q.unread ≡ drop d before = sym (ap (λ (k : ℕ). drop k q.unread) (calls-store q.reader calls)) ∙ inv.read.unread in
          let taken : took (read_action q.reader) (length dest - d) q ≡ min (length dest - d) (round_count q) = ap (λ (action : Action). took action (length dest - d) q) calls in
          let left = ap (λ (zs : List ℕ). length zs) unread in
          rw (w.done-is, w.dest-is)
          (copies before dest xs w.read_round-done.new.dest d n (d + took (read_action q.reader) (length dest - d) q) inv.known inv.bytes long (omega (arith, inv.within, count, long, length-drop d xs))
          (omega (arith, inv.known, count, left, length-drop d before, inv.draining.valid.known)) (bytes ∙ ap (λ (zs : List ℕ). take n zs ++ drop n (drop d xs)) unread) (omega (arith, count, taken, long, length-drop d xs)))
      | in_default w ↦
          let none = took-none (read_action q.reader) (length dest - d) q (λ calls. w.in_default.not-CallDestination (c.reader_next-action.ensures.step ∙ calls)) in
          rw (w.done-is, w.dest-is) (record { count = omega (arith, none); within = inv.within; known = inv.known; bytes = inv.bytes })
    ]

read : (c : After-reader_goes) → IsReadOn c.args.self.now.unread (length c.args.dest.now) c.match-action.done c.reader_goes.result c.reader_goes.new.self
read c =
    let before = c.args.self.now.unread in
    let size = length c.args.dest.now in
    let inv = c.steps.invariant in
    subst (λ (n : ℕ). IsReadOn before size n c.reader_goes.result c.reader_goes.new.self) (sym (copied c).count)
    (takes-in before size c.steps.done c.steps.self c.hear.new.self c.reader_goes.new.self c.reader_goes.result inv.draining.drains inv.read c.hear.ensures.after c.reader_goes.ensures.answer c.reader_goes.ensures.after)

pub steps-preserved : goal.steps-preserved
steps-preserved c =
    let past = (goal.at.steps-preserved c).After-reader_goes in
    let is = copied past in
    record { within = is.within; known = is.known; bytes = is.bytes; read = (read past).on c.in-None.is; draining = (goes (gone past) c.in-None.is).0 }

pub steps-smaller : goal.steps-smaller
steps-smaller c = (goes (gone (goal.at.steps-smaller c).After-reader_goes) c.in-None.is).1

pub returns-in-Some : goal.returns-in-Some
returns-in-Some c =
    let past = (goal.at.returns-in-Some c).After-reader_goes in
    let ended = ends (gone past) c.in-Some.is in
    let is = copied past in
    let left = (read past).ends (ap (λ (a : Option Answer). is_some a) c.in-Some.is) in
    record { answer = ended.answer_is; after = ended.after; bytes = drained-bytes c.match-action.done c.args.self.now.unread c.reader_goes.new.self.unread c.args.dest.now c.match-action.dest is.known left is.bytes }
