-- What it found was known, or was found once it had registered; and so what came out of its own slot
-- is what lay there at first, or what it registered itself.
use Rattle.std.proofs.Common.{◌≡◌, ◌⊎◌, rules, inl, inr}
use Rattle.piper_ring.specs.Looks.{WriterLooked}
use Rattle.piper_ring.specs.SlotsView.{Registers}
use Rattle.piper.proofs.handles.Writer.poll.Goals as goal
use Rattle.piper.proofs.handles.Writer.poll.Goals.{in-Ready, in-NotReady+in-Ok-Ready}

looked : (c : goal.After-self-2-1)
    → WriterLooked c.args.self.now.side.end c.match-look_first.self.1.0.end
looked c =
    elim c.match-look_first.branch [
      | in-Ready w ↦ rw w.self-is c.look_first.ensures.looked
      | in-NotReady+in-Ok-Ready w ↦ rw w.self-is (search rules)
    ]

held : (c : goal.After-self-2-1)
    → (c.match-look_first.self.1.0.slots ≡ c.args.self.now.side.slots)
    ⊎ Registers c.args.self.now.side.slots c.match-look_first.self.1.0.slots
held c =
    elim c.match-look_first.branch [
      | in-Ready w ↦ inl (rw w.self-is c.look_first.ensures.rest.0)
      | in-NotReady+in-Ok-Ready w ↦ inr (rw w.self-is (rw c.look_first.ensures.rest.0 at w.in-Ok-Ready.ensures.registered))
    ]

pub returns-clause-polled : goal.returns-clause-polled
returns-clause-polled c = record {
  found = search rules;
  looked = rw c.take_own.ensures.rest.0 (looked c);
  leaves = search rules;
  emptied = λ some. (_, held c, c.take_own.ensures.leaves, c.take_own.ensures.dropped);
  pending = search rules;
  memory = search rules;
  context = search rules;
  rest = search rules;
}
