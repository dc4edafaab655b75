use Rattle.std.proofs.Common.{◌≡◌, take}
use Rattle.piper_machine.proofs.source.Source.of_acts.Given as goal

abbrev pub invariant-loop-act : goal.invariant-loop-act
invariant-loop-act l = record {
  copied : l.script ≡ take l.act-index l.acts;
}
