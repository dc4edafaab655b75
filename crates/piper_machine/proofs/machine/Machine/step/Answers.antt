use Rattle.std.proofs.Common.{rules, Result, OnOk, arith}
use Rattle.piper_machine.proofs.Disjointness.{tried-keeps}
use Rattle.piper_machine.proofs.Soundness.{sound}
use Rattle.piper_machine.proofs.machine.Machine.step.Goals as goal

on_ok : {A E : Type 0} (r : Result A E) (P : Type 0) → P → OnOk r P
on_ok r P holds = grind arith

pub returns-clause-made : goal.returns-clause-made
returns-clause-made c = search rules

pub returns-clause-same : goal.returns-clause-same
returns-clause-same c = search rules

pub returns-clause-known_kept : goal.returns-clause-known_kept
returns-clause-known_kept c =
    let was = sound c.self.inside c.self.invariant _ c.self.view_is in
    tried-keeps c.match-step.made c.args.step.now c.args.self.now c.match-step.self _ _ was (returns-clause-made c) (returns-clause-same c)

pub returns-clause-sound : goal.returns-clause-sound
returns-clause-sound c = on_ok _ _ (sound c.self-2.inside c.self-2.invariant _ c.self-2.view_is)
