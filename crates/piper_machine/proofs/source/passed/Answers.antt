use Rattle.std.proofs.Common.{ℕ, ◌+◌, List, ◌∷◌, length, drop, sym, ap, ◌∙◌, arith}
use Rattle.std.proofs.lemmas.List.{drop_more}
use Rattle.piper_machine.specs.Types.{SourceAct}
use Rattle.piper_machine.specs.Source.{bytes_of}
use Rattle.piper_machine.proofs.Sources.{pass_within}
use Rattle.piper_machine.proofs.source.passed.Goals as goal
use Rattle.piper_machine.proofs.source.passed.Goals.{in-Some-Bytes, in_default, in_default-2}

pub returns-then-n-end-clause-left : goal.returns-then-n-end-clause-left
returns-then-n-end-clause-left c = elim c.match-get.branch [
  | in-Some-Bytes w ↦
      let acts = c.args.acts.now in
      let spent = c.args.spent in
      let lookup = w.in-Some-Bytes.ensures.lookup in
      let here = drop_more acts spent w.in-Some-Bytes.field-0.now lookup.3.0 ∙ ap (λ (act : SourceAct). act ∷ drop (spent + 1) acts) (sym lookup.1 ∙ w.in-Some-Bytes.field-0-is) in
      let long = ap (λ (left : List SourceAct). length (bytes_of left)) here in
      let end = w.end-is ∙ ap (λ (bytes : List ℕ). length bytes) w.as_slice.ensures in
      pass_within (drop spent acts) c.args.given c.args.n (let h = c.if-n-end.true in omega arith)
  | in_default w ↦ absurd (let e = w.end-is in let h = c.if-n-end.true in omega arith)
  | in_default-2 w ↦ absurd (let e = w.end-is in let h = c.if-n-end.true in omega arith)
]
