use Rattle.std.proofs.Common.{length, arith}
use Rattle.std.proofs.lemmas.Bool.{eqb-true, eq-eqb}
use Rattle.piper_lines.proofs.LineEnds.{IsLine-take, Lacks-take}
use Rattle.piper_lines.proofs.line_reader.through_end.Goals as goal

pub returns-in-Some-clause-through : goal.returns-in-Some-clause-through
returns-in-Some-clause-through c =
    let found = c.in-Some.ensures in
    IsLine-take c.args.end c.args.bytes.now c.in-Some.before found.0.high
    (λ k below is. found.0.before k (omega arith) below (eq-eqb _ _ is))
    (eqb-true _ _ found.1)

pub returns-in-None-clause-through : goal.returns-in-None-clause-through
returns-in-None-clause-through c =
    Lacks-take c.args.end c.args.bytes.now (length c.args.bytes.now) (λ k below is. c.in-None.ensures k (omega arith) below (eq-eqb _ _ is))
