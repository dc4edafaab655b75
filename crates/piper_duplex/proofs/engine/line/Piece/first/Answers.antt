use Rattle.std.proofs.Common.{ℕ, inl, arith, length-take}
use Rattle.std.proofs.lemmas.Bool.{eqb-true, eq-eqb}
use Rattle.piper_duplex.proofs.LinesOut.{goes_on, line_within, none_within}
use Rattle.piper_duplex.proofs.engine.line.Piece.first.Goals as goal

pub returns-in-Some-clause-line : goal.returns-in-Some-clause-line
returns-in-Some-clause-line c =
    let found = c.in-Some.ensures in
    let room : ℕ = c.min-room.result in
    inl (line_within c.args.bytes.now room c.in-Some.at found.0.high (omega (arith, found.0.high, length-take room c.args.bytes.now))
    (λ k below is. found.0.before k (omega arith) below (eq-eqb _ _ is)) (eqb-true _ _ found.1))

pub returns-in-None-clause-line : goal.returns-in-None-clause-line
returns-in-None-clause-line c =
    let room : ℕ = c.min-room.result in
    goes_on _ _ _ (eqb-true _ _) (none_within c.args.bytes.now room (λ k below is. c.in-None.ensures k (omega arith) (omega (arith, below, length-take room c.args.bytes.now)) (eq-eqb _ _ is)))
