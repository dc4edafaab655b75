use Rattle.std.proofs.Common.{rules}
use Rattle.std.specs.Prelude.{OnOk, IfErr}
use Rattle.piper_transfer.specs.Transfer.{IsOfMemory}
use Rattle.piper_transfer.proofs.Told.{refused_writes_none, refused_is_told}
use Rattle.piper_transfer.proofs.Whole.{nothing_moved}
use Rattle.piper_transfer.proofs.both_sides.transfer.Goals as goal

pub returns-in_err-ready : goal.returns-in_err-ready
returns-in_err-ready g c =
    let memory : IfErr c.from_residual.result IsOfMemory = search rules in
    let never : OnOk c.from_residual.result ⊥ = search rules in
    record {
      moved = nothing_moved g.D.Destination.contents g.D.Destination.took _ c.from_residual.result _ (search rules);
      flushed = λ writes. absurd (refused_writes_none c.from_residual.result never memory writes);
      reported = refused_is_told c.from_residual.result _ _ _ memory;
    }
