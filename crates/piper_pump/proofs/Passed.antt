-- What is reported after a transfer changes nothing of what was written.
use Rattle.std.proofs.Common.{◌≡◌, ◌++◌, ℕ, List, Option, Result, subst, sym}
use Rattle.std.specs.Io.KnownBytes.{Appends}
use Rattle.std.specs.List.{All}
use Rattle.piper_transfer.specs.Transfer.{Transfers, WritesAll}
use Rattle.piper_transfer.specs.declared.error.TransferError.{TransferError}
use Rattle.piper_pump.specs.Ended.{EndsAs}
use Rattle.piper_pump.specs.Passed.{HasGot, HaveGot, Passes, lacks_some}
use Rattle.piper_pump.specs.declared.ended.Ended.{Ended}
use Rattle.piper_pump.specs.declared.outlet.Outlet.{Outlet}

pub passes : {R D : Type 0} (i j : Option (List ℕ)) (C : D → Option (List ℕ)) (T : D → List (List ℕ) → List ℕ → Type 0) (F : D → Type 0)
    (old moved new : Outlet R D) (r : Result Unit TransferError) (e : Ended)
    → Transfers r i j (λ (o : Outlet R D). C o.drain) (λ (o : Outlet R D) names passed. HaveGot T names passed o) old moved
    → (WritesAll r → F moved.drain) → new.drain ≡ moved.drain → new.tees ≡ moved.tees → EndsAs r (lacks_some new) e
    → Passes i j C T F old new e
passes i j C T F old moved new r e t flushes drain tees ends = record {
  moved = r;
  transfers = record {
    written = t.written;
    left = t.left;
    given = t.given;
    gets = record {
      appended = subst (λ d. Appends (C old.drain) (C d) t.written) (sym drain) t.gets.appended;
      more = λ names m got. subst (λ ts. All (HasGot T names (m ++ t.written)) ts.items) (sym tees) (t.gets.more names m got);
    };
    all = t.all;
    ended = t.ended;
  };
  flushes = λ writes. subst F (sym drain) (flushes writes);
  ends = ends;
}
