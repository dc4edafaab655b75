-- What is drained in two polls is drained in order.
use Rattle.std.proofs.Common.{◌∙◌, sym, ap, ℕ, Bool, List, [], ◌++◌, append_assoc, append-nil, Option, Result, Ok, Err}
use Rattle.std.proofs.KnownBytes.{Appends-nil, Appends-trans}
use Rattle.futures.specs.declared.task.context.Context.{Context}
use Rattle.piper.specs.declared.error.PipeError.{PipeError}
use Rattle.piper_lines.specs.Stays.{ReaderStays}
use Rattle.piper_lines.proofs.Staying.{reader_stays}
use Rattle.piper_futures.specs.Draining.{DrainsOn, DrainedAll}
use Rattle.piper_futures.specs.declared.failed.Failed.{Failed}

pub drains_none : (taken : List ℕ) (held : Option (List ℕ)) → DrainsOn taken taken held held
drains_none taken held = ([], sym (append-nil taken), Appends-nil held)

pub drains_then : (t0 t1 t2 : List ℕ) (h0 h1 h2 : Option (List ℕ)) → DrainsOn t0 t1 h0 h1 → DrainsOn t1 t2 h1 h2 → DrainsOn t0 t2 h0 h2
drains_then t0 t1 t2 h0 h1 h2 first second = (
  first.0 ++ second.0,
  second.1 ∙ ap (λ ws. ws ++ second.0) first.1 ∙ append_assoc t0 first.0 second.0,
  Appends-trans h0 h1 h2 first.0 second.0 first.2 second.2,
)

module _ {R D : Type 0} (taken known : R → List ℕ) (saw knows_end : R → Bool) (woken : R → Type 0) (fails : R → Context → PipeError → Type 0) (contents : D → Option (List ℕ)) where
  -- what may be given after a poll may be given before it
  pub drained_then : (r0 r1 : R) (d0 d1 : D) → DrainsOn (taken r0) (taken r1) (contents d0) (contents d1) → ReaderStays knows_end woken r0 r1 → (output : Result (R × D) (Failed (R × D)))
      → DrainedAll taken known saw knows_end woken fails contents r1 d1 output → DrainedAll taken known saw knows_end woken fails contents r0 d0 output
  drained_then r0 r1 d0 d1 first stays (Ok done) gave =
      (drains_then (taken r0) (taken r1) (taken done.0) (contents d0) (contents d1) (contents done.1) first gave.0, gave.1, reader_stays knows_end woken r0 r1 done.0 stays gave.2)
  drained_then r0 r1 d0 d1 first stays (Err failed) gave =
      (drains_then (taken r0) (taken r1) (taken failed.left.0) (contents d0) (contents d1) (contents failed.left.1) first gave.0, gave.1, reader_stays knows_end woken r0 r1 failed.left.0 stays gave.2)
