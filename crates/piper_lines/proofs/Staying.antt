-- What two calls leave as it was, and why a call over a pending one is pending.
use Rattle.std.proofs.Common.{◌∙◌, Bool, List, ℕ, inl, inr}
use Rattle.futures.specs.declared.task.context.Context.{Context}
use Rattle.piper_lines.specs.Stays.{Pends, ReaderStays, WriterStays}

-- what one call leaves, and then another
pub reader_stays : {R : Type 0} (knows_end : R → Bool) (woken : R → Type 0) (r0 r1 r2 : R) → ReaderStays knows_end woken r0 r1 → ReaderStays knows_end woken r1 r2 → ReaderStays knows_end woken r0 r2
reader_stays knows_end woken r0 r1 r2 first second = (second.0 ∙ first.0, λ before. second.1 (first.1 before))

pub writer_stays : {W : Type 0} (saw : W → Bool) (woken : W → Type 0) (w0 w1 w2 : W) → WriterStays saw woken w0 w1 → WriterStays saw woken w1 w2 → WriterStays saw woken w0 w2
writer_stays saw woken w0 w1 w2 first second = (λ before. second.0 (first.0 before), λ before. second.1 (first.1 before))

-- for the same reason, of which more is said
pub pends_so : {R : Type 0} (known : R → List ℕ) (knows_end : R → Bool) (waits : R → Context → Type 0) (r : R) (cx : Context) (P Q : Type 0) → (P → Q) → Pends known knows_end waits r P cx → Pends known knows_end waits r Q cx
pends_so known knows_end waits r cx P Q f (inl still) = inl still
pends_so known knows_end waits r cx P Q f (inr asked) = inr (f asked.0, asked.1)
