-- Who has closed: the reader by its drop; or the writer, by its drop or its close, and then it
-- publishes nothing more.
use Rattle.std.proofs.Common.{◌≡◌, ◌⊎◌, inl, inr, ℕ, List, Bool, true, false, is_some, refl, arith}
use Rattle.piper_machine.specs.Types.{AfterRead, AfterWrite, ReadPoint, WritePoint, Reader, Writer}
use Rattle.piper_protocol.specs.Table.{writer_taken}
use Rattle.piper_machine.specs.Pipe.{Pipe}
use Rattle.piper_machine.specs.Step.{went, offering}

abbrev pub read_leaves : ReadPoint → Bool
read_leaves ReadPoint.Dropped = true
read_leaves (ReadPoint.TakeWriter AfterRead.Drop) = true
read_leaves (ReadPoint.WakeWriter AfterRead.Drop) = true
read_leaves point = false

abbrev pub write_leaves : WritePoint → Bool
write_leaves WritePoint.Dropped = true
write_leaves (WritePoint.TakeReader AfterWrite.Drop) = true
write_leaves (WritePoint.WakeReader AfterWrite.Drop) = true
write_leaves point = false

abbrev pub IsEnded : Pipe → Type 0
IsEnded p = (write_leaves p.writer ≡ true) ⊎ (p.is_shut ≡ true)

abbrev pub IsCaused : Pipe → Type 0
IsCaused p = (read_leaves p.reader ≡ true) ⊎ IsEnded p

-- the writer stores closed only as it is dropped or closes
abbrev pub is_known : WritePoint → Bool
is_known (WritePoint.StoreClosed AfterWrite.Answer) = false
is_known (WritePoint.StoreClosed (AfterWrite.Round form sum)) = false
is_known point = true

-- the reader's own steps

abbrev pub reader_after : ReadPoint → Pipe → Pipe
reader_after point p = (went Reader (record p { reader = point })).pipe

pub reader-caused : (point : ReadPoint) (p : Pipe) → (p.is_closed ≡ true → IsCaused (record p { reader = point })) → (reader_after point p).is_closed ≡ true → IsCaused (reader_after point p)
reader-caused ReadPoint.Dropped p caused closed = inl refl
reader-caused ReadPoint.StoreClosed p caused closed = inl refl
reader-caused (ReadPoint.StoreHead n next) p caused closed = elim (caused closed) [ inl leaves ↦ absurd (cc) | inr ended ↦ inr ended ]
reader-caused (ReadPoint.TakeWriter next) p caused closed = take-caused next (is_some p.writer_waker) (caused closed)
  where
    take-caused : (next : AfterRead) (is_found : Bool) → (read_leaves (ReadPoint.TakeWriter next) ≡ true) ⊎ IsEnded p → (read_leaves (writer_taken next is_found).point ≡ true) ⊎ IsEnded p
    take-caused next is_found caused = grind arith
reader-caused (ReadPoint.WakeWriter AfterRead.Answer) p caused closed = elim (caused closed) [ inl leaves ↦ absurd (cc) | inr ended ↦ inr ended ]
reader-caused (ReadPoint.WakeWriter AfterRead.Drop) p caused closed = inl refl
reader-caused (ReadPoint.WakeWriter (AfterRead.Round form sum)) p caused closed = elim (caused closed) [ inl leaves ↦ absurd (cc) | inr ended ↦ inr ended ]
reader-caused point p caused closed = elim (caused closed) [ inl leaves ↦ absurd (cc) | inr ended ↦ inr ended ]

-- the writer's own steps

-- where a call of the source is lent these places first
abbrev pub writer_after : List ℕ → WritePoint → Pipe → Pipe
writer_after offered point p = (went Writer (offering offered (record p { writer = point }))).pipe

pub writer-known : (offered : List ℕ) (point : WritePoint) (p : Pipe) → is_known (writer_after offered point p).writer ≡ true
writer-known offered point p = grind arith

pub writer-caused : (offered : List ℕ) (point : WritePoint) (p : Pipe) → is_known point ≡ true → (p.is_closed ≡ true → IsCaused (record p { writer = point })) → (writer_after offered point p).is_closed ≡ true → IsCaused (writer_after offered point p)
writer-caused offered point p known caused closed = grind arith
