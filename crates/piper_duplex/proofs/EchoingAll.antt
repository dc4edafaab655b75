-- The echo of all lines, poll by poll.
use Rattle.std.proofs.Common.{◌≡◌, ℕ, ◌<◌, ◌⊎◌, Bool, true, List, [], ◌++◌, length, Result, Ok, Err, refl, subst, append_assoc}
use Rattle.std.specs.List.{concat}
use Rattle.futures.specs.Poll.{IfReady, OnPending}
use Rattle.futures.specs.declared.task.Poll.{Poll}
use Rattle.futures.specs.declared.task.Poll.TheVariants.{Ready, Pending}
use Rattle.futures.specs.declared.task.context.Context.{Context}
use Rattle.piper.specs.Polls.{IfReadyErr}
use Rattle.piper.specs.declared.error.PipeError.{PipeError}
use Rattle.piper_lines.specs.AtEnd.{AtEnd}
use Rattle.piper_lines.specs.LineReader.{LinesAreSpent, kept_of, reader_of}
use Rattle.piper_lines.specs.Refusals.{IsReported, LacksRoom}
use Rattle.piper_lines.specs.Sends.{Sends}
use Rattle.piper_lines.proofs.Moving.{moves_then}
use Rattle.piper_lines.proofs.Sending.{sends_front, sends_then}
use Rattle.piper_duplex.specs.EchoAll.{EchoesAll, Returns}
use Rattle.piper_duplex.specs.Echoes.{Echoes, left_of}
use Rattle.piper_duplex.specs.declared.engine.echoing.Echoed.{Echoed}
use Rattle.piper_duplex.specs.declared.engine.echoing.Echoed.TheVariants.{ToTheEnd, UntilClosed}
use Rattle.piper_duplex.specs.declared.engine.waiting.EchoAll.{EchoAll}

-- whole pieces are bytes
pub returns_pieces : (Whole Rest : List ℕ → Type 0) (t0 t1 k0 k1 left0 left1 s0 s1 : List ℕ) (saw0 saw1 : Bool)
    → Echoes Whole Rest t0 t1 k0 k1 left0 left1 s0 s1 saw0 saw1 → (saw0 ≡ true → saw1 ≡ true) → Returns t0 t1 k0 k1 left0 left1 s0 s1 saw0 saw1
returns_pieces Whole Rest t0 t1 k0 k1 left0 left1 s0 s1 saw0 saw1 e stays = record { bytes = concat e.pieces; moved = e.moved; sent = e.sent; stays = stays }

-- one poll after another
pub returns_then : (t0 t1 t2 k0 k1 k2 left0 left1 left2 s0 s1 s2 : List ℕ) (saw0 saw1 saw2 : Bool)
    → Returns t0 t1 k0 k1 left0 left1 s0 s1 saw0 saw1 → Returns t1 t2 k1 k2 left1 left2 s1 s2 saw1 saw2 → Returns t0 t2 k0 k2 left0 left2 s0 s2 saw0 saw2
returns_then t0 t1 t2 k0 k1 k2 left0 left1 left2 s0 s1 s2 saw0 saw1 saw2 p q =
    let first : Sends (left0 ++ (p.bytes ++ q.bytes)) (left1 ++ q.bytes) s0 s1 saw0 saw1 =
    subst (λ ws. Sends ws (left1 ++ q.bytes) s0 s1 saw0 saw1) (append_assoc left0 p.bytes q.bytes) (sends_front (left0 ++ p.bytes) left1 q.bytes s0 s1 saw0 saw1 p.sent) in
    record {
      bytes = p.bytes ++ q.bytes;
      moved = moves_then t0 t1 t2 k0 k1 k2 p.bytes q.bytes p.moved q.moved;
      sent = sends_then (left0 ++ (p.bytes ++ q.bytes)) (left1 ++ q.bytes) left2 s0 s1 s2 saw0 saw1 saw2 first q.sent p.stays q.stays;
      stays = λ seen. q.stays (p.stays seen);
    }

module _ {R W : Type 0} (taken known : R → List ℕ) (saw_end : R → Bool) (ended : R → Type 0)
    (read_fails : R → Context → PipeError → Type 0)
    (sent : W → List ℕ) (saw : W → Bool) (write_fails : W → Context → PipeError → Type 0)
    (a b : EchoAll R W)
    (returns : Returns (taken (reader_of a.lines)) (taken (reader_of b.lines)) (kept_of a.lines) (kept_of b.lines) (left_of a.echo) (left_of b.echo)
    (sent a.writer) (sent b.writer) (saw a.writer) (saw b.writer)) where
  -- what a later poll gives, this one may give
  pub gives_later : (r : Poll (Result Echoed PipeError)) → OnPending r ((x : Result Echoed PipeError)
      → EchoesAll taken known saw_end ended read_fails sent saw write_fails b x → EchoesAll taken known saw_end ended read_fails sent saw write_fails a x)
  gives_later (Ready x) = tt
  gives_later Pending = λ x e. record {
    lines = e.lines;
    writer = e.writer;
    left = e.left;
    returns = returns_then _ _ _ _ _ _ _ _ _ _ _ _ _ _ _ returns e.returns;
    ends = e.ends;
  }

  -- what a poll gives
  pub gives_now : (cx : Context) (r : Poll (Result Echoed PipeError))
      → (r ≡ Ready (Ok ToTheEnd) → (left_of b.echo ≡ []) × AtEnd (known (reader_of b.lines)) (saw_end (reader_of b.lines)) × LinesAreSpent ended b.lines)
      → (r ≡ Ready (Ok UntilClosed) → (saw b.writer ≡ true) × (0 < length (left_of b.echo)))
      → IfReadyErr r (λ e. write_fails b.writer cx e ⊎ IsReported e (read_fails (reader_of b.lines) cx) (LacksRoom 65_536 0 (kept_of b.lines) (known (reader_of b.lines))))
      → IfReady r (EchoesAll taken known saw_end ended read_fails sent saw write_fails a)
  gives_now cx (Ready (Ok ToTheEnd)) end closed failed = record { lines = b.lines; writer = b.writer; left = left_of b.echo; returns = returns; ends = end refl }
  gives_now cx (Ready (Ok UntilClosed)) end closed failed = record { lines = b.lines; writer = b.writer; left = left_of b.echo; returns = returns; ends = closed refl }
  gives_now cx (Ready (Err e)) end closed failed = record { lines = b.lines; writer = b.writer; left = left_of b.echo; returns = returns; ends = (cx, failed) }
  gives_now cx Pending end closed failed = tt
