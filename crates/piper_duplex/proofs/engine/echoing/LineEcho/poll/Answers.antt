use Rattle.std.proofs.Common.{◌∙◌, ◌<◌, ◌⊎◌, inl, inr, ℕ, List, length, refl, ap, arith, rules}
use Rattle.std.specs.List.{concat}
use Rattle.piper.specs.declared.error.PipeError.{PipeError}
use Rattle.piper_lines.specs.LineReader.{LinesAreSpent, end_of, kept_of}
use Rattle.piper_lines.specs.Split.{IsPiece}
use Rattle.piper_lines.proofs.Staying.{reader_stays, writer_stays}
use Rattle.piper_duplex.specs.Echoes.{IsRest}
use Rattle.piper_duplex.proofs.WritingBack.{echoing_none, echoing_written, echoing_looked, echoing_piece, echoing_ends, all_written, handed, moves_some, moves_longer}
use Rattle.piper_duplex.proofs.engine.echoing.LineEcho.poll.Goals as goal

pub returns-in-Pending-clause-echoes : goal.returns-in-Pending-clause-echoes
returns-in-Pending-clause-echoes g c =
    echoing_ends _ _ _ _ _ _ _ _ _ _ _ _ _ (echoing_written _ _ _ _ _ _ _ _ _ _ _ _ _ _ _ _ c.loop.invariant.echoing (rw c.as_slice.ensures.value at c.poll_write_all.ensures.sends) c.loop.invariant.stays.0 c.poll_write_all.ensures.stays.0)

pub returns-in-Ready-Err-clause-echoes : goal.returns-in-Ready-Err-clause-echoes
returns-in-Ready-Err-clause-echoes g c =
    echoing_ends _ _ _ _ _ _ _ _ _ _ _ _ _ (echoing_written _ _ _ _ _ _ _ _ _ _ _ _ _ _ _ _ c.loop.invariant.echoing (rw c.as_slice.ensures.value at c.poll_write_all.ensures.sends) c.loop.invariant.stays.0 c.poll_write_all.ensures.stays.0)

pub returns-in-Ready-Ok-Closed-clause-echoes : goal.returns-in-Ready-Ok-Closed-clause-echoes
returns-in-Ready-Ok-Closed-clause-echoes g c =
    echoing_ends _ _ _ _ _ _ _ _ _ _ _ _ _ (echoing_written _ _ _ _ _ _ _ _ _ _ _ _ _ _ _ _ c.loop.invariant.echoing (rw c.as_slice.ensures.value at c.poll_write_all.ensures.sends) c.loop.invariant.stays.0 c.poll_write_all.ensures.stays.0)

pub returns-in-Pending-poll_line-clause-echoes : goal.returns-in-Pending-poll_line-clause-echoes
returns-in-Pending-poll_line-clause-echoes g c =
    echoing_ends _ _ _ _ _ _ _ _ _ _ _ _ _ (echoing_looked _ _ _ _ _ _ _ _ _ _ _ _ _ _ _ _ _ (all_written c.poll_write_all.new.written c.loop.self.line.items (search rules)) (λ spent. (c.poll_line.ensures.after spent).0) (echoing_written _ _ _ _ _ _ _ _ _ _ _ _ _ _ _ _ c.loop.invariant.echoing (rw c.as_slice.ensures.value at c.poll_write_all.ensures.sends) c.loop.invariant.stays.0 c.poll_write_all.ensures.stays.0) c.in-Pending-poll_line.ensures.hands.0 c.poll_line.ensures.moved)

pub returns-in-Ready-Err-poll_line-clause-echoes : goal.returns-in-Ready-Err-poll_line-clause-echoes
returns-in-Ready-Err-poll_line-clause-echoes g c =
    echoing_ends _ _ _ _ _ _ _ _ _ _ _ _ _ (echoing_looked _ _ _ _ _ _ _ _ _ _ _ _ _ _ _ _ _ (all_written c.poll_write_all.new.written c.loop.self.line.items (search rules)) (λ spent. (c.poll_line.ensures.after spent).0) (echoing_written _ _ _ _ _ _ _ _ _ _ _ _ _ _ _ _ c.loop.invariant.echoing (rw c.as_slice.ensures.value at c.poll_write_all.ensures.sends) c.loop.invariant.stays.0 c.poll_write_all.ensures.stays.0) (rw c.in-Ready-Err-poll_line.field-0-is at c.in-Ready-Err-poll_line.ensures.hands).0 c.poll_line.ensures.moved)

pub returns-in-End-clause-echoes : goal.returns-in-End-clause-echoes
returns-in-End-clause-echoes g c =
    let hands = rw (c.in-Ready-Ok.field-0-is, c.in-End.is) at c.in-Ready-Ok.ensures.hands in
    echoing_ends _ _ _ _ _ _ _ _ _ _ _ _ _ (echoing_looked _ _ _ _ _ _ _ _ _ _ _ _ _ _ _ _ _ (all_written c.poll_write_all.new.written c.loop.self.line.items (search rules)) (λ spent. (c.poll_line.ensures.after spent).0) (echoing_written _ _ _ _ _ _ _ _ _ _ _ _ _ _ _ _ c.loop.invariant.echoing (rw c.as_slice.ensures.value at c.poll_write_all.ensures.sends) c.loop.invariant.stays.0 c.poll_write_all.ensures.stays.0) hands.0 c.poll_line.ensures.moved)

pub returns-clause-echoes : goal.returns-clause-echoes
returns-clause-echoes g c = echoing_ends _ _ _ _ _ _ _ _ _ _ _ _ _ (c.loop.invariant.echoing)

pub loop-init : goal.loop-init
loop-init g c = record {
  echoing = echoing_none _ _ _ _ _ _ _ _;
  end = refl;
  short = λ short. short;
  after = λ spent. (spent, refl);
  none_kept = λ some. absurd (omega (arith, some));
  more = λ some. absurd (omega (arith, some));
  stays = (λ seen. seen, λ woken. woken);
  knows = (refl, λ woken. woken);
  kept = λ fact held. held;
}

pub loop-preserved : goal.loop-preserved
loop-preserved g c =
    let hands = rw (c.in-Ready-Ok.field-0-is, c.loop.invariant.end) at c.in-Ready-Ok.ensures.hands in
    let ended = rw c.in-Ready-Ok.field-0-is at c.in-Ready-Ok.ensures.ended in
    let after = rw c.in-Ready-Ok.field-0-is at c.in-Ready-Ok.ensures.after in
    let Spent : Type 0 = LinesAreSpent g.R.AsyncBufRead.ended c.loop.lines in
    let Later : Type 0 = LinesAreSpent g.R.AsyncBufRead.ended c.poll_line.new.self in
    let line : List ℕ = c.poll_line.new.line.items in
    let Whole : List ℕ → Type 0 = λ piece. length (kept_of c.args.lines.now) < c.args.limit → IsPiece (end_of c.args.lines.now) c.args.limit piece in
    let not_spent : ¬ Spent = λ spent. c.in_default.not-End (after spent).1 in
    let piece = handed PipeError c.in-Ready-Ok.answer _ _ _ _ _ _ _ Later c.requires c.in_default.not-End hands ended in
    let fits : Whole line ⊎ (IsRest (end_of c.args.lines.now) line × Later) = elim piece.2 [
      | inl whole ↦ inl (λ short. whole (c.loop.invariant.short short))
      | inr rest ↦ inr rest
    ] in
    record {
      echoing = echoing_piece _ _ _ _ _ _ _ _ _ _ _ _ _ _ _ _ _ (all_written c.poll_write_all.new.written c.loop.self.line.items (search rules)) not_spent (echoing_written _ _ _ _ _ _ _ _ _ _ _ _ _ _ _ _ c.loop.invariant.echoing (rw c.as_slice.ensures.value at c.poll_write_all.ensures.sends) c.loop.invariant.stays.0 c.poll_write_all.ensures.stays.0) fits c.poll_line.ensures.moved;
      end = c.poll_line.ensures.rest.0 ∙ c.loop.invariant.end;
      short = λ short. omega (arith, ap length piece.0, c.requires);
      after = λ spent. absurd (not_spent (c.loop.invariant.after spent).0);
      none_kept = λ some. piece.0;
      more = λ some. omega (arith, moves_some _ _ _ _ _ c.poll_line.ensures.moved (c.loop.invariant.none_kept (omega (arith, some))) piece.1, moves_longer _ _ _ (concat c.loop.invariant.echoing.pieces) (kept_of c.loop.lines) c.loop.invariant.echoing.moved);
      stays = writer_stays g.W.AsyncWrite.saw g.W.AsyncWrite.woken _ _ _ c.loop.invariant.stays c.poll_write_all.ensures.stays;
      knows = reader_stays g.R.AsyncBufRead.knows_end g.R.AsyncBufRead.woken _ _ _ c.loop.invariant.knows c.poll_line.ensures.rest.1;
      kept = search rules;
    }
