use Rattle.std.proofs.Common.{◌≡◌, ◌≤◌, ◌++◌, ◌∷◌, [], inl, inr, List, ℕ, Vec, length, Ok, ap, ◌∙◌, refl, arith, length-append}
use Rattle.std.specs.declared.alloc.Global.{Global}
use Rattle.futures.specs.declared.task.Poll.TheVariants.{Ready}
use Rattle.piper_lines.specs.declared.frame_reader.FrameAnswer.TheVariants.{Frame, TooLong, Truncated, End}
use Rattle.piper_lines.specs.Split.{joined_frames}
use Rattle.piper_lines.specs.FrameReader.{reader_of, format_of, kept_of, skips_of}
use Rattle.piper_lines.proofs.Moving.{passes_none, passes_longer}
use Rattle.piper_lines.proofs.Staying.{pends_so}
use Rattle.piper_lines.proofs.Collecting.{passes_no_frame, passes_frame, adds_none, adds_piece}
use Rattle.piper_lines.proofs.collect.all_frames.poll_frames.Goals as goal

pub loop-init : goal.loop-init
loop-init g c = record {
  moved = passes_none (g.R.AsyncBufRead.taken (reader_of c.args.frames.now)) (kept_of c.args.frames.now) (joined_frames (format_of c.args.frames.now) c.args.out.now.items) (skips_of c.args.frames.now);
  within = adds_none (λ body. length body ≤ c.args.limit) c.args.out.now.items;
  body = inl refl;
  room = omega arith;
  format = refl;
  more = omega arith;
  stays = (refl, λ woken. woken);
  kept = λ fact held. held;
}

pub returns-in-Pending-clause-moved : goal.returns-in-Pending-clause-moved
returns-in-Pending-clause-moved g c =
    passes_no_frame (format_of c.args.frames.now) _ _ _ _ _ _ _ _ _ c.loop.out.items c.reserve.new.self.items c.loop.invariant.moved c.in-Pending.ensures.moved c.reserve.ensures.items

pub returns-in-Ready-Err-clause-moved : goal.returns-in-Ready-Err-clause-moved
returns-in-Ready-Err-clause-moved g c =
    let moved = rw c.in-Ready-Err.field-0-is at c.in-Ready-Err.ensures.moved in
    passes_no_frame (format_of c.args.frames.now) _ _ _ _ _ _ _ _ _ c.loop.out.items c.reserve.new.self.items c.loop.invariant.moved moved c.reserve.ensures.items

pub returns-in-Ready-Ok-TooLong-clause-moved : goal.returns-in-Ready-Ok-TooLong-clause-moved
returns-in-Ready-Ok-TooLong-clause-moved g c =
    let is_told : c.poll_frame.result ≡ Ready (Ok (TooLong c.in-Ready-Ok-TooLong.size)) = cc in
    let moved = rw is_told at c.poll_frame.ensures.moved in
    passes_no_frame (format_of c.args.frames.now) _ _ _ _ _ _ _ _ _ c.loop.out.items c.reserve.new.self.items c.loop.invariant.moved moved c.reserve.ensures.items

pub returns-in-Ready-Ok-Truncated-clause-moved : goal.returns-in-Ready-Ok-Truncated-clause-moved
returns-in-Ready-Ok-Truncated-clause-moved g c =
    let is_told : c.poll_frame.result ≡ Ready (Ok Truncated) = cc in
    let moved = rw is_told at c.poll_frame.ensures.moved in
    passes_no_frame (format_of c.args.frames.now) _ _ _ _ _ _ _ _ _ c.loop.out.items c.reserve.new.self.items c.loop.invariant.moved moved c.reserve.ensures.items

pub returns-in-Ready-Ok-End-clause-moved : goal.returns-in-Ready-Ok-End-clause-moved
returns-in-Ready-Ok-End-clause-moved g c =
    let is_told : c.poll_frame.result ≡ Ready (Ok End) = cc in
    let moved = rw is_told at c.poll_frame.ensures.moved in
    passes_no_frame (format_of c.args.frames.now) _ _ _ _ _ _ _ _ _ c.loop.out.items c.reserve.new.self.items c.loop.invariant.moved moved c.reserve.ensures.items

pub returns-in-Pending-clause-pending : goal.returns-in-Pending-clause-pending
returns-in-Pending-clause-pending g c =
    let pending = c.in-Pending.ensures.pending in
    let longer : length (g.R.AsyncBufRead.taken (reader_of c.args.frames.now)) ≤ length (g.R.AsyncBufRead.taken (reader_of c.loop.frames)) =
    passes_longer (g.R.AsyncBufRead.taken (reader_of c.args.frames.now)) (g.R.AsyncBufRead.taken (reader_of c.loop.frames)) (joined_frames (format_of c.args.frames.now) c.args.out.now.items ++ kept_of c.args.frames.now) (joined_frames (format_of c.args.frames.now) c.loop.out.items) (kept_of c.loop.frames)
    (skips_of c.args.frames.now) (skips_of c.loop.frames) c.loop.invariant.moved in
    (pending.0, pends_so g.R.AsyncBufRead.known g.R.AsyncBufRead.knows_end g.R.AsyncBufRead.waits _ _ _ _ (λ grew. inr (omega (arith, grew, longer))) pending.1)

pub loop-preserved : goal.loop-preserved
loop-preserved g c =
    let body : Vec ℕ Global = c.poll_frame.new.frame in
    let is_told : c.poll_frame.result ≡ Ready (Ok Frame) = cc in
    let moved = rw (is_told, c.loop.invariant.format) at c.poll_frame.ensures.moved in
    let hands = rw is_told at c.poll_frame.ensures.hands in
    let pushed : c.push.new.out.items ≡ c.loop.out.items ++ body ∷ [] = c.push.ensures.items ∙ ap (λ (out : List (Vec ℕ Global)). out ++ body ∷ []) c.reserve.ensures.items in
    record {
      moved = passes_frame (format_of c.args.frames.now) _ _ _ _ _ _ _ _ _ c.loop.out.items c.push.new.out.items body c.loop.invariant.moved moved pushed;
      within = adds_piece (λ body. length body ≤ c.args.limit) c.args.out.now.items c.loop.out.items c.push.new.out.items body c.loop.invariant.within pushed hands.0;
      body = inr hands.1.1;
      room = omega (arith, c.loop.invariant.room, c.reserve.ensures.capacity, c.push.ensures.capacity);
      format = c.poll_frame.ensures.rest.0 ∙ c.loop.invariant.format;
      more = omega (arith, c.loop.invariant.more, ap length pushed, length-append c.loop.out.items (body ∷ []));
      stays = (c.poll_frame.ensures.rest.1.0 ∙ c.loop.invariant.stays.0, λ woken. c.poll_frame.ensures.rest.1.1 (c.loop.invariant.stays.1 woken));
      kept = λ fact held. c.poll_frame.ensures.rest.2 fact (c.loop.invariant.kept fact held);
    }

pub returns-in-Ready-Ok-TooLong-clause-ended : goal.returns-in-Ready-Ok-TooLong-clause-ended
returns-in-Ready-Ok-TooLong-clause-ended g c =
    let is_told : c.poll_frame.result ≡ Ready (Ok (TooLong c.in-Ready-Ok-TooLong.size)) = cc in
    let hands = rw (is_told, c.loop.invariant.format) at c.poll_frame.ensures.hands in
    (hands.1, hands.2, rw hands.3 c.loop.invariant.body, hands.4)
