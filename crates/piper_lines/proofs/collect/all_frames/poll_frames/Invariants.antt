-- The bytes that were taken so far are those that passed, those of the frames, and those that are
-- kept.
use Rattle.std.proofs.Common.{◌≡◌, ◌≤◌, ◌⊎◌, ◌+◌, ◌++◌, [], length, vec_capacity}
use Rattle.futures.specs.Task.{Keeps}
use Rattle.piper_lines.specs.FrameReader.{reader_of, format_of, kept_of, body_of, skips_of}
use Rattle.piper_lines.specs.Moves.{PassesMoves}
use Rattle.piper_lines.specs.Stays.{ReaderStays}
use Rattle.piper_lines.specs.Split.{joined_frames, Adds}
use Rattle.piper_lines.proofs.collect.all_frames.poll_frames.Given as goal

abbrev pub invariant-loop : goal.invariant-loop
invariant-loop g l = record {
  moved : PassesMoves (g.R.AsyncBufRead.taken (reader_of l.initial.frames)) (g.R.AsyncBufRead.taken (reader_of l.frames))
      (skips_of l.initial.frames) (skips_of l.frames)
      (joined_frames (format_of l.initial.frames) l.initial.out.items ++ kept_of l.initial.frames) (joined_frames (format_of l.initial.frames) l.out.items) (kept_of l.frames);
  within : Adds (λ body. length body ≤ l.limit) l.initial.out.items l.out.items;
  body : (body_of l.frames ≡ body_of l.initial.frames) ⊎ (body_of l.frames ≡ []);
  room : vec_capacity l.initial.out ≤ vec_capacity l.out;
  format : format_of l.frames ≡ format_of l.initial.frames;
  more : length l.initial.out.items + l.counter ≤ length l.out.items;
  stays : ReaderStays g.R.AsyncBufRead.knows_end g.R.AsyncBufRead.woken (reader_of l.initial.frames) (reader_of l.frames);
  kept : Keeps l.initial.cx l.cx;
}
