-- What comes of threads that fill a pipe, or drain one.
use Rattle.std.specs.Prelude.{◌≡◌, ◌⊎◌, Bool, true, ⊤, List, ℕ, length, ◌++◌, Option, None, Some, Result, Ok, Err, IfOk, IfErr}
use Rattle.std.specs.Io.KnownBytes.{IsAtEnd, Appends}
use Rattle.std.specs.declared.io.Error.{Error}
use Rattle.futures.specs.declared.task.context.Context.{Context}
use Rattle.piper.specs.Contexts.{WantsWaker}
use Rattle.piper.specs.Handles.{NotifiesWriter}
use Rattle.piper.specs.declared.error.PipeError.{PipeError}
use Rattle.piper.specs.declared.error.PipeError.TheVariants.{Io}
use Rattle.piper.specs.declared.io.copy.Copied.{Copied}
use Rattle.piper.specs.declared.io.copy.Copied.TheVariants.{ToTheEnd, UntilClosed}
use Rattle.piper.specs.declared.handles.Reader.{Reader}
use Rattle.piper.specs.declared.handles.Writer.{Writer}
use Rattle.piper_lines.specs.AtEnd.{AtEnd}
use Rattle.piper_futures.specs.Draining.{DrainsOn, StartsDraining}
use Rattle.piper_futures.specs.Filling.{FillsOn, StartsFilling}
use Rattle.piper_futures.specs.Moving.{IsIo, IsOfWrite}
use Rattle.piper_futures.specs.declared.failed.Failed.{Failed}
use Rattle.piper_futures.specs.declared.threads.Drained.{Drained}
use Rattle.piper_futures.specs.declared.threads.Filled.{Filled}

-- the writer that left this as it was dropped had seen the pipe closed before, or had not. It is
-- sealed: no proof looks into it, and only that of `closed_by_writer` uses the lemma below
pub HadSeen : {T : Type 0} → T → Bool → Type 0
HadSeen left saw = ⊤

pub as_had_seen : {T : Type 0} (left : T) (saw : Bool) → HadSeen left saw
unfolding HadSeen
as_had_seen left saw = tt

-- why it ended: its source had, or its writer saw the pipe closed
abbrev pub WhyFilled : Bool → Option (List ℕ) → Copied → Type 0
WhyFilled saw left ToTheEnd = IsAtEnd left
WhyFilled saw left UntilClosed = saw ≡ true

-- a thread waited for this future, which failed with this error. It is sealed: no proof looks into it,
-- and only that of `wait_for` uses the lemma below
pub HasFailedWith : {F : Type 0} → F → PipeError → Type 0
HasFailedWith future e = ⊤

pub as_failed_with : {F T L : Type 0} (future : F) (waited : Result (Result T (Failed L)) Error)
    → IfOk waited (λ given. IfErr given (λ failed. HasFailedWith future failed.error))
unfolding HasFailedWith
as_failed_with future (Ok (Ok x)) = tt
as_failed_with future (Ok (Err failed)) = tt
as_failed_with future (Err e) = tt

-- it is want of memory for a waker, which a future that moves between these two gave
abbrev pub IsOfWaker : {F E X : Type 0} → (F → E → X → Type 0) → E → X → PipeError → Type 0
IsOfWaker {F} Starts end other e =
    (future : F) × Starts future end other × HasFailedWith future e
    × ((cx : Context) × WantsWaker cx e)

-- a thread's own wait failed with this error. It is sealed: no proof looks into it, and only that of
-- `wait_for` uses the lemma below
pub WaitHasFailed : Error → Type 0
WaitHasFailed error = ⊤

pub as_wait_failed : {T : Type 0} (waited : Result T Error) → IfErr waited WaitHasFailed
unfolding WaitHasFailed
as_wait_failed (Ok x) = tt
as_wait_failed (Err e) = tt

-- the same of an error that is told
abbrev pub IsOfWait : PipeError → Type 0
IsOfWait (Io e) = WaitHasFailed e
IsOfWait other = ⊥

module _ {S : Type 0} (remaining : S → Option (List ℕ)) where
  -- the writer's last mark reports the front of what the source gave, after what was published
  -- before, and all of it unless the pipe was seen closed
  pub record FilledTo (w : Writer) (s : S) (left : Filled S) : Type 0 where
    pub saw : Bool
    pub seen : HadSeen left.mark saw
    pub moved :
        FillsOn (remaining s) (remaining left.source) w.side.end.sent left.mark.bytes
        w.side.end.saw saw
    pub closed : left.mark.shut ≡ true

  -- by what is left: the thread's own wait failed; or its fill did, for want of memory for a waker,
  -- or with an error of std
  abbrev pub LeftByFill : Writer → S → Option (Filled S) → PipeError → Type 0
  LeftByFill w s None e = IsOfWait e
  LeftByFill w s (Some left) e = FilledTo w s left × (IsOfWaker StartsFilling w s e ⊎ IsIo e)

  -- all was moved into the pipe; or the writer wanted memory, or the source failed, and what it
  -- gave before was moved
  abbrev pub FilledAndClosed : Writer → S
      → Result (Filled S × Copied) (Failed (Option (Filled S))) → Type 0
  FilledAndClosed w s (Ok done) =
      (to : FilledTo w s done.0) × WhyFilled to.saw (remaining done.0.source) done.1
  FilledAndClosed w s (Err failed) = LeftByFill w s failed.left failed.error

module _ {D : Type 0} (contents : D → Option (List ℕ)) where
  -- all that was taken since was written, in order
  pub record DrainedTo (r : Reader) (d : D) (left : Drained D) : Type 0 where
    pub moved : List ℕ
    pub count : left.mark.consumed.count ≡ length (r.side.end.taken ++ moved)
    pub written : Appends (contents d) (contents left.dest) moved

  -- likewise
  abbrev pub LeftByDrain : Reader → D → Option (Drained D) → PipeError → Type 0
  LeftByDrain r d None e = IsOfWait e
  LeftByDrain r d (Some left) e =
      DrainedTo r d left × (IsOfWaker StartsDraining r d e ⊎ IsOfWrite e)

  -- all was moved out of the pipe, up to its end; or the reader or the writer of std failed, and
  -- what was taken before was written
  abbrev pub DrainedOrClosed : Reader → D
      → Result (Reader × D) (Failed (Option (Drained D))) → Type 0
  DrainedOrClosed r d (Ok done) =
      DrainsOn r.side.end.taken done.0.side.end.taken (contents d) (contents done.1)
      × AtEnd done.0.side.end.known done.0.side.end.saw
      × (NotifiesWriter r → NotifiesWriter done.0)
  DrainedOrClosed r d (Err failed) = LeftByDrain r d failed.left failed.error
