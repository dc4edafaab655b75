-- Each call of the writer begins in the machine. A lend has no line: it is put in, with the bytes
-- that are put into it, before the call that publishes them.
use Rattle.std.proofs.Common.{◌≡◌, ℕ, ◌+◌, ◌≤◌, List, ◌∷◌, ◌++◌, length, replicate, Bool, true, None, Some, nat_lt, refl, sym, ap, subst, ◌∙◌, arith, suc, length-append, []}
use Rattle.std.proofs.lemmas.List.{append-nil, length-replicate, append_assoc}
use Rattle.piper_machine.specs.Types.{Kind, WritePoint, Call, Event, Luck, DestAct, SourceAct, Lent, Polling, Writer, Begin, Answered, Began, Put}
use Rattle.piper_protocol.specs.declared.table.Purpose.TheVariants.{Copy}
use Rattle.piper_machine.specs.Call.{has_good_draw}
use Rattle.piper_machine.specs.declared.refusals.StepRefusal.TheVariants.{BadDraw, PastLent}
use Rattle.piper_machine.specs.Lend.{Lendable}
use Rattle.piper_machine.specs.Pipe.{Pipe}
use Rattle.piper_machine.specs.Refusal.{cannot_begin, or_else, past, refusal_of, unless, writer_state}
use Rattle.piper_machine.specs.Round.{given}
use Rattle.piper_machine.specs.Step.{MayLend as MachineMayLend, stepped}
use Rattle.piper_machine.specs.logs.Line.{Opening, polls, try_fills, try_fills_with, poll_fills_bytes, poll_fills, produces, closes, drops, began}
use Rattle.piper_machine.specs.logs.OneList.{Words}
use Rattle.piper_machine.specs.logs.Reading.{ReaderAt}
use Rattle.piper_machine.specs.logs.Writing.{IsWriterNext, WriterAt, writer_begun, contiguous}
use Rattle.piper_machine.proofs.logs.Fitting.{length-lent, sound}
use Rattle.piper_machine.proofs.logs.Joint.{MayLend, Chance, Fits, number_of, pipe_at}
use Rattle.piper_machine.specs.Run.{Made}
use Rattle.piper_machine.proofs.logs.Leading.{ahead, leads-fills, Leads, leads-both, leads-none, leads-step}
use Rattle.piper_machine.proofs.logs.ReaderOpens.{good-draw, within, writer-idle-same, below}
use Rattle.piper_machine.proofs.logs.WriterOpens.{lends-these, closes-at, may-lend, number-is, shuts-at, stores-at}
use Rattle.std.proofs.Math.Seq.{set-append_seam}
use Rattle.piper_machine.proofs.logs.WriterSteps.{WriterLeads}

module _ (capacity : ℕ) (r : ReaderAt) (k : Chance) (acts : List DestAct) (w : WriterAt) (s : Words) where
  abbrev at_first : Chance → List SourceAct → Pipe
  at_first l sources = pipe_at capacity r w s k acts l sources

  module _ (fits : Fits capacity r w s) where
    opened : (l : Chance) (sources : List SourceAct) (opening : Opening) (c : Call) (kind : Event)
        → IsWriterNext capacity (began opening) w
        → refusal_of (Begin c) (at_first l sources) ≡ or_else (cannot_begin (writer_state (at_first l sources).writer)) (or_else (unless (has_good_draw c) BadDraw) (past c (at_first l sources)))
        → unless (has_good_draw c) BadDraw ≡ None → past c (at_first l sources) ≡ None
        → ((lent : List ℕ) → pipe_at capacity r (writer_begun opening w) s k acts l sources ≡ (stepped lent (Begin c) (at_first l sources)).pipe)
        → ((lent : List ℕ) → kind ∷ [] ≡ (stepped lent (Begin c) (at_first l sources)).events)
        → ((lent : List ℕ) (q : Pipe) → MachineMayLend lent (Begin c) q)
        → (before : List Event) → Made (at_first l sources) (Begin c) (pipe_at capacity r (writer_begun opening w) s k acts l sources) before (before ++ kind ∷ [])
    opened l sources opening c kind next refusal draw past_none pipe events may before = grind arith

    opens : (l : Chance) (sources : List SourceAct) (opening : Opening) (c : Call) (kind : Event)
        → IsWriterNext capacity (began opening) w
        → refusal_of (Begin c) (at_first l sources) ≡ or_else (cannot_begin (writer_state (at_first l sources).writer)) (or_else (unless (has_good_draw c) BadDraw) (past c (at_first l sources)))
        → unless (has_good_draw c) BadDraw ≡ None → past c (at_first l sources) ≡ None
        → ((lent : List ℕ) → pipe_at capacity r (writer_begun opening w) s k acts l sources ≡ (stepped lent (Begin c) (at_first l sources)).pipe)
        → ((lent : List ℕ) → kind ∷ [] ≡ (stepped lent (Begin c) (at_first l sources)).events)
        → Fits capacity r (writer_begun opening w) s
        → ((lent : List ℕ) (q : Pipe) → MachineMayLend lent (Begin c) q)
        → Leads capacity (at_first l sources) (pipe_at capacity r (writer_begun opening w) s k acts l sources) (kind ∷ [])
    opens l sources opening c kind next refusal draw past_none pipe events after may =
        leads-step capacity (Begin c) (at_first l sources) (pipe_at capacity r (writer_begun opening w) s k acts l sources) (kind ∷ []) (sound capacity r _ s k acts l sources after) (opened l sources opening c kind next refusal draw past_none pipe events may)

    -- the luck of a call that begins
    abbrev new_luck : Chance → Luck
    new_luck l = record { draw = number_of l.draws; register_granted = l.registers; yield_granted = true }

    -- the writer idle, and lent these bytes and so many more places
    lent-fits : (given : List ℕ) (spare : ℕ) → w.point ≡ WritePoint.Idle → length given + spare ≤ contiguous capacity w → (w.is_shut ≡ true → length given + spare ≡ 0) → Fits capacity r (record w { given = given; spare = spare }) s
    lent-fits given spare rests within shut = grind arith

    abbrev lent_pipe : Chance → List SourceAct → List ℕ → ℕ → Pipe
    lent_pipe l sources given spare = pipe_at capacity r (record w { given = given; spare = spare }) s k acts l sources

    -- the bytes are put into what is lent, one after the other
    puts : (l : Chance) (sources : List SourceAct) (given rest : List ℕ) → w.point ≡ WritePoint.Idle → length given + length rest ≤ contiguous capacity w → (w.is_shut ≡ true → length given + length rest ≡ 0)
        → Leads capacity (lent_pipe l sources given (length rest)) (lent_pipe l sources (given ++ rest) 0) []
    puts l sources given [] rests within shut =
        subst (λ (x : List ℕ). Leads capacity (lent_pipe l sources given 0) (lent_pipe l sources x 0) []) (sym (append-nil given)) (leads-none capacity (lent_pipe l sources given 0))
    puts l sources given (b ∷ bytes) rests within shut =
        let m : ℕ = length bytes in
        let more : List ℕ = given ++ b ∷ [] in
        let p : Pipe = lent_pipe l sources given (suc m) in
        let q : Pipe = lent_pipe l sources more m in
        let long : length more ≡ length given + 1 = length-append given (b ∷ []) in
        let idle : p.writer ≡ WritePoint.Idle = writer-idle-same w.calling.draw l.draws w.point rests in
        let fit = lent-fits more m rests (omega arith) (λ x. let none = shut x in omega arith) in
        let all : length p.lent ≡ length given + suc m = length-lent (record w { given = given; spare = suc m }) in
        let step : Leads capacity p q [] = leads-step capacity (Put (length given) b) p q [] (sound capacity r _ s k acts l sources fit) (λ before. record {
          accepted = ap (λ (x : WritePoint). or_else (cannot_begin (writer_state x)) (unless (nat_lt (length given) (length p.lent)) PastLent)) idle ∙ below (length given) (length p.lent) PastLent (omega arith);
          made = record {
            lent = tt;
            pipe = ap (λ (x : List ℕ). record p { lent = x }) (append_assoc given (b ∷ []) (replicate m 0) ∙ sym (set-append_seam given 0 (replicate m 0) b));
            events = refl;
          };
        }) in
        let rest : Leads capacity q (lent_pipe l sources (more ++ bytes) 0) [] = puts l sources more bytes rests (omega arith) (λ x. let none = shut x in omega arith) in
        subst (λ (x : List ℕ). Leads capacity p (lent_pipe l sources x 0) []) (append_assoc given (b ∷ []) bytes) (leads-both capacity p q (lent_pipe l sources (more ++ bytes) 0) [] [] step rest)

    -- a lend of just these places, and these bytes put into it
    lends : (bytes : List ℕ) (l : Chance) (sources : List SourceAct) → w.point ≡ WritePoint.Idle → MayLend capacity (length bytes) w (length bytes)
        → Leads capacity (at_first l sources) (lent_pipe l sources bytes 0) (Began Writer Kind.WriteBuf None ∷ Answered Writer (Lent (length bytes)) ∷ [])
    lends bytes l sources rests may =
        let n : ℕ = length bytes in
        let p : Pipe = at_first l sources in
        let q : Pipe = lent_pipe l sources [] n in
        let events : List Event = Began Writer Kind.WriteBuf None ∷ Answered Writer (Lent n) ∷ [] in
        let idle : p.writer ≡ WritePoint.Idle = writer-idle-same w.calling.draw l.draws w.point rests in
        let long : n ≡ length q.lent = sym (length-replicate n 0) in
        let within : 0 + n ≤ contiguous capacity w = omega (arith, may.at_most) in
        let shut : w.is_shut ≡ true → 0 + n ≡ 0 = λ x. let none = may.shut x in omega arith in
        let first : Leads capacity p q events = leads-step capacity (Begin (Call.WriteBuf n)) p q events (sound capacity r _ s k acts l sources (lent-fits [] n rests within shut)) (λ before. record {
          accepted = ap (λ (x : WritePoint). or_else (cannot_begin (writer_state x)) None) idle;
          made = record {
            lent = subst (Lendable n p) long (may-lend capacity r w s k acts l sources fits n n may);
            pipe = refl;
            events = ap (λ (x : ℕ). before ++ Began Writer Kind.WriteBuf None ∷ Answered Writer (Lent x) ∷ []) long;
          };
        }) in
        leads-both capacity p q (lent_pipe l sources bytes 0) events [] first (puts l sources [] bytes rests within shut)

    pub begins : (opening : Opening) → IsWriterNext capacity (began opening) w → Fits capacity r (writer_begun opening w) s → WriterLeads capacity r k acts w s (began opening)
    begins (polls waker) next after l sources =
        ahead l sources (opens l sources (polls waker) (Call.Poll Writer waker (new_luck l)) (Began Writer Kind.Poll (Some waker)) next refl
        (ap (λ (x : Bool). unless x BadDraw) (good-draw l.draws)) refl
        (λ lent. refl)
        (λ lent. refl) after (λ lent q. tt))
    begins (try_fills bytes) next after l sources =
        ahead l sources (opens l sources (try_fills bytes) (Call.TryFill bytes) (Began Writer Kind.TryFill None) next refl
        refl refl
        (λ lent. refl)
        (λ lent. refl) after (λ lent q. tt))
    begins try_fills_with next after l sources =
        let mid : Pipe = pipe_at capacity r (writer_begun (try_fills []) w) s k acts l sources in
        ahead l sources (leads-fills capacity sources (at_first l sources) mid (Began Writer Kind.TryFill None ∷ []) (sound capacity r _ s k acts l sources after)
        (opened l sources (try_fills []) (Call.TryFill []) (Began Writer Kind.TryFill None) next refl refl refl (λ lent. refl) (λ lent. refl) (λ lent q. tt)))
    begins (poll_fills_bytes waker bytes) next after l sources =
        let q : Pipe = pipe_at capacity r (writer_begun (poll_fills_bytes waker bytes) w) s k acts l sources in
        ahead l sources (opens l sources (poll_fills_bytes waker bytes) (Call.PollFillBytes waker (new_luck l) bytes) (Began Writer Kind.PollFillBytes (Some waker)) next refl
        (ap (λ (x : Bool). unless x BadDraw) (good-draw l.draws)) refl
        (λ lent. ap (λ (x : Bool). record q { writer = WritePoint.LookClosed (Copy (Polling x)) }) (number-is l.draws))
        (λ lent. refl) after (λ lent q. tt))
    begins (poll_fills waker) next after l sources =
        let q : Pipe = pipe_at capacity r (writer_begun (poll_fills waker) w) s k acts l sources in
        ahead l sources (opens l sources (poll_fills waker) (Call.PollFill waker (new_luck l) sources) (Began Writer Kind.PollFill (Some waker)) next refl
        (ap (λ (x : Bool). unless x BadDraw) (good-draw l.draws)) refl
        (λ lent. ap (λ (x : Bool). record q { writer = WritePoint.LookClosed (Copy (Polling x)) }) (number-is l.draws))
        (λ lent. refl) after (λ lent q. tt))
    begins closes next after l sources =
        let p : Pipe = at_first l sources in
        ahead l sources (opens l sources closes Call.Close (Began Writer Kind.Close None) next refl
        refl refl
        (λ lent. ap (λ (x : WritePoint). record p { writer = x }) (shuts-at w.calling.draw l.draws))
        (λ lent. refl) after (λ lent q. tt))
    begins drops next after l sources =
        let p : Pipe = at_first l sources in
        ahead l sources (opens l sources drops (Call.Drop Writer) (Began Writer Kind.Drop None) next refl
        refl refl
        (λ lent. ap (λ (x : WritePoint). record p { writer = x }) (closes-at w.calling.draw l.draws))
        (λ lent. refl) after (λ lent q. tt))
    begins (produces bytes) next after l sources =
        let given : WriterAt = record w { given = bytes; spare = 0 } in
        let mid : Pipe = pipe_at capacity r given s k acts l sources in
        let q : Pipe = pipe_at capacity r (writer_begun (produces bytes) w) s k acts l sources in
        let idle : mid.writer ≡ WritePoint.Idle = writer-idle-same w.calling.draw l.draws w.point next.0 in
        let long : length bytes ≤ length mid.lent = omega (arith, length-lent given) in
        ahead l sources (leads-both capacity (at_first l sources) mid q (Began Writer Kind.WriteBuf None ∷ Answered Writer (Lent (length bytes)) ∷ []) (Began Writer Kind.Produced None ∷ [])
        (lends bytes l sources next.0 (lends-these capacity (length bytes) w next.1))
        (leads-step capacity (Begin (Call.Produced (length bytes))) mid q _ (sound capacity r _ s k acts l sources after) (λ before. record {
          accepted = ap (λ (x : WritePoint). or_else (cannot_begin (writer_state x)) (past (Call.Produced (length bytes)) mid)) idle ∙ within (length bytes) (length mid.lent) PastLent long;
          made = record {
            lent = tt;
            pipe = ap (λ (x : WritePoint). record mid { writer = x }) (stores-at w.calling.draw l.draws (length bytes));
            events = refl;
          };
        })))
    begins opening next after l sources = absurd next.1
