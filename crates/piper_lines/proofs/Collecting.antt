-- Lines or frames that come one after the other.
use Rattle.std.proofs.Common.{◌≡◌, ◌≢◌, ℕ, ◌<◌, inl, inr, Bool, true, false, List, [], ◌∷◌, ◌++◌, length, Vec, Ok, ap, ◌∙◌, sym, subst, append_assoc, append-nil, arith}
use Rattle.std.specs.List.{flat_map}
use Rattle.std.specs.declared.alloc.Global.{Global}
use Rattle.std.proofs.lemmas.Grind.{flat_map-append}
use Rattle.std.proofs.lemmas.List.Elements.{All-nil, All-push}
use Rattle.futures.specs.declared.task.Poll.TheVariants.{Ready}
use Rattle.piper_lines.specs.declared.header.FrameHeader.{FrameHeader}
use Rattle.piper_lines.specs.declared.line_reader.LineAnswer.{LineAnswer}
use Rattle.piper_lines.specs.declared.line_reader.LineAnswer.TheVariants.{Line, TooLong, Last, End}
use Rattle.piper_lines.specs.AtEnd.{AtEnd}
use Rattle.piper_lines.specs.Frame.{frame_bytes}
use Rattle.piper_lines.specs.Line.{Lacks}
use Rattle.piper_lines.specs.LineAnswers.{Hands, IsTooLong, at_end}
use Rattle.piper_lines.specs.Moves.{Moves, PassesMoves}
use Rattle.piper_lines.specs.Split.{IsPiece, joined, joined_frames, Adds}
use Rattle.piper_lines.proofs.Moving.{moves_then, passes_then}

-- the bytes of the pieces with one more
pub flat_map-push : (bytes : Vec ℕ Global → List ℕ) (pieces : List (Vec ℕ Global)) (piece : Vec ℕ Global)
    → flat_map bytes (pieces ++ piece ∷ []) ≡ flat_map bytes pieces ++ bytes piece
flat_map-push bytes pieces piece = flat_map-append bytes pieces (piece ∷ []) ∙ ap (λ ws. flat_map bytes pieces ++ ws) (append-nil (bytes piece))

pub adds_none : (Fits : List ℕ → Type 0) (out : List (Vec ℕ Global)) → Adds Fits out out
adds_none Fits out = ([], sym (append-nil out), λ k d within. absurd (omega arith))

pub adds_piece : (Fits : List ℕ → Type 0) (out0 out1 out2 : List (Vec ℕ Global)) (piece : Vec ℕ Global) → Adds Fits out0 out1
    → out2 ≡ out1 ++ piece ∷ [] → Fits piece.items → Adds Fits out0 out2
adds_piece Fits out0 out1 out2 piece adds pushed fits = (
  adds.0 ++ piece ∷ [],
  pushed ∙ ap (λ ws. ws ++ piece ∷ []) adds.1 ∙ append_assoc out0 adds.0 (piece ∷ []),
  All-push (λ (v : Vec ℕ Global). Fits v.items) adds.0 piece adds.2 fits,
)

-- less was kept than the limit, so it is as long as that
too_long : (end limit : ℕ) (before line : List ℕ) → IsTooLong end limit before line → length before < limit → IsPiece end limit line
too_long end limit before line (lacks, inl as_long) short = inr (lacks, as_long)
too_long end limit before line (lacks, inr (same, longer)) short = absurd (omega (arith, ap length same))

-- what was handed out before the end is a piece, and nothing is kept
pub hands_piece : (E : Type 0) (a : LineAnswer) (end limit : ℕ) (before line kept known : List ℕ) (saw : Bool) → at_end a ≡ false
    → Hands {E = E} (Ready (Ok a)) end limit before line kept known saw → (kept ≡ []) × (length before < limit → IsPiece end limit line)
hands_piece E Line end limit before line kept known saw more hands = (hands.2, λ short. inl (hands.0, hands.1))
hands_piece E TooLong end limit before line kept known saw more hands = (hands.1, λ short. too_long end limit before line hands.0 short)
hands_piece E Last end limit before line kept known saw more hands = cc
hands_piece E End end limit before line kept known saw more hands = cc

lacks_none : (end : ℕ) (line : List ℕ) → line ≡ [] → Lacks end line
lacks_none end line none = subst (λ ws. Lacks end ws) (sym none) (All-nil (λ b. b ≢ end))

-- at the end nothing is kept, and what was handed out ends no line
pub hands_end : (E : Type 0) (a : LineAnswer) (end limit : ℕ) (before line kept known : List ℕ) (saw : Bool) → at_end a ≡ true
    → Hands {E = E} (Ready (Ok a)) end limit before line kept known saw → (kept ≡ []) × Lacks end line × AtEnd known saw
hands_end E Line end limit before line kept known saw more hands = cc
hands_end E TooLong end limit before line kept known saw more hands = cc
hands_end E Last end limit before line kept known saw more hands = (hands.2, hands.0, hands.3)
hands_end E End end limit before line kept known saw more hands = (hands.1, lacks_none end line hands.0, hands.2)

-- a line more
pub moves_line : (t0 t1 t2 k0 k1 k2 line rest : List ℕ) (out1 out2 : List (Vec ℕ Global)) → Moves t0 t1 k0 (joined out1) k1
    → Moves t1 t2 k1 line k2 → out2 ≡ out1 → line ≡ rest → Moves t0 t2 k0 (joined out2 ++ rest) k2
moves_line t0 t1 t2 k0 k1 k2 line rest out1 out2 first second same is_rest =
    subst (λ (out : List (Vec ℕ Global)). Moves t0 t2 k0 (joined out ++ rest) k2) (sym same)
    (subst (λ ws. Moves t0 t2 k0 (joined out1 ++ ws) k2) is_rest (moves_then t0 t1 t2 k0 k1 k2 (joined out1) line first second))

-- a poll more, that handed out no frame
pub passes_no_frame : (format : FrameHeader) (t0 t1 t2 k0 k1 k2 : List ℕ) (s0 s1 s2 : ℕ) (out1 out2 : List (Vec ℕ Global)) → PassesMoves t0 t1 s0 s1 k0 (joined_frames format out1) k1
    → PassesMoves t1 t2 s1 s2 k1 [] k2 → out2 ≡ out1 → PassesMoves t0 t2 s0 s2 k0 (joined_frames format out2) k2
passes_no_frame format t0 t1 t2 k0 k1 k2 s0 s1 s2 out1 out2 first second same =
    subst (λ ws. PassesMoves t0 t2 s0 s2 k0 ws k2) (append-nil (joined_frames format out1) ∙ ap (λ out. joined_frames format out) (sym same))
    (passes_then t0 t1 t2 k0 k1 k2 (joined_frames format out1) [] s0 s1 s2 first second)

-- a frame more
pub passes_frame : (format : FrameHeader) (t0 t1 t2 k0 k1 k2 : List ℕ) (s0 s1 s2 : ℕ) (out1 out2 : List (Vec ℕ Global)) (body : Vec ℕ Global)
    → PassesMoves t0 t1 s0 s1 k0 (joined_frames format out1) k1 → PassesMoves t1 t2 s1 s2 k1 (frame_bytes format body.items) k2 → out2 ≡ out1 ++ body ∷ []
    → PassesMoves t0 t2 s0 s2 k0 (joined_frames format out2) k2
passes_frame format t0 t1 t2 k0 k1 k2 s0 s1 s2 out1 out2 body first second pushed =
    let together : joined_frames format out1 ++ frame_bytes format body.items ≡ joined_frames format out2 =
    sym (ap (λ out. joined_frames format out) pushed ∙ flat_map-push (λ (v : Vec ℕ Global). frame_bytes format v.items) out1 body) in
    subst (λ ws. PassesMoves t0 t2 s0 s2 k0 ws k2) together
    (passes_then t0 t1 t2 k0 k1 k2 (joined_frames format out1) (frame_bytes format body.items) s0 s1 s2 first second)
