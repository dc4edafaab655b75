-- Frames are taken by their length, and then by their bytes.
use Rattle.std.proofs.Common.{◌≡◌, ℕ, ◌<◌, ◌≤◌, List, [], ◌∷◌, ◌++◌, length, ap, ◌∙◌, sym, subst, append_assoc, append-nil, length-append, refl, arith, Ok}
use Rattle.futures.specs.declared.task.Poll.TheVariants.{Ready}
use Rattle.piper.specs.declared.error.PipeError.{PipeError}
use Rattle.piper_lines.specs.FrameAnswers.{OnFramesEnd}
use Rattle.piper_lines.specs.declared.frame_reader.FrameAnswer.{FrameAnswer}
use Rattle.piper_lines.specs.declared.frame_reader.FrameAnswer.TheVariants.{Frame, TooLong, Truncated, End}
use Rattle.piper_lines.specs.Frame.{frame_bytes}
use Rattle.piper_lines.specs.Header.{header_size, length_bytes, encoded_length}
use Rattle.piper_lines.specs.declared.header.FrameHeader.{FrameHeader}
use Rattle.piper_lines.specs.Moves.{Grows, Passes, PassesMoves}
use Rattle.piper_lines.proofs.Moving.{moves_none, moves_then}

-- while the header is not whole nothing is after it
no_body : (size : ℕ) (header more body : List ℕ) → (length header < size → body ≡ []) → length (header ++ more) ≤ size → body ++ more ≡ more ++ body
no_body size header [] body first within = append-nil body
no_body size header (x ∷ more) body first within =
    let none : body ≡ [] = first (omega (arith, length-append header (x ∷ more))) in
    subst (λ ws. ws ++ (x ∷ more) ≡ (x ∷ more) ++ ws) (sym none) (sym (append-nil (x ∷ more)))

still_fits : (format : FrameHeader) (header more body : List ℕ) → (length header < header_size format → body ≡ []) → length (header ++ more) ≤ header_size format
    → length body ≤ encoded_length format header → length body ≤ encoded_length format (header ++ more)
still_fits format header [] body first within fits = subst (λ ws. length body ≤ encoded_length format ws) (sym (append-nil header)) fits
still_fits format header (x ∷ more) body first within fits =
    let none : body ≡ [] = first (omega (arith, length-append header (x ∷ more))) in
    subst (λ ws. length ws ≤ encoded_length format (header ++ x ∷ more)) (sym none) (omega arith)

-- while its header grows, what is kept of a frame stays one
pub header_grows : (format : FrameHeader) (t0 t1 h0 h1 body : List ℕ) → Grows t0 t1 h0 h1 → (length h0 < header_size format → body ≡ []) → length h1 ≤ header_size format
    → length body ≤ encoded_length format h0 → (length h1 < header_size format → body ≡ []) × (length body ≤ encoded_length format h1)
header_grows format t0 t1 h0 h1 body grows first within fits = (
  λ short. first (omega (arith, ap length grows.2, length-append h0 grows.0)),
  subst (λ ws. length body ≤ encoded_length format ws) (sym grows.2)
      (still_fits format h0 grows.0 body first (subst (λ ws. length ws ≤ header_size format) grows.2 within) fits),
)

-- so what holds of every reader of frames holds then
pub holding_header : (format : FrameHeader) (t0 t1 h0 h1 body : List ℕ) (skips : ℕ) → Grows t0 t1 h0 h1 → (length h0 < header_size format → body ≡ [])
    → length h1 ≤ header_size format → length body ≤ encoded_length format h0 → skips ≡ 0
    → record { header_first : length h1 < header_size format → body ≡ []; fits : length body ≤ encoded_length format h1; short : length h1 ≤ header_size format; skips_first : 0 < skips → h1 ≡ [] }
holding_header format t0 t1 h0 h1 body skips grows first within fits none =
    let header = header_grows format t0 t1 h0 h1 body grows first within fits in
    record { header_first = header.0; fits = header.1; short = within; skips_first = λ some. absurd (omega arith) }

-- and so it does where the header is whole, whatever was taken after it
pub holding_body : (format : FrameHeader) (header body : List ℕ) (size skips : ℕ) → length header ≡ header_size format → size ≡ encoded_length format header → length body ≤ size
    → skips ≡ 0
    → record { header_first : length header < header_size format → body ≡ []; fits : length body ≤ encoded_length format header; short : length header ≤ header_size format; skips_first : 0 < skips → header ≡ [] }
holding_body format header body size skips whole told within none = record {
  header_first = λ short. absurd (omega arith);
  fits = omega (arith, told, within);
  short = omega (arith, whole);
  skips_first = λ some. absurd (omega arith);
}

-- bytes have passed, and none of a frame was taken
pub keeping_none : (t0 t1 kept : List ℕ) (skips0 skips1 : ℕ) → Passes t0 t1 skips0 skips1 → PassesMoves t0 t1 skips0 skips1 kept [] kept
keeping_none t0 t1 kept skips0 skips1 passes = (t1, passes, moves_none t1 kept [], λ some. refl)

-- then bytes of its header were taken
pub keeping_header : (size : ℕ) (t0 t1 t2 h0 h1 body : List ℕ) (skips0 skips1 : ℕ) → Passes t0 t1 skips0 skips1 → Grows t1 t2 h0 h1
    → (length h0 < size → body ≡ []) → length h1 ≤ size → skips1 ≡ 0 → PassesMoves t0 t2 skips0 skips1 (h0 ++ body) [] (h1 ++ body)
keeping_header size t0 t1 t2 h0 h1 body skips0 skips1 passes grows first within none =
    let more : List ℕ = grows.0 in (
      t1,
      passes,
      (
        more,
        grows.1,
        append_assoc h0 body more ∙ ap (λ ws. h0 ++ ws) (no_body size h0 more body first (subst (λ ws. length ws ≤ size) grows.2 within))
            ∙ sym (append_assoc h0 more body) ∙ ap (λ ws. ws ++ body) (sym grows.2),
      ),
      λ some. absurd (omega arith),
    )

-- and then bytes of its body
pub keeping_body : (size : ℕ) (t0 t1 t2 t3 h0 h1 b0 b1 : List ℕ) (skips0 skips1 : ℕ) → Passes t0 t1 skips0 skips1 → Grows t1 t2 h0 h1 → Grows t2 t3 b0 b1
    → (length h0 < size → b0 ≡ []) → length h1 ≤ size → skips1 ≡ 0 → PassesMoves t0 t3 skips0 skips1 (h0 ++ b0) [] (h1 ++ b1)
keeping_body size t0 t1 t2 t3 h0 h1 b0 b1 skips0 skips1 passes header body first within none =
    let keeping = keeping_header size t0 t1 t2 h0 h1 b0 skips0 skips1 passes header first within none in (
      keeping.0,
      keeping.1,
      moves_then keeping.0 t2 t3 (h0 ++ b0) (h1 ++ b0) (h1 ++ b1) [] [] keeping.2
          (body.0, body.1, append_assoc h1 b0 body.0 ∙ ap (λ ws. h1 ++ ws) (sym body.2)),
      λ some. absurd (omega arith),
    )

-- the frame is handed out, and nothing is kept
pub keeping_frame : (format : FrameHeader) (t0 t1 header body frame header' body' kept0 : List ℕ) (skips0 skips1 : ℕ)
    → PassesMoves t0 t1 skips0 skips1 kept0 [] (header ++ body) → length_bytes format (length body) ≡ header → frame ≡ body → header' ≡ [] → body' ≡ []
    → PassesMoves t0 t1 skips0 skips1 kept0 (frame_bytes format frame) (header' ++ body')
keeping_frame format t0 t1 header body frame header' body' kept0 skips0 skips1 keeping spelled same no_header none =
    let whole : header ++ body ≡ frame_bytes format frame = ap (λ ws. ws ++ body) (sym spelled) ∙ ap (λ ws. frame_bytes format ws) (sym same) in
    let nothing : header' ++ body' ≡ [] = ap (λ ws. ws ++ body') no_header ∙ none in
    let moves = keeping.2 in (
      keeping.0,
      keeping.1,
      (moves.0, moves.1, moves.2 ∙ whole ∙ sym (append-nil (frame_bytes format frame)) ∙ ap (λ ws. frame_bytes format frame ++ ws) (sym nothing)),
      keeping.3,
    )

-- whatever is returned, the reader ended
pub on_end : (answer : FrameAnswer) (P : Type 0) → P → OnFramesEnd {E = PipeError} (Ready (Ok answer)) P
on_end Frame P ended = tt
on_end (TooLong n) P ended = tt
on_end Truncated P ended = ended
on_end End P ended = ended
