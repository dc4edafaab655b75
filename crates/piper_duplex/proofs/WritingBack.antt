-- Pieces that are written back, step by step.
use Rattle.std.proofs.Common.{◌≡◌, ℕ, ◌<◌, ◌≤◌, ◌⊎◌, inl, inr, Bool, true, List, Ok, [], ◌∷◌, ◌++◌, All, drop, length, refl, sym, ap, ◌∙◌, subst, append-nil, append_assoc, length-append, arith}
use Rattle.std.specs.List.{concat}
use Rattle.std.proofs.lemmas.List.{drop_all}
use Rattle.std.proofs.lemmas.List.Folds.{concat-append}
use Rattle.std.proofs.lemmas.List.Elements.{All-head, All-tail, All-push}
use Rattle.piper_lines.specs.Moves.{Moves}
use Rattle.piper_lines.specs.Sends.{Sends}
use Rattle.piper_lines.proofs.Moving.{moves_none, moves_then}
use Rattle.piper_lines.proofs.Sending.{sends_none, sends_front, sends_then}
use Rattle.futures.specs.declared.task.Poll.TheVariants.{Ready}
use Rattle.piper_lines.specs.declared.line_reader.LineAnswer.{LineAnswer}
use Rattle.piper_lines.specs.declared.line_reader.LineAnswer.TheVariants.{Line, TooLong, Last, End}
use Rattle.piper_lines.specs.LineAnswers.{Hands, OnLinesEnd}
use Rattle.piper_lines.specs.Split.{IsPiece}
use Rattle.piper_lines.proofs.Collecting.{hands_piece}
use Rattle.piper_duplex.specs.Echoes.{AreWhole, Echoes, IsLeftOf, IsRest}

-- so far these pieces were handed out, and what is left is of the last; after the rest none comes
pub record Echoing (Whole Rest : List ℕ → Type 0) (Spent : Type 0) (t0 t1 k0 k1 left0 left1 s0 s1 : List ℕ) (saw0 saw1 : Bool) : Type 0 where
  pub pieces : List (List ℕ)
  pub whole : All Whole pieces ⊎ (AreWhole Whole Rest pieces × Spent)
  pub moved : Moves t0 t1 k0 (concat pieces) k1
  pub sent : Sends (left0 ++ concat pieces) left1 s0 s1 saw0 saw1
  pub left : IsLeftOf left0 pieces left1

all_whole : (Whole Rest : List ℕ → Type 0) (pieces : List (List ℕ)) → All Whole pieces → AreWhole Whole Rest pieces
all_whole Whole Rest [] all = tt
all_whole Whole Rest (piece ∷ pieces) all = inl (All-head Whole piece pieces all, all_whole Whole Rest pieces (All-tail Whole piece pieces all))

rest_last : (Whole Rest : List ℕ → Type 0) (pieces : List (List ℕ)) (rest : List ℕ) → All Whole pieces → Rest rest → AreWhole Whole Rest (pieces ++ rest ∷ [])
rest_last Whole Rest [] rest all is = inr (is, refl)
rest_last Whole Rest (piece ∷ pieces) rest all is = inl (All-head Whole piece pieces all, rest_last Whole Rest pieces rest (All-tail Whole piece pieces all) is)

spent_whole : (Whole Rest : List ℕ → Type 0) (Spent : Type 0) (pieces : List (List ℕ)) → AreWhole Whole Rest pieces → Spent → AreWhole Whole (λ piece. Rest piece × Spent) pieces
spent_whole Whole Rest Spent [] whole spent = tt
spent_whole Whole Rest Spent (piece ∷ pieces) (inl first) spent = inl (first.0, spent_whole Whole Rest Spent pieces first.1 spent)
spent_whole Whole Rest Spent (piece ∷ pieces) (inr last) spent = inr ((last.0, spent), last.1)

left_on : (left0 : List ℕ) (pieces : List (List ℕ)) (left1 left2 written : List ℕ) → IsLeftOf left0 pieces left1 → left1 ≡ written ++ left2 → IsLeftOf left0 pieces left2
left_on left0 [] left1 left2 written left is =
    (left.0 ++ written, left.1 ∙ ap (λ ws. left.0 ++ ws) is ∙ sym (append_assoc left.0 written left2))
left_on left0 (piece ∷ pieces) left1 left2 written left is = left_on piece pieces left1 left2 written left is

left_push : (left0 : List ℕ) (pieces : List (List ℕ)) (piece : List ℕ) → IsLeftOf left0 (pieces ++ piece ∷ []) piece
left_push left0 [] piece = ([], refl)
left_push left0 (first ∷ pieces) piece = left_push first pieces piece

-- nothing was taken, and nothing written
pub echoing_none : (Whole Rest : List ℕ → Type 0) (Spent : Type 0) (t k left s : List ℕ) (saw : Bool) → Echoing Whole Rest Spent t t k k left left s s saw saw
echoing_none Whole Rest Spent t k left s saw = record {
  pieces = [];
  whole = inl (λ i d within. absurd (omega (arith, within)));
  moved = moves_none t k [];
  sent = subst (λ ws. Sends ws left s s saw saw) (sym (append-nil left)) (sends_none left s saw saw);
  left = ([], refl);
}

-- the state of the lines may be told otherwise
echoing_so : (Whole Rest : List ℕ → Type 0) (Spent Later : Type 0) (t0 t1 k0 k1 left0 left1 s0 s1 : List ℕ) (saw0 saw1 : Bool) → (Spent → Later)
    → Echoing Whole Rest Spent t0 t1 k0 k1 left0 left1 s0 s1 saw0 saw1 → Echoing Whole Rest Later t0 t1 k0 k1 left0 left1 s0 s1 saw0 saw1
echoing_so Whole Rest Spent Later t0 t1 k0 k1 left0 left1 s0 s1 saw0 saw1 later e =
    let whole : All Whole e.pieces ⊎ (AreWhole Whole Rest e.pieces × Later) = elim e.whole [ inl all ↦ inl all | inr ended ↦ inr (ended.0, later ended.1) ] in
    record { pieces = e.pieces; whole = whole; moved = e.moved; sent = e.sent; left = e.left }

-- then some of what was left was written
pub echoing_written : (Whole Rest : List ℕ → Type 0) (Spent : Type 0) (t0 t1 k0 k1 left0 left1 left2 s0 s1 s2 : List ℕ) (saw0 saw1 saw2 : Bool)
    → Echoing Whole Rest Spent t0 t1 k0 k1 left0 left1 s0 s1 saw0 saw1 → Sends left1 left2 s1 s2 saw1 saw2
    → (saw0 ≡ true → saw1 ≡ true) → (saw1 ≡ true → saw2 ≡ true) → Echoing Whole Rest Spent t0 t1 k0 k1 left0 left2 s0 s2 saw0 saw2
echoing_written Whole Rest Spent t0 t1 k0 k1 left0 left1 left2 s0 s1 s2 saw0 saw1 saw2 e sends stays0 stays1 = record {
  pieces = e.pieces;
  whole = e.whole;
  moved = e.moved;
  sent = sends_then (left0 ++ concat e.pieces) left1 left2 s0 s1 s2 saw0 saw1 saw2 e.sent sends stays0 stays1;
  left = left_on left0 e.pieces left1 left2 sends.0 e.left sends.1;
}

-- then, with all of it written, a look for the next piece found none
pub echoing_looked : (Whole Rest : List ℕ → Type 0) (Spent Later : Type 0) (t0 t1 t2 k0 k1 k2 left0 line s0 s1 : List ℕ) (saw0 saw1 : Bool) (left1 : List ℕ) → left1 ≡ []
    → (Spent → Later) → Echoing Whole Rest Spent t0 t1 k0 k1 left0 left1 s0 s1 saw0 saw1 → line ≡ [] → Moves t1 t2 k1 line k2
    → Echoing Whole Rest Later t0 t2 k0 k2 left0 line s0 s1 saw0 saw1
echoing_looked Whole Rest Spent Later t0 t1 t2 k0 k1 k2 left0 line s0 s1 saw0 saw1 left1 all later e none moves =
    let so : Echoing Whole Rest Later t0 t1 k0 k1 left0 left1 s0 s1 saw0 saw1 = echoing_so Whole Rest Spent Later t0 t1 k0 k1 left0 left1 s0 s1 saw0 saw1 later e in
    let moved : Moves t0 t2 k0 (concat so.pieces ++ line) k2 = moves_then t0 t1 t2 k0 k1 k2 (concat so.pieces) line so.moved moves in
    record {
      pieces = so.pieces;
      whole = so.whole;
      moved = subst (λ ws. Moves t0 t2 k0 ws k2) (ap (λ ws. concat so.pieces ++ ws) none ∙ append-nil (concat so.pieces)) moved;
      sent = subst (λ ws. Sends (left0 ++ concat so.pieces) ws s0 s1 saw0 saw1) (all ∙ sym none) so.sent;
      left = subst (λ ws. IsLeftOf left0 so.pieces ws) (all ∙ sym none) so.left;
    }

-- or found one, where the lines had not ended before
pub echoing_piece : (Whole Rest : List ℕ → Type 0) (Spent Later : Type 0) (t0 t1 t2 k0 k1 k2 left0 line s0 s1 : List ℕ) (saw0 saw1 : Bool) (left1 : List ℕ) → left1 ≡ []
    → ¬ Spent → Echoing Whole Rest Spent t0 t1 k0 k1 left0 left1 s0 s1 saw0 saw1 → Whole line ⊎ (Rest line × Later) → Moves t1 t2 k1 line k2
    → Echoing Whole Rest Later t0 t2 k0 k2 left0 line s0 s1 saw0 saw1
echoing_piece Whole Rest Spent Later t0 t1 t2 k0 k1 k2 left0 line s0 s1 saw0 saw1 left1 none more e fits moves =
    let all : All Whole e.pieces = elim e.whole [ inl all ↦ all | inr ended ↦ absurd (more ended.1) ] in
    let pieces : List (List ℕ) = e.pieces ++ line ∷ [] in
    let joined : concat e.pieces ++ line ≡ concat pieces = ap (λ ws. concat e.pieces ++ ws) (sym (append-nil line)) ∙ sym (concat-append e.pieces (line ∷ [])) in
    let moved : Moves t0 t2 k0 (concat e.pieces ++ line) k2 = moves_then t0 t1 t2 k0 k1 k2 (concat e.pieces) line e.moved moves in
    let done : Sends (left0 ++ concat e.pieces) [] s0 s1 saw0 saw1 = subst (λ ws. Sends (left0 ++ concat e.pieces) ws s0 s1 saw0 saw1) none e.sent in
    let sent : Sends ((left0 ++ concat e.pieces) ++ line) line s0 s1 saw0 saw1 = sends_front (left0 ++ concat e.pieces) [] line s0 s1 saw0 saw1 done in
    let whole : All Whole pieces ⊎ (AreWhole Whole Rest pieces × Later) = elim fits [
      | inl is ↦ inl (All-push Whole e.pieces line all is)
      | inr ended ↦ inr (rest_last Whole Rest e.pieces line all ended.0, ended.1)
    ] in
    record {
      pieces = pieces;
      whole = whole;
      moved = subst (λ ws. Moves t0 t2 k0 ws k2) joined moved;
      sent = subst (λ ws. Sends ws line s0 s1 saw0 saw1) (append_assoc left0 (concat e.pieces) line ∙ ap (λ ws. left0 ++ ws) joined) sent;
      left = left_push left0 e.pieces line;
    }

-- what is said of it once a poll returns
pub echoing_ends : (Whole Rest : List ℕ → Type 0) (Spent : Type 0) (t0 t1 k0 k1 left0 left1 s0 s1 : List ℕ) (saw0 saw1 : Bool)
    → Echoing Whole Rest Spent t0 t1 k0 k1 left0 left1 s0 s1 saw0 saw1 → Echoes Whole (λ piece. Rest piece × Spent) t0 t1 k0 k1 left0 left1 s0 s1 saw0 saw1
echoing_ends Whole Rest Spent t0 t1 k0 k1 left0 left1 s0 s1 saw0 saw1 e =
    let whole : AreWhole Whole (λ piece. Rest piece × Spent) e.pieces = elim e.whole [
      | inl all ↦ all_whole Whole (λ piece. Rest piece × Spent) e.pieces all
      | inr ended ↦ spent_whole Whole Rest Spent e.pieces ended.0 ended.1
    ] in
    record { pieces = e.pieces; whole = whole; moved = e.moved; sent = e.sent; left = e.left }

-- a line that is written whole leaves none
pub all_written : (written : ℕ) (line : List ℕ) → written ≡ length line → drop written line ≡ []
all_written written line whole = drop_all written line (omega (arith, whole))

-- none is given back
pub moves_longer : (t0 t1 k0 out k1 : List ℕ) → Moves t0 t1 k0 out k1 → length t0 ≤ length t1
moves_longer t0 t1 k0 out k1 moves = omega (arith, ap length moves.1, length-append t0 moves.0)

-- a line, with none kept before it, is of bytes that were taken
pub moves_some : (t0 t1 k0 line k1 : List ℕ) → Moves t0 t1 k0 line k1 → k0 ≡ [] → 0 < length line → length t0 < length t1
moves_some t0 t1 k0 line k1 moves none some =
    omega (arith, ap length moves.1, length-append t0 moves.0, ap length moves.2, length-append k0 moves.0, length-append line k1, ap length none)

-- what a poll for a line handed out, where it didn't report the end: a piece, or the rest
pub handed : (E : Type 0) (a : LineAnswer) (end limit : ℕ) (before line kept known : List ℕ) (saw : Bool) (Spent : Type 0) → 0 < limit → ¬ (a ≡ End)
    → Hands {E = E} (Ready (Ok a)) end limit before line kept known saw → OnLinesEnd {E = E} (Ready (Ok a)) Spent
    → (kept ≡ []) × (0 < length line) × ((length before < limit → IsPiece end limit line) ⊎ (IsRest end line × Spent))
handed E Line end limit before line kept known saw Spent some more hands ended =
    let is = hands.0 in
    (hands.2, omega (arith, ap length is.2, length-append is.0 (end ∷ [])), inl (λ short. inl (hands.0, hands.1)))
handed E TooLong end limit before line kept known saw Spent some more hands ended =
    let piece = hands_piece E TooLong end limit before line kept known saw refl hands in
    let long : 0 < length line = elim hands.0.1 [ inl as_long ↦ omega (arith, as_long, some) | inr longer ↦ omega (arith, longer.1) ] in
    (piece.0, long, inl piece.1)
handed E Last end limit before line kept known saw Spent some more hands ended = (hands.2, hands.1, inr ((hands.0, hands.1), ended refl))
handed E End end limit before line kept known saw Spent some more hands ended = absurd (more refl)
