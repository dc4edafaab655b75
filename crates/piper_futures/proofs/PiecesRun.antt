-- Pieces that come one after the other.
use Rattle.std.proofs.Common.{◌≡◌, ℕ, ◌<◌, ◌⊎◌, inl, inr, Bool, true, false, List, [], ◌∷◌, ◌++◌, length, Option, Some, None, sym, ap, ◌∙◌, subst, append_assoc, append-nil, arith}
use Rattle.std.proofs.lemmas.List.{nil_from_length}
use Rattle.futures.specs.Runs.{Ends, EndsIf}
use Rattle.futures.specs.declared.task.context.Context.{Context}
use Rattle.piper.specs.declared.error.PipeError.{PipeError}
use Rattle.piper_lines.specs.AtEnd.{AtEnd}
use Rattle.piper_lines.specs.Frame.{IsInsideFrame}
use Rattle.piper_lines.specs.Moves.{Moves, PassesMoves}
use Rattle.piper_lines.specs.Refusals.{IsReported}
use Rattle.piper_lines.proofs.Moving.{moves_then}
use Rattle.piper_futures.specs.PieceRuns.{Item, item_bytes, joined_items, last_bytes, PieceRuns}
use Rattle.piper_futures.specs.Told.{IsOfReader}

-- the error of this poll is the reader's own, or memory was refused
pub of_reader : {R : Type 0} (fails : R → Context → PipeError → Type 0) (r : R) (cx : Context) (e : PipeError) (Lacks : Type 0) → IsReported e (fails r cx) Lacks → IsOfReader fails e
of_reader fails r cx e Lacks (inl own) = inl (r, cx, own)
of_reader fails r cx e Lacks (inr lacks) = inr lacks.0

pub none_kept : (header body : List ℕ) → header ≡ [] → body ≡ [] → header ++ body ≡ []
none_kept header body none rest = ap (λ ws. ws ++ body) none ∙ rest

-- where no byte has to pass, what was taken moved
pub only_moves : (t0 t1 k0 handed k1 : List ℕ) (skips0 skips1 : ℕ) → skips0 ≡ 0 → PassesMoves t0 t1 skips0 skips1 k0 handed k1 → Moves t0 t1 k0 handed k1
only_moves t0 t1 k0 handed k1 skips0 skips1 none moves =
    let passed : moves.1.0 ≡ [] = nil_from_length moves.1.0 (omega (arith, none, moves.1.2)) in
    let same : moves.0 ≡ t0 = moves.1.1 ∙ ap (λ ws. t0 ++ ws) passed ∙ append-nil t0 in
    subst (λ ws. Moves ws t1 k0 handed k1) same moves.2

-- nor is any inside a skipped frame
pub inside_header : (t0 t1 k0 handed k1 header : List ℕ) (skips0 skips1 : ℕ) → skips0 ≡ 0 → PassesMoves t0 t1 skips0 skips1 k0 handed k1 → IsInsideFrame header skips1
    → 0 < length header
inside_header t0 t1 k0 handed k1 header skips0 skips1 none moves (inl some) = some
inside_header t0 t1 k0 handed k1 header skips0 skips1 none moves (inr some) = absurd (omega (arith, none, moves.1.2, some))

-- the runs of a stream that has not ended
module _ {R : Type 0} (Goes : Item → Type 0) (Closes : List ℕ → List ℕ → Bool → Item → Type 0) (taken known : R → List ℕ) (saw : R → Bool) (bytes : List ℕ → List ℕ) where
  goes_on : (done : Bool) (r : R) (k : List ℕ) (items : List Item) (last : Option Item) → done ≡ false → EndsIf done (PieceRuns Goes Closes taken known saw bytes r k) items last
      → PieceRuns Goes Closes taken known saw bytes r k items last
  goes_on false r k items last not_done runs = runs
  goes_on true r k items last not_done runs = cc

  went_on : (done : Bool) (r : R) (k : List ℕ) (items : List Item) (last : Option Item) → done ≡ false → PieceRuns Goes Closes taken known saw bytes r k items last
      → EndsIf done (PieceRuns Goes Closes taken known saw bytes r k) items last
  went_on false r k items last not_done runs = runs
  went_on true r k items last not_done runs = cc

  -- the next answer is this item
  pub comes : (done : Bool) (r0 r1 : R) (k0 k1 : List ℕ) (item : Item) → done ≡ false → Moves (taken r0) (taken r1) k0 (item_bytes bytes item) k1
      → Goes item ⊎ Closes k1 (known r1) (saw r1) item → EndsIf done (PieceRuns Goes Closes taken known saw bytes r0 k0) [] (Some item)
  comes done r0 r1 k0 k1 item not_done moves why = went_on done r0 k0 [] (Some item) not_done (r1, k1, moves, why)

  -- the next answer is the end
  pub ends : (done : Bool) (r0 r1 : R) (k0 k1 : List ℕ) → done ≡ false → Moves (taken r0) (taken r1) k0 [] k1 → k1 ≡ [] → AtEnd (known r1) (saw r1)
      → EndsIf done (PieceRuns Goes Closes taken known saw bytes r0 k0) [] None
  ends done r0 r1 k0 k1 not_done moves none at_end = went_on done r0 k0 [] None not_done (r1, k1, moves, (none, at_end))

  -- no item came yet
  pub waits : (done : Bool) (r0 r1 : R) (k0 k1 : List ℕ) (items : List Item) (last : Option Item) → done ≡ false → Moves (taken r0) (taken r1) k0 [] k1
      → EndsIf done (PieceRuns Goes Closes taken known saw bytes r1 k1) items last → EndsIf done (PieceRuns Goes Closes taken known saw bytes r0 k0) items last
  waits done r0 r1 k0 k1 items last not_done moves later =
      let runs = goes_on done r1 k1 items last not_done later in
      went_on done r0 k0 items last not_done (
        runs.0,
        runs.1,
        moves_then (taken r0) (taken r1) (taken runs.0) k0 k1 runs.1 [] (joined_items bytes items ++ last_bytes bytes last) moves runs.2,
        runs.3,
      )

  -- an item, and then the rest
  pub comes_then : (done : Bool) (r0 r1 : R) (k0 k1 : List ℕ) (item : Item) (items : List Item) (last : Option Item) → done ≡ false → Moves (taken r0) (taken r1) k0 (item_bytes bytes item) k1
      → Goes item → EndsIf done (PieceRuns Goes Closes taken known saw bytes r1 k1) items last → EndsIf done (PieceRuns Goes Closes taken known saw bytes r0 k0) (item ∷ items) last
  comes_then done r0 r1 k0 k1 item items last not_done moves goes later =
      let runs = goes_on done r1 k1 items last not_done later in
      went_on done r0 k0 (item ∷ items) last not_done (
        runs.0,
        runs.1,
        subst (λ ws. Moves (taken r0) (taken runs.0) k0 ws runs.1) (sym (append_assoc (item_bytes bytes item) (joined_items bytes items) (last_bytes bytes last)))
            (moves_then (taken r0) (taken r1) (taken runs.0) k0 k1 runs.1 (item_bytes bytes item) (joined_items bytes items ++ last_bytes bytes last) moves runs.2),
        inl (goes, runs.3),
      )

  -- the last item, and then the end
  pub comes_last : (done : Bool) (r0 r1 : R) (k0 k1 : List ℕ) (item : Item) (items : List Item) (last : Option Item) → done ≡ false → Moves (taken r0) (taken r1) k0 (item_bytes bytes item) k1
      → Closes k1 (known r1) (saw r1) item → Ends items last → EndsIf done (PieceRuns Goes Closes taken known saw bytes r0 k0) (item ∷ items) last
  comes_last done r0 r1 k0 k1 item items last not_done moves closes over =
      let is : item_bytes bytes item ≡ joined_items bytes (item ∷ items) ++ last_bytes bytes last =
      sym (append-nil (item_bytes bytes item)) ∙ sym (append-nil (item_bytes bytes item ++ [])) ∙ ap (λ (xs : List Item). joined_items bytes (item ∷ xs) ++ last_bytes bytes None) (sym over.0)
      ∙ ap (λ (o : Option Item). joined_items bytes (item ∷ items) ++ last_bytes bytes o) (sym over.1) in
      went_on done r0 k0 (item ∷ items) last not_done (r1, k1, subst (λ ws. Moves (taken r0) (taken r1) k0 ws k1) is moves, inr (closes, over))
