-- Bytes that were published of a slice.
use Rattle.std.proofs.Common.{◌≡◌, ℕ, Result, Ok, Err, ◌+◌, ◌<◌, ◌≤◌, ◌⊎◌, Bool, true, false, true≢false, List, [], ◌++◌, take, length, min, refl, sym, ap, ◌∙◌, append_assoc, append-nil, length-append, inl, inr, arith}
use Rattle.std.proofs.lemmas.List.{nil_from_length, take_at}
use Rattle.piper_ring.specs.WriteView.{room_in_one_piece}
use Rattle.piper.specs.Copies.{IsReplaced}
use Rattle.piper.specs.Looks.{WriterIsUpToDate}
use Rattle.piper.specs.CopyAnswers.{of_bytes}
use Rattle.piper.specs.Fills.{Fills, most_of_round}
use Rattle.piper.specs.WriterCalls.{Filled, FillsSlice, WriterOnlyLooked}
use Rattle.piper_protocol.specs.declared.memory.OutOfMemory.{OutOfMemory}
use Rattle.std.specs.declared.convert.Infallible.{Infallible}
use Rattle.futures.specs.declared.task.Poll.{Poll}
use Rattle.futures.specs.declared.task.Poll.TheVariants.{Ready, Pending}
use Rattle.piper.specs.declared.handles.Writer.{Writer}
use Rattle.piper_protocol.specs.declared.table.TheConstants.{MOST_A_ROUND}

-- of the first n bytes some were lost: those that were published are the front of the slice
pub wrote : (bytes published lost rest before after : List ℕ) (n : ℕ) (saw : Bool) (most : ℕ) → bytes ≡ (published ++ lost) ++ rest → length (published ++ lost) ≡ n
    → after ≡ before ++ published → (saw ≡ false → lost ≡ []) → length lost ≤ min MOST_A_ROUND most → (n ≤ length bytes) × ((m : ℕ) × (m ≤ n) × (after ≡ before ++ take m bytes) × (saw ≡ false → m ≡ n) × (n ≤ m + MOST_A_ROUND))
wrote bytes published lost rest before after n saw most given count sent all last =
    let front : take (length published) bytes ≡ published =
    ap (take (length published)) (given ∙ append_assoc published lost rest) ∙ take_at published (lost ++ rest) (length published) refl in (
      omega (arith, ap length given, length-append (published ++ lost) rest, count),
      (
        length published,
        omega (arith, count, length-append published lost),
        sent ∙ ap (λ (l : List ℕ). before ++ l) (sym front),
        λ unseen. omega (arith, count, length-append published lost, ap length (all unseen)),
        omega (arith, count, length-append published lost, last),
      ),
    )

-- and no more of them were lost than those of one round
pub lost_one : (a b published lost : List ℕ) (n most : ℕ) → b ≡ a ++ published → length (published ++ lost) ≡ n → length lost ≤ most → length a + n ≤ length b + most
lost_one a b published lost n most sent count last =
    omega (arith, ap length sent, length-append a published, length-append published lost, count, last)

-- the bytes of a slice that were counted, and those of them that were published
module _ (bytes published lost rest : List ℕ) (a b : Writer) (n : ℕ) (given : bytes ≡ (published ++ lost) ++ rest) (count : length (published ++ lost) ≡ n) (sent : b.side.end.sent ≡ a.side.end.sent ++ published) (all : b.side.end.saw ≡ false → lost ≡ []) (last : length lost ≤ most_of_round b.side.end) where
  observed : (n ≤ length bytes) × ((m : ℕ) × (m ≤ n) × (b.side.end.sent ≡ a.side.end.sent ++ take m bytes) × (b.side.end.saw ≡ false → m ≡ n) × (n ≤ m + MOST_A_ROUND))
  observed = wrote bytes published lost rest a.side.end.sent b.side.end.sent n b.side.end.saw (room_in_one_piece b.side.end) given count sent all last

  full_is : ((((0 < n) × (b.side.end.room ≡ 0)) ⊎ (length rest ≡ 0)) ⊎ (b.side.end.saw ≡ true)) → n < length bytes → b.side.end.saw ≡ false → b.side.end.room ≡ 0
  full_is (inl (inl full)) less unseen = full.1
  full_is (inl (inr dry)) less unseen = absurd (omega (arith, less, dry, count, ap length given, length-append (published ++ lost) rest))
  full_is (inr saw) less unseen = absurd (true≢false (sym saw ∙ unseen))

  pub filled_is : (0 < a.side.end.room → IsReplaced a.side.end b.side.end) → (a.side.end.room ≡ 0 → b.side.end.saw ≡ false → WriterIsUpToDate b.side.end) → ((((0 < n) × (b.side.end.room ≡ 0)) ⊎ (length rest ≡ 0)) ⊎ (b.side.end.saw ≡ true)) → Filled n a b bytes
  filled_is room fresh most = record {
    count = observed.0;
    front = (observed.1.0, observed.1.1, observed.1.2);
    all = λ unseen. observed.1.2 ∙ ap (λ k. a.side.end.sent ++ take k bytes) (observed.1.3 unseen);
    last = lost_one _ _ published lost n _ sent count last;
    room = room;
    fresh = fresh;
    most = full_is most;
  }

  -- none of some only where the pipe is closed
  pub none_is : ((((0 < n) × (b.side.end.room ≡ 0)) ⊎ (length rest ≡ 0)) ⊎ (b.side.end.saw ≡ true)) → n ≡ 0 → 0 < length bytes → b.side.end.saw ≡ true
  none_is (inl (inl full)) zero some = absurd (omega (arith, full.0, zero))
  none_is (inl (inr dry)) zero some = absurd (omega (arith, zero, some, dry, count, ap length given, length-append (published ++ lost) rest))
  none_is (inr saw) zero some = saw

-- where none was given, the writer only looked
pub looked_only : (a b : Writer) (published lost : List ℕ) → published ++ lost ≡ [] → b.side.end.sent ≡ a.side.end.sent ++ published → (0 < a.side.end.room → IsReplaced a.side.end b.side.end) → (a.side.end.room ≡ 0 → b.side.end.saw ≡ false → WriterIsUpToDate b.side.end) → WriterOnlyLooked a b
looked_only a b published lost none sent room fresh = record {
  sent = sent ∙ ap (λ xs. a.side.end.sent ++ xs) (nil_from_length published (omega (arith, ap length none, length-append published lost))) ∙ append-nil a.side.end.sent;
  room = room;
  fresh = fresh;
}

-- what a fill from a slice returns, from what it does to the struct that holds what is left of the slice
module _ {S : Type 0} (rest : S → List ℕ) (fails : S → Infallible → S → Type 0) where
  pub fills_slice : (r : Poll (Result ℕ OutOfMemory)) (a b : Writer) (s t : S)
      → Fills (λ u xs v. rest u ≡ xs ++ rest v) (λ u. length (rest u) ≡ 0) fails (of_bytes r) a.side.end b.side.end s t → FillsSlice r a b (rest s)
  fills_slice (Ready (Ok n)) a b s t d = (
    filled_is (rest s) d.published d.lost (rest t) a b n d.copied.0 d.copied.1 d.sent d.all d.last d.room d.fresh d.most,
    none_is (rest s) d.published d.lost (rest t) a b n d.copied.0 d.copied.1 d.sent d.all d.last d.most,
  )
  fills_slice (Ready (Err e)) a b s t d = looked_only a b d.published d.lost d.copied.1 d.sent d.room d.fresh
  fills_slice Pending a b s t d = looked_only a b d.published d.lost d.copied.1 d.sent d.room d.fresh

-- a fill from a slice that was pending published none of it
pub none_filled : (a b : Writer) (bytes published lost : List ℕ)
    → b.side.end.sent ≡ a.side.end.sent ++ published → published ++ lost ≡ []
    → (0 < a.side.end.room → IsReplaced a.side.end b.side.end)
    → (a.side.end.room ≡ 0 → b.side.end.saw ≡ false → WriterIsUpToDate b.side.end)
    → b.side.end.room ≡ 0 → Filled 0 a b bytes
none_filled a b bytes published lost sent none room fresh full =
    let nothing : published ≡ [] =
    nil_from_length published (omega (arith, ap length none, length-append published lost)) in
    let same : b.side.end.sent ≡ a.side.end.sent ++ [] =
    sent ∙ ap (λ (l : List ℕ). a.side.end.sent ++ l) nothing in record {
      count = omega arith;
      front = (0, omega arith, same);
      all = λ _. same;
      last = omega (arith, ap length sent, length-append a.side.end.sent published);
      room = room;
      fresh = fresh;
      most = λ _ _. full;
    }
