-- An end leaves: it closes the ring, and then gives up its places; the second one to leave gets all
-- of the memory. Assumes `Logic`.
use Rattle.piper_ring.proofs.Kit.{position_of, fwand, ◌<◌, Filled, filled, slot_word, slot_rooms, ◌≡◌, ℕ, zero, suc, ◌+◌, ◌-◌, ◌*◌, ◌≤◌, Bool, true, false, List, [], ◌∷◌, length, sym, refl, ap, ◌∙◌, subst, arith, Ura, numbers, latest, upd, ex, via, upd_i, Fml, ftrue, fsep, Logic, latest_grows, latest_shows, ‵, raw, ◌⊛◌, some, given, ◌$◌, ◌∵◌, !, qed, by, move, keep, split, split3, fsplit, fsplit3, fjoin, fjoin3, fpick, fpack, pick, learn, show, frame, assume, settle, suffices, rewrite, use1, use2, use3, done, drop as forget, Ptr, block_of, count_of, nothing, Lies, length-drop, span_join, span_map, span, array_of, Ty, w64, ty_int, lone, apply∗, id⊢, froom, fex, unset, full_share, u8, slot_of as offset_of, Names, State, Holds, half, other, flag, gone, until_both, where_gone, word, word_room, all_rooms, slots, blanks, memory, ends, raised, state_holds, drop_list, accesses_in, Coded, coded_ℕ, coded_bool, closed_is, mirrored, bytes_code, closed_name, head_name, tail_name, Log, lease, space_room, signs}
use Rattle.piper_ring.proofs.Terms.{terms}
use Rattle.rtrb.proofs.Spans.{ring_in}
use Rattle.piper_ring.proofs.PlacesParts.{forgets}
use mir.Raw.{raw as bare}
use Rattle.piper_ring.specs.Places.{fact}
use Rattle.piper_ring.proofs.Steps.{Closed, ClosedAt, Kept, closed_stored_noted, flag_small, Rest, OneStays, ReaderSees, WriterSees, reader_opens, writer_opens, closes, inside, raise}
use Rattle.piper_ring.specs.Shared.{block_room, bytes_room, found_left, four_rooms, frame as frame_of, leases, left_in, one_gone, slot_of as slot_in, titles, wakers_left, whole}

pub here : (i : ℕ) → i ≤ 1 → gone i ≡ false
here zero le = refl
here (suc zero) le = refl
here (suc (suc i)) le = absurd (omega arith)

one_false : (b : Bool) → one_gone b false ≡ flag b
one_false false = refl
one_false true = refl

one_true : (b : Bool) → one_gone b true ≡ 1
one_true false = refl
one_true true = refl

module _ {M : Type 1} {𝓤 : Ura M} (𝓛 : Logic 𝓤) (w p : Ptr) (z : Names) where
  open 𝓛 use {H, A}
  open signs 𝓛 use {Pr, ◌⊢◌, ◌∗◌, ⟦◌⟧}
  open terms 𝓛 w p z use {I, C, cap, RK, WK, access}

  infix 26 ◌⊢◌
  infixr 35 ◌∗◌
  -- the word d bytes on, under the invariant
  abbrev Holding : (d : ℕ) (f : ℕ → ℕ) (after : ℕ → Fml) (n : ℕ) → Pr
  Holding d f after n = Lies 𝓛 (block_of w) (d + count_of w) f after I n

  abbrev U : ℕ → Fml
  U = unset p cap

  abbrev τ : Ty
  τ = lone u8.mir

  -- one turn of places is the block of the bytes
  as_array : (k : ℕ) → ⟦ blanks w p z k cap ⟧ ⊢ ⟦ froom (array_of u8 cap) (block_of p) (count_of p) ⟧
  as_array k = let F : ℕ → Fml = λ i. froom (bare τ) (block_of p) (offset_of cap i * 1 + count_of p) in
      via 𝓤 _ (span_map 𝓛 U F cap k k (λ a b e le lt. let same : a ≡ b = omega arith in let flat : offset_of cap b + count_of p ≡ offset_of cap b * 1 + count_of p = omega arith in
      subst (λ (m : ℕ). ⟦ U a ⟧ ⊢ ⟦ froom (bare τ) (block_of p) m ⟧) (ap (λ (m : ℕ). offset_of cap m + count_of p) same ∙ flat) (id⊢ 𝓤 ⟦ U a ⟧)))
      (ring_in 𝓛 τ (block_of p) (count_of p) cap k)

  abbrev u : Ty
  u = ty_int w64

  -- a word is room again
  rooms : {X : Type 0} (c : Coded X) (γ d n : ℕ) (x : X) → ⟦ mirrored c γ w d n x ⟧ ⊢ ⟦ word_room w d ⟧
  rooms c γ d n x = qed 𝓛 (‵ (mirrored c γ w d n x) ∷ []) ∵ fsplit ! $ keep ! (0 ∷ []) $ by ! (𝓛.laws.at_room u (block_of w) (d + count_of w) _)

  -- a slot's word says which cell lies there
  left_of : (r : Bool) → ⟦ slot_in w p z r ⟧ ⊢ ⟦ left_in w p z (slot_word r * 8) ⟧
  left_of r = qed 𝓛 (‵ (slot_in w p z r) ∷ []) ∵ fpick ! (λ s. fsplit3 ! $ fpick ! (λ there. forget ! $ fsplit ! $ move ! (2 ∷ []) $ fsplit ! $ keep ! (2 ∷ 0 ∷ []) $ fjoin ! $
      nothing ! $ fpack ! (s.0 < 4) (λ _. ftrue) there $ fjoin ! $ fpack ! Filled (found_left w p z (slot_word r * 8)) (filled s) $ done !))

  slots_end : ⟦ slots w p z ⟧ ⊢ ⟦ wakers_left w p z ⟧
  slots_end = qed 𝓛 (‵ (slots w p z) ∷ []) ∵ fsplit ! $ use1 𝓛 (‵ (left_in w p z 144)) (left_of true) $ move ! (1 ∷ []) $ use1 𝓛 (‵ (left_in w p z 112)) (left_of false) $ move ! (1 ∷ 0 ∷ []) $ fjoin ! $ done !

  -- the words and the bytes make the block, but for the space and the slots' words
  frames : ⟦ four_rooms w ⟧ ∗ ⟦ fwand (fsep (fsep (all_rooms w) (space_room w)) (bytes_room w p z)) (block_room w p z) ⟧ ∗ ⟦ bytes_room w p z ⟧ ⊢ ⟦ frame_of w p z ⟧
  frames = let Used : Fml = fsep (fsep (all_rooms w) (space_room w)) (bytes_room w p z) in
      qed 𝓛 (‵ (four_rooms w) ∷ ‵ (fwand Used (block_room w p z)) ∷ ‵ (bytes_room w p z) ∷ []) ∵ assume ! (‵ (fsep (space_room w) (slot_rooms w))) $ fsplit ! $
      -- [the space; the slots' words; four words; the way back; the bytes]
      move ! (2 ∷ 1 ∷ []) $ fjoin ! $ fjoin ! $ move ! (0 ∷ 2 ∷ []) $ fjoin ! $ by ! (apply∗ 𝓤 ⟦ Used ⟧ ⟦ block_room w p z ⟧)

  -- with the room of the slots' words, the frame lacks the space alone
  pub frame_rejoins : ⟦ slot_rooms w ⟧ ∗ ⟦ frame_of w p z ⟧ ⊢ ⟦ fwand (space_room w) (block_room w p z) ⟧
  frame_rejoins = qed 𝓛 (‵ (slot_rooms w) ∷ ‵ (frame_of w p z) ∷ []) ∵ assume ! (‵ (space_room w)) $ fjoin ! $ by ! (apply∗ 𝓤 ⟦ fsep (space_room w) (slot_rooms w) ⟧ ⟦ block_room w p z ⟧)

  -- once both ends are gone, the words and the places that each gave up are all of the memory
  gathers : (s : State) → Holds cap s → gone s.reader_stage ≡ true → gone s.writer_stage ≡ true → ⟦ memory w p z s ⟧ ⊢ ⟦ whole w p z ⟧
  gathers s so gr gw = let b : ℕ = block_of w in let o : ℕ = count_of w in let known = so.known in let arrived = so.arrived in let written = so.written in let freed = so.freed in let sl : ℕ = length s.sent in let pend : List ℕ = drop_list s.seen s.sent in let pl : length pend ≡ sl - s.seen = length-drop s.seen s.sent in
      qed 𝓛 (‵ (memory w p z s) ∷ []) ∵ fsplit ! $ fsplit3 ! $ move ! (2 ∷ []) $ fsplit ! $
      use1 𝓛 (‵ (word_room w 136)) (rooms coded_bool (closed_name z.traced) 136 (flag s.closed) s.closed) $ move ! (1 ∷ []) $ use1 𝓛 (‵ (word_room w 0)) (𝓛.laws.at_room u b (0 + o) _) $ move ! (2 ∷ []) $
      use1 𝓛 (‵ (word_room w 8)) (rooms coded_ℕ (head_name z.traced) 8 (position_of cap s.head) s.head) $ move ! (3 ∷ []) $ use1 𝓛 (‵ (word_room w 208)) (rooms bytes_code (tail_name z.traced) 208 (position_of cap sl) s.sent) $
      move ! (3 ∷ 2 ∷ []) $ fjoin ! $ move ! (2 ∷ 1 ∷ 0 ∷ []) $ fjoin3 ! $ move ! (1 ∷ []) $ fsplit ! $ move ! (1 ∷ []) $ fsplit3 ! $ move ! (2 ∷ []) $ fsplit ! $
      rewrite ! 0 (λ (c : Bool). ‵ (where_gone c (blanks w p z sl (s.limit - sl)))) gw refl $ rewrite ! 3 (λ (c : Bool). ‵ (where_gone c (blanks w p z s.head (s.seen - s.head)))) gr refl $
      move ! (2 ∷ []) $ fpick ! (λ ys. fsplit ! $ fpick ! (λ ly. forget ! $ let size : length ys ≡ s.head + cap - s.limit = ly in
      use1 𝓛 (‵ (span U s.limit (length ys))) (forgets 𝓛 p cap ys s.limit) $ move ! (4 ∷ []) $ use1 𝓛 (‵ (span U s.seen (length pend))) (forgets 𝓛 p cap pend s.seen) $
      move ! (4 ∷ 0 ∷ []) $ use2 𝓛 (‵ (span U s.head (sl - s.head))) (span_join 𝓛 U (s.seen - s.head) s.head s.seen (length pend) (sl - s.head) (omega arith) (omega arith)) $
      move ! (0 ∷ 2 ∷ []) $ use2 𝓛 (‵ (span U s.head (s.limit - s.head))) (span_join 𝓛 U (sl - s.head) s.head sl (s.limit - sl) (s.limit - s.head) (omega arith) (omega arith)) $
      use2 𝓛 (‵ (span U s.head cap)) (span_join 𝓛 U (s.limit - s.head) s.head s.limit (length ys) cap (omega arith) (omega arith)) $
      use1 𝓛 (‵ (froom (array_of u8 cap) (block_of p) (count_of p))) (as_array s.head) $ move ! (1 ∷ []) $ fsplit ! $ fsplit ! $ fsplit ! $ move ! (2 ∷ []) $
      rewrite ! 0 (λ (c : Bool × Bool). ‵ (leases w p z c.0 c.1)) {x = (true, true)} {y = (gone s.reader_stage, gone s.writer_stage)} (λ j. (gr j, gw j)) refl $
      move ! (3 ∷ []) $ use1 𝓛 (‵ (wakers_left w p z)) slots_end $
      -- [the wakers that are left; the leases; the way back; the rights; the bytes; four words]
      move ! (5 ∷ 2 ∷ 4 ∷ []) $ use3 𝓛 (‵ (frame_of w p z)) frames $ fjoin ! $ move ! (0 ∷ 2 ∷ 1 ∷ []) $ fjoin3 ! $ done !))

  abbrev one : ℕ → ℕ
  one _ = 1

  -- n was found in the word of leaving: 1 where the other end was gone
  abbrev pub left_one : ℕ → Bool → Fml
  left_one n b = fsep (fact (n ≡ flag b)) (where_gone b (whole w p z))

  abbrev pub Left : ℕ → Fml
  Left n = fex Bool (left_one n)

  abbrev no_reader : State → State
  no_reader t = record t { reader_stage = 2 }

  seals : (t : State) → Holds cap (no_reader t) → (b : Bool) → gone t.writer_stage ≡ b → ⟦ WK other t.sent t.limit t.shut t.writer_stage ⟧ ∗ ⟦ RK other t.head t.seen 2 ⟧ ∗ ⟦ ends w p z t.closed ⟧ ∗ ⟦ memory w p z (no_reader t) ⟧ ⊢ ⟦ I ⟧ ∗ ⟦ Left (flag b) ⟧
  seals t so false e = let Mem : Fml = memory w p z (no_reader t) in qed 𝓛 (‵ (WK other t.sent t.limit t.shut t.writer_stage) ∷ ‵ (RK other t.head t.seen 2) ∷ ‵ (ends w p z t.closed) ∷ ‵ Mem ∷ []) ∵ move ! (3 ∷ []) $
      rewrite ! 0 (λ (c : Bool). ‵ (until_both true c Mem)) {x = gone t.writer_stage} {y = false} (sym e) refl $ move ! (1 ∷ 2 ∷ 3 ∷ []) $ fjoin3 ! $ nothing ! $ fpack ! (Holds cap (no_reader t)) (λ _. ftrue) so $ fjoin3 ! $ fpack ! State (state_holds w p z) (no_reader t) $
      nothing ! $ nothing ! $ fpack ! (0 ≡ flag false) (λ _. ftrue) refl $ fjoin ! $ fpack ! Bool (left_one 0) false $ move ! (1 ∷ 0 ∷ []) $ done !
  seals t so true e = let Mem : Fml = memory w p z (no_reader t) in qed 𝓛 (‵ (WK other t.sent t.limit t.shut t.writer_stage) ∷ ‵ (RK other t.head t.seen 2) ∷ ‵ (ends w p z t.closed) ∷ ‵ Mem ∷ []) ∵ nothing ! $
      rewrite ! 0 (λ (c : Bool). ‵ (until_both true c Mem)) {x = gone t.writer_stage} {y = true} (sym e) refl $ move ! (1 ∷ 2 ∷ 3 ∷ []) $ fjoin3 ! $ nothing ! $ fpack ! (Holds cap (no_reader t)) (λ _. ftrue) so $ fjoin3 ! $ fpack ! State (state_holds w p z) (no_reader t) $
      move ! (1 ∷ []) $ use1 𝓛 (‵ (whole w p z)) (gathers (no_reader t) so refl e) $ nothing ! $ fpack ! (1 ≡ flag true) (λ _. ftrue) refl $ fjoin ! $ fpack ! Bool (left_one 1) true $ move ! (1 ∷ 0 ∷ []) $ done !

  -- the reader leaves, and gives up the places of the bytes that it knows of
  pub reader_leaves : (head seen i : ℕ) → i ≤ 1 → ⟦ C ⟧ ∗ ⟦ RK half head seen i ⟧ ∗ ⟦ blanks w p z head (seen - head) ⟧ ∗ ⟦ lease z.life true ⟧ ⊢ access 0 one Left
  reader_leaves head seen i le = let Z : Pr = ex 𝓤 (Holding 0 one Left) in let G : Fml = blanks w p z head (seen - head) in let E : Fml = lease z.life true in
      inside 𝓛 w p z 0 one Left (⟦ RK half head seen i ⟧ ∗ ⟦ G ⟧ ∗ ⟦ E ⟧) (qed 𝓛 (‵ I ∷ ‵ (RK half head seen i) ∷ ‵ G ∷ ‵ E ∷ []) ∵
      use2 𝓛 (some (λ (s : State). given (ReaderSees 𝓛 w p z head seen i s) (‵ (RK half head seen i) ⊛ ‵ (RK other s.head s.seen s.reader_stage) ⊛ ‵ (WK other s.sent s.limit s.shut s.writer_stage) ⊛ ‵ (Rest 𝓛 w p z s)))) (reader_opens 𝓛 w p z half head seen i le) $ pick ! (λ s. learn ! (λ so. split3 ! $
      let eh = so.1 in let es = so.2 in let ei = so.3 in let last = so.0.stages.1 in let closing = so.0.closing in let n : ℕ = flag (gone s.writer_stage) in
      let so' : Holds cap (no_reader s) = record { known = so.0.known; arrived = so.0.arrived; written = so.0.written; freed = so.0.freed; closing = omega arith; shutting = so.0.shutting; stages = (omega arith, last) } in
      fsplit ! $ fsplit ! $ move ! (3 ∷ []) $ fsplit ! $ fsplit ! $ move ! (4 ∷ 1 ∷ []) $
      use2 𝓛 (raw (upd 𝓤 (⟦ latest numbers half z.reader_stage 2 ⟧ ∗ ⟦ latest numbers other z.reader_stage 2 ⟧))) (raise 𝓛 w p z numbers z.reader_stage i s.reader_stage 2 2 ei refl (omega arith)) $
      settle 𝓛 Z (‵ (latest numbers half z.reader_stage 2) ⊛ ‵ (latest numbers other z.reader_stage 2)) $ suffices ! _ (upd_i 𝓤 Z) $ split ! $ forget ! $
      move ! (1 ∷ 0 ∷ []) $ fjoin ! $ move ! (0 ∷ 1 ∷ []) $ fjoin ! $ keep ! (0 ∷ 3 ∷ 4 ∷ 5 ∷ []) $ move ! (1 ∷ []) $ split ! $ move ! (1 ∷ []) $ fsplit ! $ move ! (1 ∷ []) $ fsplit ! $ fsplit3 ! $ move ! (2 ∷ []) $ fsplit ! $ move ! (1 ∷ []) $
      rewrite ! 0 (λ (c : Bool). ‵ (word w 0 (one_gone c (gone s.writer_stage)))) {x = false} {y = gone s.reader_stage} (here s.reader_stage (omega arith)) refl $
      show ! (Holding 0 one Left) n $ frame ! $ assume ! (‵ (word w 0 1)) $ suffices ! _ (upd_i 𝓤 (⟦ I ⟧ ∗ ⟦ Left n ⟧)) $
      move ! (1 ∷ 0 ∷ []) $ fjoin ! $ move ! (1 ∷ 2 ∷ 0 ∷ []) $ fjoin3 ! $ move ! (1 ∷ []) $ fsplit ! $ move ! (1 ∷ []) $ fsplit3 ! $ move ! (2 ∷ []) $ fsplit ! $ move ! (1 ∷ []) $ fsplit ! $ fsplit ! $ move ! (1 ∷ []) $ fsplit ! $ forget ! $
      move ! (12 ∷ 0 ∷ []) $ fjoin ! $ move ! (1 ∷ 0 ∷ []) $ fjoin ! $ fjoin ! $ move ! (1 ∷ 0 ∷ []) $ fjoin ! $ move ! (8 ∷ []) $
      rewrite ! 0 (λ (r : ℕ × ℕ). ‵ (blanks w p z r.0 (r.1 - r.0))) {x = (s.head, s.seen)} {y = (head, seen)} (λ j. (eh j, es j)) refl $
      fjoin ! $ move ! (1 ∷ 0 ∷ []) $ fjoin ! $ move ! (2 ∷ 0 ∷ []) $ fjoin ! $ move ! (2 ∷ 0 ∷ []) $ fjoin ! $ keep ! (3 ∷ 4 ∷ 2 ∷ 0 ∷ []) $ by ! (seals s so' (gone s.writer_stage) refl))))

  -- the ring is closed, and the reader is about to leave
  abbrev pub IsClosing : ℕ → ℕ → Fml
  IsClosing head seen = fsep (raised z.closed true) (RK half head seen 1)

  -- the reader closes the ring, as it is about to leave
  pub reader_closes : (head seen i : ℕ) → i ≤ 1 → (k : Log) → k.keeps ≡ true → k.names ≡ z
      → ⟦ C ⟧ ∗ ⟦ RK half head seen i ⟧ ∗ ⟦ Kept 𝓛 w p z k (accesses_in k.lines) ⟧ ⊢ access 136 one (Closed 𝓛 w p z k (IsClosing head seen))
  reader_closes head seen i le k kept own = let Then : Fml = IsClosing head seen in let At : Bool → Pr = ClosedAt 𝓛 w p z (λ c. c) one (λ _. true) (λ _ _. Then) in let Z : Pr = ex 𝓤 At in
      closed_stored_noted 𝓛 w p z Then ⟦ RK half head seen i ⟧ (qed 𝓛 (‵ I ∷ ‵ (RK half head seen i) ∷ []) ∵
      use2 𝓛 (some (λ (s : State). given (ReaderSees 𝓛 w p z head seen i s) (‵ (RK half head seen i) ⊛ ‵ (RK other s.head s.seen s.reader_stage) ⊛ ‵ (WK other s.sent s.limit s.shut s.writer_stage) ⊛ ‵ (Rest 𝓛 w p z s)))) (reader_opens 𝓛 w p z half head seen i le) $ pick ! (λ s. learn ! (λ so. split3 ! $
      let ei = so.3 in let last = so.0.stages.1 in let small = flag_small s.closed in let s' : State = record s { closed = true; reader_stage = 1 } in let near : OneStays 𝓛 w p z s' = omega arith in
      let so' : Holds cap s' = record { known = so.0.known; arrived = so.0.arrived; written = so.0.written; freed = so.0.freed; closing = omega arith; shutting = flag_small s.shut; stages = (omega arith, last) } in
      fsplit ! $ fsplit ! $ move ! (3 ∷ []) $ fsplit ! $ fsplit ! $ move ! (4 ∷ 1 ∷ []) $ move ! (6 ∷ []) $ split ! $ move ! (1 ∷ []) $ fsplit ! $
      use1 𝓛 (raw (upd 𝓤 ⟦ ends w p z true ⟧)) (latest_grows numbers 𝓛 z.closed (flag s.closed) 1 small) $ settle 𝓛 Z (‵ (ends w p z true)) $ move ! (3 ∷ 4 ∷ []) $
      use2 𝓛 (raw (upd 𝓤 (⟦ latest numbers half z.reader_stage 1 ⟧ ∗ ⟦ latest numbers other z.reader_stage 1 ⟧))) (raise 𝓛 w p z numbers z.reader_stage i s.reader_stage 1 1 ei refl le) $
      settle 𝓛 Z (‵ (latest numbers half z.reader_stage 1) ⊛ ‵ (latest numbers other z.reader_stage 1)) $ suffices ! _ (upd_i 𝓤 Z) $ split ! $
      move ! (7 ∷ 0 ∷ []) $ fjoin ! $ move ! (0 ∷ 7 ∷ []) $ fjoin ! $ move ! (5 ∷ 1 ∷ []) $ fjoin ! $ move ! (0 ∷ 5 ∷ []) $ fjoin ! $ move ! (3 ∷ []) $ fsplit ! $ fsplit3 ! $ move ! (2 ∷ []) $ fsplit ! $ move ! (1 ∷ []) $
      rewrite ! 0 (λ (c : Bool). ‵ (word w 0 (one_gone c (gone s.writer_stage)))) {x = false} {y = gone s.reader_stage} (here s.reader_stage (omega arith)) refl $ move ! (1 ∷ []) $
      show ! At s.closed $ frame ! $ assume ! (‵ (closed_is w p z 1 true)) $ suffices ! _ (upd_i 𝓤 (⟦ I ⟧ ∗ ⟦ Then ⟧)) $
      fjoin ! $ move ! (1 ∷ 2 ∷ 0 ∷ []) $ fjoin3 ! $ move ! (1 ∷ []) $ fsplit ! $ move ! (1 ∷ []) $ fsplit3 ! $ move ! (1 ∷ []) $
      rewrite ! 0 (λ (c : Bool). ‵ (where_gone c (blanks w p z s.head (s.seen - s.head)))) {x = false} {y = gone s.reader_stage} (here s.reader_stage (omega arith)) refl $
      rewrite ! 2 (λ (c : Bool). ‵ (fsep (where_gone (gone s.writer_stage) (blanks w p z (length s.sent) (s.limit - length s.sent))) (fsep (fsep (titles w p z) (leases w p z c (gone s.writer_stage))) (slots w p z)))) {x = false} {y = gone s.reader_stage} (here s.reader_stage (omega arith)) refl $
      move ! (1 ∷ 0 ∷ 2 ∷ []) $ fjoin3 ! $ move ! (1 ∷ 0 ∷ []) $ fjoin ! $ move ! (1 ∷ 0 ∷ []) $ fjoin ! $ move ! (3 ∷ []) $ use1 𝓛 (‵ (ends w p z true) ⊛ ‵ (raised z.closed true)) (latest_shows numbers 𝓛 full_share z.closed 1 1 (omega arith)) $ split ! $ move ! (0 ∷ 2 ∷ []) $ fjoin ! $ move ! (4 ∷ 2 ∷ 0 ∷ []) $ use3 𝓛 (‵ I) (closes 𝓛 w p z s' so' near) $ frame ! $ fjoin ! $ done !))) k kept own

  abbrev no_writer : State → State
  no_writer t = record t { writer_stage = 2 }

  writer_seals : (t : State) → Holds cap (no_writer t) → (b : Bool) → gone t.reader_stage ≡ b → ⟦ WK other t.sent t.limit t.shut 2 ⟧ ∗ ⟦ RK other t.head t.seen t.reader_stage ⟧ ∗ ⟦ ends w p z t.closed ⟧ ∗ ⟦ memory w p z (no_writer t) ⟧ ⊢ ⟦ I ⟧ ∗ ⟦ Left (flag b) ⟧
  writer_seals t so false e = let Mem : Fml = memory w p z (no_writer t) in qed 𝓛 (‵ (WK other t.sent t.limit t.shut 2) ∷ ‵ (RK other t.head t.seen t.reader_stage) ∷ ‵ (ends w p z t.closed) ∷ ‵ Mem ∷ []) ∵ move ! (3 ∷ []) $
      rewrite ! 0 (λ (c : Bool). ‵ (until_both c true Mem)) {x = gone t.reader_stage} {y = false} (sym e) refl $ move ! (1 ∷ 2 ∷ 3 ∷ []) $ fjoin3 ! $ nothing ! $ fpack ! (Holds cap (no_writer t)) (λ _. ftrue) so $ fjoin3 ! $ fpack ! State (state_holds w p z) (no_writer t) $
      nothing ! $ nothing ! $ fpack ! (0 ≡ flag false) (λ _. ftrue) refl $ fjoin ! $ fpack ! Bool (left_one 0) false $ move ! (1 ∷ 0 ∷ []) $ done !
  writer_seals t so true e = let Mem : Fml = memory w p z (no_writer t) in qed 𝓛 (‵ (WK other t.sent t.limit t.shut 2) ∷ ‵ (RK other t.head t.seen t.reader_stage) ∷ ‵ (ends w p z t.closed) ∷ ‵ Mem ∷ []) ∵ nothing ! $
      rewrite ! 0 (λ (c : Bool). ‵ (until_both c true Mem)) {x = gone t.reader_stage} {y = true} (sym e) refl $ move ! (1 ∷ 2 ∷ 3 ∷ []) $ fjoin3 ! $ nothing ! $ fpack ! (Holds cap (no_writer t)) (λ _. ftrue) so $ fjoin3 ! $ fpack ! State (state_holds w p z) (no_writer t) $
      move ! (1 ∷ []) $ use1 𝓛 (‵ (whole w p z)) (gathers (no_writer t) so e refl) $ nothing ! $ fpack ! (1 ≡ flag true) (λ _. ftrue) refl $ fjoin ! $ fpack ! Bool (left_one 1) true $ move ! (1 ∷ 0 ∷ []) $ done !

  -- the writer leaves, and gives up the places of its room
  pub writer_leaves : (sent : List ℕ) (limit : ℕ) (shut : Bool) (i : ℕ) → i ≤ 1 → ⟦ C ⟧ ∗ ⟦ WK half sent limit shut i ⟧ ∗ ⟦ blanks w p z (length sent) (limit - length sent) ⟧ ∗ ⟦ lease z.life false ⟧ ⊢ access 0 one Left
  writer_leaves sent limit shut i le = let Z : Pr = ex 𝓤 (Holding 0 one Left) in let G : Fml = blanks w p z (length sent) (limit - length sent) in let E : Fml = lease z.life false in
      inside 𝓛 w p z 0 one Left (⟦ WK half sent limit shut i ⟧ ∗ ⟦ G ⟧ ∗ ⟦ E ⟧) (qed 𝓛 (‵ I ∷ ‵ (WK half sent limit shut i) ∷ ‵ G ∷ ‵ E ∷ []) ∵
      use2 𝓛 (some (λ (s : State). given (WriterSees 𝓛 w p z sent limit shut i s) (‵ (WK half sent limit shut i) ⊛ ‵ (WK other s.sent s.limit s.shut s.writer_stage) ⊛ ‵ (RK other s.head s.seen s.reader_stage) ⊛ ‵ (Rest 𝓛 w p z s)))) (writer_opens 𝓛 w p z half sent limit shut i le) $ pick ! (λ s. learn ! (λ so. split3 ! $
      let el = so.2 in let ei = so.4 in let last = so.0.stages.0 in let closing = so.0.closing in let n : ℕ = flag (gone s.reader_stage) in
      let so' : Holds cap (no_writer s) = record { known = so.0.known; arrived = so.0.arrived; written = so.0.written; freed = so.0.freed; closing = omega arith; shutting = so.0.shutting; stages = (last, omega arith) } in
      move ! (2 ∷ []) $ split ! $ move ! (2 ∷ []) $ fsplit3 ! $ move ! (5 ∷ []) $ fsplit3 ! $ move ! (5 ∷ 2 ∷ []) $
      use2 𝓛 (raw (upd 𝓤 (⟦ latest numbers half z.writer_stage 2 ⟧ ∗ ⟦ latest numbers other z.writer_stage 2 ⟧))) (raise 𝓛 w p z numbers z.writer_stage i s.writer_stage 2 2 ei refl (omega arith)) $
      settle 𝓛 Z (‵ (latest numbers half z.writer_stage 2) ⊛ ‵ (latest numbers other z.writer_stage 2)) $ suffices ! _ (upd_i 𝓤 Z) $ split ! $ forget ! $
      move ! (1 ∷ 2 ∷ 0 ∷ []) $ fjoin3 ! $ keep ! (0 ∷ 3 ∷ 4 ∷ 5 ∷ 6 ∷ []) $ move ! (2 ∷ []) $ fsplit ! $ move ! (1 ∷ []) $ fsplit ! $ fsplit3 ! $ move ! (2 ∷ []) $ fsplit ! $ move ! (1 ∷ []) $
      rewrite ! 0 (λ (m : ℕ). ‵ (word w 0 m)) {x = n} {y = one_gone (gone s.reader_stage) (gone s.writer_stage)} (ap (one_gone (gone s.reader_stage)) (here s.writer_stage (omega arith)) ∙ one_false (gone s.reader_stage)) refl $
      show ! (Holding 0 one Left) n $ frame ! $ assume ! (‵ (word w 0 1)) $ suffices ! _ (upd_i 𝓤 (⟦ I ⟧ ∗ ⟦ Left n ⟧)) $
      rewrite ! 0 (λ (m : ℕ). ‵ (word w 0 m)) {x = one_gone (gone s.reader_stage) true} {y = 1} (sym (one_true (gone s.reader_stage))) refl $
      move ! (1 ∷ 0 ∷ []) $ fjoin ! $ move ! (1 ∷ 2 ∷ 0 ∷ []) $ fjoin3 ! $ move ! (1 ∷ []) $ fsplit ! $ move ! (1 ∷ []) $ fsplit3 ! $ move ! (2 ∷ []) $ fsplit ! $ move ! (1 ∷ []) $ fsplit ! $ fsplit ! $ move ! (1 ∷ []) $ fsplit ! $
      move ! (0 ∷ 13 ∷ []) $ fjoin ! $ move ! (2 ∷ 0 ∷ []) $ fjoin ! $ move ! (0 ∷ 2 ∷ []) $ fjoin ! $ move ! (10 ∷ 0 ∷ []) $
      rewrite ! 0 (λ (r : List ℕ × ℕ). ‵ (blanks w p z (length r.0) (r.1 - length r.0))) {x = (s.sent, s.limit)} {y = (sent, limit)} (λ j. (so.1 j, el j)) refl $
      fjoin ! $ move ! (3 ∷ 4 ∷ 0 ∷ []) $ fjoin3 ! $ move ! (3 ∷ 0 ∷ []) $ fjoin ! $ move ! (3 ∷ 0 ∷ []) $ fjoin ! $ keep ! (4 ∷ 5 ∷ 3 ∷ 0 ∷ []) $ by ! (writer_seals s so' (gone s.reader_stage) refl))))
