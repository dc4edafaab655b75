-- A ring is opened: the words are cut out of their room, the bytes are places, and the invariant is
-- made. Assumes `Logic`.
use Rattle.piper_ring.proofs.Kit.{Stored, nothing_stored, stored_code, evidence, waits_in, wakes_in, ◌≡◌, ℕ, suc, ◌+◌, ◌-◌, ◌*◌, ◌<◌, ◌^◌, true, false, List, [], ◌∷◌, length, sym, refl, ap, ◌∙◌, subst, arith, Ura, full_share, Order, numbers, latest, at_least, SProp, ent, sep, emp, ex, via, id⊢, Fml, ftrue, fsep, finv, fobs, Logic, sem, latest_shows, assume, ‵, ◌⊛◌, some, later, ◌$◌, ◌∵◌, !, qed, by, move, split, split3, fsplit, fsplit3, fjoin, fjoin3, fpack, pick, show, frame, rewrite, check, use0, use1, use2, use3, updating, await, now, done, Ptr, nothing, Ty, ty_int, w64, u8, lone, block_of, count_of, array_of, fwand, froom, span, slot_of as offset_of, span_map, unset, Stream, streams, reaches_same, Names, State, Holds, half, other, word, word_room, words_type, slot_rooms, all_rooms, idle, Inner, RingIsPlaced, common, reader_owns, writer_owns, Waits, Wakes, AreAt, Lying, number, waits_code, wakes_code, both_at, slot, slot_at, took, right, None, slice_index, coded_ℕ, coded_bool, Access, AreInOrder, By, access_code, bytes_code, closed_name, did_owns, head_name, slot_name, tail_name, ticket_code, trace, traced, false≢true, InBlock, ty_array, past as beyond, room_cut, room_glue, behind, size_of_block, space_room, Whole, mirrored, names_of, titles, Coded, signs}
use types.Growing.{latest_new}
use types.Owned.{basic}
use mir.Raw.{raw as bare}
use Rattle.rtrb.proofs.Spans.{ring_out}
use Rattle.rtrb.proofs.Positions.{position_zero}
use types.Tokens.{name_new}
use Rattle.piper_ring.proofs.Block.{beyond_words}
use Rattle.piper_ring.proofs.Evidence.{evidence_twice}
use Rattle.piper_ring.proofs.Rights.{common_twice, cut}
use Rattle.piper_ring.proofs.Steps.{closes}

module _ {M : Type 1} {𝓤 : Ura M} (𝓛 : Logic 𝓤) (w p : Ptr) (cap : ℕ) where
  open 𝓛 use {H, A}
  open signs 𝓛 use {◌⊢◌, ◌∗◌, ⟦◌⟧}

  infix 26 ◌⊢◌
  infixr 35 ◌∗◌
  abbrev u : Ty
  u = ty_int w64

  abbrev b : ℕ
  b = block_of w

  abbrev o : ℕ
  o = count_of w

  -- room for n words from e on
  abbrev many : ℕ → ℕ → Fml
  many n e = froom (ty_array u n) b e

  -- a word in use, m words behind it that nobody uses, and the n words from the next one in use on
  apart : (m n here next : ℕ) → next ≡ m * 8 + (here + 8) → ⟦ many (suc (m + n)) here ⟧ ⊢ ⟦ froom u b here ⟧ ∗ ⟦ many n next ⟧ ∗ ⟦ many m (here + 8) ⟧
  apart m n here next far = let gap : ℕ = here + 8 in
      qed 𝓛 (‵ (many (suc (m + n)) here) ∷ []) ∵ use1 𝓛 (‵ (froom u b here) ⊛ ‵ (many (m + n) gap)) (𝓛.laws.room_uncons u (m + n) b here) $ split ! $ frame ! $
      use1 𝓛 (‵ (many m gap) ⊛ ‵ (many n (beyond u m gap))) (room_cut 𝓛 u m n b gap) $ split ! $
      rewrite ! 1 (λ (at : ℕ). ‵ (many n at)) (beyond_words m gap ∙ sym far) refl $ move ! (1 ∷ []) $ frame ! $ done !

  together : (m n here next : ℕ) → next ≡ m * 8 + (here + 8) → ⟦ froom u b here ⟧ ∗ ⟦ many n next ⟧ ∗ ⟦ many m (here + 8) ⟧ ⊢ ⟦ many (suc (m + n)) here ⟧
  together m n here next far = let gap : ℕ = here + 8 in
      qed 𝓛 (‵ (froom u b here) ∷ ‵ (many n next) ∷ ‵ (many m gap) ∷ []) ∵ rewrite ! 1 (λ (at : ℕ). ‵ (many n at)) (far ∙ sym (beyond_words m gap)) refl $ move ! (2 ∷ 1 ∷ []) $
      use2 𝓛 (‵ (many (m + n) gap)) (room_glue 𝓛 u m n b gap) $ move ! (1 ∷ []) $ by ! (𝓛.laws.room_cons u (m + n) b here)

  abbrev pub Rejoin : Fml
  Rejoin = fwand (fsep (all_rooms w) (space_room w)) (froom words_type b o)

  -- the twelve words after the head are the space
  space_out : ⟦ many 12 (8 + o + 8) ⟧ ⊢ ⟦ space_room w ⟧
  space_out = let same : 8 + o + 8 ≡ 16 + o = omega arith in qed 𝓛 (‵ (many 12 (8 + o + 8)) ∷ []) ∵ rewrite ! 0 (λ (n : ℕ). ‵ (many 12 n)) same refl $ by ! (𝓛.laws.room-raw (ty_array u 12) b (16 + o))

  space_in : ⟦ space_room w ⟧ ⊢ ⟦ many 12 (8 + o + 8) ⟧
  space_in = let same : 16 + o ≡ 8 + o + 8 = omega arith in qed 𝓛 (‵ (space_room w) ∷ []) ∵ use1 𝓛 (‵ (many 12 (16 + o))) (𝓛.laws.raw-room (ty_array u 12) b (16 + o)) $ rewrite ! 0 (λ (n : ℕ). ‵ (many 12 n)) same refl $ done !

  -- the room of the words is the six words in use, the space, and what makes it of them again
  pub words_out : ⟦ froom words_type b o ⟧ ⊢ ⟦ word_room w 8 ⟧ ∗ ⟦ word_room w 208 ⟧ ∗ ⟦ word_room w 136 ⟧ ∗ ⟦ word_room w 0 ⟧ ∗ ⟦ slot_rooms w ⟧ ∗ ⟦ space_room w ⟧ ∗ ⟦ Rejoin ⟧
  words_out = let first_word : 0 + o ≡ o = omega arith in
      qed 𝓛 (‵ (froom words_type b o) ∷ []) ∵ use1 𝓛 (‵ (many 28 o)) (𝓛.laws.raw-room (ty_array u 28) b o) $ rewrite ! 0 (λ (at : ℕ). ‵ (many 28 at)) (sym first_word) refl $
      use1 𝓛 (‵ (word_room w 0) ⊛ ‵ (many 27 (8 + o)) ⊛ ‵ (many 0 (0 + o + 8))) (apart 0 27 (0 + o) (8 + o) (omega arith)) $ split3 ! $ move ! (1 ∷ []) $
      use1 𝓛 (‵ (word_room w 8) ⊛ ‵ (many 14 (112 + o)) ⊛ ‵ (many 12 (8 + o + 8))) (apart 12 14 (8 + o) (112 + o) (omega arith)) $ split3 ! $ frame ! $
      use1 𝓛 (‵ (word_room w 112) ⊛ ‵ (many 11 (136 + o)) ⊛ ‵ (many 2 (112 + o + 8))) (apart 2 11 (112 + o) (136 + o) (omega arith)) $ split3 ! $ move ! (1 ∷ []) $
      use1 𝓛 (‵ (word_room w 136) ⊛ ‵ (many 10 (144 + o)) ⊛ ‵ (many 0 (136 + o + 8))) (apart 0 10 (136 + o) (144 + o) (omega arith)) $ split3 ! $ move ! (1 ∷ []) $
      use1 𝓛 (‵ (word_room w 144) ⊛ ‵ (many 2 (208 + o)) ⊛ ‵ (many 7 (144 + o + 8))) (apart 7 2 (144 + o) (208 + o) (omega arith)) $ split3 ! $ move ! (1 ∷ []) $
      use1 𝓛 (‵ (word_room w 208) ⊛ ‵ (many 0 (224 + o)) ⊛ ‵ (many 1 (208 + o + 8))) (apart 1 0 (208 + o) (224 + o) (omega arith)) $ split3 ! $ frame ! $
      move ! (4 ∷ []) $ frame ! $ move ! (8 ∷ []) $ frame ! $ move ! (2 ∷ 5 ∷ []) $ fjoin ! $ frame ! $ move ! (5 ∷ []) $ use1 𝓛 (‵ (space_room w)) space_out $ frame ! $
      assume ! (‵ (fsep (all_rooms w) (space_room w))) $ fsplit ! $ move ! (1 ∷ []) $ use1 𝓛 (‵ (many 12 (8 + o + 8))) space_in $ move ! (1 ∷ []) $ fsplit ! $ fsplit3 ! $ move ! (2 ∷ []) $ fsplit ! $ move ! (4 ∷ []) $ fsplit ! $
      -- [the slots, the reader's first; closed; the word of leaving; head; tail; the space; what follows each]
      move ! (5 ∷ 7 ∷ 8 ∷ []) $ use3 𝓛 (‵ (many 2 (208 + o))) (together 1 0 (208 + o) (224 + o) (omega arith)) $
      move ! (1 ∷ 0 ∷ 7 ∷ []) $ use3 𝓛 (‵ (many 10 (144 + o))) (together 7 2 (144 + o) (208 + o) (omega arith)) $
      move ! (2 ∷ 0 ∷ 6 ∷ []) $ use3 𝓛 (‵ (many 11 (136 + o))) (together 0 10 (136 + o) (144 + o) (omega arith)) $
      move ! (1 ∷ 0 ∷ 5 ∷ []) $ use3 𝓛 (‵ (many 14 (112 + o))) (together 2 11 (112 + o) (136 + o) (omega arith)) $
      move ! (2 ∷ 0 ∷ 3 ∷ []) $ use3 𝓛 (‵ (many 27 (8 + o))) (together 12 14 (8 + o) (112 + o) (omega arith)) $
      move ! (1 ∷ 0 ∷ 2 ∷ []) $ use3 𝓛 (‵ (many 28 (0 + o))) (together 0 27 (0 + o) (8 + o) (omega arith)) $
      rewrite ! 0 (λ (at : ℕ). ‵ (many 28 at)) first_word refl $ by ! (𝓛.laws.room-raw (ty_array u 28) b o)

  abbrev τ : Ty
  τ = lone u8.mir

  -- the room of the bytes is one turn of places
  pub as_places : ⟦ froom (array_of u8 cap) (block_of p) (count_of p) ⟧ ⊢ ⟦ span (unset p cap) 0 cap ⟧
  as_places = let F : ℕ → Fml = λ i. froom (bare τ) (block_of p) (offset_of cap i * 1 + count_of p) in
      via 𝓤 _ (ring_out 𝓛 τ (block_of p) (count_of p) cap) (span_map 𝓛 F (unset p cap) cap 0 0 (λ a e is le lt. let same : a ≡ e = omega arith in let flat : offset_of cap a * 1 + count_of p ≡ offset_of cap a + count_of p = omega arith in
      subst (λ (m : ℕ). ⟦ F a ⟧ ⊢ ⟦ froom (bare τ) (block_of p) m ⟧) (flat ∙ ap (λ (m : ℕ). offset_of cap m + count_of p) same) (id⊢ 𝓤 ⟦ F a ⟧)))

  -- each side of a slot, as it begins
  abbrev pub Slotted : Names → Fml
  Slotted z = fsep (fsep (waits_in z true false 0 nothing_stored) (wakes_in z true 0 nothing_stored)) (fsep (waits_in z false false 0 nothing_stored) (wakes_in z false 0 nothing_stored))

  abbrev pub IsNamed : List ℕ → ℕ → Names → Type 0
  IsNamed cells life z = (z.capacity ≡ cap) × (z.cells ≡ cells) × (z.life ≡ life)

  -- with the names of the cells, and of the lifetime of their space
  abbrev pub Made : List ℕ → ℕ → Names → SProp 𝓤
  Made cells life z = base.Logic.guard 𝓤 (IsNamed cells life z) (sep 𝓤 (sem 𝓛 (reader_owns w p z 0 0 [] false)) (sep 𝓤 (sem 𝓛 (writer_owns w p z [] cap false)) (sep 𝓤 (sem 𝓛 (Slotted z)) (sep 𝓤 (sem 𝓛 (did_owns z.traced true true [])) (sem 𝓛 (did_owns z.traced true false []))))))

  abbrev O : Order Stream
  O = streams

  abbrev none : Stream
  none = ([], false)

  abbrev Begun : ℕ → ℕ → SProp 𝓤
  Begun n γ = sep 𝓤 (sem 𝓛 (latest numbers half γ n)) (sem 𝓛 (latest numbers other γ n))

  -- a number of its own, in two parts
  starts : (n : ℕ) → ent 𝓤 (emp 𝓤) (H.⇛ (ex 𝓤 (Begun n)))
  starts n = qed 𝓛 [] {P = H.⇛ (ex 𝓤 (Begun n))} (updating ! $ use0 𝓛 (later (some (λ (γ : ℕ). ‵ (latest numbers full_share γ n)))) (via 𝓤 _ (latest_new numbers 𝓛 n) (basic 𝓛 _)) $ await ! tt $ pick ! (λ γ.
      use1 𝓛 (‵ (latest numbers half γ n) ⊛ ‵ (latest numbers other γ n)) (cut 𝓛 numbers γ n full_share) $ now ! $ show ! (Begun n) γ $ done !))

  module _ {X : Type 0} (μ : ℕ) (c : Coded X) (shows : X → Fml) (x : X) (cells : List ℕ) where
    abbrev SlotMade : ℕ → ℕ × ℕ → SProp 𝓤
    SlotMade far γ = sep 𝓤 (sem 𝓛 (slot w far cells μ γ.0 γ.1 c shows)) (sep 𝓤 (sem 𝓛 (fobs γ.0 ((waits_code X c).code (false, (0, x))))) (sem 𝓛 (fobs γ.1 ((wakes_code X c).code (0, x)))))

    -- an empty slot, in which that cell lies
    slot_new : (far i : ℕ) → i < 4 → ⟦ mirrored ticket_code μ w far (number (i, false)) None ⟧ ∗ ⟦ right true (slice_index cells i) false ⟧ ∗ ⟦ shows x ⟧ ⊢ H.⇛ (ex 𝓤 (SlotMade far))
    slot_new far i small = let a : Waits X = (false, (0, x)) in let b : Wakes X = (0, x) in
        qed 𝓛 (‵ (mirrored ticket_code μ w far (number (i, false)) None) ∷ ‵ (right true (slice_index cells i) false) ∷ ‵ (shows x) ∷ []) {P = H.⇛ (ex 𝓤 (SlotMade far))} (updating ! $
        name_new ! tt ((waits_code X c).code a) (λ γ. name_new ! tt ((wakes_code X c).code b) (λ δ. move ! (3 ∷ 1 ∷ []) $ fjoin ! $ move ! (5 ∷ 0 ∷ []) $ fjoin ! $
        nothing ! $ fpack ! (AreAt X None a b) (λ _. ftrue) (omega arith, λ no. absurd (false≢true no)) $ fjoin ! $ fpack ! (Waits X × Wakes X) (both_at w far cells μ γ δ c shows None) (a, b) $
        -- [both sides; the own names, those of the side that wakes first; the word; the right]
        move ! (4 ∷ 0 ∷ []) $ fjoin ! $ move ! (3 ∷ 0 ∷ []) $ fjoin ! $ nothing ! $ fpack ! (i < 4) (λ _. ftrue) small $ fjoin ! $ fpack ! Lying (slot_at w far cells μ γ δ c shows) (i, None) $
        now ! $ show ! (SlotMade far) (γ, δ) $ move ! (0 ∷ 2 ∷ 1 ∷ []) $ done !)))

  abbrev pub zero_words : Fml
  zero_words = fsep (word w 8 0) (fsep (word w 208 0) (fsep (word w 136 0) (word w 0 0)))

  -- the words of both slots, each with the right to the cell that is to lie there
  abbrev pub slot_words : List ℕ → Fml
  slot_words cells = fsep (fsep (word w 144 0) (right true (slice_index cells 0) false)) (fsep (word w 112 2) (right true (slice_index cells 1) false))

  -- the same with what the words stand for, under these names
  abbrev named_words : List ℕ → Fml
  named_words ns = fsep (mirrored coded_ℕ (head_name ns) w 8 0 0) (fsep (mirrored bytes_code (tail_name ns) w 208 0 []) (fsep (mirrored coded_bool (closed_name ns) w 136 0 false) (word w 0 0)))

  abbrev named_slots : List ℕ → List ℕ → Fml
  named_slots cells ns = fsep (fsep (mirrored ticket_code (slot_name ns true) w 144 0 None) (right true (slice_index cells 0) false)) (fsep (mirrored ticket_code (slot_name ns false) w 112 2 None) (right true (slice_index cells 1) false))

  abbrev Mirrored : List ℕ → List ℕ → SProp 𝓤
  Mirrored cells ns = sep 𝓤 (sem 𝓛 (named_words ns)) (sep 𝓤 (sem 𝓛 (named_slots cells ns)) (sep 𝓤 (sem 𝓛 (trace ns)) (sep 𝓤 (sem 𝓛 (did_owns ns true true [])) (sem 𝓛 (did_owns ns true false [])))))

  -- each word gets its name, and the list begins
  begins_list : (cells : List ℕ) → ⟦ zero_words ⟧ ∗ ⟦ slot_words cells ⟧ ⊢ H.⇛ (ex 𝓤 (Mirrored cells))
  begins_list cells = qed 𝓛 (‵ zero_words ∷ ‵ (slot_words cells) ∷ []) {P = H.⇛ (ex 𝓤 (Mirrored cells))} (updating ! $
      fsplit3 ! $ move ! (2 ∷ []) $ fsplit ! $ move ! (4 ∷ []) $ fsplit ! $ fsplit ! $ move ! (2 ∷ []) $ fsplit ! $
      -- [the writer's slot; its right; the reader's; its right; closed; the word of leaving; the head; the tail]
      move ! (6 ∷ []) $ name_new ! tt (coded_ℕ.code 0) (λ h. move ! (2 ∷ 0 ∷ []) $ fjoin ! $
      move ! (8 ∷ []) $ name_new ! tt (bytes_code.code []) (λ t. move ! (2 ∷ 0 ∷ []) $ fjoin ! $
      move ! (8 ∷ []) $ name_new ! tt (coded_bool.code false) (λ c. move ! (2 ∷ 0 ∷ []) $ fjoin ! $
      move ! (8 ∷ []) $ name_new ! tt (ticket_code.code None) (λ r. move ! (2 ∷ 0 ∷ []) $ fjoin ! $
      move ! (8 ∷ []) $ name_new ! tt (ticket_code.code None) (λ v. move ! (2 ∷ 0 ∷ []) $ fjoin ! $
      -- [the writer's slot; its copy; the reader's slot; its copy; closed; its copy; tail; head; the rights, the writer's first; leaving]
      move ! (2 ∷ 11 ∷ []) $ fjoin ! $ move ! (1 ∷ 10 ∷ []) $ fjoin ! $ move ! (1 ∷ 0 ∷ []) $ fjoin ! $
      move ! (2 ∷ 1 ∷ []) $ fjoin ! $ move ! (3 ∷ 0 ∷ []) $ fjoin ! $ move ! (4 ∷ 0 ∷ []) $ fjoin ! $ move ! (5 ∷ 0 ∷ []) $ fjoin ! $
      -- [the copies; both slots; closed; tail; head; leaving]
      move ! (2 ∷ 5 ∷ []) $ fjoin ! $ move ! (3 ∷ 0 ∷ []) $ fjoin ! $ move ! (3 ∷ 0 ∷ []) $ fjoin ! $
      name_new ! tt (access_code.code []) (λ rd. name_new ! tt (access_code.code []) (λ wd. let ns : List ℕ = h ∷ t ∷ c ∷ r ∷ v ∷ rd ∷ wd ∷ [] in
      -- [what the writer did; its copy; what the reader did; its copy; the words; the copies; both slots]
      move ! (3 ∷ 1 ∷ []) $ fjoin ! $ move ! (0 ∷ 4 ∷ []) $ fjoin ! $ nothing ! $ fpack ! (AreInOrder []) (λ _. ftrue) tt $ fjoin ! $ fpack ! (List (By Access)) (traced ns) [] $
      now ! $ show ! (Mirrored cells) ns $ move ! (3 ∷ 4 ∷ 0 ∷ 2 ∷ 1 ∷ []) $ done !))))))))

  abbrev pub Deeds : ℕ → Fml
  Deeds life = titles w p (names_of cap 0 0 0 0 0 0 0 0 0 0 0 [] life [])

  -- the words are 0 and the rights to free are there: an empty ring, all of whose places are the
  -- writer's room
  pub begins : (cells : List ℕ) (life : ℕ) → InBlock w × (p ≡ behind w) × (size_of_block cap < 2 ^ 63) → ⟦ zero_words ⟧ ∗ ⟦ Deeds life ⟧ ∗ ⟦ slot_words cells ⟧ ⊢ H.⇛ (ex 𝓤 (Made cells life))
  begins cells life at = let fresh : State = record { sent = []; limit = cap; head = 0; seen = 0; closed = false; shut = false; reader_stage = 0; writer_stage = 0 } in
      let new : (n : ℕ) → ent 𝓤 (emp 𝓤) (H.⇛ (ex 𝓤 (Begun n))) = starts in
      qed 𝓛 (‵ zero_words ∷ ‵ (Deeds life) ∷ ‵ (slot_words cells) ∷ []) {P = H.⇛ (ex 𝓤 (Made cells life))} (updating ! $
      move ! (0 ∷ 2 ∷ []) $ use2 𝓛 (later (some (λ (ns : List ℕ). ‵ (named_words ns) ⊛ ‵ (named_slots cells ns) ⊛ ‵ (trace ns) ⊛ ‵ (did_owns ns true true []) ⊛ ‵ (did_owns ns true false [])))) (begins_list cells) $ await ! tt $ pick ! (λ ns. split3 ! $ move ! (0 ∷ 3 ∷ 1 ∷ 2 ∷ []) $
      use0 𝓛 (later (some (λ (γ : ℕ). ‵ (latest O full_share γ none)))) (via 𝓤 _ (latest_new O 𝓛 none) (basic 𝓛 _)) $ await ! tt $ pick ! (λ s. use1 𝓛 (‵ (latest O half s none) ⊛ ‵ (latest O other s none)) (cut 𝓛 O s none full_share) $ split ! $
      use0 𝓛 (later (some (λ (γ : ℕ). ‵ (latest numbers half γ cap) ⊛ ‵ (latest numbers other γ cap)))) (starts cap) $ await ! tt $ pick ! (λ l. split ! $
      use0 𝓛 (later (some (λ (γ : ℕ). ‵ (latest numbers half γ 0) ⊛ ‵ (latest numbers other γ 0)))) (starts 0) $ await ! tt $ pick ! (λ i. split ! $
      move ! (4 ∷ 2 ∷ 0 ∷ []) $ fjoin3 ! $ move ! (3 ∷ 2 ∷ 1 ∷ []) $ fjoin3 ! $
      use0 𝓛 (later (some (λ (γ : ℕ). ‵ (latest numbers half γ 0) ⊛ ‵ (latest numbers other γ 0)))) (starts 0) $ await ! tt $ pick ! (λ h. split ! $
      use0 𝓛 (later (some (λ (γ : ℕ). ‵ (latest numbers half γ 0) ⊛ ‵ (latest numbers other γ 0)))) (starts 0) $ await ! tt $ pick ! (λ j. split ! $
      move ! (2 ∷ 0 ∷ []) $ fjoin ! $ move ! (2 ∷ 1 ∷ []) $ fjoin ! $
      use0 𝓛 (later (some (λ (γ : ℕ). ‵ (latest numbers half γ 0) ⊛ ‵ (latest numbers other γ 0)))) (starts 0) $ await ! tt $ pick ! (λ k. split ! $
      move ! (3 ∷ 0 ∷ []) $ fjoin ! $ move ! (2 ∷ 1 ∷ []) $ fjoin ! $
      use0 𝓛 (later (some (λ (γ : ℕ). ‵ (latest numbers full_share γ 0)))) (via 𝓤 _ (latest_new numbers 𝓛 0) (basic 𝓛 _)) $ await ! tt $ pick ! (λ x.
      let y : Names = names_of cap s l h k x j i 0 0 0 0 cells life ns in let n : Stored = nothing_stored in
      move ! (4 ∷ []) $ fsplit3 ! $ use1 𝓛 (‵ (latest O half s none) ⊛ ‵ (evidence y true nothing_stored)) (latest_shows O 𝓛 half s none none (reaches_same none)) $ split ! $ move ! (0 ∷ 2 ∷ 3 ∷ []) $ fjoin3 ! $
      move ! (4 ∷ []) $ fsplit ! $ fsplit ! $ use1 𝓛 (‵ (latest numbers half h 0) ⊛ ‵ (took y 0)) (latest_shows numbers 𝓛 half h 0 0 (omega arith)) $ split ! $ move ! (0 ∷ 2 ∷ []) $ fjoin ! $ move ! (0 ∷ 2 ∷ []) $ fjoin ! $
      move ! (1 ∷ []) $ nothing ! $ move ! (1 ∷ 0 ∷ []) $ fjoin ! $ use1 𝓛 (‵ (evidence y false n) ⊛ ‵ (evidence y false n)) (evidence_twice 𝓛 y false n) $ split ! $
      move ! (4 ∷ []) $ use1 𝓛 (‵ (evidence y true n) ⊛ ‵ (evidence y true n)) (evidence_twice 𝓛 y true n) $ split ! $ move ! (11 ∷ []) $ fsplit ! $ fsplit ! $ move ! (2 ∷ []) $ fsplit ! $
      -- [the writer's slot, and the right; the reader's, and the right; the writer's evidence twice, the reader's twice; ..]
      move ! (0 ∷ 1 ∷ 6 ∷ []) $ use3 𝓛 (later (some (λ (γ : ℕ × ℕ). ‵ (slot w 112 cells (slot_name ns false) γ.0 γ.1 stored_code (evidence y false)) ⊛ ‵ (fobs γ.0 ((waits_code Stored stored_code).code (false, (0, n)))) ⊛ ‵ (fobs γ.1 ((wakes_code Stored stored_code).code (0, n))))))
      (slot_new (slot_name ns false) stored_code (evidence y false) n cells 112 1 (omega arith)) $ await ! tt $ pick ! (λ d. split3 ! $ move ! (1 ∷ 7 ∷ []) $ fjoin ! $ move ! (0 ∷ 2 ∷ []) $ fjoin ! $
      move ! (2 ∷ 3 ∷ 4 ∷ []) $ use3 𝓛 (later (some (λ (γ : ℕ × ℕ). ‵ (slot w 144 cells (slot_name ns true) γ.0 γ.1 stored_code (evidence y true)) ⊛ ‵ (fobs γ.0 ((waits_code Stored stored_code).code (false, (0, n)))) ⊛ ‵ (fobs γ.1 ((wakes_code Stored stored_code).code (0, n))))))
      (slot_new (slot_name ns true) stored_code (evidence y true) n cells 144 0 (omega arith)) $ await ! tt $ pick ! (λ a. split3 ! $ move ! (1 ∷ 5 ∷ []) $ fjoin ! $ move ! (0 ∷ 2 ∷ []) $ fjoin ! $ move ! (0 ∷ 2 ∷ []) $ fjoin ! $
      let z : Names = names_of cap s l h k x j i a.0 a.1 d.0 d.1 cells life ns in let so : Holds cap fresh = record { known = omega arith; arrived = omega arith; written = omega arith; freed = omega arith; closing = omega arith; shutting = omega arith; stages = (omega arith, omega arith) } in
      let I : Fml = Inner w p z in let C : Fml = common w p z in
      move ! (1 ∷ 2 ∷ []) $ fjoin ! $ move ! (8 ∷ 0 ∷ []) $ nothing ! $ nothing ! $ fjoin ! $ move ! (1 ∷ 0 ∷ []) $ fjoin ! $ fjoin ! $ move ! (0 ∷ 4 ∷ 5 ∷ 2 ∷ 6 ∷ 3 ∷ 7 ∷ 1 ∷ []) $
      nothing ! $ fjoin ! $ nothing ! $ fjoin ! $ nothing ! $ nothing ! $ fpack ! (length {A = ℕ} [] ≡ 0 + cap - cap) (λ _. ftrue) (omega arith) $ fjoin ! $ fpack ! (List ℕ) (idle w p z cap (0 + cap - cap)) [] $ fjoin ! $ nothing ! $ fjoin ! $
      move ! (6 ∷ []) $ fsplit3 ! $
      rewrite ! 0 (λ (m : ℕ). ‵ (mirrored coded_ℕ (head_name ns) w 8 m 0)) (sym (position_zero cap)) refl $ rewrite ! 1 (λ (m : ℕ). ‵ (mirrored bytes_code (tail_name ns) w 208 m [])) (sym (position_zero cap)) refl $ fjoin3 ! $ fjoin ! $ move ! (1 ∷ 0 ∷ []) $ fjoin ! $
      move ! (3 ∷ 1 ∷ 0 ∷ []) $ use3 𝓛 (‵ I) (closes 𝓛 w p z fresh so (omega arith)) $ move ! (4 ∷ []) $ split3 ! $ move ! (3 ∷ 0 ∷ []) $ fjoin ! $ move ! (0 ∷ 3 ∷ 4 ∷ 5 ∷ 1 ∷ 2 ∷ []) $ use1 𝓛 (later (‵ (finv (Whole w p z)))) (𝓛.invs.inv_new (Whole w p z)) $ await ! tt $
      nothing ! $ fpack ! (RingIsPlaced w p z) (λ _. ftrue) at $ fjoin ! $ use1 𝓛 (‵ C ⊛ ‵ C) (common_twice 𝓛 w p z) $ split ! $ move ! (3 ∷ []) $ fsplit3 ! $ use1 𝓛 (‵ (latest O half s none) ⊛ ‵ (at_least O s none)) (latest_shows O 𝓛 half s none none (reaches_same none)) $ split ! $ move ! (0 ∷ 2 ∷ 3 ∷ []) $ fjoin3 ! $ move ! (2 ∷ 0 ∷ []) $ fjoin ! $ move ! (1 ∷ []) $ nothing ! $ fpack ! (length {A = ℕ} [] ≡ 0) (λ _. ftrue) refl $ fjoin ! $ move ! (3 ∷ 0 ∷ []) $ fjoin ! $ move ! (2 ∷ 0 ∷ []) $ fjoin ! $
      now ! $ show ! (Made cells life) z $ check ! (refl, refl, refl) $ done !)))))))))))
