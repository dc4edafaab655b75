-- The steps of both sides on a slot. Assumes `Logic`.
use Rattle.piper_ring.proofs.Kit.{◌*◌, ◌^◌, ◌<◌, lit<, flag, ◌≡◌, ℕ, ◌+◌, ◌≤◌, ◌⊎◌, inl, inr, Bool, true, false, List, [], ◌∷◌, sym, refl, subst, arith, Ura, upd, ex, guard, upd_i, apply∗, Share, Fml, ftrue, fsep, fex, fwand, fobs, Logic, ‵, raw, ◌⊛◌, some, given, ◌$◌, ◌∵◌, !, qed, by, move, keep, split, split3, fsplit, fsplit3, fjoin, fjoin3, fpick, fpack, pick, learn, check, show, frame, assume, settle, suffices, rewrite, use1, use2, done, drop as forget, Ptr, nothing, Filled, filled, Lying, number, ticket_if, mirrored, is_odd, Waits, Wakes, AreAt, Exchanges, IsTicket, waits_code, wakes_code, both_at, both, cell, slot_at, slot, IsRemembered, Names, State, Holds, other, slots, Order, numbers, latest, latest_shows, Stream, streams, reaches_same, took, raised, Stored, as_stored, stored_code, Known, by_reader, by_writer, knows, evidence, slot_word, accesses_in, ◌%◌, ◌==◌, ◌∙◌, Option, Some, None, is_some, ap, false≢true, fauth, name_agree, Coded, Access, FindsWords, Words, loaded_slot, slot_in, swapped, with_slot, words_after, side_of, slot_name, ticket_code, Log, signs}
use Rattle.piper_ring.proofs.Terms.{terms}
use Rattle.piper_ring.specs.Places.{fact}
use Rattle.piper_ring.specs.Shared.{slot_of, waiter, waker}
use Rattle.piper_ring.proofs.Evidence.{evidence_twice}
use Rattle.piper_ring.proofs.Trace.{takes_slot}
use Rattle.piper_ring.proofs.Steps.{Holding, Kept, Noted, access_noted, flag_small, no_load, quietly, Rest, OneStays, ReaderSees, WriterSees, reader_opens, writer_opens, closes}

pub word_fits : (r : Bool) → slot_word r * 8 < 2 ^ 64
word_fits true = lit< tt
word_fits false = lit< tt

-- the word says by its lowest bit whether a waker is there
pub odd_number : (s : Filled) → is_odd (number s) ≡ s.1
odd_number (i, true) = let e : (2 * i + 1) % 2 ≡ 1 = omega arith in ap (λ (m : ℕ). m == 1) e
odd_number (i, false) = let e : (2 * i + 0) % 2 ≡ 0 = omega arith in ap (λ (m : ℕ). m == 1) e

-- a waker in the slot is the one of the last registration
abbrev pub IsLast : Option ℕ → ℕ → Type 0
IsLast lies tickets = lies ≡ ticket_if (is_some lies) tickets

module _ {X : Type 0} where
  -- what the side that waits becomes when a cell goes into its slot, if the other had stored x
  abbrev after : Bool → Waits X → X → Waits X
  after true a x = (true, (a.1.0 + 1, x))
  after false a x = (false, a.1)

  -- what lies in the slot then
  abbrev pub put_in : Bool → Waits X → Option ℕ
  put_in filled a = ticket_if filled (a.1.0 + 1)

  goes_in : (filled : Bool) (lies : Option ℕ) (a : Waits X) (b : Wakes X) → AreAt X lies a b → AreAt X (put_in filled a) (after filled a b.1) b
  goes_in true (Some t) a b h = let lt = h.2 in (refl, refl, omega arith, refl)
  goes_in true None a b h = let le = h.0 in (refl, refl, omega arith, refl)
  goes_in false (Some t) a b h = let lt = h.2 in (omega arith, λ no. absurd (false≢true no))
  goes_in false None a b h = (h.0, λ no. absurd (false≢true no))

  exchanges : (filled : Bool) (a : Waits X) (x : X) → Exchanges X filled a (after filled a x)
  exchanges true a x = refl
  exchanges false a x = refl

  pub put_ticket : (filled : Bool) (a v : Waits X) → Exchanges X filled a v → put_in filled a ≡ ticket_if filled v.1.0
  put_ticket true a v e = ap (λ (u : Waits X). Some u.1.0) (sym e)
  put_ticket false a v e = refl

  waited : (lies : Option ℕ) (a : Waits X) (b : Wakes X) → AreAt X lies a b → (is_some lies ≡ true → a.0 ≡ true) × IsLast lies a.1.0
  waited (Some t) a b h = (λ _. h.0, ap Some h.3)
  waited None a b h = (λ e. absurd (false≢true e), refl)

  -- what the side that waits is after a load of its slot
  abbrev pub seen_own : Bool → Waits X → Waits X
  seen_own true a = a
  seen_own false a = (false, a.1)

  own_seen : (lies : Option ℕ) (a : Waits X) (b : Wakes X) → AreAt X lies a b → AreAt X lies (seen_own (is_some lies) a) b
  own_seen (Some t) a b h = h
  own_seen None a b h = (h.0, λ no. absurd (false≢true no))

  -- what the side that wakes is after a load of the slot, if it has stored x
  abbrev pub seen_other : Bool → Wakes X → X → Wakes X
  seen_other true b x = b
  seen_other false b x = (b.0, x)

  other_seen : (lies : Option ℕ) (a : Waits X) (b : Wakes X) (x : X) → AreAt X lies a b → AreAt X lies a (seen_other (is_some lies) b x)
  other_seen (Some t) a b x h = h
  other_seen None a b x h = h

  pub own_stays : (full : Bool) (a v : Waits X) → v ≡ seen_own full a → full ≡ true → v ≡ a
  own_stays true a v e is = e
  own_stays false a v e is = absurd (false≢true is)

  pub own_gone : (full : Bool) (a v : Waits X) → v ≡ seen_own full a → full ≡ false → v ≡ (false, a.1)
  own_gone true a v e is = absurd (false≢true (sym is))
  own_gone false a v e is = e

  pub other_stays : (full : Bool) (b v : Wakes X) (x : X) → v ≡ seen_other full b x → full ≡ true → v ≡ b
  other_stays true b v x e is = e
  other_stays false b v x e is = absurd (false≢true is)

  pub other_gone : (full : Bool) (b v : Wakes X) (x : X) → v ≡ seen_other full b x → full ≡ false → v ≡ (b.0, x)
  other_gone true b v x e is = absurd (false≢true (sym is))
  other_gone false b v x e is = e

  -- it empties the slot, and takes the last ticket, or none was there
  comes_out : (lies : Option ℕ) (a : Waits X) (b : Wakes X) (x : X) → AreAt X lies a b → (t : ℕ) × (IsTicket (is_some lies) b.0 t × IsLast lies t) × AreAt X None a (t, x)
  comes_out (Some t) a b x h = (a.1.0, (h.2, ap Some h.3), (omega arith, λ _. refl))
  comes_out None a b x h = (b.0, (refl, refl), h)

  pub remembers : (lies : Option ℕ) (a : Waits X) (b : Wakes X) → AreAt X lies a b → IsRemembered X a b
  remembers (Some t) a b h waits new = absurd (new h.1)
  remembers None a b h waits new = h.1 waits

module _ {M : Type 1} {𝓤 : Ura M} (𝓛 : Logic 𝓤) (w p : Ptr) (z : Names) where
  open 𝓛 use {H, A}
  open signs 𝓛 use {Pr, ◌⊢◌, ◌∗◌, ⟦◌⟧}
  open terms 𝓛 w p z use {I, C, RK, WK, access}

  infix 26 ◌⊢◌
  infixr 35 ◌∗◌
  -- beside what K knows, the invariant lends F
  abbrev pub Lent : Fml → Fml → Type 1
  Lent K F = ⟦ I ⟧ ∗ ⟦ K ⟧ ⊢ ⟦ K ⟧ ∗ ⟦ F ⟧ ∗ ⟦ fwand F I ⟧

  slots_lent : (K : Fml) (s : State) → Holds z.capacity s → OneStays 𝓛 w p z s
      → ⟦ K ⟧ ∗ ⟦ WK other s.sent s.limit s.shut s.writer_stage ⟧ ∗ ⟦ RK other s.head s.seen s.reader_stage ⟧ ∗ ⟦ Rest 𝓛 w p z s ⟧ ⊢ ⟦ K ⟧ ∗ ⟦ slots w p z ⟧ ∗ ⟦ fwand (slots w p z) I ⟧
  slots_lent K s so near = qed 𝓛 (‵ K ∷ ‵ (WK other s.sent s.limit s.shut s.writer_stage) ∷ ‵ (RK other s.head s.seen s.reader_stage) ∷ ‵ (Rest 𝓛 w p z s) ∷ []) ∵ frame ! $
      move ! (2 ∷ []) $ fsplit ! $ move ! (1 ∷ []) $ fsplit ! $ move ! (1 ∷ []) $ fsplit3 ! $ move ! (2 ∷ []) $ fsplit3 ! $ move ! (2 ∷ []) $ fsplit ! $ move ! (1 ∷ []) $ frame ! $ assume ! (‵ (slots w p z)) $
      move ! (1 ∷ 0 ∷ []) $ fjoin ! $ move ! (1 ∷ 2 ∷ 0 ∷ []) $ fjoin3 ! $ move ! (1 ∷ 2 ∷ 0 ∷ []) $ fjoin3 ! $ move ! (1 ∷ 0 ∷ []) $ fjoin ! $ move ! (1 ∷ 0 ∷ []) $ fjoin ! $ move ! (1 ∷ 2 ∷ 0 ∷ []) $ by ! (closes 𝓛 w p z s so near)

  reader_lent : (q : Share) (head seen i : ℕ) → i ≤ 1 → Lent (RK q head seen i) (slots w p z)
  reader_lent q head seen i le = let K : Fml = RK q head seen i in qed 𝓛 (‵ I ∷ ‵ K ∷ []) ∵
      use2 𝓛 (some (λ (s : State). given (ReaderSees 𝓛 w p z head seen i s) (‵ K ⊛ ‵ (RK other s.head s.seen s.reader_stage) ⊛ ‵ (WK other s.sent s.limit s.shut s.writer_stage) ⊛ ‵ (Rest 𝓛 w p z s)))) (reader_opens 𝓛 w p z q head seen i le) $ pick ! (λ s. learn ! (λ so. split3 ! $
      move ! (2 ∷ []) $ split ! $ let ei = so.3 in let top = so.0.stages.1 in move ! (2 ∷ 0 ∷ 3 ∷ 1 ∷ []) $ by ! (slots_lent K s so.0 (omega arith))))

  writer_lent : (q : Share) (sent : List ℕ) (limit : ℕ) (shut : Bool) (i : ℕ) → i ≤ 1 → Lent (WK q sent limit shut i) (slots w p z)
  writer_lent q sent limit shut i le = let K : Fml = WK q sent limit shut i in qed 𝓛 (‵ I ∷ ‵ K ∷ []) ∵
      use2 𝓛 (some (λ (s : State). given (WriterSees 𝓛 w p z sent limit shut i s) (‵ K ⊛ ‵ (WK other s.sent s.limit s.shut s.writer_stage) ⊛ ‵ (RK other s.head s.seen s.reader_stage) ⊛ ‵ (Rest 𝓛 w p z s)))) (writer_opens 𝓛 w p z q sent limit shut i le) $ pick ! (λ s. learn ! (λ so. split3 ! $
      move ! (2 ∷ []) $ split ! $ let ei = so.4 in let top = so.0.stages.0 in move ! (2 ∷ 3 ∷ 0 ∷ 1 ∷ []) $ by ! (slots_lent K s so.0 (omega arith))))

  readers_own : (K : Fml) → Lent K (slots w p z) → Lent K (slot_of w p z true)
  readers_own K h = let F : Fml = slot_of w p z true in let S : Fml = slots w p z in qed 𝓛 (‵ I ∷ ‵ K ∷ []) ∵ use2 𝓛 (‵ K ⊛ ‵ S ⊛ ‵ (fwand S I)) h $ split3 ! $ frame ! $
      fsplit ! $ frame ! $ assume ! (‵ F) $ move ! (0 ∷ 1 ∷ []) $ fjoin ! $ by ! (apply∗ 𝓤 ⟦ S ⟧ ⟦ I ⟧)

  writers_own : (K : Fml) → Lent K (slots w p z) → Lent K (slot_of w p z false)
  writers_own K h = let F : Fml = slot_of w p z false in let S : Fml = slots w p z in qed 𝓛 (‵ I ∷ ‵ K ∷ []) ∵ use2 𝓛 (‵ K ⊛ ‵ S ⊛ ‵ (fwand S I)) h $ split3 ! $ frame ! $
      fsplit ! $ move ! (1 ∷ []) $ frame ! $ assume ! (‵ F) $ move ! (1 ∷ 0 ∷ []) $ fjoin ! $ by ! (apply∗ 𝓤 ⟦ S ⟧ ⟦ I ⟧)

  -- an end that lends its words knows that both slots are there
  slot_lent : (q : Share) (k : Known) (r : Bool) → Lent (knows w p z k q) (slot_of w p z r)
  slot_lent q (by_reader head seen leaving) true = readers_own (RK q head seen (flag leaving)) (reader_lent q head seen (flag leaving) (flag_small leaving))
  slot_lent q (by_reader head seen leaving) false = writers_own (RK q head seen (flag leaving)) (reader_lent q head seen (flag leaving) (flag_small leaving))
  slot_lent q (by_writer sent limit shut) true = readers_own (WK q sent limit shut 0) (writer_lent q sent limit shut 0 (flag_small false))
  slot_lent q (by_writer sent limit shut) false = writers_own (WK q sent limit shut 0) (writer_lent q sent limit shut 0 (flag_small false))

  module _ (q : Share) (k₀ : Known) (r : Bool) where
    abbrev K : Fml
    K = knows w p z k₀ q

    abbrev far : ℕ
    far = slot_word r * 8

    abbrev γ : ℕ
    γ = waiter z r

    abbrev δ : ℕ
    δ = waker z r

    abbrev shows : Stored → Fml
    shows = evidence z r

    abbrev μ : ℕ
    μ = slot_name z.traced r

    abbrev F : Fml
    F = slot w far z.cells μ γ δ stored_code shows

    abbrev B : Option ℕ → Fml
    B = both w far z.cells μ γ δ stored_code shows

    abbrev Cell : Filled → Fml
    Cell = cell w far z.cells μ γ δ stored_code shows

    lends : Lent K F
    lends = slot_lent q k₀ r

    -- the word of the slot, in which another thing lies afterwards
    abbrev SlotAt : (f : ℕ → ℕ) (v' : Lying → Option ℕ) (then : Lying → ℕ → Fml) → Lying → Pr
    SlotAt f v' then = Holding 𝓛 w p z ticket_code μ far (slot_in (side_of r)) (with_slot (side_of r)) (takes_slot 𝓛 w z.traced I r) f (λ s. number (filled s)) (λ s. s.1) v' then

    abbrev SlotNoted : (f : ℕ → ℕ) (v' : Lying → Option ℕ) (then : Lying → ℕ → Fml) → Log → (Lying → Access) → ℕ → Fml
    SlotNoted f v' then = Noted 𝓛 w p z ticket_code μ far (slot_in (side_of r)) (with_slot (side_of r)) (takes_slot 𝓛 w z.traced I r) f (λ s. number (filled s)) (λ s. s.1) v' then

    abbrev slot_noted : (f : ℕ → ℕ) (v' : Lying → Option ℕ) (then : Lying → ℕ → Fml) (Q : Pr) (a : Lying → Access) → ⟦ I ⟧ ∗ Q ⊢ upd 𝓤 (ex 𝓤 (SlotAt f v' then))
        → ((s : Lying) (t : Words) → s.1 ≡ slot_in (side_of r) t → FindsWords (a s) t) → ((s : Lying) (t : Words) → s.1 ≡ slot_in (side_of r) t → words_after (a s) t ≡ with_slot (side_of r) (v' s) t)
        → (k : Log) → (k.keeps ≡ true → k.names ≡ z) → (k.keeps ≡ false → ((m : ℕ) → f m ≡ m) × ((s : Lying) → v' s ≡ s.1)) → ⟦ C ⟧ ∗ Q ∗ ⟦ Kept 𝓛 w p z k (accesses_in k.lines) ⟧ ⊢ access far f (SlotNoted f v' then k a)
    slot_noted f v' then = access_noted 𝓛 w p z ticket_code μ far (slot_in (side_of r)) (with_slot (side_of r)) (takes_slot 𝓛 w z.traced I r) f (λ s. number (filled s)) (λ s. s.1) v' then

    -- what the side has that waits, and the one that wakes
    abbrev Waiting : Waits Stored → Fml
    Waiting a = fsep (fobs γ ((waits_code Stored stored_code).code a)) (shows a.1.1)

    abbrev Waking : Wakes Stored → Fml
    Waking b = fobs δ ((wakes_code Stored stored_code).code b)

    -- the cell that came out, of which the number that was found speaks, and what the side has then
    abbrev out_at : (Option ℕ → Fml) → Lying → ℕ → Fml
    out_at Y s n = fsep K (fsep (fact ((s.0 < 4) × (n ≡ number (filled s)))) (fsep (Cell (filled s)) (Y s.1)))

    abbrev pub Swapped : Lying → (Option ℕ → Fml) → Log → ℕ → Fml
    Swapped own Y k = SlotNoted (λ _. number (filled own)) (λ _. own.1) (out_at Y) k (λ s. swapped (side_of r) s.1 own.1)

    -- one swap: the own cell goes in, and another comes out, whatever else the step does to both sides
    trades : (own : Lying) → own.0 < 4 → (Z : Fml) (Y : Option ℕ → Fml) → ((lies : Option ℕ) → ⟦ B lies ⟧ ∗ ⟦ Z ⟧ ⊢ upd 𝓤 (⟦ B own.1 ⟧ ∗ ⟦ Y lies ⟧))
        → (k : Log) → k.keeps ≡ true → k.names ≡ z → ⟦ C ⟧ ∗ (⟦ K ⟧ ∗ ⟦ fsep (Cell (filled own)) Z ⟧) ∗ ⟦ Kept 𝓛 w p z k (accesses_in k.lines) ⟧ ⊢ access far (λ _. number (filled own)) (Swapped own Y k)
    trades own small Z Y can k kept is = let f : ℕ → ℕ = λ _. number (filled own) in let At : Lying → Pr = SlotAt f (λ _. own.1) (out_at Y) in let G : Pr = ex 𝓤 At in let new : Fml = mirrored ticket_code μ w far (number (filled own)) own.1 in
        slot_noted f (λ _. own.1) (out_at Y) (⟦ K ⟧ ∗ ⟦ fsep (Cell (filled own)) Z ⟧) (λ s. swapped (side_of r) s.1 own.1) (qed 𝓛 (‵ I ∷ ‵ K ∷ ‵ (fsep (Cell (filled own)) Z) ∷ []) ∵ use2 𝓛 (‵ K ⊛ ‵ F ⊛ ‵ (fwand F I)) lends $ split3 ! $ move ! (1 ∷ []) $
        fpick ! (λ s. fsplit3 ! $ fpick ! (λ there. forget ! $ move ! (1 ∷ []) $ fsplit ! $ move ! (5 ∷ []) $ fsplit ! $
        -- [the own right; Z; the right that lay there; both sides; the word; K; the way back]
        move ! (3 ∷ 1 ∷ []) $ use2 𝓛 (raw (upd 𝓤 (⟦ B own.1 ⟧ ∗ ⟦ Y s.1 ⟧))) (can s.1) $ settle 𝓛 G (‵ (B own.1) ⊛ ‵ (Y s.1)) $ suffices ! _ (upd_i 𝓤 G) $ split ! $
        -- [both sides; Y; the own right; the right that lay there; the word; K; the way back]
        move ! (4 ∷ []) $ show ! At s $ frame ! $ assume ! (‵ new) $ let n : ℕ = number (filled s) in suffices ! _ (upd_i 𝓤 (⟦ I ⟧ ∗ ⟦ out_at Y s n ⟧)) $
        move ! (3 ∷ 1 ∷ []) $ fjoin ! $ move ! (1 ∷ 0 ∷ []) $ fjoin ! $ nothing ! $ fpack ! (own.0 < 4) (λ _. ftrue) small $ fjoin ! $ fpack ! Lying (slot_at w far z.cells μ γ δ stored_code shows) own $
        -- [the slot; Y; the right that lay there; K; the way back]
        move ! (0 ∷ 4 ∷ []) $ use2 𝓛 (‵ I) (apply∗ 𝓤 ⟦ F ⟧ ⟦ I ⟧) $ frame ! $ move ! (1 ∷ 0 ∷ []) $ fjoin ! $
        nothing ! $ fpack ! ((s.0 < 4) × (n ≡ n)) (λ _. ftrue) (there, refl) $ fjoin ! $ move ! (1 ∷ 0 ∷ []) $ fjoin ! $ done !)))
        (λ s t e. e) (λ s t e. refl) k (λ _. is) (no_load 𝓛 w p z kept)

    abbrev loaded_at : (Option ℕ → Fml) → Lying → ℕ → Fml
    loaded_at Y s n = fsep K (fsep (fact (n ≡ number (filled s))) (Y s.1))

    abbrev pub Loaded : (Option ℕ → Fml) → Log → ℕ → Fml
    Loaded Y k = SlotNoted (λ n. n) (λ s. s.1) (loaded_at Y) k (λ s. loaded_slot (side_of r) (is_some s.1))

    same_slot : (q : Bool) (lies : Option ℕ) (t : Words) → lies ≡ slot_in (side_of q) t → t ≡ with_slot (side_of q) lies t
    same_slot true lies t e = ap (λ (y : Option ℕ). record t { reader_slot = y }) (sym e)
    same_slot false lies t e = ap (λ (y : Option ℕ). record t { writer_slot = y }) (sym e)

    -- one load, which leaves the word
    looks : (Z : Fml) (Y : Option ℕ → Fml) → ((lies : Option ℕ) → ⟦ B lies ⟧ ∗ ⟦ Z ⟧ ⊢ upd 𝓤 (⟦ B lies ⟧ ∗ ⟦ Y lies ⟧))
        → (k : Log) → (k.keeps ≡ true → k.names ≡ z) → ⟦ C ⟧ ∗ (⟦ K ⟧ ∗ ⟦ Z ⟧) ∗ ⟦ Kept 𝓛 w p z k (accesses_in k.lines) ⟧ ⊢ access far (λ n. n) (Loaded Y k)
    looks Z Y can k own = let f : ℕ → ℕ = λ n. n in let At : Lying → Pr = SlotAt f (λ s. s.1) (loaded_at Y) in let G : Pr = ex 𝓤 At in
        slot_noted f (λ s. s.1) (loaded_at Y) (⟦ K ⟧ ∗ ⟦ Z ⟧) (λ s. loaded_slot (side_of r) (is_some s.1)) (qed 𝓛 (‵ I ∷ ‵ K ∷ ‵ Z ∷ []) ∵ use2 𝓛 (‵ K ⊛ ‵ F ⊛ ‵ (fwand F I)) lends $ split3 ! $ move ! (1 ∷ []) $
        fpick ! (λ s. fsplit3 ! $ fpick ! (λ there. forget ! $ move ! (1 ∷ []) $ fsplit ! $
        -- [the right that lies there; both sides; the word; K; the way back; Z]
        move ! (1 ∷ 5 ∷ []) $ use2 𝓛 (raw (upd 𝓤 (⟦ B s.1 ⟧ ∗ ⟦ Y s.1 ⟧))) (can s.1) $ settle 𝓛 G (‵ (B s.1) ⊛ ‵ (Y s.1)) $ suffices ! _ (upd_i 𝓤 G) $ split ! $
        -- [both sides; Y; the right; the word; K; the way back]
        move ! (3 ∷ []) $ let n : ℕ = number (filled s) in show ! At s $ frame ! $ assume ! (‵ (mirrored ticket_code μ w far n s.1)) $ suffices ! _ (upd_i 𝓤 (⟦ I ⟧ ∗ ⟦ loaded_at Y s n ⟧)) $
        move ! (3 ∷ 1 ∷ []) $ fjoin ! $ move ! (1 ∷ 0 ∷ []) $ fjoin ! $ nothing ! $ fpack ! (s.0 < 4) (λ _. ftrue) there $ fjoin ! $ fpack ! Lying (slot_at w far z.cells μ γ δ stored_code shows) s $
        -- [the slot; Y; K; the way back]
        move ! (0 ∷ 3 ∷ []) $ use2 𝓛 (‵ I) (apply∗ 𝓤 ⟦ F ⟧ ⟦ I ⟧) $ frame ! $ nothing ! $ fpack ! (n ≡ n) (λ _. ftrue) refl $ fjoin ! $ move ! (1 ∷ 0 ∷ []) $ fjoin ! $ done !)))
        (λ s t e. ap is_some e) (λ s t e. same_slot r s.1 t e) k own (λ _. (λ m. refl, λ s. refl))

    -- the side that waits becomes a'
    waits_on : (lies next : Option ℕ) (a : Waits Stored) (change : Wakes Stored → Waits Stored) → ((b : Wakes Stored) → AreAt Stored lies a b → AreAt Stored next (change b) b)
        → (Q : Waits Stored → Type 0) → ((b : Wakes Stored) → AreAt Stored lies a b → Q (change b)) → ((b : Wakes Stored) → ⟦ shows a.1.1 ⟧ ∗ ⟦ shows b.1 ⟧ ⊢ ⟦ shows b.1 ⟧ ∗ ⟦ shows (change b).1.1 ⟧)
        → ⟦ B lies ⟧ ∗ ⟦ Waiting a ⟧ ⊢ upd 𝓤 (⟦ B next ⟧ ∗ ⟦ fex (Waits Stored) (λ a'. fsep (fact (Q a')) (Waiting a')) ⟧)
    waits_on lies next a change keeps Q tells hears = let End : Fml = fex (Waits Stored) (λ a'. fsep (fact (Q a')) (Waiting a')) in let G : Pr = ⟦ B next ⟧ ∗ ⟦ End ⟧ in let k : Coded (Waits Stored) = waits_code Stored stored_code in
        qed 𝓛 (‵ (B lies) ∷ ‵ (Waiting a) ∷ []) ∵ fpick ! (λ s. fsplit3 ! $ fpick ! (λ so. forget ! $ move ! (1 ∷ []) $ fsplit ! $ move ! (3 ∷ []) $ fsplit ! $
        -- [the own; its evidence; what the waiter is; what the waker is; the evidence]
        let b : Wakes Stored = s.1 in let new : Waits Stored = change b in
        move ! (0 ∷ 2 ∷ []) $ name_agree ! k (λ e. let so' : AreAt Stored lies a b = subst (λ (y : Waits Stored). AreAt Stored lies y b) (sym e) so in
        use2 𝓛 (raw (upd 𝓤 (⟦ fobs γ (k.code new) ⟧ ∗ ⟦ fauth γ (k.code new) ⟧))) (𝓛.names.name_set_upd γ (k.code a) (k.code s.0) (k.code new)) $ settle 𝓛 G (‵ (fobs γ (k.code new)) ⊛ ‵ (fauth γ (k.code new))) $ suffices ! _ (upd_i 𝓤 G) $ split ! $
        -- [the own; what the waiter is; its evidence; what the waker is; the evidence]
        move ! (2 ∷ 4 ∷ []) $ use2 𝓛 (‵ (shows b.1) ⊛ ‵ (shows new.1.1)) (hears b) $ split ! $
        -- [the evidence; that of the own; the own; what the waiter is; what the waker is]
        move ! (3 ∷ 4 ∷ []) $ fjoin ! $ move ! (1 ∷ 0 ∷ []) $ fjoin ! $ nothing ! $ fpack ! (AreAt Stored next new b) (λ _. ftrue) (keeps b so') $ fjoin ! $ fpack ! (Waits Stored × Wakes Stored) (both_at w far z.cells μ γ δ stored_code shows next) (new, b) $ frame ! $
        move ! (1 ∷ 0 ∷ []) $ fjoin ! $ nothing ! $ fpack ! (Q new) (λ _. ftrue) (tells b so') $ fjoin ! $ fpack ! (Waits Stored) (λ a'. fsep (fact (Q a')) (Waiting a')) new $ done !)))

    -- who registers hears what the other had stored
    hears_new : (x y : Stored) → ⟦ shows x ⟧ ∗ ⟦ shows y ⟧ ⊢ ⟦ shows y ⟧ ∗ ⟦ shows y ⟧
    hears_new x y = qed 𝓛 (‵ (shows x) ∷ ‵ (shows y) ∷ []) ∵ forget ! $ by ! (evidence_twice 𝓛 z r y)

    hears_old : (x y : Stored) → ⟦ shows x ⟧ ∗ ⟦ shows y ⟧ ⊢ ⟦ shows y ⟧ ∗ ⟦ shows x ⟧
    hears_old x y = qed 𝓛 (‵ (shows x) ∷ ‵ (shows y) ∷ []) ∵ move ! (1 ∷ 0 ∷ []) $ done !

    -- what the side is that put a cell into its own slot, if that held a waker before or not
    abbrev pub IsExchanged : Waits Stored → Bool → Option ℕ → Waits Stored → Type 0
    IsExchanged a filled lies a' = Exchanges Stored filled a a' × (is_some lies ≡ true → a.0 ≡ true) × IsLast lies a.1.0

    abbrev exchanged_as : Waits Stored → Bool → Option ℕ → Waits Stored → Fml
    exchanged_as a filled lies a' = fsep (fact (IsExchanged a filled lies a')) (Waiting a')

    abbrev pub Exchanged : Waits Stored → Bool → Option ℕ → Fml
    Exchanged a filled lies = fex (Waits Stored) (exchanged_as a filled lies)

    hears : (filled : Bool) (a : Waits Stored) (b : Wakes Stored) → ⟦ shows a.1.1 ⟧ ∗ ⟦ shows b.1 ⟧ ⊢ ⟦ shows b.1 ⟧ ∗ ⟦ shows (after filled a b.1).1.1 ⟧
    hears true a b = hears_new a.1.1 b.1
    hears false a b = hears_old a.1.1 b.1

    exchange : (a : Waits Stored) (i : ℕ) (full : Bool) → i < 4 → (k : Log) → k.keeps ≡ true → k.names ≡ z
        → ⟦ C ⟧ ∗ (⟦ K ⟧ ∗ ⟦ fsep (Cell (filled (i, put_in full a))) (Waiting a) ⟧) ∗ ⟦ Kept 𝓛 w p z k (accesses_in k.lines) ⟧ ⊢ access far (λ _. number (filled (i, put_in full a))) (Swapped (i, put_in full a) (Exchanged a full) k)
    exchange a i full small = trades (i, put_in full a) small (Waiting a) (Exchanged a full) (λ lies.
        waits_on lies (put_in full a) a (λ b. after full a b.1) (λ b h. goes_in full lies a b h) (IsExchanged a full lies) (λ b h. let was = waited lies a b h in (exchanges full a b.1, was.0, was.1)) (hears full a))

    -- what the side is that loaded its own slot
    abbrev pub IsSeen : Waits Stored → Option ℕ → Waits Stored → Type 0
    IsSeen a lies a' = (a' ≡ seen_own (is_some lies) a) × (is_some lies ≡ true → a.0 ≡ true)

    abbrev seen_as : Waits Stored → Option ℕ → Waits Stored → Fml
    seen_as a lies a' = fsep (fact (IsSeen a lies a')) (Waiting a')

    abbrev pub Seen : Waits Stored → Option ℕ → Fml
    Seen a lies = fex (Waits Stored) (seen_as a lies)

    keeps_old : (full : Bool) (a : Waits Stored) (b : Wakes Stored) → ⟦ shows a.1.1 ⟧ ∗ ⟦ shows b.1 ⟧ ⊢ ⟦ shows b.1 ⟧ ∗ ⟦ shows (seen_own full a).1.1 ⟧
    keeps_old true a b = hears_old a.1.1 b.1
    keeps_old false a b = hears_old a.1.1 b.1

    pub load_own : (a : Waits Stored) → (k : Log) → (k.keeps ≡ true → k.names ≡ z) → ⟦ C ⟧ ∗ (⟦ K ⟧ ∗ ⟦ Waiting a ⟧) ∗ ⟦ Kept 𝓛 w p z k (accesses_in k.lines) ⟧ ⊢ access far (λ n. n) (Loaded (Seen a) k)
    load_own a = looks (Waiting a) (Seen a) (λ lies. waits_on lies lies a (λ _. seen_own (is_some lies) a) (λ b h. own_seen lies a b h) (IsSeen a lies) (λ b h. (refl, (waited lies a b h).0)) (keeps_old (is_some lies) a))

    one_shows : (y x o : Stored) → (y ≡ x) ⊎ (y ≡ o) → ⟦ shows x ⟧ ∗ ⟦ shows o ⟧ ⊢ ⟦ shows y ⟧
    one_shows y x o (inl e) = qed 𝓛 (‵ (shows x) ∷ ‵ (shows o) ∷ []) ∵ rewrite ! 0 (λ (u : Stored). ‵ (shows u)) {x = y} {y = x} (sym e) refl $ keep ! (0 ∷ []) $ done !
    one_shows y x o (inr e) = qed 𝓛 (‵ (shows x) ∷ ‵ (shows o) ∷ []) ∵ rewrite ! 1 (λ (u : Stored). ‵ (shows u)) {x = y} {y = o} (sym e) refl $ keep ! (1 ∷ []) $ done !

    -- the side that wakes becomes b', with evidence of what it has stored
    wakes_on : (lies next : Option ℕ) (b : Wakes Stored) (x : Stored) (Q : Wakes Stored → Type 0) → ((a : Waits Stored) → AreAt Stored lies a b → (b' : Wakes Stored) × AreAt Stored next a b' × Q b' × ((b'.1 ≡ x) ⊎ (b'.1 ≡ b.1)))
        → ⟦ B lies ⟧ ∗ ⟦ fsep (Waking b) (shows x) ⟧ ⊢ upd 𝓤 (⟦ B next ⟧ ∗ ⟦ fex (Wakes Stored) (λ b'. fsep (fact (Q b')) (Waking b')) ⟧)
    wakes_on lies next b x Q can = let End : Fml = fex (Wakes Stored) (λ b'. fsep (fact (Q b')) (Waking b')) in let G : Pr = ⟦ B next ⟧ ∗ ⟦ End ⟧ in let k : Coded (Wakes Stored) = wakes_code Stored stored_code in
        qed 𝓛 (‵ (B lies) ∷ ‵ (fsep (Waking b) (shows x)) ∷ []) ∵ fpick ! (λ s. fsplit3 ! $ fpick ! (λ so. forget ! $ move ! (1 ∷ []) $ fsplit ! $ move ! (3 ∷ []) $ fsplit ! $
        -- [the own; its evidence; what the waiter is; what the waker is; the evidence that lay there]
        let a : Waits Stored = s.0 in
        move ! (0 ∷ 3 ∷ []) $ name_agree ! k (λ e. let r = can a (subst (λ (y : Wakes Stored). AreAt Stored lies a y) (sym e) so) in let new : Wakes Stored = r.0 in
        use2 𝓛 (raw (upd 𝓤 (⟦ fobs δ (k.code new) ⟧ ∗ ⟦ fauth δ (k.code new) ⟧))) (𝓛.names.name_set_upd δ (k.code b) (k.code s.1) (k.code new)) $ settle 𝓛 G (‵ (fobs δ (k.code new)) ⊛ ‵ (fauth δ (k.code new))) $ suffices ! _ (upd_i 𝓤 G) $ split ! $
        -- [the own; what the waker is; its evidence; what the waiter is; the evidence that lay there]
        rewrite ! 4 (λ (y : Wakes Stored). ‵ (shows y.1)) {x = b} {y = s.1} (sym e) refl $ move ! (2 ∷ 4 ∷ []) $ use2 𝓛 (‵ (shows new.1)) (one_shows new.1 x b.1 r.3) $
        -- [the evidence; the own; what the waker is; what the waiter is]
        move ! (3 ∷ 2 ∷ []) $ fjoin ! $ move ! (1 ∷ 0 ∷ []) $ fjoin ! $ nothing ! $ fpack ! (AreAt Stored next a new) (λ _. ftrue) r.1 $ fjoin ! $ fpack ! (Waits Stored × Wakes Stored) (both_at w far z.cells μ γ δ stored_code shows next) (a, new) $ frame ! $
        nothing ! $ fpack ! (Q new) (λ _. ftrue) r.2 $ fjoin ! $ fpack ! (Wakes Stored) (λ b'. fsep (fact (Q b')) (Waking b')) new $ done !)))

    -- what the side is that emptied the other's slot
    abbrev pub IsTaken : Wakes Stored → Stored → Option ℕ → Wakes Stored → Type 0
    IsTaken b x lies b' = (IsTicket (is_some lies) b.0 b'.0 × IsLast lies b'.0) × (b'.1 ≡ x)

    abbrev pub Taken : Wakes Stored → Stored → Option ℕ → Fml
    Taken b x lies = fex (Wakes Stored) (λ b'. fsep (fact (IsTaken b x lies b')) (Waking b'))

    empty : (b : Wakes Stored) (x : Stored) (i : ℕ) → i < 4 → (k : Log) → k.keeps ≡ true → k.names ≡ z
        → ⟦ C ⟧ ∗ (⟦ K ⟧ ∗ ⟦ fsep (Cell (i, false)) (fsep (Waking b) (shows x)) ⟧) ∗ ⟦ Kept 𝓛 w p z k (accesses_in k.lines) ⟧ ⊢ access far (λ _. number (i, false)) (Swapped (i, None) (Taken b x) k)
    empty b x i small = trades (i, None) small (fsep (Waking b) (shows x)) (Taken b x) (λ lies. wakes_on lies None b x (IsTaken b x lies) (λ a h. let o = comes_out lies a b x h in ((o.0, x), o.2, (o.1, refl), inl refl)))

    -- what the side is that loaded the other's slot
    abbrev pub Looked : Wakes Stored → Stored → Option ℕ → Fml
    Looked b x lies = fex (Wakes Stored) (λ b'. fsep (fact (b' ≡ seen_other (is_some lies) b x)) (Waking b'))

    sees : (full : Bool) (b : Wakes Stored) (x : Stored) → ((seen_other full b x).1 ≡ x) ⊎ ((seen_other full b x).1 ≡ b.1)
    sees true b x = inr refl
    sees false b x = inl refl

    pub load_other : (b : Wakes Stored) (x : Stored) → (k : Log) → (k.keeps ≡ true → k.names ≡ z) → ⟦ C ⟧ ∗ (⟦ K ⟧ ∗ ⟦ fsep (Waking b) (shows x) ⟧) ∗ ⟦ Kept 𝓛 w p z k (accesses_in k.lines) ⟧ ⊢ access far (λ n. n) (Loaded (Looked b x) k)
    load_other b x = looks (fsep (Waking b) (shows x)) (Looked b x) (λ lies. wakes_on lies lies b x (λ b'. b' ≡ seen_other (is_some lies) b x) (λ a h. (seen_other (is_some lies) b x, other_seen lies a b x h, refl, sees (is_some lies) b x)))

    abbrev pub Met : Waits Stored → Wakes Stored → Pr
    Met a b = guard 𝓤 (IsRemembered Stored a b) (⟦ K ⟧ ∗ ⟦ Waiting a ⟧ ∗ ⟦ Waking b ⟧)

    -- both sides held by one thread: it is no step
    pub meet : (a : Waits Stored) (b : Wakes Stored) → ⟦ C ⟧ ∗ ⟦ K ⟧ ∗ ⟦ Waiting a ⟧ ∗ ⟦ Waking b ⟧ ⊢ H.⇛ (Met a b)
    meet a b = let Q : Pr = Met a b in let Z : Pr = ⟦ I ⟧ ∗ Q in
        quietly 𝓛 w p z (⟦ K ⟧ ∗ ⟦ Waiting a ⟧ ∗ ⟦ Waking b ⟧) Q (qed 𝓛 (‵ I ∷ ‵ K ∷ ‵ (Waiting a) ∷ ‵ (Waking b) ∷ []) ∵
        use2 𝓛 (‵ K ⊛ ‵ F ⊛ ‵ (fwand F I)) lends $ split3 ! $ move ! (1 ∷ []) $ fpick ! (λ s. fsplit3 ! $ fpick ! (λ there. forget ! $ move ! (1 ∷ []) $ fsplit ! $ move ! (1 ∷ []) $ fpick ! (λ both_are. fsplit3 ! $ fpick ! (λ so. forget ! $ move ! (1 ∷ []) $ fsplit ! $
        -- [what the waiter is; what the waker is; the evidence; the right; the word; K; the way back; a; b]
        move ! (7 ∷ []) $ fsplit ! $ move ! (0 ∷ 2 ∷ []) $ name_agree ! (waits_code Stored stored_code) (λ ea. move ! (9 ∷ 3 ∷ []) $ name_agree ! (wakes_code Stored stored_code) (λ eb.
        -- [b; what the waker is; a; what the waiter is; a's evidence; the evidence; the right; the word; K; the way back]
        move ! (3 ∷ 1 ∷ []) $ fjoin ! $ move ! (4 ∷ 0 ∷ []) $ fjoin ! $ nothing ! $ fpack ! (AreAt Stored s.1 both_are.0 both_are.1) (λ _. ftrue) so $ fjoin ! $ fpack ! (Waits Stored × Wakes Stored) (both_at w far z.cells μ γ δ stored_code shows s.1) both_are $
        -- [both sides; b; a; a's evidence; the right; the word; K; the way back]
        move ! (4 ∷ 0 ∷ []) $ fjoin ! $ move ! (4 ∷ 0 ∷ []) $ fjoin ! $ nothing ! $ fpack ! (s.0 < 4) (λ _. ftrue) there $ fjoin ! $ fpack ! Lying (slot_at w far z.cells μ γ δ stored_code shows) s $
        -- [the slot; b; a; a's evidence; K; the way back]
        move ! (0 ∷ 5 ∷ []) $ use2 𝓛 (‵ I) (apply∗ 𝓤 ⟦ F ⟧ ⟦ I ⟧) $ suffices ! _ (upd_i 𝓤 Z) $ frame ! $ move ! (1 ∷ 2 ∷ []) $ fjoin ! $ move ! (2 ∷ 0 ∷ 1 ∷ []) $
        check ! (subst (λ (q : Waits Stored × Wakes Stored). IsRemembered Stored q.0 q.1) (λ j. (sym ea j, sym eb j)) (remembers s.1 both_are.0 both_are.1 so)) $ done !)))))))

    abbrev pub SwapsOwn : Waits Stored → Filled → Log → ℕ → Fml
    SwapsOwn a own = Swapped (own.0, put_in own.1 a) (Exchanged a own.1)

    pub put_filled : (full : Bool) (t : ℕ) → is_some (ticket_if full t) ≡ full
    put_filled true t = refl
    put_filled false t = refl

    -- what the word is told to be
    pub exchange_own : (a : Waits Stored) (own : Filled) (new : ℕ) → own.0 < 4 → new ≡ number own → (k : Log) → k.keeps ≡ true → k.names ≡ z
        → ⟦ C ⟧ ∗ (⟦ K ⟧ ∗ ⟦ fsep (Cell own) (Waiting a) ⟧) ∗ ⟦ Kept 𝓛 w p z k (accesses_in k.lines) ⟧ ⊢ access far (λ _. new) (SwapsOwn a own k)
    exchange_own a own new small e k kept is = let same : is_some (put_in own.1 a) ≡ own.1 = put_filled own.1 (a.1.0 + 1) in
        subst (λ (u : ℕ × Bool). ⟦ C ⟧ ∗ (⟦ K ⟧ ∗ ⟦ fsep (Cell (own.0, u.1)) (Waiting a) ⟧) ∗ ⟦ Kept 𝓛 w p z k (accesses_in k.lines) ⟧ ⊢ access far (λ _. u.0) (SwapsOwn a own k))
        {x = (number (own.0, is_some (put_in own.1 a)), is_some (put_in own.1 a))} {y = (new, own.1)} (λ j. ((ap (λ (b : Bool). number (own.0, b)) same ∙ sym e) j, same j))
        (exchange a own.0 own.1 small k kept is)

    abbrev pub LoadsOwn : Waits Stored → Log → ℕ → Fml
    LoadsOwn a = Loaded (Seen a)

    abbrev pub EmptiesOther : Wakes Stored → Stored → ℕ → Log → ℕ → Fml
    EmptiesOther b x i = Swapped (i, None) (Taken b x)

    pub empty_other : (b : Wakes Stored) (x : Stored) (i new : ℕ) → i < 4 → new ≡ number (i, false) → (k : Log) → k.keeps ≡ true → k.names ≡ z
        → ⟦ C ⟧ ∗ (⟦ K ⟧ ∗ ⟦ fsep (Cell (i, false)) (fsep (Waking b) (shows x)) ⟧) ∗ ⟦ Kept 𝓛 w p z k (accesses_in k.lines) ⟧ ⊢ access far (λ _. new) (EmptiesOther b x i k)
    empty_other b x i new small e k kept is = subst (λ (m : ℕ). ⟦ C ⟧ ∗ (⟦ K ⟧ ∗ ⟦ fsep (Cell (i, false)) (fsep (Waking b) (shows x)) ⟧) ∗ ⟦ Kept 𝓛 w p z k (accesses_in k.lines) ⟧ ⊢ access far (λ _. m) (EmptiesOther b x i k)) (sym e)
        (empty b x i small k kept is)

    abbrev pub LooksAtOther : Wakes Stored → Stored → Log → ℕ → Fml
    LooksAtOther b x = Loaded (Looked b x)

  -- what the writer's right to the stream shows
  pub writer_stored : (q : Share) (sent : List ℕ) (limit : ℕ) (shut : Bool) → ⟦ WK q sent limit shut 0 ⟧ ⊢ ⟦ WK q sent limit shut 0 ⟧ ∗ ⟦ evidence z true (as_stored sent 0 shut) ⟧
  writer_stored q sent limit shut = let O : Order Stream = streams in let s : Stream = (sent, shut) in qed 𝓛 (‵ (WK q sent limit shut 0) ∷ []) ∵ fsplit3 ! $
      use1 𝓛 (‵ (latest O q z.sent s) ⊛ ‵ (evidence z true (as_stored sent 0 shut))) (latest_shows O 𝓛 q z.sent s s (reaches_same s)) $ split ! $ move ! (0 ∷ 2 ∷ 3 ∷ []) $ fjoin3 ! $ done !

  -- what the reader's right to the head shows
  pub reader_stored : (q : Share) (head seen : ℕ) (leaving closed : Bool) → ⟦ RK q head seen (flag leaving) ⟧ ∗ ⟦ raised z.closed closed ⟧ ⊢ ⟦ RK q head seen (flag leaving) ⟧ ∗ ⟦ evidence z false (as_stored [] head closed) ⟧
  reader_stored q head seen leaving closed = qed 𝓛 (‵ (RK q head seen (flag leaving)) ∷ ‵ (raised z.closed closed) ∷ []) ∵ fsplit ! $ fsplit ! $
      use1 𝓛 (‵ (latest numbers q z.head head) ⊛ ‵ (took z head)) (latest_shows numbers 𝓛 q z.head head head (omega arith)) $ split ! $ move ! (0 ∷ 2 ∷ []) $ fjoin ! $ move ! (0 ∷ 2 ∷ []) $ fjoin ! $ move ! (1 ∷ 2 ∷ []) $ fjoin ! $ move ! (1 ∷ 0 ∷ []) $ done !
