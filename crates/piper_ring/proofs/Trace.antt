-- An access under an invariant of the words is one under the invariant with the list of all accesses,
-- and adds itself to that list. Assumes `Logic`.
use Rattle.piper_ring.proofs.Kit.{◌≡◌, ℕ, ◌+◌, Bool, true, false, List, [], ◌∷◌, refl, sym, subst, Ura, Fml, ftrue, fsep, fex, finv, fauth, fobs, Logic, ‵, raw, ◌⊛◌, some, ◌$◌, ◌∵◌, !, qed, move, split, fsplit, fsplit3, fjoin, fpick, fpack, pick, check, show, frame, assume, settle, suffices, rewrite, use1, use2, done, drop as forget, name_agree, Ptr, block_ptr, block_of, count_of, nothing, asks, always, Coded, coded_ℕ, coded_bool, Reader, Writer, signs, upd, ex, guard, upd_i, apply∗}
use Rattle.rtrb.proofs.Asks.{Lies, shared}
use Rattle.piper_protocol.specs.OneList.{Access, By, Words, AreInOrder, AreOneList, FindsWords, did_by, slot_in, with_slot, words_after, words_of, by as turn}
use Rattle.piper_ring.specs.Trace.{access_code, bytes_code, closed_name, did_name, did_owns, head_name, mirrors, side_of, sides, slot_name, tail_name, ticket_code, trace, traced}
use Rattle.piper_ring.specs.Words.{mirrored, word}

module _ {M : Type 1} {𝓤 : Ura M} (𝓛 : Logic 𝓤) where
  open 𝓛 use {H, A}
  open signs 𝓛 use {Pr, ◌⊢◌, ◌∗◌, ◌-∗◌, ⟦◌⟧}

  infix 26 ◌⊢◌
  infixr 35 ◌∗◌
  infixr 30 ◌-∗◌
  module _ (w : Ptr) (names : List ℕ) (I : Fml) where
    abbrev T : Fml
    T = trace names

    abbrev Sides : List (By Access) → Fml
    Sides = sides names

    abbrev pub Whole : Fml
    Whole = fsep I T

    -- an access of the word d bytes on
    abbrev pub access : (d : ℕ) (f : ℕ → ℕ) (then : ℕ → Fml) → Pr
    access d f then = let spot : Ptr = block_ptr (block_of w) (d + count_of w) in asks 𝓛 spot f always then

    -- what a word stands for comes out of the list's side, and goes back as y
    abbrev pub Takes : {A : Type 0} → Coded A → ℕ → (Words → A) → (A → Words → Words) → Type 1
    Takes {A} c γ get put = (s : Words) (y : A) → ⟦ mirrors names s ⟧ ⊢ ⟦ fauth γ (c.code (get s)) ⟧ ∗ (⟦ fauth γ (c.code y) ⟧ -∗ ⟦ mirrors names (put y s) ⟧)

    pub takes_head : Takes coded_ℕ (head_name names) (λ s. s.head) (λ y s. record s { head = y })
    takes_head s y = qed 𝓛 (‵ (mirrors names s) ∷ []) ∵ fsplit ! $ frame ! $ assume ! (‵ (fauth (head_name names) (coded_ℕ.code y))) $ fjoin ! $ done !

    pub takes_tail : Takes bytes_code (tail_name names) (λ s. s.sent) (λ y s. record s { sent = y })
    takes_tail s y = qed 𝓛 (‵ (mirrors names s) ∷ []) ∵ fsplit ! $ move ! (1 ∷ []) $ fsplit ! $ frame ! $ assume ! (‵ (fauth (tail_name names) (bytes_code.code y))) $ fjoin ! $ move ! (1 ∷ 0 ∷ []) $ fjoin ! $ done !

    pub takes_closed : Takes coded_bool (closed_name names) (λ s. s.is_closed) (λ y s. record s { is_closed = y })
    takes_closed s y = qed 𝓛 (‵ (mirrors names s) ∷ []) ∵ fsplit ! $ move ! (1 ∷ []) $ fsplit ! $ move ! (1 ∷ []) $ fsplit ! $ frame ! $ assume ! (‵ (fauth (closed_name names) (coded_bool.code y))) $
        fjoin ! $ move ! (1 ∷ 0 ∷ []) $ fjoin ! $ move ! (1 ∷ 0 ∷ []) $ fjoin ! $ done !

    pub takes_slot : (r : Bool) → Takes ticket_code (slot_name names r) (slot_in (side_of r)) (with_slot (side_of r))
    takes_slot true s y = qed 𝓛 (‵ (mirrors names s) ∷ []) ∵ fsplit ! $ move ! (1 ∷ []) $ fsplit ! $ move ! (1 ∷ []) $ fsplit ! $ move ! (1 ∷ []) $ fsplit ! $ frame ! $ assume ! (‵ (fauth (slot_name names true) (ticket_code.code y))) $
        fjoin ! $ move ! (1 ∷ 0 ∷ []) $ fjoin ! $ move ! (1 ∷ 0 ∷ []) $ fjoin ! $ move ! (1 ∷ 0 ∷ []) $ fjoin ! $ done !
    takes_slot false s y = qed 𝓛 (‵ (mirrors names s) ∷ []) ∵ fsplit ! $ move ! (1 ∷ []) $ fsplit ! $ move ! (1 ∷ []) $ fsplit ! $ move ! (1 ∷ []) $ fsplit ! $ move ! (1 ∷ []) $ frame ! $ assume ! (‵ (fauth (slot_name names false) (ticket_code.code y))) $
        move ! (1 ∷ 0 ∷ []) $ fjoin ! $ move ! (1 ∷ 0 ∷ []) $ fjoin ! $ move ! (1 ∷ 0 ∷ []) $ fjoin ! $ move ! (1 ∷ 0 ∷ []) $ fjoin ! $ done !

    side_notes : (r : Bool) (did : List Access) (a : Access) (turns : List (By Access))
        → ⟦ Sides turns ⟧ ∗ ⟦ did_owns names true r did ⟧ ⊢ upd 𝓤 (⟦ Sides (turn (side_of r) a ∷ turns) ⟧ ∗ ⟦ did_owns names true r (a ∷ did) ⟧)
    side_notes true did a turns = let γ : ℕ = did_name names true in let Did : List Access → Fml = did_owns names true true in let Z : Pr = ⟦ Sides (turn Reader a ∷ turns) ⟧ ∗ ⟦ Did (a ∷ did) ⟧ in let Auth : List Access → Fml = λ l. fauth γ (access_code.code l) in
        qed 𝓛 (‵ (Sides turns) ∷ ‵ (Did did) ∷ []) ∵ fsplit ! $ move ! (2 ∷ 0 ∷ []) $ name_agree ! access_code (λ e.
        use2 𝓛 (raw (upd 𝓤 (⟦ Did (a ∷ did) ⟧ ∗ ⟦ Auth (a ∷ did) ⟧))) (𝓛.names.name_set_upd γ (access_code.code did) (access_code.code (did_by Reader turns)) (access_code.code (a ∷ did))) $
        settle 𝓛 Z (‵ (Did (a ∷ did)) ⊛ ‵ (Auth (a ∷ did))) $ suffices ! _ (upd_i 𝓤 Z) $ split ! $
        rewrite ! 1 (λ (l : List Access). ‵ (Auth (a ∷ l))) {x = did_by Reader turns} {y = did} e refl $ move ! (1 ∷ 2 ∷ []) $ fjoin ! $ frame ! $ done !)
    side_notes false did a turns = let γ : ℕ = did_name names false in let Did : List Access → Fml = did_owns names true false in let Z : Pr = ⟦ Sides (turn Writer a ∷ turns) ⟧ ∗ ⟦ Did (a ∷ did) ⟧ in let Auth : List Access → Fml = λ l. fauth γ (access_code.code l) in
        qed 𝓛 (‵ (Sides turns) ∷ ‵ (Did did) ∷ []) ∵ fsplit ! $ move ! (2 ∷ 1 ∷ []) $ name_agree ! access_code (λ e.
        use2 𝓛 (raw (upd 𝓤 (⟦ Did (a ∷ did) ⟧ ∗ ⟦ Auth (a ∷ did) ⟧))) (𝓛.names.name_set_upd γ (access_code.code did) (access_code.code (did_by Writer turns)) (access_code.code (a ∷ did))) $
        settle 𝓛 Z (‵ (Did (a ∷ did)) ⊛ ‵ (Auth (a ∷ did))) $ suffices ! _ (upd_i 𝓤 Z) $ split ! $
        rewrite ! 1 (λ (l : List Access). ‵ (Auth (a ∷ l))) {x = did_by Writer turns} {y = did} e refl $ move ! (2 ∷ 1 ∷ []) $ fjoin ! $ frame ! $ done !)

    -- a step on a word beside the invariant: for some x, the word says n x and stands for v x, and stands
    -- for v' x afterwards
    module _ {A : Type 0} (c : Coded A) (γ : ℕ) {B : Type 0} (d : ℕ) (f : ℕ → ℕ) (n : B → ℕ) (v v' : B → A) (then : B → ℕ → Fml) where
      abbrev pub Holding : B → Pr
      Holding x = ⟦ mirrored c γ w d (n x) (v x) ⟧ ∗ (⟦ mirrored c γ w d (f (n x)) (v' x) ⟧ -∗ upd 𝓤 (⟦ I ⟧ ∗ ⟦ then x (n x) ⟧))

      -- what the side has then, which noted the access, or nobody did
      abbrev pub noted_as : List ℕ → Bool → Bool → List Access → (B → Access) → ℕ → B → Fml
      noted_as owner keeps r did a m x = fsep (then x m) (did_owns owner keeps r (a x ∷ did))

      abbrev pub Noted : List ℕ → Bool → Bool → List Access → (B → Access) → ℕ → Fml
      Noted owner keeps r did a m = fex B (noted_as owner keeps r did a m)

      module _ (get : Words → A) (put : A → Words → Words) (takes : Takes c γ get put) (a : B → Access) (X : Pr) (can : ⟦ I ⟧ ∗ X ⊢ upd 𝓤 (ex 𝓤 Holding)) (r : Bool) (did : List Access) where
        notes : ((x : B) (s : Words) → v x ≡ get s → FindsWords (a x) s) → ((x : B) (s : Words) → v x ≡ get s → words_after (a x) s ≡ put (v' x) s)
            → ⟦ finv Whole ⟧ ∗ X ∗ ⟦ did_owns names true r did ⟧ ⊢ access d f (Noted names true r did a)
        notes finds sets = let After : ℕ → Fml = Noted names true r did a in let Full : ℕ → Pr = Lies 𝓛 (block_of w) (d + count_of w) f After Whole in let Z : Pr = ex 𝓤 Full in let Y : Fml = did_owns names true r did in
            let Obs : A → Fml = λ y. fobs γ (c.code y) in let Auth : A → Fml = λ y. fauth γ (c.code y) in
            shared 𝓛 (block_of w) (d + count_of w) f After Whole (X ∗ ⟦ Y ⟧) (qed 𝓛 (‵ Whole ∷ (raw X ⊛ ‵ Y) ∷ []) ∵
            fsplit ! $ move ! (2 ∷ []) $ split ! $ move ! (2 ∷ 0 ∷ []) $
            use2 𝓛 (raw (upd 𝓤 (ex 𝓤 Holding))) can $
            settle 𝓛 Z (some (λ (x : B). ‵ (mirrored c γ w d (n x) (v x)) ⊛ raw (⟦ mirrored c γ w d (f (n x)) (v' x) ⟧ -∗ upd 𝓤 (⟦ I ⟧ ∗ ⟦ then x (n x) ⟧)))) $ pick ! (λ x. split ! $
            -- [the word; the way back; what it did; the list]
            move ! (3 ∷ []) $ fpick ! (λ turns. fsplit3 ! $ fpick ! (λ ordered. forget ! $
            let s : Words = words_of turns in let turns' : List (By Access) = turn (side_of r) (a x) ∷ turns in let m : ℕ = n x in let new : A = v' x in
            let Rest : Fml = mirrors names (put new s) in let Y' : Fml = did_owns names true r (a x ∷ did) in
            -- [the sides; the mirrors; the word; the way back; what it did]
            move ! (0 ∷ 4 ∷ []) $ use2 𝓛 (raw (upd 𝓤 (⟦ Sides turns' ⟧ ∗ ⟦ Y' ⟧))) (side_notes r did (a x) turns) $ settle 𝓛 Z (‵ (Sides turns') ⊛ ‵ Y') $ split ! $
            -- [the sides; what it did; the mirrors; the word; the way back]
            move ! (2 ∷ []) $ use1 𝓛 (‵ (Auth (get s)) ⊛ raw (⟦ Auth new ⟧ -∗ ⟦ Rest ⟧)) (takes s new) $ split ! $
            -- [the mirror; its way back; the sides; what it did; the word; the way back]
            move ! (4 ∷ []) $ fsplit ! $ move ! (1 ∷ 2 ∷ []) $ name_agree ! c (λ e.
            use2 𝓛 (raw (upd 𝓤 (⟦ Obs new ⟧ ∗ ⟦ Auth new ⟧))) (𝓛.names.name_set_upd γ (c.code (v x)) (c.code (get s)) (c.code new)) $
            settle 𝓛 Z (‵ (Obs new) ⊛ ‵ (Auth new)) $ suffices ! _ (upd_i 𝓤 Z) $ split ! $
            -- [the copy; the mirror; the word; its way back; the sides; what it did; the way back]
            move ! (2 ∷ []) $ show ! Full m $ frame ! $ assume ! (‵ (word w d (f m))) $
            let Q : Pr = ⟦ Whole ⟧ ∗ ⟦ After m ⟧ in
            fjoin ! $ move ! (0 ∷ 5 ∷ []) $ use2 𝓛 (raw (upd 𝓤 (⟦ I ⟧ ∗ ⟦ then x m ⟧))) (apply∗ 𝓤 ⟦ mirrored c γ w d (f m) new ⟧ (upd 𝓤 (⟦ I ⟧ ∗ ⟦ then x m ⟧))) $
            settle 𝓛 Q (‵ I ⊛ ‵ (then x m)) $ suffices ! _ (upd_i 𝓤 Q) $ split ! $
            -- [the words; what the step has after; the mirror; its way back; the sides; what it did]
            move ! (2 ∷ 3 ∷ []) $ use2 𝓛 (‵ Rest) (apply∗ 𝓤 ⟦ Auth new ⟧ ⟦ Rest ⟧) $
            rewrite ! 0 (λ (u : Words). ‵ (mirrors names u)) {x = words_of turns'} {y = put new s} (sym (sets x s e)) refl $
            -- [the mirrors; the words; what it has; the sides; what it did]
            move ! (3 ∷ 0 ∷ []) $ fjoin ! $ nothing ! $ fpack ! (AreInOrder turns') (λ _. ftrue) (finds x s e, ordered) $ fjoin ! $ fpack ! (List (By Access)) (traced names) turns' $
            move ! (1 ∷ 0 ∷ []) $ fjoin ! $ frame ! $ fjoin ! $ fpack ! B (noted_as names true r did a m) x $ done !)))))

        -- a load that nobody keeps leaves the list as it is
        unnoted : (owner : List ℕ) → ((m : ℕ) → f m ≡ m) → ((x : B) → v' x ≡ v x) → ⟦ finv Whole ⟧ ∗ X ∗ ⟦ did_owns owner false r did ⟧ ⊢ access d f (Noted owner false r did a)
        unnoted owner loads same = let After : ℕ → Fml = Noted owner false r did a in let Full : ℕ → Pr = Lies 𝓛 (block_of w) (d + count_of w) f After Whole in let Z : Pr = ex 𝓤 Full in
            let Obs : A → Fml = λ y. fobs γ (c.code y) in
            shared 𝓛 (block_of w) (d + count_of w) f After Whole (X ∗ ⟦ ftrue ⟧) (qed 𝓛 (‵ Whole ∷ (raw X ⊛ ‵ ftrue) ∷ []) ∵
            fsplit ! $ move ! (2 ∷ []) $ split ! $ move ! (2 ∷ 0 ∷ []) $
            use2 𝓛 (raw (upd 𝓤 (ex 𝓤 Holding))) can $
            settle 𝓛 Z (some (λ (x : B). ‵ (mirrored c γ w d (n x) (v x)) ⊛ raw (⟦ mirrored c γ w d (f (n x)) (v' x) ⟧ -∗ upd 𝓤 (⟦ I ⟧ ∗ ⟦ then x (n x) ⟧)))) $ suffices ! _ (upd_i 𝓤 Z) $ pick ! (λ x. split ! $
            -- [the word; the way back; nothing; the list]
            let m : ℕ = n x in fsplit ! $ show ! Full m $ frame ! $ assume ! (‵ (word w d (f m))) $
            let Q : Pr = ⟦ Whole ⟧ ∗ ⟦ After m ⟧ in
            rewrite ! 1 (λ (y : A). ‵ (Obs y)) {x = v' x} {y = v x} (sym (same x)) refl $
            fjoin ! $ move ! (0 ∷ 1 ∷ []) $ use2 𝓛 (raw (upd 𝓤 (⟦ I ⟧ ∗ ⟦ then x m ⟧))) (apply∗ 𝓤 ⟦ mirrored c γ w d (f m) (v' x) ⟧ (upd 𝓤 (⟦ I ⟧ ∗ ⟦ then x m ⟧))) $
            settle 𝓛 Q (‵ I ⊛ ‵ (then x m)) $ suffices ! _ (upd_i 𝓤 Q) $ split ! $
            -- [the words; what the step has after; nothing; the list]
            move ! (0 ∷ 3 ∷ []) $ fjoin ! $ frame ! $ fjoin ! $ fpack ! B (noted_as owner false r did a m) x $ done !))

        -- a store is always kept
        pub noted : ((x : B) (s : Words) → v x ≡ get s → FindsWords (a x) s) → ((x : B) (s : Words) → v x ≡ get s → words_after (a x) s ≡ put (v' x) s)
            → (owner : List ℕ) (keeps : Bool) → (keeps ≡ true → owner ≡ names) → (keeps ≡ false → ((m : ℕ) → f m ≡ m) × ((x : B) → v' x ≡ v x))
            → ⟦ finv Whole ⟧ ∗ X ∗ ⟦ did_owns owner keeps r did ⟧ ⊢ access d f (Noted owner keeps r did a)
        noted finds sets owner true own same = subst (λ (l : List ℕ). ⟦ finv Whole ⟧ ∗ X ∗ ⟦ did_owns l true r did ⟧ ⊢ access d f (Noted l true r did a)) (sym (own refl)) (notes finds sets)
        noted finds sets owner false own same = let loads = same refl in unnoted owner loads.0 loads.1

    -- what is no step leaves the list as it is
    pub quietly : (X Q : Pr) → ⟦ I ⟧ ∗ X ⊢ upd 𝓤 (⟦ I ⟧ ∗ Q) → ⟦ finv Whole ⟧ ∗ X ⊢ H.⇛ Q
    quietly X Q h = let Z : Pr = ⟦ Whole ⟧ ∗ Q in qed 𝓛 (‵ (finv Whole) ∷ raw X ∷ []) ∵ suffices ! _ (𝓛.invs.inv_acc Whole Q) $ frame ! $ assume ! (‵ Whole) $ fsplit ! $
        move ! (0 ∷ 2 ∷ []) $ use2 𝓛 (raw (upd 𝓤 (⟦ I ⟧ ∗ Q))) h $ settle 𝓛 Z (‵ I ⊛ raw Q) $ suffices ! _ (upd_i 𝓤 Z) $ split ! $ move ! (0 ∷ 2 ∷ []) $ fjoin ! $ frame ! $ done !

    -- a step on a word that the list doesn't have
    pub beside : (d : ℕ) (f : ℕ → ℕ) (then : ℕ → Fml) (X : Pr) → ⟦ I ⟧ ∗ X ⊢ upd 𝓤 (ex 𝓤 (Lies 𝓛 (block_of w) (d + count_of w) f then I)) → ⟦ finv Whole ⟧ ∗ X ⊢ access d f then
    beside d f then X h = let Full : ℕ → Pr = Lies 𝓛 (block_of w) (d + count_of w) f then Whole in let Z : Pr = ex 𝓤 Full in
        shared 𝓛 (block_of w) (d + count_of w) f then Whole X (qed 𝓛 (‵ Whole ∷ raw X ∷ []) ∵ fsplit ! $ move ! (0 ∷ 2 ∷ []) $
        use2 𝓛 (raw (upd 𝓤 (ex 𝓤 (Lies 𝓛 (block_of w) (d + count_of w) f then I)))) h $
        settle 𝓛 Z (some (λ (n : ℕ). ‵ (word w d n) ⊛ raw (⟦ word w d (f n) ⟧ -∗ upd 𝓤 (⟦ I ⟧ ∗ ⟦ then n ⟧)))) $ suffices ! _ (upd_i 𝓤 Z) $ pick ! (λ n. split ! $
        show ! Full n $ frame ! $ assume ! (‵ (word w d (f n))) $ let Q : Pr = ⟦ Whole ⟧ ∗ ⟦ then n ⟧ in
        move ! (0 ∷ 1 ∷ []) $ use2 𝓛 (raw (upd 𝓤 (⟦ I ⟧ ∗ ⟦ then n ⟧))) (apply∗ 𝓤 ⟦ word w d (f n) ⟧ (upd 𝓤 (⟦ I ⟧ ∗ ⟦ then n ⟧))) $
        settle 𝓛 Q (‵ I ⊛ ‵ (then n)) $ suffices ! _ (upd_i 𝓤 Q) $ split ! $ move ! (0 ∷ 2 ∷ []) $ fjoin ! $ frame ! $ done !))

    -- the accesses of both sides, held by one thread: it is no step
    abbrev pub Met : List Access → List Access → Pr
    Met a b = guard 𝓤 (AreOneList a b) (⟦ did_owns names true true a ⟧ ∗ ⟦ did_owns names true false b ⟧)

    pub meets : (a b : List Access) → ⟦ finv Whole ⟧ ∗ ⟦ did_owns names true true a ⟧ ∗ ⟦ did_owns names true false b ⟧ ⊢ H.⇛ (Met a b)
    meets a b = let Q : Pr = Met a b in let Z : Pr = ⟦ Whole ⟧ ∗ Q in
        qed 𝓛 (‵ (finv Whole) ∷ ‵ (did_owns names true true a) ∷ ‵ (did_owns names true false b) ∷ []) ∵ suffices ! _ (𝓛.invs.inv_acc Whole Q) $ frame ! $ assume ! (‵ Whole) $ fsplit ! $
        move ! (1 ∷ []) $ fpick ! (λ turns. fsplit3 ! $ fpick ! (λ ordered. forget ! $ fsplit ! $
        -- [the reader's; the writer's; the mirrors; the words; a; b]
        move ! (4 ∷ 0 ∷ []) $ name_agree ! access_code (λ ea. move ! (5 ∷ 2 ∷ []) $ name_agree ! access_code (λ eb.
        move ! (3 ∷ 1 ∷ []) $ fjoin ! $ move ! (0 ∷ 3 ∷ []) $ fjoin ! $ nothing ! $ fpack ! (AreInOrder turns) (λ _. ftrue) ordered $ fjoin ! $ fpack ! (List (By Access)) (traced names) turns $
        move ! (3 ∷ 0 ∷ []) $ fjoin ! $ suffices ! _ (upd_i 𝓤 Z) $ frame ! $ check ! (turns, ordered, sym ea, sym eb) $ move ! (1 ∷ 0 ∷ []) $ done !))))
