-- The invariant is taken apart by what one end knows and put together again; and the steps on the
-- tail, on the head and on closed. Assumes `Logic`.
use Rattle.piper_ring.proofs.Kit.{◌≡◌, ℕ, zero, suc, ◌+◌, ◌-◌, ◌≤◌, Bool, true, false, List, [], ◌∷◌, ◌++◌, length, sym, refl, ap, ◌∙◌, length-append, arith, Ura, full_share, Order, numbers, latest, prefix_refl, upd, guard, ex, upd_i, Share, Fml, GName, ftrue, fsep, Logic, latest_grows, latest_bounds, latest_shows, ‵, raw, ◌⊛◌, some, given, ◌$◌, ◌∵◌, !, qed, by, move, split, split3, fsplit, fsplit3, fjoin, fjoin3, fpick, fpack, pick, learn, check, show, frame, assume, settle, suffices, rewrite, use1, use2, use3, done, drop as forget, Ptr, block_of, count_of, nothing, position_of, run, Lies, length-drop, run_join, byte, Stream, Reaches, streams, open_reaches, Names, State, Holds, half, other, flag, gone, until_both, where_gone, blanks, deeds, memory, announced, began, took, ends, state_holds, keep, reaches_same, raised, u8, part_at, slot_of as offset_of, idle, drop_list, accesses_in, slot_turn, Coded, coded_ℕ, coded_bool, Access, AreOneList, FindsWords, Words, loaded_closed, loaded_head, loaded_tail, stored_closed, stored_head, stored_tail, words_after, bytes_code, closed_name, did_owns, head_name, tail_name, AreSides, IsLogOf, not, await, later, now, updating, subst, Log, signs}
use Rattle.piper_ring.proofs.Terms.{terms}
use Rattle.std.proofs.Common.{append-nil}
use types.Growing.{latest_agrees}
use Rattle.std.proofs.lemmas.List.{drop-append-le}
use Rattle.piper_ring.specs.Places.{fact}
use Rattle.piper_ring.proofs.Rights.{cut, glue}
use Rattle.piper_ring.proofs.Reaching.{flag_reaches, open_before}
use Rattle.std.proofs.lemmas.Bool.{true≢false}
use Rattle.piper_ring.specs.Shared.{head_is, tail_is, closed_is}
use Rattle.piper_ring.proofs.Trace.{Holding as HoldingIn, Noted as NotedIn, Takes, beside, noted, meets as meets_in, quietly as quietly_in, takes_closed, takes_head, takes_tail}

pub flag_one : (a b : Bool) → flag a ≡ flag b → a ≡ b
flag_one false false e = refl
flag_one true true e = refl
flag_one false true e = absurd (omega arith)
flag_one true false e = absurd (omega arith)

pub flag_small : (b : Bool) → flag b ≤ 1
flag_small false = omega arith
flag_small true = omega arith

-- one turn on lie the same places
pub run_turn : (p : Ptr) (cap : ℕ) (xs : List ℕ) (k j : ℕ) → k + cap ≡ j → run (byte p cap) k xs ≡ run (byte p cap) j xs
run_turn p cap [] k j e = refl
run_turn p cap (x ∷ xs) k j e = let same : offset_of cap k + count_of p ≡ offset_of cap j + count_of p = ap (λ (m : ℕ). m + count_of p) (sym (slot_turn cap k) ∙ ap (offset_of cap) e) in
    let more : run (byte p cap) (suc k) xs ≡ run (byte p cap) (suc j) xs = run_turn p cap xs (suc k) (suc j) (omega arith) in λ t. fsep (part_at u8 full_share x (block_of p) (same t)) (more t)

module _ {M : Type 1} {𝓤 : Ura M} (𝓛 : Logic 𝓤) (w p : Ptr) (z : Names) where
  open 𝓛 use {H, A}
  open signs 𝓛 use {Pr, ◌⊢◌, ◌∗◌, ⟦◌⟧}
  open terms 𝓛 w p z use {I, C, cap, RK, WK, access}

  infix 26 ◌⊢◌
  infixr 35 ◌∗◌
  -- a step beside the invariant on a word that the list of accesses doesn't have
  pub inside : (d : ℕ) (f : ℕ → ℕ) (after : ℕ → Fml) (X : Pr) → ⟦ I ⟧ ∗ X ⊢ upd 𝓤 (ex 𝓤 (Lies 𝓛 (block_of w) (d + count_of w) f after I)) → ⟦ C ⟧ ∗ X ⊢ access d f after
  inside d f after X h = qed 𝓛 (‵ C ∷ raw X ∷ []) ∵ fsplit ! $ forget ! $ by ! (beside 𝓛 w z.traced I d f after X h)

  -- what is no step of the program
  pub quietly : (X Q : Pr) → ⟦ I ⟧ ∗ X ⊢ upd 𝓤 (⟦ I ⟧ ∗ Q) → ⟦ C ⟧ ∗ X ⊢ H.⇛ Q
  quietly X Q h = qed 𝓛 (‵ C ∷ raw X ∷ []) ∵ fsplit ! $ forget ! $ by ! (quietly_in 𝓛 w z.traced I X Q h)

  -- what a log is kept by
  abbrev pub Kept : Log → List Access → Fml
  Kept k did = did_owns k.names.traced k.keeps k.reads did

  -- an access of a word that the list has. For some x, the word says n x and stands for v x, and stands
  -- for v' x afterwards
  module _ {A : Type 0} (c : Coded A) (γ d : ℕ) (get : Words → A) (put : A → Words → Words) (takes : Takes 𝓛 w z.traced I c γ get put) {B : Type 0} (f : ℕ → ℕ) (n : B → ℕ) (v v' : B → A) (then : B → ℕ → Fml) where
    abbrev pub Holding : B → Pr
    Holding = HoldingIn 𝓛 w z.traced I c γ d f n v v' then

    abbrev pub Noted : Log → (B → Access) → ℕ → Fml
    Noted k = NotedIn 𝓛 w z.traced I c γ d f n v v' then k.names.traced k.keeps k.reads (accesses_in k.lines)

    -- it is noted in the log k, which is of this ring, or of nobody if the access is a load
    pub access_noted : (X : Pr) (a : B → Access) → ⟦ I ⟧ ∗ X ⊢ upd 𝓤 (ex 𝓤 Holding) → ((x : B) (s : Words) → v x ≡ get s → FindsWords (a x) s)
        → ((x : B) (s : Words) → v x ≡ get s → words_after (a x) s ≡ put (v' x) s) → (k : Log) → (k.keeps ≡ true → k.names ≡ z)
        → (k.keeps ≡ false → ((m : ℕ) → f m ≡ m) × ((x : B) → v' x ≡ v x)) → ⟦ C ⟧ ∗ X ∗ ⟦ Kept k (accesses_in k.lines) ⟧ ⊢ access d f (Noted k a)
    access_noted X a can finds sets k own same = qed 𝓛 (‵ C ∷ raw X ∷ ‵ (Kept k (accesses_in k.lines)) ∷ []) ∵ fsplit ! $ forget ! $
        by ! (noted 𝓛 w z.traced I c γ d f n v v' then get put takes a X can k.reads (accesses_in k.lines) finds sets k.names.traced k.keeps (λ e. ap (λ (y : Names). y.traced) (own e)) same)

  abbrev same_number : {B : Type 0} {A : Type 0} (v : B → A) → ((m : ℕ) → m ≡ m) × ((x : B) → v x ≡ v x)
  same_number v = (λ m. refl, λ x. refl)

  pub no_load : {Q : Type 0} {b : Bool} → b ≡ true → b ≡ false → Q
  no_load kept is = absurd (true≢false (sym kept ∙ is))

  readers_meet : (r k : Log) → IsLogOf z true r → IsLogOf z false k → ⟦ C ⟧ ∗ ⟦ Kept r (accesses_in r.lines) ⟧ ∗ ⟦ Kept k (accesses_in k.lines) ⟧ ⊢ H.⇛ (guard 𝓤 (AreOneList (accesses_in r.lines) (accesses_in k.lines)) (⟦ Kept r (accesses_in r.lines) ⟧ ∗ ⟦ Kept k (accesses_in k.lines) ⟧))
  readers_meet r k mine theirs = let Of : Bool × Names × Bool → List Access → Fml = λ l did. did_owns l.1.traced l.0 l.2 did in
      subst (λ (u : (Bool × Names × Bool) × (Bool × Names × Bool)). ⟦ C ⟧ ∗ ⟦ Of u.0 (accesses_in r.lines) ⟧ ∗ ⟦ Of u.1 (accesses_in k.lines) ⟧ ⊢ H.⇛ (guard 𝓤 (AreOneList (accesses_in r.lines) (accesses_in k.lines)) (⟦ Of u.0 (accesses_in r.lines) ⟧ ∗ ⟦ Of u.1 (accesses_in k.lines) ⟧)))
      {x = ((true, z, true), (true, z, false))} {y = ((r.keeps, r.names, r.reads), (k.keeps, k.names, k.reads))} (λ j. ((sym mine.0 j, sym mine.1 j, sym mine.2 j), (sym theirs.0 j, sym theirs.1 j, sym theirs.2 j)))
      (qed 𝓛 (‵ C ∷ ‵ (Of (true, z, true) (accesses_in r.lines)) ∷ ‵ (Of (true, z, false) (accesses_in k.lines)) ∷ []) ∵ fsplit ! $ forget ! $ by ! (meets_in 𝓛 w z.traced I (accesses_in r.lines) (accesses_in k.lines)))

  -- the logs of both sides, held by one thread: it is no step of the program
  pub logs_meet : (reads : Bool) (r k : Log) → IsLogOf z reads r → IsLogOf z (not reads) k → ⟦ C ⟧ ∗ ⟦ Kept r (accesses_in r.lines) ⟧ ∗ ⟦ Kept k (accesses_in k.lines) ⟧ ⊢ H.⇛ (guard 𝓤 (AreSides reads (accesses_in r.lines) (accesses_in k.lines)) (⟦ Kept r (accesses_in r.lines) ⟧ ∗ ⟦ Kept k (accesses_in k.lines) ⟧))
  logs_meet true r k mine theirs = readers_meet r k mine theirs
  logs_meet false r k mine theirs = let Q : Type 0 = AreOneList (accesses_in k.lines) (accesses_in r.lines) in qed 𝓛 (‵ C ∷ ‵ (Kept r (accesses_in r.lines)) ∷ ‵ (Kept k (accesses_in k.lines)) ∷ []) {P = H.⇛ (guard 𝓤 (AreSides false (accesses_in r.lines) (accesses_in k.lines)) (⟦ Kept r (accesses_in r.lines) ⟧ ∗ ⟦ Kept k (accesses_in k.lines) ⟧))} (updating ! $ move ! (0 ∷ 2 ∷ 1 ∷ []) $
      use3 𝓛 (later (given Q (‵ (Kept k (accesses_in k.lines)) ⊛ ‵ (Kept r (accesses_in r.lines))))) (readers_meet k r theirs mine) $ await ! tt $ learn ! (λ list. split ! $ now ! $ check ! list $ move ! (1 ∷ 0 ∷ []) $ done !))

  abbrev pub Rest : State → Fml
  Rest s = fsep (ends w p z s.closed) (memory w p z s)

  -- not both ends are gone
  abbrev pub OneStays : State → Type 0
  OneStays s = s.reader_stage + s.writer_stage ≤ 3

  abbrev pub ReaderSees : ℕ → ℕ → ℕ → State → Type 0
  ReaderSees head seen i s = Holds cap s × (head ≡ s.head) × (seen ≡ s.seen) × (i ≡ s.reader_stage)

  abbrev pub WriterSees : List ℕ → ℕ → Bool → ℕ → State → Type 0
  WriterSees sent limit shut i s = Holds cap s × (sent ≡ s.sent) × (limit ≡ s.limit) × (shut ≡ s.shut) × (i ≡ s.writer_stage)

  pub stays : (a b : ℕ) (F : Fml) → a + b ≤ 3 → until_both (gone a) (gone b) F ≡ F
  stays zero b F le = refl
  stays (suc zero) b F le = refl
  stays (suc (suc a)) zero F le = refl
  stays (suc (suc a)) (suc zero) F le = refl
  stays (suc (suc a)) (suc (suc b)) F le = absurd (omega arith)

  -- what an end that is there gave up is nothing
  pub not_gone : (i : ℕ) (F G : Fml) → i ≤ 1 → where_gone (gone i) F ≡ where_gone (gone i) G
  not_gone zero F G le = refl
  not_gone (suc zero) F G le = refl
  not_gone (suc (suc i)) F G le = absurd (omega arith)

  abbrev ForReader : Share → ℕ → ℕ → ℕ → State → Pr
  ForReader q head seen i s = guard 𝓤 (ReaderSees head seen i s) (⟦ RK q head seen i ⟧ ∗ ⟦ RK other s.head s.seen s.reader_stage ⟧ ∗ ⟦ WK other s.sent s.limit s.shut s.writer_stage ⟧ ∗ ⟦ Rest s ⟧)

  pub reader_agrees : (q : Share) (head seen i h k j : ℕ) → ⟦ RK q head seen i ⟧ ∗ ⟦ RK other h k j ⟧ ⊢ guard 𝓤 ((head ≡ h) × (seen ≡ k) × (i ≡ j)) (⟦ RK q head seen i ⟧ ∗ ⟦ RK other h k j ⟧)
  reader_agrees q head seen i h k j = qed 𝓛 (‵ (RK q head seen i) ∷ ‵ (RK other h k j) ∷ []) ∵ fsplit ! $ fsplit ! $ move ! (3 ∷ []) $ fsplit ! $ fsplit ! $ move ! (3 ∷ 0 ∷ []) $
      use2 𝓛 (given (head ≡ h) (‵ (latest numbers q z.head head) ⊛ ‵ (latest numbers other z.head h))) (latest_agrees numbers 𝓛 q other z.head head h) $ learn ! (λ e. split ! $ move ! (4 ∷ 2 ∷ []) $
      use2 𝓛 (given (i ≡ j) (‵ (latest numbers q z.reader_stage i) ⊛ ‵ (latest numbers other z.reader_stage j))) (latest_agrees numbers 𝓛 q other z.reader_stage i j) $ learn ! (λ g. split ! $ move ! (5 ∷ 4 ∷ []) $
      use2 𝓛 (given (seen ≡ k) (‵ (latest numbers q z.seen seen) ⊛ ‵ (latest numbers other z.seen k))) (latest_agrees numbers 𝓛 q other z.seen seen k) $ learn ! (λ f. split ! $
      check ! (e, f, g) $ move ! (4 ∷ 2 ∷ []) $ fjoin ! $ move ! (0 ∷ 1 ∷ []) $ fjoin ! $ move ! (3 ∷ 2 ∷ []) $ fjoin ! $ move ! (0 ∷ 2 ∷ []) $ fjoin ! $ move ! (1 ∷ 0 ∷ []) $ done !)))

  pub reader_opens : (q : Share) (head seen i : ℕ) → i ≤ 1 → ⟦ I ⟧ ∗ ⟦ RK q head seen i ⟧ ⊢ ex 𝓤 (ForReader q head seen i)
  reader_opens q head seen i le = qed 𝓛 (‵ I ∷ ‵ (RK q head seen i) ∷ []) ∵ fpick ! (λ s. fsplit3 ! $ fpick ! (λ so. forget ! $ fsplit3 ! $ move ! (4 ∷ 1 ∷ []) $
      use2 𝓛 (given ((head ≡ s.head) × (seen ≡ s.seen) × (i ≡ s.reader_stage)) (‵ (RK q head seen i) ⊛ ‵ (RK other s.head s.seen s.reader_stage))) (reader_agrees q head seen i s.head s.seen s.reader_stage) $ learn ! (λ e. split ! $
      let ei = e.2 in let top = so.stages.1 in move ! (4 ∷ []) $ rewrite ! 0 (λ (F : Fml). ‵ F) {x = memory w p z s} {y = until_both (gone s.reader_stage) (gone s.writer_stage) (memory w p z s)} (stays s.reader_stage s.writer_stage (memory w p z s) (omega arith)) refl $
      move ! (4 ∷ 0 ∷ []) $ fjoin ! $ show ! (ForReader q head seen i) s $ check ! (so, e.0, e.1, e.2) $ move ! (1 ∷ 2 ∷ 3 ∷ []) $ done !)))

  pub closes : (s : State) → Holds cap s → OneStays s → ⟦ WK other s.sent s.limit s.shut s.writer_stage ⟧ ∗ ⟦ RK other s.head s.seen s.reader_stage ⟧ ∗ ⟦ Rest s ⟧ ⊢ ⟦ I ⟧
  closes s so le = qed 𝓛 (‵ (WK other s.sent s.limit s.shut s.writer_stage) ∷ ‵ (RK other s.head s.seen s.reader_stage) ∷ ‵ (Rest s) ∷ []) ∵ move ! (2 ∷ []) $ fsplit ! $
      move ! (1 ∷ []) $ rewrite ! 0 (λ (F : Fml). ‵ F) (sym (stays s.reader_stage s.writer_stage (memory w p z s) le)) refl $ move ! (2 ∷ 3 ∷ 1 ∷ []) $ fjoin3 ! $
      nothing ! $ fpack ! (Holds cap s) (λ _. ftrue) so $ fjoin3 ! $ fpack ! State (state_holds w p z) s $ done !

  -- xs was published, and n is where its end is
  abbrev pub SawTail : ℕ → ℕ → Stream → ℕ → List ℕ → Type 0
  SawTail head seen observed n xs = (n ≡ position_of cap (length xs)) × (seen ≤ length xs) × (length xs ≤ head + cap) × (length observed.0 ≤ length xs) × (observed.1 ≡ true → xs ≡ observed.0)

  abbrev pub TailSeen : Share → ℕ → ℕ → ℕ → Stream → ℕ → List ℕ → Fml
  TailSeen q head seen i observed n xs = fsep (fact (SawTail head seen observed n xs)) (fsep (began z xs) (RK q head seen i))

  -- what was published, of which the tail is the number
  abbrev pub tail_at : List ℕ → ℕ
  tail_at xs = position_of cap (length xs)

  abbrev pub TailAt : (f : ℕ → ℕ) (v' : List ℕ → List ℕ) (then : List ℕ → ℕ → Fml) → List ℕ → Pr
  TailAt f v' then = Holding bytes_code (tail_name z.traced) 208 (λ s. s.sent) (λ y s. record s { sent = y }) (takes_tail 𝓛 w z.traced I) f tail_at (λ x. x) v' then

  abbrev pub TailNoted : (f : ℕ → ℕ) (v' : List ℕ → List ℕ) (then : List ℕ → ℕ → Fml) → Log → (List ℕ → Access) → ℕ → Fml
  TailNoted f v' then = Noted bytes_code (tail_name z.traced) 208 (λ s. s.sent) (λ y s. record s { sent = y }) (takes_tail 𝓛 w z.traced I) f tail_at (λ x. x) v' then

  abbrev tail_noted : (f : ℕ → ℕ) (v' : List ℕ → List ℕ) (then : List ℕ → ℕ → Fml) (X : Pr) (a : List ℕ → Access) → ⟦ I ⟧ ∗ X ⊢ upd 𝓤 (ex 𝓤 (TailAt f v' then))
      → ((x : List ℕ) (s : Words) → x ≡ s.sent → FindsWords (a x) s) → ((x : List ℕ) (s : Words) → x ≡ s.sent → words_after (a x) s ≡ record s { sent = v' x })
      → (k : Log) → (k.keeps ≡ true → k.names ≡ z) → (k.keeps ≡ false → ((m : ℕ) → f m ≡ m) × ((x : List ℕ) → v' x ≡ x)) → ⟦ C ⟧ ∗ X ∗ ⟦ Kept k (accesses_in k.lines) ⟧ ⊢ access 208 f (TailNoted f v' then k a)
  tail_noted f v' then = access_noted bytes_code (tail_name z.traced) 208 (λ s. s.sent) (λ y s. record s { sent = y }) (takes_tail 𝓛 w z.traced I) f tail_at (λ x. x) v' then

  -- a load of the tail by anyone who has a share of what the reader knows
  abbrev pub AfterLook : Share → ℕ → ℕ → ℕ → Stream → Log → ℕ → Fml
  AfterLook q head seen i observed k = TailNoted (λ n. n) (λ x. x) (λ xs n. TailSeen q head seen i observed n xs) k (λ xs. loaded_tail (length xs))

  pub looks_tail : (q : Share) (head seen i : ℕ) (observed : Stream) → i ≤ 1 → (k : Log) → (k.keeps ≡ true → k.names ≡ z)
      → ⟦ C ⟧ ∗ (⟦ RK q head seen i ⟧ ∗ ⟦ announced z observed.0 observed.1 ⟧) ∗ ⟦ Kept k (accesses_in k.lines) ⟧ ⊢ access 208 (λ n. n) (AfterLook q head seen i observed k)
  looks_tail q head seen i observed le k own = let then : List ℕ → ℕ → Fml = λ xs n. TailSeen q head seen i observed n xs in let At : List ℕ → Pr = TailAt (λ n. n) (λ x. x) then in let Z : Pr = ex 𝓤 At in let O : Order Stream = streams in let T : Fml = announced z observed.0 observed.1 in
      tail_noted (λ n. n) (λ x. x) then (⟦ RK q head seen i ⟧ ∗ ⟦ T ⟧) (λ xs. loaded_tail (length xs)) (qed 𝓛 (‵ I ∷ ‵ (RK q head seen i) ∷ ‵ T ∷ []) ∵
      use2 𝓛 (some (λ (s : State). given (ReaderSees head seen i s) (‵ (RK q head seen i) ⊛ ‵ (RK other s.head s.seen s.reader_stage) ⊛ ‵ (WK other s.sent s.limit s.shut s.writer_stage) ⊛ ‵ (Rest s)))) (reader_opens q head seen i le) $ pick ! (λ s. learn ! (λ so. split3 ! $
      move ! (2 ∷ []) $ split ! $ fsplit3 ! $ move ! (0 ∷ 6 ∷ []) $
      use2 𝓛 (given (Reaches observed (s.sent, s.shut)) (‵ (latest O other z.sent (s.sent, s.shut)) ⊛ ‵ T)) (latest_bounds O 𝓛 other z.sent (s.sent, s.shut) observed) $ learn ! (λ pt. split ! $
      use1 𝓛 (‵ (latest O other z.sent (s.sent, s.shut)) ⊛ ‵ (began z s.sent)) (latest_shows O 𝓛 other z.sent (s.sent, s.shut) (s.sent, false) (open_reaches s.sent (s.sent, s.shut) (prefix_refl s.sent))) $ split ! $ move ! (0 ∷ 3 ∷ 4 ∷ []) $ fjoin3 ! $
      move ! (3 ∷ []) $ fsplit ! $ move ! (1 ∷ []) $ fsplit ! $ fsplit3 ! $ move ! (1 ∷ []) $
      let n : ℕ = position_of cap (length s.sent) in let known = so.0.known in let arrived = so.0.arrived in let written = so.0.written in let freed = so.0.freed in let eh = so.1 in let es = so.2 in let ei = so.3 in let top = so.0.stages.1 in let near : OneStays s = omega arith in
      let long : length (observed.0 ++ pt.0.0) ≡ length observed.0 + length pt.0.0 = length-append observed.0 pt.0.0 in let all : length (observed.0 ++ pt.0.0) ≡ length s.sent = ap length pt.0.1 in
      suffices ! _ (upd_i 𝓤 Z) $ show ! At s.sent $ frame ! $ assume ! (‵ (tail_is w p z n s.sent)) $ suffices ! _ (upd_i 𝓤 (⟦ I ⟧ ∗ ⟦ then s.sent n ⟧)) $
      move ! (1 ∷ 0 ∷ []) $ fjoin3 ! $ fjoin ! $ move ! (1 ∷ 0 ∷ []) $ fjoin ! $ move ! (1 ∷ 5 ∷ 0 ∷ []) $ use3 𝓛 (‵ I) (closes s so.0 near) $ frame ! $
      move ! (1 ∷ []) $ forget ! $ fjoin ! $ nothing ! $ fpack ! (SawTail head seen observed n s.sent) (λ _. ftrue) (refl, omega arith, omega arith, omega arith, λ e. ap (λ (x : Stream). x.0) (pt.1 e)) $ fjoin ! $ done !))))
      (λ xs t e. ap length e) (λ xs t e. ap (λ (y : List ℕ). record t { sent = y }) (sym e)) k own (λ _. same_number (λ x. x))

  module _ {X : Type 0} (O : Order X) (γ : GName) where
    -- the two halves of a right agree, and move up together
    pub agree : (a b : X) → ⟦ latest O half γ a ⟧ ∗ ⟦ latest O other γ b ⟧ ⊢ guard 𝓤 (a ≡ b) (⟦ latest O half γ a ⟧ ∗ ⟦ latest O other γ b ⟧)
    agree a b = latest_agrees O 𝓛 half other γ a b

    pub raise : (a b c d : X) → a ≡ b → c ≡ d → O.le a c → ⟦ latest O half γ a ⟧ ∗ ⟦ latest O other γ b ⟧ ⊢ upd 𝓤 (⟦ latest O half γ c ⟧ ∗ ⟦ latest O other γ d ⟧)
    raise a b c d e f le = let Z : Pr = ⟦ latest O half γ c ⟧ ∗ ⟦ latest O other γ d ⟧ in qed 𝓛 (‵ (latest O half γ a) ∷ ‵ (latest O other γ b) ∷ []) ∵
        rewrite ! 1 (λ (x : X). ‵ (latest O other γ x)) (sym e) refl $ use2 𝓛 (‵ (latest O full_share γ a)) (glue 𝓛 O γ a full_share) $
        use1 𝓛 (raw (upd 𝓤 ⟦ latest O full_share γ c ⟧)) (latest_grows O 𝓛 γ a c le) $ settle 𝓛 Z (‵ (latest O full_share γ c)) $ suffices ! _ (upd_i 𝓤 Z) $
        use1 𝓛 (‵ (latest O half γ c) ⊛ ‵ (latest O other γ c)) (cut 𝓛 O γ c full_share) $ split ! $ rewrite ! 1 (λ (x : X). ‵ (latest O other γ x)) f refl $ done !

  abbrev ForWriter : Share → List ℕ → ℕ → Bool → ℕ → State → Pr
  ForWriter q sent limit shut i s = guard 𝓤 (WriterSees sent limit shut i s) (⟦ WK q sent limit shut i ⟧ ∗ ⟦ WK other s.sent s.limit s.shut s.writer_stage ⟧ ∗ ⟦ RK other s.head s.seen s.reader_stage ⟧ ∗ ⟦ Rest s ⟧)

  pub writer_agrees : (q : Share) (sent : List ℕ) (limit : ℕ) (shut : Bool) (i : ℕ) (l : List ℕ) (m : ℕ) (b : Bool) (j : ℕ)
      → ⟦ WK q sent limit shut i ⟧ ∗ ⟦ WK other l m b j ⟧ ⊢ guard 𝓤 ((sent ≡ l) × (limit ≡ m) × (shut ≡ b) × (i ≡ j)) (⟦ WK q sent limit shut i ⟧ ∗ ⟦ WK other l m b j ⟧)
  writer_agrees q sent limit shut i l m b j = let O : Order Stream = streams in qed 𝓛 (‵ (WK q sent limit shut i) ∷ ‵ (WK other l m b j) ∷ []) ∵ fsplit3 ! $ move ! (3 ∷ []) $ fsplit3 ! $
      move ! (3 ∷ 0 ∷ []) $ use2 𝓛 (given ((sent, shut) ≡ (l, b)) (‵ (latest O q z.sent (sent, shut)) ⊛ ‵ (latest O other z.sent (l, b)))) (latest_agrees O 𝓛 q other z.sent (sent, shut) (l, b)) $ learn ! (λ e. split ! $ move ! (4 ∷ 2 ∷ []) $
      use2 𝓛 (given (limit ≡ m) (‵ (latest numbers q z.limit limit) ⊛ ‵ (latest numbers other z.limit m))) (latest_agrees numbers 𝓛 q other z.limit limit m) $ learn ! (λ f. split ! $ move ! (5 ∷ 4 ∷ []) $
      use2 𝓛 (given (i ≡ j) (‵ (latest numbers q z.writer_stage i) ⊛ ‵ (latest numbers other z.writer_stage j))) (latest_agrees numbers 𝓛 q other z.writer_stage i j) $ learn ! (λ k. split ! $
      check ! (ap (λ (x : Stream). x.0) e, f, ap (λ (x : Stream). x.1) e, k) $ move ! (4 ∷ 2 ∷ 0 ∷ []) $ fjoin3 ! $ move ! (3 ∷ 2 ∷ 1 ∷ []) $ fjoin3 ! $ move ! (1 ∷ 0 ∷ []) $ done !)))

  pub writer_opens : (q : Share) (sent : List ℕ) (limit : ℕ) (shut : Bool) (i : ℕ) → i ≤ 1 → ⟦ I ⟧ ∗ ⟦ WK q sent limit shut i ⟧ ⊢ ex 𝓤 (ForWriter q sent limit shut i)
  writer_opens q sent limit shut i le = qed 𝓛 (‵ I ∷ ‵ (WK q sent limit shut i) ∷ []) ∵ fpick ! (λ s. fsplit3 ! $ fpick ! (λ so. forget ! $ fsplit3 ! $ move ! (4 ∷ 0 ∷ []) $
      use2 𝓛 (given ((sent ≡ s.sent) × (limit ≡ s.limit) × (shut ≡ s.shut) × (i ≡ s.writer_stage)) (‵ (WK q sent limit shut i) ⊛ ‵ (WK other s.sent s.limit s.shut s.writer_stage))) (writer_agrees q sent limit shut i s.sent s.limit s.shut s.writer_stage) $ learn ! (λ e. split ! $
      let ei = e.3 in let top = so.stages.0 in move ! (4 ∷ []) $ rewrite ! 0 (λ (F : Fml). ‵ F) {x = memory w p z s} {y = until_both (gone s.reader_stage) (gone s.writer_stage) (memory w p z s)} (stays s.reader_stage s.writer_stage (memory w p z s) (omega arith)) refl $
      move ! (4 ∷ 0 ∷ []) $ fjoin ! $ show ! (ForWriter q sent limit shut i) s $ check ! (so, e.0, e.1, e.2, e.3) $ move ! (1 ∷ 2 ∷ 3 ∷ []) $ done !)))

  -- h bytes were consumed, and n is where the next one is
  abbrev pub SawHead : List ℕ → ℕ → ℕ → ℕ → ℕ → Type 0
  SawHead sent limit observed n h = (n ≡ position_of cap h) × (h ≤ length sent) × (limit ≤ h + cap) × (observed ≤ h)

  abbrev pub HeadSeen : Share → List ℕ → ℕ → Bool → ℕ → ℕ → ℕ → ℕ → Fml
  HeadSeen q sent limit shut i observed n h = fsep (fact (SawHead sent limit observed n h)) (fsep (took z h) (WK q sent limit shut i))

  abbrev pub HeadAt : (f : ℕ → ℕ) (v' : ℕ → ℕ) (then : ℕ → ℕ → Fml) → ℕ → Pr
  HeadAt f v' then = Holding coded_ℕ (head_name z.traced) 8 (λ s. s.head) (λ y s. record s { head = y }) (takes_head 𝓛 w z.traced I) f (position_of cap) (λ x. x) v' then

  abbrev pub HeadNoted : (f : ℕ → ℕ) (v' : ℕ → ℕ) (then : ℕ → ℕ → Fml) → Log → (ℕ → Access) → ℕ → Fml
  HeadNoted f v' then = Noted coded_ℕ (head_name z.traced) 8 (λ s. s.head) (λ y s. record s { head = y }) (takes_head 𝓛 w z.traced I) f (position_of cap) (λ x. x) v' then

  abbrev head_noted : (f : ℕ → ℕ) (v' : ℕ → ℕ) (then : ℕ → ℕ → Fml) (X : Pr) (a : ℕ → Access) → ⟦ I ⟧ ∗ X ⊢ upd 𝓤 (ex 𝓤 (HeadAt f v' then))
      → ((x : ℕ) (s : Words) → x ≡ s.head → FindsWords (a x) s) → ((x : ℕ) (s : Words) → x ≡ s.head → words_after (a x) s ≡ record s { head = v' x })
      → (k : Log) → (k.keeps ≡ true → k.names ≡ z) → (k.keeps ≡ false → ((m : ℕ) → f m ≡ m) × ((x : ℕ) → v' x ≡ x)) → ⟦ C ⟧ ∗ X ∗ ⟦ Kept k (accesses_in k.lines) ⟧ ⊢ access 8 f (HeadNoted f v' then k a)
  head_noted f v' then = access_noted coded_ℕ (head_name z.traced) 8 (λ s. s.head) (λ y s. record s { head = y }) (takes_head 𝓛 w z.traced I) f (position_of cap) (λ x. x) v' then

  -- a load of the head by anyone who has a share of what the writer knows
  abbrev pub AfterPeek : Share → List ℕ → ℕ → Bool → ℕ → ℕ → Log → ℕ → Fml
  AfterPeek q sent limit shut i observed k = HeadNoted (λ n. n) (λ x. x) (λ h n. HeadSeen q sent limit shut i observed n h) k loaded_head

  pub looks_head : (q : Share) (sent : List ℕ) (limit : ℕ) (shut : Bool) (i : ℕ) (observed : ℕ) → i ≤ 1 → (k : Log) → (k.keeps ≡ true → k.names ≡ z)
      → ⟦ C ⟧ ∗ (⟦ WK q sent limit shut i ⟧ ∗ ⟦ took z observed ⟧) ∗ ⟦ Kept k (accesses_in k.lines) ⟧ ⊢ access 8 (λ n. n) (AfterPeek q sent limit shut i observed k)
  looks_head q sent limit shut i observed le k own = let then : ℕ → ℕ → Fml = λ h n. HeadSeen q sent limit shut i observed n h in let At : ℕ → Pr = HeadAt (λ n. n) (λ x. x) then in let Z : Pr = ex 𝓤 At in
      head_noted (λ n. n) (λ x. x) then (⟦ WK q sent limit shut i ⟧ ∗ ⟦ took z observed ⟧) loaded_head (qed 𝓛 (‵ I ∷ ‵ (WK q sent limit shut i) ∷ ‵ (took z observed) ∷ []) ∵
      use2 𝓛 (some (λ (s : State). given (WriterSees sent limit shut i s) (‵ (WK q sent limit shut i) ⊛ ‵ (WK other s.sent s.limit s.shut s.writer_stage) ⊛ ‵ (RK other s.head s.seen s.reader_stage) ⊛ ‵ (Rest s)))) (writer_opens q sent limit shut i le) $ pick ! (λ s. learn ! (λ so. split3 ! $
      move ! (2 ∷ []) $ split ! $ fsplit ! $ fsplit ! $ move ! (0 ∷ 6 ∷ []) $
      use2 𝓛 (given (observed ≤ s.head) (‵ (latest numbers other z.head s.head) ⊛ ‵ (took z observed))) (latest_bounds numbers 𝓛 other z.head s.head observed) $ learn ! (λ least. split ! $
      use1 𝓛 (‵ (latest numbers other z.head s.head) ⊛ ‵ (took z s.head)) (latest_shows numbers 𝓛 other z.head s.head s.head (omega arith)) $ split ! $ move ! (0 ∷ 3 ∷ []) $ fjoin ! $ move ! (0 ∷ 3 ∷ []) $ fjoin ! $
      move ! (3 ∷ []) $ fsplit ! $ move ! (1 ∷ []) $ fsplit ! $ fsplit ! $
      let n : ℕ = position_of cap s.head in let known = so.0.known in let arrived = so.0.arrived in let written = so.0.written in let freed = so.0.freed in let es : length sent ≡ length s.sent = ap length so.1 in let el = so.2 in let ei = so.4 in let top = so.0.stages.0 in let near : OneStays s = omega arith in
      suffices ! _ (upd_i 𝓤 Z) $ show ! At s.head $ frame ! $ assume ! (‵ (head_is w p z n s.head)) $ suffices ! _ (upd_i 𝓤 (⟦ I ⟧ ∗ ⟦ then s.head n ⟧)) $
      fjoin ! $ fjoin ! $ move ! (1 ∷ 0 ∷ []) $ fjoin ! $ move ! (5 ∷ 1 ∷ 0 ∷ []) $ use3 𝓛 (‵ I) (closes s so.0 near) $ frame ! $
      move ! (1 ∷ []) $ forget ! $ fjoin ! $ nothing ! $ fpack ! (SawHead sent limit observed n s.head) (λ _. ftrue) (refl, omega arith, omega arith, least) $ fjoin ! $ done !))))
      (λ h t e. e) (λ h t e. ap (λ (y : ℕ). record t { head = y }) (sym e)) k own (λ _. same_number (λ x. x))

  module _ (sent : List ℕ) (limit : ℕ) (shut : Bool) (i : ℕ) (le : i ≤ 1) (xs : List ℕ) (new : ℕ) (is : new ≡ position_of cap (length sent + length xs)) (room : length sent + length xs ≤ limit) (open_still : shut ≡ true → xs ≡ []) where
    abbrev Then : Fml
    Then = WK half (sent ++ xs) limit shut i

    abbrev Gift : Fml
    Gift = run (byte p cap) (length sent) xs

    -- a store of the tail hands the places of xs over
    abbrev pub Published : Log → ℕ → Fml
    Published k = TailNoted (λ _. new) (λ x. x ++ xs) (λ _ _. Then) k (λ _. stored_tail xs)

    pub publishes : (k : Log) → k.keeps ≡ true → k.names ≡ z → ⟦ C ⟧ ∗ (⟦ WK half sent limit shut i ⟧ ∗ ⟦ Gift ⟧) ∗ ⟦ Kept k (accesses_in k.lines) ⟧ ⊢ access 208 (λ _. new) (Published k)
    publishes k kept own = let At : List ℕ → Pr = TailAt (λ _. new) (λ x. x ++ xs) (λ _ _. Then) in let Z : Pr = ex 𝓤 At in let O : Order Stream = streams in
        tail_noted (λ _. new) (λ x. x ++ xs) (λ _ _. Then) (⟦ WK half sent limit shut i ⟧ ∗ ⟦ Gift ⟧) (λ _. stored_tail xs) (qed 𝓛 (‵ I ∷ ‵ (WK half sent limit shut i) ∷ ‵ Gift ∷ []) ∵
        use2 𝓛 (some (λ (s : State). given (WriterSees sent limit shut i s) (‵ (WK half sent limit shut i) ⊛ ‵ (WK other s.sent s.limit s.shut s.writer_stage) ⊛ ‵ (RK other s.head s.seen s.reader_stage) ⊛ ‵ (Rest s)))) (writer_opens half sent limit shut i le) $ pick ! (λ s. learn ! (λ so. split3 ! $
        let known = so.0.known in let arrived = so.0.arrived in let written = so.0.written in let freed = so.0.freed in let es : length sent ≡ length s.sent = ap length so.1 in let el = so.2 in
        let all : List ℕ = s.sent ++ xs in let long : length all ≡ length s.sent + length xs = length-append s.sent xs in let s' : State = record s { sent = all } in
        let so' : Holds cap s' = record { known = known; arrived = omega arith; written = omega arith; freed = freed; closing = so.0.closing; shutting = so.0.shutting; stages = so.0.stages } in let ei = so.4 in let top = so.0.stages.0 in let near : OneStays s' = omega arith in
        let more : Reaches (sent, shut) (sent ++ xs, shut) = ((xs, refl), λ e. ap (λ (l : List ℕ). (l, shut)) (ap (λ (l : List ℕ). sent ++ l) (open_still e) ∙ append-nil sent)) in
        fsplit3 ! $ move ! (3 ∷ []) $ fsplit3 ! $ move ! (3 ∷ 0 ∷ []) $
        use2 𝓛 (raw (upd 𝓤 (⟦ latest O half z.sent (sent ++ xs, shut) ⟧ ∗ ⟦ latest O other z.sent (all, s.shut) ⟧))) (raise O z.sent (sent, shut) (s.sent, s.shut) (sent ++ xs, shut) (all, s.shut) (λ j. (so.1 j, so.3 j)) (λ j. (so.1 j ++ xs, so.3 j)) more) $
        settle 𝓛 Z (‵ (latest O half z.sent (sent ++ xs, shut)) ⊛ ‵ (latest O other z.sent (all, s.shut))) $ suffices ! _ (upd_i 𝓤 Z) $ split ! $
        move ! (0 ∷ 4 ∷ 5 ∷ []) $ fjoin3 ! $ move ! (1 ∷ 2 ∷ 3 ∷ []) $ fjoin3 ! $ move ! (2 ∷ []) $ split ! $ move ! (1 ∷ []) $ fsplit ! $ move ! (1 ∷ []) $ fsplit ! $ fsplit3 ! $ move ! (1 ∷ []) $
        show ! At s.sent $ frame ! $ assume ! (‵ (tail_is w p z new all)) $ suffices ! _ (upd_i 𝓤 (⟦ I ⟧ ∗ ⟦ Then ⟧)) $
        rewrite ! 0 (λ (m : ℕ). ‵ (tail_is w p z m all)) (is ∙ ap (position_of cap) (ap (λ (m : ℕ). m + length xs) es ∙ sym long)) refl $
        move ! (1 ∷ 0 ∷ []) $ fjoin3 ! $ move ! (1 ∷ []) $ fsplit ! $ move ! (1 ∷ []) $ fsplit3 ! $ move ! (2 ∷ []) $
        rewrite ! 0 (λ (F : Fml). ‵ (fsep F (deeds w p z s))) {x = where_gone (gone s.writer_stage) (blanks w p z (length all) (s.limit - length all))} {y = where_gone (gone s.writer_stage) (blanks w p z (length s.sent) (s.limit - length s.sent))} (not_gone s.writer_stage _ _ (omega arith)) refl $
        move ! (1 ∷ 2 ∷ 0 ∷ []) $ fjoin3 ! $ move ! (1 ∷ 7 ∷ []) $
        use2 𝓛 (‵ (run (byte p cap) s.seen (drop_list s.seen s.sent ++ xs))) (run_join 𝓛 (byte p cap) (drop_list s.seen s.sent) xs s.seen (length sent) (omega (arith, length-drop s.seen s.sent))) $
        rewrite ! 0 (λ (l : List ℕ). ‵ (run (byte p cap) s.seen l)) (sym (drop-append-le s.seen s.sent xs arrived)) refl $
        fjoin ! $ move ! (1 ∷ 0 ∷ []) $ fjoin ! $ move ! (1 ∷ 0 ∷ []) $ fjoin ! $ move ! (2 ∷ 1 ∷ 0 ∷ []) $ use3 𝓛 (‵ I) (closes s' so' near) $ frame ! $ done !)))
        (λ x t e. tt) (λ x t e. ap (λ (y : List ℕ). record t { sent = y ++ xs }) (sym e)) k (λ _. own) (no_load kept)

  abbrev S : Bool → Fml
  S = raised z.closed

  -- what was seen of closed, and what closed is
  pub ends_show : (m c : Bool) → ⟦ ends w p z c ⟧ ∗ ⟦ S m ⟧ ⊢ guard 𝓤 (flag m ≤ flag c) (⟦ ends w p z c ⟧ ∗ ⟦ S c ⟧)
  ends_show false false = qed 𝓛 (‵ (ends w p z false) ∷ ‵ (S false) ∷ []) ∵ check ! (omega arith) $ done !
  ends_show false true = qed 𝓛 (‵ (ends w p z true) ∷ ‵ (S false) ∷ []) ∵ keep ! (0 ∷ []) $ use1 𝓛 (‵ (ends w p z true) ⊛ ‵ (S true)) (latest_shows numbers 𝓛 full_share z.closed 1 1 (omega arith)) $ split ! $ check ! (omega arith) $ done !
  ends_show true true = qed 𝓛 (‵ (ends w p z true) ∷ ‵ (S true) ∷ []) ∵ check ! (omega arith) $ done !
  ends_show true false = qed 𝓛 (‵ (ends w p z false) ∷ ‵ (S true) ∷ []) ∵ use2 𝓛 (given (1 ≤ 0) (‵ (ends w p z false) ⊛ ‵ (S true))) (latest_bounds numbers 𝓛 full_share z.closed 0 1) $ learn ! (λ no. absurd (omega arith))

  abbrev pub Answer : Bool → Bool → ℕ → Bool → Type 0
  Answer m b n c = (n ≡ flag c) × (flag m ≤ flag c) × (flag b ≤ flag c)

  abbrev pub told_one : Bool → Bool → ℕ → Bool → Fml
  told_one m b n c = fsep (fact (Answer m b n c)) (S c)

  abbrev pub ClosedAt : {B : Type 0} (is : B → Bool) (f : ℕ → ℕ) (v' : B → Bool) (then : B → ℕ → Fml) → B → Pr
  ClosedAt is f v' then = Holding coded_bool (closed_name z.traced) 136 (λ s. s.is_closed) (λ y s. record s { is_closed = y }) (takes_closed 𝓛 w z.traced I) f (λ x. flag (is x)) is v' then

  abbrev pub ClosedNoted : {B : Type 0} (is : B → Bool) (f : ℕ → ℕ) (v' : B → Bool) (then : B → ℕ → Fml) → Log → (B → Access) → ℕ → Fml
  ClosedNoted is f v' then = Noted coded_bool (closed_name z.traced) 136 (λ s. s.is_closed) (λ y s. record s { is_closed = y }) (takes_closed 𝓛 w z.traced I) f (λ x. flag (is x)) is v' then

  -- it was loaded, as what the list says
  closed_loaded_noted : {B : Type 0} (is : B → Bool) (then : B → ℕ → Fml) (X : Pr) → ⟦ I ⟧ ∗ X ⊢ upd 𝓤 (ex 𝓤 (ClosedAt is (λ n. n) is then))
      → (k : Log) → (k.keeps ≡ true → k.names ≡ z) → ⟦ C ⟧ ∗ X ∗ ⟦ Kept k (accesses_in k.lines) ⟧ ⊢ access 136 (λ n. n) (ClosedNoted is (λ n. n) is then k (λ x. loaded_closed (is x)))
  closed_loaded_noted is then X can k own = access_noted coded_bool (closed_name z.traced) 136 (λ s. s.is_closed) (λ y s. record s { is_closed = y }) (takes_closed 𝓛 w z.traced I) (λ n. n) (λ x. flag (is x)) is is then X (λ x. loaded_closed (is x)) can
      (λ x t e. e) (λ x t e. ap (λ (y : Bool). record t { is_closed = y }) (sym e)) k own (λ _. same_number is)

  -- it was stored
  pub closed_stored_noted : (then : Fml) (X : Pr) → ⟦ I ⟧ ∗ X ⊢ upd 𝓤 (ex 𝓤 (ClosedAt (λ c. c) (λ _. 1) (λ _. true) (λ _ _. then)))
      → (k : Log) → k.keeps ≡ true → k.names ≡ z → ⟦ C ⟧ ∗ X ∗ ⟦ Kept k (accesses_in k.lines) ⟧ ⊢ access 136 (λ _. 1) (ClosedNoted (λ c. c) (λ _. 1) (λ _. true) (λ _ _. then) k (λ _. stored_closed))
  closed_stored_noted then X can k kept own = access_noted coded_bool (closed_name z.traced) 136 (λ s. s.is_closed) (λ y s. record s { is_closed = y }) (takes_closed 𝓛 w z.traced I) (λ _. 1) flag (λ c. c) (λ _. true) (λ _ _. then) X (λ _. stored_closed) can
      (λ x t e. tt) (λ x t e. refl) k (λ _. own) (no_load kept)

  -- n was loaded, as closed is c: it is at least what was seen or learned from marks before, and it is
  -- known for good
  abbrev pub AfterClosed : Fml → Bool → Bool → Bool → ℕ → Fml
  AfterClosed K m b c n = fsep (told_one m b n c) K

  shows_closed : (K : Fml) (m b : Bool) (s : State) → Holds cap s → flag b ≤ flag s.closed → OneStays s → ⟦ WK other s.sent s.limit s.shut s.writer_stage ⟧ ∗ ⟦ RK other s.head s.seen s.reader_stage ⟧ ∗ ⟦ Rest s ⟧ ∗ ⟦ K ⟧ ∗ ⟦ S m ⟧ ⊢ upd 𝓤 (ex 𝓤 (ClosedAt (λ c. c) (λ n. n) (λ c. c) (AfterClosed K m b)))
  shows_closed K m b s so lb near = let then : Bool → ℕ → Fml = AfterClosed K m b in let At : Bool → Pr = ClosedAt (λ c. c) (λ n. n) (λ c. c) then in let Z : Pr = ex 𝓤 At in let n : ℕ = flag s.closed in
      qed 𝓛 (‵ (WK other s.sent s.limit s.shut s.writer_stage) ∷ ‵ (RK other s.head s.seen s.reader_stage) ∷ ‵ (Rest s) ∷ ‵ K ∷ ‵ (S m) ∷ []) ∵ move ! (2 ∷ []) $ fsplit ! $ move ! (0 ∷ 5 ∷ []) $
      use2 𝓛 (given (flag m ≤ n) (‵ (ends w p z s.closed) ⊛ ‵ (S s.closed))) (ends_show m s.closed) $ learn ! (λ le. split ! $ move ! (2 ∷ []) $ fsplit ! $ fsplit3 ! $ move ! (2 ∷ []) $ fsplit ! $
      suffices ! _ (upd_i 𝓤 Z) $ show ! At s.closed $ frame ! $ assume ! (‵ (closed_is w p z n s.closed)) $ suffices ! _ (upd_i 𝓤 (⟦ I ⟧ ∗ ⟦ then s.closed n ⟧)) $
      fjoin ! $ move ! (1 ∷ 2 ∷ 0 ∷ []) $ fjoin3 ! $ fjoin ! $ move ! (1 ∷ 0 ∷ []) $ fjoin ! $ move ! (2 ∷ 3 ∷ 0 ∷ []) $ use3 𝓛 (‵ I) (closes s so near) $ frame ! $
      nothing ! $ fpack ! (Answer m b n s.closed) (λ _. ftrue) (refl, le, lb) $ fjoin ! $ fjoin ! $ done !)

  abbrev O : Order Stream
  O = streams

  abbrev E : Stream → Fml
  E a = announced z a.0 a.1

  abbrev Latest : Stream → Fml
  Latest a = latest O other z.sent a

  -- what closed is, what was seen of the stream, and what is known of it now
  abbrev Shown : Bool → Stream → Stream → Stream → Type 0
  Shown c m all r = (flag c ≡ flag r.1) × Reaches m r × (flag all.1 ≡ flag r.1)

  abbrev Shows : Bool → Stream → Stream → Stream → Pr
  Shows c m all r = guard 𝓤 (Shown c m all r) (⟦ Latest all ⟧ ∗ ⟦ E r ⟧)

  -- a ring that is seen closed shows all that was sent
  shows_all : (c u : Bool) (sent : List ℕ) (m : Stream) → flag c ≡ flag u → Reaches m (sent, u) → ⟦ Latest (sent, u) ⟧ ∗ ⟦ E m ⟧ ⊢ ex 𝓤 (Shows c m (sent, u))
  shows_all true true sent m e h = qed 𝓛 (‵ (Latest (sent, true)) ∷ ‵ (E m) ∷ []) ∵ keep ! (0 ∷ []) $ use1 𝓛 (‵ (Latest (sent, true)) ⊛ ‵ (E (sent, true))) (latest_shows O 𝓛 other z.sent (sent, true) (sent, true) (reaches_same (sent, true))) $ split ! $
      show ! (Shows true m (sent, true)) (sent, true) $ check ! (refl, h, refl) $ done !
  shows_all false false sent m e h = let low : flag m.1 ≡ 0 = ap flag (open_before m sent h) in qed 𝓛 (‵ (Latest (sent, false)) ∷ ‵ (E m) ∷ []) ∵ show ! (Shows false m (sent, false)) m $ check ! (omega arith, reaches_same m, omega arith) $ done !
  shows_all true false sent m e h = absurd (omega arith)
  shows_all false true sent m e h = absurd (omega arith)

  -- r is what the reader saw of the stream: its end, where 1 was loaded, and what it had seen and
  -- was told of stays
  abbrev pub SeenEnd : Stream → Stream → ℕ → Stream → Type 0
  SeenEnd m b n r = (n ≡ flag r.1) × Reaches m r × (flag b.1 ≤ flag r.1)

  abbrev pub end_seen : Stream → Stream → ℕ → Stream → Fml
  end_seen m b n r = fsep (fact (SeenEnd m b n r)) (E r)

  abbrev pub AfterEnd : Fml → Stream → Stream → Stream → ℕ → Fml
  AfterEnd K m b r n = fsep (end_seen m b n r) K

  abbrev pub EndNoted : Fml → Stream → Stream → Log → ℕ → Fml
  EndNoted K m b k = ClosedNoted (λ r. r.1) (λ n. n) (λ r. r.1) (AfterEnd K m b) k (λ r. loaded_closed r.1)

  -- a load of closed while the reader is there
  pub reader_looks : (q : Share) (head seen i : ℕ) → i ≡ 0 → (m b : Stream) → (k : Log) → (k.keeps ≡ true → k.names ≡ z)
      → ⟦ C ⟧ ∗ (⟦ RK q head seen i ⟧ ∗ ⟦ E m ⟧ ∗ ⟦ E b ⟧) ∗ ⟦ Kept k (accesses_in k.lines) ⟧ ⊢ access 136 (λ n. n) (EndNoted (RK q head seen i) m b k)
  reader_looks q head seen i there m b k own = let K : Fml = RK q head seen i in let then : Stream → ℕ → Fml = AfterEnd K m b in let At : Stream → Pr = ClosedAt (λ r. r.1) (λ n. n) (λ r. r.1) then in let Z : Pr = ex 𝓤 At in
      closed_loaded_noted (λ (r : Stream). r.1) then (⟦ K ⟧ ∗ ⟦ E m ⟧ ∗ ⟦ E b ⟧) (qed 𝓛 (‵ I ∷ ‵ K ∷ ‵ (E m) ∷ ‵ (E b) ∷ []) ∵
      use2 𝓛 (some (λ (s : State). given (ReaderSees head seen i s) (‵ K ⊛ ‵ (RK other s.head s.seen s.reader_stage) ⊛ ‵ (WK other s.sent s.limit s.shut s.writer_stage) ⊛ ‵ (Rest s)))) (reader_opens q head seen i (omega arith)) $ pick ! (λ s. learn ! (λ so. split3 ! $
      let ei = so.3 in let top = so.0.stages.1 in let shutting = so.0.shutting in let closing = so.0.closing in let all : Stream = (s.sent, s.shut) in let n : ℕ = flag s.closed in let near : OneStays s = omega arith in
      move ! (2 ∷ []) $ split ! $ fsplit3 ! $ move ! (0 ∷ 7 ∷ []) $
      use2 𝓛 (given (Reaches b all) (‵ (Latest all) ⊛ ‵ (E b))) (latest_bounds O 𝓛 other z.sent all b) $ learn ! (λ hb. split ! $ move ! (0 ∷ 7 ∷ []) $
      use2 𝓛 (given (Reaches m all) (‵ (Latest all) ⊛ ‵ (E m))) (latest_bounds O 𝓛 other z.sent all m) $ learn ! (λ hm. split ! $
      use2 𝓛 (some (λ (r : Stream). given (Shown s.closed m all r) (‵ (Latest all) ⊛ ‵ (E r)))) (shows_all s.closed s.shut s.sent m (omega arith) hm) $ pick ! (λ r. learn ! (λ shown. split ! $
      let heard = flag_reaches b all hb in let closed_is_so = shown.0 in let shut_is = shown.2 in
      move ! (0 ∷ 3 ∷ 4 ∷ []) $ fjoin3 ! $ move ! (3 ∷ []) $ fsplit ! $ move ! (1 ∷ []) $ fsplit ! $ fsplit3 ! $ move ! (2 ∷ []) $ fsplit ! $
      suffices ! _ (upd_i 𝓤 Z) $
      let one : s.closed ≡ r.1 = flag_one s.closed r.1 closed_is_so in rewrite ! 0 (λ (c : Bool). ‵ (closed_is w p z (flag c) c)) {x = r.1} {y = s.closed} one refl $
      show ! At r $ frame ! $ assume ! (‵ (closed_is w p z (flag r.1) r.1)) $ suffices ! _ (upd_i 𝓤 (⟦ I ⟧ ∗ ⟦ then r (flag r.1) ⟧)) $ rewrite ! 0 (λ (c : Bool). ‵ (closed_is w p z (flag c) c)) {x = s.closed} {y = r.1} (sym one) refl $
      fjoin ! $ move ! (1 ∷ 2 ∷ 0 ∷ []) $ fjoin3 ! $ fjoin ! $ move ! (1 ∷ 0 ∷ []) $ fjoin ! $ move ! (1 ∷ 5 ∷ 0 ∷ []) $ use3 𝓛 (‵ I) (closes s so.0 near) $ frame ! $ move ! (1 ∷ []) $ forget ! $
      nothing ! $ fpack ! (SeenEnd m b (flag r.1) r) (λ _. ftrue) (refl, shown.1, omega arith) $ fjoin ! $ fjoin ! $ done !))))))) k own

  abbrev pub SawNoted : Fml → Bool → Bool → Log → ℕ → Fml
  SawNoted K m b k = ClosedNoted (λ c. c) (λ n. n) (λ c. c) (AfterClosed K m b) k loaded_closed

  pub writer_looks : (q : Share) (sent : List ℕ) (limit : ℕ) (shut : Bool) (i : ℕ) → i ≤ 1 → (m : Bool) → (k : Log) → (k.keeps ≡ true → k.names ≡ z)
      → ⟦ C ⟧ ∗ (⟦ WK q sent limit shut i ⟧ ∗ ⟦ S m ⟧) ∗ ⟦ Kept k (accesses_in k.lines) ⟧ ⊢ access 136 (λ n. n) (SawNoted (WK q sent limit shut i) m shut k)
  writer_looks q sent limit shut i le m k own = closed_loaded_noted (λ (c : Bool). c) (AfterClosed (WK q sent limit shut i) m shut) (⟦ WK q sent limit shut i ⟧ ∗ ⟦ S m ⟧) (qed 𝓛 (‵ I ∷ ‵ (WK q sent limit shut i) ∷ ‵ (S m) ∷ []) ∵
      use2 𝓛 (some (λ (s : State). given (WriterSees sent limit shut i s) (‵ (WK q sent limit shut i) ⊛ ‵ (WK other s.sent s.limit s.shut s.writer_stage) ⊛ ‵ (RK other s.head s.seen s.reader_stage) ⊛ ‵ (Rest s)))) (writer_opens q sent limit shut i le) $ pick ! (λ s. learn ! (λ so. split3 ! $
      move ! (2 ∷ []) $ split ! $ let ei = so.4 in let same : flag shut ≡ flag s.shut = ap flag so.3 in let shutting = so.0.shutting in let top = so.0.stages.0 in move ! (3 ∷ 0 ∷ 1 ∷ 2 ∷ 4 ∷ []) $ by ! (shows_closed (WK q sent limit shut i) m shut s so.0 (omega arith) (omega arith))))) k own

  abbrev pub Closed : Log → Fml → ℕ → Fml
  Closed k then = ClosedNoted (λ c. c) (λ _. 1) (λ _. true) (λ _ _. then) k (λ _. stored_closed)

  -- the writer closes
  pub shuts : (sent : List ℕ) (limit : ℕ) (shut : Bool) (i : ℕ) → i ≤ 1 → (k : Log) → k.keeps ≡ true → k.names ≡ z
      → ⟦ C ⟧ ∗ ⟦ WK half sent limit shut i ⟧ ∗ ⟦ Kept k (accesses_in k.lines) ⟧ ⊢ access 136 (λ _. 1) (Closed k (WK half sent limit true i))
  shuts sent limit shut i le k kept own = let Then : Fml = WK half sent limit true i in let At : Bool → Pr = ClosedAt (λ c. c) (λ _. 1) (λ _. true) (λ _ _. Then) in let Z : Pr = ex 𝓤 At in
      closed_stored_noted Then ⟦ WK half sent limit shut i ⟧ (qed 𝓛 (‵ I ∷ ‵ (WK half sent limit shut i) ∷ []) ∵
      use2 𝓛 (some (λ (s : State). given (WriterSees sent limit shut i s) (‵ (WK half sent limit shut i) ⊛ ‵ (WK other s.sent s.limit s.shut s.writer_stage) ⊛ ‵ (RK other s.head s.seen s.reader_stage) ⊛ ‵ (Rest s)))) (writer_opens half sent limit shut i le) $ pick ! (λ s. learn ! (λ so. split3 ! $
      let ei = so.4 in let top = so.0.stages.0 in let ended : Reaches (sent, shut) (sent, true) = (prefix_refl sent, λ e. ap (λ (u : Bool). (sent, u)) (sym e)) in let small2 = flag_small s.closed in let s' : State = record s { closed = true; shut = true } in let near : OneStays s' = omega arith in
      let so' : Holds cap s' = record { known = so.0.known; arrived = so.0.arrived; written = so.0.written; freed = so.0.freed; closing = omega arith; shutting = omega arith; stages = so.0.stages } in
      move ! (2 ∷ []) $ split ! $ move ! (1 ∷ []) $ fsplit ! $ use1 𝓛 (raw (upd 𝓤 ⟦ ends w p z true ⟧)) (latest_grows numbers 𝓛 z.closed (flag s.closed) 1 small2) $ settle 𝓛 Z (‵ (ends w p z true)) $
      move ! (3 ∷ []) $ fsplit3 ! $ move ! (6 ∷ []) $ fsplit3 ! $
      move ! (3 ∷ 0 ∷ []) $ use2 𝓛 (raw (upd 𝓤 (⟦ latest O half z.sent (sent, true) ⟧ ∗ ⟦ latest O other z.sent (s.sent, true) ⟧))) (raise O z.sent (sent, shut) (s.sent, s.shut) (sent, true) (s.sent, true) (λ j. (so.1 j, so.3 j)) (λ j. (so.1 j, true)) ended) $
      settle 𝓛 Z (‵ (latest O half z.sent (sent, true)) ⊛ ‵ (latest O other z.sent (s.sent, true))) $ suffices ! _ (upd_i 𝓤 Z) $ split ! $
      move ! (1 ∷ 2 ∷ 3 ∷ []) $ fjoin3 ! $ move ! (1 ∷ 2 ∷ 3 ∷ []) $ fjoin3 ! $
      move ! (3 ∷ []) $ fsplit ! $ fsplit3 ! $ move ! (2 ∷ []) $ fsplit ! $ show ! At s.closed $ frame ! $ assume ! (‵ (closed_is w p z 1 true)) $ suffices ! _ (upd_i 𝓤 (⟦ I ⟧ ∗ ⟦ Then ⟧)) $
      fjoin ! $ move ! (1 ∷ 2 ∷ 0 ∷ []) $ fjoin3 ! $ fjoin ! $ move ! (3 ∷ 0 ∷ []) $ fjoin ! $ move ! (2 ∷ 3 ∷ 0 ∷ []) $ use3 𝓛 (‵ I) (closes s' so' near) $ frame ! $ done !))) k kept own

  -- the reader gives the places of xs back
  abbrev pub Freed : (head seen i : ℕ) (xs : List ℕ) (new : ℕ) → Log → ℕ → Fml
  Freed head seen i xs new k = HeadNoted (λ _. new) (λ x. x + length xs) (λ _ _. RK half (head + length xs) seen i) k (λ _. stored_head xs)

  pub frees : (head seen i : ℕ) → i ≤ 1 → (xs : List ℕ) (new : ℕ) → new ≡ position_of cap (head + length xs) → head + length xs ≤ seen
      → (k : Log) → k.keeps ≡ true → k.names ≡ z → ⟦ C ⟧ ∗ (⟦ RK half head seen i ⟧ ∗ ⟦ run (byte p cap) head xs ⟧) ∗ ⟦ Kept k (accesses_in k.lines) ⟧ ⊢ access 8 (λ _. new) (Freed head seen i xs new k)
  frees head seen i le xs new is room k kept own = let top : ℕ = head + length xs in let Then : Fml = RK half top seen i in let At : ℕ → Pr = HeadAt (λ _. new) (λ x. x + length xs) (λ _ _. Then) in let Z : Pr = ex 𝓤 At in let B : ℕ → ℕ → Fml = byte p cap in
      head_noted (λ _. new) (λ x. x + length xs) (λ _ _. Then) (⟦ RK half head seen i ⟧ ∗ ⟦ run B head xs ⟧) (λ _. stored_head xs) (qed 𝓛 (‵ I ∷ ‵ (RK half head seen i) ∷ ‵ (run B head xs) ∷ []) ∵
      use2 𝓛 (some (λ (s : State). given (ReaderSees head seen i s) (‵ (RK half head seen i) ⊛ ‵ (RK other s.head s.seen s.reader_stage) ⊛ ‵ (WK other s.sent s.limit s.shut s.writer_stage) ⊛ ‵ (Rest s)))) (reader_opens half head seen i le) $ pick ! (λ s. learn ! (λ so. split3 ! $
      let known = so.0.known in let freed = so.0.freed in let eh = so.1 in let es = so.2 in let ei = so.3 in let last = so.0.stages.1 in
      let s' : State = record s { head = top } in let near : OneStays s' = omega arith in
      let so' : Holds cap s' = record { known = omega arith; arrived = so.0.arrived; written = so.0.written; freed = omega arith; closing = so.0.closing; shutting = so.0.shutting; stages = so.0.stages } in
      fsplit ! $ fsplit ! $ move ! (3 ∷ []) $ fsplit ! $ fsplit ! $ move ! (3 ∷ 0 ∷ []) $
      use2 𝓛 (raw (upd 𝓤 (⟦ latest numbers half z.head top ⟧ ∗ ⟦ latest numbers other z.head top ⟧))) (raise numbers z.head head s.head top top eh refl (omega arith)) $
      settle 𝓛 Z (‵ (latest numbers half z.head top) ⊛ ‵ (latest numbers other z.head top)) $ suffices ! _ (upd_i 𝓤 Z) $ split ! $
      move ! (0 ∷ 4 ∷ []) $ fjoin ! $ move ! (0 ∷ 4 ∷ []) $ fjoin ! $ move ! (1 ∷ 2 ∷ []) $ fjoin ! $ move ! (0 ∷ 2 ∷ []) $ fjoin ! $ move ! (2 ∷ []) $ split ! $ move ! (1 ∷ []) $ fsplit ! $ move ! (1 ∷ []) $ fsplit ! $ fsplit ! $
      show ! At s.head $ frame ! $ assume ! (‵ (head_is w p z new (s.head + length xs))) $ suffices ! _ (upd_i 𝓤 (⟦ I ⟧ ∗ ⟦ Then ⟧)) $
      rewrite ! 0 (λ (r : ℕ × ℕ). ‵ (head_is w p z r.0 r.1)) {x = (position_of cap top, top)} {y = (new, s.head + length xs)} (λ j. (is j, (sym eh) j + length xs)) refl $ fjoin ! $ move ! (1 ∷ []) $ fsplit ! $ move ! (1 ∷ []) $ fsplit3 ! $ move ! (1 ∷ []) $
      rewrite ! 0 (λ (F : Fml). ‵ F) {x = where_gone (gone s.reader_stage) (blanks w p z top (s.seen - top))} {y = where_gone (gone s.reader_stage) (blanks w p z s.head (s.seen - s.head))} (not_gone s.reader_stage _ _ (omega arith)) refl $
      move ! (1 ∷ []) $ fpick ! (λ ys. fsplit ! $ fpick ! (λ ly. forget ! $ move ! (0 ∷ 9 ∷ []) $
      rewrite ! 1 (λ (F : Fml). ‵ F) {x = run B (s.head + cap) xs} {y = run B head xs} (run_turn p cap xs head (s.head + cap) (ap (λ (m : ℕ). m + cap) eh)) refl $
      let size : length ys ≡ s.head + z.capacity - s.limit = ly in let long : length (ys ++ xs) ≡ length ys + length xs = length-append ys xs in
      use2 𝓛 (‵ (run B s.limit (ys ++ xs))) (run_join 𝓛 B ys xs s.limit (s.head + cap) (omega arith)) $
      nothing ! $ fpack ! (length (ys ++ xs) ≡ top + z.capacity - s.limit) (λ _. ftrue) (omega arith) $ fjoin ! $ fpack ! (List ℕ) (idle w p z s.limit (top + z.capacity - s.limit)) (ys ++ xs) $ fjoin3 ! $
      move ! (1 ∷ 0 ∷ []) $ fjoin ! $ move ! (1 ∷ 0 ∷ []) $ fjoin ! $ move ! (1 ∷ 0 ∷ []) $ fjoin ! $ move ! (1 ∷ 2 ∷ 0 ∷ []) $ use3 𝓛 (‵ I) (closes s' so' near) $ frame ! $ done !)))))
      (λ x t e. tt) (λ x t e. ap (λ (y : ℕ). record t { head = y + length xs }) (sym e)) k (λ _. own) (no_load kept)
