-- What comes to an end with no step of the program: to the reader the places of the bytes that it saw
-- published, to the writer those that it saw given back. Where one thread holds both ends, the reader
-- gets all that was published, the writer all that is free, and a ring that was seen closed is shut.
-- Assumes `Logic`.
use Rattle.piper_ring.proofs.Kit.{◌≡◌, ℕ, ◌+◌, ◌-◌, ◌≤◌, Bool, false, List, [], ◌∷◌, ◌++◌, length, take, sym, refl, ap, ◌∙◌, length-append, append_assoc, arith, take-append_seam, Ura, Order, numbers, latest, SProp, ent, ex, guard, upd, upd_i, Fml, Logic, latest_bounds, latest_shows, ‵, raw, ◌⊛◌, some, given, ◌$◌, ◌∵◌, !, qed, move, keep, split, split3, fsplit, fsplit3, fjoin, fjoin3, pick, learn, check, show, frame, settle, suffices, rewrite, use1, use2, use3, done, drop as forget, Ptr, run, byte, Names, State, Holds, half, other, flag, gone, where_gone, blanks, announced, began, writer_knows, Inner, common, Stream, Reaches, streams, open_reaches, drop_list, signs, length-take-le, length-drop, ftrue, fsep, fpick, fpack, nothing, idle, deeds, took, reader_knows, subst, prefix_refl, raised, ends}
use Rattle.piper_ring.proofs.Terms.{terms}
use Rattle.std.proofs.Math.Seq.{drop-append_seam, drop-length}
use Rattle.piper_ring.proofs.Reaching.{begins}
use Rattle.piper_ring.proofs.PlacesParts.{run_cut}
use Rattle.piper_ring.proofs.Steps.{quietly, flag_small, not_gone, Rest, OneStays, ReaderSees, reader_opens, closes, raise, WriterSees, writer_opens, ends_show, reader_agrees}

pub pending_is : (have xs sent : List ℕ) (seen k : ℕ) → length have ≡ seen → seen ≡ k → have ++ xs ≡ sent → drop_list k sent ≡ xs
pending_is have xs sent seen k lh e pre = (λ i. drop_list (sym (lh ∙ e) i) (sym pre i)) ∙ drop-append_seam have xs

module _ {M : Type 1} {𝓤 : Ura M} (𝓛 : Logic 𝓤) (w p : Ptr) (z : Names) where
  open 𝓛 use {H}
  open signs 𝓛 use {◌∗◌, ⟦◌⟧}
  open terms 𝓛 w p z use {cap, RK}

  infixr 35 ◌∗◌
  abbrev O : Order Stream
  O = streams

  abbrev B : ℕ → ℕ → Fml
  B = byte p cap

  abbrev Hv : List ℕ → Fml
  Hv = began z

  module _ (head seen : ℕ) (have published : List ℕ) (left ended : Bool) where
    abbrev Told : Fml
    Told = announced z published ended

    abbrev pub Gained : List ℕ → Type 0
    Gained xs = (have ++ xs ≡ published) × (length published ≡ seen + length xs)

    abbrev pub Accepted : List ℕ → SProp 𝓤
    Accepted xs = guard 𝓤 (Gained xs) (⟦ run B seen xs ⟧ ∗ ⟦ RK half head (length published) (flag left) ⟧ ∗ ⟦ Hv published ⟧)

    pub accepts : length have ≡ seen → seen ≤ length published → ent 𝓤 (⟦ common w p z ⟧ ∗ ⟦ RK half head seen (flag left) ⟧ ∗ ⟦ Hv have ⟧ ∗ ⟦ Told ⟧) (H.⇛ (ex 𝓤 Accepted))
    accepts lh long = let I : Fml = Inner w p z in let Q : SProp 𝓤 = ex 𝓤 Accepted in let Z : SProp 𝓤 = ⟦ I ⟧ ∗ Q in let RH : Fml = RK half head seen (flag left) in
        quietly 𝓛 w p z (⟦ RH ⟧ ∗ ⟦ Hv have ⟧ ∗ ⟦ Told ⟧) Q (qed 𝓛 (‵ I ∷ ‵ RH ∷ ‵ (Hv have) ∷ ‵ Told ∷ []) ∵
        use2 𝓛 (some (λ (s : State). given (ReaderSees 𝓛 w p z head seen (flag left) s) (‵ RH ⊛ ‵ (RK other s.head s.seen s.reader_stage) ⊛ ‵ (writer_knows w p z other s.sent s.limit s.shut s.writer_stage) ⊛ ‵ (Rest 𝓛 w p z s)))) (reader_opens 𝓛 w p z half head seen (flag left) (flag_small left)) $ pick ! (λ s. learn ! (λ so. split3 ! $
        move ! (2 ∷ []) $ split ! $ fsplit3 ! $ move ! (0 ∷ 6 ∷ []) $
        use2 𝓛 (given (Reaches (have, false) (s.sent, s.shut)) (‵ (latest O other z.sent (s.sent, s.shut)) ⊛ ‵ (Hv have))) (latest_bounds O 𝓛 other z.sent (s.sent, s.shut) (have, false)) $ learn ! (λ pre. split ! $ move ! (0 ∷ 7 ∷ []) $
        use2 𝓛 (given (Reaches (published, ended) (s.sent, s.shut)) (‵ (latest O other z.sent (s.sent, s.shut)) ⊛ ‵ Told)) (latest_bounds O 𝓛 other z.sent (s.sent, s.shut) (published, ended)) $ learn ! (λ pt. split ! $ move ! (1 ∷ []) $ forget ! $
        use1 𝓛 (‵ (latest O other z.sent (s.sent, s.shut)) ⊛ ‵ (Hv published)) (latest_shows O 𝓛 other z.sent (s.sent, s.shut) (published, false) (open_reaches published (s.sent, s.shut) pt.0)) $ split ! $ move ! (0 ∷ 3 ∷ 4 ∷ []) $ fjoin3 ! $
        let known = so.0.known in let arrived = so.0.arrived in let written = so.0.written in let freed = so.0.freed in let eh = so.1 in let es = so.2 in let ei = so.3 in let top2 = so.0.stages.1 in let small = flag_small left in
        let xs : List ℕ = drop_list (length have) published in let whole : have ++ xs ≡ published = begins have published s.sent pre.0.0 pt.0.0 pre.0.1 pt.0.1 (omega arith) in let rest : List ℕ = pt.0.0 in let top : ℕ = length published in
        let l1 : length (have ++ xs) ≡ length have + length xs = length-append have xs in let l2 : length (have ++ xs) ≡ top = ap length whole in let l3 : length (published ++ rest) ≡ top + length rest = length-append published rest in let l4 : length (published ++ rest) ≡ length s.sent = ap length pt.0.1 in
        let l5 : length (xs ++ rest) ≡ length xs + length rest = length-append xs rest in let all : have ++ (xs ++ rest) ≡ s.sent = sym (append_assoc have xs rest) ∙ ap (λ (l : List ℕ). l ++ rest) whole ∙ pt.0.1 in
        let s' : State = record s { seen = top } in let near : OneStays 𝓛 w p z s' = omega arith in
        let so' : Holds cap s' = record { known = omega arith; arrived = omega arith; written = written; freed = freed; closing = so.0.closing; shutting = so.0.shutting; stages = so.0.stages } in
        move ! (4 ∷ []) $ fsplit ! $ move ! (6 ∷ []) $ fsplit ! $ move ! (3 ∷ 1 ∷ []) $
        use2 𝓛 (raw (upd 𝓤 (⟦ latest numbers half z.seen top ⟧ ∗ ⟦ latest numbers other z.seen top ⟧))) (raise 𝓛 w p z numbers z.seen seen s.seen top top es refl long) $
        settle 𝓛 Z (‵ (latest numbers half z.seen top) ⊛ ‵ (latest numbers other z.seen top)) $ suffices ! _ (upd_i 𝓤 Z) $ split ! $
        move ! (3 ∷ 0 ∷ []) $ fjoin ! $ move ! (2 ∷ 1 ∷ []) $ fjoin ! $ move ! (5 ∷ []) $ fsplit ! $ move ! (1 ∷ []) $ fsplit ! $ move ! (1 ∷ []) $ fsplit ! $ move ! (1 ∷ []) $ fsplit ! $ move ! (1 ∷ []) $ fsplit ! $
        rewrite ! 0 (λ (F : Fml). ‵ F) {x = where_gone (gone s.reader_stage) (blanks w p z s.head (top - s.head))} {y = where_gone (gone s.reader_stage) (blanks w p z s.head (s.seen - s.head))} (not_gone 𝓛 w p z s.reader_stage _ _ (omega arith)) refl $ fjoin ! $ move ! (1 ∷ 0 ∷ []) $ fjoin ! $ move ! (1 ∷ []) $
        rewrite ! 0 (λ (r : ℕ × List ℕ). ‵ (run B r.0 r.1)) {x = (seen, xs ++ rest)} {y = (s.seen, drop_list s.seen s.sent)} (λ i. (sym es i, pending_is have (xs ++ rest) s.sent seen s.seen lh es all i)) refl $
        use1 𝓛 (‵ (run B seen (take (length xs) (xs ++ rest))) ⊛ ‵ (run B top (drop_list (length xs) (xs ++ rest)))) (run_cut 𝓛 B (length xs) seen top (xs ++ rest) (omega arith) (omega arith)) $ split ! $
        rewrite ! 0 (λ (l : List ℕ). ‵ (run B seen l)) (take-append_seam xs rest) refl $
        rewrite ! 1 (λ (l : List ℕ). ‵ (run B top l)) (drop-append_seam xs rest ∙ sym (pending_is published rest s.sent top top refl refl pt.0.1)) refl $
        move ! (1 ∷ 2 ∷ []) $ fjoin ! $ move ! (2 ∷ 0 ∷ []) $ fjoin ! $ move ! (2 ∷ 0 ∷ []) $ fjoin ! $ move ! (4 ∷ 2 ∷ 0 ∷ []) $ use3 𝓛 (‵ I) (closes 𝓛 w p z s' so' near) $ frame ! $
        show ! Accepted xs $ check ! (whole, omega arith) $ keep ! (0 ∷ 1 ∷ 2 ∷ []) $ done !)))))

  module _ (sent : List ℕ) (limit : ℕ) (shut : Bool) (consumed : ℕ) where
    abbrev full : ℕ
    full = consumed + z.capacity

    abbrev Took : Fml
    Took = took z consumed

    abbrev Room : ℕ → Fml
    Room m = writer_knows w p z half sent m shut 0

    -- the bytes that are in the places gained
    abbrev pub Reclaimed : List ℕ → SProp 𝓤
    Reclaimed xs = guard 𝓤 (full ≡ limit + length xs) (⟦ run B limit xs ⟧ ∗ ⟦ Room full ⟧)

    pub reclaims : limit ≤ full → ent 𝓤 (⟦ common w p z ⟧ ∗ ⟦ Room limit ⟧ ∗ ⟦ Took ⟧) (H.⇛ (ex 𝓤 Reclaimed))
    reclaims more = let I : Fml = Inner w p z in let Q : SProp 𝓤 = ex 𝓤 Reclaimed in let Z : SProp 𝓤 = ⟦ I ⟧ ∗ Q in let i : ℕ = 0 in
        quietly 𝓛 w p z (⟦ Room limit ⟧ ∗ ⟦ Took ⟧) Q (qed 𝓛 (‵ I ∷ ‵ (Room limit) ∷ ‵ Took ∷ []) ∵
        use2 𝓛 (some (λ (s : State). given (WriterSees 𝓛 w p z sent limit shut i s) (‵ (Room limit) ⊛ ‵ (writer_knows w p z other s.sent s.limit s.shut s.writer_stage) ⊛ ‵ (reader_knows w p z other s.head s.seen s.reader_stage) ⊛ ‵ (Rest 𝓛 w p z s)))) (writer_opens 𝓛 w p z half sent limit shut i (flag_small false)) $ pick ! (λ s. learn ! (λ so. split3 ! $
        move ! (2 ∷ []) $ split ! $ fsplit ! $ fsplit ! $ move ! (0 ∷ 6 ∷ []) $
        use2 𝓛 (given (consumed ≤ s.head) (‵ (latest numbers other z.head s.head) ⊛ ‵ Took)) (latest_bounds numbers 𝓛 other z.head s.head consumed) $ learn ! (λ lt. split ! $ move ! (0 ∷ 2 ∷ []) $ fjoin ! $ move ! (0 ∷ 2 ∷ []) $ fjoin ! $ move ! (1 ∷ []) $ forget ! $
        let known = so.0.known in let arrived = so.0.arrived in let written = so.0.written in let freed = so.0.freed in let es : length sent ≡ length s.sent = ap length so.1 in let el = so.2 in let ei = so.4 in let last = so.0.stages.0 in
        let s' : State = record s { limit = full } in let near : OneStays 𝓛 w p z s' = omega arith in let n : ℕ = full - limit in
        let so' : Holds z.capacity s' = record { known = known; arrived = arrived; written = omega arith; freed = omega arith; closing = so.0.closing; shutting = so.0.shutting; stages = so.0.stages } in
        move ! (1 ∷ []) $ fsplit ! $ move ! (1 ∷ []) $ fsplit ! $ move ! (1 ∷ []) $ fsplit ! $ move ! (1 ∷ []) $ fsplit3 ! $ fpick ! (λ ys. fsplit ! $ fpick ! (λ ly. forget ! $
        let size : length ys ≡ s.head + z.capacity - s.limit = ly in let left : length (drop_list n ys) ≡ length ys - n = length-drop n ys in
        move ! (7 ∷ []) $ fsplit3 ! $ move ! (10 ∷ []) $ fsplit3 ! $ move ! (4 ∷ 1 ∷ []) $
        use2 𝓛 (raw (upd 𝓤 (⟦ latest numbers half z.limit full ⟧ ∗ ⟦ latest numbers other z.limit full ⟧))) (raise 𝓛 w p z numbers z.limit limit s.limit full full el refl more) $
        settle 𝓛 Z (‵ (latest numbers half z.limit full) ⊛ ‵ (latest numbers other z.limit full)) $ suffices ! _ (upd_i 𝓤 Z) $ split ! $
        move ! (2 ∷ 1 ∷ 3 ∷ []) $ fjoin3 ! $ move ! (2 ∷ 1 ∷ 3 ∷ []) $ fjoin3 ! $ move ! (2 ∷ []) $
        use1 𝓛 (‵ (run B s.limit (take n ys)) ⊛ ‵ (run B full (drop_list n ys))) (run_cut 𝓛 B n s.limit full ys (omega arith) (omega arith)) $ split ! $
        rewrite ! 0 (λ (k : ℕ). ‵ (run B k (take n ys))) {x = limit} {y = s.limit} (sym el) refl $ move ! (1 ∷ []) $
        nothing ! $ fpack ! (length (drop_list n ys) ≡ s.head + z.capacity - full) (λ _. ftrue) (omega arith) $ fjoin ! $ fpack ! (List ℕ) (idle w p z full (s.head + z.capacity - full)) (drop_list n ys) $ move ! (5 ∷ []) $
        rewrite ! 0 (λ (F : Fml). ‵ (fsep F (deeds w p z s))) {x = where_gone (gone s.writer_stage) (blanks w p z (length s.sent) (full - length s.sent))} {y = where_gone (gone s.writer_stage) (blanks w p z (length s.sent) (s.limit - length s.sent))} (not_gone 𝓛 w p z s.writer_stage _ _ (omega arith)) refl $
        move ! (5 ∷ 0 ∷ []) $ fjoin ! $ move ! (1 ∷ 0 ∷ []) $ fjoin ! $ move ! (4 ∷ 0 ∷ []) $ fjoin ! $ move ! (4 ∷ 0 ∷ []) $ fjoin ! $ move ! (4 ∷ 0 ∷ []) $ fjoin ! $ move ! (3 ∷ 4 ∷ 0 ∷ []) $ use3 𝓛 (‵ I) (closes 𝓛 w p z s' so' near) $ frame ! $
        let got : length (take n ys) ≡ n = length-take-le n ys (omega arith) in show ! Reclaimed (take n ys) $ check ! (omega arith) $ done !))))))

  module _ (head seen : ℕ) (sent : List ℕ) (limit : ℕ) (shut there : Bool) (have : List ℕ) (heard : Stream) (other_saw : Bool) where
    abbrev T : Fml
    T = announced z heard.0 heard.1

    abbrev S : Bool → Fml
    S = raised z.closed

    abbrev Own : Fml
    Own = reader_knows w p z half head seen (flag there)

    abbrev Theirs : Fml
    Theirs = writer_knows w p z half sent limit shut 0

    -- the bytes that the reader did not know of, and those that are in the places that the writer did
    -- not know of
    abbrev pub Apart : List ℕ × List ℕ → Type 0
    Apart r = (have ++ r.0 ≡ sent) × (limit + length r.1 ≡ head + cap) × Reaches heard (sent, shut) × (flag other_saw ≤ flag shut)

    abbrev pub Joined : List ℕ × List ℕ → SProp 𝓤
    Joined r = guard 𝓤 (Apart r) (⟦ run B seen r.0 ⟧ ∗ ⟦ run B limit r.1 ⟧ ∗ ⟦ reader_knows w p z half head (length sent) (flag there) ⟧ ∗ ⟦ writer_knows w p z half sent (head + cap) shut 0 ⟧ ∗ ⟦ Hv sent ⟧)

    pub joins : length have ≡ seen → there ≡ false → ent 𝓤 (⟦ common w p z ⟧ ∗ ⟦ Own ⟧ ∗ ⟦ Hv have ⟧ ∗ ⟦ Theirs ⟧ ∗ ⟦ T ⟧ ∗ ⟦ S other_saw ⟧) (H.⇛ (ex 𝓤 Joined))
    joins lh is_there = let I : Fml = Inner w p z in let Q : SProp 𝓤 = ex 𝓤 Joined in let Z : SProp 𝓤 = ⟦ I ⟧ ∗ Q in
        quietly 𝓛 w p z (⟦ Own ⟧ ∗ ⟦ Hv have ⟧ ∗ ⟦ Theirs ⟧ ∗ ⟦ T ⟧ ∗ ⟦ S other_saw ⟧) Q (qed 𝓛 (‵ I ∷ ‵ Own ∷ ‵ (Hv have) ∷ ‵ Theirs ∷ ‵ T ∷ ‵ (S other_saw) ∷ []) ∵ move ! (0 ∷ 3 ∷ []) $
        use2 𝓛 (some (λ (s : State). given (WriterSees 𝓛 w p z sent limit shut 0 s) (‵ Theirs ⊛ ‵ (writer_knows w p z other s.sent s.limit s.shut s.writer_stage) ⊛ ‵ (reader_knows w p z other s.head s.seen s.reader_stage) ⊛ ‵ (Rest 𝓛 w p z s)))) (writer_opens 𝓛 w p z half sent limit shut 0 (flag_small false)) $ pick ! (λ s. learn ! (λ so. split3 ! $
        move ! (2 ∷ []) $ split ! $ move ! (4 ∷ 0 ∷ []) $
        use2 𝓛 (given ((head ≡ s.head) × (seen ≡ s.seen) × (flag there ≡ s.reader_stage)) (‵ Own ⊛ ‵ (reader_knows w p z other s.head s.seen s.reader_stage))) (reader_agrees 𝓛 w p z half head seen (flag there) s.head s.seen s.reader_stage) $ learn ! (λ e. split ! $
        move ! (2 ∷ []) $ fsplit ! $ move ! (0 ∷ 8 ∷ []) $
        use2 𝓛 (given (flag other_saw ≤ flag s.closed) (‵ (ends w p z s.closed) ⊛ ‵ (S s.closed))) (ends_show 𝓛 w p z other_saw s.closed) $ learn ! (λ l2. split ! $
        keep ! (0 ∷ 2 ∷ 3 ∷ 4 ∷ 5 ∷ 6 ∷ 7 ∷ 8 ∷ []) $ fjoin ! $ move ! (1 ∷ 2 ∷ 0 ∷ []) $
        let known = so.0.known in let arrived = so.0.arrived in let written = so.0.written in let freed = so.0.freed in let esent : length sent ≡ length s.sent = ap length so.1 in let el = so.2 in let eshut : flag shut ≡ flag s.shut = ap flag so.3 in let ewriter = so.4 in let eh = e.0 in let es = e.1 in let ereader = e.2 in
        let closing = so.0.closing in let no_there : flag there ≡ 0 = ap flag is_there in
        let now : Stream = (s.sent, s.shut) in move ! (4 ∷ []) $ fsplit3 ! $ move ! (0 ∷ 8 ∷ []) $
        use2 𝓛 (given (Reaches heard now) (‵ (latest O other z.sent now) ⊛ ‵ T)) (latest_bounds O 𝓛 other z.sent now heard) $ learn ! (λ ht. split ! $ move ! (1 ∷ []) $ forget ! $ move ! (0 ∷ 7 ∷ []) $
        use2 𝓛 (given (Reaches (have, false) now) (‵ (latest O other z.sent now) ⊛ ‵ (Hv have))) (latest_bounds O 𝓛 other z.sent now (have, false)) $ learn ! (λ pre. split ! $ move ! (1 ∷ []) $ forget ! $
        use1 𝓛 (‵ (latest O other z.sent now) ⊛ ‵ (Hv s.sent)) (latest_shows O 𝓛 other z.sent now (s.sent, false) (open_reaches s.sent now (prefix_refl s.sent))) $ split ! $ rewrite ! 1 (λ (l : List ℕ). ‵ (Hv l)) (sym so.1) refl $
        let xs : List ℕ = pre.0.0 in let whole : have ++ xs ≡ s.sent = pre.0.1 in let top : ℕ = length s.sent in let full : ℕ = s.head + cap in
        let s' : State = record s { seen = top; limit = full } in let near : OneStays 𝓛 w p z s' = omega arith in
        let so' : Holds cap s' = record { known = omega arith; arrived = omega arith; written = omega arith; freed = omega arith; closing = so.0.closing; shutting = so.0.shutting; stages = so.0.stages } in
        move ! (7 ∷ []) $ fsplit3 ! $ move ! (1 ∷ 5 ∷ []) $
        use2 𝓛 (raw (upd 𝓤 (⟦ latest numbers half z.limit (head + cap) ⟧ ∗ ⟦ latest numbers other z.limit full ⟧))) (raise 𝓛 w p z numbers z.limit limit s.limit (head + cap) full el (ap (λ (m : ℕ). m + cap) eh) (omega arith)) $
        settle 𝓛 Z (‵ (latest numbers half z.limit (head + cap)) ⊛ ‵ (latest numbers other z.limit full)) $ split ! $
        move ! (2 ∷ 0 ∷ 3 ∷ []) $ fjoin3 ! $ move ! (2 ∷ 1 ∷ 4 ∷ []) $ fjoin3 ! $ move ! (3 ∷ []) $ fsplit ! $ move ! (5 ∷ []) $ fsplit ! $ move ! (3 ∷ 1 ∷ []) $
        use2 𝓛 (raw (upd 𝓤 (⟦ latest numbers half z.seen (length sent) ⟧ ∗ ⟦ latest numbers other z.seen top ⟧))) (raise 𝓛 w p z numbers z.seen seen s.seen (length sent) top es esent (omega arith)) $
        settle 𝓛 Z (‵ (latest numbers half z.seen (length sent)) ⊛ ‵ (latest numbers other z.seen top)) $ suffices ! _ (upd_i 𝓤 Z) $ split ! $
        move ! (3 ∷ 0 ∷ []) $ fjoin ! $ move ! (2 ∷ 1 ∷ []) $ fjoin ! $ move ! (5 ∷ []) $ fsplit ! $ move ! (1 ∷ []) $ fsplit ! $ move ! (1 ∷ []) $ fsplit ! $
        rewrite ! 0 (λ (r : ℕ × List ℕ). ‵ (run B r.0 r.1)) {x = (seen, xs)} {y = (s.seen, drop_list s.seen s.sent)} (λ i. (sym es i, pending_is have xs s.sent seen s.seen lh es whole i)) refl $
        move ! (1 ∷ []) $ fsplit3 ! $
        rewrite ! 1 (λ (F : Fml). ‵ F) {x = where_gone (gone s.reader_stage) (blanks w p z s.head (top - s.head))} {y = where_gone (gone s.reader_stage) (blanks w p z s.head (s.seen - s.head))} (not_gone 𝓛 w p z s.reader_stage _ _ (omega arith)) refl $
        rewrite ! 2 (λ (F : Fml). ‵ (fsep F (deeds w p z s))) {x = where_gone (gone s.writer_stage) (blanks w p z top (full - top))} {y = where_gone (gone s.writer_stage) (blanks w p z top (s.limit - top))} (not_gone 𝓛 w p z s.writer_stage _ _ (omega arith)) refl $
        fpick ! (λ ys. fsplit ! $ fpick ! (λ ly. forget ! $ rewrite ! 0 (λ (m : ℕ). ‵ (run B m ys)) (sym el) refl $
        nothing ! $ rewrite ! 0 (λ (l : List ℕ). ‵ (run B top l)) {x = drop_list top s.sent} {y = []} (sym (drop-length s.sent)) refl $
        nothing ! $ nothing ! $ fpack ! (length {A = ℕ} [] ≡ full - full) (λ _. ftrue) (omega arith) $ fjoin ! $ fpack ! (List ℕ) (idle w p z full (full - full)) [] $
        move ! (0 ∷ 3 ∷ 4 ∷ []) $ fjoin3 ! $ move ! (1 ∷ 0 ∷ []) $ fjoin ! $ move ! (3 ∷ 0 ∷ []) $ fjoin ! $ move ! (3 ∷ 0 ∷ []) $ fjoin ! $ move ! (5 ∷ 3 ∷ 0 ∷ []) $ use3 𝓛 (‵ I) (closes 𝓛 w p z s' so' near) $ frame ! $
        show ! Joined (xs, ys) $ check ! (whole ∙ sym so.1, omega arith, subst (λ (a : Stream). Reaches heard a) (λ j. (sym so.1 j, sym so.3 j)) ht, omega arith) $ move ! (1 ∷ 0 ∷ []) $ done !)))))))))
