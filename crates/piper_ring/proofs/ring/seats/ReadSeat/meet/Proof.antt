-- `meet` is no step of the program. Assumes `Logic`.
use Rattle.piper_ring.proofs.Kit.{◌≤◌, false, ◌≡◌, ℕ, ◌+◌, List, [], ◌∷◌, ◌++◌, length, sym, refl, named, Val, vptr, SProp, emp, Fml, ftrue, flft, fhide, yes, RefOf, shr_vals, shr_Tells, hidden_shr, unhide, lent_out, Reaches, ‵, raw, ◌⊛◌, given, ◌$◌, ◌∵◌, !, qed, by, move, keep, drop, split, split3, join, fsplit, fsplit3, fjoin, fjoin3, fpick, fpack, learn, use0, use1, use2, use3, rewrite, feq_i, no_more, and_then, returns, enter, alloc_all, pass_all, free_all, look_at, get, sets, env, agg, fact, fact_i, some, later, await, pick, tables, RattleType, owns, types_at, plain, Ptr, mut_vals, mut_Tells, nothing, opens, closes, Stays, stay_ref, stay_dropped, walk_of, Goes-ref, Goes-dropped, run, proved, leaves, byte, flag, raised, announced, began, Names, RingIsPlaced, half, common, reader_knows, writer_knows, writer_owns, pair_val, pair_of, GhostData, ghost_val, ghost_made, ghost_coded}
use Rattle.piper_ring.specs.contracts.ring.marks.ClosedMark as Seen
use Rattle.piper_ring.specs.contracts.ring.marks.WriteMark as Mark
use Rattle.piper_ring.specs.Places as P
use Rattle.piper_ring.specs.Stretches.{AreOfOneRing}
use Rattle.piper_ring.proofs.Meet.{Apart, joins}
use Rattle.piper_ring.proofs.Block.{placed_bytes}
use Rattle.piper_ring.proofs.Rights.{common_twice}
use Rattle.piper_ring.specs.contracts.ring.places.Places as Places
use Rattle.piper_ring.specs.contracts.ring.seats.ReadSeat as Reads
use Rattle.piper_ring.specs.contracts.ring.seats.WriteSeat as Writes
use Rattle.piper_ring.proofs.ring.seats.ReadSeat.meet as own

pub meet_spec : {M : Type 1} → own.Statement.statement M
meet_spec 𝓤 𝓛 𝓜 𝓡 wired =
    let H = 𝓛.H in let 𝓣 = tables 𝓤 H 𝓜 𝓡 𝓡.env in let En = Reads.meet.ended in let fn = own.Code.function in let c = Reads.meet.clauses 𝓛 𝓜.mem 𝓡.returns in
    let Row : RattleType = Reads.the_row in let self = plain (λ _. Row) in let WRow : RattleType = Writes.the_row in let writes = plain (λ _. WRow) in let KRow : RattleType = Places.the_row in
    let heard = RefOf (2 ∷ []) tt (plain (λ _. Mark.the_row)) (λ _. tt) in let two_saw = RefOf (3 ∷ []) tt (plain (λ _. Seen.the_row)) (λ _. tt) in
    let hs : Stays En.signature.params En.kept = (stay_ref (0 ∷ []) tt self, (stay_ref (1 ∷ []) tt writes, (stay_dropped heard yes, (stay_dropped two_saw yes, tt)))) in
    proved 𝓛 En hs c 𝓜 𝓡 (Goes-ref 𝓛 4 0 tt self, (Goes-ref 𝓛 4 1 tt writes, (Goes-dropped 𝓛 4 heard yes (λ κs x f. refl), (Goes-dropped 𝓛 4 two_saw yes (λ κs x f. refl), tt)))) Reads.meet.Key.name fn (own.Code.unfolded 𝓤 H 𝓜 𝓡 wired)
    (λ κs. (mut_vals, (mut_vals, (shr_vals, (shr_vals, tt))))) (λ κs. (mut_Tells (named 0) κs.0 Row, (mut_Tells (named 1) κs.1.0 WRow, (shr_Tells (named 2) κs.1.1.0 Mark.the_row, (shr_Tells (named 3) κs.1.1.1.0 Seen.the_row, tt))))) (λ κs qs bounds a gh are.
    let b : ℕ = a.0.ref_ptr.0 in let o : ℕ = a.0.ref_ptr.1 in let h = a.0.now in let b' : ℕ = a.1.0.ref_ptr.0 in let o' : ℕ = a.1.0.ref_ptr.1 in let k = a.1.0.now in let u = a.1.1.0.now in let v = a.1.1.1.0.now in let b2 : ℕ = a.1.1.0.ref_ptr.0 in let o2 : ℕ = a.1.1.0.ref_ptr.1 in let b3 : ℕ = a.1.1.1.0.ref_ptr.0 in let o3 : ℕ = a.1.1.1.0.ref_ptr.1 in let w : Ptr = h.words in let p : Ptr = h.at in let z : Names = h.names in
    let C : Fml = common w p z in let RK : Fml = reader_knows w p z half h.head h.seen (flag h.leaving) in let Hv : List ℕ → Fml = began z in let B = byte p z.capacity in let full : ℕ = h.head + z.capacity in let RK' : Fml = reader_knows w p z half h.head (length k.sent) (flag h.leaving) in let WK' : Fml = writer_knows w p z half k.sent full k.shut 0 in
    let h' : Row.Denot = record h { seen = length k.sent; have = k.sent } in let k' : WRow.Denot = record k { limit = full } in let Data : Fml = GhostData.own_val (record {}, tt) (ghost_val ∷ []) in
    let y : (walk_of 𝓛 En hs c).Ghost = ((κs, qs, bounds, a, (vptr b o ∷ [], (vptr b' o' ∷ [], (vptr b2 o2 ∷ [], (vptr b3 o3 ∷ [], tt))))), gh) in let Post : Val → SProp 𝓤 = (walk_of 𝓛 En hs c).post y in
    let Asked : Type 0 = AreOfOneRing h k × (u.names ≡ z) × (v.names ≡ z) × (h.leaving ≡ false) in
    qed 𝓛 (((‵ (flft κs.0 qs.0) ⊛ ‵ (flft κs.1.0 qs.1.0) ⊛ ‵ (flft κs.1.1.0 qs.1.1.0) ⊛ ‵ (flft κs.1.1.1.0 qs.1.1.1.0) ⊛ ‵ ftrue) ⊛ ‵ (owns (types_at En.signature.params κs) a y.0.4)) ∷ given Asked (‵ ftrue) ∷ []) ∵
    keep ! (1 ∷ 0 ∷ []) $ learn ! (λ asked. drop ! $ split ! $ split3 ! $ move ! (2 ∷ []) $ split3 ! $ move ! (5 ∷ []) $ fsplit3 ! $ move ! (2 ∷ []) $ fsplit3 ! $ fsplit ! $ drop ! $
    use1 𝓛 (‵ (hidden_shr GhostData κs.1.1.0 (record {}, tt) b2 o2) ⊛ ‵ (fhide (announced u.names u.bytes u.shut))) (lent_out 𝓛 Mark.struct (Mark.the_codes ghost_coded) Mark.the_heap Mark.the_lent κs.1.1.0 u b2 o2) $
    split ! $ drop ! $ unhide ! $ rewrite ! 0 (λ (n : Names). ‵ (announced n u.bytes u.shut)) asked.1 refl $ move ! (1 ∷ []) $ fsplit ! $ drop ! $
    use1 𝓛 (‵ (hidden_shr GhostData κs.1.1.1.0 (record {}, tt) b3 o3) ⊛ ‵ (fhide (raised v.names.closed v.seen))) (lent_out 𝓛 Seen.struct (Seen.the_codes ghost_coded) Seen.the_heap Seen.the_lent κs.1.1.1.0 v b3 o3) $
    split ! $ drop ! $ unhide ! $ rewrite ! 0 (λ (n : Names). ‵ (raised n.closed v.seen)) asked.2 refl $
    move ! (3 ∷ []) $ fsplit3 ! $ move ! (6 ∷ []) $ fsplit3 ! $ keep ! (1 ∷ 2 ∷ 13 ∷ 4 ∷ 5 ∷ 12 ∷ 7 ∷ 6 ∷ 9 ∷ 10 ∷ []) $
    enter ! 𝓣.C 𝓣.Λ fn (vptr b o ∷ vptr b' o' ∷ vptr b2 o2 ∷ vptr b3 o3 ∷ []) Post $ alloc_all ! (λ l. pass_all ! refl ((tt, tt), ((tt, tt), ((tt, tt), ((tt, tt), tt)))) $ let Ev = env fn.locals l in
    opens ! tt WRow b' o' (λ vs'. move ! (1 ∷ []) $ fsplit ! $ move ! (6 ∷ 7 ∷ 8 ∷ []) $
    opens ! tt Row b o (λ vs. move ! (1 ∷ []) $ fsplit ! $ move ! (7 ∷ []) $
    rewrite ! 0 (λ (r : Ptr × Ptr × Names). ‵ (writer_owns r.0 r.1 r.2 k.sent k.limit k.shut)) {x = (w, p, z)} {y = (k.words, k.at, k.names)} (λ i. (asked.0.words i, asked.0.memory i, asked.0.names i)) refl $
    fsplit ! $ fsplit ! $ fpick ! (λ at. drop ! $ nothing ! $ fpack ! (RingIsPlaced w p z) (λ _. ftrue) at $ fjoin ! $ move ! (3 ∷ []) $ fsplit3 ! $ move ! (2 ∷ []) $ fsplit ! $ fpick ! (λ lh. drop ! $
    move ! (1 ∷ []) $ use1 𝓛 (‵ C ⊛ ‵ C) (common_twice 𝓛 w p z) $ split ! $ move ! (16 ∷ 17 ∷ []) $ join ! $ move ! (6 ∷ 0 ∷ []) $ join ! $ move ! (3 ∷ 0 ∷ []) $ join ! $ move ! (1 ∷ 3 ∷ 0 ∷ []) $
    use3 𝓛 (later (some (λ (r : List ℕ × List ℕ). given (Apart 𝓛 w p z h.head h.seen k.sent k.limit k.shut h.leaving h.have (u.bytes, u.shut) v.seen r) (‵ (run B h.seen r.0) ⊛ ‵ (run B k.limit r.1) ⊛ ‵ RK' ⊛ ‵ WK' ⊛ ‵ (Hv k.sent)))))
    (joins 𝓛 w p z h.head h.seen k.sent k.limit k.shut h.leaving h.have (u.bytes, u.shut) v.seen lh asked.3) $ await ! tt $ pick ! (λ r. learn ! (λ apart. split3 ! $ move ! (2 ∷ []) $ split3 ! $
    nothing ! $ fpack ! (length k.sent ≡ length k.sent) (λ _. ftrue) refl $ move ! (0 ∷ 3 ∷ []) $ fjoin ! $ move ! (5 ∷ 1 ∷ 0 ∷ []) $ fjoin3 ! $ move ! (5 ∷ 0 ∷ []) $ fjoin ! $
    move ! (5 ∷ 0 ∷ 6 ∷ 7 ∷ 8 ∷ []) $ closes ! tt Row h' vs b o $ feq_i ! (List Val) (vptr b o ∷ []) (vptr b o ∷ []) refl $ fjoin3 ! $ move ! (5 ∷ 2 ∷ []) $ fjoin ! $
    rewrite ! 0 (λ (r : Ptr × Ptr × Names). ‵ (writer_owns r.0 r.1 r.2 k.sent full k.shut)) {x = (k.words, k.at, k.names)} {y = (w, p, z)} (λ i. (sym asked.0.words i, sym asked.0.memory i, sym asked.0.names i)) refl $ move ! (5 ∷ 0 ∷ []) $ fjoin ! $
    move ! (5 ∷ 0 ∷ 6 ∷ 7 ∷ 8 ∷ []) $ closes ! tt WRow k' vs' b' o' $ feq_i ! (List Val) (vptr b' o' ∷ []) (vptr b' o' ∷ []) refl $ fjoin3 ! $
    nothing ! $ nothing ! $ fjoin ! $ nothing ! $ fjoin ! $ move ! (1 ∷ 0 ∷ []) $ fjoin ! $ move ! (2 ∷ 0 ∷ []) $ fjoin ! $ nothing ! $ move ! (7 ∷ 0 ∷ []) $ join ! $ move ! (6 ∷ 0 ∷ []) $ join ! $ move ! (2 ∷ 0 ∷ []) $ join ! $ move ! (2 ∷ 0 ∷ []) $ join ! $
    let one : KRow.Denot = record { mark = record {}; at = p; capacity = z.capacity; first = h.seen; bytes = r.0 } in let two : KRow.Denot = record { mark = record {}; at = p; capacity = z.capacity; first = k.limit; bytes = r.1 } in
    move ! (2 ∷ []) $ nothing ! $ fpack ! (P.Placed p z.capacity) (λ _. ftrue) (placed_bytes w p z at) $ fjoin ! $ use0 𝓛 (‵ Data) (ghost_made 𝓛) $ fjoin ! $
    move ! (3 ∷ []) $ nothing ! $ fpack ! (P.Placed p z.capacity) (λ _. ftrue) (placed_bytes w p z at) $ fjoin ! $ use0 𝓛 (‵ Data) (ghost_made 𝓛) $ fjoin ! $ move ! (1 ∷ 0 ∷ []) $
    use2 𝓛 (‵ ((denote.Struct.Tuple.Tuple (KRow ∷ KRow ∷ [])).own_val (one, two) (pair_val ghost_val ghost_val ∷ []))) (pair_of 𝓛 KRow KRow one two ghost_val ghost_val) $
    sets ! (agg ! (no_more !)) refl (tt, tt) $ sets ! (agg ! (and_then ! (get ! refl) (no_more !))) refl (tt, (tt, tt)) $
    sets ! (agg ! (no_more !)) refl (tt, tt) $ sets ! (agg ! (and_then ! (get ! refl) (no_more !))) refl (tt, (tt, tt)) $
    sets ! (agg ! (and_then ! (get ! refl) (and_then ! (get ! refl) (no_more !)))) refl (tt, ((tt, tt), ((tt, tt), tt))) $
    use0 𝓛 (raw (fact 𝓤 (flag v.seen ≤ flag k.shut))) (fact_i 𝓤 (flag v.seen ≤ flag k.shut) (emp 𝓤) apart.3) $
    let Heard : Type 0 = Reaches (u.bytes, u.shut) (k.sent, k.shut) in use0 𝓛 (raw (fact 𝓤 Heard)) (fact_i 𝓤 Heard (emp 𝓤) apart.2) $ join ! $
    use0 𝓛 (raw (fact 𝓤 (k.limit + length r.1 ≡ full))) (fact_i 𝓤 (k.limit + length r.1 ≡ full) (emp 𝓤) apart.1) $ join ! $
    use0 𝓛 (raw (fact 𝓤 ((p ≡ p) × (z.capacity ≡ z.capacity) × (k.limit ≡ k.limit)))) (fact_i 𝓤 ((p ≡ p) × (z.capacity ≡ z.capacity) × (k.limit ≡ k.limit)) (emp 𝓤) (refl, refl, refl)) $ join ! $
    use0 𝓛 (raw (fact 𝓤 (h.have ++ r.0 ≡ k.sent))) (fact_i 𝓤 (h.have ++ r.0 ≡ k.sent) (emp 𝓤) apart.0) $ join ! $
    use0 𝓛 (raw (fact 𝓤 ((p ≡ p) × (z.capacity ≡ z.capacity) × (h.seen ≡ h.seen)))) (fact_i 𝓤 ((p ≡ p) × (z.capacity ≡ z.capacity) × (h.seen ≡ h.seen)) (emp 𝓤) (refl, refl, refl)) $ join ! $
    use0 𝓛 (raw (fact 𝓤 (k' ≡ k'))) (fact_i 𝓤 (k' ≡ k') (emp 𝓤) refl) $ join ! $ use0 𝓛 (raw (fact 𝓤 (h' ≡ h'))) (fact_i 𝓤 (h' ≡ h') (emp 𝓤) refl) $ join ! $
    returns ! (look_at ! 0 refl) $ free_all ! refl $ keep ! (2 ∷ 3 ∷ 1 ∷ 0 ∷ []) $ by ! (leaves 𝓛 En hs c y (pair_val ghost_val ghost_val) (one, two) (h', (k', (tt, (tt, tt)))) (tt, (tt, (tt, (tt, tt))))))))))))))
