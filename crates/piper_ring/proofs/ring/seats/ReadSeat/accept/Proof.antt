-- `accept` is no step of the program. Assumes `Logic`.
use Rattle.piper_ring.proofs.Kit.{◌≡◌, ℕ, ◌+◌, ◌≤◌, List, [], ◌∷◌, ◌++◌, length, sym, refl, named, Val, vptr, vunit, SProp, emp, full_share, Fml, ftrue, flft, ‵, raw, ◌⊛◌, some, later, await, pick, given, ◌$◌, ◌∵◌, !, qed, by, move, keep, drop, split, split3, join, fsplit, fsplit3, fjoin, fjoin3, fpick, fpack, learn, use0, use1, use2, rewrite, feq_i, of_opd, unit_lit, returns, enter, alloc_all, pass_all, free_all, look_at, sets, env, fact, fact_i, tables, RattleType, owns, types_at, plain, Ptr, Is, shows, cell_at, mut_vals, mut_Tells, nothing, peeks, opens, closes, Stays, stay_ref, walk_of, Goes-ref, run, proved, leaves, run_join, byte, Names, half, flag, common, reader_knows, fhide, RefOf, hidden_shr, unhide, shr_vals, shr_Tells, lent_out, stay_dropped, Goes-dropped, yes, announced, began, pointer_val, PointerData, pointer_told, pointer_made, GhostData, ghost_coded}
use Rattle.piper_ring.specs.Places as P
use Rattle.piper_ring.specs.Stretches.{ReadGains}
use Rattle.piper_ring.proofs.Rights.{common_twice}
use Rattle.piper_ring.proofs.Meet.{Gained, accepts}
use Rattle.piper_ring.specs.contracts.ring.places.Places as Places
use Rattle.piper_ring.specs.contracts.ring.marks.WriteMark as Mark
use Rattle.piper_ring.specs.contracts.ring.seats.ReadSeat as Own
use Rattle.piper_ring.proofs.ring.seats.ReadSeat.accept as own

pub accept_spec : {M : Type 1} → own.Statement.statement M
accept_spec 𝓤 𝓛 𝓜 𝓡 wired =
    let H = 𝓛.H in let 𝓣 = tables 𝓤 H 𝓜 𝓡 𝓡.env in let En = Own.accept.ended in let fn = own.Code.function in let c = Own.accept.clauses 𝓛 𝓜.mem 𝓡.returns in
    let Row : RattleType = Own.the_row in let self = plain (λ _. Row) in let KRow : RattleType = Places.the_row in let known = plain (λ _. KRow) in
    let observed = RefOf (2 ∷ []) tt (plain (λ _. Mark.the_row)) (λ _. tt) in let hs : Stays En.signature.params En.kept = (stay_ref (0 ∷ []) tt self, (stay_ref (1 ∷ []) tt known, (stay_dropped observed yes, tt))) in
    proved 𝓛 En hs c 𝓜 𝓡 (Goes-ref 𝓛 3 0 tt self, (Goes-ref 𝓛 3 1 tt known, (Goes-dropped 𝓛 3 observed yes (λ κs x f. refl), tt))) Own.accept.Key.name fn (own.Code.unfolded 𝓤 H 𝓜 𝓡 wired)
    (λ κs. (mut_vals, (mut_vals, (shr_vals, tt)))) (λ κs. (mut_Tells (named 0) κs.0 Row, (mut_Tells (named 1) κs.1.0 KRow, (shr_Tells (named 2) κs.1.1.0 Mark.the_row, tt)))) (λ κs qs bounds a gh are.
    let b : ℕ = a.0.ref_ptr.0 in let o : ℕ = a.0.ref_ptr.1 in let h = a.0.now in let b' : ℕ = a.1.0.ref_ptr.0 in let o' : ℕ = a.1.0.ref_ptr.1 in let k = a.1.0.now in let t = a.1.1.0.now in let b2 : ℕ = a.1.1.0.ref_ptr.0 in let o2 : ℕ = a.1.1.0.ref_ptr.1 in let w : Ptr = h.words in let p : Ptr = h.at in let z : Names = h.names in
    let us : List Val = pointer_val w ∷ [] in let Data : Fml = PointerData.own_val (w, tt) us in let C : Fml = common w p z in let RK' : Fml = reader_knows w p z half h.head (length t.bytes) (flag h.leaving) in let Hv : List ℕ → Fml = began z in let B = byte p z.capacity in
    let y : (walk_of 𝓛 En hs c).Ghost = ((κs, qs, bounds, a, (vptr b o ∷ [], (vptr b' o' ∷ [], (vptr b2 o2 ∷ [], tt)))), gh) in let Post : Val → SProp 𝓤 = (walk_of 𝓛 En hs c).post y in
    let Asked : Type 0 = (k.at ≡ p) × (k.capacity ≡ z.capacity) × (k.first + length k.bytes ≡ h.seen) × (t.names ≡ z) × (h.seen ≤ length t.bytes) in
    qed 𝓛 (((‵ (flft κs.0 qs.0) ⊛ ‵ (flft κs.1.0 qs.1.0) ⊛ ‵ (flft κs.1.1.0 qs.1.1.0) ⊛ ‵ ftrue) ⊛ ‵ (owns (types_at En.signature.params κs) a y.0.4)) ∷ given Asked (‵ ftrue) ∷ []) ∵
    keep ! (1 ∷ 0 ∷ []) $ learn ! (λ asked. drop ! $ split ! $ split3 ! $ move ! (2 ∷ []) $ split ! $ move ! (4 ∷ []) $ fsplit3 ! $ move ! (2 ∷ []) $ fsplit ! $ fsplit ! $ drop ! $
    use1 𝓛 (‵ (hidden_shr GhostData κs.1.1.0 (record {}, tt) b2 o2) ⊛ ‵ (fhide (announced t.names t.bytes t.shut))) (lent_out 𝓛 Mark.struct (Mark.the_codes ghost_coded) Mark.the_heap Mark.the_lent κs.1.1.0 t b2 o2) $
    split ! $ drop ! $ unhide ! $ rewrite ! 0 (λ (n : Names). ‵ (announced n t.bytes t.shut)) asked.3 refl $ move ! (2 ∷ []) $ fsplit3 ! $ move ! (5 ∷ []) $ fsplit3 ! $ keep ! (1 ∷ 2 ∷ 11 ∷ 4 ∷ 5 ∷ 10 ∷ 6 ∷ 8 ∷ []) $
    enter ! 𝓣.C 𝓣.Λ fn (vptr b o ∷ vptr b' o' ∷ vptr b2 o2 ∷ []) Post $ alloc_all ! (λ l. pass_all ! refl ((tt, tt), ((tt, tt), ((tt, tt), tt))) $ let Ev = env fn.locals l in
    opens ! tt KRow b' o' (λ vs'. move ! (1 ∷ []) $ fsplit ! $ move ! (6 ∷ 7 ∷ 8 ∷ []) $
    opens ! tt Row b o (λ vs. move ! (1 ∷ []) $ fsplit ! $ peeks ! PointerData (Is PointerData) (shows 𝓛 PointerData) (w, tt) vs (λ is-so. let ev : vs ≡ us = pointer_told w vs is-so in
    drop ! $ rewrite ! 1 (λ (ws : List Val). ‵ (cell_at full_share Row.mir ws b o)) ev refl $ fsplit3 ! $ use1 𝓛 (‵ C ⊛ ‵ C) (common_twice 𝓛 w p z) $ split ! $ move ! (3 ∷ []) $ fsplit ! $ fpick ! (λ lh. drop ! $ move ! (0 ∷ 14 ∷ []) $ join ! $ move ! (3 ∷ 0 ∷ []) $ join ! $ move ! (1 ∷ 0 ∷ []) $
    use2 𝓛 (later (some (λ (xs : List ℕ). given (Gained 𝓛 w p z h.head h.seen h.have t.bytes h.leaving t.shut xs) (‵ (run B h.seen xs) ⊛ ‵ RK' ⊛ ‵ (Hv t.bytes)))))
    (accepts 𝓛 w p z h.head h.seen h.have t.bytes h.leaving t.shut lh asked.4) $ await ! tt $ pick ! (λ xs. learn ! (λ saw. split3 ! $
    nothing ! $ fpack ! (length t.bytes ≡ length t.bytes) (λ _. ftrue) refl $ move ! (0 ∷ 3 ∷ []) $ fjoin ! $ move ! (3 ∷ 2 ∷ 0 ∷ []) $ fjoin3 ! $ move ! (1 ∷ []) $
    move ! (7 ∷ []) $ fsplit ! $ fpick ! (λ fine. drop ! $
    let h' : Row.Denot = record h { seen = length t.bytes; have = t.bytes } in let k' : KRow.Denot = record k { bytes = k.bytes ++ xs } in
    rewrite ! 1 (λ (r : Ptr × ℕ). ‵ (run (byte r.0 r.1) h.seen xs)) {x = (k.at, k.capacity)} {y = (p, z.capacity)} (λ i. (sym asked.0 i, sym asked.1 i)) refl $
    use2 𝓛 (‵ (run (byte k.at k.capacity) k.first (k.bytes ++ xs))) (run_join 𝓛 (byte k.at k.capacity) k.bytes xs k.first h.seen (sym asked.2)) $
    nothing ! $ fpack ! (P.Placed k.at k.capacity) (λ _. ftrue) fine $ fjoin ! $ move ! (6 ∷ 0 ∷ []) $ fjoin ! $ move ! (6 ∷ 0 ∷ 7 ∷ 8 ∷ 9 ∷ []) $ closes ! tt KRow k' vs' b' o' $ feq_i ! (List Val) (vptr b' o' ∷ []) (vptr b' o' ∷ []) refl $ fjoin3 ! $
    nothing ! $ nothing ! $ fjoin ! $ move ! (1 ∷ 0 ∷ []) $ fjoin ! $ move ! (2 ∷ 3 ∷ 4 ∷ 5 ∷ 6 ∷ []) $ use0 𝓛 (‵ Data) (pointer_made 𝓛 w) $ fjoin ! $ move ! (1 ∷ 0 ∷ []) $ closes ! tt Row h' us b o $ feq_i ! (List Val) (vptr b o ∷ []) (vptr b o ∷ []) refl $ fjoin3 ! $ sets ! (of_opd ! (unit_lit !)) refl (tt, tt) $
    move ! (0 ∷ 2 ∷ []) $ fjoin ! $ nothing ! $ move ! (4 ∷ 0 ∷ []) $ join ! $ move ! (3 ∷ 0 ∷ []) $ join ! $ move ! (2 ∷ 0 ∷ []) $ join ! $
    use0 𝓛 (raw (fact 𝓤 (ReadGains h h' k k' t.bytes))) (fact_i 𝓤 (ReadGains h h' k k' t.bytes) (emp 𝓤) (record { bytes = xs; places = refl; seat = (λ j. record h { seen = length t.bytes; have = sym saw.0 j }); seen = saw.1; whole = saw.0 })) $ feq_i ! (List Val) (vunit ∷ []) (vunit ∷ []) refl $
    returns ! (look_at ! 0 refl) $ free_all ! refl $ keep ! (2 ∷ 3 ∷ 0 ∷ 1 ∷ []) $ by ! (leaves 𝓛 En hs c y vunit tt (h', (k', (tt, tt))) (tt, (tt, (tt, tt))))))))))))))
