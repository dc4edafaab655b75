-- `store_closed` is one store. Assumes `Logic`.
use Rattle.piper_ring.proofs.Kit.{use3, lit<, ◌≡◌, ℕ, ◌+◌, true, List, [], ◌∷◌, refl, ap, w64, named, Val, vint, vptr, SProp, emp, full_share, Fml, ftrue, flft, ‵, raw, ◌⊛◌, mean, at_ret, ◌$◌, ◌∵◌, !, qed, by, move, keep, drop, split, join, fsplit, fsplit3, fjoin, fjoin3, fpick, fpack, use0, use1, rewrite, feq_i, stop, fld, load, lit, of_opd, bin, no_more, and_then, first, blocks, exec, Calls-last, returns, enter, alloc_all, pass_all, free_all, look_at, get, through, sets, lands_last, is, env, agg, sub, whole, look_in, fact, fact_i, tables, RattleType, owns, types_at, plain, Ptr, block_ptr, ptr_val, block_of, count_of, at_block, Is, shows, cell_at, mut_vals, mut_Tells, nothing, peeks, opens, closes, Stays, stay_ref, walk_of, Goes-ref, tail, asks, always, proved, leaves, seq_cst, fm, stored, has_stored, stores, Names, flag, RingIsPlaced, common, pointer_val, ghost_val, PointerData, GhostData, pointer_told, pointer_made, ghost_made, stored_closed, did, given, learn, split3}
use Rattle.piper_ring.specs.contracts.log.Log as Log
use Rattle.piper_ring.proofs.Rights.{common_twice}
use Rattle.piper_ring.proofs.Steps.{Closed, flag_small}
use Rattle.piper_ring.proofs.Leaving.{IsClosing, reader_closes}
use Rattle.piper_ring.specs.contracts.ring.seats.ReadSeat as Own
use Rattle.piper_ring.proofs.ring.seats.ReadSeat.store_closed as own

pub store_closed_spec : {M : Type 1} → own.Statement.statement M
store_closed_spec 𝓤 𝓛 𝓜 𝓡 wired =
    let H = 𝓛.H in let 𝓣 = tables 𝓤 H 𝓜 𝓡 𝓡.env in let En = Own.store_closed.ended in let fn = own.Code.function in let c = Own.store_closed.clauses 𝓛 𝓜.mem 𝓡.returns in
    let Row : RattleType = Own.the_row in let self = plain (λ _. Row) in
    let TRow : RattleType = Log.the_row in let noting = plain (λ _. TRow) in
    let hs : Stays En.signature.params En.kept = (stay_ref (0 ∷ []) tt self, (stay_ref (1 ∷ []) tt noting, tt)) in
    proved 𝓛 En hs c 𝓜 𝓡 (Goes-ref 𝓛 2 0 tt self, (Goes-ref 𝓛 2 1 tt noting, tt)) Own.store_closed.Key.name fn (own.Code.unfolded 𝓤 H 𝓜 𝓡 wired)
    (λ κs. (mut_vals, (mut_vals, tt))) (λ κs. (mut_Tells (named 0) κs.0 Row, (mut_Tells (named 1) κs.1.0 TRow, tt))) (λ κs qs bounds a gh are.
    let b : ℕ = a.0.ref_ptr.0 in let o : ℕ = a.0.ref_ptr.1 in let h = a.0.now in let w : Ptr = h.words in let p : Ptr = h.at in let z : Names = h.names in let b' : ℕ = a.1.0.ref_ptr.0 in let o' : ℕ = a.1.0.ref_ptr.1 in let t = a.1.0.now in
    let bw : ℕ = block_of w in let e : ℕ = 136 + count_of w in let us : List Val = pointer_val w ∷ [] in let C : Fml = common w p z in
    let Then : Fml = Closed 𝓛 w p z t (IsClosing 𝓛 w p z h.head h.seen) 0 in let Step : SProp 𝓤 = asks 𝓛 (block_ptr bw e) (λ _. 1) always (λ _. Then) in let h' : Row.Denot = record h { leaving = true } in let t' : TRow.Denot = did stored_closed t in
    let Data : Fml = PointerData.own_val (w, tt) us in
    let y : (walk_of 𝓛 En hs c).Ghost = ((κs, qs, bounds, a, (vptr b o ∷ [], (vptr b' o' ∷ [], tt))), gh) in let Post : Val → SProp 𝓤 = (walk_of 𝓛 En hs c).post y in
    let Logged : Type 0 = (t.keeps ≡ true) × (t.names ≡ z) × (t.reads ≡ true) in
    qed 𝓛 (((‵ (flft κs.0 qs.0) ⊛ ‵ (flft κs.1.0 qs.1.0) ⊛ ‵ ftrue) ⊛ ‵ (owns (types_at En.signature.params κs) a y.0.4)) ∷ given Logged (‵ ftrue) ∷ []) ∵
    move ! (1 ∷ []) $ learn ! (λ logged. drop ! $ split ! $ split3 ! $ move ! (3 ∷ []) $ fsplit3 ! $ fsplit3 ! $ move ! (3 ∷ []) $ fsplit3 ! $ keep ! (4 ∷ 5 ∷ 7 ∷ 1 ∷ 2 ∷ 8 ∷ []) $
    enter ! 𝓣.C 𝓣.Λ fn (vptr b o ∷ vptr b' o' ∷ []) Post $ alloc_all ! (λ l. pass_all ! refl ((tt, tt), ((tt, tt), tt)) $ let Ev = env fn.locals l in
    move ! (3 ∷ 4 ∷ 5 ∷ []) $ opens ! tt TRow b' o' (λ vs'. move ! (1 ∷ []) $ fsplit ! $ move ! (6 ∷ 7 ∷ 8 ∷ []) $
    opens ! tt Row b o (λ vs. move ! (1 ∷ []) $ fsplit ! $ peeks ! PointerData (Is PointerData) (shows 𝓛 PointerData) (w, tt) vs (λ is-so. let ev : vs ≡ us = pointer_told w vs is-so in
    drop ! $ rewrite ! 1 (λ (ws : List Val). ‵ (cell_at full_share Row.mir ws b o)) ev refl $ fsplit ! $ fsplit ! $ fpick ! (λ at. drop ! $ nothing ! $ fpack ! (RingIsPlaced w p z) (λ _. ftrue) at $ fjoin ! $ move ! (1 ∷ []) $ fsplit ! $ move ! (2 ∷ []) $
    use1 𝓛 (‵ C ⊛ ‵ C) (common_twice 𝓛 w p z) $ split ! $ let isw : w ≡ block_ptr bw (count_of w) = at_block w at.0 in
    move ! (0 ∷ 2 ∷ 9 ∷ []) $ use3 𝓛 (raw Step) (reader_closes 𝓛 w p z h.head h.seen (flag h.leaving) (flag_small h.leaving) t logged.0 logged.1) $ first ! $ blocks ! $
    sets ! (is ! (of_opd ! (load ! (through ! refl (fld ! refl (stop !))) (look_in ! 3 (sub ! 0 refl (whole !))))) (ap ptr_val isw)) refl (tt, tt) $
    sets ! (bin ! (get ! refl) (lit ! tt) tt) refl (tt, tt) $
    use1 𝓛 (raw (𝓣.C _ (vptr bw e ∷ vint w64 1 ∷ seq_cst ∷ []) (λ u. mean 𝓛 (stored Then u))))
    (stores 𝓛 𝓜 𝓡 (own.Code.calls-core::raw_atomic::store 𝓡.env wired) (block_ptr bw e) 1 (lit< tt) Then) $
    sets ! (agg ! (and_then ! (lit ! tt) (no_more !))) refl (tt, (record { fits = lit< tt }, tt)) $
    Calls-last ! (fm 𝓛 𝓜 𝓡) (stored Then) (and_then ! (get ! refl) (and_then ! (lit ! tt) (and_then ! (get ! refl) (no_more !)))) (λ u. has_stored ! Then (
    lands_last ! refl (tt, tt) $ exec ! 𝓣.C 𝓣.Λ Ev (tail fn.body) (at_ret Ev Post) $
    sets ! (agg ! (no_more !)) refl (tt, tt) $ sets ! (agg ! (and_then ! (get ! refl) (no_more !))) refl (tt, (tt, tt)) $
    fpick ! (λ before. fsplit ! $ fsplit ! $
    move ! (9 ∷ 2 ∷ []) $ fjoin ! $ move ! (9 ∷ 0 ∷ 10 ∷ 11 ∷ 12 ∷ []) $ closes ! tt TRow t' vs' b' o' $ feq_i ! (List Val) (vptr b' o' ∷ []) (vptr b' o' ∷ []) refl $ fjoin3 ! $
    move ! (3 ∷ 5 ∷ []) $ fjoin ! $ move ! (4 ∷ 0 ∷ []) $ fjoin ! $ use0 𝓛 (‵ Data) (pointer_made 𝓛 w) $ fjoin ! $ move ! (4 ∷ 0 ∷ 5 ∷ 6 ∷ 7 ∷ []) $ closes ! tt Row h' us b o $ feq_i ! (List Val) (vptr b o ∷ []) (vptr b o ∷ []) refl $ fjoin3 ! $
    nothing ! $ move ! (3 ∷ 0 ∷ []) $ fjoin ! $ move ! (1 ∷ 0 ∷ []) $ fjoin ! $ nothing ! $ move ! (3 ∷ 0 ∷ []) $ join ! $ move ! (2 ∷ 0 ∷ []) $ join ! $
    use0 𝓛 (raw (fact 𝓤 (t' ≡ t'))) (fact_i 𝓤 (t' ≡ t') (emp 𝓤) refl) $ let Told : Type 0 = (z ≡ z) × (true ≡ true) in use0 𝓛 (raw (fact 𝓤 Told)) (fact_i 𝓤 Told (emp 𝓤) (refl, refl)) $ join ! $ use0 𝓛 (raw (fact 𝓤 (h' ≡ h'))) (fact_i 𝓤 (h' ≡ h') (emp 𝓤) refl) $ join ! $
    use0 𝓛 (‵ (GhostData.own_val (record {}, tt) (ghost_val ∷ []))) (ghost_made 𝓛) $ move ! (0 ∷ 4 ∷ []) $ fjoin ! $
    returns ! (look_at ! 0 refl) $ free_all ! refl $ keep ! (2 ∷ 3 ∷ 0 ∷ 1 ∷ []) $ by ! (leaves 𝓛 En hs c y ghost_val (record { mark = record {}; names = z; seen = true }) (h', (t', tt)) (tt, (tt, tt)))))))))))))
