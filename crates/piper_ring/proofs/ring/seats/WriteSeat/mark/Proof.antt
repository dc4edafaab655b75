-- `mark` copies evidence out of a share of what the writer knows. Assumes `Logic`.
use Rattle.piper_ring.proofs.Kit.{◌≡◌, ℕ, [], ◌∷◌, refl, named, Val, vptr, SProp, emp, Share, ftrue, flft, fhide, ‵, raw, ◌⊛◌, ◌$◌, ◌∵◌, !, qed, by, move, keep, drop, split, join, fsplit, fsplit3, fjoin, fjoin3, use0, use1, no_more, and_then, returns, enter, alloc_all, pass_all, free_all, look_at, get, sets, env, agg, shr_bor-open, obor_close, fact, fact_i, tables, yes, owns, types_at, plain, Ptr, RefOf, shr_vals, shr_Tells, hidden_shr, unhide, nothing, lent_out, Stays, stay_dropped, walk_of, Goes-dropped, proved, leaves, Names, announced, writer_lends, Stream, streams, reaches_same, latest, latest_shows, PointerData, ghost_val, GhostData, ghost_made}
use Rattle.piper_ring.proofs.Rights.{writer_halves}
use Rattle.piper_ring.specs.contracts.ring.seats.WriteSeat as Seat
use Rattle.piper_ring.proofs.ring.seats.WriteSeat.mark as own

pub mark_spec : {M : Type 1} → own.Statement.statement M
mark_spec 𝓤 𝓛 𝓜 𝓡 wired =
    let H = 𝓛.H in let 𝓣 = tables 𝓤 H 𝓜 𝓡 𝓡.env in let En = Seat.mark.ended in let fn = own.Code.function in let c = Seat.mark.clauses 𝓛 𝓜.mem 𝓡.returns in
    let self = RefOf (0 ∷ []) tt (plain (λ _. Seat.the_row)) (λ _. tt) in
    let hs : Stays En.signature.params En.kept = (stay_dropped self yes, tt) in
    proved 𝓛 En hs c 𝓜 𝓡 (Goes-dropped 𝓛 1 self yes (λ κs x f. refl), tt) Seat.mark.Key.name fn (own.Code.unfolded 𝓤 H 𝓜 𝓡 wired)
    (λ κs. (shr_vals, tt)) (λ κs. (shr_Tells (named 0) κs.0 Seat.the_row, tt)) (λ κs qs bounds a gh are.
    let b : ℕ = a.0.ref_ptr.0 in let o : ℕ = a.0.ref_ptr.1 in let h = a.0.now in let w : Ptr = h.words in let p : Ptr = h.at in let z : Names = h.names in let κ = κs.0 in let q : Share = qs.0 in
    let y : (walk_of 𝓛 En hs c).Ghost = ((κs, qs, bounds, a, (vptr b o ∷ [], tt)), gh) in let Post : Val → SProp 𝓤 = (walk_of 𝓛 En hs c).post y in let all : Stream = (h.sent, h.shut) in
    qed 𝓛 (((‵ (flft κ q) ⊛ ‵ ftrue) ⊛ ‵ (owns (types_at En.signature.params κs) a y.0.4)) ∷ ‵ ftrue ∷ []) ∵
    split ! $ split ! $ move ! (2 ∷ []) $ fsplit ! $ fsplit ! $ drop ! $
    use1 𝓛 (‵ (hidden_shr PointerData κ (w, tt) b o) ⊛ ‵ (fhide (writer_lends w p z h.sent h.limit h.shut κ))) (lent_out 𝓛 Seat.struct Seat.the_codes Seat.the_heap Seat.the_lent κ h b o) $
    split ! $ drop ! $ unhide ! $ fsplit ! $ drop ! $ keep ! (0 ∷ 2 ∷ []) $
    enter ! 𝓣.C 𝓣.Λ fn (vptr b o ∷ []) Post $ alloc_all ! (λ l. pass_all ! refl ((tt, tt), tt) $ let Ev = env fn.locals l in
    shr_bor-open ! tt (writer_halves 𝓛 w p z h.sent h.limit h.shut 0) (λ s. move ! (1 ∷ []) $ fsplit3 ! $ use1 𝓛 (‵ (latest streams s z.sent all) ⊛ ‵ (announced z h.sent h.shut)) (latest_shows streams 𝓛 s z.sent all all (reaches_same all)) $ split ! $
    move ! (0 ∷ 2 ∷ 3 ∷ []) $ fjoin3 ! $ move ! (2 ∷ 0 ∷ []) $ obor_close ! tt $ drop ! $ nothing ! $ move ! (1 ∷ 0 ∷ []) $ join ! $ move ! (1 ∷ []) $
    sets ! (agg ! (no_more !)) refl (tt, tt) $ sets ! (agg ! (and_then ! (get ! refl) (no_more !))) refl (tt, (tt, tt)) $
    use0 𝓛 (‵ (GhostData.own_val (record {}, tt) (ghost_val ∷ []))) (ghost_made 𝓛) $ fjoin ! $
    let Told : Type 0 = (z ≡ z) × (h.sent ≡ h.sent) × (h.shut ≡ h.shut) in use0 𝓛 (raw (fact 𝓤 Told)) (fact_i 𝓤 Told (emp 𝓤) (refl, refl, refl)) $ nothing ! $ nothing ! $ fjoin ! $
    returns ! (look_at ! 0 refl) $ free_all ! refl $ keep ! (3 ∷ 0 ∷ 2 ∷ 1 ∷ []) $ by ! (leaves 𝓛 En hs c y ghost_val (record { mark = record {}; names = z; bytes = h.sent; shut = h.shut }) (tt, tt) (tt, tt)))))
