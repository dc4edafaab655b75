-- `slice` shows the front of the places that a `&` lends. Assumes `Logic`.
use Rattle.piper_ring.proofs.Kit.{◌≡◌, ℕ, ◌+◌, ◌*◌, ◌^◌, ◌<◌, ◌≤◌, List, [], ◌∷◌, length, take, sym, refl, ap, ◌∙◌, arith, w64, named, Val, vint, vptr, SProp, emp, ftrue, flft, fhide, fat, full_share, ‵, raw, ◌⊛◌, given, at_ret, ◌$◌, ◌∵◌, !, qed, by, move, keep, drop, split, join, fsplit, fjoin, fpick, learn, use0, use1, rewrite, feq_i, flt_i, stop, fld, of_opd, and_then, no_more, bin, first, blocks, exec, returns, enter, alloc_all, pass_all, free_all, look_at, get, get_in, sets, sets_last, take_at, give_at, env, agg, sub, whole, fact, fact_i, tables, yes, owns, types_at, plain, Ptr, block_ptr, block_of, count_of, at_block, u8, usize, RefOf, uint_vals, uint_Tells, shr_vals, shr_Tells, hidden_shr, hide, unhide, nothing, lent_out, layout, word-Good, Stays, stay_dropped, walk_of, Goes-dropped, tail, proved, leaves, places_lent, slot_of as offset_of, GhostData, ghost_coded, slice_val, elements_shared}
use Rattle.std.proofs.Common.{length-take}
use Rattle.std_alloc.proofs.RcSteps.{word}
use Rattle.piper_ring.specs.contracts.ring.places.Places as Places
use Rattle.piper_ring.specs.contracts.ring.places.Base as Base
use Rattle.piper_ring.proofs.ring.places.Base.TheLaws.{lowers}
use Rattle.piper_ring.proofs.PlacesParts.{seen}
use Rattle.piper_ring.proofs.ring.places.Places.slice as own

pub slice_spec : {M : Type 1} → own.Statement.statement M
slice_spec 𝓤 𝓛 𝓜 𝓡 wired =
    let H = 𝓛.H in let 𝓣 = tables 𝓤 H 𝓜 𝓡 𝓡.env in let En = Places.slice.ended in let fn = own.Code.function in let c = Places.slice.clauses 𝓛 𝓜.mem 𝓡.returns in
    let self = RefOf (0 ∷ []) tt (plain (λ _. Places.the_row)) (λ _. tt) in
    let hs : Stays En.signature.params En.kept = (stay_dropped self yes, (stay_dropped (plain (λ _. Base.the_row)) yes, (stay_dropped (plain (λ _. usize)) yes, (stay_dropped (plain (λ _. usize)) yes, tt)))) in
    proved 𝓛 En hs c 𝓜 𝓡 (Goes-dropped 𝓛 1 self yes (λ κs x f. refl), (Goes-dropped 𝓛 1 (plain (λ _. Base.the_row)) yes (λ κs x f. refl), (Goes-dropped 𝓛 1 (plain (λ _. usize)) yes (λ κs x f. refl), (Goes-dropped 𝓛 1 (plain (λ _. usize)) yes (λ κs x f. refl), tt)))) Places.slice.Key.name fn (own.Code.unfolded 𝓤 H 𝓜 𝓡 wired)
    (λ κs. (shr_vals, ((λ d. lowers.lowered d ∷ []), (uint_vals w64, (uint_vals w64, tt))))) (λ κs. (shr_Tells (named 0) κs.0 Places.the_row, (lowers.val_is, (uint_Tells w64, (uint_Tells w64, tt))))) (λ κs qs bounds a gh are.
    let b : ℕ = a.0.ref_ptr.0 in let o : ℕ = a.0.ref_ptr.1 in let h = a.0.now in let at : Ptr = h.at in let κ = κs.0 in let base = a.1.0 in let from : ℕ = a.1.1.0 in let len : ℕ = a.1.1.1.0 in
    let bv : Val = lowers.lowered base in
    let y : (walk_of 𝓛 En hs c).Ghost = ((κs, qs, bounds, a, (vptr b o ∷ [], (bv ∷ [], (vint w64 from ∷ [], (vint w64 len ∷ [], tt))))), gh) in let Post : Val → SProp 𝓤 = (walk_of 𝓛 En hs c).post y in
    let Asked : Type 0 = (base.ptr ≡ at) × (len ≤ length h.bytes) × (from ≡ offset_of h.capacity h.first) × (from + len ≤ h.capacity) in
    qed 𝓛 (((‵ (flft κ qs.0) ⊛ ‵ ftrue) ⊛ ‵ (owns (types_at En.signature.params κs) a y.0.4)) ∷ given Asked (‵ ftrue) ∷ []) ∵
    keep ! (1 ∷ 0 ∷ []) $ learn ! (λ asked. drop ! $ split ! $ split ! $ move ! (2 ∷ []) $ fsplit ! $ fsplit ! $ drop ! $
    use1 𝓛 (‵ (hidden_shr GhostData κ (record {}, tt) b o) ⊛ ‵ (fhide (places_lent h.at h.capacity h.first h.bytes κ)))
    (lent_out 𝓛 Places.struct (Places.the_codes ghost_coded) Places.the_heap Places.the_lent κ h b o) $
    split ! $ drop ! $ unhide ! $ fsplit ! $ fpick ! (λ fine. drop ! $
    let bp : ℕ = block_of at in let op : ℕ = count_of at in let is_at : base.ptr ≡ block_ptr bp op = asked.0 ∙ at_block at fine.0 in let xs : List ℕ = take len h.bytes in
    let near : from + len ≤ h.capacity = asked.3 in let small : h.capacity < 2 ^ 63 = fine.1 in let long : length xs ≡ len = omega (arith, length-take len h.bytes, asked.1) in
    let tight : len < 2 ^ 64 = omega arith in
    use1 𝓛 (‵ (elements_shared u8 xs bp (from + op) κ)) (seen 𝓛 at h.capacity κ len h.first from (from + op) h.bytes asked.1 (λ _. asked.2) near refl) $ hide ! $ move ! (0 ∷ 2 ∷ []) $
    enter ! 𝓣.C 𝓣.Λ fn (vptr b o ∷ bv ∷ vint w64 from ∷ vint w64 len ∷ []) Post $ alloc_all ! (λ l. pass_all ! refl ((tt, tt), (word-Good [] base.ptr, ((tt, record { fits = omega arith }), ((tt, record { fits = tight }), tt)))) $ let Ev = env fn.locals l in
    take_at ! 2 $ rewrite ! 0 (λ (p : Ptr). ‵ (fat full_share (layout Base.the_row) (l 2) 0 (word p))) is_at refl $ give_at ! 2 $ first ! $ blocks ! $
    sets ! (bin ! (get_in ! (fld ! refl (stop !)) (sub ! 0 refl (whole !))) (get ! refl) tt) refl (tt, tt) $
    sets_last ! (agg ! (and_then ! (get ! refl) (and_then ! (get ! refl) (no_more !)))) refl (tt, (tt, (record { fits = tight }, tt))) $
    exec ! 𝓣.C 𝓣.Λ Ev (tail fn.body) (at_ret Ev Post) $ sets ! (of_opd ! (get ! refl)) refl (tt, (tt, (record { fits = tight }, tt))) $
    flt_i ! (length xs * 1) (2 ^ 63) (omega arith) $ flt_i ! (length xs) (2 ^ 64) (omega arith) $ fjoin ! $
    feq_i ! (List Val) (slice_val (bp, from + op) len ∷ []) (slice_val (bp, from + op) (length xs) ∷ []) (ap (λ (k : ℕ). slice_val (bp, from + op) k ∷ []) (sym long)) $ fjoin ! $ fjoin ! $
    use0 𝓛 (raw (fact 𝓤 (xs ≡ xs))) (fact_i 𝓤 (xs ≡ xs) (emp 𝓤) refl) $ nothing ! $ nothing ! $ fjoin ! $ nothing ! $ fjoin ! $ nothing ! $ fjoin ! $ nothing ! $ fjoin ! $
    nothing ! $ move ! (4 ∷ 0 ∷ []) $ join ! $
    returns ! (look_at ! 0 refl) $ free_all ! refl $ keep ! (0 ∷ 1 ∷ 3 ∷ 2 ∷ []) $ by ! (leaves 𝓛 En hs c y (slice_val (bp, from + op) len) (record { ref_ptr = (bp, from + op); now = xs }) (tt, (tt, (tt, (tt, tt)))) (tt, (tt, (tt, (tt, tt)))))))))
