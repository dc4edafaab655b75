-- `set` writes one byte through the pointer. Assumes `Logic`.
use Rattle.piper_ring.proofs.Kit.{◌≡◌, ℕ, suc, ◌+◌, ◌-◌, ◌<◌, List, [], ◌∷◌, sym, refl, ◌∙◌, arith, lit<, w8, w64, named, ty_int, Val, vint, vptr, SProp, emp, full_share, ftrue, flft, fat, froom, ‵, raw, ◌⊛◌, given, at_ret, ◌$◌, ◌∵◌, !, qed, by, move, keep, split, join, fsplit, fsplit3, fjoin, fjoin3, fpick, fpack, learn, use0, use1, rewrite, feq_i, drop as forget, stop, fld, init, lit, of_opd, bin, no_more, and_then, first, blocks, exec, assigns_last, returns, enter, alloc_all, pass_all, free_all, look_at, get, get_in, through, sets, take_at, give_at, env, agg, sub, whole, fact, fact_i, tables, yes, RattleType, owns, types_at, plain, Ptr, block_ptr, block_of, count_of, at_block, layout, u8, usize, Is, shows, cell_at, part_at, uint_vals, uint_Tells, mut_vals, mut_Tells, nothing, peeks, opens, closes, Stays, stay_ref, stay_dropped, walk_of, Goes-ref, Goes-dropped, word-Good, tail, slot_of as offset_of, span, proved, leaves, unset, place, ghost_val, GhostData, ghost_made, ghost_told, Placed}
use denote.Plain.{uint_in}
use Rattle.std_alloc.proofs.RcSteps.{word}
use Rattle.rtrb.proofs.Spans.{span_first}
use Rattle.piper_ring.specs.contracts.ring.places.Places as Places
use Rattle.piper_ring.specs.contracts.ring.places.Blank as Blank
use Rattle.piper_ring.specs.contracts.ring.places.Base as Base
use Rattle.piper_ring.proofs.ring.places.Base.TheLaws.{lowers}
use Rattle.piper_ring.proofs.ring.places.Blank.set as own

pub set_spec : {M : Type 1} → own.Statement.statement M
set_spec 𝓤 𝓛 𝓜 𝓡 wired =
    let H = 𝓛.H in let 𝓣 = tables 𝓤 H 𝓜 𝓡 𝓡.env in let En = Blank.set.ended in let fn = own.Code.function in let c = Blank.set.clauses 𝓛 𝓜.mem 𝓡.returns in
    let Row : RattleType = Blank.the_row in let self = plain (λ _. Row) in let KRow : RattleType = Places.the_row in
    let hs : Stays En.signature.params En.kept = (stay_ref (0 ∷ []) tt self, (stay_dropped (plain (λ _. Base.the_row)) yes, (stay_dropped (plain (λ _. usize)) yes, tt))) in
    proved 𝓛 En hs c 𝓜 𝓡 (Goes-ref 𝓛 1 0 tt self, (Goes-dropped 𝓛 1 (plain (λ _. Base.the_row)) yes (λ κs x f. refl), (Goes-dropped 𝓛 1 (plain (λ _. usize)) yes (λ κs x f. refl), tt))) Blank.set.Key.name fn (own.Code.unfolded 𝓤 H 𝓜 𝓡 wired)
    (λ κs. (mut_vals, ((λ d. lowers.lowered d ∷ []), (uint_vals w64, tt)))) (λ κs. (mut_Tells (named 0) κs.0 Row, (lowers.val_is, (uint_Tells w64, tt)))) (λ κs qs bounds a gh are.
    let b : ℕ = a.0.ref_ptr.0 in let o : ℕ = a.0.ref_ptr.1 in let h = a.0.now in let base = a.1.0 in let k : ℕ = a.1.1.0 in let κ = κs.0 in let at : Ptr = h.at in let us : List Val = ghost_val ∷ [] in let bv : Val = lowers.lowered base in
    let back : Row.Denot = record h { first = h.first + 1; count = h.count - 1 } in let new : KRow.Denot = record { mark = record {}; at = at; capacity = h.capacity; first = h.first; bytes = 0 ∷ [] } in
    let y : (walk_of 𝓛 En hs c).Ghost = ((κs, qs, bounds, a, (vptr b o ∷ [], (bv ∷ [], (vint w64 k ∷ [], tt)))), gh) in let Post : Val → SProp 𝓤 = (walk_of 𝓛 En hs c).post y in
    let Asked : Type 0 = (base.ptr ≡ at) × (0 < h.count) × (k ≡ offset_of h.capacity h.first) × (k < h.capacity) in
    qed 𝓛 (((‵ (flft κ qs.0) ⊛ ‵ ftrue) ⊛ ‵ (owns (types_at En.signature.params κs) a y.0.4)) ∷ given Asked (‵ ftrue) ∷ []) ∵
    keep ! (1 ∷ 0 ∷ []) $ learn ! (λ asked. forget ! $ split ! $ split ! $ move ! (2 ∷ []) $ fsplit ! $ fsplit3 ! $ keep ! (1 ∷ 2 ∷ 4 ∷ []) $
    enter ! 𝓣.C 𝓣.Λ fn (vptr b o ∷ bv ∷ vint w64 k ∷ []) Post $ alloc_all ! (λ l. pass_all ! refl ((tt, tt), (word-Good [] base.ptr, ((tt, record { fits = are.1.1.0.1 }), tt))) $ let Ev = env fn.locals l in
    opens ! tt Row b o (λ vs. move ! (1 ∷ []) $ fsplit ! $ peeks ! GhostData (Is GhostData) (shows 𝓛 GhostData) (record {}, tt) vs (λ is-so. let ev : vs ≡ us = ghost_told vs is-so in
    forget ! $ rewrite ! 1 (λ (ws : List Val). ‵ (cell_at full_share Row.mir ws b o)) ev refl $ fsplit ! $ fpick ! (λ fine. forget ! $
    let bp : ℕ = block_of at in let op : ℕ = count_of at in let is_at : base.ptr ≡ block_ptr bp op = asked.0 ∙ at_block at fine.0 in
    take_at ! 2 $ rewrite ! 0 (λ (p : Ptr). ‵ (fat full_share (layout Base.the_row) (l 2) 0 (word p))) is_at refl $ give_at ! 2 $
    let U = unset at h.capacity in let m : ℕ = h.count - 1 in let pos : 0 < h.count = asked.1 in let more : suc h.first ≡ h.first + 1 = omega arith in
    use1 𝓛 (‵ (U h.first) ⊛ ‵ (span U (suc h.first) m)) (span_first 𝓛 U h.first h.count m (omega arith)) $ split ! $ use1 𝓛 (‵ (froom (ty_int w8) bp (place at h.capacity h.first))) (𝓛.laws.raw-room (ty_int w8) bp (place at h.capacity h.first)) $
    rewrite ! 0 (λ (i : ℕ). ‵ (froom (ty_int w8) bp (i + op))) (sym asked.2) refl $ first ! $ blocks ! $
    sets ! (bin ! (get_in ! (fld ! refl (stop !)) (sub ! 0 refl (whole !))) (get ! refl) tt) refl (tt, tt) $
    assigns_last ! (of_opd ! (lit ! tt)) (through ! refl (stop !)) (init ! 0 refl (tt, record { fits = lit< tt })) $ exec ! 𝓣.C 𝓣.Λ Ev (tail fn.body) (at_ret Ev Post) $
    use1 𝓛 (‵ (part_at u8 full_share 0 bp (k + op))) (uint_in 𝓛 full_share w8 0 bp (k + op)) $ rewrite ! 0 (λ (i : ℕ). ‵ (part_at u8 full_share 0 bp (i + op))) asked.2 refl $ nothing ! $ move ! (1 ∷ 0 ∷ []) $ fjoin ! $
    sets ! (agg ! (no_more !)) refl (tt, tt) $ sets ! (agg ! (and_then ! (get ! refl) (no_more !))) refl (tt, (tt, tt)) $
    nothing ! $ fpack ! (Placed at h.capacity) (λ _. ftrue) fine $ fjoin ! $ use0 𝓛 (‵ (GhostData.own_val (record {}, tt) us)) (ghost_made 𝓛) $ fjoin ! $ move ! (1 ∷ []) $
    rewrite ! 0 (λ (i : ℕ). ‵ (span U i m)) more refl $ nothing ! $ fpack ! (Placed at h.capacity) (λ _. ftrue) fine $ fjoin ! $ use0 𝓛 (‵ (GhostData.own_val (record {}, tt) us)) (ghost_made 𝓛) $ fjoin ! $
    move ! (2 ∷ 0 ∷ 3 ∷ 4 ∷ 5 ∷ []) $ closes ! tt Row back us b o $ feq_i ! (List Val) (vptr b o ∷ []) (vptr b o ∷ []) refl $ fjoin3 ! $
    nothing ! $ nothing ! $ fjoin ! $ nothing ! $ fjoin ! $ move ! (1 ∷ 0 ∷ []) $ fjoin ! $ nothing ! $ move ! (2 ∷ 0 ∷ []) $ join ! $
    use0 𝓛 (raw (fact 𝓤 (back ≡ back))) (fact_i 𝓤 (back ≡ back) (emp 𝓤) refl) $ use0 𝓛 (raw (fact 𝓤 (new ≡ new))) (fact_i 𝓤 (new ≡ new) (emp 𝓤) refl) $ join ! $
    returns ! (look_at ! 0 refl) $ free_all ! refl $ keep ! (1 ∷ 2 ∷ 3 ∷ 0 ∷ []) $ by ! (leaves 𝓛 En hs c y ghost_val new (back, (tt, (tt, tt))) (tt, (tt, (tt, tt))))))))))
