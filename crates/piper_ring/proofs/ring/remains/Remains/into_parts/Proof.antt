-- `into_parts` takes apart what both ends left. Assumes `Logic`.
use Rattle.piper_ring.proofs.Kit.{◌+◌, arith, load, through, look, u64, vint, w64, flt_i, feq_i, List, fwand, Filled, number, use2, fsplit3, word_room, GhostData, ghost_made, ghost_val, false, join, first, blocks, bin, lit, sets_last, exec, at_ret, use1, after as from_on, ◌≡◌, ℕ, ◌<◌, ◌^◌, Bool, true, [], ◌∷◌, refl, ap, Val, SProp, emp, ftrue, ‵, raw, ◌⊛◌, given, ◌$◌, ◌∵◌, !, qed, by, move, keep, drop, split, fsplit, fjoin, fpick, fpack, learn, use0, rewrite, stop, fld, of_opd, no_more, and_then, returns, enter, alloc_all, pass_all, free_all, look_at, get, get_in, sets, is, env, agg, sub, whole, fact, fact_i, tables, yes, owns, types_at, plain, Ptr, block_ptr, ptr_val, block_of, count_of, at_block, nothing, alive, Stays, stay_dropped, walk_of, Goes-dropped, word-Good, proved, leaves, Names, heap_token, where_gone, pointer_val, pointer_told, PointerData, pointer_made, Ty, ty_int, group, purpose, size_of_block, space_of, IsPlaced, slice_index, block_room, space_room, Denots, Valss, RattleType, owns_of, within, tuple_type, declared, of_list, vstruct}
use Rattle.piper_cells.specs.contracts.lent_space.Lease as Lease
use Rattle.piper_cells.specs.contracts.lent_space.Lender as Lender
use Rattle.piper_ring.specs.Shared as shared
use Rattle.piper_ring.proofs.Leaving.{frame_rejoins}
use Rattle.piper_ring.proofs.Steps.{flag_small}
use Rattle.piper_ring.specs.Loads.{as_lying}
use Rattle.piper_ring.specs.SlotValues.{IsLeft, IsTokenAt}
use Rattle.piper_cells.specs.contracts.token_cell.Token as Token
use Rattle.piper_ring.specs.contracts.ring.memory.Frame as Frame
use Rattle.piper_ring.specs.contracts.ring.remains.Remains as Remains
use Rattle.piper_ring.proofs.ring.remains.Remains.into_parts as own

pub into_parts_spec : {M : Type 1} → own.Statement.statement M
into_parts_spec 𝓤 𝓛 𝓜 𝓡 wired =
    let H = 𝓛.H in let 𝓣 = tables 𝓤 H 𝓜 𝓡 𝓡.env in let En = Remains.into_parts.ended in let fn = own.Code.function in let c = Remains.into_parts.clauses 𝓛 𝓜.mem 𝓡.returns in
    let self = plain (λ _. Remains.the_row) in let hs : Stays En.signature.params En.kept = (stay_dropped self yes, tt) in
    proved 𝓛 En hs c 𝓜 𝓡 (Goes-dropped 𝓛 0 self yes (λ κs x f. refl), tt) Remains.into_parts.Key.name fn (own.Code.unfolded 𝓤 H 𝓜 𝓡 wired)
    (λ κs. ((λ x. pointer_val x.words ∷ []), tt)) (λ κs. ((λ x vs is. pointer_told x.words vs is.0), tt)) (λ κs qs bounds a gh are.
    let h = a.0 in let w : Ptr = h.words in let p : Ptr = h.at in let z : Names = h.names in let cap : ℕ = z.capacity in let w' : Ptr = block_ptr (block_of w) (count_of w) in let at' : Ptr = space_of w' in
    let y : (walk_of 𝓛 En hs c).Ghost = ((κs, qs, bounds, a, (pointer_val w ∷ [], tt)), gh) in let Post : Val → SProp 𝓤 = (walk_of 𝓛 En hs c).post y in
    let one : Frame.the_row.Denot = record { start = w'; capacity = cap } in let two : Lender.the_row.Denot = record { start = at'; words = 12; life = z.life } in
    let three : Lease.the_row.Denot = record { mark = record {}; life = z.life; first = true } in let four : Lease.the_row.Denot = record { mark = record {}; life = z.life; first = false } in
    let u : Val = pointer_val w' in let v : Val = pointer_val at' in let g : Val = ghost_val in let t : Val = ghost_val in let Told : Type 0 = (at' ≡ space_of w') × (12 ≡ 12) in let Lives : Type 0 = (z.life ≡ z.life) × (z.life ≡ z.life) × (z.life ≡ z.life) in let Firsts : Type 0 = (true ≡ true) × (false ≡ false) in
    let b : ℕ = block_of w in let o : ℕ = count_of w in let word_ty : Ty = ty_int w64 in
    qed 𝓛 ((raw (alive 𝓛 En.signature κs qs) ⊛ ‵ (owns (types_at En.signature.params κs) a y.0.4)) ∷ given (h.last ≡ true) (‵ ftrue) ∷ []) ∵
    keep ! (1 ∷ 0 ∷ []) $ learn ! (λ asked. drop ! $ split ! $ move ! (1 ∷ []) $ fsplit ! $ fsplit ! $ drop ! $ fsplit ! $ fpick ! (λ at. drop ! $
    rewrite ! 0 (λ (b : Bool). ‵ (where_gone b (shared.whole w p z))) asked refl $ keep ! (0 ∷ 2 ∷ []) $ let is_w : w ≡ w' = at_block w at.0 in
    fsplit ! $ fsplit ! $ move ! (1 ∷ []) $ fsplit ! $ fpick ! (λ r. move ! (1 ∷ []) $ fpick ! (λ t'. fsplit3 ! $ fpick ! (λ le'. drop ! $ move ! (2 ∷ []) $ fsplit3 ! $ fpick ! (λ le. drop ! $
    let small : number r < 2 ^ 64 = (let one = flag_small r.1 in omega arith) in let small' : number t' < 2 ^ 64 = (let one = flag_small t'.1 in omega arith) in
    -- [each slot's word, with the right to the cell; the block but for the space and these words; the rights and the leases]
    enter ! 𝓣.C 𝓣.Λ fn (pointer_val w ∷ []) Post $ alloc_all ! (λ l. pass_all ! refl (word-Good [] w, tt) $ let Ev = env fn.locals l in
    sets ! (is ! (of_opd ! (get_in ! (fld ! refl (stop !)) (sub ! 0 refl (whole !)))) (ap ptr_val is_w)) refl (tt, tt) $
    first ! $ blocks ! $ sets_last ! (bin ! (get ! refl) (lit ! tt) tt) refl (tt, tt) $ exec ! 𝓣.C 𝓣.Λ Ev (from_on 2 fn.body) (at_ret Ev Post) $ sets ! (of_opd ! (get ! refl)) refl (tt, tt) $
    first ! $ blocks ! $ sets ! (bin ! (get ! refl) (lit ! tt) tt) refl (tt, tt) $ sets_last ! (of_opd ! (load ! (through ! refl (stop !)) (look ! 0 refl))) refl (tt, record { fits = small }) $ exec ! 𝓣.C 𝓣.Λ Ev (from_on 4 fn.body) (at_ret Ev Post) $ sets ! (of_opd ! (get ! refl)) refl (tt, record { fits = small }) $
    first ! $ blocks ! $ sets ! (bin ! (get ! refl) (lit ! tt) tt) refl (tt, tt) $ sets_last ! (of_opd ! (load ! (through ! refl (stop !)) (look ! 2 refl))) refl (tt, record { fits = small' }) $ exec ! 𝓣.C 𝓣.Λ Ev (from_on 6 fn.body) (at_ret Ev Post) $ sets ! (of_opd ! (get ! refl)) refl (tt, record { fits = small' }) $
    sets ! (agg ! (and_then ! (get ! refl) (no_more !))) refl (tt, (tt, tt)) $ sets ! (agg ! (and_then ! (get ! refl) (no_more !))) refl (tt, (tt, tt)) $
    sets ! (agg ! (no_more !)) refl (tt, tt) $ sets ! (agg ! (and_then ! (get ! refl) (no_more !))) refl (tt, (tt, tt)) $ sets ! (agg ! (no_more !)) refl (tt, tt) $ sets ! (agg ! (and_then ! (get ! refl) (no_more !))) refl (tt, (tt, tt)) $
    sets ! (agg ! (no_more !)) refl (tt, tt) $ sets ! (agg ! (and_then ! (get ! refl) (no_more !))) refl (tt, (tt, tt)) $
    sets ! (agg ! (no_more !)) refl (tt, tt) $ sets ! (agg ! (and_then ! (get ! refl) (no_more !))) refl (tt, (tt, tt)) $
    sets ! (agg ! (and_then ! (get ! refl) (and_then ! (get ! refl) (and_then ! (get ! refl) (and_then ! (get ! refl) (and_then ! (get ! refl) (and_then ! (get ! refl) (and_then ! (get ! refl) (and_then ! (get ! refl) (no_more !)))))))))) refl
    (tt, ((tt, tt), ((tt, tt), ((tt, tt), ((tt, tt), (record { fits = small }, ((tt, tt), (record { fits = small' }, ((tt, tt), tt))))))))) $
    -- the slots' words are room of the block again
    use1 𝓛 (‵ (word_room w 144)) (𝓛.laws.at_room word_ty b (144 + o) _) $ move ! (2 ∷ []) $ use1 𝓛 (‵ (word_room w 112)) (𝓛.laws.at_room word_ty b (112 + o) _) $ move ! (1 ∷ 0 ∷ 4 ∷ []) $ fjoin ! $
    use2 𝓛 (‵ (fwand (space_room w) (block_room w p z))) (frame_rejoins 𝓛 w p z) $ move ! (3 ∷ []) $ fsplit ! $ fsplit ! $
    -- [the right to free the block; the lender; the leases; the block but for the space; the rights to the places]
    rewrite ! 0 (λ (q : Ptr). ‵ (heap_token (purpose (size_of_block cap)) q)) is_w refl $ move ! (3 ∷ 0 ∷ []) $ fjoin ! $ nothing ! $ fpack ! (IsPlaced cap w') (λ _. ftrue) (tt, at.2) $ fjoin ! $
    let five : u64.Denot = number r in let six : Token.the_row.Denot = record { mark = record {}; name = slice_index z.cells r.0; there = true; filled = r.1 } in let seven : u64.Denot = number t' in let eight : Token.the_row.Denot = record { mark = record {}; name = slice_index z.cells t'.0; there = true; filled = t'.1 } in
    let all : Val = vstruct (of_list (u ∷ v ∷ g ∷ g ∷ vint w64 five ∷ t ∷ vint w64 seven ∷ t ∷ [])) in let lies : (s : Filled) → s.0 < 4 → IsTokenAt z.cells (number s) (record { mark = record {}; name = slice_index z.cells s.0; there = true; filled = s.1 }) = λ s small. (s.0, record { small = small; name = refl; there = refl; filled = refl }, refl) in
    use0 𝓛 (‵ (PointerData.own_val (w', tt) (u ∷ []))) (pointer_made 𝓛 w') $ fjoin ! $ move ! (1 ∷ []) $ use0 𝓛 (‵ (PointerData.own_val (at', tt) (v ∷ []))) (pointer_made 𝓛 at') $ fjoin ! $
    move ! (2 ∷ []) $ fsplit ! $ use0 𝓛 (‵ (GhostData.own_val (record {}, tt) (g ∷ []))) (ghost_made 𝓛) $ fjoin ! $ move ! (1 ∷ []) $ use0 𝓛 (‵ (GhostData.own_val (record {}, tt) (g ∷ []))) (ghost_made 𝓛) $ fjoin ! $
    move ! (4 ∷ []) $ use0 𝓛 (‵ (GhostData.own_val (record {}, tt) (t ∷ []))) (ghost_made 𝓛) $ fjoin ! $ move ! (5 ∷ []) $ use0 𝓛 (‵ (GhostData.own_val (record {}, tt) (t ∷ []))) (ghost_made 𝓛) $ fjoin ! $
    -- [the tokens, the writer's first; the leases, the second first; the lender; the frame]
    flt_i ! five (2 ^ 64) small $ feq_i ! (List Val) (vint w64 five ∷ []) (vint w64 five ∷ []) refl $ fjoin ! $ flt_i ! seven (2 ^ 64) small' $ feq_i ! (List Val) (vint w64 seven ∷ []) (vint w64 seven ∷ []) refl $ fjoin ! $
    move ! (7 ∷ 6 ∷ 5 ∷ 4 ∷ 1 ∷ 3 ∷ 0 ∷ 2 ∷ []) $ group ! 8 $
    let Rs : List RattleType = Frame.the_row ∷ Lender.the_row ∷ Lease.the_row ∷ Lease.the_row ∷ u64 ∷ Token.the_row ∷ u64 ∷ Token.the_row ∷ [] in let xs : Denots Rs = (one, (two, (three, (four, (five, (six, (seven, (eight, tt)))))))) in
    let vss : Valss Rs = (u ∷ [], (v ∷ [], (g ∷ [], (g ∷ [], (vint w64 five ∷ [], (t ∷ [], (vint w64 seven ∷ [], (t ∷ [], tt)))))))) in
    use1 𝓛 (‵ (owns Rs xs vss)) (owns_of 𝓛 Rs xs vss) $ feq_i ! (List Val) (all ∷ []) (all ∷ []) refl $ fjoin ! $ fpack ! (Valss Rs) (within (declared (tuple_type Rs)) xs (all ∷ [])) vss $
    use0 𝓛 (raw (fact 𝓤 (IsLeft z false seven eight))) (fact_i 𝓤 (IsLeft z false seven eight) (emp 𝓤) (lies t' le', as_lying z false t'.1)) $
    use0 𝓛 (raw (fact 𝓤 (IsLeft z true five six))) (fact_i 𝓤 (IsLeft z true five six) (emp 𝓤) (lies r le, as_lying z true r.1)) $ join ! $
    use0 𝓛 (raw (fact 𝓤 Firsts)) (fact_i 𝓤 Firsts (emp 𝓤) (refl, refl)) $ join ! $ use0 𝓛 (raw (fact 𝓤 Lives)) (fact_i 𝓤 Lives (emp 𝓤) (refl, refl, refl)) $ join ! $
    use0 𝓛 (raw (fact 𝓤 Told)) (fact_i 𝓤 Told (emp 𝓤) (refl, refl)) $ join ! $ use0 𝓛 (raw (fact 𝓤 (cap ≡ cap))) (fact_i 𝓤 (cap ≡ cap) (emp 𝓤) refl) $ join ! $ nothing ! $ nothing ! $ fjoin ! $
    returns ! (look_at ! 0 refl) $ free_all ! refl $ keep ! (3 ∷ 0 ∷ 2 ∷ 1 ∷ []) $ by ! (leaves 𝓛 En hs c y all (one, two, three, four, five, six, seven, eight) (tt, tt) (tt, tt))))))))))
