-- `part` cuts the space out of the words of a block. Assumes `Logic`.
use Rattle.piper_ring.proofs.Kit.{◌≡◌, ℕ, [], ◌∷◌, refl, sym, ap, w64, Val, vint, SProp, emp, ftrue, fst∗, never, fsep, fwand, ‵, raw, ◌⊛◌, given, at_ret, ◌$◌, ◌∵◌, !, qed, by, move, keep, drop, split, split3, join, fsplit, fjoin, fjoin3, fpick, fpack, learn, use0, use1, use2, rewrite, sem, stop, fld, lit, bin, of_opd, no_more, and_then, first, blocks, exec, returns, enter, alloc_all, pass_all, free_all, look_at, get, get_in, sets, sets_last, is, env, agg, sub, whole, fact, fact_i, tables, usize, yes, owns, types_at, plain, Ptr, block_ptr, null_ptr, ptr_val, in_a_block, uint_vals, uint_Tells, nothing, alive, Stays, stay_dropped, walk_of, Goes-dropped, word-Good, after as from_on, owned_block, pair_val, pair_of, proved, leaves, heap_token, all_rooms, word_room, slot_rooms, pointer_val, pointer_told, PointerData, pointer_made, Ty, InBlock, behind, purpose, size_of_block, space_of, space_room, unused, IsPlaced}
use Rattle.piper_cells.specs.contracts.lent_space.Space as Space
use Rattle.piper_ring.proofs.Block.{BlockRoom, BytesRoom, WordsRoom, block_cut, remakes}
use Rattle.piper_ring.proofs.Opening.{words_out, Rejoin}
use Rattle.piper_ring.specs.contracts.ring.memory.Parts as Parts
use Rattle.piper_ring.specs.contracts.ring.memory.Memory as Memory
use Rattle.piper_ring.proofs.ring.memory.Memory.part as own

pub part_spec : {M : Type 1} → own.Statement.statement M
part_spec 𝓤 𝓛 𝓜 𝓡 wired =
    let H = 𝓛.H in let 𝓣 = tables 𝓤 H 𝓜 𝓡 𝓡.env in let En = Memory.part.ended in let fn = own.Code.function in let c = Memory.part.clauses 𝓛 𝓜.mem 𝓡.returns in
    let self = plain (λ _. Memory.the_row) in let number = plain (λ _. usize) in let hs : Stays En.signature.params En.kept = (stay_dropped self yes, (stay_dropped number yes, tt)) in
    proved 𝓛 En hs c 𝓜 𝓡 (Goes-dropped 𝓛 0 self yes (λ κs x f. refl), (Goes-dropped 𝓛 0 number yes (λ κs x f. refl), tt)) Memory.part.Key.name fn (own.Code.unfolded 𝓤 H 𝓜 𝓡 wired)
    (λ κs. ((λ m. pointer_val m.start ∷ []), (uint_vals w64, tt))) (λ κs. ((λ m vs is. pointer_told m.start vs is.0), (uint_Tells w64, tt))) (λ κs qs bounds a gh are.
    let w₀ : Ptr = a.0.start in let cap : ℕ = a.1.0 in let size : ℕ = size_of_block cap in let τ : Ty = purpose size in
    let y : (walk_of 𝓛 En hs c).Ghost = ((κs, qs, bounds, a, (pointer_val w₀ ∷ [], (vint w64 cap ∷ [], tt))), gh) in let Post : Val → SProp 𝓤 = (walk_of 𝓛 En hs c).post y in
    qed 𝓛 ((raw (alive 𝓛 En.signature κs qs) ⊛ ‵ (owns (types_at En.signature.params κs) a y.0.4)) ∷ given (a.0.size ≡ size) (‵ ftrue) ∷ []) ∵
    keep ! (1 ∷ 0 ∷ []) $ learn ! (λ asked. drop ! $ split ! $ move ! (1 ∷ []) $ fsplit ! $ fsplit ! $ drop ! $
    rewrite ! 0 (λ (k : ℕ). ‵ (unused k w₀)) asked refl $ fsplit ! $ fpick ! (λ small. drop ! $
    in_a_block ! w₀ (λ q. owned_block heap_token τ q) (fst∗ 𝓤 (never 𝓤) (sem 𝓛 (heap_token τ null_ptr))) (λ b o at_w. let w : Ptr = block_ptr b o in let p : Ptr = behind w in let at : Ptr = space_of w in
    fsplit ! $ keep ! (0 ∷ 1 ∷ 3 ∷ []) $ use1 𝓛 (‵ (WordsRoom 𝓛 w cap) ⊛ ‵ (BytesRoom 𝓛 w cap) ⊛ ‵ (fwand (fsep (WordsRoom 𝓛 w cap) (BytesRoom 𝓛 w cap)) (BlockRoom 𝓛 w cap))) (block_cut 𝓛 w cap) $ split3 ! $
    use1 𝓛 (‵ (word_room w 8) ⊛ ‵ (word_room w 208) ⊛ ‵ (word_room w 136) ⊛ ‵ (word_room w 0) ⊛ ‵ (slot_rooms w) ⊛ ‵ (space_room w) ⊛ ‵ (Rejoin 𝓛 w p cap)) (words_out 𝓛 w p cap) $ split3 ! $ move ! (2 ∷ []) $ split3 ! $ move ! (2 ∷ []) $ split3 ! $
    -- [the slots' words; the space; what makes the words again; four words; the bytes; what makes the block; the right]
    move ! (2 ∷ 8 ∷ []) $ use2 𝓛 (‵ (fwand (fsep (fsep (all_rooms w) (space_room w)) (BytesRoom 𝓛 w cap)) (BlockRoom 𝓛 w cap))) (remakes 𝓛 w cap (fsep (all_rooms w) (space_room w))) $
    move ! (3 ∷ 4 ∷ []) $ fjoin ! $ move ! (4 ∷ 5 ∷ 0 ∷ []) $ fjoin3 ! $ move ! (0 ∷ 2 ∷ []) $ fjoin ! $ move ! (1 ∷ 4 ∷ []) $ fjoin ! $ move ! (3 ∷ 0 ∷ []) $ fjoin ! $ move ! (1 ∷ 0 ∷ []) $ fjoin ! $
    nothing ! $ fpack ! (IsPlaced cap w) (λ _. ftrue) (tt, small) $ fjoin ! $
    let one : Parts.the_row.Denot = record { start = w; capacity = cap } in let two : Space.the_row.Denot = record { start = at; words = 12 } in let u : Val = pointer_val w in let v : Val = pointer_val at in
    use0 𝓛 (‵ (PointerData.own_val (w, tt) (u ∷ []))) (pointer_made 𝓛 w) $ fjoin ! $ move ! (1 ∷ []) $ nothing ! $ fpack ! (InBlock at) (λ _. ftrue) tt $ fjoin ! $ use0 𝓛 (‵ (PointerData.own_val (at, tt) (v ∷ []))) (pointer_made 𝓛 at) $ fjoin ! $ move ! (1 ∷ 0 ∷ []) $
    use2 𝓛 (‵ ((denote.Struct.Tuple.Tuple (Parts.the_row ∷ Space.the_row ∷ [])).own_val (one, two) (pair_val u v ∷ []))) (pair_of 𝓛 Parts.the_row Space.the_row one two u v) $
    enter ! 𝓣.C 𝓣.Λ fn (pointer_val w₀ ∷ vint w64 cap ∷ []) Post $ alloc_all ! (λ l. pass_all ! refl (word-Good [] w₀, ((tt, record { fits = are.1.0.1 }), tt)) $ let Ev = env fn.locals l in
    sets ! (is ! (of_opd ! (get_in ! (fld ! refl (stop !)) (sub ! 0 refl (whole !)))) (ap ptr_val at_w)) refl (tt, tt) $ sets ! (of_opd ! (get ! refl)) refl (tt, tt) $
    first ! $ blocks ! $ sets_last ! (bin ! (get ! refl) (lit ! tt) tt) refl (tt, tt) $ exec ! 𝓣.C 𝓣.Λ Ev (from_on 3 fn.body) (at_ret Ev Post) $ sets ! (of_opd ! (get ! refl)) refl (tt, tt) $
    sets ! (agg ! (and_then ! (get ! refl) (no_more !))) refl (tt, (tt, tt)) $ sets ! (agg ! (and_then ! (get ! refl) (no_more !))) refl (tt, (tt, tt)) $
    sets ! (agg ! (and_then ! (get ! refl) (and_then ! (get ! refl) (no_more !)))) refl (tt, ((tt, tt), ((tt, tt), tt))) $
    use0 𝓛 (raw (fact 𝓤 ((at ≡ space_of w₀) × (12 ≡ 12)))) (fact_i 𝓤 ((at ≡ space_of w₀) × (12 ≡ 12)) (emp 𝓤) (ap space_of (sym at_w), refl)) $
    use0 𝓛 (raw (fact 𝓤 ((w ≡ w₀) × (cap ≡ cap)))) (fact_i 𝓤 ((w ≡ w₀) × (cap ≡ cap)) (emp 𝓤) ((sym at_w), refl)) $ join ! $ nothing ! $ nothing ! $ fjoin ! $ nothing ! $ fjoin ! $
    returns ! (look_at ! 0 refl) $ free_all ! refl $ keep ! (3 ∷ 0 ∷ 2 ∷ 1 ∷ []) $ by ! (leaves 𝓛 En hs c y (pair_val u v) (one, two) (tt, (tt, tt)) (tt, (tt, tt))))))))
