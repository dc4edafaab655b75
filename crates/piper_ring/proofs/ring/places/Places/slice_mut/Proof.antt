-- `slice_mut` lends the bytes, and their owner follows what is written. Assumes `Logic`.
use Rattle.piper_ring.proofs.Kit.{◌≡◌, ℕ, ◌+◌, ◌*◌, ◌^◌, ◌<◌, ◌≤◌, List, [], ◌∷◌, length, sym, refl, ◌∙◌, arith, w64, named, Val, vint, vptr, Ura, SProp, ent, sep, id⊢, Fml, GName, ftrue, fsep, flft, fat, full_share, Logic, sem, ‵, raw, ◌⊛◌, some, given, later, await, pick, split3, at_ret, ◌$◌, ◌∵◌, !, qed, move, keep, split, join, fsplit, fsplit3, fjoin, fpick, fpack, learn, use1, rewrite, frame, suffices, done, drop as forget, stop, fld, of_opd, and_then, no_more, bin, first, blocks, exec, returns, enter, alloc_all, pass_all, free_all, look_at, get, get_in, sets, sets_last, is, take_at, give_at, env, agg, sub, whole, tables, yes, RattleType, owns, types_at, plain, Ptr, block_ptr, block_of, count_of, at_block, u8, usize, uint_vals, uint_Tells, mut_vals, mut_Tells, mem, cell_at, nothing, opens, layout, Stays, stay_dropped, walk_of, Goes-dropped, tail, word-Good, proved, slot_of as offset_of, run, byte, GhostData, drop_list, no, cells, group, Placed}
use denote.Signature.{mut_ref_to}
use denote.Ref.{MutBor}
use denote.Array.{Array}
use denote.Follow.{follows}
use denote.FollowSlice.{Elements, lends_Elements}
use denote.Slice.{slice_val, MutSlice}
use denote.Triple.Walked.{says, ends_at, Goes-spent_ref}
use lib.Seq.{take_at as take_front}
use Rattle.std_alloc.proofs.RcSteps.{word}
use Rattle.piper_ring.specs.Lends.{with_bytes, written}
use Rattle.piper_ring.specs.contracts.ring.places.Places as Places
use Rattle.piper_ring.specs.contracts.ring.places.Base as Base
use Rattle.piper_ring.proofs.ring.places.Base.TheLaws.{lowers}
use Rattle.piper_ring.proofs.PlacesParts.{to_cells, of_cells}
use Rattle.piper_ring.proofs.ring.places.Places.slice_mut as own

abbrev Row : RattleType
Row = Places.the_row

module _ {M : Type 1} {𝓤 : Ura M} (𝓛 : Logic 𝓤) (d : Row.Denot) (vs : List Val) (rb ro from : ℕ) where
  abbrev at : Ptr
  at = d.at

  -- all but the bytes
  abbrev Rest : Fml
  Rest = fsep (GhostData.own_val (record {}, tt) vs) (cell_at full_share Row.mir vs rb ro)

  back : Placed at d.capacity → from ≡ offset_of d.capacity d.first → from + length d.bytes ≤ d.capacity → (ws : List ℕ) → length ws ≡ length d.bytes
      → ent 𝓤 (sep 𝓤 (sem 𝓛 (cells (mem u8) ws (block_of at) (from + count_of at))) (sem 𝓛 Rest)) (sem 𝓛 ((mem Row).own_at (with_bytes d d.bytes ws) rb ro))
  unfolding denote.Memory.part_of
  back fine is near ws same = let all : written d.bytes ws ≡ ws = take_front ws (drop_list (length ws) d.bytes) (length d.bytes) same in
      qed 𝓛 (‵ (cells (mem u8) ws (block_of at) (from + count_of at)) ∷ ‵ Rest ∷ []) ∵
      use1 𝓛 (‵ (run (byte at d.capacity) d.first ws)) (of_cells 𝓛 at d.capacity ws d.first from (from + count_of at) (λ _. is) (omega arith) refl) $ move ! (1 ∷ []) $ fsplit ! $ move ! (2 ∷ []) $
      rewrite ! 0 (λ (l : List ℕ). ‵ (run (byte at d.capacity) d.first l)) (sym all) refl $
      nothing ! $ fpack ! (Placed at d.capacity) (λ _. ftrue) fine $ fjoin ! $ move ! (1 ∷ 0 ∷ []) $ fjoin ! $ move ! (1 ∷ 0 ∷ []) $ fjoin ! $
      fpack ! (List Val) (λ us. fsep (cell_at full_share Row.mir us rb ro) (Row.own_val (with_bytes d d.bytes ws) us)) vs $ done !

pub slice_mut_spec : {M : Type 1} → own.Statement.statement M
slice_mut_spec 𝓤 𝓛 𝓜 𝓡 wired =
    let H = 𝓛.H in let 𝓣 = tables 𝓤 H 𝓜 𝓡 𝓡.env in let En = Places.slice_mut.ended in let fn = own.Code.function in let c = Places.slice_mut.clauses 𝓛 𝓜.mem 𝓡.returns in
    let hs : Stays En.signature.params En.kept = (stay_dropped (mut_ref_to (0 ∷ []) tt (plain (λ _. Row))) no, (stay_dropped (plain (λ _. Base.the_row)) yes, (stay_dropped (plain (λ _. usize)) yes, (stay_dropped (plain (λ _. usize)) yes, tt)))) in
    proved 𝓛 En hs c 𝓜 𝓡 (Goes-spent_ref 𝓛 1 (0 ∷ []) tt (plain (λ _. Row)), (Goes-dropped 𝓛 1 (plain (λ _. Base.the_row)) yes (λ κs x f. refl), (Goes-dropped 𝓛 1 (plain (λ _. usize)) yes (λ κs x f. refl), (Goes-dropped 𝓛 1 (plain (λ _. usize)) yes (λ κs x f. refl), tt)))) Places.slice_mut.Key.name fn (own.Code.unfolded 𝓤 H 𝓜 𝓡 wired)
    (λ κs. (mut_vals, ((λ d. lowers.lowered d ∷ []), (uint_vals w64, (uint_vals w64, tt))))) (λ κs. (mut_Tells (named 0) κs.0 Row, (lowers.val_is, (uint_Tells w64, (uint_Tells w64, tt))))) (λ κs qs bounds a gh are.
    let rb : ℕ = a.0.ref_ptr.0 in let ro : ℕ = a.0.ref_ptr.1 in let γ : GName = a.0.ghost_name in let d = a.0.now in let at : Ptr = d.at in let κ = κs.0 in let q = qs.0 in let base = a.1.0 in let from : ℕ = a.1.1.0 in let len : ℕ = a.1.1.1.0 in
    let bv : Val = lowers.lowered base in let new : List ℕ → Row.Denot = with_bytes d d.bytes in let u = Row.coded.code d in
    let y : (walk_of 𝓛 En hs c).Ghost = ((κs, qs, bounds, a, (vptr rb ro ∷ [], (bv ∷ [], (vint w64 from ∷ [], (vint w64 len ∷ [], tt))))), gh) in let Post : Val → SProp 𝓤 = (walk_of 𝓛 En hs c).post y in
    let Asked : Type 0 = ((base.ptr ≡ at) × (len ≤ length d.bytes) × (from ≡ offset_of d.capacity d.first) × (from + len ≤ d.capacity)) × (len ≡ length d.bytes) in
    qed 𝓛 (((‵ (flft κ q) ⊛ ‵ ftrue) ⊛ ‵ (owns (types_at En.signature.params κs) a y.0.4)) ∷ given Asked (‵ ftrue) ∷ []) ∵
    keep ! (1 ∷ 0 ∷ []) $ learn ! (λ asked. forget ! $ split ! $ split ! $ move ! (2 ∷ []) $ fsplit ! $ fsplit3 ! $ keep ! (1 ∷ 2 ∷ 4 ∷ []) $
    enter ! 𝓣.C 𝓣.Λ fn (vptr rb ro ∷ bv ∷ vint w64 from ∷ vint w64 len ∷ []) Post $ alloc_all ! (λ l. pass_all ! refl ((tt, tt), (word-Good [] base.ptr, ((tt, record { fits = are.1.1.0.1 }), ((tt, record { fits = are.1.1.1.0.1 }), tt)))) $ let Ev = env fn.locals l in
    opens ! tt Row {h = d} rb ro (λ vs. move ! (1 ∷ []) $ fsplit ! $ move ! (1 ∷ []) $ fsplit ! $ fpick ! (λ fine. forget ! $
    let bp : ℕ = block_of at in let op : ℕ = count_of at in let is_at : base.ptr ≡ block_ptr bp op = asked.0.0 ∙ at_block at fine.0 in let xs : List ℕ = d.bytes in
    let near : from + len ≤ d.capacity = asked.0.3 in let small : d.capacity < 2 ^ 63 = fine.1 in let long : length xs ≡ len = sym asked.1 in let tight : len < 2 ^ 64 = omega arith in
    take_at ! 2 $ rewrite ! 0 (λ (p : Ptr). ‵ (fat full_share (layout Base.the_row) (l 2) 0 (word p))) is_at refl $ give_at ! 2 $ first ! $ blocks ! $
    sets ! (bin ! (get_in ! (fld ! refl (stop !)) (sub ! 0 refl (whole !))) (get ! refl) tt) refl (tt, tt) $
    use1 𝓛 (‵ (cells (mem u8) xs bp (from + op))) (to_cells 𝓛 at d.capacity xs d.first from (from + op) (λ _. asked.0.2) (omega arith) refl) $
    sets_last ! (agg ! (and_then ! (get ! refl) (and_then ! (get ! refl) (no_more !)))) refl (tt, (tt, (record { fits = tight }, tt))) $
    exec ! 𝓣.C 𝓣.Λ Ev (tail fn.body) (at_ret Ev Post) $ sets ! (of_opd ! (get ! refl)) refl (tt, (tt, (record { fits = tight }, tt))) $
    let o' : ℕ = from + op in let R : SProp 𝓤 = sem 𝓛 (Rest 𝓛 d vs rb ro from) in let roomy : length xs < 2 ^ 64 = omega arith in let fitting : length xs * 1 < 2 ^ 63 = omega arith in let way = back 𝓛 d vs rb ro from fine asked.0.2 (omega arith) in
    move ! (1 ∷ 2 ∷ []) $ fjoin ! $ move ! (2 ∷ 3 ∷ 4 ∷ 1 ∷ 0 ∷ []) $ group ! 5 $
    use1 𝓛 (later (some (λ (δ : GName). raw (Elements 𝓛 Row u8 new (named 0) κ q rb ro bp o' γ xs (roomy, fitting) R way δ))))
    (lends_Elements 𝓛 Row u8 new (named 0) κ q rb ro bp o' γ xs (roomy, fitting) R way u u) $ await ! tt $ pick ! (λ δ.
    let r : MutBor (List ℕ) = record { ref_ptr = (bp, o'); ghost_name = δ; now = xs } in
    use1 𝓛 (‵ ((MutSlice (named 0) κ u8).own_val r (slice_val (bp, o') (length xs) ∷ [])) ⊛ ‵ (flft κ q) ⊛ ‵ (follows Row (Array u8 0) γ δ new)) (id⊢ 𝓤 _) $ split3 ! $
    rewrite ! 0 (λ (n : ℕ). ‵ ((MutSlice (named 0) κ u8).own_val r (slice_val (bp, o') n ∷ []))) long refl $
    returns ! (look_at ! 0 refl) $ free_all ! refl $ keep ! (0 ∷ 1 ∷ 2 ∷ []) $
    suffices ! _ (ends_at 𝓛 En hs c y (slice_val (bp, o') len) r (tt, (tt, (tt, (tt, tt)))) (tt, (tt, (tt, (tt, tt))))) $
    nothing ! $ nothing ! $ fjoin ! $ nothing ! $ fjoin ! $ nothing ! $ fjoin ! $ nothing ! $ fjoin ! $ join ! $ nothing ! $ move ! (2 ∷ 0 ∷ []) $ join ! $ join ! $ frame ! $ says ! refl $ done !))))))
