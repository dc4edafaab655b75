-- `open` writes the six words, and puts them under the ring's invariant, with the rights to two cells. Assumes `Logic`.
use Rattle.piper_ring.proofs.Kit.{Bool, nothing_stored, block_of, count_of, at_block, arith, ◌<◌, ◌^◌, ◌≡◌, ℕ, true, false, [], ◌∷◌, refl, ap, sym, lit<, named, Val, vptr, SProp, emp, ftrue, ‵, raw, ◌⊛◌, some, given, later, await, pick, at_ret, ◌$◌, ◌∵◌, !, qed, by, move, keep, drop, split, split3, join, fsplit, fsplit3, fjoin, fjoin3, fpick, fpack, learn, use0, use1, use2, use3, rewrite, stop, fld, init, lit, of_opd, bin, no_more, and_then, first, blocks, exec, assigns_last, returns, enter, alloc_all, pass_all, free_all, look_at, get, get_in, through, sets, is, env, agg, sub, whole, fact, fact_i, tables, yes, RattleType, owns, types_at, plain, Ptr, block_ptr, ptr_val, RefOf, nothing, alive, Stays, stay_dropped, walk_of, Goes-dropped, after as from_on, word-Good, span, proved, leaves, unset, Names, reader_owns, writer_owns, shr_vals, shr_Tells, pointer_val, ghost_val, ghost_told, GhostData, ghost_made, right, List, pointer_told, PointerData, pointer_made, did_owns, behind, size_of_block, space_of, token_of, Denots, Valss, owns_of, within, tuple_type, declared, of_list, vstruct, feq_i}
use types.Run.{assigns}
use Rattle.piper_ring.specs.Places as P
use Rattle.piper_ring.specs.SlotValues.{IsUnused, LooksFirst}
use Rattle.piper_ring.specs.Log.{IsNew}
use Rattle.piper_ring.specs.contracts.log.Log as Log
use Rattle.piper_ring.specs.contracts.ring.slots.WaiterState as Waits
use Rattle.piper_ring.specs.contracts.ring.slots.WakerState as Wakes
use Rattle.piper_ring.proofs.Opening.{as_places, begins, Slotted, IsNamed}
use Rattle.piper_cells.specs.Space.{lender}
use Rattle.piper_cells.specs.contracts.lent_space.Lender as Lender
use Rattle.piper_cells.specs.contracts.token_cell.Token as Token
use Rattle.piper_ring.specs.contracts.ring.memory.Parts as Parts
use Rattle.piper_ring.specs.contracts.ring.places.Blank as Blank
use Rattle.piper_ring.specs.contracts.ring.seats.ReadSeat as ReadSeat
use Rattle.piper_ring.specs.contracts.ring.seats.WriteSeat as WriteSeat
use Rattle.piper_ring.specs.contracts.ring.seats.«open» as called
use Rattle.piper_ring.proofs.ring.seats.«open» as own

pub open_spec : {M : Type 1} → own.Statement.statement M
open_spec 𝓤 𝓛 𝓜 𝓡 wired =
    let H = 𝓛.H in let 𝓣 = tables 𝓤 H 𝓜 𝓡 𝓡.env in let En = called.ended in let fn = own.Code.function in let c = called.clauses 𝓛 𝓜.mem 𝓡.returns in
    let memory = plain (λ _. Parts.the_row) in let number = plain (λ _. Lender.the_row) in let TRow : RattleType = Token.the_row in let token = plain (λ _. TRow) in let mine = RefOf (0 ∷ []) tt (plain (λ _. TRow)) (λ _. tt) in let theirs = RefOf (1 ∷ []) tt (plain (λ _. TRow)) (λ _. tt) in
    let hs : Stays En.signature.params En.kept = (stay_dropped memory yes, (stay_dropped number yes, (stay_dropped token yes, (stay_dropped token yes, (stay_dropped mine yes, (stay_dropped theirs yes, tt)))))) in
    proved 𝓛 En hs c 𝓜 𝓡 (Goes-dropped 𝓛 2 memory yes (λ κs x f. refl), (Goes-dropped 𝓛 2 number yes (λ κs x f. refl), (Goes-dropped 𝓛 2 token yes (λ κs x f. refl), (Goes-dropped 𝓛 2 token yes (λ κs x f. refl), (Goes-dropped 𝓛 2 mine yes (λ κs x f. refl), (Goes-dropped 𝓛 2 theirs yes (λ κs x f. refl), tt)))))) called.Key.name fn (own.Code.unfolded 𝓤 H 𝓜 𝓡 wired)
    (λ κs. ((λ m. pointer_val m.start ∷ []), ((λ m. pointer_val m.start ∷ []), ((λ x. ghost_val ∷ []), ((λ x. ghost_val ∷ []), (shr_vals, (shr_vals, tt))))))) (λ κs. ((λ m vs is. pointer_told m.start vs is.0), ((λ m vs is. pointer_told m.start vs is.0), ((λ x vs so. ghost_told vs so.0), ((λ x vs so. ghost_told vs so.0), (shr_Tells (named 0) κs.0 TRow, (shr_Tells (named 1) κs.1.0 TRow, tt))))))) (λ κs qs bounds a gh are.
    let w₀ : Ptr = a.0.start in let cap : ℕ = a.0.capacity in let d : Lender.the_row.Denot = a.1.0 in let life : ℕ = d.life in let t₁ : TRow.Denot = a.1.1.0 in let t₂ : TRow.Denot = a.1.1.1.0 in let t₃ = a.1.1.1.1.0 in let t₄ = a.1.1.1.1.1.0 in let v₁ : Val = vptr t₃.ref_ptr.0 t₃.ref_ptr.1 in let v₂ : Val = vptr t₄.ref_ptr.0 t₄.ref_ptr.1 in let cells : List ℕ = t₁.name ∷ t₂.name ∷ t₃.now.name ∷ t₄.now.name ∷ [] in
    let y : (walk_of 𝓛 En hs c).Ghost = ((κs, qs, bounds, a, (pointer_val w₀ ∷ [], (pointer_val d.start ∷ [], (ghost_val ∷ [], (ghost_val ∷ [], (v₁ ∷ [], (v₂ ∷ [], tt))))))), gh) in let Post : Val → SProp 𝓤 = (walk_of 𝓛 En hs c).post y in
    qed 𝓛 ((raw (alive 𝓛 En.signature κs qs) ⊛ ‵ (owns (types_at En.signature.params κs) a y.0.4)) ∷ given ((d.start ≡ space_of w₀) × (d.words ≡ 12)) (‵ ftrue) ∷ given ((t₁.there ≡ true) × (t₁.filled ≡ false)) (‵ ftrue) ∷ given ((t₂.there ≡ true) × (t₂.filled ≡ false)) (‵ ftrue) ∷ []) ∵
    move ! (1 ∷ []) $ learn ! (λ asked. drop ! $ move ! (1 ∷ []) $ learn ! (λ first_is. drop ! $ move ! (1 ∷ []) $ learn ! (λ second_is. drop ! $ split ! $ move ! (1 ∷ []) $ fsplit3 ! $ fsplit ! $ drop ! $ fsplit3 ! $ fpick ! (λ at. drop ! $
    let w : Ptr = block_ptr (block_of w₀) (count_of w₀) in let p : Ptr = behind w in let at_w : w₀ ≡ w = at_block w₀ at.0 in let small : size_of_block cap < 2 ^ 63 = at.1 in
    move ! (1 ∷ []) $ fsplit3 ! $ rewrite ! 2 (λ (q : Ptr). ‵ (token_of cap q)) at_w refl $ move ! (4 ∷ []) $ fsplit ! $ drop ! $
    rewrite ! 0 (λ (r : Ptr × ℕ). ‵ (lender life r.1 r.0)) {x = (space_of w, 12)} {y = (d.start, d.words)} (λ i. (asked.0 i, asked.1 i)) refl $ move ! (3 ∷ 0 ∷ []) $ fjoin ! $
    move ! (3 ∷ []) $ fsplit ! $ fsplit3 ! $ move ! (2 ∷ []) $ fsplit ! $ move ! (4 ∷ []) $ fsplit ! $ move ! (9 ∷ []) $ fsplit3 ! $ fsplit ! $ drop ! $
    rewrite ! 0 (λ (r : Bool × Bool). ‵ (right r.0 t₁.name r.1)) {x = (true, false)} {y = (t₁.there, t₁.filled)} (λ i. (first_is.0 i, first_is.1 i)) refl $ move ! (1 ∷ []) $ fsplit ! $ drop ! $
    rewrite ! 0 (λ (r : Bool × Bool). ‵ (right r.0 t₂.name r.1)) {x = (true, false)} {y = (t₂.there, t₂.filled)} (λ i. (second_is.0 i, second_is.1 i)) refl $ keep ! (5 ∷ 6 ∷ 11 ∷ 7 ∷ 8 ∷ 3 ∷ 4 ∷ 10 ∷ 9 ∷ 1 ∷ 0 ∷ 12 ∷ []) $
    enter ! 𝓣.C 𝓣.Λ fn (pointer_val w₀ ∷ pointer_val d.start ∷ ghost_val ∷ ghost_val ∷ v₁ ∷ v₂ ∷ []) Post $ alloc_all ! (λ l. pass_all ! refl (word-Good [] w₀, (word-Good [] d.start, ((tt, (tt, tt)), ((tt, (tt, tt)), ((tt, tt), ((tt, tt), tt)))))) $ let Ev = env fn.locals l in
    sets ! (is ! (of_opd ! (get_in ! (fld ! refl (stop !)) (sub ! 0 refl (whole !)))) (ap ptr_val at_w)) refl (tt, tt) $ first ! $ blocks ! $
    sets ! (bin ! (get ! refl) (lit ! tt) tt) refl (tt, tt) $ assigns ! (of_opd ! (lit ! tt)) (through ! refl (stop !)) (init ! 3 refl (tt, record { fits = lit< tt })) $
    sets ! (bin ! (get ! refl) (lit ! tt) tt) refl (tt, tt) $ assigns ! (of_opd ! (lit ! tt)) (through ! refl (stop !)) (init ! 4 refl (tt, record { fits = lit< tt })) $
    sets ! (bin ! (get ! refl) (lit ! tt) tt) refl (tt, tt) $ assigns ! (of_opd ! (lit ! tt)) (through ! refl (stop !)) (init ! 0 refl (tt, record { fits = lit< tt })) $
    sets ! (bin ! (get ! refl) (lit ! tt) tt) refl (tt, tt) $ assigns ! (of_opd ! (lit ! tt)) (through ! refl (stop !)) (init ! 1 refl (tt, record { fits = lit< tt })) $
    sets ! (bin ! (get ! refl) (lit ! tt) tt) refl (tt, tt) $ assigns ! (of_opd ! (lit ! tt)) (through ! refl (stop !)) (init ! 5 refl (tt, record { fits = lit< tt })) $
    sets ! (bin ! (get ! refl) (lit ! tt) tt) refl (tt, tt) $ assigns_last ! (of_opd ! (lit ! tt)) (through ! refl (stop !)) (init ! 6 refl (tt, record { fits = lit< tt })) $
    exec ! 𝓣.C 𝓣.Λ Ev (from_on 2 fn.body) (at_ret Ev Post) $
    fjoin ! $ move ! (2 ∷ 3 ∷ 0 ∷ []) $ fjoin3 ! $ move ! (2 ∷ 6 ∷ []) $ fjoin ! $ move ! (3 ∷ 6 ∷ []) $ fjoin ! $ move ! (1 ∷ 0 ∷ []) $ fjoin ! $ move ! (2 ∷ 4 ∷ []) $ fjoin ! $ move ! (2 ∷ 0 ∷ 1 ∷ []) $
    use3 𝓛 (later (some (λ (z : Names). given (IsNamed 𝓛 w p cap cells life z) (‵ (reader_owns w p z 0 0 [] false) ⊛ ‵ (writer_owns w p z [] cap false) ⊛ ‵ (Slotted 𝓛 w p cap z) ⊛ ‵ (did_owns z.traced true true []) ⊛ ‵ (did_owns z.traced true false []))))) (begins 𝓛 w p cap cells life (tt, refl, small)) $ await ! tt $ pick ! (λ z. learn ! (λ ez. split3 ! $ move ! (2 ∷ []) $ split3 ! $
    move ! (1 ∷ []) $ use0 𝓛 (‵ (GhostData.own_val (record {}, tt) (ghost_val ∷ []))) (ghost_made 𝓛) $ fjoin ! $ move ! (2 ∷ []) $ use0 𝓛 (‵ (GhostData.own_val (record {}, tt) (ghost_val ∷ []))) (ghost_made 𝓛) $ fjoin ! $ move ! (1 ∷ 0 ∷ []) $ join ! $ move ! (2 ∷ 3 ∷ 1 ∷ []) $
    let one : ReadSeat.the_row.Denot = record { words = w; at = p; names = z; head = 0; seen = 0; have = []; leaving = false } in let two : WriteSeat.the_row.Denot = record { words = w; at = p; names = z; sent = []; limit = cap; shut = false } in
    let three : Blank.the_row.Denot = record { mark = record {}; at = p; capacity = cap; first = 0; count = cap } in let v : Val = pointer_val w in let small_cap : cap < 2 ^ 63 = omega arith in
    let waits : Bool → Waits.the_row.Denot = λ r. record { mark = record {}; names = z; for_reader = r; waits = false; tickets = 0; heard = nothing_stored } in let wakes : Bool → Wakes.the_row.Denot = λ r. record { mark = record {}; names = z; for_reader = r; taken = 0; stored = nothing_stored } in let log : Bool → Log.the_row.Denot = λ r. record { mark = record {}; names = z; reads = r; keeps = true; lines = [] } in let g : Val = ghost_val in
    use0 𝓛 (‵ (PointerData.own_val (w, tt) (v ∷ []))) (pointer_made 𝓛 w) $ fjoin ! $ move ! (1 ∷ []) $ use0 𝓛 (‵ (PointerData.own_val (w, tt) (v ∷ []))) (pointer_made 𝓛 w) $ fjoin ! $ move ! (4 ∷ []) $
    use1 𝓛 (‵ (span (unset p cap) 0 cap)) (as_places 𝓛 w p cap) $ nothing ! $ fpack ! (P.Placed p cap) (λ _. ftrue) (tt, small_cap) $ fjoin ! $ use0 𝓛 (‵ (GhostData.own_val (record {}, tt) (ghost_val ∷ []))) (ghost_made 𝓛) $ fjoin ! $
    move ! (3 ∷ []) $ fsplit ! $ fsplit ! $ move ! (2 ∷ []) $ fsplit ! $
    use0 𝓛 (‵ (GhostData.own_val (record {}, tt) (g ∷ []))) (ghost_made 𝓛) $ fjoin ! $ move ! (1 ∷ []) $ use0 𝓛 (‵ (GhostData.own_val (record {}, tt) (g ∷ []))) (ghost_made 𝓛) $ fjoin ! $ move ! (0 ∷ 7 ∷ []) $ join ! $ move ! (1 ∷ 0 ∷ []) $ join ! $ move ! (2 ∷ []) $
    use0 𝓛 (‵ (GhostData.own_val (record {}, tt) (g ∷ []))) (ghost_made 𝓛) $ fjoin ! $ join ! $ move ! (1 ∷ []) $ use0 𝓛 (‵ (GhostData.own_val (record {}, tt) (g ∷ []))) (ghost_made 𝓛) $ fjoin ! $ join ! $
    move ! (1 ∷ 0 ∷ []) $ join ! $ move ! (1 ∷ 0 ∷ []) $ join ! $ move ! (1 ∷ 0 ∷ []) $
    let Rs : List RattleType = ReadSeat.the_row ∷ WriteSeat.the_row ∷ Blank.the_row ∷ Waits.the_row ∷ Wakes.the_row ∷ Waits.the_row ∷ Wakes.the_row ∷ Log.the_row ∷ Log.the_row ∷ [] in let all : Val = vstruct (of_list (v ∷ v ∷ g ∷ g ∷ g ∷ g ∷ g ∷ g ∷ g ∷ [])) in
    let xs : Denots Rs = (one, (two, (three, (waits true, (wakes true, (waits false, (wakes false, (log true, (log false, tt))))))))) in let vss : Valss Rs = (v ∷ [], (v ∷ [], (g ∷ [], (g ∷ [], (g ∷ [], (g ∷ [], (g ∷ [], (g ∷ [], (g ∷ [], tt))))))))) in
    use2 𝓛 (‵ (owns Rs xs vss)) (owns_of 𝓛 Rs xs vss) $ feq_i ! (List Val) (all ∷ []) (all ∷ []) refl $ fjoin ! $ fpack ! (Valss Rs) (within (declared (tuple_type Rs)) xs (all ∷ [])) vss $
    sets ! (agg ! (and_then ! (get ! refl) (no_more !))) refl (tt, (tt, tt)) $ sets ! (agg ! (and_then ! (get ! refl) (no_more !))) refl (tt, (tt, tt)) $
    sets ! (agg ! (no_more !)) refl (tt, tt) $ sets ! (agg ! (and_then ! (get ! refl) (no_more !))) refl (tt, (tt, tt)) $
    sets ! (agg ! (no_more !)) refl (tt, tt) $ sets ! (agg ! (and_then ! (get ! refl) (no_more !))) refl (tt, (tt, tt)) $
    sets ! (agg ! (no_more !)) refl (tt, tt) $ sets ! (agg ! (and_then ! (get ! refl) (no_more !))) refl (tt, (tt, tt)) $
    sets ! (agg ! (no_more !)) refl (tt, tt) $ sets ! (agg ! (and_then ! (get ! refl) (no_more !))) refl (tt, (tt, tt)) $
    sets ! (agg ! (no_more !)) refl (tt, tt) $ sets ! (agg ! (and_then ! (get ! refl) (no_more !))) refl (tt, (tt, tt)) $
    sets ! (agg ! (no_more !)) refl (tt, tt) $ sets ! (agg ! (and_then ! (get ! refl) (no_more !))) refl (tt, (tt, tt)) $
    sets ! (agg ! (no_more !)) refl (tt, tt) $ sets ! (agg ! (and_then ! (get ! refl) (no_more !))) refl (tt, (tt, tt)) $
    sets ! (of_opd ! (get ! refl)) refl (tt, (tt, tt)) $ sets ! (of_opd ! (get ! refl)) refl (tt, (tt, tt)) $ sets ! (of_opd ! (get ! refl)) refl (tt, (tt, tt)) $ sets ! (of_opd ! (get ! refl)) refl (tt, (tt, tt)) $ sets ! (of_opd ! (get ! refl)) refl (tt, (tt, tt)) $ sets ! (of_opd ! (get ! refl)) refl (tt, (tt, tt)) $
    sets ! (of_opd ! (get ! refl)) refl (tt, (tt, tt)) $ sets ! (of_opd ! (get ! refl)) refl (tt, (tt, tt)) $ sets ! (of_opd ! (get ! refl)) refl (tt, (tt, tt)) $
    sets ! (agg ! (and_then ! (get ! refl) (and_then ! (get ! refl) (and_then ! (get ! refl) (and_then ! (get ! refl) (and_then ! (get ! refl) (and_then ! (get ! refl) (and_then ! (get ! refl) (and_then ! (get ! refl) (and_then ! (get ! refl) (no_more !))))))))))) refl (tt, ((tt, tt), ((tt, tt), ((tt, tt), ((tt, tt), ((tt, tt), ((tt, tt), ((tt, tt), ((tt, tt), ((tt, tt), tt)))))))))) $
    let Logs : Type 0 = IsNew z true (log true) × IsNew z false (log false) in use0 𝓛 (raw (fact 𝓤 Logs)) (fact_i 𝓤 Logs (emp 𝓤) (((refl, refl, refl), refl), ((refl, refl, refl), refl))) $
    use0 𝓛 (raw (fact 𝓤 (LooksFirst z false (wakes false)))) (fact_i 𝓤 (LooksFirst z false (wakes false)) (emp 𝓤) (refl, refl, refl, refl)) $ join ! $
    use0 𝓛 (raw (fact 𝓤 (IsUnused z false (waits false)))) (fact_i 𝓤 (IsUnused z false (waits false)) (emp 𝓤) (refl, refl, refl, refl, refl)) $ join ! $
    use0 𝓛 (raw (fact 𝓤 (LooksFirst z true (wakes true)))) (fact_i 𝓤 (LooksFirst z true (wakes true)) (emp 𝓤) (refl, refl, refl, refl)) $ join ! $
    use0 𝓛 (raw (fact 𝓤 (IsUnused z true (waits true)))) (fact_i 𝓤 (IsUnused z true (waits true)) (emp 𝓤) (refl, refl, refl, refl, refl)) $ join ! $
    use0 𝓛 (raw (fact 𝓤 ((p ≡ p) × (cap ≡ cap) × (0 ≡ 0) × (cap ≡ cap)))) (fact_i 𝓤 ((p ≡ p) × (cap ≡ cap) × (0 ≡ 0) × (cap ≡ cap)) (emp 𝓤) (refl, refl, refl, refl)) $ join ! $
    use0 𝓛 (raw (fact 𝓤 ((two.sent ≡ two.sent) × (cap ≡ cap) × (false ≡ false)))) (fact_i 𝓤 ((two.sent ≡ two.sent) × (cap ≡ cap) × (false ≡ false)) (emp 𝓤) (refl, refl, refl)) $ join ! $
    use0 𝓛 (raw (fact 𝓤 ((w ≡ w) × (p ≡ p) × (z ≡ z)))) (fact_i 𝓤 ((w ≡ w) × (p ≡ p) × (z ≡ z)) (emp 𝓤) (refl, refl, refl)) $ join ! $
    use0 𝓛 (raw (fact 𝓤 ((0 ≡ 0) × (0 ≡ 0) × (one.have ≡ one.have) × (false ≡ false)))) (fact_i 𝓤 ((0 ≡ 0) × (0 ≡ 0) × (one.have ≡ one.have) × (false ≡ false)) (emp 𝓤) (refl, refl, refl, refl)) $ join ! $
    use0 𝓛 (raw (fact 𝓤 (z.cells ≡ cells))) (fact_i 𝓤 (z.cells ≡ cells) (emp 𝓤) ez.1) $ join ! $
    use0 𝓛 (raw (fact 𝓤 ((w ≡ w₀) × (z.capacity ≡ cap) × (z.life ≡ life)))) (fact_i 𝓤 ((w ≡ w₀) × (z.capacity ≡ cap) × (z.life ≡ life)) (emp 𝓤) (sym at_w, ez.0, ez.2)) $ join ! $
    nothing ! $ nothing ! $ fjoin ! $ nothing ! $ fjoin ! $ nothing ! $ fjoin ! $ nothing ! $ fjoin ! $ nothing ! $ fjoin ! $ nothing ! $ fjoin ! $
    returns ! (look_at ! 0 refl) $ free_all ! refl $ keep ! (3 ∷ 0 ∷ 2 ∷ 1 ∷ []) $ by ! (leaves 𝓛 En hs c y all (one, two, three, waits true, wakes true, waits false, wakes false, log true, log false) (tt, (tt, (tt, (tt, (tt, (tt, tt)))))) (tt, (tt, (tt, (tt, (tt, (tt, tt)))))))))))))))
