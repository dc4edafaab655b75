-- `take_back` ends the lifetime, and so has the room again. Assumes `Logic`.
use Rattle.piper_cells.proofs.SpaceKit.{◌≡◌, ℕ, Bool, true, false, [], ◌∷◌, refl, Val, SProp, emp, full_share, ftrue, flft, tables, fact, fact_i, ‵, raw, ◌⊛◌, ◌$◌, ◌∵◌, !, qed, by, move, keep, drop, split, fsplit, fsplit3, fjoin, fpick, fpack, rewrite, use0, use2, stop, fld, of_opd, no_more, and_then, returns, enter, alloc_all, pass_all, free_all, look_at, get, get_in, sets, env, agg, sub, whole, lft_end, lent_back, yes, RattleType, owns, Ptr, InBlock, plain, types_at, nothing, heard, alive, Stays, stay_dropped, walk_of, Goes-dropped, proved, leaves, word-Good, ptr-Good, lease}
use Rattle.piper_cells.proofs.Fields.{pointer_val, ghost_val, PointerData, pointer_told, ghost_told, pointer_made}
use Rattle.piper_cells.specs.contracts.lent_space.Space as Space
use Rattle.piper_cells.specs.contracts.lent_space.Lender as Lender
use Rattle.piper_cells.specs.contracts.lent_space.Lease as Lease
use Rattle.piper_cells.specs.contracts.lent_space.Lender.take_back.{ended, clauses}
use Rattle.piper_cells.specs.contracts.lent_space.Lender.take_back.Key.{name as #self}
use Rattle.piper_cells.proofs.lent_space.Lender.take_back.Statement.{statement}
use Rattle.piper_cells.proofs.lent_space.Lender.take_back.Code as code

pub take_back_spec : {M : Type 1} → statement M
take_back_spec 𝓤 𝓛 𝓜 𝓡 wired =
    let H = 𝓛.H in let 𝓣 = tables 𝓤 H 𝓜 𝓡 𝓡.env in let En = ended in let fn = code.function in let c = clauses 𝓛 𝓜.mem 𝓡.returns in
    let self = plain (λ _. Lender.the_row) in let key = plain (λ _. Lease.the_row) in let hs : Stays En.signature.params En.kept = (stay_dropped self yes, (stay_dropped key yes, (stay_dropped key yes, tt))) in let Row : RattleType = Space.the_row in
    proved 𝓛 En hs c 𝓜 𝓡 (Goes-dropped 𝓛 0 self yes (λ κs x f. refl), (Goes-dropped 𝓛 0 key yes (λ κs x f. refl), (Goes-dropped 𝓛 0 key yes (λ κs x f. refl), tt))) #self fn (code.unfolded 𝓤 H 𝓜 𝓡 wired)
    (λ κs. ((λ x. pointer_val x.start ∷ []), ((λ x. ghost_val ∷ []), ((λ x. ghost_val ∷ []), tt)))) (λ κs. ((λ x vs is. pointer_told x.start vs is.0), ((λ x vs is. ghost_told vs is.0), ((λ x vs is. ghost_told vs is.0), tt)))) (λ κs qs bounds a gh are.
    let p : Ptr = a.0.start in let n : ℕ = a.0.words in let life : ℕ = a.0.life in let one = a.1.0 in let two = a.1.1.0 in
    let y : (walk_of 𝓛 En hs c).Ghost = ((κs, qs, bounds, a, (pointer_val p ∷ [], (ghost_val ∷ [], (ghost_val ∷ [], tt)))), gh) in let Post : Val → SProp 𝓤 = (walk_of 𝓛 En hs c).post y in
    let new : Row.Denot = record { start = p; words = n } in let Told : Type 0 = (p ≡ p) × (n ≡ n) in
    let Same : Type 0 = (one.life ≡ life) × (two.life ≡ life) in let Both : Type 0 = (one.first ≡ true) × (two.first ≡ false) in
    qed 𝓛 ((raw (alive 𝓛 En.signature κs qs) ⊛ ‵ (owns (types_at En.signature.params κs) a y.0.4)) ∷ raw (fact 𝓤 Same) ∷ raw (fact 𝓤 Both) ∷ []) ∵
    move ! (1 ∷ []) $ heard ! Same (λ same. move ! (1 ∷ []) $ heard ! Both (λ both. split ! $ move ! (1 ∷ []) $ fsplit3 ! $ fsplit ! $ drop ! $ fsplit ! $ fpick ! (λ inb. drop ! $
    move ! (1 ∷ []) $ fsplit ! $ drop ! $ rewrite ! 0 (λ (u : ℕ × Bool). ‵ (lease u.0 u.1)) {x = (life, true)} {y = (one.life, one.first)} (λ i. (same.0 i, both.0 i)) refl $
    move ! (2 ∷ []) $ fsplit ! $ fsplit ! $ drop ! $ rewrite ! 0 (λ (u : ℕ × Bool). ‵ (lease u.0 u.1)) {x = (life, false)} {y = (two.life, two.first)} (λ i. (same.1 i, both.1 i)) refl $
    keep ! (2 ∷ 0 ∷ 3 ∷ 4 ∷ []) $
    -- [the leases' tokens; what the lender kept; no tokens]
    use2 𝓛 (‵ (flft (life ∷ []) full_share)) (𝓛.lfts.lft_join (life ∷ []) full_share) $
    enter ! 𝓣.C 𝓣.Λ fn (pointer_val p ∷ ghost_val ∷ ghost_val ∷ []) Post $
    alloc_all ! (λ l. pass_all ! refl (word-Good [] p, ((tt, (tt, tt)), ((tt, (tt, tt)), tt))) $ let Ev = env fn.locals l in
    lft_end ! tt $ lent_back ! tt $ nothing ! $ fpack ! (InBlock p) (λ _. ftrue) inb $ fjoin ! $ use0 𝓛 (‵ (PointerData.own_val (p, tt) (pointer_val p ∷ []))) (pointer_made 𝓛 p) $ fjoin ! $ move ! (1 ∷ []) $
    sets ! (of_opd ! (get_in ! (fld ! refl (stop !)) (sub ! 0 refl (whole !)))) refl (ptr-Good p) $ sets ! (agg ! (and_then ! (get ! refl) (no_more !))) refl (word-Good [] p) $
    use0 𝓛 (raw (fact 𝓤 Told)) (fact_i 𝓤 Told (emp 𝓤) (refl, refl)) $ nothing ! $ nothing ! $ fjoin ! $ nothing ! $ fjoin ! $ nothing ! $ fjoin ! $
    returns ! (look_at ! 0 refl) $ free_all ! refl $ keep ! (2 ∷ 0 ∷ 3 ∷ 1 ∷ []) $ by ! (leaves 𝓛 En hs c y (pointer_val p) new (tt, (tt, (tt, tt))) (tt, (tt, (tt, tt)))))))))
