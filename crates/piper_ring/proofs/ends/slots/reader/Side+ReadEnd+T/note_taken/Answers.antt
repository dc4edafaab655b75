-- The log has it that so many bytes were shown.
use Rattle.piper_ring.proofs.Kit.{ℕ, ◌≤◌, ◌∙◌, Result, IfOk, min, ap, sym, subst, arith, MOST_A_ROUND, Names, in_one_piece}
use Rattle.piper_ring.proofs.Told.{is_within, shown_is}
use Rattle.piper_ring.proofs.ends.slots.reader.Side+ReadEnd+T.note_taken.Goals as goal

pub note-requires : goal.note-requires
note-requires g c =
    let s = c.args.self.now in let same = shown_is _ _ s.end (c.capacity.ensures.ring ∙ ap (λ (z : Names). z.capacity) (sym s.of_one_ring ∙ sym s.own_log.1)) s.seen s.moved s.shut in
    let few = subst (λ (r : Result ℕ g.row.F.Denot). IfOk r (λ n. n ≤ min MOST_A_ROUND (in_one_piece s.end))) c.in-Ok.is c.requires.within in
    (c.requires.turn, is_within _ _ (omega (arith, same, few)))
