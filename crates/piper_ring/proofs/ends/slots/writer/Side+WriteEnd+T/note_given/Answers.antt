-- The log has it that so many places were lent.
use Rattle.piper_ring.proofs.Kit.{ℕ, ◌≤◌, ◌∙◌, length, Result, IfOk, min, ap, sym, subst, arith, MOST_A_ROUND, Names}
use Rattle.piper_ring.proofs.Told.{is_within, lent_is}
use Rattle.piper_ring.proofs.ends.slots.writer.Side+WriteEnd+T.note_given.Goals as goal

pub note-requires : goal.note-requires
note-requires g c =
    let s = c.args.self.now in let l = c.lent.ensures in let same = lent_is _ _ s.end l.bounds (c.lent.ensures.bounds.0 ∙ ap (λ (z : Names). z.capacity) (sym s.of_one_ring ∙ sym s.own_log.1)) s.seen s.moved s.shut in
    let few = subst (λ (r : Result ℕ g.row.F.Denot). IfOk r (λ n. n ≤ min MOST_A_ROUND (length s.end.lent))) c.in-Ok.is c.requires.within in
    (c.requires.turn, is_within _ _ (omega (arith, same, few, l.value, l.within)))
