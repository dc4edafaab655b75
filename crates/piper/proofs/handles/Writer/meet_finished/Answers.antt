-- What the writer has of its log, and what is left of the reader's.
use Rattle.std.proofs.Common.{◌≡◌, ℕ, Bool, true, ap, refl, rules, sym, subst, ◌∙◌}
use Rattle.piper_protocol.specs.Told.{are_told}
use Rattle.piper_protocol.specs.declared.table.Side.TheVariants.{Reader, Writer}
use Rattle.piper_ring.specs.Log.{accesses_of, is_at_rest, is_noted}
use Rattle.piper_ring.specs.Shared.{Names}
use Rattle.piper_ring.specs.Trace.{side_of}
use Rattle.piper_ring.proofs.Told.{rests_settled}
use Rattle.piper.proofs.handles.Writer.meet_finished.Goals as goal

pub returns-clause-list : goal.returns-clause-list
unfolding accesses_of
returns-clause-list c = search rules

pub returns-clause-logs : goal.returns-clause-logs
unfolding is_at_rest is_noted
returns-clause-logs c =
    let w = c.args.self.now.side in let l = c.args.left.now in
    let ring = rw c.end.ensures at c.capacity.ensures.ring in
    let own = ring ∙ ap (λ (z : Names). z.capacity) (sym w.of_one_ring ∙ sym w.own_log.1) in
    let other = ring ∙ ap (λ (z : Names). z.capacity) (sym c.requires ∙ sym l.of_one_ring ∙ sym l.own_log.1) in (
      record {
        told = subst (λ (k : ℕ). are_told k Writer w.log.lines ≡ true) (sym own) (subst (λ (b : Bool). are_told w.log.names.capacity (side_of b) w.log.lines ≡ true) w.own_log.2 w.right);
        calls = w.calls;
        settled = rests_settled w.log.lines c.args.self.now.rests;
        bytes = w.moved;
      },
      record {
        told = subst (λ (k : ℕ). are_told k Reader l.log.lines ≡ true) (sym other) (subst (λ (b : Bool). are_told l.log.names.capacity (side_of b) l.log.lines ≡ true) l.own_log.2 l.right);
        calls = l.calls;
        settled = l.noted;
        bytes = refl;
      },
    )
