-- What both sides have of their logs is said together.
use Rattle.piper_ring.proofs.Kit.{◌≡◌, ℕ, Bool, true, rules, ap, sym, subst, ◌∙◌, arith, are_told, Reader, Writer, Names, Ring, side_of}
use Rattle.piper_ring.specs.Log.{accesses_of, is_at_rest}
use Rattle.piper_ring.proofs.Told.{rests_settled}
use Rattle.piper_ring.proofs.ends.slots.reader.Side+ReadEnd+T.meet.Goals as goal

pub returns-clause-logs : goal.returns-clause-logs
unfolding accesses_of is_at_rest
returns-clause-logs g c =
    let r = c.args.self.now in let w = c.args.writer.now in
    let own = c.capacity.ensures.ring ∙ ap (λ (z : Names). z.capacity) (sym r.of_one_ring ∙ sym r.own_log.1) in
    let other = c.capacity.ensures.ring ∙ ap (λ (i : Ring). i.names.capacity) (sym c.requires.ring) ∙ ap (λ (z : Names). z.capacity) (sym w.of_one_ring ∙ sym w.own_log.1) in record {
      some = omega (arith, c.capacity.ensures.value, c.capacity.ensures.bounds.0);
      reads = record {
        told = subst (λ (k : ℕ). are_told k Reader r.log.lines ≡ true) (sym own) (subst (λ (b : Bool). are_told r.log.names.capacity (side_of b) r.log.lines ≡ true) r.own_log.2 r.right);
        calls = r.calls;
        settled = rests_settled r.log.lines c.requires.rest.0;
        bytes = r.moved;
      };
      writes = record {
        told = subst (λ (k : ℕ). are_told k Writer w.log.lines ≡ true) (sym other) (subst (λ (b : Bool). are_told w.log.names.capacity (side_of b) w.log.lines ≡ true) w.own_log.2 w.right);
        calls = w.calls;
        settled = rests_settled w.log.lines c.requires.rest.1;
        bytes = w.moved;
      };
      list = search rules;
      rest = c.meet.new.self.known;
      order = search rules;
    }
