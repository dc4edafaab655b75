-- What the reader has of its log, and what is left of the writer, is said together.
use Rattle.std.proofs.Common.{◌≡◌, ℕ, Bool, true, List, ◌++◌, rules, ap, sym, subst, ◌∙◌, append_assoc, arith}
use Rattle.piper_protocol.specs.Told.{are_told}
use Rattle.piper_protocol.specs.declared.table.Side.TheVariants.{Reader, Writer}
use Rattle.piper_ring.specs.Log.{accesses_of, is_at_rest, is_noted}
use Rattle.piper_ring.specs.Shared.{Names}
use Rattle.piper_ring.specs.Trace.{side_of}
use Rattle.piper_ring.proofs.Told.{rests_settled}
use Rattle.piper.specs.ReaderCalls.{HaveTrueLogs}
use Rattle.piper.proofs.handles.Reader.meet_finished.Goals as goal

pub returns-clause-logs : goal.returns-clause-logs
unfolding HaveTrueLogs accesses_of is_at_rest is_noted
returns-clause-logs c =
    let r = c.args.self.now.side in let l = c.args.left.now in
    let ring = rw c.end.ensures at c.capacity.ensures.ring in
    let own = ring ∙ ap (λ (z : Names). z.capacity) (sym r.of_one_ring ∙ sym r.own_log.1) in
    let other = ring ∙ ap (λ (z : Names). z.capacity) (sym c.requires ∙ sym l.of_one_ring ∙ sym l.own_log.1) in
    let last = c.observe.ensures.end.last l.after_its_close.0 in
    let known : List ℕ = c.observe.new.self.end.known in record {
      some = let size = rw c.end.ensures at c.capacity.ensures.value in omega (arith, size, c.capacity.ensures.bounds.0);
      reads = record {
        told = subst (λ (k : ℕ). are_told k Reader r.log.lines ≡ true) (sym own) (subst (λ (b : Bool). are_told r.log.names.capacity (side_of b) r.log.lines ≡ true) r.own_log.2 r.right);
        calls = r.calls;
        settled = rests_settled r.log.lines c.args.self.now.rests;
        bytes = r.moved;
      };
      writes = record {
        told = subst (λ (k : ℕ). are_told k Writer l.log.lines ≡ true) (sym other) (subst (λ (b : Bool). are_told l.log.names.capacity (side_of b) l.log.lines ≡ true) l.own_log.2 l.right);
        calls = l.calls;
        settled = l.noted;
        bytes = l.moved;
      };
      list = search rules;
      rest = known ++ last.1.0;
      order = sym (append_assoc r.end.taken known last.1.0) ∙ subst (λ (t : List ℕ). (t ++ known) ++ last.1.0 ≡ c.observe.new.self.end.all) (search rules) last.1.1 ∙ last.0;
    }
