-- What the end has heard of goes on as far as what it was told of.
use Rattle.piper_ring.proofs.Kit.{◌∙◌, rules, arith, common_steps, Stream, reaches_trans}
use base.Growing.{prefix_trans}
use Rattle.piper_ring.proofs.ends.reader.ReadEnd.observe.Goals as goal

pub returns : goal.returns
returns c = record { observed = search rules; shut = search rules; agree = grind (arith, common_steps); last = grind (arith, common_steps); all = search rules; rest = search rules }

pub invariant_of-self : goal.invariant_of-self
invariant_of-self c = let e = c.self.inside.parts in let i = c.self.invariant in let t = c.observe.ensures in let h = c.observe-2.ensures in let g = c.observe.new.self in let k = c.observe-2.new.self in
    let observed : Stream = (e.observed.bytes, e.observed.shut) in let saw : Stream = (e.saw.bytes, e.saw.shut) in let heard : Stream = (e.heard.bytes, e.heard.shut) in let now : Stream = (k.bytes, k.shut) in
    record {
      fits = i.fits;
      placed = i.placed;
      counts = i.counts;
      cached = i.cached;
      heard = (t.ring ∙ i.heard.0, i.heard.1, h.ring ∙ i.heard.2);
      stream = (prefix_trans e.seat.have e.heard.bytes k.bytes i.stream.0 h.kept.0, t.no_more now (reaches_trans observed heard now i.stream.1 h.kept) h.observed, reaches_trans saw heard now i.stream.2 h.kept);
      leased = i.leased;
      whole = i.whole;
      here = i.here;
    }
