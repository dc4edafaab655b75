-- All that was published lies at most a turn past the head, and what is lent lies in the room that
-- is left.
-- Both ends keep their views as the one comes to know of all bytes, and the other of all room.
use Rattle.piper_ring.proofs.Kit.{◌≡◌, ℕ, ◌+◌, ◌-◌, ◌^◌, ◌<◌, ◌≤◌, ◌++◌, List, length, take, arith, sym, subst, ap, ◌∙◌, length-append, IsPrefix, position_of, ReaderIndices, WriterIndices, Names, ring_of, Stream, reaches_trans, ReadView, WriteView, slot_of as offset_of, common_steps, distance, Ring}
use Rattle.piper_ring.specs.ReadView.{read_view, KnowsMore}
use Rattle.piper_ring.proofs.Indices.{apart}
use Rattle.piper_ring.proofs.WriterFacts.{sent_below}
use Rattle.piper_ring.proofs.ReaderFacts.{all_stays}
use Rattle.piper_ring.proofs.Taking.{all_counted, taken_stays, whole_with_more}
use Rattle.piper_ring.proofs.ends.reader.ReadEnd.meet.Goals as goal

pub set_tail-requires-clause-within : goal.set_tail-requires-clause-within
set_tail-requires-clause-within c = let e = c.self.inside.parts in let i = c.self.invariant in let w = c.other.inside.parts in let o = c.other.invariant in let m = c.meet-arrived.ensures in
    let names : w.seat.names ≡ e.seat.names = ap (λ (r : WriteView). r.ring.names) c.other.view_is ∙ ap (λ (r : Ring). r.names) c.requires ∙ sym (ap (λ (r : ReadView). r.ring.names) c.self.view_is) in
    let cap : w.indices.capacity ≡ e.indices.capacity = o.fits.0 ∙ ap (λ (z : Names). z.capacity) names ∙ sym i.fits.0 in
    let own : e.indices.capacity ≡ e.seat.names.capacity = i.fits.0 in let s : ℕ = length w.seat.sent in let below : s ≤ w.seat.limit = sent_below w o in
    let all : length e.seat.have + length c.meet-arrived.result.0.bytes ≡ s = sym (length-append e.seat.have c.meet-arrived.result.0.bytes) ∙ ap length m.published in let low : e.seat.head ≤ length e.seat.have = i.whole.0 in
    let turn : w.seat.limit + length c.meet-arrived.result.1.bytes ≡ e.seat.head + e.seat.names.capacity = m.room in
    let near : s - e.seat.head ≤ e.indices.capacity = omega arith in
    subst (λ (k : ℕ). k ≤ e.indices.capacity) (sym (apart _ _ _ e.seat.head s (omega arith) (omega arith) i.cached.0 (c.tail.ensures.value ∙ o.cached.0 ∙ ap (λ (n : ℕ). position_of n s) cap))) near

pub set_head-requires-clause-lent : goal.set_head-requires-clause-lent
set_head-requires-clause-lent c = let e = c.self.inside.parts in let i = c.self.invariant in let w = c.other.inside.parts in let o = c.other.invariant in let m = c.meet-arrived.ensures in let cap : ℕ = w.indices.capacity in
    let names : w.seat.names ≡ e.seat.names = ap (λ (r : WriteView). r.ring.names) c.other.view_is ∙ ap (λ (r : Ring). r.names) c.requires ∙ sym (ap (λ (r : ReadView). r.ring.names) c.self.view_is) in
    let same : e.indices.capacity ≡ cap = i.fits.0 ∙ ap (λ (z : Names). z.capacity) (sym names) ∙ sym o.fits.0 in let own : cap ≡ e.seat.names.capacity = o.fits.0 ∙ ap (λ (z : Names). z.capacity) names in
    let s : ℕ = length w.seat.sent in let below : s ≤ w.seat.limit = sent_below w o in let turn : w.seat.limit + length c.meet-arrived.result.1.bytes ≡ e.seat.head + e.seat.names.capacity = m.room in
    let all : length e.seat.have + length c.meet-arrived.result.0.bytes ≡ s = sym (length-append e.seat.have c.meet-arrived.result.0.bytes) ∙ ap length m.published in let low : e.seat.head ≤ length e.seat.have = i.whole.0 in
    let at : c.head.result ≡ position_of cap e.seat.head = c.head.ensures.value ∙ ap (λ (r : ReaderIndices). r.head) c.set_tail.ensures.after ∙ i.cached.0 ∙ ap (λ (n : ℕ). position_of n e.seat.head) same in
    let far : distance cap c.head.result w.indices.tail ≡ s - e.seat.head = apart cap _ _ e.seat.head s (omega arith) (omega arith) at o.cached.0 in
    let first : w.room.lent.first ≡ s = o.placed.2 in let ready : w.room.ready.first ≡ w.room.lent.first + length w.room.lent.bytes = o.room.0.chain.0 in let rest : w.room.ready.first + length w.room.ready.bytes + w.room.blank.count ≡ w.room.later.first = o.room.0.chain.1 in
    let last : w.room.later.first + length w.room.later.bytes ≡ w.seat.limit = o.placed.3 in let many : w.indices.lent ≡ length w.room.lent.bytes = o.lending in omega arith

pub invariant_of-self : goal.invariant_of-self
invariant_of-self c = let e = c.self.inside.parts in let i = c.self.invariant in let w = c.other.inside.parts in let o = c.other.invariant in let m = c.meet-arrived.ensures in let s = m.reader in let k = c.join.ensures in let h = c.observe.ensures in let after = c.set_tail.ensures.after in
    let more : List ℕ = c.meet-arrived.result.0.bytes in let sent : List ℕ = w.seat.sent in let head : ℕ = e.seat.head in
    let names : w.seat.names ≡ e.seat.names = ap (λ (r : WriteView). r.ring.names) c.other.view_is ∙ ap (λ (r : Ring). r.names) c.requires ∙ sym (ap (λ (r : ReadView). r.ring.names) c.self.view_is) in
    let cap : c.set_tail.new.self.capacity ≡ e.indices.capacity = ap (λ (r : ReaderIndices). r.capacity) after in let theirs : w.indices.capacity ≡ e.indices.capacity = o.fits.0 ∙ ap (λ (z : Names). z.capacity) names ∙ sym i.fits.0 in
    let all : length e.seat.have + length more ≡ length sent = sym (length-append e.seat.have more) ∙ ap length m.published in let counted : length e.seat.have ≡ head + length e.known.bytes = all_counted e.seat.have e.known.bytes head 0 i.whole.0 i.whole.1 in
    let grown : length c.join.new.self.bytes ≡ length e.known.bytes + length more = ap length (λ j. (k j).bytes) ∙ length-append e.known.bytes more in
    let seen : c.meet-arrived.new.self.seen ≡ length sent = (λ j. (s j).seen) in let top : c.meet-arrived.new.self.head ≡ head = (λ j. (s j).head) in let have : c.meet-arrived.new.self.have ≡ sent = (λ j. (s j).have) in
    let own : e.indices.capacity ≡ e.seat.names.capacity = i.fits.0 in let below : length sent ≤ w.seat.limit = sent_below w o in let turn : w.seat.limit + length c.meet-arrived.result.1.bytes ≡ head + e.seat.names.capacity = m.room in
    let pos : 0 < e.indices.capacity = i.fits.1 in let small : e.indices.capacity < 2 ^ 63 = i.fits.2 in let low : head ≤ length e.seat.have = i.whole.0 in
    let observed : Stream = (e.observed.bytes, e.observed.shut) in let saw : Stream = (e.saw.bytes, e.saw.shut) in let heard : Stream = (e.heard.bytes, e.heard.shut) in let now : Stream = (c.observe.new.self.bytes, c.observe.new.self.shut) in
    let mark : c.mark.result.bytes ≡ c.meet-arrived.new.self.have = c.mark.ensures.1 ∙ (λ j. (m.writer j).sent) ∙ sym have in let long : length c.meet-arrived.new.self.have ≡ length sent = ap length have in
    record {
      fits = (cap ∙ i.fits.0 ∙ ap (λ (z : Names). z.capacity) (sym (λ j. (s j).names)), omega arith, omega arith);
      placed = ((λ j. (k j).at) ∙ i.placed.0 ∙ sym (λ j. (s j).at), (λ j. (k j).capacity) ∙ i.placed.1 ∙ ap (λ (z : Names). z.capacity) (sym (λ j. (s j).names)), (λ j. (k j).first) ∙ i.placed.2 ∙ sym top);
      counts = (omega arith, omega arith);
      cached = (ap (λ (r : ReaderIndices). r.head) after ∙ i.cached.0 ∙ sym (λ j. position_of (cap j) (top j)), ap (λ (r : ReaderIndices). r.tail) after ∙ c.tail.ensures.value ∙ o.cached.0 ∙ (λ j. position_of ((theirs ∙ sym cap) j) (sym seen j)));
      heard = (i.heard.0 ∙ sym (λ j. (s j).names), i.heard.1 ∙ sym (λ j. (s j).names), h.ring ∙ i.heard.2 ∙ sym (λ j. (s j).names));
      stream = (subst (λ (l : List ℕ). IsPrefix l c.observe.new.self.bytes) mark h.observed.0, reaches_trans observed heard now i.stream.1 h.kept, reaches_trans saw heard now i.stream.2 h.kept);
      leased = (i.leased.0 ∙ ap (λ (z : Names). z.life) (sym (λ j. (s j).names)), i.leased.1);
      whole = (omega arith, have ∙ sym m.published ∙ whole_with_more e.seat.have e.known.bytes more head i.whole.0 i.whole.1 ∙ (λ j. take (sym top j) ((m.published ∙ sym have) j) ++ (sym k j).bytes));
      here = (λ j. (s j).leaving) ∙ i.here;
    }

pub invariant_of-other : goal.invariant_of-other
invariant_of-other c = let e = c.self.inside.parts in let i = c.self.invariant in let w = c.other.inside.parts in let o = c.other.invariant in let r = w.room in let m = c.meet-arrived.ensures in let s = m.writer in let k = c.join-2.ensures in let after = c.set_head.ensures.after in
    let names : w.seat.names ≡ e.seat.names = ap (λ (r : WriteView). r.ring.names) c.other.view_is ∙ ap (λ (r : Ring). r.names) c.requires ∙ sym (ap (λ (r : ReadView). r.ring.names) c.self.view_is) in
    let cap : c.set_head.new.self.capacity ≡ w.indices.capacity = ap (λ (x : WriterIndices). x.capacity) after in let theirs : e.indices.capacity ≡ w.indices.capacity = i.fits.0 ∙ ap (λ (z : Names). z.capacity) (sym names) ∙ sym o.fits.0 in let own : e.indices.capacity ≡ e.seat.names.capacity = i.fits.0 in
    let more : List ℕ = c.meet-arrived.result.1.bytes in let head : ℕ = e.seat.head in let sl : ℕ = length w.seat.sent in
    let limit : c.meet-arrived.new.other.limit ≡ head + e.seat.names.capacity = (λ j. (s j).limit) in let turn : w.seat.limit + length more ≡ head + e.seat.names.capacity = m.room in let sent : length c.meet-arrived.new.other.sent ≡ sl = ap length (λ j. (s j).sent) in
    let grown : length c.join-2.new.self.bytes ≡ length r.later.bytes + length more = ap length (λ j. (k j).bytes) ∙ length-append r.later.bytes more in let last : r.later.first + length r.later.bytes ≡ w.seat.limit = o.placed.3 in let first : c.join-2.new.self.first ≡ r.later.first = (λ j. (k j).first) in
    let all : length e.seat.have + length c.meet-arrived.result.0.bytes ≡ sl = sym (length-append e.seat.have c.meet-arrived.result.0.bytes) ∙ ap length m.published in let low : head ≤ length e.seat.have = i.whole.0 in let pos : 0 < w.indices.capacity = o.fits.1 in let small : w.indices.capacity < 2 ^ 63 = o.fits.2 in
    let at : c.head.result ≡ position_of w.indices.capacity head = c.head.ensures.value ∙ ap (λ (x : ReaderIndices). x.head) c.set_tail.ensures.after ∙ i.cached.0 ∙ ap (λ (n : ℕ). position_of n head) theirs in let back : head ≡ c.meet-arrived.new.other.limit - c.set_head.new.self.capacity = omega arith in
    record {
      fits = (cap ∙ o.fits.0 ∙ ap (λ (z : Names). z.capacity) (sym (λ j. (s j).names)), omega arith, omega arith);
      room = (
        record {
          memory = (o.room.0.memory.0, o.room.0.memory.1, (λ j. (k j).at) ∙ o.room.0.memory.2);
          capacity = (o.room.0.capacity.0, o.room.0.capacity.1, (λ j. (k j).capacity) ∙ o.room.0.capacity.2);
          chain = (o.room.0.chain.0, o.room.0.chain.1 ∙ sym first);
          zeroing = o.room.0.zeroing;
          first_turn = o.room.0.first_turn;
        },
        ap (λ (x : WriterIndices). x.zeroed) after ∙ o.room.1,
      );
      placed = (o.placed.0 ∙ sym (λ j. (s j).at), o.placed.1 ∙ ap (λ (z : Names). z.capacity) (sym (λ j. (s j).names)), o.placed.2 ∙ sym sent, omega arith);
      freed = (omega arith, omega arith);
      cached = (ap (λ (x : WriterIndices). x.tail) after ∙ o.cached.0 ∙ sym (λ j. position_of (cap j) (sent j)), ap (λ (x : WriterIndices). x.head) after ∙ at ∙ (λ j. position_of (sym cap j) (back j)));
      leased = (o.leased.0 ∙ ap (λ (z : Names). z.life) (sym (λ j. (s j).names)), o.leased.1);
      lending = ap (λ (x : WriterIndices). x.lent) after ∙ o.lending;
      heard = (o.heard.0 ∙ sym (λ j. (s j).names), o.heard.1 ∙ sym (λ j. (s j).names));
      closed = ap (λ (x : WriterIndices). x.is_shut) after ∙ o.closed ∙ sym (λ j. (s j).shut);
      lends_none = λ shut. o.lends_none (sym (λ j. (s j).shut) ∙ shut);
      piece = subst (λ (k : ℕ). k ≤ c.set_head.new.self.capacity) (λ j. offset_of (sym cap j) (sym sent j) + length r.lent.bytes) (subst (λ (k : ℕ). offset_of w.indices.capacity sl + length r.lent.bytes ≤ k) (sym cap) o.piece);
    }

pub returns : goal.returns
returns c = let e = c.self.inside.parts in let i = c.self.invariant in let m = c.meet-arrived.ensures in let s = m.reader in let k = c.join.ensures in let head : ℕ = e.seat.head in let more : List ℕ = c.meet-arrived.result.0.bytes in let now : Stream = (c.observe.new.self.bytes, c.observe.new.self.shut) in
    let cap : c.set_tail.new.self.capacity ≡ e.indices.capacity = ap (λ (r : ReaderIndices). r.capacity) c.set_tail.ensures.after in let next : ReadView = read_view (ring_of c.meet-arrived.new.self.words c.meet-arrived.new.self.at c.meet-arrived.new.self.names) c.set_tail.new.self.capacity (take c.meet-arrived.new.self.head c.meet-arrived.new.self.have) c.join.new.self.bytes (length e.observed.bytes) e.observed.shut e.saw.shut c.observe.new.self.bytes in
    record {
      fifo = grind (arith, common_steps);
      room = grind (arith, common_steps);
      shut = grind (arith, common_steps);
      observed = grind (arith, common_steps);
      last = grind (arith, common_steps);
      other_shut = grind (arith, common_steps);
      writer = grind (arith, common_steps);
      reader = subst (λ (r : ReadView). KnowsMore r next) c.self.view_is (record {
        more = (more, λ j. (k j).bytes);
        all = λ known. all_stays e i known now c.observe.ensures.kept;
        rest = let taken = (λ j. take ((s j).head) ((s j).have)) ∙ ap (take head) (sym m.published) ∙ taken_stays e.seat.have e.known.bytes more head i.whole.0 i.whole.1 in
            λ j. read_view (ring_of (s j).words (s j).at (s j).names) (cap j) (taken j) c.join.new.self.bytes (length e.observed.bytes) e.observed.shut e.saw.shut c.observe.new.self.bytes;
      });
    }
