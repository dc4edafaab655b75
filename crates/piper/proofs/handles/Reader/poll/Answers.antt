-- What came out of its own slot is what lay there at first, or what it registered itself.
use Rattle.std.proofs.Common.{◌≡◌, ◌⊎◌, Bool, true, false, length, rules, arith, refl, ap, ◌∙◌, inl, inr}
use Rattle.std.proofs.lemmas.List.{nil_from_length}
use Rattle.piper_ring.specs.Looks.{ReaderLooked}
use Rattle.piper_ring.specs.ReadView.{KnowsEnd, ReadView}
use Rattle.piper_ring.specs.Streams.{either}
use Rattle.piper_ring.specs.SlotsView.{Registers}
use Rattle.piper.proofs.handles.Reader.poll.Goals as goal
use Rattle.piper.proofs.handles.Reader.poll.Goals.{then-not-look_first+in-Ok-Ready, else-not-look_first}

held : (c : goal.After-self-2-1)
    → (c.if-not-look_first.self.1.0.slots ≡ c.args.self.now.side.slots)
    ⊎ Registers c.args.self.now.side.slots c.if-not-look_first.self.1.0.slots
held c =
    elim c.if-not-look_first.branch [
      | then-not-look_first+in-Ok-Ready w ↦ inr (rw w.self-is (rw c.look_first.ensures.rest.0 at w.in-Ok-Ready.ensures.registered))
      | else-not-look_first w ↦ inl (rw w.self-is c.look_first.ensures.rest.0)
    ]

saw_more : (told old new : Bool) → (old ≡ true → new ≡ true) → either told old ≡ true
    → either told new ≡ true
saw_more true old new more knows = refl
saw_more false old new more knows = more knows

still_knows : (a b : ReadView) → ReaderLooked a b → KnowsEnd a → KnowsEnd b
still_knows a b looked knows =
    ap (λ (v : ReadView). either v.observed_shut b.saw) looked.rest
    ∙ saw_more a.observed_shut a.saw b.saw looked.saw knows

looked_twice : (a b c : ReadView) → length b.known ≡ 0 → ReaderLooked a b → ReaderLooked b c
    → ReaderLooked a c
looked_twice a b c none first second = record {
  known = λ some. absurd (omega (arith, some, none, ap (λ (v : ReadView). length v.known) (first.known some)));
  fresh = λ _. second.fresh (nil_from_length b.known none);
  saw = λ seen. second.saw (first.saw seen);
  all = λ knows. second.all (still_knows a b first knows) ∙ first.all knows;
  ended = λ ended. second.ended (first.ended ended);
  rest = second.rest
      ∙ ap (λ (v : ReadView). record v { known = c.known; saw = c.saw; all = c.all }) first.rest;
}

looked : (c : goal.After-self-2-1)
    → ReaderLooked c.args.self.now.side.end c.if-not-look_first.self.1.0.end
looked c =
    elim c.if-not-look_first.branch [
      | then-not-look_first+in-Ok-Ready w ↦ rw w.self-is (looked_twice _ _ _ (c.look_first.ensures.none w.if-not-look_first.true).0 c.look_first.ensures.looked w.look_waiting.ensures.looked)
      | else-not-look_first w ↦ rw w.self-is c.look_first.ensures.looked
    ]

pub returns-clause-polled : goal.returns-clause-polled
returns-clause-polled c = record {
  found = search rules;
  looked = rw c.take_own.ensures.rest.0 (looked c);
  leaves = search rules;
  emptied = λ some. (_, held c, c.take_own.ensures.leaves, c.take_own.ensures.dropped);
  end = search rules;
  pending = search rules;
  memory = search rules;
  context = search rules;
  rest = search rules;
}
