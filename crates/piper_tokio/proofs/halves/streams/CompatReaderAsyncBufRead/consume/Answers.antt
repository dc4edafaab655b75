use Rattle.std.proofs.Common.{◌≡◌, ◌+◌, ◌-◌, ◌≤◌, take, drop, sym, ap, ◌∙◌, subst, arith, length-take}
use Rattle.std.proofs.lemmas.List.{drop-take}
use Rattle.piper.specs.ReadView.{ReadView, in_one_piece}
use Rattle.piper_tokio.proofs.Pieces.{rest_in_one_piece}
use Rattle.piper_tokio.proofs.halves.streams.CompatReaderAsyncBufRead.consume.Goals as goal

pub invariant_of-self : goal.invariant_of-self
invariant_of-self c =
    let s = c.args.self.now in
    let few : c.args.amount ≤ s.shown = omega (arith, c.requires, length-take s.shown s.reader.side.end.known) in
    let shown : s.shown ≤ in_one_piece s.reader.side.end = s.within in
    let rest = rest_in_one_piece s.reader.side.end c.consume.new.self.side.end c.args.amount (omega arith) (ap (λ (v : ReadView). v.capacity) c.consume.ensures.view) (ap (λ (v : ReadView). v.taken) c.consume.ensures.view) (ap (λ (v : ReadView). v.known) c.consume.ensures.view) in
    record { within = omega (arith, rest) }

pub returns-clause-rest : goal.returns-clause-rest
returns-clause-rest c =
    let s = c.args.self.now in
    let known = s.reader.side.end.known in
    let all : c.args.amount + (s.shown - c.args.amount) ≡ s.shown = omega (arith, c.requires, length-take s.shown known) in
    ap (λ xs. take (s.shown - c.args.amount) xs) (ap (λ (v : ReadView). v.known) c.consume.ensures.view)
    ∙ sym (subst (λ n. drop c.args.amount (take n known) ≡ take (s.shown - c.args.amount) (drop c.args.amount known)) all (drop-take c.args.amount (s.shown - c.args.amount) known))
