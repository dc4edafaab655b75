use Rattle.std.proofs.Common.{rules, ◌≡◌, ◌∙◌, length, ap, sym, subst}
use Rattle.std.proofs.lemmas.List.{with_items_is}
use Rattle.std.proofs.lemmas.Option.{same_Some}
use Rattle.piper_futures.specs.Writing.{FailsOnce}
use Rattle.piper_futures.proofs.read_some.ReadOnceFuture.poll.Goals as goal

pub returns-in-Ready-Err-clause-value : goal.returns-in-Ready-Err-clause-value
returns-in-Ready-Err-clause-value g c =
    let same : c.unwrap-left.result.0 ≡ c.poll_read.new.self = search rules in
    let own : FailsOnce g.R.AsyncRead.fails c.unwrap-left.result.0 c.in-Ready-Err.error =
    subst (λ r. FailsOnce g.R.AsyncRead.fails r c.in-Ready-Err.error) (sym same) (_, rw c.in-Ready-Err.field-0-is at c.in-Ready-Err.ensures.error) in
    let read = rw c.in-Ready-Err.field-0-is at c.in-Ready-Err.ensures.read in
    let taken : g.R.AsyncRead.taken c.unwrap-left.result.0 ≡ g.R.AsyncRead.taken c.in-Some.reader = subst (λ r. g.R.AsyncRead.taken r ≡ g.R.AsyncRead.taken c.in-Some.reader) (sym same) read.0 in
    let lent : c.as_mut_slice.result.now ≡ c.in-Some.places.items = search rules in
    let size : length c.poll_read.new.dest ≡ c.in-Some.places.len = ap length (read.1 ∙ lent) ∙ sym c.in-Some.places.ok.0 in
    let back = same_Some _ _ (sym c.unwrap-left.ensures ∙ c.take-in-Ready-Err.ensures.value) in
    let kept : c.unwrap-left.result.1.items ≡ c.in-Some.places.items = ap (λ p. p.1.items) back ∙ with_items_is c.in-Some.places c.poll_read.new.dest size ∙ read.1 ∙ lent in
    search rules
