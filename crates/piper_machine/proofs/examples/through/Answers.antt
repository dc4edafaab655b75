use Rattle.std.proofs.Common.{◌≡◌, length, ap, ◌∙◌}
use Rattle.piper_machine.specs.Copy.{count_of, try_fill, try_drain}
use Rattle.piper_machine.proofs.Carrying.{full_of, fills-all, drains-all, fills-dest}
use Rattle.piper_machine.proofs.examples.through.Goals as goal

pub returns-clause-count : goal.returns-clause-count
returns-clause-count c =
    let bytes = c.args.bytes.now in
    let full = c.w_try_fill.ensures.after ∙ ap (λ p. (try_fill bytes p).pipe) c.in_ok-machine.ensures.fresh ∙ fills-all bytes c.requires.capacity.0 in
    c.r_try_drain.ensures.count ∙ ap (λ p. count_of (try_drain (length c.args.dest.now) p).answer) full
    ∙ ap (λ n. count_of (try_drain n (full_of bytes)).answer) c.requires.fits ∙ drains-all bytes c.requires.capacity.0

pub returns-clause-same : goal.returns-clause-same
returns-clause-same c =
    let bytes = c.args.bytes.now in
    let full = c.w_try_fill.ensures.after ∙ ap (λ p. (try_fill bytes p).pipe) c.in_ok-machine.ensures.fresh ∙ fills-all bytes c.requires.capacity.0 in
    let unread : c.w_try_fill.new.self.unread ≡ bytes = ap (λ p. p.unread) full in
    let count : c.r_try_drain.result ≡ length bytes = returns-clause-count c in
    c.r_try_drain.ensures.bytes ∙ rw (count, unread) (fills-dest c.args.dest.now bytes c.requires.fits)
