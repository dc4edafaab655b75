-- What is taken is at the front of the slice.
use Rattle.std.proofs.Common.{rules, ◌≤◌, length, refl, arith}
use Rattle.piper.proofs.Front.{drained_is, full_is, not_other}
use Rattle.piper.proofs.handles.Reader.try_drain.Goals as goal

pub returns-in-Ready-Ok-clause-tried : goal.returns-in-Ready-Ok-clause-tried
returns-in-Ready-Ok-clause-tried c =
    let drained = (rw c.in-Ready-Ok.field-0-is at c.in-Ready-Ok.ensures.drained).0 in
    let within : c.in-Ready-Ok.count ≤ length c.args.dest.now = search rules in
    record {
      drained = drained_is _ _ _ _ drained.moved _ _ refl refl drained.copied.1 drained.copied.0.2 (search rules) c.args.self.now c.try_drain_with.new.self drained.taken drained.known drained.fresh within
          (λ less. not_other _ _ drained.most (λ full. omega (arith, less, full_is _ _ _ _ drained.moved _ _ refl refl drained.copied.1 drained.copied.0.2 refl within _ drained.copied.0.1 full)));
      stays = search rules;
      all = search rules;
      woken = search rules;
      copied = search rules;
      same = search rules;
    }
