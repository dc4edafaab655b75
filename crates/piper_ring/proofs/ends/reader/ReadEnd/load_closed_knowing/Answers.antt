-- Each of the things that are known of the load, by itself.
use Rattle.piper_ring.proofs.Kit.{rules, arith, common_steps}
use Rattle.piper_ring.proofs.ends.reader.ReadEnd.load_closed_knowing.Goals as goal

pub returns-clause-end : goal.returns-clause-end
returns-clause-end c = record {
  after = search rules;
  saw = search rules;
  observed = search rules;
  found = search rules;
  end = grind (arith, common_steps);
  all = search rules;
  rest = search rules;
}
