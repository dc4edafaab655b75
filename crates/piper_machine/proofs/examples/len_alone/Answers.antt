use Rattle.std.proofs.Common.{◌∷◌, ◌++◌, ap, sym, ◌∙◌, []}
use Rattle.piper_machine.specs.Types.{Reader, Count, Answered}
use Rattle.piper_machine.proofs.examples.len_alone.Goals as goal

pub returns-clause-by_steps : goal.returns-clause-by_steps
returns-clause-by_steps c k q before after runs outside =
    let whole = (c.r_len.ensures.by_steps.made k q before after runs outside).1 in
    record { log = whole.log; events = whole.events ∙ ap (λ n. before ++ (whole.log ++ Answered Reader (Count n) ∷ [])) (sym c.r_len.ensures.value) }
