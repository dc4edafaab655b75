use Rattle.std.proofs.Common.{rules, ◌≡◌, ◌∷◌, ◌++◌, take, refl, sym, ap, subst, ◌∙◌, []}
use Rattle.std.proofs.lemmas.List.{take_more, take_all}
use Rattle.std.proofs.lemmas.Option.{slice_get_read}
use Rattle.piper_machine.specs.Types.{Step}
use Rattle.piper_machine.specs.Pipe.{fresh}
use Rattle.piper_machine.specs.Log.{events}
use Rattle.piper_machine.proofs.Fronts.{sound-fresh}
use Rattle.piper_machine.proofs.Runs.{as_runs}
use Rattle.piper_machine.proofs.Keeping.{Keeps, keeps_none, keeps_more}
use Rattle.piper_machine.proofs.machine.runs.run.Goals as goal

-- nothing has happened on the new machine
pub loop-i-init : goal.loop-i-init
loop-i-init c =
    let pipe : c.in-Ok.machine ≡ fresh c.args.cap = search rules in
    let none : events c.new-log.result ≡ [] = c.new-log.ensures in
    rw (pipe, none) (record { sound = sound-fresh c.args.cap c.requires.0; keeps = keeps_none c.args.cap c.requires.0 })

pub loop-i-preserved : goal.loop-i-preserved
loop-i-preserved c =
    let steps = take c.loop-i.i c.args.steps.now in
    let after = c.step.new.self in
    let fs = events c.step.new.log in
    let longer = take_more c.args.steps.now c.loop-i.i c.index-steps-i.result c.loop-i-test.true ∙ ap (λ (s : Step). steps ++ s ∷ []) (sym c.index-steps-i.is) in
    let kept = keeps_more c.args.cap steps _ c.loop-i.machine after (events c.loop-i.log) fs c.loop-i.invariant.sound c.in-Ok-step.ensures.sound c.loop-i.invariant.keeps c.in-Ok-step.ensures.made in
    record { sound = c.in-Ok-step.ensures.sound; keeps = subst (λ ss. Keeps c.args.cap ss after fs) (sym longer) kept }

-- the loop has made all steps
all_made : (c : goal.After-loop-i) → Keeps c.args.cap c.args.steps.now c.loop-i.machine (events c.loop-i.log)
all_made c = subst (λ ss. Keeps c.args.cap ss c.loop-i.machine (events c.loop-i.log)) (take_all c.loop-i.i c.args.steps.now c.loop-i-test.false) c.loop-i.invariant.keeps

pub returns-clause-runs : goal.returns-clause-runs
returns-clause-runs c = as_runs (fresh c.args.cap) c.loop-i.machine c.args.steps.now [] (events c.loop-i.log) (all_made c).runs

pub returns-clause-lawful : goal.returns-clause-lawful
returns-clause-lawful c = (all_made c).lawful

pub returns-clause-fronts : goal.returns-clause-fronts
returns-clause-fronts c = (all_made c).fronts

-- the pipe and the log before the refused step are those of the steps before it
pub returns-in-Err-clause-refused : goal.returns-in-Err-clause-refused
returns-in-Err-clause-refused c = record {
  pipe = c.loop-i.machine;
  events = events c.loop-i.log;
  step = c.index-steps-i.result;
  runs = as_runs (fresh c.args.cap) c.loop-i.machine (take c.loop-i.i c.args.steps.now) [] (events c.loop-i.log) c.loop-i.invariant.keeps.runs;
  next = slice_get_read c.args.steps.now _ c.loop-i.i c.index-steps-i.result refl c.loop-i-test.true c.index-steps-i.is;
  refused = c.in-Err.ensures.refused;
  memory = c.in-Err.ensures.memory;
}
