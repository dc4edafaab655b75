-- Those before the index got the bytes, and the others are as they were.
use Rattle.std.proofs.Common.{◌++◌, ℕ, List, length}
use Rattle.std.specs.List.{All, AllWithin}
use Rattle.piper_pump.specs.Passed.{HasGot}
use Rattle.piper_pump.proofs.tees.give_all.Given as goal

abbrev pub invariant-loop-tee : goal.invariant-loop-tee
invariant-loop-tee g l =
    let Copy = HasGot g.D.Destination.took in
    record {
      given : (names : List (List ℕ)) (m : List ℕ) → All (Copy names m) l.initial.tees → AllWithin (Copy names (m ++ l.bytes)) l.tees 0 l.tee-index;
      rest : (names : List (List ℕ)) (m : List ℕ) → All (Copy names m) l.initial.tees → AllWithin (Copy names m) l.tees l.tee-index (length l.tees);
    }
