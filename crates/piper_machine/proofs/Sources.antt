-- What is left of a source that has given some bytes more.
use Rattle.std.proofs.Common.{◌≡◌, ℕ, ◌+◌, ◌-◌, ◌<◌, ◌≤◌, List, ◌∷◌, length, take, drop, min, sym, ap, ◌∙◌, arith, length-drop, []}
use Rattle.std.proofs.lemmas.Grind.{common_steps}
use Rattle.std.proofs.lemmas.List.{drop-drop}
use Rattle.piper_machine.specs.Types.{SourceAct}
use Rattle.piper_machine.specs.Source.{bytes_of, without}
use Rattle.piper_machine.specs.Pipe.{Pipe}
use Rattle.piper_machine.specs.Lend.{lending}
use Rattle.piper_machine.specs.Action.{source_called}
use Rattle.piper_machine.specs.Round.{given, moved_by, unspent, left_of_source}

unspent_some : (bytes : List ℕ) (acts : List SourceAct) → 1 ≤ length bytes → unspent bytes acts ≡ SourceAct.Bytes bytes ∷ acts
unspent_some bytes acts some = grind arith

-- a part of an act
pub pass_within : (acts : List SourceAct) (before n : ℕ) → n < length (bytes_of acts) - before → without (before + n) acts ≡ left_of_source n (without before acts)
pass_within [] before n within = absurd (omega arith)
pass_within (SourceAct.Fail ∷ acts) before n within = absurd (omega arith)
pass_within (SourceAct.Bytes bytes ∷ acts) before n within =
    let all = drop-drop n before bytes in
    sym (ap (λ (xs : List ℕ). unspent xs acts) all ∙ unspent_some (drop (before + n) bytes) acts (simp length-drop (omega arith)))

-- how many bytes a call of the source moves, where it fails or not
pub moved-given : (most : ℕ) (acts : List SourceAct) → moved_by (given most acts) ≡ min most (length (bytes_of acts))
moved-given most acts = grind arith

-- what the source gave is at the front of what it was lent
pub source-called : (p q : Pipe) (n : ℕ) (held rest : List SourceAct) → q ≡ lending q.lent (record p { source = held }) → n ≡ min (length q.lent) (length (bytes_of p.source))
    → take n q.lent ≡ take n (bytes_of p.source) → rest ≡ left_of_source n p.source → record q { source = rest } ≡ source_called (lending q.lent p)
source-called p q n held rest is count front left = grind (arith, common_steps)
