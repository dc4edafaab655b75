-- The rounds of a copy are one move: what two of them move one after the other, one of them moves
-- at once.
use Rattle.std.proofs.Common.{◌≡◌, ℕ, ◌+◌, ◌-◌, ◌≤◌, List, ◌++◌, take, drop, length, Option, sym, ap, ◌∙◌, arith, append_assoc, append-nil, length-drop, length-take-le, []}
use Rattle.std.proofs.lemmas.Grind.{common_steps}
use Rattle.std.proofs.lemmas.List.{drop-drop, drop_all, take_at, drop_at}
use Rattle.std.proofs.Math.Seq.{take-add}
use borrow.Rule.Slice.PartMut.{put_mid}
use Rattle.piper_machine.specs.Pipe.{Pipe}
use Rattle.piper_machine.specs.Copy.{filled}
use Rattle.piper_machine.specs.Move.{with_waker}

pub filled_nothing : (p : Pipe) → p.lent ≡ [] → filled [] p ≡ p
filled_nothing p none = grind (arith, common_steps)

pub filled-filled : (xs ys : List ℕ) (p : Pipe) → filled ys (filled xs p) ≡ filled (xs ++ ys) p
filled-filled xs ys p = grind (arith, common_steps)

-- a slice that is filled part by part: the next n bytes after the first d
pub next_part : (d n : ℕ) (bytes dest filled_so_far : List ℕ) → d ≤ length bytes → d + n ≤ length dest → filled_so_far ≡ take d bytes ++ drop d dest → length filled_so_far ≡ length dest
    → put_mid d (length filled_so_far - d) filled_so_far (take n (drop d bytes) ++ drop n (drop d filled_so_far)) ≡ take (d + n) bytes ++ drop (d + n) dest
next_part d n bytes dest so_far known fits is long =
    let front : take d so_far ≡ take d bytes = ap (take d) is ∙ take_at (take d bytes) (drop d dest) d (length-take-le d bytes known) in
    let back : drop d so_far ≡ drop d dest = ap (drop d) is ∙ drop_at (take d bytes) (drop d dest) d (length-take-le d bytes known) in
    let none : drop (length so_far - d) (drop d so_far) ≡ [] = drop_all (length so_far - d) (drop d so_far) (omega (arith, length-drop d so_far)) in
    let rest : drop n (drop d so_far) ≡ drop (d + n) dest = ap (drop n) back ∙ drop-drop n d dest in
    rw (none, append-nil, front, rest) (sym (append_assoc (take d bytes) (take n (drop d bytes)) (drop (d + n) dest)) ∙ ap (λ (zs : List ℕ). zs ++ drop (d + n) dest) (sym (take-add d n bytes)))

-- with the waker that waits at most one was called: there is room for its name
abbrev pub HasOneWake : List ℕ → Option ℕ → Type 0
HasOneWake names waker = length (with_waker names waker) ≤ 1
