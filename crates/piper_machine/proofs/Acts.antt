-- What remains of a scripted copy after one act.
use Rattle.std.proofs.Common.{◌≡◌, ℕ, ◌+◌, ◌-◌, ◌<◌, ◌≤◌, min, List, ◌∷◌, ◌++◌, take, drop, length, Bool, true, false, Result, Ok, Err, nat_lt, refl, sym, ap, ◌∙◌, arith, append_assoc, length-append, length-take-le, []}
use Rattle.std.proofs.lemmas.Grind.{common_steps}
use Rattle.std.proofs.lemmas.List.{take-append-drop}
use Rattle.std.proofs.Math.Seq.{take-append-add}
use Rattle.std.proofs.lemmas.Bool.Decides.{nat_tests}
use Rattle.piper_machine.specs.Types.{SourceAct, Failed, Ready}
use Rattle.piper_machine.specs.Pipe.{Pipe}
use Rattle.piper_machine.specs.Copy.{Copied, answered, filled}
use Rattle.piper_machine.specs.Scripted.{bytes_given, ends_in_failure, source_answer, fill_moves_more}
use Rattle.piper_machine.specs.Round.{unspent}
use Rattle.piper_machine.proofs.Rounds.{filled-filled}

past-rest : (room first more : ℕ) → first ≤ room → nat_lt room (first + more) ≡ nat_lt (room - first) more
past-rest room first more within = grind (arith, nat_tests)

pub bytes_given-cons : (bytes : List ℕ) (acts : List SourceAct) → (length bytes ≡ 0 → ⊥) → bytes_given (SourceAct.Bytes bytes ∷ acts) ≡ bytes ++ bytes_given acts
bytes_given-cons bytes acts some = grind arith

pub ends_in_failure-cons : (bytes : List ℕ) (acts : List SourceAct) → (length bytes ≡ 0 → ⊥) → ends_in_failure (SourceAct.Bytes bytes ∷ acts) ≡ ends_in_failure acts
ends_in_failure-cons bytes acts some = grind arith

-- the rounds, by the bytes that are given and whether their end is a failure
moved_by : ℕ → List ℕ → Bool → Pipe → Copied (Result ℕ Failed)
moved_by sum bytes fails p = answered (Ready (source_answer (nat_lt p.room (length bytes)) fails (sum + min (length bytes) p.room))) (filled (take (min (length bytes) p.room) bytes) p)

by_bytes : (sum : ℕ) (acts : List SourceAct) (p : Pipe) → fill_moves_more sum acts p ≡ moved_by sum (bytes_given acts) (ends_in_failure acts) p
unfolding moved_by
by_bytes sum acts p = refl

-- the first part of the bytes, then the rest
moved-parts : (sum : ℕ) (bytes more : List ℕ) (fails : Bool) (p : Pipe) → length bytes ≤ p.room → moved_by sum (bytes ++ more) fails p ≡ moved_by (sum + length bytes) more fails (filled bytes p)
unfolding moved_by
moved-parts sum bytes more fails p within =
    let n = length bytes in
    let k = min (length more) (p.room - n) in
    let long = length-append bytes more in
    let count : min (length (bytes ++ more)) p.room ≡ n + k = omega arith in
    let test : nat_lt p.room (length (bytes ++ more)) ≡ nat_lt (p.room - n) (length more) = ap (nat_lt p.room) long ∙ past-rest p.room n (length more) within in
    let sums : sum + min (length (bytes ++ more)) p.room ≡ sum + n + k = omega arith in
    let moved : take (min (length (bytes ++ more)) p.room) (bytes ++ more) ≡ bytes ++ take k more = ap (λ j. take j (bytes ++ more)) count ∙ take-append-add bytes more k in
    ap (λ (b : Bool). answered (Ready (source_answer b fails (sum + min (length (bytes ++ more)) p.room))) (filled (take (min (length (bytes ++ more)) p.room) (bytes ++ more)) p)) test
    ∙ ap (λ (j : ℕ). answered (Ready (source_answer (nat_lt (p.room - n) (length more)) fails j)) (filled (take (min (length (bytes ++ more)) p.room) (bytes ++ more)) p)) sums
    ∙ ap (λ (q : Pipe). answered (Ready (source_answer (nat_lt (p.room - n) (length more)) fails (sum + n + k))) q)
    (ap (λ (given : List ℕ). filled given p) moved ∙ sym (filled-filled bytes (take k more) p))

pub given-unspent : (bytes : List ℕ) (acts : List SourceAct) → bytes_given (unspent bytes acts) ≡ bytes ++ bytes_given acts
given-unspent bytes acts = grind arith

pub failure-unspent : (bytes : List ℕ) (acts : List SourceAct) → ends_in_failure (unspent bytes acts) ≡ ends_in_failure acts
failure-unspent bytes acts = grind arith

-- an act some of whose bytes are given: they move first, and then what is left
pub give-part : (sum n : ℕ) (bytes : List ℕ) (acts : List SourceAct) (p : Pipe) → 1 ≤ n → n ≤ length bytes → n ≤ p.room
    → fill_moves_more sum (SourceAct.Bytes bytes ∷ acts) p ≡ fill_moves_more (sum + n) (unspent (drop n bytes) acts) (filled (take n bytes) p)
give-part sum n bytes acts p some within fitting =
    let long : length (take n bytes) ≡ n = length-take-le n bytes within in
    let rest = drop n bytes ++ bytes_given acts in
    let filled_none : length bytes ≡ 0 → ⊥ = λ none. absurd (omega arith) in
    let parts : bytes ++ bytes_given acts ≡ take n bytes ++ rest = ap (λ (xs : List ℕ). xs ++ bytes_given acts) (sym (take-append-drop n bytes)) ∙ append_assoc (take n bytes) (drop n bytes) (bytes_given acts) in
    by_bytes sum (SourceAct.Bytes bytes ∷ acts) p
    ∙ ap (λ (given : List ℕ). moved_by sum given (ends_in_failure (SourceAct.Bytes bytes ∷ acts)) p) (bytes_given-cons bytes acts filled_none ∙ parts)
    ∙ ap (λ (fails : Bool). moved_by sum (take n bytes ++ rest) fails p) (ends_in_failure-cons bytes acts filled_none ∙ sym (failure-unspent (drop n bytes) acts))
    ∙ moved-parts sum (take n bytes) rest (ends_in_failure (unspent (drop n bytes) acts)) p (omega arith)
    ∙ ap (λ (k : ℕ). moved_by (sum + k) rest (ends_in_failure (unspent (drop n bytes) acts)) (filled (take n bytes) p)) long
    ∙ ap (λ (given : List ℕ). moved_by (sum + n) given (ends_in_failure (unspent (drop n bytes) acts)) (filled (take n bytes) p)) (sym (given-unspent (drop n bytes) acts))
    ∙ sym (by_bytes (sum + n) (unspent (drop n bytes) acts) (filled (take n bytes) p))

-- an act whose bytes do not all fit ends the call
pub give-ends : (sum n : ℕ) (bytes : List ℕ) (acts : List SourceAct) (p : Pipe) → (length bytes ≡ 0 → ⊥) → n ≡ min (length bytes) p.room → n < length bytes
    → fill_moves_more sum (SourceAct.Bytes bytes ∷ acts) p ≡ answered (Ready (Ok (sum + n))) (filled (take n bytes) p)
unfolding moved_by
give-ends sum n bytes acts p some is short = grind (arith, common_steps)

-- nothing more is given
nothing_given : (sum : ℕ) (fails : Bool) (p : Pipe) → p.lent ≡ [] → moved_by sum [] fails p ≡ answered (Ready (source_answer false fails sum)) p
unfolding moved_by
nothing_given sum fails p unlent = grind (arith, common_steps)

pub give-nothing : (sum : ℕ) (acts : List SourceAct) (p : Pipe) → p.lent ≡ [] → fill_moves_more sum (SourceAct.Bytes [] ∷ acts) p ≡ answered (Ready (Ok sum)) p
give-nothing sum acts p unlent = by_bytes sum (SourceAct.Bytes [] ∷ acts) p ∙ nothing_given sum false p unlent

pub give-fails : (sum : ℕ) (acts : List SourceAct) (p : Pipe) → p.lent ≡ [] → fill_moves_more sum (SourceAct.Fail ∷ acts) p ≡ answered (Ready (Err (record {}))) p
give-fails sum acts p unlent = by_bytes sum (SourceAct.Fail ∷ acts) p ∙ nothing_given sum true p unlent

pub give-none : (sum : ℕ) (p : Pipe) → p.lent ≡ [] → fill_moves_more sum [] p ≡ answered (Ready (Ok sum)) p
give-none sum p unlent = by_bytes sum [] p ∙ nothing_given sum false p unlent
