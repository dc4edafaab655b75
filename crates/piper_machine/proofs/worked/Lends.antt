-- How much is lent: within bounds, since the pipe doesn't say how much was set to zero already.
use Rattle.std.proofs.Common.{◌∙◌, arith, ◌≡◌, ℕ, ◌≤◌, min, List, length, take, Bool, true, false, if◌then◌else◌, refl}
use Rattle.std.proofs.lemmas.List.{length-take}
use Rattle.piper_machine.specs.Pipe.{Pipe, fresh}
use Rattle.piper_machine.specs.Lend.{Lendable, lend_limit, lending}
use Rattle.piper_machine.specs.Move.{produce}
use Rattle.piper_machine.proofs.worked.Gone.{lent_count}

-- Of 10,000 free places at least 4096 are lent, and then
-- at least 4096 of 5904.
first_lend_between : (n : ℕ) → Lendable 10000 (fresh 10000) n → (4096 ≤ n) × (n ≤ 10000)
first_lend_between n lendable =
    let least : 4096 ≤ n = lendable.at_least refl in
    let most : n ≤ 10000 = lendable.at_most in
    (least, most)

second_lend_between : (bytes : List ℕ) → length bytes ≡ 4096 → (n : ℕ) →
    Lendable 10000 (produce 4096 (lending bytes (fresh 10000))) n → (4096 ≤ n) × (n ≤ 5904)
second_lend_between bytes lent n lendable =
    let published : length (take 4096 bytes) ≡ 4096 = length-take 4096 bytes ∙ rw lent refl in
    let limit : lend_limit 10000 (produce 4096 (lending bytes (fresh 10000))) ≡ 5904 = rw published refl in
    let least : 4096 ≤ n = rw limit at lendable.at_least refl in
    let most : n ≤ 5904 = rw limit at lendable.at_most in
    (least, most)

-- Where no more than 4096 can be lent the bounds meet: all of it is lent, and nothing of a shut
-- pipe.
bounded : (is_shut : Bool) (limit n : ℕ) → limit ≤ 4096 → n ≤ limit → (is_shut ≡ false → min 4096 limit ≤ n) → (is_shut ≡ true → n ≡ 0)
    → n ≡ (if is_shut then 0 else limit)
bounded true limit n small most least shut = shut refl
bounded false limit n small most least shut = let enough : min 4096 limit ≤ n = least refl in omega arith

bounds_meet : (most : ℕ) (p : Pipe) (n : ℕ) → lend_limit most p ≤ 4096 → Lendable most p n → n ≡ lent_count most p
bounds_meet most p n small lendable = bounded p.is_shut (lend_limit most p) n small lendable.at_most lendable.at_least lendable.shut

-- Of an open pipe with room something is lent to whoever asks for something; to who asks for
-- nothing, nothing.
open_pipe_lends : (n : ℕ) → Lendable 1 (fresh 4) n → 1 ≤ n
open_pipe_lends n lendable = lendable.some refl (omega arith) (omega arith)

nothing_asked_for : (n : ℕ) → Lendable 0 (fresh 4) n → n ≡ 0
nothing_asked_for n lendable = let most : n ≤ 0 = lendable.at_most in omega arith
