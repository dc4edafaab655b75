use Rattle.std.proofs.Common.{◌≡◌, ◌+◌, ◌-◌, ℕ, List, ◌++◌, take, drop, ap, ◌∙◌, sym, take-take, arith}
use Rattle.std.proofs.lemmas.List.{drop-take, drop-drop}
use Rattle.std.proofs.Math.Seq.{take-add}
use Rattle.tests_above.proofs.lending.LendingAsyncBufRead.consume.Goals as goal

pub returns-clause-known : goal.returns-clause-known
returns-clause-known c =
    let amt : ℕ = c.args.amt in
    let known : ℕ = c.args.self.now.known in
    let taken : ℕ = c.args.self.now.taken in
    let bytes : List ℕ = c.args.self.now.bytes.now in
    let more : known ≡ amt + (known - amt) = omega (arith, c.requires) in
    sym (ap (λ k. drop amt (take k (drop taken bytes))) more ∙ drop-take amt (known - amt) (drop taken bytes) ∙ ap (λ ws. take (known - amt) ws) (drop-drop amt taken bytes))

pub returns-clause-taken : goal.returns-clause-taken
returns-clause-taken c =
    let amt : ℕ = c.args.amt in
    let taken : ℕ = c.args.self.now.taken in
    let bytes : List ℕ = c.args.self.now.bytes.now in
    take-add taken amt bytes ∙ ap (λ ws. take taken bytes ++ ws) (sym (take-take amt c.args.self.now.known (drop taken bytes) c.requires))
