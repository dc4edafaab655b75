use Rattle.std.proofs.Common.{◌≡◌, ◌≤◌, ◌+◌, ◌-◌, ℕ, length, arith}
use Rattle.piper.proofs.Copied.{copied_on}
use Rattle.piper.proofs.like.slices.copy_long.Goals as goal

pub loop-done-preserved : goal.loop-done-preserved
loop-done-preserved c =
    let done : ℕ = c.loop-done.done in
    let next : ℕ = done + c.min.result in
    let within : next ≤ length c.args.from.now = omega arith in
    let sum : next ≡ done + (next - done) = omega arith in (
      within,
      copied_on c.args.from.now _ _ _ done (next - done) next within sum
          c.loop-done.invariant.1 c.copy_from_slice.ensures.after,
    )
