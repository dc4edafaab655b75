-- The opening of a call leaves the bytes, the counts and the closed flag as they are.
use Rattle.std.proofs.Common.{◌≡◌, ℕ, List, arith}
use Rattle.piper_machine.specs.Types.{Call}
use Rattle.piper_machine.specs.Pipe.{Pipe}
use Rattle.piper_machine.specs.Step.{opened}

-- all but where a side is, what its call holds and is handed, and what is lent
pub record LeavesRest (p q : Pipe) : Type 0 where
  pub capacity : q.capacity ≡ p.capacity
  pub unread : q.unread ≡ p.unread
  pub start : q.start ≡ p.start
  pub known : q.known ≡ p.known
  pub room : q.room ≡ p.room
  pub is_closed : q.is_closed ≡ p.is_closed

pub opened-leaves : (lent : List ℕ) (c : Call) (p : Pipe) → LeavesRest p (opened lent c p)
opened-leaves lent c p = grind arith
