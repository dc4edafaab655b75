-- What is true of every pipe.
use Rattle.std.specs.Prelude.{◌≡◌, ◌-◌, ◌<◌, ◌≤◌, length, [], true}
use Rattle.piper_machine.specs.Pipe.{Pipe}
use Rattle.piper_machine.specs.Places.{places_left, peeked_count}
use Rattle.piper_protocol.specs.Table.{head_store, tail_store}

pub record IsSound (p : Pipe) : Type 0 where
  pub unread : length p.unread ≤ p.capacity
  pub start : p.start < p.capacity
  pub known : p.known ≤ length p.unread
  pub room : p.room ≤ p.capacity - length p.unread
  pub lent_room : length p.lent ≤ p.room
  pub lent_place : length p.lent ≤ places_left p
  pub shut : p.is_shut ≡ true → p.lent ≡ []
  pub closed : p.is_shut ≡ true → p.is_closed ≡ true
  -- a store that is next stays within what its side holds
  pub head_store : head_store p.reader ≤ peeked_count p
  pub tail_store : tail_store p.writer ≤ length p.lent
