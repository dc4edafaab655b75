-- How a writer's room is kept: what is lent, then the places that are set,
-- then those of the first turn that are not set yet, then those of the second turn.
use Rattle.std.specs.Prelude.{◌≡◌, ℕ, ◌+◌, ◌-◌, ◌<◌, ◌≤◌, length}
use Rattle.piper_ring.specs.declared.ring.places.Places.{Places}
use Rattle.piper_ring.specs.declared.ends.room.Room.{Room}

-- the number of the first place after a stretch
abbrev pub end_of : Places → ℕ
end_of p = p.first + length p.bytes

pub record IsRoom (r : Room) : Type 0 where
  pub memory : (r.ready.at ≡ r.lent.at) × (r.blank.at ≡ r.lent.at) × (r.later.at ≡ r.lent.at)
  pub capacity :
      (r.ready.capacity ≡ r.lent.capacity) × (r.blank.capacity ≡ r.lent.capacity)
      × (r.later.capacity ≡ r.lent.capacity)
  pub chain : (r.ready.first ≡ end_of r.lent) × (end_of r.ready + r.blank.count ≡ r.later.first)
  -- as many places are set as lie before the first that is not
  pub zeroing :
      (r.blank.first ≤ r.lent.capacity) × (r.blank.count ≡ r.lent.capacity - r.blank.first)
  pub first_turn : r.blank.first < r.lent.capacity → end_of r.ready ≡ r.blank.first

-- b is the same stretch of the same memory as a
pub record SameRoom (a b : Room) : Type 0 where
  pub memory : b.lent.at ≡ a.lent.at
  pub capacity : b.lent.capacity ≡ a.lent.capacity
  pub first : b.lent.first ≡ a.lent.first
  pub last : end_of b.later ≡ end_of a.later
