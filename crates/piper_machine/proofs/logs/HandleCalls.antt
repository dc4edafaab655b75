-- What a handle's log says of the open call, by the point at which it is: the same of both sides.
use Rattle.std.proofs.Common.{◌≡◌, ℕ, suc, ◌+◌, ◌-◌, ◌%◌, ◌≤◌, ◌<◌, ◌==◌, List, length, min, Bool, true, false, not, Option, None, Some, is_some, refl, sym, ap, subst, ◌∙◌, arith, nat_le, nat_lt, if◌then◌else◌}
use Rattle.std.proofs.lemmas.Grind.{common_steps}
use Rattle.std.specs.Bool.{⊤}
use Rattle.std.proofs.lemmas.Bool.Decides.{nat_tests}
use Rattle.std.proofs.Math.Nat.{mod-add-mod, mod-eq_of_lt, mod-lt, mod_self}
use Rattle.piper_machine.specs.Types.{Action, Found, Purpose, Side, Try}
use Rattle.piper_protocol.specs.declared.table.Purpose.TheVariants.{Poll, Copy}
use Rattle.piper_protocol.specs.Index.{offset_of}
use Rattle.piper_protocol.specs.Lines as handle
use Rattle.piper_protocol.specs.OneList as shared
use Rattle.piper_protocol.specs.Table.{Next}
use Rattle.piper_protocol.specs.declared.table.Point.{Point}
use Rattle.piper_protocol.specs.Told.{both, fits, has_drawn, is_idle, is_made, is_settled, may_draw, moved_in, passes, rests, seen_in, tickets_in, waits_in}
use Rattle.piper_machine.specs.logs.Calling.{Calling}
use Rattle.piper_machine.specs.logs.OfHandles.{given_or_any, of_length, taken_in, waker_in}

-- what a test says

pub first-of : (a b : Bool) → both a b ≡ true → a ≡ true
first-of a b e = grind arith

pub second-of : (a b : Bool) → both a b ≡ true → b ≡ true
second-of a b e = grind arith

pub equal-is : (m n : ℕ) → (m == n) ≡ true → m ≡ n
equal-is m n e = grind (arith, nat_tests)

pub zero-is : (n : ℕ) → (n == 0) ≡ true → n ≡ 0
zero-is n e = equal-is n 0 e

pub lent-within : (is_shut : Bool) (m n : ℕ) → nat_le m (if is_shut then 0 else n) ≡ true → m ≤ n
lent-within is_shut m n e = grind arith

any-of : (b : Bool) (n : ℕ) (given : List ℕ) → (length given == n) ≡ b → length (given_or_any b n given) ≡ n
any-of b n given e = grind (arith, common_steps)

pub of-length : (n : ℕ) (given : List ℕ) → length (of_length n given) ≡ n
of-length n given = any-of (length given == n) n given refl

pub of-own-length : (n : ℕ) (given : List ℕ) → (length given == n) ≡ true → of_length n given ≡ given
of-own-length n given e = ap (λ (b : Bool). given_or_any b n given) e

-- the place of the next byte

place-is : (c i : ℕ) (b : Bool) → nat_lt i c ≡ b → i ≤ c → (if b then i else i - c) ≡ i % c
place-is c i true e within = sym (mod-eq_of_lt (let below : i < c = grind (arith, nat_tests) in below))
place-is c i false e within =
    let same : i ≡ c = grind (arith, nat_tests) in
    let none : i - c ≡ 0 = omega arith in
    none ∙ sym (ap (λ (x : ℕ). x % c) same ∙ mod_self c)

pub place-after : (c m n : ℕ) → 1 ≤ c → n ≤ c - m % c → offset_of c (m % c + n) ≡ (m + n) % c
place-after c m n some within =
    let below : m % c < c = mod-lt m some in
    place-is c (m % c + n) (nat_lt (m % c + n) c) refl (omega arith) ∙ mod-add-mod m c n

pub not-true : (b : Bool) → not b ≡ true → b ≡ false
not-true b e = grind arith

pub moved-within : (is_shut : Bool) (most m n : ℕ) → nat_le m (min most (if is_shut then 0 else n)) ≡ true → (m ≤ most) × (m ≤ n)
moved-within is_shut most m n e = grind arith

-- what a side counts, where `own` is that side
pub record Counted (capacity : ℕ) (own : Side) (lines : List handle.Line) (moved seen place : ℕ) (waits : Bool) : Type 0 where
  pub moves : moved ≡ length (moved_in lines)
  pub sees : seen ≡ seen_in lines
  pub lies : place ≡ moved % capacity
  pub may_wait : waits ≡ waits_in own lines

pub kept : (capacity : ℕ) (own : Side) (lines lines' : List handle.Line) (moved seen place : ℕ) (waits : Bool) → moved_in lines' ≡ moved_in lines → seen_in lines' ≡ seen_in lines → waits_in own lines' ≡ waits_in own lines
    → Counted capacity own lines moved seen place waits → Counted capacity own lines' moved seen place waits
kept capacity own lines lines' moved seen place waits m s w c = record { moves = c.moves ∙ sym (ap length m); sees = c.sees ∙ sym s; lies = c.lies; may_wait = c.may_wait ∙ sym w }

-- a log that leads to where the table has no row is at its end

abbrev pub is_dead : Next Point → Bool
is_dead next = both (not (is_some next.answer)) (is_idle next.point)

pub goes : (next : Next Point) → (handle.action next.point ≡ Action.Rest → ⊥) → is_dead next ≡ false
goes next acts = grind arith

pub rests-alive : (next : Next Point) → rests next ≡ true → is_dead next ≡ false
rests-alive next e = grind arith

pub goes-settled : (lines : List handle.Line) → (handle.action (handle.comes_to lines).point ≡ Action.Rest → ⊥) → is_settled lines ≡ true
goes-settled lines acts = grind arith

pub rests-settled : (lines : List handle.Line) → rests (handle.comes_to lines) ≡ true → is_settled lines ≡ true
rests-settled lines e = grind arith

-- what is noted of a step is noted where a call is open

module _ (capacity : ℕ) (own : Side) (before : List handle.Line) (action : Action) where
  pub fits-acts : (a : shared.Access) (f : Found) → fits capacity own before action a f ≡ true → action ≡ Action.Rest → ⊥
  fits-acts a f fit resting = grind arith

  pub pass-acts : (a : shared.Access) → passes own before action a ≡ true → action ≡ Action.Rest → ⊥
  pass-acts a fit resting = let no : false ≡ true = subst (λ (x : Action). passes own before x a ≡ true) resting fit in cc

  pub made-acts : (f : Found) → is_made capacity own before action f ≡ true → action ≡ Action.Rest → ⊥
  made-acts f fit resting = let no : false ≡ true = subst (λ (x : Action). is_made capacity own before x f ≡ true) resting fit in cc

pub draw-acts : (point : Point) (before : List handle.Line) → may_draw point before ≡ true → handle.action point ≡ Action.Rest → ⊥
draw-acts point before may resting = grind arith

-- what lines say of the open call: the number that its registration would have, its own waker, the
-- waker taken last, and whether the last line was a draw
pub record Known : Type 0 where
  pub ticket : ℕ
  pub waker : ℕ
  pub taken : ℕ
  pub is_drawn : Bool

abbrev pub known_of : List handle.Line → Known
known_of lines = record {
  ticket = suc (tickets_in lines);
  waker = waker_in lines;
  taken = taken_in lines;
  is_drawn = has_drawn lines;
}

-- where a call is: before it registers, where it does, after that, where it empties its own slot, where
-- it yields, in what follows, of a copy or not, and where it calls the waker that it took
pub data Stage : Type 0 where
  opens : Purpose → Stage
  registers : Purpose → Stage
  looks : Purpose → Stage
  takes : Purpose → Stage
  yields : Stage
  moves : Bool → Stage
  wakes : Bool → Stage
  stays : Stage

-- a look that waits has a waker
abbrev pub Waits : Purpose → ℕ → Option ℕ → Type 0
Waits (Copy Try) waker handed = ⊤
Waits purpose waker handed = (handed ≡ Some waker)

-- what holds of a copy alone
abbrev pub OfCopy : Purpose → Type 0 → Type 0
OfCopy Poll Holds = ⊤
OfCopy (Copy form) Holds = Holds

abbrev pub When : Bool → Type 0 → Type 0
When true Holds = Holds
When false Holds = ⊤

-- `Own` says that the copy moves bytes by a source or destination of its caller's own
abbrev pub Calls : Stage → Known → Calling → Type 0 → Type 0
Calls (opens l) k c Own = Waits l k.waker c.handed × (c.draw ≡ None) × OfCopy l Own × (c.granted ≡ None) × (k.waker ≡ k.ticket)
Calls (registers l) k c Own = (c.handed ≡ Some k.waker) × (c.draw ≡ None) × OfCopy l Own × (c.granted ≡ None) × (k.waker ≡ k.ticket)
Calls (looks l) k c Own = Waits l k.waker c.handed × (c.draw ≡ None) × OfCopy l Own
Calls (takes l) k c Own = (c.handed ≡ Some k.waker) × (is_some c.draw ≡ k.is_drawn) × OfCopy l Own
Calls yields k c Own = (c.handed ≡ Some k.waker)
Calls (moves b) k c Own = When b Own
Calls (wakes b) k c Own = (c.taken ≡ Some k.taken) × When b Own
Calls stays k c Own = ⊤
