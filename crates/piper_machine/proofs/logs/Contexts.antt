-- What the machine makes of the context of a call: whether its waker is registered, and what is
-- reported.
use Rattle.std.proofs.Common.{◌≡◌, ℕ, ◌∷◌, true, false, Option, None, Some, is_some, arith, []}
use Rattle.piper_machine.specs.Types.{Side, Luck, Registered, Woken}
use Rattle.piper_machine.specs.Open.{is_granted, is_yield_granted}
use Rattle.piper_machine.specs.Action.{registered_in, registration_of, yield_of, wake_of}
use Rattle.piper_machine.proofs.logs.Joint.{context_with}

pub none-of : (slot : Option ℕ) → false ≡ is_some slot → slot ≡ None
none-of slot e = grind arith

module _ (handed : Option ℕ) (luck : Luck) (waker : ℕ) (e : handed ≡ Some waker) where
  pub registers : (slot : Option ℕ) → luck.register_granted ≡ true → registered_in (context_with handed luck) slot ≡ Some waker
  registers slot g = grind arith

  pub grants : luck.register_granted ≡ true → is_granted (context_with handed luck) ≡ true
  grants g = grind arith

  pub reports : (side : Side) → luck.register_granted ≡ true → registration_of side (context_with handed luck) ≡ Registered side waker ∷ []
  reports side g = grind arith

  pub yields : luck.yield_granted ≡ true → is_yield_granted (context_with handed luck) ≡ true
  yields g = grind arith

  pub reports-yield : luck.yield_granted ≡ true → yield_of (context_with handed luck) ≡ Woken waker ∷ []
  reports-yield g = grind arith

  pub reports-wake : wake_of handed ≡ Woken waker ∷ []
  reports-wake = grind arith

module _ (handed : Option ℕ) (luck : Luck) (g : luck.register_granted ≡ false) where
  pub registers-none : (slot : Option ℕ) → registered_in (context_with handed luck) slot ≡ slot
  registers-none slot = grind arith

  pub refuses : is_granted (context_with handed luck) ≡ false
  refuses = grind arith

  pub reports-none : (side : Side) → registration_of side (context_with handed luck) ≡ []
  reports-none side = grind arith
