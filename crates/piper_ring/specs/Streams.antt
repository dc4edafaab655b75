-- A stream of bytes that goes on until it is ended, and what may become of it.
use Rattle.std.specs.Prelude.{◌≡◌, ℕ, Bool, true, false, List}
use mathlib.Core.Path.{refl, sym, ap, subst, ◌∙◌}
use mathlib.Core.Logic.Or
use mathlib.Core.Logic.{◌∨₁◌, ∨₁_prop}
use mathlib.Core.HLevel.{Π_prop, ×_prop}
use mathlib.Core.List.{IsPrefix}
use Rattle.std.proofs.lemmas.Bool.{false≢true}
use base.Stored.{Coded, Coded-set, coded_ℕ, coded_list, coded_bool, coded×}
use base.SetCodes.{coded}
use base.Growing.{Order, in_line, prefixes_in_line, prefix_refl, prefix_trans, prefix_anti, prefix_prop}

-- the bytes that came so far, and whether the stream is ended
abbrev pub Stream : Type 0
Stream = List ℕ × Bool

-- b is what may become of a: more bytes, unless a is ended
abbrev pub Reaches : Stream → Stream → Type 0
Reaches a b = IsPrefix a.0 b.0 × (a.1 ≡ true → b ≡ a)

abbrev pub either : Bool → Bool → Bool
either false b = b
either true b = true

abbrev Same : Stream → Stream → Type 0
Same a b = a ≡ b

abbrev stream_code : Coded Stream
stream_code = coded× (coded_list coded_ℕ) coded_bool

pub open_reaches : (xs : List ℕ) (b : Stream) → IsPrefix xs b.0 → Reaches (xs, false) b
open_reaches xs b h = (h, λ e. absurd (false≢true e))

pub reaches_prop : (a b : Stream) → IsProp (Reaches a b)
reaches_prop a b = ×_prop (prefix_prop (Coded-set (coded_list coded_ℕ)) a.0 b.0) (Π_prop (λ _. Coded-set stream_code b a))

pub reaches_same : (a : Stream) → Reaches a a
reaches_same a = (prefix_refl a.0, λ _. refl)

pub reaches_trans : (a b c : Stream) → Reaches a b → Reaches b c → Reaches a c
reaches_trans a b c h k = (prefix_trans a.0 b.0 c.0 h.0 k.0, λ e. k.1 (ap (λ (s : Stream). s.1) (h.1 e) ∙ e) ∙ h.1 e)

pub reaches_anti : (xs : List ℕ) (s : Bool) (ys : List ℕ) (t : Bool)
    → Reaches (xs, s) (ys, t) → Reaches (ys, t) (xs, s) → Same (xs, s) (ys, t)
reaches_anti xs true ys t h k = sym (h.1 refl)
reaches_anti xs false ys true h k = k.1 refl
reaches_anti xs false ys false h k = ap (λ (l : List ℕ). (l, false)) (prefix_anti xs ys h.0 k.0)

-- of two that became one stream, one is what became of the other
pub reaches_line : (xs : List ℕ) (s : Bool) (ys : List ℕ) (t : Bool) (d : Stream)
    → Reaches (xs, s) d → Reaches (ys, t) d → Reaches (xs, s) (ys, t) ∨₁ Reaches (ys, t) (xs, s)
reaches_line xs true ys t d h k = Or.inr (subst (λ (e : Stream). Reaches (ys, t) e) (h.1 refl) k)
reaches_line xs false ys true d h k = Or.inl (subst (λ (e : Stream). Reaches (xs, false) e) (k.1 refl) h)
reaches_line xs false ys false d h k =
    Or.elim ∨₁_prop (prefixes_in_line xs ys d.0 h.0 k.0)
    (λ p. Or.inl (open_reaches xs (ys, false) p)) (λ p. Or.inr (open_reaches ys (xs, false) p))

abbrev pub streams : Order Stream
streams = record {
  set_coded = coded stream_code;
  le = Reaches;
  prop = reaches_prop;
  same = reaches_same;
  trans = reaches_trans;
  anti = λ a b. reaches_anti a.0 a.1 b.0 b.1;
  join = λ a b d h k. in_line Reaches reaches_same a b (reaches_line a.0 a.1 b.0 b.1 d h k);
}
