-- What follows for two streams where one may become of the other. Assumes nothing.
use Rattle.piper_ring.proofs.Kit.{◌≡◌, ℕ, ◌+◌, ◌<◌, ◌≤◌, ◌⊎◌, inl, inr, Bool, true, false, List, ◌++◌, length, take, max, leb, refl, sym, ap, subst, ◌∙◌, length-append, arith, take-append_seam, take-append-le, take-append-drop, IsPrefix, flag, Stream, Reaches, open_reaches, drop_list, false≢true, leb_tells}

-- of two beginnings of one list, the longer begins with the shorter
pub begins : (a b l xs ys : List ℕ) → a ++ xs ≡ l → b ++ ys ≡ l → length a ≤ length b → a ++ drop_list (length a) b ≡ b
begins a b l xs ys ea eb le = let front : a ≡ take (length a) b = sym (take-append_seam a xs) ∙ ap (take (length a)) (ea ∙ sym eb) ∙ take-append-le (length a) b ys le in
    ap (λ (c : List ℕ). c ++ drop_list (length a) b) front ∙ take-append-drop (length a) b

shorter : (a b l xs ys : List ℕ) → a ++ xs ≡ l → b ++ ys ≡ l → ((leb (length a) (length b) ≡ true) × (length a ≤ length b)) ⊎ ((leb (length a) (length b) ≡ false) × (length b < length a)) → IsPrefix a b ⊎ IsPrefix b a
shorter a b l xs ys ea eb (inl e) = inl (drop_list (length a) b, begins a b l xs ys ea eb e.1)
shorter a b l xs ys ea eb (inr e) = let lt : length b < length a = e.1 in inr (drop_list (length b) a, begins b a l ys xs eb ea (omega arith))

-- of two that became one stream, one is what became of the other
pub in_line : (xs : List ℕ) (s : Bool) (ys : List ℕ) (t : Bool) (d : Stream) → Reaches (xs, s) d → Reaches (ys, t) d → Reaches (xs, s) (ys, t) ⊎ Reaches (ys, t) (xs, s)
in_line xs true ys t d h k = inr (subst (λ (e : Stream). Reaches (ys, t) e) (h.1 refl) k)
in_line xs false ys true d h k = inl (subst (λ (e : Stream). Reaches (xs, false) e) (k.1 refl) h)
in_line xs false ys false d h k = both_open (shorter xs ys d.0 h.0.0 k.0.0 h.0.1 k.0.1 (leb_tells (length xs) (length ys))) where
  both_open : IsPrefix xs ys ⊎ IsPrefix ys xs → Reaches (xs, false) (ys, false) ⊎ Reaches (ys, false) (xs, false)
  both_open (inl p) = inl (open_reaches xs (ys, false) p)
  both_open (inr p) = inr (open_reaches ys (xs, false) p)

pub prefix_length : (xs ys : List ℕ) → IsPrefix xs ys → length xs ≤ length ys
prefix_length xs ys p = let whole : length (xs ++ p.0) ≡ length ys = ap length p.1 in let parts : length (xs ++ p.0) ≡ length xs + length p.0 = length-append xs p.0 in omega arith

pub ended_still : (a b : Stream) → Reaches a b → a.1 ≡ true → b.1 ≡ true
ended_still a b h e = ap (λ (s : Stream). s.1) (h.1 e) ∙ e

flag_rises : (s t : Bool) → (s ≡ true → t ≡ true) → flag s ≤ flag t
flag_rises false t f = omega arith
flag_rises true true f = omega arith
flag_rises true false f = absurd (false≢true (f refl))

pub flag_reaches : (a b : Stream) → Reaches a b → flag a.1 ≤ flag b.1
flag_reaches a b h = flag_rises a.1 b.1 (ended_still a b h)

not_ended : (t : Bool) → (t ≡ true → false ≡ true) → t ≡ false
not_ended false f = refl
not_ended true f = absurd (false≢true (f refl))

-- what became a stream that goes on goes on itself
pub open_before : (a : Stream) (xs : List ℕ) → Reaches a (xs, false) → a.1 ≡ false
open_before a xs h = not_ended a.1 (ended_still a (xs, false) h)

-- r reports what either of the two reports, and no more
abbrev pub Joined : Stream → Stream → Stream → Type 0
Joined a b r = (length r.0 ≡ max (length a.0) (length b.0)) × (flag r.1 ≡ max (flag a.1) (flag b.1)) × Reaches a r × Reaches b r × ((all : Stream) → Reaches a all → Reaches b all → Reaches r all)
