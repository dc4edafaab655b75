-- The unread bytes between two indices, after one of the indices has moved or a free place was
-- written.
use Rattle.std.proofs.Common.{◌≡◌, ℕ, ◌+◌, ◌-◌, ◌*◌, ◌<◌, ◌≤◌, List, ◌++◌, length, take, drop, min, ap, sym, ◌∙◌, arith, []}
use Rattle.std.proofs.lemmas.Bool.Decides.{nat_tests}
use Rattle.std.proofs.Math.ListN.{set}
use Rattle.piper_protocol.specs.Index.{distance, offset_of, advanced}
use Rattle.piper_machine.specs.Buffer.{between, written}
use Rattle.piper_machine.proofs.Indices.{distance-advanced_to, distance-advanced_from, offset_of-distance, offset_of-advanced, place_below}
use Rattle.piper_machine.proofs.Ring.{ring, length-ring, ring-longer, ring-drop, ring-take, ring-pieces, ring-written, ring-set}

module _ (c h t : ℕ) (xs : List ℕ) (long : length xs ≡ c) (head : h < 2 * c) (tail : t < 2 * c) (fits : distance c h t ≤ c) where
  pub length-between : length (between c h t xs) ≡ distance c h t
  unfolding between
  length-between = length-ring c (offset_of c h) (distance c h t) xs long (place_below c h head) fits

  pub between-advanced_tail : (n : ℕ) → distance c h t + n ≤ c → offset_of c t + n ≤ c → 1 ≤ c → between c h (advanced c t n) xs ≡ between c h t xs ++ take n (drop (offset_of c t) xs)
  unfolding between
  between-advanced_tail n room below some =
      let there = offset_of-distance c h t head tail fits in
      ap (λ d. ring (offset_of c h) d xs) (distance-advanced_to c h t n head tail room below some)
      ∙ ring-longer c (offset_of c h) (distance c h t) xs long (place_below c h head) n room (omega (arith, there))
      ∙ ap (λ k. ring (offset_of c h) (distance c h t) xs ++ take n (drop k xs)) (sym there)

  pub between-advanced_head : (n : ℕ) → n ≤ distance c h t → offset_of c h + n ≤ c → 1 ≤ c → between c (advanced c h n) t xs ≡ drop n (between c h t xs)
  unfolding between
  between-advanced_head n within below some =
      ap (λ d. ring (offset_of c (advanced c h n)) d xs) (distance-advanced_from c h t n head tail within fits below some)
      ∙ ap (λ k. ring k (distance c h t - n) xs) (offset_of-advanced c h n head below some)
      ∙ ring-drop c (offset_of c h) (distance c h t) xs long (place_below c h head) n within fits below

  pub take-between : (n : ℕ) → n ≤ distance c h t → offset_of c h + n ≤ c → take n (drop (offset_of c h) xs) ≡ take n (between c h t xs)
  unfolding between
  take-between n within below = ring-take c (offset_of c h) (distance c h t) xs long (place_below c h head) n within below

  pub between-written : (o : ℕ) (ys : List ℕ) → distance c h t + o + length ys ≤ c → offset_of c t + o + length ys ≤ c → between c h t (written xs (offset_of c t + o) ys) ≡ between c h t xs
  unfolding between
  between-written o ys free below =
      let there = offset_of-distance c h t head tail fits in
      ap (λ k. ring (offset_of c h) (distance c h t) (written xs (k + o) ys)) there
      ∙ ring-written c (offset_of c h) (distance c h t) o xs ys long (place_below c h head) free (omega (arith, there))

module _ (c h t : ℕ) (xs : List ℕ) (long : length xs ≡ c) (head : h < 2 * c) (fits : distance c h t ≤ c) where
  pub between-pieces : (n : ℕ) → n ≡ min (distance c h t) (c - offset_of c h) → between c h t xs ≡ take n (drop (offset_of c h) xs) ++ take (distance c h t - n) xs
  unfolding between
  between-pieces n is = ring-pieces c (offset_of c h) (distance c h t) xs long (place_below c h head) n fits is

module _ (c h t : ℕ) (xs : List ℕ) (long : length xs ≡ c) (head : h < 2 * c) (tail : t < 2 * c) (fits : distance c h t ≤ c) where
  pub between-set : (o b : ℕ) → distance c h t + o + 1 ≤ c → offset_of c t + o + 1 ≤ c → between c h t (set xs (offset_of c t + o) b) ≡ between c h t xs
  unfolding between
  between-set o b free below =
      let there = offset_of-distance c h t head tail fits in
      ap (λ k. ring (offset_of c h) (distance c h t) (set xs (k + o) b)) there
      ∙ ring-set c (offset_of c h) (distance c h t) o xs b long (place_below c h head) free (omega (arith, there))

pub between_none : (c h : ℕ) (xs : List ℕ) → between c h h xs ≡ []
unfolding between
between_none c h xs = let none : distance c h h ≡ 0 = grind (arith, nat_tests) in ap (λ n. ring (offset_of c h) n xs) none
