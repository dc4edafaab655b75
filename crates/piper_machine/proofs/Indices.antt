-- How far apart two indices are, and at which places they are, after one of them has moved.
use Rattle.std.proofs.Common.{◌≡◌, ℕ, ◌+◌, ◌-◌, ◌*◌, ◌<◌, ◌≤◌, arith}
use Rattle.std.proofs.lemmas.Bool.Decides.{nat_tests}
use Rattle.piper_protocol.specs.Index.{distance, offset_of, advanced}

pub distance-advanced_to : (c h t n : ℕ) → h < 2 * c → t < 2 * c → distance c h t + n ≤ c → offset_of c t + n ≤ c → 1 ≤ c → distance c h (advanced c t n) ≡ distance c h t + n
distance-advanced_to c h t n head tail fits below some = grind (arith, nat_tests)

pub distance-advanced_from : (c h t n : ℕ) → h < 2 * c → t < 2 * c → n ≤ distance c h t → distance c h t ≤ c → offset_of c h + n ≤ c → 1 ≤ c → distance c (advanced c h n) t ≡ distance c h t - n
distance-advanced_from c h t n head tail within fits below some = grind (arith, nat_tests)

-- the index t is as far past the place of h as it is past h
pub offset_of-distance : (c h t : ℕ) → h < 2 * c → t < 2 * c → distance c h t ≤ c → offset_of c t ≡ offset_of c (offset_of c h + distance c h t)
offset_of-distance c h t head tail fits = grind (arith, nat_tests)

pub offset_of-advanced : (c h n : ℕ) → h < 2 * c → offset_of c h + n ≤ c → 1 ≤ c → offset_of c (advanced c h n) ≡ offset_of c (offset_of c h + n)
offset_of-advanced c h n head below some = grind (arith, nat_tests)

pub place_below : (c i : ℕ) → i < 2 * c → offset_of c i < c
place_below c i below = grind (arith, nat_tests)

-- two steps round the ring are one
pub offset_of-twice : (c h m n : ℕ) → h < c → m + n < c → offset_of c (offset_of c (h + m) + n) ≡ offset_of c (h + (m + n))
offset_of-twice c h m n start within = grind (arith, nat_tests)

pub offset_of-flat : (c h d i : ℕ) → h < c → d ≤ i → i < c → offset_of c (h + d) + (i - d) < c → offset_of c (h + i) ≡ offset_of c (h + d) + (i - d)
offset_of-flat c h d i start from inside flat = grind (arith, nat_tests)

pub offset_of_low : (c i : ℕ) → i < c → offset_of c i ≡ i
offset_of_low c i low = grind (arith, nat_tests)
