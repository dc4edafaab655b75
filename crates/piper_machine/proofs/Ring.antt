-- The bytes of a ring, one by one: number i of those from the place h on is at the place of h + i.
use Rattle.std.proofs.Common.{◌≡◌, ◌≢◌, ℕ, ◌+◌, ◌-◌, ◌<◌, ◌≤◌, ◌⊎◌, List, ◌++◌, length, get_or, take, drop, sym, ap, ◌∙◌, inl, inr, arith, length-append, length-drop, length-take-le, get_or-drop, get_or-take, append-nil, min}
use Rattle.std.proofs.Math.Seq.{take-append-add, take-length}
use Rattle.std.proofs.Math.ListN.{set, length-set}
use Rattle.std.proofs.lemmas.Grind.{get_or-set_at, common_steps}
use Rattle.std.proofs.lemmas.List.{get_or-set_other, same_lists, take-take, take-append-le, get_or_append_left, get_or-append_right}
use Rattle.std.proofs.lemmas.Bool.{cases_lt, cases_eq}
use Rattle.std.proofs.lemmas.Bool.Decides.{nat_tests}
use Rattle.piper_protocol.specs.Index.{offset_of}
use Rattle.piper_machine.specs.Buffer.{written}
use Rattle.piper_machine.proofs.Indices.{offset_of-twice, offset_of-flat}

-- d bytes from the place h on, round the end
abbrev pub ring : ℕ → ℕ → List ℕ → List ℕ
ring h d xs = take d (drop h xs ++ take h xs)

module _ (c h d : ℕ) (xs : List ℕ) (long : length xs ≡ c) (start : h < c) (fits : d ≤ c) where
  pub length-ring : length (ring h d xs) ≡ d
  length-ring = length-take-le d _ (simp (length-append, length-drop) (omega (arith, length-take-le h xs (omega arith))))

  pub get_or-ring : (i e : ℕ) → i < d → get_or (ring h d xs) i e ≡ get_or xs (offset_of c (h + i)) e
  get_or-ring i e within = grind (arith, common_steps)

module _ (xs : List ℕ) (k : ℕ) (ys : List ℕ) (fits : k + length ys ≤ length xs) where
  pub length-written : length (written xs k ys) ≡ length xs
  length-written = simp (length-append, length-drop) (omega (arith, length-take-le k xs (omega arith)))

  pub get_or-written_outside : (i e : ℕ) → (i < k) ⊎ (k + length ys ≤ i) → get_or (written xs k ys) i e ≡ get_or xs i e
  get_or-written_outside i e h2 = grind (arith, common_steps)

module _ (c h d : ℕ) (xs : List ℕ) (long : length xs ≡ c) (start : h < c) where
  -- after its last byte are the next ones, up to the end of the buffer
  pub ring-longer : (n : ℕ) → d + n ≤ c → offset_of c (h + d) + n ≤ c → ring h (d + n) xs ≡ ring h d xs ++ take n (drop (offset_of c (h + d)) xs)
  ring-longer n fits below =
      let k = offset_of c (h + d) in
      let old = length-ring c h d xs long start (omega arith) in
      let new = length-ring c h (d + n) xs long start fits in
      let more : length (take n (drop k xs)) ≡ n = length-take-le n (drop k xs) (simp length-drop (omega arith)) in
      same_lists _ _ (simp length-append (omega arith)) (λ i e within. elim (cases_lt i d) [
        | inl in_old ↦ get_or-ring c h (d + n) xs long start fits i e (omega arith) ∙ sym (get_or_append_left _ _ e i (omega arith) ∙ get_or-ring c h d xs long start (omega arith) i e in_old)
        | inr in_new ↦ (
            let there : offset_of c (h + i) ≡ k + (i - d) = offset_of-flat c h d i start in_new (omega arith) (omega arith) in
            get_or-ring c h (d + n) xs long start fits i e (omega arith) ∙ ap (λ j. get_or xs j e) there
            ∙ sym (get_or-append_right _ _ d i e old in_new ∙ get_or-take n (drop k xs) (i - d) e (omega arith) ∙ get_or-drop k xs (i - d) e))
      ])

  -- without its first n bytes it is the ring from n further on
  pub ring-drop : (n : ℕ) → n ≤ d → d ≤ c → h + n ≤ c → ring (offset_of c (h + n)) (d - n) xs ≡ drop n (ring h d xs)
  ring-drop n within fits flat =
      let k = offset_of c (h + n) in
      let below : k < c = grind (arith, nat_tests) in
      let old = length-ring c h d xs long start fits in
      let new = length-ring c k (d - n) xs long below (omega arith) in
      same_lists _ _ (new ∙ sym (length-drop n (ring h d xs) ∙ ap (λ j. j - n) old)) (λ i e inside.
      get_or-ring c k (d - n) xs long below (omega arith) i e (omega arith)
      ∙ ap (λ j. get_or xs j e) (offset_of-twice c h n i start (omega arith))
      ∙ sym (get_or-drop n (ring h d xs) i e ∙ get_or-ring c h d xs long start fits (n + i) e (omega arith)))

  -- its first n bytes are contiguous
  pub ring-take : (n : ℕ) → n ≤ d → h + n ≤ c → take n (drop h xs) ≡ take n (ring h d xs)
  ring-take n within flat = sym (take-take n d (drop h xs ++ take h xs) within ∙ take-append-le n (drop h xs) (take h xs) (simp length-drop (omega arith)))

  -- it is in two pieces: up to the end of the buffer, and from its beginning
  pub ring-pieces : (n : ℕ) → d ≤ c → n ≡ min d (c - h) → ring h d xs ≡ take n (drop h xs) ++ take (d - n) xs
  ring-pieces n fits is = elim (cases_lt d (c - h)) [
    | inl low ↦ (
        let all : n ≡ d = omega arith in
        let none : d - n ≡ 0 = omega arith in
        take-append-le d (drop h xs) (take h xs) (simp length-drop (omega arith))
        ∙ ap (λ k. take k (drop h xs)) (sym all) ∙ sym (append-nil (take n (drop h xs))) ∙ ap (λ k. take n (drop h xs) ++ take k xs) (sym none))
    | inr high ↦ (
        let piece : length (drop h xs) ≡ n = length-drop h xs ∙ omega arith in
        let whole : d ≡ length (drop h xs) + (d - n) = omega arith in
        ap (λ k. take k (drop h xs ++ take h xs)) whole
        ∙ take-append-add (drop h xs) (take h xs) (d - n)
        ∙ ap (λ zs. drop h xs ++ zs) (take-take (d - n) h xs (omega arith))
        ∙ ap (λ zs. zs ++ take (d - n) xs) (sym (ap (λ k. take k (drop h xs)) (sym piece) ∙ take-length (drop h xs))))
  ]

outside : (c h d i o n : ℕ) → h < c → i < d → d + o + n ≤ c → offset_of c (h + d) + o + n ≤ c → (offset_of c (h + i) < offset_of c (h + d) + o) ⊎ (offset_of c (h + d) + o + n ≤ offset_of c (h + i))
outside c h d i o n start within free flat = grind (arith, nat_tests)

apart : (c h d i o : ℕ) → h < c → i < d → d + o + 1 ≤ c → offset_of c (h + d) + o + 1 ≤ c → offset_of c (h + i) ≢ offset_of c (h + d) + o
apart c h d i o start within free flat = grind (arith, nat_tests)

module _ (c h d o : ℕ) (xs ys : List ℕ) (long : length xs ≡ c) (start : h < c) (free : d + o + length ys ≤ c) (flat : offset_of c (h + d) + o + length ys ≤ c) where
  -- a write after its last byte leaves it as it was
  pub ring-written : ring h d (written xs (offset_of c (h + d) + o) ys) ≡ ring h d xs
  ring-written =
      let k = offset_of c (h + d) + o in
      let zs = written xs k ys in
      let long_zs : length zs ≡ c = length-written xs k ys (omega arith) ∙ long in
      let old = length-ring c h d xs long start (omega arith) in
      let new = length-ring c h d zs long_zs start (omega arith) in
      same_lists _ _ (new ∙ sym old) (λ i e within.
      get_or-ring c h d zs long_zs start (omega arith) i e (omega arith)
      ∙ get_or-written_outside xs k ys (omega arith) (offset_of c (h + i)) e (outside c h d i o (length ys) start (omega arith) free flat)
      ∙ sym (get_or-ring c h d xs long start (omega arith) i e (omega arith)))

module _ (c h d o : ℕ) (xs : List ℕ) (b : ℕ) (long : length xs ≡ c) (start : h < c) (free : d + o + 1 ≤ c) (flat : offset_of c (h + d) + o + 1 ≤ c) where
  -- nor does a byte put after its last one change it
  pub ring-set : ring h d (set xs (offset_of c (h + d) + o) b) ≡ ring h d xs
  ring-set =
      let k = offset_of c (h + d) + o in
      let zs = set xs k b in
      let long_zs : length zs ≡ c = length-set xs k b ∙ long in
      let old = length-ring c h d xs long start (omega arith) in
      let new = length-ring c h d zs long_zs start (omega arith) in
      same_lists _ _ (new ∙ sym old) (λ i e within.
      get_or-ring c h d zs long_zs start (omega arith) i e (omega arith)
      ∙ get_or-set_other xs k (offset_of c (h + i)) b e (apart c h d i o start (omega arith) free flat)
      ∙ sym (get_or-ring c h d xs long start (omega arith) i e (omega arith)))

-- a byte put into a slice
pub slice-set : (k l o : ℕ) (xs : List ℕ) (b : ℕ) → k + l ≤ length xs → o < l → take l (drop k (set xs (k + o) b)) ≡ set (take l (drop k xs)) o b
slice-set k l o xs b fits within =
    let whole = length-set xs (k + o) b in
    let long : length (take l (drop k xs)) ≡ l = length-take-le l (drop k xs) (simp length-drop (omega arith)) in
    let long_set : length (take l (drop k (set xs (k + o) b))) ≡ l = length-take-le l (drop k (set xs (k + o) b)) (simp length-drop (omega arith)) in
    same_lists _ _ (long_set ∙ sym (length-set (take l (drop k xs)) o b ∙ long)) (λ i e inside.
    let below : i < l = omega (arith, long_set) in
    let left = get_or-take l (drop k (set xs (k + o) b)) i e below ∙ get_or-drop k (set xs (k + o) b) i e in
    let right = get_or-take l (drop k xs) i e below ∙ get_or-drop k xs i e in
    elim (cases_eq i o) [
      | inl same ↦ left ∙ get_or-set_at xs (k + o) (k + i) b e (omega arith) (omega arith) ∙ sym (get_or-set_at (take l (drop k xs)) o i b e same (omega arith))
      | inr other ↦ left ∙ get_or-set_other xs (k + o) (k + i) b e (λ h. other (omega arith)) ∙ sym (get_or-set_other (take l (drop k xs)) o i b e other ∙ right)
    ])
