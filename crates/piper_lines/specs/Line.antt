-- A line of a text.
use Rattle.std.specs.Prelude.{◌≡◌, ◌≢◌, ℕ, List, [], ◌∷◌, ◌++◌, All}

-- the byte LF (line feed), which ends a line where no other byte is chosen
abbrev pub line_feed : ℕ
line_feed = 10

-- the byte CR (carriage return), which may come before an LF
abbrev pub carriage_return : ℕ
carriage_return = 13

-- no byte of it is this one
abbrev pub Lacks : ℕ → List ℕ → Type 0
Lacks end bytes = All (λ b. b ≢ end) bytes

-- its last byte is the only one that ends a line
abbrev pub IsLine : ℕ → List ℕ → Type 0
IsLine end bytes = (front : List ℕ) × Lacks end front × (bytes ≡ front ++ end ∷ [])
