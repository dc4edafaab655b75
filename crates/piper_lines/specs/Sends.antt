-- Bytes on their way to a writer.
use Rattle.std.specs.Prelude.{◌≡◌, ℕ, Bool, true, false, List, [], ◌++◌}

-- of the bytes that were counted the front was published,
-- and all of them unless the writer saw its pipe closed
abbrev pub Publishes : List ℕ → List ℕ → List ℕ → Bool → Type 0
Publishes counted sent_before sent_after saw_after =
    (front : List ℕ) × (lost : List ℕ) × (counted ≡ front ++ lost)
    × (sent_after ≡ sent_before ++ front) × (saw_after ≡ false → lost ≡ [])

-- the bytes that are left begin where those end that were counted since;
-- none is counted of a pipe that was seen closed before
abbrev pub Sends : List ℕ → List ℕ → List ℕ → List ℕ → Bool → Bool → Type 0
Sends left_before left_after sent_before sent_after saw_before saw_after =
    (counted : List ℕ) × (left_before ≡ counted ++ left_after)
    × Publishes counted sent_before sent_after saw_after
    × (saw_before ≡ true → counted ≡ [])
