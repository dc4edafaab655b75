-- The bytes in the buffer of a ring.
use Rattle.std.specs.Prelude.{ℕ, ◌+◌, List, length, take, drop, ◌++◌}
use Rattle.piper_protocol.specs.Index.{distance, offset_of}

-- the bytes of a ring from the index `head` to the index `tail`, round the end of the buffer
unfoldable pub between : ℕ → ℕ → ℕ → List ℕ → List ℕ
between capacity head tail bytes =
    let from = offset_of capacity head in
    take (distance capacity head tail) (drop from bytes ++ take from bytes)

-- the bytes with `source` in the places from `place` on
abbrev pub written : List ℕ → ℕ → List ℕ → List ℕ
written bytes place source = take place bytes ++ (source ++ drop (place + length source) bytes)
