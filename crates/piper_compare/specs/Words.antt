-- The arguments of the command line.
use Rattle.std.specs.Prelude.{◌≡◌, ◌⊎◌, List, [], ◌∷◌, codes, String, string_bytes}
use Rattle.piper_compare.specs.declared.mode.Mode.{Mode}
use Rattle.piper_compare.specs.declared.mode.Mode.TheVariants.{Help, Version, Vectors, Handles, Twin, Drawn}

abbrev pub IsDrawn : Mode → Type 0
IsDrawn (Drawn seeds) = Unit {0}
IsDrawn mode = ⊥

-- one word names a mode, and `twin` may be followed by two numbers
abbrev pub AsksFor : {A : Type 0} → List (String A) → Mode → Type 0
AsksFor [] mode = ⊥
AsksFor (word ∷ []) mode =
    ((string_bytes word ≡ codes "--help") × (mode ≡ Help))
    ⊎ ((string_bytes word ≡ codes "--version") × (mode ≡ Version))
    ⊎ ((string_bytes word ≡ codes "vectors") × (mode ≡ Vectors))
    ⊎ ((string_bytes word ≡ codes "handles") × (mode ≡ Handles))
    ⊎ ((string_bytes word ≡ codes "twin") × (mode ≡ Twin))
AsksFor (word ∷ second ∷ []) mode = ⊥
AsksFor (word ∷ seed ∷ count ∷ []) mode = (string_bytes word ≡ codes "twin") × IsDrawn mode
AsksFor (word ∷ seed ∷ count ∷ more ∷ words) mode = ⊥
