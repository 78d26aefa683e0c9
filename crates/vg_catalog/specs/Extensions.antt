-- The extensions of the instruction set, by the places that they have in their list.
use Rattle.std.specs.Prelude.{ℕ, List, [], ◌∷◌, Option, codes, position}
use Rattle.std.specs.Str.{bytes_eq}
use Rattle.vg_catalog.specs.declared.extensions.Extensions.{Extensions}

abbrev pub extension_names : List (List ℕ)
extension_names =
    codes "SSE2" ∷ codes "SSE3" ∷ codes "SSSE3" ∷ codes "SSE4.1" ∷ codes "SSE4.2" ∷ codes "AVX"
    ∷ codes "AVX2" ∷ codes "AVX_VNNI" ∷ codes "AVX512F" ∷ codes "AVX512BW" ∷ []

-- the place of the extension of this name
abbrev pub extension_place : List ℕ → Option ℕ
extension_place name = position (bytes_eq name) extension_names

-- the set of all ten
abbrev pub all_extensions : ℕ
all_extensions = 1023

-- a set as a number: bit i stands for the extension at place i
abbrev pub bits_in : Extensions → ℕ
bits_in e = e.0
