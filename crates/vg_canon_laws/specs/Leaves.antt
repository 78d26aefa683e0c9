-- The leaves of a term, and what a canonical form keeps of them.
use Rattle.std.specs.Prelude.{◌≡◌, ◌⊎◌, ℕ}
use Rattle.vg_terms.specs.declared.term.LeafKey.{LeafKey}
use Rattle.vg_terms.specs.Term.{Tree, leaf, constant, one, two, sel}
use Rattle.vg_canon.specs.Canonical.{canonical}

-- a leaf of this width and key stands in the term
abbrev pub IsLeafOf : ℕ → LeafKey → Tree → Type 0
IsLeafOf v j (leaf w k) = (v ≡ w) × (j ≡ k)
IsLeafOf v j (constant w n) = ⊥
IsLeafOf v j (one op w k x) = IsLeafOf v j x
IsLeafOf v j (two op w x y) = IsLeafOf v j x ⊎ IsLeafOf v j y
IsLeafOf v j (sel w c x y) = IsLeafOf v j c ⊎ (IsLeafOf v j x ⊎ IsLeafOf v j y)

-- the canonical form of a term has no leaf that the term has not
abbrev pub CanonicalFormsKeepLeaves : Type 0
CanonicalFormsKeepLeaves =
    (t : Tree) (width : ℕ) (key : LeafKey) → IsLeafOf width key (canonical t) → IsLeafOf width key t
