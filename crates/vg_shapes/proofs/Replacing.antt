-- A term whose leaves are replaced by terms of their widths and numbers has the number of the term.
use Rattle.std.proofs.Common.{◌≡◌, ℕ, cond, refl}
use Rattle.std.specs.Prelude.{nat_eq}
use Rattle.vg_terms.specs.declared.term.LeafKey.{LeafKey}
use Rattle.vg_terms.specs.declared.value.Env.{Env}
use Rattle.vg_terms.specs.Term.{Tree, leaf, constant, one, two, sel, width_of}
use Rattle.vg_terms.specs.Value.{one_value, two_value, value}
use Rattle.vg_shapes.specs.Fits.{EachLeaf, replaced, ReplacedKeepNumbers}

-- a leaf and what replaces it
abbrev Kept : (ℕ → LeafKey → Tree) → Env → Env → ℕ → LeafKey → Type 0
Kept by run read w k = (width_of (by w k) ≡ w) × (value run (by w k) ≡ value read (leaf w k))

replaced-width : (by : ℕ → LeafKey → Tree) (run read : Env) (t : Tree) → EachLeaf (Kept by run read) t → width_of (replaced by t) ≡ width_of t
replaced-width by run read (leaf w k) h = h.0
replaced-width by run read (constant w n) h = refl
replaced-width by run read (one op w k x) h = refl
replaced-width by run read (two op w x y) h = refl
replaced-width by run read (sel w c x y) h = refl

pub replaced-value : ReplacedKeepNumbers
replaced-value by run read (leaf w k) h = h.1
replaced-value by run read (constant w n) h = refl
replaced-value by run read (one op w k x) h =
    λ i. one_value op w k (replaced-width by run read x h i) (replaced-value by run read x h i)
replaced-value by run read (two op w x y) h =
    λ i. two_value op w (replaced-width by run read y h.1 i) (replaced-value by run read x h.0 i) (replaced-value by run read y h.1 i)
replaced-value by run read (sel w c x y) h =
    λ i. cond (nat_eq (replaced-value by run read c h.0 i) 1) (replaced-value by run read x h.1 i) (replaced-value by run read y h.2 i)
