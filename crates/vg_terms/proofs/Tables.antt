-- Rows that give something under a test, and tables, which are sound where their rows are.
use Rattle.std.proofs.Common.{◌≡◌, ◌⊎◌, Bool, true, false, List, [], ◌∷◌, refl, subst, inl, inr}
use Rattle.std.specs.Prelude.{Option, Some, None, if◌then◌else◌}
use Rattle.std.specs.Option.{option_or}
use Rattle.vg_terms.specs.Table.{first, Promises, IsSound, AllSound}
use Rattle.vg_terms.specs.Term.{Tree}

-- the result is what the row gives
pub given : (old r new : Tree) → Promises old r → Some r ≡ Some new → Promises old new
given old r new p e = let same : r ≡ new = cc in subst (Promises old) same p

-- a row that gives something, its test holds
pub tested : (b : Bool) (o : Option Tree) (new : Tree) → (if b then o else None) ≡ Some new → (b ≡ true) × (o ≡ Some new)
tested true o new e = (refl, e)
tested false o new e = absurd (cc)

pub given_if : (b : Bool) (old r new : Tree) → (b ≡ true → Promises old r) → (if b then Some r else None) ≡ Some new → Promises old new
given_if b old r new p e = let t = tested b (Some r) new e in given old r new (p t.0) t.1

-- a row with two tests, one after the other
pub given_else : (b c : Bool) (old q r new : Tree) → (b ≡ true → Promises old q) → (c ≡ true → Promises old r) → (if b then Some q else if c then Some r else None) ≡ Some new → Promises old new
given_else true c old q r new p s e = given old q new (p refl) e
given_else false c old q r new p s e = given_if c old r new s e

-- what either gives, one of them gives
pub either : (a b : Option Tree) (new : Tree) → option_or a b ≡ Some new → (a ≡ Some new) ⊎ (b ≡ Some new)
either (Some x) b new e = inl e
either None b new e = inr e

pub first-sound : (table : List (Tree → Option Tree)) → AllSound table → IsSound (first table)
first-sound [] h old new f e = absurd (cc)
first-sound (row ∷ rows) h old new f e =
    elim (either (row old) (first rows old) new e) [ inl g ↦ h.0 old new f g | inr g ↦ first-sound rows h.1 old new f g ]
