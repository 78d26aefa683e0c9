-- The rules on checks.
use Rattle.std.specs.Prelude.{◌≡◌, ℕ, ◌<◌, ◌≤◌, ◌⊎◌, ℤ, List, [], ◌∷◌}
use Rattle.std.specs.List.{AllByRecursion}
use Rattle.vg_base.specs.Offset.{IsOffset}
use Rattle.vg_guard.specs.declared.check.Check.{Check}

-- a range of bytes after one of n pointers
pub record IsRange (n p : ℕ) (low : ℤ) (len : ℕ) : Type 0 where
  pub pointer : p < n
  pub offset : IsOffset low
  pub some : 1 ≤ len
  pub few : len ≤ 4294967303

-- two ranges, the first after an earlier pointer
pub record IsCheck (n : ℕ) (c : Check) : Type 0 where
  pub first : IsRange n c.first c.first_low c.first_len
  pub second : IsRange n c.second c.second_low c.second_len
  pub ordered : c.first < c.second

-- the pair of pointers of a check stands after that of another
abbrev pub IsBehind : Check → Check → Type 0
IsBehind c d = (c.first < d.first) ⊎ ((c.first ≡ d.first) × (c.second < d.second))

-- each after all before it, so that no two are of one pair
abbrev pub AreRising : List Check → Type 0
AreRising [] = Unit {0}
AreRising (c ∷ cs) = AllByRecursion (IsBehind c) cs × AreRising cs

-- checks of pairs of n pointers
pub record AreChecks (n : ℕ) (cs : List Check) : Type 0 where
  pub each : AllByRecursion (IsCheck n) cs
  pub rising : AreRising cs
