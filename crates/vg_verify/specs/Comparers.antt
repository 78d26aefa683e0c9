-- What a comparer holds of the terms that were met.
use Rattle.std.specs.Prelude.{◌≡◌, Bool, List, Option, Some, None}
use Rattle.vg_terms.specs.Term.{Tree}
use Rattle.vg_known.specs.WiderDifference.{wholes_of}
use Rattle.vg_forms.specs.declared.maker.Maker.{Maker}
use Rattle.vg_verify.specs.declared.comparer.Comparer.{Comparer}

-- the wholes that it holds, if any, are those of what was met
abbrev pub AreWholesOf : List Tree → Option (List Tree) → Type 0
AreWholesOf met None = Unit {0}
AreWholesOf met (Some wholes) = wholes ≡ wholes_of met

abbrev pub HasWholes : Comparer → Type 0
HasWholes c = AreWholesOf c.maker.classes c.wholes

-- by the terms that a maker met
pub record Takes (more : Bool) (maker : Maker) (c : Comparer) : Type 0 where
  pub has : HasWholes c
  pub with_more : c.more ≡ more
  pub classes : c.maker.classes ≡ maker.classes

-- no more terms were met
pub record IsStill (old new : Comparer) : Type 0 where
  pub with_more : new.more ≡ old.more
  pub classes : new.maker.classes ≡ old.maker.classes
  pub has : HasWholes new
