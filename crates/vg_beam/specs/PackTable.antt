-- The table in which packs have numbers.
use Rattle.std.specs.Prelude.{◌≡◌, ◌<◌, ◌++◌, ℕ, List, [], length, map, get_or, Option, Some, None}
use Rattle.std.specs.List.{flat_map}
use Rattle.vg_kernel_plans.specs.Fed.{packing_by}
use Rattle.vg_kernel_plans.specs.Taken.{IsShort, operands_of}
use Rattle.vg_kernel_plans.specs.declared.choice.Choice.{Choice}
use Rattle.vg_shapes.specs.declared.match_table.Match.{Match}
use Rattle.vg_plans.specs.World.{tried_for}
use Rattle.vg_shapes.specs.declared.operand.Operand.{Operand}
use Rattle.vg_shapes.specs.declared.pack.Pack.{Pack}
use Rattle.vg_shapes.specs.declared.pack.Pack.TheVariants.{Stores}
use Rattle.vg_shapes.specs.declared.ssa.Ssa.{Ssa}
use Rattle.vg_shapes.specs.Description.{Description}
use Rattle.vg_beam.specs.declared.pack_table.PackTable.{PackTable}
use Rattle.vg_beam.specs.Key.{AreApart, Names}
use Rattle.vg_beam.specs.PackWords.{words_of}

abbrev pub no_pack : Pack
no_pack = Stores []

-- the pack of a number
abbrev pub pack_at : List Pack → ℕ → Pack
pack_at packs n = get_or packs n no_pack

-- the packs that are tried for what a pack takes
abbrev pub produced_by : Choice → List Description → List Match → Ssa → Pack → List Pack
produced_by ch ds matches ssa p =
    flat_map (tried_for (packing_by ch ds matches ssa [])) (operands_of ds matches ssa p)

-- the numbers of the packs that are tried for what a pack takes, if they were looked for
abbrev pub AreProduced :
    Choice → List Description → List Match → Ssa → List Pack → Pack → Option (List ℕ) → Type 0
AreProduced ch ds matches ssa packs p None = Unit {0}
AreProduced ch ds matches ssa packs p (Some numbers) = Names no_pack packs numbers (produced_by ch ds matches ssa p)

-- these are the operands that a pack takes, if it has few lanes
abbrev pub AreTaken : List Description → List Match → Ssa → Pack → List Operand → Type 0
AreTaken ds matches ssa p os = IsShort p → os ≡ operands_of ds matches ssa p

-- each pack stands once, its words stand at its number, it takes the operands beside it, and for what it takes is tried what is noted
pub record IsPackTable
    (ch : Choice) (ds : List Description) (matches : List Match) (ssa : Ssa) (b : PackTable)
    : Type 0 where
  pub apart : AreApart no_pack b.packs.items
  pub places : map (λ k. k.items) b.places.keys ≡ map words_of b.packs.items
  pub long : length b.produced.items ≡ length b.packs.items
  pub taken : length b.operands.items ≡ length b.packs.items
  pub operands :
      (n : ℕ) → n < length b.packs.items
      → AreTaken ds matches ssa (pack_at b.packs.items n) (get_or b.operands.items n [])
  pub produced :
      (n : ℕ) → n < length b.packs.items
      → AreProduced ch ds matches ssa b.packs.items (pack_at b.packs.items n) (get_or b.produced.items n None)

-- packs keep their numbers
abbrev pub Grows : List Pack → List Pack → Type 0
Grows packs longer = (more : List Pack) × (longer ≡ packs ++ more)

abbrev pub numbers_in : Option (List ℕ) → List ℕ
numbers_in None = []
numbers_in (Some numbers) = numbers

-- what is noted for a pack
abbrev pub produced_at : PackTable → ℕ → List ℕ
produced_at b n = numbers_in (get_or b.produced.items n None)

-- a pack has a number in a table that grew
pub record IsNumbered
    (ch : Choice) (ds : List Description) (matches : List Match) (ssa : Ssa)
    (old new : PackTable) (p : Pack) (n : ℕ)
    : Type 0 where
  pub pack_table : IsPackTable ch ds matches ssa new
  pub grows : Grows old.packs.items new.packs.items
  pub inside : n < length new.packs.items
  pub pack : pack_at new.packs.items n ≡ p

-- packs have numbers in a table that grew
pub record AreNumbered
    (ch : Choice) (ds : List Description) (matches : List Match) (ssa : Ssa)
    (old new : PackTable) (ps : List Pack) (numbers : List ℕ)
    : Type 0 where
  pub pack_table : IsPackTable ch ds matches ssa new
  pub grows : Grows old.packs.items new.packs.items
  pub names : Names no_pack new.packs.items numbers ps

-- for what a pack takes is tried what is noted, in a table that grew
pub record IsOpened
    (ch : Choice) (ds : List Description) (matches : List Match) (ssa : Ssa)
    (old new : PackTable) (n : ℕ)
    : Type 0 where
  pub pack_table : IsPackTable ch ds matches ssa new
  pub grows : Grows old.packs.items new.packs.items
  pub produced :
      Names no_pack new.packs.items (produced_at new n)
      (produced_by ch ds matches ssa (pack_at old.packs.items n))
