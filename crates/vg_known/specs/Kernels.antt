-- The terms of the values of a kernel, and the bits of what its loads read.
use Rattle.std.specs.Prelude.{ℕ, ◌+◌, Bool, List, [], ◌∷◌, ◌++◌, length, drop, take, nat_eq, if◌then◌else◌}
use Rattle.vg_base.specs.Width.{bits_of, size_of}
use Rattle.vg_terms.specs.Term.{Tree, leaf}
use Rattle.vg_shapes.specs.declared.ssa.Ssa.{Ssa}
use Rattle.vg_shapes.specs.declared.ssa.SsaParam.{SsaParam}
use Rattle.vg_shapes.specs.declared.ssa_unit.SsaUnit.{SsaUnit}
use Rattle.vg_shapes.specs.declared.ssa_unit.SsaUnit.TheVariants.{Load, Store, Operation}
use Rattle.vg_shapes.specs.Layout.{access_of, noalias_flags}
use Rattle.vg_shapes.specs.Order.{numbers_from}
use Rattle.vg_shapes.specs.Sound.{argument_key, is_store, kind_bits, load_key}
use Rattle.vg_shapes.specs.Units.{arguments, integers}
use Rattle.vg_ssa.specs.ValueTerm.{no_term, operand_term}
use Rattle.vg_lift.specs.Gather.{Bit, bits_from}
use Rattle.vg_events.specs.Events.{labels_in}
use Rattle.vg_known.specs.Cuts.{computed, met_with}
use Rattle.vg_known.specs.FirstLoads.{first_load}

-- the terms of the values so far, and those that were met, by their classes
pub record Terms : Type 0 where
  pub terms : List Tree
  pub met : List Tree

-- the leaves of integer parameters, of which the first has this number
abbrev pub argument_leaves : ℕ → List SsaParam → List Tree
argument_leaves v [] = []
argument_leaves v (p ∷ ps) = leaf (kind_bits p.kind) (argument_key v) ∷ argument_leaves (v + 1) ps

-- the term of a unit after these, of which the first has the number first; a store has none
abbrev pub unit_term : List Bool → ℕ → List SsaUnit → Terms → SsaUnit → Tree
unit_term flags first done s (Load a w) =
    leaf (bits_of w) (load_key a (first_load flags first done (length s.terms) a w))
unit_term flags first done s (Store a w x) = no_term
unit_term flags first done s (Operation op w k xs) =
    computed s.met op (bits_of w) k (operand_term s.terms xs.first) (operand_term s.terms xs.second)
    (operand_term s.terms xs.third)

-- one value more; that of a store is not met
abbrev pub with_term : Terms → SsaUnit → Tree → Terms
with_term s u t =
    record { terms = s.terms ++ t ∷ []; met = if is_store u then s.met else met_with s.met t }

-- the terms of units after these
abbrev pub terms_behind : List Bool → ℕ → List SsaUnit → Terms → List SsaUnit → Terms
terms_behind flags first done s [] = s
terms_behind flags first done s (u ∷ us) =
    terms_behind flags first (done ++ u ∷ []) (with_term s u (unit_term flags first done s u)) us

abbrev pub kernel_terms : Ssa → Terms
kernel_terms ssa =
    let leaves = argument_leaves 0 (integers ssa) in
    terms_behind (noalias_flags ssa) (arguments ssa) [] (record { terms = leaves; met = leaves })
    ssa.units

-- ---- bits of events

-- eight bits for each event
abbrev pub pairs_of : List ℕ → List Bit → List (ℕ × List Bit)
pairs_of [] bs = []
pairs_of (e ∷ es) bs = (e, take 8 bs) ∷ pairs_of es (drop 8 bs)

-- the bits of an event, if there are any
abbrev pub bits_at : List (ℕ × List Bit) → ℕ → List Bit
bits_at [] e = []
bits_at (p ∷ ps) e = if nat_eq e p.0 then p.1 else bits_at ps e

-- the bits that a unit with this term reads, its first event having this number
abbrev pub read_by : ℕ → SsaUnit → Tree → List (ℕ × List Bit)
read_by f (Load a w) t = pairs_of (numbers_from f (size_of w)) (bits_from t 0 (bits_of w))
read_by f (Store a w x) t = []
read_by f (Operation op w k xs) t = []

-- the same of units with these terms
abbrev pub reads_from : ℕ → List SsaUnit → List Tree → List (ℕ × List Bit)
reads_from f [] ts = []
reads_from f (u ∷ us) [] = []
reads_from f (u ∷ us) (t ∷ ts) =
    read_by f u t ++ reads_from (f + length (labels_in (access_of u))) us ts

abbrev pub kernel_reads : Ssa → List Tree → List (ℕ × List Bit)
kernel_reads ssa terms = reads_from 0 ssa.units (drop (arguments ssa) terms)
