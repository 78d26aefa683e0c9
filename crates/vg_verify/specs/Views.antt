-- What the code holds, as the definitions see it.
use Rattle.std.specs.Prelude.{ℕ, ◌+◌, List, [], ◌∷◌, map, Option}
use Rattle.vg_terms.specs.Term.{Tree}
use Rattle.vg_lift.specs.Gather.{Bit}
use Rattle.vg_catalog.specs.Entries.{Entry}
use Rattle.vg_known.specs.Calls.{bits_of_terms, call_terms, lane_bits, met_with_all}
use Rattle.vg_known.specs.Kernels.{Terms}
use Rattle.vg_known.specs.Known.{Given, Known, known_bits, with_met, with_vector}
use Rattle.vg_forms.specs.declared.run.Run.{Run}
use Rattle.vg_forms.specs.Runs.{bits_in, runs_range}
use Rattle.vg_verify.specs.declared.kernel_values.KernelTerms.{KernelTerms}
use Rattle.vg_verify.specs.declared.known.Knowing.{Knowing}
use Rattle.vg_verify.specs.declared.known.Given as declared
use Rattle.vg_known.specs.Difference.{Sides}
use Rattle.vg_verify.specs.declared.both_sides.Sides as declared_sides

abbrev pub terms_of : KernelTerms → Terms
terms_of k = record { terms = k.terms.items; met = k.maker.classes }

-- the bits of events, from their runs
abbrev pub pair_of : ℕ × List Run → ℕ × List Bit
pair_of p = (p.0, bits_in p.1)

abbrev pub pairs_in : List (ℕ × List Run) → List (ℕ × List Bit)
pairs_in ps = map pair_of ps

-- what the walk is given
abbrev pub given_with : List Entry → List Tree → List (ℕ × List Bit) → Given
given_with entries arguments reads =
    record { entries = entries; arguments = arguments; reads = reads }

abbrev pub given_of : declared.Given → Given
given_of g = given_with g.called.now g.arguments.now (pairs_in g.reads.now.table.entries)

-- nothing is known but the terms that were met
abbrev pub begun_with : List Tree → Known
begun_with met = record { scalars = []; vectors = []; met = met; puts = [] }

-- what is known
abbrev pub known_of : Knowing → Known
known_of k = record {
  scalars = k.scalars.items;
  vectors = map bits_in k.vectors.items;
  met = k.maker.classes;
  puts = pairs_in k.puts.items;
}

-- the register of so many bits a lane that has these terms, all of which are met
abbrev pub with_lanes : Known → ℕ → List Tree → Known
with_lanes k w terms =
    with_vector (with_met k (met_with_all k.met terms)) (bits_of_terms w terms)

-- what is known after a call
abbrev pub with_call : Given → Known → List ℕ → Option ℕ → List ℕ → Known
with_call g k name imm vs =
    with_lanes k (lane_bits g.entries name)
    (call_terms g.entries k.met name imm (map (known_bits k) vs))

-- eight bits of runs from a bit on for each event
abbrev pub runs_for : List ℕ → List Run → ℕ → List (ℕ × List Run)
runs_for [] rs low = []
runs_for (e ∷ es) rs low = (e, runs_range rs low 8) ∷ runs_for es rs (low + 8)

-- what is known of both sides
abbrev pub sides_in : declared_sides.Sides → Sides
sides_in s = record { terms = s.terms.items; known = known_of s.known }
