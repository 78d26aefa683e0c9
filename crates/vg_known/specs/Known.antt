-- What is known of scalars and registers after the lines of a program, without a run: a term for each
-- scalar, and for each bit of a register a bit of a term.
use Rattle.std.specs.Prelude.{ℕ, ◌-◌, ◌*◌, List, [], ◌∷◌, ◌++◌, length, map, take, replicate, get_or}
use Rattle.vg_base.specs.Bits.{num, bits_of_bytes}
use Rattle.vg_base.specs.Width.{bits_of}
use Rattle.vg_bits.specs.Range.{range, replaced}
use Rattle.vg_terms.specs.Term.{Tree, constant}
use Rattle.vg_program.specs.declared.line.Line.{Line}
use Rattle.vg_program.specs.declared.line.Line.TheVariants.{Load, Store, Two, Shift, Resize, Compare, Select, VectorLoad, VectorStore, Constant, Insert, Extract, Call}
use Rattle.vg_program.specs.declared.operand.Operand.{Operand}
use Rattle.vg_program.specs.declared.operand.Operand.TheVariants.{Register, Argument, Literal}
use Rattle.vg_program.specs.Vectors.{bytes_of, register_of}
use Rattle.vg_shapes.specs.declared.ssa_unit.Operator.{Operator}
use Rattle.vg_shapes.specs.declared.ssa_unit.Operator.TheVariants as operator
use Rattle.vg_ssa.specs.ValueTerm.{no_term}
use Rattle.vg_lift.specs.Gather.{Bit, clear, bits_from}
use Rattle.vg_lift.specs.LaneTerm.{pieces}
use Rattle.vg_catalog.specs.Entries.{Entry}
use Rattle.vg_known.specs.Calls.{bits_of_terms, call_terms, lane_bits, met_with_all}
use Rattle.vg_known.specs.Cuts.{computed, gathered, met_with}
use Rattle.vg_known.specs.Kernels.{bits_at, pairs_of}

-- Beside scalars and registers: the terms that were met, and for each event that was stored its bits.
pub record Known : Type 0 where
  pub scalars : List Tree
  pub vectors : List (List Bit)
  pub met : List Tree
  pub puts : List (ℕ × List Bit)

-- What a walk over lines is given: the entries that may be called, the terms of the integer parameters,
-- and the bits that each event of a load reads.
pub record Given : Type 0 where
  pub entries : List Entry
  pub arguments : List Tree
  pub reads : List (ℕ × List Bit)

-- one scalar more, which is met
abbrev pub with_scalar : Known → Tree → Known
with_scalar k t = record {
  scalars = k.scalars ++ t ∷ [];
  vectors = k.vectors;
  met = met_with k.met t;
  puts = k.puts;
}

-- one register more
abbrev pub with_vector : Known → List Bit → Known
with_vector k bs =
    record { scalars = k.scalars; vectors = k.vectors ++ bs ∷ []; met = k.met; puts = k.puts }

-- events with these bits are stored
abbrev pub with_puts : Known → List ℕ → List Bit → Known
with_puts k es bs = record {
  scalars = k.scalars;
  vectors = k.vectors;
  met = k.met;
  puts = k.puts ++ pairs_of es bs;
}

abbrev pub with_met : Known → List Tree → Known
with_met k met =
    record { scalars = k.scalars; vectors = k.vectors; met = met; puts = k.puts }

abbrev pub operand_term : Given → Known → Operand → Tree
operand_term g k (Register r) = get_or k.scalars r no_term
operand_term g k (Argument a) = get_or g.arguments a no_term
operand_term g k (Literal w n) = constant (bits_of w) n

abbrev pub known_bits : Known → ℕ → List Bit
known_bits k v = get_or k.vectors v []

-- the bits of events, one after the other
abbrev pub event_bits : (ℕ → List Bit) → List ℕ → List Bit
event_bits bits_for [] = []
event_bits bits_for (e ∷ es) = bits_for e ++ event_bits bits_for es

-- the bits that a load of these events reads
abbrev pub read_bits : Given → List ℕ → List Bit
read_bits g es = event_bits (bits_at g.reads) es

-- the scalar that an operation on operands gives
abbrev pub with_operation : Given → Known → Operator → ℕ → ℕ → Tree → Tree → Tree → Known
with_operation g k op w n x y z = with_scalar k (computed k.met op w n x y z)

-- what is known after a line that has these events
abbrev pub know : Given → Line → List ℕ → Known → Known
know g (Load w a) es k = with_scalar k (gathered k.met (read_bits g es))
know g (Store w a x) es k = with_puts k es (bits_from (operand_term g k x) 0 (bits_of w))
know g (Two op w x y) es k =
    with_operation g k (operator.Two op) (bits_of w) 0 (operand_term g k x) (operand_term g k y) no_term
know g (Shift op w x n) es k =
    with_operation g k (operator.Shift op) (bits_of w) n (operand_term g k x) no_term no_term
know g (Resize op w from x) es k =
    with_operation g k (operator.Resize op from) (bits_of w) 0 (operand_term g k x) no_term no_term
know g (Compare op w x y) es k =
    with_operation g k (operator.Compare op) (bits_of w) 0 (operand_term g k x) (operand_term g k y)
    no_term
know g (Select w c x y) es k =
    with_operation g k operator.Select (bits_of w) 0 (operand_term g k c) (operand_term g k x)
    (operand_term g k y)
know g (VectorLoad z a) es k =
    with_vector k (read_bits g es ++ replicate (register_of z - 8 * bytes_of z) clear)
know g (VectorStore z a v) es k = with_puts k es (take (8 * bytes_of z) (known_bits k v))
know g (Constant bs) es k =
    with_vector k (pieces (8 * length bs) (num (bits_of_bytes bs)) 0 (8 * length bs))
know g (Insert v bits n w x) es k =
    with_vector k
    (replaced (n * bits_of w) (bits_from (operand_term g k x) 0 (bits_of w)) (known_bits k v))
know g (Extract v n w) es k =
    with_scalar k (gathered k.met (range (n * bits_of w) (bits_of w) (known_bits k v)))
know g (Call name vs imm bits cost) es k =
    let terms = call_terms g.entries k.met name imm (map (known_bits k) vs) in
    with_vector (with_met k (met_with_all k.met terms))
    (bits_of_terms (lane_bits g.entries name) terms)

-- what is known after lines, for each of which there are its events
abbrev pub know_all : Given → List Line → List (List ℕ) → Known → Known
know_all g [] ess k = k
know_all g (l ∷ ls) [] k = k
know_all g (l ∷ ls) (es ∷ ess) k = know_all g ls ess (know g l es k)
