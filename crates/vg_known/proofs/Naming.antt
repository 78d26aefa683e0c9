-- All terms that are known name classes of terms that were met before.
use Rattle.std.proofs.Common.{ℕ, zero, suc, ◌+◌, ◌-◌, ◌*◌, ◌≤◌, inl, Bool, true, false, List, [], ◌∷◌, ◌++◌, length, map, take, drop, replicate, get_or, Option, Some, None, refl, ap, arith, length-append}
use Rattle.std.specs.Prelude.{if◌then◌else◌, nat_eq, slice_index_or}
use Rattle.std.specs.List.{flat_map}
use Rattle.std.specs.Option.{option_map_or}
use Rattle.vg_base.specs.Bits.{bits_of_bytes, num}
use Rattle.vg_base.specs.Width.{bits_of}
use Rattle.vg_terms.specs.declared.term.LeafKey.{LeafKey}
use Rattle.vg_terms.specs.Term.{Tree, leaf, constant, one, two, sel}
use Rattle.vg_canon.specs.Canonical.{canonical}
use Rattle.vg_program.specs.declared.line.Line.{Line}
use Rattle.vg_program.specs.declared.line.Line.TheVariants.{Load, Store, Two, Shift, Resize, Compare, Select, VectorLoad, VectorStore, Constant, Insert, Extract, Call}
use Rattle.vg_program.specs.declared.operand.Operand.{Operand}
use Rattle.vg_program.specs.declared.operand.Operand.TheVariants.{Register, Argument, Literal}
use Rattle.vg_program.specs.Vectors.{bytes_of, register_of}
use Rattle.vg_shapes.specs.declared.ssa.SsaParam.{SsaParam}
use Rattle.vg_shapes.specs.declared.ssa_unit.Operator.{Operator}
use Rattle.vg_shapes.specs.declared.ssa_unit.Operator.TheVariants as operator
use Rattle.vg_shapes.specs.declared.ssa_unit.SsaUnit.{SsaUnit}
use Rattle.vg_shapes.specs.declared.ssa_unit.SsaUnit.TheVariants as unit
use Rattle.vg_shapes.specs.declared.wanted.Wanted.{Wanted}
use Rattle.vg_shapes.specs.declared.wanted.Wanted.TheVariants as wanted
use Rattle.vg_shapes.specs.Fits.{replaced}
use Rattle.vg_shapes.specs.Lane.{Lane, known, big, dynamic}
use Rattle.vg_shapes.specs.Leaves.{bit_number}
use Rattle.vg_ssa.specs.ValueTerm.{no_term}
use Rattle.vg_ssa.specs.ValueTerm as kernel
use Rattle.vg_lift.specs.Gather.{Bit, bits_from, clear}
use Rattle.vg_lift.specs.LaneTerm.{pieces}
use Rattle.vg_catalog.specs.Entries.{Entry}
use Rattle.vg_catalog.specs.Called.{entry_named}
use Rattle.vg_bits.specs.Range.{range, replaced as replaced_bits}
use Rattle.vg_shapes.specs.Layout.{access_of}
use Rattle.vg_events.specs.Events.{labels_in}
use Rattle.vg_known.specs.Calls.{bits_of_terms, call_terms, lane_bits, lane_on, lanes_of, met_with_all, read_leaf, term_on}
use Rattle.vg_known.specs.Cuts.{computed, cut_bits, gathered, met_with}
use Rattle.vg_known.specs.Kernels.{argument_leaves, bits_at, pairs_of, read_by, reads_from, Terms, terms_behind, unit_term, with_term}
use Rattle.vg_known.specs.Known.{event_bits, Given, know, know_all, Known, known_bits, operand_term, read_bits, with_met, with_puts, with_scalar, with_vector}
use Rattle.vg_known.proofs.Below.{AreClasses, below-append, below-drop, below-take, bits-more, bits_from-below, BitsBelow, built-below, clears-below, computed-below, cut_bits-below, gather-below, gathered-below, met-classes, pieces-below, term-more, TermBelow}
use Rattle.vg_known.proofs.Walk.{Grows, met-grows, met_all-grows}

longer : {A : Type 0} (xs ys : List A) → Grows xs ys → length xs ≤ length ys
longer xs ys g = omega (arith, ap length g.1, length-append xs g.0)

-- ---- lists of terms

abbrev pub TermsBelow : ℕ → List Tree → Type 0
TermsBelow n [] = Unit {0}
TermsBelow n (t ∷ ts) = TermBelow n t × TermsBelow n ts

pub terms-more : (n m : ℕ) (ts : List Tree) → n ≤ m → TermsBelow n ts → TermsBelow m ts
terms-more n m [] h b = tt
terms-more n m (t ∷ ts) h b = (term-more n m t h b.0, terms-more n m ts h b.1)

pub terms-push : (n : ℕ) (ts : List Tree) (t : Tree) → TermsBelow n ts → TermBelow n t → TermsBelow n (ts ++ t ∷ [])
terms-push n [] t b h = (h, tt)
terms-push n (u ∷ ts) t b h = (b.0, terms-push n ts t b.1 h)

pub terms-at : (n : ℕ) (ts : List Tree) (k : ℕ) → TermsBelow n ts → TermBelow n (slice_index_or ts k no_term)
terms-at n [] k b = tt
terms-at n (t ∷ ts) zero b = b.0
terms-at n (t ∷ ts) (suc k) b = terms-at n ts k b.1

abbrev pub VectorsBelow : ℕ → List (List Bit) → Type 0
VectorsBelow n [] = Unit {0}
VectorsBelow n (v ∷ vs) = BitsBelow n v × VectorsBelow n vs

vectors-more : (n m : ℕ) (vs : List (List Bit)) → n ≤ m → VectorsBelow n vs → VectorsBelow m vs
vectors-more n m [] h b = tt
vectors-more n m (v ∷ vs) h b = (bits-more n m v h b.0, vectors-more n m vs h b.1)

vectors-push : (n : ℕ) (vs : List (List Bit)) (v : List Bit) → VectorsBelow n vs → BitsBelow n v → VectorsBelow n (vs ++ v ∷ [])
vectors-push n [] v b h = (h, tt)
vectors-push n (u ∷ vs) v b h = (b.0, vectors-push n vs v b.1 h)

vectors-at : (n : ℕ) (vs : List (List Bit)) (k : ℕ) → VectorsBelow n vs → BitsBelow n (get_or vs k [])
vectors-at n [] k b = tt
vectors-at n (v ∷ vs) zero b = b.0
vectors-at n (v ∷ vs) (suc k) b = vectors-at n vs k b.1

abbrev pub PairsBelow : ℕ → List (ℕ × List Bit) → Type 0
PairsBelow n [] = Unit {0}
PairsBelow n (p ∷ ps) = BitsBelow n p.1 × PairsBelow n ps

pairs-more : (n m : ℕ) (ps : List (ℕ × List Bit)) → n ≤ m → PairsBelow n ps → PairsBelow m ps
pairs-more n m [] h b = tt
pairs-more n m (p ∷ ps) h b = (bits-more n m p.1 h b.0, pairs-more n m ps h b.1)

bits_at-below : (n : ℕ) (ps : List (ℕ × List Bit)) (e : ℕ) → PairsBelow n ps → BitsBelow n (bits_at ps e)
bits_at-below n [] e b = tt
bits_at-below n (p ∷ ps) e b = either (nat_eq e p.0) p.1 (bits_at ps e) b.0 (bits_at-below n ps e b.1)
  where
    either : (t : Bool) (x y : List Bit) → BitsBelow n x → BitsBelow n y → BitsBelow n (if t then x else y)
    either true x y a c = a
    either false x y a c = c

events-below : (n : ℕ) (ps : List (ℕ × List Bit)) (es : List ℕ) → PairsBelow n ps → BitsBelow n (event_bits (bits_at ps) es)
events-below n ps [] b = tt
events-below n ps (e ∷ es) b = below-append n (bits_at ps e) (event_bits (bits_at ps) es) (bits_at-below n ps e b) (events-below n ps es b)

pub pairs-append : (n : ℕ) (ps qs : List (ℕ × List Bit)) → PairsBelow n ps → PairsBelow n qs → PairsBelow n (ps ++ qs)
pairs-append n [] qs b c = c
pairs-append n (p ∷ ps) qs b c = (b.0, pairs-append n ps qs b.1 c)

pairs_of-below : (n : ℕ) (es : List ℕ) (bs : List Bit) → BitsBelow n bs → PairsBelow n (pairs_of es bs)
pairs_of-below n [] bs h = tt
pairs_of-below n (e ∷ es) bs h = (below-take n 8 bs h, pairs_of-below n es (drop 8 bs) (below-drop n 8 bs h))

-- ---- the kernel

-- the terms so far name lower classes, and so does each that was met
pub record Named (s : Terms) : Type 0 where
  pub terms : TermsBelow (length s.met) s.terms
  pub classes : AreClasses s.met

wanted-below : (n : ℕ) (ts : List Tree) (x : Wanted) → TermsBelow n ts → TermBelow n (kernel.operand_term ts x)
wanted-below n ts (wanted.Value v) b = terms-at n ts v b
wanted-below n ts (wanted.Constant w k) b = tt
wanted-below n ts wanted.Nothing b = tt

unit-below : (flags : List Bool) (first : ℕ) (done : List SsaUnit) (s : Terms) (u : SsaUnit) → Named s → TermBelow (length s.met) (unit_term flags first done s u)
unit-below flags first done s (unit.Load a w) h = inl refl
unit-below flags first done s (unit.Store a w x) h = tt
unit-below flags first done s (unit.Operation op w k xs) h =
    computed-below s.met op (bits_of w) k (kernel.operand_term s.terms xs.first) (kernel.operand_term s.terms xs.second) (kernel.operand_term s.terms xs.third)
    (wanted-below (length s.met) s.terms xs.first h.terms) (wanted-below (length s.met) s.terms xs.second h.terms) (wanted-below (length s.met) s.terms xs.third h.terms)

met-named : (s : Terms) (t : Tree) → Named s → TermBelow (length s.met) t → Named (record { terms = s.terms ++ t ∷ []; met = met_with s.met t })
met-named s t h b =
    let more = longer s.met (met_with s.met t) (met-grows s.met t) in
    record {
      terms = terms-more (length s.met) (length (met_with s.met t)) (s.terms ++ t ∷ []) more (terms-push (length s.met) s.terms t h.terms b);
      classes = met-classes s.met t h.classes b;
    }

term-named : (s : Terms) (u : SsaUnit) (t : Tree) → Named s → TermBelow (length s.met) t → Named (with_term s u t)
term-named s (unit.Load a w) t h b = met-named s t h b
term-named s (unit.Store a w x) t h b = record { terms = terms-push (length s.met) s.terms t h.terms b; classes = h.classes }
term-named s (unit.Operation op w k xs) t h b = met-named s t h b

pub terms-named : (flags : List Bool) (first : ℕ) (done : List SsaUnit) (s : Terms) (us : List SsaUnit) → Named s → Named (terms_behind flags first done s us)
terms-named flags first done s [] h = h
terms-named flags first done s (u ∷ us) h =
    let own = unit_term flags first done s u in
    terms-named flags first (done ++ u ∷ []) (with_term s u own) us (term-named s u own h (unit-below flags first done s u h))

leaves-below : (n v : ℕ) (ps : List SsaParam) → TermsBelow n (argument_leaves v ps)
leaves-below n v [] = tt
leaves-below n v (p ∷ ps) = (inl refl, leaves-below n (v + 1) ps)

leaves-classes : (ts : List Tree) → ((n : ℕ) → TermsBelow n ts) → AreClasses ts
leaves-classes ts h c less = terms-at c ts c (h c)

pub leaves-named : (v : ℕ) (ps : List SsaParam) → Named (record { terms = argument_leaves v ps; met = argument_leaves v ps })
leaves-named v ps = record { terms = leaves-below (length (argument_leaves v ps)) v ps; classes = leaves-classes (argument_leaves v ps) (λ n. leaves-below n v ps) }

pub reads-below : (n f : ℕ) (us : List SsaUnit) (ts : List Tree) → TermsBelow n ts → PairsBelow n (reads_from f us ts)
reads-below n f [] ts b = tt
reads-below n f (u ∷ us) [] b = tt
reads-below n f (unit.Load a w ∷ us) (t ∷ ts) b =
    pairs-append n (read_by f (unit.Load a w) t) _ (pairs_of-below n _ (bits_from t 0 (bits_of w)) (bits_from-below n t 0 (bits_of w) b.0)) (reads-below n (f + length (labels_in (access_of (unit.Load a w)))) us ts b.1)
reads-below n f (unit.Store a w x ∷ us) (t ∷ ts) b = reads-below n (f + length (labels_in (access_of (unit.Store a w x)))) us ts b.1
reads-below n f (unit.Operation op w k xs ∷ us) (t ∷ ts) b = reads-below n (f + 0) us ts b.1

-- ---- the program

pub record KnownNamed (g : Given) (k : Known) : Type 0 where
  pub arguments : TermsBelow (length k.met) g.arguments
  pub reads : PairsBelow (length k.met) g.reads
  pub scalars : TermsBelow (length k.met) k.scalars
  pub vectors : VectorsBelow (length k.met) k.vectors
  pub classes : AreClasses k.met

get-below : (n : ℕ) (ts : List Tree) (k : ℕ) → TermsBelow n ts → TermBelow n (get_or ts k no_term)
get-below n [] k b = tt
get-below n (t ∷ ts) zero b = b.0
get-below n (t ∷ ts) (suc k) b = get-below n ts k b.1

operand-below : (g : Given) (k : Known) (x : Operand) → KnownNamed g k → TermBelow (length k.met) (operand_term g k x)
operand-below g k (Register r) h = get-below (length k.met) k.scalars r h.scalars
operand-below g k (Argument a) h = get-below (length k.met) g.arguments a h.arguments
operand-below g k (Literal w n) h = tt

-- with other terms met, all of which name lower classes
named-more : (g : Given) (k : Known) (met : List Tree) → KnownNamed g k → Grows k.met met → AreClasses met → KnownNamed g (with_met k met)
named-more g k met h grows classes =
    let more = longer k.met met grows in
    record {
      arguments = terms-more (length k.met) (length met) g.arguments more h.arguments;
      reads = pairs-more (length k.met) (length met) g.reads more h.reads;
      scalars = terms-more (length k.met) (length met) k.scalars more h.scalars;
      vectors = vectors-more (length k.met) (length met) k.vectors more h.vectors;
      classes = classes;
    }

scalar-named : (g : Given) (k : Known) (t : Tree) → KnownNamed g k → TermBelow (length k.met) t → KnownNamed g (with_scalar k t)
scalar-named g k t h b =
    let met = met_with k.met t in
    let next = named-more g k met h (met-grows k.met t) (met-classes k.met t h.classes b) in
    record {
      arguments = next.arguments;
      reads = next.reads;
      scalars = terms-push (length met) k.scalars t next.scalars (term-more (length k.met) (length met) t (longer k.met met (met-grows k.met t)) b);
      vectors = next.vectors;
      classes = next.classes;
    }

vector-named : (g : Given) (k : Known) (bs : List Bit) → KnownNamed g k → BitsBelow (length k.met) bs → KnownNamed g (with_vector k bs)
vector-named g k bs h b = record { arguments = h.arguments; reads = h.reads; scalars = h.scalars; vectors = vectors-push (length k.met) k.vectors bs h.vectors b; classes = h.classes }

puts-named : (g : Given) (k : Known) (es : List ℕ) (bs : List Bit) → KnownNamed g k → KnownNamed g (with_puts k es bs)
puts-named g k es bs h = record { arguments = h.arguments; reads = h.reads; scalars = h.scalars; vectors = h.vectors; classes = h.classes }

-- the terms of a call
replaced-below : (n : ℕ) (by : ℕ → LeafKey → Tree) (t : Tree) → ((w : ℕ) (k : LeafKey) → TermBelow n (by w k)) → TermBelow n (replaced by t)
replaced-below n by (leaf w k) h = h w k
replaced-below n by (constant w v) h = tt
replaced-below n by (one op w k x) h = replaced-below n by x h
replaced-below n by (two op w x y) h = (replaced-below n by x h, replaced-below n by y h)
replaced-below n by (sel w c x y) h = (replaced-below n by c h, replaced-below n by x h, replaced-below n by y h)

read_leaf-below : (n : ℕ) (registers : List (List Bit)) (w : ℕ) (k : LeafKey) → VectorsBelow n registers → TermBelow n (read_leaf registers w k)
read_leaf-below n registers w k h =
    let bs = get_or registers k.first [] in
    gather-below n (range (bit_number k.second) w bs) (below-take n w (drop (bit_number k.second) bs) (below-drop n (bit_number k.second) bs (vectors-at n registers k.first h)))

cut-vectors : (met : List Tree) (vs : List (List Bit)) → VectorsBelow (length met) vs → VectorsBelow (length met) (map (cut_bits met) vs)
cut-vectors met [] h = tt
cut-vectors met (v ∷ vs) h = (cut_bits-below met v h.0, cut-vectors met vs h.1)

lane_on-below : (met : List Tree) (registers : List (List Bit)) (t : Tree) → VectorsBelow (length met) registers → TermBelow (length met) (lane_on met registers t)
lane_on-below met registers t h =
    let form = canonical t in
    built-below (length met) (replaced (read_leaf registers) form) (replaced (read_leaf (map (cut_bits met) registers)) form)
    (replaced-below (length met) (read_leaf registers) form (λ w k. read_leaf-below (length met) registers w k h))
    (replaced-below (length met) (read_leaf (map (cut_bits met) registers)) form (λ w k. read_leaf-below (length met) (map (cut_bits met) registers) w k (cut-vectors met registers h)))

lanes-below : (met : List Tree) (registers : List (List Bit)) (ls : List Lane) → VectorsBelow (length met) registers → TermsBelow (length met) (flat_map (term_on met registers) ls)
lanes-below met registers [] h = tt
lanes-below met registers (known t ∷ ls) h = (lane_on-below met registers t h, lanes-below met registers ls h)
lanes-below met registers (big ∷ ls) h = lanes-below met registers ls h
lanes-below met registers (dynamic ∷ ls) h = lanes-below met registers ls h

call-below : (entries : List Entry) (met : List Tree) (name : List ℕ) (imm : Option ℕ) (registers : List (List Bit)) → VectorsBelow (length met) registers → TermsBelow (length met) (call_terms entries met name imm registers)
call-below entries met name imm registers h = by (entry_named entries name)
  where
    by : (o : Option Entry) → TermsBelow (length met) (option_map_or (λ e. flat_map (term_on met registers) (lanes_of e imm)) o [])
    by None = tt
    by (Some e) = lanes-below met registers (lanes_of e imm) h

all-classes : (met ts : List Tree) → AreClasses met → TermsBelow (length met) ts → AreClasses (met_with_all met ts)
all-classes met [] are b = are
all-classes met (t ∷ ts) are b =
    all-classes (met_with met t) ts (met-classes met t are b.0) (terms-more (length met) (length (met_with met t)) ts (longer met (met_with met t) (met-grows met t)) b.1)

lane-bits-below : (n w : ℕ) (ts : List Tree) → TermsBelow n ts → BitsBelow n (bits_of_terms w ts)
lane-bits-below n w [] h = tt
lane-bits-below n w (t ∷ ts) h = below-append n (bits_from t 0 w) (bits_of_terms w ts) (bits_from-below n t 0 w h.0) (lane-bits-below n w ts h.1)

registers-below : (k : Known) (vs : List ℕ) → VectorsBelow (length k.met) k.vectors → VectorsBelow (length k.met) (map (known_bits k) vs)
registers-below k [] h = tt
registers-below k (v ∷ vs) h = (vectors-at (length k.met) k.vectors v h, registers-below k vs h)

operation-named : (g : Given) (k : Known) (op : Operator) (w n : ℕ) (x y z : Tree) → KnownNamed g k → TermBelow (length k.met) x → TermBelow (length k.met) y → TermBelow (length k.met) z → KnownNamed g (with_scalar k (computed k.met op w n x y z))
operation-named g k op w n x y z h a b c = scalar-named g k (computed k.met op w n x y z) h (computed-below k.met op w n x y z a b c)

pub know-named : (g : Given) (l : Line) (es : List ℕ) (k : Known) → KnownNamed g k → KnownNamed g (know g l es k)
know-named g (Load w a) es k h = scalar-named g k (gathered k.met (read_bits g es)) h (gathered-below k.met (read_bits g es) (events-below (length k.met) g.reads es h.reads))
know-named g (Store w a x) es k h = puts-named g k es (bits_from (operand_term g k x) 0 (bits_of w)) h
know-named g (Two op w x y) es k h = operation-named g k (operator.Two op) (bits_of w) 0 (operand_term g k x) (operand_term g k y) no_term h (operand-below g k x h) (operand-below g k y h) tt
know-named g (Shift op w x n) es k h = operation-named g k (operator.Shift op) (bits_of w) n (operand_term g k x) no_term no_term h (operand-below g k x h) tt tt
know-named g (Resize op w from x) es k h = operation-named g k (operator.Resize op from) (bits_of w) 0 (operand_term g k x) no_term no_term h (operand-below g k x h) tt tt
know-named g (Compare op w x y) es k h = operation-named g k (operator.Compare op) (bits_of w) 0 (operand_term g k x) (operand_term g k y) no_term h (operand-below g k x h) (operand-below g k y h) tt
know-named g (Select w c x y) es k h = operation-named g k operator.Select (bits_of w) 0 (operand_term g k c) (operand_term g k x) (operand_term g k y) h (operand-below g k c h) (operand-below g k x h) (operand-below g k y h)
know-named g (VectorLoad z a) es k h =
    vector-named g k (read_bits g es ++ replicate (register_of z - 8 * bytes_of z) clear) h
    (below-append (length k.met) (read_bits g es) (replicate (register_of z - 8 * bytes_of z) clear) (events-below (length k.met) g.reads es h.reads) (clears-below (length k.met) (register_of z - 8 * bytes_of z)))
know-named g (VectorStore z a v) es k h = puts-named g k es (take (8 * bytes_of z) (known_bits k v)) h
know-named g (Constant bs) es k h = vector-named g k (pieces (8 * length bs) (num (bits_of_bytes bs)) 0 (8 * length bs)) h (pieces-below (length k.met) (8 * length bs) (num (bits_of_bytes bs)) 0 (8 * length bs))
know-named g (Insert v long n w x) es k h =
    let old = known_bits k v in
    let below_old = vectors-at (length k.met) k.vectors v h.vectors in
    let new = bits_from (operand_term g k x) 0 (bits_of w) in
    let low = n * bits_of w in
    vector-named g k (replaced_bits low new old) h
    (below-append (length k.met) (take low old) (new ++ drop (low + length new) old) (below-take (length k.met) low old below_old)
    (below-append (length k.met) new (drop (low + length new) old) (bits_from-below (length k.met) (operand_term g k x) 0 (bits_of w) (operand-below g k x h)) (below-drop (length k.met) (low + length new) old below_old)))
know-named g (Extract v n w) es k h =
    let part = range (n * bits_of w) (bits_of w) (known_bits k v) in
    scalar-named g k (gathered k.met part) h (gathered-below k.met part (below-take (length k.met) (bits_of w) (drop (n * bits_of w) (known_bits k v)) (below-drop (length k.met) (n * bits_of w) (known_bits k v) (vectors-at (length k.met) k.vectors v h.vectors))))
know-named g (Call name vs imm long cost) es k h =
    let terms = call_terms g.entries k.met name imm (map (known_bits k) vs) in
    let below = call-below g.entries k.met name imm (map (known_bits k) vs) (registers-below k vs h.vectors) in
    let met = met_with_all k.met terms in
    let grows = met_all-grows k.met terms in
    vector-named g (with_met k met) (bits_of_terms (lane_bits g.entries name) terms) (named-more g k met h grows (all-classes k.met terms h.classes below))
    (lane-bits-below (length met) (lane_bits g.entries name) terms (terms-more (length k.met) (length met) terms (longer k.met met grows) below))

pub know_all-named : (g : Given) (ls : List Line) (ess : List (List ℕ)) (k : Known) → KnownNamed g k → KnownNamed g (know_all g ls ess k)
know_all-named g [] ess k h = h
know_all-named g (l ∷ ls) [] k h = h
know_all-named g (l ∷ ls) (es ∷ ess) k h = know_all-named g ls ess (know g l es k) (know-named g l es k h)
