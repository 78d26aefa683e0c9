-- What is known fits what is defined, and what is stored is eight bits for each event, whatever runs.
use Rattle.std.proofs.Common.{◌≡◌, ℕ, ◌+◌, ◌-◌, ◌*◌, ◌<◌, ◌≤◌, false, List, [], ◌∷◌, ◌++◌, length, map, take, drop, replicate, refl, sym, ap, subst, ◌∙◌, inl, inr, arith, length-append}
use Rattle.std.specs.Prelude.{nat_eq, slice_get}
use Rattle.std.proofs.lemmas.Bool.{cases_Bool, cond-true, cond-false}
use Rattle.std.proofs.lemmas.List.{length-drop, length-take-le}
use Rattle.vg_base.specs.declared.width.Width.{Width}
use Rattle.vg_base.specs.Bits.{bits_of_bytes, num}
use Rattle.vg_base.specs.Width.{bits_of}
use Rattle.vg_bits.specs.Range.{range, replaced}
use Rattle.vg_bits.proofs.Ranges.{length-range, length-replaced}
use Rattle.vg_terms.specs.declared.value.Env.{Env}
use Rattle.vg_terms.specs.Term.{Tree}
use Rattle.vg_program.specs.declared.defined.Defined.TheVariants.{Scalar, Vector}
use Rattle.vg_program.specs.declared.line.Line.{Line}
use Rattle.vg_program.specs.declared.line.Line.TheVariants.{Load, Store, Two, Shift, Resize, Compare, Select, VectorLoad, VectorStore, Constant, Insert, Extract, Call}
use Rattle.vg_program.specs.declared.param.Param.{Param}
use Rattle.vg_program.specs.Before.{Before, with_defined}
use Rattle.vg_program.specs.Params.{integers, kind_bits}
use Rattle.vg_program.specs.Text.{defined}
use Rattle.vg_program.specs.Valid.{IsLane, IsLine}
use Rattle.vg_program.specs.Vectors.{bytes_of, constant_bits, register_of}
use Rattle.vg_shapes.specs.declared.ssa_unit.Operator.{Operator}
use Rattle.vg_shapes.specs.declared.ssa_unit.Operator.TheVariants as operator
use Rattle.vg_shapes.specs.Order.{one_if, Stands}
use Rattle.vg_shapes.specs.Registers.{Reads}
use Rattle.vg_shapes.specs.Sound.{result_bits}
use Rattle.vg_order_laws.proofs.Sequences.{counts-itself}
use Rattle.vg_ssa.specs.Fitting.{OperandsFit}
use Rattle.vg_ssa.specs.ValueTerm.{no_term}
use Rattle.vg_lift.specs.Gather.{Bit, bits_from, clear}
use Rattle.vg_lift.specs.LaneTerm.{pieces}
use Rattle.vg_lift.proofs.Holding.{formed-drop, formed-take, length-pieces, pieces-formed}
use Rattle.vg_lift.proofs.Joining.{bits_from-formed, length-bits_from}
use Rattle.vg_lift.proofs.Stands.{BitsFormed}
use Rattle.vg_events.specs.Events.{Label, label_at}
use Rattle.vg_events.specs.Lines.{line_access}
use Rattle.vg_events.specs.Pairs.{IsPaired}
use Rattle.vg_known.specs.Calls.{bits_of_terms, call_terms, lane_bits, met_with_all}
use Rattle.vg_known.specs.Cuts.{computed, gathered}
use Rattle.vg_known.specs.Kernels.{bits_at, pairs_of}
use Rattle.vg_known.specs.Known.{event_bits, Given, know, Known, known_bits, operand_term, read_bits, with_met, with_puts, with_scalar, with_vector}
use Rattle.vg_known.proofs.Follow.{bytes-fit, change-is, clears-formed, constant-wide, eight-size, few-bits, formed-append, HasBits, KnownFits, labelled-writes, lane-inside, length-clears, operand-fits, scalar-push, ScalarsFit, some-bits, some-there, vector-at, vector-push}
use Rattle.vg_known.specs.Classes.{ClassesMean}
use Rattle.vg_known.proofs.Values.{computed-means, gathered-means, Means}

-- eight bits of well-formed terms
abbrev pub IsByte : List Bit → Type 0
IsByte bs = (length bs ≡ 8) × BitsFormed [] bs

abbrev pub PairsFormed : List (ℕ × List Bit) → Type 0
PairsFormed [] = Unit {0}
PairsFormed (p ∷ ps) = IsByte p.1 × PairsFormed ps

pub pairs-both : (ps qs : List (ℕ × List Bit)) → PairsFormed ps → PairsFormed qs → PairsFormed (ps ++ qs)
pairs-both [] qs h g = g
pairs-both (p ∷ ps) qs h g = (h.0, pairs-both ps qs h.1 g)

pub pairs-formed : (es : List ℕ) (bs : List Bit) → length bs ≡ 8 * length es → BitsFormed [] bs → PairsFormed (pairs_of es bs)
pairs-formed [] bs long formed = tt
pairs-formed (e ∷ es) bs long formed =
    ((length-take-le 8 bs (omega arith), formed-take [] 8 bs formed), pairs-formed es (drop 8 bs) (omega (arith, length-drop 8 bs)) (formed-drop [] 8 bs formed))

-- the bits that are found, of an event that stands in the table
pub found-formed : (ps : List (ℕ × List Bit)) (e : ℕ) → PairsFormed ps → Stands e (map (λ p. p.0) ps) → IsByte (bits_at ps e)
found-formed [] e h s = absurd (omega arith)
found-formed (p ∷ ps) e h s = elim (cases_Bool (nat_eq e p.0)) [
  | inl t ↦ subst IsByte (sym (cond-true _ _ _ t)) h.0
  | inr f ↦ subst IsByte (sym (cond-false _ _ _ f)) (found-formed ps e h.1 (let none : one_if (nat_eq e p.0) ≡ 0 = ap one_if f in omega arith))
]

-- the bits of several events
pub events-formed : (f : ℕ → List Bit) (es : List ℕ) → ((e : ℕ) → Stands e es → IsByte (f e)) → (length (event_bits f es) ≡ 8 * length es) × BitsFormed [] (event_bits f es)
events-formed f [] h = (refl, tt)
events-formed f (e ∷ es) h =
    let first = h e (let one = counts-itself e in omega arith) in
    let rest = events-formed f es (λ x s. h x (omega arith)) in
    (omega (arith, length-append (f e) (event_bits f es), first.0, rest.0), formed-append (f e) (event_bits f es) first.1 rest.1)

-- what a walk is given, without a run
pub record GivenFormed (env : Env) (g : Given) (params : List Param) (ls : List Label) : Type 0 where
  pub nothing_read : Reads env []
  pub arguments : ScalarsFit (map (λ q. kind_bits q.kind) (integers params)) g.arguments
  pub reads : (e : ℕ) → e < length ls → (label_at ls e).writes ≡ false → IsByte (bits_at g.reads e)

-- what a line leaves: it fits, and what was stored is formed
pub record Fitted (b : Before) (k : Known) : Type 0 where
  pub fits : KnownFits b k
  pub puts : PairsFormed k.puts

-- calls give as many bits as their registers have
abbrev pub CallBits : Given → Line → Known → Type 0
CallBits g (Call name vs imm bits cost) k = HasBits bits (bits_of_terms (lane_bits g.entries name) (call_terms g.entries k.met name imm (map (known_bits k) vs)))
CallBits g (Load w a) k = Unit {0}
CallBits g (Store w a x) k = Unit {0}
CallBits g (Two op w x y) k = Unit {0}
CallBits g (Shift op w x n) k = Unit {0}
CallBits g (Resize op w from x) k = Unit {0}
CallBits g (Compare op w x y) k = Unit {0}
CallBits g (Select w c x y) k = Unit {0}
CallBits g (VectorLoad z a) k = Unit {0}
CallBits g (VectorStore z a v) k = Unit {0}
CallBits g (Constant bs) k = Unit {0}
CallBits g (Insert v bits n w x) k = Unit {0}
CallBits g (Extract v n w) k = Unit {0}

scalar-fitted : (b : Before) (k : Known) (w : ℕ) (t : Tree) (env : Env) (n : ℕ) → Fitted b k → Means env w n t → Fitted (with_defined b (Scalar w)) (with_scalar k t)
scalar-fitted b k w t env n h means = record { fits = record { scalars = scalar-push b.scalars k.scalars w t h.fits.scalars means.is; vectors = h.fits.vectors }; puts = h.puts }

vector-fitted : (b : Before) (k : Known) (w : ℕ) (bs : List Bit) → Fitted b k → HasBits w bs → Fitted (with_defined b (Vector w)) (with_vector k bs)
vector-fitted b k w bs h has = record { fits = record { scalars = h.fits.scalars; vectors = vector-push b.vectors k.vectors w bs h.fits.vectors has }; puts = h.puts }

puts-fitted : (b : Before) (k : Known) (es : List ℕ) (bs : List Bit) → Fitted b k → length bs ≡ 8 * length es → BitsFormed [] bs → Fitted b (with_puts k es bs)
puts-fitted b k es bs h long formed = record { fits = record { scalars = h.fits.scalars; vectors = h.fits.vectors }; puts = pairs-both k.puts (pairs_of es bs) h.puts (pairs-formed es bs long formed) }

means-wide : (env : Env) (w v n : ℕ) (t : Tree) → w ≡ v → Means env w n t → Means env v n t
means-wide env w v n t e h = subst (λ a. Means env a n t) e h

operation-fitted : (env : Env) (b : Before) (k : Known) (op : Operator) (w : Width) (n : ℕ) (x y z : Tree) → Fitted b k → ClassesMean env k.met → OperandsFit op w n x y z → Fitted (with_defined b (Scalar (result_bits op w))) (with_scalar k (computed k.met op (bits_of w) n x y z))
operation-fitted env b k op w n x y z h classes fit =
    scalar-fitted b k (result_bits op w) (computed k.met op (bits_of w) n x y z) env _ h (computed-means env k.met op w n x y z classes fit)

pub line-fits : (env : Env) (g : Given) (b : Before) (ls : List Label) (l : Line) (es : List ℕ) (k : Known) → GivenFormed env g b.params ls → Fitted b k → ClassesMean env k.met → IsLine b l → IsPaired ls (line_access l) es → ((e : ℕ) → Stands e es → e < length ls) → CallBits g l k
    → Fitted (with_defined b (defined l)) (know g l es k)
line-fits env g b ls (Load w a) es k given h classes valid paired inside calls =
    let bs = read_bits g es in
    let are = events-formed (bits_at g.reads) es (λ e s. given.reads e (inside e s) (labelled-writes ls false a es paired.1 e s)) in
    let size : length bs ≡ bits_of w = are.0 ∙ ap (λ n. 8 * n) paired.0 ∙ eight-size w in
    scalar-fitted b k (bits_of w) (gathered k.met bs) env _ h (means-wide env (length bs) (bits_of w) _ (gathered k.met bs) size (gathered-means env k.met bs given.nothing_read classes are.1 (omega (arith, some-bits w)) (omega (arith, few-bits w))))
line-fits env g b ls (Store w a x) es k given h classes valid paired inside calls =
    let t = operand_term g k x in
    let is = operand-fits g b k x (bits_of w) given.arguments h.fits.scalars valid.1 in
    puts-fitted b k es (bits_from t 0 (bits_of w)) h (length-bits_from t 0 (bits_of w) ∙ sym (ap (λ n. 8 * n) paired.0 ∙ eight-size w)) (bits_from-formed [] t 0 (bits_of w) is.well_formed (omega (arith, is.width)))
line-fits env g b ls (Two op w x y) es k given h classes valid paired inside calls =
    operation-fitted env b k (operator.Two op) w 0 (operand_term g k x) (operand_term g k y) no_term h classes (operand-fits g b k x (bits_of w) given.arguments h.fits.scalars valid.0, operand-fits g b k y (bits_of w) given.arguments h.fits.scalars valid.1)
line-fits env g b ls (Shift op w x n) es k given h classes valid paired inside calls =
    operation-fitted env b k (operator.Shift op) w n (operand_term g k x) no_term no_term h classes (valid.1, operand-fits g b k x (bits_of w) given.arguments h.fits.scalars valid.0)
line-fits env g b ls (Resize op w from x) es k given h classes valid paired inside calls =
    operation-fitted env b k (operator.Resize op from) w 0 (operand_term g k x) no_term no_term h classes (change-is op from w valid.1, operand-fits g b k x (bits_of from) given.arguments h.fits.scalars valid.0)
line-fits env g b ls (Compare op w x y) es k given h classes valid paired inside calls =
    operation-fitted env b k (operator.Compare op) w 0 (operand_term g k x) (operand_term g k y) no_term h classes (operand-fits g b k x (bits_of w) given.arguments h.fits.scalars valid.0, operand-fits g b k y (bits_of w) given.arguments h.fits.scalars valid.1)
line-fits env g b ls (Select w c x y) es k given h classes valid paired inside calls =
    operation-fitted env b k operator.Select w 0 (operand_term g k c) (operand_term g k x) (operand_term g k y) h classes
    (operand-fits g b k c 1 given.arguments h.fits.scalars valid.0, operand-fits g b k x (bits_of w) given.arguments h.fits.scalars valid.1, operand-fits g b k y (bits_of w) given.arguments h.fits.scalars valid.2)
line-fits env g b ls (VectorLoad z a) es k given h classes valid paired inside calls =
    let are = events-formed (bits_at g.reads) es (λ e s. given.reads e (inside e s) (labelled-writes ls false a es paired.1 e s)) in
    let zeros = register_of z - 8 * bytes_of z in
    let bs = read_bits g es in
    let size : length bs ≡ 8 * bytes_of z = are.0 ∙ ap (λ n. 8 * n) paired.0 in
    vector-fitted b k (register_of z) (bs ++ replicate zeros clear) h (
      omega (arith, length-append bs (replicate zeros clear), size, length-clears zeros, bytes-fit z),
      formed-append bs (replicate zeros clear) are.1 (clears-formed zeros),
    )
line-fits env g b ls (VectorStore z a v) es k given h classes valid paired inside calls =
    let has = vector-at b.vectors k.vectors v (register_of z) h.fits.vectors valid.1 in
    puts-fitted b k es (take (8 * bytes_of z) (known_bits k v)) h
    (length-take-le (8 * bytes_of z) (known_bits k v) (omega (arith, has.0, bytes-fit z)) ∙ sym (ap (λ n. 8 * n) paired.0)) (formed-take [] (8 * bytes_of z) (known_bits k v) has.1)
line-fits env g b ls (Constant bs) es k given h classes valid paired inside calls =
    let w = 8 * length bs in
    let n = num (bits_of_bytes bs) in
    vector-fitted b k (constant_bits (length bs)) (pieces w n 0 w) h (length-pieces w n 0 w ∙ constant-wide (length bs) valid.size, pieces-formed [] w n 0 w (omega arith))
line-fits env g b ls (Insert v long n w x) es k given h classes valid paired inside calls =
    let old = known_bits k v in
    let has_old = vector-at b.vectors k.vectors v long h.fits.vectors valid.0 in
    let t = operand_term g k x in
    let is = operand-fits g b k x (bits_of w) given.arguments h.fits.scalars valid.1 in
    let new = bits_from t 0 (bits_of w) in
    let low = n * bits_of w in
    let size = length-bits_from t 0 (bits_of w) in
    let fit : low + length new ≤ length old = omega (arith, size, has_old.0, lane-inside w long n valid.2.0) in
    vector-fitted b k long (replaced low new old) h (
      length-replaced low new old fit ∙ has_old.0,
      formed-append (take low old) (new ++ drop (low + length new) old) (formed-take [] low old has_old.1)
          (formed-append new (drop (low + length new) old) (bits_from-formed [] t 0 (bits_of w) is.well_formed (omega (arith, is.width))) (formed-drop [] (low + length new) old has_old.1)),
    )
line-fits env g b ls (Extract v n w) es k given h classes valid paired inside calls =
    let there = some-there (slice_get b.vectors v) (λ long. IsLane long w n) valid in
    let old = known_bits k v in
    let has_old = vector-at b.vectors k.vectors v there.0 h.fits.vectors there.1 in
    let low = n * bits_of w in
    let part = range low (bits_of w) old in
    let size : length part ≡ bits_of w = length-range low (bits_of w) old (omega (arith, has_old.0, lane-inside w there.0 n there.2.0)) in
    scalar-fitted b k (bits_of w) (gathered k.met part) env _ h
    (means-wide env (length part) (bits_of w) _ (gathered k.met part) size (gathered-means env k.met part given.nothing_read classes (formed-take [] (bits_of w) (drop low old) (formed-drop [] low old has_old.1)) (omega (arith, size, some-bits w)) (omega (arith, size, few-bits w))))
line-fits env g b ls (Call name vs imm long cost) es k given h classes valid paired inside calls =
    let terms = call_terms g.entries k.met name imm (map (known_bits k) vs) in
    vector-fitted b (with_met k (met_with_all k.met terms)) long (bits_of_terms (lane_bits g.entries name) terms) (record { fits = record { scalars = h.fits.scalars; vectors = h.fits.vectors }; puts = h.puts }) calls
