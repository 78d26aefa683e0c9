-- The bits of events have the bytes of the kernel's run.
use Rattle.std.proofs.Common.{◌≡◌, ℕ, ◌+◌, ◌*◌, ◌<◌, ◌≤◌, true, false, List, [], ◌∷◌, ◌++◌, length, map, take, drop, sym, ap, subst, ◌∙◌, inl, inr, arith, append_assoc, length-append}
use Rattle.std.specs.Prelude.{nat_eq, slice_index}
use Rattle.std.proofs.lemmas.Bool.{cases_Bool, cases_lt, cond-true, cond-false, eqb-true}
use Rattle.std.proofs.lemmas.List.{drop_at, length-drop, length-map, length-take-le, map-append, take_at}
use Rattle.vg_base.specs.declared.width.Width.{Width}
use Rattle.vg_base.specs.Bits.{bits, bits_of_bytes, bytes, num}
use Rattle.vg_base.specs.Width.{bits_of, size_of}
use Rattle.vg_base.proofs.Bits.{length-bits}
use Rattle.vg_bits.specs.BitList.{IsBits}
use Rattle.vg_bits.proofs.BitLists.{same_from_num}
use Rattle.vg_bits.proofs.ByteLists.{bits_of_bytes-bytes, length-bytes}
use Rattle.vg_terms.specs.declared.value.Env.{Env}
use Rattle.vg_terms.specs.Term.{Tree}
use Rattle.vg_terms.specs.Value.{value}
use Rattle.vg_shapes.specs.declared.ssa_unit.SsaUnit.{SsaUnit}
use Rattle.vg_shapes.specs.declared.ssa_unit.SsaUnit.TheVariants.{Load, Store, Operation}
use Rattle.vg_shapes.specs.Layout.{access_of}
use Rattle.vg_shapes.specs.Order.{count_of, numbers_from, one_if, Stands}
use Rattle.vg_order_laws.proofs.Sequences.{count_of-append, counts-itself}
use Rattle.vg_ssa.specs.Fitting.{IsTermOf}
use Rattle.vg_lift.specs.Gather.{Bit, bits_from, clear, input, of_term}
use Rattle.vg_lift.proofs.Holding.{formed-drop, formed-take, map-drop, map-take}
use Rattle.vg_lift.proofs.Joining.{bits_from-formed, length-bits_from}
use Rattle.vg_lift.proofs.Stands.{bit_value, BitsFormed}
use Rattle.vg_events.specs.Events.{Label, label_at, labels_in, unit_labels}
use Rattle.vg_events.specs.Steps.{all_bytes, unit_bytes}
use Rattle.vg_events.proofs.Ranks.{numbers-inside}
use Rattle.vg_events.proofs.Runs.{length-unit_bytes, length-unit_labels}
use Rattle.vg_events.proofs.Steps.{bytes-numbers, labelled-numbers, length-numbers_from}
use Rattle.vg_known.specs.Kernels.{bits_at, pairs_of, read_by, reads_from}
use Rattle.vg_known.specs.Known.{event_bits}
use Rattle.vg_known.proofs.Follow.{eight-size, HasByte, labelled-writes, whole-image}
use Rattle.vg_known.proofs.Values.{image}
use Rattle.vg_known.proofs.Walk.{pairs-keys}

-- ---- tables of bits

-- the bits of each event have its byte
abbrev pub PairsHave : Env → (ℕ → ℕ) → List (ℕ × List Bit) → Type 0
PairsHave env byte [] = Unit {0}
PairsHave env byte (p ∷ ps) = HasByte env (byte p.0) p.1 × PairsHave env byte ps

have-both : (env : Env) (byte : ℕ → ℕ) (ps qs : List (ℕ × List Bit)) → PairsHave env byte ps → PairsHave env byte qs → PairsHave env byte (ps ++ qs)
have-both env byte [] qs h g = g
have-both env byte (p ∷ ps) qs h g = (h.0, have-both env byte ps qs h.1 g)

pub found-has : (env : Env) (byte : ℕ → ℕ) (ps : List (ℕ × List Bit)) (e : ℕ) → PairsHave env byte ps → Stands e (map (λ p. p.0) ps) → HasByte env (byte e) (bits_at ps e)
found-has env byte [] e h s = absurd (omega arith)
found-has env byte (p ∷ ps) e h s = elim (cases_Bool (nat_eq e p.0)) [
  | inl t ↦ subst (HasByte env (byte e)) (sym (cond-true _ _ _ t)) (subst (λ n. HasByte env (byte n) p.1) (sym (eqb-true e p.0 t)) h.0)
  | inr f ↦ subst (HasByte env (byte e)) (sym (cond-false _ _ _ f)) (found-has env byte ps e h.1 (let none : one_if (nat_eq e p.0) ≡ 0 = ap one_if f in omega arith))
]

-- the first eight of the bits of several bytes
pub first-byte : (env : Env) (bs : List Bit) (b : ℕ) (rest : List ℕ) → image env bs ≡ bits_of_bytes (b ∷ rest) → (image env (take 8 bs) ≡ bits 8 b) × (image env (drop 8 bs) ≡ bits_of_bytes rest)
unfolding bits_of_bytes
first-byte env bs b rest e = (
  map-take (bit_value env []) 8 bs ∙ ap (take 8) e ∙ take_at (bits 8 b) (bits_of_bytes rest) 8 (length-bits 8 b),
  map-drop (bit_value env []) 8 bs ∙ ap (drop 8) e ∙ drop_at (bits 8 b) (bits_of_bytes rest) 8 (length-bits 8 b),
)

pairs-have : (env : Env) (byte : ℕ → ℕ) (es : List ℕ) (bs : List Bit) → length bs ≡ 8 * length es → BitsFormed [] bs → image env bs ≡ bits_of_bytes (map byte es) → PairsHave env byte (pairs_of es bs)
pairs-have env byte [] bs long formed is = tt
pairs-have env byte (e ∷ es) bs long formed is =
    let parts = first-byte env bs (byte e) (map byte es) is in (
      record { long = length-take-le 8 bs (omega arith); formed = formed-take [] 8 bs formed; is = parts.0 },
      pairs-have env byte es (drop 8 bs) (omega (arith, length-drop 8 bs)) (formed-drop [] 8 bs formed) parts.1,
    )

-- ---- what loads read

-- the terms of loads have their widths and numbers
abbrev pub LoadsMean : Env → (ℕ → ℕ) → ℕ → List SsaUnit → List Tree → Type 0
LoadsMean env numbers v [] ts = Unit {0}
LoadsMean env numbers v (u ∷ us) [] = Unit {0}
LoadsMean env numbers v (Load a w ∷ us) (t ∷ ts) = (IsTermOf (bits_of w) t × (value env t ≡ numbers v)) × LoadsMean env numbers (v + 1) us ts
LoadsMean env numbers v (Store a w x ∷ us) (t ∷ ts) = LoadsMean env numbers (v + 1) us ts
LoadsMean env numbers v (Operation op w k xs ∷ us) (t ∷ ts) = LoadsMean env numbers (v + 1) us ts

load-has : (env : Env) (numbers : ℕ → ℕ) (all done more : List ℕ) (f v : ℕ) (w : Width) (t : Tree) → IsTermOf (bits_of w) t → value env t ≡ numbers v → all ≡ done ++ (bytes (size_of w) (numbers v) ++ more) → length done ≡ f
    → PairsHave env (slice_index all) (pairs_of (numbers_from f (size_of w)) (bits_from t 0 (bits_of w)))
load-has env numbers all done more f v w t is means whole long =
    let n = size_of w in
    let mine : map (slice_index all) (numbers_from f n) ≡ bytes n (numbers v) =
    ap (λ k. map (slice_index all) (numbers_from f k)) (sym (length-bytes n (numbers v))) ∙ bytes-numbers all done (bytes n (numbers v)) more f whole long in
    pairs-have env (slice_index all) (numbers_from f n) (bits_from t 0 (bits_of w))
    (length-bits_from t 0 (bits_of w) ∙ sym (ap (λ k. 8 * k) (length-numbers_from f n) ∙ eight-size w))
    (bits_from-formed [] t 0 (bits_of w) is.well_formed (omega (arith, is.width)))
    (whole-image env t (bits_of w) ∙ ap (bits (bits_of w)) means ∙ ap (λ k. bits k (numbers v)) (sym (eight-size w)) ∙ sym (bits_of_bytes-bytes n (numbers v)) ∙ ap bits_of_bytes (sym mine))

pub reads-have : (env : Env) (numbers : ℕ → ℕ) (all done : List ℕ) (f v : ℕ) (us : List SsaUnit) (ts : List Tree) → LoadsMean env numbers v us ts → all ≡ done ++ all_bytes numbers v us → length done ≡ f → PairsHave env (slice_index all) (reads_from f us ts)
reads-have env numbers all done f v [] ts h whole long = tt
reads-have env numbers all done f v (u ∷ us) [] h whole long = tt
reads-have env numbers all done f v (Load a w ∷ us) (t ∷ ts) h whole long =
    let u = Load a w in
    have-both env (slice_index all) (read_by f u t) (reads_from (f + length (labels_in (access_of u))) us ts)
    (load-has env numbers all done (all_bytes numbers (v + 1) us) f v w t h.0.0 h.0.1 whole long)
    (reads-have env numbers all (done ++ unit_bytes numbers v u) (f + length (labels_in (access_of u))) (v + 1) us ts h.1 (whole ∙ sym (append_assoc done (unit_bytes numbers v u) (all_bytes numbers (v + 1) us)))
    (length-append done (unit_bytes numbers v u) ∙ (λ i. long i + (length-unit_bytes numbers v u ∙ sym (length-unit_labels u)) i)))
reads-have env numbers all done f v (Store a w x ∷ us) (t ∷ ts) h whole long =
    let u = Store a w x in
    reads-have env numbers all (done ++ unit_bytes numbers v u) (f + length (labels_in (access_of u))) (v + 1) us ts h (whole ∙ sym (append_assoc done (unit_bytes numbers v u) (all_bytes numbers (v + 1) us)))
    (length-append done (unit_bytes numbers v u) ∙ (λ i. long i + (length-unit_bytes numbers v u ∙ sym (length-unit_labels u)) i))
reads-have env numbers all done f v (Operation op w k xs ∷ us) (t ∷ ts) h whole long =
    reads-have env numbers all done (f + 0) (v + 1) us ts h whole (long ∙ omega arith)

-- each event of a load is in the table
pub reads-there : (ls before : List Label) (f : ℕ) (us : List SsaUnit) (ts : List Tree) (e : ℕ) → ls ≡ before ++ unit_labels us → length before ≡ f → length us ≤ length ts → f ≤ e → e < f + length (unit_labels us) → (label_at ls e).writes ≡ false
    → Stands e (map (λ p. p.0) (reads_from f us ts))
reads-there ls before f [] ts e whole long many low high reads = absurd (omega arith)
reads-there ls before f (u ∷ us) [] e whole long many low high reads = absurd (omega arith)
reads-there ls before f (Load a w ∷ us) (t ∷ ts) e whole long many low high reads =
    let u = Load a w in
    let n = length (labels_in (access_of u)) in
    let size : n ≡ size_of w = length-unit_labels u in
    let own = pairs_of (numbers_from f (size_of w)) (bits_from t 0 (bits_of w)) in
    let rest = reads_from (f + n) us ts in
    let split : count_of e (map (λ (p : ℕ × List Bit). p.0) (own ++ rest)) ≡ count_of e (numbers_from f (size_of w)) + count_of e (map (λ (p : ℕ × List Bit). p.0) rest) =
    ap (count_of e) (map-append (λ (p : ℕ × List Bit). p.0) own rest) ∙ count_of-append e (map (λ (p : ℕ × List Bit). p.0) own) (map (λ (p : ℕ × List Bit). p.0) rest) ∙ ap (λ l. count_of e l + count_of e (map (λ (p : ℕ × List Bit). p.0) rest)) (pairs-keys (numbers_from f (size_of w)) (bits_from t 0 (bits_of w))) in
    elim (cases_lt e (f + n)) [
      | inl here ↦ (let one = numbers-inside e f (size_of w) low (omega arith) in omega arith)
      | inr later ↦
          let all : length (labels_in (access_of u) ++ unit_labels us) ≡ n + length (unit_labels us) = length-append (labels_in (access_of u)) (unit_labels us) in
          let k = reads-there ls (before ++ labels_in (access_of u)) (f + n) us ts e (whole ∙ sym (append_assoc before (labels_in (access_of u)) (unit_labels us))) (length-append before (labels_in (access_of u)) ∙ ap (λ m. m + n) long) (omega arith) later (omega (arith, high, all)) reads in
          omega arith
    ]
reads-there ls before f (Store a w x ∷ us) (t ∷ ts) e whole long many low high reads =
    let u = Store a w x in
    let n = length (labels_in (access_of u)) in
    let size : n ≡ size_of w = length-unit_labels u in
    elim (cases_lt e (f + n)) [
      | inl here ↦
          let labelled = labelled-numbers ls before (unit_labels us) true a (size_of w) f whole long in
          let one = numbers-inside e f (size_of w) low (omega arith) in
          let writes = labelled-writes ls true a (numbers_from f (size_of w)) labelled e (omega arith) in
          absurd (let both : true ≡ false = sym writes ∙ reads in cc)
      | inr later ↦
          let all : length (labels_in (access_of u) ++ unit_labels us) ≡ n + length (unit_labels us) = length-append (labels_in (access_of u)) (unit_labels us) in
          reads-there ls (before ++ labels_in (access_of u)) (f + n) us ts e (whole ∙ sym (append_assoc before (labels_in (access_of u)) (unit_labels us))) (length-append before (labels_in (access_of u)) ∙ ap (λ m. m + n) long) (omega arith) later (omega (arith, high, all)) reads
    ]
reads-there ls before f (Operation op w k xs ∷ us) (t ∷ ts) e whole long many low high reads =
    reads-there ls before (f + 0) us ts e whole (long ∙ omega arith) (omega arith) (omega arith) (omega arith) reads

-- ---- what stores write

pub IsBits-image : (env : Env) (bs : List Bit) → BitsFormed [] bs → IsBits (image env bs)
IsBits-image env [] h = tt
IsBits-image env (clear ∷ bs) h = (omega arith, IsBits-image env bs h.1)
IsBits-image env (input p i ∷ bs) h = absurd (omega (arith, h.0))
IsBits-image env (of_term t k ∷ bs) h = (omega arith, IsBits-image env bs h.1)

-- bits with one number are the same
pub same-image : (env : Env) (xs ys : List Bit) → BitsFormed [] xs → BitsFormed [] ys → length xs ≡ length ys → num (image env xs) ≡ num (image env ys) → image env xs ≡ image env ys
same-image env xs ys f g long same =
    same_from_num (image env xs) (image env ys) (IsBits-image env xs f) (IsBits-image env ys g) (length-map xs (bit_value env []) ∙ long ∙ sym (length-map ys (bit_value env []))) same

-- from the bits of several events to those of each
pub each-has : (env : Env) (f : ℕ → List Bit) (byte : ℕ → ℕ) (es : List ℕ) → ((e : ℕ) → Stands e es → length (f e) ≡ 8) → image env (event_bits f es) ≡ bits_of_bytes (map byte es) → (e : ℕ) → Stands e es → image env (f e) ≡ bits 8 (byte e)
each-has env f byte [] long is e s = absurd (omega arith)
each-has env f byte (x ∷ es) long is e s =
    let eight = long x (let one = counts-itself x in omega arith) in
    let parts = first-byte env (f x ++ event_bits f es) (byte x) (map byte es) is in
    let here : image env (f x) ≡ bits 8 (byte x) = ap (image env) (sym (take_at (f x) (event_bits f es) 8 eight)) ∙ parts.0 in
    let rest : image env (event_bits f es) ≡ bits_of_bytes (map byte es) = ap (image env) (sym (drop_at (f x) (event_bits f es) 8 eight)) ∙ parts.1 in
    elim (cases_Bool (nat_eq e x)) [
      | inl t ↦ subst (λ k. image env (f k) ≡ bits 8 (byte k)) (sym (eqb-true e x t)) here
      | inr n ↦ each-has env f byte es (λ y st. long y (omega arith)) rest e (let none : one_if (nat_eq e x) ≡ 0 = ap one_if n in omega arith)
    ]
