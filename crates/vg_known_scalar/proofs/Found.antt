-- In tables of the bits of events, unit after unit, each unit finds its own bits.
use Rattle.std.proofs.Common.{◌≡◌, ℕ, zero, suc, ◌+◌, ◌*◌, ◌<◌, ◌≤◌, true, false, inl, inr, List, [], ◌∷◌, ◌++◌, length, take, drop, refl, sym, ap, subst, ◌∙◌, arith, append_assoc, take-append-drop, length-drop}
use Rattle.std.specs.Prelude.{nat_eq, slice_index_or}
use Rattle.std.proofs.lemmas.Bool.{cases_Bool, cond-true, cond-false, eq-eqb, eqb-true}
use Rattle.vg_base.specs.Width.{bits_of, size_of}
use Rattle.vg_terms.specs.Term.{Tree}
use Rattle.vg_shapes.specs.declared.ssa_unit.SsaUnit.{SsaUnit}
use Rattle.vg_shapes.specs.declared.ssa_unit.SsaUnit.TheVariants.{Load, Store, Operation}
use Rattle.vg_shapes.specs.Layout.{access_of}
use Rattle.vg_shapes.specs.Order.{numbers_from}
use Rattle.vg_ssa.specs.ValueTerm.{no_term, operand_term}
use Rattle.vg_lift.specs.Gather.{Bit, bits_from}
use Rattle.vg_lift.proofs.Joining.{length-bits_from}
use Rattle.vg_events.specs.Events.{labels_in}
use Rattle.vg_events.proofs.Ranks.{length-labels}
use Rattle.vg_known.specs.Kernels.{bits_at, pairs_of, read_by, reads_from}
use Rattle.vg_known.specs.Known.{event_bits}
use Rattle.vg_known.proofs.Follow.{eight-size}
use Rattle.vg_known.proofs.Same.{index-drop}

-- ---- one unit

-- the events of a table are below this number
abbrev pub PairsUnder : ℕ → List (ℕ × List Bit) → Type 0
PairsUnder f [] = Unit {0}
PairsUnder f (p ∷ ps) = (p.0 < f) × PairsUnder f ps

under-both : (f : ℕ) (ps qs : List (ℕ × List Bit)) → PairsUnder f ps → PairsUnder f qs → PairsUnder f (ps ++ qs)
under-both f [] qs u v = v
under-both f (p ∷ ps) qs u v = (u.0, under-both f ps qs u.1 v)

under-more : (f g : ℕ) (ps : List (ℕ × List Bit)) → f ≤ g → PairsUnder f ps → PairsUnder g ps
under-more f g [] le u = tt
under-more f g (p ∷ ps) le u = ((let l = u.0 in omega arith), under-more f g ps le u.1)

under-pairs : (f n : ℕ) (bs : List Bit) → PairsUnder (f + n) (pairs_of (numbers_from f n) bs)
under-pairs f zero bs = tt
under-pairs f (suc n) bs = (omega arith, subst (λ k. PairsUnder k (pairs_of (numbers_from (f + 1) n) (drop 8 bs))) (let e : f + 1 + n ≡ f + suc n = omega arith in e) (under-pairs (f + 1) n (drop 8 bs)))

past : (f e : ℕ) (ps qs : List (ℕ × List Bit)) → PairsUnder f ps → f ≤ e → bits_at (ps ++ qs) e ≡ bits_at qs e
past f e [] qs u le = refl
past f e (p ∷ ps) qs u le = elim (cases_Bool (nat_eq e p.0)) [
  | inl t ↦ absurd (let same = eqb-true e p.0 t in let l = u.0 in omega arith)
  | inr g ↦ cond-false _ _ _ g ∙ past f e ps qs u.1 le
]

no-bits : (bs : List Bit) → length bs ≡ 0 → [] ≡ bs
no-bits [] e = refl
no-bits (b ∷ bs) e = absurd (omega arith)

own-bits : (all ps : List (ℕ × List Bit)) (f n : ℕ) (bs : List Bit) (qs : List (ℕ × List Bit)) → all ≡ ps ++ (pairs_of (numbers_from f n) bs ++ qs) → PairsUnder f ps → length bs ≡ 8 * n → event_bits (bits_at all) (numbers_from f n) ≡ bs
own-bits all ps f zero bs qs e u long = no-bits bs (omega (arith, long))
own-bits all ps f (suc n) bs qs e u long =
    let own : List (ℕ × List Bit) = (f, take 8 bs) ∷ [] in
    let others = pairs_of (numbers_from (f + 1) n) (drop 8 bs) ++ qs in
    let here : bits_at all f ≡ take 8 bs = ap (λ l. bits_at l f) e ∙ past f f ps ((f, take 8 bs) ∷ others) u (omega arith) ∙ cond-true _ _ _ (eq-eqb f f refl) in
    let less : length (drop 8 bs) ≡ 8 * n = (let d = length-drop 8 bs in omega (arith, long, d)) in
    let under = under-both (f + 1) ps own (under-more f (f + 1) ps (omega arith) u) (omega arith, tt) in
    let rest = own-bits all (ps ++ own) (f + 1) n (drop 8 bs) qs (e ∙ sym (append_assoc ps own others)) under less in
    (λ i. here i ++ rest i) ∙ take-append-drop 8 bs

-- ---- the events of units

-- how many events a unit has
abbrev pub count_in : SsaUnit → ℕ
count_in u = length (labels_in (access_of u))

-- ---- loads

-- a load reads all bits of the term of its value
abbrev pub UnitReads : (ℕ → List Bit) → List Tree → ℕ → ℕ → SsaUnit → Type 0
UnitReads bits ts f v (Load a w) = event_bits bits (numbers_from f (count_in (Load a w))) ≡ bits_from (slice_index_or ts v no_term) 0 (bits_of w)
UnitReads bits ts f v (Store a w x) = Unit {0}
UnitReads bits ts f v (Operation op w k xs) = Unit {0}

abbrev pub AllRead : (ℕ → List Bit) → List Tree → ℕ → ℕ → List SsaUnit → Type 0
AllRead bits ts f v [] = Unit {0}
AllRead bits ts f v (u ∷ us) = UnitReads bits ts f v u × AllRead bits ts (f + count_in u) (v + 1) us

under-read : (f : ℕ) (u : SsaUnit) (t : Tree) → PairsUnder (f + count_in u) (read_by f u t)
under-read f (Load a w) t = subst (λ n. PairsUnder (f + n) (read_by f (Load a w) t)) (sym (length-labels false a (size_of w))) (under-pairs f (size_of w) (bits_from t 0 (bits_of w)))
under-read f (Store a w x) t = tt
under-read f (Operation op w k xs) t = tt

unit-reads : (all ps : List (ℕ × List Bit)) (ts : List Tree) (f v : ℕ) (u : SsaUnit) (t : Tree) (qs : List (ℕ × List Bit)) → all ≡ ps ++ (read_by f u t ++ qs) → PairsUnder f ps → slice_index_or ts v no_term ≡ t → UnitReads (bits_at all) ts f v u
unit-reads all ps ts f v (Load a w) t qs e u is =
    ap (λ n. event_bits (bits_at all) (numbers_from f n)) (length-labels false a (size_of w))
    ∙ own-bits all ps f (size_of w) (bits_from t 0 (bits_of w)) qs e u (length-bits_from t 0 (bits_of w) ∙ sym (eight-size w))
    ∙ ap (λ k. bits_from k 0 (bits_of w)) (sym is)
unit-reads all ps ts f v (Store a w x) t qs e u is = tt
unit-reads all ps ts f v (Operation op w k xs) t qs e u is = tt

pub all-read : (all ps : List (ℕ × List Bit)) (ts : List Tree) (f v : ℕ) (us : List SsaUnit) (rest : List Tree) → all ≡ ps ++ reads_from f us rest → PairsUnder f ps → drop v ts ≡ rest → length us ≤ length rest → AllRead (bits_at all) ts f v us
all-read all ps ts f v [] rest e u at enough = tt
all-read all ps ts f v (w ∷ us) [] e u at enough = absurd (omega arith)
all-read all ps ts f v (w ∷ us) (t ∷ rest) e u at enough =
    let is = index-drop v ts t no_term rest at in
    let own = read_by f w t in
    let next = f + count_in w in (
      unit-reads all ps ts f v w t (reads_from next us rest) e u is.0,
      all-read all (ps ++ own) ts next (v + 1) us rest (e ∙ sym (append_assoc ps own (reads_from next us rest))) (under-both next ps own (under-more f next ps (omega arith) u) (under-read f w t)) is.1 (omega arith),
    )

-- ---- stores

-- the bits that stores write, where values have these terms
abbrev pub put_by : List Tree → ℕ → SsaUnit → List (ℕ × List Bit)
put_by ts f (Load a w) = []
put_by ts f (Store a w x) = pairs_of (numbers_from f (count_in (Store a w x))) (bits_from (operand_term ts x) 0 (bits_of w))
put_by ts f (Operation op w k xs) = []

abbrev pub puts_from : List Tree → ℕ → List SsaUnit → List (ℕ × List Bit)
puts_from ts f [] = []
puts_from ts f (u ∷ us) = put_by ts f u ++ puts_from ts (f + count_in u) us

abbrev pub UnitPuts : (ℕ → List Bit) → List Tree → ℕ → SsaUnit → Type 0
UnitPuts bits ts f (Load a w) = Unit {0}
UnitPuts bits ts f (Store a w x) = event_bits bits (numbers_from f (count_in (Store a w x))) ≡ bits_from (operand_term ts x) 0 (bits_of w)
UnitPuts bits ts f (Operation op w k xs) = Unit {0}

abbrev pub AllPut : (ℕ → List Bit) → List Tree → ℕ → List SsaUnit → Type 0
AllPut bits ts f [] = Unit {0}
AllPut bits ts f (u ∷ us) = UnitPuts bits ts f u × AllPut bits ts (f + count_in u) us

under-put : (ts : List Tree) (f : ℕ) (u : SsaUnit) → PairsUnder (f + count_in u) (put_by ts f u)
under-put ts f (Load a w) = tt
under-put ts f (Store a w x) = under-pairs f (count_in (Store a w x)) (bits_from (operand_term ts x) 0 (bits_of w))
under-put ts f (Operation op w k xs) = tt

unit-puts : (all ps : List (ℕ × List Bit)) (ts : List Tree) (f : ℕ) (u : SsaUnit) (qs : List (ℕ × List Bit)) → all ≡ ps ++ (put_by ts f u ++ qs) → PairsUnder f ps → UnitPuts (bits_at all) ts f u
unit-puts all ps ts f (Load a w) qs e u = tt
unit-puts all ps ts f (Store a w x) qs e u =
    let t = operand_term ts x in
    let size = length-labels true a (size_of w) in
    own-bits all ps f (count_in (Store a w x)) (bits_from t 0 (bits_of w)) qs e u (length-bits_from t 0 (bits_of w) ∙ sym (eight-size w) ∙ ap (λ n. 8 * n) (sym size))
unit-puts all ps ts f (Operation op w k xs) qs e u = tt

pub all-put : (all ps : List (ℕ × List Bit)) (ts : List Tree) (f : ℕ) (us : List SsaUnit) → all ≡ ps ++ puts_from ts f us → PairsUnder f ps → AllPut (bits_at all) ts f us
all-put all ps ts f [] e u = tt
all-put all ps ts f (w ∷ us) e u =
    let own = put_by ts f w in
    let next = f + count_in w in (
      unit-puts all ps ts f w (puts_from ts next us) e u,
      all-put all (ps ++ own) ts next us (e ∙ sym (append_assoc ps own (puts_from ts next us))) (under-both next ps own (under-more f next ps (omega arith) u) (under-put ts f w)),
    )
