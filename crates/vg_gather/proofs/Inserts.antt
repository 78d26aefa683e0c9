-- Inserts into slots that are apart leave in each slot what was put there, and leave other slots alone.
use Rattle.std.proofs.Common.{◌≡◌, ℕ, ◌+◌, ◌*◌, ◌/◌, ◌%◌, ◌^◌, ◌<◌, ◌≤◌, Bool, true, false, List, [], ◌∷◌, length, refl, sym, ap, subst, ◌∙◌, inl, inr, arith}
use Rattle.std.specs.Prelude.{◌||◌, filter, nat_eq, not}
use Rattle.std.specs.List.{AllByRecursion, list_any}
use Rattle.std.proofs.Math.Nat.{mod-eq_of_lt}
use Rattle.std.proofs.lemmas.Bool.{eqb-true, or_cases}
use Rattle.vg_base.specs.Bits.{bits, bits_of_bytes, num}
use Rattle.vg_base.proofs.Bits.{length-bits}
use Rattle.vg_bits.specs.BitList.{IsBits}
use Rattle.vg_bits.specs.Range.{range, replaced}
use Rattle.vg_bits.proofs.BitLists.{IsBits-append, IsBits-bits, IsBits-drop, IsBits-take, num-range-bits}
use Rattle.vg_bits.proofs.ByteLists.{bits_of_bytes-bytes}
use Rattle.vg_bits.proofs.Ranges.{length-replaced}
use Rattle.vg_bits.proofs.Registers.{get-put_beside, get-put_same}
use Rattle.vg_shapes.specs.declared.operand.Operand.{Operand}
use Rattle.vg_shapes.specs.declared.operand.Slot.{Slot}
use Rattle.vg_shapes.specs.declared.ssa.Ssa.{Ssa}
use Rattle.vg_shapes.specs.declared.wanted.Wanted.{Wanted}
use Rattle.vg_shapes.specs.declared.wanted.Wanted.TheVariants.{Value, Constant, Nothing}
use Rattle.vg_shapes.specs.Operands.{AreSlots, IsOperand, MayBeWanted}
use Rattle.vg_kernel_plans.specs.Wants.{slot, wants_value}
use Rattle.vg_emission.specs.Emission.{constant_bytes, constants_of, value_slots}
use Rattle.vg_emission.specs.Promises.{Fills, inserted, IsWanted, SlotHas}
use Rattle.vg_gather.specs.Laws.{AreInWidths, ConstantsFill, InsertsFill}
use Rattle.vg_gather.proofs.Constants.{constants-still, IsStill}

-- the slots that want values
abbrev values : List Slot → List Slot
values ss = filter (λ s. wants_value s.wanted) ss

-- ---- length and bits

abbrev Keeps : ℕ → List ℕ → Type 0
Keeps n register = (length register ≡ n) × IsBits register

IsBits-replaced : (low : ℕ) (new l : List ℕ) → IsBits new → IsBits l → IsBits (replaced low new l)
IsBits-replaced low new l p q =
    IsBits-append _ _ (IsBits-take low l q) (IsBits-append new _ p (IsBits-drop (low + length new) l q))

length-put : (l w v n : ℕ) (register : List ℕ) → l + w ≤ n → length register ≡ n
    → length (replaced l (bits w v) register) ≡ n
length-put l w v n register inside e =
    length-replaced l (bits w v) register (let k = length-bits w v in omega arith) ∙ e

keeps-first : (numbers : ℕ → ℕ) (n l w : ℕ) (x : Wanted) (ss : List Slot) (register : List ℕ)
    → l + w ≤ n → Keeps n register
    → ((r : List ℕ) → Keeps n r → Keeps n (inserted numbers (values ss) r))
    → Keeps n (inserted numbers (values (slot l w x ∷ ss)) register)
keeps-first numbers n l w (Value v) ss register inside k rest =
    rest (replaced l (bits w (numbers v)) register) (
      length-put l w (numbers v) n register inside k.0,
      IsBits-replaced l (bits w (numbers v)) register (IsBits-bits w (numbers v)) k.1,
    )
keeps-first numbers n l w (Constant m c) ss register inside k rest = rest register k
keeps-first numbers n l w Nothing ss register inside k rest = rest register k

inserted-keeps : (ssa : Ssa) (numbers : ℕ → ℕ) (n low : ℕ) (ss : List Slot) (register : List ℕ)
    → AreSlots ssa n low ss → Keeps n register → Keeps n (inserted numbers (values ss) register)
inserted-keeps ssa numbers n low [] register all k = k
inserted-keeps ssa numbers n low (s ∷ ss) register all k =
    keeps-first numbers n s.low s.width s.wanted ss register (all.1).inside k
    (λ r h. inserted-keeps ssa numbers n (s.low + s.width) ss r all.2 h)

-- ---- what stands below all that is inserted

abbrev got : ℕ → ℕ → List ℕ → ℕ
got at k register = num (range at k register)

beside-first : (numbers : ℕ → ℕ) (n l w : ℕ) (x : Wanted) (ss : List Slot) (register : List ℕ) (at k : ℕ)
    → l + w ≤ n → length register ≡ n → at + k ≤ l
    → ((r : List ℕ) → length r ≡ n → got at k (inserted numbers (values ss) r) ≡ got at k r)
    → got at k (inserted numbers (values (slot l w x ∷ ss)) register) ≡ got at k register
beside-first numbers n l w (Value v) ss register at k inside e below rest =
    rest (replaced l (bits w (numbers v)) register) (length-put l w (numbers v) n register inside e)
    ∙ get-put_beside l w (numbers v) register (omega arith) at k (omega arith) (inl below)
beside-first numbers n l w (Constant m c) ss register at k inside e below rest = rest register e
beside-first numbers n l w Nothing ss register at k inside e below rest = rest register e

inserted-beside : (ssa : Ssa) (numbers : ℕ → ℕ) (n low : ℕ) (ss : List Slot) (register : List ℕ) (at k : ℕ)
    → AreSlots ssa n low ss → length register ≡ n → at + k ≤ low
    → got at k (inserted numbers (values ss) register) ≡ got at k register
inserted-beside ssa numbers n low [] register at k all e below = refl
inserted-beside ssa numbers n low (s ∷ ss) register at k all e below =
    let first = all.0 in
    beside-first numbers n s.low s.width s.wanted ss register at k (all.1).inside e (omega arith)
    (λ r h. inserted-beside ssa numbers n (s.low + s.width) ss r at k all.2 h (omega arith))

-- ---- constants that stand after what is put

abbrev HasStill : List ℕ → Slot → Type 0
HasStill register s = IsStill s.wanted (got s.low s.width register)

still-behind : (ssa : Ssa) (n low : ℕ) (ss : List Slot) (register : List ℕ) (l w v : ℕ)
    → AreSlots ssa n low ss → length register ≡ n → l + w ≤ n → l + w ≤ low
    → AllByRecursion (HasStill register) ss
    → AllByRecursion (HasStill (replaced l (bits w v) register)) ss
still-behind ssa n low [] register l w v all e inside below h = tt
still-behind ssa n low (s ∷ ss) register l w v all e inside below h =
    let first = all.0 in
    let within = (all.1).inside in (
      subst (IsStill s.wanted)
          (sym (get-put_beside l w v register (omega arith) s.low s.width (omega arith) (inr (omega arith)))) h.0,
      still-behind ssa n (s.low + s.width) ss register l w v all.2 e inside (omega arith) h.1,
    )

-- ---- slots are filled

fills-first : (ssa : Ssa) (numbers : ℕ → ℕ) (n l w : ℕ) (x : Wanted) (ss : List Slot) (register : List ℕ)
    → AreInWidths ssa numbers → l + w ≤ n → MayBeWanted ssa w x → AreSlots ssa n (l + w) ss
    → length register ≡ n → IsStill x (got l w register) → AllByRecursion (HasStill register) ss
    → ((r : List ℕ) → length r ≡ n → AllByRecursion (HasStill r) ss
    → AllByRecursion (SlotHas numbers (inserted numbers (values ss) r)) ss)
    → AllByRecursion (SlotHas numbers (inserted numbers (values (slot l w x ∷ ss)) register)) (slot l w x ∷ ss)
fills-first ssa numbers n l w (Value v) ss register wide inside may all e here h rest =
    let new = replaced l (bits w (numbers v)) register in
    let long = length-put l w (numbers v) n register inside e in
    let fits : numbers v < 2 ^ w = wide v w may in
    let top : l + w ≤ l + w = omega arith in (
      inserted-beside ssa numbers n (l + w) ss new l w all long top
          ∙ get-put_same l w (numbers v) register (omega arith)
          ∙ mod-eq_of_lt fits,
      rest new long (still-behind ssa n (l + w) ss register l w (numbers v) all e inside top h),
    )
fills-first ssa numbers n l w (Constant m c) ss register wide inside may all e here h rest =
    (inserted-beside ssa numbers n (l + w) ss register l w all e (omega arith) ∙ here, rest register e h)
fills-first ssa numbers n l w Nothing ss register wide inside may all e here h rest =
    (tt, rest register e h)

inserted-fills : (ssa : Ssa) (numbers : ℕ → ℕ) (n low : ℕ) (ss : List Slot) (register : List ℕ)
    → AreInWidths ssa numbers → AreSlots ssa n low ss → length register ≡ n
    → AllByRecursion (HasStill register) ss
    → AllByRecursion (SlotHas numbers (inserted numbers (values ss) register)) ss
inserted-fills ssa numbers n low [] register wide all e h = tt
inserted-fills ssa numbers n low (s ∷ ss) register wide all e h =
    fills-first ssa numbers n s.low s.width s.wanted ss register wide (all.1).inside (all.1).wanted all.2 e
    h.0 h.1 (λ r f g. inserted-fills ssa numbers n (s.low + s.width) ss r wide all.2 f g)

-- ---- the register of the constants

whole-bytes : (n : ℕ) → list_any (nat_eq n) (128 ∷ 256 ∷ 512 ∷ []) ≡ true → 8 * (n / 8) ≡ n
whole-bytes n h = elim (or_cases (nat_eq n 128) _ h) [
  | inl t ↦ (let e = eqb-true n 128 t in omega arith)
  | inr a ↦ elim (or_cases (nat_eq n 256) _ a) [
    | inl t ↦ (let e = eqb-true n 256 t in omega arith)
    | inr b ↦ elim (or_cases (nat_eq n 512) _ b) [
      | inl t ↦ (let e = eqb-true n 512 t in omega arith)
      | inr c ↦ absurd (cc)
    ]
  ]
]

constants-are : (ssa : Ssa) (o : Operand) → IsOperand ssa o
    → bits_of_bytes (constant_bytes o) ≡ bits o.register (constants_of o.slots)
constants-are ssa o is =
    bits_of_bytes-bytes (o.register / 8) (constants_of o.slots)
    ∙ ap (λ n. bits n (constants_of o.slots)) (whole-bytes o.register is.register)

-- each slot of the bits of a number has what the number has there
all-have : (ssa : Ssa) (n low c : ℕ) (ss : List Slot) → AreSlots ssa n low ss
    → AllByRecursion (λ s. IsStill s.wanted (c / 2 ^ s.low % 2 ^ s.width)) ss
    → AllByRecursion (HasStill (bits n c)) ss
all-have ssa n low c [] all h = tt
all-have ssa n low c (s ∷ ss) all h = (
  subst (IsStill s.wanted) (sym (num-range-bits s.low s.width n c (all.1).inside)) h.0,
  all-have ssa n (s.low + s.width) c ss all.2 h.1,
)

constants-stand : (ssa : Ssa) (o : Operand) → IsOperand ssa o
    → AllByRecursion (HasStill (bits o.register (constants_of o.slots))) o.slots
constants-stand ssa o is =
    all-have ssa o.register 0 (constants_of o.slots) o.slots is.slots
    (constants-still ssa o.register 0 0 (constants_of o.slots) o.slots is.slots (omega arith) (omega arith))

keeps-bits : (n c : ℕ) → Keeps n (bits n c)
keeps-bits n c = (length-bits n c, IsBits-bits n c)

pub inserts-fill : InsertsFill
inserts-fill ssa numbers o is wide =
    let register = bits o.register (constants_of o.slots) in
    let k = inserted-keeps ssa numbers o.register 0 o.slots register is.slots (keeps-bits _ _) in
    subst (λ r. Fills numbers o (inserted numbers (value_slots o) r)) (sym (constants-are ssa o is)) (record {
      long = k.0;
      bits = k.1;
      slots = inserted-fills ssa numbers o.register 0 o.slots register wide is.slots (length-bits _ _) (constants-stand ssa o is);
    })

-- ---- without values

slot-still : (numbers : ℕ → ℕ) (x : Wanted) (n : ℕ) → wants_value x ≡ false → IsStill x n → IsWanted numbers x n
slot-still numbers (Value v) n e h = absurd (cc)
slot-still numbers (Constant w c) n e h = h
slot-still numbers Nothing n e h = tt

none-wants : (numbers : ℕ → ℕ) (ss : List Slot) (register : List ℕ)
    → list_any (λ s. wants_value s.wanted) ss ≡ false → AllByRecursion (HasStill register) ss
    → AllByRecursion (SlotHas numbers register) ss
none-wants numbers [] register none h = tt
none-wants numbers (s ∷ ss) register none h =
    let both = neither (wants_value s.wanted) (list_any (λ s. wants_value s.wanted) ss) none in
    (slot-still numbers s.wanted _ both.0 h.0, none-wants numbers ss register both.1 h.1)
  where
    neither : (a b : Bool) → (a || b) ≡ false → (a ≡ false) × (b ≡ false)
    neither true b e = absurd (cc)
    neither false b e = (refl, e)

not-false : (b : Bool) → not b ≡ true → b ≡ false
not-false true e = absurd (cc)
not-false false e = refl

pub constants-fill : ConstantsFill
constants-fill ssa numbers o is none =
    subst (Fills numbers o) (sym (constants-are ssa o is)) (record {
      long = length-bits _ _;
      bits = IsBits-bits _ _;
      slots = none-wants numbers o.slots _ (not-false _ none) (constants-stand ssa o is);
    })
