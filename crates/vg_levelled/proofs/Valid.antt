-- Sound units with their loads more can be numbered, and a valid program with its loads more is valid.
use Rattle.std.proofs.Common.{◌≡◌, ℕ, zero, suc, ◌+◌, ◌-◌, ◌^◌, ◌<◌, ◌≤◌, Bool, true, List, [], ◌∷◌, ◌++◌, length, map, Option, Some, refl, sym, ap, subst, ◌∙◌, inl, inr, arith}
use Rattle.std.specs.Prelude.{ℤ, pos, negsuc, filter, not, replicate, slice_get, sum_by}
use Rattle.std.specs.List.{AllByRecursion, list_all}
use Rattle.std.proofs.lemmas.Bool.{and_parts, cases_Bool, cases_lt, cond-true, cond-false, le-ltb, leb-true, lt-ltb, ltb-true}
use Rattle.std.proofs.lemmas.List.Sums.{sum_by-cons, sum_by-append}
use Rattle.vg_base.specs.declared.address.Address.{Address}
use Rattle.vg_base.specs.declared.width.Width.{Width}
use Rattle.vg_base.specs.declared.width.Width.TheVariants.{W8}
use Rattle.vg_base.specs.Offset.{IsAddress, IsOffset}
use Rattle.vg_base.specs.Trap.{◌>>=◌}
use Rattle.vg_base.specs.Width.{bits_of}
use Rattle.vg_program.specs.declared.defined.Defined.{Defined}
use Rattle.vg_program.specs.declared.defined.Defined.TheVariants as defined
use Rattle.vg_program.specs.declared.line.Line.{Line}
use Rattle.vg_program.specs.declared.line.Line.TheVariants as line
use Rattle.vg_program.specs.Before.{Before, nothing_before, with_defined}
use Rattle.vg_program.specs.Cost.{line_cost}
use Rattle.vg_program.specs.Params as program
use Rattle.vg_program.specs.Text as text
use Rattle.vg_program.specs.Valid.{AreLines, IsLine}
use Rattle.vg_shapes.specs.declared.ssa.Ssa.{Ssa}
use Rattle.vg_shapes.specs.declared.ssa_unit.Operands.{Operands}
use Rattle.vg_shapes.specs.declared.ssa_unit.Operator.{Operator}
use Rattle.vg_shapes.specs.declared.ssa_unit.Operator.TheVariants.{Two, Shift, Resize, Compare, Select}
use Rattle.vg_shapes.specs.declared.ssa_unit.SsaUnit.{SsaUnit}
use Rattle.vg_shapes.specs.declared.ssa_unit.SsaUnit.TheVariants.{Load, Store, Operation}
use Rattle.vg_shapes.specs.declared.wanted.Wanted.{Wanted}
use Rattle.vg_shapes.specs.declared.wanted.Wanted.TheVariants.{Value, Constant, Nothing}
use Rattle.vg_shapes.specs.Layout.{noalias_flags}
use Rattle.vg_shapes.specs.Order.{one_if}
use Rattle.vg_shapes.specs.Sound.{IsBit, IsNumber, IsOperation, is_store, IsUnit, pointers, TakeEarlier, unit_bits, value_bits}
use Rattle.vg_shapes.specs.Units.{arguments}
use Rattle.vg_rewrite.specs.Rewritten.{over}
use Rattle.vg_events.specs.Events.{kernel_labels, Label, labels_from, labels_in, next, unit_labels}
use Rattle.vg_events.specs.Lines.{line_access, line_labels}
use Rattle.vg_events.specs.Ranks.{count_label, same_label}
use Rattle.vg_events.proofs.Ranks.{same-labels}
use Rattle.vg_levelled.specs.Laws.{AddedCanBeNumbered, AddedKeepsRules}
use Rattle.vg_levelled.specs.Levelled.{added, added_units, byte_load, copies_of, counts, has_offset, is_missing, is_offset, met_pointers, missing}

-- ---- lists

all-joined : {A : Type 0} (P : A → Type 0) (xs ys : List A) → AllByRecursion P xs → AllByRecursion P ys
    → AllByRecursion P (xs ++ ys)
all-joined P [] ys a b = b
all-joined P (x ∷ xs) ys a b = (a.0, all-joined P xs ys a.1 b)

all-copies : {A : Type 0} (P : A → Type 0) (n : ℕ) (x : A) → P x → AllByRecursion P (replicate n x)
all-copies P zero x h = tt
all-copies P (suc n) x h = (h, all-copies P n x h)

-- ---- values behind more units

got-longer : (us more : List SsaUnit) (k w : ℕ) → (slice_get us k >>= unit_bits) ≡ Some w
    → (slice_get (us ++ more) k >>= unit_bits) ≡ Some w
got-longer [] more k w e = absurd (cc)
got-longer (u ∷ us) more zero w e = e
got-longer (u ∷ us) more (suc k) w e = got-longer us more k w e

bits-longer : (ssa : Ssa) (more : List SsaUnit) (v w : ℕ) → value_bits ssa v ≡ Some w
    → value_bits (over ssa (ssa.units ++ more)) v ≡ Some w
bits-longer ssa more v w e = elim (cases_lt v (arguments ssa)) [
  | inl here ↦
      let t = lt-ltb v (arguments ssa) here in
      cond-true _ _ _ t ∙ sym (cond-true _ _ _ t) ∙ e
  | inr later ↦
      let k = v - arguments ssa in
      let f = le-ltb v (arguments ssa) later in
      let got : (slice_get ssa.units k >>= unit_bits) ≡ Some w =
      sym (cond-false _ _ _ f ∙ ap (λ (o : Option SsaUnit). o >>= unit_bits) (cond-false _ _ _ f)) ∙ e in
      cond-false _ _ _ f ∙ ap (λ (o : Option SsaUnit). o >>= unit_bits) (cond-false _ _ _ f)
      ∙ got-longer ssa.units more k w got
]

number-longer : (ssa : Ssa) (more : List SsaUnit) (w : Width) (x : Wanted) → IsNumber ssa w x
    → IsNumber (over ssa (ssa.units ++ more)) w x
number-longer ssa more w (Value v) h = bits-longer ssa more v (bits_of w) h
number-longer ssa more w (Constant m k) h = h
number-longer ssa more w Nothing h = h

bit-longer : (ssa : Ssa) (more : List SsaUnit) (x : Wanted) → IsBit ssa x → IsBit (over ssa (ssa.units ++ more)) x
bit-longer ssa more (Value v) h = bits-longer ssa more v 1 h
bit-longer ssa more (Constant m k) h = h
bit-longer ssa more Nothing h = h

operation-longer : (ssa : Ssa) (more : List SsaUnit) (op : Operator) (w : Width) (k : ℕ) (xs : Operands)
    → IsOperation ssa op w k xs → IsOperation (over ssa (ssa.units ++ more)) op w k xs
operation-longer ssa more (Two op) w k xs h =
    (h.0, number-longer ssa more w xs.first h.1, number-longer ssa more w xs.second h.2, h.3)
operation-longer ssa more (Shift op) w k xs h = (h.0, number-longer ssa more w xs.first h.1, h.2, h.3)
operation-longer ssa more (Resize op v) w k xs h =
    (h.0, h.1, number-longer ssa more v xs.first h.2, h.3, h.4)
operation-longer ssa more (Compare op) w k xs h =
    (h.0, number-longer ssa more w xs.first h.1, number-longer ssa more w xs.second h.2, h.3)
operation-longer ssa more Select w k xs h = (
  h.0,
  bit-longer ssa more xs.first h.1,
  number-longer ssa more w xs.second h.2,
  number-longer ssa more w xs.third h.3,
)

unit-longer : (ssa : Ssa) (more : List SsaUnit) (u : SsaUnit) → IsUnit ssa u
    → IsUnit (over ssa (ssa.units ++ more)) u
unit-longer ssa more (Load a w) h = h
unit-longer ssa more (Store a w x) h = (h.0, number-longer ssa more w x h.1)
unit-longer ssa more (Operation op w k xs) h = operation-longer ssa more op w k xs h

units-longer : (ssa : Ssa) (more us : List SsaUnit) → AllByRecursion (IsUnit ssa) us
    → AllByRecursion (IsUnit (over ssa (ssa.units ++ more))) us
units-longer ssa more [] h = tt
units-longer ssa more (u ∷ us) h = (unit-longer ssa more u h.0, units-longer ssa more us h.1)

-- ---- loads

-- a load through one of so many pointers
abbrev IsLoad : ℕ → SsaUnit → Type 0
IsLoad n (Load a w) = IsAddress n a
IsLoad n (Store a w x) = ⊥
IsLoad n (Operation op w k xs) = ⊥

copies-load : (met : List Bool) (k p : Label → ℕ) (ssa : Ssa) (u : SsaUnit) → IsUnit ssa u
    → AllByRecursion (IsLoad (length (pointers ssa))) (replicate (copies_of met k p u) u)
copies-load met k p ssa (Load a w) h =
    all-copies (IsLoad (length (pointers ssa))) (copies_of met k p (Load a w)) (Load a w) h
copies-load met k p ssa (Store a w x) h = tt
copies-load met k p ssa (Operation op w n xs) h = tt

added-load : (met : List Bool) (ks ps : List Label) (ssa : Ssa) (us : List SsaUnit)
    → AllByRecursion (IsUnit ssa) us
    → AllByRecursion (IsLoad (length (pointers ssa))) (added_units met ks ps us)
added-load met ks ps ssa [] h = tt
added-load met ks ps ssa (u ∷ us) h =
    let copies = replicate (copies_of met (counts ks) (counts ps) u) u in
    all-joined (IsLoad (length (pointers ssa))) copies (added_units met (ks ++ unit_labels copies) ps us)
    (copies-load met (counts ks) (counts ps) ssa u h.0)
    (added-load met (ks ++ unit_labels copies) ps ssa us h.1)

loads-units : (ssa : Ssa) (us more : List SsaUnit) → AllByRecursion (IsLoad (length (pointers ssa))) more
    → AllByRecursion (IsUnit (over ssa us)) more
loads-units ssa us [] h = tt
loads-units ssa us (Load a w ∷ more) h = (h.0, loads-units ssa us more h.1)
loads-units ssa us (Store a w x ∷ more) h = absurd h.0
loads-units ssa us (Operation op w k xs ∷ more) h = absurd h.0

loads-earlier : (c n : ℕ) (more : List SsaUnit) → AllByRecursion (IsLoad c) more → TakeEarlier n more
loads-earlier c n [] h = tt
loads-earlier c n (Load a w ∷ more) h = (tt, loads-earlier c (n + 1) more h.1)
loads-earlier c n (Store a w x ∷ more) h = absurd h.0
loads-earlier c n (Operation op w k xs ∷ more) h = absurd h.0

earlier-longer : (c n : ℕ) (us more : List SsaUnit) → TakeEarlier n us → AllByRecursion (IsLoad c) more
    → TakeEarlier n (us ++ more)
earlier-longer c n [] more e h = loads-earlier c n more h
earlier-longer c n (u ∷ us) more e h = (e.0, earlier-longer c (n + 1) us more e.1 h)

loads-store-not : (c : ℕ) (more : List SsaUnit) → AllByRecursion (IsLoad c) more → filter is_store more ≡ []
loads-store-not c [] h = refl
loads-store-not c (Load a w ∷ more) h = loads-store-not c more h.1
loads-store-not c (Store a w x ∷ more) h = absurd h.0
loads-store-not c (Operation op w k xs ∷ more) h = absurd h.0

stores-longer : (c : ℕ) (us more : List SsaUnit) → AllByRecursion (IsLoad c) more
    → filter is_store (us ++ more) ≡ filter is_store us
stores-longer c [] more h = loads-store-not c more h
stores-longer c (Load a w ∷ us) more h = stores-longer c us more h
stores-longer c (Store a w x ∷ us) more h = ap (λ l. Store a w x ∷ l) (stores-longer c us more h)
stores-longer c (Operation op w k xs ∷ us) more h = stores-longer c us more h

pub added-can-be-numbered : AddedCanBeNumbered
added-can-be-numbered ssa p sound fit =
    let more = (added ssa p).units in
    let c = length (pointers ssa) in
    let loads = added-load (met_pointers (noalias_flags ssa) ssa.units) (kernel_labels ssa) (line_labels p.lines)
    ssa ssa.units sound.units in
    let few = (and_parts _ _ (and_parts _ _ fit).1).0 in
    let same = stores-longer c ssa.units more loads in
    record {
      name = sound.name;
      names = sound.names;
      distinct = sound.distinct;
      params = sound.params;
      stores = subst (λ l. length l ≤ 4096) (sym same) sound.stores;
      uses = leb-true (length (filter (λ u. not (is_store u)) (ssa.units ++ more))) 8192 few;
      units =
          all-joined (IsUnit (over ssa (ssa.units ++ more))) ssa.units more
          (units-longer ssa more ssa.units sound.units) (loads-units ssa (ssa.units ++ more) more loads);
      earlier = earlier-longer c (arguments ssa) ssa.units more sound.earlier loads;
    }

-- ---- the pointers of labels

-- through one of so many pointers
abbrev IsThrough : ℕ → Label → Type 0
IsThrough n l = l.address.pointer < n

bytes-through : (n : ℕ) (writes : Bool) (a : Address) (k : ℕ) → a.pointer < n
    → AllByRecursion (IsThrough n) (labels_from writes a k)
bytes-through n writes a zero h = tt
bytes-through n writes a (suc k) h = (h, bytes-through n writes (next a) k h)

line-through : (b : Before) (l : Line) → IsLine b l
    → AllByRecursion (IsThrough (length (program.pointers b.params))) (labels_in (line_access l))
line-through b (line.Load w a) h = bytes-through _ _ _ _ h.pointer
line-through b (line.Store w a v) h = bytes-through _ _ _ _ h.0.pointer
line-through b (line.Two op w l r) h = tt
line-through b (line.Shift op w v n) h = tt
line-through b (line.Resize op w from v) h = tt
line-through b (line.Compare op w l r) h = tt
line-through b (line.Select w c x y) h = tt
line-through b (line.VectorLoad z a) h = bytes-through _ _ _ _ h.pointer
line-through b (line.VectorStore z a v) h = bytes-through _ _ _ _ h.0.pointer
line-through b (line.Constant bs) h = tt
line-through b (line.Insert v bits n w x) h = tt
line-through b (line.Extract v n w) h = tt
line-through b (line.Call name vs imm bits cost) h = tt

params-stay : (b : Before) (d : Defined) → (with_defined b d).params ≡ b.params
params-stay b defined.Nothing = refl
params-stay b (defined.Scalar bits) = refl
params-stay b (defined.Vector bits) = refl

lines-through : (b : Before) (ls : List Line) → AreLines b ls
    → AllByRecursion (IsThrough (length (program.pointers b.params))) (line_labels ls)
lines-through b [] h = tt
lines-through b (l ∷ ls) h =
    let n = length (program.pointers b.params) in
    let rest = subst (λ q. AllByRecursion (IsThrough (length (program.pointers q))) (line_labels ls))
    (params-stay b (text.defined l)) (lines-through (with_defined b (text.defined l)) ls h.1) in
    all-joined (IsThrough n) (labels_in (line_access l)) (line_labels ls) (line-through b l h.0) rest

counted-through : (n : ℕ) (l : Label) (ls : List Label) → AllByRecursion (IsThrough n) ls
    → 0 < count_label l ls → IsThrough n l
counted-through n l [] h some = absurd (omega (arith, some))
counted-through n l (x ∷ xs) h some = elim (cases_Bool (same_label l x)) [
  | inl t ↦ subst (IsThrough n) (sym (same-labels l x t)) h.0
  | inr f ↦
      counted-through n l xs h.1
      (let other : count_label l (x ∷ xs) ≡ count_label l xs =
      ap (λ b. one_if b + count_label l xs) f ∙ omega arith
      in omega (arith, other, some))
]

missing-through : (n : ℕ) (met : List Bool) (ks ps ls : List Label) → AllByRecursion (IsThrough n) ps
    → AllByRecursion (IsThrough n) (missing met ks ps ls)
missing-through n met ks ps [] h = tt
missing-through n met ks ps (l ∷ ls) h = elim (cases_Bool (is_missing met (counts ks) (counts ps) l)) [
  | inl t ↦
      let common = (and_parts _ _ (and_parts _ _ t).1).0 in
      let some = ltb-true 0 (count_label l ps) (and_parts _ _ common).1 in
      let through = counted-through n l ps h some in
      subst (AllByRecursion (IsThrough n)) (sym (cond-true _ _ _ t))
      (through, missing-through n met ks (ps ++ l ∷ []) ls (all-joined (IsThrough n) ps (l ∷ []) h (through, tt)))
  | inr f ↦
      subst (AllByRecursion (IsThrough n)) (sym (cond-false _ _ _ f)) (missing-through n met ks ps ls h)
]

-- ---- loads of the program

abbrev IsPlaced : ℕ → Label → Type 0
IsPlaced n l = IsAddress n l.address

offset-is : (z : ℤ) → is_offset z ≡ true → IsOffset z
offset-is (pos n) h = ltb-true n (2 ^ 31) h
offset-is (negsuc n) h = ltb-true n (2 ^ 31) h

labels-placed : (n : ℕ) (ls : List Label) → AllByRecursion (IsThrough n) ls → list_all has_offset ls ≡ true
    → AllByRecursion (IsPlaced n) ls
labels-placed n [] h e = tt
labels-placed n (l ∷ ls) h e =
    let both = and_parts (has_offset l) (list_all has_offset ls) e in
    (record { pointer = h.0; offset = offset-is l.address.offset both.0 }, labels-placed n ls h.1 both.1)

loads-lines : (n : ℕ) (c : Before) (ls : List Label) → n ≡ length (program.pointers c.params)
    → AllByRecursion (IsPlaced n) ls → AreLines c (map byte_load ls)
loads-lines n c [] e h = tt
loads-lines n c (l ∷ ls) e h = (
  subst (λ k. IsAddress k l.address) e h.0,
  loads-lines n (with_defined c (defined.Scalar (bits_of W8))) ls e h.1,
)

lines-longer : (n : ℕ) (b : Before) (xs : List Line) (ls : List Label) → n ≡ length (program.pointers b.params)
    → AreLines b xs → AllByRecursion (IsPlaced n) ls → AreLines b (xs ++ map byte_load ls)
lines-longer n b [] ls e a h = loads-lines n b ls e h
lines-longer n b (x ∷ xs) ls e a h = (
  a.0,
  lines-longer n (with_defined b (text.defined x)) xs ls
      (e ∙ ap (λ q. length (program.pointers q)) (sym (params-stay b (text.defined x)))) a.1 h,
)

loads-cost : (ls : List Label) → sum_by line_cost (map byte_load ls) ≡ length ls
loads-cost [] = refl
loads-cost (l ∷ ls) =
    sum_by-cons line_cost (byte_load l) (map byte_load ls)
    ∙ (let rest = loads-cost ls in omega (arith, rest))

pub added-keeps-rules : AddedKeepsRules
added-keeps-rules headers ssa p rules fit =
    let loads = (added ssa p).loads in
    let b = nothing_before headers p.params in
    let n = length (program.pointers p.params) in
    let all = unit_labels (ssa.units ++ (added ssa p).units) in
    let last = and_parts _ _ (and_parts _ _ (and_parts _ _ fit).1).1 in
    let through = missing-through n (met_pointers (noalias_flags ssa) ssa.units) all (line_labels p.lines) all
    (lines-through b p.lines rules.lines) in
    let placed = labels-placed n loads through last.0 in
    record {
      name = rules.name;
      params = rules.params;
      lines = lines-longer n b p.lines loads refl rules.lines placed;
      cost =
          ap (λ k. k + length loads) rules.cost
          ∙ sym (sum_by-append line_cost p.lines (map byte_load loads)
          ∙ ap (λ k. sum_by line_cost p.lines + k) (loads-cost loads));
      small = ltb-true (p.cost + length loads) (2 ^ 32) last.1;
      scalar = rules.scalar;
    }
