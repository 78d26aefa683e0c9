-- Repeated units make accesses of the given ones alone, and each of them.
use Rattle.std.proofs.Common.{◌≡◌, ℕ, zero, suc, ◌+◌, ◌<◌, ◌⊎◌, ℤ, Bool, true, false, List, [], ◌∷◌, ◌++◌, length, Option, Some, None, refl, sym, ap, ◌∙◌, subst, arith, inl, inr}
use Rattle.std.specs.Prelude.{◌&&◌, not, nat_eq, int_le, Contains, slice_index_or}
use Rattle.std.specs.List.{AllByRecursion, cons_option, filter_map, list_all}
use Rattle.std.specs.Option.{option_map_or}
use Rattle.std.proofs.lemmas.Bool.{and_cases, and_from, and_left, and_parts, and_right, cases_Bool, cond-false, cond-true, eq-eqb, eqb-true, true≢false}
use Rattle.std.proofs.lemmas.Int.{ints}
use Rattle.vg_base.specs.Trap.{◌>>=◌}
use Rattle.vg_base.specs.declared.address.Address.{Address}
use Rattle.vg_base.specs.declared.width.Width.{Width}
use Rattle.vg_rewrite.specs.Repeated.{anew, is_free, is_needed, load_stays, read_anew, repeat_by, repeat_other, repeat_units, repeated_units, Repeating, source_of, stand_source, stood, take_operand, take_source, Taken, unit_or, with_first}
use Rattle.vg_rewrite.proofs.Covering.{given-pass}
use Rattle.vg_rewrite.proofs.Rereading.{all-from, AreFrom, begun, from-here, from-next}
use Rattle.vg_rewrite.proofs.SourceFacts.{LoadAt, source-at, SourceAt}
use Rattle.vg_shapes.specs.declared.access.Access.{Access}
use Rattle.vg_shapes.specs.declared.ssa.Ssa.{Ssa}
use Rattle.vg_shapes.specs.declared.ssa_unit.Operands.{Operands}
use Rattle.vg_shapes.specs.declared.ssa_unit.Operator.{Operator}
use Rattle.vg_shapes.specs.declared.ssa_unit.Operator.TheVariants.{Resize}
use Rattle.vg_shapes.specs.declared.ssa_unit.SsaUnit.{SsaUnit}
use Rattle.vg_shapes.specs.declared.ssa_unit.SsaUnit.TheVariants.{Load, Store, Operation}
use Rattle.vg_shapes.specs.declared.wanted.Wanted.{Wanted}
use Rattle.vg_shapes.specs.declared.wanted.Wanted.TheVariants.{Value, Constant, Nothing}
use Rattle.vg_shapes.specs.Layout.{access_of, accesses}
use Rattle.vg_shapes.specs.Units.{arguments, unit_at}
use Rattle.vg_shapes.proofs.Apart.{access-listed}

-- ---- what holds of each given unit holds of each repeated one

module _ (ssa : Ssa) (P : SsaUnit → Type 0) (each : (v : ℕ) (u : SsaUnit) → unit_at ssa v ≡ Some u → P u) (each_store : (a : Address) (w : Width) (x y : Wanted) → P (Store a w x) → P (Store a w y))
    (each_operation : (op : Operator) (w : Width) (k : ℕ) (xs : Operands) → P (Operation op w k xs)) where
  abbrev All : Repeating → Type 0
  All g = AllByRecursion P g.units

  all-push : (us : List SsaUnit) (u : SsaUnit) → AllByRecursion P us → P u → AllByRecursion P (us ++ u ∷ [])
  all-push [] u h one = (one, tt)
  all-push (x ∷ us) u h one = (h.0, all-push us u h.1 one)

  all-load : (l : ℕ) (g : Repeating) → LoadAt ssa l → All g → All (anew (unit_or (unit_at ssa l)) g).after
  all-load l g h all = subst (λ o. All (anew (unit_or o) g).after) (sym h.unit) (all-push g.units (Load h.address h.width) all (each l (Load h.address h.width) h.unit))

  all-anew : (x l : ℕ) (g : Repeating) → SourceAt ssa x l → All g → All (read_anew ssa x l g).after
  all-anew x l g source all = elim (cases_Bool (nat_eq x l)) [
    | inl c ↦ subst (λ (t : Taken). All t.after) (sym (cond-true (nat_eq x l) (anew (unit_or (unit_at ssa l)) g) _ c)) (all-load l g source.load all)
    | inr c ↦
        let read = anew (unit_or (unit_at ssa l)) g in
        let h = source.extends c in
        let made : All (anew (with_first read.value (unit_or (unit_at ssa x))) read.after).after =
        subst (λ o. All (anew (with_first read.value (unit_or o)) read.after).after) (sym h.unit) (all-push read.after.units _ (all-load l g source.load all) (each_operation (Resize h.op h.from) h.width h.amount _)) in
        subst (λ (t : Taken). All t.after) (sym (cond-false (nat_eq x l) read _ c)) made
  ]

  all-source : (user x : ℕ) (o : Option ℕ) (g : Repeating) → source_of ssa x ≡ o → All g → All (take_source ssa user x o g).after
  all-source user x None g e all = all
  all-source user x (Some l) g e all = elim (cases_Bool (is_free ssa user x)) [
    | inl c ↦ subst (λ (t : Taken). All t.after) (sym (cond-true (is_free ssa user x) (read_anew ssa x l g) (stood g x) c)) (all-anew x l g (source-at ssa x l e) all)
    | inr c ↦ subst (λ (t : Taken). All t.after) (sym (cond-false (is_free ssa user x) (read_anew ssa x l g) (stood g x) c)) all
  ]

  all-operand : (user : ℕ) (x : Wanted) (g : Repeating) → All g → All (take_operand ssa user x g).after
  all-operand user (Value x) g all = all-source user x (source_of ssa x) g refl all
  all-operand user (Constant w n) g all = all
  all-operand user Nothing g all = all

  all-stand : (b : Bool) (u : SsaUnit) (g : Repeating) → P u → All g → All (stand_source b u g)
  all-stand true u g one all = all-push g.units u all one
  all-stand false u g one all = all

  all-other : (v : ℕ) (u : SsaUnit) (g : Repeating) → P u → All g → All (repeat_other ssa v u g)
  all-other v (Load a w) g one all = all-stand (load_stays ssa v) (Load a w) g one all
  all-other v (Store a w x) g one all = let c = take_operand ssa v x g in all-push c.after.units (Store a w c.value) (all-operand v x g all) (each_store a w x c.value one)
  all-other v (Operation op w k xs) g one all =
      let a = take_operand ssa v xs.first g in
      let b = take_operand ssa v xs.second a.after in
      let c = take_operand ssa v xs.third b.after in
      all-push c.after.units _ (all-operand v xs.third b.after (all-operand v xs.second a.after (all-operand v xs.first g all))) (each_operation op w k _)

  with-first : (x : Wanted) (u : SsaUnit) → P u → P (with_first x u)
  with-first x (Load a w) one = one
  with-first x (Store a w y) one = one
  with-first x (Operation op w k xs) one = each_operation op w k _

  all-by : (v : ℕ) (u : SsaUnit) (o : Option ℕ) (g : Repeating) → P u → All g → All (repeat_by ssa v u o g)
  all-by v u None g one all = all-other v u g one all
  all-by v u (Some l) g one all = elim (cases_Bool (nat_eq v l)) [
    | inl c ↦ subst All (sym (cond-true (nat_eq v l) (repeat_other ssa v u g) _ c)) (all-other v u g one all)
    | inr c ↦ subst All (sym (cond-false (nat_eq v l) (repeat_other ssa v u g) _ c)) (all-stand (is_needed ssa v) _ g (with-first _ u one) all)
  ]

  all-units : (v : ℕ) (us : List SsaUnit) (g : Repeating) → AreFrom ssa v us → All g → All (repeat_units ssa v us g)
  all-units v [] g from all = all
  all-units v (u ∷ us) g from all = all-units (v + 1) us (repeat_by ssa v u (source_of ssa v) g) (from-next ssa v u us from) (all-by v u (source_of ssa v) g (each v u (from-here ssa v u us from)) all)

  pub each-repeated : AllByRecursion P (repeated_units ssa)
  each-repeated = all-units (arguments ssa) ssa.units (begun ssa) (all-from ssa) tt

-- ---- accesses

unit-access : (ssa : Ssa) (v : ℕ) (u : SsaUnit) (x : Access) → unit_at ssa v ≡ Some u → access_of u ≡ Some x → Contains (accesses ssa) x
unit-access ssa v u x is e = access-listed ssa v x (ap (λ o. o >>= access_of) is ∙ e)

-- the units make these accesses alone
abbrev MakesOf : Ssa → SsaUnit → Type 0
MakesOf ssa u = (x : Access) → access_of u ≡ Some x → Contains (accesses ssa) x

contains-first : (o : Option Access) (xs : List Access) (x : Access) → Contains (cons_option o xs) x → (o ≡ Some x) ⊎ Contains xs x
contains-first None xs x h = inr h
contains-first (Some y) xs x h = by h.0 h.1 h.2
  where
    by : (i : ℕ) → i < length (y ∷ xs) → slice_index_or (y ∷ xs) i x ≡ x → (Some y ≡ Some x) ⊎ Contains xs x
    by zero l e = inl (ap Some e)
    by (suc i) l e = inr (i, (let below : i < length xs = omega arith in below), e)

contains-more : (o : Option Access) (xs : List Access) (x : Access) → Contains xs x → Contains (cons_option o xs) x
contains-more None xs x h = h
contains-more (Some y) xs x h = (suc h.0, (let below = h.1 in omega arith), h.2)

contains-here : (o : Option Access) (xs : List Access) (x : Access) → o ≡ Some x → Contains (cons_option o xs) x
contains-here o xs x e = subst (λ k. Contains (cons_option k xs) x) (sym e) (0, omega arith, refl)

made-of : (ssa : Ssa) (us : List SsaUnit) (x : Access) → AllByRecursion (MakesOf ssa) us → Contains (filter_map access_of us) x → Contains (accesses ssa) x
made-of ssa [] x h c = absurd (let below = c.1 in omega arith)
made-of ssa (u ∷ us) x h c = elim (contains-first (access_of u) (filter_map access_of us) x c) [
  | inl e ↦ h.0 x e
  | inr d ↦ made-of ssa us x h.1 d
]

pub repeated-accesses : (ssa : Ssa) (x : Access) → Contains (filter_map access_of (repeated_units ssa)) x → Contains (accesses ssa) x
repeated-accesses ssa x c =
    made-of ssa (repeated_units ssa) x
    (each-repeated ssa (MakesOf ssa) (λ v u is y e. unit-access ssa v u y is e) (λ a w y z h. h) (λ op w k xs y e. absurd (cc))) c

-- ---- whether an access is another

abbrev same-offset : ℤ → ℤ → Bool
same-offset a b = int_le a b && int_le b a

abbrev same-flag : Bool → Bool → Bool
same-flag true b = b
same-flag false b = not b

abbrev same-access : Access → Access → Bool
same-access x y = (nat_eq x.address.pointer y.address.pointer && same-offset x.address.offset y.address.offset) && (nat_eq x.size y.size && same-flag x.writes y.writes)

le-itself : (z : ℤ) → int_le z z ≡ true
le-itself z = grind (arith, ints)

le-both : (a b : ℤ) → int_le a b ≡ true → int_le b a ≡ true → a ≡ b
le-both a b h g = grind (arith, ints)

flag-itself : (b : Bool) → same-flag b b ≡ true
flag-itself true = refl
flag-itself false = refl

flag-same : (a b : Bool) → same-flag a b ≡ true → a ≡ b
flag-same true b h = sym h
flag-same false true h = absurd (true≢false (sym h))
flag-same false false h = refl

access-itself : (x : Access) → same-access x x ≡ true
access-itself x =
    let o = le-itself x.address.offset in
    and_from _ _ (and_from _ _ (eq-eqb x.address.pointer x.address.pointer refl) (and_from _ _ o o)) (and_from _ _ (eq-eqb x.size x.size refl) (flag-itself x.writes))

access-same : (x y : Access) → same-access x y ≡ true → x ≡ y
access-same x y h =
    let both = and_parts (nat_eq x.address.pointer y.address.pointer && (int_le x.address.offset y.address.offset && int_le y.address.offset x.address.offset)) (nat_eq x.size y.size && same-flag x.writes y.writes) h in
    let place = and_parts (nat_eq x.address.pointer y.address.pointer) (int_le x.address.offset y.address.offset && int_le y.address.offset x.address.offset) both.0 in
    let offset = and_parts (int_le x.address.offset y.address.offset) (int_le y.address.offset x.address.offset) place.1 in
    let rest = and_parts (nat_eq x.size y.size) (same-flag x.writes y.writes) both.1 in
    let p = eqb-true x.address.pointer y.address.pointer place.0 in
    let o = le-both x.address.offset y.address.offset offset.0 offset.1 in
    let s = eqb-true x.size y.size rest.0 in
    let w = flag-same x.writes y.writes rest.1 in
    λ i. record { address = record { pointer = p i; offset = o i }; size = s i; writes = w i }

-- the unit makes another access, or none
abbrev is_other : Access → SsaUnit → Bool
is_other x u = not (option_map_or (same-access x) (access_of u) false)

not-other : (x : Access) (o : Option Access) → o ≡ Some x → not (option_map_or (same-access x) o false) ≡ false
not-other x o e = ap (λ k. not (option_map_or (same-access x) k false)) e ∙ ap not (access-itself x)

some-other : (x : Access) (us : List SsaUnit) → Contains (filter_map access_of us) x → list_all (is_other x) us ≡ false
some-other x [] c = absurd (let below = c.1 in omega arith)
some-other x (u ∷ us) c = elim (contains-first (access_of u) (filter_map access_of us) x c) [
  | inl e ↦ and_left (is_other x u) (list_all (is_other x) us) (not-other x (access_of u) e)
  | inr d ↦ and_right (is_other x u) (list_all (is_other x) us) (some-other x us d)
]

is-access : (x : Access) (o : Option Access) → not (option_map_or (same-access x) o false) ≡ false → o ≡ Some x
is-access x None h = absurd (true≢false h)
is-access x (Some y) h = ap Some (sym (access-same x y (from-not (same-access x y) h)))
  where
    from-not : (b : Bool) → not b ≡ false → b ≡ true
    from-not true e = refl
    from-not false e = absurd (true≢false e)

none-other : (x : Access) (us : List SsaUnit) → list_all (is_other x) us ≡ false → Contains (filter_map access_of us) x
none-other x [] h = absurd (true≢false h)
none-other x (u ∷ us) h = elim (and_cases (is_other x u) (list_all (is_other x) us) h) [
  | inl e ↦ contains-here (access_of u) (filter_map access_of us) x (is-access x (access_of u) e)
  | inr e ↦ contains-more (access_of u) (filter_map access_of us) x (none-other x us e)
]

pub all-accesses : (ssa : Ssa) (x : Access) → Contains (accesses ssa) x → Contains (filter_map access_of (repeated_units ssa)) x
all-accesses ssa x c = elim (cases_Bool (list_all (is_other x) (repeated_units ssa))) [
  | inr e ↦ none-other x (repeated_units ssa) e
  | inl e ↦ absurd (true≢false (sym (given-pass ssa (is_other x) (λ a w y z. refl) (λ op w k xs. refl) (begun ssa) (all-from ssa) e) ∙ some-other x ssa.units c))
]
