-- The tests of packs and operands tell them apart.
use Rattle.std.proofs.Common.{◌≡◌, ℕ, Bool, true, false, List, [], ◌∷◌, refl, ap, arith}
use Rattle.std.specs.Prelude.{◌&&◌, nat_eq, Option, Some, None}
use Rattle.std.proofs.lemmas.Bool.Decides.{nat_tests}
use Rattle.std.specs.Cmp.Lexicographic.{pointwise}
use Rattle.vg_shapes.specs.declared.operand.Operand.{Operand}
use Rattle.vg_shapes.specs.declared.operand.Slot.{Slot}
use Rattle.vg_shapes.specs.declared.pack.Pack.{Pack}
use Rattle.vg_shapes.specs.declared.pack.Pack.TheVariants.{Stores, Loads, Call}
use Rattle.vg_shapes.specs.declared.wanted.Wanted.{Wanted}
use Rattle.vg_shapes.specs.Wanted.{same_wanted}
use Rattle.vg_shapes.proofs.SameWanted.{wanted-itself, wanted-same}
use Rattle.vg_kernel_plans.specs.SameAs.{same_lane, same_operand, same_pack, same_slot}
use Rattle.vg_kernel_plans.specs.Wants.{slot}

eq-is : (a b : ℕ) → nat_eq a b ≡ true → a ≡ b
eq-is a b t = grind (arith, nat_tests)

pub eq-itself : (a : ℕ) → nat_eq a a ≡ true
eq-itself a = grind (arith, nat_tests)

pub both-true : (a b : Bool) → (a && b) ≡ true → (a ≡ true) × (b ≡ true)
both-true true b e = (refl, e)
both-true false b e = absurd (cc)

pub list-is : {X : Type 0} (same : X → X → Bool) → ((x y : X) → same x y ≡ true → x ≡ y)
    → (xs ys : List X) → pointwise same xs ys ≡ true → xs ≡ ys
list-is same is [] [] t = refl
list-is same is [] (y ∷ ys) t = absurd (cc)
list-is same is (x ∷ xs) [] t = absurd (cc)
list-is same is (x ∷ xs) (y ∷ ys) t =
    let k = both-true (same x y) (pointwise same xs ys) t in
    let e = is x y k.0 in
    let f = list-is same is xs ys k.1 in
    cc

list-itself : {X : Type 0} (same : X → X → Bool) → ((x : X) → same x x ≡ true)
    → (xs : List X) → pointwise same xs xs ≡ true
list-itself same it [] = refl
list-itself same it (x ∷ xs) = rw (it x) (list-itself same it xs)

lane-is : (a b : Option ℕ) → same_lane a b ≡ true → a ≡ b
lane-is (Some v) (Some u) t = ap Some (eq-is v u t)
lane-is (Some v) None t = absurd (cc)
lane-is None (Some u) t = absurd (cc)
lane-is None None t = refl

lane-itself : (a : Option ℕ) → same_lane a a ≡ true
lane-itself (Some v) = eq-itself v
lane-itself None = refl

pub pack-is : (p q : Pack) → same_pack p q ≡ true → p ≡ q
pack-is (Stores us) (Stores vs) t = ap Stores (list-is nat_eq eq-is us vs t)
pack-is (Stores us) (Loads vs) t = absurd (cc)
pack-is (Stores us) (Call e m) t = absurd (cc)
pack-is (Loads us) (Loads vs) t = ap Loads (list-is nat_eq eq-is us vs t)
pack-is (Loads us) (Stores vs) t = absurd (cc)
pack-is (Loads us) (Call e m) t = absurd (cc)
pack-is (Call d l) (Call e m) t =
    let k = both-true (nat_eq d e) (pointwise same_lane l m) t in
    let a = eq-is d e k.0 in
    let b = list-is same_lane lane-is l m k.1 in
    cc
pack-is (Call d l) (Stores vs) t = absurd (cc)
pack-is (Call d l) (Loads vs) t = absurd (cc)

pub pack-itself : (p : Pack) → same_pack p p ≡ true
pack-itself (Stores us) = list-itself nat_eq eq-itself us
pack-itself (Loads us) = list-itself nat_eq eq-itself us
pack-itself (Call d l) = rw (eq-itself d) (list-itself same_lane lane-itself l)

pub slot-is : (a b : Slot) → same_slot a b ≡ true → a ≡ b
slot-is a b t =
    let k = both-true (nat_eq a.low b.low) (nat_eq a.width b.width && same_wanted a.wanted b.wanted) t in
    let m = both-true (nat_eq a.width b.width) (same_wanted a.wanted b.wanted) k.1 in
    slot-from a.low b.low a.width b.width a.wanted b.wanted (eq-is a.low b.low k.0)
    (eq-is a.width b.width m.0) (wanted-same a.wanted b.wanted m.1)
  where
    slot-from : (l m w x : ℕ) (y z : Wanted) → l ≡ m → w ≡ x → y ≡ z → slot l w y ≡ slot m x z
    slot-from l m w x y z e f g = rw (e, f, g) refl

slot-itself : (a : Slot) → same_slot a a ≡ true
slot-itself a = rw (eq-itself a.low, eq-itself a.width) (wanted-itself a.wanted)

abbrev operand : ℕ → List Slot → Operand
operand r xs = record { register = r; slots = xs }

pub operand-is : (a b : Operand) → same_operand a b ≡ true → a ≡ b
operand-is a b t =
    let k = both-true (nat_eq a.register b.register) (pointwise same_slot a.slots b.slots) t in
    operand-from a.register b.register a.slots b.slots (eq-is a.register b.register k.0)
    (list-is same_slot slot-is a.slots b.slots k.1)
  where
    operand-from : (r q : ℕ) (xs ys : List Slot) → r ≡ q → xs ≡ ys → operand r xs ≡ operand q ys
    operand-from r q xs ys e f = rw (e, f) refl

pub operand-itself : (a : Operand) → same_operand a a ≡ true
operand-itself a = rw (eq-itself a.register) (list-itself same_slot slot-itself a.slots)
