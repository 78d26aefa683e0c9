-- The matches of callable descriptions are those of units and begin near, and the packs of their plans are short.
use Rattle.std.proofs.Common.{◌≡◌, ℕ, zero, suc, ◌*◌, ◌/◌, ◌<◌, ◌≤◌, ◌^◌, true, false, List, [], ◌∷◌, length, get_or, refl, ap, inl, inr, arith}
use Rattle.std.specs.Prelude.{Option, Some, None, nat_eq, slice_get}
use Rattle.std.specs.List.{AllByRecursion}
use Rattle.std.proofs.Math.Nat.{div-le_self}
use Rattle.std.proofs.lemmas.Bool.{cases_Bool}
use Rattle.std.proofs.lemmas.Bool.Decides.{nat_tests}
use Rattle.vg_base.specs.Trap.{◌>>=◌}
use Rattle.vg_base.specs.Width.{size_of}
use Rattle.vg_base.specs.declared.width.Width.{Width}
use Rattle.vg_base.specs.declared.width.Width.TheVariants.{W8, W16, W32, W64}
use Rattle.vg_terms.specs.Term.{Tree}
use Rattle.vg_shapes.specs.declared.match_table.Bound.{Bound}
use Rattle.vg_shapes.specs.declared.match_table.Match.{Match}
use Rattle.vg_shapes.specs.declared.pack.Pack.{Pack}
use Rattle.vg_shapes.specs.declared.pack.Pack.TheVariants.{Stores, Loads, Call}
use Rattle.vg_shapes.specs.declared.ssa.Ssa.{Ssa}
use Rattle.vg_shapes.specs.Description.{Description, IsLane}
use Rattle.vg_shapes.specs.Fits.{has_leaf}
use Rattle.vg_shapes.specs.Leaves.{bit_number}
use Rattle.vg_shapes.specs.Matches.{IsMatch, lane_at}
use Rattle.vg_shapes.specs.Pack.{is_pack_size}
use Rattle.vg_match.proofs.Laws.{wide-alone}
use Rattle.vg_kernel_plans.specs.Taken.{AreNear, IsShort, MatchesNear}
use Rattle.vg_kernel_plans.proofs.FedPlans.{may-be-fed}
use Rattle.vg_emission.specs.Truth.{IsCallable, IsRegisterWidth}
use Rattle.vg_plan_laws.specs.Made.{IsMade}
use Rattle.vg_plan_laws.proofs.Filled.{all-get}
use Rattle.vg_plan_laws.proofs.Fitted.{IsInside, each-inside, leaf-holds}
use Rattle.vg_plan_laws.proofs.Packs.{match-units}
use Rattle.vg_plan_laws.proofs.Planned.{plans-are-made}
use Rattle.vg_emit_laws.specs.Laws.{MatchesAreNear, MatchesAreOfUnits, PacksAreShort, PacksByChoiceAreShort}

-- ---- matches

-- a lane stands in a description
record InDescription (ds : List Description) (d lane : ℕ) (t : Tree) : Type 0 where
  pub entry : Description
  pub there : slice_get ds d ≡ Some entry
  pub term : slice_get entry.lanes lane ≡ Some t

in-description : (ds : List Description) (d lane : ℕ) (t : Tree) → lane_at ds d lane ≡ Some t
    → InDescription ds d lane t
in-description ds d lane t e = by (slice_get ds d) refl e
  where
    by : (o : Option Description) → slice_get ds d ≡ o → (o >>= λ x. slice_get x.lanes lane) ≡ Some t
        → InDescription ds d lane t
    by None o e = absurd (cc)
    by (Some x) o e = record { entry = x; there = o; term = e }

register-few : (n : ℕ) → IsRegisterWidth n → n ≤ 512
register-few n is = elim (cases_Bool (nat_eq n 128)) [
  | inl t ↦ (let e : n ≡ 128 = grind (arith, nat_tests, t) in omega (arith, e))
  | inr f ↦ elim (cases_Bool (nat_eq n 256)) [
    | inl t ↦ (let e : n ≡ 256 = grind (arith, nat_tests, t) in omega (arith, e))
    | inr g ↦ elim (cases_Bool (nat_eq n 512)) [
      | inl t ↦ (let e : n ≡ 512 = grind (arith, nat_tests, t) in omega (arith, e))
      | inr h ↦ absurd (let u : false ≡ true = rw (f, g, h) at is in cc)
    ]
  ]
]

params-few : (ps : List ℕ) (k : ℕ) → AllByRecursion IsRegisterWidth ps → get_or ps k 0 ≤ 512
params-few [] k all = omega arith
params-few (p ∷ ps) zero all = register-few p all.0
params-few (p ∷ ps) (suc k) all = params-few ps k all.1

bound-near : (d : Description) (t : Tree) (b : Bound) → IsCallable d → IsLane d.params d.lane_width t
    → has_leaf b.width b.key t ≡ true
    → bit_number b.key.second < 2 ^ 32
bound-near d t b callable lane e =
    let inside = leaf-holds (IsInside d.params) t b.width b.key (each-inside d.params t lane.inside) e in
    let same : bit_number b.key.second ≡ inside.1 = ap (λ key. bit_number key.second) inside.2 in
    omega (arith, same, inside.3, params-few d.params inside.0 callable.params)

all-near : (d : Description) (t : Tree) (bounds : List Bound) → IsCallable d → IsLane d.params d.lane_width t
    → AllByRecursion (λ b. has_leaf b.width b.key t ≡ true) bounds → AreNear bounds
all-near d t [] callable lane alone = tt
all-near d t (b ∷ bounds) callable lane alone = (
  bound-near d t b callable lane alone.0,
  all-near d t bounds
      callable lane alone.1,
)

match-near : (ds : List Description) (ssa : Ssa) (m : Match) → AllByRecursion IsCallable ds → IsMatch ds ssa m
    → AreNear m.bound
match-near ds ssa m all is =
    let i = in-description ds m.description m.lane is.term is.lane in
    let callable = all-get IsCallable ds m.description i.entry all i.there in
    let lane = all-get (IsLane i.entry.params i.entry.lane_width) i.entry.lanes m.lane is.term
    callable.packable.lanes i.term in
    all-near i.entry is.term m.bound callable lane (wide-alone ssa is.term m.value m.bound is.fits)

each-near : (ds : List Description) (ssa : Ssa) (ms : List Match) → AllByRecursion IsCallable ds
    → AllByRecursion (IsMatch ds ssa) ms → MatchesNear ms
each-near ds ssa [] all are = tt
each-near ds ssa (m ∷ ms) all are = (match-near ds ssa m all are.0, each-near ds ssa ms all are.1)

pub matches-are-near : MatchesAreNear
matches-are-near ds matches ssa known = each-near ds ssa matches known.described known.matched.right

-- ---- packs

some-size : (w : Width) → 0 < size_of w
some-size W8 = omega arith
some-size W16 = omega arith
some-size W32 = omega arith
some-size W64 = omega arith

size-few : (n : ℕ) → is_pack_size n ≡ true → n ≤ 64
size-few n is = elim (cases_Bool (nat_eq n 4)) [
  | inl t ↦ (let e : n ≡ 4 = grind (arith, nat_tests, t) in omega (arith, e))
  | inr a ↦ elim (cases_Bool (nat_eq n 8)) [
    | inl t ↦ (let e : n ≡ 8 = grind (arith, nat_tests, t) in omega (arith, e))
    | inr b ↦ elim (cases_Bool (nat_eq n 16)) [
      | inl t ↦ (let e : n ≡ 16 = grind (arith, nat_tests, t) in omega (arith, e))
      | inr c ↦ elim (cases_Bool (nat_eq n 32)) [
        | inl t ↦ (let e : n ≡ 32 = grind (arith, nat_tests, t) in omega (arith, e))
        | inr d ↦ elim (cases_Bool (nat_eq n 64)) [
          | inl t ↦ (let e : n ≡ 64 = grind (arith, nat_tests, t) in omega (arith, e))
          | inr f ↦ absurd (let u : false ≡ true = rw (a, b, c, d, f) at is in cc)
        ]
      ]
    ]
  ]
]

units-few : (n : ℕ) (w : Width) → is_pack_size (n * size_of w) ≡ true → n ≤ 64
units-few n w is = grind (arith, size-few (n * size_of w) is, some-size w)

quotient-few : (n w : ℕ) → n ≤ 512 → n / w ≤ 512
quotient-few n w few = let most = div-le_self n w in omega (arith, few, most)

made-short : (ds : List Description) (matches : List Match) (ssa : Ssa) (p : Pack) → AllByRecursion IsCallable ds
    → IsMade ds matches ssa p → IsShort p
made-short ds matches ssa (Stores us) all is = units-few (length us) is.0 is.7
made-short ds matches ssa (Loads us) all is = units-few (length us) is.0 is.4
made-short ds matches ssa (Call d lanes) all is =
    let few = register-few is.entry.register (all-get IsCallable ds d is.entry all is.there).register in
    omega (arith, is.long, quotient-few is.entry.register is.entry.lane_width few)

all-short : (ds : List Description) (matches : List Match) (ssa : Ssa) (plan : List Pack)
    → AllByRecursion IsCallable ds → AllByRecursion (IsMade ds matches ssa) plan → AllByRecursion IsShort plan
all-short ds matches ssa [] all are = tt
all-short ds matches ssa (p ∷ plan) all are = (
  made-short ds matches ssa p all are.0,
  all-short ds matches ssa plan
      all are.1,
)

pub packs-are-short : PacksAreShort
packs-are-short ds matches ssa deps plan known is = all-short ds matches ssa plan known.described
    (plans-are-made ds matches ssa deps plan is)

pub packs-are-short-by : PacksByChoiceAreShort
packs-are-short-by c ds matches ssa deps known plan is =
    packs-are-short ds matches ssa deps plan known (may-be-fed ds matches ssa deps c plan is)

pub matches-are-of-units : MatchesAreOfUnits
matches-are-of-units ds matches ssa known = match-units ds matches ssa known.sound known.matched
