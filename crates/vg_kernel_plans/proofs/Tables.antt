-- The load groups of a kernel in their tables.
use Rattle.std.proofs.Common.{◌≡◌, ℕ, ◌+◌, ◌<◌, Bool, true, false, List, [], ◌∷◌, length, refl, sym, ◌∙◌, ap, subst, inl, inr, arith}
use Rattle.std.specs.Prelude.{filter, find, nat_eq, if◌then◌else◌}
use Rattle.std.specs.List.{flat_map}
use Rattle.std.proofs.lemmas.Bool.{cases_Bool}
use Rattle.std.proofs.lemmas.Bool.Decides.{nat_tests}
use Rattle.vg_base.specs.declared.width.Width.{Width}
use Rattle.vg_plans.specs.World.{is_in}
use Rattle.vg_plans.proofs.Reach.{in-has}
use Rattle.vg_shapes.specs.declared.operand.Operand.{Operand}
use Rattle.vg_shapes.specs.declared.pack.Pack.{Pack}
use Rattle.vg_shapes.specs.declared.ssa.Ssa.{Ssa}
use Rattle.vg_shapes.specs.Pack.{units_of}
use Rattle.vg_shapes.specs.Units.{arguments}
use Rattle.vg_kernel_plans.specs.declared.first_loads.PlacedLoad.{PlacedLoad}
use Rattle.vg_kernel_plans.specs.declared.load_groups.LoadGroups.{LoadGroups}
use Rattle.vg_kernel_plans.specs.Fed.{feeders_by}
use Rattle.vg_kernel_plans.specs.LoadGroups.{cut_from, feeders, feeds, first_loads, groups_in, is_part, load_groups, run_begins, run_of, sizes_in}
use Rattle.vg_kernel_plans.specs.LoadTable.{AreLoadGroups, HaveUnitsBelow, feeders_in, having}
use Rattle.vg_kernel_plans.specs.Wants.{wanted_values}
use Rattle.vg_kernel_plans.proofs.Inside.{are-inside, unit-number}
use Rattle.vg_kernel_plans.proofs.LoadPacks.{load-group}
use Rattle.vg_kernel_plans.proofs.Parts.{flipped, none-cut}

-- units of load groups are units of the kernel
pub groups-below : (ssa : Ssa) (register n : ℕ) → n ≡ arguments ssa + length ssa.units → HaveUnitsBelow (load_groups ssa register) n
groups-below ssa register n e g h v t =
    let k = load-group ssa register g h in
    let i = in-has v k.units (subst (λ q. is_in v (units_of q) ≡ true) k.pack t) in
    let u = unit-number ssa v (are-inside ssa k.loads.0 k.loads.1 k.units k.loads.2 v i) in
    subst (λ m. v < m) (sym e) u.1

pub made-groups : (ssa : Ssa) (register : ℕ) (loads begins : List PlacedLoad) → loads ≡ first_loads ssa → begins ≡ run_begins loads
    → flat_map (groups_in register loads) begins ≡ load_groups ssa register
made-groups ssa register loads begins l b =
    ap (flat_map (groups_in register loads)) b ∙ ap (λ xs. flat_map (groups_in register xs) (run_begins xs)) l

-- the same of groups by what they are made of
pub made-below : (ssa : Ssa) (register n : ℕ) (loads begins : List PlacedLoad) → n ≡ arguments ssa + length ssa.units
    → loads ≡ first_loads ssa → begins ≡ run_begins loads → HaveUnitsBelow (flat_map (groups_in register loads) begins) n
made-below ssa register n loads begins e l b =
    subst (λ gs. HaveUnitsBelow gs n) (sym (made-groups ssa register loads begins l b)) (groups-below ssa register n e)

-- ---- registers of other widths have none

no-part : (register : ℕ) (w : Width) (n : ℕ) (us : List ℕ) → sizes_in register ≡ [] → cut_from register w n us ≡ []
no-part register w n us e = none-cut register w n us (ap (find (is_part w (length us))) e)

no-groups : (register : ℕ) (loads begins : List PlacedLoad) → sizes_in register ≡ [] → flat_map (groups_in register loads) begins ≡ []
no-groups register loads [] e = refl
no-groups register loads (l ∷ begins) e = rw (no-part register l.width (length (run_of loads l)) (run_of loads l) e) (no-groups register loads begins e)

pub other-register : (ssa : Ssa) (register : ℕ) → nat_eq register 512 ≡ false → nat_eq register 256 ≡ false → nat_eq register 128 ≡ false
    → load_groups ssa register ≡ []
other-register ssa register a b c =
    no-groups register (first_loads ssa) (run_begins (first_loads ssa)) (rw (flipped register 512 a, flipped register 256 b, flipped register 128 c) refl)

-- all groups, in registers of each width
pub all-there : (ssa : Ssa) (g512 g256 g128 : List Pack) → g512 ≡ load_groups ssa 512 → g256 ≡ load_groups ssa 256 → g128 ≡ load_groups ssa 128
    → (register : ℕ)
    → (if nat_eq register 512 then g512 else if nat_eq register 256 then g256 else if nat_eq register 128 then g128 else []) ≡ load_groups ssa register
all-there ssa g512 g256 g128 a b c register = elim (cases_Bool (nat_eq register 512)) [
  | inl t ↦ let e : register ≡ 512 = grind (arith, nat_tests, t) in rw t (a ∙ ap (load_groups ssa) (sym e))
  | inr f ↦ elim (cases_Bool (nat_eq register 256)) [
    | inl t ↦ let e : register ≡ 256 = grind (arith, nat_tests, t) in rw (f, t) (b ∙ ap (load_groups ssa) (sym e))
    | inr g ↦ elim (cases_Bool (nat_eq register 128)) [
      | inl t ↦ let e : register ≡ 128 = grind (arith, nat_tests, t) in rw (f, g, t) (c ∙ ap (load_groups ssa) (sym e))
      | inr h ↦ rw (f, g, h) (sym (other-register ssa register f g h))
    ]
  ]
]

pub none-there : (register : ℕ) (a b c : List Pack) → a ≡ [] → b ≡ [] → c ≡ []
    → (if nat_eq register 512 then a else if nat_eq register 256 then b else if nat_eq register 128 then c else []) ≡ []
none-there register a b c e f g = rw (e, f, g) (elim (cases_Bool (nat_eq register 512)) [
  | inl t ↦ rw t refl
  | inr n ↦ elim (cases_Bool (nat_eq register 256)) [
    | inl t ↦ rw (n, t) refl
    | inr m ↦ elim (cases_Bool (nat_eq register 128)) [ inl t ↦ rw (n, m, t) refl | inr k ↦ rw (n, m, k) refl ]
  ]
])

-- what feeds an operand by the groups in tables is what feeds it by the choice
pub fed-by : (ssa : Ssa) (g : LoadGroups) → AreLoadGroups ssa g → (o : Operand) → feeders_in g o ≡ feeders_by g.choice ssa o
fed-by ssa g is o = ap (filter (feeds o)) (is.groups o.register) ∙ of g.choice.fed
  where
    of : (b : Bool) → filter (feeds o) (if b then load_groups ssa o.register else []) ≡ (if b then feeders ssa o else [])
    of true = refl
    of false = refl

-- where load groups are tried, or none
pub tried-all : {X : Type 0} (b : Bool) → b ≡ true → (xs : List X) → xs ≡ (if b then xs else [])
tried-all b t xs = rw t refl

pub tried-none : {X : Type 0} (b : Bool) → b ≡ false → (xs : List X) → [] ≡ (if b then xs else [])
tried-none b f xs = rw f refl

-- of a register, by its width
pub found-512 : (register : ℕ) (a b c : List Pack) → register ≡ 512
    → a ≡ (if nat_eq register 512 then a else if nat_eq register 256 then b else if nat_eq register 128 then c else [])
found-512 register a b c e = rw e refl

pub found-256 : (register : ℕ) (a b c : List Pack) → register ≡ 256
    → b ≡ (if nat_eq register 512 then a else if nat_eq register 256 then b else if nat_eq register 128 then c else [])
found-256 register a b c e = rw e refl

pub found-128 : (register : ℕ) (a b c : List Pack) → register ≡ 128
    → c ≡ (if nat_eq register 512 then a else if nat_eq register 256 then b else if nat_eq register 128 then c else [])
found-128 register a b c e = rw e refl

-- what feeds an operand, found by the width of its register
pub feeds-512 : (g : LoadGroups) (o : Operand) (values slice : List ℕ) (packs : List Pack) → o.register ≡ 512 → values ≡ wanted_values o → slice ≡ values
    → packs ≡ having g.of_512.groups.items slice → packs ≡ feeders_in g o
feeds-512 g o values slice packs r v s p =
    p ∙ ap (having g.of_512.groups.items) (s ∙ v)
    ∙ ap (λ gs. having gs (wanted_values o)) (found-512 o.register g.of_512.groups.items g.of_256.groups.items g.of_128.groups.items r)

pub feeds-256 : (g : LoadGroups) (o : Operand) (values slice : List ℕ) (packs : List Pack) → o.register ≡ 256 → values ≡ wanted_values o → slice ≡ values
    → packs ≡ having g.of_256.groups.items slice → packs ≡ feeders_in g o
feeds-256 g o values slice packs r v s p =
    p ∙ ap (having g.of_256.groups.items) (s ∙ v)
    ∙ ap (λ gs. having gs (wanted_values o)) (found-256 o.register g.of_512.groups.items g.of_256.groups.items g.of_128.groups.items r)

pub feeds-128 : (g : LoadGroups) (o : Operand) (values slice : List ℕ) (packs : List Pack) → o.register ≡ 128 → values ≡ wanted_values o → slice ≡ values
    → packs ≡ having g.of_128.groups.items slice → packs ≡ feeders_in g o
feeds-128 g o values slice packs r v s p =
    p ∙ ap (having g.of_128.groups.items) (s ∙ v)
    ∙ ap (λ gs. having gs (wanted_values o)) (found-128 o.register g.of_512.groups.items g.of_256.groups.items g.of_128.groups.items r)

found-none : (register : ℕ) (a b c : List Pack) → nat_eq register 512 ≡ false → nat_eq register 256 ≡ false → nat_eq register 128 ≡ false
    → [] ≡ (if nat_eq register 512 then a else if nat_eq register 256 then b else if nat_eq register 128 then c else [])
found-none register a b c e f g = rw (e, f, g) refl

pub feeds-none : (g : LoadGroups) (o : Operand) (packs : List Pack) → nat_eq o.register 512 ≡ false → nat_eq o.register 256 ≡ false
    → nat_eq o.register 128 ≡ false → packs ≡ [] → packs ≡ feeders_in g o
feeds-none g o packs a b c p =
    p ∙ ap (λ gs. having gs (wanted_values o)) (found-none o.register g.of_512.groups.items g.of_256.groups.items g.of_128.groups.items a b c)
