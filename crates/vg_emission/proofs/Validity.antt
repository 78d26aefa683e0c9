-- Lines that bring operands into registers keep the rules on lines.
use Rattle.std.proofs.Common.{◌≡◌, ℕ, suc, ◌+◌, ◌*◌, ◌/◌, ◌<◌, ◌≤◌, true, List, [], ◌∷◌, ◌++◌, length, map, Option, Some, None, refl, sym, ap, subst, ◌∙◌, inl, inr, arith, lit≤}
use Rattle.std.specs.Prelude.{filter, nat_eq, slice_get, unwrap_or, IsSomeAnd}
use Rattle.std.specs.List.{AllByRecursion, list_any}
use Rattle.std.proofs.lemmas.Bool.{cases_Bool, cond-true, cond-false, eqb-true, or_cases}
use Rattle.vg_base.specs.declared.width.Width.{Width}
use Rattle.vg_base.specs.declared.width.Width.TheVariants.{W8, W16, W32, W64}
use Rattle.vg_base.specs.Width.{bits_of}
use Rattle.vg_bits.specs.BitList.{IsBytes}
use Rattle.vg_bits.proofs.ByteLists.{IsBytes-bytes, length-bytes}
use Rattle.vg_pseudo.specs.declared.header.Header.{Header}
use Rattle.vg_program.specs.declared.line.Line.{Line}
use Rattle.vg_program.specs.declared.line.Line.TheVariants as line
use Rattle.vg_program.specs.Before.{Before}
use Rattle.vg_program.specs.Valid.{AreLines, header_of, IsCallOf, IsConstant, IsLane, IsLine}
use Rattle.vg_program.specs.Vectors.{constant_bits, is_register_size}
use Rattle.vg_shapes.specs.declared.operand.Operand.{Operand}
use Rattle.vg_shapes.specs.declared.operand.Slot.{Slot}
use Rattle.vg_shapes.specs.declared.ssa.Ssa.{Ssa}
use Rattle.vg_shapes.specs.declared.wanted.Wanted.{Wanted}
use Rattle.vg_shapes.specs.declared.wanted.Wanted.TheVariants.{Value, Constant, Nothing}
use Rattle.vg_shapes.specs.Description.{Description}
use Rattle.vg_shapes.specs.Operands.{AreSlots, IsSlot, MayBeWanted}
use Rattle.vg_kernel_plans.specs.declared.recipe.Recipe.{Recipe}
use Rattle.vg_kernel_plans.specs.declared.recipe.Recipe.TheVariants as recipe
use Rattle.vg_kernel_plans.specs.Held.{register_of}
use Rattle.vg_kernel_plans.specs.Wants.{wants_value}
use Rattle.vg_emission.specs.Draft.{Draft, found, with_built, with_vectors}
use Rattle.vg_emission.specs.Emission.{Job, build, build_all, call_of, constant_bytes, constants_of, description_at, inserts, no_description, number_for, operand_at, pack_at, place, place_once, recipe_at, registers_of, value_slots, width_for}
use Rattle.vg_emission.specs.Fit.{AreFit, HasHeader, IsCalled, RecipeFits}
use Rattle.vg_emission.specs.Planned.{IsPlanned, TakesGiven}
use Rattle.vg_emission.proofs.Jobs.{listed}
use Rattle.vg_emission.proofs.Needs.{lane-width}
use Rattle.vg_emission.proofs.Placing.{AllHeld, all-kept, AllReady, build-keeps, Ready, RecipeReady, SlotsKnown}
use Rattle.vg_emission.proofs.Widths.{get-last, get-more, IsWide, lane-inside, more_vector, number-wide, Typed, typed-built, typed-vector, Types, types-nothing, types-then}

-- ---- inserts

-- an insert into a register of so many bits keeps the rules
record InsertFits (ssa : Ssa) (bits : ℕ) (s : Slot) : Type 0 where
  wide : IsWide ssa (bits_of (width_for s.width)) s.wanted
  lane : IsLane bits (width_for s.width) (s.low / s.width)

few-lanes : (w : Width) (n : ℕ) → (n + 1) * bits_of w ≤ 512 → n < 64
few-lanes W8 n h = omega arith
few-lanes W16 n h = omega arith
few-lanes W32 n h = omega arith
few-lanes W64 n h = omega arith

slot-fits : (ssa : Ssa) (bits : ℕ) (s : Slot) → bits ≤ 512 → IsSlot ssa bits s → wants_value s.wanted ≡ true → InsertFits ssa bits s
slot-fits ssa bits s most is value =
    let w = lane-width s.width is.width in
    let n = s.low / s.width in
    let low : n * s.width ≡ s.low = (let p = w.1 in let a = is.aligned in omega arith) in
    let whole : (n + 1) * bits_of (width_for s.width) ≤ bits = subst (λ k. (n + 1) * k ≤ bits) (sym w.0) (let i = is.inside in omega arith) in
    record {
      wide = by s.wanted is.wanted value w.0;
      lane = (lane-inside (width_for s.width) n bits whole, few-lanes (width_for s.width) n (omega arith));
    }
  where
    by : (y : Wanted) → MayBeWanted ssa s.width y → wants_value y ≡ true → bits_of (width_for s.width) ≡ s.width → IsWide ssa (bits_of (width_for s.width)) y
    by (Value v) may t e = may ∙ ap Some (sym e)
    by (Constant m k) may t e = cc
    by Nothing may t e = cc

slots-fit : (ssa : Ssa) (bits low : ℕ) (ss : List Slot) → bits ≤ 512 → AreSlots ssa bits low ss → AllByRecursion (InsertFits ssa bits) (filter (λ s. wants_value s.wanted) ss)
slots-fit ssa bits low [] most are = tt
slots-fit ssa bits low (s ∷ ss) most are =
    let Goal : List Slot → Type 0 = λ l. AllByRecursion (InsertFits ssa bits) l in
    let kept = filter (λ s. wants_value s.wanted) ss in
    let rest = slots-fit ssa bits (s.low + s.width) ss most are.2 in
    elim (cases_Bool (wants_value s.wanted)) [
      | inr f ↦ subst Goal (sym (cond-false (wants_value s.wanted) (s ∷ kept) kept f)) rest
      | inl t ↦ subst Goal (sym (cond-true (wants_value s.wanted) (s ∷ kept) kept t)) (slot-fits ssa bits s most are.1 t, rest)
    ]

inserts-types : (j : Job) (d : Draft) (b : Before) (bits r : ℕ) (ss : List Slot) → Typed j d b → slice_get b.vectors r ≡ Some bits → r + 1 ≡ d.vectors → SlotsKnown j d ss → AllByRecursion (InsertFits j.ssa bits) ss
    → (after : Before) × Types j b (inserts j d bits r ss) (with_vectors d (length ss)) after × (slice_get after.vectors (r + length ss) ≡ Some bits)
inserts-types j d b bits r [] h has last known fits =
    let e : r ≡ r + 0 = omega arith in
    (b, types-nothing j b (with_vectors d 0) (record { params = h.params; scalars = h.scalars; vectors = h.vectors ∙ omega arith; names = h.names; held = h.held; built = h.built }), subst (λ k. slice_get b.vectors k ≡ Some bits) e has)
inserts-types j d b bits r (s ∷ ss) h has last known fits =
    let c = more_vector b bits in
    let l = line.Insert r bits (s.low / s.width) (width_for s.width) (number_for j d s.wanted) in
    let ok : IsLine b l = (has, number-wide j d b s.wanted (bits_of (width_for s.width)) h known.0 fits.0.wide, fits.0.lane) in
    let rest = inserts-types j (with_vectors d 1) c bits (r + 1) ss (typed-vector j d b bits h) (get-last b.vectors (r + 1) bits (h.vectors ∙ sym last)) (omega arith) known.2 fits.1 in
    let all : d.vectors + 1 + length ss ≡ d.vectors + suc (length ss) = omega arith in
    let there : r + 1 + length ss ≡ r + suc (length ss) = omega arith in
    let t = rest.1.typed in (
      rest.0,
      record {
        fit = λ others x. (ok, rest.1.fit others x);
        typed = record { params = t.params; scalars = t.scalars; vectors = t.vectors ∙ all; names = t.names; held = t.held; built = t.built };
        grown = λ k x g. rest.1.grown k x (get-more b.vectors (bits ∷ []) k x g);
        headers = rest.1.headers;
      },
      subst (λ k. slice_get rest.0.vectors k ≡ Some bits) there rest.2,
    )

-- ---- constants

record Registers (n : ℕ) : Type 0 where
  size : is_register_size (n / 8) ≡ true
  bits : constant_bits (n / 8) ≡ n
  most : n ≤ 512

register-is : (n : ℕ) → list_any (nat_eq n) (128 ∷ 256 ∷ 512 ∷ []) ≡ true → Registers n
register-is n h = elim (or_cases (nat_eq n 128) _ h) [
  | inl t ↦ at 128 t (record { size = refl; bits = refl; most = lit≤ tt })
  | inr a ↦ elim (or_cases (nat_eq n 256) _ a) [
    | inl t ↦ at 256 t (record { size = refl; bits = refl; most = lit≤ tt })
    | inr b ↦ elim (or_cases (nat_eq n 512) _ b) [
      | inl t ↦ at 512 t (record { size = refl; bits = refl; most = lit≤ tt })
      | inr c ↦ absurd (cc)
    ]
  ]
]
  where
    at : (m : ℕ) → nat_eq n m ≡ true → Registers m → Registers n
    at m t g = subst Registers (sym (eqb-true n m t)) g

are-bytes : (bs : List ℕ) → IsBytes bs → AllByRecursion (λ x. x < 256) bs
are-bytes [] h = tt
are-bytes (b ∷ bs) h = (h.0, are-bytes bs h.1)

constants-fit : (o : Operand) → Registers o.register → IsConstant (constant_bytes o) × (constant_bits (length (constant_bytes o)) ≡ o.register)
constants-fit o r =
    let long = length-bytes (o.register / 8) (constants_of o.slots) in
    (record { size = ap is_register_size long ∙ r.size; bytes = are-bytes (constant_bytes o) (IsBytes-bytes (o.register / 8) (constants_of o.slots)) }, ap constant_bits long ∙ r.bits)

-- ---- calls

some-all : {A B : Type 0} (f : A → B) (xs : List A) → map (λ x. Some (f x)) xs ≡ map Some (map f xs)
some-all f [] = refl
some-all f (x ∷ xs) = ap (λ l. Some (f x) ∷ l) (some-all f xs)

-- a call of a description on registers of the widths of its parameters keeps the rules
pub call-fits : (headers : List Header) (b : Before) (e : Description) (rs : List ℕ) → b.headers ≡ headers → HasHeader headers e → map (λ v. slice_get b.vectors v) rs ≡ map Some e.params → IsLine b (call_of e rs)
call-fits headers b e rs same has passed = (has.0, subst (λ hs. IsSomeAnd (header_of hs e.name) (λ h. IsCallOf b h rs e.imm e.register e.cost)) (sym same) (by (header_of headers e.name) has.1))
  where
    by : (o : Option Header) → IsSomeAnd o (IsCalled e) → IsSomeAnd o (λ h. IsCallOf b h rs e.imm e.register e.cost)
    by None h = h
    by (Some h) is = record { passed = passed ∙ ap (map Some) (sym is.params) ∙ sym (some-all (λ (q : Rattle.vg_pseudo.specs.declared.header.Param.Param). q.register) h.params); immediate = is.immediate; width = is.register; charge = is.cost }

-- ---- recipes

-- the registers of packs have their widths
held-widths : (j : Job) (d : Draft) (b : Before) (ks : List ℕ) → Typed j d b → AllHeld d ks → map (λ v. slice_get b.vectors v) (registers_of d ks) ≡ map Some (map (λ k. register_of j.descriptions j.ssa (pack_at j k)) ks)
held-widths j d b [] h held = refl
held-widths j d b (k ∷ ks) h held =
    let at : slice_get b.vectors (unwrap_or (found d.held k) 0) ≡ Some (register_of j.descriptions j.ssa (pack_at j k)) = ap (λ q. slice_get b.vectors (unwrap_or q 0)) held.0.1 ∙ h.held k held.0.0 held.0.1 in
    λ i. at i ∷ held-widths j d b ks h held.1 i

-- lines of a placed operand keep the rules, and its register has the operand's width
pub record Placed (j : Job) (b : Before) (o : ℕ) (ls : List Line) (d : Draft) (register : ℕ) (after : Before) : Type 0 where
  pub types : Types j b ls d after
  pub wide : slice_get after.vectors register ≡ Some (operand_at j o).register

-- one line that gives the register
new-register : (j : Job) (d : Draft) (b : Before) (o : ℕ) (l : Line) → Typed j d b
    → ((rest : List Line) → AreLines (more_vector b (operand_at j o).register) rest → AreLines b (l ∷ rest))
    → (after : Before) × Placed j b o (l ∷ []) (with_built (with_vectors d 1) o d.vectors) d.vectors after
new-register j d b o l h fit =
    let w = (operand_at j o).register in
    let c = more_vector b w in
    let there = get-last b.vectors d.vectors w h.vectors in
    (c, record { types = record { fit = fit; typed = typed-built j (with_vectors d 1) c o d.vectors (typed-vector j d b w h) there; grown = λ k x g. get-more b.vectors (w ∷ []) k x g; headers = refl }; wide = there })

place-types : (j : Job) (headers : List Header) (d : Draft) (b : Before) (o : ℕ) (way : Recipe) → AllByRecursion (HasHeader headers) j.descriptions → b.headers ≡ headers → Typed j d b → RecipeReady j d (operand_at j o) way → RecipeFits j (operand_at j o) way → TakesGiven j (operand_at j o) way
    → (after : Before) × Placed j b o (place j d o way).lines (place j d o way).draft (place j d o way).register after
place-types j headers d b o (recipe.Reuse k) described same h ready fits given =
    let at : slice_get b.vectors (unwrap_or (found d.held k) 0) ≡ Some (operand_at j o).register = ap (λ q. slice_get b.vectors (unwrap_or q 0)) ready.1 ∙ h.held k ready.0 ready.1 ∙ ap Some fits in
    (b, record { types = types-nothing j b (with_built d o (unwrap_or (found d.held k) 0)) (typed-built j d b o (unwrap_or (found d.held k) 0) h at); wide = at })
place-types j headers d b o (recipe.Constant bs) described same h ready fits given =
    new-register j d b o (line.Constant bs) h (λ rest x. (fits.0, subst (λ w. AreLines (more_vector b w) rest) (sym fits.1) x))
place-types j headers d b o (recipe.Shuffle e ks) described same h ready fits given =
    let desc = description_at j e in
    let has = listed (HasHeader headers) j.descriptions e no_description described fits.0 in
    let ok = call-fits headers b desc (registers_of d ks) same has (held-widths j d b ks h ready ∙ ap (map Some) fits.2) in
    new-register j d b o (call_of desc (registers_of d ks)) h (λ rest x. (ok, subst (λ w. AreLines (more_vector b w) rest) (sym fits.1) x))
place-types j headers d b o recipe.Inserts described same h ready fits given =
    let own = operand_at j o in
    let r = register-is own.register given.register in
    let w = own.register in
    let ss = value_slots own in
    let bs = constant_bytes own in
    let ok = constants-fit own r in
    let c = more_vector b w in
    let rest = inserts-types j (with_vectors d 1) c w d.vectors ss (typed-vector j d b w h) (get-last b.vectors d.vectors w h.vectors) refl ready (slots-fit j.ssa w 0 own.slots r.most given.slots) in
    let last = d.vectors + length ss in (
      rest.0,
      record {
        types = record {
          fit = λ others x. (ok.0, subst (λ k. AreLines (more_vector b k) (inserts j d w d.vectors ss ++ others)) (sym ok.1) (rest.1.fit others x));
          typed = typed-built j (with_vectors (with_vectors d 1) (length ss)) rest.0 o last rest.1.typed rest.2;
          grown = λ k x g. rest.1.grown k x (get-more b.vectors (w ∷ []) k x g);
          headers = rest.1.headers;
        };
        wide = rest.2;
      },
    )

build-types : (j : Job) (headers : List Header) (d : Draft) (b : Before) (o : ℕ) → AreFit j headers → IsPlanned j → o < length j.operands → b.headers ≡ headers → Typed j d b → Ready j d o
    → (after : Before) × Placed j b o (build j d o).lines (build j d o).draft (build j d o).register after
build-types j headers d b o fit planned low same h ready = by (found d.built o) refl
  where
    by : (q : Option ℕ) → found d.built o ≡ q → (after : Before) × Placed j b o (place_once j d o q).lines (place_once j d o q).draft (place_once j d o q).register after
    by None e = place-types j headers d b o (recipe_at j o) fit.described same h ready (fit.recipes o low) (planned.recipes o low)
    by (Some r) e = (b, record { types = types-nothing j b d h; wide = h.built o r e })

-- the registers of all operands have their widths
pub record AllPlaced (j : Job) (b : Before) (os : List ℕ) (ls : List Line) (d : Draft) (registers : List ℕ) (after : Before) : Type 0 where
  pub types : Types j b ls d after
  pub wide : map (λ v. slice_get after.vectors v) registers ≡ map Some (map (λ (o : Operand). o.register) (map (operand_at j) os))

pub builds-types : (j : Job) (headers : List Header) (d : Draft) (b : Before) (os : List ℕ) → AreFit j headers → IsPlanned j → AllByRecursion (λ o. o < length j.operands) os → b.headers ≡ headers → Typed j d b → AllReady j d os
    → (after : Before) × AllPlaced j b os (build_all j d os).lines (build_all j d os).draft (build_all j d os).registers after
builds-types j headers d b [] fit planned low same h ready = (b, record { types = types-nothing j b d h; wide = refl })
builds-types j headers d b (o ∷ os) fit planned low same h ready =
    let first = build-types j headers d b o fit planned low.0 same h ready.0 in
    let one = first.1 in
    let keeps = build-keeps j d o (found d.built o) (recipe_at j o) refl in
    let e = (build j d o).draft in
    let rest = builds-types j headers e first.0 os fit planned low.1 (one.types.headers ∙ same) one.types.typed (all-kept j d e os keeps.0 keeps.1 ready.1) in
    let others = rest.1 in
    let here : slice_get rest.0.vectors (build j d o).register ≡ Some (operand_at j o).register = others.types.grown (build j d o).register (operand_at j o).register one.wide in (
      rest.0,
      record {
        types = types-then j b first.0 rest.0 (build j d o).lines (build_all j e os).lines e (build_all j e os).draft one.types others.types;
        wide = λ i. here i ∷ others.wide i;
      },
    )
