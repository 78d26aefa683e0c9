-- One unit after the other, from the last down.
use Rattle.std.proofs.Common.{◌≡◌, ℕ, zero, suc, ◌+◌, ◌<◌, ◌≤◌, Bool, false, List, [], ◌∷◌, ◌++◌, length, get_or, refl, sym, ◌∙◌, ap, subst, inl, inr, arith, add_assoc, Some, None}
use Rattle.std.specs.Prelude.{◌&&◌, ◌||◌, not, filter, flat_map, nat_eq, if◌then◌else◌, Option}
use Rattle.std.specs.Option.{is_some}
use Rattle.std.specs.Result.{IfOk}
use Rattle.std.specs.declared.result.Result.{Result}
use Rattle.std.specs.declared.result.Result.TheVariants.{Ok, Err}
use Rattle.std.specs.declared.alloc.AllocError.{AllocError}
use Rattle.std.specs.List.{list_any}
use Rattle.std.proofs.lemmas.Bool.{cases_Bool}
use Rattle.std.proofs.lemmas.List.Folds.{list_any-append}
use Rattle.vg_plans.specs.World.{is_in, is_packed, scalar_lines}
use Rattle.vg_shapes.specs.declared.pack.Pack.{Pack}
use Rattle.vg_shapes.specs.declared.ssa.Ssa.{Ssa}
use Rattle.vg_shapes.specs.declared.ssa_unit.SsaUnit.{SsaUnit}
use Rattle.vg_shapes.specs.Depends.{numbers_below}
use Rattle.vg_shapes.specs.Layout.{access_of}
use Rattle.vg_shapes.specs.Pack.{units_of}
use Rattle.vg_shapes.specs.Units.{arguments, is_unit, unit_at}
use Rattle.vg_kernel_plans.specs.Packing.{falling_units, packing, used_by}
use Rattle.vg_cost.specs.Lines.{Costs, Lines, line_of, values_of}
use Rattle.vg_cost.specs.Marks.{Has, Marked}

-- a number is among the units of packs where a pack has it
pub packed_by : (v : ℕ) (plan : List Pack) → is_in v (flat_map units_of plan) ≡ list_any (λ p. is_in v (units_of p)) plan
packed_by v [] = refl
packed_by v (p ∷ plan) =
    list_any-append (nat_eq v) (units_of p) (flat_map units_of plan)
    ∙ ap (λ t. is_in v (units_of p) || t) (packed_by v plan)

-- what the units below a number are worth, given what is packed and needed
abbrev rest : Ssa → List Pack → List ℕ → ℕ → ℕ
rest ssa plan needed n = scalar_lines (packing [] [] ssa []) plan needed (filter (is_unit ssa) (numbers_below n))

abbrev by_case : List Pack → Ssa → List ℕ → ℕ → Option SsaUnit → Bool → Bool → ℕ
by_case plan ssa needed v None packed here = rest ssa plan needed v
by_case plan ssa needed v (Some u) packed here =
    if not packed && (is_some (access_of u) || here) then 1 + rest ssa plan (used_by (Some u) ++ needed) v
    else if packed && here then 1 + rest ssa plan needed v
    else rest ssa plan needed v

at_case : (plan : List Pack) (ssa : Ssa) (needed : List ℕ) (v : ℕ) (unit : Option SsaUnit) (packed here : Bool)
    → by_case plan ssa needed v unit packed here ≡ line_of unit packed here + rest ssa plan (values_of unit packed here ++ needed) v
at_case plan ssa needed v None packed here = omega arith
at_case plan ssa needed v (Some u) packed here =
    elim (cases_Bool (not packed && (is_some (access_of u) || here))) [
      | inl t ↦ rw t refl
      | inr f ↦ rw f (elim (cases_Bool (packed && here)) [ inl t ↦ rw t refl | inr g ↦ rw g (omega arith) ])
    ]

opened : (plan : List Pack) (ssa : Ssa) (needed : List ℕ) (v : ℕ) (unit : Option SsaUnit) → unit_at ssa v ≡ unit
    → rest ssa plan needed (suc v)
    ≡ by_case plan ssa needed v unit (is_packed (packing [] [] ssa []) plan v) (is_in v needed)
opened plan ssa needed v None e = rw e refl
opened plan ssa needed v (Some u) e = rw e (rw e refl)

-- what is left with one unit more
pub step : (plan : List Pack) (ssa : Ssa) (needed : List ℕ) (v : ℕ)
    → rest ssa plan needed (suc v)
    ≡ line_of (unit_at ssa v) (is_packed (packing [] [] ssa []) plan v) (is_in v needed)
    + rest ssa plan (values_of (unit_at ssa v) (is_packed (packing [] [] ssa []) plan v) (is_in v needed) ++ needed) v
step plan ssa needed v = opened plan ssa needed v (unit_at ssa v) refl ∙ at_case plan ssa needed v (unit_at ssa v) _ _

-- the lines so far and those of the units that are left, for all packs and values with the marks
pub record Walked (ssa : Ssa) (packed start marks : List Bool) (end left lines : ℕ) : Type 0 where
  pub inside : left ≤ end
  pub long : length marks ≡ end
  pub rest : (plan : List Pack) (needed : List ℕ)
      → Has end (flat_map units_of plan) packed → Has end needed start
      → (more : List ℕ) × Has end more marks
      × (lines + scalar_lines (packing [] [] ssa []) plan more (filter (is_unit ssa) (numbers_below left))
      ≡ scalar_lines (packing [] [] ssa []) plan needed (filter (is_unit ssa) (numbers_below end)))

pub begins : (ssa : Ssa) (packed start : List Bool) (end : ℕ) → length start ≡ end → Walked ssa packed start start end end 0
begins ssa packed start end long = record {
  inside = omega arith;
  long = long;
  rest = λ plan needed p n. (needed, n, omega arith);
}

pub ends : (ssa : Ssa) (packed start marks : List Bool) (end left lines : ℕ) → left ≤ 0 → Walked ssa packed start marks end left lines → Lines ssa packed start end lines
ends ssa packed start marks end zero lines z w = λ plan needed p n. let r = w.rest plan needed p n in let e = r.2 in omega (arith, e)
ends ssa packed start marks end (suc left) lines z w = absurd (omega arith)

has-more : (end : ℕ) (used more : List ℕ) (marks new : List Bool) → Has end more marks → Marked used marks new → Has end (used ++ more) new
has-more end used more marks new h m = record {
  long = m.long ∙ h.long;
  each = λ v lt.
      let inside : v < length marks = let l = h.long in omega arith in
      m.each v inside ∙ ap (λ t. is_in v used || t) (h.each v lt) ∙ sym (list_any-append (nat_eq v) used more);
}

pub goes_on : (ssa : Ssa) (packed start marks new : List Bool) (end left v lines line next : ℕ) (is_packed_now is_needed : Bool) (unit : Option SsaUnit)
    → unit ≡ unit_at ssa v → left ≡ v + 1 → Walked ssa packed start marks end left lines
    → is_packed_now ≡ get_or packed v false → is_needed ≡ get_or marks v false
    → line ≡ line_of unit is_packed_now is_needed
    → Marked (values_of unit is_packed_now is_needed) marks new
    → next ≡ lines + line
    → Walked ssa packed start new end v next
goes_on ssa packed start marks new end left v lines line next is_packed_now is_needed unit eu el w ep en e marked f =
    let m : Marked (values_of (unit_at ssa v) is_packed_now is_needed) marks new =
    subst (λ u. Marked (values_of u is_packed_now is_needed) marks new) eu marked in
    record {
      inside = let i = w.inside in omega arith;
      long = m.long ∙ w.long;
      rest = λ plan needed p n.
          let r = w.rest plan needed p n in
          let more = r.0 in
          let inside : v < end = let i = w.inside in omega arith in
          let here : is_in v more ≡ is_needed = sym (en ∙ r.1.each v inside) in
          let there : is_packed (packing [] [] ssa []) plan v ≡ is_packed_now = sym (ep ∙ p.each v inside ∙ packed_by v plan) in
          let used = values_of (unit_at ssa v) is_packed_now is_needed in
          let one : rest ssa plan more (suc v) ≡ line + rest ssa plan (used ++ more) v =
          step plan ssa more v
          ∙ ap (λ b. line_of (unit_at ssa v) b (is_in v more) + rest ssa plan (values_of (unit_at ssa v) b (is_in v more) ++ more) v) there
          ∙ ap (λ b. line_of (unit_at ssa v) is_packed_now b + rest ssa plan (values_of (unit_at ssa v) is_packed_now b ++ more) v) here
          ∙ ap (λ k. k + rest ssa plan (used ++ more) v) (sym (e ∙ ap (λ u. line_of u is_packed_now is_needed) eu))
          in
          let same : left ≡ suc v = omega arith in
          let before = r.2 in
          let moved : rest ssa plan more left ≡ line + rest ssa plan (used ++ more) v = ap (λ k. rest ssa plan more k) same ∙ one in (
            used ++ more,
            has-more end used more marks new r.1 m,
            ap (λ k. k + rest ssa plan (used ++ more) v) f ∙ add_assoc lines line (rest ssa plan (used ++ more) v)
                ∙ sym (ap (λ k. lines + k) moved) ∙ before,
          );
    }

-- the lines of marks are those of the packs and values that have them
pub by_marks : (ssa : Ssa) (plan : List Pack) (needed : List ℕ) (packed marks : List Bool) (end : ℕ) (result : Result ℕ AllocError)
    → end ≡ arguments ssa + length ssa.units → Has end (flat_map units_of plan) packed → Has end needed marks
    → IfOk result (λ c. Lines ssa packed marks end c)
    → IfOk result (λ c. c ≡ scalar_lines (packing [] [] ssa []) plan needed (falling_units ssa))
by_marks ssa plan needed packed marks end (Ok c) e p n lines =
    lines plan needed p n ∙ ap (λ k. scalar_lines (packing [] [] ssa []) plan needed (filter (is_unit ssa) (numbers_below k))) e
by_marks ssa plan needed packed marks end (Err f) e p n lines = lines

-- what a plan costs by the lines of its marks
pub by_lines : (ssa : Ssa) (packed marks : List Bool) (price recipes before lines end : ℕ) (result : Result ℕ AllocError)
    → end ≡ arguments ssa + length ssa.units → before ≡ price + recipes → Lines ssa packed marks end lines
    → IfOk result (λ c. c ≡ before + lines) → IfOk result (Costs ssa packed marks price recipes)
by_lines ssa packed marks price recipes before lines end (Ok c) e b l s = λ plan needed p n.
    s ∙ ap (λ t. t + lines) b
    ∙ ap (λ t. price + recipes + t) (l plan needed (subst (λ k. Has k (flat_map units_of plan) packed) (sym e) p)
    (subst (λ k. Has k needed marks) (sym e) n)
    ∙ ap (λ k. scalar_lines (packing [] [] ssa []) plan needed (filter (is_unit ssa) (numbers_below k))) e)
by_lines ssa packed marks price recipes before lines end (Err f) e b l s = s
