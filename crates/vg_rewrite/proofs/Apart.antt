-- Rewritten units stand for the kernels for which the given ones stand, where noalias is kept.
use Rattle.std.proofs.Common.{◌≡◌, ◌↔◌, ℕ, Bool, true, false, List, [], ◌∷◌, Option, Some, None, Result, Ok, Err, IfOk, refl, sym, ap, ◌∙◌, subst}
use Rattle.std.specs.Prelude.{◌||◌, Contains, filter, if◌then◌else◌}
use Rattle.std.specs.List.{AllByRecursion, filter_map}
use Rattle.vg_bits.specs.BitList.{IsBytes}
use Rattle.vg_rewrite.specs.Narrowed.{narrowed_units}
use Rattle.vg_rewrite.specs.Renumbering.{AreTyped}
use Rattle.vg_rewrite.specs.Repeated.{repeated_units}
use Rattle.vg_rewrite.specs.Rewritten.{are_few, IsRenumbered, KeepsFitting, KeepsKernels, over, RewrittenUnitsRunAlike, StandingIsApart}
use Rattle.vg_rewrite.specs.Running.{memory_behind}
use Rattle.vg_rewrite.proofs.FromTypes.{over-typed}
use Rattle.vg_rewrite.proofs.NarrowedAccesses.{narrowed-accesses}
use Rattle.vg_rewrite.proofs.NarrowedLaw.{narrowed-units_run_alike}
use Rattle.vg_rewrite.proofs.NarrowedTypes.{narrowed-typed}
use Rattle.vg_rewrite.proofs.RepeatedAccesses.{all-accesses, repeated-accesses}
use Rattle.vg_rewrite.proofs.RepeatedRuns.{repeated-alike, repeated-units_run_alike}
use Rattle.vg_shapes.specs.declared.access.Access.{Access}
use Rattle.vg_shapes.specs.declared.ssa.Ssa.{Ssa}
use Rattle.vg_shapes.specs.declared.ssa.SsaParam.{SsaParam}
use Rattle.vg_shapes.specs.declared.ssa_unit.SsaUnit.{SsaUnit}
use Rattle.vg_shapes.specs.Layout.{access_of, accesses, is_noalias, noalias_flags, noalias_of, Respects}
use Rattle.vg_shapes.specs.Sound.{AreArguments, IsSound}
use Rattle.vg_shapes.specs.Units.{integers, integers_of}
use Rattle.vg_spans.proofs.Runs.{arguments-long}

pub standing-is_apart : StandingIsApart
standing-is_apart k ssa h = record {
  runs = λ memory places args are_bytes fit respects. h.runs memory places args (arguments-long (integers ssa) args fit);
  layouts = h.layouts;
}

-- values with the same parameters and fewer accesses respect noalias in more layouts
fewer-respect : (a b : Ssa) (places : List ℕ) → a.params ≡ b.params → ((x : Access) → Contains (accesses b) x → Contains (accesses a) x) → Respects a places → Respects b places
fewer-respect a b places same f respects x y cx cy bound =
    let flags : noalias_flags a ≡ noalias_flags b = ap (filter_map (λ (p : SsaParam). noalias_of p.kind)) same in
    respects x y (f x cx) (f y cy) (bound.0, (ap (λ fs. is_noalias fs x || is_noalias fs y) flags ∙ bound.1), bound.2)

pub repeated-keeps : (ssa : Ssa) (answer : Option Ssa) → IsSound ssa → IsRenumbered ssa (repeated_units ssa) answer → KeepsKernels ssa answer
repeated-keeps ssa None sound is = tt
repeated-keeps ssa (Some new) sound is = λ k h. record {
  runs = λ memory places args are_bytes fit respects. (
      let given : AreArguments (integers ssa) args = subst (λ ps. AreArguments (integers_of ps) args) is.1.over fit in
      ap (λ us. memory_behind places us memory args) is.1.made_of
      ∙ repeated-units_run_alike ssa places memory args sound (arguments-long (integers ssa) args given) ((h.layouts places).0 respects)
      ∙ h.runs memory places args are_bytes given respects);
  layouts = λ places. (
    (λ respects. fewer-respect ssa new places (sym is.1.over) (λ x c. repeated-accesses ssa x (subst (λ us. Contains (filter_map access_of us) x) is.1.made_of c)) ((h.layouts places).0 respects)),
    (λ respects. (h.layouts places).1 (fewer-respect new ssa places is.1.over (λ x c. subst (λ us. Contains (filter_map access_of us) x) (sym is.1.made_of) (all-accesses ssa x c)) respects)),
  );
}

-- the answer of a call
pub repeated-keeps_kernels : {E : Type 0} (ssa : Ssa) (us : List SsaUnit) (r : Result (Option Ssa) E) → IsSound ssa → us ≡ repeated_units ssa → IfOk r (IsRenumbered ssa us) → IfOk r (KeepsKernels ssa)
repeated-keeps_kernels ssa us (Ok answer) sound same h = repeated-keeps ssa answer sound (subst (λ l. IsRenumbered ssa l answer) same h)
repeated-keeps_kernels ssa us (Err e) sound same h = h

-- ---- narrowed units

narrowed-respect : (ssa new : Ssa) (places : List ℕ) → new.params ≡ ssa.params → new.units ≡ narrowed_units ssa → Respects ssa places ↔ Respects new places
narrowed-respect ssa new places over made =
    let same : accesses new ≡ accesses ssa = ap (filter_map access_of) made ∙ narrowed-accesses ssa in
    ((λ respects. fewer-respect ssa new places (sym over) (λ x c. subst (λ l. Contains l x) same c) respects), (λ respects. fewer-respect new ssa places over (λ x c. subst (λ l. Contains l x) (sym same) c) respects))

narrowed-runs : (ssa new : Ssa) (places memory args : List ℕ) → IsSound ssa → new.params ≡ ssa.params → new.units ≡ narrowed_units ssa → IsBytes memory → AreArguments (integers new) args
    → memory_behind places new.units memory args ≡ memory_behind places ssa.units memory args
narrowed-runs ssa new places memory args sound over made are_bytes fit =
    ap (λ us. memory_behind places us memory args) made ∙ narrowed-units_run_alike ssa places memory args sound are_bytes (subst (λ ps. AreArguments (integers_of ps) args) over fit)

narrowed-keeps : (ssa : Ssa) (answer : Option Ssa) → IsSound ssa → IsRenumbered ssa (narrowed_units ssa) answer → KeepsKernels ssa answer
narrowed-keeps ssa None sound is = tt
narrowed-keeps ssa (Some new) sound is = λ k h. record {
  runs = λ memory places args are_bytes fit respects.
      narrowed-runs ssa new places memory args sound is.1.over is.1.made_of are_bytes fit ∙ h.runs memory places args are_bytes (subst (λ ps. AreArguments (integers_of ps) args) is.1.over fit) respects;
  layouts = λ places. (let r = narrowed-respect ssa new places is.1.over is.1.made_of in let l = h.layouts places in ((λ respects. r.0 (l.0 respects)), (λ respects. l.1 (r.1 respects))));
}

narrowed-fits : (ssa : Ssa) (answer : Option Ssa) → IsSound ssa → IsRenumbered ssa (narrowed_units ssa) answer → KeepsFitting ssa answer
narrowed-fits ssa None sound is = tt
narrowed-fits ssa (Some new) sound is = λ k h. record {
  runs = λ memory places args are_bytes fit.
      narrowed-runs ssa new places memory args sound is.1.over is.1.made_of are_bytes fit ∙ h.runs memory places args (arguments-long (integers ssa) args (subst (λ ps. AreArguments (integers_of ps) args) is.1.over fit));
  accesses = ap (filter_map access_of) is.1.made_of ∙ narrowed-accesses ssa ∙ h.accesses;
  layouts = λ places. (let r = narrowed-respect ssa new places is.1.over is.1.made_of in let l = h.layouts places in ((λ respects. r.0 (l.0 respects)), (λ respects. l.1 (r.1 respects))));
}

pub narrowed-keeps_kernels : {E : Type 0} (ssa : Ssa) (us : List SsaUnit) (r : Result (Option Ssa) E) → IsSound ssa → us ≡ narrowed_units ssa → IfOk r (IsRenumbered ssa us) → IfOk r (KeepsKernels ssa)
narrowed-keeps_kernels ssa us (Ok answer) sound same h = narrowed-keeps ssa answer sound (subst (λ l. IsRenumbered ssa l answer) same h)
narrowed-keeps_kernels ssa us (Err e) sound same h = h

pub narrowed-keeps_fitting : {E : Type 0} (ssa : Ssa) (us : List SsaUnit) (r : Result (Option Ssa) E) → IsSound ssa → us ≡ narrowed_units ssa → IfOk r (IsRenumbered ssa us) → IfOk r (KeepsFitting ssa)
narrowed-keeps_fitting ssa us (Ok answer) sound same h = narrowed-fits ssa answer sound (subst (λ l. IsRenumbered ssa l answer) same h)
narrowed-keeps_fitting ssa us (Err e) sound same h = h

-- ---- narrowed units that are repeated

-- the values between
abbrev pub between : Ssa → Ssa
between ssa = over ssa (narrowed_units ssa)

pub between-typed : (ssa : Ssa) → IsSound ssa → AreTyped (between ssa)
between-typed ssa sound = over-typed ssa (narrowed_units ssa) (narrowed-typed ssa sound).0

both-keep : (ssa : Ssa) (answer : Option Ssa) → IsSound ssa → IsRenumbered ssa (repeated_units (between ssa)) answer
    → KeepsKernels ssa answer
both-keep ssa None sound is = tt
both-keep ssa (Some new) sound is = λ k h. record {
  runs = λ memory places args are_bytes fit respects. (
      let given : AreArguments (integers ssa) args = subst (λ ps. AreArguments (integers_of ps) args) is.1.over fit in
      ap (λ us. memory_behind places us memory args) is.1.made_of
      ∙ repeated-alike (between ssa) places memory args (between-typed ssa sound).earlier
      (arguments-long (integers ssa) args given)
      ((narrowed-respect ssa (between ssa) places refl refl).0 ((h.layouts places).0 respects))
      ∙ narrowed-units_run_alike ssa places memory args sound are_bytes given
      ∙ h.runs memory places args are_bytes given respects);
  layouts = λ places. (
    (λ respects. fewer-respect (between ssa) new places (sym is.1.over)
        (λ x c. repeated-accesses (between ssa) x (subst (λ us. Contains (filter_map access_of us) x) is.1.made_of c))
        ((narrowed-respect ssa (between ssa) places refl refl).0 ((h.layouts places).0 respects))),
    (λ respects. (h.layouts places).1 ((narrowed-respect ssa (between ssa) places refl refl).1
        (fewer-respect new (between ssa) places is.1.over
        (λ x c. subst (λ us. Contains (filter_map access_of us) x) (sym is.1.made_of) (all-accesses (between ssa) x c))
        respects))),
  );
}

pub both-keep_kernels : {E : Type 0} (ssa : Ssa) (us : List SsaUnit) (r : Result (Option Ssa) E) → IsSound ssa
    → us ≡ repeated_units (between ssa) → IfOk r (IsRenumbered ssa us) → IfOk r (KeepsKernels ssa)
both-keep_kernels ssa us (Ok answer) sound same h =
    both-keep ssa answer sound (subst (λ l. IsRenumbered ssa l answer) same h)
both-keep_kernels ssa us (Err e) sound same h = h

-- ---- all lists

if-all : {A : Type 0} (P : A → Type 0) (b : Bool) (x : A) (xs : List A) → P x → AllByRecursion P xs → AllByRecursion P (if b then x ∷ xs else xs)
if-all P true x xs h rest = (h, rest)
if-all P false x xs h rest = rest

all-filtered : {A : Type 0} (P : A → Type 0) (p : A → Bool) (xs : List A) → AllByRecursion P xs → AllByRecursion P (filter p xs)
all-filtered P p [] h = tt
all-filtered P p (x ∷ xs) h = if-all P (p x) x (filter p xs) h.0 (all-filtered P p xs h.1)

pub rewritten-units_run_alike : RewrittenUnitsRunAlike
rewritten-units_run_alike ssa places memory args sound are_bytes fit respects =
    let P : List SsaUnit → Type 0 = λ us. memory_behind places us memory args ≡ memory_behind places ssa.units memory args in
    let long = arguments-long (integers ssa) args fit in
    let narrow = narrowed-units_run_alike ssa places memory args sound are_bytes fit in
    let new = over ssa (narrowed_units ssa) in
    let earlier = (between-typed ssa sound).earlier in
    all-filtered P are_few (ssa.units ∷ repeated_units ssa ∷ narrowed_units ssa ∷ repeated_units new ∷ [])
    (refl, (repeated-units_run_alike ssa places memory args sound long respects, (narrow, (repeated-alike new places memory args earlier long ((narrowed-respect ssa new places refl refl).0 respects) ∙ narrow, tt))))
