-- What units ask for, the last first.
use Rattle.std.proofs.Common.{◌≡◌, ℕ, zero, suc, ◌+◌, ◌-◌, ◌<◌, ◌≤◌, List, [], ◌∷◌, length, take, get_or, None, sym, ap, ◌∙◌, arith}
use Rattle.std.specs.List.{AllByRecursion}
use Rattle.vg_base.specs.declared.width.Width.{Width}
use Rattle.vg_rewrite.specs.declared.asked.Asked.{Asked}
use Rattle.vg_rewrite.specs.Narrowed.{ask_params, ask_unit, ask_units, ask_value}
use Rattle.vg_rewrite.specs.Readable.{UnitIsNarrowed}
use Rattle.vg_rewrite.proofs.Words.{unit-narrowed}
use Rattle.vg_shapes.specs.declared.ssa.Ssa.{Ssa}
use Rattle.vg_shapes.specs.declared.ssa_unit.SsaUnit.{SsaUnit}
use Rattle.vg_shapes.specs.Sound.{IsSound, IsUnit}
use Rattle.vg_spans.specs.declared.span.Span.{Span}

last : (spans : List Span) (v k : ℕ) (us : List SsaUnit) (d : SsaUnit) (all : List Asked) → k < length us
    → ask_units spans v (take (suc k) us) all ≡ ask_units spans v (take k us) (ask_unit spans (v + k) (get_or us k d) all)
last spans v k [] d all l = absurd (omega arith)
last spans v zero (u ∷ us) d all l = ap (λ n. ask_unit spans n u all) (let e : v ≡ v + 0 = omega arith in e)
last spans v (suc k) (u ∷ us) d all l =
    let past : v + 1 + k ≡ v + suc k = omega arith in
    ap (ask_unit spans v u) (last spans (v + 1) k us d all (omega arith) ∙ ap (λ n. ask_units spans (v + 1) (take k us) (ask_unit spans n (get_or us k d) all)) past)

pub ask-step : (spans : List Span) (v left : ℕ) (us : List SsaUnit) (d : SsaUnit) (all new whole : List Asked) → 0 < left → left ≤ length us
    → new ≡ ask_unit spans (v + (left - 1)) (get_or us (left - 1) d) all → ask_units spans v (take left us) all ≡ whole
    → ask_units spans v (take (left - 1) us) new ≡ whole
ask-step spans v left us d all new whole some inside is before =
    let next : suc (left - 1) ≡ left = omega arith in
    ap (ask_units spans v (take (left - 1) us)) is ∙ sym (last spans v (left - 1) us d all (omega arith)) ∙ ap (λ n. ask_units spans v (take n us) all) next ∙ before

last-param : (spans : List Span) (v k : ℕ) (ws : List Width) (d : Width) (all : List Asked) → k < length ws
    → ask_params spans v (take (suc k) ws) all ≡ ask_params spans v (take k ws) (ask_value spans (v + k) None (get_or ws k d) all)
last-param spans v k [] d all l = absurd (omega arith)
last-param spans v zero (w ∷ ws) d all l = ap (λ n. ask_value spans n None w all) (let e : v ≡ v + 0 = omega arith in e)
last-param spans v (suc k) (w ∷ ws) d all l =
    let past : v + 1 + k ≡ v + suc k = omega arith in
    ap (ask_value spans v None w) (last-param spans (v + 1) k ws d all (omega arith) ∙ ap (λ n. ask_params spans (v + 1) (take k ws) (ask_value spans n None (get_or ws k d) all)) past)

pub ask-step_param : (spans : List Span) (left : ℕ) (ws : List Width) (d : Width) (all new whole : List Asked) → 0 < left → left ≤ length ws
    → new ≡ ask_value spans (left - 1) None (get_or ws (left - 1) d) all → ask_params spans 0 (take left ws) all ≡ whole
    → ask_params spans 0 (take (left - 1) ws) new ≡ whole
ask-step_param spans left ws d all new whole some inside is before =
    let next : suc (left - 1) ≡ left = omega arith in
    let here : left - 1 ≡ 0 + (left - 1) = omega arith in
    ap (ask_params spans 0 (take (left - 1) ws)) (is ∙ ap (λ n. ask_value spans n None (get_or ws (left - 1) d) all) here)
    ∙ sym (last-param spans 0 (left - 1) ws d all (omega arith)) ∙ ap (λ n. ask_params spans 0 (take n ws) all) next ∙ before

pub all-at : {X : Type 0} (P : X → Type 0) (xs : List X) (k : ℕ) (d : X) → AllByRecursion P xs → k < length xs → P (get_or xs k d)
all-at P [] k d h l = absurd (omega arith)
all-at P (x ∷ xs) zero d h l = h.0
all-at P (x ∷ xs) (suc k) d h l = all-at P xs k d h.1 (omega arith)

all-map : {X : Type 0} (P Q : X → Type 0) (xs : List X) → ((x : X) → P x → Q x) → AllByRecursion P xs → AllByRecursion Q xs
all-map P Q [] f h = tt
all-map P Q (x ∷ xs) f h = (f x h.0, all-map P Q xs f h.1)

pub all-narrowed : (ssa : Ssa) → IsSound ssa → AllByRecursion UnitIsNarrowed ssa.units
all-narrowed ssa sound = all-map (IsUnit ssa) UnitIsNarrowed ssa.units (unit-narrowed ssa) sound.units
