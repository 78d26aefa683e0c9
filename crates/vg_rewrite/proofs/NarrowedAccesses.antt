-- Narrowed units make the accesses of the given ones, in their order.
use Rattle.std.proofs.Common.{◌≡◌, ℕ, ◌+◌, Bool, true, false, List, [], ◌∷◌, ◌++◌, Option, Some, None, refl, sym, ap, ◌∙◌, append_assoc, append-nil}
use Rattle.std.specs.Prelude.{length, if◌then◌else◌}
use Rattle.std.specs.List.{filter_map}
use Rattle.std.proofs.lemmas.List.Elements.{filter_map-append}
use Rattle.vg_base.specs.declared.width.Width.{Width}
use Rattle.vg_base.specs.declared.width.Width.TheVariants.{W8, W16, W32, W64}
use Rattle.vg_rewrite.specs.declared.asked.Asked.{Asked}
use Rattle.vg_rewrite.specs.declared.form.Form.{Form}
use Rattle.vg_rewrite.specs.declared.form.Form.TheVariants.{Own, Zero, Same, Whole, Cut}
use Rattle.vg_rewrite.specs.Form.{operation_form, value_form}
use Rattle.vg_rewrite.specs.Narrowed.{asked_at, asked_of, formed, have, is_asked, made_unit, make_at, make_form, make_operation, make_param, make_params, make_unit, make_units, make_value, Narrowing, narrowed_units, next_value, no_value, put, record_bit, record_form, stand}
use Rattle.vg_scalar.specs.declared.resize.Resize.TheVariants.{Trunc}
use Rattle.vg_shapes.specs.declared.access.Access.{Access}
use Rattle.vg_shapes.specs.declared.ssa.Ssa.{Ssa}
use Rattle.vg_shapes.specs.declared.ssa_unit.Operands.{Operands}
use Rattle.vg_shapes.specs.declared.ssa_unit.Operator.{Operator}
use Rattle.vg_shapes.specs.declared.ssa_unit.Operator.TheVariants.{Two, Shift, Resize, Compare, Select}
use Rattle.vg_shapes.specs.declared.ssa_unit.SsaUnit.{SsaUnit}
use Rattle.vg_shapes.specs.declared.ssa_unit.SsaUnit.TheVariants.{Load, Store, Operation}
use Rattle.vg_shapes.specs.declared.wanted.Wanted.{Wanted}
use Rattle.vg_shapes.specs.declared.wanted.Wanted.TheVariants.{Value, Nothing}
use Rattle.vg_shapes.specs.Layout.{access_of}
use Rattle.vg_spans.specs.declared.span.Span.{Span}
use Rattle.vg_spans.specs.Spans.{spans_of}
use Rattle.vg_ssa.specs.OfUnits.{widths_of}

abbrev pub accessed : List SsaUnit → List Access
accessed us = filter_map access_of us

if-same : {A : Type 0} (P : A → Type 0) (b : Bool) (x y : A) → P x → P y → P (if b then x else y)
if-same P true x y h k = h
if-same P false x y h k = k

module _ (spans : List Span) (all : List Asked) where
  -- as many accesses as before
  abbrev Keeps : Narrowing → Narrowing → Type 0
  Keeps g h = accessed h.units ≡ accessed g.units

  put-operation : (g : Narrowing) (op : Operator) (w : Width) (k : ℕ) (xs : Operands) → Keeps g (put (Operation op w k xs) g)
  put-operation g op w k xs = filter_map-append access_of g.units (Operation op w k xs ∷ []) ∙ append-nil (accessed g.units)

  form-same : (g : Narrowing) (own : Wanted) (w : Width) (f : Form) → Keeps g (make_form g own w f).after
  form-same g own w Own = refl
  form-same g own w Zero = refl
  form-same g own w (Same x) = refl
  form-same g own w (Whole m) = put-operation g m.op m.width m.amount _
  form-same g own w (Cut m) = put-operation (formed g (made_unit g m)).after (Resize Trunc m.width) w 0 _ ∙ put-operation g m.op m.width m.amount _

  at-same : (v : ℕ) (u : Option SsaUnit) (value : Wanted) (own w : Width) (g : Narrowing) → Keeps g (make_at spans all v u value own w g)
  at-same v u value own w g =
      if-same (λ h. Keeps g h) (is_asked (asked_at all v) w) (record_form v w (make_form g value w (value_form spans v u own w))) g (form-same g value w (value_form spans v u own w)) refl

  value-same : (v : ℕ) (u : Option SsaUnit) (value : Wanted) (own : Width) (g : Narrowing) → Keeps g (make_value spans all v u value own g)
  value-same v u value own g =
      let a = make_at spans all v u value own W8 g in
      let b = make_at spans all v u value own W16 a in
      let c = make_at spans all v u value own W32 b in
      at-same v u value own W64 c ∙ at-same v u value own W32 b ∙ at-same v u value own W16 a ∙ at-same v u value own W8 g

  operation-same : (v : ℕ) (op : Operator) (own : Width) (k : ℕ) (xs : Operands) (g : Narrowing) → Keeps g (make_operation spans all v op own k xs g)
  operation-same v (Two op) own k xs g = value-same v (Some (Operation (Two op) own k xs)) Nothing own (no_value g)
  operation-same v (Shift op) own k xs g = value-same v (Some (Operation (Shift op) own k xs)) Nothing own (no_value g)
  operation-same v (Resize op from) own k xs g = value-same v (Some (Operation (Resize op from) own k xs)) Nothing own (no_value g)
  operation-same v (Compare op) own k xs g =
      if-same (λ h. Keeps g h) (asked_at all v).bit (record_bit v (make_form (no_value g) Nothing W8 (operation_form spans (Compare op) own k xs W8))) (no_value g) (form-same (no_value g) Nothing W8 (operation_form spans (Compare op) own k xs W8)) refl
  operation-same v Select own k xs g = value-same v (Some (Operation Select own k xs)) Nothing own (no_value g)

  -- the access of a unit more
  unit-more : (v : ℕ) (u : SsaUnit) (g : Narrowing) → accessed (make_unit spans all v u g).units ≡ accessed g.units ++ accessed (u ∷ [])
  unit-more v (Load a w) g = value-same v (Some (Load a w)) (next_value g) w (stand w (next_value g) (put (Load a w) g)) ∙ filter_map-append access_of g.units (Load a w ∷ [])
  unit-more v (Store a w x) g = filter_map-append access_of g.units (Store a w (have g w x) ∷ [])
  unit-more v (Operation op own k xs) g = operation-same v op own k xs g ∙ sym (append-nil (accessed g.units))

  units-more : (v : ℕ) (us : List SsaUnit) (g : Narrowing) → accessed (make_units spans all v us g).units ≡ accessed g.units ++ accessed us
  units-more v [] g = sym (append-nil (accessed g.units))
  units-more v (u ∷ us) g =
      units-more (v + 1) us (make_unit spans all v u g) ∙ ap (λ l. l ++ accessed us) (unit-more v u g) ∙ append_assoc (accessed g.units) (accessed (u ∷ [])) (accessed us)
      ∙ ap (λ l. accessed g.units ++ l) (sym (filter_map-append access_of (u ∷ []) us))

  params-same : (v : ℕ) (ws : List Width) (g : Narrowing) → Keeps g (make_params spans all v ws g)
  params-same v [] g = refl
  params-same v (w ∷ ws) g = params-same (v + 1) ws (make_param spans all v w g) ∙ value-same v None (Value v) w (stand w (Value v) g)

pub narrowed-accesses : (ssa : Ssa) → accessed (narrowed_units ssa) ≡ accessed ssa.units
narrowed-accesses ssa =
    let ws = widths_of ssa.params in
    let g : Narrowing = record { first = length ws; units = []; made = [] } in
    units-more (spans_of ssa) (asked_of ssa) (length ws) ssa.units (make_params (spans_of ssa) (asked_of ssa) 0 ws g)
    ∙ ap (λ l. l ++ accessed ssa.units) (params-same (spans_of ssa) (asked_of ssa) 0 ws g)
