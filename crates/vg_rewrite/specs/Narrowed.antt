-- Narrowed units: each number is made in the widths that are asked of it.
use Rattle.std.specs.Prelude.{ℕ, ◌+◌, Bool, true, false, List, [], ◌∷◌, ◌++◌, length, replicate, set, Option, Some, None, slice_index_or, if◌then◌else◌}
use Rattle.vg_base.specs.Bits.{signed_at}
use Rattle.vg_base.specs.Number.{residue}
use Rattle.vg_base.specs.declared.address.Address.{Address}
use Rattle.vg_base.specs.declared.width.Width.{Width}
use Rattle.vg_base.specs.declared.width.Width.TheVariants.{W8, W16, W32, W64}
use Rattle.vg_base.specs.Width.{bits_of}
use Rattle.vg_rewrite.specs.declared.asked.Asked.{Asked}
use Rattle.vg_rewrite.specs.declared.form.Form.{Form}
use Rattle.vg_rewrite.specs.declared.form.Form.TheVariants.{Own, Zero, Same, Whole, Cut}
use Rattle.vg_rewrite.specs.declared.form.Made.{Made}
use Rattle.vg_rewrite.specs.declared.standing.Standing.{Standing}
use Rattle.vg_rewrite.specs.Form.{alone, operation_form, value_form}
use Rattle.vg_rewrite.specs.Laws.{is_choice}
use Rattle.vg_scalar.specs.declared.resize.Resize.TheVariants.{Trunc}
use Rattle.vg_shapes.specs.declared.ssa.Ssa.{Ssa}
use Rattle.vg_shapes.specs.declared.ssa_unit.Operands.{Operands}
use Rattle.vg_shapes.specs.declared.ssa_unit.Operator.{Operator}
use Rattle.vg_shapes.specs.declared.ssa_unit.Operator.TheVariants.{Two, Shift, Resize, Compare, Select}
use Rattle.vg_shapes.specs.declared.ssa_unit.SsaUnit.{SsaUnit}
use Rattle.vg_shapes.specs.declared.ssa_unit.SsaUnit.TheVariants.{Load, Store, Operation}
use Rattle.vg_shapes.specs.declared.wanted.Wanted.{Wanted}
use Rattle.vg_shapes.specs.declared.wanted.Wanted.TheVariants.{Value, Constant, Nothing}
use Rattle.vg_spans.specs.declared.span.Span.{Span}
use Rattle.vg_spans.specs.Spans.{spans_of}
use Rattle.vg_ssa.specs.OfUnits.{widths_of}

-- ---- what is asked for

-- at no width
abbrev pub unasked : Asked
unasked = record { bit = false; at_8 = false; at_16 = false; at_32 = false; at_64 = false }

abbrev pub is_asked : Asked → Width → Bool
is_asked a W8 = a.at_8
is_asked a W16 = a.at_16
is_asked a W32 = a.at_32
is_asked a W64 = a.at_64

abbrev pub and_asked : Width → Asked → Asked
and_asked W8 a = record a { at_8 = true }
and_asked W16 a = record a { at_16 = true }
and_asked W32 a = record a { at_32 = true }
and_asked W64 a = record a { at_64 = true }

abbrev pub with_bit : Asked → Asked
with_bit a = record a { bit = true }

-- what is asked of the values of all numbers
abbrev pub asked_at : List Asked → ℕ → Asked
asked_at all v = slice_index_or all v unasked

-- an operand's form is asked for at a width; of a constant nothing is
abbrev pub ask : Width → Wanted → List Asked → List Asked
ask w (Value v) all = set all v (and_asked w (asked_at all v))
ask w (Constant m n) all = all
ask w Nothing all = all

abbrev pub ask_bit : Wanted → List Asked → List Asked
ask_bit (Value v) all = set all v (with_bit (asked_at all v))
ask_bit (Constant m n) all = all
ask_bit Nothing all = all

-- a first operand is asked for; the condition of a choice as a bit
abbrev pub ask_first : Operator → Width → Wanted → List Asked → List Asked
ask_first op w x all = if is_choice op then ask_bit x all else ask w x all

-- what a form asks for
abbrev pub ask_made : Made → List Asked → List Asked
ask_made m all =
    ask_first m.op m.asked m.operands.first
    (ask m.asked m.operands.second (ask m.asked m.operands.third all))

abbrev pub ask_form : Width → Form → List Asked → List Asked
ask_form w Own all = all
ask_form w Zero all = all
ask_form w (Same x) all = ask w x all
ask_form w (Whole m) all = ask_made m all
ask_form w (Cut m) all = ask_made m all

-- the same of a value's form at a width, where it is asked for
abbrev pub ask_at : List Span → ℕ → Option SsaUnit → Width → Width → List Asked → List Asked
ask_at spans v unit own w all =
    if is_asked (asked_at all v) w then ask_form w (value_form spans v unit own w) all else all

-- at all widths: one width asks for the same value at lesser ones alone
abbrev pub ask_value : List Span → ℕ → Option SsaUnit → Width → List Asked → List Asked
ask_value spans v unit own all =
    ask_at spans v unit own W8
    (ask_at spans v unit own W16
    (ask_at spans v unit own W32 (ask_at spans v unit own W64 all)))

abbrev pub ask_operation : List Span → ℕ → Operator → Width → ℕ → Operands → List Asked → List Asked
ask_operation spans v (Two op) own k xs all =
    ask_value spans v (Some (Operation (Two op) own k xs)) own all
ask_operation spans v (Shift op) own k xs all =
    ask_value spans v (Some (Operation (Shift op) own k xs)) own all
ask_operation spans v (Resize op from) own k xs all =
    ask_value spans v (Some (Operation (Resize op from) own k xs)) own all
ask_operation spans v (Compare op) own k xs all =
    if (asked_at all v).bit then ask_form W8 (operation_form spans (Compare op) own k xs W8) all
    else all
ask_operation spans v Select own k xs all =
    ask_value spans v (Some (Operation Select own k xs)) own all

-- what the unit of a number asks for, where this is asked by those after it
abbrev pub ask_unit : List Span → ℕ → SsaUnit → List Asked → List Asked
ask_unit spans v (Load a w) all = ask_value spans v (Some (Load a w)) w all
ask_unit spans v (Store a w x) all = ask w x all
ask_unit spans v (Operation op w k xs) all = ask_operation spans v op w k xs all

-- units from this number on, the last first
abbrev pub ask_units : List Span → ℕ → List SsaUnit → List Asked → List Asked
ask_units spans v [] all = all
ask_units spans v (u ∷ us) all = ask_unit spans v u (ask_units spans (v + 1) us all)

-- parameters from this number on
abbrev pub ask_params : List Span → ℕ → List Width → List Asked → List Asked
ask_params spans v [] all = all
ask_params spans v (w ∷ ws) all =
    ask_value spans v None w (ask_params spans (v + 1) ws all)

-- what is asked of each value, of parameters of these widths and of units, where they have these spans
abbrev pub asked_over : List Span → List Width → List SsaUnit → List Asked
asked_over spans ws us =
    ask_params spans 0 ws
    (ask_units spans (length ws) us (replicate (length ws + length us) unasked))

abbrev pub asked_of : Ssa → List Asked
asked_of ssa = asked_over (spans_of ssa) (widths_of ssa.params) ssa.units

-- ---- what is made

-- at no width
abbrev pub nowhere : Standing
nowhere = record { bit = Nothing; at_8 = Nothing; at_16 = Nothing; at_32 = Nothing; at_64 = Nothing }

abbrev pub made_at : Standing → Width → Wanted
made_at g W8 = g.at_8
made_at g W16 = g.at_16
made_at g W32 = g.at_32
made_at g W64 = g.at_64

abbrev pub and_made : Width → Wanted → Standing → Standing
and_made W8 x g = record g { at_8 = x }
and_made W16 x g = record g { at_16 = x }
and_made W32 x g = record g { at_32 = x }
and_made W64 x g = record g { at_64 = x }

abbrev pub and_bit_made : Wanted → Standing → Standing
and_bit_made x g = record g { bit = x }

-- the number of the first unit, the units so far, and for each value what stands for its forms
pub record Narrowing : Type 0 where
  pub first : ℕ
  pub units : List SsaUnit
  pub made : List Standing

-- a unit more, and its value
abbrev pub put : SsaUnit → Narrowing → Narrowing
put u g = record g { units = g.units ++ u ∷ [] }

abbrev pub next_value : Narrowing → Wanted
next_value g = Value (g.first + length g.units)

-- what stands for the form of an operand at a width; that of a constant is a constant
abbrev pub have : Narrowing → Width → Wanted → Wanted
have g w (Value v) = made_at (slice_index_or g.made v nowhere) w
have g w (Constant m n) = Constant (bits_of w) (residue (bits_of w) (signed_at m n))
have g w Nothing = Nothing

abbrev pub have_bit : Narrowing → Wanted → Wanted
have_bit g (Value v) = (slice_index_or g.made v nowhere).bit
have_bit g (Constant m n) = Constant m n
have_bit g Nothing = Nothing

-- what stands for the first operand of an operation
abbrev pub have_first : Narrowing → Operator → Width → Wanted → Wanted
have_first g op w x = if is_choice op then have_bit g x else have g w x

-- the unit of forms
abbrev pub made_unit : Narrowing → Made → SsaUnit
made_unit g m =
    Operation m.op m.width m.amount
    (record {
      first = have_first g m.op m.asked m.operands.first;
      second = have g m.asked m.operands.second;
      third = have g m.asked m.operands.third;
    })

-- what makes a form, and what stands for it
pub record Formed : Type 0 where
  pub after : Narrowing
  pub value : Wanted

abbrev pub formed : Narrowing → SsaUnit → Formed
formed g u = record { after = put u g; value = next_value g }

-- the low bits of a value of a greater width
abbrev pub cut_unit : Wanted → Width → Width → SsaUnit
cut_unit x from w = Operation (Resize Trunc from) w 0 (alone x)

-- a form of a value, which is this where it is the value itself
abbrev pub make_form : Narrowing → Wanted → Width → Form → Formed
make_form g own w Own = record { after = g; value = own }
make_form g own w Zero = record { after = g; value = Constant (bits_of w) 0 }
make_form g own w (Same x) = record { after = g; value = have g w x }
make_form g own w (Whole m) = formed g (made_unit g m)
make_form g own w (Cut m) =
    let part = formed g (made_unit g m) in
    formed part.after (cut_unit part.value m.width w)

-- the form of the value of a number at a width
abbrev pub record_form : ℕ → Width → Formed → Narrowing
record_form v w f =
    record f.after {
      made = set f.after.made v (and_made w f.value (slice_index_or f.after.made v nowhere));
    }

-- the same where it is asked for
abbrev pub make_at : List Span → List Asked → ℕ → Option SsaUnit → Wanted → Width → Width → Narrowing → Narrowing
make_at spans all v unit value own w g =
    if is_asked (asked_at all v) w
    then record_form v w (make_form g value w (value_form spans v unit own w))
    else g

-- at each width that is asked for, rising
abbrev pub make_value : List Span → List Asked → ℕ → Option SsaUnit → Wanted → Width → Narrowing → Narrowing
make_value spans all v unit value own g =
    make_at spans all v unit value own W64
    (make_at spans all v unit value own W32
    (make_at spans all v unit value own W16 (make_at spans all v unit value own W8 g)))

-- a value more, and what stands for its forms
abbrev pub with_standing : Standing → Narrowing → Narrowing
with_standing x g = record g { made = g.made ++ x ∷ [] }

-- a value that stands itself has a place for its forms, and is its own
abbrev pub stand : Width → Wanted → Narrowing → Narrowing
stand own value g = with_standing (and_made own value nowhere) g

abbrev pub no_value : Narrowing → Narrowing
no_value g = with_standing nowhere g

-- a comparison where it is asked for
abbrev pub record_bit : ℕ → Formed → Narrowing
record_bit v f =
    record f.after {
      made = set f.after.made v (and_bit_made f.value (slice_index_or f.after.made v nowhere));
    }

abbrev pub make_operation : List Span → List Asked → ℕ → Operator → Width → ℕ → Operands → Narrowing → Narrowing
make_operation spans all v (Two op) own k xs g =
    make_value spans all v (Some (Operation (Two op) own k xs)) Nothing own (no_value g)
make_operation spans all v (Shift op) own k xs g =
    make_value spans all v (Some (Operation (Shift op) own k xs)) Nothing own (no_value g)
make_operation spans all v (Resize op from) own k xs g =
    make_value spans all v (Some (Operation (Resize op from) own k xs)) Nothing own (no_value g)
make_operation spans all v (Compare op) own k xs g =
    if (asked_at all v).bit
    then record_bit v
    (make_form (no_value g) Nothing W8 (operation_form spans (Compare op) own k xs W8))
    else no_value g
make_operation spans all v Select own k xs g =
    make_value spans all v (Some (Operation Select own k xs)) Nothing own (no_value g)

-- a load gives itself, then its forms
abbrev pub make_load : List Span → List Asked → ℕ → Address → Width → Narrowing → Narrowing
make_load spans all v a w g =
    make_value spans all v (Some (Load a w)) (next_value g) w
    (stand w (next_value g) (put (Load a w) g))

-- a store stores the form of its operand
abbrev pub make_store : Address → Width → Wanted → Narrowing → Narrowing
make_store a w x g = no_value (put (Store a w (have g w x)) g)

-- a load and a store stand, once, in their order
abbrev pub make_unit : List Span → List Asked → ℕ → SsaUnit → Narrowing → Narrowing
make_unit spans all v (Load a w) g = make_load spans all v a w g
make_unit spans all v (Store a w x) g = make_store a w x g
make_unit spans all v (Operation op w k xs) g = make_operation spans all v op w k xs g

-- units from this number on
abbrev pub make_units : List Span → List Asked → ℕ → List SsaUnit → Narrowing → Narrowing
make_units spans all v [] g = g
make_units spans all v (u ∷ us) g =
    make_units spans all (v + 1) us (make_unit spans all v u g)

-- a parameter stands for itself
abbrev pub make_param : List Span → List Asked → ℕ → Width → Narrowing → Narrowing
make_param spans all v w g = make_value spans all v None (Value v) w (stand w (Value v) g)

-- parameters from this number on
abbrev pub make_params : List Span → List Asked → ℕ → List Width → Narrowing → Narrowing
make_params spans all v [] g = g
make_params spans all v (w ∷ ws) g =
    make_params spans all (v + 1) ws (make_param spans all v w g)

-- the units that make what is asked of each value, of parameters of these widths and of units
abbrev pub made_over : List Span → List Asked → List Width → List SsaUnit → List SsaUnit
made_over spans all ws us =
    (make_units spans all (length ws) us
    (make_params spans all 0 ws (record { first = length ws; units = []; made = [] }))).units

-- the units that make what stores ask for, each number in the widths that are asked of it
abbrev pub narrowed_units : Ssa → List SsaUnit
narrowed_units ssa = made_over (spans_of ssa) (asked_of ssa) (widths_of ssa.params) ssa.units
