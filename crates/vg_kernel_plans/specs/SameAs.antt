-- Tests that tell packs and operands apart.
use Rattle.std.specs.Prelude.{ℕ, Bool, true, false, ◌&&◌, Option, Some, None, nat_eq}
use Rattle.std.specs.Cmp.Lexicographic.{pointwise}
use Rattle.vg_shapes.specs.declared.operand.Operand.{Operand}
use Rattle.vg_shapes.specs.declared.operand.Slot.{Slot}
use Rattle.vg_shapes.specs.declared.pack.Pack.{Pack}
use Rattle.vg_shapes.specs.declared.pack.Pack.TheVariants.{Stores, Loads, Call}
use Rattle.vg_shapes.specs.Wanted.{same_wanted}

abbrev pub same_slot : Slot → Slot → Bool
same_slot a b = nat_eq a.low b.low && (nat_eq a.width b.width && same_wanted a.wanted b.wanted)

abbrev pub same_operand : Operand → Operand → Bool
same_operand a b = nat_eq a.register b.register && pointwise same_slot a.slots b.slots

abbrev pub same_lane : Option ℕ → Option ℕ → Bool
same_lane (Some v) (Some u) = nat_eq v u
same_lane None None = true
same_lane _ _ = false

abbrev pub same_pack : Pack → Pack → Bool
same_pack (Stores us) (Stores vs) = pointwise nat_eq us vs
same_pack (Loads us) (Loads vs) = pointwise nat_eq us vs
same_pack (Call d ls) (Call e ms) = nat_eq d e && pointwise same_lane ls ms
same_pack _ _ = false
