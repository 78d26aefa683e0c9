-- Laws on events: runs are steps of events, equal counts pair events, orders of lines.
use Rattle.std.specs.Prelude.{◌≡◌, ℕ, false, List, length, slice_index, Option, Some}
use Rattle.vg_bits.specs.BitList.{IsBytes}
use Rattle.vg_shapes.specs.declared.access.Access.{Access}
use Rattle.vg_shapes.specs.declared.ssa.Ssa.{Ssa}
use Rattle.vg_shapes.specs.declared.ssa_unit.SsaUnit.{SsaUnit}
use Rattle.vg_shapes.specs.Layout.{noalias_flags, Respects}
use Rattle.vg_shapes.specs.Order.{numbers_from}
use Rattle.vg_shapes.specs.RunUnits.{Reached, run_units, start_of}
use Rattle.vg_shapes.specs.Sound.{TakeEarlier}
use Rattle.vg_order_laws.specs.Sequence.{run_steps}
use Rattle.vg_events.specs.Events.{kernel_labels, Label, labels, unit_labels}
use Rattle.vg_events.specs.Orders.{LinesInOrder}
use Rattle.vg_events.specs.Pairs.{AreEvents, ArePaired, joined}
use Rattle.vg_events.specs.Ranks.{by_rank, SameCounts}
use Rattle.vg_events.specs.Steps.{all_bytes, event_step}
use Rattle.vg_events.specs.UnitOrder.{is_out_of_order}

-- a run of units that is done is the steps of its events, by the bytes that the values then have
abbrev pub RunsAreEvents : Type 0
RunsAreEvents =
    (places memory args : List ℕ) (us : List SsaUnit) (t : Reached) →
    IsBytes memory → TakeEarlier (length args) us →
    run_units places us (start_of memory args) ≡ Some t →
    run_steps
    (event_step places (unit_labels us) (slice_index (all_bytes (slice_index t.numbers) (length args) us)))
    (numbers_from 0 (length (unit_labels us))) memory
    ≡ Some t.memory

-- where each label has as many events on both sides, the pairing by rank names each event once, with its
-- label
pub record RanksPair (ls : List Label) (xs : List (Option Access)) : Type 0 where
  pub paired : ArePaired ls xs (by_rank ls xs)
  pub once : AreEvents ls (joined (by_rank ls xs))

abbrev pub EqualCountsPair : Type 0
EqualCountsPair =
    (ls : List Label) (xs : List (Option Access)) → SameCounts ls (labels xs) → RanksPair ls xs

-- events of lines in order step as the kernel's do, in each layout that respects noalias, whatever their
-- bytes are
abbrev pub OrdersStep : Type 0
OrdersStep =
    (ssa : Ssa) (places : List ℕ) (byte : ℕ → ℕ) (lines : List (List ℕ)) →
    Respects ssa places → AreEvents (kernel_labels ssa) (joined lines) →
    LinesInOrder (noalias_flags ssa) (kernel_labels ssa) lines → (memory : List ℕ) →
    run_steps (event_step places (kernel_labels ssa) byte) (joined lines) memory
    ≡ run_steps (event_step places (kernel_labels ssa) byte)
    (numbers_from 0 (length (kernel_labels ssa))) memory

-- where no two units are out of order, lines are in order by events
abbrev pub UnitOrderIsByEvents : Type 0
UnitOrderIsByEvents =
    (ssa : Ssa) (lines : List (List ℕ)) → AreEvents (kernel_labels ssa) (joined lines) →
    ((v w : ℕ) → is_out_of_order ssa lines v w ≡ false) →
    LinesInOrder (noalias_flags ssa) (kernel_labels ssa) lines

-- and where they are in order by events, no two units are out of order
abbrev pub EventOrderIsByUnits : Type 0
EventOrderIsByUnits =
    (ssa : Ssa) (lines : List (List ℕ)) → AreEvents (kernel_labels ssa) (joined lines) →
    LinesInOrder (noalias_flags ssa) (kernel_labels ssa) lines →
    (v w : ℕ) → is_out_of_order ssa lines v w ≡ false
