-- What a `Handle` owns: nothing, or the same as a `Box<Library>`.
use Rattle.std.specs.Prelude.{ℕ}
use base.Fml.{Fml, ftrue}
use base.Stored.{Coded}
use denote.RawPtr.{Ptr}
use Rattle.std.specs.declared.option.Option.{Option}
use Rattle.std.specs.declared.option.Option.TheVariants.{None, Some}
use Rattle.std.specs.Coded.{coded_option}
use Rattle.std.specs.Box.Ownership.{box_owns}
use Rattle.std.specs.Global.{Global}
use Rattle.std_heap.specs.contracts.GlobalAllocator.TheImpl.{ghosts}
use mir.Syntax.{Ty}
use Rattle.vg_library.specs.contracts.library.Library.{the_row}

-- the right to free a block
abbrev pub may_free : Ty → Ptr → Fml
may_free = ghosts.dealloc_token (record { memory = record { seal = tt } })

-- 1 for a value, 0 for none
abbrev pub flag_of : {X : Type 0} → Option X → ℕ
flag_of None = 0
flag_of (Some x) = 1

abbrev pub handle_owns : Ptr → Option the_row.Denot → Fml
handle_owns p None = ftrue
handle_owns p (Some x) = box_owns may_free the_row p x

abbrev pub kept_coded : Coded (Option the_row.Denot)
kept_coded = coded_option the_row.coded
