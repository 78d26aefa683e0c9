-- What is promised of a handle.
use Rattle.std.specs.Prelude.{◌≡◌, ℕ, Bool, List, Option, Some, Ok, if◌then◌else◌}
use Rattle.std.specs.Option.{IfSome}
use Rattle.vg_library.specs.declared.library.Library.{Library}
use Rattle.vg_library.specs.Kept.{entries_kept, set_kept}
use Rattle.vg_top.specs.declared.task.Task.{Task}
use Rattle.vg_top.specs.declared.task.Task.TheVariants.{Program, Guarded}
use Rattle.vg_answers.specs.Told.{entries_told}

-- the entries that are told of the text, and the set of extensions whose entries may be called
pub record KeepsTold (extensions : ℕ) (text : List ℕ) (l : Library) : Type 0 where
  pub entries : entries_told extensions text ≡ Ok (entries_kept l)
  pub set : set_kept l ≡ extensions

abbrev pub KeepsWhatIsTold : ℕ → List ℕ → Option Library → Type 0
KeepsWhatIsTold extensions text kept = IfSome kept (KeepsTold extensions text)

-- with guards or without
abbrev pub task_of : Bool → Task
task_of guard = if guard then Guarded else Program
