-- Marks of a pack that is tried after a plan.
use Rattle.std.specs.Prelude.{◌≡◌, ℕ, length}
use Rattle.vg_cost.specs.declared.tried_marks.TriedMarks.{TriedMarks}

-- so many marks of each kind
pub record AreMarksFor (count : ℕ) (tried : TriedMarks) : Type 0 where
  pub longer : length tried.longer.items ≡ count
  pub own : length tried.own.items ≡ count
  pub counts : length tried.counts.items ≡ count
  pub changed : length tried.changed.items ≡ count
