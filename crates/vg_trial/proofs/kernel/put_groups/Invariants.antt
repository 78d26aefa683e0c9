-- so many groups were appended
use Rattle.std.proofs.Common.{◌≡◌, ◌++◌}
use Rattle.vg_trial.specs.Trial.{groups_text}
use Rattle.vg_trial.proofs.kernel.put_groups.Given as goal

abbrev pub invariant-groups : goal.invariant-groups
invariant-groups l = l.text.items ≡ l.initial.text.items ++ groups_text l.number l.k
