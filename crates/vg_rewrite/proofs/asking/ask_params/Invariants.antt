use Rattle.std.proofs.Common.{◌≡◌, ◌≤◌, length, take}
use Rattle.vg_rewrite.specs.Narrowed.{ask_params}
use Rattle.vg_rewrite.proofs.asking.ask_params.Given as goal

-- what the parameters in front ask for beside what is asked so far is all
abbrev pub invariant-widths : goal.invariant-widths
invariant-widths l = record {
  inside : l.left ≤ length l.widths;
  same : ask_params l.spans 0 (take l.left l.widths) l.all ≡ ask_params l.spans 0 l.widths l.initial.all;
}

abbrev pub decreases-widths : goal.decreases-widths
decreases-widths l = l.left
