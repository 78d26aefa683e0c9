-- How many events each label has, as the code counts them.
use Rattle.std.specs.Prelude.{◌≡◌, ℕ, List, ◌++◌}
use Rattle.vg_paired.specs.declared.tally.Tally.{Tally}
use Rattle.vg_paired.specs.Balances.{number_of}
use Rattle.vg_events.specs.Events.{Label}
use Rattle.vg_events.specs.Ranks.{count_label}

abbrev pub count_in : Tally → Label → ℕ
count_in t l = number_of t.numbers l

-- these events were counted
abbrev pub Counts : List Label → Tally → Type 0
Counts ls t = (l : Label) → count_in t l ≡ count_label l ls

-- these are counted, too
abbrev pub Adds : Tally → Tally → List Label → Type 0
Adds old new more = (done : List Label) → Counts done old → Counts (done ++ more) new
