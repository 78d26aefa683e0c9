-- How many statements write to memory.
use Rattle.std.specs.Prelude.{ℕ, ◌+◌, List, [], ◌∷◌}
use Rattle.vg_kernel.specs.Tree.{Statement, assign, store}

abbrev pub stores_in : List Statement → ℕ
stores_in [] = 0
stores_in (assign e ∷ ss) = stores_in ss
stores_in (store w a e ∷ ss) = stores_in ss + 1
