-- What may be moved: offsets stay in their range, and names have numbers of 32 bits.
use Rattle.std.specs.Prelude.{ℕ, ◌+◌, ◌<◌, ◌^◌, List, [], ◌∷◌}
use Rattle.vg_base.specs.Offset.{IsOffset}
use Rattle.vg_kernel.specs.Tree.{Expression, argument, assigned, literal, load, two, shift, resize, compare, select, Statement, assign, store}
use Rattle.vg_loop_laws.specs.Unrolled.{moved_address}

abbrev pub MayMove : List ℕ → ℕ → ℕ → Expression → Type 0
MayMove steps u names (argument k w) = Unit {0}
MayMove steps u names (assigned k t) = names + k < 2 ^ 32
MayMove steps u names (literal w n) = Unit {0}
MayMove steps u names (load w a) = IsOffset (moved_address steps u a).offset
MayMove steps u names (two op w x y) = MayMove steps u names x × MayMove steps u names y
MayMove steps u names (shift op w k x) = MayMove steps u names x
MayMove steps u names (resize op w v x) = MayMove steps u names x
MayMove steps u names (compare op w x y) = MayMove steps u names x × MayMove steps u names y
MayMove steps u names (select w c x y) =
    MayMove steps u names c × MayMove steps u names x × MayMove steps u names y

-- an operator of two or three operands
abbrev pub JoinsOperands : Expression → Type 0
JoinsOperands (two op w x y) = Unit {0}
JoinsOperands (compare op w x y) = Unit {0}
JoinsOperands (select w c x y) = Unit {0}
JoinsOperands e = ⊥

abbrev pub StatementMayMove : List ℕ → ℕ → ℕ → Statement → Type 0
StatementMayMove steps u names (assign e) = MayMove steps u names e
StatementMayMove steps u names (store w a e) =
    IsOffset (moved_address steps u a).offset × MayMove steps u names e

abbrev pub MayAllMove : List ℕ → ℕ → ℕ → List Statement → Type 0
MayAllMove steps u names [] = Unit {0}
MayAllMove steps u names (s ∷ ss) = StatementMayMove steps u names s × MayAllMove steps u names ss
