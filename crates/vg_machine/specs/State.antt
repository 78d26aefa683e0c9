-- Memory, scalars and registers as one state, and lines that can be run.
use Rattle.std.specs.Prelude.{◌≡◌, ℕ, ◌<◌, List, length, map}
use Rattle.vg_program.specs.declared.line.Line.{Line}
use Rattle.vg_program.specs.declared.line.Line.TheVariants.{Load, Store, Two, Shift, Resize, Compare, Select, VectorLoad, VectorStore, Constant, Insert, Extract, Call}
use Rattle.vg_program.specs.Before.{Before}
use Rattle.vg_program.specs.Vectors.{register_of}
use Rattle.vg_program.specs.Valid.{IsLane, IsConstant, AreLines}
use Rattle.vg_program.specs.Meaning.{State, register_bits}
use Rattle.vg_machine.specs.ReadyInstance.{Instances, DoesCall, ArePlanned}

abbrev pub state_of : List ℕ → List ℕ → List (List ℕ) → State
state_of memory scalars vectors =
    record { memory = memory; scalars = scalars; vectors = vectors }

-- a register that is there, of this many bits
pub record IsThere (vectors : List (List ℕ)) (v bits : ℕ) : Type 0 where
  pub within : v < length vectors
  pub long : length (register_bits vectors v) ≡ bits

-- a line whose registers are there, with the lanes that it names and what answers its call
abbrev pub IsRunnable : Instances → ℕ → Line → List (List ℕ) → Type 0
IsRunnable i place (Load w a) vs = Unit {0}
IsRunnable i place (Store w a v) vs = Unit {0}
IsRunnable i place (Two op w l r) vs = Unit {0}
IsRunnable i place (Shift op w v n) vs = Unit {0}
IsRunnable i place (Resize op w from v) vs = Unit {0}
IsRunnable i place (Compare op w l r) vs = Unit {0}
IsRunnable i place (Select w c x y) vs = Unit {0}
IsRunnable i place (VectorLoad z a) vs = Unit {0}
IsRunnable i place (VectorStore z a v) vs = IsThere vs v (register_of z)
IsRunnable i place (Constant bs) vs = IsConstant bs
IsRunnable i place (Insert v bits n w x) vs = IsThere vs v bits × IsLane bits w n
IsRunnable i place (Extract v n w) vs = (v < length vs) × IsLane (length (register_bits vs v)) w n
IsRunnable i place (Call name rs imm bits cost) vs = DoesCall i place name (length rs) imm bits

-- lines that keep the rules after these registers, the first of which has this number in the plan
pub record AreRunnable
    (i : Instances) (plan : List ℕ) (number : ℕ) (lines : List Line) (vectors : List (List ℕ))
    : Type 0 where
  pub before : Before
  pub widths : map length vectors ≡ before.vectors
  pub rules : AreLines before lines
  pub planned : ArePlanned i plan number lines

-- a line that reads or writes memory, whose registers are there
abbrev pub IsAccess : Line → List (List ℕ) → Type 0
IsAccess (Load w a) vs = Unit {0}
IsAccess (Store w a v) vs = Unit {0}
IsAccess (VectorLoad z a) vs = Unit {0}
IsAccess (VectorStore z a v) vs = IsThere vs v (register_of z)
IsAccess _ vs = ⊥

-- a line that gives a scalar of what is defined, whose registers are there
abbrev pub IsComputed : Line → List (List ℕ) → Type 0
IsComputed (Two op w l r) vs = Unit {0}
IsComputed (Shift op w v n) vs = Unit {0}
IsComputed (Resize op w from v) vs = Unit {0}
IsComputed (Compare op w l r) vs = Unit {0}
IsComputed (Select w c x y) vs = Unit {0}
IsComputed (Extract v n w) vs = (v < length vs) × IsLane (length (register_bits vs v)) w n
IsComputed _ vs = ⊥

-- a line that gives a register of what is defined, whose registers are there, with what answers it
abbrev pub IsMade : Instances → ℕ → Line → List (List ℕ) → Type 0
IsMade i place (Constant bs) vs = IsConstant bs
IsMade i place (Insert v bits n w x) vs = IsThere vs v bits × IsLane bits w n
IsMade i place (Call name rs imm bits cost) vs = DoesCall i place name (length rs) imm bits
IsMade i place _ vs = ⊥
