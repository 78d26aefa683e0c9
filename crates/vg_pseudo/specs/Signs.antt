-- Which expressions are read as signed, and with them which locals: a local that is a register is
-- signed where some assignment to it has a signed right side, and that is shown in finitely many
-- steps. The name of a number variable is unsigned.
use Rattle.std.specs.Prelude.{ℕ, zero, suc, Bool, true, false, not, ◌&&◌, ◌||◌, List, IsTrue}
use Rattle.std.specs.List.{list_any}
use Rattle.std.specs.Str.{bytes_eq}
use Rattle.vg_pseudo.specs.declared.operators.UnaryOp.{UnaryOp}
use Rattle.vg_pseudo.specs.declared.operators.UnaryOp.TheVariants.{Not, Negate, Absolute, Signed, SignExtend, Saturate}
use Rattle.vg_pseudo.specs.declared.operators.BinaryOp.{BinaryOp}
use Rattle.vg_pseudo.specs.declared.operators.BinaryOp.TheVariants.{Equal, NotEqual, Less, LessOrEqual, Greater, GreaterOrEqual}
use Rattle.vg_pseudo.specs.Tree.{Expression, number, name, slice, bit, element, part, unary, binary, choice, call}
use Rattle.vg_pseudo.specs.Names.{Assignment, Register, has_name}

-- of which names the slices and elements are signed, and of which the bare name and `name.elem`
pub record Signs : Type 0 where
  pub slices : List ℕ → Bool
  pub whole : List ℕ → Bool

-- a function of one operand whose result is signed whatever it is given, and one whose result is as
-- its operand
abbrev pub gives_signed : UnaryOp → Bool
gives_signed Signed = true
gives_signed (SignExtend w) = true
gives_signed (Saturate w) = true
gives_signed _ = false

abbrev pub keeps_sign : UnaryOp → Bool
keeps_sign Not = true
keeps_sign Negate = true
keeps_sign Absolute = true
keeps_sign _ = false

-- an operator that is no comparison
abbrev pub joins_signs : BinaryOp → Bool
joins_signs Equal = false
joins_signs NotEqual = false
joins_signs Less = false
joins_signs LessOrEqual = false
joins_signs Greater = false
joins_signs GreaterOrEqual = false
joins_signs _ = true

-- whether an expression is signed where FORs over these variables stand around it
abbrev pub is_signed : Signs → List (List ℕ) → Expression → Bool
is_signed s ts (number at n) = false
is_signed s ts (name at n) = not (has_name ts n) && s.whole n
is_signed s ts (slice at n h l) = not (has_name ts n) && s.slices n
is_signed s ts (bit at n k) = false
is_signed s ts (element at n w k) = not (has_name ts n) && s.slices n
is_signed s ts (part at n w) = not (has_name ts n) && s.whole n
is_signed s ts (unary at op x) = gives_signed op || keeps_sign op && is_signed s ts x
is_signed s ts (binary at op x y) = joins_signs op && (is_signed s ts x || is_signed s ts y)
is_signed s ts (choice at c x y) = is_signed s ts x || is_signed s ts y
is_signed s ts (call at n xs) = false

-- a name among registers that are read as signed
abbrev pub is_signed_register : (Register → Bool) → List Register → List ℕ → Bool
is_signed_register signed rs n = list_any (λ r. bytes_eq r.name n && signed r) rs

-- Whether a name is shown to be signed in at most so many steps: a register that is given, or a
-- local by an assignment whose right side is signed in one step less. The assignments are those to
-- locals that are registers.
abbrev pub signed_in : List Register → List Assignment → ℕ → List ℕ → Bool
signed_in given as' zero n = is_signed_register (λ r. r.signed_whole) given n
signed_in given as' (suc k) n =
    is_signed_register (λ r. r.signed_whole) given n
    || list_any (λ a. bytes_eq a.name n && is_signed (record {
      slices = is_signed_register (λ r. r.signed_slices) given;
      whole = signed_in given as' k;
    }) a.turns a.value) as'

-- What is signed is shown so in finitely many steps. As many as there are assignments decide it, by
-- the law `signs_are_decided` of vg_names.
abbrev pub IsSigned : List Register → List Assignment → List ℕ → Type 0
IsSigned given as' n = (k : ℕ) × IsTrue (signed_in given as' k n)
