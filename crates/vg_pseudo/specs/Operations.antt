-- Reading a whole operation from left to right, with the first fault that is met.
use Rattle.std.specs.Prelude.{ℕ, suc, ◌+◌, max, Bool, true, false, List, [], ◌∷◌, ◌++◌, length, zero, Option, Some, None, Result, Ok, Err, nat_eq, codes, if◌then◌else◌}
use Rattle.vg_base.specs.Bind.{◌>>=◌}
use Rattle.vg_text.specs.Words.{Reading}
use Rattle.vg_pseudo.specs.declared.definitions.Callee.{Callee}
use Rattle.vg_pseudo.specs.declared.operation.DefineParam.{DefineParam}
use Rattle.vg_pseudo.specs.declared.fault.PseudoFault.{PseudoFault}
use Rattle.vg_pseudo.specs.declared.fault.PseudoFault.TheVariants.{Shape}
use Rattle.vg_pseudo.specs.Tree.{Define, Operation}
use Rattle.vg_pseudo.specs.Definitions.{Known, Context, with_callee}
use Rattle.vg_pseudo.specs.Words.{number_of}
use Rattle.vg_pseudo.specs.Reader.{next_at, expect_at, accept_at, name_at, number_at, items_behind, unread}
use Rattle.vg_pseudo.specs.Expressions.{whole_at}
use Rattle.vg_pseudo.specs.Statements.{statements_at}

-- the number 0
abbrev pub zero_at : Reading → Result (ℕ × Reading) PseudoFault
zero_at r = next_at r >>= λ w. if is_zero (number_of w.0.bytes) then Ok (0, w.1) else Err (Shape w.0.place)
  where
    is_zero : Option ℕ → Bool
    is_zero (Some n) = nat_eq n 0
    is_zero None = false

-- `high:0]` after `name[`
unfoldable pub high_at : Reading → Result (ℕ × Reading) PseudoFault
high_at r = do
  high ← number_at r
  colon ← expect_at (codes ":") high.1
  low ← zero_at colon.1
  closed ← expect_at (codes "]") low.1
  Ok (high.0, closed.1)

-- a parameter: `name`, or `name[high:0]`
unfoldable pub param_at : Reading → Result (DefineParam × Reading) PseudoFault
param_at r = do
  name ← name_at r
  opened ← accept_at (codes "[") name.1
  if opened.0 then (high_at opened.1 >>= λ high. Ok (record { name = name.0.bytes; high = Some high.0 }, high.1))
      else Ok (record { name = name.0.bytes; high = None }, opened.1)

-- parameters after `(`, up to `)`
unfoldable pub params_at : Reading → Result (List DefineParam × Reading) PseudoFault
params_at r = do
  first ← param_at r
  all ← items_behind (accept_at (codes ",")) param_at (first.0 ∷ []) first.1
  closed ← expect_at (codes ")") all.1
  Ok (all.0, closed.1)

-- a DEFINE that was read, and its depth: one more than the greatest depth that it calls
pub record Defined : Type 0 where
  pub define : Define
  pub depth : ℕ

-- a DEFINE after its first word
unfoldable pub define_at : Context → Reading → Result (Defined × Reading) PseudoFault
define_at context r = do
  name ← name_at r
  opened ← expect_at (codes "(") name.1
  params ← params_at opened.1
  begun ← expect_at (codes "{") params.1
  body ← statements_at context begun.1
  word ← expect_at (codes "RETURN") body.1
  answer ← whole_at context word.1
  closed ← expect_at (codes "}") answer.1
  Ok (
    record {
      define =
          record { name = name.0.bytes; params = params.0; body = body.0.statements; answer = answer.0.expression };
      depth = max body.0.calls answer.0.calls + 1;
    },
    closed.1,
  )

-- what is known of a DEFINE
abbrev pub callee : Defined → Callee
callee d = record { arity = length d.define.params; depth = d.depth }

-- DEFINEs that were read, and what is known of them
pub record Defines : Type 0 where
  pub defines : List Define
  pub known : List Known

-- and one more
abbrev pub and_define : Defines → Defined → Defines
and_define done d = record {
  defines = done.defines ++ d.define ∷ [];
  known = with_callee done.known d.define.name (callee d);
}

-- DEFINEs after those that are done, as long as one follows; one has a word or more, so that `room` never runs
-- out where it is greater than the number of words left
unfoldable pub defines_from : ℕ → Defines → Reading → Result (Defines × Reading) PseudoFault
defines_from zero done r = Ok (done, r)
defines_from (suc room) done r = do
  word ← accept_at (codes "DEFINE") r
  if word.0 then (define_at (record { known = done.known; inside = true }) word.1 >>= λ d. defines_from room (and_define done d.0) d.1)
      else Ok (done, word.1)

-- all DEFINEs of an operation
abbrev pub defines_at : Reading → Result (Defines × Reading) PseudoFault
defines_at r = defines_from (suc (unread r)) (record { defines = []; known = [] }) r

-- an operation, up to the END after it
unfoldable pub operation_at : Reading → Result (Operation × Reading) PseudoFault
operation_at r = do
  defines ← defines_at r
  body ← statements_at (record { known = defines.0.known; inside = false }) defines.1
  closed ← expect_at (codes "END") body.1
  Ok (record { defines = defines.0.defines; body = body.0.statements }, closed.1)
