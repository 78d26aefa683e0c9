-- Reading statements from left to right, with the first fault that is met. Statements may nest 64 deep.
use Rattle.std.specs.Prelude.{ℕ, zero, suc, max, true, false, List, [], ◌∷◌, Result, Ok, Err, codes, if◌then◌else◌}
use Rattle.std.specs.Option.{option_map_or}
use Rattle.std.specs.Str.{bytes_eq}
use Rattle.vg_base.specs.Bind.{◌>>=◌}
use Rattle.vg_text.specs.declared.place.Place.{Place}
use Rattle.vg_text.specs.Words.{Reading, Spelled}
use Rattle.vg_pseudo.specs.declared.fault.PseudoFault.{PseudoFault}
use Rattle.vg_pseudo.specs.declared.fault.PseudoFault.TheVariants.{Shape, NestingTooDeep}
use Rattle.vg_pseudo.specs.Tree.{Expression, Statements, stop, assign, above, repeat, choose, way, last, pick, arm}
use Rattle.vg_pseudo.specs.Definitions.{Context}
use Rattle.vg_pseudo.specs.Words.{is_free, begins_statement, number_of}
use Rattle.vg_pseudo.specs.Reader.{next_at, expect_at, accept_at, name_at, number_at, Follows, items_behind}
use Rattle.vg_pseudo.specs.Expressions.{form_at, whole_at, own_index_at}

-- statements that were read, and the greatest depth of the DEFINEs that they call, where a DEFINE's body is read
pub record Block : Type 0 where
  pub statements : Statements
  pub calls : ℕ

-- one statement, way or arm, with these after it in place of its own
abbrev pub followed : Statements → Statements → Statements
followed (assign p t e s) rest = assign p t e rest
followed (above p n l e s) rest = above p n l e rest
followed (repeat p n a b s t) rest = repeat p n a b s rest
followed (choose w s) rest = choose w rest
followed (way c s w) rest = way c s rest
followed (pick e a s) rest = pick e a rest
followed (arm n s a) rest = arm n s rest
followed (last s) rest = last s
followed stop rest = stop

abbrev pub followed_by : Block → Block → Block
followed_by b rest = record {
  statements = followed b.statements rest.statements;
  calls = max b.calls rest.calls;
}

-- one after the other, with this after the last
unfoldable pub chained : List Block → Block → Block
chained [] rest = rest
chained (b ∷ bs) rest = followed_by b (chained bs rest)

-- the end of a list
abbrev pub nothing : Block
nothing = record { statements = stop; calls = 0 }

-- how the statements inside a statement are read
abbrev pub Body : Type 0
Body = Reading → Result (Block × Reading) PseudoFault

-- whether a statement follows
abbrev pub statement_follows : Follows
statement_follows r = next_at r >>= λ w. Ok (begins_statement w.0.bytes, r)

-- statements, as long as one follows
unfoldable pub block_at : Body → Reading → Result (Block × Reading) PseudoFault
block_at statement r = do
  all ← items_behind statement_follows statement [] r
  Ok (chained all.0 nothing, all.1)

-- `:= expression` after a target, which stands at this place
unfoldable pub assigned_at : Context → Place → Expression → Reading → Result (Block × Reading) PseudoFault
assigned_at context place target r = do
  sign ← expect_at (codes ":=") r
  value ← whole_at context sign.1
  Ok (record { statements = assign place target value.0.expression stop; calls = value.0.calls }, value.1)

-- `low] := expression` after `name[MAX:`
unfoldable pub above_at : Context → Spelled → Reading → Result (Block × Reading) PseudoFault
above_at context word r = do
  low ← own_index_at context r
  closed ← expect_at (codes "]") low.1
  sign ← expect_at (codes ":=") closed.1
  value ← whole_at context sign.1
  Ok (
    record {
      statements = above word.place word.bytes low.0.expression value.0.expression stop;
      calls = max low.0.calls value.0.calls;
    },
    value.1,
  )

-- whether `[MAX:` comes next, which is taken then
unfoldable pub above_follows : Follows
above_follows r = do
  bracket ← next_at r
  if bytes_eq bracket.0.bytes (codes "[") then (next_at bracket.1 >>= λ greatest.
      if bytes_eq greatest.0.bytes (codes "MAX") then (next_at greatest.1 >>= λ colon.
      if bytes_eq colon.0.bytes (codes ":") then Ok (true, colon.1) else Ok (false, r))
      else Ok (false, r))
      else Ok (false, r)

-- an assignment after its name
unfoldable pub assignment_at : Context → Spelled → Reading → Result (Block × Reading) PseudoFault
assignment_at context word r = do
  greatest ← above_follows r
  if greatest.0 then above_at context word greatest.1
      else form_at (own_index_at context) word greatest.1 >>= λ target.
      assigned_at context word.place target.0.expression target.1 >>= λ block.
      Ok (record { statements = block.0.statements; calls = max target.0.calls block.0.calls }, block.1)

-- a loop after FOR, which stands at this place
unfoldable pub for_at : Context → Body → Place → Reading → Result (Block × Reading) PseudoFault
for_at context body place r = do
  variable ← name_at r
  sign ← expect_at (codes ":=") variable.1
  first ← whole_at context sign.1
  to ← expect_at (codes "to") first.1
  bound ← whole_at context to.1
  inside ← body bound.1
  closed ← expect_at (codes "ENDFOR") inside.1
  Ok (
    record {
      statements = repeat place variable.0.bytes first.0.expression bound.0.expression inside.0.statements stop;
      calls = max (max first.0.calls bound.0.calls) inside.0.calls;
    },
    closed.1,
  )

-- a condition and the statements that it guards
unfoldable pub way_at : Context → Body → Reading → Result (Block × Reading) PseudoFault
way_at context body r = do
  condition ← whole_at context r
  inside ← body condition.1
  Ok (
    record {
      statements = way condition.0.expression inside.0.statements stop;
      calls = max condition.0.calls inside.0.calls;
    },
    inside.1,
  )

-- whether ELSE IF comes next, which is taken then
unfoldable pub else_if_follows : Follows
else_if_follows r = do
  other ← next_at r
  if bytes_eq other.0.bytes (codes "ELSE") then (next_at other.1 >>= λ again.
      if bytes_eq again.0.bytes (codes "IF") then Ok (true, again.1) else Ok (false, r))
      else Ok (false, r)

-- ELSE and its statements, or nothing
unfoldable pub else_at : Body → Reading → Result (Block × Reading) PseudoFault
else_at body r = do
  other ← accept_at (codes "ELSE") r
  if other.0 then (body other.1 >>= λ inside. Ok (record { statements = last inside.0.statements; calls = inside.0.calls }, inside.1))
      else Ok (record { statements = last stop; calls = 0 }, other.1)

-- a choice of ways after IF
unfoldable pub if_at : Context → Body → Reading → Result (Block × Reading) PseudoFault
if_at context body r = do
  first ← way_at context body r
  ways ← items_behind else_if_follows (way_at context body) (first.0 ∷ []) first.1
  other ← else_at body ways.1
  closed ← expect_at (codes "FI") other.1
  Ok (
    record {
      statements = choose (chained ways.0 other.0).statements stop;
      calls = (chained ways.0 other.0).calls;
    },
    closed.1,
  )

-- whether an arm follows
abbrev pub arm_follows : Follows
arm_follows r = next_at r >>= λ w. Ok (option_map_or (λ n. true) (number_of w.0.bytes) false, r)

-- `number: statements`
unfoldable pub arm_at : Body → Reading → Result (Block × Reading) PseudoFault
arm_at body r = do
  number ← number_at r
  colon ← expect_at (codes ":") number.1
  inside ← body colon.1
  Ok (record { statements = arm number.0 inside.0.statements stop; calls = inside.0.calls }, inside.1)

-- a choice by a number after CASE
unfoldable pub case_at : Context → Body → Reading → Result (Block × Reading) PseudoFault
case_at context body r = do
  selector ← whole_at context r
  of ← expect_at (codes "OF") selector.1
  arms ← items_behind arm_follows (arm_at body) [] of.1
  closed ← expect_at (codes "ESAC") arms.1
  Ok (
    record {
      statements = pick selector.0.expression (chained arms.0 nothing).statements stop;
      calls = max selector.0.calls (chained arms.0 nothing).calls;
    },
    closed.1,
  )

-- a statement that begins with this word
unfoldable pub word_at_head : Context → Body → Spelled → Reading → Result (Block × Reading) PseudoFault
word_at_head context body word r =
    if bytes_eq word.bytes (codes "FOR") then for_at context body word.place r
    else if bytes_eq word.bytes (codes "IF") then if_at context body r
    else if bytes_eq word.bytes (codes "CASE") then case_at context body r
    else if is_free word.bytes then assignment_at context word r
    else Err (Shape word.place)

-- a statement below which so many may stand, one inside the other
unfoldable pub statement_at : Context → ℕ → Body
statement_at context zero r = next_at r >>= λ w. Err (NestingTooDeep w.0.place)
statement_at context (suc room) r =
    next_at r >>= λ w. word_at_head context (block_at (statement_at context room)) w.0 w.1

-- statements, nested at most 64 deep
abbrev pub statements_at : Context → Body
statements_at context r = block_at (statement_at context 64) r
