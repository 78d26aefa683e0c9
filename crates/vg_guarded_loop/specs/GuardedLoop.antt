-- Guarded loops: the guarded program of a block of turns and the program of one turn, under one first
-- line.
use Rattle.std.specs.Prelude.{ℕ, ◌≤◌, List, ◌++◌, length, codes}
use Rattle.vg_pseudo.specs.declared.header.Header.{Header}
use Rattle.vg_program.specs.declared.program.Program.{Program}
use Rattle.vg_program.specs.Text.{line_end, signature_text, signature_of, body_text}
use Rattle.vg_guard.specs.declared.guarded.Guarded.{Guarded}
use Rattle.vg_guard.specs.Guarded.{checks_text, end_line, IsGuarded}
use Rattle.vg_looped.specs.declared.looped.Looped.{Looped}
use Rattle.vg_looped.specs.Looped.{turns_text, IsLooped}
use Rattle.vg_looped.specs.Steps.{Pair, stepped}
use Rattle.vg_guarded_loop.specs.declared.guarded_loop.GuardedLoop.{GuardedLoop}

-- ---- the text

-- `guardedloop copy(d: ptr, s: ptr, n: i32) times n step d 4, s 4 block 16`, where these pointers
-- have steps
abbrev pub first_text : GuardedLoop → List Pair → List ℕ
first_text l xs =
    codes "guardedloop " ++ (signature_text (signature_of l.block.fast)
    ++ (turns_text l.block.fast.params l.times xs l.turns ++ line_end))

-- the text of a guarded program behind its own first line
abbrev pub sides_text : Guarded → List ℕ
sides_text g =
    checks_text g.fast.params g.checks ++ (codes "then" ++ (line_end ++ (body_text g.fast
    ++ (codes "else" ++ (line_end ++ (body_text g.slow ++ end_line (length g.checks)))))))

-- the lines of the turns that are left over, between `rest` and the last line
abbrev pub rest_text : Program → List ℕ
rest_text p = codes "rest" ++ (line_end ++ (body_text p ++ (codes "end looped" ++ line_end)))

-- the whole text
unfoldable pub guarded_loop_text : GuardedLoop → List ℕ
guarded_loop_text l =
    first_text l (stepped 0 l.steps) ++ (sides_text l.block ++ rest_text l.rest)

-- ---- the rules

-- the looped text whose blocks all run the fast side
abbrev pub fast_loop : GuardedLoop → Looped
fast_loop l = record {
  block = l.block.fast;
  rest = l.rest;
  times = l.times;
  steps = l.steps;
  turns = l.turns;
}

-- The block keeps the rules on guarded programs, and with its fast side the whole keeps those on
-- looped texts, so that all three programs have one name and the same parameters. The text has at
-- most 4 MiB.
pub record IsGuardedLoop (headers : List Header) (l : GuardedLoop) : Type 0 where
  pub block : IsGuarded headers l.block
  pub looped : IsLooped headers (fast_loop l)
  pub size : length (guarded_loop_text l) ≤ 4194304
