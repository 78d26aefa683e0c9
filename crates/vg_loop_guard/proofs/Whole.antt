-- A guarded loop that is compiled keeps the rules on guarded loops: with its slow side it is what is
-- compiled of the loop without guards.
use Rattle.std.proofs.Common.{◌≡◌, ℕ, suc, ◌≤◌, Bool, true, false, cond, List, [], ◌∷◌, length, ap, subst, ◌∙◌, arith}
use Rattle.vg_catalog.specs.Called.{called_by, headers_of}
use Rattle.vg_catalog.specs.Entries.{Entry}
use Rattle.vg_compile.specs.Compiled.{IsCompiled}
use Rattle.vg_descriptions.specs.Proper.{AreProper}
use Rattle.vg_guard.specs.Compiled.{IsCompiledGuarded}
use Rattle.vg_guard.specs.Guarded.{IsGuarded}
use Rattle.vg_guarded_loop.specs.declared.guarded_loop.GuardedLoop.{GuardedLoop}
use Rattle.vg_guarded_loop.specs.GuardedLoop.{fast_loop, guarded_loop_text}
use Rattle.vg_guarded_loop.proofs.Texts.{loop-small}
use Rattle.vg_kernel.specs.declared.parameter.KParam.{KParam}
use Rattle.vg_kernel.specs.Names.{is_pointer}
use Rattle.vg_kernel.specs.WellFormed as kernel
use Rattle.vg_looped.specs.declared.looped.Looped.{Looped}
use Rattle.vg_looped.specs.Looped.{IsLooped, IsTimes}
use Rattle.vg_loop_laws.specs.Limits.{turns_of}
use Rattle.vg_loop_laws.specs.Loops.{Loop}
use Rattle.vg_loop_laws.specs.Unrolled.{unrolled}
use Rattle.vg_loops.specs.Formed.{IsLoop}
use Rattle.vg_loops.proofs.Whole.{compiled-loop}
use Rattle.vg_program.specs.declared.signature.Signature.{Signature}
use Rattle.vg_program.specs.Params.{pointers}
use Rattle.vg_pseudo.specs.declared.header.Header.{Header}
use Rattle.vg_loop_guard.specs.CompiledGuardedLoop.{IsCompiledGuardedLoop}
use Rattle.vg_loop_guard.proofs.Meant.{guarded-loop-is-meant}

few-pointers : (ps : List KParam) → length (kernel.pointers ps) ≤ length ps
few-pointers [] = omega arith
few-pointers (p ∷ ps) = by (is_pointer p.kind) (few-pointers ps)
  where
    by : (b : Bool) → length (kernel.pointers ps) ≤ length ps → length (cond b (p ∷ kernel.pointers ps) (kernel.pointers ps)) ≤ suc (length ps)
    by true l = omega (arith, l)
    by false l = omega (arith, l)

-- a loop has no more steps than a kernel parameters
pub few-steps : (l : Loop) (steps : List ℕ) → IsLoop l → steps ≡ l.steps → length steps ≤ 16
few-steps l steps is same =
    let each = is.steps in
    let most = is.kernel.params in
    omega (arith, ap length same, each, few-pointers l.kernel.params, most)

abbrev slow_loop : GuardedLoop → Looped
slow_loop g = record { block = g.block.slow; rest = g.rest; times = g.times; steps = g.steps; turns = g.turns }

-- what keeps the rules with one side keeps them with the other, where its text is short enough
other-side : (headers : List Header) (g : GuardedLoop) → IsGuarded headers g.block → IsLooped headers (slow_loop g) → length (guarded_loop_text g) ≤ 4194304 → IsLooped headers (fast_loop g)
other-side headers g is looped size = record {
  block = is.fast.rules;
  rest = looped.rest;
  signature = looped.signature ∙ is.signature;
  times = subst (λ (s : Signature). IsTimes s.params g.times) is.signature looped.times;
  steps = looped.steps ∙ ap (λ (s : Signature). length (pointers s.params)) is.signature;
  near = looped.near;
  some_step = looped.some_step;
  some = looped.some;
  few = looped.few;
  size = omega (arith, size, loop-small g);
}

pub compiled-guarded-loop : (entries : List Entry) (set : ℕ) (l : Loop) (width : ℕ) (more : Bool) (g : GuardedLoop) → IsLoop l → AreProper entries
    → g.turns ≡ turns_of l → g.times ≡ l.times → g.steps ≡ l.steps → length (guarded_loop_text g) ≤ 4194304
    → IsCompiledGuarded entries set (unrolled l (turns_of l)) width more g.block → IsCompiled entries set l.kernel width more g.rest
    → IsCompiledGuardedLoop entries set l width more g
compiled-guarded-loop entries set l width more g is proper turns times steps size block rest =
    let slow = compiled-loop entries set l width more (slow_loop g) is proper turns times steps block.slow rest in
    record {
      turns = turns;
      times = times;
      steps = steps;
      few_steps = slow.few_steps;
      rules = record { block = block.rules; looped = other-side (headers_of entries) g block.rules slow.rules size; size = size };
      block = block;
      rest = rest;
      means = guarded-loop-is-meant (called_by entries) l g is.kernel is.steps turns times steps block.means rest.means;
    }
