-- What is answered to words is one text.
use Rattle.std.proofs.Common.{◌≡◌, ◌∙◌, ℕ, false, List, [], length, Option, Some, None, Result, Ok, Err, sym, ap, subst}
use Rattle.std.specs.Prelude.{◌%◌, ◌^◌, sum}
use Rattle.vg_catalog.specs.Entries.{Entry}
use Rattle.vg_catalog.specs.Extensions.{all_extensions}
use Rattle.vg_compile.specs.Compiled.{IsCompiled}
use Rattle.vg_compile.proofs.OneProgram.{one-program}
use Rattle.vg_compile.proofs.OneText.{one-text}
use Rattle.vg_guard.specs.Guarded.{guarded_text}
use Rattle.vg_guard.proofs.OneGuarded.{one-guarded}
use Rattle.vg_guarded_loop.specs.GuardedLoop.{guarded_loop_text}
use Rattle.vg_kernel.specs.Cost.{scalar_cost}
use Rattle.vg_kernel.specs.Meaning as kernels
use Rattle.vg_kernel.specs.Tree.{Tree}
use Rattle.vg_looped.specs.Looped.{looped_text}
use Rattle.vg_loops.proofs.OneLooped.{one-looped}
use Rattle.vg_loop_guard.proofs.OneGuardedLoop.{one-guarded-loop}
use Rattle.vg_program.specs.declared.program.Program.{Program}
use Rattle.vg_program.specs.Cost.{cost_of}
use Rattle.vg_program.specs.Text.{text_of}
use Rattle.vg_trial.specs.Trial.{memory}
use Rattle.vg_trial.specs.TrialKernel.{places}
use Rattle.vg_trial_line.specs.TrialLine.{IsTrialLine, trial_text, width}
use Rattle.vg_top.specs.declared.ending.Ending.{Ending}
use Rattle.vg_top.specs.Answer.{Answer, Explanation, GuardedAnswer, GuardedLoopAnswer, LoopedAnswer, LoopSource, Source}
use Rattle.vg_top.specs.Outcome.{guarded_for, guarded_loop_for, IsAnswer, line_on, listing, looped_for, memory_left, Outcome, plan_for, program_for, same_for}
use Rattle.vg_top.specs.Verdict.{IsAnswered, verdict}
use Rattle.vg_run_laws.specs.OneAnswer.{OneAnswer}

-- ---- what is compiled

program-text : (s : Source) (one other : List ℕ) → Answer s one → Answer s other → one ≡ other
program-text s one other x y =
    x.text
    ∙ ap text_of (one-program s.entries s.choices.allowed s.kernel s.choices.width s.choices.more x.program y.program x.compiled y.compiled)
    ∙ sym y.text

guarded-text : (s : Source) (one other : List ℕ) → GuardedAnswer s one → GuardedAnswer s other → one ≡ other
guarded-text s one other x y =
    x.text
    ∙ ap guarded_text (one-guarded s.entries s.choices.allowed s.kernel s.choices.width s.choices.more x.guarded y.guarded x.compiled y.compiled)
    ∙ sym y.text

looped-text : (s : LoopSource) (one other : List ℕ) → LoopedAnswer s one → LoopedAnswer s other → one ≡ other
looped-text s one other x y =
    x.text
    ∙ ap looped_text (one-looped s.entries s.choices.allowed s.loop s.choices.width s.choices.more x.looped y.looped x.compiled y.compiled)
    ∙ sym y.text

guarded_loop-text : (s : LoopSource) (one other : List ℕ) → GuardedLoopAnswer s one → GuardedLoopAnswer s other → one ≡ other
guarded_loop-text s one other x y =
    x.text
    ∙ ap guarded_loop_text (one-guarded-loop s.entries s.choices.allowed s.loop s.choices.width s.choices.more x.guarded y.guarded x.compiled y.compiled)
    ∙ sym y.text

-- ---- the line on a trial

abbrev found : {A E : Type 0} → A → Result A E → A
found d (Ok a) = a
found d (Err e) = d

abbrev kept : {A : Type 0} → A → Option A → A
kept d (Some a) = a
kept d None = d

trial-line : (entries : List Entry) (n : ℕ) (one other : List ℕ) → IsTrialLine entries n one → IsTrialLine entries n other → one ≡ other
trial-line entries n one other x y =
    let kernel : x.kernel ≡ y.kernel = ap (found x.kernel) (sym x.spelled ∙ y.spelled) in
    let program : x.program ≡ y.program =
    one-program entries all_extensions x.kernel width false x.program y.program x.compiled
    (subst (λ k. IsCompiled entries all_extensions k width false y.program) (sym kernel) y.compiled) in
    let left : x.left ≡ y.left = ap (kept x.left) (sym x.by_kernel ∙ ap (λ k. kernels.meaning k (memory n) (places n) []) kernel ∙ y.by_kernel) in
    x.line
    ∙ (λ i. trial_text n (length (kernel i).statements) (scalar_cost (kernel i)) (cost_of (program i)) (sum (left i) % 2 ^ 32))
    ∙ sym y.line

-- ---- the whole

answer-one : (o : Outcome) (one other : List ℕ) → IsAnswer o one → IsAnswer o other → one ≡ other
answer-one (program_for s) one other x y = program-text s one other x y
answer-one (guarded_for s) one other x y = guarded-text s one other x y
answer-one (looped_for s) one other x y = looped-text s one other x y
answer-one (guarded_loop_for s) one other x y = guarded_loop-text s one other x y
answer-one (plan_for s) one other x y = one-text s.entries s.choices.allowed s.kernel s.choices.width s.choices.more one other x y
answer-one (memory_left left) one other x y = x ∙ sym y
answer-one (listing lines) one other x y = x ∙ sym y
answer-one (line_on t) one other x y = trial-line t.entries t.number one other x y
answer-one (same_for q) one other x y = x.text ∙ sym y.text

answered-one : (r : Result Outcome Ending) (one other : List ℕ) → IsAnswered r one → IsAnswered r other → one ≡ other
answered-one (Ok o) one other x y = answer-one o one other x y
answered-one (Err e) one other x y = absurd x

pub one-answer : OneAnswer
one-answer held words one other x y = answered-one (verdict held words) one other x y
