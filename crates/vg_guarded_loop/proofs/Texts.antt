-- The whole texts of guarded loops: what is read keeps the rules and is spelled so, and what keeps
-- them is read.
use Rattle.std.proofs.Common.{◌≡◌, ℕ, ◌+◌, ◌<◌, ◌≤◌, List, [], ◌++◌, length, Result, Ok, Err, refl, sym, ap, subst, ◌∙◌, inl, inr, append-nil, length-append, arith}
use Rattle.std.specs.Prelude.{codes, nat_lt, IfOk}
use Rattle.std.specs.List.{AllByRecursion}
use Rattle.std.proofs.lemmas.Bool.{cases_Bool, eqb-true, ltb-false, le-ltb}
use Rattle.std.proofs.lemmas.List.{nil_from_length}
use Rattle.vg_pseudo.specs.declared.header.Header.{Header}
use Rattle.vg_text.specs.Place.{first_place}
use Rattle.vg_program.specs.declared.program_fault.ProgramFault.{ProgramFault}
use Rattle.vg_program.specs.declared.program_fault.ProgramFault.TheVariants as refused
use Rattle.vg_program.specs.declared.signature.Signature.{Signature}
use Rattle.vg_program.specs.Faults.{Returns}
use Rattle.vg_program.specs.Params.{pointers}
use Rattle.vg_program.specs.Text.{line_end, signature_text, signature_of, body_text}
use Rattle.vg_program.specs.Valid.{KeepsRules}
use Rattle.vg_program.proofs.Steps.{Holds, and_then, if_ok}
use Rattle.vg_program.proofs.ProgramLaws.{located_ok}
use Rattle.vg_guard.specs.Guarded.{checks_text, end_line, guarded_text}
use Rattle.vg_guard.specs.Rules.{AreChecks}
use Rattle.vg_guard.proofs.GuardedTexts.{is-guarded, sides-small}
use Rattle.vg_looped.specs.Looped.{turns_text, looped_text, ArePairs, IsTimes}
use Rattle.vg_looped.specs.Steps.{Pair, stepped, steps_of}
use Rattle.vg_looped.proofs.Dense.{length-steps, near-steps, pairs-back, steps-back, pairs-are}
use Rattle.vg_guarded_loop.specs.declared.guarded_loop.GuardedLoop.{GuardedLoop}
use Rattle.vg_guarded_loop.specs.Grammar.{guarded_loop_at, read_guarded_loop}
use Rattle.vg_guarded_loop.specs.GuardedLoop.{sides_text, rest_text, fast_loop, guarded_loop_text, IsGuardedLoop}
use Rattle.vg_guarded_loop.specs.Laws.{WhatIsReadIsAGuardedLoop, GuardedLoopTextsAreRead}
use Rattle.vg_guarded_loop.proofs.Parts.{line_of, first-takes, first-again, sides-take, sides-again, rest-takes, rest-again}

-- ---- what is read

record Takes (headers : List Header) (text : List ℕ) (l : GuardedLoop) : Type 0 where
  fast : KeepsRules headers l.block.fast
  slow : KeepsRules headers l.block.slow
  rest : KeepsRules headers l.rest
  sides : signature_of l.block.slow ≡ signature_of l.block.fast
  signature : signature_of l.rest ≡ signature_of l.block.fast
  checks : AreChecks (length (pointers l.block.fast.params)) l.block.checks
  times : IsTimes l.block.fast.params l.times
  steps : length l.steps ≡ length (pointers l.block.fast.params)
  near : AllByRecursion (λ s. s ≤ 65536) l.steps
  some_step : 0 < length (stepped 0 l.steps)
  some : 1 ≤ l.turns
  few : l.turns ≤ 16
  spelled : guarded_loop_text l ≡ text

guarded_loop-takes : (headers : List Header) (text : List ℕ) → length text ≤ 4194304 → Holds (guarded_loop_at headers text) (Takes headers text)
unfolding guarded_loop_at guarded_loop_text
guarded_loop-takes headers text small =
    and_then _ _ _ _ (first-takes text) (λ first f.
    let s : Signature = first.0.0 in
    let times = first.0.1.times in
    let pairs = first.0.1.pairs in
    let turns = first.0.1.turns in
    let line = line_of s times pairs turns in
    let less : length first.1 ≤ 4194304 = omega (arith, small, ap length f.spelled, length-append line first.1) in
    and_then _ _ _ _ (sides-take headers s first.1 f.named f.params less) (λ block b.
    and_then _ _ _ _ (rest-takes headers s block.1 f.named f.params) (λ rest r.
    if_ok _ _ _ _ (λ ended.
    let n = length (pointers s.params) in
    let steps = steps_of 0 n pairs in
    let nothing : rest.1 ≡ [] = nil_from_length rest.1 (eqb-true (length rest.1) 0 ended) in
    let back : stepped 0 steps ≡ pairs = pairs-back s.params 0 n pairs (omega arith) f.pairs in
    let ending : block.1 ≡ rest_text rest.0 = r.spelled ∙ ap (λ (x : List ℕ). rest_text rest.0 ++ x) nothing ∙ append-nil (rest_text rest.0) in
    let front : text ≡ line ++ (sides_text block.0 ++ rest_text rest.0) =
    f.spelled ∙ ap (λ (x : List ℕ). line ++ x) (b.spelled ∙ ap (λ (x : List ℕ). sides_text block.0 ++ x) ending) in
    record {
      fast = b.fast;
      slow = b.slow;
      rest = r.rules;
      sides = b.other ∙ sym b.own;
      signature = r.signature ∙ sym b.own;
      checks = b.checks;
      times = subst (λ (q : Signature). IsTimes q.params times) (sym b.own) f.times;
      steps = length-steps 0 n pairs ∙ ap (λ (q : Signature). length (pointers q.params)) (sym b.own);
      near = near-steps s.params 0 0 n pairs f.pairs;
      some_step = subst (λ (xs : List Pair). 0 < length xs) (sym back) f.some_pair;
      some = f.some;
      few = f.few;
      spelled = (λ i. line_of (b.own i) times (back i) turns ++ (sides_text block.0 ++ rest_text rest.0)) ∙ sym front;
    }))))

-- ---- what stands in a text of a loop, as one of a block and as one of the fast side

shorter-guarded : (s t checks fast slow end rest : List ℕ)
    → length (codes "guarded " ++ s ++ line_end ++ checks ++ codes "then" ++ line_end ++ fast ++ codes "else" ++ line_end ++ slow ++ end)
    ≤ length ((codes "guardedloop " ++ (s ++ (t ++ line_end))) ++ ((checks ++ (codes "then" ++ (line_end ++ (fast ++ (codes "else" ++ (line_end ++ (slow ++ end))))))) ++ rest))
shorter-guarded s t checks fast slow end rest = simp length-append (omega arith)

shorter-looped : (s t checks fast slow end rest : List ℕ)
    → length (codes "looped " ++ (s ++ (t ++ (line_end ++ (fast ++ (codes "rest" ++ (line_end ++ (rest ++ (codes "end looped" ++ line_end)))))))))
    ≤ length ((codes "guardedloop " ++ (s ++ (t ++ line_end))) ++ ((checks ++ (codes "then" ++ (line_end ++ (fast ++ (codes "else" ++ (line_end ++ (slow ++ end))))))) ++ (codes "rest" ++ (line_end ++ (rest ++ (codes "end looped" ++ line_end))))))
shorter-looped s t checks fast slow end rest = simp length-append (omega arith)

abbrev told : GuardedLoop → List ℕ
told l = turns_text l.block.fast.params l.times (stepped 0 l.steps) l.turns

pub block-small : (l : GuardedLoop) → length (guarded_text l.block) ≤ length (guarded_loop_text l)
unfolding guarded_text guarded_loop_text
block-small l = shorter-guarded (signature_text (signature_of l.block.fast)) (told l) (checks_text l.block.fast.params l.block.checks) (body_text l.block.fast) (body_text l.block.slow) (end_line (length l.block.checks)) (rest_text l.rest)

pub loop-small : (l : GuardedLoop) → length (looped_text (fast_loop l)) ≤ length (guarded_loop_text l)
unfolding looped_text guarded_loop_text
loop-small l = shorter-looped (signature_text (signature_of l.block.fast)) (told l) (checks_text l.block.fast.params l.block.checks) (body_text l.block.fast) (body_text l.block.slow) (end_line (length l.block.checks)) (body_text l.rest)

rest-small : (l : GuardedLoop) → length (body_text l.rest) ≤ length (looped_text (fast_loop l))
unfolding looped_text
rest-small l = within (signature_text (signature_of l.block.fast)) (told l) (body_text l.block.fast) (body_text l.rest)
  where
    within : (s t fast rest : List ℕ) → length rest ≤ length (codes "looped " ++ (s ++ (t ++ (line_end ++ (fast ++ (codes "rest" ++ (line_end ++ (rest ++ (codes "end looped" ++ line_end)))))))))
    within s t fast rest = simp length-append (omega arith)

-- ---- both ways

pub what-is-read-is-a-guarded-loop : WhatIsReadIsAGuardedLoop
what-is-read-is-a-guarded-loop headers text l small e =
    let t = (guarded_loop-takes headers text small).holds l e in
    let size : length (guarded_loop_text l) ≤ 4194304 = subst (λ (x : List ℕ). length x ≤ 4194304) (sym t.spelled) small in
    let block : length (guarded_text l.block) ≤ 4194304 = omega (arith, size, block-small l) in (
      record {
        block = is-guarded headers (guarded_text l.block) l.block block (record { fast = t.fast; slow = t.slow; signature = t.sides; checks = t.checks; spelled = refl });
        looped = record {
          block = t.fast;
          rest = t.rest;
          signature = t.signature;
          times = t.times;
          steps = t.steps;
          near = t.near;
          some_step = t.some_step;
          some = t.some;
          few = t.few;
          size = omega (arith, size, loop-small l);
        };
        size = size;
      },
      t.spelled,
    )

pub guarded-loop-texts-are-read : GuardedLoopTextsAreRead
unfolding guarded_loop_at guarded_loop_text
guarded-loop-texts-are-read headers l is =
    let g = l.block in
    let s = signature_of g.fast in
    let params = g.fast.params in
    let xs = stepped 0 l.steps in
    let rules = is.block.fast.rules in
    let small = sides-small g is.block.signature is.block.size in
    let size = is.looped.size in
    let steps = is.looped.steps in
    let pairs : ArePairs params 0 xs = pairs-are params 0 l.steps (omega (arith, steps)) is.looped.near in
    let back : steps_of 0 (length (pointers params)) xs ≡ l.steps = ap (λ (k : ℕ). steps_of 0 k xs) (sym steps) ∙ steps-back 0 l.steps in
    rw (
      first-again s l.times xs l.turns (sides_text g ++ rest_text l.rest) rules.name rules.params is.looped.times pairs is.looped.some_step is.looped.some is.looped.few,
      sides-again headers g (rest_text l.rest) rules is.block.slow.rules is.block.signature is.block.checks small.checks small.fast small.slow,
      rest-again headers s l.rest is.looped.rest is.looped.signature (omega (arith, rest-small l, size)),
      back,
    ) refl

-- ---- with the limit and the places

pub read_sound : (headers : List Header) (text : List ℕ) (r : Result GuardedLoop ProgramFault) → Returns r (read_guarded_loop headers text) → IfOk r (λ l. IsGuardedLoop headers l × (guarded_loop_text l ≡ text))
unfolding read_guarded_loop
read_sound headers text (Ok l) given = elim (cases_Bool (nat_lt 4194304 (length text))) [
  | inl large ↦ let is : refusing ≡ Ok l = rw large at given in absurd cc
  | inr small ↦ what-is-read-is-a-guarded-loop headers text l (ltb-false 4194304 (length text) small) (located_ok text (guarded_loop_at headers text) l (rw small at given))
]
  where
    refusing : Result GuardedLoop ProgramFault
    refusing = Err (refused.TooLarge first_place)
read_sound headers text (Err fault) given = tt

pub read_again : (headers : List Header) (l : GuardedLoop) → IsGuardedLoop headers l → read_guarded_loop headers (guarded_loop_text l) ≡ Ok l
unfolding read_guarded_loop
read_again headers l is = rw (le-ltb 4194304 (length (guarded_loop_text l)) is.size, guarded-loop-texts-are-read headers l is) refl

pub read_complete : (headers : List Header) (text : List ℕ) (r : Result GuardedLoop ProgramFault) → Returns r (read_guarded_loop headers text) → (l : GuardedLoop) → IsGuardedLoop headers l → text ≡ guarded_loop_text l → Returns r (Ok l)
read_complete headers text r given l is same = subst (λ (a : Result GuardedLoop ProgramFault). Returns r a) (ap (read_guarded_loop headers) same ∙ read_again headers l is) given
