-- Loops that are in the language keep the rules.
use Rattle.std.proofs.Common.{ℕ, suc, ◌≤◌, List, [], ◌∷◌, sym, subst, ◌∙◌, inl, inr, arith}
use Rattle.std.specs.Prelude.{slice_index, nat_eq}
use Rattle.std.specs.List.{AllByRecursion}
use Rattle.std.proofs.lemmas.Bool.{cases_Bool}
use Rattle.vg_kernel.specs.declared.parameter.KParam.{KParam}
use Rattle.vg_kernel.specs.Names.{names_of}
use Rattle.vg_kernel.specs.Script.{Words}
use Rattle.vg_kernel.proofs.Scripts.{true_fact}
use Rattle.vg_kernel.proofs.WellFormed.{names-free, statements-well_formed}
use Rattle.vg_loop_laws.specs.Loops.{Loop}
use Rattle.vg_loops.specs.Formed.{IsLoop}
use Rattle.vg_loops.proofs.Found.{integer-known}
use Rattle.vg_loop_grammar.specs.Grammar.{WrittenStep, AreMoreSteps, AreSteps, bytes_written, SpellsLoop, IsLoopText}
use Rattle.vg_loop_grammar.proofs.LoopsAgain.{moving-again}
use Rattle.vg_loop_grammar.proofs.Params.{given-params}

abbrev AllSmall : List WrittenStep → Type 0
AllSmall ss = AllByRecursion (λ s. s.bytes ≤ 65536) ss

more-small : (params : List KParam) (words : Words) (ss : List WrittenStep) → AreMoreSteps params words ss → AllSmall ss
more-small params words [] are = tt
more-small params words (s ∷ ss) (comma, front, rest, is, (name, number, pointer, value, some, few, spelled), others, same) = (few, more-small params rest ss others)

all-small : (params : List KParam) (words : Words) (ss : List WrittenStep) → AreSteps params words ss → AllSmall ss
all-small params words [] are = absurd are
all-small params words (s ∷ ss) (front, rest, (name, number, pointer, value, some, few, spelled), others, same) = (few, more-small params rest ss others)

written-small : (ss : List WrittenStep) (k : ℕ) → AllSmall ss → bytes_written ss k ≤ 65536
unfolding bytes_written
written-small [] k small = omega arith
written-small (s ∷ ss) k small = elim (cases_Bool (nat_eq s.pointer k)) [ inl e ↦ rw e (small.0) | inr e ↦ rw e (written-small ss k small.1) ]

steps-small : (xs : List ℕ) → ((k : ℕ) → slice_index xs k ≤ 65536) → AllByRecursion (λ s. s ≤ 65536) xs
steps-small [] each = tt
steps-small (x ∷ xs) each = (each 0, steps-small xs (λ k. each (suc k)))

loop-keeps : (ws : Words) (l : Loop) → SpellsLoop ws l → IsLoop l
loop-keeps ws l is =
    let head = is.is_head in
    let turns = is.are_turns in
    let block = is.is_block in
    let params = l.kernel.params in
    let known = sym (given-params params turns.number.bytes) ∙ turns.is_number.2 in
    let times = integer-known 0 0 params turns.number.bytes l.times turns.is_number.0 known in
    record {
      kernel = record {
        name = head.free;
        names = names-free head.between params head.are_params;
        distinct = head.distinct;
        params = head.few;
        each = statements-well_formed (names_of params) block.inside l.kernel.statements block.are_statements;
        statements = block.lines;
        uses = block.uses;
      };
      steps = turns.each;
      small = steps-small l.steps (λ k. subst (λ (n : ℕ). n ≤ 65536) (sym (turns.moved k)) (written-small turns.written k (all-small params turns.inside turns.written turns.are_steps)));
      times = omega (arith, times);
      moving = true_fact _ (moving-again l.steps l.kernel.statements is.moving.0 is.moving.1 is.moving.2 is.moving.3 is.moving.4);
    }

pub loop-texts-keep-the-rules : (text : List ℕ) (l : Loop) → IsLoopText text l → IsLoop l
loop-texts-keep-the-rules text l is = loop-keeps is.words l is.loop
