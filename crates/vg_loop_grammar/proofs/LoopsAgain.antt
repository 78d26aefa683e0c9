-- Loops that are in the language are read.
use Rattle.std.proofs.Common.{◌≡◌, ℕ, zero, suc, ◌<◌, ◌≤◌, Bool, true, false, List, [], ◌∷◌, ◌++◌, length, Option, Some, Result, Ok, Err, refl, sym, ap, subst, ◌∙◌, arith, append_assoc, append-nil}
use Rattle.std.specs.Prelude.{codes, slice_set, slice_index, slice_index_or, IsTrue, ◌||◌, ◌↔◌}
use Rattle.std.specs.Str.{bytes_eq}
use Rattle.std.proofs.lemmas.Bool.{le-leb, lt-ltb}
use Rattle.vg_text.specs.Words.{Reading, Spelled, reading_of}
use Rattle.vg_kernel.specs.declared.fault.KernelFault.{KernelFault}
use Rattle.vg_kernel.specs.declared.given.Given.TheVariants as given
use Rattle.vg_kernel.specs.declared.parameter.KParam.{KParam}
use Rattle.vg_kernel.specs.Grammar.{IsKernelText}
use Rattle.vg_kernel.specs.Names.{parameter_named, names_of}
use Rattle.vg_kernel.specs.Reader.{expect_at}
use Rattle.vg_kernel.specs.Script.{Words, script_left}
use Rattle.vg_kernel.specs.Statements.{head_at, block_at}
use Rattle.vg_kernel.specs.Tree.{Statement, assign, store, Tree}
use Rattle.vg_kernel.specs.WellFormed.{pointers}
use Rattle.vg_kernel.specs.Words.{is_free}
use Rattle.vg_kernel.proofs.KernelsAgain.{statements-again, parameters-again}
use Rattle.vg_kernel.proofs.OperandsFound.{at}
use Rattle.vg_kernel.proofs.Scripts.{ok_once}
use Rattle.vg_kernel.proofs.WordsAgain.{Reads, next-again, expect-again, end-again, name-again}
use Rattle.vg_loop_laws.specs.Loops.{Loop}
use Rattle.vg_loops.specs.Reader.{integer_at, step_at, steps_behind, steps_at, moves, stores_moving, moving_at, loop_at, loop_from}
use Rattle.vg_loop_grammar.specs.Grammar.{IsInteger, WrittenStep, IsStep, AreMoreSteps, AreSteps, SpellsHead, SpellsTurns, SpellsBlock, StoresMoving, SpellsLoop, IsLoopText}
use Rattle.vg_loop_grammar.proofs.LoopsFound.{what-is-read-is-a-loop}
use Rattle.vg_loop_grammar.proofs.Params.{given-params, steps-known, pointers-few}
use Rattle.vg_loop_grammar.proofs.StepLists.{none, put, AllFresh, put-long, none-long, put-written, apart-none, apart-few, lists-same}

-- ---- steps

integer-again : (params : List KParam) (word : Spelled) (k : ℕ) (r : Reading) (rest : Words) → IsInteger params word k → script_left r ≡ Some (word ∷ rest) → Reads (integer_at params r) k rest
unfolding integer_at
integer-again params word k r rest (w, free, is) left =
    let n = name-again word r rest free left in
    let known : parameter_named 0 0 params word.bytes ≡ Some (given.Argument k w) = sym (given-params params word.bytes) ∙ is in
    (n.0, rw (n.1, known) refl, n.2)

step-again : (params : List KParam) (before : List ℕ) (ws : Words) (s : WrittenStep) (r : Reading) (rest : Words) → IsStep params ws s → slice_index before s.pointer ≡ 0 → script_left r ≡ Some (ws ++ rest)
    → Reads (step_at params before r) (slice_set before s.pointer s.bytes) rest
unfolding step_at
step-again params before ws s r rest (name, number, pointer, value, some, few, same) fresh left =
    let n = name-again name r (number ∷ rest) pointer.0 (subst (λ (t : Words). script_left r ≡ Some (t ++ rest)) same left) in
    let known : parameter_named 0 0 params name.bytes ≡ Some (given.Pointer s.pointer) = sym (given-params params name.bytes) ∙ pointer.1 in
    let w = next-again n.0 number rest n.2 in
    (w.0, rw (n.1, known, fresh, w.1, value, lt-ltb 0 s.bytes some, le-leb s.bytes 65536 few) refl, w.2)

-- steps after commas, up to a word that is none
behind-again : (ss : List WrittenStep) (room params : List KParam) (before : List ℕ) (ws : Words) (r : Reading) (v : Spelled) (rest : Words) → AreMoreSteps params ws ss → AllFresh before ss → length ss ≤ length room → bytes_eq v.bytes (codes ",") ≡ false
    → script_left r ≡ Some (ws ++ v ∷ rest) → Reads (steps_behind room params before r) (put before ss) (v ∷ rest)
unfolding steps_behind
behind-again [] [] params before ws r v rest are fresh few over left = (r, refl, subst (λ (t : Words). script_left r ≡ Some (t ++ v ∷ rest)) are left)
behind-again [] (p ∷ room) params before ws r v rest are fresh few over left =
    let here = subst (λ (t : Words). script_left r ≡ Some (t ++ v ∷ rest)) are left in
    let n = next-again r v rest here in
    (r, rw (n.1, over) refl, here)
behind-again (s ∷ ss) [] params before ws r v rest are fresh few over left = absurd (omega arith)
behind-again (s ∷ ss) (p ∷ room) params before ws r v rest (comma, front, more, is, one, others, same) fresh few over left =
    let group : ws ++ v ∷ rest ≡ comma ∷ (front ++ (more ++ v ∷ rest)) = ap (λ (t : Words). t ++ v ∷ rest) same ∙ ap (λ (t : Words). comma ∷ t) (append_assoc front more (v ∷ rest)) in
    let n = next-again r comma (front ++ (more ++ v ∷ rest)) (subst (λ (t : Words). script_left r ≡ Some t) group left) in
    let yes : bytes_eq comma.bytes (codes ",") ≡ true = ap (λ (t : List ℕ). bytes_eq t (codes ",")) is in
    let q = step-again params before front s n.0 (more ++ v ∷ rest) one fresh.0 n.2 in
    let all = behind-again ss room params (slice_set before s.pointer s.bytes) more q.0 v rest others fresh.1 (omega arith) over q.2 in
    (all.0, rw (n.1, yes, q.1, all.1) refl, all.2)

steps-again : (params : List KParam) (ss : List WrittenStep) (ws : Words) (r : Reading) (v : Spelled) (rest : Words) → AreSteps params ws ss → AllFresh (none (pointers params)) ss → length ss ≤ length params → bytes_eq v.bytes (codes ",") ≡ false
    → script_left r ≡ Some (ws ++ v ∷ rest) → Reads (steps_at params r) (put (none (pointers params)) ss) (v ∷ rest)
unfolding steps_at
steps-again params [] ws r v rest are fresh few over left = absurd are
steps-again params (s ∷ ss) ws r v rest (front, more, one, others, same) fresh few over left =
    let before = none (pointers params) in
    let group : ws ++ v ∷ rest ≡ front ++ (more ++ v ∷ rest) = ap (λ (t : Words). t ++ v ∷ rest) same ∙ append_assoc front more (v ∷ rest) in
    let q = step-again params before front s r (more ++ v ∷ rest) one fresh.0 (subst (λ (t : Words). script_left r ≡ Some t) group left) in
    let all = behind-again ss params params (slice_set before s.pointer s.bytes) more q.0 v rest others fresh.1 (omega arith) over q.2 in
    (all.0, rw (q.1, all.1) refl, all.2)

-- ---- the parts of a loop

head-again : (ws : Words) (name : List ℕ) (params : List KParam) (r : Reading) (rest : Words) → SpellsHead ws name params → script_left r ≡ Some (ws ++ rest) → Reads (head_at r) (record { name = name; params = params }) rest
unfolding head_at
head-again ws name params r rest is left =
    let group : ws ++ rest ≡ is.named ∷ is.opening ∷ (is.between ++ is.closing ∷ rest) = ap (λ (t : Words). t ++ rest) is.whole ∙ ap (λ (t : Words). is.named ∷ is.opening ∷ t) (append_assoc is.between (is.closing ∷ []) rest) in
    let n = name-again is.named r (is.opening ∷ (is.between ++ is.closing ∷ rest)) (subst (λ (b : List ℕ). IsTrue (is_free b)) (sym is.is_named) is.free) (subst (λ (t : Words). script_left r ≡ Some t) group left) in
    let o = expect-again (codes "(") n.0 is.opening (is.between ++ is.closing ∷ rest) is.is_opening n.2 in
    let p = parameters-again params is.between o.0 is.closing rest is.are_params is.distinct is.few is.is_closing o.2 in
    (p.0, rw (n.1, o.1, p.1) (ap (λ (b : List ℕ). Ok (record { name = b; params = params }, p.0)) is.is_named), p.2)

block-again : (params : List KParam) (ws : Words) (ss : List Statement) (name : List ℕ) (r : Reading) (rest : Words) → SpellsBlock params ws ss → script_left r ≡ Some (ws ++ rest)
    → (brace : Spelled) × Reads (block_at (record { name = name; params = params }) r) (record { name = name; params = params; statements = ss }, brace.place) rest
unfolding block_at
block-again params ws ss name r rest is left =
    let group : ws ++ rest ≡ is.begin ∷ (is.inside ++ is.end ∷ rest) = ap (λ (t : Words). t ++ rest) is.whole ∙ ap (λ (t : Words). is.begin ∷ t) (append_assoc is.inside (is.end ∷ []) rest) in
    let b = expect-again (codes "{") r is.begin (is.inside ++ is.end ∷ rest) is.is_begin (subst (λ (t : Words). script_left r ≡ Some t) group left) in
    let s = statements-again ss (names_of params) is.inside 4096 [] (at b.0 0) is.end rest is.are_statements is.lines (omega (arith, is.uses)) is.is_end b.2 in
    (is.end, (s.0, rw (b.1, s.1) refl, s.2))

-- turns and steps were read
record TurnsRead (params : List KParam) (r : Reading) (times : ℕ) (steps : List ℕ) (rest : Words) : Type 0 where
  after_times : Reading
  reads_times : expect_at (codes "times") r ≡ Ok after_times
  after_number : Reading
  reads_number : integer_at params after_times ≡ Ok (times, after_number)
  after_step : Reading
  reads_step : expect_at (codes "step") after_number ≡ Ok after_step
  after : Reading
  reads_steps : steps_at params after_step ≡ Ok (steps, after)
  left : script_left after ≡ Some rest

turns-again : (params : List KParam) (ws : Words) (times : ℕ) (steps : List ℕ) (r : Reading) (v : Spelled) (rest : Words) → SpellsTurns params ws times steps → bytes_eq v.bytes (codes ",") ≡ false → script_left r ≡ Some (ws ++ v ∷ rest)
    → TurnsRead params r times steps (v ∷ rest)
turns-again params ws times steps r v rest is over left =
    let ps = pointers params in
    let tail = is.inside ++ v ∷ rest in
    let group : ws ++ v ∷ rest ≡ is.before_number ∷ is.number ∷ is.before_steps ∷ tail = ap (λ (t : Words). t ++ v ∷ rest) is.whole in
    let t = expect-again (codes "times") r is.before_number (is.number ∷ is.before_steps ∷ tail) is.is_times (subst (λ (t : Words). script_left r ≡ Some t) group left) in
    let i = integer-again params is.number times t.0 (is.before_steps ∷ tail) is.is_number t.2 in
    let s = expect-again (codes "step") i.0 is.before_steps tail is.is_step i.2 in
    let known = steps-known params is.inside is.written is.are_steps in
    let few = apart-few ps is.written known is.distinct in
    let fewer = pointers-few params in
    let p = steps-again params is.written is.inside s.0 v rest is.are_steps (apart-none ps is.written is.distinct) (omega (arith, few, fewer)) over s.2 in
    let long : length (put (none ps) is.written) ≡ length steps = put-long is.written (none ps) ∙ none-long ps ∙ sym is.each in
    let same : put (none ps) is.written ≡ steps = lists-same (put (none ps) is.written) steps long (λ k. put-written ps is.written k known is.distinct ∙ sym (is.moved k)) in
    record {
      after_times = t.0;
      reads_times = t.1;
      after_number = i.0;
      reads_number = i.1;
      after_step = s.0;
      reads_step = s.1;
      after = p.0;
      reads_steps = subst (λ (q : List ℕ). steps_at params s.0 ≡ Ok (q, p.0)) same p.1;
      left = p.2;
    }

-- some statement stores through a pointer with a step
pub moving-again : (steps : List ℕ) (ss : List Statement) (k : ℕ) (s : Statement) → k < length ss → slice_index_or ss k s ≡ s → StoresMoving steps s → stores_moving steps ss ≡ true
moving-again steps [] k s h e m = absurd (omega arith)
moving-again steps (x ∷ xs) zero s h e m = rw (this x (subst (StoresMoving steps) (sym e) m)) refl
  where
    this : (x : Statement) → StoresMoving steps x → moves steps x ≡ true
    this (assign e) m = absurd m
    this (store w a e) m = lt-ltb 0 (slice_index steps a.pointer) m
moving-again steps (x ∷ xs) (suc k) s h e m = rw (moving-again steps xs k s (omega arith) e m) (either (moves steps x))
  where
    either : (b : Bool) → (b || true) ≡ true
    either true = refl
    either false = refl

-- ---- the whole

loop-again : (r : Reading) (ws : Words) (l : Loop) → script_left r ≡ Some ws → SpellsLoop ws l → loop_at r ≡ Ok l
unfolding loop_at moving_at
loop-again r ws l left is =
    let params = l.kernel.params in
    let block = is.is_block in
    let tail = block.inside ++ block.end ∷ [] in
    let a = expect-again (codes "loop") r is.first (is.head ++ (is.turns ++ is.block)) is.is_first (left ∙ ap Some is.whole) in
    let h = head-again is.head l.kernel.name params a.0 (is.turns ++ is.block) is.is_head a.2 in
    let over : bytes_eq block.begin.bytes (codes ",") ≡ false = ap (λ (t : List ℕ). bytes_eq t (codes ",")) block.is_begin in
    let t = turns-again params is.turns l.times l.steps h.0 block.begin tail is.are_turns over (subst (λ (q : Words). script_left h.0 ≡ Some (is.turns ++ q)) block.whole h.2) in
    let all : block.begin ∷ tail ≡ is.block ++ [] = sym block.whole ∙ sym (append-nil is.block) in
    let b = block-again params is.block l.kernel.statements l.kernel.name t.after [] block (t.left ∙ ap Some all) in
    let m = moving-again l.steps l.kernel.statements is.moving.0 is.moving.1 is.moving.2 is.moving.3 is.moving.4 in
    let d = end-again b.1.0 b.1.2 in
    rw (a.1, h.1, t.reads_times, t.reads_number, t.reads_step, t.reads_steps, b.1.1, m, d.1) refl

pub loop-texts-are-read : (text : List ℕ) (l : Loop) → IsLoopText text l → loop_from text ≡ Ok l
unfolding loop_from
loop-texts-are-read text l is =
    rw (le-leb (length text) 262144 is.size) (loop-again (reading_of text) is.words l is.tokens is.loop)

-- ---- one loop, and no kernel

pub texts-spell-one-loop : (text : List ℕ) (l m : Loop) → IsLoopText text l → IsLoopText text m → l ≡ m
texts-spell-one-loop text l m first second =
    ok_once l m (sym (loop-texts-are-read text l first) ∙ loop-texts-are-read text m second)

pub no-loop-text-is-a-kernel : (text : List ℕ) (l : Loop) (k : Tree) → IsLoopText text l → IsKernelText text k → ⊥
no-loop-text-is-a-kernel text l k loop kernel =
    let spelled : loop.words ≡ kernel.words = some_once loop.words kernel.words (sym loop.tokens ∙ kernel.tokens) in
    let one : loop.loop.first ≡ kernel.kernel.first = first_once loop.loop.first kernel.kernel.first _ _ (sym loop.loop.whole ∙ spelled ∙ kernel.kernel.whole) in
    let no : codes "loop" ≡ codes "kernel" = sym loop.loop.is_first ∙ ap (λ (w : Spelled). w.bytes) one ∙ kernel.kernel.is_first in
    cc
  where
    some_once : (x y : Words) → (let o : Option Words = Some x in o ≡ Some y) → x ≡ y
    some_once x y e = cc

    first_once : (x y : Spelled) (xs ys : Words) → x ∷ xs ≡ y ∷ ys → x ≡ y
    first_once x y xs ys e = cc

pub refused-exactly-where-no-loop : (text : List ℕ) → ((fault : KernelFault) × (loop_from text ≡ Err fault)) ↔ ((l : Loop) → IsLoopText text l → ⊥)
refused-exactly-where-no-loop text = (spells-none, has-fault)
  where
    spells-none : ((fault : KernelFault) × (loop_from text ≡ Err fault)) → (l : Loop) → IsLoopText text l → ⊥
    spells-none (fault, refused) l is = let read = loop-texts-are-read text l is in cc

    has-fault : ((l : Loop) → IsLoopText text l → ⊥) → (fault : KernelFault) × (loop_from text ≡ Err fault)
    has-fault nothing = by (loop_from text) refl
      where
        by : (read : Result Loop KernelFault) → loop_from text ≡ read → (fault : KernelFault) × (loop_from text ≡ Err fault)
        by (Ok l) e = absurd (nothing l (what-is-read-is-a-loop text l e))
        by (Err fault) e = (fault, e)
