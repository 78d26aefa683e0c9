-- What is read as a loop is in the language.
use Rattle.std.proofs.Common.{◌≡◌, ℕ, suc, ◌≤◌, Bool, true, false, List, [], ◌∷◌, ◌++◌, length, Option, Some, None, Result, Ok, inl, inr, refl, sym, ap, subst, ◌∙◌, arith, append-nil}
use Rattle.std.specs.Prelude.{codes, slice_set, slice_index, Any, nat_le, nat_lt, ◌&&◌, ◌||◌, sum_by}
use Rattle.std.specs.Option.{option_map}
use Rattle.std.specs.Str.{bytes_eq}
use Rattle.std.proofs.lemmas.Bool.{leb-true, ltb-true, ltb-false, cases_Bool}
use Rattle.vg_base.specs.Bind.{or_fault}
use Rattle.vg_base.proofs.Bind.{bind_ok, tested_ok, refused_ok, either_way}
use Rattle.vg_text.specs.declared.place.Place.{Place}
use Rattle.vg_text.specs.Number.{decimal_value}
use Rattle.vg_text.specs.Place.{first_place}
use Rattle.vg_text.specs.Words.{Reading, Spelled, reading_of}
use Rattle.vg_kernel.specs.declared.fault.KernelFault.{KernelFault}
use Rattle.vg_kernel.specs.declared.fault.KernelFault.TheVariants.{Shape, DuplicateName, LiteralRange, TooLarge, NoMovingStore}
use Rattle.vg_kernel.specs.declared.given.Given.{Given}
use Rattle.vg_kernel.specs.declared.given.Given.TheVariants as given
use Rattle.vg_kernel.specs.declared.head.Head.{Head}
use Rattle.vg_kernel.specs.declared.parameter.KParam.{KParam}
use Rattle.vg_kernel.specs.Cost.{uses_of}
use Rattle.vg_kernel.specs.Grammar.{Is, AreStatements}
use Rattle.vg_kernel.specs.Names.{parameter_named, names_of}
use Rattle.vg_kernel.specs.Reader.{next_at, expect_at, end_at, name_at, pointer_of}
use Rattle.vg_kernel.specs.Script.{Words, script_left}
use Rattle.vg_kernel.specs.Statements.{parameters_at, statements_at, head_at, block_at}
use Rattle.vg_kernel.specs.Tree.{Statement, assign, store, Tree}
use Rattle.vg_kernel.specs.WellFormed.{pointers}
use Rattle.vg_kernel.proofs.KernelsFound.{parameters-found}
use Rattle.vg_kernel.proofs.OperandsFound.{at}
use Rattle.vg_kernel.proofs.PlacesFound.{decimal-some}
use Rattle.vg_kernel.proofs.Scripts.{Spells, Spells-append, same_text, ok_once, fault-some, next-found, expect-found, end_at-found, name-found}
use Rattle.vg_kernel.proofs.StatementsFound.{statements-found}
use Rattle.vg_loop_laws.specs.Loops.{Loop}
use Rattle.vg_loops.specs.Reader.{integer_of, integer_at, step_of, unstepped, step_at, steps_behind, steps_at, moves, stores_moving, moving_at, loop_at, loop_from}
use Rattle.vg_loops.proofs.Found.{integer-given}
use Rattle.vg_loop_grammar.specs.Grammar.{IsInteger, WrittenStep, IsStep, AreMoreSteps, AreSteps, SpellsHead, SpellsTurns, SpellsBlock, StoresMoving, SpellsLoop, IsLoopText}
use Rattle.vg_loop_grammar.proofs.Params.{given-params, steps-known}
use Rattle.vg_loop_grammar.proofs.StepLists.{none, put, AllFresh, put-long, none-long, put-written, fresh-apart}

-- ---- names of parameters

pointer-given : (g : Option Given) (place : Place) (k : ℕ) → pointer_of g place ≡ Ok k → g ≡ Some (given.Pointer k)
pointer-given (Some (given.Pointer j)) place k e = ap (λ (i : ℕ). Some (given.Pointer i)) (ok_once j k e)
pointer-given (Some (given.Argument j w)) place k e = absurd (cc)
pointer-given (Some (given.Assigned j t)) place k e = absurd (cc)
pointer-given None place k e = absurd (cc)

integer-found : (params : List KParam) (r : Reading) (x : ℕ × Reading) → integer_at params r ≡ Ok x → (word : Spelled) × IsInteger params word x.0 × Spells r (word ∷ []) x.1
unfolding integer_at
integer-found params r x e =
    let n = bind_ok (name_at r) _ e in
    let i = bind_ok (integer_of (parameter_named 0 0 params n.0.0.bytes) n.0.0.place) _ n.2 in
    let known = integer-given (parameter_named 0 0 params n.0.0.bytes) n.0.0.place i.0 i.1 in
    let name = name-found r n.0 n.1 in
    subst (λ (q : ℕ × Reading). (word : Spelled) × IsInteger params word q.0 × Spells r (word ∷ []) q.1) (ok_once (i.0, n.0.1) x i.2)
    (n.0.0, (known.0, name.0, given-params params n.0.0.bytes ∙ known.1), name.1)

-- ---- steps

both-held : (a b : Bool) → (a && b) ≡ true → (a ≡ true) × (b ≡ true)
both-held true b e = (refl, e)
both-held false b e = absurd (cc)

-- what was read as the bytes of a step
number-found : (word : Spelled) (b : ℕ) → step_of word ≡ Ok b → (decimal_value word.bytes ≡ Some b) × (1 ≤ b) × (b ≤ 65536)
number-found word b e =
    let n = bind_ok (or_fault (decimal_value word.bytes) (Shape word.place)) _ e in
    let t = tested_ok (nat_lt 0 n.0 && nat_le n.0 65536) (Ok n.0) (LiteralRange word.place) n.2 in
    let both = both-held (nat_lt 0 n.0) (nat_le n.0 65536) t.0 in
    subst (λ (m : ℕ). (decimal_value word.bytes ≡ Some m) × (1 ≤ m) × (m ≤ 65536)) (ok_once n.0 b t.1)
    (fault-some _ _ n.0 n.1, ltb-true 0 n.0 both.0, leb-true n.0 65536 both.1)

-- a step of a pointer that had none
record FoundStep (params : List KParam) (before : List ℕ) (r : Reading) (x : List ℕ × Reading) : Type 0 where
  step : WrittenStep
  words : Words
  is : IsStep params words step
  fresh : slice_index before step.pointer ≡ 0
  all : x.0 ≡ slice_set before step.pointer step.bytes
  spells : Spells r words x.1

step-found : (params : List KParam) (before : List ℕ) (r : Reading) (x : List ℕ × Reading) → step_at params before r ≡ Ok x → FoundStep params before r x
unfolding step_at
step-found params before r x e =
    let n = bind_ok (name_at r) _ e in
    let p = bind_ok (pointer_of (parameter_named 0 0 params n.0.0.bytes) n.0.0.place) _ n.2 in
    let f = bind_ok (unstepped before p.0 n.0.0.place) _ p.2 in
    let w = bind_ok (next_at n.0.1) _ f.2 in
    let s = bind_ok (step_of w.0.0) _ w.2 in
    let t = refused_ok (nat_lt 0 (slice_index before p.0)) (Ok p.0) (DuplicateName n.0.0.place) f.1 in
    let same = ok_once p.0 f.0 t.1 in
    let free = ltb-false 0 (slice_index before p.0) t.0 in
    let name = name-found r n.0 n.1 in
    let pointer = given-params params n.0.0.bytes ∙ pointer-given (parameter_named 0 0 params n.0.0.bytes) n.0.0.place p.0 p.1 in
    let number = number-found w.0.0 s.0 s.1 in
    let word = next-found n.0.1 w.0 w.1 (decimal-some w.0.0.bytes s.0 number.0) in
    subst (FoundStep params before r) (ok_once (slice_set before f.0 s.0, w.0.1) x s.2)
    (record {
      step = record { pointer = p.0; bytes = s.0 };
      words = n.0.0 ∷ w.0.0 ∷ [];
      is = (n.0.0, w.0.0, (name.0, pointer), number.0, number.1, number.2, refl);
      fresh = omega (arith, free);
      all = ap (λ (k : ℕ). slice_set before k s.0) (sym same);
      spells = Spells-append r n.0.1 w.0.1 (n.0.0 ∷ []) (w.0.0 ∷ []) name.1 word;
    })

-- steps after commas
record FoundMore (params : List KParam) (before : List ℕ) (r : Reading) (x : List ℕ × Reading) : Type 0 where
  written : List WrittenStep
  words : Words
  are : AreMoreSteps params words written
  fresh : AllFresh before written
  all : x.0 ≡ put before written
  spells : Spells r words x.1

nothing-between : (r : Reading) → Spells r [] r
nothing-between r = by_left (script_left r)
  where
    by_left : (o : Option Words) → o ≡ option_map (λ (b : Words). [] ++ b) o
    by_left None = refl
    by_left (Some b) = refl

more-none : (params : List KParam) (before : List ℕ) (r : Reading) (x : List ℕ × Reading) → (let whole : Result (List ℕ × Reading) KernelFault = Ok (before, r) in whole ≡ Ok x) → FoundMore params before r x
more-none params before r x e =
    subst (FoundMore params before r) (ok_once (before, r) x e)
    (record { written = []; words = []; are = refl; fresh = tt; all = refl; spells = nothing-between r })

-- a comma
comma-word : (r : Reading) (w : Spelled × Reading) → next_at r ≡ Ok w → bytes_eq w.0.bytes (codes ",") ≡ true → Is w.0 (codes ",") × Spells r (w.0 ∷ []) w.1
comma-word r w e t =
    let is = same_text w.0.bytes (codes ",") t in
    (is, next-found r w e (λ empty. let no : [] ≡ codes "," = sym empty ∙ is in cc))

more-one : (params : List KParam) (before : List ℕ) (r r' : Reading) (comma : Spelled) (s x : List ℕ × Reading) → Is comma (codes ",") → Spells r (comma ∷ []) r' → FoundStep params before r' s → FoundMore params s.0 s.1 x → FoundMore params before r x
more-one params before r r' comma s x is first one more =
    let front = comma ∷ one.words in record {
      written = one.step ∷ more.written;
      words = comma ∷ (one.words ++ more.words);
      are = (comma, one.words, more.words, is, one.is, more.are, refl);
      fresh = (one.fresh, subst (λ (q : List ℕ). AllFresh q more.written) one.all more.fresh);
      all = more.all ∙ ap (λ (q : List ℕ). put q more.written) one.all;
      spells = Spells-append r s.1 x.1 front more.words (Spells-append r r' s.1 (comma ∷ []) one.words first one.spells) more.spells;
    }

behind-found : (room params : List KParam) (before : List ℕ) (r : Reading) (x : List ℕ × Reading) → steps_behind room params before r ≡ Ok x → FoundMore params before r x
unfolding steps_behind
behind-found [] params before r x e = more-none params before r x e
behind-found (p ∷ room) params before r x e =
    let c = bind_ok (next_at r) _ e in
    elim (either_way (bytes_eq c.0.0.bytes (codes ",")) _ _ c.2) [
      | inl more ↦
          let word = comma-word r c.0 c.1 more.0 in
          let s = bind_ok (step_at params before c.0.1) _ more.1 in
          more-one params before r c.0.1 c.0.0 s.0 x word.0 word.1 (step-found params before c.0.1 s.0 s.1) (behind-found room params s.0.0 s.0.1 x s.2)
      | inr over ↦ more-none params before r x over.1
    ]

-- one step at least
record FoundSteps (params : List KParam) (r : Reading) (x : List ℕ × Reading) : Type 0 where
  written : List WrittenStep
  words : Words
  are : AreSteps params words written
  fresh : AllFresh (none (pointers params)) written
  all : x.0 ≡ put (none (pointers params)) written
  spells : Spells r words x.1

steps-found : (params : List KParam) (r : Reading) (x : List ℕ × Reading) → steps_at params r ≡ Ok x → FoundSteps params r x
unfolding steps_at
steps-found params r x e =
    let f = bind_ok (step_at params (none (pointers params)) r) _ e in
    let one = step-found params (none (pointers params)) r f.0 f.1 in
    let more = behind-found params params f.0.0 f.0.1 x f.2 in
    record {
      written = one.step ∷ more.written;
      words = one.words ++ more.words;
      are = (one.words, more.words, one.is, more.are, refl);
      fresh = (one.fresh, subst (λ (q : List ℕ). AllFresh q more.written) one.all more.fresh);
      all = more.all ∙ ap (λ (q : List ℕ). put q more.written) one.all;
      spells = Spells-append r f.0.1 x.1 one.words more.words one.spells more.spells;
    }

-- ---- the parts of a loop

-- `name (parameters)`
head-found : (r : Reading) (x : Head × Reading) → head_at r ≡ Ok x → (ws : Words) × SpellsHead ws x.0.name x.0.params × Spells r ws x.1
unfolding head_at
head-found r x e =
    let n = bind_ok (name_at r) _ e in
    let o = bind_ok (expect_at (codes "(") n.0.1) _ n.2 in
    let p = bind_ok (parameters_at o.0) _ o.2 in
    let name = name-found r n.0 n.1 in
    let opening = expect-found 40 [] n.0.1 o.0 o.1 in
    let params = parameters-found o.0 p.0 p.1 in
    let inside = params.words ++ params.closing ∷ [] in
    let headed : Head × Reading = (record { name = n.0.0.bytes; params = p.0.0 }, p.0.1) in
    subst (λ (q : Head × Reading). (ws : Words) × SpellsHead ws q.0.name q.0.params × Spells r ws q.1) (ok_once headed x p.2) (
      n.0.0 ∷ opening.0 ∷ inside,
      record {
        named = n.0.0;
        is_named = refl;
        free = name.0;
        opening = opening.0;
        is_opening = opening.1;
        between = params.words;
        are_params = params.are;
        distinct = params.distinct;
        few = params.few;
        closing = params.closing;
        is_closing = params.is_closing;
        whole = refl;
      },
      Spells-append r n.0.1 p.0.1 (n.0.0 ∷ []) (opening.0 ∷ inside) name.1 (Spells-append n.0.1 o.0 p.0.1 (opening.0 ∷ []) inside opening.2 params.spells),
    )

-- `times n step p S, ..`
turns-found : (params : List KParam) (r : Reading) (t : Reading) (i : ℕ × Reading) (s : Reading) (x : List ℕ × Reading) → expect_at (codes "times") r ≡ Ok t → integer_at params t ≡ Ok i → expect_at (codes "step") i.1 ≡ Ok s → steps_at params s ≡ Ok x
    → (ws : Words) × SpellsTurns params ws i.0 x.0 × Spells r ws x.1
turns-found params r t i s x et ei es ex =
    let times = expect-found 116 (codes "imes") r t et in
    let number = integer-found params t i ei in
    let step = expect-found 115 (codes "tep") i.1 s es in
    let f = steps-found params s x ex in
    let known = steps-known params f.words f.written f.are in
    let apart = fresh-apart f.written (none (pointers params)) (length (pointers params)) (none-long (pointers params)) known f.fresh in
    let s2 = Spells-append i.1 s x.1 (step.0 ∷ []) f.words step.2 f.spells in
    let s1 = Spells-append t i.1 x.1 (number.0 ∷ []) (step.0 ∷ f.words) number.2 s2 in (
      times.0 ∷ number.0 ∷ step.0 ∷ f.words,
      record {
        before_number = times.0;
        is_times = times.1;
        number = number.0;
        is_number = number.1;
        before_steps = step.0;
        is_step = step.1;
        written = f.written;
        inside = f.words;
        are_steps = f.are;
        distinct = apart;
        each = ap (λ (q : List ℕ). length q) f.all ∙ put-long f.written (none (pointers params)) ∙ none-long (pointers params);
        moved = λ k. ap (λ (q : List ℕ). slice_index q k) f.all ∙ put-written (pointers params) f.written k known apart;
        whole = refl;
      },
      Spells-append r t x.1 (times.0 ∷ []) (number.0 ∷ step.0 ∷ f.words) times.2 s1,
    )

-- `{ statements }` after a head, of which name and parameters are those of the whole
record FoundBlock (h : Head) (r : Reading) (x : (Tree × Place) × Reading) : Type 0 where
  words : Words
  is : SpellsBlock h.params words x.0.0.statements
  name : h.name ≡ x.0.0.name
  params : h.params ≡ x.0.0.params
  spells : Spells r words x.1

block-found : (h : Head) (r : Reading) (x : (Tree × Place) × Reading) → block_at h r ≡ Ok x → FoundBlock h r x
unfolding block_at
block-found h r x e =
    let b = bind_ok (expect_at (codes "{") r) _ e in
    let s = bind_ok (statements_at 4096 (names_of h.params) [] (at b.0 0)) _ b.2 in
    let closed : (Tree × Place) × Reading = ((record { name = h.name; params = h.params; statements = s.0.0.0 }, s.0.0.1), s.0.1) in
    let begin = expect-found 123 [] r b.0 b.1 in
    let f = statements-found 4096 (names_of h.params) [] (at b.0 0) s.0 s.1 in
    let uses = f.uses (omega arith) in
    let inside = f.words ++ f.brace ∷ [] in
    subst (FoundBlock h r) (ok_once closed x s.2)
    (record {
      words = begin.0 ∷ inside;
      is = record {
        begin = begin.0;
        is_begin = begin.1;
        inside = f.words;
        are_statements = subst (AreStatements (names_of h.params) f.words) (sym f.all) f.are;
        lines = subst (λ (t : List Statement). length t ≤ 4096) (sym f.all) f.few;
        uses = subst (λ (t : List Statement). sum_by uses_of t ≤ 8192) (sym f.all) (omega (arith, uses));
        end = f.brace;
        is_end = f.is_brace;
        whole = refl;
      };
      name = refl;
      params = refl;
      spells = Spells-append r b.0 s.0.1 (begin.0 ∷ []) inside begin.2 f.spells;
    })

-- some statement stores through a pointer with a step
moving-found : (steps : List ℕ) (ss : List Statement) → stores_moving steps ss ≡ true → Any (StoresMoving steps) ss
moving-found steps [] e = absurd (cc)
moving-found steps (s ∷ ss) e = elim (cases_Bool (moves steps s)) [
  | inl here ↦ (0, s, omega arith, refl, this s here)
  | inr not ↦
      let more = moving-found steps ss (behind (moves steps s) (stores_moving steps ss) e not) in
      (suc more.0, more.1, omega (arith, more.2), more.3, more.4)
]
  where
    this : (s : Statement) → moves steps s ≡ true → StoresMoving steps s
    this (assign e) t = absurd (cc)
    this (store w a e) t = ltb-true 0 (slice_index steps a.pointer) t

    behind : (a b : Bool) → (a || b) ≡ true → a ≡ false → b ≡ true
    behind true b e f = absurd (cc)
    behind false b e f = e

-- ---- the whole

loop-found : (r : Reading) (l : Loop) → loop_at r ≡ Ok l → (ws : Words) × (script_left r ≡ Some ws) × SpellsLoop ws l
unfolding loop_at moving_at
loop-found r l e =
    let a = bind_ok (expect_at (codes "loop") r) _ e in
    let h = bind_ok (head_at a.0) _ a.2 in
    let t = bind_ok (expect_at (codes "times") h.0.1) _ h.2 in
    let i = bind_ok (integer_at h.0.0.params t.0) _ t.2 in
    let s = bind_ok (expect_at (codes "step") i.0.1) _ i.2 in
    let p = bind_ok (steps_at h.0.0.params s.0) _ s.2 in
    let b = bind_ok (block_at h.0.0 p.0.1) _ p.2 in
    let m = bind_ok (moving_at p.0.0 b.0) _ b.2 in
    let moving = tested_ok (stores_moving p.0.0 b.0.0.0.statements) (Ok b.0.1) (NoMovingStore b.0.0.1) m.1 in
    let d = bind_ok (end_at m.0) _ m.2 in
    let first = expect-found 108 (codes "oop") r a.0 a.1 in
    let head = head-found a.0 h.0 h.1 in
    let turns = turns-found h.0.0.params h.0.1 t.0 i.0 s.0 p.0 t.1 i.1 s.1 p.1 in
    let block = block-found h.0.0 p.0.1 b.0 b.1 in
    let same = ok_once b.0.1 m.0 moving.1 in
    let over : script_left b.0.1 ≡ Some [] = subst (λ (q : Reading). script_left q ≡ Some []) (sym same) (end_at-found m.0 d.0 d.1) in
    let behind = turns.0 ++ block.words in
    let s2 = Spells-append h.0.1 p.0.1 b.0.1 turns.0 block.words turns.2 block.spells in
    let s1 = Spells-append a.0 h.0.1 b.0.1 head.0 behind head.2 s2 in
    let s0 = Spells-append r a.0 b.0.1 (first.0 ∷ []) (head.0 ++ behind) first.2 s1 in
    let words = first.0 ∷ (head.0 ++ behind) in
    let params = λ (P : List KParam → Type 0) (x : P h.0.0.params). subst P block.params x in
    subst (λ (q : Loop). (ws : Words) × (script_left r ≡ Some ws) × SpellsLoop ws q) (ok_once (record { kernel = b.0.0.0; times = i.0.0; steps = p.0.0 }) l d.2) (
      words,
      s0 ∙ ap (option_map (λ (q : Words). words ++ q)) over ∙ ap Some (append-nil words),
      record {
        first = first.0;
        is_first = first.1;
        head = head.0;
        is_head = subst (λ (n : List ℕ). SpellsHead head.0 n b.0.0.0.params) block.name (params (λ ps. SpellsHead head.0 h.0.0.name ps) head.1);
        turns = turns.0;
        are_turns = params (λ ps. SpellsTurns ps turns.0 i.0.0 p.0.0) turns.1;
        block = block.words;
        is_block = params (λ ps. SpellsBlock ps block.words b.0.0.0.statements) block.is;
        moving = moving-found p.0.0 b.0.0.0.statements moving.0;
        whole = refl;
      },
    )

pub what-is-read-is-a-loop : (text : List ℕ) (l : Loop) → loop_from text ≡ Ok l → IsLoopText text l
unfolding loop_from
what-is-read-is-a-loop text l e =
    let t = tested_ok (nat_le (length text) 262144) (loop_at (reading_of text)) (TooLarge first_place) e in
    let found = loop-found (reading_of text) l t.1 in
    record { size = leb-true (length text) 262144 t.0; words = found.0; tokens = found.1; loop = found.2 }
