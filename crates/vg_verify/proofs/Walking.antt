-- The walk over lines, and that it needs of the bits that are read no more than where they are found.
use Rattle.std.proofs.Common.{◌≡◌, ℕ, suc, ◌+◌, ◌-◌, ◌*◌, ◌<◌, ◌≤◌, List, [], ◌∷◌, ◌++◌, length, drop, take, get_or, replicate, refl, sym, ap, ◌∙◌, arith, drop-cons}
use Rattle.vg_base.specs.Width.{bits_of}
use Rattle.vg_terms.specs.Term.{Tree}
use Rattle.vg_lift.specs.Gather.{Bit, clear, bits_from}
use Rattle.vg_bits.specs.Range.{replaced}
use Rattle.vg_program.specs.declared.line.Line.{Line}
use Rattle.vg_program.specs.declared.line.Line.TheVariants.{Load, Store, Two, Shift, Resize, Compare, Select, VectorLoad, VectorStore, Constant, Insert, Extract, Call}
use Rattle.vg_program.specs.declared.program.Program.{Program}
use Rattle.vg_shapes.specs.declared.ssa.Ssa.{Ssa}
use Rattle.vg_shapes.specs.Units.{arguments}
use Rattle.vg_program.specs.declared.operand.Operand.{Operand}
use Rattle.vg_program.specs.declared.operand.Operand.TheVariants.{Register, Argument, Literal}
use Rattle.vg_program.specs.Vectors.{bytes_of, register_of}
use Rattle.vg_shapes.specs.declared.ssa_unit.Operator.TheVariants as operator
use Rattle.vg_ssa.specs.ValueTerm.{no_term}
use Rattle.vg_catalog.specs.Entries.{Entry}
use Rattle.vg_known.specs.Cuts.{computed, gathered}
use Rattle.vg_known.specs.Difference.{Sides, sides_of}
use Rattle.vg_known.specs.Kernels.{bits_at, kernel_reads, kernel_terms, Terms}
use Rattle.vg_known.specs.Known.{event_bits, Given, know, know_all, Known, known_bits, operand_term, with_puts, with_scalar, with_vector}
use Rattle.vg_forms.specs.declared.run.Run.{Run}
use Rattle.vg_verify.specs.Finding.{HasFirst}
use Rattle.vg_verify.specs.Noting.{Walked}
use Rattle.vg_verify.specs.Views.{begun_with, given_with, pairs_in}
use Rattle.vg_verify.proofs.Beginning.{drop-end}
use Rattle.vg_verify.proofs.Finding.{same_bits}

-- ---- the same bits

events_same : (f g : ℕ → List Bit) → ((e : ℕ) → f e ≡ g e) → (es : List ℕ) → event_bits f es ≡ event_bits g es
events_same f g same [] = refl
events_same f g same (e ∷ es) = ap (λ x. x ++ event_bits f es) (same e) ∙ ap (λ x. g e ++ x) (events_same f g same es)

operand_same : (calls : List Entry) (args : List Tree) (xs ys : List (ℕ × List Bit)) (k : Known) (x : Operand) → operand_term (given_with calls args xs) k x ≡ operand_term (given_with calls args ys) k x
operand_same calls args xs ys k (Register r) = refl
operand_same calls args xs ys k (Argument a) = refl
operand_same calls args xs ys k (Literal w n) = refl

know_same : (calls : List Entry) (args : List Tree) (xs ys : List (ℕ × List Bit)) → ((e : ℕ) → bits_at xs e ≡ bits_at ys e) → (l : Line) (es : List ℕ) (k : Known)
    → know (given_with calls args xs) l es k ≡ know (given_with calls args ys) l es k
know_same calls args xs ys same (Load w a) es k = ap (λ bs. with_scalar k (gathered k.met bs)) (events_same (bits_at xs) (bits_at ys) same es)
know_same calls args xs ys same (Store w a x) es k = ap (λ t. with_puts k es (bits_from t 0 (bits_of w))) (operand_same calls args xs ys k x)
know_same calls args xs ys same (Two op w x y) es k =
    ap (λ t. with_scalar k (computed k.met (operator.Two op) (bits_of w) 0 t (operand_term (given_with calls args xs) k y) no_term)) (operand_same calls args xs ys k x)
    ∙ ap (λ t. with_scalar k (computed k.met (operator.Two op) (bits_of w) 0 (operand_term (given_with calls args ys) k x) t no_term)) (operand_same calls args xs ys k y)
know_same calls args xs ys same (Shift op w x n) es k = ap (λ t. with_scalar k (computed k.met (operator.Shift op) (bits_of w) n t no_term no_term)) (operand_same calls args xs ys k x)
know_same calls args xs ys same (Resize op w from x) es k = ap (λ t. with_scalar k (computed k.met (operator.Resize op from) (bits_of w) 0 t no_term no_term)) (operand_same calls args xs ys k x)
know_same calls args xs ys same (Compare op w x y) es k =
    ap (λ t. with_scalar k (computed k.met (operator.Compare op) (bits_of w) 0 t (operand_term (given_with calls args xs) k y) no_term)) (operand_same calls args xs ys k x)
    ∙ ap (λ t. with_scalar k (computed k.met (operator.Compare op) (bits_of w) 0 (operand_term (given_with calls args ys) k x) t no_term)) (operand_same calls args xs ys k y)
know_same calls args xs ys same (Select w c x y) es k =
    let g = given_with calls args xs in
    let h = given_with calls args ys in
    ap (λ t. with_scalar k (computed k.met operator.Select (bits_of w) 0 t (operand_term g k x) (operand_term g k y))) (operand_same calls args xs ys k c)
    ∙ ap (λ t. with_scalar k (computed k.met operator.Select (bits_of w) 0 (operand_term h k c) t (operand_term g k y))) (operand_same calls args xs ys k x)
    ∙ ap (λ t. with_scalar k (computed k.met operator.Select (bits_of w) 0 (operand_term h k c) (operand_term h k x) t)) (operand_same calls args xs ys k y)
know_same calls args xs ys same (VectorLoad z a) es k =
    ap (λ bs. with_vector k (bs ++ replicate (register_of z - 8 * bytes_of z) clear)) (events_same (bits_at xs) (bits_at ys) same es)
know_same calls args xs ys same (VectorStore z a v) es k = refl
know_same calls args xs ys same (Constant bs) es k = refl
know_same calls args xs ys same (Insert v bits n w x) es k = ap (λ t. with_vector k (replaced (n * bits_of w) (bits_from t 0 (bits_of w)) (known_bits k v))) (operand_same calls args xs ys k x)
know_same calls args xs ys same (Extract v n w) es k = refl
know_same calls args xs ys same (Call name vs imm bits cost) es k = refl

know_all_same : (calls : List Entry) (args : List Tree) (xs ys : List (ℕ × List Bit)) → ((e : ℕ) → bits_at xs e ≡ bits_at ys e) → (ls : List Line) (ess : List (List ℕ)) (k : Known)
    → know_all (given_with calls args xs) ls ess k ≡ know_all (given_with calls args ys) ls ess k
know_all_same calls args xs ys same [] ess k = refl
know_all_same calls args xs ys same (l ∷ ls) [] k = refl
know_all_same calls args xs ys same (l ∷ ls) (es ∷ ess) k =
    ap (λ (next : Known). know_all (given_with calls args xs) ls ess next) (know_same calls args xs ys same l es k) ∙ know_all_same calls args xs ys same ls ess (know (given_with calls args ys) l es k)

pub known_same : (calls : List Entry) (args : List Tree) (table : List (ℕ × List Run)) (pairs : List (ℕ × List Bit)) (ls : List Line) (ess : List (List ℕ)) (start k all : Known)
    → HasFirst table pairs → k ≡ start → all ≡ know_all (given_with calls args (pairs_in table)) ls ess k → all ≡ know_all (given_with calls args pairs) ls ess start
known_same calls args table pairs ls ess start k all h begun walked =
    walked ∙ ap (λ (from : Known). know_all (given_with calls args (pairs_in table)) ls ess from) begun ∙ know_all_same calls args (pairs_in table) pairs (same_bits table pairs h) ls ess start

-- ---- lines by places

pub walked_none : (g : Given) (ls : List Line) (ess : List (List ℕ)) (k : Known) → Walked g ls ess 0 k (know_all g ls ess k)
walked_none g ls ess k = record { is = refl }

pub split : {A : Type 0} (xs : List A) (place : ℕ) (x : A) → place < length xs → x ≡ get_or xs place x → drop place xs ≡ x ∷ drop (place + 1) xs
split xs place x h e =
    let f : suc place ≡ place + 1 = omega arith in
    drop-cons xs place x h ∙ ap (λ y. y ∷ drop (suc place) xs) (sym e) ∙ ap (λ k. x ∷ drop k xs) f

pub walked_more : (g : Given) (ls : List Line) (ess : List (List ℕ)) (place : ℕ) (k new all : Known) (l : Line) (es : List ℕ) → Walked g ls ess place k all → place < length ls → length ls ≤ length ess
    → l ≡ get_or ls place l → es ≡ get_or ess place es → new ≡ know g l es k → Walked g ls ess (place + 1) new all
walked_more g ls ess place k new all l es w h enough is own made = record {
  is =
      ap (λ (n : Known). know_all g (drop (place + 1) ls) (drop (place + 1) ess) n) made
      ∙ ap (λ (rest : List Line). know_all g rest (es ∷ drop (place + 1) ess) k) (sym (split ls place l h is))
      ∙ ap (λ (rest : List (List ℕ)). know_all g (drop place ls) rest k) (sym (split ess place es (omega (arith, h, enough)) own))
      ∙ w.is;
}

pub walked_all : (g : Given) (ls : List Line) (ess : List (List ℕ)) (place : ℕ) (k all : Known) → Walked g ls ess place k all → length ls ≤ place → k ≡ all
walked_all g ls ess place k all w h = ap (λ (rest : List Line). know_all g rest (drop place ess) k) (sym (drop-end ls place h)) ∙ w.is

-- ---- both sides

pub sides_same : (calls : List Entry) (ssa : Ssa) (p : Program) (lines : List (List ℕ)) (ts met own : List Tree) (reads : List (ℕ × List Bit)) (k : Known) → record { terms = ts; met = met } ≡ kernel_terms ssa
    → own ≡ take (arguments ssa) ts → reads ≡ kernel_reads ssa ts → k ≡ know_all (given_with calls own reads) p.lines lines (begun_with met)
    → record { terms = ts; known = k } ≡ sides_of calls ssa p lines
sides_same calls ssa p lines ts met own reads k e is given walked =
    let side : Terms → Sides = λ s. record {
      terms = s.terms;
      known = know_all (given_with calls (take (arguments ssa) s.terms) (kernel_reads ssa s.terms)) p.lines lines (begun_with s.met);
    } in
    ap (λ (known : Known). let s : Sides = record { terms = ts; known = known } in s)
    (walked ∙ ap (λ (a : List Tree). know_all (given_with calls a reads) p.lines lines (begun_with met)) is
    ∙ ap (λ (r : List (ℕ × List Bit)). know_all (given_with calls (take (arguments ssa) ts) r) p.lines lines (begun_with met)) given)
    ∙ ap side e
