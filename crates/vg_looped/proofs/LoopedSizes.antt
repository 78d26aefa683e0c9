-- Looped texts of short programs are within the bound on texts.
use Rattle.std.proofs.Common.{◌≡◌, ℕ, zero, suc, cond, ◌+◌, ◌*◌, ◌≤◌, ◌==◌, Bool, true, false, List, [], ◌∷◌, ◌++◌, length, length-append, arith}
use Rattle.std.specs.Prelude.{codes, filter, slice_get}
use Rattle.std.specs.Fmt.{decimal}
use Rattle.std.specs.List.{AllByRecursion}
use Rattle.std.proofs.lemmas.Fmt.{length-decimal-le}
use Rattle.vg_program.specs.declared.param.Param.{Param}
use Rattle.vg_program.specs.Params.{pointers, integers, is_pointer_kind, is_integer_kind, name_of}
use Rattle.vg_program.specs.Text.{line_end, signature_text, signature_of, body_text}
use Rattle.vg_program.proofs.TextSizes.{AreShort, names-short, signature-short, bodies_short}
use Rattle.vg_looped.specs.declared.looped.Looped.{Looped}
use Rattle.vg_looped.specs.Steps.{Pair, stepped}
use Rattle.vg_looped.specs.Laws.{LoopedProgramsFit}
use Rattle.vg_looped.specs.Looped.{pair_text, pairs_text, turns_text, looped_text}

name-short : (ps : List Param) (k : ℕ) → AreShort ps → length (name_of (slice_get ps k)) ≤ 64
name-short [] k all = omega arith
name-short (q ∷ ps) zero all = all.0
name-short (q ∷ ps) (suc k) all = name-short ps k all.1

kept-short : (test : Param → Bool) (ps : List Param) → AreShort ps → AreShort (filter test ps)
kept-short test [] all = tt
kept-short test (q ∷ ps) all = by (test q) (kept-short test ps all.1)
  where
    by : (b : Bool) → AreShort (filter test ps) → AreShort (cond b (q ∷ filter test ps) (filter test ps))
    by true rest = (all.0, rest)
    by false rest = rest

pub kept-few : (test : Param → Bool) (ps : List Param) → length (filter test ps) ≤ length ps
kept-few test [] = omega arith
kept-few test (q ∷ ps) = by (test q) (kept-few test ps)
  where
    by : (b : Bool) → length (filter test ps) ≤ length ps → length (cond b (q ∷ filter test ps) (filter test ps)) ≤ suc (length ps)
    by true h = omega (arith, h)
    by false h = omega (arith, h)

stepped-few : (k : ℕ) (ss : List ℕ) → length (stepped k ss) ≤ length ss
unfolding stepped
stepped-few k [] = omega arith
stepped-few k (s ∷ ss) = by (s == 0) (stepped-few (k + 1) ss)
  where
    by : (b : Bool) → length (stepped (k + 1) ss) ≤ length ss → length (cond b (stepped (k + 1) ss) ((k, s) ∷ stepped (k + 1) ss)) ≤ suc (length ss)
    by true h = omega (arith, h)
    by false h = omega (arith, h)

abbrev AreNear : List Pair → Type 0
AreNear xs = AllByRecursion (λ x. x.1 ≤ 65536) xs

stepped-near : (k : ℕ) (ss : List ℕ) → AllByRecursion (λ s. s ≤ 65536) ss → AreNear (stepped k ss)
unfolding stepped
stepped-near k [] near = tt
stepped-near k (s ∷ ss) near = by (s == 0) (stepped-near (k + 1) ss near.1)
  where
    by : (b : Bool) → AreNear (stepped (k + 1) ss) → AreNear (cond b (stepped (k + 1) ss) ((k, s) ∷ stepped (k + 1) ss))
    by true rest = rest
    by false rest = (near.0, rest)

pair-short : (params : List Param) (x : Pair) → AreShort params → x.1 ≤ 65536 → length (pair_text params x) ≤ 70
pair-short params x all near =
    let name = name-short (pointers params) x.0 (kept-short (λ q. is_pointer_kind q.kind) params all) in
    let digits : length (decimal x.1) ≤ 5 = length-decimal-le 5 x.1 (omega arith) (omega (arith, near)) (omega arith) in
    joined (name_of (slice_get (pointers params) x.0)) (decimal x.1) name digits
  where
    joined : (a b : List ℕ) → length a ≤ 64 → length b ≤ 5 → length (a ++ (codes " " ++ b)) ≤ 70
    joined a b x y = simp length-append (omega (arith, x, y))

pairs-short : (params : List Param) (xs : List Pair) → AreShort params → AreNear xs → length (pairs_text params xs) ≤ 72 * length xs
unfolding pairs_text
pairs-short params [] all near = omega arith
pairs-short params (x ∷ []) all near = omega (arith, pair-short params x all near.0)
pairs-short params (x ∷ y ∷ xs) all near =
    joined (pair_text params x) (pairs_text params (y ∷ xs)) (length xs) (pair-short params x all near.0) (pairs-short params (y ∷ xs) all near.1)
  where
    joined : (a b : List ℕ) (n : ℕ) → length a ≤ 70 → length b ≤ 72 * suc n → length (a ++ (codes ", " ++ b)) ≤ 72 * suc (suc n)
    joined a b n x y = simp length-append (omega (arith, x, y))

turns-short : (params : List Param) (times : ℕ) (xs : List Pair) (turns : ℕ) → AreShort params → AreNear xs → length xs ≤ 16 → turns ≤ 16
    → length (turns_text params times xs turns) ≤ 1238
turns-short params times xs turns all near few some =
    let name = name-short (integers params) times (kept-short (λ q. is_integer_kind q.kind) params all) in
    let pairs = pairs-short params xs all near in
    let digits : length (decimal turns) ≤ 2 = length-decimal-le 2 turns (omega arith) (omega (arith, some)) (omega arith) in
    joined (name_of (slice_get (integers params) times)) (pairs_text params xs) (decimal turns) name (omega (arith, pairs, few)) digits
  where
    joined : (a p b : List ℕ) → length a ≤ 64 → length p ≤ 1152 → length b ≤ 2
        → length (codes " times " ++ (a ++ (codes " step " ++ (p ++ (codes " block " ++ b))))) ≤ 1238
    joined a p b x y z = simp length-append (omega (arith, x, y, z))

all-short : (s t a b : List ℕ) → length s ≤ 1346 → length t ≤ 1238 → length a ≤ 2002982 → length b ≤ 2002982
    → length (codes "looped " ++ (s ++ (t ++ (line_end ++ (a ++ (codes "rest" ++ (line_end ++ (b ++ (codes "end looped" ++ line_end))))))))) ≤ 4194304
all-short s t a b x y z w = simp length-append (omega (arith, x, y, z, w))

pub looped-fits : LoopedProgramsFit
unfolding looped_text
looped-fits headers l take block rest steps near few first second =
    let ps = l.block.params in
    let all = names-short ps block.params.names in
    let xs = stepped 0 l.steps in
    let sixteen : length xs ≤ 16 = omega (arith, stepped-few 0 l.steps, steps, kept-few (λ q. is_pointer_kind q.kind) ps, block.params.few) in
    let a = bodies_short headers l.block take block first in
    let b = bodies_short headers l.rest take rest second in
    all-short (signature_text (signature_of l.block)) (turns_text ps l.times xs l.turns) (body_text l.block) (body_text l.rest)
    (signature-short (signature_of l.block) block.name block.params) (turns-short ps l.times xs l.turns all (stepped-near 0 l.steps near) sixteen few)
    (omega (arith, a, first)) (omega (arith, b, second))
