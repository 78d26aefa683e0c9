-- What is read as a loop keeps the rules.
use Rattle.std.proofs.Common.{◌≡◌, ℕ, zero, suc, ◌+◌, ◌<◌, ◌≤◌, Bool, true, false, List, [], ◌∷◌, length, map, Option, Some, None, Result, Ok, Err, inl, inr, refl, sym, ap, subst, ◌∙◌, arith}
use Rattle.std.specs.Prelude.{codes, slice_set, slice_index, IfOk, IsTrue, nat_le, nat_lt, ◌&&◌, if◌then◌else◌}
use Rattle.std.specs.List.{AllByRecursion}
use Rattle.std.specs.Str.{bytes_eq}
use Rattle.std.proofs.lemmas.Bool.{leb-true}
use Rattle.vg_base.specs.Bind.{or_fault}
use Rattle.vg_base.proofs.Bind.{bind_ok, tested_ok, refused_ok, either_way}
use Rattle.vg_base.specs.declared.width.Width.{Width}
use Rattle.vg_text.specs.declared.place.Place.{Place}
use Rattle.vg_text.specs.Number.{decimal_value}
use Rattle.vg_text.specs.Words.{Reading, Spelled, reading_of}
use Rattle.vg_kernel.specs.declared.fault.KernelFault.{KernelFault}
use Rattle.vg_kernel.specs.declared.fault.KernelFault.TheVariants.{Shape, LiteralRange}
use Rattle.vg_kernel.specs.declared.given.Given.{Given}
use Rattle.vg_kernel.specs.declared.given.Given.TheVariants as given
use Rattle.vg_kernel.specs.declared.head.Head.{Head}
use Rattle.vg_kernel.specs.declared.parameter.KParam.{KParam}
use Rattle.vg_kernel.specs.declared.parameter.KParamKind.{KParamKind}
use Rattle.vg_kernel.specs.declared.parameter.KParamKind.TheVariants.{Pointer, Integer}
use Rattle.vg_kernel.specs.Gives.{Gives}
use Rattle.vg_kernel.specs.Names.{parameter_named, given_of, is_pointer, names_of}
use Rattle.vg_kernel.specs.Reader.{next_at, expect_at, end_at, name_at, pointer_of}
use Rattle.vg_kernel.specs.Statements.{head_at, block_at, statements_at}
use Rattle.vg_kernel.specs.Tree.{Tree}
use Rattle.vg_kernel.specs.WellFormed.{pointers, integer_widths}
use Rattle.vg_kernel.proofs.Heads.{head-well_formed, block-well_formed}
use Rattle.vg_kernel.proofs.OperandsFound.{at}
use Rattle.vg_kernel.proofs.Scripts.{ok_once, true_fact}
use Rattle.vg_loop_laws.specs.Loops as laws
use Rattle.vg_loops.specs.declared.counted.Loop.{Loop}
use Rattle.vg_loops.specs.Formed.{IsLoop}
use Rattle.vg_loops.specs.Reader.{integer_of, integer_at, step_of, unstepped, step_at, steps_behind, steps_at, stores_moving, moving_at, loop_at, loop_from}
use Rattle.vg_loops.specs.View.{loop_of}

-- ---- the integer parameter

-- an integer parameter that is named is one of them
pub integer-known : (n m : ℕ) (ps : List KParam) (name : List ℕ) (k : ℕ) (w : Width) → parameter_named n m ps name ≡ Some (given.Argument k w)
    → k < m + length (integer_widths ps)
unfolding parameter_named
integer-known n m [] name k w e = absurd (cc)
integer-known n m (p ∷ ps) name k w e =
    by p.kind refl (λ f. integer-known (n + 1) m ps name k w f) (λ f. integer-known n (m + 1) ps name k w f)
  where
    by : (q : KParamKind) → p.kind ≡ q
        → (parameter_named (n + 1) m ps name ≡ Some (given.Argument k w) → k < m + length (integer_widths ps))
        → (parameter_named n (m + 1) ps name ≡ Some (given.Argument k w) → k < (m + 1) + length (integer_widths ps))
        → k < m + length (integer_widths (p ∷ ps))
    by (Pointer noalias) f behind beside = elim (either_way (bytes_eq p.name name) (Some (given_of p.kind n m)) _ e) [
      | inl here ↦ absurd (let found : Some (given.Pointer n) ≡ Some (given.Argument k w) = sym (ap (λ (q : KParamKind). Some (given_of q n m)) f) ∙ here.1 in cc)
      | inr more ↦
          let next : parameter_named (n + 1) m ps name ≡ Some (given.Argument k w) =
          ap (λ (q : KParamKind). if is_pointer q then parameter_named (n + 1) m ps name else parameter_named n (m + 1) ps name) (sym f) ∙ more.1 in
          let less = behind next in
          let same : length (integer_widths (p ∷ ps)) ≡ length (integer_widths ps) = rw f refl in
          omega (arith, less, same)
    ]
    by (Integer v) f behind beside = elim (either_way (bytes_eq p.name name) (Some (given_of p.kind n m)) _ e) [
      | inl here ↦
          let found : Some (given.Argument m v) ≡ Some (given.Argument k w) = sym (ap (λ (q : KParamKind). Some (given_of q n m)) f) ∙ here.1 in
          let number : m ≡ k = cc in
          let same : length (integer_widths (p ∷ ps)) ≡ suc (length (integer_widths ps)) = rw f refl in
          omega (arith, number, same)
      | inr more ↦
          let next : parameter_named n (m + 1) ps name ≡ Some (given.Argument k w) =
          ap (λ (q : KParamKind). if is_pointer q then parameter_named (n + 1) m ps name else parameter_named n (m + 1) ps name) (sym f) ∙ more.1 in
          let less = beside next in
          let same : length (integer_widths (p ∷ ps)) ≡ suc (length (integer_widths ps)) = rw f refl in
          omega (arith, less, same)
    ]

pub integer-given : (g : Option Given) (place : Place) (k : ℕ) → integer_of g place ≡ Ok k → (w : Width) × (g ≡ Some (given.Argument k w))
integer-given (Some (given.Argument j w)) place k e = (w, ap (λ (i : ℕ). Some (given.Argument i w)) (ok_once j k e))
integer-given (Some (given.Pointer j)) place k e = absurd (cc)
integer-given (Some (given.Assigned j t)) place k e = absurd (cc)
integer-given None place k e = absurd (cc)

integer-found : (params : List KParam) (r : Reading) (x : ℕ × Reading) → integer_at params r ≡ Ok x → x.0 < length (integer_widths params)
unfolding integer_at
integer-found params r x e =
    let n = bind_ok (name_at r) _ e in
    let i = bind_ok (integer_of (parameter_named 0 0 params n.0.0.bytes) n.0.0.place) _ n.2 in
    let known = integer-given (parameter_named 0 0 params n.0.0.bytes) n.0.0.place i.0 i.1 in
    let less = integer-known 0 0 params n.0.0.bytes i.0 known.0 known.1 in
    let same : i.0 ≡ x.0 = ap (λ (y : ℕ × Reading). y.0) (ok_once (i.0, n.0.1) x i.2) in
    omega (arith, less, same)

-- ---- steps

abbrev Small : List ℕ → Type 0
Small steps = AllByRecursion (λ s. s ≤ 65536) steps

pub set-long : (xs : List ℕ) (k s : ℕ) → length (slice_set xs k s) ≡ length xs
set-long [] k s = refl
set-long (x ∷ xs) zero s = refl
set-long (x ∷ xs) (suc k) s = ap suc (set-long xs k s)

set-small : (xs : List ℕ) (k s : ℕ) → s ≤ 65536 → Small xs → Small (slice_set xs k s)
set-small [] k s few small = small
set-small (x ∷ xs) zero s few small = (few, small.1)
set-small (x ∷ xs) (suc k) s few small = (small.0, set-small xs k s few small.1)

none-small : (ps : List KParam) → Small (map (λ p. 0) ps)
none-small [] = tt
none-small (p ∷ ps) = (omega arith, none-small ps)

none-long : (ps : List KParam) → length (map (λ p. (let no : ℕ = 0 in no)) ps) ≡ length ps
none-long [] = refl
none-long (p ∷ ps) = ap suc (none-long ps)

both-hold : (a b : Bool) → (a && b) ≡ true → b ≡ true
both-hold true b e = e
both-hold false b e = absurd (cc)

step-few : (word : Spelled) (s : ℕ) → step_of word ≡ Ok s → s ≤ 65536
step-few word s e =
    let n = bind_ok (or_fault (decimal_value word.bytes) (Shape word.place)) _ e in
    let t = tested_ok (nat_lt 0 n.0 && nat_le n.0 65536) (Ok n.0) (LiteralRange word.place) n.2 in
    let same = ok_once n.0 s t.1 in
    let few = leb-true n.0 65536 (both-hold (nat_lt 0 n.0) (nat_le n.0 65536) t.0) in
    omega (arith, same, few)

record AreSteps (before behind : List ℕ) : Type 0 where
  long : length behind ≡ length before
  small : Small before → Small behind

step-found : (params : List KParam) (steps : List ℕ) (r : Reading) (x : List ℕ × Reading) → step_at params steps r ≡ Ok x → AreSteps steps x.0
unfolding step_at
step-found params steps r x e =
    let n = bind_ok (name_at r) _ e in
    let p = bind_ok (pointer_of (parameter_named 0 0 params n.0.0.bytes) n.0.0.place) _ n.2 in
    let f = bind_ok (unstepped steps p.0 n.0.0.place) _ p.2 in
    let w = bind_ok (next_at n.0.1) _ f.2 in
    let s = bind_ok (step_of w.0.0) _ w.2 in
    let same : slice_set steps f.0 s.0 ≡ x.0 = ap (λ (y : List ℕ × Reading). y.0) (ok_once (slice_set steps f.0 s.0, w.0.1) x s.2) in
    subst (AreSteps steps) same (record {
      long = set-long steps f.0 s.0;
      small = set-small steps f.0 s.0 (step-few w.0.0 s.0 s.1);
    })

joined-steps : (a b c : List ℕ) → AreSteps a b → AreSteps b c → AreSteps a c
joined-steps a b c x y = record { long = y.long ∙ x.long; small = λ s. y.small (x.small s) }

behind-found : (room params : List KParam) (steps : List ℕ) (r : Reading) (x : List ℕ × Reading) → steps_behind room params steps r ≡ Ok x → AreSteps steps x.0
unfolding steps_behind
behind-found [] params steps r x e =
    subst (AreSteps steps) (ap (λ (y : List ℕ × Reading). y.0) (ok_once (steps, r) x e)) (record { long = refl; small = λ s. s })
behind-found (p ∷ room) params steps r x e =
    let c = bind_ok (next_at r) _ e in
    elim (either_way (bytes_eq c.0.0.bytes (codes ",")) _ _ c.2) [
      | inl more ↦
          let s = bind_ok (step_at params steps c.0.1) _ more.1 in
          joined-steps steps s.0.0 x.0 (step-found params steps c.0.1 s.0 s.1) (behind-found room params s.0.0 s.0.1 x s.2)
      | inr over ↦
          subst (AreSteps steps) (ap (λ (y : List ℕ × Reading). y.0) (ok_once (steps, r) x over.1)) (record { long = refl; small = λ s. s })
    ]

steps-found : (params : List KParam) (r : Reading) (x : List ℕ × Reading) → steps_at params r ≡ Ok x → (length x.0 ≡ length (pointers params)) × Small x.0
unfolding steps_at
steps-found params r x e =
    let none = map (λ p. (let no : ℕ = 0 in no)) (pointers params) in
    let f = bind_ok (step_at params none r) _ e in
    let all = joined-steps none f.0.0 x.0 (step-found params none r f.0 f.1) (behind-found params params f.0.0 f.0.1 x f.2) in
    (all.long ∙ none-long (pointers params), all.small (none-small (pointers params)))

-- ---- the whole

block-params : (h : Head) (r : Reading) (x : (Tree × Place) × Reading) → block_at h r ≡ Ok x → h.params ≡ x.0.0.params
unfolding block_at
block-params h r x e =
    let b = bind_ok (expect_at (codes "{") r) _ e in
    let s = bind_ok (statements_at 4096 (names_of h.params) [] (at b.0 0)) _ b.2 in
    ap (λ (y : (Tree × Place) × Reading). y.0.0.params)
    (ok_once ((record { name = h.name; params = h.params; statements = s.0.0.0 }, s.0.0.1), s.0.1) x s.2)

loop-found : (r : Reading) (l : laws.Loop) → loop_at r ≡ Ok l → IsLoop l
unfolding loop_at moving_at
loop-found r l e =
    let a = bind_ok (expect_at (codes "loop") r) _ e in
    let h = bind_ok (head_at a.0) _ a.2 in
    let t = bind_ok (expect_at (codes "times") h.0.1) _ h.2 in
    let i = bind_ok (integer_at h.0.0.params t.0) _ t.2 in
    let s = bind_ok (expect_at (codes "step") i.0.1) _ i.2 in
    let p = bind_ok (steps_at h.0.0.params s.0) _ s.2 in
    let b = bind_ok (block_at h.0.0 p.0.1) _ p.2 in
    let m = bind_ok (moving_at p.0.0 b.0) _ b.2 in
    let moving = tested_ok (stores_moving p.0.0 b.0.0.0.statements) _ _ m.1 in
    let d = bind_ok (end_at m.0) _ m.2 in
    let head = head-well_formed a.0 h.0 h.1 in
    let params = block-params h.0.0 p.0.1 b.0 b.1 in
    let steps = steps-found h.0.0.params s.0 p.0 p.1 in
    subst IsLoop (ok_once (record { kernel = b.0.0.0; times = i.0.0; steps = p.0.0 }) l d.2) (record {
      kernel = block-well_formed h.0.0 p.0.1 b.0 head b.1;
      steps = steps.0 ∙ ap (λ ps. length (pointers ps)) params;
      small = steps.1;
      times = subst (λ ps. i.0.0 < length (integer_widths ps)) params (integer-found h.0.0.params t.0 i.0 i.1);
      moving = true_fact _ moving.0;
    })

pub loops-are : (text : List ℕ) (result : Result Loop KernelFault) → Gives loop_of result (loop_from text) → IfOk result (λ l. IsLoop (loop_of l))
unfolding loop_from
loops-are text (Ok l) e = loop-found (reading_of text) (loop_of l) (tested_ok (nat_le (length text) 262144) _ _ e).1
loops-are text (Err fault) e = tt
