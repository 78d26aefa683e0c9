-- A program that keeps the rules has at most as many lines as it costs, where instructions cost something.
use Rattle.std.proofs.Common.{◌≡◌, ℕ, ◌≤◌, List, [], ◌∷◌, length, sum_by, refl, sym, subst, inl, inr, arith}
use Rattle.std.specs.Prelude.{Option, Some, None, IsSomeAnd}
use Rattle.std.specs.Str.{bytes_eq}
use Rattle.std.proofs.lemmas.Bool.{cases_Bool}
use Rattle.std.proofs.lemmas.List.Sums.{sum_by-cons}
use Rattle.vg_pseudo.specs.declared.header.Header.{Header}
use Rattle.vg_program.specs.declared.line.Line.{Line}
use Rattle.vg_program.specs.declared.line.Line.TheVariants.{Load, Store, Two, Shift, Resize, Compare, Select, VectorLoad, VectorStore, Constant, Insert, Extract, Call}
use Rattle.vg_program.specs.declared.program.Program.{Program}
use Rattle.vg_program.specs.Before.{Before, nothing_before, with_defined}
use Rattle.vg_program.specs.Cost.{cost_of, line_cost}
use Rattle.vg_program.specs.declared.defined.Defined.{Defined}
use Rattle.vg_program.specs.declared.defined.Defined.TheVariants as defines
use Rattle.vg_program.specs.Text.{defined}
use Rattle.vg_program.specs.Valid.{AreLines, IsCallOf, IsLine, KeepsRules, header_of}
use Rattle.vg_emit_laws.specs.Laws.{CostSome}

found-cost : (headers : List Header) (name : List ℕ) (h : Header) → CostSome headers
    → header_of headers name ≡ Some h → 1 ≤ h.cost
found-cost [] name h some e = absurd (cc)
found-cost (x ∷ headers) name h some e = elim (cases_Bool (bytes_eq x.name name)) [
  | inl t ↦ (let same : x ≡ h = (let g = rw t at e in cc) in subst (λ y. 1 ≤ y.cost) same some.0)
  | inr f ↦ found-cost headers name h some.1 (rw f at e)
]

called-cost : (b : Before) (vs : List ℕ) (imm : Option ℕ) (bits cost : ℕ) (name : List ℕ) (o : Option Header)
    → CostSome b.headers
    → header_of b.headers name ≡ o → IsSomeAnd o (λ h. IsCallOf b h vs imm bits cost) → 1 ≤ cost
called-cost b vs imm bits cost name None some e is = absurd is
called-cost b vs imm bits cost name (Some h) some e is = subst (λ n. 1 ≤ n) (sym is.charge)
    (found-cost b.headers name h some e)

line-some : (b : Before) (l : Line) → CostSome b.headers → IsLine b l → 1 ≤ line_cost l
line-some b (Load w a) some is = omega arith
line-some b (Store w a v) some is = omega arith
line-some b (Two op w l r) some is = omega arith
line-some b (Shift op w v n) some is = omega arith
line-some b (Resize op w from v) some is = omega arith
line-some b (Compare op w l r) some is = omega arith
line-some b (Select w c x y) some is = omega arith
line-some b (VectorLoad z a) some is = omega arith
line-some b (VectorStore z a v) some is = omega arith
line-some b (Constant bs) some is = omega arith
line-some b (Insert v bits n w x) some is = omega arith
line-some b (Extract v n w) some is = omega arith
line-some b (Call name vs imm bits cost) some is = called-cost b vs imm bits cost name (header_of b.headers name)
    some refl is.1

same-headers : (b : Before) (d : Defined) → (with_defined b d).headers ≡ b.headers
same-headers b defines.Nothing = refl
same-headers b (defines.Scalar bits) = refl
same-headers b (defines.Vector bits) = refl

lines-some : (b : Before) (ls : List Line) → CostSome b.headers → AreLines b ls → length ls ≤ sum_by line_cost ls
lines-some b [] some are = omega arith
lines-some b (l ∷ ls) some are =
    let one = line-some b l some are.0 in
    let next = with_defined b (defined l) in
    let rest = lines-some next ls (subst CostSome (sym (same-headers b (defined l))) some) are.1 in
    omega (arith, one, rest, sum_by-cons line_cost l ls)

-- a program that keeps the rules has at most as many lines as it costs
pub program-lines : (headers : List Header) (p : Program) → CostSome headers → KeepsRules headers p
    → length p.lines ≤ cost_of p
program-lines headers p some rules = lines-some (nothing_before headers p.params) p.lines some rules.lines
