-- Registers that lie one after the other in a list of bits.
use Rattle.std.proofs.Common.{◌≡◌, inl, inr, ℕ, zero, suc, ◌+◌, ◌-◌, ◌<◌, ◌≤◌, List, [], ◌∷◌, ◌++◌, length, get_or, set, take, drop, replicate, refl, sym, ap, ◌∙◌, arith, subst}
use Rattle.std.specs.Prelude.{map, min}
use Rattle.std.proofs.lemmas.Bool.{cases_lt}
use Rattle.std.proofs.lemmas.List.{drop-drop, drop-take, take-take, take_all, length-take, drop_all, length-replicate, drop-replicate, take-replicate}
use Rattle.vg_base.specs.Bits.{bits}
use Rattle.vg_script.specs.Cells.{entered}
use Rattle.vg_bits.specs.Range.{range, replaced}
use Rattle.vg_bits.proofs.Ranges.{length-range, range-replaced_around, range-replaced_beside, replaced_none, range-append_left}
use Rattle.vg_bits.proofs.BitLists.{bits-zero}
use Rattle.vg_pmean.specs.declared.extent.Extent.{Extent}
use Rattle.vg_pmean.specs.Extent.{IsLaid, total, widths_of, place_in, bits_at, registers_in}

-- where a register ends
pub ends : (es : List Extent) (at r : ℕ) → IsLaid at es → (place_in es r).start + (place_in es r).width ≤ at + total (widths_of es)
ends [] at r laid = omega arith
ends (e ∷ es) at zero laid = omega (arith, laid.0)
ends (e ∷ es) at (suc r) laid = omega (arith, ends es (at + e.width) r laid.1)

-- where a register that has bits begins
begins : (es : List Extent) (at r : ℕ) → IsLaid at es → 0 < (place_in es r).width → at ≤ (place_in es r).start
begins [] at r laid some = absurd (omega arith)
begins (e ∷ es) at zero laid some = omega (arith, laid.0)
begins (e ∷ es) at (suc r) laid some = omega (arith, begins es (at + e.width) r laid.1 some)

pub register_at : (l : List ℕ) (es : List Extent) (r : ℕ) → get_or (registers_in l es) r [] ≡ bits_at l (place_in es r)
register_at l [] r = refl
register_at l (e ∷ es) zero = refl
register_at l (e ∷ es) (suc r) = register_at l es r

pub width_at : (l : List ℕ) (es : List Extent) (at r : ℕ) → IsLaid at es → at + total (widths_of es) ≤ length l
    → get_or (map (λ x. length x) (registers_in l es)) r 0 ≡ (place_in es r).width
width_at l [] at r laid fits = refl
width_at l (e ∷ es) at zero laid fits = length-range e.start e.width l (omega (arith, laid.0))
width_at l (e ∷ es) at (suc r) laid fits = width_at l es (at + e.width) r laid.1 (omega arith)

-- the bits of registers that lie after a place stay when those before are replaced
behind : (l new : List ℕ) (at low : ℕ) (es : List Extent) → IsLaid at es → low + length new ≤ at → at + total (widths_of es) ≤ length l
    → registers_in (replaced low new l) es ≡ registers_in l es
behind l new at low [] laid before fits = refl
behind l new at low (e ∷ es) laid before fits =
    let here : bits_at (replaced low new l) e ≡ bits_at l e =
    range-replaced_beside e.start e.width low new l (omega arith) (omega (arith, laid.0)) (inr (omega (arith, laid.0))) in
    λ i. here i ∷ behind l new (at + e.width) low es laid.1 (omega arith) (omega arith) i

changed : (l new : List ℕ) (at r low : ℕ) (es : List Extent) → IsLaid at es → at + total (widths_of es) ≤ length l
    → 0 < length new → low + length new ≤ (place_in es r).width
    → registers_in (replaced ((place_in es r).start + low) new l) es ≡ set (registers_in l es) r (replaced low new (bits_at l (place_in es r)))
changed l new at r low [] laid fits some inside = absurd (omega arith)
changed l new at zero low (e ∷ es) laid fits some inside =
    let here : bits_at (replaced (e.start + low) new l) e ≡ replaced low new (bits_at l e) =
    range-replaced_around e.start e.width low new l inside (omega (arith, laid.0)) in
    λ i. here i ∷ behind l new (at + e.width) (e.start + low) es laid.1 (omega (arith, laid.0)) (omega arith) i
changed l new at (suc r) low (e ∷ es) laid fits some inside =
    let first : at + e.width ≤ (place_in es r).start = begins es (at + e.width) r laid.1 (omega arith) in
    let last = ends es (at + e.width) r laid.1 in
    let here : bits_at (replaced ((place_in es r).start + low) new l) e ≡ bits_at l e =
    range-replaced_beside e.start e.width ((place_in es r).start + low) new l (omega (arith, last)) (omega (arith, laid.0)) (inl (omega (arith, laid.0, first))) in
    λ i. here i ∷ changed l new (at + e.width) r low es laid.1 (omega arith) some inside i

unset : (l : List ℕ) (es : List Extent) (r : ℕ) → registers_in l es ≡ set (registers_in l es) r (bits_at l (place_in es r))
unset l [] r = refl
unset l (e ∷ es) zero = refl
unset l (e ∷ es) (suc r) = ap (λ v. bits_at l e ∷ v) (unset l es r)

-- bits of a register are replaced
pub written_at : (l new : List ℕ) (r low : ℕ) (es : List Extent) → IsLaid 0 es → total (widths_of es) ≤ length l
    → low + length new ≤ (place_in es r).width
    → registers_in (replaced ((place_in es r).start + low) new l) es ≡ set (registers_in l es) r (replaced low new (get_or (registers_in l es) r []))
written_at l [] r low es laid fits inside =
    ap (λ v. registers_in v es) (replaced_none ((place_in es r).start + low) l)
    ∙ unset l es r
    ∙ ap (λ v. set (registers_in l es) r v) (sym (replaced_none low (bits_at l (place_in es r))) ∙ ap (λ v. replaced low [] v) (sym (register_at l es r)))
written_at l (x ∷ new) r low es laid fits inside =
    changed l (x ∷ new) 0 r low es laid (omega arith) (omega arith) inside
    ∙ ap (λ v. set (registers_in l es) r (replaced low (x ∷ new) v)) (sym (register_at l es r))

-- ---- laying registers

pub laid_more : (es : List Extent) (at width : ℕ) → IsLaid at es → IsLaid at (es ++ record { start = at + total (widths_of es); width = width } ∷ [])
laid_more [] at width laid = (omega arith, tt)
laid_more (e ∷ es) at width laid =
    let same : at + e.width + total (widths_of es) ≡ at + (e.width + total (widths_of es)) = omega arith in
    (laid.0, subst (λ n. IsLaid (at + e.width) (es ++ record { start = n; width = width } ∷ [])) same (laid_more es (at + e.width) width laid.1))

pub total_append : (xs ys : List ℕ) → total (xs ++ ys) ≡ total xs + total ys
total_append [] ys = omega arith
total_append (x ∷ xs) ys = omega (arith, total_append xs ys)

-- registers that lie in zeros
pub all_zero : (es : List Extent) (at n : ℕ) (rest : List ℕ) → IsLaid at es → at + total (widths_of es) ≤ n
    → registers_in (replicate n 0 ++ rest) es ≡ entered (widths_of es) []
all_zero [] at n rest laid fits = refl
all_zero (e ∷ es) at n rest laid fits =
    let size = length-replicate {A = ℕ} n 0 in
    let here : bits_at (replicate n 0 ++ rest) e ≡ bits e.width 0 =
    range-append_left e.start e.width (replicate n 0) rest (omega (arith, laid.0, size))
    ∙ ap (take e.width) (drop-replicate e.start n 0)
    ∙ take-replicate e.width (n - e.start) 0 (omega (arith, laid.0))
    ∙ sym (bits-zero e.width) in
    λ i. here i ∷ all_zero es (at + e.width) n rest laid.1 (omega arith) i

-- ---- parts of registers

pub take-both : (m n : ℕ) (l : List ℕ) → take m (take n l) ≡ take (min m n) l
take-both m n l = elim (cases_lt n m) [
  | inl fewer ↦
      let same : min m n ≡ n = omega arith in
      take_all m (take n l) (omega (arith, length-take n l)) ∙ ap (λ (k : ℕ). take k l) (sym same)
  | inr more ↦
      let same : min m n ≡ m = omega arith in
      take-take m n l (omega arith) ∙ ap (λ (k : ℕ). take k l) (sym same)
]

pub part_is : (l : List ℕ) (start width low count : ℕ) → start + width ≤ length l
    → range (start + min low width) (min count (width - min low width)) l ≡ range low count (range start width l)
part_is l start width low count fits = elim (cases_lt width low) [
  | inl past ↦
      let none : min count (width - min low width) ≡ 0 = omega arith in
      ap (λ (n : ℕ). range (start + min low width) n l) none
      ∙ sym (take_all count [] (omega arith))
      ∙ ap (take count) (sym (drop_all low (range start width l) (omega (arith, length-range start width l fits))))
  | inr here ↦
      let at : min low width ≡ low = omega arith in
      let left = width - low in
      let whole : width ≡ low + left = omega arith in
      (λ i. range (start + at i) (min count (width - at i)) l)
      ∙ sym (take-both count left (drop (start + low) l))
      ∙ ap (λ v. take count (take left v)) (sym (drop-drop low start l))
      ∙ ap (take count) (sym (drop-take low left (drop start l)))
      ∙ ap (λ (n : ℕ). take count (drop low (take n (drop start l)))) (sym whole)
]

pub widths_more : (es : List Extent) (start width : ℕ) → total (widths_of (es ++ record { start = start; width = width } ∷ [])) ≡ total (widths_of es) + width
widths_more [] start width = omega arith
widths_more (e ∷ es) start width = omega (arith, widths_more es start width)

pub total_part : (ws : List ℕ) (k : ℕ) → total (take k ws) + get_or ws k 0 ≤ total ws
total_part [] zero = omega arith
total_part [] (suc k) = omega arith
total_part (w ∷ ws) zero = omega arith
total_part (w ∷ ws) (suc k) = omega (arith, total_part ws k)

pub total_next : (ws : List ℕ) (k : ℕ) → k < length ws → total (take (k + 1) ws) ≡ total (take k ws) + get_or ws k 0
total_next [] k some = absurd (omega arith)
total_next (w ∷ ws) zero some = omega arith
total_next (w ∷ ws) (suc k) some =
    let next : suc k + 1 ≡ suc (k + 1) = omega arith in
    let all = ap (λ (n : ℕ). total (take n (w ∷ ws))) next in
    omega (arith, all, total_next ws k (omega arith))
