-- Headers that are in the language are read.
use Rattle.std.proofs.Common.{◌≡◌, ℕ, zero, suc, ◌≤◌, Bool, false, List, [], ◌∷◌, ◌++◌, length, Option, Some, None, Ok, refl, sym, ◌∙◌, ap, subst, append_assoc, append-nil, arith}
use Rattle.std.specs.Prelude.{codes}
use Rattle.std.specs.Str.{bytes_eq}
use Rattle.vg_base.proofs.Bind.{bind_to}
use Rattle.vg_text.specs.Words.{Reading, Spelled}
use Rattle.vg_pseudo.specs.declared.header.Header.{Header}
use Rattle.vg_pseudo.specs.declared.header.Param.{Param}
use Rattle.vg_pseudo.specs.declared.header.ImmRange.{ImmRange}
use Rattle.vg_pseudo.specs.Grammar.{Words, Is, IsName}
use Rattle.vg_catalog.specs.declared.lanes.Lanes.{Lanes}
use Rattle.vg_catalog.specs.declared.header_reading.Closing.{Closing}
use Rattle.vg_catalog.specs.Extensions.{extension_place}
use Rattle.vg_catalog.specs.Words.{next_word, this_word, optional_word, number_word}
use Rattle.vg_catalog.specs.Headers.{register_at, lanes_at, operand_at, param_at, params_from, params_at, range_at, imm_at, result_at, extension_at, cost_at, closing_at, entry_name_at, header_at}
use Rattle.vg_catalog.specs.Grammar.{AreLanes, IsOperand, IsParam, AreParams, IsRange, IsImm, IsClosing, IsHeader}
use Rattle.vg_catalog.proofs.Standing.{Reads, next-again, no-more, split, expect-again, accept-again, accept-not, number-again}

lanes-again : (register etype : Spelled) (l : Lanes) (r m : Reading) → AreLanes register etype l → Reads (register ∷ etype ∷ []) r m → lanes_at r ≡ Ok (l, m)
unfolding lanes_at
lanes-again register etype l r m are h =
    let a = next-again h in
    let b = next-again a.rest in
    bind_to (register_at r) _ {x = (l.register, a.behind)} (bind_to (next_word r) _ a.next (rw are.width refl))
    (bind_to (next_word a.behind) _ b.next (rw are.divided (ap (λ (q : Reading). Ok (l, q)) (no-more b.rest))))

operand-again : (before : List Param) (w : Spelled) (r n : Reading) → IsOperand before w → next_word r ≡ Ok (w, n) → operand_at before r ≡ Ok (w, n)
operand-again before w r n is e = rw (e, is) refl

-- a parameter stands next, and is read after its PARAM
record ReadParam (before : List Param) (p : Param) (r m : Reading) : Type 0 where
  first : Spelled
  behind : Reading
  is : Is first (codes "PARAM")
  next : next_word r ≡ Ok (first, behind)
  read : param_at before behind ≡ Ok (p, m)

param-again : (before : List Param) (words : Words) (p : Param) (r m : Reading) → IsParam before words p → Reads words r m → ReadParam before p r m
unfolding param_at
param-again before words p r m is h =
    let a = next-again (subst (λ (ws : Words). Reads ws r m) is.whole h) in
    let b = next-again a.rest in
    record {
      first = is.first;
      behind = a.behind;
      is = is.is_first;
      next = a.next;
      read = bind_to (operand_at before a.behind) _ (operand-again before is.named a.behind b.behind is.is_name b.next)
          (bind_to (lanes_at b.behind) _ (lanes-again is.register is.etype _ b.behind m is.are_lanes b.rest)
          (ap (λ (n : List ℕ). (let q : Param = record { name = n; register = p.register; lane_width = p.lane_width; is_signed = p.is_signed } in Ok (q, m))) is.is_named));
    }

-- another word stands next
record Other (text : List ℕ) (m : Reading) : Type 0 where
  word : Spelled
  behind : Reading
  next : next_word m ≡ Ok (word, behind)
  other : bytes_eq word.bytes text ≡ false

not-next : (text is : List ℕ) (w : Spelled) {ws : Words} {r m : Reading} → bytes_eq is text ≡ false → Is w is → Reads (w ∷ ws) r m → Other text r
not-next text is w differs same h = (let a = next-again h in record { word = w; behind = a.behind; next = a.next; other = ap (λ (b : List ℕ). bytes_eq b text) same ∙ differs })

-- this word does not come next
stays : (text : List ℕ) (r m : Reading) → r ≡ m → Other text m → optional_word text r ≡ Ok (false, r)
stays text r m same other = accept-not text other.word r other.behind other.other (ap next_word same ∙ other.next)

params-again : (room : ℕ) (before : List Param) (words : Words) (ps : List Param) (r m : Reading) → AreParams before words ps → length ps ≤ room → Reads words r m → Other (codes "PARAM") m → params_from room before r ≡ Ok (before ++ ps, m)
unfolding params_from
params-again zero before words [] r m are few h end =
    let same = no-more (subst (λ (ws : Words). Reads ws r m) are h) in
    ap (λ (q : Reading). Ok (before, q)) same ∙ ap (λ (l : List Param). Ok (l, m)) (sym (append-nil before))
params-again (suc room) before words [] r m are few h end =
    let same = no-more (subst (λ (ws : Words). Reads ws r m) are h) in
    bind_to (optional_word (codes "PARAM") r) _ (stays (codes "PARAM") r m same end)
    (ap (λ (q : Reading). Ok (before, q)) same ∙ ap (λ (l : List Param). Ok (l, m)) (sym (append-nil before)))
params-again zero before words (p ∷ ps) r m are few h end = absurd (omega arith)
params-again (suc room) before words (p ∷ ps) r m (front, rest, one, more, whole) few h end =
    let s = split front (subst (λ (ws : Words). Reads ws r m) whole h) in
    let first = param-again before front p r s.middle one s.first in
    bind_to (optional_word (codes "PARAM") r) _ (accept-again (codes "PARAM") first.first r first.behind first.is first.next)
    (bind_to (param_at before first.behind) _ first.read
    (params-again room (before ++ p ∷ []) rest ps s.middle m more (omega arith) s.second end ∙ ap (λ (l : List Param). Ok (l, m)) (append_assoc before (p ∷ []) ps)))

all-again : (words : Words) (ps : List Param) (r m : Reading) → AreParams [] words ps → 1 ≤ length ps → length ps ≤ 4 → Reads words r m → Other (codes "PARAM") m → params_at r ≡ Ok (ps, m)
unfolding params_at
all-again words [] r m are some few h end = absurd (omega arith)
all-again words (p ∷ ps) r m (front, rest, one, more, whole) some few h end =
    let s = split front (subst (λ (ws : Words). Reads ws r m) whole h) in
    let first = param-again [] front p r s.middle one s.first in
    bind_to (this_word (codes "PARAM") r) _ (expect-again (codes "PARAM") first.first r first.behind first.is first.next)
    (bind_to (param_at [] first.behind) _ first.read (params-again 3 (p ∷ []) rest ps s.middle m more (omega arith) s.second end))

range-again : (params : List Param) (words : Words) (i : ImmRange) (r m : Reading) → IsRange params words i → Reads words r m → imm_at params r ≡ Ok (Some i, m)
unfolding imm_at range_at
range-again params words i r m is h =
    let a = next-again (subst (λ (ws : Words). Reads ws r m) is.whole h) in
    let b = next-again a.rest in
    let c = next-again b.rest in
    let d = next-again c.rest in
    let e = next-again d.rest in
    let low : i.lo ≤ 255 = (let rising = is.rising in let byte = is.byte in omega arith) in
    let read : range_at params a.behind ≡ Ok (i, m) =
    bind_to (operand_at params a.behind) _ (operand-again params is.named a.behind b.behind is.is_name b.next)
    (bind_to (number_word 0 255 b.behind) _ (number-again 0 255 i.lo is.low b.behind c.behind is.is_low (omega arith) low c.next)
    (bind_to (this_word (codes "to") c.behind) _ (expect-again (codes "to") is.to c.behind d.behind is.is_to d.next)
    (bind_to (number_word i.lo 255 d.behind) _ (number-again i.lo 255 i.hi is.high d.behind e.behind is.is_high is.rising is.byte e.next)
    (ap (λ (n : List ℕ). (let k : ImmRange = record { name = n; lo = i.lo; hi = i.hi } in Ok (k, e.behind))) is.is_named ∙ ap (λ (q : Reading). Ok (i, q)) (no-more e.rest))))) in
    bind_to (optional_word (codes "IMM") r) _ (accept-again (codes "IMM") is.first r a.behind is.is_first a.next) (bind_to (range_at params a.behind) _ read refl)

imm-again : (params : List Param) (words : Words) (imm : Option ImmRange) (r m : Reading) → IsImm params words imm → Reads words r m → Other (codes "IMM") m → imm_at params r ≡ Ok (imm, m)
unfolding imm_at
imm-again params words (Some i) r m is h end = range-again params words i r m is h
imm-again params words None r m is h end =
    let same = no-more (subst (λ (ws : Words). Reads ws r m) is h) in
    bind_to (optional_word (codes "IMM") r) _ (stays (codes "IMM") r m same end) (ap (λ (q : Reading). Ok (None, q)) same)

extension-again : (w name : Spelled) (k : ℕ) (r n m : Reading) → Is w (codes "EXTENSION") → extension_place name.bytes ≡ Some k → next_word r ≡ Ok (w, n) → next_word n ≡ Ok (name, m) → extension_at r ≡ Ok (k, m)
unfolding extension_at
extension-again w name k r n m is listed first second =
    bind_to (this_word (codes "EXTENSION") r) _ (expect-again (codes "EXTENSION") w r n is first) (bind_to (next_word n) _ second (rw listed refl))

cost-again : (w price : Spelled) (k : ℕ) (r n m : Reading) → Is w (codes "COST") → number_word 1 1000 n ≡ Ok (k, m) → next_word r ≡ Ok (w, n) → cost_at r ≡ Ok (k, m)
unfolding cost_at
cost-again w price k r n m is read first = bind_to (this_word (codes "COST") r) _ (expect-again (codes "COST") w r n is first) read

-- what stands after the parameters and the immediate is read
abbrev closing_of : Header → Bool → Closing
closing_of h is_signed = record {
  lanes = record { register = h.register; lane_width = h.lane_width; is_signed = is_signed };
  extension = h.extension;
  cost = h.cost;
}

closing-again : (words : Words) (h : Header) (r m : Reading) → (is : IsClosing words h) → Reads words r m → closing_at r ≡ Ok (closing_of h is.is_signed, m)
unfolding closing_at result_at
closing-again words h r m is reads =
    let a = next-again (subst (λ (ws : Words). Reads ws r m) is.whole reads) in
    let b = next-again a.rest in
    let s = split (is.register ∷ is.etype ∷ []) b.rest in
    let c = next-again s.second in
    let d = next-again c.rest in
    let e = next-again d.rest in
    let f = next-again e.rest in
    let g = next-again f.rest in
    let result : result_at r ≡ Ok ((closing_of h is.is_signed).lanes, s.middle) =
    bind_to (this_word (codes "RESULT") r) _ (expect-again (codes "RESULT") is.result r a.behind is.is_result a.next)
    (bind_to (this_word (codes "dst") a.behind) _ (expect-again (codes "dst") is.dst a.behind b.behind is.is_dst b.next)
    (lanes-again is.register is.etype _ b.behind s.middle is.are_lanes s.first)) in
    bind_to (result_at r) _ result
    (bind_to (extension_at s.middle) _ (extension-again is.extension is.listed h.extension s.middle c.behind d.behind is.is_extension is.is_listed c.next d.next)
    (bind_to (cost_at d.behind) _ (cost-again is.cost is.price h.cost d.behind e.behind f.behind is.is_cost (number-again 1 1000 h.cost is.price e.behind f.behind is.is_price is.some is.few f.next) e.next)
    (bind_to (this_word (codes "OPERATION") f.behind) _ (expect-again (codes "OPERATION") is.operation f.behind g.behind is.is_operation g.next)
    (ap (λ (q : Reading). Ok (closing_of h is.is_signed, q)) (no-more g.rest)))))

-- it begins with RESULT
closing-begins : (text : List ℕ) (words : Words) (h : Header) (r m : Reading) → bytes_eq (codes "RESULT") text ≡ false → IsClosing words h → Reads words r m → Other text r
closing-begins text words h r m differs is reads = not-next text (codes "RESULT") is.result differs is.is_result (subst (λ (ws : Words). Reads ws r m) is.whole reads)

-- after the parameters stands no further one
imm-begins : (params : List Param) (imm closing : Words) (h : Header) (i : Option ImmRange) (r m q : Reading) → IsImm params imm i → IsClosing closing h → Reads imm r m → Reads closing m q → Other (codes "PARAM") r
imm-begins params imm closing h (Some i) r m q is closes first second = not-next (codes "PARAM") (codes "IMM") is.first refl is.is_first (subst (λ (ws : Words). Reads ws r m) is.whole first)
imm-begins params imm closing h None r m q is closes first second =
    let same = no-more (subst (λ (ws : Words). Reads ws r m) is first) in
    closing-begins (codes "PARAM") closing h r q refl closes (subst (λ (x : Reading). Reads closing x q) (sym same) second)

name-again : (is_known : List ℕ → Bool) (w : Spelled) (r n : Reading) → IsName w → is_known w.bytes ≡ false → next_word r ≡ Ok (w, n) → entry_name_at is_known r ≡ Ok (w, n)
name-again is_known w r n is new e = rw (e, is, new) refl

pub header-again : (is_known : List ℕ → Bool) (words : Words) (h : Header) (r m : Reading) → IsHeader is_known words h → Reads words r m → header_at is_known r ≡ Ok (h, m)
unfolding header_at
header-again is_known words h r m is reads =
    let a = next-again (subst (λ (ws : Words). Reads ws r m) is.whole reads) in
    let b = next-again a.rest in
    let s = split is.params b.rest in
    let t = split is.imm s.second in
    bind_to (this_word (codes "INSTRUCTION") r) _ (expect-again (codes "INSTRUCTION") is.first r a.behind is.is_first a.next)
    (bind_to (entry_name_at is_known a.behind) _ (name-again is_known is.named a.behind b.behind is.is_name is.is_new b.next)
    (bind_to (params_at b.behind) _ (all-again is.params h.params b.behind s.middle is.are_params is.some is.few s.first (imm-begins h.params is.imm is.closing h h.imm s.middle t.middle m is.is_imm is.closes t.first t.second))
    (bind_to (imm_at h.params s.middle) _ (imm-again h.params is.imm h.imm s.middle t.middle is.is_imm t.first (closing-begins (codes "IMM") is.closing h t.middle m refl is.closes t.second))
    (bind_to (closing_at t.middle) _ (closing-again is.closing h t.middle m is.closes t.second)
    (ap (λ (n : List ℕ). (let g : Header = record { name = n; params = h.params; imm = h.imm; register = h.register; lane_width = h.lane_width; extension = h.extension; cost = h.cost } in Ok (g, m))) is.is_named)))))
