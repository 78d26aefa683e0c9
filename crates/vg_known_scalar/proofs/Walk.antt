-- The walk over the scalar program finds the terms of the kernel, and stores what the kernel stores.
use Rattle.std.proofs.Common.{◌≡◌, ℕ, ◌+◌, Bool, List, [], ◌∷◌, ◌++◌, length, map, Option, Some, None, refl, sym, ap, subst, ◌∙◌, inl, inr, arith, append_assoc, append-nil}
use Rattle.std.specs.Prelude.{slice_index_or, if◌then◌else◌}
use Rattle.std.proofs.lemmas.Bool.{cases_Bool}
use Rattle.std.proofs.lemmas.List.{get_or_append_left, get_or_push, length_push}
use Rattle.vg_base.specs.declared.width.Width.{Width}
use Rattle.vg_base.specs.Width.{bits_of}
use Rattle.vg_terms.specs.Term.{Tree}
use Rattle.vg_program.specs.declared.line.Line.{Line}
use Rattle.vg_program.specs.declared.operand.Operand.{Operand as Number}
use Rattle.vg_program.specs.declared.operand.Operand.TheVariants.{Register}
use Rattle.vg_shapes.specs.declared.access.Access.{Access}
use Rattle.vg_shapes.specs.declared.ssa_unit.Operands.{Operands}
use Rattle.vg_shapes.specs.declared.ssa_unit.Operator.{Operator}
use Rattle.vg_shapes.specs.declared.ssa_unit.Operator.TheVariants as operator
use Rattle.vg_shapes.specs.declared.ssa_unit.SsaUnit.{SsaUnit}
use Rattle.vg_shapes.specs.declared.ssa_unit.SsaUnit.TheVariants.{Load, Store, Operation}
use Rattle.vg_shapes.specs.Order.{numbers_from}
use Rattle.vg_shapes.specs.Sound.{load_key, result_bits}
use Rattle.vg_ssa.specs.ValueTerm.{no_term}
use Rattle.vg_ssa.specs.ValueTerm as kernel
use Rattle.vg_ssa.proofs.OperationTerms.{bits-width}
use Rattle.vg_ssa.proofs.Typing.{OperationIn, UnitsIn}
use Rattle.vg_emission.specs.Emission.{operation_line}
use Rattle.vg_emission.specs.Scalar.{scalar_lines, scalar_operand}
use Rattle.vg_lift.specs.Gather.{Bit, bits_from}
use Rattle.vg_events.specs.Lines.{line_access}
use Rattle.vg_events.specs.UnitOrder.{spans}
use Rattle.vg_known.specs.Cuts.{computed, gathered, met_with}
use Rattle.vg_known.specs.FirstLoads.{first_load}
use Rattle.vg_known.specs.Kernels.{bits_at, pairs_of, Terms, terms_behind, unit_term, with_term}
use Rattle.vg_known.specs.Known.{Given, know, know_all, Known, operand_term, read_bits, with_puts, with_scalar}
use Rattle.vg_known.proofs.Same.{terms-front}
use Rattle.vg_known.proofs.Terms.{terms-grow}
use Rattle.vg_known.proofs.Walk.{Grows}
use Rattle.vg_known_scalar.proofs.Cutting.{compare-stays, gathered-leaf, met-itself, met-more, met-stays, resize-stays, select-stays, shift-stays, two-stays}
use Rattle.vg_known_scalar.proofs.Found.{AllRead, count_in, puts_from}
use Rattle.vg_known_scalar.proofs.Names.{bit-named, Named, number-named, operand-cut, store-named, stored-term, with-scalar-named, without-scalar-named}
use Rattle.vg_known_scalar.proofs.Needing.{AllNeed, IsNeeded}

-- ---- the kernel's terms

-- a term that the kernel met is met already
next-met : (old met all : List Tree) (t : Tree) → met ≡ all → Grows (met_with old t) all → met_with met t ≡ all
next-met old met all t e grows = ap (λ m. met_with m t) e ∙ met-stays all t (met-more (met_with old t) all t grows (met-itself old t))

-- ---- lines of operations

abbrev line_of : List Number → Operator → Width → ℕ → Operands → Line
line_of names op w n xs = operation_line op w n (scalar_operand names xs.first) (scalar_operand names xs.second) (scalar_operand names xs.third)

pub operation-access : (op : Operator) (w : Width) (n : ℕ) (a b c : Number) → line_access (operation_line op w n a b c) ≡ None
operation-access (operator.Two op) w n a b c = refl
operation-access (operator.Shift op) w n a b c = refl
operation-access (operator.Resize op v) w n a b c = refl
operation-access (operator.Compare op) w n a b c = refl
operation-access operator.Select w n a b c = refl

-- its line gives the term that it has in the kernel
operation-known : (needed : ℕ → Bool) (g : Given) (s : Terms) (all : List Tree) (k : Known) (v : ℕ) (bits : List (Option ℕ)) (names : List Number) (op : Operator) (w : Width) (n : ℕ) (xs : Operands) (es : List ℕ)
    → Named needed g s.met k v bits names s.terms → k.met ≡ all → Grows s.met all → OperationIn bits op w n xs → IsNeeded needed xs.first × IsNeeded needed xs.second × IsNeeded needed xs.third
    → know g (line_of names op w n xs) es k ≡ with_scalar k (computed s.met op (bits_of w) n (kernel.operand_term s.terms xs.first) (kernel.operand_term s.terms xs.second) (kernel.operand_term s.terms xs.third))
operation-known needed g s all k v bits names (operator.Two op) w n xs es h met grows is need =
    let x = number-named needed g s.met k v bits names s.terms w xs.first h is.1 need.0 in
    let y = number-named needed g s.met k v bits names s.terms w xs.second h is.2 need.1 in
    ap (with_scalar k)
    ((λ i. computed (met i) (operator.Two op) (bits_of w) 0 (x.same i) (y.same i) no_term)
    ∙ sym (two-stays s.met all op (bits_of w) n (kernel.operand_term s.terms xs.first) (kernel.operand_term s.terms xs.second) (kernel.operand_term s.terms xs.third)
    (operand-cut g s.met all k names s.terms xs.first grows x) (operand-cut g s.met all k names s.terms xs.second grows y)))
operation-known needed g s all k v bits names (operator.Shift op) w n xs es h met grows is need =
    let x = number-named needed g s.met k v bits names s.terms w xs.first h is.1 need.0 in
    ap (with_scalar k)
    ((λ i. computed (met i) (operator.Shift op) (bits_of w) n (x.same i) no_term no_term)
    ∙ sym (shift-stays s.met all op (bits_of w) n (kernel.operand_term s.terms xs.first) (kernel.operand_term s.terms xs.second) (kernel.operand_term s.terms xs.third)
    (operand-cut g s.met all k names s.terms xs.first grows x)))
operation-known needed g s all k v bits names (operator.Resize op from) w n xs es h met grows is need =
    let x = number-named needed g s.met k v bits names s.terms from xs.first h is.2 need.0 in
    ap (with_scalar k)
    ((λ i. computed (met i) (operator.Resize op from) (bits_of w) 0 (x.same i) no_term no_term)
    ∙ sym (resize-stays s.met all op from (bits_of w) n (kernel.operand_term s.terms xs.first) (kernel.operand_term s.terms xs.second) (kernel.operand_term s.terms xs.third)
    (operand-cut g s.met all k names s.terms xs.first grows x)))
operation-known needed g s all k v bits names (operator.Compare op) w n xs es h met grows is need =
    let x = number-named needed g s.met k v bits names s.terms w xs.first h is.1 need.0 in
    let y = number-named needed g s.met k v bits names s.terms w xs.second h is.2 need.1 in
    ap (with_scalar k)
    ((λ i. computed (met i) (operator.Compare op) (bits_of w) 0 (x.same i) (y.same i) no_term)
    ∙ sym (compare-stays s.met all op (bits_of w) n (kernel.operand_term s.terms xs.first) (kernel.operand_term s.terms xs.second) (kernel.operand_term s.terms xs.third)
    (operand-cut g s.met all k names s.terms xs.first grows x) (operand-cut g s.met all k names s.terms xs.second grows y)))
operation-known needed g s all k v bits names operator.Select w n xs es h met grows is need =
    let c = bit-named needed g s.met k v bits names s.terms xs.first h is.1 need.0 in
    let x = number-named needed g s.met k v bits names s.terms w xs.second h is.2 need.1 in
    let y = number-named needed g s.met k v bits names s.terms w xs.third h is.3 need.2 in
    ap (with_scalar k)
    ((λ i. computed (met i) operator.Select (bits_of w) 0 (c.same i) (x.same i) (y.same i))
    ∙ sym (select-stays s.met all (bits_of w) n (kernel.operand_term s.terms xs.first) (kernel.operand_term s.terms xs.second) (kernel.operand_term s.terms xs.third)
    (operand-cut g s.met all k names s.terms xs.first grows c) (operand-cut g s.met all k names s.terms xs.second grows x) (operand-cut g s.met all k names s.terms xs.third grows y)))

-- ---- the walk

-- Behind some units: what is known of their values, and what holds of the units that follow.
pub record Midway (needed : ℕ → Bool) (g : Given) (flags : List Bool) (first pointers : ℕ) (final : Terms) (f v count : ℕ) (bits : List (Option ℕ)) (names : List Number) (done : List SsaUnit) (s : Terms) (us : List SsaUnit) (k : Known) : Type 0 where
  pub whole : terms_behind flags first done s us ≡ final
  pub named : Named needed g s.met k v bits names s.terms
  pub many : length k.scalars ≡ count
  pub met : k.met ≡ final.met
  pub units : UnitsIn pointers bits us
  pub need : AllNeed needed v us
  pub reads : AllRead (bits_at g.reads) final.terms f v us

-- nothing new is met, and this is stored
pub record Followed (met : List Tree) (puts : List (ℕ × List Bit)) (k : Known) : Type 0 where
  pub met_is : k.met ≡ met
  pub puts_are : k.puts ≡ puts

abbrev behind : Given → ℕ → List Line → Known → Known
behind g f ls k = know_all g ls (spans f (map line_access ls)) k

pub walk : (needed : ℕ → Bool) (g : Given) (flags : List Bool) (first pointers : ℕ) (final : Terms) (f v count : ℕ) (bits : List (Option ℕ)) (names : List Number) (done : List SsaUnit) (s : Terms) (us : List SsaUnit) (k : Known)
    → Midway needed g flags first pointers final f v count bits names done s us k
    → Followed final.met (k.puts ++ puts_from final.terms f us) (know_all g (scalar_lines needed count names us) (spans f (map line_access (scalar_lines needed count names us))) k)
walk needed g flags first pointers final f v count bits names done s [] k h = record { met_is = h.met; puts_are = sym (append-nil k.puts) }
walk needed g flags first pointers final f v count bits names done s (Load a w ∷ us) k h =
    let u = Load a w in
    let key = load_key a (first_load flags first done (length s.terms) a w) in
    let own = unit_term flags first done s u in
    let next = with_term s u own in
    let c = count_in u in
    let names_next = names ++ Register count ∷ [] in
    let lines = scalar_lines needed (count + 1) names_next us in
    let front : Grows next.terms final.terms = subst (λ (q : Terms). Grows next.terms q.terms) h.whole (terms-front flags first (done ++ u ∷ []) next us) in
    let grows : Grows next.met final.met = subst (λ (q : Terms). Grows next.met q.met) h.whole (terms-grow flags first (done ++ u ∷ []) next us) in
    let at : slice_index_or final.terms v no_term ≡ own =
    ap (λ l. slice_index_or l v no_term) front.1 ∙ get_or_append_left (s.terms ++ own ∷ []) front.0 no_term v (let l = length_push s.terms own in omega (arith, l, h.named.terms_long))
    ∙ get_or_push s.terms own no_term v h.named.terms_long in
    let is : gathered k.met (read_bits g (numbers_from f c)) ≡ own =
    ap (gathered k.met) (h.reads.0 ∙ ap (λ t. bits_from t 0 (bits_of w)) at) ∙ gathered-leaf k.met (bits_of w) key (bits-width w) in
    let rest = walk needed g flags first pointers final (f + c) (v + 1) (count + 1) (bits ++ Some (bits_of w) ∷ []) names_next (done ++ u ∷ []) next us (with_scalar k own) (record {
      whole = h.whole;
      named = with-scalar-named needed g s.met k v (bits_of w) bits names s.terms own count h.named h.many;
      many = length_push k.scalars own ∙ ap (λ n. n + 1) h.many;
      met = next-met s.met k.met final.met own h.met grows;
      units = h.units.1;
      need = h.need.1;
      reads = h.reads.1;
    }) in
    subst (λ t. Followed final.met (k.puts ++ puts_from final.terms (f + c) us) (behind g (f + c) lines (with_scalar k t))) (sym is) rest
walk needed g flags first pointers final f v count bits names done s (Store a w x ∷ us) k h =
    let u = Store a w x in
    let own = unit_term flags first done s u in
    let next = with_term s u own in
    let c = count_in u in
    let es = numbers_from f c in
    let names_next = names ++ Register 0 ∷ [] in
    let lines = scalar_lines needed count names_next us in
    let y = scalar_operand names x in
    let put = bits_from (operand_term g k y) 0 (bits_of w) in
    let more = puts_from final.terms (f + c) us in
    let front : Grows s.terms final.terms = subst (λ (q : Terms). Grows s.terms q.terms) h.whole (terms-front flags first done s (u ∷ us)) in
    let number = number-named needed g s.met k v bits names s.terms w x h.named h.units.0.1 h.need.0 in
    let equal : operand_term g k y ≡ kernel.operand_term final.terms x = number.same ∙ stored-term bits s.terms final.terms w x (h.named.bits_long ∙ sym h.named.terms_long) front h.units.0.1 in
    let rest = walk needed g flags first pointers final (f + c) (v + 1) count (bits ++ None ∷ []) names_next (done ++ u ∷ []) next us (with_puts k es put) (record {
      whole = h.whole;
      named = store-named needed g s.met k es put v bits names s.terms own h.named;
      many = h.many;
      met = h.met;
      units = h.units.1;
      need = h.need.1;
      reads = h.reads.1;
    }) in
    record {
      met_is = rest.met_is;
      puts_are = rest.puts_are ∙ append_assoc k.puts (pairs_of es put) more ∙ ap (λ t. k.puts ++ (pairs_of es (bits_from t 0 (bits_of w)) ++ more)) equal;
    }
walk needed g flags first pointers final f v count bits names done s (Operation op w n xs ∷ us) k h =
    let u = Operation op w n xs in
    let own = unit_term flags first done s u in
    let next = with_term s u own in
    let with_lines = scalar_lines needed (count + 1) (names ++ Register count ∷ []) us in
    let without_lines = scalar_lines needed count (names ++ Register 0 ∷ []) us in
    let own_line = line_of names op w n xs in
    let puts = k.puts ++ puts_from final.terms (f + 0) us in
    let front : Grows s.met final.met = subst (λ (q : Terms). Grows s.met q.met) h.whole (terms-grow flags first done s (u ∷ us)) in
    let grows : Grows next.met final.met = subst (λ (q : Terms). Grows next.met q.met) h.whole (terms-grow flags first (done ++ u ∷ []) next us) in
    let Goal : Bool → Type 0 = λ b. Followed final.met puts (behind g f (if b then own_line ∷ with_lines else without_lines) k) in
    elim (cases_Bool (needed (length names))) [
      | inl t ↦
          let known = operation-known needed g s final.met k v bits names op w n xs [] h.named h.met front h.units.0 (h.need.0 (ap needed (sym h.named.names_long) ∙ t)) in
          let rest = walk needed g flags first pointers final (f + 0) (v + 1) (count + 1) (bits ++ Some (result_bits op w) ∷ []) (names ++ Register count ∷ []) (done ++ u ∷ []) next us (with_scalar k own) (record {
            whole = h.whole;
            named = with-scalar-named needed g s.met k v (result_bits op w) bits names s.terms own count h.named h.many;
            many = length_push k.scalars own ∙ ap (λ n. n + 1) h.many;
            met = next-met s.met k.met final.met own h.met grows;
            units = h.units.1;
            need = h.need.1;
            reads = h.reads.1;
          }) in
          subst Goal (sym t)
          (subst (λ (o : Option Access). Followed final.met puts (know_all g (own_line ∷ with_lines) (spans f (o ∷ map line_access with_lines)) k))
          (sym (operation-access op w n (scalar_operand names xs.first) (scalar_operand names xs.second) (scalar_operand names xs.third)))
          (subst (λ q. Followed final.met puts (behind g (f + 0) with_lines q)) (sym known) rest))
      | inr none ↦
          let rest = walk needed g flags first pointers final (f + 0) (v + 1) count (bits ++ Some (result_bits op w) ∷ []) (names ++ Register 0 ∷ []) (done ++ u ∷ []) next us k (record {
            whole = h.whole;
            named = without-scalar-named needed g s.met k v (result_bits op w) bits names s.terms own h.named (ap needed (sym h.named.names_long) ∙ none);
            many = h.many;
            met = h.met;
            units = h.units.1;
            need = h.need.1;
            reads = h.reads.1;
          }) in
          subst Goal (sym none)
          (subst (λ j. Followed final.met puts (know_all g without_lines (spans j (map line_access without_lines)) k)) (let e : f + 0 ≡ f = omega arith in e) rest)
    ]
