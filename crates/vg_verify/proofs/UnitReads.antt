-- The bits that loads of a kernel read, unit by unit.
use Rattle.std.proofs.Common.{◌≡◌, ℕ, zero, suc, ◌+◌, ◌-◌, ◌<◌, ◌≤◌, List, [], ◌∷◌, ◌++◌, length, drop, get_or, Option, Some, None, refl, sym, ap, ◌∙◌, arith, append_assoc, append-nil}
use Rattle.vg_terms.specs.Term.{Tree}
use Rattle.vg_lift.specs.Gather.{Bit}
use Rattle.vg_shapes.specs.declared.access.Access.{Access}
use Rattle.vg_shapes.specs.declared.ssa_unit.SsaUnit.{SsaUnit}
use Rattle.vg_shapes.specs.Layout.{access_of}
use Rattle.vg_shapes.specs.Order.{numbers_from}
use Rattle.vg_events.specs.Events.{labels_in}
use Rattle.vg_events.proofs.Ranks.{length-labels}
use Rattle.vg_known.specs.Kernels.{read_by, reads_from}
use Rattle.vg_forms.specs.declared.run.Run.{Run}
use Rattle.vg_verify.specs.Noting.{ReadSoFar}
use Rattle.vg_verify.specs.Views.{pairs_in}
use Rattle.vg_verify.proofs.Beginning.{drop-end}
use Rattle.vg_verify.proofs.Walking.{split}

pub none_read : (ps : List (ℕ × List Bit)) → ps ≡ ps ++ []
none_read ps = sym (append-nil ps)

pub numbers_none : (old : List ℕ) (first count : ℕ) → count ≡ 0 → old ≡ old ++ numbers_from first count
numbers_none old first count e = sym (append-nil old) ∙ ap (λ n. old ++ numbers_from first n) (sym e)

pub numbers_more : (old mid new : List ℕ) (first next count : ℕ) → 0 < count → mid ≡ old ++ first ∷ [] → next ≡ first + 1 → new ≡ mid ++ numbers_from next (count - 1)
    → new ≡ old ++ numbers_from first count
numbers_more old mid new first next zero h grown is more = absurd (omega (arith, h))
numbers_more old mid new first next (suc n) h grown is more =
    let e : suc n - 1 ≡ n = omega arith in
    more ∙ ap (λ k. mid ++ numbers_from next k) e ∙ ap (λ m. mid ++ numbers_from m n) is ∙ ap (λ x. x ++ numbers_from (first + 1) n) grown
    ∙ append_assoc old (first ∷ []) (numbers_from (first + 1) n)

pub some_counted : (x : Access) (o : Option Access) → Some x ≡ o → x.size ≡ length (labels_in o)
some_counted x o e = sym (length-labels x.writes x.address x.size) ∙ ap (λ p. length (labels_in p)) e

pub none_counted : (o : Option Access) → None ≡ o → 0 ≡ length (labels_in o)
none_counted o e = ap (λ p. length (labels_in p)) e

pub reads_none : (units : List SsaUnit) (terms : List Tree) → ReadSoFar units terms 0 0 []
reads_none units terms = record { is = refl }

pub reads_more : (units : List SsaUnit) (terms : List Tree) (place first next : ℕ) (old new : List (ℕ × List Run)) (u : SsaUnit) (t : Tree) → ReadSoFar units terms place first old
    → place < length units → length units ≤ length terms → u ≡ get_or units place u → t ≡ get_or terms place t → pairs_in new ≡ pairs_in old ++ read_by first u t
    → next ≡ first + length (labels_in (access_of u)) → ReadSoFar units terms (place + 1) next new
reads_more units terms place first next old new u t r h enough is own made n =
    let us = drop (place + 1) units in
    let ts = drop (place + 1) terms in
    record {
      is =
          ap (λ x. x ++ reads_from next us ts) made
          ∙ append_assoc (pairs_in old) (read_by first u t) (reads_from next us ts)
          ∙ ap (λ m. pairs_in old ++ (read_by first u t ++ reads_from m us ts)) n
          ∙ ap (λ (vs : List SsaUnit). pairs_in old ++ reads_from first vs (t ∷ ts)) (sym (split units place u h is))
          ∙ ap (λ (vs : List Tree). pairs_in old ++ reads_from first (drop place units) vs) (sym (split terms place t (omega (arith, h, enough)) own))
          ∙ r.is;
    }

pub reads_all : (units : List SsaUnit) (terms : List Tree) (place first : ℕ) (reads : List (ℕ × List Run)) → ReadSoFar units terms place first reads → length units ≤ place
    → pairs_in reads ≡ reads_from 0 units terms
reads_all units terms place first reads r h =
    sym (append-nil (pairs_in reads)) ∙ ap (λ (us : List SsaUnit). pairs_in reads ++ reads_from first us (drop place terms)) (sym (drop-end units place h)) ∙ r.is
