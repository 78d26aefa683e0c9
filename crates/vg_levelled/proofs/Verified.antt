-- What is told of a kernel and a program with their loads more holds of the two.
use Rattle.std.proofs.Common.{◌≡◌, Bool, true, false, List, [], ◌++◌, map, Option, Some, None, refl, sym, ap, subst, ◌∙◌, ◌+◌, ◌<◌, ◌^◌, length, Result, Ok, Err, IfOk}
use Rattle.std.specs.Prelude.{◌&&◌, if◌then◌else◌, nat_le, nat_lt}
use Rattle.std.specs.List.{list_all}
use Rattle.std.specs.Option.{is_some}
use Rattle.std.proofs.lemmas.Bool.{cond-true, cond-false, ltb-true}
use Rattle.vg_program.specs.declared.program.Program.{Program}
use Rattle.vg_program.specs.Meaning.{Instructions}
use Rattle.vg_program.specs.Valid.{KeepsRules}
use Rattle.vg_shapes.specs.declared.ssa.Ssa.{Ssa}
use Rattle.vg_shapes.specs.declared.ssa_unit.SsaUnit.{SsaUnit}
use Rattle.vg_catalog.specs.Called.{called_by, headers_of}
use Rattle.vg_catalog.specs.Entries.{Entry}
use Rattle.vg_emission.specs.Laws.{MeansUnits}
use Rattle.vg_emission.specs.Program.{param_of}
use Rattle.vg_events.specs.Events.{kernel_labels}
use Rattle.vg_events.specs.Lines.{line_labels}
use Rattle.vg_known.specs.Difference.{Difference, difference_by, uneven_label}
use Rattle.vg_known.specs.WiderDifference.{equal_wider, wider_difference}
use Rattle.vg_rewrite.specs.Rewritten.{are_few, over}
use Rattle.vg_ssa.specs.OfUnits.{AreNumbered}
use Rattle.vg_verify.specs.declared.verdict.Verdict.{Verdict}
use Rattle.vg_verify.specs.declared.verdict.Verdict.TheVariants.{Same}
use Rattle.vg_verify.specs.Heads.{HasHead}
use Rattle.vg_verify.specs.Verdicts.{verdict_of}
use Rattle.vg_levelled.specs.Levelled.{Added, added, fits, has_offset, levelled, levelled_difference, Sides, with_added, with_loads}
use Rattle.vg_levelled.specs.Verified.{IsVerified}
use Rattle.vg_levelled.proofs.Meaning.{levelled-means}
use Rattle.vg_levelled.proofs.Valid.{added-keeps-rules}

-- what `verify` tells of numbered values and a program
pub record IsTold (entries : List Entry) (ssa : Ssa) (p : Program) (v : Verdict) : Type 0 where
  pub exact : verdict_of v ≡ wider_difference entries ssa p
  pub same : v ≡ Same → KeepsRules (headers_of entries) p → MeansUnits (called_by entries) p ssa
  pub head : v ≡ Same → HasHead ssa p

-- where nothing is added
pub as-they-are : (entries : List Entry) (ssa : Ssa) (p : Program) (v : Verdict)
    → (is_some (uneven_label (kernel_labels ssa) (line_labels p.lines)) && fits ssa p (added ssa p)) ≡ false
    → IsTold entries ssa p v → IsVerified entries ssa p v
unfolding levelled_difference
as-they-are entries ssa p v none told =
    let e : levelled ssa p ≡ record { ssa = ssa; program = p } = cond-false _ _ _ none in
    record {
      exact = told.exact ∙ sym (ap (λ (s : Sides). wider_difference entries s.ssa s.program) e);
      same = told.same;
      head = told.head;
    }

-- no difference looks at terms, and no meaning does
without-terms : (entries : List Entry) (ssa : Ssa) (p : Program) → wider_difference entries ssa p ≡ wider_difference
    entries (record ssa { terms = []; cuts = [] }) p
unfolding difference_by
without-terms entries ssa p = refl

numbered-is : (ssa new : Ssa) (us : List SsaUnit) → AreNumbered ssa.name ssa.params us new
    → record new { terms = []; cuts = [] } ≡ over ssa us
numbered-is ssa new us is = (λ i. record
    { name = is.named i; params = is.over i; units = is.made_of i; terms = []; cuts = [] })

means-without : (called : Instructions) (ssa : Ssa) (p : Program) → MeansUnits called p ssa
    → MeansUnits called p (record ssa { terms = []; cuts = [] })
means-without called ssa p means = means

-- where loads are added
pub with-loads : (entries : List Entry) (ssa new : Ssa) (p q : Program) (v : Verdict)
    → is_some (uneven_label (kernel_labels ssa) (line_labels p.lines)) ≡ true → fits ssa p (added ssa p) ≡ true
    → AreNumbered ssa.name ssa.params (ssa.units ++ (added ssa p).units) new → q ≡ with_loads p (added ssa p).loads
    → IsTold entries new q v → IsVerified entries ssa p v
unfolding levelled_difference
with-loads entries ssa new p q v uneven fit is lines told =
    let us = ssa.units ++ (added ssa p).units in
    let units = numbered-is ssa new us is in
    let both : (is_some (uneven_label (kernel_labels ssa) (line_labels p.lines)) && fits ssa p (added ssa p)) ≡
    true = (λ i. uneven i && fit i) in
    let e : levelled ssa p ≡ with_added ssa p (added ssa p) = cond-true _ _ _ both in
    record {
      exact =
          told.exact ∙ without-terms entries new q ∙ (λ i. wider_difference entries (units i) (lines i))
          ∙ sym (ap (λ (s : Sides). wider_difference entries s.ssa s.program) e);
      same = λ y rules.
          let valid : KeepsRules (headers_of entries) q = subst (KeepsRules (headers_of entries)) (sym lines)
          (added-keeps-rules (headers_of entries) ssa p rules fit) in
          let means : MeansUnits (called_by entries) (with_loads p (added ssa p).loads) (over ssa us) =
          subst (λ l. MeansUnits (called_by entries) l (over ssa us)) lines
          (subst (MeansUnits (called_by entries) q) units
          (means-without (called_by entries) new q (told.same y valid))) in
          levelled-means (called_by entries) ssa p
          (subst (λ (s : Sides). MeansUnits (called_by entries) s.program s.ssa) (sym e) means);
      head = λ y.
          let h = told.head y in
          record {
            name = sym (ap (λ (l : Program). l.name) lines) ∙ h.name ∙ is.named;
            params = sym (ap (λ (l : Program). l.params) lines) ∙ h.params ∙ ap (λ ps. map param_of ps) is.over;
          };
    }

pub all-told : {E : Type 0} (entries : List Entry) (ssa : Ssa) (p : Program) (r : Result Verdict E)
    → IfOk r (λ v. verdict_of v ≡ wider_difference entries ssa p)
    → IfOk r (λ v. v ≡ Same → KeepsRules (headers_of entries) p → MeansUnits (called_by entries) p ssa)
    → IfOk r (λ v. v ≡ Same → HasHead ssa p) → IfOk r (IsTold entries ssa p)
all-told entries ssa p (Ok v) a b h = record { exact = a; same = b; head = h }
all-told entries ssa p (Err e) a b h = tt

pub and-none : (a b : Bool) → b ≡ false → (a && b) ≡ false
and-none true b h = h
and-none false b h = refl

and-parts : (a b : Bool) → (a && b) ≡ true → (a ≡ true) × (b ≡ true)
and-parts true b h = (refl, h)
and-parts false b h = absurd (cc)

pub fits-small : (ssa : Ssa) (p : Program) (x : Added) → fits ssa p x ≡ true → p.cost + length x.loads < 2 ^ 32
fits-small ssa p x h =
    let one = and-parts (nat_le (length x.units) 8192)
    (are_few (ssa.units ++ x.units) && (list_all has_offset x.loads && nat_lt (p.cost + length x.loads) (2 ^ 32)))
    h in
    let two = and-parts (are_few (ssa.units ++ x.units))
    (list_all has_offset x.loads && nat_lt (p.cost + length x.loads) (2 ^ 32)) one.1 in
    ltb-true _ _ (and-parts (list_all has_offset x.loads) (nat_lt (p.cost + length x.loads) (2 ^ 32)) two.1).1

pub too-many : (ssa : Ssa) (p : Program) → nat_le (length (added ssa p).units) 8192 ≡ false
    → fits ssa p (added ssa p) ≡ false
too-many ssa p h = ap (λ b. b &&
    (are_few (ssa.units ++ (added ssa p).units) &&
    (list_all has_offset (added ssa p).loads && nat_lt (p.cost + length (added ssa p).loads) (2 ^ 32)))) h
