use Rattle.std.proofs.Common.{◌≡◌, true, false, List, ◌++◌, ◌∙◌, ap, arith, length, map, rules, subst, sym}
use Rattle.std.specs.Option.{is_some}
use Rattle.std.proofs.lemmas.List.{length-map}
use Rattle.std.proofs.lemmas.Result.{IfOk-weaker}
use Rattle.vg_catalog.specs.Catalogs.{entries_in}
use Rattle.vg_events.specs.Events.{kernel_labels}
use Rattle.vg_events.specs.Lines.{line_labels}
use Rattle.vg_known.specs.Difference.{uneven_label}
use Rattle.vg_paired.specs.ByteLabels.{label_of}
use Rattle.vg_rewrite.specs.Rewritten.{over}
use Rattle.vg_shapes.specs.declared.ssa_unit.SsaUnit.{SsaUnit}
use Rattle.vg_ssa.specs.OfUnits.{AreNumbered, CanBeNumbered}
use Rattle.vg_levelled.specs.Found.{seen}
use Rattle.vg_levelled.specs.Levelled.{Added, added, fits, with_loads}
use Rattle.vg_levelled.proofs.Verified.{all-told, and-none, as-they-are, fits-small, with-loads}
use Rattle.vg_levelled.proofs.verifying.verify_added.Goals as goal

pub returns-then-not-fits : goal.returns-then-not-fits
returns-then-not-fits c =
    let entries = entries_in c.args.catalog.now in
    let ssa = c.args.ssa.now in
    let p = c.args.program in
    let no : fits ssa p (added ssa p) ≡ false = sym (c.fits.ensures ∙ ap (fits ssa p) c.requires.are) ∙ search rules in
    IfOk-weaker c.verify.result _ _
    (λ v t. as-they-are entries ssa p v
    (and-none (is_some (uneven_label (kernel_labels ssa) (line_labels p.lines))) (fits ssa p (added ssa p)) no) t)
    (all-told entries ssa p c.verify.result c.verify.ensures.exact c.verify.ensures.same c.verify.ensures.head)

pub numbered-requires : goal.numbered-requires
numbered-requires c =
    let ssa = c.args.ssa.now in
    let p = c.args.program in
    let fit : fits ssa p (added ssa p) ≡ true = sym (c.fits.ensures ∙ ap (fits ssa p) c.requires.are) ∙ search rules in
    let all : c.in_ok-all.all.items ≡ ssa.units ++ (added ssa p).units =
    c.in_ok-all.ensures ∙ (λ i. c.as_slice.ensures i ++
    (c.as_slice-2.ensures ∙ ap (λ (x : Added). x.units) c.requires.are) i) in
    subst (λ (us : List SsaUnit). CanBeNumbered (over ssa us)) (sym all)
    (c.added_can_be_numbered.ensures ssa p c.requires.sound fit)

pub with_loads-requires : goal.with_loads-requires
with_loads-requires c =
    let fit : fits c.args.ssa.now c.args.program (seen c.args.found.now) ≡ true = sym c.fits.ensures ∙ search rules in
    let small = fits-small c.args.ssa.now c.args.program (seen c.args.found.now) fit in
    omega (arith, small, length-map c.args.found.now.loads.items label_of, ap length c.deref-2.ensures.value)

pub returns : goal.returns
returns c =
    let entries = entries_in c.args.catalog.now in
    let ssa = c.args.ssa.now in
    let p = c.args.program in
    let fit : fits ssa p (added ssa p) ≡ true = sym (c.fits.ensures ∙ ap (fits ssa p) c.requires.are) ∙ search rules in
    let all : c.in_ok-all.all.items ≡ ssa.units ++ (added ssa p).units =
    c.in_ok-all.ensures ∙ (λ i. c.as_slice.ensures i ++
    (c.as_slice-2.ensures ∙ ap (λ (x : Added). x.units) c.requires.are) i) in
    let is = subst (λ (us : List SsaUnit). AreNumbered ssa.name ssa.params us c.in_ok-units.units) all
    c.in_ok-units.ensures.exact in
    let lines : c.in_ok-lines.lines ≡ with_loads p (added ssa p).loads =
    c.in_ok-lines.ensures ∙ ap (with_loads p) (ap (map label_of) c.deref-2.ensures.value
    ∙ ap (λ (x : Added). x.loads) c.requires.are) in
    IfOk-weaker c.verify-2.result _ _
    (λ v t. with-loads entries ssa c.in_ok-units.units p c.in_ok-lines.lines v c.requires.uneven fit is lines t)
    (all-told entries c.in_ok-units.units c.in_ok-lines.lines c.verify-2.result c.verify-2.ensures.exact
    c.verify-2.ensures.same c.verify-2.ensures.head)
