-- The first difference, test by test, and what it means that there is none.
use Rattle.std.proofs.Common.{◌≡◌, ℕ, Bool, true, false, List, Option, Some, None, refl, sym, ap, ◌∙◌}
use Rattle.std.specs.Option.{option_map, option_or}
use Rattle.std.proofs.lemmas.Bool.{cond-false, cond-true}
use Rattle.vg_program.specs.declared.program.Program.{Program}
use Rattle.vg_program.specs.Valid.{KeepsRules}
use Rattle.vg_shapes.specs.declared.ssa.Ssa.{Ssa}
use Rattle.vg_shapes.specs.Sound.{IsSound}
use Rattle.vg_catalog.specs.declared.catalog.Catalog.{Catalog}
use Rattle.vg_catalog.specs.Called.{called_by, headers_of}
use Rattle.vg_catalog.specs.Catalogs.{entries_in}
use Rattle.vg_catalog.specs.Entries.{Entry}
use Rattle.vg_emission.specs.Laws.{MeansUnits}
use Rattle.vg_emission.specs.Scalar.{scalar_program}
use Rattle.vg_events.specs.Events.{kernel_labels}
use Rattle.vg_events.specs.Lines.{line_labels}
use Rattle.vg_known.specs.Difference as known
use Rattle.vg_known.specs.Difference.{difference_by, lines_by_rank, opaque_line, other_value, params, turned_units, uneven_label}
use Rattle.vg_known.specs.Laws.{SameIsSameWithMore, SameMeansUnits}
use Rattle.vg_known.specs.WiderDifference.{equality}
use Rattle.vg_known.specs.Params.{same_head}
use Rattle.vg_known_scalar.specs.Laws.{ScalarProgramsAreSame}
use Rattle.vg_told.specs.Told.{CatalogsAreTold}
use Rattle.vg_verify.specs.declared.verdict.Verdict.{Verdict}
use Rattle.vg_verify.specs.declared.verdict.Verdict.TheVariants.{Same, Differs}
use Rattle.vg_verify.specs.Verdicts.{event_difference, inner_difference, verdict_of}

-- ---- the first that there is

pub first_some : (o rest : Option known.Difference) (d : known.Difference) → Some d ≡ o → Some d ≡ option_or o rest
first_some (Some x) rest d e = e
first_some None rest d e = absurd (cc)

pub first_none : (o rest found : Option known.Difference) → None ≡ o → found ≡ rest → found ≡ option_or o rest
first_none (Some x) rest found e f = absurd (cc)
first_none None rest found e f = f

-- after calls all of which are told by lanes with terms, events and values make the first difference
pub inner_events : (equal : known.Equality) (calls entries : List Entry) (ssa : Ssa) (p : Program) (line : Option ℕ)
    (found : Option known.Difference)
    → calls ≡ entries → option_map known.opaque line ≡ opaque_line calls p → line ≡ None
    → found ≡ event_difference equal calls ssa p
    → found ≡ inner_difference equal entries ssa p
inner_events equal calls entries ssa p line found same told none first =
    first_none (opaque_line entries p) (event_difference equal entries ssa p) found
    (ap (option_map known.opaque) (sym none) ∙ told ∙ ap (λ (es : List Entry). opaque_line es p) same)
    (first ∙ ap (λ (es : List Entry). event_difference equal es ssa p) same)

or_none : (o : Option known.Difference) → option_or o None ≡ o
or_none None = refl
or_none (Some d) = refl

pub same_heads : (equal : known.Equality) (entries : List Entry) (ssa : Ssa) (p : Program) → same_head ssa p ≡ true
    → inner_difference equal entries ssa p ≡ difference_by equal entries ssa p
unfolding difference_by
same_heads equal entries ssa p t =
    let lines = lines_by_rank ssa p in
    ap (λ o. option_or (opaque_line entries p) (option_or (uneven_label (kernel_labels ssa) (line_labels p.lines)) (option_or (turned_units ssa lines) o)))
    (sym (or_none (other_value equal entries ssa p lines)))
    ∙ sym (cond-true _ _ _ t)

pub other_heads : (equal : known.Equality) (entries : List Entry) (ssa : Ssa) (p : Program) → same_head ssa p ≡ false
    → Some params ≡ difference_by equal entries ssa p
unfolding difference_by
other_heads equal entries ssa p t = sym (cond-false _ _ _ t)

-- ---- where there is none

pub means_same : SameMeansUnits → CatalogsAreTold → (more : Bool) (catalog : Catalog) (ssa : Ssa) (p : Program)
    (v : Verdict)
    → IsSound ssa → verdict_of v ≡ difference_by (equality more) (entries_in catalog) ssa p
    → v ≡ Same → KeepsRules (headers_of (entries_in catalog)) p → MeansUnits (called_by (entries_in catalog)) p ssa
means_same law told more catalog ssa p v sound exact same rules =
    law more (called_by (entries_in catalog)) (entries_in catalog) ssa p sound rules (told catalog)
    (sym exact ∙ ap verdict_of same)

none_same : (v : Verdict) → verdict_of v ≡ None → v ≡ Same
none_same Same e = refl
none_same (Differs d) e = absurd (cc)

scalar_none : ScalarProgramsAreSame → SameIsSameWithMore → (more : Bool) (entries : List Entry) (ssa : Ssa)
    → IsSound ssa → difference_by (equality more) entries ssa (scalar_program ssa) ≡ None
scalar_none law wider false entries ssa sound = law entries ssa sound
scalar_none law wider true entries ssa sound = wider entries ssa (scalar_program ssa) (law entries ssa sound)

pub scalar_same : ScalarProgramsAreSame → SameIsSameWithMore → (more : Bool) (entries : List Entry) (ssa : Ssa)
    (p : Program) (v : Verdict) → IsSound ssa
    → verdict_of v ≡ difference_by (equality more) entries ssa p → p ≡ scalar_program ssa → v ≡ Same
scalar_same law wider more entries ssa p v sound exact e =
    none_same v (exact ∙ ap (difference_by (equality more) entries ssa) e ∙ scalar_none law wider more entries ssa
    sound)
