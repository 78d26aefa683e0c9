-- Canonical forms keep leaves: each row does, and nothing else is done.
use Rattle.std.proofs.Common.{◌≡◌, ℕ, zero, suc}
use Rattle.std.specs.Prelude.{Option, Some, None}
use Rattle.std.specs.Option.{option_or, option_map_or}
use Rattle.vg_terms.specs.declared.term.LeafKey.{LeafKey}
use Rattle.vg_terms.specs.Measure.{measure}
use Rattle.vg_terms.specs.Term.{Tree, leaf, constant, one, two, sel}
use Rattle.vg_rules_sum.specs.Rules as sum
use Rattle.vg_rules_width.specs.Rules as width
use Rattle.vg_rules_choice.specs.Rules as choice
use Rattle.vg_canon.specs.Canonical.{first_rule, over_children, at_root, canonical_within, canonical}
use Rattle.vg_canon_laws.specs.Leaves.{IsLeafOf, CanonicalFormsKeepLeaves}
use Rattle.vg_canon_laws.proofs.Kept.{LeavesIn, Kept, RowKeeps, kept-or, first-keeps, leaves-in, leaf-in}
use Rattle.vg_canon_laws.proofs.Sums.{sum_rows-keep}
use Rattle.vg_canon_laws.proofs.Widths.{width_rows-keep}
use Rattle.vg_canon_laws.proofs.Choices.{choice_rows-keep}

width_table-keeps : RowKeeps width.first_row
unfolding width.first_row
width_table-keeps s t h = first-keeps width.rows width_rows-keep s t h

first_rule-keeps : RowKeeps first_rule
unfolding first_rule
first_rule-keeps s t h =
    kept-or s (sum.first_row t) (option_or (width.first_row t) (choice.first_row t)) (first-keeps sum.rows sum_rows-keep s t h)
    (kept-or s (width.first_row t) (choice.first_row t) (width_table-keeps s t h) (first-keeps choice.rows choice_rows-keep s t h))

abbrev Keeps : (Tree → Tree) → Tree → Type 0
Keeps f s = (t : Tree) → LeavesIn s t → LeavesIn s (f t)

over_children-keeps : (f : Tree → Tree) (s : Tree) → Keeps f s → Keeps (over_children f) s
over_children-keeps f s g (leaf w k) h = h
over_children-keeps f s g (constant w v) h = h
over_children-keeps f s g (one op w k x) h = g x h
over_children-keeps f s g (two op w x y) h = (g x h.0, g y h.1)
over_children-keeps f s g (sel w c x y) h = (g c h.0, g x h.1, g y h.2)

after_rule-keeps : (f : Tree → Tree) (s : Tree) → Keeps f s → (t : Tree) (o : Option Tree) → Kept s o → LeavesIn s t → LeavesIn s (option_map_or f o t)
after_rule-keeps f s g t (Some u) k h = g u k
after_rule-keeps f s g t None k h = h

within-keeps : (n : ℕ) (s : Tree) → Keeps (canonical_within n) s
unfolding canonical_within
within-keeps zero s t h = h
within-keeps (suc n) s t h =
    let f = canonical_within n in
    let over = over_children-keeps f s (within-keeps n s) t h in
    after_rule-keeps f s (within-keeps n s) (over_children f t) (first_rule (over_children f t)) (first_rule-keeps s (over_children f t) over) over

pub canonical-keeps-leaves : CanonicalFormsKeepLeaves
unfolding canonical
canonical-keeps-leaves t w k h =
    leaf-in t (canonical t) w k (within-keeps (suc (measure t)) t t (leaves-in t t (λ v j l. l))) h
