-- What is tried for an operand, and after a plan, one part after the other.
use Rattle.std.proofs.Common.{◌≡◌, List, [], ◌∷◌, ◌++◌, sym, ◌∙◌, ap, append_assoc, append-nil}
use Rattle.std.specs.List.{flat_map}
use Rattle.std.proofs.lemmas.Grind.{flat_map-append}
use Rattle.vg_kernel_plans.proofs.Tables.{fed-by}
use Rattle.vg_kernel_plans.specs.declared.choice.Choice.{Choice}
use Rattle.vg_kernel_plans.specs.declared.load_groups.LoadGroups.{LoadGroups}
use Rattle.vg_kernel_plans.specs.Fed.{packing_by, unfed}
use Rattle.vg_kernel_plans.specs.LoadTable.{AreLoadGroups, feeders_in}
use Rattle.vg_kernel_plans.specs.Producers.{producers}
use Rattle.vg_kernel_plans.specs.Taken.{operands_of}
use Rattle.vg_plans.specs.World.{World, tried, tried_for}
use Rattle.vg_shapes.specs.declared.match_table.Match.{Match}
use Rattle.vg_shapes.specs.declared.operand.Operand.{Operand}
use Rattle.vg_shapes.specs.declared.pack.Pack.{Pack}
use Rattle.vg_shapes.specs.declared.ssa.Ssa.{Ssa}
use Rattle.vg_shapes.specs.Description.{Description}

-- producers, then what feeds
pub for-operand : (ds : List Description) (matches : List Match) (ssa : Ssa) (g : LoadGroups) → AreLoadGroups ssa g → (o : Operand)
    (old mid new produce feed : List Pack) → produce ≡ producers ds matches ssa o → mid ≡ old ++ produce → feed ≡ feeders_in g o → new ≡ mid ++ feed
    → new ≡ old ++ tried_for (packing_by g.choice ds matches ssa []) o
for-operand ds matches ssa g is o old mid new produce feed p m f n =
    n ∙ ap (λ xs. xs ++ feed) m ∙ append_assoc old produce feed
    ∙ ap (λ xs. old ++ (xs ++ feed)) p ∙ ap (λ xs. old ++ (producers ds matches ssa o ++ xs)) (f ∙ fed-by ssa g is o)

-- the packs that are tried after a plan with one more pack
tried-push : (w : World Pack Operand Operand) (plan : List Pack) (p : Pack)
    → tried w (plan ++ p ∷ []) ≡ tried w plan ++ flat_map (tried_for w) (w.operands_of p)
tried-push w plan p =
    let of : Pack → List Pack = λ q. flat_map (tried_for w) (w.operands_of q) in
    ap (λ xs. w.groups ++ xs) (flat_map-append of plan (p ∷ []) ∙ ap (λ xs. flat_map of plan ++ xs) (append-nil (of p)))
    ∙ sym (append_assoc w.groups (flat_map of plan) (of p))

pub tried-more : (c : Choice) (ds : List Description) (matches : List Match) (ssa : Ssa) (plan more old new : List Pack) (p q : Pack)
    → c ≡ unfed → old ≡ tried (packing_by unfed ds matches ssa []) plan → p ≡ q → more ≡ plan ++ q ∷ []
    → new ≡ old ++ flat_map (tried_for (packing_by c ds matches ssa [])) (operands_of ds matches ssa p)
    → new ≡ tried (packing_by unfed ds matches ssa []) more
tried-more c ds matches ssa plan more old new p q u t e m n =
    let of : Choice → Pack → List Pack = λ d x. flat_map (tried_for (packing_by d ds matches ssa [])) (operands_of ds matches ssa x) in
    n ∙ ap (λ xs. xs ++ of c p) t ∙ ap (λ d. tried (packing_by unfed ds matches ssa []) plan ++ of d p) u
    ∙ ap (λ x. tried (packing_by unfed ds matches ssa []) plan ++ of unfed x) e
    ∙ sym (tried-push (packing_by unfed ds matches ssa []) plan q)
    ∙ ap (tried (packing_by unfed ds matches ssa [])) (sym m)
