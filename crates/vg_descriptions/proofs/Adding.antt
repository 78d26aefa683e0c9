-- What is appended for an instance.
use Rattle.std.proofs.Common.{◌≡◌, ℕ, ◌*◌, List, [], ◌∷◌, ◌++◌, length, map, sym, ap, ◌∙◌, subst}
use Rattle.std.proofs.lemmas.List.{map-append}
use Rattle.vg_pseudo.specs.declared.header.Header.{Header}
use Rattle.vg_pseudo.specs.Tree.{Operation}
use Rattle.vg_shapes.specs.declared.description.Description as in_memory
use Rattle.vg_shapes.specs.Description.{Description, description_of}
use Rattle.vg_shapes.specs.Lane.{Lane}
use Rattle.vg_lanes.specs.declared.described.Described as declared
use Rattle.vg_lanes.specs.declared.described.Described.TheVariants.{Packable}
use Rattle.vg_lanes.specs.Described.{IsKept, described, described_of, packable}
use Rattle.vg_lift.specs.Instances.{HasInstance, MeanLanes, instance_lanes}
use Rattle.vg_catalog.specs.Entries.{Entry}
use Rattle.vg_descriptions.specs.Descriptions.{AreOf, IsNumbered, IsOf, StayOf, callable, instance_description}
use Rattle.vg_descriptions.specs.Proper.{IsProper}
use Rattle.vg_descriptions.proofs.Truth.{is-of}

-- what was described is packable
is-packable : (d : declared.Described) (found : in_memory.Description) (g h : Header) (imm : ℕ) (ls : List Lane)
    → d ≡ Packable found → g ≡ h → described_of d ≡ described g imm ls → described h imm ls ≡ packable (description_of found)
is-packable d found g h imm ls e same is = sym (ap described_of (sym e) ∙ is ∙ ap (λ x. described x imm ls) same)

more-is : (old new : List in_memory.Description) (found : in_memory.Description) → new ≡ old ++ found ∷ []
    → map description_of new ≡ map description_of old ++ description_of found ∷ []
more-is old new found e = ap (map description_of) e ∙ map-append description_of old (found ∷ [])

pub added : (old new : List in_memory.Description) (found : in_memory.Description) (d : declared.Described) (g h : Header) (o : Operation) (imm : ℕ) (ls : List Lane)
    → new ≡ old ++ found ∷ [] → d ≡ Packable found → g ≡ h → described_of d ≡ described g imm ls → ls ≡ instance_lanes h o imm
    → map description_of new ≡ map description_of old ++ instance_description h o imm
added old new found d g h o imm ls e there same is lanes =
    more-is old new found e
    ∙ ap (λ x. map description_of old ++ callable x) (sym (is-packable d found g h imm ls there same is) ∙ ap (described h imm) lanes)

-- one description more of these entries
are-more : (entries : List Entry) (ds : List Description) (d : Description) → AreOf entries ds → IsOf entries d → AreOf entries (ds ++ d ∷ [])
are-more entries [] d h is = (is, tt)
are-more entries (x ∷ ds) d h is = (h.0, are-more entries ds d h.1 is)

pub stays : (old new : List in_memory.Description) (found : in_memory.Description) (d : declared.Described) (g : Header) (e : Entry) (imm : ℕ) (ls : List Lane)
    → new ≡ old ++ found ∷ [] → d ≡ Packable found → g ≡ e.header → described_of d ≡ described g imm ls → IsKept (described_of d)
    → IsProper e.header → HasInstance e.header imm → IsNumbered e.header imm → MeanLanes e.header e.operation imm 0 ls
    → length ls * e.header.lane_width ≡ e.header.register
    → StayOf e (map description_of old) (map description_of new)
stays old new found d g e imm ls more there same is kept proper has at means fill = λ entries named are.
    let packable = subst (λ x. IsKept (described_of x)) there kept in
    subst (AreOf entries) (sym (more-is old new found more))
    (are-more entries (map description_of old) (description_of found) are
    (is-of entries e imm ls (description_of found) named proper has at means fill (is-packable d found g e.header imm ls there same is) packable))
