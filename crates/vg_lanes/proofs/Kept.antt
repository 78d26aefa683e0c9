-- A description keeps what the lanes of an instance are.
use Rattle.std.proofs.Common.{◌≡◌, ℕ, suc, ◌*◌, refl, sym, ap, ◌∙◌, subst, inl, inr, Bool, true, false, List, [], ◌∷◌, length, map}
use Rattle.std.specs.Prelude.{Option, Some, None, flat_map, if◌then◌else◌}
use Rattle.std.specs.List.{AllByRecursion, list_any}
use Rattle.vg_pseudo.specs.declared.header.Header.{Header}
use Rattle.vg_terms.specs.declared.term.LeafKey.{LeafKey}
use Rattle.vg_terms.specs.Term.{Tree, leaf, constant, one, two, sel}
use Rattle.vg_canon.specs.Canonical.{canonical}
use Rattle.vg_canon.proofs.Forms.{canonical-settled}
use Rattle.vg_canon_laws.specs.Leaves.{IsLeafOf}
use Rattle.vg_canon_laws.proofs.Leaves.{canonical-keeps-leaves}
use Rattle.vg_shapes.specs.Description.{IsLane}
use Rattle.vg_shapes.specs.Lane.{Lane, known, big, dynamic}
use Rattle.vg_shapes.specs.Leaves.{is_odd, leaves, some_clash}
use Rattle.vg_shapes.specs.Registers.{LeavesInside}
use Rattle.vg_lanes.specs.declared.cause.Cause.{Cause}
use Rattle.vg_lanes.specs.declared.cause.Cause.TheVariants.{Dynamic, TooLarge, OddLeaf, MixedInput}
use Rattle.vg_lanes.specs.Described.{AreLanes, IsKept, MayBeLane, by_cause, canonical_lane, cause_of, cause_of_leaves, described, is_big, is_dynamic, registers, terms_of}

-- ---- leaves inside the parameters

abbrev Inside : List ℕ → ℕ → LeafKey → Type 0
Inside ws w k = LeavesInside ws (leaf w k)

inside-each : (ws : List ℕ) (t : Tree) → LeavesInside ws t → (w : ℕ) (k : LeafKey) → IsLeafOf w k t → Inside ws w k
inside-each ws (leaf v j) h w k l = subst (λ n. Inside ws n k) (sym l.0) (subst (Inside ws v) (sym l.1) h)
inside-each ws (constant v n) h w k l = absurd l
inside-each ws (one op v n x) h w k l = inside-each ws x h w k l
inside-each ws (two op v x y) h w k l = elim l [ inl a ↦ inside-each ws x h.0 w k a | inr b ↦ inside-each ws y h.1 w k b ]
inside-each ws (sel v c x y) h w k l =
    elim l [
      | inl a ↦ inside-each ws c h.0 w k a
      | inr b ↦ elim b [ inl d ↦ inside-each ws x h.1 w k d | inr e ↦ inside-each ws y h.2 w k e ]
    ]

each-inside : (ws : List ℕ) (t : Tree) → ((w : ℕ) (k : LeafKey) → IsLeafOf w k t → Inside ws w k) → LeavesInside ws t
each-inside ws (leaf w k) f = f w k (refl, refl)
each-inside ws (constant w n) f = tt
each-inside ws (one op w k x) f = each-inside ws x f
each-inside ws (two op w x y) f = (each-inside ws x (λ v j h. f v j (inl h)), each-inside ws y (λ v j h. f v j (inr h)))
each-inside ws (sel w c x y) f =
    (each-inside ws c (λ v j h. f v j (inl h)), each-inside ws x (λ v j h. f v j (inr (inl h))), each-inside ws y (λ v j h. f v j (inr (inr h))))

canonical-inside : (ws : List ℕ) (t : Tree) → LeavesInside ws t → LeavesInside ws (canonical t)
canonical-inside ws t h =
    each-inside ws (canonical t) (λ w k l. inside-each ws t h w k (canonical-keeps-leaves t w k l))

-- ---- lanes

canonical-lane : (ws : List ℕ) (n : ℕ) (t : Tree) → IsLane ws n t → IsLane ws n (canonical t)
canonical-lane ws n t h =
    let s = canonical-settled t h.formed in
    record { formed = s.keeps.well_formed; wide = s.keeps.width ∙ h.wide; inside = canonical-inside ws t h.inside }

-- lanes that all have terms
abbrev AllKnown : List Lane → Type 0
AllKnown [] = Unit {0}
AllKnown (known t ∷ ls) = AllKnown ls
AllKnown (big ∷ ls) = ⊥
AllKnown (dynamic ∷ ls) = ⊥

all-known : (ls : List Lane) → list_any is_dynamic ls ≡ false → list_any is_big ls ≡ false → AllKnown ls
all-known [] d b = tt
all-known (known t ∷ ls) d b = all-known ls d b
all-known (big ∷ ls) d b = absurd (cc)
all-known (dynamic ∷ ls) d b = absurd (cc)

terms-count : (ls : List Lane) → AllKnown (map canonical_lane ls) → length (terms_of (map canonical_lane ls)) ≡ length ls
terms-count [] h = refl
terms-count (known t ∷ ls) h = ap suc (terms-count ls h)
terms-count (big ∷ ls) h = absurd h
terms-count (dynamic ∷ ls) h = absurd h

terms-lanes : (header : Header) (ls : List Lane) → AllByRecursion (MayBeLane header) ls → AllKnown (map canonical_lane ls) → AllByRecursion (IsLane (registers header) header.lane_width) (terms_of (map canonical_lane ls))
terms-lanes header [] h k = tt
terms-lanes header (known t ∷ ls) h k = (canonical-lane (registers header) header.lane_width t h.0, terms-lanes header ls h.1 k)
terms-lanes header (big ∷ ls) h k = absurd k
terms-lanes header (dynamic ∷ ls) h k = absurd k

-- ---- without a cause

record NoCause (lanes : List Lane) : Type 0 where
  static : list_any is_dynamic lanes ≡ false
  small : list_any is_big lanes ≡ false
  even : list_any is_odd (flat_map leaves (terms_of lanes)) ≡ false
  apart : some_clash (flat_map leaves (terms_of lanes)) ≡ false

if-none : (b : Bool) (x : Cause) (o : Option Cause) → (if b then Some x else o) ≡ None → (b ≡ false) × (o ≡ None)
if-none true x o e = absurd (cc)
if-none false x o e = (refl, e)

no-cause : (lanes : List Lane) → cause_of lanes ≡ None → NoCause lanes
no-cause lanes e =
    let ls = flat_map leaves (terms_of lanes) in
    let a = if-none (list_any is_dynamic lanes) Dynamic (if list_any is_big lanes then Some TooLarge else cause_of_leaves ls) e in
    let b = if-none (list_any is_big lanes) TooLarge (cause_of_leaves ls) a.1 in
    let c = if-none (list_any is_odd ls) OddLeaf (if some_clash ls then Some MixedInput else None) b.1 in
    let d = if-none (some_clash ls) MixedInput None c.1 in
    record { static = a.0; small = b.0; even = c.0; apart = d.0 }

packable-kept : (header : Header) (lanes : List Lane) → AreLanes header lanes → (o : Option Cause) → cause_of (map canonical_lane lanes) ≡ o → (imm : ℕ) → IsKept (by_cause header imm (map canonical_lane lanes) o)
packable-kept header lanes h (Some cause) e imm = tt
packable-kept header lanes h None e imm =
    let forms = map canonical_lane lanes in
    let n = no-cause forms e in
    let k = all-known forms n.static n.small in
    record {
      fill = ap (λ c. c * header.lane_width) (terms-count lanes k) ∙ h.fill;
      lanes = terms-lanes header lanes h.each k;
      even = n.even;
      apart = n.apart;
    }

pub described-kept : (header : Header) (imm : ℕ) (lanes : List Lane) → AreLanes header lanes → IsKept (described header imm lanes)
described-kept header imm lanes h = packable-kept header lanes h (cause_of (map canonical_lane lanes)) refl imm
