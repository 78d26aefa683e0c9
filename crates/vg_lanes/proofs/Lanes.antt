-- Lists of lanes.
use Rattle.std.proofs.Common.{◌≡◌, ℕ, append_assoc, refl, sym, ap, ◌∙◌, Bool, true, false, List, [], ◌∷◌, ◌++◌, map}
use Rattle.std.specs.Prelude.{◌||◌, flat_map, Option, Some}
use Rattle.std.specs.List.{AllByRecursion, list_any}
use Rattle.std.proofs.lemmas.Grind.{flat_map-append}
use Rattle.std.proofs.lemmas.List.Concat.{flat_map-cons}
use Rattle.vg_shapes.specs.declared.lane.Lane as declared
use Rattle.vg_shapes.specs.declared.leaf.Leaf.{Leaf}
use Rattle.vg_pseudo.specs.declared.header.Header.{Header}
use Rattle.vg_shapes.specs.Lane.{Lane, known, big, dynamic, lane_of}
use Rattle.vg_shapes.specs.Leaves.{leaves}
use Rattle.vg_terms.specs.declared.text.Names.{Names}
use Rattle.vg_lanes.specs.declared.cause.Cause.{Cause}
use Rattle.vg_lanes.specs.declared.cause.Cause.TheVariants.{Dynamic, TooLarge}
use Rattle.vg_lanes.specs.Described.{MayBeLane, by_cause, canonical_lane, cause_of, cause_of_leaves, described, is_big, is_dynamic, term_of, terms_of}
use Rattle.vg_lanes.specs.Formed.{IsFormed}
use Rattle.vg_lanes.specs.Listing.{first_line, instance_text, lane_lines, last_line, names_of}

pub any_lane : (test : Lane → Bool) (lanes : List declared.Lane) → list_any (λ l. test (lane_of l)) lanes ≡ list_any test (map lane_of lanes)
any_lane test [] = refl
any_lane test (l ∷ ls) = ap (λ b. test (lane_of l) || b) (any_lane test ls)

pub leaves_of_lanes : (lanes : List declared.Lane) → flat_map (λ l. flat_map leaves (term_of (lane_of l))) lanes ≡ flat_map leaves (terms_of (map lane_of lanes))
leaves_of_lanes [] = refl
leaves_of_lanes (l ∷ ls) =
    flat_map-cons (λ m. flat_map leaves (term_of (lane_of m))) l ls
    ∙ ap (λ (r : List Leaf). flat_map leaves (term_of (lane_of l)) ++ r) (leaves_of_lanes ls)
    ∙ sym (flat_map-append leaves (term_of (lane_of l)) (terms_of (map lane_of ls)))
    ∙ ap (flat_map leaves) (sym (flat_map-cons term_of (lane_of l) (map lane_of ls)))

-- ---- the first cause

pub dynamic-first : (lanes : List declared.Lane) → list_any (λ l. is_dynamic (lane_of l)) lanes ≡ true → cause_of (map lane_of lanes) ≡ Some Dynamic
dynamic-first lanes h = let d : list_any is_dynamic (map lane_of lanes) ≡ true = sym (any_lane is_dynamic lanes) ∙ h in rw d refl

pub big-second : (lanes : List declared.Lane) → list_any (λ l. is_dynamic (lane_of l)) lanes ≡ false → list_any (λ l. is_big (lane_of l)) lanes ≡ true → cause_of (map lane_of lanes) ≡ Some TooLarge
big-second lanes h k =
    let d : list_any is_dynamic (map lane_of lanes) ≡ false = sym (any_lane is_dynamic lanes) ∙ h in
    let b : list_any is_big (map lane_of lanes) ≡ true = sym (any_lane is_big lanes) ∙ k in
    rw (d, b) refl

pub leaves-third : (lanes : List declared.Lane) (ls : List Leaf) → list_any (λ l. is_dynamic (lane_of l)) lanes ≡ false → list_any (λ l. is_big (lane_of l)) lanes ≡ false → ls ≡ flat_map (λ l. flat_map leaves (term_of (lane_of l))) lanes → cause_of_leaves ls ≡ cause_of (map lane_of lanes)
leaves-third lanes ls h k e =
    let d : list_any is_dynamic (map lane_of lanes) ≡ false = sym (any_lane is_dynamic lanes) ∙ h in
    let b : list_any is_big (map lane_of lanes) ≡ false = sym (any_lane is_big lanes) ∙ k in
    rw (d, b) (ap cause_of_leaves (e ∙ leaves_of_lanes lanes))

-- ---- canonical lanes

formed-lane : (header : Header) (l : Lane) → MayBeLane header l → IsFormed l
formed-lane header (known t) h = h.formed
formed-lane header big h = tt
formed-lane header dynamic h = tt

pub formed-lanes : (header : Header) (lanes : List declared.Lane) → AllByRecursion (MayBeLane header) (map lane_of lanes) → AllByRecursion (λ l. IsFormed (lane_of l)) lanes
formed-lanes header [] h = tt
formed-lanes header (l ∷ ls) h = (formed-lane header (lane_of l) h.0, formed-lanes header ls h.1)

forms-map : (lanes : List declared.Lane) → map (λ l. canonical_lane (lane_of l)) lanes ≡ map canonical_lane (map lane_of lanes)
forms-map [] = refl
forms-map (l ∷ ls) = ap (λ (r : List Lane). canonical_lane (lane_of l) ∷ r) (forms-map ls)

-- what is made of the lanes by their canonical forms
pub made-by : (header : Header) (imm : ℕ) (lanes forms : List declared.Lane) (o : Option Cause) → map lane_of forms ≡ map (λ l. canonical_lane (lane_of l)) lanes → o ≡ cause_of (map lane_of forms) → by_cause header imm (map lane_of forms) o ≡ described header imm (map lane_of lanes)
made-by header imm lanes forms o e c =
    ap (by_cause header imm (map lane_of forms)) c ∙ ap (λ fs. by_cause header imm fs (cause_of fs)) (e ∙ forms-map lanes)

-- the lines on an instance
pub listed-by : (old : List ℕ) (header : Header) (imm : ℕ) (lanes forms : List declared.Lane) (names : Names) (o : Option Cause) → map lane_of forms ≡ map (λ l. canonical_lane (lane_of l)) lanes → names ≡ names_of header → o ≡ cause_of (map lane_of forms)
    → (old ++ (first_line header imm ++ (lane_lines names 0 (map lane_of forms) ++ last_line o))) ≡ old ++ instance_text header imm (map lane_of lanes)
listed-by old header imm lanes forms names o e n c =
    ap (λ m. old ++ (first_line header imm ++ (lane_lines m 0 (map lane_of forms) ++ last_line o))) n
    ∙ ap (λ q. old ++ (first_line header imm ++ (lane_lines (names_of header) 0 (map lane_of forms) ++ last_line q))) c
    ∙ ap (λ fs. old ++ (first_line header imm ++ (lane_lines (names_of header) 0 fs ++ last_line (cause_of fs)))) (e ∙ forms-map lanes)

pub put-lines : (to first one two lanes last : List ℕ) → one ≡ to ++ first → two ≡ one ++ lanes → two ++ last ≡ to ++ (first ++ (lanes ++ last))
put-lines to first one two lanes last e f =
    ap (λ r. r ++ last) (f ∙ ap (λ r. r ++ lanes) e) ∙ append_assoc (to ++ first) lanes last ∙ append_assoc to first (lanes ++ last)
