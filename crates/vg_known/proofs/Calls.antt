-- A call gives what is known of its lanes.
use Rattle.std.proofs.Common.{◌≡◌, ℕ, zero, suc, ◌+◌, ◌*◌, ◌≤◌, Bool, true, false, List, [], ◌∷◌, ◌++◌, length, map, take, drop, get_or, Option, Some, None, refl, sym, ap, subst, ◌∙◌, inl, inr, arith, length-append}
use Rattle.std.specs.Prelude.{IsSomeAnd, slice_get, ◌||◌}
use Rattle.std.specs.List.{AllByRecursion, flat_map, list_any}
use Rattle.std.specs.Option.{option_map, option_map_or}
use Rattle.std.specs.Str.{bytes_eq}
use Rattle.std.proofs.lemmas.Bool.{cases_Bool, cond-true, cond-false}
use Rattle.std.proofs.lemmas.List.{length-map, map-append}
use Rattle.vg_base.specs.Bits.{bits, num}
use Rattle.vg_bits.specs.BitList.{IsBits}
use Rattle.vg_bits.specs.Range.{range}
use Rattle.vg_bits.proofs.BitLists.{bits-num-range}
use Rattle.vg_bits.proofs.Ranges.{length-range, range-halves}
use Rattle.vg_terms.specs.declared.term.LeafKey.{LeafKey}
use Rattle.vg_terms.specs.declared.value.Env.{Env}
use Rattle.vg_terms.specs.Term.{Tree, leaf, constant, one, two, sel, IsWidth, OneFits, TwoFits, width_of, WellFormed}
use Rattle.vg_terms.specs.Value.{value}
use Rattle.vg_canon.specs.Canonical.{canonical}
use Rattle.vg_canon.proofs.Forms.{canonical-settled}
use Rattle.vg_pseudo.specs.declared.header.Header.{Header}
use Rattle.vg_pseudo.specs.declared.header.ImmRange.{ImmRange}
use Rattle.vg_pseudo.specs.declared.header.Param.{Param}
use Rattle.vg_program.specs.declared.line.Line.TheVariants.{Call}
use Rattle.vg_program.specs.Before.{Before}
use Rattle.vg_program.specs.Meaning.{Instructions}
use Rattle.vg_program.specs.Valid.{header_of, IsCallOf, IsImm, IsLine}
use Rattle.vg_program.proofs.Steps.{same_bytes}
use Rattle.vg_shapes.specs.Description.{IsLane}
use Rattle.vg_shapes.specs.Fits.{EachLeaf, replaced}
use Rattle.vg_shapes.specs.Lane.{Lane, known, big, dynamic}
use Rattle.vg_shapes.specs.Registers.{AllBits, bits_key, env_of, LeavesInside, Reads}
use Rattle.vg_shapes.proofs.Readings.{leaves-read}
use Rattle.vg_shapes.proofs.Replacing.{replaced-value}
use Rattle.vg_lanes.specs.Described.{canonical_lane, immediate, MayBeLane, registers, terms_of}
use Rattle.vg_lift.specs.Gather.{Bit, bits_from, gather}
use Rattle.vg_lift.proofs.Holding.{formed-drop, formed-take, range-map}
use Rattle.vg_lift.proofs.Joining.{bits_from-formed, length-bits_from}
use Rattle.vg_lift.proofs.Stands.{bit_value, BitsFormed}
use Rattle.vg_emission.specs.Truth.{AreRegisters, LanesMean}
use Rattle.vg_catalog.specs.Called.{entry_named, headers_of, imm_number}
use Rattle.vg_catalog.specs.Entries.{Entry}
use Rattle.vg_known.specs.Calls.{bits_of_terms, call_terms, calls_opaque, is_opaque, lane_bits, lane_on, lanes_of, read_leaf, term_on}
use Rattle.vg_known.specs.Cuts.{cut_bits}
use Rattle.vg_known.specs.Known.{Given, Known, known_bits}
use Rattle.vg_known.specs.Laws.{CallsAreTold}
use Rattle.vg_known.proofs.Below.{canonical-each}
use Rattle.vg_known.proofs.Follow.{CallFits, formed-append, HasBits, KnownFits, vector-at, VectorsFit, whole-image}
use Rattle.vg_known.proofs.Means.{IsBits-image}
use Rattle.vg_known.specs.Classes.{AllFormed, ClassesMean}
use Rattle.vg_known.proofs.Values.{built-means, cut_bits-formed, cut_bits-image, gather-made, image, Made, Means}

-- ---- terms with replaced leaves

-- what replaces a leaf
abbrev Kept : (ℕ → LeafKey → Tree) → Env → Env → ℕ → LeafKey → Type 0
Kept by run read w k = WellFormed (by w k) × (width_of (by w k) ≡ w) × (value run (by w k) ≡ value read (leaf w k))

replaced-formed : (by : ℕ → LeafKey → Tree) (run read : Env) (t : Tree) → EachLeaf (Kept by run read) t → WellFormed t → WellFormed (replaced by t) × (width_of (replaced by t) ≡ width_of t)
replaced-formed by run read (leaf w k) h f = (h.0, h.1)
replaced-formed by run read (constant w v) h f = (f, refl)
replaced-formed by run read (one op w k x) h f =
    let rest = replaced-formed by run read x h f.2 in
    ((f.0, subst (OneFits op w k) (sym rest.1) f.1, rest.0), refl)
replaced-formed by run read (two op w x y) h f =
    let first = replaced-formed by run read x h.0 f.2 in
    let second = replaced-formed by run read y h.1 f.3 in
    ((f.0, subst (λ n. TwoFits op w n (width_of (replaced by y))) (sym first.1) (subst (λ n. TwoFits op w (width_of x) n) (sym second.1) f.1), first.0, second.0), refl)
replaced-formed by run read (sel w c x y) h f =
    let a = replaced-formed by run read c h.0 f.2 in
    let b = replaced-formed by run read x h.1 f.3 in
    let d = replaced-formed by run read y h.2 f.4 in
    ((f.0, (a.1 ∙ f.1.0, b.1 ∙ f.1.1, d.1 ∙ f.1.2), a.0, b.0, d.0), refl)

kept-pairs : (by : ℕ → LeafKey → Tree) (run read : Env) (t : Tree) → EachLeaf (Kept by run read) t → EachLeaf (λ w k. (width_of (by w k) ≡ w) × (value run (by w k) ≡ value read (leaf w k))) t
kept-pairs by run read (leaf w k) h = (h.1, h.2)
kept-pairs by run read (constant w v) h = tt
kept-pairs by run read (one op w k x) h = kept-pairs by run read x h
kept-pairs by run read (two op w x y) h = (kept-pairs by run read x h.0, kept-pairs by run read y h.1)
kept-pairs by run read (sel w c x y) h = (kept-pairs by run read c h.0, kept-pairs by run read x h.1, kept-pairs by run read y h.2)

-- ---- leaves that read registers

-- bits of registers that have these numbers
pub record Hold (env : Env) (ws : List ℕ) (regs : List (List ℕ)) (rs : List (List Bit)) : Type 0 where
  pub formed : (p : ℕ) → BitsFormed [] (get_or rs p [])
  pub long : (p : ℕ) → length (get_or rs p []) ≡ get_or ws p 0
  pub is : (p : ℕ) → image env (get_or rs p []) ≡ get_or regs p []

-- a leaf of a lane: bits inside a parameter
abbrev InsideLeaf : List ℕ → ℕ → LeafKey → Type 0
InsideLeaf ws w k = (parameter : ℕ) × (low : ℕ) × (k ≡ bits_key parameter low) × (low + w ≤ get_or ws parameter 0)

inside-each : (ws : List ℕ) (t : Tree) → LeavesInside ws t → EachLeaf (InsideLeaf ws) t
inside-each ws (leaf w k) h = h
inside-each ws (constant w v) h = tt
inside-each ws (one op w k x) h = inside-each ws x h
inside-each ws (two op w x y) h = (inside-each ws x h.0, inside-each ws y h.1)
inside-each ws (sel w c x y) h = (inside-each ws c h.0, inside-each ws x h.1, inside-each ws y h.2)

leaf-kept : (env : Env) (ws : List ℕ) (regs : List (List ℕ)) (rs : List (List Bit)) (w : ℕ) (k : LeafKey) → Reads env [] → AllBits regs → Hold env ws regs rs → IsWidth w → InsideLeaf ws w k → Kept (read_leaf rs) env (env_of regs) w k
leaf-kept env ws regs rs w k nothing are hold width inside =
    let p = inside.0 in
    let low = inside.1 in
    let all = get_or rs p [] in
    let part = range low w all in
    let fit : low + w ≤ length all = omega (arith, inside.3, hold.long p) in
    let size = length-range low w all fit in
    let made = gather-made env part nothing (formed-take [] w (drop low all) (formed-drop [] low all (hold.formed p))) (omega (arith, size, width.0)) (omega (arith, size, width.1)) in
    let key : read_leaf rs w k ≡ gather part = ap (read_leaf rs w) inside.2 in
    let number : num (image env part) ≡ value (env_of regs) (leaf w k) =
    ap num (range-map (bit_value env []) low w all) ∙ ap (λ l. num (range low w l)) (hold.is p) ∙ sym (leaves-read regs are p low w) ∙ sym (ap (λ j. value (env_of regs) (leaf w j)) inside.2) in
    (subst WellFormed (sym key) made.formed, ap width_of key ∙ made.wide ∙ size, ap (value env) key ∙ made.means ∙ number)

each-kept : (env : Env) (ws : List ℕ) (regs : List (List ℕ)) (rs : List (List Bit)) (t : Tree) → Reads env [] → AllBits regs → Hold env ws regs rs → WellFormed t → EachLeaf (InsideLeaf ws) t → EachLeaf (Kept (read_leaf rs) env (env_of regs)) t
each-kept env ws regs rs (leaf w k) nothing are hold f h = leaf-kept env ws regs rs w k nothing are hold f h
each-kept env ws regs rs (constant w v) nothing are hold f h = tt
each-kept env ws regs rs (one op w k x) nothing are hold f h = each-kept env ws regs rs x nothing are hold f.2 h
each-kept env ws regs rs (two op w x y) nothing are hold f h = (each-kept env ws regs rs x nothing are hold f.2 h.0, each-kept env ws regs rs y nothing are hold f.3 h.1)
each-kept env ws regs rs (sel w c x y) nothing are hold f h = (each-kept env ws regs rs c nothing are hold f.2 h.0, each-kept env ws regs rs x nothing are hold f.3 h.1, each-kept env ws regs rs y nothing are hold f.4 h.2)

replaced-made : (env : Env) (ws : List ℕ) (regs : List (List ℕ)) (rs : List (List Bit)) (t : Tree) (w : ℕ) → Reads env [] → AllBits regs → Hold env ws regs rs → IsLane ws w t → Made env w (value (env_of regs) t) (replaced (read_leaf rs) t)
replaced-made env ws regs rs t w nothing are hold lane =
    let kept = each-kept env ws regs rs t nothing are hold lane.formed (inside-each ws t lane.inside) in
    let formed = replaced-formed (read_leaf rs) env (env_of regs) t kept lane.formed in
    record { formed = formed.0; wide = formed.1 ∙ lane.wide; means = replaced-value (read_leaf rs) env (env_of regs) t (kept-pairs (read_leaf rs) env (env_of regs) t kept) }

each-inside : (ws : List ℕ) (t : Tree) → EachLeaf (InsideLeaf ws) t → LeavesInside ws t
each-inside ws (leaf w k) h = h
each-inside ws (constant w v) h = tt
each-inside ws (one op w k x) h = each-inside ws x h
each-inside ws (two op w x y) h = (each-inside ws x h.0, each-inside ws y h.1)
each-inside ws (sel w c x y) h = (each-inside ws c h.0, each-inside ws x h.1, each-inside ws y h.2)

canonical-lane : (ws : List ℕ) (w : ℕ) (t : Tree) → IsLane ws w t → IsLane ws w (canonical t)
canonical-lane ws w t h =
    let s = canonical-settled t h.formed in
    record { formed = s.keeps.well_formed; wide = s.keeps.width ∙ h.wide; inside = each-inside ws (canonical t) (canonical-each (InsideLeaf ws) t (inside-each ws t h.inside)) }

get-cut : (met : List Tree) (rs : List (List Bit)) (p : ℕ) → get_or (map (cut_bits met) rs) p [] ≡ cut_bits met (get_or rs p [])
get-cut met [] p = refl
get-cut met (r ∷ rs) zero = refl
get-cut met (r ∷ rs) (suc p) = get-cut met rs p

cut-hold : (env : Env) (met : List Tree) (ws : List ℕ) (regs : List (List ℕ)) (rs : List (List Bit)) → ClassesMean env met → Hold env ws regs rs → Hold env ws regs (map (cut_bits met) rs)
cut-hold env met ws regs rs classes h = record {
  formed = λ p. subst (BitsFormed []) (sym (get-cut met rs p)) (cut_bits-formed env met (get_or rs p []) classes (h.formed p));
  long = λ p. ap length (get-cut met rs p) ∙ length-map (get_or rs p []) _ ∙ h.long p;
  is = λ p. ap (image env) (get-cut met rs p) ∙ cut_bits-image env met (get_or rs p []) classes (h.formed p) ∙ h.is p;
}

lane-means : (env : Env) (met : List Tree) (ws : List ℕ) (regs : List (List ℕ)) (rs : List (List Bit)) (t : Tree) (w : ℕ) → Reads env [] → ClassesMean env met → AllBits regs → Hold env ws regs rs → IsLane ws w t → Means env w (value (env_of regs) (canonical t)) (lane_on met rs t)
lane-means env met ws regs rs t w nothing classes are hold lane =
    let form = canonical-lane ws w t lane in
    built-means env w (value (env_of regs) (canonical t)) (replaced (read_leaf rs) (canonical t)) (replaced (read_leaf (map (cut_bits met) rs)) (canonical t))
    (replaced-made env ws regs rs (canonical t) w nothing are hold form) (replaced-made env ws regs (map (cut_bits met) rs) (canonical t) w nothing are (cut-hold env met ws regs rs classes hold) form)

-- ---- all lanes

drop-none : {A : Type 0} (n : ℕ) → drop n (let l : List A = [] in l) ≡ []
drop-none zero = refl
drop-none (suc n) = refl

drop-twice : {A : Type 0} (n k : ℕ) (l : List A) → drop k (drop n l) ≡ drop (n + k) l
drop-twice zero k l = ap (λ j. drop j l) (let e : k ≡ 0 + k = omega arith in e)
drop-twice (suc n) k [] = drop-none k ∙ sym (drop-none (suc n + k))
drop-twice (suc n) k (x ∷ l) = drop-twice n k l ∙ ap (λ j. drop j (x ∷ l)) (let e : suc (n + k) ≡ suc n + k = omega arith in e)

all-dropped : {A : Type 0} (l : List A) (n : ℕ) → length l ≡ n → drop n l ≡ []
all-dropped [] zero h = refl
all-dropped [] (suc n) h = absurd (omega arith)
all-dropped (x ∷ l) zero h = absurd (omega arith)
all-dropped (x ∷ l) (suc n) h = all-dropped l n (omega arith)

next-lane : (n w : ℕ) → n * w + w ≡ (n + 1) * w
next-lane n w = omega arith

more-lanes : (n m w : ℕ) → (n + 1 + m) * w ≡ (n + suc m) * w
more-lanes n m w = (let e : n + 1 + m ≡ n + suc m = omega arith in ap (λ k. k * w) e)

lane-fits : (n m w long : ℕ) → long ≡ (n + suc m) * w → n * w + w ≤ long
lane-fits n m w long h = omega arith

any-parts : (a b : Bool) → (a || b) ≡ false → (a ≡ false) × (b ≡ false)
any-parts true b h = absurd (cc)
any-parts false b h = (refl, h)

-- what is known of the lanes from this one on
pub record LanesAre (env : Env) (w n : ℕ) (register : List ℕ) (ts : List Tree) (count : ℕ) : Type 0 where
  pub is : drop (n * w) register ≡ image env (bits_of_terms w ts)
  pub long : length (bits_of_terms w ts) ≡ count * w
  pub formed : BitsFormed [] (bits_of_terms w ts)
  pub terms : AllFormed ts

lanes-are : (env : Env) (met : List Tree) (h : Header) (regs : List (List ℕ)) (rs : List (List Bit)) (n : ℕ) (register : List ℕ) (ls : List Lane) → Reads env [] → ClassesMean env met → AllBits regs → Hold env (registers h) regs rs → IsBits register
    → AllByRecursion (MayBeLane h) ls → list_any is_opaque ls ≡ false → LanesMean (env_of regs) h.lane_width n (terms_of (map canonical_lane ls)) register → length register ≡ (n + length ls) * h.lane_width
    → LanesAre env h.lane_width n register (flat_map (term_on met rs) ls) (length ls)
lanes-are env met h regs rs n register [] nothing classes are hold bits may plain means long = record {
  is = all-dropped register (n * h.lane_width) (long ∙ ap (λ k. k * h.lane_width) (let e : n + 0 ≡ n = omega arith in e));
  long = (let e : 0 ≡ 0 * h.lane_width = omega arith in e);
  formed = tt;
  terms = tt;
}
lanes-are env met h regs rs n register (big ∷ ls) nothing classes are hold bits may plain means long = absurd (cc)
lanes-are env met h regs rs n register (dynamic ∷ ls) nothing classes are hold bits may plain means long = absurd (cc)
lanes-are env met h regs rs n register (known t ∷ ls) nothing classes are hold bits_are may plain means long =
    let w = h.lane_width in
    let lane = lane-means env met (registers h) regs rs t w nothing classes are hold may.0 in
    let rest = lanes-are env met h regs rs (n + 1) register ls nothing classes are hold bits_are may.1 plain means.1 (long ∙ sym (more-lanes n (length ls) w)) in
    let u = lane_on met rs t in
    let inside = lane-fits n (length ls) w (length register) long in
    let here : take w (drop (n * w) register) ≡ image env (bits_from u 0 w) =
    sym (bits-num-range (n * w) w register bits_are inside) ∙ ap (bits w) (means.0 ∙ sym lane.means) ∙ sym (whole-image env u w) in
    let behind : drop w (drop (n * w) register) ≡ image env (bits_of_terms w (flat_map (term_on met rs) ls)) = drop-twice (n * w) w register ∙ ap (λ k. drop k register) (next-lane n w) ∙ rest.is in
    record {
      is = sym (range-halves w (drop (n * w) register)) ∙ (λ i. here i ++ behind i) ∙ sym (map-append (bit_value env []) (bits_from u 0 w) (bits_of_terms w (flat_map (term_on met rs) ls)));
      long = length-append (bits_from u 0 w) (bits_of_terms w (flat_map (term_on met rs) ls)) ∙ (λ i. length-bits_from u 0 w i + rest.long i) ∙ (let e : w + length ls * w ≡ suc (length ls) * w = omega arith in e);
      formed = formed-append (bits_from u 0 w) (bits_of_terms w (flat_map (term_on met rs) ls)) (bits_from-formed [] u 0 w lane.is.well_formed (omega (arith, lane.is.width))) rest.formed;
      terms = (lane.is.well_formed, rest.terms);
    }

-- ---- the entry of a call

header-named : (entries : List Entry) (name : List ℕ) → header_of (headers_of entries) name ≡ option_map (λ (e : Entry). e.header) (entry_named entries name)
header-named [] name = refl
header-named (e ∷ entries) name = elim (cases_Bool (bytes_eq e.header.name name)) [
  | inl t ↦ cond-true _ _ _ t ∙ sym (ap (option_map (λ (x : Entry). x.header)) (cond-true _ _ _ t))
  | inr f ↦ cond-false _ _ _ f ∙ header-named entries name ∙ sym (ap (option_map (λ (x : Entry). x.header)) (cond-false _ _ _ f))
]

-- registers that are passed fit the parameters
passed-fit : (b : Before) (k : Known) (vs : List ℕ) (ps : List Param) → VectorsFit b.vectors k.vectors → map (λ v. slice_get b.vectors v) vs ≡ map (λ q. Some q.register) ps → VectorsFit (map (λ q. q.register) ps) (map (known_bits k) vs)
passed-fit b k [] [] fit e = refl
passed-fit b k [] (q ∷ ps) fit e = absurd (cc)
passed-fit b k (v ∷ vs) [] fit e = absurd (cc)
passed-fit b k (v ∷ vs) (q ∷ ps) fit e =
    let first : slice_get b.vectors v ≡ Some q.register = cc in
    let rest : map (λ v. slice_get b.vectors v) vs ≡ map (λ q. Some q.register) ps = cc in
    (vector-at b.vectors k.vectors v q.register fit first, passed-fit b k vs ps fit rest)

fit-hold : (env : Env) (ws : List ℕ) (rs : List (List Bit)) → VectorsFit ws rs → Hold env ws (map (image env) rs) rs
fit-hold env ws rs fit = record { formed = λ p. (at ws rs p fit).0; long = λ p. (at ws rs p fit).1; is = λ p. got rs p }
  where
    at : (ws : List ℕ) (rs : List (List Bit)) (p : ℕ) → VectorsFit ws rs → BitsFormed [] (get_or rs p []) × (length (get_or rs p []) ≡ get_or ws p 0)
    at [] [] p fit = (tt, refl)
    at [] (r ∷ rs) p fit = absurd (cc)
    at (w ∷ ws) [] p fit = absurd fit
    at (w ∷ ws) (r ∷ rs) zero fit = (fit.0.1, fit.0.0)
    at (w ∷ ws) (r ∷ rs) (suc p) fit = at ws rs p fit.1

    got : (rs : List (List Bit)) (p : ℕ) → image env (get_or rs p []) ≡ get_or (map (image env) rs) p []
    got [] p = refl
    got (r ∷ rs) zero = refl
    got (r ∷ rs) (suc p) = got rs p

fit-registers : (env : Env) (ws : List ℕ) (rs : List (List Bit)) → VectorsFit ws rs → AreRegisters ws (map (image env) rs)
fit-registers env ws rs fit = record { bits = all rs ws fit; long = lengths ws rs fit }
  where
    all : (rs : List (List Bit)) (ws : List ℕ) → VectorsFit ws rs → AllBits (map (image env) rs)
    all [] ws fit = tt
    all (r ∷ rs) [] fit = absurd (cc)
    all (r ∷ rs) (w ∷ ws) fit = (IsBits-image env r fit.0.1, all rs ws fit.1)

    lengths : (ws : List ℕ) (rs : List (List Bit)) → VectorsFit ws rs → map length (map (image env) rs) ≡ ws
    lengths [] [] fit = refl
    lengths [] (r ∷ rs) fit = absurd (cc)
    lengths (w ∷ ws) [] fit = absurd fit
    lengths (w ∷ ws) (r ∷ rs) fit = (λ i. (length-map r (bit_value env []) ∙ fit.0.0) i ∷ lengths ws rs fit.1 i)

imm-same : (r : Option ImmRange) (imm : Option ℕ) → IsImm r imm → immediate r (imm_number imm) ≡ imm
imm-same None None h = refl
imm-same None (Some n) h = absurd h
imm-same (Some r) None h = absurd h
imm-same (Some r) (Some n) h = refl

named-same : (entries : List Entry) (name : List ℕ) (e : Entry) → entry_named entries name ≡ Some e → e.header.name ≡ name
named-same [] name e h = absurd (cc)
named-same (x ∷ entries) name e h = elim (cases_Bool (bytes_eq x.header.name name)) [
  | inl t ↦ (let same : x ≡ e = (let k : Some x ≡ Some e = sym (cond-true _ _ _ t) ∙ h in cc) in ap (λ (y : Entry). y.header.name) (sym same) ∙ same_bytes x.header.name name t)
  | inr f ↦ named-same entries name e (sym (cond-false _ _ _ f) ∙ h)
]

-- what is known of a call, in any environment in which classes have their values
pub call-fits : (called : Instructions) (env : Env) (g : Given) (b : Before) (name : List ℕ) (vs : List ℕ) (imm : Option ℕ) (long cost : ℕ) (k : Known) → Reads env [] → CallsAreTold called g.entries → b.headers ≡ headers_of g.entries → IsLine b (Call name vs imm long cost) → calls_opaque g.entries name imm ≡ false
    → KnownFits b k → ClassesMean env k.met → CallFits env called g b (Call name vs imm long cost) k
call-fits called env g b name vs imm long cost k nothing told same valid plain fits classes = by (entry_named g.entries name) refl
  where
    rs : List (List Bit)
    rs = map (known_bits k) vs

    by : (o : Option Entry) → entry_named g.entries name ≡ o → CallFits env called g b (Call name vs imm long cost) k
    by None e =
        absurd (let none : header_of b.headers name ≡ None = ap (λ l. header_of l name) same ∙ header-named g.entries name ∙ ap (option_map (λ (x : Entry). x.header)) e in
        subst (λ o. IsSomeAnd o (λ h. IsCallOf b h vs imm long cost)) none valid.1)
    by (Some x) e =
        let h = x.header in
        let found : header_of b.headers name ≡ Some h = ap (λ l. header_of l name) same ∙ header-named g.entries name ∙ ap (option_map (λ (y : Entry). y.header)) e in
        let call : IsCallOf b h vs imm long cost = subst (λ o. IsSomeAnd o (λ q. IsCallOf b q vs imm long cost)) found valid.1 in
        let clear_lanes : list_any is_opaque (lanes_of x imm) ≡ false = sym (ap (λ o. option_map_or (λ y. list_any is_opaque (lanes_of y imm)) o false) e) ∙ plain in
        let tell = told name x imm e call.immediate clear_lanes in
        let fit = passed-fit b k vs h.params fits.vectors call.passed in
        let regs = map (image env) rs in
        let are = fit-registers env (registers h) rs fit in
        let answer = tell.means regs are in
        let result = called name regs imm in
        let told_as : called h.name regs (immediate h.imm (imm_number imm)) ≡ result = (λ i. called (named-same g.entries name x e i) regs (imm-same h.imm imm call.immediate i)) in
        let terms = flat_map (term_on k.met rs) (lanes_of x imm) in
        let size : length result ≡ length (lanes_of x imm) * h.lane_width = sym (ap length told_as) ∙ answer.long ∙ sym tell.lanes.fill in
        let all = lanes-are env k.met h regs rs 0 result (lanes_of x imm) nothing classes are.bits (fit-hold env (registers h) rs fit) (subst IsBits told_as answer.bits) tell.lanes.each clear_lanes
        (subst (LanesMean (env_of regs) h.lane_width 0 (terms_of (map canonical_lane (lanes_of x imm)))) told_as answer.lanes) (size ∙ (let z : length (lanes_of x imm) * h.lane_width ≡ (0 + length (lanes_of x imm)) * h.lane_width = omega arith in z)) in
        let terms_are : call_terms g.entries k.met name imm rs ≡ terms = ap (λ o. option_map_or (λ y. flat_map (term_on k.met rs) (lanes_of y imm)) o []) e in
        let wide : lane_bits g.entries name ≡ h.lane_width = ap (λ o. option_map_or (λ (y : Entry). y.header.lane_width) o 0) e in
        let bits_are : bits_of_terms (lane_bits g.entries name) (call_terms g.entries k.met name imm rs) ≡ bits_of_terms h.lane_width terms = (λ i. bits_of_terms (wide i) (terms_are i)) in (
          subst (HasBits long) (sym bits_are) (all.long ∙ tell.lanes.fill ∙ sym call.width, all.formed),
          (let zero_lanes : 0 * h.lane_width ≡ 0 = omega arith in ap (λ j. drop j result) (sym zero_lanes)) ∙ all.is ∙ ap (image env) (sym bits_are),
          subst AllFormed (sym terms_are) all.terms,
        )
