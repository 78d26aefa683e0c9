-- Laws on matches.
use Rattle.std.proofs.Common.{◌≡◌, ℕ, ◌<◌, List, [], ◌∷◌, Option, Some, None, false, true, length, map, sym, ap, subst, ◌∙◌, ◌%◌, ◌^◌, inl, inr, arith}
use Rattle.std.specs.Prelude.{◌&&◌, IsSome, nat_eq, slice_get, slice_index}
use Rattle.std.specs.List.{AllByRecursion, IsDistinct}
use Rattle.std.proofs.lemmas.Bool.{cases_Bool, cond-true, cond-false, and_parts, eqb-true}
use Rattle.vg_base.specs.Trap.{◌>>=◌}
use Rattle.vg_terms.specs.declared.term.LeafKey.{LeafKey}
use Rattle.vg_terms.specs.declared.term.Term.{Term}
use Rattle.vg_terms.specs.declared.value.Env.{Env}
use Rattle.vg_terms.specs.Root.{is_constant}
use Rattle.vg_terms.specs.Term.{Tree, leaf, constant, one, two, sel, tree, width_of, WellFormed}
use Rattle.vg_terms.specs.Value.{number_at, value}
use Rattle.vg_shapes.specs.declared.match_table.Bound.{Bound}
use Rattle.vg_shapes.specs.declared.match_table.Match.{Match}
use Rattle.vg_shapes.specs.declared.ssa.Ssa.{Ssa}
use Rattle.vg_shapes.specs.declared.ssa_unit.SsaUnit.{SsaUnit}
use Rattle.vg_shapes.specs.declared.ssa_unit.SsaUnit.TheVariants.{Load, Store, Operation}
use Rattle.vg_shapes.specs.declared.wanted.Wanted.{Wanted}
use Rattle.vg_shapes.specs.declared.wanted.Wanted.TheVariants.{Value, Constant, Nothing}
use Rattle.vg_shapes.specs.Description.{Description}
use Rattle.vg_shapes.specs.Fits.{EachLeaf, Fits, FitsBy, FitsCut, FitsTurned, FitsWide, fits_whole, fits_cut, fits_turned, has_leaf, replaced, same_leaf, StandsFor, turned, turned_at, wanted_for}
use Rattle.vg_shapes.specs.Matches.{AreMatches, IsMatch, lane_at}
use Rattle.vg_shapes.specs.Pack.{match_at}
use Rattle.vg_shapes.specs.Registers.{AllBits, env_of, readings_from}
use Rattle.vg_shapes.specs.RunUnits.{number_of}
use Rattle.vg_shapes.specs.Sound.{AreCuts, cut_at, cuts_of, environment, IsEarlier, IsUnitTerm, name_at, name_of, term_at}
use Rattle.vg_shapes.proofs.Readings.{leaves-read}
use Rattle.vg_shapes.proofs.Replacing.{replaced-value}
use Rattle.vg_shapes.proofs.Turning.{turned-keeps}
use Rattle.vg_shapes.proofs.ValueTerms.{known}
use Rattle.vg_match.specs.Laws.{BindTheSame, BoundEarlier, FoundFit, HasNumber, Have, LanesHaveNumbers, OneBinding, ReachedHave}
use Rattle.std.proofs.lemmas.Option.{none-some}
use Rattle.vg_match.proofs.Members.{some-same}
use Rattle.vg_match.proofs.Ways.{bind-some}

-- ---- what is found

pub found-fit : FoundFit
found-fit ds ssa matches are d lane v m e = by matches are.right e
  where
    by : (ms : List Match) → AllByRecursion (IsMatch ds ssa) ms → match_at ms d lane v ≡ Some m → (t : Tree) × (lane_at ds d lane ≡ Some t) × FitsWide ssa t v m.bound
    by [] h f = absurd (none-some m f)
    by (n ∷ ns) h f = elim (cases_Bool (nat_eq n.description d && (nat_eq n.lane lane && nat_eq n.value v))) [
      | inl t ↦
          let same : n ≡ m = some-same n m (sym (cond-true _ (Some n) (match_at ns d lane v) t) ∙ f) in
          let p = and_parts (nat_eq n.description d) (nat_eq n.lane lane && nat_eq n.value v) t in
          let q = and_parts (nat_eq n.lane lane) (nat_eq n.value v) p.1 in
          let is = h.0 in
          let there : lane_at ds d lane ≡ Some is.term = (λ i. lane_at ds (sym (eqb-true n.description d p.0) i) (sym (eqb-true n.lane lane q.0) i)) ∙ is.lane in
          (is.term, there, subst (λ (x : Match). FitsWide ssa is.term v x.bound) same (subst (λ u. FitsWide ssa is.term u n.bound) (eqb-true n.value v q.1) is.fits))
      | inr g ↦ by ns h.1 (sym (cond-false _ (Some n) (match_at ns d lane v) g) ∙ f)
    ]

-- ---- any way in which a term fits

-- what holds of each way holds of the first
pub by-way : {P : Type 0} (ssa : Ssa) (t : Tree) (v : ℕ) (bound : List Bound) → FitsWide ssa t v bound → (Fits ssa t v bound → P) → (FitsCut ssa t v bound → P) → (FitsTurned ssa t v bound → P) → P
by-way ssa t v bound (fits_whole f) a b c = a f
by-way ssa t v bound (fits_cut n f) a b c = b f
by-way ssa t v bound (fits_turned n m f) a b c = c f

-- only leaves of the term are bound, each once
pub wide-alone : (ssa : Ssa) (t : Tree) (v : ℕ) (bound : List Bound) → FitsWide ssa t v bound → AllByRecursion (λ b. has_leaf b.width b.key t ≡ true) bound
wide-alone ssa t v bound f = by-way ssa t v bound f (λ g. g.alone) (λ g. g.alone) (λ g. g.alone)

pub wide-once : (ssa : Ssa) (t : Tree) (v : ℕ) (bound : List Bound) → FitsWide ssa t v bound → IsDistinct same_leaf bound
wide-once ssa t v bound f = by-way ssa t v bound f (λ g. g.once) (λ g. g.once) (λ g. g.once)

-- a table of all matches has one where a term fits
pub wide-found : (ds : List Description) (ssa : Ssa) (matches : List Match) (d lane v : ℕ) (t : Tree) (bound : List Bound) → AreMatches ds ssa matches
    → lane_at ds d lane ≡ Some t → FitsWide ssa t v bound → IsSome (match_at matches d lane v)
wide-found ds ssa matches d lane v t bound are at f =
    by-way ssa t v bound f (are.whole d lane v t bound at) (are.cut d lane v t bound at) (are.turned d lane v t bound at)

-- ---- one binding

-- one thing stands for a term
stands-once : (names : ℕ → Option Tree) (v : ℕ) (t : Tree) (x y : Wanted) → StandsFor names v t x → StandsFor names v t y → x ≡ y
stands-once names v t (Value a) (Value b) h g =
    let low = h.3 b g.2 in
    let high = g.3 a h.2 in
    let same : a ≡ b = omega arith in
    ap Value same
stands-once names v t (Value a) (Constant w n) h g = absurd (let no : is_constant t ≡ false = h.0 in let yes : is_constant t ≡ true = ap is_constant g in cc)
stands-once names v t (Constant w n) (Value a) h g = absurd (let no : is_constant t ≡ false = g.0 in let yes : is_constant t ≡ true = ap is_constant h in cc)
stands-once names v t (Constant w n) (Constant u m) h g =
    let same : constant w n ≡ constant u m = sym h ∙ g in
    let wide : w ≡ u = cc in
    let number : n ≡ m = cc in
    λ i. Constant (wide i) (number i)
stands-once names v t Nothing y h g = absurd h
stands-once names v t (Value a) Nothing h g = absurd g
stands-once names v t (Constant w n) Nothing h g = absurd g

each-leaf : (a b : ℕ → LeafKey → Tree) (x y : ℕ → LeafKey → Wanted) (names : ℕ → Option Tree) (v : ℕ) (t : Tree) → replaced a t ≡ replaced b t →
    EachLeaf (λ w k. StandsFor names v (a w k) (x w k)) t → EachLeaf (λ w k. StandsFor names v (b w k) (y w k)) t → EachLeaf (λ w k. x w k ≡ y w k) t
each-leaf a b x y names v (leaf w k) e h g =
    stands-once names v (a w k) (x w k) (y w k) h (subst (λ u. StandsFor names v u (y w k)) (sym e) g)
each-leaf a b x y names v (constant w n) e h g = tt
each-leaf a b x y names v (one op w k t) e h g = each-leaf a b x y names v t (cc) h g
each-leaf a b x y names v (two op w s t) e h g = (each-leaf a b x y names v s (cc) h.0 g.0, each-leaf a b x y names v t (cc) h.1 g.1)
each-leaf a b x y names v (sel w c s t) e h g = (each-leaf a b x y names v c (cc) h.0 g.0, each-leaf a b x y names v s (cc) h.1 g.1, each-leaf a b x y names v t (cc) h.2 g.2)

one-way : (terms names : ℕ → Option Tree) (t : Tree) (v : ℕ) (first second : List Bound) → FitsBy terms names t v first → FitsBy terms names t v second → BindTheSame t first second
one-way terms names t v first second f g =
    each-leaf f.by g.by (wanted_for first) (wanted_for second) names v t (some-same _ _ (sym f.whole ∙ g.whole)) f.leaves g.leaves

the-first : (ssa : Ssa) (t : Tree) (v : ℕ) (first second : List Bound) → FitsWide ssa t v first → FitsWide ssa t v second → BindTheSame t first second
the-first ssa t v first second (fits_whole f) (fits_whole g) = one-way (term_at ssa) (term_at ssa) t v first second f g
the-first ssa t v first second (fits_whole f) (fits_cut n g) = absurd (n first f)
the-first ssa t v first second (fits_whole f) (fits_turned n m g) = absurd (n first f)
the-first ssa t v first second (fits_cut n f) (fits_whole g) = absurd (n second g)
the-first ssa t v first second (fits_cut n f) (fits_cut k g) = one-way (cut_at ssa) (name_at ssa) t v first second f g
the-first ssa t v first second (fits_cut n f) (fits_turned k m g) = absurd (m first f)
the-first ssa t v first second (fits_turned n m f) (fits_whole g) = absurd (n second g)
the-first ssa t v first second (fits_turned n m f) (fits_cut k g) = absurd (m second g)
the-first ssa t v first second (fits_turned n m f) (fits_turned k l g) = one-way (turned_at ssa) (name_at ssa) t v first second f g

pub one-binding : OneBinding
one-binding = record { in_one_way = one-way; by_the_first = the-first }

-- ---- earlier values

stands-earlier : (names : ℕ → Option Tree) (v : ℕ) (t : Tree) (x : Wanted) → StandsFor names v t x → IsEarlier v x
stands-earlier names v t (Value u) h = h.1
stands-earlier names v t (Constant w n) h = tt
stands-earlier names v t Nothing h = tt

each-earlier : (by : ℕ → LeafKey → Tree) (x : ℕ → LeafKey → Wanted) (names : ℕ → Option Tree) (v : ℕ) (t : Tree) → EachLeaf (λ w k. StandsFor names v (by w k) (x w k)) t → EachLeaf (λ w k. IsEarlier v (x w k)) t
each-earlier by x names v (leaf w k) h = stands-earlier names v (by w k) (x w k) h
each-earlier by x names v (constant w n) h = tt
each-earlier by x names v (one op w k t) h = each-earlier by x names v t h
each-earlier by x names v (two op w s t) h = (each-earlier by x names v s h.0, each-earlier by x names v t h.1)
each-earlier by x names v (sel w c s t) h = (each-earlier by x names v c h.0, each-earlier by x names v s h.1, each-earlier by x names v t h.2)

pub bound-earlier : BoundEarlier
bound-earlier ssa t v bound f =
    by-way ssa t v bound f
    (λ g. each-earlier g.by (wanted_for bound) (term_at ssa) v t g.leaves)
    (λ g. each-earlier g.by (wanted_for bound) (name_at ssa) v t g.leaves)
    (λ g. each-earlier g.by (wanted_for bound) (name_at ssa) v t g.leaves)

-- ---- the numbers of values

-- a cut term that can be turned is well-formed
turned-formed : (ssa : Ssa) (v : ℕ) (t u : Tree) → AreCuts ssa → cut_at ssa v ≡ Some t → turned t ≡ Some u → WellFormed t
turned-formed ssa v t u cuts at e = elim (known ssa (cuts_of ssa) cuts.argument_terms cuts.unit_terms v t at) [
  | inl a ↦ absurd (none-some u (sym (ap turned a.3) ∙ e))
  | inr w ↦ work w.0 w.2
]
  where
    work : (x : SsaUnit) → IsUnitTerm v x t → WellFormed t
    work (Load a w) is = absurd (none-some u (sym (ap turned is) ∙ e))
    work (Store a w x) is = absurd (none-some u (sym (ap turned is) ∙ e))
    work (Operation op w k xs) is = is.0

turned-have : (ssa : Ssa) (numbers : List ℕ) → AreCuts ssa → Have ssa numbers (cut_at ssa) → Have ssa numbers (turned_at ssa)
turned-have ssa numbers cuts have v u inside at =
    let t = bind-some (cut_at ssa v) turned u at in
    (turned-keeps t.0 u (turned-formed ssa v t.0 u cuts t.1 t.2) t.2).value (environment ssa numbers) ∙ have v t.0 inside t.1

none-have : (ssa : Ssa) (numbers : List ℕ) (given : ℕ → Option Tree) → ((v : ℕ) → given v ≡ None) → Have ssa numbers given
none-have ssa numbers given none v t inside at = absurd (none-some t (sym (none v) ∙ at))

pub reached-have : ReachedHave
reached-have ssa places memory args k r sound bytes arguments run = elim sound.cuts [
  | inl e ↦
      let none : (v : ℕ) → cut_at ssa v ≡ None = λ v. ap (λ (l : List Term). slice_get (map tree l) v) e in
      record {
        terms = sound.meaning places memory args k r bytes arguments run;
        cuts = none-have ssa r.numbers (cut_at ssa) none;
        turned = none-have ssa r.numbers (turned_at ssa) (λ v. ap (λ (o : Option Tree). o >>= turned) (none v));
        names = none-have ssa r.numbers (name_at ssa) (λ v. ap (λ (o : Option Tree). o >>= name_of ssa v) (none v));
      }
  | inr cuts ↦
      let cut = cuts.meaning places memory args k r bytes arguments run in
      record {
        terms = sound.meaning places memory args k r bytes arguments run;
        cuts = cut;
        turned = turned-have ssa r.numbers cuts cut;
        names = cuts.names places memory args k r bytes arguments run;
      }
]

-- ---- the numbers of lanes

abbrev Kept : (ℕ → LeafKey → Tree) → Env → Env → ℕ → LeafKey → Type 0
Kept by run read w k = (width_of (by w k) ≡ w) × (value run (by w k) ≡ value read (leaf w k))

module _ (ssa : Ssa) (numbers : List ℕ) (v : ℕ) (bound : List Bound) (regs : List (List ℕ)) (names : ℕ → Option Tree) (by : ℕ → LeafKey → Tree) (have : Have ssa numbers names) (inside : v < length numbers) (bits : AllBits regs) where
  -- what stands for a term has its number
  stands-number : (t : Tree) (x : Wanted) → StandsFor names v t x → value (environment ssa numbers) t ≡ number_of (slice_index numbers) x
  stands-number t (Value u) h = have u t (let l = h.1 in omega arith) h.2
  stands-number t (Constant w n) h = ap (value (environment ssa numbers)) h
  stands-number t Nothing h = absurd h

  leaf-kept : (w : ℕ) (k : LeafKey) → width_of (by w k) ≡ w → StandsFor names v (by w k) (wanted_for bound w k) → HasNumber regs numbers bound w k → Kept by (environment ssa numbers) (env_of regs) w k
  leaf-kept w k wide stands h = (
    wide,
    stands-number (by w k) (wanted_for bound w k) stands
        ∙ sym h.3
        ∙ sym (leaves-read regs bits h.0 h.1 w)
        ∙ sym (ap (λ l. number_at (readings_from 0 regs) l % 2 ^ w) h.2),
  )

  leaves-kept : (t : Tree) → EachLeaf (λ w k. width_of (by w k) ≡ w) t → EachLeaf (λ w k. StandsFor names v (by w k) (wanted_for bound w k)) t → EachLeaf (HasNumber regs numbers bound) t → EachLeaf (Kept by (environment ssa numbers) (env_of regs)) t
  leaves-kept (leaf w k) a b c = leaf-kept w k a b c
  leaves-kept (constant w n) a b c = tt
  leaves-kept (one op w k t) a b c = leaves-kept t a b c
  leaves-kept (two op w s t) a b c = (leaves-kept s a.0 b.0 c.0, leaves-kept t a.1 b.1 c.1)
  leaves-kept (sel w d s t) a b c = (leaves-kept d a.0 b.0 c.0, leaves-kept s a.1 b.1 c.1, leaves-kept t a.2 b.2 c.2)

-- in one way, where what is fitted and the names have the numbers of the values
way-number : (ssa : Ssa) (numbers : List ℕ) (terms names : ℕ → Option Tree) (t : Tree) (v : ℕ) (bound : List Bound) (regs : List (List ℕ))
    → Have ssa numbers terms → Have ssa numbers names → v < length numbers → FitsBy terms names t v bound → AllBits regs → EachLeaf (HasNumber regs numbers bound) t
    → value (env_of regs) t ≡ slice_index numbers v
way-number ssa numbers terms names t v bound regs fitted have inside f bits h =
    sym (replaced-value f.by (environment ssa numbers) (env_of regs) t (leaves-kept ssa numbers v bound regs names f.by have inside bits t f.widths f.leaves h))
    ∙ fitted v (replaced f.by t) inside f.whole

pub lanes-have-numbers : LanesHaveNumbers
lanes-have-numbers ssa numbers t v bound regs have inside f bits h =
    by-way ssa t v bound f
    (λ g. way-number ssa numbers (term_at ssa) (term_at ssa) t v bound regs have.terms have.terms inside g bits h)
    (λ g. way-number ssa numbers (cut_at ssa) (name_at ssa) t v bound regs have.cuts have.names inside g bits h)
    (λ g. way-number ssa numbers (turned_at ssa) (name_at ssa) t v bound regs have.turned have.names inside g bits h)
