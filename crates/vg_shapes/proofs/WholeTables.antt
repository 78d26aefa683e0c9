-- Where there are no cut terms, the table of matches is that of whole terms.
use Rattle.std.proofs.Common.{◌≡◌, ℕ, List, [], ◌∷◌, Option, None, sym, ap, ◌∙◌}
use Rattle.std.specs.Prelude.{map, slice_get}
use Rattle.std.specs.List.{AllByRecursion}
use Rattle.std.proofs.lemmas.Option.{none-some}
use Rattle.vg_base.specs.Trap.{◌>>=◌}
use Rattle.vg_terms.specs.declared.term.Term.{Term}
use Rattle.vg_terms.specs.Term.{Tree, tree}
use Rattle.vg_shapes.specs.declared.match_table.Bound.{Bound}
use Rattle.vg_shapes.specs.declared.match_table.Match.{Match}
use Rattle.vg_shapes.specs.declared.ssa.Ssa.{Ssa}
use Rattle.vg_shapes.specs.Description.{Description}
use Rattle.vg_shapes.specs.Fits.{Fits, FitsCut, FitsTurned, FitsWide, fits_whole, fits_cut, fits_turned, turned}
use Rattle.vg_shapes.specs.Matches.{IsMatch, IsMatchBy, WideIsWhole}
use Rattle.vg_shapes.specs.Sound.{cut_at}

no-cut : (ssa : Ssa) (v : ℕ) → ssa.cuts ≡ [] → cut_at ssa v ≡ None
no-cut ssa v e = ap (λ (l : List Term). slice_get (map tree l) v) e

-- nothing fits cut or turned
pub none-cut : (ssa : Ssa) (t : Tree) (v : ℕ) (bound : List Bound) → ssa.cuts ≡ [] → FitsCut ssa t v bound → ⊥
none-cut ssa t v bound e f = none-some _ (sym (no-cut ssa v e) ∙ f.whole)

pub none-turned : (ssa : Ssa) (t : Tree) (v : ℕ) (bound : List Bound) → ssa.cuts ≡ [] → FitsTurned ssa t v bound → ⊥
none-turned ssa t v bound e f = none-some _ (sym (ap (λ (o : Option Tree). o >>= turned) (no-cut ssa v e)) ∙ f.whole)

wide-whole : (ssa : Ssa) (t : Tree) (v : ℕ) (bound : List Bound) → ssa.cuts ≡ [] → FitsWide ssa t v bound → Fits ssa t v bound
wide-whole ssa t v bound e (fits_whole f) = f
wide-whole ssa t v bound e (fits_cut a f) = absurd (none-cut ssa t v bound e f)
wide-whole ssa t v bound e (fits_turned a b f) = absurd (none-turned ssa t v bound e f)

all-whole : (ds : List Description) (ssa : Ssa) (ms : List Match) → ssa.cuts ≡ [] → AllByRecursion (IsMatch ds ssa) ms → AllByRecursion (IsMatchBy (Fits ssa) ds) ms
all-whole ds ssa [] e h = tt
all-whole ds ssa (m ∷ ms) e h =
    (record { term = h.0.term; lane = h.0.lane; fits = wide-whole ssa h.0.term m.value m.bound e h.0.fits }, all-whole ds ssa ms e h.1)

all-wide : (ds : List Description) (ssa : Ssa) (ms : List Match) → AllByRecursion (IsMatchBy (Fits ssa) ds) ms → AllByRecursion (IsMatch ds ssa) ms
all-wide ds ssa [] h = tt
all-wide ds ssa (m ∷ ms) h = (record { term = h.0.term; lane = h.0.lane; fits = fits_whole h.0.fits }, all-wide ds ssa ms h.1)

pub wide-is-whole : WideIsWhole
wide-is-whole ds ssa ms e = (
  (λ a. record { right = all-whole ds ssa ms e a.right; whole = a.whole }),
  (λ a. record {
    right = all-wide ds ssa ms a.right;
    whole = a.whole;
    cut = λ d lane v t bound at f. absurd (none-cut ssa t v bound e f);
    turned = λ d lane v t bound at f. absurd (none-turned ssa t v bound e f);
  }),
)
