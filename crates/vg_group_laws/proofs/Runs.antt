-- A run goes on to its end: its turns are never used up, since its units are first loads of different places.
use Rattle.std.proofs.Common.{◌≡◌, ℕ, zero, suc, ◌+◌, ◌≤◌, List, [], ◌∷◌, length, refl, sym, ◌∙◌, ap, subst, inl, inr, arith}
use Rattle.std.specs.Prelude.{find, Option, Some, None}
use Rattle.vg_base.specs.declared.address.Address.{Address}
use Rattle.vg_base.specs.declared.width.Width.{Width}
use Rattle.vg_base.specs.Width.{size_of}
use Rattle.vg_group_laws.specs.Runs.{IsFirstLoad, IsLoaded, IsWholeRun, PlacedLoad, RunOn}
use Rattle.vg_group_laws.proofs.Addresses.{behind-behind, behind-none, not-behind, size-some}
use Rattle.vg_group_laws.proofs.Listed.{Listed, begin-listed, first-at, first-same, found-none, listed-at, listed-loaded, member-first, none-ahead, one-load, stands-at}
use Rattle.vg_kernel_plans.specs.LoadGroups.{first_loads, loads_at, run_at, run_begins, run_of}
use Rattle.vg_kernel_plans.proofs.LoadPacks.{at-place, found-is}
use Rattle.vg_plans.specs.Members.{Every, Has}
use Rattle.vg_plans.proofs.Disjoint.{unique-length}
use Rattle.vg_plans.proofs.Lists.{every-has, every-implies}
use Rattle.vg_plans.proofs.Members.{Includes, Unique}
use Rattle.vg_shapes.specs.declared.ssa.Ssa.{Ssa}
use Rattle.vg_shapes.specs.Pack.{behind}
use Rattle.vg_shapes.specs.Units.{unit_at}

-- ---- turns

-- some first loads, each once, none of them at this place
pub record AreElsewhere (ssa : Ssa) (a : Address) (done : List PlacedLoad) : Type 0 where
  pub unique : Unique done
  pub listed : Includes done (first_loads ssa)
  pub elsewhere : (m : PlacedLoad) → Has m done → m.address ≡ a → ⊥

-- a first load at the place is one more
pub one-more : (ssa : Ssa) (a : Address) (w : Width) (done : List PlacedLoad) → AreElsewhere ssa a done → (l : Listed ssa a w)
    → Unique (l.load ∷ done) × Includes (l.load ∷ done) (first_loads ssa)
one-more ssa a w done k l = (
  ((λ h. k.elsewhere l.load h l.address), k.unique),
  (λ x h. elim h [ inl e ↦ subst (λ z. Has z (first_loads ssa)) e l.listed | inr r ↦ k.listed x r ]),
)

-- so there are more first loads
pub used-less : (ssa : Ssa) (a : Address) (w : Width) (done : List PlacedLoad) → AreElsewhere ssa a done → length (first_loads ssa) ≤ length done
    → IsLoaded ssa a w → ⊥
used-less ssa a w done k le loaded =
    let l = listed-at ssa a w loaded in
    let m = one-more ssa a w done k l in
    let longer = unique-length (l.load ∷ done) (first_loads ssa) m.0 m.1 in
    absurd (omega (arith, longer, le))

-- ---- runs

-- a place is behind that of a load
abbrev IsAfter : Address → PlacedLoad → Type 0
IsAfter a m = (j : ℕ) × (a ≡ behind m.address (suc j))

elsewhere-after : (ssa : Ssa) (a : Address) (done : List PlacedLoad) → Unique done → Includes done (first_loads ssa) → Every (IsAfter a) done → AreElsewhere ssa a done
elsewhere-after ssa a done u i b = record {
  unique = u;
  listed = i;
  elsewhere = λ m h e. let k = every-has (IsAfter a) m done b h in not-behind a k.0 (k.1 ∙ ap (λ c. behind c (suc k.0)) e);
}

after-more : (w : Width) (a : Address) (m : PlacedLoad) → IsAfter a m → IsAfter (behind a (size_of w)) m
after-more w a m k =
    let e : suc k.0 + size_of w ≡ suc (k.0 + size_of w) = omega arith in
    (k.0 + size_of w, ap (λ c. behind c (size_of w)) k.1 ∙ behind-behind m.address (suc k.0) (size_of w) ∙ ap (behind m.address) e)

run-on : (ssa : Ssa) (w : Width) (n : ℕ) (a : Address) (done : List PlacedLoad) → Unique done → Includes done (first_loads ssa) → Every (IsAfter a) done
    → length (first_loads ssa) ≤ n + length done → RunOn ssa w a (run_at (first_loads ssa) a w n)
run-on ssa w zero a done u i b le = used-less ssa a w done (elsewhere-after ssa a done u i b) (omega (arith, le))
run-on ssa w (suc n) a done u i b le = by_found (find (loads_at a w) (first_loads ssa)) refl (run-on ssa w n (behind a (size_of w)))
  where
    by_found : (found : Option PlacedLoad) → find (loads_at a w) (first_loads ssa) ≡ found
        → ((more : List PlacedLoad) → Unique more → Includes more (first_loads ssa) → Every (IsAfter (behind a (size_of w))) more
        → length (first_loads ssa) ≤ n + length more → RunOn ssa w (behind a (size_of w)) (run_at (first_loads ssa) (behind a (size_of w)) w n))
        → RunOn ssa w a (elim found as (λ l. List ℕ) [ None ↦ [] | Some l ↦ l.unit ∷ run_at (first_loads ssa) (behind a (size_of w)) w n ])
    by_found None e rest = λ loaded.
        let l = listed-at ssa a w loaded in
        found-none (loads_at a w) (first_loads ssa) l.load e l.listed (stands-at a w l.load l.address l.width)
    by_found (Some l) e rest =
        let k = found-is (loads_at a w) (first_loads ssa) l e in
        let p = at-place a w l k.1 in
        let m = one-more ssa a w done (elsewhere-after ssa a done u i b) (record { load = l; listed = k.0; address = p.0; width = p.1 }) in
        let s = size-some w in (
          first-at ssa l.address a l.width w l.unit p.0 p.1 (member-first ssa l k.0),
          rest (l ∷ done) m.0 m.1
              ((s.0, ap (behind a) s.1 ∙ ap (λ c. behind c (suc s.0)) (sym p.0)), every-implies (IsAfter a) (IsAfter (behind a (size_of w))) (after-more w a) done b)
              (omega (arith, le)),
        )

pub run-whole : (ssa : Ssa) (l : PlacedLoad) → RunOn ssa l.width l.address (run_of (first_loads ssa) l)
run-whole ssa l = run-on ssa l.width (length (first_loads ssa)) l.address [] tt (λ x h. absurd h) tt (omega arith)

-- it begins with the load
begins-with : (ssa : Ssa) (l : PlacedLoad) → Has l (first_loads ssa) → (run : List ℕ) → RunOn ssa l.width l.address run → (others : List ℕ) × (run ≡ l.unit ∷ others)
begins-with ssa l h [] r = absurd (r (listed-loaded ssa l h))
begins-with ssa l h (u ∷ us) r = (us, ap (λ v. v ∷ us) (first-same ssa l.address l.width u l.unit r.0 (member-first ssa l h)))

pub whole-run : (ssa : Ssa) (l : PlacedLoad) → Has l (run_begins (first_loads ssa)) → IsWholeRun ssa l (run_of (first_loads ssa) l)
whole-run ssa l h =
    let b = begin-listed ssa l h in
    record {
      begins = begins-with ssa l b.0 (run_of (first_loads ssa) l) (run-whole ssa l);
      none_ahead = none-ahead ssa l b.1;
      goes_on = run-whole ssa l;
    }

-- ---- units of runs

-- each unit of a run is the first load of a place of it
pub run-place : (ssa : Ssa) (w : Width) (a : Address) (us : List ℕ) (v : ℕ) → RunOn ssa w a us → Has v us → (j : ℕ) × IsFirstLoad ssa (behind a j) w v
run-place ssa w a [] v r h = absurd h
run-place ssa w a (u ∷ us) v r h = elim h [
  | inl e ↦ (0, first-at ssa a (behind a 0) w w v (sym (behind-none a)) refl (subst (IsFirstLoad ssa a w) e r.0))
  | inr k ↦
      let p = run-place ssa w (behind a (size_of w)) us v r.1 k in
      (size_of w + p.0, first-at ssa (behind (behind a (size_of w)) p.0) (behind a (size_of w + p.0)) w w v (behind-behind a (size_of w) p.0) refl p.1)
]

-- no unit stands twice in it
pub run-unique : (ssa : Ssa) (w : Width) (a : Address) (us : List ℕ) → RunOn ssa w a us → Unique us
run-unique ssa w a [] r = tt
run-unique ssa w a (u ∷ us) r = (
  (λ h.
      let p = run-place ssa w (behind a (size_of w)) us u r.1 h in
      let s = size-some w in
      let same : a ≡ behind (behind a (size_of w)) p.0 =
      (one-load a (behind (behind a (size_of w)) p.0) w w (unit_at ssa u) r.0.load p.1.load).0
      in
      let e : suc s.0 + p.0 ≡ suc (s.0 + p.0) = omega arith in
      not-behind a (s.0 + p.0) (same ∙ behind-behind a (size_of w) p.0 ∙ ap (λ n. behind a (n + p.0)) s.1 ∙ ap (behind a) e)),
  run-unique ssa w (behind a (size_of w)) us r.1,
)
