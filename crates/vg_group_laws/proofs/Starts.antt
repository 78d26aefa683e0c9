-- From the place of each load back to where its run begins, and that there is one such place.
use Rattle.std.proofs.Common.{◌≡◌, ℕ, zero, suc, ◌+◌, ◌≤◌, List, [], ◌∷◌, length, refl, sym, ◌∙◌, ap, subst, inl, inr, arith}
use Rattle.std.specs.Prelude.{find, Option, Some, None}
use Rattle.vg_base.specs.declared.address.Address.{Address}
use Rattle.vg_base.specs.declared.width.Width.{Width}
use Rattle.vg_base.specs.Width.{size_of}
use Rattle.vg_group_laws.specs.Laws.{AreInRuns, IsInOneRun}
use Rattle.vg_group_laws.specs.Runs.{IsFirstLoad, IsLoaded, PlacedLoad, RunOn}
use Rattle.vg_group_laws.proofs.Addresses.{ahead-behind, behind-ahead, behind-behind, not-behind, size-some}
use Rattle.vg_group_laws.proofs.Back.{Back, here, more, one-start}
use Rattle.vg_group_laws.proofs.Listed.{ahead-none, begin-listed, first-at, first-same, found-none, listed-at, listed-begin, listed-loaded, loaded-at, member-first, member-same, none-ahead, one-load, stands-at}
use Rattle.vg_group_laws.proofs.Runs.{AreElsewhere, one-more, run-place, run-whole, used-less}
use Rattle.vg_kernel_plans.specs.Groups.{ahead}
use Rattle.vg_kernel_plans.specs.LoadGroups.{first_loads, loads_at, run_begins, run_of}
use Rattle.vg_kernel_plans.proofs.LoadPacks.{at-place, found-is}
use Rattle.vg_plans.specs.Members.{Every, Has}
use Rattle.vg_plans.proofs.Lists.{every-has, every-implies}
use Rattle.vg_plans.proofs.Members.{Includes, Unique}
use Rattle.vg_shapes.specs.declared.ssa.Ssa.{Ssa}
use Rattle.vg_shapes.specs.Pack.{behind}
use Rattle.vg_shapes.specs.Units.{unit_at}

-- something of a width is loaded from a place
abbrev Loaded : Ssa → Width → Address → Type 0
Loaded ssa w a = IsLoaded ssa a w

-- ---- units of a run

-- a unit right behind one of a run stands in the run
next-in : (ssa : Ssa) (w : Width) (a b : Address) (us : List ℕ) (u v : ℕ) → RunOn ssa w a us → Has u us → IsFirstLoad ssa (ahead b (size_of w)) w u
    → IsFirstLoad ssa b w v → Has v us
next-in ssa w a b [] u v r h f g = absurd h
next-in ssa w a b (x ∷ xs) u v r h f g = elim h [
  | inl e ↦
      let same : a ≡ ahead b (size_of w) =
      (one-load a (ahead b (size_of w)) w w (unit_at ssa u) (subst (IsFirstLoad ssa a w) e r.0).load f.load).0
      in
      let place : behind a (size_of w) ≡ b = ap (λ c. behind c (size_of w)) same ∙ behind-ahead b (size_of w) in
      inr (at_front xs (subst (λ c. RunOn ssa w c xs) place r.1))
  | inr k ↦ inr (next-in ssa w (behind a (size_of w)) b xs u v r.1 k f g)
]
  where
    at_front : (ys : List ℕ) → RunOn ssa w b ys → Has v ys
    at_front [] q = absurd (q (v, g.load))
    at_front (y ∷ ys) q = inl (first-same ssa b w y v q.0 g)

-- the first load of a place from which one goes back to where a run begins stands in it
in-run : (ssa : Ssa) (w : Width) (n : ℕ) (b a : Address) (us : List ℕ) (v : ℕ) → Back (Loaded ssa w) (size_of w) n b a → RunOn ssa w a us
    → IsFirstLoad ssa b w v → Has v us
in-run ssa w _ _ _ [] v (here a) r f = absurd (r (v, f.load))
in-run ssa w _ _ _ (u ∷ us) v (here a) r f = inl (first-same ssa a w u v r.0 f)
in-run ssa w _ _ _ us v (more n b a l m) r f =
    let k = listed-at ssa (ahead b (size_of w)) w l in
    let g = first-at ssa k.load.address (ahead b (size_of w)) k.load.width w k.load.unit k.address k.width (member-first ssa k.load k.listed) in
    next-in ssa w a b us k.load.unit v r (in-run ssa w n (ahead b (size_of w)) a us k.load.unit m r g) g f

-- a place of a run, and the way back from it to where the run begins
record PlaceBack (ssa : Ssa) (w : Width) (s : Address) (v : ℕ) : Type 0 where
  pub place : Address
  pub first : IsFirstLoad ssa place w v
  pub steps : ℕ
  pub back : Back (Loaded ssa w) (size_of w) steps place s

-- each unit of a run has one
run-back : (ssa : Ssa) (w : Width) (n : ℕ) (a s : Address) (us : List ℕ) (v : ℕ) → Back (Loaded ssa w) (size_of w) n a s → RunOn ssa w a us → Has v us
    → PlaceBack ssa w s v
run-back ssa w n a s [] v k r h = absurd h
run-back ssa w n a s (u ∷ us) v k r h = elim h [
  | inl e ↦ record { place = a; first = subst (IsFirstLoad ssa a w) e r.0; steps = n; back = k }
  | inr q ↦
      let same = sym (ahead-behind a (size_of w)) in
      let step : Back (Loaded ssa w) (size_of w) (suc n) (behind a (size_of w)) s =
      more n (behind a (size_of w)) s (subst (Loaded ssa w) same (u, r.0.load))
      (subst (λ c. Back (Loaded ssa w) (size_of w) n c s) same k)
      in
      run-back ssa w (suc n) (behind a (size_of w)) s us v step r.1 q
]

-- ---- where one ends

-- a load is behind a place
abbrev IsBefore : Address → PlacedLoad → Type 0
IsBefore a m = (j : ℕ) × (m.address ≡ behind a (suc j))

elsewhere-before : (ssa : Ssa) (a : Address) (done : List PlacedLoad) → Unique done → Includes done (first_loads ssa) → Every (IsBefore a) done → AreElsewhere ssa a done
elsewhere-before ssa a done u i b = record {
  unique = u;
  listed = i;
  elsewhere = λ m h e. let k = every-has (IsBefore a) m done b h in not-behind a k.0 (sym e ∙ k.1);
}

before-more : (w : Width) (a : Address) (m : PlacedLoad) → IsBefore a m → IsBefore (ahead a (size_of w)) m
before-more w a m k =
    let e : size_of w + suc k.0 ≡ suc (size_of w + k.0) = omega arith in (
      size_of w + k.0,
      k.1 ∙ ap (λ c. behind c (suc k.0)) (sym (behind-ahead a (size_of w))) ∙ behind-behind (ahead a (size_of w)) (size_of w) (suc k.0)
          ∙ ap (behind (ahead a (size_of w))) e,
    )

record Start (ssa : Ssa) (w : Width) (b : Address) : Type 0 where
  pub place : Address
  pub steps : ℕ
  pub back : Back (Loaded ssa w) (size_of w) steps b place
  pub none : IsLoaded ssa (ahead place (size_of w)) w → ⊥
  pub loaded : IsLoaded ssa place w

start-from : (ssa : Ssa) (w : Width) (n : ℕ) (b : Address) (done : List PlacedLoad) → Unique done → Includes done (first_loads ssa) → Every (IsBefore b) done
    → length (first_loads ssa) ≤ n + length done → IsLoaded ssa b w → Start ssa w b
start-from ssa w zero b done u i e le loaded = absurd (used-less ssa b w done (elsewhere-before ssa b done u i e) (omega (arith, le)) loaded)
start-from ssa w (suc n) b done u i e le loaded = by_found (find (loads_at (ahead b (size_of w)) w) (first_loads ssa)) refl (start-from ssa w n (ahead b (size_of w)))
  where
    by_found : (found : Option PlacedLoad) → find (loads_at (ahead b (size_of w)) w) (first_loads ssa) ≡ found
        → ((more : List PlacedLoad) → Unique more → Includes more (first_loads ssa) → Every (IsBefore (ahead b (size_of w))) more
        → length (first_loads ssa) ≤ n + length more → IsLoaded ssa (ahead b (size_of w)) w → Start ssa w (ahead b (size_of w)))
        → Start ssa w b
    by_found None f rest = record {
      place = b;
      steps = 0;
      back = here b;
      none = λ a.
          let l = listed-at ssa (ahead b (size_of w)) w a in
          found-none (loads_at (ahead b (size_of w)) w) (first_loads ssa) l.load f l.listed (stands-at (ahead b (size_of w)) w l.load l.address l.width);
      loaded = loaded;
    }
    by_found (Some l) f rest =
        let k = found-is (loads_at (ahead b (size_of w)) w) (first_loads ssa) l f in
        let p = at-place (ahead b (size_of w)) w l k.1 in
        let there = loaded-at ssa l.address (ahead b (size_of w)) l.width w p.0 p.1 (listed-loaded ssa l k.0) in
        let own = listed-at ssa b w loaded in
        let m = one-more ssa b w done (elsewhere-before ssa b done u i e) own in
        let s = size-some w in
        let first : IsBefore (ahead b (size_of w)) own.load =
        (s.0, own.address ∙ sym (behind-ahead b (size_of w)) ∙ ap (behind (ahead b (size_of w))) s.1)
        in
        let k = rest (own.load ∷ done) m.0 m.1 (first, every-implies (IsBefore b) (IsBefore (ahead b (size_of w))) (before-more w b) done e) (omega (arith, le)) there in
        record {
          place = k.place;
          steps = suc k.steps;
          back = more k.steps b k.place there k.back;
          none = k.none;
          loaded = k.loaded;
        }

-- ---- the law

-- a unit stands in one run alone
pub one-run : (ssa : Ssa) (l m : PlacedLoad) (v : ℕ) → Has l (run_begins (first_loads ssa)) → Has m (run_begins (first_loads ssa))
    → Has v (run_of (first_loads ssa) l) → Has v (run_of (first_loads ssa) m) → l ≡ m
one-run ssa l m v h k p q =
    let a = begin-listed ssa l h in
    let b = begin-listed ssa m k in
    let x = run-back ssa l.width 0 l.address l.address (run_of (first_loads ssa) l) v (here l.address) (run-whole ssa l) p in
    let y = run-back ssa m.width 0 m.address m.address (run_of (first_loads ssa) m) v (here m.address) (run-whole ssa m) q in
    let same = one-load y.place x.place m.width l.width (unit_at ssa v) y.first.load x.first.load in
    let back : Back (Loaded ssa l.width) (size_of l.width) y.steps x.place m.address =
    subst (λ w. Back (Loaded ssa w) (size_of w) y.steps x.place m.address) same.1
    (subst (λ c. Back (Loaded ssa m.width) (size_of m.width) y.steps c m.address) same.0 y.back)
    in
    let none : IsLoaded ssa (ahead m.address (size_of l.width)) l.width → ⊥ =
    subst (λ w. IsLoaded ssa (ahead m.address (size_of w)) w → ⊥) same.1 (none-ahead ssa m b.1)
    in
    let start = one-start (Loaded ssa l.width) (size_of l.width) x.steps y.steps x.place l.address m.address x.back back (none-ahead ssa l a.1) none in
    member-same ssa l m a.0 b.0 start.0 (sym same.1)

in-one-run : (ssa : Ssa) (a : Address) (w : Width) (v : ℕ) → IsFirstLoad ssa a w v → IsInOneRun ssa v
in-one-run ssa a w v f =
    let s = start-from ssa w (length (first_loads ssa)) a [] tt (λ x h. absurd h) tt (omega arith) (v, f.load) in
    let l = listed-at ssa s.place w s.loaded in
    let none : IsLoaded ssa (ahead l.load.address (size_of l.load.width)) l.load.width → ⊥ =
    subst (λ x. IsLoaded ssa (ahead l.load.address (size_of x)) x → ⊥) (sym l.width)
    (subst (λ c. IsLoaded ssa (ahead c (size_of w)) w → ⊥) (sym l.address) s.none)
    in
    let begins = listed-begin ssa l.load l.listed (ahead-none ssa l.load none) in
    let run : RunOn ssa w s.place (run_of (first_loads ssa) l.load) =
    subst (λ x. RunOn ssa x s.place (run_of (first_loads ssa) l.load)) l.width
    (subst (λ c. RunOn ssa l.load.width c (run_of (first_loads ssa) l.load)) l.address (run-whole ssa l.load))
    in
    let inside = in-run ssa w s.steps a s.place (run_of (first_loads ssa) l.load) v s.back run f in
    record {
      begin = l.load;
      begins = begins;
      in_run = inside;
      only = λ m h k. one-run ssa m l.load v h begins k inside;
    }

pub in-runs : (ssa : Ssa) → AreInRuns ssa
in-runs ssa = record {
  in_one = in-one-run ssa;
  nothing_else = λ l v h k.
      let p = run-place ssa l.width l.address (run_of (first_loads ssa) l) v (run-whole ssa l) k in
      (behind l.address p.0, p.1);
}
