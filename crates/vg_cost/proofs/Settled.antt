-- What follows from a change, from the highest number down.
--
-- At and above the place all is as after the change. Below it the units count as before it, and where no change
-- is marked packs and counts are those that were. What the units below the place would count after the change
-- stands on both sides, so that it need not be told apart from what is counted above.
use Rattle.std.proofs.Common.{◌≡◌, ℕ, zero, suc, ◌+◌, ◌<◌, ◌≤◌, Bool, true, false, List, [], get_or, length, refl, sym, ◌∙◌, ap, subst, arith, Some, None}
use Rattle.std.specs.Prelude.{◌||◌, Option, nat_lt, replicate}
use Rattle.vg_plans.specs.World.{is_in}
use Rattle.vg_shapes.specs.declared.pack.Pack.{Pack}
use Rattle.vg_shapes.specs.declared.ssa_unit.SsaUnit.{SsaUnit}
use Rattle.vg_shapes.specs.Pack.{units_of}
use Rattle.vg_shapes.specs.Units.{unit_at}
use Rattle.vg_cost.specs.declared.change.Change.{Change}
use Rattle.vg_cost.specs.Lines.{line_of, values_of}
use Rattle.vg_cost.specs.Marks.{Has, Marked}
use Rattle.vg_cost.specs.Moves.{Begins, FitsIn, Moves, Settles, StandsAt}
use Rattle.vg_cost.specs.Needs.{AreNeeds, is_needed, line_at, lines_by, times_in, under, used_at, uses_of}
use Rattle.vg_cost.proofs.Moving.{differ, moves_none}
use Rattle.vg_cost.proofs.NumberSums.{below, by-end, sum-has, sum-none, sum-step, times-over}

-- how often the unit of a number uses a value before the change and after it
abbrev old_uses : Change → ℕ → ℕ → ℕ
old_uses change v u = times_in v (used_at change.ssa.now change.packed.now change.counts.now u)

abbrev new_uses : Change → List ℕ → ℕ → ℕ → ℕ
new_uses change counts v u = times_in v (used_at change.ssa.now change.longer.now counts u)

abbrev old_line : Change → ℕ → ℕ
old_line change u = line_at change.ssa.now change.packed.now change.counts.now u

abbrev new_line : Change → List ℕ → ℕ → ℕ
new_line change counts u = line_at change.ssa.now change.longer.now counts u

pub record Counts_at (change : Change) (inserted counts : List ℕ) (n lines : ℕ) : Type 0 where
  pub counted : (v : ℕ) → v < length change.longer.now
      → get_or counts v 0 + below (new_uses change counts v) n
      ≡ times_in v inserted + below (new_uses change counts v) (length change.longer.now) + below (old_uses change v) n
  pub written : lines + below (new_line change counts) n
      ≡ 0 + below (new_line change counts) (length change.longer.now) + below (old_line change) n

pub record Settling (change : Change) (start : List ℕ) (first : ℕ) (counts : List ℕ) (changed : List Bool) (n lines : ℕ) : Type 0 where
  pub inside : n ≤ length change.longer.now
  pub fits : FitsIn change counts changed
  pub stands : (v : ℕ) → v < n → StandsAt change counts changed v
  pub rest : (inserted : List ℕ) → Begins change inserted start first → Counts_at change inserted counts n lines

pub settling-first : (change : Change) (start : List ℕ) (first : ℕ) (changed : List Bool) (n : ℕ) → n ≡ length start
    → FitsIn change start changed → ((v : ℕ) → v < length change.longer.now → StandsAt change start changed v)
    → Settling change start first start changed n first
settling-first change start first changed n e fits stands =
    let k : n ≡ length change.longer.now = e ∙ fits.counted in
    record {
      inside = omega (arith, k);
      fits = fits;
      stands = λ v l. stands v (omega (arith, l, k));
      rest = λ inserted b. record {
        counted = λ v l.
            let c = b.inserts v l in
            let same = ap (below (new_uses change start v)) k in
            let other = ap (below (old_uses change v)) k in
            omega (arith, c, same, other);
        written =
            let c = b.written in
            let same = ap (below (new_line change start)) k in
            let other = ap (below (old_line change)) k in
            omega (arith, c, same, other);
      };
    }

pub settling-end : (change : Change) (start : List ℕ) (first : ℕ) (counts : List ℕ) (changed : List Bool) (n lines : ℕ) → n ≤ 0
    → Settling change start first counts changed n lines → Settles change start first counts lines
settling-end change start first counts changed zero lines l w = λ inserted b.
    let r = w.rest inserted b in
    record {
      long = w.fits.counted;
      needed = λ v lt. let c = r.counted v lt in omega (arith, c);
      written = let c = r.written in omega (arith, c);
    }
settling-end change start first counts changed (suc n) lines l w = absurd (omega (arith, l))

module _ (change : Change) (start : List ℕ) (first : ℕ) (counts new : List ℕ) (changed after : List Bool) (u lines next : ℕ)
    (w : Settling change start first counts changed (suc u) lines)
    (m : Moves (used_at change.ssa.now change.packed.now change.counts.now u) (used_at change.ssa.now change.longer.now counts u)
    counts new changed after)
    (s : old_line change u ≤ lines → next + old_line change u ≡ lines + new_line change counts u) where
  settling-inside : u < length change.longer.now
  settling-inside = let i = w.inside in omega (arith, i)

  -- no count at the number or above it has changed
  kept-above : (v : ℕ) → u ≤ v → v < length change.longer.now → get_or new v 0 ≡ get_or counts v 0
  kept-above v l lt =
      let gone = times-over v u (values_of (unit_at change.ssa.now u) (get_or change.packed.now u false) (is_needed change.counts.now u)) l in
      let come = times-over v u (values_of (unit_at change.ssa.now u) (get_or change.longer.now u false) (is_needed counts u)) l in
      let e = m.each v (let f = w.fits.counted in omega (arith, f, lt)) (omega (arith, gone)) in
      omega (arith, gone, come, e)

  settling-step : Settling change start first new after u next
  settling-step = record {
    inside = let i = w.inside in omega (arith, i);
    fits = record {
      packed = w.fits.packed;
      before = w.fits.before;
      counted = m.long ∙ w.fits.counted;
      marked = m.marks ∙ w.fits.marked;
    };
    stands = λ v l f.
        let i = w.inside in
        let j : v < length counts = let k = w.fits.counted in omega (arith, l, i, k) in
        let k : v < length changed = let k = w.fits.marked in omega (arith, l, i, k) in
        let before = m.same v j k f in
        let is = w.stands v (omega (arith, l)) before.0 in
        (is.0, is.1 ∙ sym before.1);
    rest = λ inserted b.
        let r = w.rest inserted b in
        record {
          counted = λ v lt.
              let e = r.counted v lt in
              let has = sum-has (old_uses change v) (new_uses change counts v) u (length change.longer.now) _ _ settling-inside e in
              let moved = m.each v (let f = w.fits.counted in omega (arith, f, lt)) has in
              sum-step (old_uses change v) (new_uses change counts v) (new_uses change new v) u (length change.longer.now) _ _ _ settling-inside
              (λ a l k. ap (λ n. times_in v (under a (values_of (unit_at change.ssa.now a) (get_or change.longer.now a false) (nat_lt 0 n)))) (kept-above a l k))
              e moved;
          written =
              let e = r.written in
              let has = sum-has (old_line change) (new_line change counts) u (length change.longer.now) _ _ settling-inside e in
              sum-step (old_line change) (new_line change counts) (new_line change new) u (length change.longer.now) _ _ _ settling-inside
              (λ a l k. ap (λ n. line_of (unit_at change.ssa.now a) (get_or change.longer.now a false) (nat_lt 0 n)) (kept-above a l k))
              e (s has);
        };
  }

pub settling-next : (change : Change) (start : List ℕ) (first : ℕ) (counts new : List ℕ) (changed after : List Bool) (n u lines next : ℕ)
    → n ≡ u + 1 → Settling change start first counts changed n lines
    → Moves (used_at change.ssa.now change.packed.now change.counts.now u) (used_at change.ssa.now change.longer.now counts u)
    counts new changed after
    → (old_line change u ≤ lines → next + old_line change u ≡ lines + new_line change counts u)
    → Settling change start first new after u next
settling-next change start first counts new changed after n u lines next e w m s =
    let k : n ≡ suc u = omega (arith, e) in
    settling-step change start first counts new changed after u lines next
    (subst (λ q. Settling change start first counts changed q lines) k w) m s

-- what is counted for the unit of a number is counted at the number
module _ (change : Change) (counts new : List ℕ) (changed after : List Bool) (n lines next : ℕ) (unit : Option SsaUnit)
    (e : unit_at change.ssa.now n ≡ unit) where
  pub judged-moves : Moves (under n (values_of unit (get_or change.packed.now n false) (is_needed change.counts.now n)))
      (under n (values_of unit (get_or change.longer.now n false) (is_needed counts n))) counts new changed after
      → Moves (used_at change.ssa.now change.packed.now change.counts.now n) (used_at change.ssa.now change.longer.now counts n)
      counts new changed after
  judged-moves m =
      subst (λ o. Moves (under n (values_of o (get_or change.packed.now n false) (is_needed change.counts.now n)))
      (under n (values_of o (get_or change.longer.now n false) (is_needed counts n))) counts new changed after) (sym e) m

  pub judged-lines : (line_of unit (get_or change.packed.now n false) (is_needed change.counts.now n) ≤ lines
      → next + line_of unit (get_or change.packed.now n false) (is_needed change.counts.now n)
      ≡ lines + line_of unit (get_or change.longer.now n false) (is_needed counts n))
      → old_line change n ≤ lines → next + old_line change n ≡ lines + new_line change counts n
  judged-lines m =
      subst (λ o. line_of o (get_or change.packed.now n false) (is_needed change.counts.now n) ≤ lines
      → next + line_of o (get_or change.packed.now n false) (is_needed change.counts.now n)
      ≡ lines + line_of o (get_or change.longer.now n false) (is_needed counts n)) (sym e) m

-- where no change is marked at a number nothing is counted there
still : (change : Change) (counts : List ℕ) (changed : List Bool) (u : ℕ) → StandsAt change counts changed u → get_or changed u false ≡ false
    → (used_at change.ssa.now change.packed.now change.counts.now u ≡ used_at change.ssa.now change.longer.now counts u)
    × (old_line change u ≡ new_line change counts u)
still change counts changed u is f =
    let k = is f in (
      ap (λ b. under u (values_of (unit_at change.ssa.now u) b (is_needed change.counts.now u))) k.0
          ∙ ap (λ n. under u (values_of (unit_at change.ssa.now u) (get_or change.longer.now u false) (nat_lt 0 n))) k.1,
      ap (λ b. line_of (unit_at change.ssa.now u) b (is_needed change.counts.now u)) k.0
          ∙ ap (λ n. line_of (unit_at change.ssa.now u) (get_or change.longer.now u false) (nat_lt 0 n)) k.1,
    )

-- numbers at which no change is marked are passed
pub settling-skip : (change : Change) (start : List ℕ) (first : ℕ) (counts : List ℕ) (changed : List Bool) (m n lines : ℕ) → m ≤ n
    → ((v : ℕ) → m ≤ v → v < n → get_or changed v false ≡ false)
    → Settling change start first counts changed n lines → Settling change start first counts changed m lines
settling-skip change start first counts changed zero zero lines l f w = w
settling-skip change start first counts changed (suc m) zero lines l f w = absurd (omega (arith, l))
settling-skip change start first counts changed m (suc n) lines l f w =
    by-end m n (λ k. Settling change start first counts changed k lines) l
    (λ k.
    let e = still change counts changed n (w.stands n (omega arith)) (f n k (omega arith)) in
    settling-skip change start first counts changed m n lines k (λ v a b. f v a (omega (arith, b)))
    (settling-step change start first counts counts changed changed n lines lines w
    (subst (λ xs. Moves (used_at change.ssa.now change.packed.now change.counts.now n) xs counts counts changed changed) e.0
    (moves_none (used_at change.ssa.now change.packed.now change.counts.now n) counts changed))
    (λ h. ap (λ x. lines + x) e.1)))
    w

pub at_same : {X : Type 0} (n v : ℕ) (x d : X) → v < n → get_or (replicate n x) v d ≡ x
at_same zero v x d l = absurd (omega (arith, l))
at_same (suc n) zero x d l = refl
at_same (suc n) (suc v) x d l = at_same n v x d (omega (arith, l))

-- all is marked
pub stands-all : (change : Change) (counts : List ℕ) (changed : List Bool) (n : ℕ) → changed ≡ replicate n true
    → n ≡ length change.longer.now → (v : ℕ) → v < length change.longer.now → StandsAt change counts changed v
stands-all change counts changed n e k v l f =
    differ (sym (ap (λ m. get_or m v false) e ∙ at_same n v true false (omega (arith, l, k))) ∙ f)

packed-values : (unit : Option SsaUnit) (needed : Bool) → values_of unit true needed ≡ []
packed-values None needed = refl
packed-values (Some u) needed = refl

packed-line : (unit : Option SsaUnit) → line_of unit true false ≡ 0
packed-line None = refl
packed-line (Some u) = refl

-- from nothing: all units are packed, and no value is needed
pub from-nothing : (change : Change) (inserted counts : List ℕ)
    → change.packed.now ≡ replicate (length change.longer.now) true → change.counts.now ≡ replicate (length change.longer.now) 0
    → ((v : ℕ) → v < length change.longer.now → get_or counts v 0 ≡ times_in v inserted) → Begins change inserted counts 0
from-nothing change inserted counts p c e = record {
  inserts = λ v l.
      let none = sum-none (old_uses change v) (length change.longer.now) (λ u i. ap (λ l. times_in v (under u l)) (unused u i)) in
      let k = e v l in
      omega (arith, none, k);
  written = sym (sum-none (old_line change) (length change.longer.now) (λ u i.
      ap (λ b. line_of (unit_at change.ssa.now u) b (is_needed change.counts.now u)) (packed u i)
      ∙ ap (λ b. line_of (unit_at change.ssa.now u) true b) (unneeded u i) ∙ packed-line (unit_at change.ssa.now u)));
} where
  packed : (u : ℕ) → u < length change.longer.now → get_or change.packed.now u false ≡ true
  packed u i = ap (λ l. get_or l u false) p ∙ at_same (length change.longer.now) u true false i

  unneeded : (u : ℕ) → u < length change.longer.now → is_needed change.counts.now u ≡ false
  unneeded u i = ap (nat_lt 0) (ap (λ l. get_or l u 0) c ∙ at_same (length change.longer.now) u 0 0 i)

  unused : (u : ℕ) → u < length change.longer.now
      → values_of (unit_at change.ssa.now u) (get_or change.packed.now u false) (is_needed change.counts.now u) ≡ []
  unused u i =
      ap (λ b. values_of (unit_at change.ssa.now u) b (is_needed change.counts.now u)) (packed u i)
      ∙ packed-values (unit_at change.ssa.now u) (is_needed change.counts.now u)

-- the inserts of a plan with a pack after it are counted, and no more has changed
module _ (change : Change) (p : Pack) (gone come counts : List ℕ) (own changed : List Bool) (lines : ℕ)
    (long : length change.packed.now ≡ length change.longer.now)
    (needs : AreNeeds change.ssa.now change.packed.now gone change.counts.now lines)
    (moves : Moves gone come change.counts.now counts own changed) where
  pub begins-tried : Begins change come counts lines
  begins-tried = record {
    inserts = λ v l.
        let i : v < length change.packed.now = omega (arith, l, long) in
        let j : v < length change.counts.now = let k = needs.long in omega (arith, i, k) in
        let was = needs.needed v i in
        let is = moves.each v j (omega (arith, was)) in
        let same = ap (λ n. uses_of change.ssa.now change.packed.now change.counts.now v n) long in
        omega (arith, was, is, same);
    written = needs.written ∙ ap (λ n. lines_by change.ssa.now change.packed.now change.counts.now n) long;
  }

  pub stands-tried : Marked (units_of p) change.packed.now change.longer.now → Has (length change.longer.now) (units_of p) own
      → (v : ℕ) → v < length change.longer.now → StandsAt change counts changed v
  stands-tried marked has v l f =
      let i : v < length change.packed.now = omega (arith, l, long) in
      let j : v < length change.counts.now = let k = needs.long in omega (arith, i, k) in
      let o : v < length own = let k = has.long in omega (arith, l, k) in
      let same = moves.same v j o f in
      let no : is_in v (units_of p) ≡ false = sym (has.each v l) ∙ same.0 in
      (sym (marked.each v i ∙ ap (λ b. b || get_or change.packed.now v false) no), sym same.1)
