-- The checks of a well-formed kernel keep the rules on checks.
use Rattle.std.proofs.Common.{◌≡◌, ℕ, zero, suc, ◌+◌, ◌-◌, ◌*◌, ◌^◌, ◌<◌, ◌≤◌, ◌==◌, ◌&&◌, ◌||◌, Bool, true, false, cond, ℤ, pos, negsuc, List, [], ◌∷◌, ◌++◌, length, nat_abs, Option, Some, None, refl, sym, subst, ◌∙◌, inl, inr, arith, length-append, mul-le-mul_right}
use Rattle.std.specs.Prelude.{◌+ℤ◌, ◌-ℤ◌, ◌≤ℤ◌}
use Rattle.std.specs.Int.{int_min, int_max}
use Rattle.std.specs.List.{AllByRecursion, filter_map, flat_map, cons_option}
use Rattle.std.proofs.lemmas.Int.{ints, clamps}
use Rattle.std.proofs.lemmas.Bool.{cases_Bool, cond-true, cond-false}
use Rattle.std.proofs.lemmas.List.Elements.{recursion_from_All}
use Rattle.vg_base.specs.Trap.{◌>>=◌}
use Rattle.vg_base.specs.Offset.{IsOffset}
use Rattle.vg_kernel.specs.declared.parameter.KParam.{KParam}
use Rattle.vg_kernel.specs.Names.{is_pointer}
use Rattle.vg_kernel.specs.Tree.{Tree}
use Rattle.vg_kernel.specs.WellFormed.{pointers, IsWellFormed}
use Rattle.vg_kernel.specs.Layout.{Access, accesses}
use Rattle.vg_guard.specs.declared.check.Check.{Check}
use Rattle.vg_guard.specs.declared.reach.Reach.{Reach}
use Rattle.vg_guard.specs.Reaching.{access_end, wider, reach_with, reach_behind, reach_of}
use Rattle.vg_guard.specs.Checks.{is_plain, check_between, check_of, numbers_from, checks_with, checks_of}
use Rattle.vg_guard.specs.Rules.{IsCheck, IsBehind, AreRising}
use Rattle.vg_guard.specs.Laws.{ChecksKeepRules}
use Rattle.vg_guard.proofs.Accesses.{IsKnown, accesses-known}

-- ---- reaches

abbrev least : ℤ
least = negsuc (2 ^ 31 - 1)

abbrev most : ℤ
most = pos (2 ^ 31 + 7)

record InRange (r : Reach) : Type 0 where
  low : least ≤ℤ r.low
  some : (r.low +ℤ pos 1) ≤ℤ r.high
  high : r.high ≤ℤ most

abbrev Fine : Option Reach → Type 0
Fine None = Unit {0}
Fine (Some r) = InRange r

within-low : (z : ℤ) → IsOffset z → least ≤ℤ z
within-low (pos n) h = omega (arith, ints)
within-low (negsuc n) h = omega (arith, ints, h)

within-most : (z : ℤ) → IsOffset z → z ≤ℤ pos (2 ^ 31 - 1)
within-most (pos n) h = omega (arith, ints, h)
within-most (negsuc n) h = omega (arith, ints)

within-high : (z : ℤ) → IsOffset z → (z +ℤ pos 8) ≤ℤ most
within-high (pos n) h = omega (arith, ints, h)
within-high (negsuc n) h = omega (arith, ints)

is_offset : (z : ℤ) → least ≤ℤ z → (z +ℤ pos 1) ≤ℤ most → z ≤ℤ pos (2 ^ 31 - 1) → IsOffset z
is_offset (pos n) a b c = omega (arith, ints, c)
is_offset (negsuc n) a b c = omega (arith, ints, a)

-- where a range begins and ends
record Ends (low high : ℤ) : Type 0 where
  least_low : least ≤ℤ low
  most_low : low ≤ℤ pos (2 ^ 31 - 1)
  some : (low +ℤ pos 1) ≤ℤ high
  most_high : high ≤ℤ most

known-ends : (n : ℕ) (x : Access) → IsKnown n x → Ends x.address.offset (access_end x)
known-ends n x is = by x.address.offset x.size is.some is.few (within-low x.address.offset is.address.offset) (within-most x.address.offset is.address.offset) (within-high x.address.offset is.address.offset)
  where
    by : (o : ℤ) (s : ℕ) → 1 ≤ s → s ≤ 8 → least ≤ℤ o → o ≤ℤ pos (2 ^ 31 - 1) → (o +ℤ pos 8) ≤ℤ most → Ends o (o +ℤ pos s)
    by o s some few low top high = record { least_low = low; most_low = top; some = omega (arith, ints, some); most_high = omega (arith, ints, few, high) }

wider-ends : (a b c d : ℤ) → Ends a b → Ends c d → Ends (int_min a c) (int_max b d)
wider-ends a b c d x y =
    let xl = x.least_low in let xm = x.most_low in let ym = y.most_low in let xs = x.some in let xh = x.most_high in let yl = y.least_low in let ys = y.some in let yh = y.most_high in
    record { least_low = omega (arith, ints, clamps, xl, yl); most_low = omega (arith, ints, clamps, xm, ym); some = omega (arith, ints, clamps, xs, ys); most_high = omega (arith, ints, clamps, xh, yh) }

abbrev ReachEnds : Option Reach → Type 0
ReachEnds None = Unit {0}
ReachEnds (Some r) = Ends r.low r.high

wider-reach : (n : ℕ) (o : Option Reach) (x : Access) → ReachEnds o → IsKnown n x → Ends (wider o x).low (wider o x).high
wider-reach n None x fine is = known-ends n x is
wider-reach n (Some r) x fine is = wider-ends r.low r.high x.address.offset (access_end x) fine (known-ends n x is)

reach-ends : (n p : ℕ) (o : Option Reach) (xs : List Access) → ReachEnds o → AllByRecursion (IsKnown n) xs → ReachEnds (reach_behind p o xs)
unfolding reach_behind
reach-ends n p o [] fine all = fine
reach-ends n p o (x ∷ xs) fine all = reach-ends n p (reach_with p o x) xs (next (x.address.pointer == p)) all.1
  where
    next : (b : Bool) → ReachEnds (cond b (Some (wider o x)) o)
    next true = wider-reach n o x fine all.0
    next false = fine

length-within : (low high : ℤ) → Ends low high → (1 ≤ nat_abs (high -ℤ low)) × (nat_abs (high -ℤ low) ≤ 4294967303)
length-within low high e =
    let a = e.least_low in let b = e.some in let c = e.most_high in
    let same : pos (nat_abs (high -ℤ low)) ≡ high -ℤ low = grind (arith, ints, b) in
    (omega (arith, ints, same, b), omega (arith, ints, same, a, c))

low-offset : (low high : ℤ) → Ends low high → IsOffset low
low-offset (pos n) high e = (let c = e.most_low in omega (arith, ints, c))
low-offset (negsuc n) high e = (let a = e.least_low in omega (arith, ints, a))

-- ---- checks

some_is : {X : Type 0} (x y : X) → Some x ≡ Some y → x ≡ y
some_is x y e = cc

record CheckOf (k : Tree) (n p q : ℕ) (c : Check) : Type 0 where
  is : IsCheck n c
  first : c.first ≡ p
  second : c.second ≡ q

check-of : (k : Tree) (p q : ℕ) (c : Check) → IsWellFormed k → p < q → q < length (pointers k.params) → check_of k p q ≡ Some c → CheckOf k (length (pointers k.params)) p q c
check-of k p q c is less top e = by (reach_of k p) (reach_of k q) (reach-ends n p None (accesses k) tt known) (reach-ends n q None (accesses k) tt known) e
  where
    n : ℕ
    n = length (pointers k.params)

    known : AllByRecursion (IsKnown (length (pointers k.params))) (accesses k)
    known = recursion_from_All (IsKnown (length (pointers k.params))) (accesses k) (accesses-known k is)

    of : (r s : Reach) → Ends r.low r.high → Ends s.low s.high → IsCheck (length (pointers k.params)) (check_between p r q s)
    of r s a b =
        let f = length-within r.low r.high a in
        let g = length-within s.low s.high b in
        record {
          first = record { pointer = omega (arith, less, top); offset = low-offset r.low r.high a; some = f.0; few = f.1 };
          second = record { pointer = top; offset = low-offset s.low s.high b; some = g.0; few = g.1 };
          ordered = less;
        }

    by : (a b : Option Reach) → ReachEnds a → ReachEnds b
        → (a >>= λ r. b >>= λ s. cond (is_plain k p && is_plain k q && (r.writes || s.writes)) (Some (check_between p r q s)) None) ≡ Some c → CheckOf k (length (pointers k.params)) p q c
    by None b x y h = absurd cc
    by (Some r) None x y h = absurd cc
    by (Some r) (Some s) x y h = elim (cases_Bool (is_plain k p && is_plain k q && (r.writes || s.writes))) [
      | inl t ↦
          let same = some_is (check_between p r q s) c (sym (cond-true _ _ _ t) ∙ h) in
          subst (CheckOf k (length (pointers k.params)) p q) same (record { is = of r s x y; first = refl; second = refl })
      | inr f ↦ absurd (let none : nothing ≡ Some c = sym (cond-false _ _ _ f) ∙ h in cc)
    ]
      where
        nothing : Option Check
        nothing = None

-- the checks of a pointer with those from a number on
record Row (n p f : ℕ) (c : Check) : Type 0 where
  is : IsCheck n c
  first : c.first ≡ p
  second : f ≤ c.second

later_row : (n p f : ℕ) (cs : List Check) → AllByRecursion (Row n p (f + 1)) cs → AllByRecursion (Row n p f) cs
later_row n p f [] all = tt
later_row n p f (c ∷ cs) all = (record { is = all.0.is; first = all.0.first; second = (let s = all.0.second in omega (arith, s)) }, later_row n p f cs all.1)

row-behind : (n p f : ℕ) (c : Check) (cs : List Check) → c.first ≡ p → c.second ≡ f → AllByRecursion (Row n p (f + 1)) cs → AllByRecursion (IsBehind c) cs
row-behind n p f c [] a b all = tt
row-behind n p f c (d ∷ cs) a b all = (inr (a ∙ sym all.0.first, (let s = all.0.second in omega (arith, s, b))), row-behind n p f c cs a b all.1)

record Rows (n p f m : ℕ) (cs : List Check) : Type 0 where
  each : AllByRecursion (Row n p f) cs
  rising : AreRising cs
  few : length cs ≤ m

row-is : (k : Tree) (p f m : ℕ) → IsWellFormed k → p < f → f + m ≤ length (pointers k.params) → Rows (length (pointers k.params)) p f m (filter_map (check_of k p) (numbers_from f m))
unfolding numbers_from
row-is k p f zero is less top = record { each = tt; rising = tt; few = omega arith }
row-is k p f (suc m) is less top = by (check_of k p f) refl (row-is k p (f + 1) m is (omega (arith, less)) (omega (arith, top)))
  where
    by : (o : Option Check) → check_of k p f ≡ o → Rows (length (pointers k.params)) p (f + 1) m (filter_map (check_of k p) (numbers_from (f + 1) m))
        → Rows (length (pointers k.params)) p f (suc m) (cons_option o (filter_map (check_of k p) (numbers_from (f + 1) m)))
    by None e more = record { each = later_row _ p f _ more.each; rising = more.rising; few = (let l = more.few in omega (arith, l)) }
    by (Some c) e more =
        let one = check-of k p f c is less (omega (arith, top)) e in
        record {
          each = (record { is = one.is; first = one.first; second = (let s = one.second in omega (arith, s)) }, later_row _ p f _ more.each);
          rising = (row-behind _ p f c _ one.first one.second more.each, more.rising);
          few = (let l = more.few in omega (arith, l));
        }

-- ---- all rows

record Later (n f : ℕ) (c : Check) : Type 0 where
  is : IsCheck n c
  first : f ≤ c.first

record Table (n f m : ℕ) (cs : List Check) : Type 0 where
  each : AllByRecursion (Later n f) cs
  rising : AreRising cs
  few : 2 * length cs + m ≤ m * m

both-all : {X : Type 0} (P : X → Type 0) (xs ys : List X) → AllByRecursion P xs → AllByRecursion P ys → AllByRecursion P (xs ++ ys)
both-all P [] ys a b = b
both-all P (x ∷ xs) ys a b = (a.0, both-all P xs ys a.1 b)

row-later : (n f g : ℕ) (cs : List Check) → AllByRecursion (Row n f g) cs → AllByRecursion (Later n f) cs
row-later n f g [] all = tt
row-later n f g (c ∷ cs) all = (record { is = all.0.is; first = (let e = all.0.first in omega (arith, e)) }, row-later n f g cs all.1)

earlier : (n f : ℕ) (cs : List Check) → AllByRecursion (Later n (f + 1)) cs → AllByRecursion (Later n f) cs
earlier n f [] all = tt
earlier n f (c ∷ cs) all = (record { is = all.0.is; first = (let l = all.0.first in omega (arith, l)) }, earlier n f cs all.1)

behind-later : (n f : ℕ) (c : Check) (cs : List Check) → c.first ≡ f → AllByRecursion (Later n (f + 1)) cs → AllByRecursion (IsBehind c) cs
behind-later n f c [] e all = tt
behind-later n f c (d ∷ cs) e all = (inl (let l = all.0.first in omega (arith, l, e)), behind-later n f c cs e all.1)

both-rise : (n f g : ℕ) (xs ys : List Check) → AllByRecursion (Row n f g) xs → AreRising xs → AllByRecursion (Later n (f + 1)) ys → AreRising ys → AreRising (xs ++ ys)
both-rise n f g [] ys a b c d = d
both-rise n f g (x ∷ xs) ys a b c d = (both-all (IsBehind x) xs ys b.0 (behind-later n f x ys a.0.first c), both-rise n f g xs ys a.1 b.1 c d)

table-is : (k : Tree) (f m : ℕ) → IsWellFormed k → f + m ≡ length (pointers k.params) → Table (length (pointers k.params)) f m (flat_map (checks_with k (length (pointers k.params))) (numbers_from f m))
unfolding numbers_from
table-is k f zero is e = record { each = tt; rising = tt; few = omega arith }
table-is k f (suc m) is e =
    let n = length (pointers k.params) in
    let width : n - (f + 1) ≡ m = omega (arith, e) in
    let row = row-is k f (f + 1) (n - (f + 1)) is (omega arith) (omega (arith, e)) in
    let rest = table-is k (f + 1) m is (omega (arith, e)) in
    let own = checks_with k n f in
    let others = flat_map (checks_with k n) (numbers_from (f + 1) m) in
    let joined = length-append own others in
    let a = row.few in
    let b = rest.few in
    let square : suc m * suc m ≡ m * m + 2 * m + 1 = omega arith in
    record {
      each = both-all (Later n f) own others (row-later n f (f + 1) own row.each) (earlier n f others rest.each);
      rising = both-rise n f (f + 1) own others row.each row.rising rest.each rest.rising;
      few = omega (arith, joined, a, b, square, width);
    }

only-checks : (n f : ℕ) (cs : List Check) → AllByRecursion (Later n f) cs → AllByRecursion (IsCheck n) cs
only-checks n f [] all = tt
only-checks n f (c ∷ cs) all = (all.0.is, only-checks n f cs all.1)

few-pointers : (ps : List KParam) → length (pointers ps) ≤ length ps
few-pointers [] = omega arith
few-pointers (p ∷ ps) = by (is_pointer p.kind) (few-pointers ps)
  where
    by : (b : Bool) → length (pointers ps) ≤ length ps → length (cond b (p ∷ pointers ps) (pointers ps)) ≤ suc (length ps)
    by true l = omega (arith, l)
    by false l = omega (arith, l)

pub checks-keep-rules : ChecksKeepRules
unfolding checks_of
checks-keep-rules k is =
    let n = length (pointers k.params) in
    let t = table-is k 0 n is (omega arith) in
    let few : n ≤ 16 = (let a = few-pointers k.params in let b = is.params in omega (arith, a, b)) in
    let square : n * n ≤ 16 * n = mul-le-mul_right n few in
    let count = t.few in
    (record { each = only-checks n 0 (checks_of k) t.each; rising = t.rising }, omega (arith, few, square, count))
