-- Each event is a byte of what one unit accesses.
use Rattle.std.proofs.Common.{◌≡◌, ℕ, zero, suc, ◌+◌, ◌-◌, ◌<◌, ◌≤◌, pos, Bool, List, [], ◌∷◌, ◌++◌, length, map, Option, Some, None, refl, sym, ap, subst, ◌∙◌, inl, inr, arith, append_assoc, length-append}
use Rattle.std.specs.Prelude.{◌+ℤ◌, slice_get, slice_index_or}
use Rattle.std.proofs.lemmas.Int.{ints}
use Rattle.std.proofs.lemmas.Bool.{cases_lt, le-ltb, cond-false}
use Rattle.std.proofs.lemmas.List.{get_or_append_left, get_or-append-add}
use Rattle.vg_base.specs.Trap.{◌>>=◌}
use Rattle.vg_base.specs.declared.address.Address.{Address}
use Rattle.vg_shapes.specs.declared.access.Access.{Access}
use Rattle.vg_shapes.specs.declared.ssa.Ssa.{Ssa}
use Rattle.vg_shapes.specs.declared.ssa_unit.SsaUnit.{SsaUnit}
use Rattle.vg_shapes.specs.Layout.{access_at, access_of}
use Rattle.vg_shapes.specs.Order.{numbers_from, Stands}
use Rattle.vg_shapes.specs.Units.{arguments, unit_at}
use Rattle.vg_events.specs.Events.{kernel_labels, Label, label_at, labels, labels_from, labels_in, labels_of, next, no_label}
use Rattle.vg_events.specs.UnitOrder.{spans, unit_events}
use Rattle.vg_order_laws.proofs.Sequences.{count_of-earlier}
use Rattle.vg_events.proofs.Ranks.{length-labels, number-inside, numbers-inside}

-- so many bytes after an address
abbrev pub moved : Address → ℕ → Address
moved a i = record { pointer = a.pointer; offset = a.offset +ℤ pos i }

label-from : (w : Bool) (a : Address) (n i : ℕ) → i < n → label_at (labels_from w a n) i ≡ record { writes = w; address = moved a i }
label-from w a zero i h = absurd (omega arith)
label-from w a (suc n) zero h = (let e : a.offset ≡ a.offset +ℤ pos 0 = omega (arith, ints) in (λ j. record { writes = w; address = record { pointer = a.pointer; offset = e j } }))
label-from w a (suc n) (suc i) h =
    label-from w (next a) n i (omega arith)
    ∙ (let e : ((a.offset +ℤ pos 1) +ℤ pos i) ≡ (a.offset +ℤ pos (suc i)) = omega (arith, ints) in (λ j. record { writes = w; address = record { pointer = a.pointer; offset = e j } }))

label-inside : (ls before rest : List Label) (x : Access) (e : ℕ) → ls ≡ before ++ (labels_of x ++ rest) → e < x.size → label_at ls (length before + e) ≡ record { writes = x.writes; address = moved x.address e }
label-inside ls before rest x e same h =
    ap (λ l. label_at l (length before + e)) same
    ∙ get_or-append-add before (labels_of x ++ rest) e no_label
    ∙ get_or_append_left (labels_of x) rest no_label e (omega (arith, length-labels x.writes x.address x.size))
    ∙ label-from x.writes x.address x.size e h

-- the number of the first event of the unit in a place
abbrev pub begin : ℕ → List (Option Access) → ℕ → ℕ
begin f [] k = f
begin f (x ∷ xs) zero = f
begin f (x ∷ xs) (suc k) = begin (f + length (labels_in x)) xs k

-- what the unit in a place accesses, and which byte of that an event is
pub record OwnedIn (xs : List (Option Access)) (ls : List Label) (f e place : ℕ) : Type 0 where
  pub access : Access
  pub is : slice_get xs place ≡ Some (Some access)
  pub byte : ℕ
  pub inside : byte < access.size
  pub number : e ≡ begin f xs place + byte
  pub label : label_at ls e ≡ record { writes = access.writes; address = moved access.address byte }
  pub stands : Stands e (slice_index_or (spans f xs) place [])

owned-here : (ls before : List Label) (f : ℕ) (x : Access) (xs : List (Option Access)) (e : ℕ) → ls ≡ before ++ (labels_of x ++ labels xs) → length before ≡ f → f ≤ e → e < f + length (labels_of x) → OwnedIn (Some x ∷ xs) ls f e 0
owned-here ls before f x xs e same long low high =
    let size = length-labels x.writes x.address x.size in
    record {
      access = x;
      is = refl;
      byte = e - f;
      inside = omega arith;
      number = omega arith;
      label = ap (label_at ls) (let k : e ≡ length before + (e - f) = omega arith in k) ∙ label-inside ls before (labels xs) x (e - f) same (omega arith);
      stands = (let one = numbers-inside e f (length (labels_of x)) low high in omega arith);
    }

owned-later : (ls : List Label) (f : ℕ) (x : Option Access) (xs : List (Option Access)) (e k : ℕ) → OwnedIn xs ls (f + length (labels_in x)) e k → OwnedIn (x ∷ xs) ls f e (suc k)
owned-later ls f x xs e k o = record { access = o.access; is = o.is; byte = o.byte; inside = o.inside; number = o.number; label = o.label; stands = o.stands }

-- each event is of some unit
owned-in : (ls before : List Label) (f : ℕ) (xs : List (Option Access)) (e : ℕ) → ls ≡ before ++ labels xs → length before ≡ f → f ≤ e → e < f + length (labels xs) → (k : ℕ) × OwnedIn xs ls f e k
owned-in ls before f [] e same long low high = absurd (omega arith)
owned-in ls before f (None ∷ xs) e same long low high =
    let rest = owned-in ls before (f + 0) xs e same (long ∙ omega arith) (omega arith) (omega arith) in
    (suc rest.0, owned-later ls f None xs e rest.0 rest.1)
owned-in ls before f (Some x ∷ xs) e same long low high =
    let n = length (labels_of x) in
    elim (cases_lt e (f + n)) [
      | inl here ↦ (0, owned-here ls before f x xs e same long low here)
      | inr later ↦
          let all : length (labels_of x ++ labels xs) ≡ n + length (labels xs) = length-append (labels_of x) (labels xs) in
          let rest = owned-in ls (before ++ labels_of x) (f + n) xs e (same ∙ sym (append_assoc before (labels_of x) (labels xs))) (length-append before (labels_of x) ∙ ap (λ k. k + n) long) later (omega (arith, high, all)) in
          (suc rest.0, owned-later ls f (Some x) xs e rest.0 rest.1)
    ]

-- and the events of a unit are its own
standing-above : (e f n : ℕ) → Stands e (numbers_from f n) → f ≤ e
standing-above e f n s = elim (cases_lt e f) [ inl less ↦ absurd (let none = count_of-earlier e f n less in omega arith) | inr above ↦ above ]

owned-by : (ls before : List Label) (f : ℕ) (xs : List (Option Access)) (k e : ℕ) → ls ≡ before ++ labels xs → length before ≡ f → Stands e (slice_index_or (spans f xs) k []) → OwnedIn xs ls f e k
owned-by ls before f [] k e same long s = absurd (omega arith)
owned-by ls before f (None ∷ xs) zero e same long s = absurd (omega arith)
owned-by ls before f (None ∷ xs) (suc k) e same long s =
    owned-later ls f None xs e k (owned-by ls before (f + 0) xs k e same (long ∙ omega arith) s)
owned-by ls before f (Some x ∷ xs) zero e same long s =
    owned-here ls before f x xs e same long (standing-above e f (length (labels_of x)) s) (number-inside e f (length (labels_of x)) s)
owned-by ls before f (Some x ∷ xs) (suc k) e same long s =
    owned-later ls f (Some x) xs e k
    (owned-by ls (before ++ labels_of x) (f + length (labels_of x)) xs k e (same ∙ sym (append_assoc before (labels_of x) (labels xs))) (length-append before (labels_of x) ∙ ap (λ n. n + length (labels_of x)) long) s)

-- events of later units have greater numbers
above-begin : (f : ℕ) (xs : List (Option Access)) (k : ℕ) → f ≤ begin f xs k
above-begin f [] k = omega arith
above-begin f (x ∷ xs) zero = omega arith
above-begin f (x ∷ xs) (suc k) = let rest = above-begin (f + length (labels_in x)) xs k in omega arith

pub begins-rise : (f : ℕ) (xs : List (Option Access)) (j k : ℕ) (a : Access) → j < k → slice_get xs j ≡ Some (Some a) → begin f xs j + a.size ≤ begin f xs k
begins-rise f [] j k a less is = absurd (cc)
begins-rise f (x ∷ xs) j zero a less is = absurd (omega arith)
begins-rise f (x ∷ xs) zero (suc k) a less is =
    let same : x ≡ Some a = cc in
    let size : length (labels_in x) ≡ a.size = ap (λ o. length (labels_in o)) same ∙ length-labels a.writes a.address a.size in
    let rest = above-begin (f + length (labels_in x)) xs k in
    omega arith
begins-rise f (x ∷ xs) (suc j) (suc k) a less is = begins-rise (f + length (labels_in x)) xs j k a (omega arith) is

-- ---- the same of the values of a kernel

abbrev pub unit_accesses : Ssa → List (Option Access)
unit_accesses ssa = map access_of ssa.units

pub record Owned (ssa : Ssa) (e v : ℕ) : Type 0 where
  pub access : Access
  pub is : access_at ssa v ≡ Some access
  pub behind : arguments ssa ≤ v
  pub byte : ℕ
  pub inside : byte < access.size
  pub number : e ≡ begin 0 (unit_accesses ssa) (v - arguments ssa) + byte
  pub place : slice_get (unit_accesses ssa) (v - arguments ssa) ≡ Some (Some access)
  pub label : label_at (kernel_labels ssa) e ≡ record { writes = access.writes; address = moved access.address byte }
  pub stands : Stands e (unit_events ssa v)

accessed : (us : List SsaUnit) (k : ℕ) (x : Access) → slice_get (map access_of us) k ≡ Some (Some x) → (slice_get us k >>= access_of) ≡ Some x
accessed [] k x e = absurd (cc)
accessed (u ∷ us) zero x e = cc
accessed (u ∷ us) (suc k) x e = accessed us k x e

behind-arguments : (ssa : Ssa) (v : ℕ) → arguments ssa ≤ v → unit_at ssa v ≡ slice_get ssa.units (v - arguments ssa)
behind-arguments ssa v h = cond-false _ _ _ (le-ltb v (arguments ssa) h)

owned-value : (ssa : Ssa) (e v : ℕ) → arguments ssa ≤ v → OwnedIn (unit_accesses ssa) (kernel_labels ssa) 0 e (v - arguments ssa) → Owned ssa e v
owned-value ssa e v h o = record {
  access = o.access;
  is = ap (λ u. u >>= access_of) (behind-arguments ssa v h) ∙ accessed ssa.units (v - arguments ssa) o.access o.is;
  behind = h;
  byte = o.byte;
  inside = o.inside;
  number = o.number;
  place = o.is;
  label = o.label;
  stands = o.stands;
}

pub owned : (ssa : Ssa) (e : ℕ) → e < length (kernel_labels ssa) → (v : ℕ) × Owned ssa e v
owned ssa e h =
    let found = owned-in (kernel_labels ssa) [] 0 (unit_accesses ssa) e refl refl (omega arith) (omega arith) in
    let less : found.0 ≡ arguments ssa + found.0 - arguments ssa = omega arith in
    (arguments ssa + found.0, owned-value ssa e (arguments ssa + found.0) (omega arith) (subst (OwnedIn (unit_accesses ssa) (kernel_labels ssa) 0 e) less found.1))

pub owns : (ssa : Ssa) (e v : ℕ) → arguments ssa ≤ v → Stands e (unit_events ssa v) → Owned ssa e v
owns ssa e v h s = owned-value ssa e v h (owned-by (kernel_labels ssa) [] 0 (unit_accesses ssa) (v - arguments ssa) e refl refl s)
