-- The operands of calls are sound: their slots are inside their registers, aligned, sorted and
-- apart.
use Rattle.std.proofs.Common.{◌≡◌, ℕ, suc, ◌+◌, ◌%◌, ◌≤◌, Bool, true, false, List, [], ◌∷◌, map, Option, Some, None, refl, sym, ap, subst, ◌∙◌, inl, inr, arith, get_or}
use Rattle.std.specs.Prelude.{◌||◌, not, flat_map, is_some, nat_eq, slice_get, IsTrue}
use Rattle.std.specs.List.{AllByRecursion, list_all, list_any}
use Rattle.std.specs.Option.{option_map_or}
use Rattle.std.proofs.lemmas.Bool.{cases_Bool, not-false, not-true}
use Rattle.std.proofs.lemmas.Bool.Decides.{nat_tests}
use Rattle.vg_plans.specs.Levels.{distinct}
use Rattle.vg_plans.specs.Members.{Every, Has}
use Rattle.vg_plans.proofs.Lists.{every-distinct, every-map, every-sort, has-flat_map}
use Rattle.vg_plans.proofs.Members.{any-is, from-filter, has-append}
use Rattle.vg_plans.proofs.Sorting.{Rises, sort-rises}
use Rattle.vg_terms.specs.declared.term.LeafKey.{LeafKey}
use Rattle.vg_terms.specs.Term.{Tree}
use Rattle.vg_shapes.specs.declared.leaf.Leaf.{Leaf}
use Rattle.vg_shapes.specs.declared.match_table.Bound.{Bound}
use Rattle.vg_shapes.specs.declared.match_table.Match.{Match}
use Rattle.vg_shapes.specs.declared.operand.Slot.{Slot}
use Rattle.vg_shapes.specs.declared.ssa.Ssa.{Ssa}
use Rattle.vg_shapes.specs.Description.{Description, IsLane, IsPackable}
use Rattle.vg_shapes.specs.Fits.{has_leaf, FitsWide, wanted_for}
use Rattle.vg_shapes.specs.Leaves.{bit_number, clash, is_odd, is_value_width, leaf_of, leaves, some_clash}
use Rattle.vg_shapes.specs.Matches.{AreMatches}
use Rattle.vg_shapes.specs.Operands.{AreSlots, IsOperand, IsSlot, MayBeWanted}
use Rattle.vg_shapes.specs.Pack.{bounds_from, match_at}
use Rattle.vg_shapes.specs.Sound.{IsSound}
use Rattle.vg_match.proofs.Laws.{wide-alone, wide-once}
use Rattle.vg_kernel_plans.specs.Producers.{agree, are_matched}
use Rattle.vg_kernel_plans.specs.SameAs.{same_slot}
use Rattle.vg_kernel_plans.specs.Taken.{operands_from, slot_of, slots_of}
use Rattle.vg_kernel_plans.proofs.SameTests.{both-true}
use Rattle.vg_plan_relations.proofs.Agreeing.{entries}
use Rattle.vg_plan_relations.proofs.Fitting.{found-fit, lane-term}
use Rattle.vg_plan_relations.proofs.Lists.{all-has, get-has}
use Rattle.vg_plan_laws.proofs.Filled.{all-get}
use Rattle.vg_plan_laws.proofs.Fitted.{each-inside, each-may, entry-is, IsInside, leaf-holds, leaf-listed}

-- ---- slots that are apart

-- a slot that may stand in a register, at a leaf of a parameter
record IsLeafSlot (ssa : Ssa) (ls : List Leaf) (k register : ℕ) (s : Slot) : Type 0 where
  is : IsSlot ssa register s
  leaf : Has (record { parameter = k; low = s.low; width = s.width }) ls

none-found : {X : Type 0} (test : X → Bool) (xs : List X) (x : X) → list_any test xs ≡ false
    → Has x xs → test x ≡ false
none-found test xs x f has = elim (cases_Bool (test x)) [
  | inl t ↦ (let any = any-is test x xs has t in absurd (cc))
  | inr n ↦ n
]

no-clash : (ls : List Leaf) (a b : Leaf) → some_clash ls ≡ false → Has a ls → Has b ls
    → clash a b ≡ false
no-clash ls a b f ha hb =
    none-found (clash a) ls b (none-found (λ a. list_any (clash a) ls) ls a f ha) hb

-- of two leaves of a parameter that begin at different bits and do not clash the lower one ends
-- first
lower-ends : (k l w m x : ℕ)
    → clash (record { parameter = k; low = l; width = w })
    (record { parameter = k; low = m; width = x }) ≡ false
    → nat_eq l m ≡ false → l ≤ m → l + w ≤ m
lower-ends k l w m x c n le = grind (arith, nat_tests, c, n, le)

-- after a slot the others begin where it ends or later
abbrev AreApart : List Slot → Type 0
AreApart [] = Unit {0}
AreApart (s ∷ ss) = Every (λ t. s.low + s.width ≤ t.low) ss × AreApart ss

behind-all : (ssa : Ssa) (ls : List Leaf) (k register : ℕ) (s : Slot) (ss : List Slot)
    → some_clash ls ≡ false → IsLeafSlot ssa ls k register s
    → Every (IsLeafSlot ssa ls k register) ss → Every (λ t. s.low ≤ t.low) ss
    → list_any (λ t. nat_eq s.low t.low) ss ≡ false
    → Every (λ t. s.low + s.width ≤ t.low) ss
behind-all ssa ls k register s [] c own all low none = tt
behind-all ssa ls k register s (t ∷ ss) c own all low none =
    let parts = neither (nat_eq s.low t.low) (list_any (λ t. nat_eq s.low t.low) ss) none in (
      lower-ends k s.low s.width t.low t.width
          (no-clash ls _ _ c own.leaf (all.0).leaf) parts.0 low.0,
      behind-all ssa ls k register s ss c own all.1 low.1 parts.1,
    )
  where
    neither : (a b : Bool) → (a || b) ≡ false → (a ≡ false) × (b ≡ false)
    neither true b e = absurd (cc)
    neither false b e = (refl, e)

apart-all : (ssa : Ssa) (ls : List Leaf) (k register : ℕ) (ss : List Slot) → some_clash ls ≡ false
    → Every (IsLeafSlot ssa ls k register) ss → Rises (λ (s : Slot). s.low) ss → agree ss ≡ true
    → AreApart ss
apart-all ssa ls k register [] c all rise agreed = tt
apart-all ssa ls k register (s ∷ ss) c all rise agreed =
    let b = both-true (not (list_any (λ t. nat_eq s.low t.low) ss)) (agree ss) agreed in (
      behind-all ssa ls k register s ss c all.0 all.1 rise.0 (not-true _ b.0),
      apart-all ssa ls k register ss c all.1 rise.1 b.1,
    )

slots-from : (ssa : Ssa) (ls : List Leaf) (k register low : ℕ) (ss : List Slot)
    → Every (IsLeafSlot ssa ls k register) ss
    → AreApart ss → Every (λ t. low ≤ t.low) ss → AreSlots ssa register low ss
slots-from ssa ls k register low [] all apart behind = tt
slots-from ssa ls k register low (s ∷ ss) all apart behind =
    (behind.0, (all.0).is, slots-from ssa ls k register (s.low + s.width) ss all.1 apart.1 apart.0)

every-of : {X : Type 0} (P : X → Type 0) (xs : List X) → ((x : X) → P x) → Every P xs
every-of P [] f = tt
every-of P (x ∷ xs) f = (f x, every-of P xs f)

-- ---- what is bound

-- an entry that matched lanes bind: a leaf of the description, inside its parameter, bound to what
-- may be wanted there
pub record IsGoodEntry (ssa : Ssa) (x : Description) (b : Bound) : Type 0 where
  pub leaf : Has (leaf_of b.width b.key) (flat_map leaves x.lanes)
  pub inside : IsInside x.params b.width b.key
  pub may : MayBeWanted ssa b.width b.wanted

good-match : (ssa : Ssa) (x : Description) (lane v : ℕ) (t : Tree) (bound : List Bound) (b : Bound)
    → IsSound ssa → IsPackable x
    → slice_get x.lanes lane ≡ Some t → FitsWide ssa t v bound → Has b bound → IsGoodEntry ssa x b
good-match ssa x lane v t bound b sound packable at f has =
    let own = all-get (IsLane x.params x.lane_width) x.lanes lane t packable.lanes at in
    let is =
    all-has (λ (c : Bound). has_leaf c.width c.key t ≡ true) bound b (wide-alone ssa t v bound f)
    has in
    record {
      leaf =
          has-flat_map leaves t (leaf_of b.width b.key) x.lanes (get-has x.lanes lane t at)
          (leaf-listed t b.width b.key is);
      inside =
          leaf-holds (IsInside x.params) t b.width b.key (each-inside x.params t own.inside) is;
      may = subst (MayBeWanted ssa b.width) (entry-is bound b (wide-once ssa t v bound f) has)
          (leaf-holds (λ w k. MayBeWanted ssa w (wanted_for bound w k)) t b.width b.key
          (each-may ssa t v bound sound f) is);
    }

module _ (ds : List Description) (matches : List Match) (ssa : Ssa) (d : ℕ) (x : Description)
    (sound : IsSound ssa) (are : AreMatches ds ssa matches)
    (there : slice_get ds d ≡ Some x) (packable : IsPackable x) where
  pub good-entries : (n : ℕ) (lanes : List (Option ℕ)) (b : Bound)
      → are_matched matches d n lanes ≡ true → Has b (bounds_from matches d n lanes)
      → IsGoodEntry ssa x b
  good-entries n [] b t has = absurd has
  good-entries n (None ∷ lanes) b t has =
      let next : suc n ≡ n + 1 = omega arith in
      good-entries (n + 1) lanes b (subst (λ k. are_matched matches d k lanes ≡ true) next t) has
  good-entries n (Some v ∷ lanes) b t has =
      let next : suc n ≡ n + 1 = omega arith in
      let both =
      both-true (is_some (match_at matches d n v)) (are_matched matches d (suc n) lanes) t in
      let f = found-fit ds matches ssa d n v are both.0 in
      elim (has-append b (option_map_or (λ (m : Match). m.bound) (match_at matches d n v) [])
      (bounds_from matches d (n + 1) lanes) has) [
        | inl own ↦
            good-match ssa x n v f.term (f.found).bound b sound packable
            (lane-term ds d n x f.term there f.lane) f.fits
            (subst (λ o. Has b (option_map_or (λ (m : Match). m.bound) o [])) f.is own)
        | inr rest ↦
            good-entries (n + 1) lanes b
            (subst (λ k. are_matched matches d k lanes ≡ true) next both.1) rest
      ]

-- ---- the operands of a call

even-width : (l : Leaf) → is_odd l ≡ false → (is_value_width l.width ≡ true) × (l.low % l.width ≡ 0)
even-width l e =
    let b = both-true (is_value_width l.width) (nat_eq (l.low % l.width) 0) (not-false _ e) in
    (b.0, grind (arith, nat_tests, b.1))

width-listed : (w : ℕ) → is_value_width w ≡ true
    → IsTrue (list_any (nat_eq w) (8 ∷ 16 ∷ 32 ∷ 64 ∷ []))
width-listed w e = grind (arith, nat_tests, e)

entry-slot : (ssa : Ssa) (x : Description) (k register : ℕ) (b : Bound) → IsPackable x
    → get_or x.params k 0 ≡ register → b.key.first ≡ k → IsGoodEntry ssa x b
    → IsLeafSlot ssa (flat_map leaves x.lanes) k register (slot_of b)
entry-slot ssa x k register b packable wide e good =
    let l = leaf_of b.width b.key in
    let even =
    even-width l (none-found is_odd (flat_map leaves x.lanes) l packable.even good.leaf) in
    let at : bit_number b.key.second ≡ good.inside.1 =
    ap (λ (y : LeafKey). bit_number y.second) good.inside.2 in
    let of : good.inside.0 ≡ k = sym (ap (λ (y : LeafKey). y.first) good.inside.2) ∙ e in
    let limit : get_or x.params good.inside.0 0 ≡ register =
    ap (λ n. get_or x.params n 0) of ∙ wide in
    let fits = good.inside.3 in
    record {
      is =
          record {
            width = width-listed b.width even.0;
            aligned = even.1;
            inside = omega arith;
            wanted = good.may;
          };
      leaf =
          subst (λ n. Has (record { parameter = n; low = bit_number b.key.second; width = b.width })
          (flat_map leaves x.lanes)) e good.leaf;
    }

every-entry : (P : Bound → Type 0) (Q : Slot → Type 0) (bounds : List Bound) (k : ℕ)
    → ((b : Bound) → Has b bounds → b.key.first ≡ k → Q (slot_of b))
    → Every Q (map slot_of (entries bounds k))
every-entry P Q bounds k f =
    every-map Q slot_of (entries bounds k)
    (λ b has. let g = from-filter (λ (c : Bound). nat_eq c.key.first k) b bounds has in f b g.0
    (let t = g.1 in grind (arith, nat_tests, t)))

-- the slots of a parameter of a call
pub parameter-slots : (ssa : Ssa) (x : Description) (bounds : List Bound) (k register : ℕ)
    → IsPackable x → get_or x.params k 0 ≡ register
    → ((b : Bound) → Has b bounds → IsGoodEntry ssa x b) → agree (slots_of bounds k) ≡ true
    → AreSlots ssa register 0 (slots_of bounds k)
parameter-slots ssa x bounds k register packable wide good agreed =
    let ls = flat_map leaves x.lanes in
    let raw = map slot_of (entries bounds k) in
    let all =
    every-sort (IsLeafSlot ssa ls k register) (λ (s : Slot). s.low) (distinct same_slot raw)
    (every-distinct (IsLeafSlot ssa ls k register) same_slot [] raw
    (every-entry (λ b. Unit {0}) (IsLeafSlot ssa ls k register) bounds k
    (λ b has e. entry-slot ssa x k register b packable wide e (good b has)))) in
    slots-from ssa ls k register 0 (slots_of bounds k) all
    (apart-all ssa ls k register (slots_of bounds k) packable.apart all
    (sort-rises (λ (s : Slot). s.low) (distinct same_slot raw)) agreed)
    (every-of (λ (t : Slot). 0 ≤ t.low) (slots_of bounds k) (λ t. omega arith))

abbrev IsWide : ℕ → Type 0
IsWide n = IsTrue (list_any (nat_eq n) (128 ∷ 256 ∷ 512 ∷ []))

operands-sound-from : (ssa : Ssa) (x : Description) (bounds : List Bound) (k : ℕ) (ps : List ℕ)
    → IsPackable x
    → ((i : ℕ) → get_or x.params (k + i) 0 ≡ get_or ps i 0) → AllByRecursion IsWide ps
    → ((b : Bound) → Has b bounds → IsGoodEntry ssa x b)
    → list_all (λ o. agree o.slots) (operands_from bounds k ps) ≡ true
    → Every (IsOperand ssa) (operands_from bounds k ps)
operands-sound-from ssa x bounds k [] packable at wide good agreed = tt
operands-sound-from ssa x bounds k (p ∷ ps) packable at wide good agreed =
    let b =
    both-true (agree (slots_of bounds k))
    (list_all (λ o. agree o.slots) (operands_from bounds (suc k) ps)) agreed in
    let here : k + 0 ≡ k = omega arith in (
      record {
        register = wide.0;
        slots =
            parameter-slots ssa x bounds k p packable
            (subst (λ n. get_or x.params n 0 ≡ p) here (at 0)) good b.0;
      },
      operands-sound-from ssa x bounds (suc k) ps packable
          (λ i. let next : suc k + i ≡ k + suc i = omega arith in ap (λ n. get_or x.params n 0) next
          ∙ at (suc i)) wide.1 good b.1,
    )

pub call-operands : (ssa : Ssa) (x : Description) (bounds : List Bound) → IsPackable x
    → AllByRecursion IsWide x.params
    → ((b : Bound) → Has b bounds → IsGoodEntry ssa x b)
    → list_all (λ o. agree o.slots) (operands_from bounds 0 x.params) ≡ true
    → Every (IsOperand ssa) (operands_from bounds 0 x.params)
call-operands ssa x bounds packable wide good agreed =
    operands-sound-from ssa x bounds 0 x.params packable
    (λ i. let start : 0 + i ≡ i = omega arith in ap
    (λ n. get_or x.params n 0) start) wide good agreed
