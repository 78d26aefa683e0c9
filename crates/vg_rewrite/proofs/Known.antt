-- What a run of the given units knows: a load that nothing has written since would read its number
-- again, and an extension has the number that it makes of its load's.
use Rattle.std.proofs.Common.{◌≡◌, ℕ, ◌+◌, ◌<◌, ◌≤◌, ◌⊎◌, ℤ, pos, negsuc, true, false, List, [], ◌∷◌, ◌++◌, length, Some, None, refl, sym, ap, ◌∙◌, subst, arith, inl, inr}
use Rattle.std.specs.Prelude.{nat_le, slice_index}
use Rattle.std.proofs.lemmas.Bool.{cases_Bool, cases_lt, leb-false, leb-true}
use Rattle.std.proofs.lemmas.Int.{ints}
use Rattle.std.proofs.lemmas.List.{get_or_append_left, get_or_push, length_push}
use Rattle.vg_base.specs.Address.{place_of}
use Rattle.vg_base.specs.Bits.{bytes, number}
use Rattle.vg_base.specs.Memory.{loaded, stored}
use Rattle.vg_base.specs.Trap.{◌>>=◌}
use Rattle.vg_base.specs.declared.address.Address.{Address}
use Rattle.vg_base.specs.declared.width.Width.{Width}
use Rattle.vg_base.specs.Width.{bits_of, size_of}
use Rattle.vg_bits.specs.Range.{replaced}
use Rattle.vg_bits.proofs.ByteLists.{length-bytes}
use Rattle.vg_bits.proofs.Ranges.{length-replaced, range-replaced_beside}
use Rattle.vg_order_laws.proofs.Accesses.{Apart, loaded-inside, loaded-outside, stored-inside, stored-outside}
use Rattle.vg_rewrite.proofs.SourceFacts.{ExtensionAt, LoadAt}
use Rattle.vg_scalar.specs.Scalar.{resize_result}
use Rattle.vg_shapes.specs.declared.access.Access.{Access}
use Rattle.vg_shapes.specs.declared.ssa.Ssa.{Ssa}
use Rattle.vg_shapes.specs.declared.ssa_unit.Operator.TheVariants.{Resize}
use Rattle.vg_shapes.specs.declared.ssa_unit.SsaUnit.{SsaUnit}
use Rattle.vg_shapes.specs.declared.ssa_unit.SsaUnit.TheVariants.{Load, Store, Operation}
use Rattle.vg_shapes.specs.Depends.{conflict_at, conflict_of}
use Rattle.vg_shapes.specs.Layout.{access_of, noalias_flags, Respects}
use Rattle.vg_shapes.specs.RunUnits.{number_of, Reached, reached, result_of, unit_run}
use Rattle.vg_shapes.specs.Sound.{IsEarlier, TakesEarlier}
use Rattle.vg_shapes.specs.Units.{unit_at}
use Rattle.vg_shapes.proofs.Apart.{access-listed, no-conflict-apart}
use Rattle.vg_ssa.proofs.Meaning.{bound}

pub some-same : {A : Type 0} (x y : A) → Some x ≡ Some y → x ≡ y
some-same x y e = cc

-- ---- loads beside stores

nat-apart : (a n b k : ℕ) → Apart (pos a) n (pos b) k → (a + n ≤ b) ⊎ (b + k ≤ a)
nat-apart a n b k (inl h) = inl (omega (arith, ints))
nat-apart a n b k (inr h) = inr (omega (arith, ints))

loaded-beside : (m : List ℕ) (a : ℤ) (n : ℕ) (b : ℤ) (ys bs after : List ℕ) → Apart a n b (length ys) → loaded m a n ≡ Some bs → stored m b ys ≡ Some after → loaded after a n ≡ Some bs
loaded-beside m (negsuc a) n b ys bs after apart e f = absurd (cc)
loaded-beside m (pos a) n (negsuc b) ys bs after apart e f = absurd (cc)
loaded-beside m (pos a) n (pos b) ys bs after apart e f = elim (cases_Bool (nat_le (b + length ys) (length m))) [
  | inr c ↦ absurd (let none : None ≡ Some after = sym (stored-outside m b ys (leb-false _ _ c)) ∙ f in cc)
  | inl c ↦
      let g = leb-true (b + length ys) (length m) c in
      let same : replaced b ys m ≡ after = some-same (replaced b ys m) after (sym (stored-inside m b ys g) ∙ f) in
      elim (cases_Bool (nat_le (a + n) (length m))) [
        | inr d ↦ absurd (let none : None ≡ Some bs = sym (loaded-outside m a n (leb-false _ _ d)) ∙ e in cc)
        | inl d ↦
            let h = leb-true (a + n) (length m) d in
            let long = length-replaced b ys m g in
            subst (λ l. loaded l (pos a) n ≡ Some bs) same
            (loaded-inside (replaced b ys m) a n (omega arith) ∙ ap Some (range-replaced_beside a n b ys m g h (nat-apart a n b (length ys) apart)) ∙ sym (loaded-inside m a n h) ∙ e)
      ]
]

-- ---- what is known

-- a load from this memory reads a number
pub record Reads (places memory : List ℕ) (a : Address) (w : Width) (n : ℕ) : Type 0 where
  pub read : List ℕ
  pub loaded_is : loaded memory (place_of places a) (size_of w) ≡ Some read
  pub number_is : number read ≡ n

abbrev pub IsExtended : (ssa : Ssa) (e l : ℕ) → ExtensionAt ssa e l → List ℕ → ℕ → Type 0
IsExtended ssa e l h numbers n = (l < e) × (n ≡ resize_result h.op (bits_of h.width) (bits_of h.from) (slice_index numbers l))

pub record Known (ssa : Ssa) (places : List ℕ) (v : ℕ) (memory numbers : List ℕ) : Type 0 where
  pub long : length numbers ≡ v
  pub loads :
      (l : ℕ) → l < v → (h : LoadAt ssa l) → ((s : ℕ) → l < s → s < v → conflict_at ssa l s ≡ false) →
      Reads places memory h.address h.width (slice_index numbers l)
  pub extensions : (e l : ℕ) → e < v → (h : ExtensionAt ssa e l) → IsExtended ssa e l h numbers (slice_index numbers e)

known-more : (ssa : Ssa) (places : List ℕ) (v : ℕ) (memory numbers m : List ℕ) (n : ℕ) → Known ssa places v memory numbers
    → ((l : ℕ) → l < v → (h : LoadAt ssa l) → conflict_at ssa l v ≡ false → Reads places memory h.address h.width (slice_index numbers l) → Reads places m h.address h.width (slice_index numbers l))
    → ((h : LoadAt ssa v) → Reads places m h.address h.width n)
    → ((l : ℕ) (h : ExtensionAt ssa v l) → IsExtended ssa v l h numbers n)
    → Known ssa places (v + 1) m (numbers ++ n ∷ [])
known-more ssa places v memory numbers m n known kept one extended = record {
  long = (let a = length_push numbers n in let b = known.long in omega arith);
  loads = λ l low h apart. loads l low (cases_lt l v) h apart;
  extensions = λ e l low h. extensions e l low (cases_lt e v) h;
}
  where
    all : List ℕ
    all = numbers ++ n ∷ []

    old : (x : ℕ) → x < v → slice_index numbers x ≡ slice_index all x
    old x l = sym (get_or_append_left numbers (n ∷ []) 0 x (let b = known.long in omega arith))

    new : n ≡ slice_index all v
    new = sym (get_or_push numbers n 0 v known.long)

    loads : (l : ℕ) → l < v + 1 → (l < v) ⊎ (v ≤ l) → (h : LoadAt ssa l) → ((s : ℕ) → l < s → s < v + 1 → conflict_at ssa l s ≡ false) → Reads places m h.address h.width (slice_index all l)
    loads l low (inl less) h apart =
        subst (Reads places m h.address h.width) (old l less)
        (kept l less h (apart v less (omega arith)) (known.loads l less h (λ s a b. apart s a (omega arith))))
    loads l low (inr more) h apart =
        let same : v ≡ l = omega arith in
        let P : ℕ → Type 0 = λ x. (g : LoadAt ssa x) → Reads places m g.address g.width (slice_index all x) in
        let at : (g : LoadAt ssa v) → Reads places m g.address g.width (slice_index all v) = λ g. subst (Reads places m g.address g.width) new (one g) in
        subst P same at h

    made : (e l : ℕ) (h : ExtensionAt ssa e l) (k : ℕ) → e < v + 1 → k ≡ slice_index all e → IsExtended ssa e l h numbers k → IsExtended ssa e l h all (slice_index all e)
    made e l h k low is x = (x.0, sym is ∙ x.1 ∙ ap (resize_result h.op (bits_of h.width) (bits_of h.from)) (let less = x.0 in old l (omega arith)))

    extensions : (e l : ℕ) → e < v + 1 → (e < v) ⊎ (v ≤ e) → (h : ExtensionAt ssa e l) → IsExtended ssa e l h all (slice_index all e)
    extensions e l low (inl less) h = made e l h (slice_index numbers e) low (old e less) (known.extensions e l less h)
    extensions e l low (inr more) h =
        let same : v ≡ e = omega arith in
        let P : ℕ → Type 0 = λ x. (g : ExtensionAt ssa x l) → IsExtended ssa x l g all (slice_index all x) in
        let at : (g : ExtensionAt ssa v l) → IsExtended ssa v l g all (slice_index all v) = λ g. made v l g n (omega arith) new (extended l g) in
        subst P same at h

-- ---- one unit more

abbrev ReadsBy : List ℕ → List ℕ → SsaUnit → ℕ → Type 0
ReadsBy places m (Load a w) n = Reads places m a w n
ReadsBy places m (Store a w x) n = Unit {0}
ReadsBy places m (Operation op w k xs) n = Unit {0}

abbrev Makes : List ℕ → SsaUnit → ℕ → Type 0
Makes numbers (Load a w) n = Unit {0}
Makes numbers (Store a w x) n = Unit {0}
Makes numbers (Operation op w k xs) n = n ≡ result_of (slice_index numbers) op (bits_of w) k xs

conflict-some : (ssa : Ssa) (l s : ℕ) (u x : SsaUnit) → unit_at ssa l ≡ Some u → unit_at ssa s ≡ Some x → conflict_at ssa l s ≡ conflict_of (noalias_flags ssa) (access_of u) (access_of x)
conflict-some ssa l s u x e f = λ i. conflict_of (noalias_flags ssa) (e i >>= access_of) (f i >>= access_of)

store-keeps : (ssa : Ssa) (places : List ℕ) (l v : ℕ) (b : Address) (m : Width) (x : _) (memory new after : List ℕ) (n : ℕ) → Respects ssa places → (h : LoadAt ssa l) → unit_at ssa v ≡ Some (Store b m x) → length new ≡ size_of m
    → conflict_at ssa l v ≡ false → stored memory (place_of places b) new ≡ Some after → Reads places memory h.address h.width n → Reads places after h.address h.width n
store-keeps ssa places l v b m x memory new after n respects h e long apart stores reads =
    let load : Access = record { address = h.address; size = size_of h.width; writes = false } in
    let store : Access = record { address = b; size = size_of m; writes = true } in
    let far = no-conflict-apart ssa places load store respects (access-listed ssa l load (ap (λ o. o >>= access_of) h.unit)) (access-listed ssa v store (ap (λ o. o >>= access_of) e))
    (sym (conflict-some ssa l v (Load h.address h.width) (Store b m x) h.unit e) ∙ apart) refl in
    let P : ℕ → Type 0 = λ k. Apart (place_of places h.address) (size_of h.width) (place_of places b) k in
    record {
      read = reads.read;
      loaded_is = loaded-beside memory (place_of places h.address) (size_of h.width) (place_of places b) new reads.read after (subst P (sym long) far) reads.loaded_is stores;
      number_is = reads.number_is;
    }

pub known-step : (ssa : Ssa) (places : List ℕ) (v : ℕ) (u : SsaUnit) (r t : Reached) → Respects ssa places → unit_at ssa v ≡ Some u → TakesEarlier v u → Known ssa places v r.memory r.numbers → unit_run places u r ≡ Some t
    → Known ssa places (v + 1) t.memory t.numbers
known-step ssa places v (Load a w) r t respects e l known run =
    let b = bound (loaded r.memory (place_of places a) (size_of w)) (λ read. Some (reached r.memory r.numbers (number read))) t run in
    let same : reached r.memory r.numbers (number b.0) ≡ t = some-same (reached r.memory r.numbers (number b.0)) t b.2 in
    let is : Reads places r.memory a w (number b.0) = record { read = b.0; loaded_is = b.1; number_is = refl } in
    let P : Reached → Type 0 = λ q. Known ssa places (v + 1) q.memory q.numbers in
    subst P same
    (known-more ssa places v r.memory r.numbers r.memory (number b.0) known (λ x low h apart reads. reads)
    (λ h. subst (λ x. ReadsBy places r.memory x (number b.0)) (some-same (Load a w) (Load h.address h.width) (sym e ∙ h.unit)) is)
    (λ x h. absurd (let no : Some (Load a w) ≡ Some (Operation (Resize h.op h.from) h.width h.amount h.operands) = sym e ∙ h.unit in cc)))
known-step ssa places v (Store a w x) r t respects e l known run =
    let new = bytes (size_of w) (number_of (slice_index r.numbers) x) in
    let b = bound (stored r.memory (place_of places a) new) (λ memory. Some (reached memory r.numbers 0)) t run in
    let same : reached b.0 r.numbers 0 ≡ t = some-same (reached b.0 r.numbers 0) t b.2 in
    let P : Reached → Type 0 = λ q. Known ssa places (v + 1) q.memory q.numbers in
    subst P same
    (known-more ssa places v r.memory r.numbers b.0 0 known
    (λ y low h apart reads. store-keeps ssa places y v a w x r.memory new b.0 (slice_index r.numbers y) respects h e (length-bytes (size_of w) (number_of (slice_index r.numbers) x)) apart b.1 reads)
    (λ h. absurd (let no : Some (Store a w x) ≡ Some (Load h.address h.width) = sym e ∙ h.unit in cc))
    (λ y h. absurd (let no : Some (Store a w x) ≡ Some (Operation (Resize h.op h.from) h.width h.amount h.operands) = sym e ∙ h.unit in cc)))
known-step ssa places v (Operation op w k xs) r t respects e l known run =
    let n = result_of (slice_index r.numbers) op (bits_of w) k xs in
    let same : reached r.memory r.numbers n ≡ t = some-same (reached r.memory r.numbers n) t run in
    let P : Reached → Type 0 = λ q. Known ssa places (v + 1) q.memory q.numbers in
    subst P same
    (known-more ssa places v r.memory r.numbers r.memory n known (λ x low h apart reads. reads)
    (λ h. absurd (let no : Some (Operation op w k xs) ≡ Some (Load h.address h.width) = sym e ∙ h.unit in cc))
    (λ y h.
    let is : Operation op w k xs ≡ Operation (Resize h.op h.from) h.width h.amount h.operands = some-same _ _ (sym e ∙ h.unit) in
    let takes : TakesEarlier v (Operation (Resize h.op h.from) h.width h.amount h.operands) = subst (TakesEarlier v) is l in
    let makes : Makes r.numbers (Operation (Resize h.op h.from) h.width h.amount h.operands) n = subst (λ x. Makes r.numbers x n) is refl in
    (subst (IsEarlier v) h.first takes.0, makes ∙ ap (λ x. resize_result h.op (bits_of h.width) (bits_of h.from) (number_of (slice_index r.numbers) x)) h.first)))
