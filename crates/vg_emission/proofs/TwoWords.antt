-- Two words that are copied meet all that the law on emitted programs wants.
use Rattle.std.proofs.Common.{◌≡◌, ℕ, zero, suc, ◌+◌, ◌*◌, ◌^◌, ◌<◌, ◌≤◌, ℤ, pos, negsuc, lit<, lit≤, true, List, [], ◌∷◌, ◌++◌, length, take, Option, Some, refl, sym, ap, subst, ◌∙◌, inl, inr, arith}
use Rattle.std.specs.Prelude.{nat_le, nat_lt, slice_get, slice_index, ◌==◌, ◌&&◌, ◌||◌}
use Rattle.std.specs.List.{IsDistinct, list_any}
use Rattle.std.specs.Str.{bytes_eq}
use Rattle.std.proofs.Math.Nat.{mod-eq_of_lt}
use Rattle.std.proofs.lemmas.Bool.{cases_Bool, eqb-true, leb-true, leb-false, ltb-true, or_cases, true≢false}
use Rattle.std.proofs.lemmas.List.Sorted.{IsPermutation-refl}
use Rattle.vg_base.specs.declared.address.Address.{Address}
use Rattle.vg_base.specs.declared.width.Width.TheVariants.{W32}
use Rattle.vg_base.specs.Address.{place_of}
use Rattle.vg_base.specs.Bits.{number, bits_of_bytes, bytes}
use Rattle.vg_base.specs.Memory.{loaded, stored}
use Rattle.vg_bits.specs.BitList.{IsBytes}
use Rattle.vg_bits.specs.Range.{range}
use Rattle.vg_bits.proofs.BitLists.{num_below}
use Rattle.vg_bits.proofs.ByteLists.{IsBits-bits_of_bytes, length-bits_of_bytes, num-bits_of_bytes}
use Rattle.vg_bits.proofs.Ranges.{length-range}
use Rattle.vg_program.specs.Meaning.{Instructions}
use Rattle.vg_shapes.specs.declared.pack.Pack.TheVariants.{Call}
use Rattle.vg_shapes.specs.declared.ssa_unit.SsaUnit.TheVariants.{Load, Store}
use Rattle.vg_shapes.specs.declared.wanted.Wanted.{Wanted}
use Rattle.vg_shapes.specs.declared.wanted.Wanted.TheVariants.{Value}
use Rattle.vg_shapes.specs.Depends.{depends_on}
use Rattle.vg_shapes.specs.Nodes.{ArePacks, IsOrder, node_depends, packed}
use Rattle.vg_shapes.specs.Order.{count_of, one_if, Stands as In}
use Rattle.vg_shapes.specs.RunUnits.{number_of, Reached, reached, run_units, start_of, unit_run}
use Rattle.vg_shapes.specs.Sound.{environment, IsSound, term_at, TermsMean}
use Rattle.vg_shapes.specs.Units.{is_unit}
use Rattle.vg_kernel_plans.proofs.SameTests.{both-true}
use Rattle.vg_terms.specs.Term.{Tree, constant, leaf}
use Rattle.vg_terms.specs.Value.{value}
use Rattle.vg_order_laws.proofs.Accesses.{loaded-inside, loaded-outside}
use Rattle.vg_order_laws.proofs.Runs.{went_well}
use Rattle.vg_emission.specs.Emission.{Job, operand_at, recipe_at}
use Rattle.vg_emission.specs.Planned.{IsPlanned, TakesGiven}
use Rattle.vg_emission.specs.Program.{job_of}
use Rattle.vg_emission.specs.Promises.{Fills, Holds, KeepPromises, RecipeFills}
use Rattle.vg_emission.specs.TwoWords.{loads_first, one_recipe, two_packs, two_words, TwoWordsMeanUnits, word}
use Rattle.vg_emission.proofs.Meanings.{emitted-means-units}
use Rattle.vg_emission.proofs.Memories.{IsBytes-range}

-- ---- the terms of the words mean what the loads read

word-low : (m : List ℕ) (z : ℤ) (read : List ℕ) → IsBytes m → loaded m z 4 ≡ Some read → number read < 2 ^ 32
word-low m (negsuc a) read are e = cc
word-low m (pos a) read are e = elim (cases_Bool (nat_le (a + 4) (length m))) [
  | inr f ↦ absurd (let none = loaded-outside m a 4 (leb-false _ _ f) in cc)
  | inl t ↦
      let inside = leb-true _ _ t in
      let same : range a 4 m ≡ read = (let now : Some (range a 4 m) ≡ Some read = sym (loaded-inside m a 4 inside) ∙ e in cc) in
      let own = range a 4 m in
      let bytes_are = IsBytes-range a 4 m are in
      let below = num_below (bits_of_bytes own) (IsBits-bits_of_bytes own) in
      let long : length (bits_of_bytes own) ≡ 32 = length-bits_of_bytes own ∙ ap (λ n. 8 * n) (length-range a 4 m inside) in
      let low : number own < 2 ^ length (bits_of_bytes own) = subst (λ n. n < 2 ^ length (bits_of_bytes own)) (num-bits_of_bytes own bytes_are) below in
      subst (λ l. number l < 2 ^ 32) same (subst (λ n. number own < 2 ^ n) long low)
]

-- what a run has reached means the terms of the values so far
abbrev Means : List ℕ → Type 0
Means ns = (v : ℕ) (t : Tree) → v < length ns → term_at two_words v ≡ Some t → value (environment two_words ns) t ≡ slice_index ns v

none-means : Means []
none-means v t low e = absurd (omega arith)

one-means : (a : ℕ) → a < 2 ^ 32 → Means (a ∷ [])
one-means a h zero t low e = let same : leaf 32 (Rattle.vg_shapes.specs.Sound.load_key (word 1 0) 0) ≡ t = cc in subst (λ t. value (environment two_words (a ∷ [])) t ≡ a) same (mod-eq_of_lt h)
one-means a h (suc v) t low e = absurd (omega arith)

two-mean : (a b : ℕ) → a < 2 ^ 32 → b < 2 ^ 32 → Means (a ∷ b ∷ [])
two-mean a b h g zero t low e = let same : leaf 32 (Rattle.vg_shapes.specs.Sound.load_key (word 1 0) 0) ≡ t = cc in subst (λ t. value (environment two_words (a ∷ b ∷ [])) t ≡ a) same (mod-eq_of_lt h)
two-mean a b h g (suc zero) t low e = let same : leaf 32 (Rattle.vg_shapes.specs.Sound.load_key (word 1 4) 1) ≡ t = cc in subst (λ t. value (environment two_words (a ∷ b ∷ [])) t ≡ b) same (mod-eq_of_lt g)
two-mean a b h g (suc (suc v)) t low e = absurd (omega arith)

three-mean : (a b : ℕ) → a < 2 ^ 32 → b < 2 ^ 32 → Means (a ∷ b ∷ 0 ∷ [])
three-mean a b h g zero t low e = let same : leaf 32 (Rattle.vg_shapes.specs.Sound.load_key (word 1 0) 0) ≡ t = cc in subst (λ t. value (environment two_words (a ∷ b ∷ 0 ∷ [])) t ≡ a) same (mod-eq_of_lt h)
three-mean a b h g (suc zero) t low e = let same : leaf 32 (Rattle.vg_shapes.specs.Sound.load_key (word 1 4) 1) ≡ t = cc in subst (λ t. value (environment two_words (a ∷ b ∷ 0 ∷ [])) t ≡ b) same (mod-eq_of_lt g)
three-mean a b h g (suc (suc zero)) t low e = let same : constant 8 0 ≡ t = cc in subst (λ t. value (environment two_words (a ∷ b ∷ 0 ∷ [])) t ≡ 0) same refl
three-mean a b h g (suc (suc (suc v))) t low e = absurd (omega arith)

four-mean : (a b : ℕ) → a < 2 ^ 32 → b < 2 ^ 32 → Means (a ∷ b ∷ 0 ∷ 0 ∷ [])
four-mean a b h g zero t low e = let same : leaf 32 (Rattle.vg_shapes.specs.Sound.load_key (word 1 0) 0) ≡ t = cc in subst (λ t. value (environment two_words (a ∷ b ∷ 0 ∷ 0 ∷ [])) t ≡ a) same (mod-eq_of_lt h)
four-mean a b h g (suc zero) t low e = let same : leaf 32 (Rattle.vg_shapes.specs.Sound.load_key (word 1 4) 1) ≡ t = cc in subst (λ t. value (environment two_words (a ∷ b ∷ 0 ∷ 0 ∷ [])) t ≡ b) same (mod-eq_of_lt g)
four-mean a b h g (suc (suc zero)) t low e = let same : constant 8 0 ≡ t = cc in subst (λ t. value (environment two_words (a ∷ b ∷ 0 ∷ 0 ∷ [])) t ≡ 0) same refl
four-mean a b h g (suc (suc (suc zero))) t low e = let same : constant 8 0 ≡ t = cc in subst (λ t. value (environment two_words (a ∷ b ∷ 0 ∷ 0 ∷ [])) t ≡ 0) same refl
four-mean a b h g (suc (suc (suc (suc v)))) t low e = absurd (omega arith)

-- ---- runs of some of the units

load-step : (places : List ℕ) (a : Address) (s t : Reached) → IsBytes s.memory → unit_run places (Load a W32) s ≡ Some t → (n : ℕ) × (t ≡ reached s.memory s.numbers n) × (n < 2 ^ 32)
load-step places a s t are e =
    let went = went_well (loaded s.memory (place_of places a) 4) (λ read. Some (reached s.memory s.numbers (number read))) e in
    (number went.0, (let same : Some (reached s.memory s.numbers (number went.0)) ≡ Some t = went.2 in cc), word-low s.memory (place_of places a) went.0 are went.1)

store-step : (places : List ℕ) (a : Address) (x : Wanted) (s t : Reached) → unit_run places (Store a W32 x) s ≡ Some t → t.numbers ≡ s.numbers ++ 0 ∷ []
store-step places a x s t e =
    let went = went_well (stored s.memory (place_of places a) (bytes 4 (number_of (slice_index s.numbers) x))) (λ memory. Some (reached memory s.numbers 0)) e in
    let same : Some (reached went.0 s.numbers 0) ≡ Some t = went.2 in
    let is : reached went.0 s.numbers 0 ≡ t = cc in
    ap (λ (q : Reached). q.numbers) (sym is)

ended : (places : List ℕ) (k : ℕ) (s r : Reached) → run_units places (take k []) s ≡ Some r → r.numbers ≡ s.numbers
unfolding run_units
ended places zero s r e = (let same : r ≡ s = cc in ap (λ (q : Reached). q.numbers) same)
ended places (suc k) s r e = (let same : r ≡ s = cc in ap (λ (q : Reached). q.numbers) same)

stopped : (places : List ℕ) (s r : Reached) → run_units places [] s ≡ Some r → r.numbers ≡ s.numbers
unfolding run_units
stopped places s r e = (let same : r ≡ s = cc in ap (λ (q : Reached). q.numbers) same)

from-third : (places : List ℕ) (k : ℕ) (s r : Reached) (a b : ℕ) → a < 2 ^ 32 → b < 2 ^ 32 → s.numbers ≡ a ∷ b ∷ 0 ∷ [] → run_units places (take k (Store (word 0 4) W32 (Value 1) ∷ [])) s ≡ Some r → Means r.numbers
unfolding run_units
from-third places zero s r a b h g are e = subst Means (sym (stopped places s r e ∙ are)) (three-mean a b h g)
from-third places (suc k) s r a b h g are e =
    let went = went_well (unit_run places (Store (word 0 4) W32 (Value 1)) s) (run_units places (take k [])) e in
    let now = ended places k went.0 r went.2 ∙ store-step places (word 0 4) (Value 1) s went.0 went.1 ∙ ap (λ l. l ++ 0 ∷ []) are in
    subst Means (sym now) (four-mean a b h g)

from-second : (places : List ℕ) (k : ℕ) (s r : Reached) (a b : ℕ) → a < 2 ^ 32 → b < 2 ^ 32 → s.numbers ≡ a ∷ b ∷ [] → run_units places (take k (Store (word 0 0) W32 (Value 0) ∷ Store (word 0 4) W32 (Value 1) ∷ [])) s ≡ Some r → Means r.numbers
unfolding run_units
from-second places zero s r a b h g are e = subst Means (sym (stopped places s r e ∙ are)) (two-mean a b h g)
from-second places (suc k) s r a b h g are e =
    let went = went_well (unit_run places (Store (word 0 0) W32 (Value 0)) s) (run_units places (take k (Store (word 0 4) W32 (Value 1) ∷ []))) e in
    from-third places k went.0 r a b h g (store-step places (word 0 0) (Value 0) s went.0 went.1 ∙ ap (λ l. l ++ 0 ∷ []) are) went.2

from-first : (places : List ℕ) (k : ℕ) (s r : Reached) (a : ℕ) → IsBytes s.memory → a < 2 ^ 32 → s.numbers ≡ a ∷ []
    → run_units places (take k (Load (word 1 4) W32 ∷ Store (word 0 0) W32 (Value 0) ∷ Store (word 0 4) W32 (Value 1) ∷ [])) s ≡ Some r → Means r.numbers
unfolding run_units
from-first places zero s r a bytes_are h are e = subst Means (sym (stopped places s r e ∙ are)) (one-means a h)
from-first places (suc k) s r a bytes_are h are e =
    let went = went_well (unit_run places (Load (word 1 4) W32) s) (run_units places (take k (Store (word 0 0) W32 (Value 0) ∷ Store (word 0 4) W32 (Value 1) ∷ []))) e in
    let x = load-step places (word 1 4) s went.0 bytes_are went.1 in
    from-second places k went.0 r a x.0 h x.2 (ap (λ (q : Reached). q.numbers) x.1 ∙ ap (λ l. l ++ x.0 ∷ []) are) went.2

words-mean : (places memory : List ℕ) (k : ℕ) (r : Reached) → IsBytes memory → run_units places (take k two_words.units) (start_of memory []) ≡ Some r → Means r.numbers
unfolding run_units
words-mean places memory zero r are e = subst Means (sym (stopped places (start_of memory []) r e)) none-means
words-mean places memory (suc k) r are e =
    let went = went_well (unit_run places (Load (word 1 0) W32) (start_of memory [])) (run_units places (take k (Load (word 1 4) W32 ∷ Store (word 0 0) W32 (Value 0) ∷ Store (word 0 4) W32 (Value 1) ∷ []))) e in
    let x = load-step places (word 1 0) (start_of memory []) went.0 are went.1 in
    from-first places k went.0 r x.0 (subst (λ (q : Reached). IsBytes q.memory) (sym x.1) are) x.2 (ap (λ (q : Reached). q.numbers) x.1) went.2

terms-mean : TermsMean two_words
terms-mean places memory args k r are none run = words-mean places memory k r are (subst (λ l. run_units places (take k two_words.units) (start_of memory l) ≡ Some r) none run)

-- ---- the kernel and its packs

names-differ : IsDistinct bytes_eq (Rattle.std.specs.Prelude.map (λ p. p.name) two_words.params)
unfolding IsDistinct
names-differ = ((refl, tt), (tt, tt))

two_words-sound : IsSound two_words
two_words-sound = record {
  name = refl;
  names = (refl, (refl, tt));
  distinct = names-differ;
  params = lit≤ tt;
  stores = lit≤ tt;
  uses = lit≤ tt;
  units = (record { pointer = lit< tt; offset = lit< tt }, (record { pointer = lit< tt; offset = lit< tt }, ((record { pointer = lit< tt; offset = lit< tt }, refl), ((record { pointer = lit< tt; offset = lit< tt }, refl), tt))));
  earlier = (tt, (tt, (lit< tt, (lit< tt, tt))));
  argument_terms = refl;
  unit_terms = (refl, (refl, (refl, (refl, refl))));
  meaning = terms-mean;
  cuts = inl refl;
}

no-more : (v m : ℕ) → m < v → one_if (v == m) ≡ 0
no-more v m low = elim (cases_Bool (v == m)) [
  | inl t ↦ absurd (let same = eqb-true v m t in omega arith)
  | inr f ↦ ap one_if f
]

once : (v : ℕ) → count_of v (packed two_packs) ≤ one_if (is_unit two_words v)
once zero = lit≤ tt
once (suc zero) = lit≤ tt
once (suc (suc zero)) = lit≤ tt
once (suc (suc (suc zero))) = lit≤ tt
once (suc (suc (suc (suc v)))) =
    let n = suc (suc (suc (suc v))) in
    let a = no-more n 0 (omega arith) in
    let b = no-more n 1 (omega arith) in
    let c = no-more n 2 (omega arith) in
    let d = no-more n 3 (omega arith) in
    omega arith

packs-are : ArePacks two_words two_packs
packs-are = record { once = once; calls = (tt, (tt, tt)) }

given : (o : ℕ) → o < length (job_of [] [] two_words two_packs one_recipe).operands → TakesGiven (job_of [] [] two_words two_packs one_recipe) (operand_at (job_of [] [] two_words two_packs one_recipe) o) (recipe_at (job_of [] [] two_words two_packs one_recipe) o)
given zero low = (0, lit< tt, lit< tt)
given (suc o) low = absurd (omega arith)

planned : IsPlanned (job_of [] [] two_words two_packs one_recipe)
planned = record {
  sound = two_words-sound;
  packs = packs-are;
  kinds = ((W32, word 1 0, (refl, (refl, tt)), lit≤ tt, refl), ((W32, word 0 0, Value 0 ∷ Value 1 ∷ [], 0, (refl, (refl, refl)), (refl, (refl, tt)), lit≤ tt, refl), tt));
  recipes = given;
}

-- ---- the order

depends-low : (v x : ℕ) → depends_on two_words v x ≡ true → x < v
depends-low v x h = ltb-true x v (both-true (nat_lt x v) _ (both-true (is_unit two_words x) _ h).1).0

loads-need : (x : ℕ) → node_depends two_words [] two_packs (Rattle.vg_shapes.specs.declared.order.Node.TheVariants.PackAt 0) x ≡ true → In x []
loads-need x h = elim (or_cases (depends_on two_words 0 x) _ h) [
  | inl a ↦ absurd (let low = depends-low 0 x a in omega arith)
  | inr b ↦ elim (or_cases (depends_on two_words 1 x) _ b) [
    | inl a ↦ first x (depends-low 1 x a) a
    | inr c ↦ absurd (true≢false (sym c))
  ]
]
  where
    first : (x : ℕ) → x < 1 → depends_on two_words 1 x ≡ true → In x []
    first zero low a = absurd (true≢false (sym a))
    first (suc x) low a = absurd (omega arith)

stores-need : (x : ℕ) → node_depends two_words [] two_packs (Rattle.vg_shapes.specs.declared.order.Node.TheVariants.PackAt 1) x ≡ true → In x (0 ∷ 1 ∷ [])
stores-need x h = elim (or_cases (depends_on two_words 2 x) _ h) [
  | inl a ↦ second x (depends-low 2 x a)
  | inr b ↦ elim (or_cases (depends_on two_words 3 x) _ b) [
    | inl a ↦ third x (depends-low 3 x a) a
    | inr c ↦ absurd (true≢false (sym c))
  ]
]
  where
    second : (x : ℕ) → x < 2 → In x (0 ∷ 1 ∷ [])
    second zero low = lit< tt
    second (suc zero) low = lit< tt
    second (suc (suc x)) low = absurd (omega arith)

    third : (x : ℕ) → x < 3 → depends_on two_words 3 x ≡ true → In x (0 ∷ 1 ∷ [])
    third zero low a = lit< tt
    third (suc zero) low a = lit< tt
    third (suc (suc zero)) low a = absurd (true≢false (sym a))
    third (suc (suc (suc x))) low a = absurd (omega arith)

legal : IsOrder two_words [] two_packs loads_first
legal = record { once = IsPermutation-refl loads_first; follows = (loads-need, (stores-need, tt)) }

-- ---- promises

keeps : (called : Instructions) (numbers : ℕ → ℕ) → KeepPromises (job_of [] [] two_words two_packs one_recipe) called numbers
keeps called numbers = record { recipes = filled; calls = none }
  where
    j : Job
    j = job_of [] [] two_words two_packs one_recipe

    filled : (o : ℕ) → o < length (job_of [] [] two_words two_packs one_recipe).operands → RecipeFills (job_of [] [] two_words two_packs one_recipe) called numbers (operand_at (job_of [] [] two_words two_packs one_recipe) o) (recipe_at (job_of [] [] two_words two_packs one_recipe) o)
    filled zero low = λ reg holds. record { long = holds.long; bits = holds.bits; slots = (holds.lanes.0, (holds.lanes.1.0, tt)) }
    filled (suc o) low = absurd (omega arith)

    none : (k e : ℕ) (lanes : List (Option ℕ)) → slice_get two_packs k ≡ Some (Call e lanes) → Rattle.vg_emission.specs.Promises.CallHolds (job_of [] [] two_words two_packs one_recipe) called numbers (Rattle.vg_emission.specs.Emission.takes_at (job_of [] [] two_words two_packs one_recipe) k) e lanes
    none zero e lanes h = absurd (cc)
    none (suc zero) e lanes h = absurd (cc)
    none (suc (suc k)) e lanes h = absurd (cc)

pub two-words-mean : TwoWordsMeanUnits
two-words-mean called = emitted-means-units called [] [] two_words two_packs one_recipe loads_first planned legal (λ places memory args last run. keeps called (slice_index last.numbers))
