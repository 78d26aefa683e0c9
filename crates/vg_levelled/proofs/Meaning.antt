-- Loads more change nothing.
use Rattle.std.proofs.Common.{◌≡◌, ◌⊎◌, ℕ, zero, suc, ◌+◌, ◌<◌, ℤ, pos, negsuc, Bool, true, false, List, [], ◌∷◌, ◌++◌, length, map, Option, Some, None, refl, sym, ap, subst, ◌∙◌, inl, inr, arith, Contains}
use Rattle.std.specs.Prelude.{◌&&◌, ◌||◌, not, nat_lt, replicate, slice_index_or}
use Rattle.std.specs.List.{AllByRecursion, cons_option, filter_map, list_all}
use Rattle.std.specs.Option.{is_some}
use Rattle.std.proofs.lemmas.Bool.{and_from, cases_Bool, cond-true, cond-false}
use Rattle.std.proofs.lemmas.List.Elements.{Contains-append_cases, filter_map-append}
use Rattle.std.proofs.lemmas.List.Folds.{list_all-append}
use Rattle.vg_base.specs.declared.address.Address.{Address}
use Rattle.vg_base.specs.declared.width.Width.TheVariants.{W8}
use Rattle.vg_base.specs.Address.{place_of}
use Rattle.vg_base.specs.Bits.{number}
use Rattle.vg_base.specs.Memory.{loaded}
use Rattle.vg_base.specs.Trap.{◌>>=◌}
use Rattle.vg_base.specs.Width.{size_of}
use Rattle.vg_bits.specs.BitList.{IsBytes}
use Rattle.vg_program.specs.declared.line.Line.{Line}
use Rattle.vg_program.specs.declared.program.Program.{Program}
use Rattle.vg_program.specs.Accesses as program
use Rattle.vg_program.specs.Meaning.{begun, Inputs, Instructions, meaning, run, State, with_scalar}
use Rattle.vg_program.proofs.TrapLaws.{traps_outside}
use Rattle.vg_shapes.specs.declared.access.Access.{Access}
use Rattle.vg_shapes.specs.declared.ssa.Ssa.{Ssa}
use Rattle.vg_shapes.specs.declared.ssa_unit.SsaUnit.{SsaUnit}
use Rattle.vg_shapes.specs.declared.ssa_unit.SsaUnit.TheVariants.{Load, Store, Operation}
use Rattle.vg_shapes.specs.declared.wanted.Wanted.TheVariants.{Nothing}
use Rattle.vg_shapes.specs.Layout.{access_of, noalias_flags, Respects}
use Rattle.vg_shapes.specs.Order.{one_if}
use Rattle.vg_shapes.specs.RunUnits.{Reached, reached, run_units, start_of, unit_run}
use Rattle.vg_order_laws.specs.Steps.{is_inside, stays_inside}
use Rattle.vg_order_laws.proofs.Sequences.{bind_same, bind_twice}
use Rattle.vg_order_laws.proofs.Traps.{runs-trap-outside}
use Rattle.vg_emission.specs.Laws.{MeansUnits}
use Rattle.vg_emission.proofs.Placing.{run-append}
use Rattle.vg_events.specs.Events.{kernel_labels, Label, labels_in, unit_labels}
use Rattle.vg_events.specs.Lines.{line_labels}
use Rattle.vg_events.specs.Ranks.{count_label, same_label}
use Rattle.vg_events.proofs.Ranks.{same-labels}
use Rattle.vg_events.proofs.Traps.{trap-together}
use Rattle.vg_known.specs.Difference.{uneven_label}
use Rattle.vg_rewrite.specs.Rewritten.{over}
use Rattle.vg_levelled.specs.Laws.{LevelledMeans}
use Rattle.vg_levelled.specs.Levelled.{Added, added, added_units, byte_load, copies_of, counts, fits, is_common, is_missing, is_touched, levelled, met_pointers, missing, Sides, with_added}

and-parts : (a b : Bool) → (a && b) ≡ true → (a ≡ true) × (b ≡ true)
and-parts true b h = (refl, h)
and-parts false b h = absurd (cc)

all-both : {A : Type 0} (P : A → Bool) (xs ys : List A) → list_all P xs ≡ true → list_all P ys ≡ true
    → list_all P (xs ++ ys) ≡ true
all-both P xs ys a b = list_all-append P xs ys ∙ and_from (list_all P xs) (list_all P ys) a b

-- ---- what runs on

-- where it keeps the memory, and does not trap where what stands before it does not
followed : {S : Type 0} (memory : S → List ℕ) (o : Option S) (f : S → Option S)
    → (is_some o ≡ true → is_some (o >>= f) ≡ true)
    → ((s : S) → is_some (f s) ≡ true → (f s >>= λ t. Some (memory t)) ≡ Some (memory s))
    → ((o >>= f) >>= λ t. Some (memory t)) ≡ (o >>= λ t. Some (memory t))
followed memory None f goes keeps = refl
followed memory (Some s) f goes keeps = keeps s (goes refl)

-- a load and what keeps the memory behind it
load-keeps : {S : Type 0} (memory : S → List ℕ) (o : Option (List ℕ)) (f : List ℕ → S) (g : S → Option S) (old : List ℕ)
    → ((read : List ℕ) → is_some (g (f read)) ≡ true → (g (f read) >>= λ t. Some (memory t)) ≡ Some old)
    → is_some ((o >>= λ read. Some (f read)) >>= g) ≡ true
    → (((o >>= λ read. Some (f read)) >>= g) >>= λ t. Some (memory t)) ≡ Some old
load-keeps memory None f g old keeps goes = absurd (cc)
load-keeps memory (Some read) f g old keeps goes = keeps read goes

-- ---- units

abbrev IsLoad : SsaUnit → Type 0
IsLoad (Load a w) = Unit {0}
IsLoad (Store a w x) = ⊥
IsLoad (Operation op w k xs) = ⊥

loads-both : (us vs : List SsaUnit) → AllByRecursion IsLoad us → AllByRecursion IsLoad vs
    → AllByRecursion IsLoad (us ++ vs)
loads-both [] vs a b = b
loads-both (u ∷ us) vs a b = (a.0, loads-both us vs a.1 b)

loads-copied : (n : ℕ) (u : SsaUnit) → IsLoad u → AllByRecursion IsLoad (replicate n u)
loads-copied zero u h = tt
loads-copied (suc n) u h = (h, loads-copied n u h)

added-loads : (met : List Bool) (ks ps : List Label) (us : List SsaUnit)
    → AllByRecursion IsLoad (added_units met ks ps us)
added-loads met ks ps [] = tt
added-loads met ks ps (Load a w ∷ us) =
    let copies = replicate (copies_of met (counts ks) (counts ps) (Load a w)) (Load a w) in
    loads-both copies (added_units met (ks ++ unit_labels copies) ps us)
    (loads-copied (copies_of met (counts ks) (counts ps) (Load a w)) (Load a w) tt)
    (added-loads met (ks ++ unit_labels copies) ps us)
added-loads met ks ps (Store a w x ∷ us) = added-loads met (ks ++ []) ps us
added-loads met ks ps (Operation op w k xs ∷ us) = added-loads met (ks ++ []) ps us

all-copies : (P : SsaUnit → Bool) (n : ℕ) (u : SsaUnit) → P u ≡ true → list_all P (replicate n u) ≡ true
all-copies P zero u h = refl
all-copies P (suc n) u h = and_from (P u) (list_all P (replicate n u)) h (all-copies P n u h)

-- what holds of all units holds of what is added to them
added-all : (P : SsaUnit → Bool) (met : List Bool) (ks ps : List Label) (us : List SsaUnit) → list_all P us ≡ true
    → list_all P (added_units met ks ps us) ≡ true
added-all P met ks ps [] h = refl
added-all P met ks ps (u ∷ us) h =
    let parts = and-parts (P u) (list_all P us) h in
    let copies = replicate (copies_of met (counts ks) (counts ps) u) u in
    all-both P copies (added_units met (ks ++ unit_labels copies) ps us)
    (all-copies P (copies_of met (counts ks) (counts ps) u) u parts.0)
    (added-all P met (ks ++ unit_labels copies) ps us parts.1)

units-append : (places : List ℕ) (us vs : List SsaUnit) (r : Reached)
    → run_units places (us ++ vs) r ≡ (run_units places us r >>= run_units places vs)
unfolding run_units
units-append places [] vs r = refl
units-append places (u ∷ us) vs r =
    bind_same (unit_run places u r) _ _ (units-append places us vs)
    ∙ sym (bind_twice (unit_run places u r) (run_units places us) (run_units places vs))

loads-keep : (places : List ℕ) (us : List SsaUnit) (r : Reached) → AllByRecursion IsLoad us
    → is_some (run_units places us r) ≡ true → (run_units places us r >>= λ t. Some t.memory) ≡ Some r.memory
unfolding run_units
loads-keep places [] r are goes = refl
loads-keep places (Load a w ∷ us) r are goes =
    load-keeps (λ (t : Reached). t.memory) (loaded r.memory (place_of places a) (size_of w))
    (λ read. reached r.memory r.numbers (number read)) (run_units places us) r.memory
    (λ read. loads-keep places us (reached r.memory r.numbers (number read)) are.1) goes
loads-keep places (Store a w x ∷ us) r are goes = absurd are.0
loads-keep places (Operation op w k xs ∷ us) r are goes = absurd are.0

-- loads that stay inside where the units before them do change nothing
units-same : (places : List ℕ) (us vs : List SsaUnit) (r : Reached) → AllByRecursion IsLoad vs
    → ((P : SsaUnit → Bool) → list_all P us ≡ true → list_all P vs ≡ true)
    → (run_units places (us ++ vs) r >>= λ t. Some t.memory) ≡ (run_units places us r >>= λ t. Some t.memory)
units-same places us vs r are inside =
    ap (λ (o : Option Reached). o >>= λ t. Some t.memory) (units-append places us vs r)
    ∙ followed (λ (t : Reached). t.memory) (run_units places us r) (run_units places vs) (goes places us vs r inside)
    (λ t. λ h. loads-keep places vs t are h)
  where
    goes : (places : List ℕ) (us vs : List SsaUnit) (r : Reached)
        → ((P : SsaUnit → Bool) → list_all P us ≡ true → list_all P vs ≡ true) → is_some (run_units places us r) ≡ true
        → is_some (run_units places us r >>= run_units places vs) ≡ true
    goes places us vs r inside h =
        let own : list_all (stays_inside places (length r.memory)) us ≡ true = sym (runs-trap-outside places us r)
        ∙ h in
        sym (ap is_some (units-append places us vs r)) ∙ runs-trap-outside places (us ++ vs) r
        ∙ all-both (stays_inside places (length r.memory)) us vs own
        (inside (stays_inside places (length r.memory)) own)

-- ---- accesses

contains-first : (o : Option Access) (xs : List Access) (x : Access) → Contains (cons_option o xs) x → (o ≡ Some x)
    ⊎ Contains xs x
contains-first None xs x h = inr h
contains-first (Some y) xs x h = by h.0 h.1 h.2
  where
    by : (i : ℕ) → i < length (y ∷ xs) → slice_index_or (y ∷ xs) i x ≡ x → (Some y ≡ Some x) ⊎ Contains xs x
    by zero l e = inl (ap Some e)
    by (suc i) l e = inr (i, (let below : i < length xs = omega arith in below), e)

contains-more : (o : Option Access) (xs : List Access) (x : Access) → Contains xs x → Contains (cons_option o xs) x
contains-more None xs x h = h
contains-more (Some y) xs x h = (suc h.0, (let below = h.1 in omega arith), h.2)

contains-here : (o : Option Access) (xs : List Access) (x : Access) → o ≡ Some x → Contains (cons_option o xs) x
contains-here o xs x e = subst (λ k. Contains (cons_option k xs) x) (sym e) (0, omega arith, refl)

copied-access : (n : ℕ) (u : SsaUnit) (x : Access) → Contains (filter_map access_of (replicate n u)) x
    → access_of u ≡ Some x
copied-access zero u x h = absurd (let below = h.1 in omega arith)
copied-access (suc n) u x h = elim (contains-first (access_of u) (filter_map access_of (replicate n u)) x h) [
  | inl e ↦ e
  | inr c ↦ copied-access n u x c
]

-- what is added to units makes no access that they do not make
added-accesses : (met : List Bool) (ks ps : List Label) (us : List SsaUnit) (x : Access)
    → Contains (filter_map access_of (added_units met ks ps us)) x → Contains (filter_map access_of us) x
added-accesses met ks ps [] x h = h
added-accesses met ks ps (u ∷ us) x h =
    let copies = replicate (copies_of met (counts ks) (counts ps) u) u in
    let rest = added_units met (ks ++ unit_labels copies) ps us in
    let apart = filter_map-append access_of copies rest in
    elim (Contains-append_cases (filter_map access_of copies) (filter_map access_of rest) x
    (subst (λ l. Contains l x) apart h)) [
      | inl c ↦ contains-here (access_of u) (filter_map access_of us) x
          (copied-access (copies_of met (counts ks) (counts ps) u) u x c)
      | inr c ↦ contains-more (access_of u) (filter_map access_of us) x
          (added-accesses met (ks ++ unit_labels copies) ps us x c)
    ]

both-accesses : (us vs : List SsaUnit) (x : Access)
    → (Contains (filter_map access_of vs) x → Contains (filter_map access_of us) x)
    → Contains (filter_map access_of (us ++ vs)) x → Contains (filter_map access_of us) x
both-accesses us vs x f h = elim
    (Contains-append_cases (filter_map access_of us) (filter_map access_of vs) x
    (subst (λ l. Contains l x) (filter_map-append access_of us vs) h)) [
      | inl c ↦ c
      | inr c ↦ f c
    ]

still-respects : (ssa : Ssa) (p : Program) (places : List ℕ) → Respects ssa places
    → Respects (over ssa (ssa.units ++ (added ssa p).units)) places
still-respects ssa p places respects x y cx cy bound =
    let own : (z : Access) → Contains (filter_map access_of (ssa.units ++ (added ssa p).units)) z
    → Contains (filter_map access_of ssa.units) z
    = λ z. both-accesses ssa.units (added ssa p).units z (added-accesses _ _ _ ssa.units z) in
    respects x y (own x cx) (own y cy) bound

-- ---- the bytes of a program

-- whether a byte lies inside a memory of this length
abbrev is_there : List ℕ → ℕ → Label → Bool
is_there places long l = is_inside long (place_of places l.address) 1

abbrev byte_unit : Bool → Address → SsaUnit
byte_unit true a = Store a W8 Nothing
byte_unit false a = Load a W8

abbrev byte_units : List Label → List SsaUnit
byte_units ls = map (λ l. byte_unit l.writes l.address) ls

byte-label : (w : Bool) (a : Address) → labels_in (access_of (byte_unit w a)) ≡
    (record { writes = w; address = a } ∷ [])
byte-label true a = refl
byte-label false a = refl

byte-labels : (ls : List Label) → unit_labels (byte_units ls) ≡ ls
byte-labels [] = refl
byte-labels (l ∷ ls) = (λ i. byte-label l.writes l.address i ++ byte-labels ls i)

byte-inside : (places : List ℕ) (long : ℕ) (w : Bool) (a : Address) → stays_inside places long (byte_unit w a) ≡
    is_inside long (place_of places a) 1
byte-inside places long true a = refl
byte-inside places long false a = refl

bytes-inside : (places : List ℕ) (long : ℕ) (ls : List Label) → list_all (stays_inside places long) (byte_units ls) ≡
    list_all (is_there places long) ls
bytes-inside places long [] = refl
bytes-inside places long (l ∷ ls) = (λ i. byte-inside places long l.writes l.address i && bytes-inside places long ls i)

-- a program runs exactly where all its bytes lie inside
bytes-there : (called : Instructions) (p : Program) (memory places args : List ℕ)
    → is_some (meaning called p memory places args) ≡ list_all (is_there places (length memory)) (line_labels p.lines)
bytes-there called p memory places args =
    let ls = line_labels p.lines in
    trap-together called p (byte_units ls) memory places args (λ l. ap (count_label l) (byte-labels ls))
    ∙ runs-trap-outside places (byte_units ls) (start_of memory args) ∙ bytes-inside places (length memory) ls

-- ---- lines

counted : (P : Label → Bool) (l : Label) (ps : List Label) → list_all P ps ≡ true → nat_lt 0 (count_label l ps) ≡ true
    → P l ≡ true
counted P l [] all some = absurd (cc)
counted P l (x ∷ ps) all some =
    let parts = and-parts (P x) (list_all P ps) all in
    elim (cases_Bool (same_label l x)) [
      | inl t ↦ ap P (same-labels l x t) ∙ parts.0
      | inr f ↦
          let other : one_if (same_label l x) + count_label l ps ≡ count_label l ps = ap
          (λ b. one_if b + count_label l ps) f ∙ omega arith in
          counted P l ps parts.1 (sym (ap (nat_lt 0) other) ∙ some)
    ]

-- what holds of all labels of a program holds of what is missing in it
missing-all : (P : Label → Bool) (met : List Bool) (ks ps ls : List Label) → list_all P ps ≡ true
    → list_all P (missing met ks ps ls) ≡ true
missing-all P met ks ps [] all = refl
missing-all P met ks ps (l ∷ ls) all = elim (cases_Bool (is_missing met (counts ks) (counts ps) l)) [
  | inl t ↦
      let reads = and-parts (not l.writes) _ t in
      let common = and-parts (is_common met (counts ks) (counts ps) l) _ reads.1 in
      let some = and-parts (not (is_touched met (counts ks) l.address)) _ common.0 in
      let here = counted P l ps all some.1 in
      let more = all-both P ps (l ∷ []) all (and_from (P l) true here refl) in
      ap (list_all P) (cond-true _ _ _ t)
      ∙ and_from (P l) (list_all P (missing met ks (ps ++ l ∷ []) ls)) here
      (missing-all P met ks (ps ++ l ∷ []) ls more)
  | inr f ↦ ap (list_all P) (cond-false _ _ _ f) ∙ missing-all P met ks ps ls all
]

same-inside : (long : ℕ) (at : ℤ) → program.is_inside long at 1 ≡ is_inside long at 1
same-inside long (pos a) = refl
same-inside long (negsuc a) = refl

loads-inside : (places : List ℕ) (long : ℕ) (ls : List Label) → list_all (program.stays_inside places long)
    (map byte_load ls) ≡ list_all (is_there places long) ls
loads-inside places long [] = refl
loads-inside places long (l ∷ ls) = (λ i. same-inside long (place_of places l.address) i && loads-inside places long ls
    i)

bytes-keep : (called : Instructions) (i : Inputs) (ls : List Label) (s : State)
    → is_some (run called i (map byte_load ls) s) ≡ true → (run called i (map byte_load ls) s >>= λ t. Some t.memory) ≡
    Some s.memory
unfolding run
bytes-keep called i [] s goes = refl
bytes-keep called i (l ∷ ls) s goes =
    load-keeps (λ (t : State). t.memory) (loaded s.memory (place_of i.places l.address) (size_of W8))
    (λ read. with_scalar s (number read)) (run called i (map byte_load ls)) s.memory
    (λ read. bytes-keep called i ls (with_scalar s (number read))) goes

still-runs : (called : Instructions) (ssa : Ssa) (p : Program) (x : Added) (memory places args : List ℕ)
    → ((P : Label → Bool) → list_all P (line_labels p.lines) ≡ true → list_all P x.loads ≡ true)
    → is_some (meaning called p memory places args) ≡ true
    → is_some (meaning called (with_added ssa p x).program memory places args) ≡ true
still-runs called ssa p x memory places args inside goes =
    let long = length memory in
    traps_outside called (with_added ssa p x).program memory places args
    ∙ all-both (program.stays_inside places long) p.lines (map byte_load x.loads)
    (sym (traps_outside called p memory places args) ∙ goes)
    (loads-inside places long x.loads
    ∙ inside (is_there places long) (sym (bytes-there called p memory places args) ∙ goes))

some-memory : (o : Option State) → is_some (o >>= λ s. Some s.memory) ≡ is_some o
some-memory None = refl
some-memory (Some s) = refl

program-same : (called : Instructions) (ssa : Ssa) (p : Program) (x : Added) (memory places args : List ℕ)
    → ((P : Label → Bool) → list_all P (line_labels p.lines) ≡ true → list_all P x.loads ≡ true)
    → meaning called (with_added ssa p x).program memory places args ≡ meaning called p memory places args
unfolding meaning
program-same called ssa p x memory places args inside =
    let i : Inputs = record { places = places; args = args } in
    let loads = map byte_load x.loads in
    let apart = run-append called i p.lines loads (begun memory) in
    ap (λ (o : Option State). o >>= λ s. Some s.memory) apart
    ∙ followed (λ (s : State). s.memory) (run called i p.lines (begun memory)) (run called i loads)
    (λ goes.
    sym (ap is_some apart) ∙ sym (some-memory (run called i (p.lines ++ loads) (begun memory)))
    ∙ still-runs called ssa p x memory places args inside (some-memory (run called i p.lines (begun memory)) ∙ goes))
    (λ s. λ goes. bytes-keep called i x.loads s goes)

-- ---- both

means-with : (called : Instructions) (ssa : Ssa) (p : Program)
    → MeansUnits called (with_added ssa p (added ssa p)).program (with_added ssa p (added ssa p)).ssa
    → MeansUnits called p ssa
means-with called ssa p h memory places args are_bytes fit respects =
    let met = met_pointers (noalias_flags ssa) ssa.units in
    let all_labels = unit_labels (ssa.units ++ (added ssa p).units) in
    let ps = line_labels p.lines in
    sym (program-same called ssa p (added ssa p) memory places args
    (λ P all. missing-all P met all_labels ps all_labels all))
    ∙ h memory places args are_bytes fit (still-respects ssa p places respects)
    ∙ units-same places ssa.units (added ssa p).units (start_of memory args)
    (added-loads met (kernel_labels ssa) ps ssa.units) (λ P all. added-all P met (kernel_labels ssa) ps ssa.units all)

pub levelled-means : LevelledMeans
levelled-means called ssa p h =
    elim (cases_Bool (is_some (uneven_label (kernel_labels ssa) (line_labels p.lines)) && fits ssa p (added ssa p))) [
      | inl t ↦ means-with called ssa p (subst (λ (s : Sides). MeansUnits called s.program s.ssa) (cond-true _ _ _ t) h)
      | inr f ↦ subst (λ (s : Sides). MeansUnits called s.program s.ssa) (cond-false _ _ _ f) h
    ]
