-- The environment of a run: each load's leaf has the number that the load read.
use Rattle.std.proofs.Common.{◌≡◌, ℕ, zero, suc, ◌+◌, ◌%◌, ◌^◌, ◌<◌, ◌≤◌, List, [], ◌∷◌, ◌++◌, length, drop, Option, Some, None, refl, sym, ap, subst, ◌∙◌, arith, append_assoc, length-append}
use Rattle.std.specs.Prelude.{slice_get, slice_index, unwrap_or}
use Rattle.std.proofs.lemmas.List.{length_push}
use Rattle.std.proofs.lemmas.Nat.{mod_below, pow_pos}
use Rattle.std.proofs.Math.Nat.{mod-eq_of_lt}
use Rattle.vg_base.specs.declared.address.Address.{Address}
use Rattle.vg_base.specs.declared.width.Width.{Width}
use Rattle.vg_base.specs.Address.{place_of}
use Rattle.vg_base.specs.Bits.{bytes, num, number}
use Rattle.vg_base.specs.Trap.{◌>>=◌}
use Rattle.vg_base.specs.Width.{bits_of, size_of}
use Rattle.vg_bits.specs.BitList.{IsBytes}
use Rattle.vg_bits.specs.Range.{range}
use Rattle.vg_bits.proofs.ByteLists.{bytes-number, number-bytes}
use Rattle.vg_terms.specs.declared.term.LeafKey.{LeafKey}
use Rattle.vg_terms.specs.declared.value.Env.{Env}
use Rattle.vg_terms.specs.Term.{Tree, leaf}
use Rattle.vg_terms.specs.Value.{number_at, value}
use Rattle.vg_shapes.specs.declared.ssa.Ssa.{Ssa}
use Rattle.vg_shapes.specs.declared.ssa_unit.SsaUnit.{SsaUnit}
use Rattle.vg_shapes.specs.declared.ssa_unit.SsaUnit.TheVariants.{Load, Store, Operation}
use Rattle.vg_shapes.specs.Layout.{noalias_flags, Respects}
use Rattle.vg_shapes.specs.Registers.{bits_key, Reads}
use Rattle.vg_shapes.specs.RunUnits.{Reached, run_units, unit_run}
use Rattle.vg_shapes.specs.Sound.{argument_key, argument_pairs, load_key, unit_pairs}
use Rattle.vg_shapes.specs.Units.{arguments}
use Rattle.vg_order_laws.proofs.Runs.{more-numbers, went_well}
use Rattle.vg_ssa.proofs.Environment.{of-arguments, of-units, ReadArguments, ReadUnits}
use Rattle.vg_events.proofs.Runs.{loaded-bytes, one-unit}
use Rattle.vg_events.proofs.Steps.{loaded-length}
use Rattle.vg_known.specs.FirstLoads.{first_in, first_load}
use Rattle.vg_known.proofs.Classes.{class_env, class_values, other-key}
use Rattle.vg_known.proofs.Firsts.{first-reads, found, load-reads, number-there}
use Rattle.vg_known.proofs.Follow.{eight-size}
use Rattle.vg_known.proofs.Terms.{gave, LoadsStand}

-- what arguments and loads have in a run
abbrev pub run_pairs : Ssa → List ℕ → List ℕ → List (LeafKey × ℕ)
run_pairs ssa args numbers = argument_pairs 0 args ++ unit_pairs (arguments ssa) ssa.units (drop (arguments ssa) numbers)

abbrev pub run_env : Ssa → List ℕ → List ℕ → List Tree → Env
run_env ssa args numbers met = class_env (run_pairs ssa args numbers) met

-- ---- nothing is read of registers

no-arguments : (v : ℕ) (ns : List ℕ) (rest : List (LeafKey × ℕ)) (p l : ℕ) → number_at (argument_pairs v ns ++ rest) (bits_key p l) ≡ number_at rest (bits_key p l)
no-arguments v [] rest p l = refl
no-arguments v (n ∷ ns) rest p l = no-arguments (v + 1) ns rest p l

no-units : (v : ℕ) (us : List SsaUnit) (ns : List ℕ) (p l : ℕ) → number_at (unit_pairs v us ns) (bits_key p l) ≡ 0
no-units v [] ns p l = refl
no-units v (u ∷ us) [] p l = refl
no-units v (Load a w ∷ us) (n ∷ ns) p l = no-units (v + 1) us ns p l
no-units v (Store a w x ∷ us) (n ∷ ns) p l = no-units (v + 1) us ns p l
no-units v (Operation op w k xs ∷ us) (n ∷ ns) p l = no-units (v + 1) us ns p l

nothing-there : (low width : ℕ) → num (range low width []) ≡ 0
unfolding num
nothing-there zero zero = refl
nothing-there zero (suc width) = refl
nothing-there (suc low) zero = refl
nothing-there (suc low) (suc width) = refl

pub reads-nothing : (ssa : Ssa) (args numbers : List ℕ) (met : List Tree) → Reads (run_env ssa args numbers met) []
reads-nothing ssa args numbers met parameter low width =
    let rest = run_pairs ssa args numbers in
    ap (λ n. n % 2 ^ width) (other-key 0 (class_values rest met []) rest (bits_key parameter low) refl ∙ no-arguments 0 args (unit_pairs (arguments ssa) ssa.units (drop (arguments ssa) numbers)) parameter low ∙ no-units (arguments ssa) ssa.units (drop (arguments ssa) numbers) parameter low)
    ∙ mod-eq_of_lt (pow_pos width) ∙ sym (nothing-there low width)

-- ---- arguments

argument-number : (pairs : List (LeafKey × ℕ)) (v : ℕ) (ns : List ℕ) (k : ℕ) → ReadArguments pairs v ns → k < length ns → number_at pairs (argument_key (v + k)) ≡ slice_index ns k
argument-number pairs v [] k h l = absurd (omega arith)
argument-number pairs v (n ∷ ns) zero h l = ap (λ j. number_at pairs (argument_key j)) (let e : v + 0 ≡ v = omega arith in e) ∙ h.0
argument-number pairs v (n ∷ ns) (suc k) h l = ap (λ j. number_at pairs (argument_key j)) (let e : v + suc k ≡ v + 1 + k = omega arith in e) ∙ argument-number pairs (v + 1) ns k h.1 (omega arith)

pub argument-reads : (ssa : Ssa) (args numbers : List ℕ) (met : List Tree) (k : ℕ) → k < length args → number_at (run_env ssa args numbers met).pairs (argument_key k) ≡ slice_index args k
argument-reads ssa args numbers met k l =
    let rest = run_pairs ssa args numbers in
    other-key 0 (class_values rest met []) rest (argument_key k) refl
    ∙ ap (λ j. number_at rest (argument_key j)) (let e : k ≡ 0 + k = omega arith in e)
    ∙ argument-number rest 0 args k (of-arguments (arguments ssa) args (drop (arguments ssa) numbers) ssa.units) l

-- ---- loads

load-number : (pairs : List (LeafKey × ℕ)) (v : ℕ) (us : List SsaUnit) (ns : List ℕ) (k : ℕ) (a : Address) (w : Width) → ReadUnits pairs v us ns → slice_get us k ≡ Some (Load a w) → k < length ns → number_at pairs (load_key a (v + k)) ≡ slice_index ns k
load-number pairs v [] ns k a w h e l = absurd (cc)
load-number pairs v (u ∷ us) [] k a w h e l = absurd (omega arith)
load-number pairs v (u ∷ us) (n ∷ ns) (suc k) a w h e l = ap (λ j. number_at pairs (load_key a j)) (let q : v + suc k ≡ v + 1 + k = omega arith in q) ∙ load-number pairs (v + 1) us ns k a w h.1 e (omega arith)
load-number pairs v (Load b m ∷ us) (n ∷ ns) zero a w h e l =
    let same : b ≡ a = cc in
    (λ i. number_at pairs (load_key (sym same i) ((let q : v + 0 ≡ v = omega arith in q) i))) ∙ h.0.0
load-number pairs v (Store b m x ∷ us) (n ∷ ns) zero a w h e l = absurd (cc)
load-number pairs v (Operation op m k xs ∷ us) (n ∷ ns) zero a w h e l = absurd (cc)

seam-there : (done : List SsaUnit) (u : SsaUnit) (us : List SsaUnit) → slice_get (done ++ u ∷ us) (length done) ≡ Some u
seam-there [] u us = refl
seam-there (d ∷ done) u us = seam-there done u us

dropped : (xs ys : List ℕ) (k : ℕ) → slice_index (drop (length xs) (xs ++ ys)) k ≡ slice_index (xs ++ ys) (length xs + k)
dropped [] ys k = ap (slice_index ys) (let e : k ≡ 0 + k = omega arith in e)
dropped (x ∷ xs) ys k = dropped xs ys k ∙ ap (slice_index (x ∷ (xs ++ ys))) (let e : suc (length xs + k) ≡ suc (length xs) + k = omega arith in e)

length-dropped : (xs ys : List ℕ) → length (drop (length xs) (xs ++ ys)) ≡ length ys
length-dropped [] ys = refl
length-dropped (x ∷ xs) ys = length-dropped xs ys

-- the number that stands for the leaf of the load after these units
key-number : (ssa : Ssa) (args more : List ℕ) (met : List Tree) (before us : List SsaUnit) (a : Address) (w : Width) → length args ≡ arguments ssa → ssa.units ≡ before ++ Load a w ∷ us → length before < length more
    → number_at (run_env ssa args (args ++ more) met).pairs (load_key a (arguments ssa + length before)) ≡ slice_index (args ++ more) (arguments ssa + length before)
key-number ssa args more met before us a w long whole inside =
    let rest = run_pairs ssa args (args ++ more) in
    let n = arguments ssa in
    let reads = of-units n args (drop n (args ++ more)) ssa.units long in
    let there : slice_get ssa.units (length before) ≡ Some (Load a w) = ap (λ l. slice_get l (length before)) whole ∙ seam-there before (Load a w) us in
    let size : length (drop n (args ++ more)) ≡ length more = ap (λ k. length (drop k (args ++ more))) (sym long) ∙ length-dropped args more in
    other-key 0 (class_values rest met []) rest (load_key a (n + length before)) refl
    ∙ load-number rest n ssa.units (drop n (args ++ more)) (length before) a w reads there (omega arith)
    ∙ ap (λ k. slice_index (drop k (args ++ more)) (length before)) (sym long) ∙ dropped args more (length before)
    ∙ ap (λ k. slice_index (args ++ more) (k + length before)) long

-- a number that was read fits its width
read-fits : (places : List ℕ) (a : Address) (w : Width) (r t : Reached) → IsBytes r.memory → unit_run places (Load a w) r ≡ Some t → (n : ℕ) × (t.numbers ≡ r.numbers ++ n ∷ []) × (n < 2 ^ bits_of w)
read-fits places a w r t are e =
    let one = load-reads places a w r t e in
    let long = loaded-length r.memory (place_of places a) (size_of w) one.read one.there in
    let bs = loaded-bytes r.memory (place_of places a) (size_of w) one.read are one.there in
    let same : number one.read ≡ number one.read % 2 ^ bits_of w =
    sym (ap number (ap (λ k. bytes k (number one.read)) (sym long) ∙ bytes-number one.read bs)) ∙ number-bytes (size_of w) (number one.read) ∙ ap (λ k. number one.read % 2 ^ k) (eight-size w) in
    (number one.read, one.numbers, subst (λ k. k < 2 ^ bits_of w) (sym same) (mod_below (number one.read) (2 ^ bits_of w) (pow_pos (bits_of w))))

-- ---- the leaf of each load stands for what the load reads

run-bytes : (places : List ℕ) (us : List SsaUnit) (r t : Reached) → IsBytes r.memory → run_units places us r ≡ Some t → IsBytes t.memory
unfolding run_units
run-bytes places [] r t are e = subst (λ (q : Reached). IsBytes q.memory) (let same : r ≡ t = cc in same) are
run-bytes places (u ∷ us) r t are e =
    let went = went_well (unit_run places u r) (run_units places us) e in
    run-bytes places us went.0 t (one-unit places u r went.0 are went.1).are went.2

run-join : (places : List ℕ) (us vs : List SsaUnit) (r q t : Reached) → run_units places us r ≡ Some q → run_units places vs q ≡ Some t → run_units places (us ++ vs) r ≡ Some t
unfolding run_units
run-join places [] vs r q t e f = ap (run_units places vs) (let same : r ≡ q = cc in same) ∙ f
run-join places (u ∷ us) vs r q t e f =
    let went = went_well (unit_run places u r) (run_units places us) e in
    ap (λ o. o >>= run_units places (us ++ vs)) went.1 ∙ run-join places us vs went.0 q t went.2 f

-- what a walk over the units of a run knows
pub record Midway (ssa : Ssa) (places : List ℕ) (b r t : Reached) (done us : List SsaUnit) : Type 0 where
  pub whole : ssa.units ≡ done ++ us
  pub begun : length b.numbers ≡ arguments ssa
  pub are : IsBytes b.memory
  pub before : run_units places done b ≡ Some r
  pub after : run_units places us r ≡ Some t
  pub long : length r.numbers ≡ arguments ssa + length done

load-stands : (ssa : Ssa) (places more : List ℕ) (met : List Tree) (b r t : Reached) (done us : List SsaUnit) (a : Address) (w : Width) → Respects ssa places → Midway ssa places b r t done (Load a w ∷ us) → t.numbers ≡ b.numbers ++ more
    → value (run_env ssa b.numbers t.numbers met) (leaf (bits_of w) (load_key a (first_load (noalias_flags ssa) (arguments ssa) done (length r.numbers) a w))) ≡ slice_index t.numbers (length r.numbers)
unfolding run_units
load-stands ssa places more met b r t done us a w respects h grown = by (first_in (noalias_flags ssa) a w (arguments ssa) done) refl
  where
    went : (x : Reached) × (unit_run places (Load a w) r ≡ Some x) × (run_units places us x ≡ Some t)
    went = went_well (unit_run places (Load a w) r) (run_units places us) h.after

    read : (n : ℕ) × (went.0.numbers ≡ r.numbers ++ n ∷ []) × (n < 2 ^ bits_of w)
    read = read-fits places a w r went.0 (run-bytes places done b r h.are h.before) went.1

    rest : (m : List ℕ) × (t.numbers ≡ went.0.numbers ++ m)
    rest = more-numbers places us went.0 t went.2

    given : slice_index t.numbers (length r.numbers) ≡ read.0
    given = number-there r.numbers rest.0 read.0 t.numbers (rest.1 ∙ ap (λ l. l ++ rest.0) read.1)

    small : slice_index t.numbers (length r.numbers) % 2 ^ bits_of w ≡ slice_index t.numbers (length r.numbers)
    small = mod-eq_of_lt (subst (λ n. n < 2 ^ bits_of w) (sym given) read.2)

    size : length t.numbers ≡ arguments ssa + length done + 1 + length rest.0
    size = ap length (rest.1 ∙ ap (λ l. l ++ rest.0) read.1) ∙ (let x = length-append (r.numbers ++ read.0 ∷ []) rest.0 in let y = length_push r.numbers read.0 in let z = h.long in omega arith)

    room : arguments ssa + length more ≡ arguments ssa + length done + 1 + length rest.0
    room = (let x = ap length grown in let y = length-append b.numbers more in let z = h.begun in omega (arith, size))

    leaf_is : (m : ℕ) (before after : List SsaUnit) → m ≡ arguments ssa + length before → ssa.units ≡ before ++ Load a w ∷ after → length before ≤ length done → number_at (run_env ssa b.numbers t.numbers met).pairs (load_key a m) ≡ slice_index t.numbers m
    leaf_is m before after at whole few =
        let k = key-number ssa b.numbers more met before after a w h.begun whole (omega (arith, room, few)) in
        (λ i. number_at (run_env ssa b.numbers (grown i) met).pairs (load_key a (at i))) ∙ k ∙ (λ i. slice_index (sym grown i) (sym at i))

    by : (o : Option ℕ) → first_in (noalias_flags ssa) a w (arguments ssa) done ≡ o → value (run_env ssa b.numbers t.numbers met) (leaf (bits_of w) (load_key a (unwrap_or (first_in (noalias_flags ssa) a w (arguments ssa) done) (length r.numbers)))) ≡ slice_index t.numbers (length r.numbers)
    by None e =
        ap (λ (q : Option ℕ). number_at (run_env ssa b.numbers t.numbers met).pairs (load_key a (unwrap_or q (length r.numbers))) % 2 ^ bits_of w) e
        ∙ ap (λ n. n % 2 ^ bits_of w) (leaf_is (length r.numbers) done us h.long h.whole (omega arith)) ∙ small
    by (Some m) e =
        let behind = found (noalias_flags ssa) a w (arguments ssa) (arguments ssa) m [] done (omega arith) e in
        let same = first-reads ssa places a w m done us b r t respects h.whole h.begun behind h.before h.after in
        let whole : ssa.units ≡ behind.before ++ Load a w ∷ (behind.between ++ Load a w ∷ us) = h.whole ∙ ap (λ l. l ++ Load a w ∷ us) behind.whole ∙ append_assoc behind.before (Load a w ∷ behind.between) (Load a w ∷ us) in
        let few : length behind.before ≤ length done = omega (arith, ap length behind.whole, length-append behind.before (Load a w ∷ behind.between)) in
        ap (λ (q : Option ℕ). number_at (run_env ssa b.numbers t.numbers met).pairs (load_key a (unwrap_or q (length r.numbers))) % 2 ^ bits_of w) e
        ∙ ap (λ n. n % 2 ^ bits_of w) (leaf_is m behind.before (behind.between ++ Load a w ∷ us) behind.at whole few ∙ same) ∙ small

step-midway : (ssa : Ssa) (places : List ℕ) (b r t : Reached) (done : List SsaUnit) (u : SsaUnit) (us : List SsaUnit) → Midway ssa places b r t done (u ∷ us) → (q : Reached) × Midway ssa places b q t (done ++ u ∷ []) us × (length q.numbers ≡ length r.numbers + 1)
unfolding run_units
step-midway ssa places b r t done u us h =
    let went = went_well (unit_run places u r) (run_units places us) h.after in
    let one = gave places u r went.0 went.1 in
    let next : length went.0.numbers ≡ length r.numbers + 1 = ap length one.numbers ∙ length_push r.numbers one.given in (
      went.0,
      record {
        whole = h.whole ∙ sym (append_assoc done (u ∷ []) us);
        begun = h.begun;
        are = h.are;
        before = run-join places done (u ∷ []) b r went.0 h.before (ap (λ o. o >>= run_units places []) went.1);
        after = went.2;
        long = next ∙ (let l = length_push done u in let k = h.long in omega arith);
      },
      next,
    )

pub loads-stand : (ssa : Ssa) (places more : List ℕ) (met : List Tree) (b r t : Reached) (done us : List SsaUnit) → Respects ssa places → Midway ssa places b r t done us → t.numbers ≡ b.numbers ++ more
    → LoadsStand (run_env ssa b.numbers t.numbers met) (noalias_flags ssa) (arguments ssa) (slice_index t.numbers) done us (length r.numbers)
loads-stand ssa places more met b r t done [] respects h grown = tt
loads-stand ssa places more met b r t done (Load a w ∷ us) respects h grown =
    let next = step-midway ssa places b r t done (Load a w) us h in (
      load-stands ssa places more met b r t done us a w respects h grown,
      subst (LoadsStand (run_env ssa b.numbers t.numbers met) (noalias_flags ssa) (arguments ssa) (slice_index t.numbers) (done ++ Load a w ∷ []) us) next.2 (loads-stand ssa places more met b next.0 t (done ++ Load a w ∷ []) us respects next.1 grown),
    )
loads-stand ssa places more met b r t done (Store a w x ∷ us) respects h grown =
    let next = step-midway ssa places b r t done (Store a w x) us h in
    subst (LoadsStand (run_env ssa b.numbers t.numbers met) (noalias_flags ssa) (arguments ssa) (slice_index t.numbers) (done ++ Store a w x ∷ []) us) next.2 (loads-stand ssa places more met b next.0 t (done ++ Store a w x ∷ []) us respects next.1 grown)
loads-stand ssa places more met b r t done (Operation op w k xs ∷ us) respects h grown =
    let next = step-midway ssa places b r t done (Operation op w k xs) us h in
    subst (LoadsStand (run_env ssa b.numbers t.numbers met) (noalias_flags ssa) (arguments ssa) (slice_index t.numbers) (done ++ Operation op w k xs ∷ []) us) next.2 (loads-stand ssa places more met b next.0 t (done ++ Operation op w k xs ∷ []) us respects next.1 grown)
