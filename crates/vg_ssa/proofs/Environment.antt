-- The environment of a run: each key by which terms name a value stands for the number of that value.
use Rattle.std.proofs.Common.{◌≡◌, ℕ, ◌+◌, ◌≤◌, Bool, true, false, List, [], ◌∷◌, ◌++◌, length, refl, ap, ◌∙◌, arith}
use Rattle.std.specs.Prelude.{nat_eq, ◌&&◌, if◌then◌else◌}
use Rattle.std.specs.Cmp.{signed_Decides}
use Rattle.std.specs.Ordering.{int_eq}
use Rattle.std.proofs.lemmas.Bool.{eqb-true, eq-eqb}
use Rattle.vg_shapes.specs.declared.ssa_unit.SsaUnit.{SsaUnit}
use Rattle.vg_shapes.specs.declared.ssa_unit.SsaUnit.TheVariants.{Load, Store, Operation}
use Rattle.vg_shapes.specs.Sound.{argument_key, argument_pairs, cut_key, keys_of, load_key, paired, unit_pairs}
use Rattle.vg_terms.specs.declared.term.LeafKey.{LeafKey}
use Rattle.vg_terms.specs.Value.{number_at, same_key}

-- ---- keys

-- the number of the value that a key names
abbrev number_in : LeafKey → ℕ
number_in key = if nat_eq key.kind 1 then key.third else key.first

and-true : (a b : Bool) → (a && b) ≡ true → (a ≡ true) × (b ≡ true)
and-true true true e = (refl, refl)
and-true true false e = absurd (cc)
and-true false b e = absurd (cc)

same-number : (a b : LeafKey) → same_key a b ≡ true → number_in a ≡ number_in b
same-number a b e =
    let front = and-true (nat_eq a.kind b.kind && nat_eq a.first b.first && int_eq a.second b.second) (nat_eq a.third b.third) e in
    let middle = and-true (nat_eq a.kind b.kind && nat_eq a.first b.first) (int_eq a.second b.second) front.0 in
    let back = and-true (nat_eq a.kind b.kind) (nat_eq a.first b.first) middle.0 in
    let kinds = eqb-true a.kind b.kind back.0 in
    let firsts = eqb-true a.first b.first back.1 in
    let thirds = eqb-true a.third b.third front.1 in
    λ i. if nat_eq (kinds i) 1 then thirds i else firsts i

-- keys of different values differ
apart : (a b : LeafKey) → (number_in a ≡ number_in b → ⊥) → same_key a b ≡ false
apart a b h = by (same_key a b) refl
  where
    by : (t : Bool) → same_key a b ≡ t → same_key a b ≡ false
    by true e = absurd (h (same-number a b e))
    by false e = e

itself : (a : LeafKey) → same_key a a ≡ true
itself a =
    let f : (n : ℕ) → nat_eq n n ≡ true = λ n. eq-eqb n n refl in
    let s : int_eq a.second a.second ≡ true = (signed_Decides a.second a.second).1 refl in
    λ i. f a.kind i && f a.first i && s i && f a.third i

-- ---- pairs

at-front : (key : LeafKey) (n : ℕ) (rest : List (LeafKey × ℕ)) → number_at ((key, n) ∷ rest) key ≡ n
at-front key n rest = ap (λ b. if b then n else number_at rest key) (itself key)

past-front : (own key : LeafKey) (n : ℕ) (rest : List (LeafKey × ℕ)) → same_key own key ≡ false → number_at ((own, n) ∷ rest) key ≡ number_at rest key
past-front own key n rest e = ap (λ b. if b then n else number_at rest key) e

-- ---- units

-- the keys of a unit stand for this number
abbrev ReadsUnit : List (LeafKey × ℕ) → ℕ → SsaUnit → ℕ → Type 0
ReadsUnit pairs v (Load a w) n = (number_at pairs (load_key a v) ≡ n) × (number_at pairs (cut_key v) ≡ n)
ReadsUnit pairs v (Store a w x) n = Unit {0}
ReadsUnit pairs v (Operation op w k xs) n = number_at pairs (cut_key v) ≡ n

abbrev pub ReadUnits : List (LeafKey × ℕ) → ℕ → List SsaUnit → List ℕ → Type 0
ReadUnits pairs v [] ns = Unit {0}
ReadUnits pairs v (u ∷ us) [] = Unit {0}
ReadUnits pairs v (u ∷ us) (n ∷ ns) = ReadsUnit pairs v u n × ReadUnits pairs (v + 1) us ns

past-unit : (n v : ℕ) (u : SsaUnit) (rest : List (LeafKey × ℕ)) (key : LeafKey) → v + 1 ≤ number_in key → number_at (paired n (keys_of v u) ++ rest) key ≡ number_at rest key
past-unit n v (Load a w) rest key l =
    past-front (load_key a v) key n ((cut_key v, n) ∷ rest) (apart (load_key a v) key (λ e. absurd (omega (arith, e))))
    ∙ past-front (cut_key v) key n rest (apart (cut_key v) key (λ e. absurd (omega (arith, e))))
past-unit n v (Store a w x) rest key l = refl
past-unit n v (Operation op w k xs) rest key l = past-front (cut_key v) key n rest (apart (cut_key v) key (λ e. absurd (omega (arith, e))))

-- a load and a cut leaf differ by their kind
kinds-apart : (n v : ℕ) (own key : LeafKey) (rest : List (LeafKey × ℕ)) → nat_eq own.kind key.kind ≡ false → number_at ((own, n) ∷ rest) key ≡ number_at rest key
kinds-apart n v own key rest e =
    past-front own key n rest (λ i. e i && nat_eq own.first key.first && int_eq own.second key.second && nat_eq own.third key.third)

reads-unit : (pairs : List (LeafKey × ℕ)) (n v : ℕ) (u : SsaUnit) (rest : List (LeafKey × ℕ)) → ((key : LeafKey) → v ≤ number_in key → number_at pairs key ≡ number_at (paired n (keys_of v u) ++ rest) key) → ReadsUnit pairs v u n
reads-unit pairs n v (Load a w) rest h = (
  h (load_key a v) (omega arith) ∙ at-front (load_key a v) n ((cut_key v, n) ∷ rest),
  h (cut_key v) (omega arith) ∙ kinds-apart n v (load_key a v) (cut_key v) ((cut_key v, n) ∷ rest) refl ∙ at-front (cut_key v) n rest,
)
reads-unit pairs n v (Store a w x) rest h = tt
reads-unit pairs n v (Operation op w k xs) rest h = h (cut_key v) (omega arith) ∙ at-front (cut_key v) n rest

pub read-units : (pairs : List (LeafKey × ℕ)) (v : ℕ) (us : List SsaUnit) (ns : List ℕ) → ((key : LeafKey) → v ≤ number_in key → number_at pairs key ≡ number_at (unit_pairs v us ns) key) → ReadUnits pairs v us ns
read-units pairs v [] ns h = tt
read-units pairs v (u ∷ us) [] h = tt
read-units pairs v (u ∷ us) (n ∷ ns) h =
    let rest = unit_pairs (v + 1) us ns in
    (reads-unit pairs n v u rest h, read-units pairs (v + 1) us ns (λ key l. h key (omega arith) ∙ past-unit n v u rest key l))

-- the first of the units
pub read-front : (pairs : List (LeafKey × ℕ)) (v : ℕ) (us vs : List SsaUnit) (ns : List ℕ) → ReadUnits pairs v (us ++ vs) ns → ReadUnits pairs v us ns
read-front pairs v [] vs ns h = tt
read-front pairs v (u ∷ us) vs [] h = tt
read-front pairs v (u ∷ us) vs (n ∷ ns) h = (h.0, read-front pairs (v + 1) us vs ns h.1)

-- ---- arguments

abbrev pub ReadArguments : List (LeafKey × ℕ) → ℕ → List ℕ → Type 0
ReadArguments pairs v [] = Unit {0}
ReadArguments pairs v (n ∷ ns) = (number_at pairs (argument_key v) ≡ n) × ReadArguments pairs (v + 1) ns

past-argument : (n v : ℕ) (rest : List (LeafKey × ℕ)) (key : LeafKey) → v + 1 ≤ number_in key → number_at (paired n (argument_key v ∷ cut_key v ∷ []) ++ rest) key ≡ number_at rest key
past-argument n v rest key l =
    past-front (argument_key v) key n ((cut_key v, n) ∷ rest) (apart (argument_key v) key (λ e. absurd (omega (arith, e))))
    ∙ past-front (cut_key v) key n rest (apart (cut_key v) key (λ e. absurd (omega (arith, e))))

pub read-arguments : (pairs rest : List (LeafKey × ℕ)) (v : ℕ) (ns : List ℕ) → ((key : LeafKey) → v ≤ number_in key → number_at pairs key ≡ number_at (argument_pairs v ns ++ rest) key) → ReadArguments pairs v ns
read-arguments pairs rest v [] h = tt
read-arguments pairs rest v (n ∷ ns) h =
    let more = argument_pairs (v + 1) ns ++ rest in (
      h (argument_key v) (omega arith) ∙ at-front (argument_key v) n ((cut_key v, n) ∷ more),
      read-arguments pairs rest (v + 1) ns (λ key l. h key (omega arith) ∙ past-argument n v more key l),
    )

pub past-arguments : (rest : List (LeafKey × ℕ)) (v : ℕ) (ns : List ℕ) (key : LeafKey) → v + length ns ≤ number_in key → number_at (argument_pairs v ns ++ rest) key ≡ number_at rest key
past-arguments rest v [] key l = refl
past-arguments rest v (n ∷ ns) key l = past-argument n v (argument_pairs (v + 1) ns ++ rest) key (omega arith) ∙ past-arguments rest (v + 1) ns key (omega arith)

-- ---- the environment of arguments and of the units after them

pub of-arguments : (v : ℕ) (ns ms : List ℕ) (us : List SsaUnit) → ReadArguments (argument_pairs 0 ns ++ unit_pairs v us ms) 0 ns
of-arguments v ns ms us = read-arguments (argument_pairs 0 ns ++ unit_pairs v us ms) (unit_pairs v us ms) 0 ns (λ key l. refl)

pub of-units : (v : ℕ) (ns ms : List ℕ) (us : List SsaUnit) → length ns ≡ v → ReadUnits (argument_pairs 0 ns ++ unit_pairs v us ms) v us ms
of-units v ns ms us e = read-units (argument_pairs 0 ns ++ unit_pairs v us ms) v us ms (λ key l. past-arguments (unit_pairs v us ms) 0 ns key (omega arith))
