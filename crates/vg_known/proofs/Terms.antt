-- The terms of a kernel's values have the numbers of the values, in each run.
use Rattle.std.proofs.Common.{◌≡◌, ℕ, zero, suc, ◌+◌, Bool, List, [], ◌∷◌, ◌++◌, length, map, Option, Some, None, refl, sym, ap, subst, ◌∙◌, arith, append_assoc, append-nil}
use Rattle.std.specs.Prelude.{slice_index, slice_index_or}
use Rattle.std.proofs.lemmas.List.{get_or_append_left, get_or_push, length_push}
use Rattle.vg_base.specs.declared.width.Width.{Width}
use Rattle.vg_base.specs.Address.{place_of}
use Rattle.vg_base.specs.Bits.{bytes, number}
use Rattle.vg_base.specs.Memory.{loaded, stored}
use Rattle.vg_base.specs.Width.{bits_of, size_of}
use Rattle.vg_terms.specs.declared.value.Env.{Env}
use Rattle.vg_terms.specs.Term.{Tree, leaf, IsWidth}
use Rattle.vg_terms.specs.Value.{value}
use Rattle.vg_shapes.specs.declared.ssa_unit.Operator.{Operator}
use Rattle.vg_shapes.specs.declared.ssa_unit.Operator.TheVariants.{Two, Shift, Resize, Compare, Select}
use Rattle.vg_shapes.specs.declared.ssa_unit.SsaUnit.{SsaUnit}
use Rattle.vg_shapes.specs.declared.ssa_unit.SsaUnit.TheVariants.{Load, Store, Operation}
use Rattle.vg_shapes.specs.declared.wanted.Wanted.{Wanted}
use Rattle.vg_shapes.specs.declared.wanted.Wanted.TheVariants.{Value, Constant, Nothing}
use Rattle.vg_shapes.specs.RunUnits.{number_of, operation_result, Reached, reached, result_of, run_units, unit_run}
use Rattle.vg_shapes.specs.Sound.{load_key, result_bits, unit_bits}
use Rattle.vg_order_laws.proofs.Runs.{more-numbers, went_well}
use Rattle.vg_ssa.specs.Fitting.{IsTermOf}
use Rattle.vg_ssa.specs.ValueTerm.{no_term, operand_term}
use Rattle.vg_ssa.proofs.OperationTerms.{bits-width}
use Rattle.vg_ssa.proofs.Terms.{leaf-term, Stand, whole-fit}
use Rattle.vg_ssa.proofs.Typing.{UnitIn, UnitsIn}
use Rattle.vg_known.specs.Cuts.{computed}
use Rattle.vg_known.specs.FirstLoads.{first_load}
use Rattle.vg_known.specs.Kernels.{Terms, terms_behind, unit_term, with_term}
use Rattle.vg_known.specs.Classes.{AllFormed, ClassesMean}
use Rattle.vg_known.proofs.Formed.{formed-with}
use Rattle.vg_known.proofs.Values.{computed-means}
use Rattle.vg_known.proofs.Walk.{classes-front, Grows, grows-not, grows-on, met-grows}

-- ---- what was met stays

with-grows : (s : Terms) (u : SsaUnit) (t : Tree) → Grows s.met (with_term s u t).met
with-grows s (Load a w) t = met-grows s.met t
with-grows s (Store a w x) t = grows-not s.met
with-grows s (Operation op w k xs) t = met-grows s.met t

pub terms-grow : (flags : List Bool) (first : ℕ) (done : List SsaUnit) (s : Terms) (us : List SsaUnit) → Grows s.met (terms_behind flags first done s us).met
terms-grow flags first done s [] = grows-not s.met
terms-grow flags first done s (u ∷ us) =
    let next = with_term s u (unit_term flags first done s u) in
    grows-on s.met next.met (terms_behind flags first (done ++ u ∷ []) next us).met (with-grows s u (unit_term flags first done s u)) (terms-grow flags first (done ++ u ∷ []) next us)

-- ---- one unit

-- the leaf of each load stands for what the load reads
abbrev pub LoadsStand : Env → List Bool → ℕ → (ℕ → ℕ) → List SsaUnit → List SsaUnit → ℕ → Type 0
LoadsStand env flags first numbers done [] v = Unit {0}
LoadsStand env flags first numbers done (Load a w ∷ us) v =
    (value env (leaf (bits_of w) (load_key a (first_load flags first done v a w))) ≡ numbers v)
    × LoadsStand env flags first numbers (done ++ Load a w ∷ []) us (v + 1)
LoadsStand env flags first numbers done (Store a w x ∷ us) v = LoadsStand env flags first numbers (done ++ Store a w x ∷ []) us (v + 1)
LoadsStand env flags first numbers done (Operation op w k xs ∷ us) v = LoadsStand env flags first numbers (done ++ Operation op w k xs ∷ []) us (v + 1)

-- what a unit gives
abbrev Gives : (ℕ → ℕ) → SsaUnit → ℕ → Type 0
Gives numbers (Load a w) n = Unit {0}
Gives numbers (Store a w x) n = n ≡ 0
Gives numbers (Operation op w k xs) n = n ≡ result_of numbers op (bits_of w) k xs

pub record Gave (u : SsaUnit) (r t : Reached) : Type 0 where
  pub given : ℕ
  pub numbers : t.numbers ≡ r.numbers ++ given ∷ []
  pub gives : Gives (slice_index r.numbers) u given

pub gave : (places : List ℕ) (u : SsaUnit) (r t : Reached) → unit_run places u r ≡ Some t → Gave u r t
gave places (Load a w) r t e =
    let went = went_well (loaded r.memory (place_of places a) (size_of w)) _ e in
    let same : reached r.memory r.numbers (number went.0) ≡ t = (let k : Some (reached r.memory r.numbers (number went.0)) ≡ Some t = went.2 in cc) in
    record { given = number went.0; numbers = ap (λ (q : Reached). q.numbers) (sym same); gives = tt }
gave places (Store a w x) r t e =
    let went = went_well (stored r.memory (place_of places a) (bytes (size_of w) (number_of (slice_index r.numbers) x))) _ e in
    let same : reached went.0 r.numbers 0 ≡ t = (let k : Some (reached went.0 r.numbers 0) ≡ Some t = went.2 in cc) in
    record { given = 0; numbers = ap (λ (q : Reached). q.numbers) (sym same); gives = refl }
gave places (Operation op w k xs) r t e =
    let n = result_of (slice_index r.numbers) op (bits_of w) k xs in
    let same : reached r.memory r.numbers n ≡ t = (let k : Some (reached r.memory r.numbers n) ≡ Some t = e in cc) in
    record { given = n; numbers = ap (λ (q : Reached). q.numbers) (sym same); gives = refl }

-- each term so far has the number of its value
abbrev pub Each : Env → List Tree → List ℕ → Type 0
Each env terms numbers = (v : ℕ) → value env (slice_index_or terms v no_term) ≡ slice_index numbers v

wanted-means : (env : Env) (terms : List Tree) (numbers : List ℕ) (x : Wanted) → Each env terms numbers → value env (operand_term terms x) ≡ number_of (slice_index numbers) x
wanted-means env terms numbers (Value v) each = each v
wanted-means env terms numbers (Constant w n) each = refl
wanted-means env terms numbers Nothing each = refl

each-more : (env : Env) (terms : List Tree) (numbers : List ℕ) (t : Tree) (n : ℕ) → length numbers ≡ length terms → Each env terms numbers → value env t ≡ n → Each env (terms ++ t ∷ []) (numbers ++ n ∷ [])
each-more env [] [] t n long each e zero = e
each-more env [] [] t n long each e (suc v) = refl
each-more env [] (m ∷ numbers) t n long each e v = absurd (omega arith)
each-more env (x ∷ terms) [] t n long each e v = absurd (omega arith)
each-more env (x ∷ terms) (m ∷ numbers) t n long each e zero = each 0
each-more env (x ∷ terms) (m ∷ numbers) t n long each e (suc v) = each-more env terms numbers t n (omega arith) (λ j. each (suc j)) e v

-- widths, likewise
abbrev HasWidth : List (Option ℕ) → List Tree → Type 0
HasWidth bits terms = (v w : ℕ) → slice_index_or bits v None ≡ Some w → IsWidth w × IsTermOf w (slice_index_or terms v no_term)

width-more : (bits : List (Option ℕ)) (terms : List Tree) (b : Option ℕ) (t : Tree) → length terms ≡ length bits → HasWidth bits terms → ((w : ℕ) → b ≡ Some w → IsWidth w × IsTermOf w t) → HasWidth (bits ++ b ∷ []) (terms ++ t ∷ [])
width-more [] [] b t l h g zero w e = g w e
width-more [] [] b t l h g (suc v) w e = absurd (cc)
width-more [] (x ∷ terms) b t l h g v w e = absurd (omega arith)
width-more (a ∷ bits) [] b t l h g v w e = absurd (omega arith)
width-more (a ∷ bits) (x ∷ terms) b t l h g zero w e = h 0 w e
width-more (a ∷ bits) (x ∷ terms) b t l h g (suc v) w e = width-more bits terms b t (omega arith) (λ j. h (suc j)) g v w e

result-width : (op : Operator) (w : Width) → IsWidth (result_bits op w)
result-width (Two op) w = bits-width w
result-width (Shift op) w = bits-width w
result-width (Resize op v) w = bits-width w
result-width (Compare op) w = (omega arith, omega arith)
result-width Select w = bits-width w

-- the term of a unit, its width and its number
pub record Stands (env : Env) (u : SsaUnit) (n : ℕ) (t : Tree) : Type 0 where
  pub means : value env t ≡ n
  pub width : (w : ℕ) → unit_bits u ≡ Some w → IsWidth w × IsTermOf w t

unit-stands : (env : Env) (flags : List Bool) (first count : ℕ) (bits : List (Option ℕ)) (done : List SsaUnit) (s : Terms) (u : SsaUnit) (us : List SsaUnit) (numbers : List ℕ) (all : ℕ → ℕ) (n v : ℕ) → Stand bits s.terms → Each env s.terms numbers → ClassesMean env s.met → UnitIn count bits u
    → length s.terms ≡ v → Gives (slice_index numbers) u n → all v ≡ n → LoadsStand env flags first all done (u ∷ us) v → Stands env u n (unit_term flags first done s u)
unit-stands env flags first count bits done s (Load a w) us numbers all n v stand each classes valid long gives is loads = record {
  means = ap (λ k. value env (leaf (bits_of w) (load_key a (first_load flags first done k a w)))) long ∙ loads.0 ∙ is;
  width = λ m e. (let same : bits_of w ≡ m = cc in subst (λ k. IsWidth k × IsTermOf k (leaf (bits_of w) (load_key a (first_load flags first done (length s.terms) a w)))) same (bits-width w, leaf-term (bits_of w) _ (bits-width w)));
}
unit-stands env flags first count bits done s (Store a w x) us numbers all n v stand each classes valid long gives is loads = record { means = sym gives; width = λ m e. absurd (cc) }
unit-stands env flags first count bits done s (Operation op w k xs) us numbers all n v stand each classes valid long gives is loads =
    let x = operand_term s.terms xs.first in
    let y = operand_term s.terms xs.second in
    let z = operand_term s.terms xs.third in
    let made = computed-means env s.met op w k x y z classes (whole-fit bits s.terms op w k xs stand valid) in
    record {
      means = made.means ∙ (λ i. operation_result op (bits_of w) k (wanted-means env s.terms numbers xs.first each i) (wanted-means env s.terms numbers xs.second each i) (wanted-means env s.terms numbers xs.third each i)) ∙ sym gives;
      width = λ m e. (let same : result_bits op w ≡ m = cc in subst (λ q. IsWidth q × IsTermOf q (computed s.met op (bits_of w) k x y z)) same (result-width op w, made.is));
    }

-- ---- the run

-- what holds of the terms after a run
pub record AllMean (env : Env) (bits : List (Option ℕ)) (terms : List Tree) (numbers : List ℕ) : Type 0 where
  pub stand : Stand bits terms
  pub each : Each env terms numbers

behind-loads : (env : Env) (flags : List Bool) (first : ℕ) (all : ℕ → ℕ) (done : List SsaUnit) (u : SsaUnit) (us : List SsaUnit) (v : ℕ) → LoadsStand env flags first all done (u ∷ us) v → LoadsStand env flags first all (done ++ u ∷ []) us (v + 1)
behind-loads env flags first all done (Load a w) us v h = h.1
behind-loads env flags first all done (Store a w x) us v h = h
behind-loads env flags first all done (Operation op w k xs) us v h = h

-- what a unit meets is well-formed
unit-met : (env : Env) (s : Terms) (u : SsaUnit) (t : Tree) (n : ℕ) → Stands env u n t → AllFormed s.met
    → AllFormed (with_term s u t).met
unit-met env s (Load a w) t n stands met = formed-with s.met t met (stands.width (bits_of w) refl).1.well_formed
unit-met env s (Store a w x) t n stands met = met
unit-met env s (Operation op w k xs) t n stands met = formed-with s.met t met
    (stands.width (result_bits op w) refl).1.well_formed

pub terms-mean : (env : Env) (flags : List Bool) (first count : ℕ) (places : List ℕ) (bits : List (Option ℕ)) (done : List SsaUnit) (s : Terms) (us : List SsaUnit) (r t : Reached) → AllMean env bits s.terms r.numbers → length r.numbers ≡ length s.terms → UnitsIn count bits us
    → ClassesMean env (terms_behind flags first done s us).met → LoadsStand env flags first (slice_index t.numbers) done us (length r.numbers) → run_units places us r ≡ Some t
    → AllMean env (bits ++ map unit_bits us) (terms_behind flags first done s us).terms t.numbers
    × (AllFormed s.met → AllFormed (terms_behind flags first done s us).met)
unfolding run_units
terms-mean env flags first count places bits done s [] r t h long units classes loads run =
    let same : r ≡ t = cc in (
      subst (λ (q : Reached). AllMean env (bits ++ []) s.terms q.numbers) same
          (subst (λ l. AllMean env l s.terms r.numbers) (sym (append-nil bits)) h),
      λ met. met,
    )
terms-mean env flags first count places bits done s (u ∷ us) r t h long units classes loads run =
    let went = went_well (unit_run places u r) (run_units places us) run in
    let mid = went.0 in
    let g = gave places u r mid went.1 in
    let more = more-numbers places us mid t went.2 in
    let v = length r.numbers in
    let own = unit_term flags first done s u in
    let next = with_term s u own in
    let rest = terms_behind flags first (done ++ u ∷ []) next us in
    let front = classes-front env s.met rest.met (grows-on s.met next.met rest.met (with-grows s u own) (terms-grow flags first (done ++ u ∷ []) next us)) classes in
    let size : length mid.numbers ≡ v + 1 = ap length g.numbers ∙ length_push r.numbers g.given in
    let given : slice_index t.numbers v ≡ g.given =
    ap (λ l. slice_index l v) (more.1 ∙ ap (λ l. l ++ more.0) g.numbers) ∙ get_or_append_left (r.numbers ++ g.given ∷ []) more.0 0 v (let l = length_push r.numbers g.given in omega arith) ∙ get_or_push r.numbers g.given 0 v refl in
    let stands = unit-stands env flags first count bits done s u us r.numbers (slice_index t.numbers) g.given v h.stand h.each front units.0 (sym long) g.gives given loads in
    let after : AllMean env (bits ++ unit_bits u ∷ []) next.terms mid.numbers = record {
      stand = record {
        long = (let a = length_push bits (unit_bits u) in let b = length_push s.terms own in let c = h.stand.long in omega arith);
        each = width-more bits s.terms (unit_bits u) own h.stand.long h.stand.each stands.width;
      };
      each = subst (Each env (s.terms ++ own ∷ [])) (sym g.numbers) (each-more env s.terms r.numbers own g.given long h.each stands.means);
    } in
    let behind =
    terms-mean env flags first count places (bits ++ unit_bits u ∷ []) (done ++ u ∷ []) next us mid t after
    (let b = length_push s.terms own in omega arith) units.1 classes
    (subst (LoadsStand env flags first (slice_index t.numbers) (done ++ u ∷ []) us) (sym size)
    (behind-loads env flags first (slice_index t.numbers) done u us v loads)) went.2 in (
      subst (λ l. AllMean env l rest.terms t.numbers) (append_assoc bits (unit_bits u ∷ []) (map unit_bits us))
          behind.0,
      (λ met. behind.1 (unit-met env s u own g.given stands met)),
    )
