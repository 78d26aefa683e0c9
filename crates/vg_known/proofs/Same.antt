-- Where there is no difference, the program means the units of the kernel.
use Rattle.std.proofs.Common.{◌≡◌, ℕ, zero, suc, ◌+◌, ◌<◌, ◌≤◌, Bool, true, false, cond, List, [], ◌∷◌, ◌++◌, length, map, take, drop, Option, Some, None, refl, sym, ap, subst, ◌∙◌, inl, inr, arith, append_assoc, append-nil, length-append}
use Rattle.std.specs.Prelude.{nat_lt, not, position, slice_index, slice_index_or, ◌||◌, ◌&&◌}
use Rattle.std.specs.List.{list_any, position_or_len}
use Rattle.std.specs.Option.{is_some, option_map}
use Rattle.std.specs.Str.{bytes_eq}
use Rattle.std.proofs.lemmas.Bool.{cases_Bool, cond-true, cond-false, eqb-true, lt-ltb}
use Rattle.std.proofs.lemmas.List.{length-drop, length-map, length_push, take_at}
use Rattle.vg_base.specs.Bits.{bits, bytes}
use Rattle.vg_base.specs.Trap.{◌>>=◌}
use Rattle.vg_base.specs.declared.width.Width.{Width}
use Rattle.vg_base.specs.Width.{bits_of, size_of}
use Rattle.vg_bits.specs.BitList.{IsBytes}
use Rattle.vg_bits.proofs.ByteLists.{IsBytes-bytes}
use Rattle.vg_terms.specs.declared.value.Env.{Env}
use Rattle.vg_terms.specs.Term.{Tree, constant, IsWidth}
use Rattle.vg_terms.specs.Value.{value}
use Rattle.vg_program.specs.declared.line.Line.{Line}
use Rattle.vg_program.specs.declared.param.Param.{Param}
use Rattle.vg_program.specs.declared.param_kind.ParamKind.{ParamKind}
use Rattle.vg_program.specs.declared.param_kind.ParamKind.TheVariants as kind
use Rattle.vg_program.specs.declared.program.Program.{Program}
use Rattle.vg_program.specs.Before.{nothing_before}
use Rattle.vg_program.specs.Meaning.{Inputs, Instructions, meaning, State}
use Rattle.vg_program.specs.Params as program
use Rattle.vg_program.specs.Valid.{KeepsRules}
use Rattle.vg_shapes.specs.declared.ssa.Ssa.{Ssa}
use Rattle.vg_shapes.specs.declared.ssa.SsaParam.{SsaParam}
use Rattle.vg_shapes.specs.declared.ssa.SsaParamKind.{SsaParamKind}
use Rattle.vg_shapes.specs.declared.ssa.SsaParamKind.TheVariants.{Pointer, Integer}
use Rattle.vg_shapes.specs.declared.ssa_unit.SsaUnit.{SsaUnit}
use Rattle.vg_shapes.specs.declared.ssa_unit.SsaUnit.TheVariants.{Load, Store, Operation}
use Rattle.vg_shapes.specs.declared.wanted.Wanted.{Wanted}
use Rattle.vg_shapes.specs.declared.wanted.Wanted.TheVariants.{Value, Constant, Nothing}
use Rattle.vg_shapes.specs.Layout.{noalias_flags, Respects}
use Rattle.vg_shapes.specs.Order.{Stands}
use Rattle.vg_shapes.specs.RunUnits.{number_of, Reached, run_units, start_of}
use Rattle.vg_shapes.specs.Sound.{AreArguments, IsSound, kind_bits, pointers, TakeEarlier, unit_bits}
use Rattle.vg_shapes.specs.Units.{arguments, integers, integers_of, is_integer}
use Rattle.vg_order_laws.proofs.Runs.{more-numbers}
use Rattle.vg_order_laws.proofs.Sequences.{count_of-numbers}
use Rattle.vg_ssa.specs.ValueTerm.{no_term}
use Rattle.vg_ssa.specs.ValueTerm as kernel
use Rattle.vg_ssa.specs.Fitting.{IsTermOf}
use Rattle.vg_ssa.proofs.OperationTerms.{bits-width}
use Rattle.vg_ssa.proofs.Terms.{constant-term, Stand}
use Rattle.vg_ssa.proofs.Typing.{number-stays, NumberIn, UnitIn, UnitsIn}
use Rattle.vg_catalog.specs.Called.{headers_of}
use Rattle.vg_catalog.specs.Entries.{Entry}
use Rattle.vg_events.specs.Events.{kernel_labels, label_at}
use Rattle.vg_events.specs.Lines.{line_access, line_labels}
use Rattle.vg_events.specs.Pairs.{joined}
use Rattle.vg_events.specs.Steps.{all_bytes}
use Rattle.vg_events.proofs.Orders.{event-inside, orders-step}
use Rattle.vg_events.proofs.Ranks.{equal-counts-pair, numbers-inside}
use Rattle.vg_events.proofs.Runs.{IsBytes-append, runs-are-events}
use Rattle.vg_events.proofs.Steps.{at-seam}
use Rattle.vg_events.proofs.Traps.{trap-together}
use Rattle.vg_events.proofs.UnitOrder.{unit-order-is-by-events}
use Rattle.vg_known.specs.Classes.{AllFormed}
use Rattle.vg_known.specs.Difference.{Equality, is_opaque_call, lines_by_rank, opaque, opaque_line, sides_of}
use Rattle.vg_known.specs.Kernels.{argument_leaves, bits_at, kernel_reads, kernel_terms, reads_from, Terms, terms_behind, unit_term, with_term}
use Rattle.vg_known.specs.Known.{Given, know_all, Known}
use Rattle.vg_known.specs.Laws.{CallsAreTold, IsSoundEquality, SameMeansUnits}
use Rattle.vg_known.specs.Params.{same_kind, same_params}
use Rattle.vg_known.proofs.Absent.{absent, Absent, none-other, none-turned, same-counts}
use Rattle.vg_known.proofs.Begin.{argument_bits, arguments-long, arguments-mean, arguments-stand, bits_behind, units-in}
use Rattle.vg_known.proofs.Below.{AreClasses}
use Rattle.vg_known.proofs.Classes.{classes-mean}
use Rattle.vg_known.proofs.Fitting.{found-formed}
use Rattle.vg_known.proofs.Follow.{HasByte, KnownFits, ScalarsFit}
use Rattle.vg_known.proofs.Means.{found-has, LoadsMean, PairsHave, reads-have, reads-there}
use Rattle.vg_known.proofs.Naming.{know_all-named, leaves-named, Named, reads-below, terms-named, TermsBelow}
use Rattle.vg_known.proofs.Reading.{argument-reads, loads-stand, reads-nothing, run_env, run_pairs}
use Rattle.vg_known.proofs.Stored.{calls-fit, puts-there, Stored, stores-have, StoresMean, walk-formed}
use Rattle.vg_known.proofs.Terms.{AllMean, Each, terms-mean}
use Rattle.vg_known.specs.WiderDifference.{equality}
use Rattle.vg_known.proofs.Values.{image}
use Rattle.vg_known.proofs.Wholes.{equalities-are-sound}
use Rattle.vg_known.proofs.Walk.{classes-front, Grows, grows-not, grows-on, know_all-grows, lines-follow}

-- ---- lists

terms-take : (n k : ℕ) (ts : List Tree) → TermsBelow n ts → TermsBelow n (take k ts)
terms-take n zero ts h = tt
terms-take n (suc k) [] h = tt
terms-take n (suc k) (t ∷ ts) h = (h.0, terms-take n k ts h.1)

terms-drop : (n k : ℕ) (ts : List Tree) → TermsBelow n ts → TermsBelow n (drop k ts)
terms-drop n zero ts h = h
terms-drop n (suc k) [] h = tt
terms-drop n (suc k) (t ∷ ts) h = terms-drop n k ts h.1

mapped-same : (env : Env) (ts : List Tree) (ns : List ℕ) → length ns ≡ length ts → Each env ts ns → map (value env) ts ≡ ns
mapped-same env [] [] long each = refl
mapped-same env [] (n ∷ ns) long each = absurd (omega arith)
mapped-same env (t ∷ ts) [] long each = absurd (omega arith)
mapped-same env (t ∷ ts) (n ∷ ns) long each = (λ i. each 0 i ∷ mapped-same env ts ns (omega arith) (λ v. each (suc v)) i)

IsBytes-all : (numbers : ℕ → ℕ) (v : ℕ) (us : List SsaUnit) → IsBytes (all_bytes numbers v us)
IsBytes-all numbers v [] = tt
IsBytes-all numbers v (Load a w ∷ us) = IsBytes-append (bytes (size_of w) (numbers v)) (all_bytes numbers (v + 1) us) (IsBytes-bytes (size_of w) (numbers v)) (IsBytes-all numbers (v + 1) us)
IsBytes-all numbers v (Store a w x ∷ us) = IsBytes-append (bytes (size_of w) (number_of numbers x)) (all_bytes numbers (v + 1) us) (IsBytes-bytes (size_of w) (number_of numbers x)) (IsBytes-all numbers (v + 1) us)
IsBytes-all numbers v (Operation op w k xs ∷ us) = IsBytes-all numbers (v + 1) us

each-small : (l : List ℕ) (k : ℕ) → IsBytes l → slice_index l k < 256
each-small [] k are = omega arith
each-small (b ∷ l) zero are = are.0
each-small (b ∷ l) (suc k) are = each-small l k are.1

none-opaque : (entries : List Entry) (p : Program) → opaque_line entries p ≡ None → list_any (is_opaque_call entries) p.lines ≡ false
none-opaque entries p h = by p.lines (mapped (position (is_opaque_call entries) p.lines) h)
  where
    mapped : (o : Option ℕ) → option_map (λ i. opaque (i + 2)) o ≡ None → o ≡ None
    mapped None e = refl
    mapped (Some i) e = absurd (cc)

    by : (xs : List Line) → position (is_opaque_call entries) xs ≡ None → list_any (is_opaque_call entries) xs ≡ false
    by xs e = elim (cases_Bool (list_any (is_opaque_call entries) xs)) [
      | inr f ↦ f
      | inl t ↦ absurd (let some : nat_lt (position_or_len (is_opaque_call entries) xs) (length xs) ≡ true = lt-ltb _ _ (any-inside xs t) in let there : position (is_opaque_call entries) xs ≡ Some (position_or_len (is_opaque_call entries) xs) = cond-true _ _ _ some in let both : None ≡ Some (position_or_len (is_opaque_call entries) xs) = sym e ∙ there in cc)
    ]
      where
        any-inside : (xs : List Line) → list_any (is_opaque_call entries) xs ≡ true → position_or_len (is_opaque_call entries) xs < length xs
        any-inside [] h = absurd (cc)
        any-inside (x ∷ xs) h = elim (cases_Bool (is_opaque_call entries x)) [
          | inl t ↦ (let at : position_or_len (is_opaque_call entries) (x ∷ xs) ≡ 0 = ap (λ b. cond (not b) ((1 + position_or_len (is_opaque_call entries) xs)) 0) t in omega arith)
          | inr f ↦
              let rest = any-inside xs (sym (ap (λ b. b || list_any (is_opaque_call entries) xs) f) ∙ h) in
              (let at : position_or_len (is_opaque_call entries) (x ∷ xs) ≡ (1 + position_or_len (is_opaque_call entries) xs) = ap (λ b. cond (not b) ((1 + position_or_len (is_opaque_call entries) xs)) 0) f in omega arith)
        ]

-- ---- parameters

and-parts : (a b : Bool) → (a && b) ≡ true → (a ≡ true) × (b ≡ true)
and-parts true b h = (refl, h)
and-parts false b h = absurd (cc)

-- the integer parameters of both sides have one width each
kinds-same : (k : SsaParamKind) (q : ParamKind) → same_kind k q ≡ true → (program.is_integer_kind q ≡ is_integer k) × (program.kind_bits q ≡ kind_bits k)
kinds-same (Pointer noalias) kind.Pointer h = (refl, refl)
kinds-same (Pointer noalias) (kind.Integer w) h = absurd (cc)
kinds-same (Integer v) kind.Pointer h = absurd (cc)
kinds-same (Integer v) (kind.Integer w) h = (refl, sym (eqb-true (bits_of v) (bits_of w) h))

same-widths : (ps : List SsaParam) (qs : List Param) → same_params ps qs ≡ true → map (λ q. program.kind_bits q.kind) (program.integers qs) ≡ map (λ p. kind_bits p.kind) (integers_of ps)
same-widths [] [] h = refl
same-widths [] (q ∷ qs) h = absurd (cc)
same-widths (p ∷ ps) [] h = absurd (cc)
same-widths (p ∷ ps) (q ∷ qs) h =
    let parts = and-parts (bytes_eq p.name q.name && same_kind p.kind q.kind) (same_params ps qs) h in
    let kinds = kinds-same p.kind q.kind (and-parts (bytes_eq p.name q.name) (same_kind p.kind q.kind) parts.0).1 in
    let rest = same-widths ps qs parts.1 in
    elim (cases_Bool (is_integer p.kind)) [
      | inl t ↦
          ap (map (λ (x : Param). program.kind_bits x.kind)) (cond-true _ _ _ (kinds.0 ∙ t))
          ∙ (λ i. kinds.1 i ∷ rest i)
          ∙ sym (ap (map (λ (x : SsaParam). kind_bits x.kind)) (cond-true _ _ _ t))
      | inr f ↦
          ap (map (λ (x : Param). program.kind_bits x.kind)) (cond-false _ _ _ (kinds.0 ∙ f)) ∙ rest
          ∙ sym (ap (map (λ (x : SsaParam). kind_bits x.kind)) (cond-false _ _ _ f))
    ]

-- the leaves of arguments fit their widths
leaves-fit : (bits : List (Option ℕ)) (ts : List Tree) (ws : List ℕ) → bits ≡ map Some ws → Stand bits ts → ScalarsFit ws ts
leaves-fit bits ts ws e stand = by ws ts (stand.long ∙ ap length e ∙ length-map ws Some) (λ v w h. (stand.each v w (ap (λ l. slice_index_or l v None) e ∙ h)).1)
  where
    by : (ws : List ℕ) (ts : List Tree) → length ts ≡ length ws → ((v w : ℕ) → slice_index_or (map Some ws) v None ≡ Some w → IsTermOf w (slice_index_or ts v no_term)) → ScalarsFit ws ts
    by [] [] long each = refl
    by [] (t ∷ ts) long each = absurd (omega arith)
    by (w ∷ ws) [] long each = absurd (omega arith)
    by (w ∷ ws) (t ∷ ts) long each = (each 0 w refl, by ws ts (omega arith) (λ v. each (suc v)))

-- ---- terms of units

wanted-term : (env : Env) (bits : List (Option ℕ)) (ts : List Tree) (numbers : List ℕ) (w : Width) (x : Wanted) → AllMean env bits ts numbers → NumberIn bits w x → IsTermOf (bits_of w) (kernel.operand_term ts x) × (value env (kernel.operand_term ts x) ≡ number_of (slice_index numbers) x)
wanted-term env bits ts numbers w (Value v) h is = ((h.stand.each v (bits_of w) is).1, h.each v)
wanted-term env bits ts numbers w (Constant m k) h is = (subst (λ n. IsTermOf n (constant m k)) is.0 (constant-term m k (subst IsWidth (sym is.0) (bits-width w)) is.1), refl)
wanted-term env bits ts numbers w Nothing h is = absurd is

stores-mean : (env : Env) (count : ℕ) (bits : List (Option ℕ)) (ts : List Tree) (numbers : List ℕ) (front : List (Option ℕ)) (us : List SsaUnit) → AllMean env bits ts numbers → bits ≡ front ++ map unit_bits us → UnitsIn count front us → StoresMean env (slice_index numbers) ts us
stores-mean env count bits ts numbers front [] h whole units = tt
stores-mean env count bits ts numbers front (u ∷ us) h whole units =
    by u whole units.0 (stores-mean env count bits ts numbers (front ++ unit_bits u ∷ []) us h (whole ∙ sym (append_assoc front (unit_bits u ∷ []) (map unit_bits us))) units.1)
  where
    by : (u : SsaUnit) → bits ≡ front ++ map unit_bits (u ∷ us) → UnitIn count front u → StoresMean env (slice_index numbers) ts us → StoresMean env (slice_index numbers) ts (u ∷ us)
    by (Load a w) e is rest = rest
    by (Operation op w k xs) e is rest = rest
    by (Store a w x) e is rest = (wanted-term env bits ts numbers w x h (subst (λ l. NumberIn l w x) (sym e) (number-stays front (map unit_bits (Store a w x ∷ us)) w x is.1)), rest)

pub index-drop : {A : Type 0} (v : ℕ) (ts : List A) (t d : A) (rest : List A) → drop v ts ≡ t ∷ rest → (slice_index_or ts v d ≡ t) × (drop (v + 1) ts ≡ rest)
index-drop zero [] t d rest h = absurd (cc)
index-drop zero (x ∷ ts) t d rest h = ((let e : x ≡ t = cc in e), (let e : ts ≡ rest = cc in e))
index-drop (suc v) [] t d rest h = absurd (cc)
index-drop (suc v) (x ∷ ts) t d rest h = let r = index-drop v ts t d rest h in (r.0, ap (λ k. drop k (x ∷ ts)) (let e : suc v + 1 ≡ suc (v + 1) = omega arith in e) ∙ r.1)

loads-mean : (env : Env) (bits : List (Option ℕ)) (all : List Tree) (numbers : List ℕ) (front : List (Option ℕ)) (us : List SsaUnit) (ts : List Tree) (v : ℕ) → AllMean env bits all numbers → bits ≡ front ++ map unit_bits us → length front ≡ v → drop v all ≡ ts → LoadsMean env (slice_index numbers) v us ts
loads-mean env bits all numbers front [] ts v h whole long at = tt
loads-mean env bits all numbers front (u ∷ us) [] v h whole long at = tt
loads-mean env bits all numbers front (u ∷ us) (t ∷ ts) v h whole long at =
    by u whole (loads-mean env bits all numbers (front ++ unit_bits u ∷ []) us ts (v + 1) h (whole ∙ sym (append_assoc front (unit_bits u ∷ []) (map unit_bits us))) (length_push front (unit_bits u) ∙ omega (arith, long)) here.1)
  where
    here : (slice_index_or all v no_term ≡ t) × (drop (v + 1) all ≡ ts)
    here = index-drop v all t no_term ts at

    by : (u : SsaUnit) → bits ≡ front ++ map unit_bits (u ∷ us) → LoadsMean env (slice_index numbers) (v + 1) us ts → LoadsMean env (slice_index numbers) v (u ∷ us) (t ∷ ts)
    by (Store a w x) e rest = rest
    by (Operation op w k xs) e rest = rest
    by (Load a w) e rest =
        let bit : slice_index_or bits v None ≡ Some (bits_of w) = (λ i. slice_index_or (e i) (sym long i) None) ∙ at-seam front (Some (bits_of w)) (map unit_bits us) None in
        ((subst (IsTermOf (bits_of w)) here.0 (h.stand.each v (bits_of w) bit).1, ap (value env) (sym here.0) ∙ h.each v), rest)

-- the kernel's terms begin with the leaves of its arguments
pub terms-front : (flags : List Bool) (first : ℕ) (done : List SsaUnit) (s : Terms) (us : List SsaUnit) → Grows s.terms (terms_behind flags first done s us).terms
terms-front flags first done s [] = grows-not s.terms
terms-front flags first done s (u ∷ us) =
    let own = unit_term flags first done s u in
    grows-on s.terms (s.terms ++ own ∷ []) (terms_behind flags first (done ++ u ∷ []) (with_term s u own) us).terms (own ∷ [], refl) (terms-front flags first (done ++ u ∷ []) (with_term s u own) us)

-- ---- what is compared

abbrev pub begin_terms : Ssa → Terms
begin_terms ssa = record { terms = argument_leaves 0 (integers ssa); met = argument_leaves 0 (integers ssa) }

abbrev pub given_of : List Entry → Ssa → Given
given_of entries ssa = record { entries = entries; arguments = take (arguments ssa) (kernel_terms ssa).terms; reads = kernel_reads ssa (kernel_terms ssa).terms }

abbrev pub nothing_known : Ssa → Known
nothing_known ssa = record { scalars = []; vectors = []; met = (kernel_terms ssa).met; puts = [] }

abbrev final : List Entry → Ssa → Program → Known
final entries ssa p = know_all (given_of entries ssa) p.lines (lines_by_rank ssa p) (nothing_known ssa)

kernel-named : (ssa : Ssa) → Named (kernel_terms ssa)
kernel-named ssa = terms-named (noalias_flags ssa) (arguments ssa) [] (begin_terms ssa) ssa.units (leaves-named 0 (integers ssa))

final-classes : (entries : List Entry) (ssa : Ssa) (p : Program) → AreClasses (final entries ssa p).met
final-classes entries ssa p =
    let named = kernel-named ssa in
    let n = length (kernel_terms ssa).met in
    (know_all-named (given_of entries ssa) p.lines (lines_by_rank ssa p) (nothing_known ssa) (record {
      arguments = terms-take n (arguments ssa) (kernel_terms ssa).terms named.terms;
      reads = reads-below n 0 ssa.units (drop (arguments ssa) (kernel_terms ssa).terms) (terms-drop n (arguments ssa) (kernel_terms ssa).terms named.terms);
      scalars = tt;
      vectors = tt;
      classes = named.classes;
    })).classes

-- a run of the kernel that is done
pub record Done (ssa : Ssa) (places memory args : List ℕ) (t : Reached) : Type 0 where
  pub bytes : IsBytes memory
  pub arguments_are : AreArguments (integers ssa) args
  pub respects : Respects ssa places
  pub runs : run_units places ssa.units (start_of memory args) ≡ Some t

abbrev env_of_run : List Entry → Ssa → Program → List ℕ → Reached → Env
env_of_run entries ssa p args t = run_env ssa args t.numbers (final entries ssa p).met

-- the leaves of arguments are well-formed
leaves-formed : (ps : List SsaParam) (ts : List Tree) → Stand (argument_bits ps) ts → AllFormed ts
leaves-formed [] [] h = tt
leaves-formed [] (t ∷ ts) h = absurd (let l = h.long in omega arith)
leaves-formed (p ∷ ps) [] h = absurd (let l = h.long in omega arith)
leaves-formed (p ∷ ps) (t ∷ ts)
    h = (
      (h.each 0 (kind_bits p.kind) refl).1.well_formed,
      leaves-formed ps ts
          (record { long = (let l = h.long in omega arith); each = λ v. h.each (suc v) }),
    )

-- the terms of the kernel have the numbers of the run, and what was met of them is well-formed
all-mean : (entries : List Entry) (ssa : Ssa) (p : Program) (places memory args : List ℕ) (t : Reached) → IsSound ssa → Done ssa places memory args t
    → AllMean (env_of_run entries ssa p args t) (bits_behind ssa ssa.units) (kernel_terms ssa).terms t.numbers
    × AllFormed (kernel_terms ssa).met
unfolding run_units
all-mean entries ssa p places memory args t sound h =
    let b = start_of memory args in
    let env = env_of_run entries ssa p args t in
    let known = final entries ssa p in
    let many = arguments-long (integers ssa) args h.arguments_are in
    let more = more-numbers places ssa.units b t h.runs in
    let classes = classes-front env (kernel_terms ssa).met known.met (know_all-grows (given_of entries ssa) p.lines (lines_by_rank ssa p) (nothing_known ssa)) (classes-mean _ known.met (final-classes entries ssa p)) in
    let loads = loads-stand ssa places more.0 known.met b b t [] ssa.units h.respects (record { whole = refl; begun = many; are = h.bytes; before = refl; after = h.runs; long = omega (arith, many) }) more.1 in
    let begins : AllMean env (argument_bits (integers ssa)) (begin_terms ssa).terms args = record {
      stand = arguments-stand ssa;
      each = arguments-mean env ssa args h.arguments_are (argument-reads ssa args t.numbers known.met);
    } in
    let units = units-in ssa [] ssa.units refl (subst (λ k. TakeEarlier k ssa.units) (let e : arguments ssa ≡ arguments ssa + 0 = omega arith in e) sound.earlier) sound.units in
    let units_here = subst (λ l. UnitsIn (length (pointers ssa)) l ssa.units) (append-nil (argument_bits (integers ssa))) units in
    let size : length args ≡ length (begin_terms ssa).terms = many ∙ sym ((arguments-stand ssa).long ∙ length-map (integers ssa) _) in
    let all =
    terms-mean env (noalias_flags ssa) (arguments ssa) (length (pointers ssa)) places (argument_bits (integers ssa)) []
    (begin_terms ssa) ssa.units b t begins size units_here classes loads h.runs in
    (all.0, all.1 (leaves-formed (integers ssa) (begin_terms ssa).terms (arguments-stand ssa)))

-- where the kernel's run is done, the program's is, with the same memory
when-done : (equal : Equality) (called : Instructions) (entries : List Entry) (ssa : Ssa) (p : Program)
    (places memory args : List ℕ) (t : Reached) → IsSoundEquality equal → IsSound ssa
    → KeepsRules (headers_of entries) p → CallsAreTold called entries → Absent equal entries ssa p
    → Done ssa places memory args t
    → meaning called p memory places args ≡ Some t.memory
unfolding meaning
when-done equal called entries ssa p places memory args t equal_sound sound rules told none h =
    let ls = kernel_labels ssa in
    let lines = lines_by_rank ssa p in
    let g = given_of entries ssa in
    let ts = (kernel_terms ssa).terms in
    let known = final entries ssa p in
    let env = env_of_run entries ssa p args t in
    let numbers = slice_index t.numbers in
    let a = arguments ssa in
    let many = arguments-long (integers ssa) args h.arguments_are in
    let all = all_bytes numbers (length args) ssa.units in
    let byte = slice_index all in
    let means = all-mean entries ssa p places memory args t sound h in
    let mean = means.0 in
    let nothing = reads-nothing ssa args t.numbers known.met in
    let classes = classes-mean (run_pairs ssa args t.numbers) known.met (final-classes entries ssa p) in
    let pairs = equal-counts-pair ls (map line_access p.lines) (same-counts ls (line_labels p.lines) none.uneven) in
    let order = unit-order-is-by-events ssa lines pairs.once (none-turned ssa lines none.turned) in
    let inside = event-inside ls (joined lines) pairs.once in
    let early = subst (λ k. TakeEarlier k ssa.units) (sym many) sound.earlier in
    let moved = orders-step ssa places byte lines h.respects pairs.once order memory ∙ runs-are-events places memory args ssa.units t h.bytes early h.runs in
    let front_long : length (argument_bits (integers ssa)) ≡ length args = length-map (integers ssa) _ ∙ sym many in
    let loads = loads-mean env (bits_behind ssa ssa.units) ts t.numbers (argument_bits (integers ssa)) ssa.units (drop (length args) ts) (length args) mean refl front_long refl in
    let reads_are : PairsHave env byte g.reads = subst (λ k. PairsHave env byte (reads_from 0 ssa.units (drop k ts))) many (reads-have env numbers all [] 0 (length args) ssa.units (drop (length args) ts) loads refl refl) in
    let size : length ts ≡ a + length ssa.units = mean.stand.long ∙ length-append (argument_bits (integers ssa)) (map unit_bits ssa.units) ∙ (λ i. length-map (integers ssa) (λ q. Some (kind_bits q.kind)) i + length-map ssa.units unit_bits i) in
    let enough : length ssa.units ≤ length (drop a ts) = omega (arith, length-drop a ts, size) in
    let has : (e : ℕ) → e < length ls → (label_at ls e).writes ≡ false → HasByte env (byte e) (bits_at g.reads e) =
    λ e l r. found-has env byte g.reads e reads_are (reads-there ls [] 0 ssa.units (drop a ts) e refl refl enough (omega arith) (omega arith) r) in
    let widths = same-widths ssa.params p.params (and-parts (bytes_eq ssa.name p.name) (same_params ssa.params p.params) none.head).1 in
    let front = terms-front (noalias_flags ssa) a [] (begin_terms ssa) ssa.units in
    let begins : take a ts ≡ (begin_terms ssa).terms = ap (take a) front.1 ∙ take_at (begin_terms ssa).terms front.0 a ((arguments-stand ssa).long ∙ length-map (integers ssa) _) in
    let fit : ScalarsFit (map (λ q. program.kind_bits q.kind) (program.integers p.params)) g.arguments =
    subst (λ ws. ScalarsFit ws g.arguments) (sym widths) (subst (ScalarsFit (map (λ q. kind_bits q.kind) (integers ssa))) (sym begins) (leaves-fit (argument_bits (integers ssa)) (begin_terms ssa).terms (map (λ q. kind_bits q.kind) (integers ssa)) (sym (map-twice (integers ssa))) (arguments-stand ssa))) in
    let args_are : map (value env) g.arguments ≡ args =
    ap (map (value env)) begins ∙ mapped-same env (begin_terms ssa).terms args (many ∙ sym ((arguments-stand ssa).long ∙ length-map (integers ssa) _)) (arguments-mean env ssa args h.arguments_are (argument-reads ssa args t.numbers known.met)) in
    let b = nothing_before (headers_of entries) p.params in
    let calls = calls-fit called env g b p.lines lines (nothing_known ssa) nothing told refl rules.lines (none-opaque entries p none.opaque_none) in
    let fits : KnownFits b (nothing_known ssa) = record { scalars = refl; vectors = refl } in
    let formed = walk-formed called env g b ls p.lines lines (nothing_known ssa)
    (record { nothing_read = nothing; arguments = fit; reads = λ e l r. ((has e l r).long, (has e l r).formed) })
    (record { fits = fits; puts = tt }) classes rules.lines pairs.paired inside calls means.1 in
    let standing : (e : ℕ) → e < length ls → Stands e (joined lines) = λ e l. (let k = pairs.once e in let one = numbers-inside e 0 (length ls) (omega arith) (omega arith) in omega arith) in
    let stored : Stored env equal ssa (sides_of entries ssa p lines) numbers = record {
      nothing_read = nothing;
      classes = classes;
      formed = λ e l w. found-formed known.puts e formed.0
          (puts-there g ls p.lines lines (nothing_known ssa) e pairs.paired (standing e l) w);
      same = none-other equal entries ssa p lines none.values;
      sound = λ x y f. equal_sound env known.met x y formed.1 classes f;
    } in
    let units = units-in ssa [] ssa.units refl (subst (λ k. TakeEarlier k ssa.units) (let e : a ≡ a + 0 = omega arith in e) sound.earlier) sound.units in
    let units_here = subst (λ l. UnitsIn (length (pointers ssa)) l ssa.units) (append-nil (argument_bits (integers ssa))) units in
    let stores = stores-mean env (length (pointers ssa)) (bits_behind ssa ssa.units) ts t.numbers (argument_bits (integers ssa)) ssa.units mean refl units_here in
    let put_bytes : (e : ℕ) → Stands e (joined lines) → (label_at ls e).writes ≡ true → image env (bits_at known.puts e) ≡ bits 8 (byte e) =
    λ e s w. stores-have env equal ssa (sides_of entries ssa p lines) numbers all [] ssa.units [] (length args) stored
    refl stores refl refl e (omega arith) (inside e s) w in
    let i : Inputs = record { places = places; args = args } in
    let follow = lines-follow env called g i b ls byte known.puts p.lines lines (nothing_known ssa) [] memory t.memory (record {
      given = record { nothing_read = nothing; arguments = fit; args = args_are; small = λ e. each-small all e (IsBytes-all numbers (length args) ssa.units); reads = has };
      known = fits;
      classes = classes;
      valid = rules.lines;
      paired = pairs.paired;
      inside = inside;
      below = λ e. omega arith;
      once = λ e. (let k = pairs.once e in let m = count_of-numbers e 0 (length ls) in omega arith);
      table_is = refl;
      put_bytes = put_bytes;
      calls = calls;
    }) moved in
    ap (λ o. o >>= λ (s : State). Some s.memory) follow
  where
    map-twice : (ps : List SsaParam) → map Some (map (λ (q : SsaParam). kind_bits q.kind) ps) ≡ argument_bits ps
    map-twice [] = refl
    map-twice (p ∷ ps) = ap (λ l. Some (kind_bits p.kind) ∷ l) (map-twice ps)

no-memory : (o : Option (List ℕ)) → is_some o ≡ false → o ≡ None
no-memory None h = refl
no-memory (Some m) h = absurd (cc)

pub same-means-units : SameMeansUnits
same-means-units more called entries ssa p sound rules told none memory places args bytes are respects = by
    (run_units places ssa.units (start_of memory args)) refl
  where
    gone : Absent (equality more) entries ssa p
    gone = absent (equality more) entries ssa p none

    by : (o : Option Reached) → run_units places ssa.units (start_of memory args) ≡ o → meaning called p memory places args ≡ (run_units places ssa.units (start_of memory args) >>= λ last. Some last.memory)
    by None e =
        let both = trap-together called p ssa.units memory places args (same-counts (kernel_labels ssa) (line_labels p.lines) gone.uneven) in
        no-memory (meaning called p memory places args) (both ∙ ap is_some e) ∙ sym (ap (λ o. o >>= λ (last : Reached). Some last.memory) e)
    by (Some t) e =
        when-done (equality more) called entries ssa p places memory args t (equalities-are-sound more) sound rules
        told gone (record { bytes = bytes; arguments_are = are; respects = respects; runs = e })
        ∙ sym (ap (λ o. o >>= λ (last : Reached). Some last.memory) e)
