-- What a program stores has the bytes that the kernel stores, where the stored terms are equal.
use Rattle.std.proofs.Common.{◌≡◌, ℕ, ◌+◌, ◌-◌, ◌*◌, ◌<◌, ◌≤◌, Bool, true, false, List, [], ◌∷◌, ◌++◌, length, map, Some, None, refl, sym, ap, subst, ◌∙◌, inl, inr, arith, append_assoc, append-nil, length-append}
use Rattle.std.specs.Prelude.{if◌then◌else◌, slice_index, slice_index_or, ◌||◌}
use Rattle.std.specs.List.{list_any}
use Rattle.std.proofs.lemmas.Bool.{cases_Bool, cases_lt, cond-false}
use Rattle.std.proofs.lemmas.List.{map-append}
use Rattle.vg_base.specs.declared.address.Address.{Address}
use Rattle.vg_base.specs.declared.width.Width.{Width}
use Rattle.vg_base.specs.Bits.{bits, bits_of_bytes, bytes, num}
use Rattle.vg_base.specs.Trap.{◌>>=◌}
use Rattle.vg_base.specs.Width.{bits_of, size_of}
use Rattle.vg_bits.proofs.ByteLists.{bits_of_bytes-bytes, length-bytes}
use Rattle.vg_terms.specs.declared.value.Env.{Env}
use Rattle.vg_terms.specs.Term.{Tree, WellFormed}
use Rattle.vg_terms.specs.Value.{value}
use Rattle.vg_program.specs.declared.line.Line.{Line}
use Rattle.vg_program.specs.declared.line.Line.TheVariants as line
use Rattle.vg_program.specs.Before.{Before, with_defined}
use Rattle.vg_program.specs.Meaning.{Instructions}
use Rattle.vg_program.specs.Text.{defined}
use Rattle.vg_program.specs.Valid.{AreLines, IsLine}
use Rattle.vg_shapes.specs.declared.ssa.Ssa.{Ssa}
use Rattle.vg_shapes.specs.declared.ssa_unit.SsaUnit.{SsaUnit}
use Rattle.vg_shapes.specs.declared.ssa_unit.SsaUnit.TheVariants.{Load, Store, Operation}
use Rattle.vg_shapes.specs.declared.wanted.Wanted.{Wanted}
use Rattle.vg_shapes.specs.Layout.{access_of}
use Rattle.vg_shapes.specs.Order.{count_of, numbers_from, Stands}
use Rattle.vg_shapes.specs.RunUnits.{number_of}
use Rattle.vg_shapes.specs.Units.{arguments, unit_at}
use Rattle.vg_order_laws.proofs.Runs.{unit-there}
use Rattle.vg_order_laws.proofs.Sequences.{count_of-append}
use Rattle.vg_ssa.specs.Fitting.{IsTermOf}
use Rattle.vg_ssa.specs.ValueTerm as kernel
use Rattle.vg_lift.specs.Gather.{Bit, bits_from}
use Rattle.vg_lift.proofs.Joining.{bits_from-formed, length-bits_from}
use Rattle.vg_shapes.specs.Registers.{Reads}
use Rattle.vg_catalog.specs.Called.{headers_of}
use Rattle.vg_events.specs.Events.{kernel_labels, Label, label_at, labels_in, unit_labels}
use Rattle.vg_events.specs.Lines.{line_access}
use Rattle.vg_events.specs.Pairs.{ArePaired, IsPaired, joined}
use Rattle.vg_events.specs.Steps.{all_bytes, unit_bytes}
use Rattle.vg_events.specs.UnitOrder.{spans, unit_events}
use Rattle.vg_events.proofs.Ranks.{number-inside, numbers-inside}
use Rattle.vg_events.proofs.Runs.{length-unit_bytes, length-unit_labels}
use Rattle.vg_events.proofs.Steps.{bytes-numbers, labelled-numbers, length-numbers_from}
use Rattle.vg_known.specs.Cuts.{gathered}
use Rattle.vg_known.specs.Difference.{Equality, is_opaque_call, own_term, put_term, Sides, value as differs, value_by}
use Rattle.vg_known.specs.Kernels.{bits_at}
use Rattle.vg_known.specs.Known.{event_bits, Given, know, know_all, Known, known_bits, with_scalar}
use Rattle.vg_known.specs.Laws.{CallsAreTold}
use Rattle.vg_known.proofs.Calls.{call-fits}
use Rattle.vg_known.proofs.Fitting.{CallBits, events-formed, Fitted, GivenFormed, IsByte, line-fits, PairsFormed}
use Rattle.vg_known.proofs.Follow.{CallFits, eight-size, few-bits, KnownFits, labelled-writes, ScalarsFit, some-bits, whole-image}
use Rattle.vg_known.proofs.Formed.{formed-with, formed-with_all}
use Rattle.vg_known.proofs.Means.{each-has, same-image}
use Rattle.vg_known.specs.Calls.{call_terms}
use Rattle.vg_known.specs.Classes.{AllFormed, ClassesMean}
use Rattle.vg_known.proofs.Values.{gathered-means, image}
use Rattle.vg_known.proofs.Walk.{CallsFit, classes-front, grows-on, keys, know-grows, know-puts, know_all-grows, know_all-puts, line_puts, pairs-keys, same-params}

-- ---- calls

or-parts : (a b : Bool) → (a || b) ≡ false → (a ≡ false) × (b ≡ false)
or-parts true b h = absurd (cc)
or-parts false b h = (refl, h)

same-headers : (b : Before) (l : Line) → (with_defined b (defined l)).headers ≡ b.headers
same-headers b (line.Load w a) = refl
same-headers b (line.Store w a x) = refl
same-headers b (line.Two op w x y) = refl
same-headers b (line.Shift op w x n) = refl
same-headers b (line.Resize op w from x) = refl
same-headers b (line.Compare op w x y) = refl
same-headers b (line.Select w c x y) = refl
same-headers b (line.VectorLoad z a) = refl
same-headers b (line.VectorStore z a v) = refl
same-headers b (line.Constant bs) = refl
same-headers b (line.Insert v long n w x) = refl
same-headers b (line.Extract v n w) = refl
same-headers b (line.Call name vs imm long cost) = refl

line-calls : (called : Instructions) (env : Env) (g : Given) (b : Before) (l : Line) (k : Known) → Reads env [] → CallsAreTold called g.entries → b.headers ≡ headers_of g.entries → IsLine b l → is_opaque_call g.entries l ≡ false → KnownFits b k → ClassesMean env k.met → CallFits env called g b l k
line-calls called env g b (line.Call name vs imm long cost) k nothing told same valid plain fits classes = call-fits called env g b name vs imm long cost k nothing told same valid plain fits classes
line-calls called env g b (line.Load w a) k nothing told same valid plain fits classes = tt
line-calls called env g b (line.Store w a x) k nothing told same valid plain fits classes = tt
line-calls called env g b (line.Two op w x y) k nothing told same valid plain fits classes = tt
line-calls called env g b (line.Shift op w x n) k nothing told same valid plain fits classes = tt
line-calls called env g b (line.Resize op w from x) k nothing told same valid plain fits classes = tt
line-calls called env g b (line.Compare op w x y) k nothing told same valid plain fits classes = tt
line-calls called env g b (line.Select w c x y) k nothing told same valid plain fits classes = tt
line-calls called env g b (line.VectorLoad z a) k nothing told same valid plain fits classes = tt
line-calls called env g b (line.VectorStore z a v) k nothing told same valid plain fits classes = tt
line-calls called env g b (line.Constant bs) k nothing told same valid plain fits classes = tt
line-calls called env g b (line.Insert v long n w x) k nothing told same valid plain fits classes = tt
line-calls called env g b (line.Extract v n w) k nothing told same valid plain fits classes = tt

call-bits : (called : Instructions) (env : Env) (g : Given) (b : Before) (l : Line) (k : Known) → CallFits env called g b l k → CallBits g l k
call-bits called env g b (line.Call name vs imm long cost) k h = h.0
call-bits called env g b (line.Load w a) k h = tt
call-bits called env g b (line.Store w a x) k h = tt
call-bits called env g b (line.Two op w x y) k h = tt
call-bits called env g b (line.Shift op w x n) k h = tt
call-bits called env g b (line.Resize op w from x) k h = tt
call-bits called env g b (line.Compare op w x y) k h = tt
call-bits called env g b (line.Select w c x y) k h = tt
call-bits called env g b (line.VectorLoad z a) k h = tt
call-bits called env g b (line.VectorStore z a v) k h = tt
call-bits called env g b (line.Constant bs) k h = tt
call-bits called env g b (line.Insert v long n w x) k h = tt
call-bits called env g b (line.Extract v n w) k h = tt

pub calls-fit : (called : Instructions) (env : Env) (g : Given) (b : Before) (xs : List Line) (ess : List (List ℕ)) (k : Known) → Reads env [] → CallsAreTold called g.entries → b.headers ≡ headers_of g.entries → AreLines b xs → list_any (is_opaque_call g.entries) xs ≡ false → CallsFit env called g b xs ess k
calls-fit called env g b [] ess k nothing told same valid plain = tt
calls-fit called env g b (l ∷ xs) [] k nothing told same valid plain = tt
calls-fit called env g b (l ∷ xs) (es ∷ ess) k nothing told same valid plain =
    let parts = or-parts (is_opaque_call g.entries l) (list_any (is_opaque_call g.entries) xs) plain in (
      (λ fits classes. line-calls called env g b l k nothing told same valid.0 parts.0 fits classes),
      calls-fit called env g (with_defined b (defined l)) xs ess (know g l es k) nothing told (same-headers b l ∙ same) valid.1 parts.1,
    )

-- ---- what is met and what is stored is formed

last-formed : (ws : List ℕ) (ts : List Tree) (t : Tree) → ScalarsFit ws (ts ++ t ∷ []) → WellFormed t
last-formed [] [] t h = absurd (cc)
last-formed [] (x ∷ ts) t h = absurd (cc)
last-formed (w ∷ ws) [] t h = h.0.well_formed
last-formed (w ∷ ws) (x ∷ ts) t h = last-formed ws ts t h.1

scalar-formed : (b : Before) (k : Known) (t : Tree) → AllFormed k.met → ScalarsFit b.scalars (k.scalars ++ t ∷ [])
    → AllFormed (with_scalar k t).met
scalar-formed b k t h fits = formed-with k.met t h (last-formed b.scalars k.scalars t fits)

line-met-formed : (called : Instructions) (env : Env) (g : Given) (b : Before) (l : Line) (es : List ℕ) (k : Known)
    → AllFormed k.met → Fitted (with_defined b (defined l)) (know g l es k) → CallFits env called g b l k
    → AllFormed (know g l es k).met
line-met-formed called env g b (line.Load w a) es k h fitted call = scalar-formed
    (with_defined b (defined (line.Load w a))) k _ h fitted.fits.scalars
line-met-formed called env g b (line.Store w a x) es k h fitted call = h
line-met-formed called env g b (line.Two op w x y) es k h fitted call = scalar-formed
    (with_defined b (defined (line.Two op w x y))) k _ h fitted.fits.scalars
line-met-formed called env g b (line.Shift op w x n) es k h fitted call = scalar-formed
    (with_defined b (defined (line.Shift op w x n))) k _ h fitted.fits.scalars
line-met-formed called env g b (line.Resize op w from x) es k h fitted call = scalar-formed
    (with_defined b (defined (line.Resize op w from x))) k _ h fitted.fits.scalars
line-met-formed called env g b (line.Compare op w x y) es k h fitted call = scalar-formed
    (with_defined b (defined (line.Compare op w x y))) k _ h fitted.fits.scalars
line-met-formed called env g b (line.Select w c x y) es k h fitted call = scalar-formed
    (with_defined b (defined (line.Select w c x y))) k _ h fitted.fits.scalars
line-met-formed called env g b (line.VectorLoad z a) es k h fitted call = h
line-met-formed called env g b (line.VectorStore z a v) es k h fitted call = h
line-met-formed called env g b (line.Constant bs) es k h fitted call = h
line-met-formed called env g b (line.Insert v long n w x) es k h fitted call = h
line-met-formed called env g b (line.Extract v n w) es k h fitted call = scalar-formed
    (with_defined b (defined (line.Extract v n w))) k _ h fitted.fits.scalars
line-met-formed called env g b (line.Call name vs imm long cost) es k h fitted call =
    formed-with_all k.met (call_terms g.entries k.met name imm (map (known_bits k) vs)) h call.2

pub walk-formed : (called : Instructions) (env : Env) (g : Given) (b : Before) (ls : List Label) (xs : List Line) (ess : List (List ℕ)) (k : Known) → GivenFormed env g b.params ls → Fitted b k → ClassesMean env (know_all g xs ess k).met → AreLines b xs → ArePaired ls (map line_access xs) ess
    → ((e : ℕ) → Stands e (joined ess) → e < length ls) → CallsFit env called g b xs ess k → AllFormed k.met
    → PairsFormed (know_all g xs ess k).puts × AllFormed (know_all g xs ess k).met
walk-formed called env g b ls [] [] k given h classes valid paired inside calls met = (h.puts, met)
walk-formed called env g b ls [] (es ∷ ess) k given h classes valid paired inside calls met = absurd paired
walk-formed called env g b ls (l ∷ xs) [] k given h classes valid paired inside calls met = absurd paired
walk-formed called env g b ls (l ∷ xs) (es ∷ ess) k given h classes valid paired inside calls met =
    let next = know g l es k in
    let front = classes-front env k.met (know_all g xs ess next).met (grows-on k.met next.met (know_all g xs ess next).met (know-grows g l es k) (know_all-grows g xs ess next)) classes in
    let call = calls.0 h.fits front in
    let fitted = line-fits env g b ls l es k given h front valid.0 paired.0 (λ e s. inside e (let c = count_of-append e es (joined ess) in omega arith)) (call-bits called env g b l k call) in
    walk-formed called env g (with_defined b (defined l)) ls xs ess next (subst (λ ps. GivenFormed env g ps ls) (sym (same-params b l)) given) fitted classes valid.1 paired.1 (λ e s. inside e (let c = count_of-append e es (joined ess) in omega arith)) calls.1
    (line-met-formed called env g b l es k met fitted call)

none-there : (es : List ℕ) (e : ℕ) → es ≡ [] → Stands e es → ⊥
none-there [] e h s = omega arith
none-there (x ∷ es) e h s = absurd (cc)

-- each event of a store line is in the table
line-keys : (g : Given) (ls : List Label) (l : Line) (es : List ℕ) (k : Known) (e : ℕ) → IsPaired ls (line_access l) es → Stands e es → (label_at ls e).writes ≡ true → count_of e (keys (line_puts g l es k)) ≡ count_of e es
line-keys g ls (line.Load w a) es k e paired s writes = absurd (let no = labelled-writes ls false a es paired.1 e s in let both : false ≡ true = sym no ∙ writes in cc)
line-keys g ls (line.VectorLoad z a) es k e paired s writes = absurd (let no = labelled-writes ls false a es paired.1 e s in let both : false ≡ true = sym no ∙ writes in cc)
line-keys g ls (line.Store w a x) es k e paired s writes = ap (count_of e) (pairs-keys es _)
line-keys g ls (line.VectorStore z a v) es k e paired s writes = ap (count_of e) (pairs-keys es _)
line-keys g ls (line.Two op w x y) es k e paired s writes = absurd (none-there es e paired s)
line-keys g ls (line.Shift op w x n) es k e paired s writes = absurd (none-there es e paired s)
line-keys g ls (line.Resize op w from x) es k e paired s writes = absurd (none-there es e paired s)
line-keys g ls (line.Compare op w x y) es k e paired s writes = absurd (none-there es e paired s)
line-keys g ls (line.Select w c x y) es k e paired s writes = absurd (none-there es e paired s)
line-keys g ls (line.Constant bs) es k e paired s writes = absurd (none-there es e paired s)
line-keys g ls (line.Insert v long n w x) es k e paired s writes = absurd (none-there es e paired s)
line-keys g ls (line.Extract v n w) es k e paired s writes = absurd (none-there es e paired s)
line-keys g ls (line.Call name vs imm long cost) es k e paired s writes = absurd (none-there es e paired s)

count-keys : (ps qs : List (ℕ × List Bit)) (e : ℕ) → count_of e (keys (ps ++ qs)) ≡ count_of e (keys ps) + count_of e (keys qs)
count-keys ps qs e = ap (count_of e) (map-append (λ (p : ℕ × List Bit). p.0) ps qs) ∙ count_of-append e (keys ps) (keys qs)

pub puts-there : (g : Given) (ls : List Label) (xs : List Line) (ess : List (List ℕ)) (k : Known) (e : ℕ) → ArePaired ls (map line_access xs) ess → Stands e (joined ess) → (label_at ls e).writes ≡ true → Stands e (keys (know_all g xs ess k).puts)
puts-there g ls [] [] k e paired s writes = absurd (omega arith)
puts-there g ls [] (es ∷ ess) k e paired s writes = absurd paired
puts-there g ls (l ∷ xs) [] k e paired s writes = absurd paired
puts-there g ls (l ∷ xs) (es ∷ ess) k e paired s writes =
    let next = know g l es k in
    elim (cases_lt 0 (count_of e es)) [
      | inl here ↦
          let grown = know_all-puts g xs ess next in
          let a = ap (λ ps. count_of e (keys ps)) grown.1 ∙ count-keys next.puts grown.0 e in
          let b = ap (λ ps. count_of e (keys ps)) (know-puts g l es k) ∙ count-keys k.puts (line_puts g l es k) e in
          let c = line-keys g ls l es k e paired.0 here writes in
          omega arith
      | inr later ↦ puts-there g ls xs ess next e paired.1 (let c = count_of-append e es (joined ess) in omega arith) writes
    ]

-- ---- stores of the kernel

-- the events of the unit after these
pub span-at : (f : ℕ) (done : List SsaUnit) (u : SsaUnit) (us : List SsaUnit) → slice_index_or (spans f (map access_of (done ++ u ∷ us))) (length done) [] ≡ numbers_from (f + length (unit_labels done)) (length (labels_in (access_of u)))
span-at f [] u us = ap (λ n. numbers_from n (length (labels_in (access_of u)))) (let e : f ≡ f + 0 = omega arith in e)
span-at f (d ∷ done) u us =
    span-at (f + length (labels_in (access_of d))) done u us
    ∙ ap (λ n. numbers_from n (length (labels_in (access_of u)))) (let l = length-append (labels_in (access_of d)) (unit_labels done) in let e : f + length (labels_in (access_of d)) + length (unit_labels done) ≡ f + length (labels_in (access_of d) ++ unit_labels done) = omega arith in e)

labels-split : (done : List SsaUnit) (u : SsaUnit) (us : List SsaUnit) → unit_labels (done ++ u ∷ us) ≡ unit_labels done ++ (labels_in (access_of u) ++ unit_labels us)
labels-split [] u us = refl
labels-split (d ∷ done) u us = ap (λ l. labels_in (access_of d) ++ l) (labels-split done u us) ∙ sym (append_assoc (labels_in (access_of d)) (unit_labels done) (labels_in (access_of u) ++ unit_labels us))

-- the two terms of a store have one value
equal-values : (env : Env) (equal : Equality) (s : Sides) (ssa : Ssa) (v : ℕ) (own : Tree)
    → (equal s.known.met own (put_term s ssa v) ≡ true → value env own ≡ value env (put_term s ssa v)) →
    (unit_at ssa v >>= own_term s) ≡ Some own → value_by equal s ssa v ≡ None
    → value env own ≡ value env (put_term s ssa v)
equal-values env equal s ssa v own sound is none = elim (cases_Bool (equal s.known.met own (put_term s ssa v))) [
  | inl t ↦ sound t
  | inr f ↦ absurd (
      let there : value_by equal s ssa v ≡ Some (differs v own (put_term s ssa v)) =
      ap (λ o. o >>= λ x. if equal s.known.met x (put_term s ssa v) then None else Some
      (differs v x (put_term s ssa v))) is ∙ cond-false _ _ _ f in
      let both : None ≡ Some (differs v own (put_term s ssa v)) = sym none ∙ there in cc)
]

-- what is known of both sides in a run
pub record Stored (env : Env) (equal : Equality) (ssa : Ssa) (s : Sides) (numbers : ℕ → ℕ) : Type 0 where
  pub nothing_read : Reads env []
  pub classes : ClassesMean env s.known.met
  pub formed : (e : ℕ) → e < length (kernel_labels ssa) → (label_at (kernel_labels ssa) e).writes ≡ true → IsByte (bits_at s.known.puts e)
  pub same : (v : ℕ) → arguments ssa ≤ v → v < arguments ssa + length ssa.units → value_by equal s ssa v ≡ None
  pub sound : (t u : Tree) → WellFormed t → WellFormed u → equal s.known.met t u ≡ true → value env t ≡ value env u

store-has : (env : Env) (equal : Equality) (ssa : Ssa) (s : Sides) (numbers : ℕ → ℕ) (all : List ℕ)
    (done us : List SsaUnit) (a : Address) (w : Width) (x : Wanted) (before more : List ℕ)
    → Stored env equal ssa s numbers → ssa.units ≡ done ++ Store a w x ∷ us
    → IsTermOf (bits_of w) (kernel.operand_term s.terms x) → value env (kernel.operand_term s.terms x) ≡ number_of numbers x → all ≡ before ++ (bytes (size_of w) (number_of numbers x) ++ more) → length before ≡ length (unit_labels done)
    → (e : ℕ) → Stands e (numbers_from (length (unit_labels done)) (size_of w)) → image env (bits_at s.known.puts e) ≡ bits 8 (slice_index all e)
store-has env equal ssa s numbers all done us a w x before more h whole is means bytes_are long =
    let n = size_of w in
    let f = length (unit_labels done) in
    let u = Store a w x in
    let es = numbers_from f n in
    let v = arguments ssa + length done in
    let there = unit-there ssa done u us v whole refl in
    let events : unit_events ssa v ≡ es =
    (λ i. slice_index_or (spans 0 (map access_of (whole i))) ((let k : v - arguments ssa ≡ length done = omega arith in k) i) [])
    ∙ span-at 0 done u us ∙ (λ i. numbers_from ((let k : 0 + f ≡ f = omega arith in k) i) (length-unit_labels u i)) in
    let labelled = labelled-numbers (kernel_labels ssa) (unit_labels done) (unit_labels us) true a n f (ap unit_labels whole ∙ labels-split done u us) refl in
    let size : length (kernel_labels ssa) ≡ f + (n + length (unit_labels us)) = ap length (ap unit_labels whole ∙ labels-split done u us) ∙ length-append (unit_labels done) (labels_in (access_of u) ++ unit_labels us) ∙ ap (λ k. f + k) (length-append (labels_in (access_of u)) (unit_labels us) ∙ ap (λ k. k + length (unit_labels us)) (length-unit_labels u)) in
    let puts = bits_at s.known.puts in
    let eight : (e : ℕ) → Stands e es → IsByte (puts e) = λ e st. h.formed e (let k = number-inside e f n st in omega arith) (labelled-writes (kernel_labels ssa) true a es labelled e st) in
    let are = events-formed puts es eight in
    let term = kernel.operand_term s.terms x in
    let own = bits_from term 0 (bits_of w) in
    let own_long = length-bits_from term 0 (bits_of w) in
    let put_long : length (event_bits puts es) ≡ bits_of w = are.0 ∙ ap (λ k. 8 * k) (length-numbers_from f n) ∙ eight-size w in
    let own_formed = bits_from-formed [] term 0 (bits_of w) is.well_formed (omega (arith, is.width)) in
    let left = gathered-means env s.known.met own h.nothing_read h.classes own_formed (omega (arith, own_long, some-bits w)) (omega (arith, own_long, few-bits w)) in
    let right = gathered-means env s.known.met (event_bits puts es) h.nothing_read h.classes are.1 (omega (arith, put_long, some-bits w)) (omega (arith, put_long, few-bits w)) in
    let put_formed : WellFormed (put_term s ssa v) = subst (λ l. WellFormed (gathered s.known.met (event_bits puts l)))
    (sym events) right.is.well_formed in
    let values : value env (gathered s.known.met own) ≡ value env (gathered s.known.met (event_bits puts es)) =
    equal-values env equal s ssa v (gathered s.known.met own)
    (h.sound (gathered s.known.met own) (put_term s ssa v) left.is.well_formed put_formed)
    (ap (λ o. o >>= own_term s) there)
    (h.same v (omega arith) (let l = ap length whole ∙ length-append done (u ∷ us) in omega arith))
    ∙ ap (λ l. value env (gathered s.known.met (event_bits puts l))) events in
    let numbers_same : num (image env (event_bits puts es)) ≡ num (image env own) = sym right.means ∙ sym values
    ∙ left.means in
    let mine : map (slice_index all) es ≡ bytes n (number_of numbers x) =
    ap (λ k. map (slice_index all) (numbers_from f k)) (sym (length-bytes n (number_of numbers x))) ∙ bytes-numbers all before (bytes n (number_of numbers x)) more f bytes_are long in
    let images : image env (event_bits puts es) ≡ bits_of_bytes (map (slice_index all) es) =
    same-image env (event_bits puts es) own are.1 own_formed (put_long ∙ sym own_long) numbers_same ∙ whole-image env term (bits_of w) ∙ ap (bits (bits_of w)) means
    ∙ ap (λ k. bits k (number_of numbers x)) (sym (eight-size w)) ∙ sym (bits_of_bytes-bytes n (number_of numbers x)) ∙ ap bits_of_bytes (sym mine) in
    each-has env puts (slice_index all) es (λ e st. (eight e st).0) images

-- the terms of what is stored have their widths and numbers
abbrev pub StoresMean : Env → (ℕ → ℕ) → List Tree → List SsaUnit → Type 0
StoresMean env numbers ts [] = Unit {0}
StoresMean env numbers ts (Load a w ∷ us) = StoresMean env numbers ts us
StoresMean env numbers ts (Store a w x ∷ us) = (IsTermOf (bits_of w) (kernel.operand_term ts x) × (value env (kernel.operand_term ts x) ≡ number_of numbers x)) × StoresMean env numbers ts us
StoresMean env numbers ts (Operation op w k xs ∷ us) = StoresMean env numbers ts us

rest-mean : (env : Env) (numbers : ℕ → ℕ) (ts : List Tree) (u : SsaUnit) (us : List SsaUnit) → StoresMean env numbers ts (u ∷ us) → StoresMean env numbers ts us
rest-mean env numbers ts (Load a w) us h = h
rest-mean env numbers ts (Store a w x) us h = h.1
rest-mean env numbers ts (Operation op w k xs) us h = h

at-unit : (env : Env) (equal : Equality) (ssa : Ssa) (s : Sides) (numbers : ℕ → ℕ) (all : List ℕ) (done : List SsaUnit)
    (u : SsaUnit) (us : List SsaUnit) (before : List ℕ) (v : ℕ) → Stored env equal ssa s numbers
    → ssa.units ≡ done ++ u ∷ us → StoresMean env numbers s.terms (u ∷ us)
    → all ≡ before ++ all_bytes numbers v (u ∷ us) → length before ≡ length (unit_labels done)
    → (e : ℕ) → length (unit_labels done) ≤ e → e < length (unit_labels done) + length (labels_in (access_of u)) → (label_at (kernel_labels ssa) e).writes ≡ true → image env (bits_at s.known.puts e) ≡ bits 8 (slice_index all e)
at-unit env equal ssa s numbers all done (Load a w) us before v h whole mean bytes_are long e low high writes =
    let u = Load a w in
    let f = length (unit_labels done) in
    let labelled = labelled-numbers (kernel_labels ssa) (unit_labels done) (unit_labels us) false a (size_of w) f (ap unit_labels whole ∙ labels-split done u us) refl in
    let one = numbers-inside e f (size_of w) low (let l = length-unit_labels u in omega arith) in
    absurd (let reads = labelled-writes (kernel_labels ssa) false a (numbers_from f (size_of w)) labelled e (omega arith) in let both : false ≡ true = sym reads ∙ writes in cc)
at-unit env equal ssa s numbers all done (Store a w x) us before v h whole mean bytes_are long e low high writes =
    let one = numbers-inside e (length (unit_labels done)) (size_of w) low (let l = length-unit_labels (Store a w x) in omega arith) in
    store-has env equal ssa s numbers all done us a w x before (all_bytes numbers (v + 1) us) h whole mean.0.0 mean.0.1
    bytes_are long e (omega arith)
at-unit env equal ssa s numbers all done (Operation op w k xs) us before v h whole mean bytes_are long e low high
    writes = absurd (omega arith)

pub stores-have : (env : Env) (equal : Equality) (ssa : Ssa) (s : Sides) (numbers : ℕ → ℕ) (all : List ℕ)
    (done us : List SsaUnit) (before : List ℕ) (v : ℕ) → Stored env equal ssa s numbers → ssa.units ≡ done ++ us
    → StoresMean env numbers s.terms us → all ≡ before ++ all_bytes numbers v us
    → length before ≡ length (unit_labels done)
    → (e : ℕ) → length (unit_labels done) ≤ e → e < length (kernel_labels ssa) → (label_at (kernel_labels ssa) e).writes ≡ true → image env (bits_at s.known.puts e) ≡ bits 8 (slice_index all e)
stores-have env equal ssa s numbers all done [] before v h whole mean bytes_are long e low high writes =
    absurd (let l = ap (λ us. length (unit_labels us)) whole ∙ ap (λ us. length (unit_labels us)) (append-nil done) in omega arith)
stores-have env equal ssa s numbers all done (u ∷ us) before v h whole mean bytes_are long e low high writes =
    let f = length (unit_labels done) in
    let n = length (labels_in (access_of u)) in
    let own = unit_bytes numbers v u in
    let next : length (unit_labels (done ++ u ∷ [])) ≡ f + n = ap length (labels-split done u [] ∙ ap (λ l. unit_labels done ++ l) (append-nil (labels_in (access_of u)))) ∙ length-append (unit_labels done) (labels_in (access_of u)) in
    let there = length-append before own ∙ (λ i. long i + (length-unit_bytes numbers v u ∙ sym (length-unit_labels u)) i) ∙ sym next in
    elim (cases_lt e (f + n)) [
      | inl here ↦ at-unit env equal ssa s numbers all done u us before v h whole mean bytes_are long e low here writes
      | inr later ↦
          stores-have env equal ssa s numbers all (done ++ u ∷ []) us (before ++ own) (v + 1) h
          (whole ∙ sym (append_assoc done (u ∷ []) us)) (rest-mean env numbers s.terms u us mean)
          (bytes_are ∙ sym (append_assoc before own (all_bytes numbers (v + 1) us))) there e (omega arith) high
          writes
    ]
