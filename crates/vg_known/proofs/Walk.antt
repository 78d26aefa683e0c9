-- A walk over lines: what was met and stored stays, and the lines leave what is known of them.
use Rattle.std.proofs.Common.{◌≡◌, ℕ, ◌+◌, ◌*◌, ◌<◌, ◌≤◌, true, List, [], ◌∷◌, ◌++◌, length, map, take, drop, get_or, Some, refl, sym, ap, subst, ◌∙◌, inl, inr, arith, append_assoc, append-nil, length-append}
use Rattle.std.specs.Prelude.{nat_eq}
use Rattle.std.specs.List.{list_any}
use Rattle.std.proofs.lemmas.Bool.{cases_Bool, cond-true, cond-false, eq-eqb}
use Rattle.std.proofs.lemmas.List.{get_or_append_left, length-drop, length-take-le, map-append}
use Rattle.vg_base.specs.Bits.{bits}
use Rattle.vg_base.specs.Trap.{◌>>=◌}
use Rattle.vg_base.specs.Width.{bits_of}
use Rattle.vg_bits.proofs.Ranges.{range-halves}
use Rattle.vg_terms.specs.declared.value.Env.{Env}
use Rattle.vg_terms.specs.Order.{is_same_term}
use Rattle.vg_terms.specs.Term.{Tree, leaf, width_of, WellFormed}
use Rattle.vg_terms.specs.Value.{value}
use Rattle.vg_program.specs.declared.line.Line.{Line}
use Rattle.vg_program.specs.declared.line.Line.TheVariants.{Load, Store, Two, Shift, Resize, Compare, Select, VectorLoad, VectorStore, Constant, Insert, Extract, Call}
use Rattle.vg_program.specs.Before.{Before, with_defined}
use Rattle.vg_program.specs.Meaning.{Inputs, Instructions, run}
use Rattle.vg_program.specs.Text.{defined}
use Rattle.vg_program.specs.Valid.{AreLines, IsLine}
use Rattle.vg_program.specs.Vectors.{bytes_of, register_of}
use Rattle.vg_shapes.specs.Order.{count_of, one_if, Stands}
use Rattle.vg_shapes.specs.Sound.{cut_key}
use Rattle.vg_order_laws.specs.Sequence.{run_steps}
use Rattle.vg_order_laws.proofs.Runs.{went_well}
use Rattle.vg_order_laws.proofs.Sequences.{count_of-append}
use Rattle.vg_ssa.specs.ValueTerm.{no_term}
use Rattle.vg_lift.specs.Gather.{Bit, bits_from}
use Rattle.vg_lift.proofs.Joining.{length-bits_from}
use Rattle.vg_events.specs.Events.{Label, label_at}
use Rattle.vg_events.specs.Lines.{line_access}
use Rattle.vg_events.specs.Pairs.{ArePaired, IsPaired, joined}
use Rattle.vg_events.specs.Steps.{event_step}
use Rattle.vg_events.proofs.Steps.{run_steps-append}
use Rattle.vg_known.specs.Calls.{call_terms, met_with_all}
use Rattle.vg_known.specs.Cuts.{met_with}
use Rattle.vg_known.specs.Kernels.{bits_at, pairs_of}
use Rattle.vg_known.specs.Known.{event_bits, Given, know, know_all, Known, known_bits, operand_term}
use Rattle.vg_known.proofs.Follow.{bytes-fit, CallFits, eight-size, GivenFits, KnownFits, line-does, Puts, shown, vector-at}
use Rattle.vg_known.specs.Classes.{ClassesMean}
use Rattle.vg_known.proofs.Values.{image}

-- ---- what was met stays

abbrev pub Grows : {A : Type 0} → List A → List A → Type 0
Grows {A} old new = (more : List A) × (new ≡ old ++ more)

pub grows-not : {A : Type 0} (xs : List A) → Grows xs xs
grows-not xs = ([], sym (append-nil xs))

pub grows-on : {A : Type 0} (xs ys zs : List A) → Grows xs ys → Grows ys zs → Grows xs zs
grows-on xs ys zs f g = (f.0 ++ g.0, g.1 ∙ ap (λ l. l ++ g.0) f.1 ∙ append_assoc xs f.0 g.0)

pub met-grows : (met : List Tree) (t : Tree) → Grows met (met_with met t)
met-grows met t = elim (cases_Bool (list_any (is_same_term t) met)) [
  | inl y ↦ ([], cond-true _ _ _ y ∙ sym (append-nil met))
  | inr n ↦ (t ∷ [], cond-false _ _ _ n)
]

pub met_all-grows : (met ts : List Tree) → Grows met (met_with_all met ts)
met_all-grows met [] = grows-not met
met_all-grows met (t ∷ ts) = grows-on met (met_with met t) (met_with_all (met_with met t) ts) (met-grows met t) (met_all-grows (met_with met t) ts)

pub know-grows : (g : Given) (l : Line) (es : List ℕ) (k : Known) → Grows k.met (know g l es k).met
know-grows g (Load w a) es k = met-grows k.met _
know-grows g (Store w a x) es k = grows-not k.met
know-grows g (Two op w x y) es k = met-grows k.met _
know-grows g (Shift op w x n) es k = met-grows k.met _
know-grows g (Resize op w from x) es k = met-grows k.met _
know-grows g (Compare op w x y) es k = met-grows k.met _
know-grows g (Select w c x y) es k = met-grows k.met _
know-grows g (VectorLoad z a) es k = grows-not k.met
know-grows g (VectorStore z a v) es k = grows-not k.met
know-grows g (Constant bs) es k = grows-not k.met
know-grows g (Insert v long n w x) es k = grows-not k.met
know-grows g (Extract v n w) es k = met-grows k.met _
know-grows g (Call name vs imm long cost) es k = met_all-grows k.met (call_terms g.entries k.met name imm (map (known_bits k) vs))

pub know_all-grows : (g : Given) (ls : List Line) (ess : List (List ℕ)) (k : Known) → Grows k.met (know_all g ls ess k).met
know_all-grows g [] ess k = grows-not k.met
know_all-grows g (l ∷ ls) [] k = grows-not k.met
know_all-grows g (l ∷ ls) (es ∷ ess) k = grows-on k.met (know g l es k).met (know_all g ls ess (know g l es k)).met (know-grows g l es k) (know_all-grows g ls ess (know g l es k))

pub classes-front : (env : Env) (old new : List Tree) → Grows old new → ClassesMean env new → ClassesMean env old
classes-front env old new grows classes c less formed =
    let same : get_or new c no_term ≡ get_or old c no_term = ap (λ l. get_or l c no_term) grows.1 ∙ get_or_append_left old grows.0 no_term c less in
    let inside : c < length new = omega (arith, ap length grows.1, length-append old grows.0) in
    sym (ap (λ t. value env (leaf (width_of t) (cut_key c))) same) ∙ classes c inside (subst WellFormed (sym same) formed) ∙ ap (value env) same

-- ---- what was stored stays

-- what a line stores
abbrev pub line_puts : Given → Line → List ℕ → Known → List (ℕ × List Bit)
line_puts g (Store w a x) es k = pairs_of es (bits_from (operand_term g k x) 0 (bits_of w))
line_puts g (VectorStore z a v) es k = pairs_of es (take (8 * bytes_of z) (known_bits k v))
line_puts g (Load w a) es k = []
line_puts g (Two op w x y) es k = []
line_puts g (Shift op w x n) es k = []
line_puts g (Resize op w from x) es k = []
line_puts g (Compare op w x y) es k = []
line_puts g (Select w c x y) es k = []
line_puts g (VectorLoad z a) es k = []
line_puts g (Constant bs) es k = []
line_puts g (Insert v long n w x) es k = []
line_puts g (Extract v n w) es k = []
line_puts g (Call name vs imm long cost) es k = []

pub know-puts : (g : Given) (l : Line) (es : List ℕ) (k : Known) → (know g l es k).puts ≡ k.puts ++ line_puts g l es k
know-puts g (Load w a) es k = sym (append-nil k.puts)
know-puts g (Store w a x) es k = refl
know-puts g (Two op w x y) es k = sym (append-nil k.puts)
know-puts g (Shift op w x n) es k = sym (append-nil k.puts)
know-puts g (Resize op w from x) es k = sym (append-nil k.puts)
know-puts g (Compare op w x y) es k = sym (append-nil k.puts)
know-puts g (Select w c x y) es k = sym (append-nil k.puts)
know-puts g (VectorLoad z a) es k = sym (append-nil k.puts)
know-puts g (VectorStore z a v) es k = refl
know-puts g (Constant bs) es k = sym (append-nil k.puts)
know-puts g (Insert v long n w x) es k = sym (append-nil k.puts)
know-puts g (Extract v n w) es k = sym (append-nil k.puts)
know-puts g (Call name vs imm long cost) es k = sym (append-nil k.puts)

pub know_all-puts : (g : Given) (ls : List Line) (ess : List (List ℕ)) (k : Known) → Grows k.puts (know_all g ls ess k).puts
know_all-puts g [] ess k = grows-not k.puts
know_all-puts g (l ∷ ls) [] k = grows-not k.puts
know_all-puts g (l ∷ ls) (es ∷ ess) k = grows-on k.puts (know g l es k).puts (know_all g ls ess (know g l es k)).puts (line_puts g l es k, know-puts g l es k) (know_all-puts g ls ess (know g l es k))

-- the events of a table
abbrev pub keys : List (ℕ × List Bit) → List ℕ
keys ps = map (λ p. p.0) ps

pub pairs-keys : (es : List ℕ) (bs : List Bit) → keys (pairs_of es bs) ≡ es
pairs-keys [] bs = refl
pairs-keys (e ∷ es) bs = ap (λ l. e ∷ l) (pairs-keys es (drop 8 bs))

bits-skip : (before rest : List (ℕ × List Bit)) (e : ℕ) → count_of e (keys before) ≡ 0 → bits_at (before ++ rest) e ≡ bits_at rest e
bits-skip [] rest e h = refl
bits-skip (p ∷ before) rest e h = elim (cases_Bool (nat_eq e p.0)) [
  | inl t ↦ absurd (let one : one_if (nat_eq e p.0) ≡ 1 = ap one_if t in omega arith)
  | inr f ↦ cond-false _ _ _ f ∙ bits-skip before rest e (omega arith)
]

bits-front : (e : ℕ) (bs : List Bit) (rest : List (ℕ × List Bit)) → bits_at ((e, bs) ∷ rest) e ≡ bs
bits-front e bs rest = cond-true _ _ _ (eq-eqb e e refl)

no-bits : (bs : List Bit) → length bs ≡ 0 → [] ≡ bs
no-bits [] h = refl
no-bits (b ∷ bs) h = absurd (omega arith)

pairs-stand : (es : List ℕ) (bs : List Bit) (before more : List (ℕ × List Bit)) → ((e : ℕ) → Stands e es → count_of e (keys before) ≡ 0) → ((e : ℕ) → count_of e es < 2) → length bs ≡ 8 * length es
    → event_bits (bits_at (before ++ (pairs_of es bs ++ more))) es ≡ bs
pairs-stand [] bs before more free once long = no-bits bs long
pairs-stand (e ∷ es) bs before more free once long =
    let first : (ℕ × List Bit) = (e, take 8 bs) in
    let table = before ++ (first ∷ (pairs_of es (drop 8 bs) ++ more)) in
    let here : bits_at table e ≡ take 8 bs =
    bits-skip before (first ∷ (pairs_of es (drop 8 bs) ++ more)) e (free e (let k = eq-eqb e e refl in let one : one_if (nat_eq e e) ≡ 1 = ap one_if k in omega arith)) ∙ bits-front e (take 8 bs) (pairs_of es (drop 8 bs) ++ more) in
    let others = pairs-stand es (drop 8 bs) (before ++ first ∷ []) more
    (λ f s.
    let a : count_of f (keys (before ++ first ∷ [])) ≡ count_of f (keys before) + count_of f (e ∷ []) = ap (count_of f) (map-append (λ (p : ℕ × List Bit). p.0) before (first ∷ [])) ∙ count_of-append f (keys before) (e ∷ []) in
    let b = free f (omega arith) in
    let c = once f in
    omega arith)
    (λ f. let c = once f in omega arith) (omega (arith, length-drop 8 bs)) in
    (λ i. here i ++ (ap (λ t. event_bits (bits_at t) es) (sym (append_assoc before (first ∷ []) (pairs_of es (drop 8 bs) ++ more))) ∙ others) i)
    ∙ range-halves 8 bs

-- ---- one line of a walk

-- no event of a table but those that were done
abbrev pub KeysBelow : List (ℕ × List Bit) → List ℕ → Type 0
KeysBelow puts done = (e : ℕ) → count_of e (keys puts) ≤ count_of e done

line-keys : (g : Given) (l : Line) (es : List ℕ) (k : Known) (done : List ℕ) → KeysBelow k.puts done → KeysBelow (know g l es k).puts (done ++ es)
line-keys g l es k done below e =
    let grown : count_of e (keys (know g l es k).puts) ≡ count_of e (keys k.puts) + count_of e (keys (line_puts g l es k)) =
    ap (λ ps. count_of e (keys ps)) (know-puts g l es k) ∙ ap (count_of e) (map-append (λ (p : ℕ × List Bit). p.0) k.puts (line_puts g l es k)) ∙ count_of-append e (keys k.puts) (keys (line_puts g l es k)) in
    let own = own-keys g l es k e in
    let a = below e in
    omega (arith, count_of-append e done es)
  where
    own-keys : (g : Given) (l : Line) (es : List ℕ) (k : Known) (e : ℕ) → count_of e (keys (line_puts g l es k)) ≤ count_of e es
    own-keys g (Load w a) es k e = omega arith
    own-keys g (Store w a x) es k e = let s = ap (count_of e) (pairs-keys es (bits_from (operand_term g k x) 0 (bits_of w))) in omega arith
    own-keys g (Two op w x y) es k e = omega arith
    own-keys g (Shift op w x n) es k e = omega arith
    own-keys g (Resize op w from x) es k e = omega arith
    own-keys g (Compare op w x y) es k e = omega arith
    own-keys g (Select w c x y) es k e = omega arith
    own-keys g (VectorLoad z a) es k e = omega arith
    own-keys g (VectorStore z a v) es k e = let s = ap (count_of e) (pairs-keys es (take (8 * bytes_of z) (known_bits k v))) in omega arith
    own-keys g (Constant bs) es k e = omega arith
    own-keys g (Insert v long n w x) es k e = omega arith
    own-keys g (Extract v n w) es k e = omega arith
    own-keys g (Call name vs imm long cost) es k e = omega arith

puts-stand : (g : Given) (b : Before) (ls : List Label) (l : Line) (es : List ℕ) (k : Known) (done : List ℕ) (table more : List (ℕ × List Bit)) → KnownFits b k → IsLine b l → IsPaired ls (line_access l) es
    → KeysBelow k.puts done → ((e : ℕ) → count_of e (done ++ es) < 2) → table ≡ k.puts ++ (line_puts g l es k ++ more) → Puts (bits_at table) g l es k
puts-stand g b ls (Store w a x) es k done table more fits valid paired below once same =
    let bs = bits_from (operand_term g k x) 0 (bits_of w) in
    ap (λ t. event_bits (bits_at t) es) same
    ∙ pairs-stand es bs k.puts more (λ e s. let a = below e in let c = once e in omega (arith, count_of-append e done es)) (λ e. let c = once e in omega (arith, count_of-append e done es))
    (length-bits_from (operand_term g k x) 0 (bits_of w) ∙ sym (ap (λ n. 8 * n) paired.0 ∙ eight-size w))
puts-stand g b ls (VectorStore z a v) es k done table more fits valid paired below once same =
    let has = vector-at b.vectors k.vectors v (register_of z) fits.vectors valid.1 in
    let bs = take (8 * bytes_of z) (known_bits k v) in
    ap (λ t. event_bits (bits_at t) es) same
    ∙ pairs-stand es bs k.puts more (λ e s. let a = below e in let c = once e in omega (arith, count_of-append e done es)) (λ e. let c = once e in omega (arith, count_of-append e done es))
    (length-take-le (8 * bytes_of z) (known_bits k v) (omega (arith, has.0, bytes-fit z)) ∙ sym (ap (λ n. 8 * n) paired.0))
puts-stand g b ls (Load w a) es k done table more fits valid paired below once same = tt
puts-stand g b ls (Two op w x y) es k done table more fits valid paired below once same = tt
puts-stand g b ls (Shift op w x n) es k done table more fits valid paired below once same = tt
puts-stand g b ls (Resize op w from x) es k done table more fits valid paired below once same = tt
puts-stand g b ls (Compare op w x y) es k done table more fits valid paired below once same = tt
puts-stand g b ls (Select w c x y) es k done table more fits valid paired below once same = tt
puts-stand g b ls (VectorLoad z a) es k done table more fits valid paired below once same = tt
puts-stand g b ls (Constant bs) es k done table more fits valid paired below once same = tt
puts-stand g b ls (Insert v long n w x) es k done table more fits valid paired below once same = tt
puts-stand g b ls (Extract v n w) es k done table more fits valid paired below once same = tt
puts-stand g b ls (Call name vs imm long cost) es k done table more fits valid paired below once same = tt

-- ---- all lines

-- the calls of all lines give what is known of them
abbrev pub CallsFit : Env → Instructions → Given → Before → List Line → List (List ℕ) → Known → Type 0
CallsFit env called g b [] ess k = Unit {0}
CallsFit env called g b (l ∷ ls) [] k = Unit {0}
CallsFit env called g b (l ∷ ls) (es ∷ ess) k =
    (KnownFits b k → ClassesMean env k.met → CallFits env called g b l k)
    × CallsFit env called g (with_defined b (defined l)) ls ess (know g l es k)

-- all that a walk over lines wants, after lines with the events that are done
pub record WalkFits (env : Env) (called : Instructions) (g : Given) (i : Inputs) (b : Before) (ls : List Label) (byte : ℕ → ℕ) (table : List (ℕ × List Bit)) (xs : List Line) (ess : List (List ℕ)) (k : Known) (done : List ℕ) : Type 0 where
  pub given : GivenFits env g i b.params ls byte
  pub known : KnownFits b k
  pub classes : ClassesMean env (know_all g xs ess k).met
  pub valid : AreLines b xs
  pub paired : ArePaired ls (map line_access xs) ess
  pub inside : (e : ℕ) → Stands e (joined ess) → e < length ls
  pub below : KeysBelow k.puts done
  pub once : (e : ℕ) → count_of e (done ++ joined ess) < 2
  pub table_is : table ≡ (know_all g xs ess k).puts
  pub put_bytes : (e : ℕ) → Stands e (joined ess) → (label_at ls e).writes ≡ true → image env (bits_at table e) ≡ bits 8 (byte e)
  pub calls : CallsFit env called g b xs ess k

pub same-params : (b : Before) (l : Line) → (with_defined b (defined l)).params ≡ b.params
same-params b (Load w a) = refl
same-params b (Store w a x) = refl
same-params b (Two op w x y) = refl
same-params b (Shift op w x n) = refl
same-params b (Resize op w from x) = refl
same-params b (Compare op w x y) = refl
same-params b (Select w c x y) = refl
same-params b (VectorLoad z a) = refl
same-params b (VectorStore z a v) = refl
same-params b (Constant bs) = refl
same-params b (Insert v long n w x) = refl
same-params b (Extract v n w) = refl
same-params b (Call name vs imm long cost) = refl

pub lines-follow : (env : Env) (called : Instructions) (g : Given) (i : Inputs) (b : Before) (ls : List Label) (byte : ℕ → ℕ) (table : List (ℕ × List Bit)) (xs : List Line) (ess : List (List ℕ)) (k : Known) (done : List ℕ) (m t : List ℕ)
    → WalkFits env called g i b ls byte table xs ess k done → run_steps (event_step i.places ls byte) (joined ess) m ≡ Some t → run called i xs (shown env m k) ≡ Some (shown env t (know_all g xs ess k))
unfolding run run_steps
lines-follow env called g i b ls byte table [] [] k done m t h steps = (let same : m ≡ t = cc in ap (λ s. Some (shown env s k)) same)
lines-follow env called g i b ls byte table [] (es ∷ ess) k done m t h steps = absurd h.paired
lines-follow env called g i b ls byte table (x ∷ xs) [] k done m t h steps = absurd h.paired
lines-follow env called g i b ls byte table (x ∷ xs) (es ∷ ess) k done m t h steps =
    let went = went_well (run_steps (event_step i.places ls byte) es m) (run_steps (event_step i.places ls byte) (joined ess)) (sym (run_steps-append (event_step i.places ls byte) es (joined ess) m) ∙ steps) in
    let next = know g x es k in
    let classes = classes-front env k.met (know_all g xs ess next).met (grows-on k.met next.met (know_all g xs ess next).met (know-grows g x es k) (know_all-grows g xs ess next)) h.classes in
    let grown = know_all-puts g xs ess next in
    let whole : table ≡ k.puts ++ (line_puts g x es k ++ grown.0) = h.table_is ∙ grown.1 ∙ ap (λ l. l ++ grown.0) (know-puts g x es k) ∙ append_assoc k.puts (line_puts g x es k) grown.0 in
    let once_here : (e : ℕ) → count_of e (done ++ es) < 2 = λ e. (let c = h.once e in omega (arith, count_of-append e done (es ++ joined ess), count_of-append e es (joined ess), count_of-append e done es)) in
    let first = line-does env called g i b ls byte (bits_at table) x es k m went.0 (record {
      given = h.given;
      known = h.known;
      classes = classes;
      valid = h.valid.0;
      paired = h.paired.0;
      inside = λ e s. h.inside e (let c = count_of-append e es (joined ess) in omega arith);
      puts = puts-stand g b ls x es k done table grown.0 h.known h.valid.0 h.paired.0 h.below once_here whole;
      put_bytes = λ e s w. h.put_bytes e (let c = count_of-append e es (joined ess) in omega arith) w;
      calls = h.calls.0 h.known classes;
    }) went.1 in
    let rest = lines-follow env called g i (with_defined b (defined x)) ls byte table xs ess next (done ++ es) went.0 t (record {
      given = subst (λ ps. GivenFits env g i ps ls byte) (sym (same-params b x)) h.given;
      known = first.fits;
      classes = h.classes;
      valid = h.valid.1;
      paired = h.paired.1;
      inside = λ e s. h.inside e (let c = count_of-append e es (joined ess) in omega arith);
      below = line-keys g x es k done h.below;
      once = λ e. (let c = h.once e in omega (arith, ap (count_of e) (append_assoc done es (joined ess))));
      table_is = h.table_is;
      put_bytes = λ e s w. h.put_bytes e (let c = count_of-append e es (joined ess) in omega arith) w;
      calls = h.calls.1;
    }) went.2 in
    ap (λ q. q >>= run called i xs) first.is ∙ rest
