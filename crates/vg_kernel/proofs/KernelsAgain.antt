-- Statements, parameters and kernels that are in the language are read.
use Rattle.std.proofs.Common.{◌≡◌, ℕ, zero, suc, ◌+◌, ◌≤◌, true, false, List, [], ◌∷◌, ◌++◌, length, map, Some, None, Ok, refl, sym, ◌∙◌, ap, subst, arith, append_assoc, append-nil}
use Rattle.std.specs.Prelude.{codes, IsTrue, sum_by}
use Rattle.std.specs.List.{AllByRecursion, IsDistinct}
use Rattle.std.specs.Str.{bytes_eq}
use Rattle.std.proofs.lemmas.Bool.{le-leb, eq-eqb}
use Rattle.std.proofs.lemmas.List.Sums.{sum_by-cons}
use Rattle.vg_base.specs.declared.address.Address.{Address}
use Rattle.vg_base.specs.declared.width.Width.{Width}
use Rattle.vg_base.specs.declared.width.Width.TheVariants.{W8, W16, W32, W64}
use Rattle.vg_base.specs.Width.{bits_of}
use Rattle.vg_text.specs.Words.{Reading, Spelled, reading_of}
use Rattle.vg_kernel.specs.declared.parameter.KParam.{KParam}
use Rattle.vg_kernel.specs.declared.parameter.KParamKind.{KParamKind}
use Rattle.vg_kernel.specs.declared.parameter.KParamKind.TheVariants.{Pointer, Integer}
use Rattle.vg_kernel.specs.Cost.{expression_cost, uses_of}
use Rattle.vg_kernel.specs.Expressions.{Scan}
use Rattle.vg_kernel.specs.Grammar.{Is, SpellsAddress, IsWhole, IsStatement, AreStatements, IsKind, IsParameter, AreMore, AreParameters, IsKernel, IsKernelText}
use Rattle.vg_kernel.specs.Names.{Names, given_as, names_of, with_name}
use Rattle.vg_kernel.specs.Nodes.{width_in}
use Rattle.vg_kernel.specs.Reader.{next_at}
use Rattle.vg_kernel.specs.Script.{Words, script_left}
use Rattle.vg_kernel.specs.Statements.{assignment_at, has_width, store_end, store_at, statement_at, statements_at, kind_at, is_taken, parameter_at, comma_at, parameters_behind, parameters_at, head_at, block_at, body_at, kernel_at, kernel_of}
use Rattle.vg_kernel.specs.Tree.{Expression, Statement, assign, store, Tree, type_of}
use Rattle.vg_text.specs.Sized.{width_behind}
use Rattle.vg_kernel.specs.Words.{sized, is_free, is_reserved, plain_named}
use Rattle.vg_kernel.proofs.ExpressionsAgain.{loose-close, loose-end, expression-again}
use Rattle.vg_kernel.proofs.KernelsFound.{AreDistinct}
use Rattle.vg_kernel.proofs.OperandsFound.{at}
use Rattle.vg_kernel.proofs.Sizes.{width_behind-again}
use Rattle.vg_kernel.proofs.WordsAgain.{Reads, IsNoSign, not_text, next-again, expect-again, end-again, name-again, address-again}

-- a store has the width of what it stores
has_width-again : (w : Width) (e : Expression) → width_in e ≡ Some w → has_width w e ≡ true
has_width-again w e h = rw (h, eq-eqb (bits_of w) (bits_of w) refl) refl

-- the name of a store
store-named : (w : Width) → (is_free (sized (codes "store") w) ≡ false) × (bytes_eq (sized (codes "store") w) (codes "}") ≡ false)
unfolding is_reserved plain_named
store-named W8 = (refl, refl)
store-named W16 = (refl, refl)
store-named W32 = (refl, refl)
store-named W64 = (refl, refl)

-- a statement was read after its first word
record StepRead (names : Names) (r : Reading) (used : ℕ) (s : Statement) (behind : Names) (rest : Words) : Type 0 where
  word : Spelled
  second : Reading
  next : next_at r ≡ Ok (word, second)
  no_brace : bytes_eq word.bytes (codes "}") ≡ false
  after : Reading
  now : ℕ
  reads : statement_at names word second used ≡ Ok (record { statement = s; names = behind; scan = at after now })
  counts : now ≡ used + uses_of s
  left : script_left after ≡ Some rest

assignment-again : (names : Names) (word equals end : Spelled) (ws : Words) (e : Expression) (r : Reading) (used : ℕ) (rest : Words) → IsTrue (is_free word.bytes) → given_as names word.bytes ≡ None → Is equals (codes "=") → IsWhole names ws e → Is end (codes ";")
    → script_left r ≡ Some (word ∷ equals ∷ (ws ++ end ∷ rest)) → used + expression_cost e ≤ 8192 → StepRead names r used (assign e) (with_name names word.bytes (type_of e)) rest
unfolding statement_at assignment_at is_reserved plain_named
assignment-again names word equals end ws e r used rest free fresh eq is ends left few =
    let n = next-again r word (equals ∷ (ws ++ end ∷ rest)) left in
    let q = expect-again (codes "=") n.0 equals (ws ++ end ∷ rest) eq n.2 in
    let x = expression-again names 5 is.0 ws e is.1 256 (at q.0 used) (end ∷ rest) is.2 q.2 few (loose-end 6 end rest ends) in
    let d = expect-again (codes ";") x.rest end rest ends x.left in
    let free_is : is_free word.bytes ≡ true = free in
    record {
      word = word;
      second = n.0;
      next = n.1;
      no_brace = not_text is_free word.bytes (codes "}") free_is refl;
      after = d.0;
      now = x.used;
      reads = rw (free_is, fresh, q.1, x.reads, d.1) refl;
      counts = x.counts;
      left = d.2;
    }

comma_sign : (v : Spelled) → Is v (codes ",") → IsNoSign v
comma_sign v is = (ap (λ (t : List ℕ). bytes_eq t (codes "+")) is, ap (λ (t : List ℕ). bytes_eq t (codes "-")) is)

-- the words of a store put together in another way
regroup : (to from behind : Words) (comma closing end : Spelled) → (to ++ comma ∷ (from ++ closing ∷ end ∷ [])) ++ behind ≡ to ++ comma ∷ (from ++ closing ∷ end ∷ behind)
regroup to from behind comma closing end = append_assoc to (comma ∷ (from ++ closing ∷ end ∷ [])) behind ∙ ap (λ (t : Words). to ++ comma ∷ t) (append_assoc from (closing ∷ end ∷ []) behind)

store_end-again : (w : Width) (to : Address) (e : Expression) (d used : ℕ) (r : Reading) (closing end : Spelled) (rest : Words) → Is closing (codes ")") → Is end (codes ";") → script_left r ≡ Some (closing ∷ end ∷ rest)
    → (r' : Reading) × (store_end w to (record { expression = e; depth = d; scan = at r used }) ≡ Ok (store w to e, at r' used)) × (script_left r' ≡ Some rest)
unfolding store_end
store_end-again w to e d used r closing end rest i j left =
    let c = expect-again (codes ")") r closing (end ∷ rest) i left in
    let f = expect-again (codes ";") c.0 end rest j c.2 in
    (f.0, rw (c.1, f.1) refl, f.2)

store-again : (names : Names) (word opening comma closing end : Spelled) (to from : Words) (w : Width) (a : Address) (e : Expression) (r : Reading) (used : ℕ) (rest : Words) → Is word (sized (codes "store") w) → Is opening (codes "(") → SpellsAddress names to a
    → Is comma (codes ",") → IsWhole names from e → Is closing (codes ")") → Is end (codes ";") → width_in e ≡ Some w → script_left r ≡ Some (word ∷ opening ∷ (to ++ comma ∷ (from ++ closing ∷ end ∷ rest))) → used + expression_cost e ≤ 8192
    → StepRead names r used (store w a e) names rest
unfolding statement_at store_at
store-again names word opening comma closing end to from w a e r used rest is i place l whole j k width left few =
    let inside = to ++ comma ∷ (from ++ closing ∷ end ∷ rest) in
    let n = next-again r word (opening ∷ inside) left in
    let known = store-named w in
    let free : is_free word.bytes ≡ false = ap is_free is ∙ known.0 in
    let sized_is : width_behind (codes "store") word.bytes ≡ Some w = ap (width_behind (codes "store")) is ∙ width_behind-again (codes "store") w in
    let o = expect-again (codes "(") n.0 opening inside i n.2 in
    let f = address-again names to a o.0 comma (from ++ closing ∷ end ∷ rest) place (comma_sign comma l) o.2 in
    let m = expect-again (codes ",") f.0 comma (from ++ closing ∷ end ∷ rest) l f.2 in
    let x = expression-again names 5 whole.0 from e whole.1 256 (at m.0 used) (closing ∷ end ∷ rest) whole.2 m.2 few (loose-close 6 closing (end ∷ rest) j) in
    let z = store_end-again w a e whole.0 x.used x.rest closing end rest j k x.left in
    record {
      word = word;
      second = n.0;
      next = n.1;
      no_brace = ap (λ (t : List ℕ). bytes_eq t (codes "}")) is ∙ known.1;
      after = z.0;
      now = x.used;
      reads = rw (free, sized_is, o.1, f.1, m.1, x.reads, has_width-again w e width, z.1) refl;
      counts = x.counts;
      left = z.2;
    }

statement-again : (names : Names) (words : Words) (s : Statement) (behind : Names) (r : Reading) (used : ℕ) (rest : Words) → IsStatement names words s behind → script_left r ≡ Some (words ++ rest) → used + uses_of s ≤ 8192 → StepRead names r used s behind rest
statement-again names words (assign e) behind r used rest (word, equals, end, ws, free, fresh, eq, is, ends, same, given) left few =
    let group : words ++ rest ≡ word ∷ equals ∷ (ws ++ end ∷ rest) = ap (λ (t : Words). t ++ rest) same ∙ ap (λ (t : Words). word ∷ equals ∷ t) (append_assoc ws (end ∷ []) rest) in
    subst (λ (q : Names). StepRead names r used (assign e) q rest) (sym given) (assignment-again names word equals end ws e r used rest free fresh eq is ends (subst (λ (t : Words). script_left r ≡ Some t) group left) few)
statement-again names words (store w a e) behind r used rest (word, opening, comma, closing, end, to, from, is, i, place, l, whole, j, k, width, same, given) left few =
    let group : words ++ rest ≡ word ∷ opening ∷ (to ++ comma ∷ (from ++ closing ∷ end ∷ rest)) = ap (λ (t : Words). t ++ rest) same ∙ ap (λ (t : Words). word ∷ opening ∷ t) (regroup to from rest comma closing end) in
    subst (λ (q : Names). StepRead names r used (store w a e) q rest) (sym given) (store-again names word opening comma closing end to from w a e r used rest is i place l whole j k width (subst (λ (t : Words). script_left r ≡ Some t) group left) few)

-- statements up to the brace
pub statements-again : (ss : List Statement) (names : Names) (words : Words) (room : ℕ) (done : List Statement) (s : Scan) (brace : Spelled) (rest : Words) → AreStatements names words ss → length ss ≤ room → s.used + sum_by uses_of ss ≤ 8192 → Is brace (codes "}")
    → script_left s.reading ≡ Some (words ++ brace ∷ rest) → Reads (statements_at room names done s) (done ++ ss, brace.place) rest
unfolding statements_at
statements-again [] names words zero done s brace rest are few uses is left =
    let n = next-again s.reading brace rest (subst (λ (t : Words). script_left s.reading ≡ Some (t ++ brace ∷ rest)) are left) in
    let ends : bytes_eq brace.bytes (codes "}") ≡ true = ap (λ (t : List ℕ). bytes_eq t (codes "}")) is in
    (n.0, rw (n.1, ends, append-nil) refl, n.2)
statements-again [] names words (suc room) done s brace rest are few uses is left =
    let n = next-again s.reading brace rest (subst (λ (t : Words). script_left s.reading ≡ Some (t ++ brace ∷ rest)) are left) in
    let ends : bytes_eq brace.bytes (codes "}") ≡ true = ap (λ (t : List ℕ). bytes_eq t (codes "}")) is in
    (n.0, rw (n.1, ends, append-nil) refl, n.2)
statements-again (x ∷ xs) names words zero done s brace rest are few uses is left = absurd (omega arith)
statements-again (x ∷ xs) names words (suc room) done s brace rest (front, more, behind, one, others, same) few uses is left =
    let sum = sum_by-cons uses_of x xs in
    let group : words ++ brace ∷ rest ≡ front ++ (more ++ brace ∷ rest) = ap (λ (t : Words). t ++ brace ∷ rest) same ∙ append_assoc front more (brace ∷ rest) in
    let y = statement-again names front x behind s.reading s.used (more ++ brace ∷ rest) one (subst (λ (t : Words). script_left s.reading ≡ Some t) group left) (omega (arith, sum)) in
    let counts = y.counts in
    let all = statements-again xs behind more room (done ++ x ∷ []) (at y.after y.now) brace rest others (omega arith) (omega (arith, sum, counts)) is y.left in
    (all.0, rw (y.next, y.no_brace, y.reads, all.1) (ap (λ (t : List Statement). Ok ((t, brace.place), all.0)) (append_assoc done (x ∷ []) xs)), all.2)

-- the kind of a parameter
type-named : (w : Width) → (bytes_eq (sized (codes "i") w) (codes "ptr") ≡ false) × (bytes_eq (sized (codes "i") w) (codes "noalias") ≡ false)
type-named W8 = (refl, refl)
type-named W16 = (refl, refl)
type-named W32 = (refl, refl)
type-named W64 = (refl, refl)

kind-again : (ws : Words) (k : KParamKind) (r : Reading) (rest : Words) → IsKind ws k → script_left r ≡ Some (ws ++ rest) → Reads (kind_at r) k rest
unfolding kind_at
kind-again ws (Pointer false) r rest (word, is, same) left =
    let n = next-again r word rest (subst (λ (t : Words). script_left r ≡ Some (t ++ rest)) same left) in
    let a : bytes_eq word.bytes (codes "ptr") ≡ true = ap (λ (t : List ℕ). bytes_eq t (codes "ptr")) is in
    (n.0, rw (n.1, a) refl, n.2)
kind-again ws (Pointer true) r rest (first, second, is, is', same) left =
    let n = next-again r first (second ∷ rest) (subst (λ (t : Words). script_left r ≡ Some (t ++ rest)) same left) in
    let a : bytes_eq first.bytes (codes "ptr") ≡ false = ap (λ (t : List ℕ). bytes_eq t (codes "ptr")) is in
    let b : bytes_eq first.bytes (codes "noalias") ≡ true = ap (λ (t : List ℕ). bytes_eq t (codes "noalias")) is in
    let m = expect-again (codes "ptr") n.0 second rest is' n.2 in
    (m.0, rw (n.1, a, b, m.1) refl, m.2)
kind-again ws (Integer w) r rest (word, is, same) left =
    let n = next-again r word rest (subst (λ (t : Words). script_left r ≡ Some (t ++ rest)) same left) in
    let known = type-named w in
    let a : bytes_eq word.bytes (codes "ptr") ≡ false = ap (λ (t : List ℕ). bytes_eq t (codes "ptr")) is ∙ known.0 in
    let b : bytes_eq word.bytes (codes "noalias") ≡ false = ap (λ (t : List ℕ). bytes_eq t (codes "noalias")) is ∙ known.1 in
    let v : width_behind (codes "i") word.bytes ≡ Some w = ap (width_behind (codes "i")) is ∙ width_behind-again (codes "i") w in
    (n.0, rw (n.1, a, b, v) refl, n.2)

-- a parameter whose name none of those before has
parameter-again : (before : List KParam) (p : KParam) (ws : Words) (r : Reading) (rest : Words) → IsParameter ws p → is_taken p.name before ≡ false → script_left r ≡ Some (ws ++ rest) → Reads (parameter_at before r) p rest
unfolding parameter_at
parameter-again before p ws r rest (word, colon, kind, is, free, is', k, same) fresh left =
    let n = name-again word r (colon ∷ (kind ++ rest)) (subst (λ (b : List ℕ). IsTrue (is_free b)) (sym is) free) (subst (λ (t : Words). script_left r ≡ Some (t ++ rest)) same left) in
    let untaken : is_taken word.bytes before ≡ false = subst (λ (b : List ℕ). is_taken b before ≡ false) (sym is) fresh in
    let c = expect-again (codes ":") n.0 colon (kind ++ rest) is' n.2 in
    let m = kind-again kind p.kind c.0 rest k c.2 in
    (m.0, rw (n.1, untaken, c.1, m.1) (ap (λ (b : List ℕ). Ok (record { name = b; kind = p.kind }, m.0)) is), m.2)

-- of names that differ, none is one of those before
distinct-untaken : (done : List KParam) (p : KParam) (ps : List KParam) → AreDistinct (done ++ p ∷ ps) → is_taken p.name done ≡ false
unfolding IsDistinct
distinct-untaken [] p ps d = refl
distinct-untaken (q ∷ qs) p ps d = rw (at_it q.name qs p ps d.0, distinct-untaken qs p ps d.1) refl
  where
    at_it : (name : List ℕ) (qs : List KParam) (p : KParam) (ps : List KParam) → AllByRecursion (λ y. bytes_eq name y ≡ false) (map (λ q. q.name) (qs ++ p ∷ ps)) → bytes_eq name p.name ≡ false
    at_it name [] p ps all = all.0
    at_it name (q ∷ qs) p ps all = at_it name qs p ps all.1

-- the end of the parameters, and a comma
closed-again : (r : Reading) (w : Spelled) (rest : Words) → Is w (codes ")") → script_left r ≡ Some (w ∷ rest) → Reads (comma_at r) false rest
closed-again r w rest is left =
    let n = next-again r w rest left in
    let a : bytes_eq w.bytes (codes ")") ≡ true = ap (λ (t : List ℕ). bytes_eq t (codes ")")) is in
    (n.0, rw (n.1, a) refl, n.2)

comma-again : (r : Reading) (w : Spelled) (rest : Words) → Is w (codes ",") → script_left r ≡ Some (w ∷ rest) → Reads (comma_at r) true rest
comma-again r w rest is left =
    let n = next-again r w rest left in
    let a : bytes_eq w.bytes (codes ")") ≡ false = ap (λ (t : List ℕ). bytes_eq t (codes ")")) is in
    let b : bytes_eq w.bytes (codes ",") ≡ true = ap (λ (t : List ℕ). bytes_eq t (codes ",")) is in
    (n.0, rw (n.1, a, b) refl, n.2)

-- parameters after those that are done
parameters_behind-again : (ps : List KParam) (words : Words) (room : ℕ) (done : List KParam) (r : Reading) (closing : Spelled) (rest : Words) → AreMore words ps → AreDistinct (done ++ ps) → length ps ≤ room → Is closing (codes ")")
    → script_left r ≡ Some (words ++ closing ∷ rest) → Reads (parameters_behind room done r) (done ++ ps) rest
unfolding parameters_behind
parameters_behind-again [] words zero done r closing rest are d few is left =
    let c = closed-again r closing rest is (subst (λ (t : Words). script_left r ≡ Some (t ++ closing ∷ rest)) are left) in
    (c.0, rw (c.1, append-nil) refl, c.2)
parameters_behind-again [] words (suc room) done r closing rest are d few is left =
    let c = closed-again r closing rest is (subst (λ (t : Words). script_left r ≡ Some (t ++ closing ∷ rest)) are left) in
    (c.0, rw (c.1, append-nil) refl, c.2)
parameters_behind-again (p ∷ ps) words zero done r closing rest are d few is left = absurd (omega arith)
parameters_behind-again (p ∷ ps) words (suc room) done r closing rest (comma, front, more, is', one, others, same) d few is left =
    let group : words ++ closing ∷ rest ≡ comma ∷ (front ++ (more ++ closing ∷ rest)) = ap (λ (t : Words). t ++ closing ∷ rest) same ∙ ap (λ (t : Words). comma ∷ t) (append_assoc front more (closing ∷ rest)) in
    let c = comma-again r comma (front ++ (more ++ closing ∷ rest)) is' (subst (λ (t : Words). script_left r ≡ Some t) group left) in
    let q = parameter-again done p front c.0 (more ++ closing ∷ rest) one (distinct-untaken done p ps d) c.2 in
    let all = parameters_behind-again ps more room (done ++ p ∷ []) q.0 closing rest others (subst AreDistinct (sym (append_assoc done (p ∷ []) ps)) d) (omega arith) is q.2 in
    (all.0, rw (c.1, q.1, all.1) (ap (λ (t : List KParam). Ok (t, all.0)) (append_assoc done (p ∷ []) ps)), all.2)

-- a parameter begins with its name
first-word : (before : List KParam) (p : KParam) (ws : Words) (r : Reading) (rest : Words) → IsParameter ws p → script_left r ≡ Some (ws ++ rest) → (x : Spelled × Reading) × (next_at r ≡ Ok x) × (bytes_eq x.0.bytes (codes ")") ≡ false)
unfolding is_reserved plain_named
first-word before p ws r rest (word, colon, kind, is, free, is', k, same) left =
    let n = next-again r word (colon ∷ (kind ++ rest)) (subst (λ (t : Words). script_left r ≡ Some (t ++ rest)) same left) in
    let named : is_free word.bytes ≡ true = ap is_free is ∙ free in
    ((word, n.0), n.1, not_text is_free word.bytes (codes ")") named refl)

-- all parameters
pub parameters-again : (ps : List KParam) (words : Words) (r : Reading) (closing : Spelled) (rest : Words) → AreParameters words ps → AreDistinct ps → length ps ≤ 16 → Is closing (codes ")") → script_left r ≡ Some (words ++ closing ∷ rest) → Reads (parameters_at r) ps rest
unfolding parameters_at
parameters-again [] words r closing rest are d few is left =
    let n = next-again r closing rest (subst (λ (t : Words). script_left r ≡ Some (t ++ closing ∷ rest)) are left) in
    let a : bytes_eq closing.bytes (codes ")") ≡ true = ap (λ (t : List ℕ). bytes_eq t (codes ")")) is in
    (n.0, rw (n.1, a) refl, n.2)
parameters-again (p ∷ ps) words r closing rest (front, more, one, others, same) d few is left =
    let group : words ++ closing ∷ rest ≡ front ++ (more ++ closing ∷ rest) = ap (λ (t : Words). t ++ closing ∷ rest) same ∙ append_assoc front more (closing ∷ rest) in
    let all_left = subst (λ (t : Words). script_left r ≡ Some t) group left in
    let n = first-word [] p front r (more ++ closing ∷ rest) one all_left in
    let q = parameter-again [] p front r (more ++ closing ∷ rest) one refl all_left in
    let all = parameters_behind-again ps more 15 (p ∷ []) q.0 closing rest others d (omega arith) is q.2 in
    (all.0, rw (n.1, n.2, q.1, all.1) refl, all.2)

-- a whole kernel
kernel_at-again : (r : Reading) (ws : Words) (k : Tree) → script_left r ≡ Some ws → IsKernel ws k → kernel_at r ≡ Ok k
unfolding kernel_at head_at body_at block_at
kernel_at-again r ws k e is =
    let inside = is.inside ++ is.end ∷ [] in
    let tail = is.between ++ is.closing ∷ is.begin ∷ inside in
    let a = expect-again (codes "kernel") r is.first (is.named ∷ is.opening ∷ tail) is.is_first (e ∙ ap Some is.whole) in
    let n = name-again is.named a.0 (is.opening ∷ tail) (subst (λ (b : List ℕ). IsTrue (is_free b)) (sym is.is_named) is.free) a.2 in
    let o = expect-again (codes "(") n.0 is.opening tail is.is_opening n.2 in
    let p = parameters-again k.params is.between o.0 is.closing (is.begin ∷ inside) is.params is.distinct is.few is.is_closing o.2 in
    let b = expect-again (codes "{") p.0 is.begin inside is.is_begin p.2 in
    let s = statements-again k.statements (names_of k.params) is.inside 4096 [] (at b.0 0) is.end [] is.statements is.lines (omega (arith, is.uses)) is.is_end b.2 in
    let d = end-again s.0 s.2 in
    rw (a.1, n.1, o.1, p.1, b.1, s.1, d.1) (ap (λ (b : List ℕ). Ok (record { name = b; params = k.params; statements = k.statements })) is.is_named)

pub kernel_of-again : (text : List ℕ) (k : Tree) → IsKernelText text k → kernel_of text ≡ Ok k
unfolding kernel_of
kernel_of-again text k is =
    rw (le-leb (length text) 262144 is.size) (kernel_at-again (reading_of text) is.words k is.tokens is.kernel)
