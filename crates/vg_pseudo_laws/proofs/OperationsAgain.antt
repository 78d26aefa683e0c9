-- Operations that are in the language are read.
use Rattle.std.proofs.Common.{◌≡◌, ℕ, zero, suc, ◌+◌, ◌<◌, true, false, List, [], ◌∷◌, ◌++◌, Option, Some, None, Ok, refl, sym, ◌∙◌, ap, subst, arith, append_assoc, append-nil}
use Rattle.std.specs.Prelude.{codes, max, is_some, IsTrue}
use Rattle.std.specs.Str.{bytes_eq}
use Rattle.vg_base.proofs.Bind.{bind_to}
use Rattle.vg_text.specs.Words.{Reading, Spelled}
use Rattle.vg_pseudo.specs.declared.operation.DefineParam.{DefineParam}
use Rattle.vg_pseudo.specs.Tree.{Statements, Define, Operation}
use Rattle.vg_pseudo.specs.Definitions.{Known, Context}
use Rattle.vg_pseudo.specs.Words.{is_free, number_of}
use Rattle.vg_pseudo.specs.Reader.{next_at, expect_at, accept_at, name_at, number_at, items_behind, unread}
use Rattle.vg_pseudo.specs.Expressions.{whole_at}
use Rattle.vg_pseudo.specs.Statements.{statements_at}
use Rattle.vg_pseudo.specs.Operations.{zero_at, high_at, param_at, params_at, Defined, define_at, Defines, and_define, defines_from, defines_at, operation_at}
use Rattle.vg_pseudo.specs.Grammar.{Words, Is, IsName, IsParam, AreMoreParams, AreParams, IsDefine, AreDefines, IsOperation, IsOperationText, AreStatements, done, assigned, assigned_above, repeated, chosen_way, picked_arm}
use Rattle.vg_pseudo_laws.proofs.Standing.{Reads, ◌▷◌, Reads-fewer}
use Rattle.vg_pseudo_laws.proofs.WordsAgain.{next-again, no-more, split, expect-again, accept-again, accept-not, name-again, not_text, ends-text}
use Rattle.vg_pseudo_laws.proofs.ListsAgain.{Steps, ended, step, steps-again}
use Rattle.vg_pseudo_laws.proofs.LanguageRead.{whole-again}
use Rattle.vg_pseudo_laws.proofs.BlocksAgain.{over-text, number-again}
use Rattle.vg_pseudo_laws.proofs.StatementsAgain.{statements-again}

zero-again : (w : Spelled) (r n : Reading) → number_of w.bytes ≡ Some 0 → next_at r ≡ Ok (w, n) → zero_at r ≡ Ok (0, n)
zero-again w r n is e = bind_to (next_at r) _ e (rw is refl)

-- a word stands next that opens no brackets
record NoBracket (r : Reading) : Type 0 where
  word : Spelled
  behind : Reading
  next : next_at r ≡ Ok (word, behind)
  other : bytes_eq word.bytes (codes "[") ≡ false

plain-param : (w : Spelled) (p : DefineParam) (r m : Reading) → IsName w → Is w p.name → p.high ≡ None → Reads (w ∷ []) r m → NoBracket m → param_at r ≡ Ok (p, m)
unfolding param_at
plain-param w p r m name_is is none h end =
    let a = next-again h in
    let same = no-more a.rest in
    let at : next_at a.behind ≡ Ok (end.word, end.behind) = ap next_at same ∙ end.next in
    bind_to (name_at r) _ (name-again w r a.behind name_is a.next)
    (bind_to (accept_at (codes "[") a.behind) _ (accept-not (codes "[") end.word a.behind end.behind end.other at)
    (ap (λ (b : List ℕ). Ok (record { name = b; high = None }, a.behind)) is ∙ ap (λ (o : Option ℕ). Ok (record { name = p.name; high = o }, a.behind)) (sym none) ∙ ap (λ (q : Reading). Ok (p, q)) same))

wide-param : (w opening high colon low closing : Spelled) (k : ℕ) (p : DefineParam) (r m : Reading) → IsName w → Is w p.name → Is opening (codes "[") → number_of high.bytes ≡ Some k → p.high ≡ Some k → Is colon (codes ":") → number_of low.bytes ≡ Some 0 → Is closing (codes "]")
    → Reads (w ∷ opening ∷ high ∷ colon ∷ low ∷ closing ∷ []) r m → param_at r ≡ Ok (p, m)
unfolding param_at high_at
wide-param w opening high colon low closing k p r m name_is is opening_is high_is same_high colon_is low_is closing_is h =
    let a = next-again h in
    let b = next-again a.rest in
    let c = next-again b.rest in
    let d = next-again c.rest in
    let e = next-again d.rest in
    let f = next-again e.rest in
    let same = no-more f.rest in
    let inside : high_at b.behind ≡ Ok (k, f.behind) =
    bind_to (number_at b.behind) _ (number-again high k b.behind c.behind high_is c.next)
    (bind_to (expect_at (codes ":") c.behind) _ (expect-again (codes ":") colon c.behind d.behind colon_is d.next)
    (bind_to (zero_at d.behind) _ (zero-again low d.behind e.behind low_is e.next) (bind_to (expect_at (codes "]") e.behind) _ (expect-again (codes "]") closing e.behind f.behind closing_is f.next) refl))) in
    bind_to (name_at r) _ (name-again w r a.behind name_is a.next)
    (bind_to (accept_at (codes "[") a.behind) _ (accept-again (codes "[") opening a.behind b.behind opening_is b.next)
    (bind_to (high_at b.behind) _ inside
    (ap (λ (t : List ℕ). Ok (record { name = t; high = Some k }, f.behind)) is ∙ ap (λ (o : Option ℕ). Ok (record { name = p.name; high = o }, f.behind)) (sym same_high) ∙ ap (λ (q : Reading). Ok (p, q)) same)))

param-again : (ws : Words) (p : DefineParam) → IsParam ws p → (r m : Reading) → Reads ws r m → NoBracket m → param_at r ≡ Ok (p, m)
param-again [] p is r m h end = absurd is
param-again (w ∷ []) p is r m h end = plain-param w p r m is.0 is.1 is.2 h end
param-again (w ∷ a ∷ []) p is r m h end = absurd is
param-again (w ∷ a ∷ b ∷ []) p is r m h end = absurd is
param-again (w ∷ a ∷ b ∷ c ∷ []) p is r m h end = absurd is
param-again (w ∷ a ∷ b ∷ c ∷ d ∷ []) p is r m h end = absurd is
param-again (w ∷ a ∷ b ∷ c ∷ d ∷ e ∷ []) p is r m h end = by p.high refl is.4
  where
    by : (o : Option ℕ) → p.high ≡ o → IsTrue (is_some p.high) → param_at r ≡ Ok (p, m)
    by (Some k) same some = wide-param w a b c d e k p r m is.0 is.1 is.2 (is.3 ∙ same) same is.5 is.6 is.7 h
    by None same some = absurd (let bad : false ≡ true = sym (ap is_some same) ∙ some in cc)
param-again (w ∷ a ∷ b ∷ c ∷ d ∷ e ∷ f ∷ more) p is r m h end = absurd is

-- `)` stands next
record Closes (m : Reading) : Type 0 where
  word : Spelled
  behind : Reading
  next : next_at m ≡ Ok (word, behind)
  is : Is word (codes ")")

-- further parameters are read, and no brackets stand before them
record MoreParams (ps : List DefineParam) (r m : Reading) : Type 0 where
  begins : NoBracket r
  steps : Steps (accept_at (codes ",")) param_at ps r m

params-steps : (ps : List DefineParam) (ws : Words) → AreMoreParams ws ps → (r m : Reading) → Reads ws r m → Closes m → MoreParams ps r m
params-steps [] ws are r m h c =
    let same = no-more (subst (λ (us : Words). Reads us r m) are h) in
    subst (λ (q : Reading). MoreParams [] q m) (sym same)
    (record {
      begins = record { word = c.word; behind = c.behind; next = c.next; other = ap (λ (t : List ℕ). bytes_eq t (codes "[")) c.is };
      steps = ended m m (accept-not (codes ",") c.word m c.behind (ap (λ (t : List ℕ). bytes_eq t (codes ",")) c.is) c.next);
    })
params-steps (p ∷ ps) ws (comma, front, rest, is, is_p, are, same) r m h c =
    let a = next-again (subst (λ (us : Words). Reads us r m) same h) in
    let b = split front a.rest in
    let others = params-steps ps rest are b.middle m b.second c in
    record {
      begins = record { word = comma; behind = a.behind; next = a.next; other = ap (λ (t : List ℕ). bytes_eq t (codes "[")) is };
      steps = step r a.behind b.middle m p ps (accept-again (codes ",") comma r a.behind is a.next) (param-again front p is_p a.behind b.middle b.first others.begins) (Reads-fewer (a.one ▷ b.first)) others.steps;
    }

params-again : (ps : List DefineParam) (ws vs : Words) (closing : Spelled) → AreParams ws ps → Is closing (codes ")") → (r m : Reading) → Reads (ws ++ closing ∷ vs) r m → (n : Reading) × (params_at r ≡ Ok (ps, n)) × Reads vs n m
unfolding params_at
params-again [] ws vs closing are is r m h = absurd are
params-again (p ∷ ps) ws vs closing (front, rest, is_p, are, same) is r m h =
    let a = split ws h in
    let b = split front (subst (λ (us : Words). Reads us r a.middle) same a.first) in
    let c = next-again a.second in
    let others = params-steps ps rest are b.middle a.middle b.second (record { word = closing; behind = c.behind; next = c.next; is = is }) in (
      c.behind,
      bind_to (param_at r) _ (param-again front p is_p r b.middle b.first others.begins)
          (bind_to (items_behind (accept_at (codes ",")) param_at (p ∷ []) b.middle) _ (steps-again (accept_at (codes ",")) param_at (p ∷ []) others.steps)
          (bind_to (expect_at (codes ")") a.middle) _ (expect-again (codes ")") closing a.middle c.behind is c.next) refl)),
      c.rest,
    )

-- A DEFINE is read.
record DefineRead (known : List Known) (d : Define) (depth : ℕ) (r m : Reading) : Type 0 where
  behind : Reading
  follows : accept_at (codes "DEFINE") r ≡ Ok (true, behind)
  read : define_at (record { known = known; inside = true }) behind ≡ Ok (record { define = d; depth = depth }, m)
  fewer : unread m < unread r

define-again : (known : List Known) (ws : Words) (d : Define) (depth : ℕ) → IsDefine known ws d depth → (r m : Reading) → Reads ws r m → DefineRead known d depth r m
unfolding define_at
define-again known ws d depth is r m h0 =
    let context : Context = record { known = known; inside = true } in
    let h = subst (λ (us : Words). Reads us r m) is.whole h0 in
    let a = next-again h in
    let b = next-again a.rest in
    let c = next-again b.rest in
    let p = params-again d.params is.between _ is.closing is.params is.is_closing c.behind m c.rest in
    let e = next-again p.2 in
    let i = split is.inside e.rest in
    let k = next-again i.second in
    let w = split is.back k.rest in
    let z = next-again w.second in
    let over = over-text (codes "RETURN") is.return k.behind i.middle k.next is.is_return refl refl in
    let same : record { define = record { name = is.named.bytes; params = d.params; body = d.body; answer = is.answer.expression }; depth = max is.calls is.answer.calls + 1 } ≡ record { define = d; depth = depth } =
    ap (λ (t : List ℕ). record { define = record { name = t; params = d.params; body = d.body; answer = is.answer.expression }; depth = max is.calls is.answer.calls + 1 }) is.is_named
    ∙ ap (λ (x : _). record { define = record { name = d.name; params = d.params; body = d.body; answer = x }; depth = max is.calls is.answer.calls + 1 }) is.same
    ∙ ap (λ (n : ℕ). record { define = d; depth = n }) (sym is.deep) in
    record {
      behind = a.behind;
      follows = accept-again (codes "DEFINE") is.first r a.behind is.is_first a.next;
      read = bind_to (name_at a.behind) _ (name-again is.named a.behind b.behind is.is_name b.next)
          (bind_to (expect_at (codes "(") b.behind) _ (expect-again (codes "(") is.opening b.behind c.behind is.is_opening c.next)
          (bind_to (params_at c.behind) _ p.1
          (bind_to (expect_at (codes "{") p.0) _ (expect-again (codes "{") is.begin p.0 e.behind is.is_begin e.next)
          (bind_to (statements_at context e.behind) _ (statements-again context is.inside d.body is.calls is.statements e.behind i.middle i.first over)
          (bind_to (expect_at (codes "RETURN") i.middle) _ (expect-again (codes "RETURN") is.return i.middle k.behind is.is_return k.next)
          (bind_to (whole_at context k.behind) _ (whole-again context is.back is.answer is.is_answer k.behind w.middle w.first (ends-text 8 (codes "}") is.end z.behind w.middle z.next is.is_end refl))
          (bind_to (expect_at (codes "}") w.middle) _ (expect-again (codes "}") is.end w.middle z.behind is.is_end z.next)
          (ap (λ (x : Defined). Ok (x, z.behind)) same ∙ ap (λ (q : Reading). Ok (record { define = d; depth = depth }, q)) (no-more z.rest)))))))));
      fewer = Reads-fewer h;
    }

defines-again : (ds : List Define) (room : ℕ) (before : Defines) (known : List Known) (ws : Words) → AreDefines before.known ws ds known → (r m : Reading) → Reads ws r m → accept_at (codes "DEFINE") m ≡ Ok (false, m) → unread r < room
    → defines_from room before r ≡ Ok (record { defines = before.defines ++ ds; known = known }, m)
unfolding defines_from
defines-again ds zero before known ws are r m h other few = absurd (omega arith)
defines-again [] (suc room) before known ws are r m h other few =
    let same = no-more (subst (λ (us : Words). Reads us r m) are.0 h) in
    subst (λ (q : Reading). defines_from (suc room) before q ≡ Ok (record { defines = before.defines ++ []; known = known }, m)) (sym same)
    (bind_to (accept_at (codes "DEFINE") m) _ other (ap (λ (l : List Define). Ok (record { defines = l; known = before.known }, m)) (sym (append-nil before.defines)) ∙ ap (λ (l : List Known). Ok (record { defines = before.defines ++ []; known = l }, m)) (sym are.1)))
defines-again (d ∷ ds) (suc room) before known ws (front, rest, depth, is, are, same) r m h other few =
    let a = split front (subst (λ (us : Words). Reads us r m) same h) in
    let one = define-again before.known front d depth is r a.middle a.first in
    let fewer = one.fewer in
    bind_to (accept_at (codes "DEFINE") r) _ one.follows
    (bind_to (define_at (record { known = before.known; inside = true }) one.behind) _ one.read
    (defines-again ds room (and_define before (record { define = d; depth = depth })) known rest are a.middle m a.second other (omega arith) ∙ ap (λ (l : List Define). Ok (record { defines = l; known = known }, m)) (append_assoc before.defines (d ∷ []) ds)))

-- no DEFINE stands where statements or END do
name-no_define : (w : Spelled) (ws : Words) (r m : Reading) → IsName w → Reads (w ∷ ws) r m → accept_at (codes "DEFINE") r ≡ Ok (false, r)
name-no_define w ws r m free h =
    let a = next-again h in
    let is : is_free w.bytes ≡ true = free in
    accept-not (codes "DEFINE") w r a.behind (not_text is_free w.bytes (codes "DEFINE") is refl) a.next

word-no_define : (w : Spelled) (text : List ℕ) (ws : Words) (r m : Reading) → Is w text → bytes_eq text (codes "DEFINE") ≡ false → Reads (w ∷ ws) r m → accept_at (codes "DEFINE") r ≡ Ok (false, r)
word-no_define w text ws r m is f h = (let a = next-again h in accept-not (codes "DEFINE") w r a.behind (ap (λ (t : List ℕ). bytes_eq t (codes "DEFINE")) is ∙ f) a.next)

no-define : (context : Context) (room : ℕ) (ws : Words) (s : Statements) (calls : ℕ) → AreStatements context room ws s calls → (r m : Reading) → Reads ws r m → accept_at (codes "DEFINE") m ≡ Ok (false, m) → accept_at (codes "DEFINE") r ≡ Ok (false, r)
no-define context _ _ _ _ (done room) r m h end = subst (λ (q : Reading). accept_at (codes "DEFINE") q ≡ Ok (false, q)) (sym (no-more h)) end
no-define context _ _ _ _ (assigned room calls w sign ts es rest t e s target sign_is is_e are) r m h end = name-no_define w _ r m target.0 h
no-define context _ _ _ _ (assigned_above room calls w opening greatest colon closing sign ls es rest l e s name_is opening_is greatest_is colon_is is_l closing_is sign_is is_e are) r m h end = name-no_define w _ r m name_is h
no-define context _ _ _ _ (repeated room calls calls' w variable sign to closing xs ys body rest x y s t is name_is sign_is is_x to_is is_y are closing_is others) r m h end = word-no_define w (codes "FOR") _ r m is refl h
no-define context _ _ _ _ (chosen_way room calls calls' w closing inside rest ways s is are closing_is others) r m h end = word-no_define w (codes "IF") _ r m is refl h
no-define context _ _ _ _ (picked_arm room calls calls' w of closing es inside rest e arms s is is_e of_is are closing_is others) r m h end = word-no_define w (codes "CASE") _ r m is refl h

whole-operation : (r : Reading) (o : Operation) (rest : Reading) (ws : Words) → IsOperation ws o → Reads ws r rest → operation_at r ≡ Ok (o, rest)
unfolding operation_at
whole-operation r o rest ws is h0 =
    let h = subst (λ (us : Words). Reads us r rest) is.whole h0 in
    let context : Context = record { known = is.known; inside = false } in
    let a = split is.front h in
    let b = split is.inside a.second in
    let c = next-again b.second in
    let end = word-no_define is.end (codes "END") [] b.middle rest is.is_end refl b.second in
    let over = over-text (codes "END") is.end c.behind b.middle c.next is.is_end refl refl in
    let none = no-define context 64 is.inside o.body is.calls is.statements a.middle b.middle b.first end in
    bind_to (defines_at r) _ (defines-again o.defines (suc (unread r)) (record { defines = []; known = [] }) is.known is.front is.defines r a.middle a.first none (omega arith))
    (bind_to (statements_at context a.middle) _ (statements-again context is.inside o.body is.calls is.statements a.middle b.middle b.first over)
    (bind_to (expect_at (codes "END") b.middle) _ (expect-again (codes "END") is.end b.middle c.behind is.is_end c.next) (ap (λ (q : Reading). Ok (o, q)) (no-more c.rest))))

pub operation-again : (r : Reading) (o : Operation) (rest : Reading) → IsOperationText r o rest → operation_at r ≡ Ok (o, rest)
operation-again r o rest (words, stand, is) = whole-operation r o rest words is (record { stand = stand })
