-- What is read as an operation is in the language.
use Rattle.std.proofs.Common.{◌≡◌, ℕ, zero, suc, true, false, List, [], ◌∷◌, ◌++◌, Option, Some, None, Result, Ok, refl, sym, ◌∙◌, ap, subst, inl, inr, append_assoc, append-nil}
use Rattle.std.specs.Prelude.{codes, nat_eq, is_some}
use Rattle.std.proofs.lemmas.Bool.{eqb-true}
use Rattle.vg_base.proofs.Bind.{bind_ok, tested_ok}
use Rattle.vg_text.specs.Words.{Reading, Spelled}
use Rattle.vg_pseudo.specs.declared.operation.DefineParam.{DefineParam}
use Rattle.vg_pseudo.specs.declared.fault.PseudoFault.{PseudoFault}
use Rattle.vg_pseudo.specs.Tree.{Define, Operation}
use Rattle.vg_pseudo.specs.Definitions.{Known, Context}
use Rattle.vg_pseudo.specs.Words.{number_of}
use Rattle.vg_pseudo.specs.Reader.{next_at, expect_at, accept_at, name_at, number_at, items_behind, unread}
use Rattle.vg_pseudo.specs.Expressions.{whole_at}
use Rattle.vg_pseudo.specs.Statements.{statements_at}
use Rattle.vg_pseudo.specs.Operations.{zero_at, high_at, param_at, params_at, Defined, define_at, Defines, and_define, defines_from, defines_at, operation_at}
use Rattle.vg_pseudo.specs.Grammar.{Words, Is, IsParam, AreMoreParams, AreParams, IsDefine, AreDefines, IsOperation, IsOperationText}
use Rattle.vg_pseudo.proofs.Taking.{ok_once}
use Rattle.vg_pseudo_laws.proofs.Standing.{Reads, ◌▷◌, no-words, FoundWord, tested-found, expect-found, accept-found, name-found}
use Rattle.vg_pseudo_laws.proofs.ListsFound.{FoundItem, Many, nothing, another, SoundItems, items-found}
use Rattle.vg_pseudo_laws.proofs.ExpressionsFound.{whole-found}
use Rattle.vg_pseudo_laws.proofs.ChoicesFound.{FoundNumber, number-found, nothing_is_no_number}
use Rattle.vg_pseudo_laws.proofs.StatementsFound.{statements-found}

zero-found : (r : Reading) (x : ℕ × Reading) → zero_at r ≡ Ok x → FoundNumber 0 r x.1
zero-found r x e = (let w = bind_ok (next_at r) _ e in by w.0 w.1 (number_of w.0.0.bytes) refl)
  where
    by : (w : Spelled × Reading) → next_at r ≡ Ok w → (o : Option ℕ) → number_of w.0.bytes ≡ o → FoundNumber 0 r x.1
    by w t (Some n) k =
        let z = tested_ok (nat_eq n 0) _ _ (rw (t, k) at e) in
        let is : number_of w.0.bytes ≡ Some 0 = k ∙ ap Some (eqb-true n 0 z.0) in
        subst (λ (y : ℕ × Reading). FoundNumber 0 r y.1) (ok_once _ x z.1)
        (record { word = w.0; is = is; reads = tested-found (λ b. is_some (number_of b)) r w t (ap is_some is) nothing_is_no_number })
    by w t None k = (let bad = rw (t, k) at e in cc)

-- `high:0]`
record FoundHigh (h : ℕ) (r q : Reading) : Type 0 where
  high : Spelled
  colon : Spelled
  low : Spelled
  closing : Spelled
  is_high : number_of high.bytes ≡ Some h
  is_colon : Is colon (codes ":")
  is_low : number_of low.bytes ≡ Some 0
  is_closing : Is closing (codes "]")
  reads : Reads (high ∷ colon ∷ low ∷ closing ∷ []) r q

high-found : (r : Reading) (x : ℕ × Reading) → high_at r ≡ Ok x → FoundHigh x.0 r x.1
unfolding high_at
high-found r x e =
    let h = bind_ok (number_at r) _ e in
    let c = bind_ok (expect_at (codes ":") h.0.1) _ h.2 in
    let l = bind_ok (zero_at c.0.1) _ c.2 in
    let b = bind_ok (expect_at (codes "]") l.0.1) _ l.2 in
    let high = number-found r h.0 h.1 in
    let colon = expect-found 58 [] h.0.1 c.0 c.1 in
    let low = zero-found c.0.1 l.0 l.1 in
    let closing = expect-found 93 [] l.0.1 b.0 b.1 in
    subst (λ (y : ℕ × Reading). FoundHigh y.0 r y.1) (ok_once _ x b.2)
    (record {
      high = high.word;
      colon = colon.word;
      low = low.word;
      closing = closing.word;
      is_high = high.is;
      is_colon = colon.is;
      is_low = low.is;
      is_closing = closing.is;
      reads = high.reads ▷ colon.reads ▷ low.reads ▷ closing.reads;
    })

-- A parameter was read.
record FoundParam (r : Reading) (x : DefineParam × Reading) : Type 0 where
  words : Words
  is : IsParam words x.0
  reads : Reads words r x.1

param-found : (r : Reading) (x : DefineParam × Reading) → param_at r ≡ Ok x → FoundParam r x
unfolding param_at
param-found r x e =
    let n = bind_ok (name_at r) _ e in
    let o = bind_ok (accept_at (codes "[") n.0.1) _ n.2 in
    let named = name-found r n.0 n.1 in
    elim (accept-found 91 [] n.0.1 o.0 o.1) [
      | inl opening ↦
          let h = bind_ok (high_at o.0.1) _ (rw opening.0 at o.2) in
          let high = high-found o.0.1 h.0 h.1 in
          subst (FoundParam r) (ok_once _ x h.2)
          (record {
            words = n.0.0 ∷ opening.1.word ∷ high.high ∷ high.colon ∷ high.low ∷ high.closing ∷ [];
            is = (named.0, refl, opening.1.is, high.is_high, refl, high.is_colon, high.is_low, high.is_closing);
            reads = named.1 ▷ opening.1.reads ▷ high.reads;
          })
      | inr none ↦
          subst (FoundParam r) (ok_once _ x (rw none.0 at o.2))
          (record { words = n.0.0 ∷ []; is = (named.0, refl, refl); reads = subst (λ (m : Reading). Reads (n.0.0 ∷ []) r m) (sym none.1) named.1 })
    ]

-- a parameter after a comma
abbrev OneParam : Words → DefineParam → Type 0
OneParam ws p = (rest : Words) (ps : List DefineParam) → AreMoreParams rest ps → AreMoreParams (ws ++ rest) (p ∷ ps)

params-sound : SoundItems OneParam (accept_at (codes ",")) param_at
params-sound = record { goes = goes; stays = stays }
  where
    goes : (r q : Reading) (x : DefineParam × Reading) → accept_at (codes ",") r ≡ Ok (true, q) → param_at q ≡ Ok x → FoundItem OneParam r x
    goes r q x e h =
        elim (accept-found 44 [] r (true, q) e) [
          | inl comma ↦
              let f = param-found q x h in
              record {
                first = comma.1.word;
                rest = f.words;
                is = λ rest ps are. (comma.1.word, f.words, rest, comma.1.is, f.is, are, refl);
                reads = comma.1.reads ▷ f.reads;
              }
          | inr none ↦ absurd (let bad = none.0 in cc)
        ]

    stays : (r q : Reading) → accept_at (codes ",") r ≡ Ok (false, q) → q ≡ r
    stays r q e =
        elim (accept-found 44 [] r (false, q) e) [
          | inl comma ↦ absurd (let bad = comma.0 in cc)
          | inr none ↦ none.1
        ]

are_params : {ws : Words} {ps : List DefineParam} → Many OneParam ws ps → AreMoreParams ws ps
are_params nothing = refl
are_params (another ws more x xs one rest) = one more xs (are_params rest)

-- Parameters were read, and the parenthesis after them.
record FoundParams (r : Reading) (x : List DefineParam × Reading) : Type 0 where
  words : Words
  are : AreParams words x.0
  middle : Reading
  reads : Reads words r middle
  closing : Spelled
  is_closing : Is closing (codes ")")
  closes : Reads (closing ∷ []) middle x.1

params-found : (r : Reading) (x : List DefineParam × Reading) → params_at r ≡ Ok x → FoundParams r x
unfolding params_at
params-found r x e =
    let a = bind_ok (param_at r) _ e in
    let b = bind_ok (items_behind (accept_at (codes ",")) param_at (a.0.0 ∷ []) a.0.1) _ a.2 in
    let c = bind_ok (expect_at (codes ")") b.0.1) _ b.2 in
    let f = param-found r a.0 a.1 in
    let g = items-found OneParam (accept_at (codes ",")) param_at params-sound (a.0.0 ∷ []) a.0.1 b.0 b.1 in
    let closing = expect-found 41 [] b.0.1 c.0 c.1 in
    subst (FoundParams r) (ap (λ (ps : List DefineParam). (ps, c.0.1)) (sym g.all) ∙ ok_once _ x c.2)
    (record {
      words = f.words ++ g.words;
      are = (f.words, g.words, f.is, are_params g.are, refl);
      middle = b.0.1;
      reads = f.reads ▷ g.reads;
      closing = closing.word;
      is_closing = closing.is;
      closes = closing.reads;
    })

-- A DEFINE was read.
record FoundDefine (known : List Known) (r : Reading) (x : Defined × Reading) : Type 0 where
  words : Words
  is : IsDefine known words x.0.define x.0.depth
  reads : Reads words r x.1

define-found : (known : List Known) (r m : Reading) (x : Defined × Reading) → FoundWord (codes "DEFINE") r m → define_at (record { known = known; inside = true }) m ≡ Ok x → FoundDefine known r x
unfolding define_at
define-found known r m x w e =
    let context : Context = record { known = known; inside = true } in
    let n = bind_ok (name_at m) _ e in
    let o = bind_ok (expect_at (codes "(") n.0.1) _ n.2 in
    let p = bind_ok (params_at o.0.1) _ o.2 in
    let b = bind_ok (expect_at (codes "{") p.0.1) _ p.2 in
    let s = bind_ok (statements_at context b.0.1) _ b.2 in
    let k = bind_ok (expect_at (codes "RETURN") s.0.1) _ s.2 in
    let a = bind_ok (whole_at context k.0.1) _ k.2 in
    let c = bind_ok (expect_at (codes "}") a.0.1) _ a.2 in
    let named = name-found m n.0 n.1 in
    let opening = expect-found 40 [] n.0.1 o.0 o.1 in
    let params = params-found o.0.1 p.0 p.1 in
    let begin = expect-found 123 [] p.0.1 b.0 b.1 in
    let inside = statements-found context b.0.1 s.0 s.1 in
    let return = expect-found 82 (codes "ETURN") s.0.1 k.0 k.1 in
    let answer = whole-found context k.0.1 a.0 a.1 in
    let end = expect-found 125 [] a.0.1 c.0 c.1 in
    subst (FoundDefine known r) (ok_once _ x c.2)
    (record {
      words = w.word ∷ n.0.0 ∷ opening.word ∷ (params.words ++ params.closing ∷ begin.word ∷ (inside.words ++ return.word ∷ (answer.words ++ end.word ∷ [])));
      is = record {
        first = w.word;
        is_first = w.is;
        named = n.0.0;
        is_name = named.0;
        is_named = refl;
        opening = opening.word;
        is_opening = opening.is;
        between = params.words;
        params = params.are;
        closing = params.closing;
        is_closing = params.is_closing;
        begin = begin.word;
        is_begin = begin.is;
        inside = inside.words;
        calls = s.0.0.calls;
        statements = inside.are;
        return = return.word;
        is_return = return.is;
        back = answer.words;
        answer = a.0.0;
        is_answer = (answer.is, answer.deep);
        same = refl;
        end = end.word;
        is_end = end.is;
        deep = refl;
        whole = refl;
      };
      reads = w.reads ▷ named.1 ▷ opening.reads ▷ params.reads ▷ params.closes ▷ begin.reads ▷ inside.reads ▷ return.reads ▷ answer.reads ▷ end.reads;
    })

-- DEFINEs were read after those that were done.
record FoundDefines (done : Defines) (r : Reading) (x : Defines × Reading) : Type 0 where
  defines : List Define
  words : Words
  all : x.0.defines ≡ done.defines ++ defines
  are : AreDefines done.known words defines x.0.known
  reads : Reads words r x.1

no_defines : (done : Defines) (r m : Reading) (x : Defines × Reading) → m ≡ r → (let whole : Result (Defines × Reading) PseudoFault = Ok (done, m) in whole ≡ Ok x) → FoundDefines done r x
no_defines done r m x same e =
    subst (FoundDefines done r) (ap (λ (n : Reading). (done, n)) (sym same) ∙ ok_once _ x e)
    (record { defines = []; words = []; all = sym (append-nil done.defines); are = (refl, refl); reads = no-words r })

more_defines : (done : Defines) (r : Reading) (d : Defined × Reading) (x : Defines × Reading) → FoundDefine done.known r d → FoundDefines (and_define done d.0) d.1 x → FoundDefines done r x
more_defines done r d x one more = record {
  defines = d.0.define ∷ more.defines;
  words = one.words ++ more.words;
  all = more.all ∙ append_assoc done.defines (d.0.define ∷ []) more.defines;
  are = (one.words, more.words, d.0.depth, one.is, more.are, refl);
  reads = one.reads ▷ more.reads;
}

defines-found : (room : ℕ) (done : Defines) (r : Reading) (x : Defines × Reading) → defines_from room done r ≡ Ok x → FoundDefines done r x
unfolding defines_from
defines-found zero done r x e = no_defines done r r x refl e
defines-found (suc room) done r x e =
    let w = bind_ok (accept_at (codes "DEFINE") r) _ e in
    elim (accept-found 68 (codes "EFINE") r w.0 w.1) [
      | inl word ↦
          let d = bind_ok (define_at (record { known = done.known; inside = true }) w.0.1) _ (rw word.0 at w.2) in
          more_defines done r d.0 x (define-found done.known r w.0.1 d.0 word.1 d.1) (defines-found room (and_define done d.0.0) d.0.1 x d.2)
      | inr none ↦ no_defines done r w.0.1 x none.1 (rw none.0 at w.2)
    ]

-- An operation was read.
record FoundOperation (r : Reading) (x : Operation × Reading) : Type 0 where
  words : Words
  is : IsOperation words x.0
  reads : Reads words r x.1

all-found : (r : Reading) (x : Operation × Reading) → operation_at r ≡ Ok x → FoundOperation r x
unfolding operation_at
all-found r x e =
    let d = bind_ok (defines_at r) _ e in
    let s = bind_ok (statements_at (record { known = d.0.0.known; inside = false }) d.0.1) _ d.2 in
    let c = bind_ok (expect_at (codes "END") s.0.1) _ s.2 in
    let defines = defines-found (suc (unread r)) (record { defines = []; known = [] }) r d.0 d.1 in
    let inside = statements-found (record { known = d.0.0.known; inside = false }) d.0.1 s.0 s.1 in
    let end = expect-found 69 (codes "ND") s.0.1 c.0 c.1 in
    subst (FoundOperation r) (ok_once _ x c.2)
    (record {
      words = defines.words ++ (inside.words ++ end.word ∷ []);
      is = record {
        front = defines.words;
        known = d.0.0.known;
        defines = subst (λ (ds : List Define). AreDefines [] defines.words ds d.0.0.known) (sym defines.all) defines.are;
        inside = inside.words;
        calls = s.0.0.calls;
        statements = inside.are;
        end = end.word;
        is_end = end.is;
        whole = refl;
      };
      reads = defines.reads ▷ inside.reads ▷ end.reads;
    })

pub operation-found : (r : Reading) (o : Operation) (rest : Reading) → operation_at r ≡ Ok (o, rest) → IsOperationText r o rest
operation-found r o rest e = let f = all-found r (o, rest) e in (f.words, f.reads.stand, f.is)
