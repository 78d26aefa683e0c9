-- What is read as parameters, and as a whole kernel, is in the language.
use Rattle.std.proofs.Common.{◌≡◌, ℕ, zero, suc, ◌≤◌, Bool, true, false, List, [], ◌∷◌, ◌++◌, length, map, Some, Result, Ok, Err, refl, sym, ◌∙◌, ap, subst, inl, inr, arith, append_assoc, append-nil}
use Rattle.std.specs.Prelude.{codes, IsTrue, ◌||◌, ◌⊎◌, nat_le, sum_by, if◌then◌else◌}
use Rattle.std.specs.List.{AllByRecursion, IsDistinct}
use Rattle.std.specs.Option.{option_map}
use Rattle.std.specs.Str.{bytes_eq}
use Rattle.std.proofs.lemmas.Bool.{leb-true}
use Rattle.std.proofs.lemmas.List.{map-append}
use Rattle.vg_base.specs.Bind.{◌>>=◌, or_fault}
use Rattle.vg_base.proofs.Bind.{bind_ok, tested_ok, refused_ok, either_way}
use Rattle.vg_text.specs.Place.{first_place}
use Rattle.vg_text.specs.declared.place.Place.{Place}
use Rattle.vg_text.specs.Words.{Reading, Spelled, reading_of}
use Rattle.vg_kernel.specs.declared.fault.KernelFault.{KernelFault}
use Rattle.vg_kernel.specs.declared.fault.KernelFault.TheVariants.{Shape, DuplicateName, TooLarge}
use Rattle.vg_kernel.specs.declared.head.Head.{Head}
use Rattle.vg_kernel.specs.declared.parameter.KParam.{KParam}
use Rattle.vg_kernel.specs.declared.parameter.KParamKind.{KParamKind}
use Rattle.vg_kernel.specs.declared.parameter.KParamKind.TheVariants.{Pointer, Integer}
use Rattle.vg_kernel.specs.Grammar.{Is, IsKind, IsParameter, AreMore, AreParameters, AreStatements, IsKernel, IsKernelText}
use Rattle.vg_kernel.specs.Names.{names_of}
use Rattle.vg_kernel.specs.Reader.{next_at, expect_at, end_at, name_at}
use Rattle.vg_kernel.specs.Script.{Words, script_left}
use Rattle.vg_kernel.specs.Statements.{kind_at, is_taken, parameter_at, parameter_too_many, comma_at, parameters_behind, parameters_at, statements_at, head_at, block_at, body_at, kernel_at, kernel_of}
use Rattle.vg_kernel.specs.Cost.{uses_of}
use Rattle.vg_kernel.specs.Tree.{Statement, Tree}
use Rattle.vg_text.specs.Sized.{width_behind}
use Rattle.vg_kernel.specs.Words.{sized, is_free}
use Rattle.vg_kernel.proofs.OperandsFound.{at}
use Rattle.vg_kernel.proofs.Scripts.{Spells, Spells-append, same_text, ok_once, fault-some, next-found, expect-found, name-found, end_at-found}
use Rattle.vg_kernel.proofs.Sizes.{width_behind-found}
use Rattle.vg_kernel.proofs.StatementsFound.{statements-found}

-- one more at the end
all-push : {X : Type 0} (P : X → Type 0) (xs : List X) (y : X) → AllByRecursion P xs → P y → AllByRecursion P (xs ++ y ∷ [])
all-push P [] y all one = (one, tt)
all-push P (x ∷ xs) y all one = (all.0, all-push P xs y all.1 one)

-- parameters whose names differ
abbrev pub AreDistinct : List KParam → Type 0
AreDistinct ps = IsDistinct bytes_eq (map (λ p. p.name) ps)

-- names that differ from one that none of them is
untaken-distinct : (name : List ℕ) (ps : List KParam) → is_taken name ps ≡ false → AreDistinct ps → IsDistinct bytes_eq (map (λ p. p.name) ps ++ name ∷ [])
unfolding IsDistinct
untaken-distinct name [] free d = (tt, tt)
untaken-distinct name (p ∷ ps) free d =
    let both = neither (bytes_eq p.name name) (is_taken name ps) free in
    (all-push (λ y. bytes_eq p.name y ≡ false) (map (λ q. q.name) ps) name d.0 both.0, untaken-distinct name ps both.1 d.1)
  where
    neither : (a b : Bool) → (a || b) ≡ false → (a ≡ false) × (b ≡ false)
    neither true b e = cc
    neither false b e = (refl, e)

one_more : (done : List KParam) (p : KParam) → AreDistinct done → is_taken p.name done ≡ false → AreDistinct (done ++ p ∷ [])
one_more done p d free = rw map-append (untaken-distinct p.name done free d)

-- this very word
word-is : (b : ℕ) (bs : List ℕ) (r : Reading) (w : Spelled × Reading) → next_at r ≡ Ok w → bytes_eq w.0.bytes (b ∷ bs) ≡ true → Is w.0 (b ∷ bs) × Spells r (w.0 ∷ []) w.1
word-is b bs r w e t =
    let is = same_text w.0.bytes (b ∷ bs) t in
    (is, next-found r w e (λ none. let no : [] ≡ b ∷ bs = sym none ∙ is in cc))

-- the kind of a parameter
kind-found : (r : Reading) (x : KParamKind × Reading) → kind_at r ≡ Ok x → (ws : Words) × IsKind ws x.0 × Spells r ws x.1
unfolding kind_at
kind-found r x e =
    let w = bind_ok (next_at r) _ e in
    elim (either_way (bytes_eq w.0.0.bytes (codes "ptr")) (Ok (Pointer false, w.0.1)) _ w.2) [
      | inl plain ↦
          let word = word-is 112 (codes "tr") r w.0 w.1 plain.0 in
          subst (λ (q : KParamKind × Reading). (ws : Words) × IsKind ws q.0 × Spells r ws q.1) (ok_once (Pointer false, w.0.1) x plain.1) (w.0.0 ∷ [], (w.0.0, word.0, refl), word.1)
      | inr other ↦ elim (either_way (bytes_eq w.0.0.bytes (codes "noalias")) _ _ other.1) [
        | inl apart ↦
            let word = word-is 110 (codes "oalias") r w.0 w.1 apart.0 in
            let b = bind_ok (expect_at (codes "ptr") w.0.1) _ apart.1 in
            let second = expect-found 112 (codes "tr") w.0.1 b.0 b.1 in
            subst (λ (q : KParamKind × Reading). (ws : Words) × IsKind ws q.0 × Spells r ws q.1) (ok_once (Pointer true, b.0) x b.2)
            (w.0.0 ∷ second.0 ∷ [], (w.0.0, second.0, word.0, second.1, refl), Spells-append r w.0.1 b.0 (w.0.0 ∷ []) (second.0 ∷ []) word.1 second.2)
        | inr type ↦
            let v = bind_ok (or_fault (width_behind (codes "i") w.0.0.bytes) (Shape w.0.0.place)) _ type.1 in
            let is = width_behind-found (codes "i") w.0.0.bytes v.0 (fault-some _ _ v.0 v.1) in
            subst (λ (q : KParamKind × Reading). (ws : Words) × IsKind ws q.0 × Spells r ws q.1) (ok_once (Integer v.0, w.0.1) x v.2)
            (w.0.0 ∷ [], (w.0.0, is, refl), next-found r w.0 w.1 (λ none. let no : [] ≡ sized (codes "i") v.0 = sym none ∙ is in cc))
      ]
    ]

-- a parameter whose name none of those before has
record FoundParameter (before : List KParam) (r : Reading) (x : KParam × Reading) : Type 0 where
  words : Words
  is : IsParameter words x.0
  fresh : is_taken x.0.name before ≡ false
  spells : Spells r words x.1

parameter-found : (before : List KParam) (r : Reading) (x : KParam × Reading) → parameter_at before r ≡ Ok x → FoundParameter before r x
unfolding parameter_at
parameter-found before r x e =
    let n = bind_ok (name_at r) _ e in
    let f = bind_ok (if is_taken n.0.0.bytes before then Err (DuplicateName n.0.0.place) else Ok n.0.0.bytes) _ n.2 in
    let t = refused_ok (is_taken n.0.0.bytes before) (Ok n.0.0.bytes) (DuplicateName n.0.0.place) f.1 in
    let same = ok_once n.0.0.bytes f.0 t.1 in
    let c = bind_ok (expect_at (codes ":") n.0.1) _ f.2 in
    let k = bind_ok (kind_at c.0) _ c.2 in
    let name = name-found r n.0 n.1 in
    let colon = expect-found 58 [] n.0.1 c.0 c.1 in
    let kind = kind-found c.0 k.0 k.1 in
    let all = Spells-append r n.0.1 k.0.1 (n.0.0 ∷ []) (colon.0 ∷ kind.0) name.1 (Spells-append n.0.1 c.0 k.0.1 (colon.0 ∷ []) kind.0 colon.2 kind.2) in
    subst (FoundParameter before r) (ok_once (record { name = f.0; kind = k.0.0 }, k.0.1) x k.2)
    (record {
      words = n.0.0 ∷ colon.0 ∷ kind.0;
      is = (n.0.0, colon.0, kind.0, same, subst (λ (b : List ℕ). IsTrue (is_free b)) same name.0, colon.1, kind.1, refl);
      fresh = subst (λ (b : List ℕ). is_taken b before ≡ false) same t.0;
      spells = all;
    })

-- parameters after those that were done, and what ends them
record FoundParameters (room : ℕ) (done : List KParam) (r : Reading) (x : List KParam × Reading) : Type 0 where
  rest : List KParam
  words : Words
  closing : Spelled
  is_closing : Is closing (codes ")")
  all : x.0 ≡ done ++ rest
  are : AreMore words rest
  distinct : AreDistinct x.0
  few : length rest ≤ room
  spells : Spells r (words ++ closing ∷ []) x.1

-- after a parameter: a comma, or the end
comma-found : (r : Reading) (x : Bool × Reading) → comma_at r ≡ Ok x → ((x.0 ≡ false) × ((w : Spelled) × Is w (codes ")") × Spells r (w ∷ []) x.1)) ⊎ ((x.0 ≡ true) × ((w : Spelled) × Is w (codes ",") × Spells r (w ∷ []) x.1))
comma-found r x e =
    let w = bind_ok (next_at r) _ e in
    elim (either_way (bytes_eq w.0.0.bytes (codes ")")) (Ok (false, w.0.1)) _ w.2) [
      | inl ended ↦
          let word = word-is 41 [] r w.0 w.1 ended.0 in
          let same = ok_once (false, w.0.1) x ended.1 in
          inl (sym (ap (λ (q : Bool × Reading). q.0) same), (w.0.0, word.0, subst (λ (q : Bool × Reading). Spells r (w.0.0 ∷ []) q.1) same word.1))
      | inr more ↦
          let t = tested_ok (bytes_eq w.0.0.bytes (codes ",")) (Ok (true, w.0.1)) (Shape w.0.0.place) more.1 in
          let word = word-is 44 [] r w.0 w.1 t.0 in
          let same = ok_once (true, w.0.1) x t.1 in
          inr (sym (ap (λ (q : Bool × Reading). q.0) same), (w.0.0, word.0, subst (λ (q : Bool × Reading). Spells r (w.0.0 ∷ []) q.1) same word.1))
    ]

parameters-none : (room : ℕ) (done : List KParam) (r q : Reading) (x : List KParam × Reading) (w : Spelled) → AreDistinct done → Is w (codes ")") → Spells r (w ∷ []) q → (let whole : Result (List KParam × Reading) KernelFault = Ok (done, q) in whole ≡ Ok x) → FoundParameters room done r x
parameters-none room done r q x w d is closed e =
    subst (FoundParameters room done r) (ok_once (done, q) x e)
    (record { rest = []; words = []; closing = w; is_closing = is; all = sym (append-nil done); are = refl; distinct = d; few = omega arith; spells = closed })

more-found : (room : ℕ) (done : List KParam) (r c : Reading) (comma : Spelled) (p : KParam × Reading) (x : List KParam × Reading) → Is comma (codes ",") → Spells r (comma ∷ []) c → FoundParameter done c p → FoundParameters room (done ++ p.0 ∷ []) p.1 x → FoundParameters (suc room) done r x
more-found room done r c comma p x is first one more =
    let front = comma ∷ one.words in record {
      rest = p.0 ∷ more.rest;
      words = comma ∷ (one.words ++ more.words);
      closing = more.closing;
      is_closing = more.is_closing;
      all = more.all ∙ append_assoc done (p.0 ∷ []) more.rest;
      are = (comma, one.words, more.words, is, one.is, more.are, refl);
      distinct = more.distinct;
      few = let l = more.few in omega arith;
      spells = subst (λ (t : Words). Spells r t x.1) (sym (append_assoc front more.words (more.closing ∷ [])))
          (Spells-append r p.1 x.1 front (more.words ++ more.closing ∷ []) (Spells-append r c p.1 (comma ∷ []) one.words first one.spells) more.spells);
    }

parameters_behind-found : (room : ℕ) (done : List KParam) (r : Reading) (x : List KParam × Reading) → AreDistinct done → parameters_behind room done r ≡ Ok x → FoundParameters room done r x
unfolding parameters_behind
parameters_behind-found zero done r x d e =
    let c = bind_ok (comma_at r) _ e in
    elim (comma-found r c.0 c.1) [
      | inl ended ↦ parameters-none 0 done r c.0.1 x ended.1.0 d ended.1.1 ended.1.2 (ap (λ (b : Bool). if b then parameter_too_many c.0.1 else Ok (done, c.0.1)) (sym ended.0) ∙ c.2)
      | inr more ↦ (let no = ap (λ (b : Bool). if b then parameter_too_many c.0.1 else Ok (done, c.0.1)) (sym more.0) ∙ c.2 in let w = bind_ok (next_at c.0.1) _ no in absurd (cc (w.2)))
    ]
parameters_behind-found (suc room) done r x d e =
    let c = bind_ok (comma_at r) _ e in
    let go : Bool → Result (List KParam × Reading) KernelFault = λ b. if b then (parameter_at done c.0.1 >>= λ p. parameters_behind room (done ++ p.0 ∷ []) p.1) else Ok (done, c.0.1) in
    elim (comma-found r c.0 c.1) [
      | inl ended ↦ parameters-none (suc room) done r c.0.1 x ended.1.0 d ended.1.1 ended.1.2 (ap go (sym ended.0) ∙ c.2)
      | inr more ↦
          let p = bind_ok (parameter_at done c.0.1) _ (ap go (sym more.0) ∙ c.2) in
          let one = parameter-found done c.0.1 p.0 p.1 in
          more-found room done r c.0.1 more.1.0 p.0 x more.1.1 more.1.2 one (parameters_behind-found room (done ++ p.0.0 ∷ []) p.0.1 x (one_more done p.0.0 d one.fresh) p.2)
    ]

-- all parameters, and what ends them
pub record FoundAll (r : Reading) (x : List KParam × Reading) : Type 0 where
  pub words : Words
  pub closing : Spelled
  pub is_closing : Is closing (codes ")")
  pub are : AreParameters words x.0
  pub distinct : AreDistinct x.0
  pub few : length x.0 ≤ 16
  pub spells : Spells r (words ++ closing ∷ []) x.1

pub parameters-found : (r : Reading) (x : List KParam × Reading) → parameters_at r ≡ Ok x → FoundAll r x
unfolding parameters_at IsDistinct
parameters-found r x e =
    let w = bind_ok (next_at r) _ e in
    elim (either_way (bytes_eq w.0.0.bytes (codes ")")) (Ok ([], w.0.1)) _ w.2) [
      | inl ended ↦
          let word = word-is 41 [] r w.0 w.1 ended.0 in
          subst (FoundAll r) (ok_once ([], w.0.1) x ended.1) (record { words = []; closing = w.0.0; is_closing = word.0; are = refl; distinct = tt; few = omega arith; spells = word.1 })
      | inr more ↦
          let p = bind_ok (parameter_at [] r) _ more.1 in
          let one = parameter-found [] r p.0 p.1 in
          behind p.0 one (parameters_behind-found 15 (p.0.0 ∷ []) p.0.1 x (tt, tt) p.2)
    ]
  where
    behind : (p : KParam × Reading) → FoundParameter [] r p → FoundParameters 15 (p.0 ∷ []) p.1 x → FoundAll r x
    behind p one more =
        let few = more.few in record {
          words = one.words ++ more.words;
          closing = more.closing;
          is_closing = more.is_closing;
          are = subst (AreParameters (one.words ++ more.words)) (sym more.all) (one.words, more.words, one.is, more.are, refl);
          distinct = more.distinct;
          few = subst (λ (t : List KParam). length t ≤ 16) (sym more.all) (omega arith);
          spells = subst (λ (t : Words). Spells r t x.1) (sym (append_assoc one.words more.words (more.closing ∷ []))) (Spells-append r p.1 x.1 one.words (more.words ++ more.closing ∷ []) one.spells more.spells);
        }

-- a whole kernel
pub kernel_at-found : (r : Reading) (k : Tree) → kernel_at r ≡ Ok k → (ws : Words) × (script_left r ≡ Some ws) × IsKernel ws k
unfolding kernel_at head_at block_at body_at
kernel_at-found r k e =
    let a = bind_ok (expect_at (codes "kernel") r) _ e in
    let h = bind_ok (head_at a.0) _ a.2 in
    let n = bind_ok (name_at a.0) _ h.1 in
    let o = bind_ok (expect_at (codes "(") n.0.1) _ n.2 in
    let p = bind_ok (parameters_at o.0) _ o.2 in
    let whole = bind_ok (body_at h.0.0 h.0.1) _ h.2 in
    let l = bind_ok (block_at h.0.0 h.0.1) _ whole.1 in
    let headed : Head × Reading = (record { name = n.0.0.bytes; params = p.0.0 }, p.0.1) in
    let block = subst (λ (q : Head × Reading). block_at q.0 q.1 ≡ Ok l.0) (sym (ok_once headed h.0 p.2)) l.1 in
    let b = bind_ok (expect_at (codes "{") p.0.1) _ block in
    let s = bind_ok (statements_at 4096 (names_of p.0.0) [] (at b.0 0)) _ b.2 in
    let closed : (Tree × Place) × Reading = ((record { name = n.0.0.bytes; params = p.0.0; statements = s.0.0.0 }, s.0.0.1), s.0.1) in
    let same = ok_once closed l.0 s.2 in
    let e0 = bind_ok (end_at l.0.1) _ l.2 in
    let d : (q : Reading) × (end_at s.0.1 ≡ Ok q) = (e0.0, subst (λ (q : (Tree × Place) × Reading). end_at q.1 ≡ Ok e0.0) (sym same) e0.1) in
    let tree : closed.0.0 ≡ k = ap (λ (q : (Tree × Place) × Reading). q.0.0) same ∙ ap (λ (q : Tree × Reading). q.0) (ok_once (l.0.0.0, e0.0) whole.0 e0.2) ∙ ok_once whole.0.0 k whole.2 in
    let first = expect-found 107 (codes "ernel") r a.0 a.1 in
    let name = name-found a.0 n.0 n.1 in
    let opening = expect-found 40 [] n.0.1 o.0 o.1 in
    let params = parameters-found o.0 p.0 p.1 in
    let begin = expect-found 123 [] p.0.1 b.0 b.1 in
    let f = statements-found 4096 (names_of p.0.0) [] (at b.0 0) s.0 s.1 in
    let uses = f.uses (omega arith) in
    let inside = f.words ++ f.brace ∷ [] in
    let s4 = Spells-append p.0.1 b.0 s.0.1 (begin.0 ∷ []) inside begin.2 f.spells in
    let s3 = subst (λ (t : Words). Spells o.0 t s.0.1) (append_assoc params.words (params.closing ∷ []) (begin.0 ∷ inside)) (Spells-append o.0 p.0.1 s.0.1 (params.words ++ params.closing ∷ []) (begin.0 ∷ inside) params.spells s4) in
    let tail = params.words ++ params.closing ∷ begin.0 ∷ inside in
    let s2 = Spells-append n.0.1 o.0 s.0.1 (opening.0 ∷ []) tail opening.2 s3 in
    let s1 = Spells-append a.0 n.0.1 s.0.1 (n.0.0 ∷ []) (opening.0 ∷ tail) name.1 s2 in
    let s0 = Spells-append r a.0 s.0.1 (first.0 ∷ []) (n.0.0 ∷ opening.0 ∷ tail) first.2 s1 in
    let words = first.0 ∷ n.0.0 ∷ opening.0 ∷ tail in
    subst (λ (q : Tree). (vs : Words) × (script_left r ≡ Some vs) × IsKernel vs q) tree (
      words,
      s0 ∙ ap (option_map (λ (t : Words). words ++ t)) (end_at-found s.0.1 d.0 d.1) ∙ ap Some (append-nil words),
      record {
        first = first.0;
        is_first = first.1;
        named = n.0.0;
        is_named = refl;
        free = name.0;
        opening = opening.0;
        is_opening = opening.1;
        between = params.words;
        params = params.are;
        distinct = params.distinct;
        few = params.few;
        closing = params.closing;
        is_closing = params.is_closing;
        begin = begin.0;
        is_begin = begin.1;
        inside = f.words;
        statements = subst (AreStatements (names_of p.0.0) f.words) (sym f.all) f.are;
        lines = subst (λ (t : List Statement). length t ≤ 4096) (sym f.all) f.few;
        uses = subst (λ (t : List Statement). sum_by uses_of t ≤ 8192) (sym f.all) (omega (arith, uses));
        end = f.brace;
        is_end = f.is_brace;
        whole = refl;
      },
    )

-- a kernel text of at most so many bytes
pub kernel_of-found : (text : List ℕ) (k : Tree) → kernel_of text ≡ Ok k → IsKernelText text k
unfolding kernel_of
kernel_of-found text k e =
    let t = tested_ok (nat_le (length text) 262144) (kernel_at (reading_of text)) (TooLarge first_place) e in
    let found = kernel_at-found (reading_of text) k t.1 in
    record { size = leb-true (length text) 262144 t.0; words = found.0; tokens = found.1; kernel = found.2 }
