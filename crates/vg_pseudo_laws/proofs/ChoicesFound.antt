-- What is read as the ways of an IF and as the arms of a CASE is in the language.
use Rattle.std.proofs.Common.{◌≡◌, ℕ, Bool, true, false, List, [], ◌∷◌, ◌++◌, Some, Result, Ok, refl, sym, ◌∙◌, ap, subst, inl, inr, ◌⊎◌, arith, append_assoc, append-nil}
use Rattle.std.specs.Prelude.{codes, max, is_some}
use Rattle.std.specs.Str.{bytes_eq}
use Rattle.vg_base.specs.Bind.{or_fault}
use Rattle.vg_base.proofs.Bind.{bind_ok, either_way}
use Rattle.vg_text.specs.Number.{decimal_value}
use Rattle.vg_text.specs.Words.{Reading, Spelled}
use Rattle.vg_pseudo.specs.declared.fault.PseudoFault.{PseudoFault}
use Rattle.vg_pseudo.specs.declared.fault.PseudoFault.TheVariants.{Shape}
use Rattle.vg_pseudo.specs.Tree.{Statements, stop, way, last, choose}
use Rattle.vg_pseudo.specs.Definitions.{Context}
use Rattle.vg_pseudo.specs.Words.{number_of}
use Rattle.vg_pseudo.specs.Grammar.{Words, Is, IsWhole, BeginsNot, AreStatements, AreWays, last_way, way_and_else, way_and_more, AreArms, no_arm, arm_and_more, Stand}
use Rattle.vg_pseudo.specs.Reader.{or_token, next_at, expect_at, accept_at, number_at, items_behind}
use Rattle.vg_pseudo.specs.Expressions.{Part, whole_at}
use Rattle.vg_pseudo.specs.Statements.{Block, chained, nothing, Body, way_at, else_if_follows, else_at, if_at, arm_follows, arm_at}
use Rattle.vg_pseudo.proofs.Taking.{ok_once}
use Rattle.vg_pseudo_laws.proofs.Standing.{Reads, ◌▷◌, no-words, FoundWord, fault-some, this-word, this-found, tested-found, expect-found}
use Rattle.vg_pseudo_laws.proofs.ListsFound.{FoundItem, Many, SoundItems, items-found}
use Rattle.vg_pseudo_laws.proofs.ExpressionsFound.{whole-found}
use Rattle.vg_pseudo_laws.proofs.BlocksFound.{Kind, Before, chain-found, all-found, FoundBlock, SoundBody}

-- A number was read.
pub record FoundNumber (n : ℕ) (r q : Reading) : Type 0 where
  pub word : Spelled
  pub is : number_of word.bytes ≡ Some n
  pub reads : Reads (word ∷ []) r q

pub nothing_is_no_number : is_some (number_of []) ≡ false
unfolding decimal_value
nothing_is_no_number = refl

pub number-found : (r : Reading) (x : ℕ × Reading) → number_at r ≡ Ok x → FoundNumber x.0 r x.1
number-found r x e =
    let w = bind_ok (next_at r) _ e in
    let n = bind_ok (or_fault (number_of w.0.0.bytes) (Shape w.0.0.place)) _ w.2 in
    let is = fault-some (number_of w.0.0.bytes) _ n.0 n.1 in
    subst (λ (y : ℕ × Reading). FoundNumber y.0 r y.1) (ok_once _ x n.2)
    (record { word = w.0.0; is = is; reads = tested-found (λ b. is_some (number_of b)) r w.0 w.1 (ap is_some is) nothing_is_no_number })

-- ELSE IF that was taken
record FoundElseIf (r q : Reading) : Type 0 where
  other : Spelled
  again : Spelled
  is_other : Is other (codes "ELSE")
  is_again : Is again (codes "IF")
  reads : Reads (other ∷ again ∷ []) r q

else_if-found : (r : Reading) (x : Bool × Reading) → else_if_follows r ≡ Ok x → ((x.0 ≡ true) × FoundElseIf r x.1) ⊎ ((x.0 ≡ false) × (x.1 ≡ r))
unfolding else_if_follows
else_if-found r x e =
    let a = bind_ok (next_at r) _ e in
    elim (either_way (bytes_eq a.0.0.bytes (codes "ELSE")) _ (Ok (false, r)) a.2) [
      | inl other ↦
          let b = bind_ok (next_at a.0.1) _ other.1 in
          elim (either_way (bytes_eq b.0.0.bytes (codes "IF")) (Ok (true, b.0.1)) (Ok (false, r)) b.2) [
            | inl again ↦ inl (taken a.0.1 b.0.1 (this-found 69 (codes "LSE") r a.0 a.1 other.0) (this-found 73 (codes "F") a.0.1 b.0 b.1 again.0) again.1)
            | inr none ↦ inr (left none.1)
          ]
      | inr none ↦ inr (left none.1)
    ]
  where
    left : (let y : Result (Bool × Reading) PseudoFault = Ok (false, r) in y ≡ Ok x) → (x.0 ≡ false) × (x.1 ≡ r)
    left h = subst (λ (y : Bool × Reading). (y.0 ≡ false) × (y.1 ≡ r)) (ok_once _ x h) (refl, refl)

    taken : (m q : Reading) → FoundWord (codes "ELSE") r m → FoundWord (codes "IF") m q → (let y : Result (Bool × Reading) PseudoFault = Ok (true, q) in y ≡ Ok x) → (x.0 ≡ true) × FoundElseIf r x.1
    taken m q a b h =
        subst (λ (y : Bool × Reading). (y.0 ≡ true) × FoundElseIf r y.1) (ok_once _ x h)
        (refl, record { other = a.word; again = b.word; is_other = a.is; is_again = b.is; reads = a.reads ▷ b.reads })

-- a word that was read comes next
comes_next : (w : Spelled) (ws : Words) (m q : Reading) → Reads (w ∷ ws) m q → (n : Reading) × (next_at m ≡ Ok (w, n))
unfolding Stand
comes_next w ws m q reads = by reads.stand
  where
    by : Stand (w ∷ ws) m q → (n : Reading) × (next_at m ≡ Ok (w, n))
    by (n, read, some, rest) = (n, ap or_token read)

-- where ELSE IF does not follow, IF does not stand after ELSE
begins_not : (r q : Reading) (o : Spelled × Reading) (rest : Words) → next_at r ≡ Ok o → bytes_eq o.0.bytes (codes "ELSE") ≡ true → else_if_follows r ≡ Ok (false, r) → Reads rest o.1 q → BeginsNot (codes "IF") rest
unfolding else_if_follows
begins_not r q o [] t other e reads = tt
begins_not r q o (w ∷ ws) t other e reads = λ is. both is
  where
    both : Is w (codes "IF") → ⊥
    both is =
        let v = comes_next w ws o.1 q reads in
        let a = bind_ok (next_at r) _ e in
        let same : a.0 ≡ o = ok_once a.0 o (sym a.1 ∙ t) in
        let is_else : bytes_eq a.0.0.bytes (codes "ELSE") ≡ true = ap (λ (y : Spelled × Reading). bytes_eq y.0.bytes (codes "ELSE")) same ∙ other in
        elim (either_way (bytes_eq a.0.0.bytes (codes "ELSE")) _ (Ok (false, r)) a.2) [
          | inl first ↦
              let b = bind_ok (next_at a.0.1) _ first.1 in
              let next : b.0 ≡ (w, v.0) = ok_once b.0 (w, v.0) (sym b.1 ∙ ap (λ (y : Spelled × Reading). next_at y.1) same ∙ v.1) in
              let is_if : bytes_eq b.0.0.bytes (codes "IF") ≡ true = ap (λ (y : Spelled × Reading). bytes_eq y.0.bytes (codes "IF")) next ∙ ap (λ (text : List ℕ). bytes_eq text (codes "IF")) is ∙ refl in
              elim (either_way (bytes_eq b.0.0.bytes (codes "IF")) (Ok (true, b.0.1)) (Ok (false, r)) b.2) [
                | inl again ↦ (let bad : true ≡ false = ap (λ (y : Bool × Reading). y.0) (ok_once _ _ again.1) in cc)
                | inr none ↦ (let bad : true ≡ false = sym is_if ∙ none.0 in cc)
              ]
          | inr none ↦ (let bad : true ≡ false = sym is_else ∙ none.0 in cc)
        ]

-- a condition and the statements that it guards
record FoundWay (context : Context) (room : ℕ) (r : Reading) (x : Block × Reading) : Type 0 where
  words : Words
  inside : Words
  middle : Reading
  condition : Part
  statements : Statements
  calls : ℕ
  is : IsWhole context words condition
  are : AreStatements context room inside statements calls
  reads : Reads words r middle
  reads_inside : Reads inside middle x.1
  same : x.0 ≡ record { statements = way condition.expression statements stop; calls = max condition.calls calls }

-- what stands after the ways after the first
record FoundTail (Is : Kind) (r : Reading) (x : Block × Reading) : Type 0 where
  words : Words
  is : Is words x.0
  reads : Reads words r x.1

-- The ways of an IF were read, and FI after them.
pub record FoundWays (context : Context) (room : ℕ) (r : Reading) (x : Block × Reading) : Type 0 where
  pub words : Words
  pub ways : Statements
  pub calls : ℕ
  pub are : AreWays context room words ways calls
  pub closing : Spelled
  pub is_closing : Is closing (codes "FI")
  pub reads : Reads (words ++ closing ∷ []) r x.1
  pub same : x.0 ≡ record { statements = choose ways stop; calls = calls }

-- The arms of a CASE were read.
pub record FoundArms (context : Context) (room : ℕ) (r : Reading) (x : List Block × Reading) : Type 0 where
  pub words : Words
  pub are : AreArms context room words (chained x.0 nothing).statements (chained x.0 nothing).calls
  pub reads : Reads words r x.1

-- what may stand after a way, which makes ways with it
abbrev Behind : Context → ℕ → Kind
Behind context room ws b =
    (es inside : Words) (e : Part) (s : Statements) (calls : ℕ)
    → IsWhole context es e
    → AreStatements context room inside s calls
    → AreWays context room (es ++ (inside ++ ws)) (way e.expression s b.statements) (max (max e.calls calls) b.calls)

abbrev Arm : Context → ℕ → Kind
Arm context room ws b = AreArms context room ws b.statements b.calls

module _ (context : Context) (room : ℕ) (body : Body) (sound : SoundBody context room body) where
  way-found : (r : Reading) (x : Block × Reading) → way_at context body r ≡ Ok x → FoundWay context room r x
  unfolding way_at
  way-found r x e =
      let c = bind_ok (whole_at context r) _ e in
      let i = bind_ok (body c.0.1) _ c.2 in
      let condition = whole-found context r c.0 c.1 in
      let inside = sound c.0.1 i.0 i.1 in
      subst (FoundWay context room r) (ok_once _ x i.2)
      (record {
        words = condition.words;
        inside = inside.words;
        middle = c.0.1;
        condition = c.0.0;
        statements = i.0.0.statements;
        calls = i.0.0.calls;
        is = (condition.is, condition.deep);
        are = inside.are;
        reads = condition.reads;
        reads_inside = inside.reads;
        same = refl;
      })

  -- a way after ELSE IF
  another_way : (r q : Reading) (x : Block × Reading) → FoundElseIf r q → FoundWay context room q x → FoundItem (Before (Behind context room)) r x
  another_way r q x o f =
      subst (λ (b : Block). FoundItem (Before (Behind context room)) r (b, x.1)) (sym f.same)
      (record {
        first = o.other;
        rest = o.again ∷ (f.words ++ f.inside);
        is = λ rest t tail es inside e s calls is are.
            subst (λ (ws : Words). AreWays context room (es ++ (inside ++ o.other ∷ o.again ∷ ws)) (way e.expression s (way f.condition.expression f.statements t.statements)) (max (max e.calls calls) (max (max f.condition.calls f.calls) t.calls))) (sym (append_assoc f.words f.inside rest))
            (way_and_more room calls (max (max f.condition.calls f.calls) t.calls) o.other o.again es inside (f.words ++ (f.inside ++ rest)) e s (way f.condition.expression f.statements t.statements) is are o.is_other o.is_again
            (tail f.words f.inside f.condition f.statements f.calls f.is f.are));
        reads = o.reads ▷ f.reads ▷ f.reads_inside;
      })

  ways-sound : SoundItems (Before (Behind context room)) else_if_follows (way_at context body)
  ways-sound = record { goes = goes; stays = stays }
    where
      goes : (r q : Reading) (x : Block × Reading) → else_if_follows r ≡ Ok (true, q) → way_at context body q ≡ Ok x → FoundItem (Before (Behind context room)) r x
      goes r q x e h =
          elim (else_if-found r (true, q) e) [
            | inl follow ↦ another_way r q x follow.1 (way-found q x h)
            | inr none ↦ absurd (let bad = none.0 in cc)
          ]

      stays : (r q : Reading) → else_if_follows r ≡ Ok (false, q) → q ≡ r
      stays r q e =
          elim (else_if-found r (false, q) e) [
            | inl follow ↦ absurd (let bad = follow.0 in cc)
            | inr none ↦ none.1
          ]

  -- ELSE and its statements
  with_else : (r : Reading) (o : Spelled × Reading) (x : Block × Reading) → next_at r ≡ Ok o → bytes_eq o.0.bytes (codes "ELSE") ≡ true → else_if_follows r ≡ Ok (false, r) → FoundBlock context room o.1 x
      → FoundTail (Behind context room) r (record { statements = last x.0.statements; calls = x.0.calls }, x.1)
  with_else r o x t is ended f =
      let other = this-word 69 (codes "LSE") r o t is in
      record {
        words = o.0 ∷ f.words;
        is = λ es inside e s calls is_e are. way_and_else room calls x.0.calls o.0 es inside f.words e s x.0.statements is_e are other.0 (begins_not r x.1 o f.words t is ended f.reads) f.are;
        reads = other.1 ▷ f.reads;
      }

  without_else : (r : Reading) → FoundTail (Behind context room) r (record { statements = last stop; calls = 0 }, r)
  without_else r = record { words = []; is = is; reads = no-words r }
    where
      is : Behind context room [] (record { statements = last stop; calls = 0 })
      is es inside e s calls is_e are =
          let counts : max e.calls calls ≡ max (max e.calls calls) 0 = omega arith in
          subst (λ (ws : Words). AreWays context room (es ++ ws) (way e.expression s (last stop)) (max (max e.calls calls) 0)) (sym (append-nil inside))
          (subst (λ (n : ℕ). AreWays context room (es ++ inside) (way e.expression s (last stop)) n) counts (last_way room calls es inside e s is_e are))

  else-found : (r : Reading) (x : Block × Reading) → else_if_follows r ≡ Ok (false, r) → else_at body r ≡ Ok x → FoundTail (Behind context room) r x
  unfolding else_at
  else-found r x ended e =
      let a = bind_ok (accept_at (codes "ELSE") r) _ e in
      let w = bind_ok (next_at r) _ a.1 in
      elim (either_way (bytes_eq w.0.0.bytes (codes "ELSE")) (Ok (true, w.0.1)) (Ok (false, r)) w.2) [
        | inl is ↦
            let same : (true, w.0.1) ≡ a.0 = ok_once (true, w.0.1) a.0 is.1 in
            let i = bind_ok (body w.0.1) _ (rw (← same) at a.2) in
            subst (FoundTail (Behind context room) r) (ok_once _ x i.2) (with_else r w.0 i.0 w.1 is.0 ended (sound w.0.1 i.0 i.1))
        | inr none ↦
            let same : (false, r) ≡ a.0 = ok_once (false, r) a.0 none.1 in
            subst (FoundTail (Behind context room) r) (ok_once _ x (rw (← same) at a.2)) (without_else r)
      ]

  -- ways of parts that were found
  ways-whole : (r m n q : Reading) (first : Block) (ways : List Block) (other : Block) → FoundWay context room r (first, m) → (items : List Block) (words : Words) → ways ≡ first ∷ items → Many (Before (Behind context room)) words items → Reads words m n
      → FoundTail (Behind context room) n (other, q) → (p : Reading) → FoundWord (codes "FI") q p
      → FoundWays context room r (record { statements = choose (chained ways other).statements stop; calls = (chained ways other).calls }, p)
  unfolding chained
  ways-whole r m n q first ways other f items words all many reads t p closing =
      let tail = chain-found (Behind context room) many t.words other t.is in
      subst (λ (bs : List Block). FoundWays context room r (record { statements = choose (chained bs other).statements stop; calls = (chained bs other).calls }, p)) (sym (all ∙ ap (λ (b : Block). b ∷ items) f.same))
      (record {
        words = f.words ++ (f.inside ++ (words ++ t.words));
        ways = way f.condition.expression f.statements (chained items other).statements;
        calls = max (max f.condition.calls f.calls) (chained items other).calls;
        are = tail f.words f.inside f.condition f.statements f.calls f.is f.are;
        closing = closing.word;
        is_closing = closing.is;
        reads = simp append_assoc (f.reads ▷ f.reads_inside ▷ reads ▷ t.reads ▷ closing.reads);
        same = refl;
      })

  pub ways-found : (r : Reading) (x : Block × Reading) → if_at context body r ≡ Ok x → FoundWays context room r x
  unfolding if_at
  ways-found r x e =
      let f = bind_ok (way_at context body r) _ e in
      let a = bind_ok (items_behind else_if_follows (way_at context body) (f.0.0 ∷ []) f.0.1) _ f.2 in
      let o = bind_ok (else_at body a.0.1) _ a.2 in
      let c = bind_ok (expect_at (codes "FI") o.0.1) _ o.2 in
      let first = way-found r f.0 f.1 in
      let g = items-found (Before (Behind context room)) else_if_follows (way_at context body) ways-sound (f.0.0 ∷ []) f.0.1 a.0 a.1 in
      let tail = else-found a.0.1 o.0 g.ended o.1 in
      let closing = expect-found 70 (codes "I") o.0.1 c.0 c.1 in
      subst (FoundWays context room r) (ok_once _ x c.2)
      (ways-whole r f.0.1 a.0.1 o.0.1 f.0.0 a.0.0 o.0.0 first g.items g.words g.all g.are g.reads tail c.0.1 closing)

  arm-found : (r : Reading) (x : Block × Reading) → arm_at body r ≡ Ok x → FoundItem (Before (Arm context room)) r x
  unfolding arm_at
  arm-found r x e =
      let n = bind_ok (number_at r) _ e in
      let c = bind_ok (expect_at (codes ":") n.0.1) _ n.2 in
      let i = bind_ok (body c.0.1) _ c.2 in
      let number = number-found r n.0 n.1 in
      let colon = expect-found 58 [] n.0.1 c.0 c.1 in
      let inside = sound c.0.1 i.0 i.1 in
      subst (FoundItem (Before (Arm context room)) r) (ok_once _ x i.2)
      (record {
        first = number.word;
        rest = colon.word ∷ inside.words;
        is = λ rest t are. arm_and_more room i.0.0.calls t.calls n.0.0 number.word colon.word inside.words rest i.0.0.statements t.statements number.is colon.is inside.are are;
        reads = number.reads ▷ colon.reads ▷ inside.reads;
      })

  arms-sound : SoundItems (Before (Arm context room)) arm_follows (arm_at body)
  arms-sound = record {
    goes = λ r q x e h. (
        let w = bind_ok (next_at r) _ e in
        let same : r ≡ q = ap (λ (y : Bool × Reading). y.1) (ok_once _ _ w.2) in
        subst (λ (m : Reading). FoundItem (Before (Arm context room)) m x) (sym same) (arm-found q x h)
        );
    stays = λ r q e. (let w = bind_ok (next_at r) _ e in sym (ap (λ (y : Bool × Reading). y.1) (ok_once _ _ w.2)));
  }

  pub arms-found : (r : Reading) (x : List Block × Reading) → items_behind arm_follows (arm_at body) [] r ≡ Ok x → FoundArms context room r x
  arms-found r x e =
      let g = items-found (Before (Arm context room)) arm_follows (arm_at body) arms-sound [] r x e in
      record {
        words = g.words;
        are = subst (λ (bs : List Block). AreArms context room g.words (chained bs nothing).statements (chained bs nothing).calls) (sym g.all) (all-found (Arm context room) g.are nothing (no_arm room));
        reads = g.reads;
      }
