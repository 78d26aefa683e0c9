-- Statements, ways and arms that are in the language are read.
use Rattle.std.proofs.Common.{◌≡◌, ℕ, Bool, true, false, List, [], ◌∷◌, ◌++◌, Some, None, Ok, refl, sym, ◌∙◌, ap, subst, inl, inr}
use Rattle.std.specs.Prelude.{codes, ◌||◌}
use Rattle.std.specs.Str.{bytes_eq}
use Rattle.std.proofs.lemmas.Bool.{cases_Bool}
use Rattle.vg_base.proofs.Bind.{bind_to}
use Rattle.vg_text.specs.Byte.{begins_digit}
use Rattle.vg_text.specs.Words.{Reading, Spelled}
use Rattle.vg_pseudo.specs.Words.{is_free, begins_statement, number_of}
use Rattle.vg_pseudo.specs.Grammar.{Words, Is}
use Rattle.vg_pseudo.specs.Reader.{next_at, expect_at, number_at}
use Rattle.vg_pseudo.specs.Tree.{stop, arm}
use Rattle.vg_pseudo.specs.Statements.{Block, followed_by, chained, nothing, Body, statement_follows, block_at, arm_follows, arm_at}
use Rattle.vg_pseudo_laws.proofs.Standing.{Reads, Reads-fewer}
use Rattle.vg_pseudo_laws.proofs.WordsAgain.{next-again, no-more, split, expect-again, free-is, stops, Ends, ends-text, ends-number, not_text, number-begins}
use Rattle.vg_pseudo_laws.proofs.ListsAgain.{Steps, ended, step, steps-again}

-- what stands after statements: a word that ends them
pub record Over (m : Reading) : Type 0 where
  pub word : Spelled
  pub behind : Reading
  pub next : next_at m ≡ Ok (word, behind)
  pub not_statement : begins_statement word.bytes ≡ false
  pub ends : Ends 8 m

-- statements of these words are read as this block, up to what ends them
pub record GivesBlock (statement : Body) (ws : Words) (b : Block) : Type 0 where
  pub items : List Block
  pub same : chained items nothing ≡ b
  pub begins : (r m : Reading) → Reads ws r m → Ends 8 m → Ends 8 r
  pub steps : (r m : Reading) → Reads ws r m → Over m → Steps statement_follows statement items r m

pub block-again : (statement : Body) (ws : Words) (b : Block) → GivesBlock statement ws b → (r m : Reading) → Reads ws r m → Over m → block_at statement r ≡ Ok (b, m)
unfolding block_at
block-again statement ws b law r m h over = bind_to _ _ (steps-again statement_follows statement [] (law.steps r m h over)) (ap (λ (c : Block). Ok (c, m)) law.same)

-- no statements
pub no-statements : (statement : Body) → GivesBlock statement [] nothing
unfolding chained
no-statements statement = record {
  items = [];
  same = refl;
  begins = λ r m h end. subst (Ends 8) (sym (no-more h)) end;
  steps = λ r m h over. subst (λ (q : Reading). Steps statement_follows statement [] q m) (sym (no-more h)) (ended m m (follows over));
}
  where
    follows : {m : Reading} → Over m → statement_follows m ≡ Ok (false, m)
    follows {m} over = bind_to (next_at m) _ over.next (ap (λ (t : Bool). Ok (t, m)) over.not_statement)

-- one statement before others
pub one-statement : (statement : Body) (w : Spelled) (ws rest : Words) (b t : Block) → begins_statement w.bytes ≡ true
    → ((r m : Reading) → Reads (w ∷ ws) r m → Ends 8 m → statement r ≡ Ok (b, m))
    → ((n m : Reading) → next_at m ≡ Ok (w, n) → Ends 8 m)
    → GivesBlock statement rest t → GivesBlock statement ((w ∷ ws) ++ rest) (followed_by b t)
unfolding chained
one-statement statement w ws rest b t is reads end_first others = record {
  items = b ∷ others.items;
  same = ap (followed_by b) others.same;
  begins = λ r m h end. (let a = next-again h in end_first a.behind r a.next);
  steps = λ r m h over. (
      let a = split (w ∷ ws) h in
      let first = next-again a.first in
      step r r a.middle m b others.items (bind_to (next_at r) _ first.next (ap (λ (t : Bool). Ok (t, r)) is)) (reads r a.middle a.first (others.begins a.middle m a.second over.ends)) (Reads-fewer a.first) (others.steps a.middle m a.second over)
      );
}

-- a word of a text that ends statements
pub over-text : (text : List ℕ) (v : Spelled) (n m : Reading) → next_at m ≡ Ok (v, n) → Is v text → begins_statement text ≡ false → stops text ≡ true → Over m
over-text text v n m e is f s = record { word = v; behind = n; next = e; not_statement = ap begins_statement is ∙ f; ends = ends-text 8 text v n m e is s }

or-all : (a b c d : Bool) → a ≡ false → b ≡ false → c ≡ false → d ≡ false → (a || b || c || d) ≡ false
or-all true b c d p q s t = cc
or-all false true c d p q s t = cc
or-all false false true d p q s t = cc
or-all false false false d p q s t = t

number-no_statement : (bytes : List ℕ) (k : ℕ) → number_of bytes ≡ Some k → begins_statement bytes ≡ false
number-no_statement bytes k e =
    let digit = number-begins bytes k e in
    or-all (bytes_eq bytes (codes "FOR")) (bytes_eq bytes (codes "IF")) (bytes_eq bytes (codes "CASE")) (is_free bytes) (not_text begins_digit bytes (codes "FOR") digit refl) (not_text begins_digit bytes (codes "IF") digit refl) (not_text begins_digit bytes (codes "CASE") digit refl)
    (elim (cases_Bool (is_free bytes)) [ inl t ↦ absurd (let f = free-is bytes t in let bad : None ≡ Some k = sym f.no_number ∙ e in cc) | inr f ↦ f ])

-- a number that begins the next arm
pub over-number : (v : Spelled) (k : ℕ) (n m : Reading) → next_at m ≡ Ok (v, n) → number_of v.bytes ≡ Some k → Over m
over-number v k n m e is = record { word = v; behind = n; next = e; not_statement = number-no_statement v.bytes k is; ends = ends-number 8 v k n m e is }

-- arms of these words are read as this block, up to ESAC
pub record GivesArms (body : Body) (ws : Words) (b : Block) : Type 0 where
  pub items : List Block
  pub same : chained items nothing ≡ b
  pub begins : (r m : Reading) → Reads ws r m → Over m → Over r
  pub steps : (r m : Reading) → Reads ws r m → Over m → arm_follows m ≡ Ok (false, m) → Steps arm_follows (arm_at body) items r m

pub no-arms : (body : Body) → GivesArms body [] nothing
unfolding chained
no-arms body = record {
  items = [];
  same = refl;
  begins = λ r m h over. subst Over (sym (no-more h)) over;
  steps = λ r m h over none. subst (λ (q : Reading). Steps arm_follows (arm_at body) [] q m) (sym (no-more h)) (ended m m none);
}

pub number-again : (w : Spelled) (k : ℕ) (r n : Reading) → number_of w.bytes ≡ Some k → next_at r ≡ Ok (w, n) → number_at r ≡ Ok (k, n)
number-again w k r n is e = bind_to (next_at r) _ e (rw is refl)

arm-again : (body : Body) (w colon : Spelled) (n : ℕ) (ws : Words) (b : Block) (r m : Reading) → number_of w.bytes ≡ Some n → Is colon (codes ":") → ((r m : Reading) → Reads ws r m → Over m → body r ≡ Ok (b, m)) → Reads (w ∷ colon ∷ ws) r m → Over m
    → arm_at body r ≡ Ok (record { statements = arm n b.statements stop; calls = b.calls }, m)
unfolding arm_at
arm-again body w colon n ws b r m is colon_is law h over =
    let a = next-again h in
    let c = next-again a.rest in
    bind_to (number_at r) _ (number-again w n r a.behind is a.next)
    (bind_to (expect_at (codes ":") a.behind) _ (expect-again (codes ":") colon a.behind c.behind colon_is c.next)
    (bind_to (body c.behind) _ (law c.behind m c.rest over) refl))

pub one-arm : (body : Body) (w colon : Spelled) (n : ℕ) (ws rest : Words) (b t : Block) → number_of w.bytes ≡ Some n → Is colon (codes ":") → ((r m : Reading) → Reads ws r m → Over m → body r ≡ Ok (b, m)) → GivesArms body rest t
    → GivesArms body (w ∷ colon ∷ (ws ++ rest)) (followed_by (record { statements = arm n b.statements stop; calls = b.calls }) t)
unfolding chained
one-arm body w colon n ws rest b t is colon_is law others = record {
  items = record { statements = arm n b.statements stop; calls = b.calls } ∷ others.items;
  same = ap (followed_by (record { statements = arm n b.statements stop; calls = b.calls })) others.same;
  begins = λ r m h over. (let a = next-again h in over-number w n a.behind r a.next is);
  steps = λ r m h over none. (
      let a = split (w ∷ colon ∷ ws) h in
      let first = next-again a.first in
      step r r a.middle m _ others.items (bind_to (next_at r) _ first.next (rw is refl)) (arm-again body w colon n ws b r a.middle is colon_is law a.first (others.begins a.middle m a.second over)) (Reads-fewer a.first) (others.steps a.middle m a.second over none)
      );
}
