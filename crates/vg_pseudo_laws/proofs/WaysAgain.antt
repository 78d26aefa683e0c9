-- The ways of an IF are read.
use Rattle.std.proofs.Common.{◌≡◌, ℕ, true, false, List, [], ◌∷◌, ◌++◌, Ok, refl, ◌∙◌, ap, inl, inr, arith}
use Rattle.std.specs.Prelude.{codes, max}
use Rattle.std.specs.Str.{bytes_eq}
use Rattle.std.proofs.lemmas.Bool.{cases_Bool}
use Rattle.vg_base.proofs.Bind.{bind_to}
use Rattle.vg_text.specs.Words.{Reading, Spelled}
use Rattle.vg_pseudo.specs.Tree.{stop, way, last, choose}
use Rattle.vg_pseudo.specs.Definitions.{Context}
use Rattle.vg_pseudo.specs.Grammar.{Words, Is, IsWhole, BeginsNot}
use Rattle.vg_pseudo.specs.Reader.{next_at, expect_at, accept_at, items_behind}
use Rattle.vg_pseudo.specs.Expressions.{Part, whole_at}
use Rattle.vg_pseudo.specs.Statements.{Block, followed_by, chained, Body, way_at, else_if_follows, else_at, if_at}
use Rattle.vg_pseudo.proofs.Taking.{same_text}
use Rattle.vg_pseudo_laws.proofs.Standing.{Reads, ◌▷◌, Reads-fewer}
use Rattle.vg_pseudo_laws.proofs.WordsAgain.{next-again, no-more, split, expect-again, accept-again, accept-not, Ends}
use Rattle.vg_pseudo_laws.proofs.ListsAgain.{Steps, ended, step, steps-again}
use Rattle.vg_pseudo_laws.proofs.LanguageRead.{whole-again}
use Rattle.vg_pseudo_laws.proofs.BlocksAgain.{Over, over-text}

-- statements inside a statement are read, and what may stand before them
pub record GivesBody (body : Body) (ws : Words) (b : Block) : Type 0 where
  pub begins : (r m : Reading) → Reads ws r m → Ends 8 m → Ends 8 r
  pub reads : (r m : Reading) → Reads ws r m → Over m → body r ≡ Ok (b, m)

-- FI stands next
pub record Closed (m : Reading) : Type 0 where
  pub word : Spelled
  pub behind : Reading
  pub next : next_at m ≡ Ok (word, behind)
  pub is : Is word (codes "FI")

-- what reading ways gave
pub record WaysRead (context : Context) (body : Body) (b : Block) (r m : Reading) : Type 0 where
  pub first : Block
  pub items : List Block
  pub other : Block
  pub middle : Reading
  pub behind : Reading
  pub words : Words
  pub reads : Reads words r middle
  pub read_first : way_at context body r ≡ Ok (first, middle)
  pub steps : Steps else_if_follows (way_at context body) items middle behind
  pub read_other : else_at body behind ≡ Ok (other, m)
  pub same : followed_by first (chained items other) ≡ b

-- ways of these words are read as this block, up to FI
abbrev pub GivesWays : Context → Body → Words → Block → Type 0
GivesWays context body ws b = (r m : Reading) → Reads ws r m → Closed m → WaysRead context body b r m

over-closed : (m : Reading) → Closed m → Over m
over-closed m c = over-text (codes "FI") c.word c.behind m c.next c.is refl refl

-- ELSE IF does not follow where ELSE does not
not_else : (m : Reading) (w : Spelled) (n : Reading) → next_at m ≡ Ok (w, n) → bytes_eq w.bytes (codes "ELSE") ≡ false → else_if_follows m ≡ Ok (false, m)
unfolding else_if_follows
not_else m w n e f = bind_to (next_at m) _ e (rw f refl)

not_if : (m : Reading) (w : Spelled) (n : Reading) (v : Spelled) (p : Reading) → next_at m ≡ Ok (w, n) → Is w (codes "ELSE") → next_at n ≡ Ok (v, p) → bytes_eq v.bytes (codes "IF") ≡ false → else_if_follows m ≡ Ok (false, m)
unfolding else_if_follows
not_if m w n v p e is f g = (let t : bytes_eq w.bytes (codes "ELSE") ≡ true = ap (λ (b : List ℕ). bytes_eq b (codes "ELSE")) is in bind_to (next_at m) _ e (rw t (bind_to (next_at n) _ f (rw g refl))))

else_if : (m : Reading) (w : Spelled) (n : Reading) (v : Spelled) (p : Reading) → next_at m ≡ Ok (w, n) → Is w (codes "ELSE") → next_at n ≡ Ok (v, p) → Is v (codes "IF") → else_if_follows m ≡ Ok (true, p)
unfolding else_if_follows
else_if m w n v p e is f k =
    let t : bytes_eq w.bytes (codes "ELSE") ≡ true = ap (λ (b : List ℕ). bytes_eq b (codes "ELSE")) is in
    let u : bytes_eq v.bytes (codes "IF") ≡ true = ap (λ (b : List ℕ). bytes_eq b (codes "IF")) k in
    bind_to (next_at m) _ e (rw t (bind_to (next_at n) _ f (rw u refl)))

-- the word after ELSE is not IF
record Behind (rest : Words) (n : Reading) : Type 0 where
  word : Spelled
  behind : Reading
  next : next_at n ≡ Ok (word, behind)
  not_if_word : bytes_eq word.bytes (codes "IF") ≡ false

behind-else : (rest : Words) (n m : Reading) → BeginsNot (codes "IF") rest → Reads rest n m → Closed m → Behind rest n
behind-else [] n m other h c = record { word = c.word; behind = c.behind; next = ap next_at (no-more h) ∙ c.next; not_if_word = ap (λ (b : List ℕ). bytes_eq b (codes "IF")) c.is }
behind-else (w ∷ ws) n m other h c = (let a = next-again h in record { word = w; behind = a.behind; next = a.next; not_if_word = elim (cases_Bool (bytes_eq w.bytes (codes "IF"))) [ inl t ↦ absurd (other (same_text w.bytes (codes "IF") t)) | inr f ↦ f ] })

module _ (context : Context) (body : Body) where
  way-again : (es ws : Words) (e : Part) (b : Block) (r p m : Reading) → IsWhole context es e → GivesBody body ws b → Reads es r p → Reads ws p m → Over m → way_at context body r ≡ Ok (record { statements = way e.expression b.statements stop; calls = max e.calls b.calls }, m)
  unfolding way_at
  way-again es ws e b r p m is law first second over = bind_to (whole_at context r) _ (whole-again context es e is r p first (law.begins p m second over.ends)) (bind_to (body p) _ (law.reads p m second over) refl)

  pub last-ways : (es ws : Words) (e : Part) (b : Block) → IsWhole context es e → GivesBody body ws b → GivesWays context body (es ++ ws) (record { statements = way e.expression b.statements (last stop); calls = max e.calls b.calls })
  unfolding chained else_at
  last-ways es ws e b is law r m h c =
      let a = split es h in
      let counts : max (max e.calls b.calls) 0 ≡ max e.calls b.calls = omega arith in
      record {
        first = record { statements = way e.expression b.statements stop; calls = max e.calls b.calls };
        items = [];
        other = record { statements = last stop; calls = 0 };
        middle = m;
        behind = m;
        words = es ++ ws;
        reads = h;
        read_first = way-again es ws e b r a.middle m is law a.first a.second (over-closed m c);
        steps = ended m m (not_else m c.word c.behind c.next (ap (λ (t : List ℕ). bytes_eq t (codes "ELSE")) c.is));
        read_other = bind_to (accept_at (codes "ELSE") m) _ (accept-not (codes "ELSE") c.word m c.behind (ap (λ (t : List ℕ). bytes_eq t (codes "ELSE")) c.is) c.next) refl;
        same = ap (λ (n : ℕ). record { statements = way e.expression b.statements (last stop); calls = n }) counts;
      }

  pub else-ways : (es ws rest : Words) (other : Spelled) (e : Part) (b t : Block) → IsWhole context es e → GivesBody body ws b → Is other (codes "ELSE") → BeginsNot (codes "IF") rest → GivesBody body rest t
      → GivesWays context body (es ++ (ws ++ other ∷ rest)) (record { statements = way e.expression b.statements (last t.statements); calls = max (max e.calls b.calls) t.calls })
  unfolding chained else_at
  else-ways es ws rest other e b t is law other_is not_if_follows last_law r m h c =
      let a = split es h in
      let d = split ws a.second in
      let f = next-again d.second in
      let over = over-text (codes "ELSE") other f.behind d.middle f.next other_is refl refl in
      let g = behind-else rest f.behind m not_if_follows f.rest c in
      record {
        first = record { statements = way e.expression b.statements stop; calls = max e.calls b.calls };
        items = [];
        other = record { statements = last t.statements; calls = t.calls };
        middle = d.middle;
        behind = d.middle;
        words = es ++ ws;
        reads = a.first ▷ d.first;
        read_first = way-again es ws e b r a.middle d.middle is law a.first d.first over;
        steps = ended d.middle d.middle (not_if d.middle other f.behind g.word g.behind f.next other_is g.next g.not_if_word);
        read_other = bind_to (accept_at (codes "ELSE") d.middle) _ (accept-again (codes "ELSE") other d.middle f.behind other_is f.next) (bind_to (body f.behind) _ (last_law.reads f.behind m f.rest (over-closed m c)) refl);
        same = refl;
      }

  pub more-ways : (es ws rest : Words) (other again : Spelled) (e : Part) (b t : Block) → IsWhole context es e → GivesBody body ws b → Is other (codes "ELSE") → Is again (codes "IF") → GivesWays context body rest t
      → GivesWays context body (es ++ (ws ++ other ∷ again ∷ rest)) (record { statements = way e.expression b.statements t.statements; calls = max (max e.calls b.calls) t.calls })
  unfolding chained
  more-ways es ws rest other again e b t is law other_is again_is others r m h c =
      let a = split es h in
      let d = split ws a.second in
      let f = next-again d.second in
      let g = next-again f.rest in
      let over = over-text (codes "ELSE") other f.behind d.middle f.next other_is refl refl in
      let o = others g.behind m g.rest c in
      record {
        first = record { statements = way e.expression b.statements stop; calls = max e.calls b.calls };
        items = o.first ∷ o.items;
        other = o.other;
        middle = d.middle;
        behind = o.behind;
        words = es ++ ws;
        reads = a.first ▷ d.first;
        read_first = way-again es ws e b r a.middle d.middle is law a.first d.first over;
        steps = step d.middle g.behind o.middle o.behind o.first o.items (else_if d.middle other f.behind again g.behind f.next other_is g.next again_is) o.read_first (Reads-fewer (f.one ▷ g.one ▷ o.reads)) o.steps;
        read_other = o.read_other;
        same = ap (followed_by (record { statements = way e.expression b.statements stop; calls = max e.calls b.calls })) o.same;
      }

  -- the ways and FI
  pub if-again : (ws : Words) (b : Block) (closing : Spelled) → GivesWays context body ws b → Is closing (codes "FI") → (r m : Reading) → Reads (ws ++ closing ∷ []) r m → if_at context body r ≡ Ok (record { statements = choose b.statements stop; calls = b.calls }, m)
  unfolding if_at chained
  if-again ws b closing law closing_is r m h =
      let a = split ws h in
      let c = next-again a.second in
      let o = law r a.middle a.first (record { word = closing; behind = c.behind; next = c.next; is = closing_is }) in
      bind_to (way_at context body r) _ o.read_first
      (bind_to (items_behind else_if_follows (way_at context body) (o.first ∷ []) o.middle) _ (steps-again else_if_follows (way_at context body) (o.first ∷ []) o.steps)
      (bind_to (else_at body o.behind) _ o.read_other
      (bind_to (expect_at (codes "FI") a.middle) _ (expect-again (codes "FI") closing a.middle c.behind closing_is c.next)
      (ap (λ (x : Block). Ok (record { statements = choose x.statements stop; calls = x.calls }, c.behind)) o.same ∙ ap (λ (q : Reading). Ok (record { statements = choose b.statements stop; calls = b.calls }, q)) (no-more c.rest)))))
