-- Units that are numbered one after the other.
use Rattle.std.proofs.Common.{◌≡◌, suc, ◌+◌, ◌-◌, ◌≤◌, List, [], ◌∷◌, ◌++◌, length, take, drop, map, get_or, refl, sym, ap, subst, ◌∙◌, arith, append_assoc}
use Rattle.std.specs.Prelude.{Err, IfOk, Ok, Result}
use Rattle.std.proofs.lemmas.List.{length-append, length_push}
use Rattle.std.proofs.Math.Seq.{take-length}
use Rattle.vg_kernel.specs.declared.statement.KStmt.{KStmt}
use Rattle.vg_kernel.specs.Tree.{Expression, Statement, assign, statement_of, store}
use Rattle.vg_shapes.specs.declared.ssa_unit.SsaUnit.{SsaUnit}
use Rattle.vg_shapes.specs.declared.ssa_unit.SsaUnit.TheVariants.{Store}
use Rattle.vg_shapes.specs.declared.wanted.Wanted.{Wanted}
use Rattle.vg_shapes.specs.declared.wanted.Wanted.TheVariants.{Value}
use Rattle.vg_ssa.specs.Built.{after_statement, Built, CanTake, next, numbered_in, Numbers, statement_units, with_units}
use Rattle.vg_ssa.specs.Numbering.{found, Numbered, numbered, units_from}

-- ---- units, and more after them

pub with-both : (b : Built) (us vs : List SsaUnit) → with_units (with_units b us) vs ≡ with_units b (us ++ vs)
with-both b us vs = λ i. record { first = b.first; units = append_assoc b.units us vs i; names = b.names }

pub next-behind : (b : Built) (us : List SsaUnit) → next (with_units b us) ≡ next b + length us
next-behind b us = let l = length-append b.units us in omega arith

pub take-front : (b : Built) (us vs : List SsaUnit) → CanTake b (us ++ vs) → CanTake b us
take-front b us vs h = let l = length-append us vs in omega arith

pub take-behind : (b : Built) (us vs : List SsaUnit) → CanTake b (us ++ vs) → CanTake (with_units b us) vs
take-behind b us vs h = let l = length-append us vs in let m = length-append b.units us in omega arith

-- ---- one expression after another

-- an expression after these units
abbrev pub behind_units : Built → List SsaUnit → Expression → Numbered
behind_units b us e = numbered (next b + length us) b.names e

pub numbered-behind : (b : Built) (us : List SsaUnit) (e : Expression) → numbered_in (with_units b us) e ≡ behind_units b us e
numbered-behind b us e = ap (λ n. numbered n b.names e) (next-behind b us)

-- where so many units were numbered, an expression can be, and what it gives
pub can-number : (b c : Built) (us : List SsaUnit) (e : Expression) → c ≡ with_units b us → CanTake b (us ++ (behind_units b us e).units) → CanTake c (numbered_in c e).units
can-number b c us e same h =
    subst (λ d. CanTake d (numbered_in d e).units) (sym same)
    (subst (λ p. CanTake (with_units b us) p.units) (sym (numbered-behind b us e)) (take-behind b us (behind_units b us e).units h))

pub further : (b c new : Built) (us : List SsaUnit) (e : Expression) (x : Wanted) → c ≡ with_units b us → Numbers c (numbered_in c e) new x
    → (new ≡ with_units b (us ++ (behind_units b us e).units)) × (x ≡ (behind_units b us e).value)
further b c new us e x same h =
    let g : Numbers (with_units b us) (numbered_in (with_units b us) e) new x = subst (λ d. Numbers d (numbered_in d e) new x) same h in
    let f : Numbers (with_units b us) (behind_units b us e) new x = subst (λ p. Numbers (with_units b us) p new x) (numbered-behind b us e) g in
    (f.built ∙ with-both b us (behind_units b us e).units, f.value)

-- a unit after these, whichever equal one the code has
pub can-push : (b c : Built) (us : List SsaUnit) (u v : SsaUnit) → c ≡ with_units b us → v ≡ u → CanTake b (us ++ u ∷ []) → CanTake c (v ∷ [])
can-push b c us u v same e h = subst (λ d. CanTake d (v ∷ [])) (sym same) (subst (λ w. CanTake (with_units b us) (w ∷ [])) (sym e) (take-behind b us (u ∷ []) h))

pub pushed : (b c new : Built) (us : List SsaUnit) (u v : SsaUnit) (x : Wanted) → c ≡ with_units b us → v ≡ u → new ≡ with_units c (v ∷ []) → x ≡ Value (next c) → Numbers b (found (next b) us u) new x
pushed b c new us u v x same e h g = record {
  built = h ∙ (λ i. with_units (same i) (e i ∷ [])) ∙ with-both b us (u ∷ []);
  value = g ∙ ap Value (ap next same ∙ next-behind b us);
}

-- ---- statements

-- statements are numbered, and others are left
abbrev pub left_units : Built → List Statement → List SsaUnit
left_units b ss = units_from (next b) b.names ss

pub record Left (start : Built) (all : List Statement) (b : Built) (rest : List Statement) : Type 0 where
  pub first : b.first ≡ start.first
  pub units : b.units ++ left_units b rest ≡ start.units ++ left_units start all
  pub room : CanTake b (left_units b rest)

-- two clauses on what a call gives
pub ok-both : {A E : Type 0} (r : Result A E) (P Q R : A → Type 0) → ((x : A) → P x → Q x → R x) → IfOk r P → IfOk r Q → IfOk r R
ok-both (Ok x) P Q R f p q = f x p q
ok-both (Err e) P Q R f p q = tt

-- one statement, and those that are left after it
statement-split : (b : Built) (s : Statement) (ss : List Statement) → left_units b (s ∷ ss) ≡ statement_units b s ++ left_units (after_statement b s) ss
statement-split b (assign e) ss =
    let p = numbered_in b e in
    λ i. p.units ++ units_from (sym (next-behind b p.units) i) (b.names ++ p.value ∷ []) ss
statement-split b (store w a e) ss =
    let p = numbered_in b e in
    let us = p.units ++ Store a w p.value ∷ [] in
    let long : next b + length p.units + 1 ≡ next (with_units b us) = let l = length_push p.units (Store a w p.value) in let m = next-behind b us in omega arith in
    λ i. us ++ units_from (long i) b.names ss

-- what a statement leaves has the units of what it numbered
record After (b : Built) (s : Statement) : Type 0 where
  first : (after_statement b s).first ≡ b.first
  units : (after_statement b s).units ≡ b.units ++ statement_units b s

after-is : (b : Built) (s : Statement) → After b s
after-is b (assign e) = record { first = refl; units = refl }
after-is b (store w a e) = record { first = refl; units = refl }

room-after : (b c : Built) (us vs : List SsaUnit) → c.first ≡ b.first → c.units ≡ b.units ++ us → CanTake b (us ++ vs) → CanTake c vs
room-after b c us vs f t h = let l = length-append us vs in let m = ap length t ∙ length-append b.units us in omega arith

pub left-step : (start : Built) (all : List Statement) (b : Built) (s : Statement) (ss : List Statement) → Left start all b (s ∷ ss) → Left start all (after_statement b s) ss
left-step start all b s ss h =
    let a = after-is b s in
    let us = statement_units b s in
    let rest = left_units (after_statement b s) ss in
    let split = statement-split b s ss in
    record {
      first = a.first ∙ h.first;
      units = ap (λ l. l ++ rest) a.units ∙ append_assoc b.units us rest ∙ ap (λ l. b.units ++ l) (sym split) ∙ h.units;
      room = room-after b (after_statement b s) us rest a.first a.units (subst (CanTake b) split h.room);
    }

pub left-room : (start : Built) (all : List Statement) (b : Built) (s : Statement) (ss : List Statement) → Left start all b (s ∷ ss) → CanTake b (statement_units b s)
left-room start all b s ss h = take-front b (statement_units b s) (left_units (after_statement b s) ss) (subst (CanTake b) (statement-split b s ss) h.room)

-- the same of statements of the code
behind-first : {A : Type 0} (s : A) (ss : List A) → take (length (s ∷ ss) - 1) (drop 1 (s ∷ ss)) ≡ ss
behind-first s ss = let e : suc (length ss) - 1 ≡ length ss = omega arith in ap (λ n. take n ss) e ∙ take-length ss

pub item-room : (start : Built) (all : List Statement) (b : Built) (left : List KStmt) (item : KStmt) → 1 ≤ length left → item ≡ get_or left 0 item → Left start all b (map statement_of left) → CanTake b (statement_units b (statement_of item))
item-room start all b [] item some is h = absurd (omega arith)
item-room start all b (s ∷ ss) item some is h = subst (λ x. CanTake b (statement_units b (statement_of x))) (sym is) (left-room start all b (statement_of s) (map statement_of ss) h)

pub item-step : (start : Built) (all : List Statement) (b new : Built) (left : List KStmt) (item : KStmt) → 1 ≤ length left → item ≡ get_or left 0 item → new ≡ after_statement b (statement_of item) → Left start all b (map statement_of left)
    → Left start all new (map statement_of (take (length left - 1) (drop 1 left)))
item-step start all b new [] item some is e h = absurd (omega arith)
item-step start all b new (s ∷ ss) item some is e h =
    subst (λ l. Left start all new (map statement_of l)) (sym (behind-first s ss))
    (subst (λ d. Left start all d (map statement_of ss)) (sym (e ∙ ap (λ x. after_statement b (statement_of x)) is)) (left-step start all b (statement_of s) (map statement_of ss) h))
