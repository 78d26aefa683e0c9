-- Where the accesses of all turns keep apart, those of some turns in one kernel keep apart.
use Rattle.std.proofs.Common.{◌≡◌, ℕ, zero, suc, ◌+◌, ◌*◌, ◌^◌, ◌<◌, ◌≤◌, true, ℤ, pos, List, [], ◌∷◌, ◌++◌, length, map, get_or, refl, sym, ap, subst, ◌∙◌, inl, inr, arith, All, Contains}
use Rattle.std.specs.Prelude.{◌+ℤ◌, ◌≤ℤ◌, ◌⊎◌}
use Rattle.std.specs.List.{flat_map}
use Rattle.std.proofs.lemmas.List.{get_or-map}
use Rattle.std.proofs.lemmas.List.Elements.{Contains-append_cases}
use Rattle.std.proofs.lemmas.List.Concat.{flat_map-append}
use Rattle.vg_base.specs.Address.{place_of}
use Rattle.vg_base.specs.Width.{size_of}
use Rattle.vg_kernel.specs.Tree.{Expression, argument, assigned, literal, load, two, shift, resize, compare, select, Statement, assign, store, Tree}
use Rattle.vg_kernel.specs.WellFormed.{pointers}
use Rattle.vg_kernel.specs.Layout.{Access, reads_of, statement_accesses, accesses, AreBound, AreApart, Respects}
use Rattle.vg_loop_laws.specs.Loops.{Loop, places_at}
use Rattle.vg_loop_laws.specs.Unrolled.{moved, moved_address, moved_statement, names_given, turn_statements, unrolled_from, unrolled}
use Rattle.vg_loop_laws.specs.Inputs.{AreBytes, IsLaid, AreApartIn, LoopRespects, IsLoopLaid}
use Rattle.vg_loop_laws.specs.Laws.{HasSteps, BlocksRespect}
use Rattle.vg_loop_laws.proofs.Places.{length-at, place-moved, at-at, all_near-at}

abbrev moved_access : List ℕ → ℕ → Access → Access
moved_access steps u x = record { address = moved_address steps u x.address; size = x.size; writes = x.writes }

map-joined : {A B : Type 0} (f : A → B) (xs ys : List A) → map f (xs ++ ys) ≡ map f xs ++ map f ys
map-joined f [] ys = refl
map-joined f (x ∷ xs) ys = ap (λ zs. f x ∷ zs) (map-joined f xs ys)

both-moved : (steps : List ℕ) (u : ℕ) (xs ys zs ws : List Access) → xs ≡ map (moved_access steps u) zs → ys ≡ map (moved_access steps u) ws → xs ++ ys ≡ map (moved_access steps u) (zs ++ ws)
both-moved steps u xs ys zs ws e f = (λ i. e i ++ f i) ∙ sym (map-joined (moved_access steps u) zs ws)

reads-moved : (steps : List ℕ) (u names : ℕ) (e : Expression) → reads_of (moved steps u names e) ≡ map (moved_access steps u) (reads_of e)
reads-moved steps u names (argument k w) = refl
reads-moved steps u names (assigned k t) = refl
reads-moved steps u names (literal w n) = refl
reads-moved steps u names (load w a) = refl
reads-moved steps u names (two op w x y) = both-moved steps u _ _ (reads_of x) (reads_of y) (reads-moved steps u names x) (reads-moved steps u names y)
reads-moved steps u names (shift op w k x) = reads-moved steps u names x
reads-moved steps u names (resize op w v x) = reads-moved steps u names x
reads-moved steps u names (compare op w x y) = both-moved steps u _ _ (reads_of x) (reads_of y) (reads-moved steps u names x) (reads-moved steps u names y)
reads-moved steps u names (select w c x y) =
    both-moved steps u _ _ (reads_of c) (reads_of x ++ reads_of y) (reads-moved steps u names c) (both-moved steps u _ _ (reads_of x) (reads_of y) (reads-moved steps u names x) (reads-moved steps u names y))

statement-moved : (steps : List ℕ) (u names : ℕ) (s : Statement) → statement_accesses (moved_statement steps u names s) ≡ map (moved_access steps u) (statement_accesses s)
statement-moved steps u names (assign e) = reads-moved steps u names e
statement-moved steps u names (store w a e) =
    both-moved steps u _ _ (reads_of e) (record { address = a; size = size_of w; writes = true } ∷ []) (reads-moved steps u names e) refl

statements-moved : (steps : List ℕ) (u names : ℕ) (ss : List Statement) → flat_map statement_accesses (map (moved_statement steps u names) ss) ≡ map (moved_access steps u) (flat_map statement_accesses ss)
statements-moved steps u names [] = refl
statements-moved steps u names (s ∷ ss) = both-moved steps u _ _ (statement_accesses s) (flat_map statement_accesses ss) (statement-moved steps u names s) (statements-moved steps u names ss)

map-contains : {A B : Type 0} (f : A → B) (xs : List A) (y : B) → Contains (map f xs) y → (x : A) × Contains xs x × (f x ≡ y)
map-contains f [] y (k, below, e) = absurd (omega (arith, below))
map-contains f (x ∷ xs) y (zero, below, e) = (x, (0, omega arith, refl), e)
map-contains f (x ∷ xs) y (suc k, below, e) =
    let found = map-contains f xs y (k, (omega (arith, below)), e) in
    (found.0, (suc found.1.0, (let l = found.1.1 in omega (arith, l)), found.1.2), found.2)

-- an access of some turns is one of a turn, moved
record OfTurn (steps : List ℕ) (ss : List Statement) (n u : ℕ) (x : Access) : Type 0 where
  turn : ℕ
  behind : u ≤ turn
  before : turn < u + n
  own : Access
  listed : Contains (flat_map statement_accesses ss) own
  same : moved_access steps turn own ≡ x

of-turn : (steps : List ℕ) (ss : List Statement) (n u : ℕ) (x : Access) → Contains (flat_map statement_accesses (unrolled_from steps ss n u)) x → OfTurn steps ss n u x
unfolding unrolled_from
of-turn steps ss zero u x (k, below, e) = absurd (omega (arith, below))
of-turn steps ss (suc n) u x has =
    let apart = flat_map-append statement_accesses (turn_statements steps ss u) (unrolled_from steps ss n (u + 1)) in
    elim (Contains-append_cases _ _ x (subst (λ xs. Contains xs x) apart has)) [
      | inl first ↦
          let found = map-contains (moved_access steps u) (flat_map statement_accesses ss) x (subst (λ xs. Contains xs x) (statements-moved steps u (u * names_given ss) ss) first) in
          record { turn = u; behind = omega arith; before = omega arith; own = found.0; listed = found.1; same = found.2 }
      | inr later ↦
          let t = of-turn steps ss n (u + 1) x later in
          record { turn = t.turn; behind = (let b = t.behind in omega arith); before = (let b = t.before in omega arith); own = t.own; listed = t.listed; same = t.same }
    ]

apart-moved : (l : Loop) (places : List ℕ) (k t u : ℕ) (x y : Access) → length places ≡ length l.steps
    → AreApartIn (places_at l.steps places (k + t)) x (places_at l.steps places (k + u)) y
    → AreApart (places_at l.steps places k) (moved_access l.steps t x) (moved_access l.steps u y)
apart-moved l places k t u x y long apart =
    let here = places_at l.steps places k in
    let there = length-at l.steps places k long in
    let first : place_of here (moved_address l.steps t x.address) ≡ place_of (places_at l.steps places (k + t)) x.address = place-moved l.steps here t x.address there ∙ ap (λ (ps : List ℕ). place_of ps x.address) (at-at l.steps places k t) in
    let second : place_of here (moved_address l.steps u y.address) ≡ place_of (places_at l.steps places (k + u)) y.address = place-moved l.steps here u y.address there ∙ ap (λ (ps : List ℕ). place_of ps y.address) (at-at l.steps places k u) in
    subst (λ (a : ℤ). ((a +ℤ pos x.size) ≤ℤ place_of here (moved_address l.steps u y.address)) ⊎ ((place_of here (moved_address l.steps u y.address) +ℤ pos y.size) ≤ℤ a)) (sym first)
    (subst (λ (b : ℤ). ((place_of (places_at l.steps places (k + t)) x.address +ℤ pos x.size) ≤ℤ b) ⊎ ((b +ℤ pos y.size) ≤ℤ place_of (places_at l.steps places (k + t)) x.address)) (sym second) apart)

pub blocks-respect : BlocksRespect
blocks-respect l places n size k long layout fits x y cx cy bound =
    let a = of-turn l.steps l.kernel.statements size 0 x cx in
    let b = of-turn l.steps l.kernel.statements size 0 y cy in
    apart a b (subst (λ z. AreBound (unrolled l size) z y) (sym a.same) bound)
  where
    apart : (a : OfTurn l.steps l.kernel.statements size 0 x) (b : OfTurn l.steps l.kernel.statements size 0 y) → AreBound (unrolled l size) (moved_access l.steps a.turn a.own) y → AreApart (places_at l.steps places k) x y
    apart a b bound =
        let both = subst (λ z. AreBound (unrolled l size) (moved_access l.steps a.turn a.own) z) (sym b.same) bound in
        let low = a.before in let high = b.before in
        let own : AreBound l.kernel a.own b.own = both in
        subst (λ z. AreApart (places_at l.steps places k) z y) a.same
        (subst (λ z. AreApart (places_at l.steps places k) (moved_access l.steps a.turn a.own) z) b.same
        (apart-moved l places k a.turn b.turn a.own b.own long
        (layout (k + a.turn) (k + b.turn) (omega (arith, low)) (omega (arith, high)) a.own b.own a.listed b.listed own)))

-- the kernel of so many turns may be run where the loop may be run, after so many
pub block-laid : (l : Loop) (n : ℕ) (first memory places : List ℕ) (size k : ℕ) → HasSteps l → IsLoopLaid l n first places
    → AreBytes memory → k + size ≤ n → IsLaid (unrolled l size) memory (places_at l.steps places k)
block-laid l n first memory places size k has input are fits =
    let pointed = input.pointers in
    let long : length places ≡ length l.steps = omega (arith, pointed, has) in record {
      bytes = are;
      pointers = length-at l.steps places k long ∙ has;
      near = all_near-at l.steps places n k (omega (arith, fits)) input.near;
      layout = blocks-respect l places n size k long input.layout fits;
    }

-- and so may the kernel of one turn
pub turn-laid : (l : Loop) (n : ℕ) (first memory places : List ℕ) (t : ℕ) → HasSteps l → IsLoopLaid l n first places
    → AreBytes memory → t < n → IsLaid l.kernel memory (places_at l.steps places t)
turn-laid l n first memory places t has input are fits =
    let pointed = input.pointers in
    let long : length places ≡ length l.steps = omega (arith, pointed, has) in record {
      bytes = are;
      pointers = length-at l.steps places t long ∙ has;
      near = all_near-at l.steps places n t (omega (arith, fits)) input.near;
      layout = λ x y cx cy bound. input.layout t t fits fits x y cx cy bound;
    }
