-- What the first line of a looped text tells of its turns.
use Rattle.std.proofs.Common.{◌≡◌, ℕ, zero, suc, ◌+◌, ◌^◌, ◌<◌, ◌≤◌, ◌&&◌, ◌==◌, Bool, true, false, cond, List, [], ◌∷◌, ◌++◌, length, Some, Result, Ok, Err, refl, sym, ap, subst, ◌∙◌, inl, inr, append_assoc, append-nil, arith, IsTrue}
use Rattle.std.specs.Prelude.{codes, nat_le, nat_lt, slice_get}
use Rattle.std.specs.Fmt.{decimal}
use Rattle.std.proofs.lemmas.Bool.{cases_Bool, and_parts, leb-true, le-leb, ltb-false, le-ltb}
use Rattle.vg_base.specs.Bind.{◌>>=◌}
use Rattle.vg_base.specs.declared.width.Width.{Width}
use Rattle.vg_base.specs.Width.{bits_of}
use Rattle.vg_text.specs.Byte.{is_digit, is_name}
use Rattle.vg_program.specs.declared.fault.Fault.{Fault}
use Rattle.vg_program.specs.declared.fault.Fault.TheVariants.{Range}
use Rattle.vg_program.specs.declared.named.Named.{Named}
use Rattle.vg_program.specs.declared.named.Named.TheVariants as named
use Rattle.vg_program.specs.declared.param.Param.{Param}
use Rattle.vg_program.specs.Grammar.{named_in, pointer_of, integer_of, judged}
use Rattle.vg_program.specs.Params.{is_pointer_kind, pointers, integers, name_of, AreParams}
use Rattle.vg_program.specs.Tokens.{begins, is_word, word_at, signs_at, number_at}
use Rattle.vg_program.proofs.Steps.{Stops, Holds, now, never, and_then, if_not, if_both, judged_ok}
use Rattle.vg_program.proofs.TokenLaws.{signs_takes, word_takes, name_takes, name_again, number_takes, number_again}
use Rattle.vg_program.proofs.NameLaws.{PointerAt, pointer_at, pointer_found, pointer_named, IntegerAt, integer_at, integer_found, integer_named}
use Rattle.vg_looped.specs.Steps.{Pair}
use Rattle.vg_looped.specs.Looped.{pair_text, pairs_text, turns_text, ArePairs, IsTimes}
use Rattle.vg_looped.specs.Grammar.{number_from, times_at, pair_at, step_at, pairs_at, turns_at}
use Rattle.vg_looped.specs.declared.told.Told.{Told}

abbrev good : ℕ → Result ℕ Fault
good x = Ok x

good_is : (x y : ℕ) → good x ≡ good y → x ≡ y
good_is x y e = cc

abbrev bad : Fault → Result ℕ Fault
bad fault = Err fault

abbrev good_pair : ℕ × Width → Result (ℕ × Width) Fault
good_pair x = Ok x

pointer_is : (name : Named) (k : ℕ) → pointer_of name ≡ Ok k → name ≡ named.Pointer k
pointer_is (named.Pointer p) k e = cc
pointer_is (named.Integer i w) k e = absurd cc
pointer_is named.Nothing k e = absurd cc

integer_is : (name : Named) (k : ℕ × Width) → integer_of name ≡ Ok k → name ≡ named.Integer k.0 k.1
integer_is (named.Pointer p) k e = absurd cc
integer_is (named.Integer i w) k e = let same : (i, w) ≡ k = (let is : good_pair (i, w) ≡ good_pair k = e in cc) in (λ j. named.Integer (same j).0 (same j).1)
integer_is named.Nothing k e = absurd cc

pub number_is : (most n k : ℕ) → number_from most n ≡ Ok k → (n ≡ k) × (1 ≤ k) × (k ≤ most)
number_is most n k e = elim (cases_Bool (nat_le 1 n && nat_le n most)) [
  | inl inside ↦
      let same = good_is n k (rw inside at e) in
      let parts = and_parts (nat_le 1 n) (nat_le n most) inside in
      (same, subst (λ (m : ℕ). 1 ≤ m) same (leb-true 1 n parts.0), subst (λ (m : ℕ). m ≤ most) same (leb-true n most parts.1))
  | inr outside ↦ (let is : bad Range ≡ Ok k = rw outside at e in absurd cc)
]

both : (a b : Bool) → a ≡ true → b ≡ true → (a && b) ≡ true
both true true e f = refl
both true false e f = absurd cc
both false b e f = absurd cc

in_range : (most n : ℕ) → 1 ≤ n → n ≤ most → (nat_le 1 n && nat_le n most) ≡ true
in_range most n a b = both (nat_le 1 n) (nat_le n most) (le-leb 1 n a) (le-leb n most b)

-- ---- the number of turns

times-takes : (params : List Param) (text : List ℕ) → Holds (times_at params text) (λ x. (text ≡ name_of (slice_get (integers params) x.0) ++ x.1) × IsTimes params x.0)
unfolding times_at
times-takes params text =
    and_then _ _ _ _ (name_takes text) (λ name n.
    and_then _ _ (λ k. IntegerAt 0 params name.0 k.0 k.1) _ (judged_ok _ _ _ (λ k e. integer_at 0 0 params name.0 k.0 k.1 (integer_is _ k e))) (λ k i.
    let place : k.0 ≡ i.place = omega (arith, i.is) in
    let called : name_of (slice_get (integers params) k.0) ≡ name.0 = rw place i.called in
    now _ _ (n.0 ∙ ap (λ (m : List ℕ). m ++ name.1) (sym called), (bits_of k.1, rw place i.wide))))

times-again : (params : List Param) (times : ℕ) (rest : List ℕ) → AreParams params → IsTimes params times → Stops is_name rest → times_at params (name_of (slice_get (integers params) times) ++ rest) ≡ Ok (times, rest)
unfolding times_at
times-again params times rest p is stops =
    let f = integer_found 0 0 params times is.0 is.1 p.distinct in
    let found : named_in 0 0 params (name_of (slice_get (integers params) times)) ≡ named.Integer times f.width = f.found ∙ ap (λ (k : ℕ). named.Integer k f.width) (let same : 0 + times ≡ times = omega arith in same) in
    rw (name_again (name_of (slice_get (integers params) times)) rest (integer_named params times is.0 p.names is.1) stops, found) refl

-- ---- pointers and their steps

abbrev IsPair : List Param → ℕ → Pair → Type 0
IsPair params least x = (least ≤ x.0) × (x.0 < length (pointers params)) × (1 ≤ x.1) × (x.1 ≤ 65536)

pair-takes : (params : List Param) (least : ℕ) (text : List ℕ) → Holds (pair_at params least text) (λ x. (text ≡ pair_text params x.0 ++ x.1) × IsPair params least x.0)
unfolding pair_at step_at
pair-takes params least text =
    and_then _ _ _ _ (name_takes text) (λ name n.
    and_then _ _ (PointerAt 0 params name.0) _ (judged_ok _ _ _ (λ k e. pointer_at 0 0 params name.0 k (pointer_is _ k e))) (λ k p.
    if_not (nat_lt k least) _ _ _ (λ above.
    and_then _ _ _ _ (signs_takes (codes " ") name.1) (λ gap g.
    and_then _ _ _ _ (number_takes gap) (λ m t.
    and_then _ _ (λ s. (m.0 ≡ s) × (1 ≤ s) × (s ≤ 65536)) _ (judged_ok _ _ _ (number_is 65536 m.0)) (λ s r.
    let place : k ≡ p.place = omega (arith, p.is) in
    let called : name_of (slice_get (pointers params) k) ≡ name.0 = rw place p.called in
    let number : gap ≡ decimal s ++ m.1 = t (omega (arith, r.0, r.2)) ∙ ap (λ (j : ℕ). decimal j ++ m.1) r.0 in
    let spelled : text ≡ pair_text params (k, s) ++ m.1 =
    n.0 ∙ ap (λ (b : List ℕ). name.0 ++ b) (g ∙ ap (λ (b : List ℕ). codes " " ++ b) number) ∙ sym (joined name.0 (decimal s) m.1) ∙ ap (λ (c : List ℕ). (c ++ (codes " " ++ decimal s)) ++ m.1) (sym called) in
    now _ _ (spelled, (ltb-false k least above, omega (arith, place, p.within), r.1, r.2))))))))
  where
    joined : (a b rest : List ℕ) → (a ++ (codes " " ++ b)) ++ rest ≡ a ++ (codes " " ++ (b ++ rest))
    joined a b rest = simp append_assoc

pair-again : (params : List Param) (least : ℕ) (x : Pair) (rest : List ℕ) → AreParams params → IsPair params least x → Stops is_digit rest → pair_at params least (pair_text params x ++ rest) ≡ Ok (x, rest)
unfolding pair_at step_at signs_at
pair-again params least x rest p is stops =
    let name = name_of (slice_get (pointers params) x.0) in
    let found : named_in 0 0 params name ≡ named.Pointer x.0 = pointer_found 0 0 params x.0 is.1 p.distinct ∙ ap named.Pointer (let same : 0 + x.0 ≡ x.0 = omega arith in same) in
    ap (pair_at params least) (joined name (decimal x.1) rest)
    ∙ rw (name_again name (codes " " ++ (decimal x.1 ++ rest)) (pointer_named params x.0 p.names is.1) refl, found, le-ltb x.0 least is.0, number_again x.1 rest (let few = is.3 in omega (arith, few)) stops, in_range 65536 x.1 is.2 is.3) refl
  where
    joined : (a b rest : List ℕ) → (a ++ (codes " " ++ b)) ++ rest ≡ a ++ (codes " " ++ (b ++ rest))
    joined a b rest = simp append_assoc

record TakesPairs (params : List Param) (done : List Pair) (least : ℕ) (text : List ℕ) (x : List Pair × List ℕ) : Type 0 where
  first : Pair
  more : List Pair
  all : x.0 ≡ done ++ first ∷ more
  spelled : text ≡ pairs_text params (first ∷ more) ++ x.1
  are : ArePairs params least (first ∷ more)

pairs-take : (room : ℕ) (params : List Param) (done : List Pair) (least : ℕ) (text : List ℕ) → Holds (pairs_at room params done least text) (TakesPairs params done least text)
unfolding pairs_at pairs_text ArePairs
pairs-take zero params done least text = never _ _
pairs-take (suc room) params done least text =
    and_then _ _ _ _ (pair-takes params least text) (λ x p.
    if_both _ _ _ _ (λ comma.
    and_then _ _ _ _ (signs_takes (codes ", ") x.1) (λ rest r. record {
      holds = λ y e.
          let t = (pairs-take room params (done ++ x.0 ∷ []) (x.0.0 + 1) rest).holds y e in
          record {
            first = x.0;
            more = t.first ∷ t.more;
            all = t.all ∙ append_assoc done (x.0 ∷ []) (t.first ∷ t.more);
            spelled = p.0 ∙ ap (λ (b : List ℕ). pair_text params x.0 ++ b) (r ∙ ap (λ (b : List ℕ). codes ", " ++ b) t.spelled) ∙ sym (joined (pair_text params x.0) (pairs_text params (t.first ∷ t.more)) y.1);
            are = (p.1, t.are);
          };
    }))
    (λ ended. now _ _ (record { first = x.0; more = []; all = refl; spelled = p.0; are = (p.1, tt) })))
  where
    joined : (a b rest : List ℕ) → (a ++ (codes ", " ++ b)) ++ rest ≡ a ++ (codes ", " ++ (b ++ rest))
    joined a b rest = simp append_assoc

pairs-again : (room : ℕ) (params : List Param) (done : List Pair) (least : ℕ) (x : Pair) (xs : List Pair) (rest : List ℕ) → AreParams params → length xs < room → ArePairs params least (x ∷ xs) → begins 44 rest ≡ false → Stops is_digit rest
    → pairs_at room params done least (pairs_text params (x ∷ xs) ++ rest) ≡ Ok (done ++ x ∷ xs, rest)
unfolding pairs_at pairs_text ArePairs signs_at
pairs-again zero params done least x xs rest p few are ends stops = absurd (omega (arith, few))
pairs-again (suc room) params done least x [] rest p few are ends stops = rw (pair-again params least x rest p are.0 stops, ends) refl
pairs-again (suc room) params done least x (y ∷ xs) rest p few are ends stops =
    let behind = pairs_text params (y ∷ xs) ++ rest in
    let more = pairs-again room params (done ++ x ∷ []) (x.0 + 1) y xs rest p (omega (arith, few)) are.1 ends stops in
    ap (pairs_at (suc room) params done least) (joined (pair_text params x) (pairs_text params (y ∷ xs)) rest)
    ∙ rw (pair-again params least x (codes ", " ++ behind) p are.0 refl, more) (ap (λ (l : List Pair). Ok (l, rest)) (append_assoc done (x ∷ []) (y ∷ xs)))
  where
    joined : (a b rest : List ℕ) → (a ++ (codes ", " ++ b)) ++ rest ≡ a ++ (codes ", " ++ (b ++ rest))
    joined a b rest = simp append_assoc

few-pointers : (ps : List Param) → length (pointers ps) ≤ length ps
few-pointers [] = omega arith
few-pointers (p ∷ ps) = by (is_pointer_kind p.kind) (few-pointers ps)
  where
    by : (b : Bool) → length (pointers ps) ≤ length ps → length (cond b (p ∷ pointers ps) (pointers ps)) ≤ suc (length ps)
    by true l = omega (arith, l)
    by false l = omega (arith, l)

few-pairs : (params : List Param) (least : ℕ) (xs : List Pair) → least ≤ length (pointers params) → ArePairs params least xs → least + length xs ≤ length (pointers params)
unfolding ArePairs
few-pairs params least [] low are = omega (arith, low)
few-pairs params least (x ∷ xs) low are =
    let a = are.0.0 in let b = are.0.1 in
    let more = few-pairs params (x.0 + 1) xs (omega (arith, b)) are.1 in
    omega (arith, a, more)

-- ---- all of it

pub record TakesTurns (params : List Param) (text : List ℕ) (x : Told × List ℕ) : Type 0 where
  pub spelled : text ≡ turns_text params x.0.times x.0.pairs x.0.turns ++ x.1
  pub times : IsTimes params x.0.times
  pub pairs : ArePairs params 0 x.0.pairs
  pub some_pair : 0 < length x.0.pairs
  pub some : 1 ≤ x.0.turns
  pub few : x.0.turns ≤ 16

turns-joined : (a b c rest : List ℕ) → (codes " times " ++ (a ++ (codes " step " ++ (b ++ (codes " block " ++ c))))) ++ rest ≡ codes " times " ++ (a ++ (codes " step " ++ (b ++ (codes " block " ++ (c ++ rest)))))
turns-joined a b c rest = simp append_assoc

pub turns-take : (params : List Param) (text : List ℕ) → Holds (turns_at params text) (TakesTurns params text)
unfolding turns_at
turns-take params text =
    and_then _ _ _ _ (signs_takes (codes " ") text) (λ a ea.
    and_then _ _ _ _ (word_takes (codes "times") a) (λ b eb.
    and_then _ _ _ _ (signs_takes (codes " ") b) (λ c ec.
    and_then _ _ _ _ (times-takes params c) (λ times et.
    and_then _ _ _ _ (signs_takes (codes " ") times.1) (λ d ed.
    and_then _ _ _ _ (word_takes (codes "step") d) (λ e ee.
    and_then _ _ _ _ (signs_takes (codes " ") e) (λ f ef.
    and_then _ _ _ _ (pairs-take 17 params [] 0 f) (λ pairs p.
    and_then _ _ _ _ (signs_takes (codes " ") pairs.1) (λ g eg.
    and_then _ _ _ _ (word_takes (codes "block") g) (λ h eh.
    and_then _ _ _ _ (signs_takes (codes " ") h) (λ i ei.
    and_then _ _ _ _ (number_takes i) (λ n t.
    and_then _ _ (λ s. (n.0 ≡ s) × (1 ≤ s) × (s ≤ 16)) _ (judged_ok _ _ _ (number_is 16 n.0)) (λ s r.
    let number : i ≡ decimal s ++ n.1 = t (omega (arith, r.0, r.2)) ∙ ap (λ (j : ℕ). decimal j ++ n.1) r.0 in
    let last : pairs.1 ≡ codes " block " ++ (decimal s ++ n.1) = eg ∙ ap (λ (x : List ℕ). codes " " ++ x) (eh ∙ ap (λ (x : List ℕ). codes "block" ++ x) (ei ∙ ap (λ (x : List ℕ). codes " " ++ x) number)) in
    let middle : f ≡ pairs_text params pairs.0 ++ (codes " block " ++ (decimal s ++ n.1)) = p.spelled ∙ ap (λ (xs : List Pair). pairs_text params xs ++ pairs.1) (sym p.all) ∙ ap (λ (x : List ℕ). pairs_text params pairs.0 ++ x) last in
    let behind : times.1 ≡ codes " step " ++ (pairs_text params pairs.0 ++ (codes " block " ++ (decimal s ++ n.1))) = ed ∙ ap (λ (x : List ℕ). codes " " ++ x) (ee ∙ ap (λ (x : List ℕ). codes "step" ++ x) (ef ∙ ap (λ (x : List ℕ). codes " " ++ x) middle)) in
    let name = name_of (slice_get (integers params) times.0) in
    let spelled : text ≡ turns_text params times.0 pairs.0 s ++ n.1 =
    ea ∙ ap (λ (x : List ℕ). codes " " ++ x) (eb ∙ ap (λ (x : List ℕ). codes "times" ++ x) (ec ∙ ap (λ (x : List ℕ). codes " " ++ x) (et.0 ∙ ap (λ (x : List ℕ). name ++ x) behind)))
    ∙ sym (turns-joined name (pairs_text params pairs.0) (decimal s) n.1) in
    now _ _ (record {
      spelled = spelled;
      times = et.1;
      pairs = subst (ArePairs params 0) (sym p.all) p.are;
      some_pair = subst (λ (xs : List Pair). 0 < length xs) (sym p.all) (omega arith);
      some = r.1;
      few = r.2;
    }))))))))))))))

pub turns-again : (params : List Param) (times : ℕ) (xs : List Pair) (turns : ℕ) (rest : List ℕ) → AreParams params → IsTimes params times → ArePairs params 0 xs → 0 < length xs → 1 ≤ turns → turns ≤ 16 → Stops is_digit rest
    → turns_at params (turns_text params times xs turns ++ rest) ≡ Ok (record { times = times; pairs = xs; turns = turns }, rest)
unfolding turns_at word_at is_word signs_at
turns-again params times [] turns rest p is are some one few stops = absurd (omega (arith, some))
turns-again params times (x ∷ xs) turns rest p is are some one few stops =
    let name = name_of (slice_get (integers params) times) in
    let block = codes " block " ++ (decimal turns ++ rest) in
    let room : length xs < 17 = (let a = few-pairs params 0 (x ∷ xs) (omega arith) are in let b = few-pointers params in let c = p.few in omega (arith, a, b, c)) in
    ap (turns_at params) (turns-joined name (pairs_text params (x ∷ xs)) (decimal turns) rest)
    ∙ rw (
      times-again params times (codes " step " ++ (pairs_text params (x ∷ xs) ++ block)) p is refl,
      pairs-again 17 params [] 0 x xs block p room are refl refl,
      number_again turns rest (omega (arith, few)) stops,
      in_range 16 turns one few,
    ) refl
