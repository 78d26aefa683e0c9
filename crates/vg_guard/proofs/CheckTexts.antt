-- Checks in texts: what is read is spelled so and keeps the rules, and what keeps them is read.
use Rattle.std.proofs.Common.{◌≡◌, ℕ, zero, suc, ◌+◌, ◌^◌, ◌<◌, ◌≤◌, ◌&&◌, ◌==◌, ℤ, pos, negsuc, Bool, true, false, List, [], ◌∷◌, ◌++◌, length, Result, Ok, Err, refl, sym, ap, subst, ◌∙◌, inl, inr, append_assoc, append-nil, arith}
use Rattle.std.specs.Prelude.{codes, nat_le, nat_lt, slice_get}
use Rattle.std.specs.Fmt.{decimal}
use Rattle.std.proofs.lemmas.Bool.{cases_Bool, and_parts, leb-true, le-leb, ltb-false, le-ltb, eqb-true, eq-eqb}
use Rattle.vg_base.specs.Offset.{IsOffset}
use Rattle.vg_text.specs.Byte.{is_digit, is_name}
use Rattle.vg_program.specs.declared.fault.Fault.{Fault}
use Rattle.vg_program.specs.declared.fault.Fault.TheVariants.{Range}
use Rattle.vg_program.specs.declared.named.Named.{Named}
use Rattle.vg_program.specs.declared.named.Named.TheVariants as named
use Rattle.vg_program.specs.declared.param.Param.{Param}
use Rattle.vg_program.specs.Grammar.{named_in, pointer_of}
use Rattle.vg_program.specs.Params.{pointers, name_of, AreParams}
use Rattle.vg_program.specs.Text.{line_end, offset_text}
use Rattle.vg_program.specs.Tokens.{is_word, word_at, signs_at}
use Rattle.vg_program.proofs.Steps.{Stops, Holds, now, and_then, if_ok, if_not, if_both, judged_ok}
use Rattle.vg_program.proofs.TokenLaws.{signs_takes, word_takes, name_takes, name_again, number_takes, number_again}
use Rattle.vg_program.proofs.NameLaws.{PointerAt, pointer_at, pointer_found, pointer_named}
use Rattle.vg_program.proofs.OperandLaws.{offset_takes, offset_again}
use Rattle.vg_guard.specs.declared.check.Check.{Check}
use Rattle.vg_guard.specs.declared.span.Span.{Span}
use Rattle.vg_guard.specs.Grammar as grammar
use Rattle.vg_guard.specs.Grammar.{length_from, reach_at, span_at, check_from, check_at, checks_at, pair_of, least_second, count_from, end_line_at}
use Rattle.vg_guard.specs.Guarded.{span_text, first_span, second_span, check_text, checks_text, end_line}
use Rattle.vg_guard.specs.Rules.{IsRange}
use Rattle.vg_guard.proofs.Rising.{Pair, IsNext, MayStand, MayAllStand, ordered}

abbrev good : ℕ → Result ℕ Fault
good x = Ok x

good_is : (x y : ℕ) → good x ≡ good y → x ≡ y
good_is x y e = cc

abbrev bad : Fault → Result ℕ Fault
bad fault = Err fault

-- ---- ranges

pointer_is : (name : Named) (k : ℕ) → pointer_of name ≡ Ok k → name ≡ named.Pointer k
pointer_is (named.Pointer p) k e = cc
pointer_is (named.Integer i w) k e = absurd cc
pointer_is named.Nothing k e = absurd cc

record TakesPointer (params : List Param) (text : List ℕ) (x : ℕ × List ℕ) : Type 0 where
  spelled : text ≡ name_of (slice_get (pointers params) x.0) ++ x.1
  within : x.0 < length (pointers params)

pointer-takes : (params : List Param) (text : List ℕ) → Holds (grammar.pointer_at params text) (TakesPointer params text)
unfolding grammar.pointer_at
pointer-takes params text =
    and_then _ _ _ _ (name_takes text) (λ name n.
    and_then _ _ (PointerAt 0 params name.0) _ (judged_ok _ _ _ (λ k e. pointer_at 0 0 params name.0 k (pointer_is _ k e))) (λ k p.
    let place : k ≡ p.place = omega (arith, p.is) in
    let called : name_of (slice_get (pointers params) k) ≡ name.0 = rw place p.called in
    now _ _ (record { spelled = n.0 ∙ ap (λ (b : List ℕ). b ++ name.1) (sym called); within = omega (arith, place, p.within) })))

length_is : (n k : ℕ) → length_from n ≡ Ok k → (n ≡ k) × (1 ≤ k) × (k ≤ 4294967303)
length_is n k e = elim (cases_Bool (nat_le 1 n && nat_le n 4294967303)) [
  | inl inside ↦
      let same = good_is n k (rw inside at e) in
      let parts = and_parts (nat_le 1 n) (nat_le n 4294967303) inside in
      (same, subst (λ (m : ℕ). 1 ≤ m) same (leb-true 1 n parts.0), subst (λ (m : ℕ). m ≤ 4294967303) same (leb-true n 4294967303 parts.1))
  | inr outside ↦ (let is : bad Range ≡ Ok k = rw outside at e in absurd cc)
]

record TakesReach (pointer : ℕ) (text : List ℕ) (x : Span × List ℕ) : Type 0 where
  spelled : text ≡ offset_text x.0.low ++ (codes " " ++ (decimal x.0.len ++ x.1))
  own : x.0.pointer ≡ pointer
  offset : IsOffset x.0.low
  some : 1 ≤ x.0.len
  few : x.0.len ≤ 4294967303

reach-takes : (pointer : ℕ) (text : List ℕ) → Holds (reach_at pointer text) (TakesReach pointer text)
unfolding reach_at
reach-takes pointer text =
    and_then _ _ _ _ (offset_takes text) (λ offset o.
    and_then _ _ _ _ (signs_takes (codes " ") offset.1) (λ gap g.
    and_then _ _ _ _ (number_takes gap) (λ m t.
    and_then _ _ (λ len. (m.0 ≡ len) × (1 ≤ len) × (len ≤ 4294967303)) _ (judged_ok _ _ _ (length_is m.0)) (λ len s.
    let number : gap ≡ decimal len ++ m.1 = t (omega (arith, s.0, s.2)) ∙ ap (λ (j : ℕ). decimal j ++ m.1) s.0 in
    now _ _ (record {
      spelled = o.0 ∙ ap (λ (b : List ℕ). offset_text offset.0 ++ b) (g ∙ ap (λ (b : List ℕ). codes " " ++ b) number);
      own = refl;
      offset = o.1;
      some = s.1;
      few = s.2;
    })))))

record TakesSpan (params : List Param) (least : ℕ) (text : List ℕ) (x : Span × List ℕ) : Type 0 where
  spelled : text ≡ span_text params x.0 ++ x.1
  is : IsRange (length (pointers params)) x.0.pointer x.0.low x.0.len
  stands : least ≤ x.0.pointer

span-joined : (name offset len rest : List ℕ) → (((name ++ offset) ++ codes " ") ++ len) ++ rest ≡ name ++ (offset ++ (codes " " ++ (len ++ rest)))
span-joined name offset len rest = simp append_assoc

span-takes : (params : List Param) (least : ℕ) (text : List ℕ) → Holds (span_at params least text) (TakesSpan params least text)
unfolding span_at
span-takes params least text =
    and_then _ _ _ _ (pointer-takes params text) (λ pointer p.
    if_not (nat_lt pointer.0 least) _ _ _ (λ stands. record {
      holds = λ x e.
          let r = (reach-takes pointer.0 pointer.1).holds x e in
          let own = r.own in
          let low = ltb-false pointer.0 least stands in
          let within = p.within in
          let name = name_of (slice_get (pointers params) x.0.pointer) in
          let called : name_of (slice_get (pointers params) pointer.0) ≡ name = ap (λ (k : ℕ). name_of (slice_get (pointers params) k)) (sym own) in
          record {
            spelled =
                p.spelled ∙ ap (λ (b : List ℕ). name_of (slice_get (pointers params) pointer.0) ++ b) r.spelled
                ∙ ap (λ (b : List ℕ). b ++ (offset_text x.0.low ++ (codes " " ++ (decimal x.0.len ++ x.1)))) called
                ∙ sym (span-joined name (offset_text x.0.low) (decimal x.0.len) x.1);
            is = record { pointer = omega (arith, own, within); offset = r.offset; some = r.some; few = r.few };
            stands = omega (arith, own, low);
          };
    }))

both-hold : (a b : Bool) → a ≡ true → b ≡ true → (a && b) ≡ true
both-hold true true e f = refl
both-hold true false e f = absurd cc
both-hold false b e f = absurd cc

offset-ends : (z : ℤ) (rest : List ℕ) → Stops is_name (offset_text z ++ rest)
offset-ends (pos n) rest = refl
offset-ends (negsuc n) rest = refl

span-again : (params : List Param) (least : ℕ) (s : Span) (rest : List ℕ) → AreParams params → IsRange (length (pointers params)) s.pointer s.low s.len → least ≤ s.pointer → Stops is_digit rest → span_at params least (span_text params s ++ rest) ≡ Ok (s, rest)
unfolding span_at grammar.pointer_at reach_at signs_at
span-again params least s rest p is stands stops =
    let name = name_of (slice_get (pointers params) s.pointer) in
    let number = number_again s.len rest (omega (arith, is.few)) stops in
    let inside : (nat_le 1 s.len && nat_le s.len 4294967303) ≡ true = both-hold (nat_le 1 s.len) (nat_le s.len 4294967303) (le-leb 1 s.len is.some) (le-leb s.len 4294967303 is.few) in
    let found : named_in 0 0 params name ≡ named.Pointer s.pointer = pointer_found 0 0 params s.pointer is.pointer p.distinct ∙ ap named.Pointer (let same : 0 + s.pointer ≡ s.pointer = omega arith in same) in
    let behind = codes " " ++ (decimal s.len ++ rest) in
    ap (span_at params least) (span-joined name (offset_text s.low) (decimal s.len) rest)
    ∙ rw (name_again name (offset_text s.low ++ behind) (pointer_named params s.pointer p.names is.pointer) (offset-ends s.low behind), found, le-ltb s.pointer least stands, offset_again s.low behind is.offset refl, number, inside) refl

-- ---- a check

record TakesCheck (params : List Param) (last : Pair) (text : List ℕ) (x : Check × List ℕ) : Type 0 where
  spelled : text ≡ check_text params x.0 ++ x.1
  may : MayStand (length (pointers params)) last x.0

check-joined : (a b rest : List ℕ) → ((((codes "check disjoint " ++ a) ++ codes " ") ++ b) ++ line_end) ++ rest ≡ codes "check disjoint " ++ (a ++ (codes " " ++ (b ++ (line_end ++ rest))))
check-joined a b rest = simp append_assoc

check-takes : (params : List Param) (last : Pair) (text : List ℕ) → Holds (check_at params last text) (TakesCheck params last text)
unfolding check_at
check-takes params last text =
    and_then _ _ _ _ (word_takes (codes "check") text) (λ check a.
    and_then _ _ _ _ (signs_takes (codes " ") check) (λ gap b.
    and_then _ _ _ _ (word_takes (codes "disjoint") gap) (λ disjoint c.
    and_then _ _ _ _ (signs_takes (codes " ") disjoint) (λ space d.
    and_then _ _ _ _ (span-takes params last.0 space) (λ first f.
    and_then _ _ _ _ (signs_takes (codes " ") first.1) (λ between g.
    and_then _ _ _ _ (span-takes params (least_second last first.0.pointer) between) (λ second s.
    and_then _ _ _ _ (signs_takes line_end second.1) (λ rest h.
    let both : Check = check_from first.0 second.0 in
    let is : IsNext last both = record { begins = f.stands; follows = s.stands } in
    let middle : space ≡ span_text params first.0 ++ (codes " " ++ (span_text params second.0 ++ (line_end ++ rest))) = f.spelled ∙ ap (λ (t : List ℕ). span_text params first.0 ++ t) (g ∙ ap (λ (t : List ℕ). codes " " ++ t) (s.spelled ∙ ap (λ (t : List ℕ). span_text params second.0 ++ t) h)) in
    let spelled : text ≡ check_text params both ++ rest = a ∙ ap (λ (t : List ℕ). codes "check" ++ t) (b ∙ ap (λ (t : List ℕ). codes " " ++ t) (c ∙ ap (λ (t : List ℕ). codes "disjoint" ++ t) (d ∙ ap (λ (t : List ℕ). codes " " ++ t) middle))) ∙ sym (check-joined (span_text params first.0) (span_text params second.0) rest) in
    now _ _ (record { spelled = spelled; may = record { is = record { first = f.is; second = s.is; ordered = ordered last both is }; next = is } })))))))))

check-again : (params : List Param) (last : Pair) (c : Check) (rest : List ℕ) → AreParams params → MayStand (length (pointers params)) last c → check_at params last (check_text params c ++ rest) ≡ Ok (c, rest)
unfolding check_at word_at is_word signs_at
check-again params last c rest p may =
    let first = span-again params last.0 (first_span c) (codes " " ++ (span_text params (second_span c) ++ (line_end ++ rest))) p may.is.first may.next.begins refl in
    let second = span-again params (least_second last c.first) (second_span c) (line_end ++ rest) p may.is.second may.next.follows refl in
    ap (check_at params last) (check-joined (span_text params (first_span c)) (span_text params (second_span c)) rest) ∙ rw (first, second) refl

-- ---- checks

pub record TakesChecks (params : List Param) (done : List Check) (last : Pair) (text : List ℕ) (x : List Check × List ℕ) : Type 0 where
  pub more : List Check
  pub all : x.0 ≡ done ++ more
  pub spelled : text ≡ checks_text params more ++ x.1
  pub may : MayAllStand (length (pointers params)) last more

pub checks-take : (room : ℕ) (params : List Param) (done : List Check) (last : Pair) (text : List ℕ) → Holds (checks_at room params done last text) (TakesChecks params done last text)
unfolding checks_at
checks-take zero params done last text = if_ok _ _ _ _ (λ ends. record { more = []; all = sym (append-nil done); spelled = refl; may = tt })
checks-take (suc room) params done last text = if_both _ _ _ _
    (λ ends. now _ _ (record { more = []; all = sym (append-nil done); spelled = refl; may = tt }))
    (λ _. and_then _ _ _ _ (check-takes params last text) (λ check c. record {
      holds = λ x e.
          let t = (checks-take room params (done ++ check.0 ∷ []) (pair_of check.0) check.1).holds x e in
          record {
            more = check.0 ∷ t.more;
            all = t.all ∙ append_assoc done (check.0 ∷ []) t.more;
            spelled = c.spelled ∙ ap (λ (r : List ℕ). check_text params check.0 ++ r) t.spelled ∙ sym (append_assoc (check_text params check.0) (checks_text params t.more) x.1);
            may = (c.may, t.may);
          };
    }))

check-first : (params : List Param) (c : Check) (rest : List ℕ) → is_word (codes "then") (check_text params c ++ rest) ≡ false
unfolding is_word
check-first params c rest = refl

pub checks-again : (room : ℕ) (params : List Param) (done : List Check) (last : Pair) (cs : List Check) (rest : List ℕ) → AreParams params → length cs ≤ room → MayAllStand (length (pointers params)) last cs → is_word (codes "then") rest ≡ true
    → checks_at room params done last (checks_text params cs ++ rest) ≡ Ok (done ++ cs, rest)
unfolding checks_at
checks-again zero params done last [] rest p few may ends = rw (ends, append-nil done) refl
checks-again zero params done last (c ∷ cs) rest p few may ends = absurd (omega (arith, few))
checks-again (suc room) params done last [] rest p few may ends = rw (ends, append-nil done) refl
checks-again (suc room) params done last (c ∷ cs) rest p few may ends =
    let behind = checks_text params cs ++ rest in
    let more = checks-again room params (done ++ c ∷ []) (pair_of c) cs rest p (omega (arith, few)) may.1 ends in
    ap (checks_at (suc room) params done last) (append_assoc (check_text params c) (checks_text params cs) rest)
    ∙ rw (check-first params c behind, check-again params last c behind p may.0, more) (ap (λ (l : List Check). Ok (l, rest)) (append_assoc done (c ∷ []) cs))

-- ---- the last line

counted_is : (counted n k : ℕ) → count_from counted n ≡ Ok k → n ≡ counted
counted_is counted n k e = elim (cases_Bool (n == counted)) [
  | inl right ↦ eqb-true n counted right
  | inr wrong ↦ (let is : bad Range ≡ Ok k = rw wrong at e in absurd cc)
]

end_line-joined : (a rest : List ℕ) → ((codes "end checks " ++ a) ++ line_end) ++ rest ≡ codes "end checks " ++ (a ++ (line_end ++ rest))
end_line-joined a rest = simp append_assoc

pub end_line-takes : (count : ℕ) (text : List ℕ) → count < 2 ^ 64 → Holds (end_line_at count text) (λ rest. text ≡ end_line count ++ rest)
unfolding end_line_at
end_line-takes count text few =
    and_then _ _ _ _ (word_takes (codes "end") text) (λ end a.
    and_then _ _ _ _ (signs_takes (codes " ") end) (λ gap b.
    and_then _ _ _ _ (word_takes (codes "checks") gap) (λ word c.
    and_then _ _ _ _ (signs_takes (codes " ") word) (λ number d.
    and_then _ _ _ _ (number_takes number) (λ n t.
    and_then _ _ (λ k. n.0 ≡ count) _ (judged_ok _ _ _ (counted_is count n.0)) (λ k same. record {
      holds = λ rest e.
          let behind : n.1 ≡ line_end ++ rest = (signs_takes line_end n.1).holds rest e in
          let digits : number ≡ decimal count ++ (line_end ++ rest) = t (omega (arith, same, few)) ∙ ap (λ (j : ℕ). decimal j ++ n.1) same ∙ ap (λ (r : List ℕ). decimal count ++ r) behind in
          a ∙ ap (λ (r : List ℕ). codes "end" ++ r) (b ∙ ap (λ (r : List ℕ). codes " " ++ r) (c ∙ ap (λ (r : List ℕ). codes "checks" ++ r) (d ∙ ap (λ (r : List ℕ). codes " " ++ r) digits))) ∙ sym (end_line-joined (decimal count) rest);
    }))))))

pub end_line-again : (count : ℕ) (rest : List ℕ) → count < 2 ^ 64 → end_line_at count (end_line count ++ rest) ≡ Ok rest
unfolding end_line_at word_at is_word signs_at
end_line-again count rest few =
    ap (end_line_at count) (end_line-joined (decimal count) rest)
    ∙ rw (number_again count (line_end ++ rest) few refl, eq-eqb count count refl) refl
