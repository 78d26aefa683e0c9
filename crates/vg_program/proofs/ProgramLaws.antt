-- Whole programs: what is read is valid and is spelled so, and the text of each valid program is read.
use Rattle.std.proofs.Common.{◌≡◌, ℕ, ◌^◌, ◌<◌, ◌≤◌, List, [], ◌∷◌, ◌++◌, length, true, ◌==◌, Result, Ok, Err, refl, sym, ap, subst, ◌∙◌, inl, inr, append_assoc, length-append, sum_by, arith, IsTrue}
use Rattle.std.specs.Prelude.{codes, nat_lt, nat_le, IfOk}
use Rattle.std.specs.Fmt.{decimal}
use Rattle.std.proofs.lemmas.Bool.{cases_Bool, eqb-true, eq-eqb, ltb-true, ltb-false, lt-ltb, le-ltb, leb-true, le-leb}
use Rattle.std.proofs.lemmas.List.{append-nil, nil_from_length}
use Rattle.vg_text.specs.Byte.{is_name_text}
use Rattle.vg_text.specs.Place.{first_place}
use Rattle.vg_pseudo.specs.declared.header.Header.{Header}
use Rattle.vg_program.specs.declared.counts.Counts.{Counts}
use Rattle.vg_program.specs.declared.param.Param.{Param}
use Rattle.vg_program.specs.declared.line.Line.{Line}
use Rattle.vg_program.specs.declared.program.Program.{Program}
use Rattle.vg_program.specs.declared.signature.Signature.{Signature}
use Rattle.vg_program.specs.declared.fault.Fault.{Fault}
use Rattle.vg_program.specs.declared.fault.Fault.TheVariants.{CostWrong, Range}
use Rattle.vg_program.specs.declared.stop.Stop.{Stop}
use Rattle.vg_program.specs.declared.program_fault.ProgramFault.{ProgramFault}
use Rattle.vg_program.specs.declared.program_fault.ProgramFault.TheVariants as refused
use Rattle.vg_program.specs.Before.{nothing_before, counted}
use Rattle.vg_program.specs.Text.{line_end, defined, no_counts, lines_text, signature_of, first_line, body_text, text_of}
use Rattle.vg_program.specs.Cost.{line_cost}
use Rattle.vg_program.specs.Params.{AreParams}
use Rattle.vg_program.specs.Valid.{AreLines, KeepsRules, IsValid}
use Rattle.vg_program.specs.Tokens.{signs_at, is_word, word_at}
use Rattle.vg_program.specs.Grammar.{cost_from, scalar_from, scalar_at, cost_at, last_line_at, body_at, program_at}
use Rattle.vg_program.specs.Faults.{located, read, Returns}
use Rattle.vg_program.proofs.Steps.{Holds, now, and_then, if_ok, judged_ok}
use Rattle.vg_program.proofs.TokenLaws.{signs_takes, word_takes, number_takes, number_again}
use Rattle.vg_program.proofs.ParamLaws.{first_text, first_line-takes, first_line-again}
use Rattle.vg_program.proofs.LineLaws.{lines_take, lines_again}

-- ---- the last line

record Stated (counted n c : ℕ) : Type 0 where
  same : n ≡ c
  counts : c ≡ counted
  small : c < 2 ^ 32

abbrev good : ℕ → Result ℕ Fault
good x = Ok x

good_is : (x y : ℕ) → good x ≡ good y → x ≡ y
good_is x y e = cc

cost_from_is : (counted n c : ℕ) → cost_from counted n ≡ Ok c → Stated counted n c
cost_from_is counted n c e = elim (cases_Bool (nat_lt n (2 ^ 32))) [
  | inl small ↦ elim (cases_Bool (n == counted)) [
    | inl right ↦ let same = good_is n c (rw (small, right) at e) in record { same = same; counts = sym same ∙ eqb-true n counted right; small = subst (λ (k : ℕ). k < 2 ^ 32) same (ltb-true n (2 ^ 32) small) }
    | inr wrong ↦ let is : bad (CostWrong n counted) ≡ Ok c = rw (small, wrong) at e in absurd cc
  ]
  | inr large ↦ let is : bad Range ≡ Ok c = rw large at e in absurd cc
]
  where
    bad : Fault → Result ℕ Fault
    bad fault = Err fault

scalar_from_is : (n s : ℕ) → scalar_from n ≡ Ok s → (n ≡ s) × (s ≤ 16384)
scalar_from_is n s e = elim (cases_Bool (nat_le n 16384)) [
  | inl small ↦ let same = good_is n s (rw small at e) in (same, subst (λ (k : ℕ). k ≤ 16384) same (leb-true n 16384 small))
  | inr large ↦ let is : bad ≡ Ok s = rw large at e in absurd cc
]
  where
    bad : Result ℕ Fault
    bad = Err Range

cost_takes : (counted : ℕ) (text : List ℕ) → Holds (cost_at counted text) (λ x. (text ≡ codes " " ++ (decimal x.0 ++ x.1)) × (x.0 ≡ counted) × (x.0 < 2 ^ 32))
unfolding cost_at
cost_takes counted text =
    and_then _ _ _ _ (signs_takes (codes " ") text) (λ gap a.
    and_then _ _ _ _ (number_takes gap) (λ n t.
    and_then _ _ (Stated counted n.0) _ (judged_ok _ _ _ (cost_from_is counted n.0)) (λ cost s.
    let spelled : text ≡ codes " " ++ (decimal cost ++ n.1) = a ∙ ap (λ (b : List ℕ). codes " " ++ b) (t (omega (arith, s.same, s.small)) ∙ ap (λ (k : ℕ). decimal k ++ n.1) s.same) in
    now _ _ (spelled, s.counts, s.small))))

scalar_takes : (text : List ℕ) → Holds (scalar_at text) (λ x. (text ≡ codes " scalar " ++ (decimal x.0 ++ x.1)) × (x.0 ≤ 16384))
unfolding scalar_at
scalar_takes text =
    and_then _ _ _ _ (signs_takes (codes " ") text) (λ space a.
    and_then _ _ _ _ (word_takes (codes "scalar") space) (λ word b.
    and_then _ _ _ _ (signs_takes (codes " ") word) (λ gap c.
    and_then _ _ _ _ (number_takes gap) (λ n t.
    and_then _ _ (λ s. (n.0 ≡ s) × (s ≤ 16384)) _ (judged_ok _ _ _ (scalar_from_is n.0)) (λ scalar s.
    let number : gap ≡ decimal scalar ++ n.1 = t (omega (arith, s.0, s.1)) ∙ ap (λ (k : ℕ). decimal k ++ n.1) s.0 in
    let spelled : text ≡ codes " scalar " ++ (decimal scalar ++ n.1) = a ∙ ap (λ (r : List ℕ). codes " " ++ r) (b ∙ ap (λ (r : List ℕ). codes "scalar" ++ r) (c ∙ ap (λ (r : List ℕ). codes " " ++ r) number)) in
    now _ _ (spelled, s.1))))))

abbrev last_text : ℕ → ℕ → List ℕ
last_text cost scalar = codes "end cost " ++ decimal cost ++ codes " scalar " ++ decimal scalar ++ line_end

last_text-joined : (cost scalar : ℕ) (rest : List ℕ) → last_text cost scalar ++ rest ≡ codes "end cost " ++ (decimal cost ++ (codes " scalar " ++ (decimal scalar ++ (line_end ++ rest))))
last_text-joined cost scalar rest = joined (decimal cost) (decimal scalar) rest
  where
    joined : (x y rest : List ℕ) → ((((codes "end cost " ++ x) ++ codes " scalar ") ++ y) ++ line_end) ++ rest ≡ codes "end cost " ++ (x ++ (codes " scalar " ++ (y ++ (line_end ++ rest))))
    joined x y rest = simp append_assoc

last_takes : (counted : ℕ) (text : List ℕ) → Holds (last_line_at counted text) (λ x. (text ≡ last_text x.0 x.1 ++ x.2) × (x.0 ≡ counted) × (x.1 ≤ 16384) × (x.0 < 2 ^ 32))
unfolding last_line_at
last_takes counted text =
    and_then _ _ _ _ (word_takes (codes "end") text) (λ end a.
    and_then _ _ _ _ (signs_takes (codes " ") end) (λ space b.
    and_then _ _ _ _ (word_takes (codes "cost") space) (λ word c.
    and_then _ _ _ _ (cost_takes counted word) (λ cost d.
    and_then _ _ _ _ (scalar_takes cost.1) (λ scalar s.
    and_then _ _ _ _ (signs_takes line_end scalar.1) (λ rest e.
    let numbers : cost.1 ≡ codes " scalar " ++ (decimal scalar.0 ++ (line_end ++ rest)) = s.0 ∙ ap (λ (r : List ℕ). codes " scalar " ++ (decimal scalar.0 ++ r)) e in
    let spelled : text ≡ last_text cost.0 scalar.0 ++ rest = a ∙ ap (λ (r : List ℕ). codes "end" ++ r) (b ∙ ap (λ (r : List ℕ). codes " " ++ r) (c ∙ ap (λ (r : List ℕ). codes "cost" ++ r) (d.0 ∙ ap (λ (r : List ℕ). codes " " ++ (decimal cost.0 ++ r)) numbers))) ∙ sym (last_text-joined cost.0 scalar.0 rest) in
    now _ _ (spelled, d.1, s.1, d.2)))))))

last_again : (cost scalar : ℕ) (rest : List ℕ) → cost < 2 ^ 32 → scalar ≤ 16384 → last_line_at cost (last_text cost scalar ++ rest) ≡ Ok (cost, scalar, rest)
unfolding last_line_at cost_at scalar_at word_at is_word signs_at
last_again cost scalar rest small few =
    ap (last_line_at cost) (last_text-joined cost scalar rest) ∙ rw (number_again cost (codes " scalar " ++ (decimal scalar ++ (line_end ++ rest))) (omega arith) refl, lt-ltb cost (2 ^ 32) small, eq-eqb cost cost refl, number_again scalar (line_end ++ rest) (omega arith) refl, le-leb scalar 16384 few) refl

-- ---- bodies

-- what is read is spelled so, and keeps the rules
pub record TakesBody (headers : List Header) (s : Signature) (text : List ℕ) (x : Program × List ℕ) : Type 0 where
  pub spelled : text ≡ body_text x.0 ++ x.1
  pub rules : KeepsRules headers x.0
  pub signature : signature_of x.0 ≡ s

pub body-takes : (headers : List Header) (s : Signature) (text : List ℕ) → IsTrue (is_name_text s.name) → AreParams s.params → Holds (body_at headers s text) (TakesBody headers s text)
unfolding body_at
body-takes headers s text named proper =
    let b = nothing_before headers s.params in
    and_then _ _ _ _ (lines_take 4194304 b [] text (proper.few, omega arith, omega arith)) (λ lines l.
    and_then _ _ _ _ (last_takes (sum_by line_cost lines.0) lines.1) (λ last e.
    let p : Program = record { name = s.name; params = s.params; lines = lines.0; cost = last.0; scalar = last.1 } in
    let middle = lines_text s.params no_counts lines.0 in
    let end = last_text last.0 last.1 in
    let behind : text ≡ middle ++ lines.1 = l.spelled ∙ ap (λ (ls : List Line). lines_text s.params no_counts ls ++ lines.1) (sym l.all) in
    let spelled : text ≡ body_text p ++ last.2 = behind ∙ ap (λ (r : List ℕ). middle ++ r) e.0 ∙ sym (append_assoc middle end last.2) in
    let lined = subst (λ (ls : List Line). AreLines b ls) (sym l.all) l.valid in
    now _ _ (record { spelled = spelled; rules = record { name = named; params = proper; lines = lined; cost = e.1; small = e.3; scalar = e.2 }; signature = refl })))

lines_long : (params : List Param) (c : Counts) (ls : List Line) → length ls ≤ length (lines_text params c ls)
unfolding lines_text
lines_long params c [] = omega arith
lines_long params c (l ∷ ls) = simp length-append (omega (arith, lines_long params (counted c (defined l)) ls))

last_ends : (cost scalar : ℕ) (rest : List ℕ) → is_word (codes "end") (last_text cost scalar ++ rest) ≡ true
unfolding is_word
last_ends cost scalar rest = refl

pub body-again : (headers : List Header) (p : Program) (rest : List ℕ) → KeepsRules headers p → length (body_text p) ≤ 4194304 → body_at headers (signature_of p) (body_text p ++ rest) ≡ Ok (p, rest)
unfolding body_at
body-again headers p rest rules size =
    let middle = lines_text p.params no_counts p.lines in
    let end = last_text p.cost p.scalar in
    let short : length p.lines ≤ 4194304 = omega (arith, lines_long p.params no_counts p.lines, size, length-append middle end) in
    let lines = lines_again 4194304 (nothing_before headers p.params) [] p.lines (end ++ rest) rules.params (rules.params.few, omega arith, omega arith) short rules.lines (last_ends p.cost p.scalar rest) in
    let last : last_line_at (sum_by line_cost p.lines) (end ++ rest) ≡ Ok (p.cost, p.scalar, rest) = ap (λ (k : ℕ). last_line_at k (end ++ rest)) (sym rules.cost) ∙ last_again p.cost p.scalar rest rules.small rules.scalar in
    ap (body_at headers (signature_of p)) (append_assoc middle end rest) ∙ rw (lines, last) refl

-- ---- the whole

program_takes : (headers : List Header) (text : List ℕ) → length text ≤ 4194304 → Holds (program_at headers text) (λ p. IsValid headers p × (text_of p ≡ text))
unfolding program_at text_of
program_takes headers text small =
    and_then _ _ _ _ (first_line-takes text) (λ first f.
    and_then _ _ _ _ (body-takes headers first.0 first.1 f.named f.params) (λ body b.
    if_ok _ _ _ _ (λ ended.
    let nothing : body.1 ≡ [] = nil_from_length body.1 (eqb-true (length body.1) 0 ended) in
    let front : first_text first.0 ≡ first_line body.0 = ap first_text (sym b.signature) in
    let behind : first.1 ≡ body_text body.0 = b.spelled ∙ ap (λ (r : List ℕ). body_text body.0 ++ r) nothing ∙ append-nil (body_text body.0) in
    let whole : text ≡ text_of body.0 = f.spelled ∙ ap (λ (r : List ℕ). first_text first.0 ++ r) behind ∙ ap (λ (r : List ℕ). r ++ body_text body.0) front in
    let valid : IsValid headers body.0 = record { rules = b.rules; size = subst (λ (t : List ℕ). length t ≤ 4194304) whole small } in
    (valid, sym whole))))

program_again : (headers : List Header) (p : Program) → IsValid headers p → program_at headers (text_of p) ≡ Ok p
unfolding program_at text_of
program_again headers p v =
    let front = first_line p in
    let joined : text_of p ≡ front ++ (body_text p ++ []) = ap (λ (r : List ℕ). front ++ r) (sym (append-nil (body_text p))) in
    let short : length (body_text p) ≤ 4194304 = omega (arith, v.size, length-append front (body_text p)) in
    let first = first_line-again (signature_of p) (body_text p ++ []) v.rules.name v.rules.params in
    ap (program_at headers) joined ∙ rw (first, body-again headers p [] v.rules short) refl

-- ---- with the limit and the places

pub located_ok : {A : Type 0} (text : List ℕ) (r : Result A Stop) (x : A) → located text r ≡ Ok x → r ≡ Ok x
located_ok text (Ok y) x e = cc
located_ok text (Err stop) x e = absurd cc

pub read_sound : (headers : List Header) (text : List ℕ) (r : Result Program ProgramFault) → Returns r (read headers text) → IfOk r (λ p. IsValid headers p × (text_of p ≡ text))
unfolding read
read_sound headers text (Ok p) given = elim (cases_Bool (nat_lt 4194304 (length text))) [
  | inl large ↦ let is : refusing ≡ Ok p = rw large at given in absurd cc
  | inr small ↦ (program_takes headers text (ltb-false 4194304 (length text) small)).holds p (located_ok text (program_at headers text) p (rw small at given))
]
  where
    refusing : Result Program ProgramFault
    refusing = Err (refused.TooLarge first_place)
read_sound headers text (Err fault) given = tt

pub read_again : (headers : List Header) (p : Program) → IsValid headers p → read headers (text_of p) ≡ Ok p
unfolding read
read_again headers p valid = rw (le-ltb 4194304 (length (text_of p)) valid.size, program_again headers p valid) refl

pub read_complete : (headers : List Header) (text : List ℕ) (r : Result Program ProgramFault) → Returns r (read headers text) → (p : Program) → IsValid headers p → text ≡ text_of p → Returns r (Ok p)
read_complete headers text r given p valid same = subst (λ (a : Result Program ProgramFault). Returns r a) (ap (read headers) same ∙ read_again headers p valid) given

pub one_text : (headers : List Header) (p q : Program) → IsValid headers p → IsValid headers q → text_of p ≡ text_of q → p ≡ q
one_text headers p q vp vq same = ok_is p q (sym (read_again headers p vp) ∙ ap (read headers) same ∙ read_again headers q vq)
  where
    read_ok : Program → Result Program ProgramFault
    read_ok p = Ok p

    ok_is : (p q : Program) → read_ok p ≡ read_ok q → p ≡ q
    ok_is p q e = cc
