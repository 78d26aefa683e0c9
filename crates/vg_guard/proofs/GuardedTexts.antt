-- Whole guarded texts: what is read keeps the rules and is spelled so, and what keeps them is read.
use Rattle.std.proofs.Common.{◌≡◌, ℕ, ◌+◌, ◌^◌, ◌<◌, ◌≤◌, List, [], ◌∷◌, ◌++◌, length, true, Result, Ok, Err, refl, sym, ap, subst, ◌∙◌, inl, inr, append_assoc, append-nil, length-append, arith, IsTrue}
use Rattle.std.specs.Prelude.{codes, nat_lt, IfOk}
use Rattle.std.proofs.lemmas.Bool.{cases_Bool, eqb-true, ltb-false, le-ltb}
use Rattle.std.proofs.lemmas.List.{nil_from_length}
use Rattle.vg_pseudo.specs.declared.header.Header.{Header}
use Rattle.vg_text.specs.Byte.{is_name_text}
use Rattle.vg_text.specs.Place.{first_place}
use Rattle.vg_program.specs.declared.param.Param.{Param}
use Rattle.vg_program.specs.declared.program.Program.{Program}
use Rattle.vg_program.specs.declared.program_fault.ProgramFault.{ProgramFault}
use Rattle.vg_program.specs.declared.program_fault.ProgramFault.TheVariants as refused
use Rattle.vg_program.specs.declared.signature.Signature.{Signature}
use Rattle.vg_program.specs.Faults.{Returns}
use Rattle.vg_program.specs.Grammar.{body_at}
use Rattle.vg_program.specs.Params.{pointers, AreParams}
use Rattle.vg_program.specs.Text.{line_end, signature_text, signature_of, first_line, body_text, text_of}
use Rattle.vg_program.specs.Tokens.{signs_at, is_word, word_at}
use Rattle.vg_program.specs.Valid.{KeepsRules}
use Rattle.vg_program.proofs.Steps.{Holds, now, and_then, if_ok}
use Rattle.vg_program.proofs.TokenLaws.{signs_takes, word_takes}
use Rattle.vg_program.proofs.ParamLaws.{signature-takes, signature-again}
use Rattle.vg_program.proofs.ProgramLaws.{body-takes, body-again, located_ok}
use Rattle.vg_guard.specs.declared.check.Check.{Check}
use Rattle.vg_guard.specs.declared.guarded.Guarded.{Guarded}
use Rattle.vg_guard.specs.Grammar.{guarded_line_at, word_line_at, guarded_at, read_guarded}
use Rattle.vg_guard.specs.Guarded.{check_text, checks_text, guarded_line, end_line, guarded_text, IsGuarded}
use Rattle.vg_guard.specs.Rules.{AreChecks}
use Rattle.vg_guard.proofs.CheckTexts.{checks-take, checks-again, end_line-takes, end_line-again}
use Rattle.vg_guard.proofs.Rising.{rises, stands}

-- ---- the parts of a text, from the left

abbrev behind_then : List ℕ → List ℕ
behind_then rest = codes "then" ++ (line_end ++ rest)

abbrev behind_else : List ℕ → List ℕ
behind_else rest = codes "else" ++ (line_end ++ rest)

abbrev parts : List ℕ → List ℕ → List ℕ → List ℕ → List ℕ → List ℕ
parts front checks fast slow end = front ++ (checks ++ behind_then (fast ++ behind_else (slow ++ end)))

joined : (a b c d e f g h i : List ℕ) → (((((((a ++ b) ++ c) ++ d) ++ e) ++ f) ++ g) ++ h) ++ i ≡ a ++ (b ++ (c ++ (d ++ (e ++ (f ++ (g ++ (h ++ i)))))))
joined a b c d e f g h i = simp append_assoc

text-parts : (g : Guarded) → guarded_text g ≡ parts (guarded_line (signature_of g.fast)) (checks_text g.fast.params g.checks) (body_text g.fast) (body_text g.slow) (end_line (length g.checks))
unfolding guarded_text
text-parts g = joined (guarded_line (signature_of g.fast)) (checks_text g.fast.params g.checks) (codes "then") line_end (body_text g.fast) (codes "else") line_end (body_text g.slow) (end_line (length g.checks))

parts-length : (a b c d e : List ℕ) → length (parts a b c d e) ≡ length a + length b + length c + length d + length e + 10
parts-length a b c d e = simp length-append (omega arith)

-- ---- first lines and words

record TakesLine (text : List ℕ) (x : Signature × List ℕ) : Type 0 where
  spelled : text ≡ guarded_line x.0 ++ x.1
  named : IsTrue (is_name_text x.0.name)
  params : AreParams x.0.params

guarded_line-joined : (s : Signature) (rest : List ℕ) → guarded_line s ++ rest ≡ codes "guarded " ++ (signature_text s ++ (line_end ++ rest))
guarded_line-joined s rest = by (codes "guarded ") (signature_text s) line_end rest
  where
    by : (a b c d : List ℕ) → ((a ++ b) ++ c) ++ d ≡ a ++ (b ++ (c ++ d))
    by a b c d = simp append_assoc

guarded_line-takes : (text : List ℕ) → Holds (guarded_line_at text) (TakesLine text)
unfolding guarded_line_at
guarded_line-takes text =
    and_then _ _ _ _ (word_takes (codes "guarded") text) (λ word a.
    and_then _ _ _ _ (signs_takes (codes " ") word) (λ space b.
    and_then _ _ _ _ (signature-takes space) (λ s t.
    and_then _ _ _ _ (signs_takes line_end s.1) (λ rest d.
    let spelled : text ≡ guarded_line s.0 ++ rest = rw (guarded_line-joined s.0 rest, a, b, t.spelled, d) refl in
    now _ _ (record { spelled = spelled; named = t.named; params = t.params })))))

guarded_line-again : (s : Signature) (rest : List ℕ) → IsTrue (is_name_text s.name) → AreParams s.params → guarded_line_at (guarded_line s ++ rest) ≡ Ok (s, rest)
unfolding guarded_line_at word_at is_word signs_at
guarded_line-again s rest named proper =
    ap guarded_line_at (guarded_line-joined s rest) ∙ rw (signature-again s (line_end ++ rest) named proper) refl

word_line-takes : (word text : List ℕ) → Holds (word_line_at word text) (λ rest. text ≡ word ++ (line_end ++ rest))
unfolding word_line_at
word_line-takes word text =
    and_then _ _ _ _ (word_takes word text) (λ behind a. record { holds = λ rest e. a ∙ ap (λ (r : List ℕ). word ++ r) ((signs_takes line_end behind).holds rest e) })

then-again : (rest : List ℕ) → word_line_at (codes "then") (behind_then rest) ≡ Ok rest
unfolding word_line_at word_at is_word signs_at
then-again rest = refl

else-again : (rest : List ℕ) → word_line_at (codes "else") (behind_else rest) ≡ Ok rest
unfolding word_line_at word_at is_word signs_at
else-again rest = refl

then-ends : (rest : List ℕ) → is_word (codes "then") (behind_then rest) ≡ true
unfolding is_word
then-ends rest = refl

-- ---- what is read

pub checks-long : (params : List Param) (cs : List Check) → length cs ≤ length (checks_text params cs)
checks-long params [] = omega arith
checks-long params (c ∷ cs) =
    let both = length-append (check_text params c) (checks_text params cs) in
    let some : 1 ≤ length (check_text params c) = omega arith in
    omega (arith, both, some, checks-long params cs)

pub record TakesGuarded (headers : List Header) (text : List ℕ) (g : Guarded) : Type 0 where
  pub fast : KeepsRules headers g.fast
  pub slow : KeepsRules headers g.slow
  pub signature : signature_of g.slow ≡ signature_of g.fast
  pub checks : AreChecks (length (pointers g.fast.params)) g.checks
  pub spelled : text ≡ guarded_text g

guarded-takes : (headers : List Header) (text : List ℕ) → length text ≤ 4194304 → Holds (guarded_at headers text) (TakesGuarded headers text)
unfolding guarded_at
guarded-takes headers text small =
    and_then _ _ _ _ (guarded_line-takes text) (λ first f.
    and_then _ _ _ _ (checks-take 4194304 first.0.params [] (0, 0) first.1) (λ checks c.
    and_then _ _ _ _ (word_line-takes (codes "then") checks.1) (λ quick t.
    and_then _ _ _ _ (body-takes headers first.0 quick f.named f.params) (λ fast a.
    and_then _ _ _ _ (word_line-takes (codes "else") fast.1) (λ plain e.
    and_then _ _ _ _ (body-takes headers first.0 plain f.named f.params) (λ slow b.
    let cs : List Check = checks.0 in
    let ps = first.0.params in
    let bodies : checks.1 ≡ behind_then (body_text fast.0 ++ behind_else (body_text slow.0 ++ slow.1)) =
    t ∙ ap behind_then (a.spelled ∙ ap (λ (r : List ℕ). body_text fast.0 ++ r) (e ∙ ap behind_else b.spelled)) in
    let lines : first.1 ≡ checks_text ps cs ++ checks.1 = c.spelled ∙ ap (λ (m : List Check). checks_text ps m ++ checks.1) (sym c.all) in
    let whole : text ≡ parts (guarded_line first.0) (checks_text ps cs) (body_text fast.0) (body_text slow.0) slow.1 =
    f.spelled ∙ ap (λ (r : List ℕ). guarded_line first.0 ++ r) (lines ∙ ap (λ (r : List ℕ). checks_text ps cs ++ r) bodies) in
    let few : length cs < 2 ^ 64 = omega (arith, checks-long ps cs, small, ap length whole, parts-length (guarded_line first.0) (checks_text ps cs) (body_text fast.0) (body_text slow.0) slow.1) in
    and_then _ _ _ _ (end_line-takes (length cs) slow.1 few) (λ last d.
    if_ok _ _ _ _ (λ ended.
    let g : Guarded = record { checks = cs; fast = fast.0; slow = slow.0 } in
    let own : first.0 ≡ signature_of fast.0 = sym a.signature in
    let nothing : last ≡ [] = nil_from_length last (eqb-true (length last) 0 ended) in
    let ending : slow.1 ≡ end_line (length cs) = d ∙ ap (λ (r : List ℕ). end_line (length cs) ++ r) nothing ∙ append-nil (end_line (length cs)) in
    let spelled : text ≡ guarded_text g =
    whole
    ∙ ap (λ (r : List ℕ). parts (guarded_line first.0) (checks_text ps cs) (body_text fast.0) (body_text slow.0) r) ending
    ∙ ap (λ (s : Signature). parts (guarded_line s) (checks_text s.params cs) (body_text fast.0) (body_text slow.0) (end_line (length cs))) own
    ∙ sym (text-parts g) in
    let may = rises (length (pointers ps)) (0, 0) c.more c.may in
    let right : AreChecks (length (pointers ps)) cs = subst (AreChecks (length (pointers ps))) (sym c.all) may in
    record {
      fast = a.rules;
      slow = b.rules;
      signature = b.signature ∙ sym a.signature;
      checks = subst (λ (s : Signature). AreChecks (length (pointers s.params)) cs) own right;
      spelled = spelled;
    }))))))))

-- ---- the sides

-- each side of a text within the bound is within it
pub record AreSmall (g : Guarded) : Type 0 where
  pub checks : length (checks_text g.fast.params g.checks) ≤ 4194304
  pub fast : length (body_text g.fast) ≤ 4194304
  pub slow : length (body_text g.slow) ≤ 4194304
  pub fast_text : length (text_of g.fast) ≤ 4194304
  pub slow_text : length (text_of g.slow) ≤ 4194304

first-length : (s : Signature) → length (codes "program " ++ signature_text s ++ line_end) ≡ length (guarded_line s)
first-length s = by (signature_text s)
  where
    by : (t : List ℕ) → length (codes "program " ++ t ++ line_end) ≡ length (codes "guarded " ++ t ++ line_end)
    by t = simp length-append refl

whole-length : (p : Program) → length (text_of p) ≡ length (guarded_line (signature_of p)) + length (body_text p)
unfolding text_of
whole-length p = length-append (first_line p) (body_text p) ∙ ap (λ (n : ℕ). n + length (body_text p)) (first-length (signature_of p))

pub sides-small : (g : Guarded) → signature_of g.slow ≡ signature_of g.fast → length (guarded_text g) ≤ 4194304 → AreSmall g
sides-small g same size =
    let line = guarded_line (signature_of g.fast) in
    let long = ap length (text-parts g) ∙ parts-length line (checks_text g.fast.params g.checks) (body_text g.fast) (body_text g.slow) (end_line (length g.checks)) in
    let lines : length (guarded_line (signature_of g.slow)) ≡ length line = ap (λ (s : Signature). length (guarded_line s)) same in
    record {
      checks = omega (arith, size, long);
      fast = omega (arith, size, long);
      slow = omega (arith, size, long);
      fast_text = omega (arith, size, long, whole-length g.fast);
      slow_text = omega (arith, size, long, lines, whole-length g.slow);
    }

-- ---- both ways

pub is-guarded : (headers : List Header) (text : List ℕ) (g : Guarded) → length text ≤ 4194304 → TakesGuarded headers text g → IsGuarded headers g
is-guarded headers text g small t =
    let size : length (guarded_text g) ≤ 4194304 = subst (λ (r : List ℕ). length r ≤ 4194304) t.spelled small in
    let sides = sides-small g t.signature size in
    record {
      fast = record { rules = t.fast; size = sides.fast_text };
      slow = record { rules = t.slow; size = sides.slow_text };
      signature = t.signature;
      checks = t.checks;
      size = size;
    }

pub guarded-again : (headers : List Header) (g : Guarded) → IsGuarded headers g → guarded_at headers (guarded_text g) ≡ Ok g
unfolding guarded_at
guarded-again headers g is =
    let small = sides-small g is.signature is.size in
    let cs = g.checks in
    let s = signature_of g.fast in
    let few : length cs ≤ 4194304 = omega (arith, checks-long g.fast.params cs, small.checks) in
    let ending = end_line (length cs) ++ [] in
    let plain = body_text g.slow ++ ending in
    let quick = body_text g.fast ++ behind_else plain in
    let rules = is.fast.rules in
    let slow : body_at headers s plain ≡ Ok (g.slow, ending) = ap (λ (q : Signature). body_at headers q plain) (sym is.signature) ∙ body-again headers g.slow ending is.slow.rules small.slow in
    ap (guarded_at headers) (text-parts g ∙ ap (parts (guarded_line s) (checks_text g.fast.params cs) (body_text g.fast) (body_text g.slow)) (sym (append-nil (end_line (length cs)))))
    ∙ rw (
      guarded_line-again s (checks_text g.fast.params cs ++ behind_then quick) rules.name rules.params,
      checks-again 4194304 g.fast.params [] (0, 0) cs (behind_then quick) rules.params few (stands (length (pointers g.fast.params)) cs is.checks) (then-ends quick),
      then-again quick,
      body-again headers g.fast (behind_else plain) rules small.fast,
      else-again plain,
      slow,
      end_line-again (length cs) [] (omega (arith, few)),
    ) refl

-- ---- with the limit and the places

pub read_sound : (headers : List Header) (text : List ℕ) (r : Result Guarded ProgramFault) → Returns r (read_guarded headers text) → IfOk r (λ g. IsGuarded headers g × (guarded_text g ≡ text))
unfolding read_guarded
read_sound headers text (Ok g) given = elim (cases_Bool (nat_lt 4194304 (length text))) [
  | inl large ↦ let is : refusing ≡ Ok g = rw large at given in absurd cc
  | inr small ↦
      let few = ltb-false 4194304 (length text) small in
      let t = (guarded-takes headers text few).holds g (located_ok text (guarded_at headers text) g (rw small at given)) in
      (is-guarded headers text g few t, sym t.spelled)
]
  where
    refusing : Result Guarded ProgramFault
    refusing = Err (refused.TooLarge first_place)
read_sound headers text (Err fault) given = tt

pub read_again : (headers : List Header) (g : Guarded) → IsGuarded headers g → read_guarded headers (guarded_text g) ≡ Ok g
unfolding read_guarded
read_again headers g is = rw (le-ltb 4194304 (length (guarded_text g)) is.size, guarded-again headers g is) refl

pub read_complete : (headers : List Header) (text : List ℕ) (r : Result Guarded ProgramFault) → Returns r (read_guarded headers text) → (g : Guarded) → IsGuarded headers g → text ≡ guarded_text g → Returns r (Ok g)
read_complete headers text r given g is same = subst (λ (a : Result Guarded ProgramFault). Returns r a) (ap (read_guarded headers) same ∙ read_again headers g is) given
