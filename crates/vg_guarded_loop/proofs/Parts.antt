-- The parts of the text of a guarded loop: what is read of each is spelled so, and each is read again.
use Rattle.std.proofs.Common.{◌≡◌, ℕ, ◌+◌, ◌^◌, ◌<◌, ◌≤◌, List, [], ◌++◌, length, true, Ok, refl, sym, ap, subst, ◌∙◌, append_assoc, length-append, arith, IsTrue}
use Rattle.std.specs.Prelude.{codes}
use Rattle.vg_pseudo.specs.declared.header.Header.{Header}
use Rattle.vg_text.specs.Byte.{is_name_text}
use Rattle.vg_program.specs.declared.program.Program.{Program}
use Rattle.vg_program.specs.declared.signature.Signature.{Signature}
use Rattle.vg_program.specs.Grammar.{body_at}
use Rattle.vg_program.specs.Params.{pointers, AreParams}
use Rattle.vg_program.specs.Text.{line_end, signature_text, signature_of, body_text}
use Rattle.vg_program.specs.Tokens.{is_word, word_at, signs_at}
use Rattle.vg_program.specs.Valid.{KeepsRules}
use Rattle.vg_program.proofs.Steps.{Holds, now, and_then}
use Rattle.vg_program.proofs.TokenLaws.{signs_takes, word_takes}
use Rattle.vg_program.proofs.ParamLaws.{signature-takes, signature-again}
use Rattle.vg_program.proofs.ProgramLaws.{body-takes, body-again}
use Rattle.vg_guard.specs.declared.check.Check.{Check}
use Rattle.vg_guard.specs.declared.guarded.Guarded.{Guarded}
use Rattle.vg_guard.specs.Guarded.{checks_text, end_line}
use Rattle.vg_guard.specs.Rules.{AreChecks}
use Rattle.vg_guard.proofs.CheckTexts.{checks-take, checks-again, end_line-takes, end_line-again}
use Rattle.vg_guard.proofs.GuardedTexts.{checks-long}
use Rattle.vg_guard.proofs.Rising.{rises, stands}
use Rattle.vg_looped.specs.declared.told.Told.{Told}
use Rattle.vg_looped.specs.Grammar.{word_line_at}
use Rattle.vg_looped.specs.Looped.{turns_text, ArePairs, IsTimes}
use Rattle.vg_looped.specs.Steps.{Pair}
use Rattle.vg_looped.proofs.LoopedTexts.{word_line-takes, line_ended, rest_line, last_text, last_line}
use Rattle.vg_looped.proofs.Turns.{turns-take, turns-again}
use Rattle.vg_guarded_loop.specs.Grammar.{first_line_at, sides_at, rest_at}
use Rattle.vg_guarded_loop.specs.GuardedLoop.{sides_text, rest_text}

-- ---- the first line

abbrev pub line_of : Signature → ℕ → List Pair → ℕ → List ℕ
line_of s times xs turns = codes "guardedloop " ++ (signature_text s ++ (turns_text s.params times xs turns ++ line_end))

line-joined : (a b rest : List ℕ) → (codes "guardedloop " ++ (a ++ (b ++ line_end))) ++ rest ≡ codes "guardedloop " ++ (a ++ (b ++ (line_end ++ rest)))
line-joined a b rest = simp append_assoc

pub record TakesFirst (text : List ℕ) (x : (Signature × Told) × List ℕ) : Type 0 where
  pub spelled : text ≡ line_of x.0.0 x.0.1.times x.0.1.pairs x.0.1.turns ++ x.1
  pub named : IsTrue (is_name_text x.0.0.name)
  pub params : AreParams x.0.0.params
  pub times : IsTimes x.0.0.params x.0.1.times
  pub pairs : ArePairs x.0.0.params 0 x.0.1.pairs
  pub some_pair : 0 < length x.0.1.pairs
  pub some : 1 ≤ x.0.1.turns
  pub few : x.0.1.turns ≤ 16

pub first-takes : (text : List ℕ) → Holds (first_line_at text) (TakesFirst text)
unfolding first_line_at
first-takes text =
    and_then _ _ _ _ (word_takes (codes "guardedloop") text) (λ word a.
    and_then _ _ _ _ (signs_takes (codes " ") word) (λ space b.
    and_then _ _ _ _ (signature-takes space) (λ s h.
    and_then _ _ _ _ (turns-take s.0.params s.1) (λ told t.
    and_then _ _ _ _ (signs_takes line_end told.1) (λ rest c.
    let turns = turns_text s.0.params told.0.times told.0.pairs told.0.turns in
    let spelled : text ≡ line_of s.0 told.0.times told.0.pairs told.0.turns ++ rest =
    a ∙ ap (λ (r : List ℕ). codes "guardedloop" ++ r) (b ∙ ap (λ (r : List ℕ). codes " " ++ r) (h.spelled ∙ ap (λ (r : List ℕ). signature_text s.0 ++ r) (t.spelled ∙ ap (λ (r : List ℕ). turns ++ r) c)))
    ∙ sym (line-joined (signature_text s.0) turns rest) in
    now _ _ (record {
      spelled = spelled;
      named = h.named;
      params = h.params;
      times = t.times;
      pairs = t.pairs;
      some_pair = t.some_pair;
      some = t.some;
      few = t.few;
    }))))))

opening : (rest : List ℕ) → (word_at (codes "guardedloop") (codes "guardedloop " ++ rest) ≡ Ok (codes " " ++ rest)) × (signs_at (codes " ") (codes " " ++ rest) ≡ Ok rest)
unfolding word_at is_word signs_at
opening rest = (refl, refl)

pub first-again : (s : Signature) (times : ℕ) (xs : List Pair) (turns : ℕ) (rest : List ℕ) → IsTrue (is_name_text s.name) → AreParams s.params → IsTimes s.params times → ArePairs s.params 0 xs → 0 < length xs → 1 ≤ turns → turns ≤ 16
    → first_line_at (line_of s times xs turns ++ rest) ≡ Ok ((s, record { times = times; pairs = xs; turns = turns }), rest)
unfolding first_line_at
first-again s times xs turns rest named proper is are some_pair some few =
    let behind = turns_text s.params times xs turns ++ (line_end ++ rest) in
    ap first_line_at (line-joined (signature_text s) (turns_text s.params times xs turns) rest)
    ∙ rw (
      (opening (signature_text s ++ behind)).0,
      (opening (signature_text s ++ behind)).1,
      signature-again s behind named proper,
      turns-again s.params times xs turns (line_end ++ rest) proper is are some_pair some few refl,
      line_ended rest,
    ) refl

-- ---- the block

abbrev pub behind_then : List ℕ → List ℕ
behind_then rest = codes "then" ++ (line_end ++ rest)

abbrev pub behind_else : List ℕ → List ℕ
behind_else rest = codes "else" ++ (line_end ++ rest)

sides-joined : (checks fast slow end rest : List ℕ)
    → (checks ++ (codes "then" ++ (line_end ++ (fast ++ (codes "else" ++ (line_end ++ (slow ++ end))))))) ++ rest
    ≡ checks ++ behind_then (fast ++ behind_else (slow ++ (end ++ rest)))
sides-joined checks fast slow end rest = simp append_assoc

pub record TakesSides (headers : List Header) (s : Signature) (text : List ℕ) (x : Guarded × List ℕ) : Type 0 where
  pub spelled : text ≡ sides_text x.0 ++ x.1
  pub fast : KeepsRules headers x.0.fast
  pub slow : KeepsRules headers x.0.slow
  pub own : signature_of x.0.fast ≡ s
  pub other : signature_of x.0.slow ≡ s
  pub checks : AreChecks (length (pointers x.0.fast.params)) x.0.checks

pub sides-take : (headers : List Header) (s : Signature) (text : List ℕ) → IsTrue (is_name_text s.name) → AreParams s.params → length text ≤ 4194304 → Holds (sides_at headers s text) (TakesSides headers s text)
unfolding sides_at
sides-take headers s text named proper small =
    and_then _ _ _ _ (checks-take 4194304 s.params [] (0, 0) text) (λ checks c.
    and_then _ _ _ _ (word_line-takes (codes "then") checks.1) (λ quick t.
    and_then _ _ _ _ (body-takes headers s quick named proper) (λ fast a.
    and_then _ _ _ _ (word_line-takes (codes "else") fast.1) (λ plain e.
    and_then _ _ _ _ (body-takes headers s plain named proper) (λ slow b.
    let cs : List Check = checks.0 in
    let bodies : checks.1 ≡ behind_then (body_text fast.0 ++ behind_else (body_text slow.0 ++ slow.1)) =
    t ∙ ap behind_then (a.spelled ∙ ap (λ (r : List ℕ). body_text fast.0 ++ r) (e ∙ ap behind_else b.spelled)) in
    let lines : text ≡ checks_text s.params cs ++ checks.1 = c.spelled ∙ ap (λ (m : List Check). checks_text s.params m ++ checks.1) (sym c.all) in
    let few : length cs < 2 ^ 64 = omega (arith, checks-long s.params cs, small, ap length lines, length-append (checks_text s.params cs) checks.1) in
    and_then _ _ _ _ (end_line-takes (length cs) slow.1 few) (λ last d.
    let g : Guarded = record { checks = cs; fast = fast.0; slow = slow.0 } in
    let mine : s ≡ signature_of fast.0 = sym a.signature in
    let whole : text ≡ checks_text s.params cs ++ behind_then (body_text fast.0 ++ behind_else (body_text slow.0 ++ (end_line (length cs) ++ last))) =
    lines ∙ ap (λ (r : List ℕ). checks_text s.params cs ++ r) (bodies ∙ ap (λ (r : List ℕ). behind_then (body_text fast.0 ++ behind_else (body_text slow.0 ++ r))) d) in
    let may = rises (length (pointers s.params)) (0, 0) c.more c.may in
    let right : AreChecks (length (pointers s.params)) cs = subst (AreChecks (length (pointers s.params))) (sym c.all) may in
    now _ _ (record {
      spelled =
          whole
          ∙ ap (λ (q : Signature). checks_text q.params cs ++ behind_then (body_text fast.0 ++ behind_else (body_text slow.0 ++ (end_line (length cs) ++ last)))) mine
          ∙ sym (sides-joined (checks_text fast.0.params cs) (body_text fast.0) (body_text slow.0) (end_line (length cs)) last);
      fast = a.rules;
      slow = b.rules;
      own = a.signature;
      other = b.signature;
      checks = subst (λ (q : Signature). AreChecks (length (pointers q.params)) cs) mine right;
    })))))))

then-again : (rest : List ℕ) → word_line_at (codes "then") (behind_then rest) ≡ Ok rest
unfolding word_line_at word_at is_word signs_at
then-again rest = refl

else-again : (rest : List ℕ) → word_line_at (codes "else") (behind_else rest) ≡ Ok rest
unfolding word_line_at word_at is_word signs_at
else-again rest = refl

then-ends : (rest : List ℕ) → is_word (codes "then") (behind_then rest) ≡ true
unfolding is_word
then-ends rest = refl

pub sides-again : (headers : List Header) (g : Guarded) (rest : List ℕ) → KeepsRules headers g.fast → KeepsRules headers g.slow → signature_of g.slow ≡ signature_of g.fast → AreChecks (length (pointers g.fast.params)) g.checks
    → length (checks_text g.fast.params g.checks) ≤ 4194304 → length (body_text g.fast) ≤ 4194304 → length (body_text g.slow) ≤ 4194304
    → sides_at headers (signature_of g.fast) (sides_text g ++ rest) ≡ Ok (g, rest)
unfolding sides_at
sides-again headers g rest fast slow same checks c f o =
    let cs = g.checks in
    let s = signature_of g.fast in
    let few : length cs ≤ 4194304 = omega (arith, checks-long g.fast.params cs, c) in
    let ending = end_line (length cs) ++ rest in
    let plain = body_text g.slow ++ ending in
    let quick = body_text g.fast ++ behind_else plain in
    let other : body_at headers s plain ≡ Ok (g.slow, ending) = ap (λ (q : Signature). body_at headers q plain) (sym same) ∙ body-again headers g.slow ending slow o in
    ap (sides_at headers s) (sides-joined (checks_text g.fast.params cs) (body_text g.fast) (body_text g.slow) (end_line (length cs)) rest)
    ∙ rw (
      checks-again 4194304 g.fast.params [] (0, 0) cs (behind_then quick) fast.params few (stands (length (pointers g.fast.params)) cs checks) (then-ends quick),
      then-again quick,
      body-again headers g.fast (behind_else plain) fast f,
      else-again plain,
      other,
      end_line-again (length cs) rest (omega (arith, few)),
    ) refl

-- ---- the rest

rest-joined : (body rest : List ℕ) → (codes "rest" ++ (line_end ++ (body ++ (codes "end looped" ++ line_end)))) ++ rest ≡ codes "rest" ++ (line_end ++ (body ++ (codes "end looped" ++ (line_end ++ rest))))
rest-joined body rest = simp append_assoc

pub record TakesRest (headers : List Header) (s : Signature) (text : List ℕ) (x : Program × List ℕ) : Type 0 where
  pub spelled : text ≡ rest_text x.0 ++ x.1
  pub rules : KeepsRules headers x.0
  pub signature : signature_of x.0 ≡ s

pub rest-takes : (headers : List Header) (s : Signature) (text : List ℕ) → IsTrue (is_name_text s.name) → AreParams s.params → Holds (rest_at headers s text) (TakesRest headers s text)
unfolding rest_at
rest-takes headers s text named proper =
    and_then _ _ _ _ (word_line-takes (codes "rest") text) (λ lines a.
    and_then _ _ _ _ (body-takes headers s lines named proper) (λ rest b.
    and_then _ _ _ _ (word_takes (codes "end") rest.1) (λ end e.
    and_then _ _ _ _ (signs_takes (codes " ") end) (λ gap g.
    and_then _ _ _ _ (word_line-takes (codes "looped") gap) (λ last k.
    let ending : rest.1 ≡ codes "end looped" ++ (line_end ++ last) = e ∙ ap (λ (r : List ℕ). codes "end" ++ r) (g ∙ ap (λ (r : List ℕ). codes " " ++ r) k) in
    let spelled : text ≡ rest_text rest.0 ++ last =
    a ∙ ap (λ (r : List ℕ). codes "rest" ++ (line_end ++ r)) (b.spelled ∙ ap (λ (r : List ℕ). body_text rest.0 ++ r) ending) ∙ sym (rest-joined (body_text rest.0) last) in
    now _ _ (record { spelled = spelled; rules = b.rules; signature = b.signature }))))))

-- nothing stands behind the last line
pub rest-again : (headers : List Header) (s : Signature) (p : Program) → KeepsRules headers p → signature_of p ≡ s → length (body_text p) ≤ 4194304 → rest_at headers s (rest_text p) ≡ Ok (p, [])
unfolding rest_at
rest-again headers s p rules same small =
    let own : body_at headers s (body_text p ++ last_text) ≡ Ok (p, last_text) = ap (λ (q : Signature). body_at headers q (body_text p ++ last_text)) (sym same) ∙ body-again headers p last_text rules small in
    rw (
      rest_line (body_text p ++ last_text),
      own,
      last_line.0,
      last_line.1,
      last_line.2,
    ) refl
