-- Whole looped texts.
use Rattle.std.proofs.Common.{◌≡◌, ℕ, ◌+◌, ◌<◌, ◌≤◌, List, [], ◌∷◌, ◌++◌, length, ◌==◌, Result, Ok, Err, refl, sym, ap, subst, ◌∙◌, inl, inr, append_assoc, append-nil, length-append, arith}
use Rattle.std.specs.Prelude.{codes}
use Rattle.std.specs.List.{AllByRecursion}
use Rattle.std.specs.Prelude.{nat_lt}
use Rattle.std.specs.Result.{IfOk}
use Rattle.std.proofs.lemmas.Bool.{cases_Bool, eqb-true, le-ltb, ltb-false}
use Rattle.vg_text.specs.Place.{first_place}
use Rattle.vg_program.specs.declared.program_fault.ProgramFault.{ProgramFault}
use Rattle.vg_program.specs.declared.program_fault.ProgramFault.TheVariants as refused
use Rattle.vg_program.specs.Faults.{Returns}
use Rattle.std.proofs.lemmas.List.{nil_from_length}
use Rattle.vg_pseudo.specs.declared.header.Header.{Header}
use Rattle.vg_program.specs.declared.param.Param.{Param}
use Rattle.vg_program.specs.declared.program.Program.{Program}
use Rattle.vg_program.specs.Params.{pointers}
use Rattle.vg_program.specs.declared.signature.Signature.{Signature}
use Rattle.vg_program.specs.Text.{line_end, signature_text, signature_of, body_text}
use Rattle.vg_program.specs.Tokens.{signs_at, is_word, word_at}
use Rattle.vg_program.specs.Valid.{KeepsRules}
use Rattle.vg_program.proofs.Steps.{Holds, and_then, if_ok}
use Rattle.vg_program.proofs.TokenLaws.{signs_takes, word_takes}
use Rattle.vg_program.specs.Grammar.{signature_at, body_at}
use Rattle.vg_program.proofs.ParamLaws.{signature-takes, signature-again}
use Rattle.vg_program.proofs.ProgramLaws.{body-takes, body-again, located_ok}
use Rattle.vg_looped.specs.declared.looped.Looped.{Looped}
use Rattle.vg_looped.specs.Steps.{Pair, stepped, steps_of}
use Rattle.vg_looped.specs.Looped.{turns_text, looped_text, IsLooped, ArePairs, IsTimes}
use Rattle.vg_looped.specs.Grammar.{turns_at, word_line_at, looped_at, read_looped}
use Rattle.vg_looped.specs.Laws.{WhatIsReadIsLooped, LoopedTextsAreRead}
use Rattle.vg_looped.proofs.Dense.{length-steps, near-steps, pairs-back, steps-back, pairs-are}
use Rattle.vg_looped.proofs.Turns.{turns-take, turns-again}

pub word_line-takes : (word text : List ℕ) → Holds (word_line_at word text) (λ rest. text ≡ word ++ (line_end ++ rest))
unfolding word_line_at
word_line-takes word text =
    and_then _ _ _ _ (word_takes word text) (λ behind a. record { holds = λ rest e. a ∙ ap (λ (r : List ℕ). word ++ r) ((signs_takes line_end behind).holds rest e) })

abbrev text_of_parts : Signature → ℕ → List Pair → ℕ → List ℕ → List ℕ → List ℕ → List ℕ
text_of_parts s times xs turns block rest last =
    codes "looped " ++ (signature_text s ++ (turns_text s.params times xs turns ++ (line_end ++ (block ++ (codes "rest" ++ (line_end ++ (rest ++ (codes "end looped" ++ (line_end ++ last)))))))))

record Read (headers : List Header) (text : List ℕ) (l : Looped) : Type 0 where
  block : KeepsRules headers l.block
  rest : KeepsRules headers l.rest
  signature : signature_of l.rest ≡ signature_of l.block
  times : IsTimes l.block.params l.times
  steps : length l.steps ≡ length (pointers l.block.params)
  near : AllByRecursion (λ s. s ≤ 65536) l.steps
  some_step : 0 < length (stepped 0 l.steps)
  some : 1 ≤ l.turns
  few : l.turns ≤ 16
  spelled : looped_text l ≡ text

looped-takes : (headers : List Header) (text : List ℕ) → Holds (looped_at headers text) (Read headers text)
unfolding looped_at looped_text
looped-takes headers text =
    and_then _ _ _ _ (word_takes (codes "looped") text) (λ word a.
    and_then _ _ _ _ (signs_takes (codes " ") word) (λ space b.
    and_then _ _ _ _ (signature-takes space) (λ head h.
    and_then _ _ _ _ (turns-take head.0.params head.1) (λ told t.
    and_then _ _ _ _ (signs_takes line_end told.1) (λ first c.
    and_then _ _ _ _ (body-takes headers head.0 first h.named h.params) (λ block f.
    and_then _ _ _ _ (word_line-takes (codes "rest") block.1) (λ second d.
    and_then _ _ _ _ (body-takes headers head.0 second h.named h.params) (λ rest s.
    and_then _ _ _ _ (word_takes (codes "end") rest.1) (λ end e.
    and_then _ _ _ _ (signs_takes (codes " ") end) (λ gap g.
    and_then _ _ _ _ (word_line-takes (codes "looped") gap) (λ last k.
    if_ok _ _ _ _ (λ ended.
    let n = length (pointers head.0.params) in
    let steps = steps_of 0 n told.0.pairs in
    let l : Looped = record { block = block.0; rest = rest.0; times = told.0.times; steps = steps; turns = told.0.turns } in
    let nothing : last ≡ [] = nil_from_length last (eqb-true (length last) 0 ended) in
    let back : stepped 0 steps ≡ told.0.pairs = pairs-back head.0.params 0 n told.0.pairs (omega arith) t.pairs in
    let ending : rest.1 ≡ codes "end looped" ++ (line_end ++ []) = e ∙ ap (λ (r : List ℕ). codes "end" ++ r) (g ∙ ap (λ (r : List ℕ). codes " " ++ r) (k ∙ ap (λ (r : List ℕ). codes "looped" ++ (line_end ++ r)) nothing)) in
    let behind : first ≡ body_text block.0 ++ (codes "rest" ++ (line_end ++ (body_text rest.0 ++ (codes "end looped" ++ (line_end ++ []))))) =
    f.spelled ∙ ap (λ (r : List ℕ). body_text block.0 ++ r) (d ∙ ap (λ (r : List ℕ). codes "rest" ++ (line_end ++ r)) (s.spelled ∙ ap (λ (r : List ℕ). body_text rest.0 ++ r) ending)) in
    let front : text ≡ text_of_parts head.0 told.0.times told.0.pairs told.0.turns (body_text block.0) (body_text rest.0) [] =
    a ∙ ap (λ (r : List ℕ). codes "looped" ++ r) (b ∙ ap (λ (r : List ℕ). codes " " ++ r) (h.spelled ∙ ap (λ (r : List ℕ). signature_text head.0 ++ r) (t.spelled ∙ ap (λ (r : List ℕ). turns_text head.0.params told.0.times told.0.pairs told.0.turns ++ r) (c ∙ ap (λ (r : List ℕ). line_end ++ r) behind)))) in
    let spelled : looped_text l ≡ text =
    (λ i. text_of_parts (f.signature i) told.0.times (back i) told.0.turns (body_text block.0) (body_text rest.0) []) ∙ sym front in
    record {
      block = f.rules;
      rest = s.rules;
      signature = s.signature ∙ sym f.signature;
      times = subst (λ (q : Signature). IsTimes q.params told.0.times) (sym f.signature) t.times;
      steps = length-steps 0 n told.0.pairs ∙ ap (λ (q : Signature). length (pointers q.params)) (sym f.signature);
      near = near-steps head.0.params 0 0 n told.0.pairs t.pairs;
      some_step = subst (λ (xs : List Pair). 0 < length xs) (sym back) t.some_pair;
      some = t.some;
      few = t.few;
      spelled = spelled;
    }))))))))))))

pub what-is-read-is-looped : WhatIsReadIsLooped
what-is-read-is-looped headers text l small e =
    let r = (looped-takes headers text).holds l e in (
      record {
        block = r.block;
        rest = r.rest;
        signature = r.signature;
        times = r.times;
        steps = r.steps;
        near = r.near;
        some_step = r.some_step;
        some = r.some;
        few = r.few;
        size = subst (λ (t : List ℕ). length t ≤ 4194304) (sym r.spelled) small;
      },
      r.spelled,
    )

parts_within : (a b c d e f g h i : List ℕ) (n : ℕ) → length (a ++ (b ++ (c ++ (d ++ (e ++ (f ++ (g ++ (h ++ i)))))))) ≤ n → (length e ≤ n) × (length h ≤ n)
parts_within a b c d e f g h i n less =
    let long : length (a ++ (b ++ (c ++ (d ++ (e ++ (f ++ (g ++ (h ++ i)))))))) ≡ length a + (length b + (length c + (length d + (length e + (length f + (length g + (length h + length i))))))) = simp length-append refl in
    (omega (arith, less, long), omega (arith, less, long))

short : (headers : List Header) (l : Looped) → IsLooped headers l → (length (body_text l.block) ≤ 4194304) × (length (body_text l.rest) ≤ 4194304)
unfolding looped_text
short headers l is = parts_within (codes "looped ") (signature_text (signature_of l.block)) (turns_text l.block.params l.times (stepped 0 l.steps) l.turns) line_end (body_text l.block) (codes "rest") line_end (body_text l.rest) (codes "end looped" ++ line_end) 4194304 is.size

opening : (rest : List ℕ) → (word_at (codes "looped") (codes "looped " ++ rest) ≡ Ok (codes " " ++ rest)) × (signs_at (codes " ") (codes " " ++ rest) ≡ Ok rest)
unfolding word_at is_word signs_at
opening rest = (refl, refl)

pub line_ended : (rest : List ℕ) → signs_at line_end (line_end ++ rest) ≡ Ok rest
unfolding signs_at
line_ended rest = refl

pub rest_line : (rest : List ℕ) → word_line_at (codes "rest") (codes "rest" ++ (line_end ++ rest)) ≡ Ok rest
unfolding word_line_at word_at is_word signs_at
rest_line rest = refl

abbrev pub last_text : List ℕ
last_text = codes "end looped" ++ (line_end ++ [])

pub last_line : (word_at (codes "end") last_text ≡ Ok (codes " looped" ++ (line_end ++ []))) × (signs_at (codes " ") (codes " looped" ++ (line_end ++ [])) ≡ Ok (codes "looped" ++ (line_end ++ []))) × (word_line_at (codes "looped") (codes "looped" ++ (line_end ++ [])) ≡ Ok [])
unfolding word_line_at word_at is_word signs_at
last_line = (refl, refl, refl)

pub looped-texts-are-read : LoopedTextsAreRead
unfolding looped_at looped_text
looped-texts-are-read headers l is =
    let s = short headers l is in
    let params = l.block.params in
    let n = length (pointers params) in
    let xs = stepped 0 l.steps in
    let pairs : ArePairs params 0 xs = pairs-are params 0 l.steps (let long = is.steps in omega (arith, long)) is.near in
    let second = body_text l.rest ++ last_text in
    let first = body_text l.block ++ (codes "rest" ++ (line_end ++ second)) in
    let turns = turns_text params l.times xs l.turns ++ (line_end ++ first) in
    let rest = (λ i. body_at headers (sym is.signature i) second) ∙ body-again headers l.rest last_text is.rest s.1 in
    let back : steps_of 0 n xs ≡ l.steps = ap (λ (k : ℕ). steps_of 0 k xs) (sym is.steps) ∙ steps-back 0 l.steps in
    rw (
      (opening (signature_text (signature_of l.block) ++ turns)).0,
      (opening (signature_text (signature_of l.block) ++ turns)).1,
      signature-again (signature_of l.block) turns is.block.name is.block.params,
      turns-again params l.times xs l.turns (line_end ++ first) is.block.params is.times pairs is.some_step is.some is.few refl,
      line_ended first,
      body-again headers l.block (codes "rest" ++ (line_end ++ second)) is.block s.0,
      rest_line second,
      rest,
      last_line.0,
      last_line.1,
      last_line.2,
      back,
    ) refl

-- ---- with the limit and the places

pub read_sound : (headers : List Header) (text : List ℕ) (r : Result Looped ProgramFault) → Returns r (read_looped headers text) → IfOk r (λ l. IsLooped headers l × (looped_text l ≡ text))
unfolding read_looped
read_sound headers text (Ok l) given = elim (cases_Bool (nat_lt 4194304 (length text))) [
  | inl large ↦ let is : refusing ≡ Ok l = rw large at given in absurd cc
  | inr small ↦ what-is-read-is-looped headers text l (ltb-false 4194304 (length text) small) (located_ok text (looped_at headers text) l (rw small at given))
]
  where
    refusing : Result Looped ProgramFault
    refusing = Err (refused.TooLarge first_place)
read_sound headers text (Err fault) given = tt

read_again : (headers : List Header) (l : Looped) → IsLooped headers l → read_looped headers (looped_text l) ≡ Ok l
unfolding read_looped
read_again headers l is = rw (le-ltb 4194304 (length (looped_text l)) is.size, looped-texts-are-read headers l is) refl

pub read_complete : (headers : List Header) (text : List ℕ) (r : Result Looped ProgramFault) → Returns r (read_looped headers text) → (l : Looped) → IsLooped headers l → text ≡ looped_text l → Returns r (Ok l)
read_complete headers text r given l is same = subst (λ (a : Result Looped ProgramFault). Returns r a) (ap (read_looped headers) same ∙ read_again headers l is) given
