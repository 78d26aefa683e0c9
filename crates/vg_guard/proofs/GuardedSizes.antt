-- Guarded texts of short programs are within the bound on texts.
use Rattle.std.proofs.Common.{ℕ, ◌*◌, ◌≤◌, List, [], ◌∷◌, ◌++◌, length, length-append, arith}
use Rattle.std.specs.Prelude.{codes}
use Rattle.std.specs.Fmt.{decimal}
use Rattle.std.specs.List.{AllByRecursion}
use Rattle.std.proofs.lemmas.Fmt.{length-decimal-le}
use Rattle.vg_program.specs.declared.param.Param.{Param}
use Rattle.vg_program.specs.Params.{pointers}
use Rattle.vg_program.specs.Text.{line_end, address_text, signature_text, signature_of, body_text}
use Rattle.vg_program.proofs.TextSizes.{AreShort, names-short, number-short, address_text-short, signature-short, bodies_short}
use Rattle.vg_guard.specs.declared.check.Check.{Check}
use Rattle.vg_guard.specs.declared.span.Span.{Span}
use Rattle.vg_guard.specs.Guarded.{span_text, first_span, second_span, check_text, checks_text, guarded_line, end_line, guarded_text}
use Rattle.vg_guard.specs.Laws.{GuardedProgramsFit}
use Rattle.vg_guard.specs.Rules.{IsRange, IsCheck}

span-short : (params : List Param) (n : ℕ) (s : Span) → AreShort params → IsRange n s.pointer s.low s.len → length (span_text params s) ≤ 86
span-short params n s all is =
    let few = is.few in
    let digits : length (decimal s.len) ≤ 10 = length-decimal-le 10 s.len (omega arith) (omega (arith, few)) (omega arith) in
    joined (address_text params (record { pointer = s.pointer; offset = s.low })) (decimal s.len) (address_text-short params (record { pointer = s.pointer; offset = s.low }) all is.offset) digits
  where
    joined : (a b : List ℕ) → length a ≤ 75 → length b ≤ 10 → length (a ++ codes " " ++ b) ≤ 86
    joined a b x y = simp length-append (omega (arith, x, y))

checks-short : (params : List Param) (n : ℕ) (cs : List Check) → AreShort params → AllByRecursion (IsCheck n) cs → length (checks_text params cs) ≤ 189 * length cs
checks-short params n [] all each = omega arith
checks-short params n (c ∷ cs) all each =
    let one : length (check_text params c) ≤ 189 = joined (span_text params (first_span c)) (span_text params (second_span c)) (span-short params n (first_span c) all each.0.first) (span-short params n (second_span c) all each.0.second) in
    let more = checks-short params n cs all each.1 in
    omega (arith, length-append (check_text params c) (checks_text params cs), one, more)
  where
    joined : (a b : List ℕ) → length a ≤ 86 → length b ≤ 86 → length (codes "check disjoint " ++ a ++ codes " " ++ b ++ line_end) ≤ 189
    joined a b x y = simp length-append (omega (arith, x, y))

end_line-short : (count : ℕ) → count ≤ 120 → length (end_line count) ≤ 22
end_line-short count few =
    let digits : length (decimal count) ≤ 10 = number-short count (omega (arith, few)) in
    joined (decimal count) digits
  where
    joined : (a : List ℕ) → length a ≤ 10 → length (codes "end checks " ++ a ++ line_end) ≤ 22
    joined a x = simp length-append (omega (arith, x))

all-short : (line checks fast slow end : List ℕ) → length line ≤ 1355 → length checks ≤ 22680 → length fast ≤ 2002982 → length slow ≤ 2002982 → length end ≤ 22
    → length (line ++ checks ++ codes "then" ++ line_end ++ fast ++ codes "else" ++ line_end ++ slow ++ end) ≤ 4194304
all-short line checks fast slow end a b c d e = simp length-append (omega (arith, a, b, c, d, e))

line-short : (s : List ℕ) → length s ≤ 1346 → length (codes "guarded " ++ s ++ line_end) ≤ 1355
line-short s few = simp length-append (omega (arith, few))

pub guarded-fits : GuardedProgramsFit
unfolding guarded_text
guarded-fits headers g take fast slow signature checks count first second =
    let rules = fast.rules in
    let cs = checks-short g.fast.params (length (pointers g.fast.params)) g.checks (names-short g.fast.params rules.params.names) checks.each in
    let a = bodies_short headers g.fast take rules first in
    let b = bodies_short headers g.slow take slow.rules second in
    record {
      fast = fast;
      slow = slow;
      signature = signature;
      checks = checks;
      size =
          all-short (guarded_line (signature_of g.fast)) (checks_text g.fast.params g.checks) (body_text g.fast) (body_text g.slow) (end_line (length g.checks))
          (line-short (signature_text (signature_of g.fast)) (signature-short (signature_of g.fast) rules.name rules.params))
          (omega (arith, cs, count)) (omega (arith, a, first)) (omega (arith, b, second)) (end_line-short (length g.checks) count);
    }
