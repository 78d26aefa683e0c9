-- Guarded programs: their text, when they keep the rules, and what they do.
use Rattle.std.specs.Prelude.{◌≡◌, ℕ, ◌≤◌, List, ◌++◌, length, Option, codes, if◌then◌else◌}
use Rattle.std.specs.Fmt.{decimal}
use Rattle.std.specs.List.{flat_map}
use Rattle.vg_pseudo.specs.declared.header.Header.{Header}
use Rattle.vg_program.specs.declared.param.Param.{Param}
use Rattle.vg_program.specs.declared.signature.Signature.{Signature}
use Rattle.vg_program.specs.Meaning.{Instructions, meaning}
use Rattle.vg_program.specs.Params.{pointers}
use Rattle.vg_program.specs.Text.{line_end, address_text, signature_text, signature_of, body_text}
use Rattle.vg_program.specs.Valid.{IsValid}
use Rattle.vg_guard.specs.declared.check.Check.{Check}
use Rattle.vg_guard.specs.declared.guarded.Guarded.{Guarded}
use Rattle.vg_guard.specs.declared.span.Span.{Span}
use Rattle.vg_guard.specs.Checks.{all_hold}
use Rattle.vg_guard.specs.Rules.{AreChecks}

-- ---- the text

-- `p+0 8`
abbrev pub span_text : List Param → Span → List ℕ
span_text params s =
    address_text params (record { pointer = s.pointer; offset = s.low }) ++ codes " "
    ++ decimal s.len

-- the two ranges of a check
abbrev pub first_span : Check → Span
first_span c = record { pointer = c.first; low = c.first_low; len = c.first_len }

abbrev pub second_span : Check → Span
second_span c = record { pointer = c.second; low = c.second_low; len = c.second_len }

-- `check disjoint p+0 8 q+0 8`
abbrev pub check_text : List Param → Check → List ℕ
check_text params c =
    codes "check disjoint " ++ span_text params (first_span c) ++ codes " "
    ++ span_text params (second_span c) ++ line_end

abbrev pub checks_text : List Param → List Check → List ℕ
checks_text params cs = flat_map (check_text params) cs

-- `guarded copy(d: ptr, k: i8)`
abbrev pub guarded_line : Signature → List ℕ
guarded_line s = codes "guarded " ++ signature_text s ++ line_end

-- `end checks 1`
abbrev pub end_line : ℕ → List ℕ
end_line count = codes "end checks " ++ decimal count ++ line_end

-- the whole text
unfoldable pub guarded_text : Guarded → List ℕ
guarded_text g =
    guarded_line (signature_of g.fast) ++ checks_text g.fast.params g.checks
    ++ codes "then" ++ line_end ++ body_text g.fast
    ++ codes "else" ++ line_end ++ body_text g.slow ++ end_line (length g.checks)

-- ---- the rules

-- both programs are valid and have one name and the same parameters, the checks are of their
-- pointers, and the text is within the bound
pub record IsGuarded (headers : List Header) (g : Guarded) : Type 0 where
  pub fast : IsValid headers g.fast
  pub slow : IsValid headers g.slow
  pub signature : signature_of g.slow ≡ signature_of g.fast
  pub checks : AreChecks (length (pointers g.fast.params)) g.checks
  pub size : length (guarded_text g) ≤ 4194304

-- ---- the meaning

-- what the fast program does where all checks hold, else what the slow one does
abbrev pub guarded_meaning : Instructions → Guarded → List ℕ → List ℕ → List ℕ
    → Option (List ℕ)
guarded_meaning called g memory places args =
    if all_hold places g.checks then meaning called g.fast memory places args
    else meaning called g.slow memory places args
