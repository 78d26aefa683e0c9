-- The text of each program is no longer than the looped text.
use Rattle.std.proofs.Common.{◌≡◌, ℕ, ◌+◌, ◌≤◌, List, ◌++◌, length, codes, ap, length-append, arith}
use Rattle.std.specs.Prelude.{slice_get}
use Rattle.std.specs.Fmt.{decimal}
use Rattle.vg_program.specs.declared.param.Param.{Param}
use Rattle.vg_program.specs.Params.{integers, name_of}
use Rattle.vg_program.specs.declared.program.Program.{Program}
use Rattle.vg_program.specs.Text.{body_text, first_line, line_end, signature_of, signature_text, text_of}
use Rattle.vg_looped.specs.declared.looped.Looped.{Looped}
use Rattle.vg_looped.specs.Looped.{looped_text, pairs_text, turns_text}
use Rattle.vg_looped.specs.Steps.{Pair, stepped}
use Rattle.vg_looped_laws.specs.Laws.{LoopedProgramsAreValid}

-- `program ` before the signature, and the lines
text-length : (p : Program) → length (text_of p) ≡ 8 + length (signature_text (signature_of p)) + length line_end + length (body_text p)
unfolding text_of
text-length p =
    let s = signature_text (signature_of p) in
    let whole = length-append (first_line p) (body_text p) in
    let first = length-append (codes "program ") (s ++ line_end) in
    let signed = length-append s line_end in
    omega (arith, whole, first, signed)

-- ` times ` at the least stands between the signature and the end of the first line
turns-length : (params : List Param) (times : ℕ) (xs : List Pair) (turns : ℕ) → 7 ≤ length (turns_text params times xs turns)
turns-length params times xs turns =
    let rest = name_of (slice_get (integers params) times) ++ (codes " step " ++ (pairs_text params xs ++ (codes " block " ++ decimal turns))) in
    let all = length-append (codes " times ") rest in
    omega (arith, all)

-- the parts of the looped text
looped-length : (l : Looped) → 14 + length (signature_text (signature_of l.block)) + length line_end + length (body_text l.block) + length (body_text l.rest) ≤ length (looped_text l)
unfolding looped_text
looped-length l =
    let s = signature_text (signature_of l.block) in
    let t = turns_text l.block.params l.times (stepped 0 l.steps) l.turns in
    let rest = body_text l.rest ++ (codes "end looped" ++ line_end) in
    let body = body_text l.block ++ (codes "rest" ++ (line_end ++ rest)) in
    let a = length-append (codes "looped ") (s ++ (t ++ (line_end ++ body))) in
    let b = length-append s (t ++ (line_end ++ body)) in
    let c = length-append t (line_end ++ body) in
    let d = length-append line_end body in
    let e = length-append (body_text l.block) (codes "rest" ++ (line_end ++ rest)) in
    let f = length-append (codes "rest") (line_end ++ rest) in
    let g = length-append line_end rest in
    let h = length-append (body_text l.rest) (codes "end looped" ++ line_end) in
    let i = turns-length l.block.params l.times (stepped 0 l.steps) l.turns in
    omega (arith, a, b, c, d, e, f, g, h, i)

pub looped_programs_are_valid : LoopedProgramsAreValid
looped_programs_are_valid headers l is =
    let all = looped-length l in
    let one = text-length l.block in
    let two = text-length l.rest in
    let same = ap (λ g. length (signature_text g)) is.signature in (
      record { rules = is.block; size = omega (arith, all, one, is.size) },
      record { rules = is.rest; size = omega (arith, all, two, same, is.size) },
    )
