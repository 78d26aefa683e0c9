-- The first line that calls an opaque instance.
use Rattle.std.proofs.Common.{◌≡◌, ℕ, ◌+◌, ◌<◌, ◌≤◌, Bool, true, false, List, [], ◌∷◌, length, drop, get_or, Some, None, refl, sym, ap, ◌∙◌, arith}
use Rattle.std.specs.Prelude.{if◌then◌else◌, Option, position}
use Rattle.std.specs.List.{position_from}
use Rattle.std.specs.Option.{option_map}
use Rattle.std.proofs.lemmas.Iterator.Adapters.{position_from-zero}
use Rattle.vg_program.specs.declared.line.Line.{Line}
use Rattle.vg_program.specs.declared.program.Program.{Program}
use Rattle.vg_catalog.specs.Entries.{Entry}
use Rattle.vg_known.specs.Difference.{Difference, is_opaque_call, opaque, opaque_line}
use Rattle.vg_verify.specs.Seeking.{Sought}
use Rattle.vg_verify.proofs.Beginning.{drop-end}
use Rattle.vg_verify.proofs.Walking.{split}

pub sought_none : (test : Line → Bool) (ls : List Line) → Sought test ls 0
sought_none test ls = record { is = refl }

at_place : (test : Line → Bool) (ls : List Line) (place : ℕ) (l : Line) (b : Bool) → Sought test ls place → place < length ls → l ≡ get_or ls place l → b ≡ test l
    → (if b then Some place else position_from test (place + 1) (drop (place + 1) ls)) ≡ position_from test 0 ls
at_place test ls place l b s within is e =
    ap (λ (c : Bool). if c then Some place else position_from test (place + 1) (drop (place + 1) ls)) e
    ∙ ap (position_from test place) (sym (split ls place l within is))
    ∙ s.is

pub sought_more : (test : Line → Bool) (ls : List Line) (place : ℕ) (l : Line) (b : Bool) → Sought test ls place → place < length ls → l ≡ get_or ls place l → b ≡ test l → b ≡ false
    → Sought test ls (place + 1)
sought_more test ls place l b s within is e missed = record { is = at_place test ls place l false s within is (sym missed ∙ e) }

pub sought_here : (entries : List Entry) (p : Program) (ls : List Line) (place : ℕ) (l : Line) (b : Bool) → ls ≡ p.lines → Sought (is_opaque_call entries) ls place → place < length ls → l ≡ get_or ls place l
    → b ≡ is_opaque_call entries l → b ≡ true → Some (opaque (place + 2)) ≡ opaque_line entries p
sought_here entries p ls place l b same s within is e met =
    ap (option_map (λ (i : ℕ). opaque (i + 2))) (at_place (is_opaque_call entries) ls place l true s within is (sym met ∙ e) ∙ sym (position_from-zero (is_opaque_call entries) ls))
    ∙ ap (λ (rest : List Line). option_map (λ (i : ℕ). opaque (i + 2)) (position (is_opaque_call entries) rest)) same

pub sought_end : (entries : List Entry) (p : Program) (ls : List Line) (place : ℕ) → ls ≡ p.lines → Sought (is_opaque_call entries) ls place → length ls ≤ place → None ≡ opaque_line entries p
sought_end entries p ls place same s past =
    ap (option_map (λ (i : ℕ). opaque (i + 2)))
    (ap (position_from (is_opaque_call entries) place) (sym (drop-end ls place past)) ∙ s.is ∙ sym (position_from-zero (is_opaque_call entries) ls))
    ∙ ap (λ (rest : List Line). option_map (λ (i : ℕ). opaque (i + 2)) (position (is_opaque_call entries) rest)) same
