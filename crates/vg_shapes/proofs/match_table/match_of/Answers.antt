use Rattle.std.proofs.Common.{◌≡◌, ℕ, ◌≤◌, length, Some, None, sym, ap, ◌∙◌, inl, inr, arith}
use Rattle.std.specs.Prelude.{List, slice_get}
use Rattle.std.proofs.lemmas.Bool.{cond-true, cond-false}
use Rattle.std.proofs.lemmas.Option.{slice_get_cases, slice_get-get_or}
use Rattle.vg_shapes.specs.declared.match_table.Match.{Match}
use Rattle.vg_shapes.proofs.MatchTables.{is_of, if_of, found-at}
use Rattle.vg_shapes.proofs.match_table.match_of.Goals as goal

past : (ms : List Match) (k : ℕ) → length ms ≤ k → slice_get ms k ≡ None
past ms k h = elim (slice_get_cases ms k).1 [ inl e ↦ absurd (let l = e.1 in omega arith) | inr e ↦ e.1 ]

pub returns-then-is_of : goal.returns-then-is_of
returns-then-is_of c =
    let test = is_of c.args.description c.args.lane c.args.value in
    let h = c.in-Some.ensures.lookup in
    let m = c.in-Some.found.now in
    let there : slice_get c.args.matches.now c.place_of-place.result ≡ Some m = slice_get-get_or c.args.matches.now c.place_of-place.result m h.3.0 ∙ ap Some (sym (h.3.1 m)) in
    sym (cond-true (test m) (Some m) None (sym c.is_of.ensures ∙ c.if-is_of.true))
    ∙ sym (ap (if_of test) there)
    ∙ found-at c.args.description c.args.lane c.args.value c.args.matches.now c.place_of-place.result c.requires c.place_of-place.ensures.splits.0 c.place_of-place.ensures.splits.1

pub returns-else-is_of : goal.returns-else-is_of
returns-else-is_of c =
    let test = is_of c.args.description c.args.lane c.args.value in
    let h = c.in-Some.ensures.lookup in
    let m = c.in-Some.found.now in
    let there : slice_get c.args.matches.now c.place_of-place.result ≡ Some m = slice_get-get_or c.args.matches.now c.place_of-place.result m h.3.0 ∙ ap Some (sym (h.3.1 m)) in
    sym (cond-false (test m) (Some m) None (sym c.is_of.ensures ∙ c.if-is_of.false))
    ∙ sym (ap (if_of test) there)
    ∙ found-at c.args.description c.args.lane c.args.value c.args.matches.now c.place_of-place.result c.requires c.place_of-place.ensures.splits.0 c.place_of-place.ensures.splits.1

pub returns-in-None : goal.returns-in-None
returns-in-None c =
    let test = is_of c.args.description c.args.lane c.args.value in
    sym (ap (if_of test) (past c.args.matches.now c.place_of-place.result c.in-None.ensures.lookup.3))
    ∙ found-at c.args.description c.args.lane c.args.value c.args.matches.now c.place_of-place.result c.requires c.place_of-place.ensures.splits.0 c.place_of-place.ensures.splits.1
