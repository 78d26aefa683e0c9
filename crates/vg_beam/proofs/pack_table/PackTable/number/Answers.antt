use Rattle.std.proofs.Common.{◌≤◌, ◌∙◌, ◌++◌, ◌∷◌, [], ap, arith, length, map, subst}
use Rattle.std.specs.Prelude.{bytes_eq}
use Rattle.vg_beam.specs.SearchSpace.{choice_of, described}
use Rattle.vg_beam.specs.Key.{first_place}
use Rattle.vg_beam.proofs.Boards.{number-new, number-there}
use Rattle.vg_beam.proofs.Words.{place-words, words-more}
use Rattle.vg_beam.proofs.pack_table.PackTable.number.Goals as goal

pub returns-then-place-len : goal.returns-then-place-len
returns-then-place-len c =
    number-there (choice_of c.args.space.now) (described c.args.space.now) c.args.space.now.table.now c.args.space.now.ssa.now c.args.self.now c.args.pack.now c.place_of-place.result
    (c.place_of-place.ensures ∙ ap (λ w. first_place (bytes_eq w) (map (λ k. k.items) c.args.self.now.places.keys)) (c.as_slice.ensures.value ∙ c.in_ok-words.ensures)
    ∙ place-words c.args.pack.now c.args.self.now.packs.items (map (λ k. k.items) c.args.self.now.places.keys) c.requires.pack_table.places)
    (omega (arith, c.if-place-len.true, c.len.ensures)) c.requires.pack_table

pub returns : goal.returns
returns c =
    let old = c.args.self.now in
    let p = c.args.pack.now in
    let place = c.place_of-place.ensures ∙ ap (λ w. first_place (bytes_eq w) (map (λ k. k.items) old.places.keys)) (c.as_slice.ensures.value ∙ c.in_ok-words.ensures)
    ∙ place-words p old.packs.items (map (λ k. k.items) old.places.keys) c.requires.pack_table.places in
    let packs = c.in_ok-push.ensures.items ∙ ap (λ q. old.packs.items ++ q ∷ []) c.in_ok-copy.ensures in
    let past : length old.packs.items ≤ c.place_of-place.result = omega (arith, c.if-place-len.false, c.len.ensures) in
    number-new (choice_of c.args.space.now) (described c.args.space.now) c.args.space.now.table.now c.args.space.now.ssa.now old _ p c.in_ok-operands.operands c.place_of-place.result
    place past c.requires.pack_table packs c.in_ok-push-3.ensures.items c.in_ok-push-2.ensures.items c.in_ok-operands.ensures
    (words-more p old.packs.items c.push.new.self.items c.in_ok-words.words.items (map (λ k. k.items) old.places.keys) (map (λ k. k.items) c.note.new.places.keys)
    c.requires.pack_table.places c.in_ok-words.ensures (subst (λ n. length old.packs.items ≤ n) place past) packs c.in_ok-note.ensures)
