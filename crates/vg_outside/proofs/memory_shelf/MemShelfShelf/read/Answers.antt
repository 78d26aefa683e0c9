use Rattle.std.proofs.Common.{◌≡◌, ◌+◌, false, Some, None, Ok, take, refl, sym, ◌∙◌, ap}
use Rattle.std.specs.FinMap.{get}
use Rattle.std.proofs.lemmas.Result.{err_from_is_err_and}
use Rattle.vg_outside.specs.MemShelf.{is_failing}
use Rattle.vg_outside.proofs.Names.{get-held_by, answer_by}
use Rattle.vg_outside.proofs.memory_shelf.MemShelfShelf.read.Goals as goal

pub returns-in_err-first_bytes-in-Some-clause-answer : goal.returns-in_err-first_bytes-in-Some-clause-answer
returns-in_err-first_bytes-in-Some-clause-answer c =
    let fine : is_failing c.args.self.now ≡ false = rw (← c.self.view_is) (rw (← c.deref.ensures.value) (sym c.if-contains.ensures.value)) in
    let file : get c.args.self.now.held c.args.name.now ≡ Some c.in-Some.bytes.now = rw (← c.self.view_is) (get-held_by c.self.inside.files c.args.name.now ∙ sym c.in-Some.ensures.value) in
    let told = answer_by c.args.self.now c.args.name.now c.args.limit (Some c.in-Some.bytes.now) fine file in
    let gives = err_from_is_err_and c.from_residual.result c.from_residual.ensures.1 in
    rw (gives.1, gives.2, told) refl

pub returns-in_ok-first_bytes-in-Some-clause-answer : goal.returns-in_ok-first_bytes-in-Some-clause-answer
returns-in_ok-first_bytes-in-Some-clause-answer c =
    let fine : is_failing c.args.self.now ≡ false = rw (← c.self.view_is) (rw (← c.deref.ensures.value) (sym c.if-contains.ensures.value)) in
    let file : get c.args.self.now.held c.args.name.now ≡ Some c.in-Some.bytes.now = rw (← c.self.view_is) (get-held_by c.self.inside.files c.args.name.now ∙ sym c.in-Some.ensures.value) in
    let told = answer_by c.args.self.now c.args.name.now c.args.limit (Some c.in-Some.bytes.now) fine file in
    told ∙ ap Ok (ap (take (c.args.limit + 1)) (sym c.as_slice.ensures) ∙ sym c.in_ok-first_bytes-in-Some.ensures)

pub returns-in-None-clause-answer : goal.returns-in-None-clause-answer
returns-in-None-clause-answer c =
    let fine : is_failing c.args.self.now ≡ false = rw (← c.self.view_is) (rw (← c.deref.ensures.value) (sym c.if-contains.ensures.value)) in
    let none : get c.args.self.now.held c.args.name.now ≡ None = rw (← c.self.view_is) (get-held_by c.self.inside.files c.args.name.now ∙ sym c.in-None.ensures.value) in
    answer_by c.args.self.now c.args.name.now c.args.limit None fine none
