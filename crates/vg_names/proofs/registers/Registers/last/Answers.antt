use Rattle.std.proofs.Common.{◌≡◌, ◌<◌, map, length, Some, None, sym, ◌∙◌, ap, arith, slice_get, get_or}
use Rattle.std.specs.Option.{option_map}
use Rattle.std.specs.Prelude.{nat_lt}
use Rattle.std.proofs.lemmas.List.{length-map}
use Rattle.std.proofs.lemmas.Bool.{ltb-true}
use Rattle.std.proofs.lemmas.Option.{slice_get_within, slice_get-get_or}
use Rattle.vg_pseudo.specs.Names.{last_function}
use Rattle.vg_names.specs.Registers.{register_view}
use Rattle.vg_names.proofs.LastOfNames.{last_stands, stands_none, stands_some, mapped_at}
use Rattle.vg_names.proofs.registers.Registers.last.Goals as goal

pub returns-in_err-number : goal.returns-in_err-number
returns-in_err-number c =
    let all = map register_view c.self.inside.all.items in
    let found : last_function 0 None (map (λ r. r.name) all) c.args.name.now ≡ None =
    sym (c.in_err-number.ensures ∙ ap (λ ns. last_function 0 None ns c.args.name.now) c.self.invariant) in
    rw (← c.self.view_is, c.from_residual.ensures)
    (sym (stands_none all _ _ (last_stands all c.args.name.now) found))

some-is : {A : Type 0} {a b : A} → Some a ≡ Some b → a ≡ b
some-is e = cc

pub returns-in_err-register : goal.returns-in_err-register
returns-in_err-register c =
    let items = c.self.inside.all.items in
    let all = map register_view items in
    let number = c.in_ok-number.number in
    let found : last_function 0 None (map (λ r. r.name) all) c.args.name.now ≡ Some number =
    sym (c.in_ok-number.ensures ∙ ap (λ ns. last_function 0 None ns c.args.name.now) c.self.invariant) in
    let q = stands_some all _ _ number (last_stands all c.args.name.now) found in
    let below : number < length all = slice_get_within all number q.0 q.2 in
    let past = c.in_err-register.ensures.lookup.3 in
    absurd (omega (arith, below, past, length-map items register_view, ap length c.deref.ensures.value))

pub returns : goal.returns
returns c =
    let items = c.self.inside.all.items in
    let all = map register_view items in
    let number = c.in_ok-number.number in
    let register = c.in_ok-register.register.now in
    let found : last_function 0 None (map (λ r. r.name) all) c.args.name.now ≡ Some number =
    sym (c.in_ok-number.ensures ∙ ap (λ ns. last_function 0 None ns c.args.name.now) c.self.invariant) in
    let q = stands_some all _ _ number (last_stands all c.args.name.now) found in
    let lookup = c.in_ok-register.ensures.lookup in
    let within : number < length items = ltb-true number (length items) (sym (lookup.0 ∙ ap (λ xs. nat_lt number (length xs)) c.deref.ensures.value)) in
    let at : slice_get items number ≡ Some register =
    slice_get-get_or items number register within ∙ ap Some (sym (lookup.1 ∙ ap (λ xs. get_or xs number register) c.deref.ensures.value)) in
    let same : register_view register ≡ q.0 = some-is (ap (option_map register_view) (sym at) ∙ sym (mapped_at register_view items number) ∙ q.2) in
    rw (← c.self.view_is) (ap (λ v. Some (number, v)) same ∙ sym q.1)
