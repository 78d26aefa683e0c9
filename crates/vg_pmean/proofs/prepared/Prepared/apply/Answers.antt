use Rattle.std.proofs.Common.{rules, ◌≡◌, ◌*◌, sym, subst, ap, ◌∙◌, [], None, Some, map, slice_get}
use Rattle.std.specs.Option.{option_map_or}
use Rattle.vg_base.specs.Bits.{bits, num}
use Rattle.vg_bits.proofs.BitLists.{bits-zero}
use Rattle.vg_script.specs.Views.{whole_of}
use Rattle.vg_pmean.specs.Applied.{IsReady, given, left_in_dst}
use Rattle.vg_pmean.proofs.prepared.Prepared.apply.Goals as goal

pub answer-requires : goal.answer-requires
answer-requires g c =
    let is : slice_get (map (λ i. i.whole) c.args.self.now.instances.items) c.place_of.result ≡ Some c.in-Some.instance.now.whole =
    subst (λ l. slice_get (map (λ i. i.whole) l) c.place_of.result ≡ Some c.in-Some.instance.now.whole) c.deref.ensures.value c.in-Some.ensures in
    (search rules, (c.args.self.now.ready c.place_of.result c.in-Some.instance.now.whole is).enough)

pub invariant_of-self : goal.invariant_of-self
invariant_of-self g c = record {
  ready = λ k i is. subst (λ r. IsReady r (whole_of i)) (sym c.answer.ensures.same) (c.args.self.now.ready k i is);
}

pub returns-in-Some-clause-bits : goal.returns-in-Some-clause-bits
returns-in-Some-clause-bits g c =
    let ns = given c.args.params.now c.args.imm in
    let is : slice_get (map (λ i. i.whole) c.args.self.now.instances.items) c.place_of.result ≡ Some c.in-Some.instance.now.whole =
    subst (λ l. slice_get (map (λ i. i.whole) l) c.place_of.result ≡ Some c.in-Some.instance.now.whole) c.deref.ensures.value c.in-Some.ensures in
    c.answer.ensures.bits
    ∙ ap (λ o. bits (8 * g.row.B) (num (option_map_or (λ i. left_in_dst (whole_of i) ns) o []))) (sym is)
    ∙ ap (λ n. bits (8 * g.row.B) (num (option_map_or (λ i. left_in_dst (whole_of i) ns) (slice_get (map (λ i. i.whole) c.args.self.now.instances.items) n) []))) c.place_of.ensures

pub returns-in-None-clause-bits : goal.returns-in-None-clause-bits
unfolding num
returns-in-None-clause-bits g c =
    let ns = given c.args.params.now c.args.imm in
    let is : slice_get (map (λ i. i.whole) c.args.self.now.instances.items) c.place_of.result ≡ None =
    subst (λ l. slice_get (map (λ i. i.whole) l) c.place_of.result ≡ None) c.deref.ensures.value c.in-None.ensures in
    c.zero.ensures
    ∙ sym (bits-zero (8 * g.row.B))
    ∙ ap (λ o. bits (8 * g.row.B) (num (option_map_or (λ i. left_in_dst (whole_of i) ns) o []))) (sym is)
    ∙ ap (λ n. bits (8 * g.row.B) (num (option_map_or (λ i. left_in_dst (whole_of i) ns) (slice_get (map (λ i. i.whole) c.args.self.now.instances.items) n) []))) c.place_of.ensures
