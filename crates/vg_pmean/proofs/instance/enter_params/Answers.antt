use Rattle.std.proofs.Common.{◌≡◌, ℕ, ◌+◌, ◌∷◌, [], ◌++◌, ◌<◌, List, length, length-append, map, take, get_or, sym, ap, ◌∙◌, arith}
use Rattle.std.proofs.lemmas.List.{take_all}
use Rattle.vg_base.specs.Bits.{bits_of_bytes, num}
use Rattle.vg_pmean.specs.Held.{held, filled, entered_at}
use Rattle.vg_pmean.proofs.Entering.{filled_next, filled_last, given_next, given_length}
use Rattle.vg_pmean.proofs.instance.enter_params.Goals as goal

pub registers-preserved : goal.registers-preserved
registers-preserved g c =
    let old = c.args.cells.now in
    let params = c.args.params.now in
    let nums : List ℕ = map (λ p. num (bits_of_bytes p.bytes)) params in
    let k = c.registers.register in
    let place : k ≡ 0 + k = omega arith in
    let here : k < length params = omega (arith, c.registers-test.true, c.min-count.ensures) in
    let size : length nums ≡ length params = given_length params in
    let value = sym (given_next params k c.index-params-register.result here) in
    c.enter_bytes.ensures
    ∙ (λ i. held (entered_at k (value i) ((c.registers.invariant i).cells)) ((c.registers.invariant i).room))
    ∙ ap (λ (n : ℕ). held (entered_at n (get_or nums k 0) (filled 0 (take k nums) old.cells)) old.room) place
    ∙ ap (λ d. held d old.room) (sym (filled_next nums k 0 old.cells (omega (arith, here, size))))

pub returns-then-params-parameters : goal.returns-then-params-parameters
returns-then-params-parameters g c =
    let old = c.args.cells.now in
    let params = c.args.params.now in
    let imm = c.args.imm in
    let nums : List ℕ = map (λ p. num (bits_of_bytes p.bytes)) params in
    let size : length nums ≡ length params = given_length params in
    let done : take c.registers.register nums ≡ nums =
    take_all c.registers.register nums (omega (arith, size, c.registers-test.false, c.min-count.ensures, c.if-params-parameters.true)) in
    let all : take c.args.parameters (nums ++ imm ∷ []) ≡ nums ++ imm ∷ [] =
    take_all c.args.parameters (nums ++ imm ∷ []) (omega (arith, size, length-append nums (imm ∷ []), c.if-params-parameters.true)) in
    c.enter_number.ensures
    ∙ (λ i. held (entered_at (length params) imm ((c.registers.invariant i).cells)) ((c.registers.invariant i).room))
    ∙ ap (λ l. held (entered_at (length params) imm (filled 0 l old.cells)) old.room) done
    ∙ ap (λ (n : ℕ). held (entered_at n imm (filled 0 nums old.cells)) old.room) (omega (arith, size))
    ∙ ap (λ d. held d old.room) (sym (filled_last nums imm 0 old.cells))
    ∙ ap (λ l. held (filled 0 l old.cells) old.room) (sym all)
