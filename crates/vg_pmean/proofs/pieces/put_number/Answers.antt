use Rattle.std.proofs.Common.{◌≡◌, ℕ, ◌+◌, ◌-◌, ◌∙◌, ◌++◌, sym, ap, arith, replicate, length}
use Rattle.std.specs.Prelude.{if◌then◌else◌}
use Rattle.std.proofs.lemmas.List.{length-replicate}
use Rattle.vg_base.specs.Bits.{bits, bits_of_bytes}
use Rattle.vg_base.proofs.Bits.{length-bits}
use Rattle.vg_bits.specs.Range.{replaced}
use Rattle.vg_bits.proofs.ByteLists.{length-bits_of_bytes}
use Rattle.vg_pmean.proofs.Numbers.{replaced_both}
use Rattle.vg_pmean.proofs.pieces.put_number.Goals as goal

pub returns : goal.returns
returns c =
    let count = c.min-count.result in
    let low = c.low_and_sign-low.result.0 in
    let sign = if c.low_and_sign-low.result.1 then 1 else 0 in
    let old = bits_of_bytes c.args.bytes.now in
    let behind = replicate (c.args.width - count) sign in
    let size : length (bits count low) ≡ count = length-bits count low in
    c.repeat.ensures
    ∙ ap (λ l. replaced (c.args.at + count) behind l) c.write.ensures
    ∙ ap (λ (n : ℕ). replaced (c.args.at + count) behind (replaced n (bits count low) old)) c.new.ensures
    ∙ replaced_both old (bits count low) behind c.args.at (c.args.at + count) (omega (arith, size))
    (omega (arith, size, c.min-count.ensures, length-replicate (c.args.width - count) sign, length-bits_of_bytes c.args.bytes.now))
    ∙ ap (λ (n : ℕ). replaced c.args.at (bits n low ++ replicate (c.args.width - n) sign) old) c.min-count.ensures
    ∙ ap (λ l. replaced c.args.at l old) (sym (c.low_and_sign-low.ensures c.args.width))
