-- Runs with more bits.
use Rattle.std.proofs.Common.{◌≡◌, ℕ, ◌∙◌, ◌+◌, ◌<◌, sym, ap, true, List, length, get_or, drop}
use Rattle.std.proofs.lemmas.Bool.{cond-true}
use Rattle.vg_pool.specs.declared.content.Content.{Content}
use Rattle.vg_lift.specs.Gather.{continues, gather_from, longer}
use Rattle.vg_lift.specs.declared.bit.Bit.{Bit}
use Rattle.vg_lift.specs.declared.bit.Bit.TheVariants.{Clear}
use Rattle.vg_lift.specs.declared.run.Run.{Run}
use Rattle.vg_lift.specs.Views.{bit_of, bits_of, run_of}
use Rattle.vg_lift.proofs.JoinSteps.{drop_first}

-- what is gathered of a run and bits is gathered of the run with the first bit, if it goes on with it
pub longer_step : (pool : List Content) (run next : Run) (bits : List Bit) (i : ℕ) → i < length bits
    → continues (run_of pool run) (bit_of pool (get_or bits i Clear)) ≡ true → run_of pool next ≡ longer (run_of pool run)
    → gather_from (run_of pool next) (bits_of pool (drop (i + 1) bits)) ≡ gather_from (run_of pool run) (bits_of pool (drop i bits))
longer_step pool run next bits i h c e =
    ap (λ r. gather_from r (bits_of pool (drop (i + 1) bits))) e
    ∙ sym (cond-true _ _ _ c)
    ∙ ap (λ l. gather_from (run_of pool run) (bits_of pool l)) (sym (drop_first Clear i bits h))

-- the same of the first bit
pub longer_first : (pool : List Content) (run next : Run) (bits : List Bit) → 0 < length bits
    → continues (run_of pool run) (bit_of pool (get_or bits 0 Clear)) ≡ true → run_of pool next ≡ longer (run_of pool run)
    → gather_from (run_of pool next) (bits_of pool (drop 1 bits)) ≡ gather_from (run_of pool run) (bits_of pool bits)
longer_first pool run next bits h c e = longer_step pool run next bits 0 h c e
