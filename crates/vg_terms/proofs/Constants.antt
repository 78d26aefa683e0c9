-- Constants beside a number: the neutral one, and those that decide the result; and a number beside itself.
use Rattle.std.proofs.Common.{◌≡◌, ℕ, ◌-◌, ◌^◌, ◌<◌, ◌≤◌, Bool, true, false, refl, ap, ◌∙◌, arith, inl, inr}
use Rattle.std.specs.Prelude.{if◌then◌else◌, bit_and, bit_or}
use Rattle.std.specs.Int.Bits.{or_add_and}
use Rattle.std.proofs.lemmas.Bool.{cases_lt, lt-ltb, le-ltb, cond-true, cond-false}
use Rattle.std.proofs.lemmas.Nat.{pow_pos, and_mask}
use Rattle.std.proofs.Math.Nat.{mod-eq_of_lt}
use Rattle.vg_terms.specs.declared.term.TwoOp.{TwoOp}
use Rattle.vg_terms.specs.declared.term.TwoOp.TheVariants.{Smin, Smax}
use Rattle.vg_terms.specs.Value.{two_value}
use Rattle.vg_terms.specs.Chain.{makes_chains, neutral}
use Rattle.vg_base.proofs.LowBits.{pow-half}
use Rattle.vg_terms.proofs.Signs.{lifted, lifted-low, lifted-high, lifted-same, signed_less}
use Rattle.vg_terms.proofs.Totals.{chain_op}

-- the neutral constant on the right
pub neutral_right : (op : TwoOp) (w a : ℕ) → 0 < w → makes_chains op ≡ true → a < 2 ^ w → two_value op w w a (neutral op w) ≡ a
neutral_right op w a h c p =
    let laws = chain_op op w h c in
    laws.comm a (neutral op w) p laws.within ∙ laws.neutral a p

pub or_ones : (w a : ℕ) → a < 2 ^ w → bit_or a (2 ^ w - 1) ≡ 2 ^ w - 1
or_ones w a p =
    let same : bit_and a (2 ^ w - 1) ≡ a = and_mask a w ∙ mod-eq_of_lt p in
    omega (arith, or_add_and a (2 ^ w - 1), same)

lifted_most : (w a : ℕ) → 0 < w → a < 2 ^ w → lifted w a < 2 ^ w
lifted_most w a h p =
    let half = pow-half w h in
    elim (cases_lt a (2 ^ (w - 1))) [ inl l ↦ omega (arith, lifted-low w a l) | inr g ↦ omega (arith, lifted-high w a g) ]

-- the least signed number is the least beside any, and the greatest the greatest
pub smin_least : (w a : ℕ) → 0 < w → a < 2 ^ w → two_value Smin w w a (2 ^ (w - 1)) ≡ 2 ^ (w - 1)
smin_least w a h p =
    let half = pow-half w h in
    let H = 2 ^ (w - 1) in
    let some = pow_pos (w - 1) in
    let inside : H < 2 ^ w = omega arith in
    let itself : H ≤ H = omega arith in
    let low : lifted w H ≤ lifted w a = omega (arith, lifted-high w H itself) in
    ap (λ t. if t then a else H) (signed_less w a H h p inside) ∙ cond-false _ _ _ (le-ltb (lifted w a) (lifted w H) low)

pub smax_greatest : (w a : ℕ) → 0 < w → a < 2 ^ w → two_value Smax w w a (2 ^ (w - 1) - 1) ≡ 2 ^ (w - 1) - 1
smax_greatest w a h p =
    let half = pow-half w h in
    let G = 2 ^ (w - 1) - 1 in
    let some = pow_pos (w - 1) in
    let inside : G < 2 ^ w = omega arith in
    let low : G < 2 ^ (w - 1) = omega arith in
    let top = lifted_most w a h p in
    ap (λ t. if t then G else a) (signed_less w a G h p inside)
    ∙ elim (cases_lt (lifted w a) (lifted w G)) [
      | inl l ↦ cond-true _ _ _ (lt-ltb (lifted w a) (lifted w G) l)
      | inr g ↦ cond-false _ _ _ (le-ltb (lifted w a) (lifted w G) g) ∙ lifted-same w a G h p inside (omega (arith, lifted-low w G low))
    ]

-- whichever of two equal numbers
pub either_same : (t : Bool) (a : ℕ) → (if t then a else a) ≡ a
either_same true a = refl
either_same false a = refl
