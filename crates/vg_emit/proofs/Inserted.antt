-- The lines that put values into a register.
use Rattle.std.proofs.Common.{◌≡◌, ℕ, suc, ◌+◌, List, [], ◌∷◌, length, refl, sym, ap, ◌∙◌, arith}
use Rattle.std.specs.Prelude.{◌/◌, filter}
use Rattle.vg_base.specs.Bits.{bytes}
use Rattle.vg_program.specs.declared.line.Line.{Line}
use Rattle.vg_program.specs.declared.line.Line.TheVariants as line
use Rattle.vg_shapes.specs.declared.operand.Operand.{Operand}
use Rattle.vg_shapes.specs.declared.operand.Slot.{Slot}
use Rattle.vg_shapes.specs.declared.wanted.Wanted.{Wanted}
use Rattle.vg_shapes.specs.declared.wanted.Wanted.TheVariants.{Value, Constant, Nothing}
use Rattle.vg_kernel_plans.specs.declared.recipe.Recipe.TheVariants as recipe
use Rattle.vg_kernel_plans.specs.Wants.{slot, wants_value}
use Rattle.vg_emission.specs.Draft.{Draft, with_built, with_vectors}
use Rattle.vg_emission.specs.Emission.{constant_bytes, inserts, Job, number_for, operand_at, place, Placed, value_slots, width_for}
use Rattle.vg_emit.specs.Placing.{put_in, put_inserts}

abbrev valued : List Slot → List Slot
valued ss = filter (λ s. wants_value s.wanted) ss

-- so many registers after a draft, of which the last is a register of constants or the line before
abbrev all_in : Job → Draft → ℕ → ℕ → List Slot → Placed
all_in j d n bits ss = record {
  lines = inserts j d bits (d.vectors + n) (valued ss);
  draft = with_vectors d (n + 1 + length (valued ss));
  register = d.vectors + n + length (valued ss);
}

abbrev IsIn : Job → Draft → ℕ → List Slot → Type 0
IsIn j d bits ss = (n : ℕ) → put_in j (with_vectors d (n + 1)) bits (d.vectors + n) ss ≡ all_in j d n bits ss

-- registers are counted in one way
moved : (j : Job) (d : Draft) (bits n m r : ℕ) (ss : List Slot) → m ≡ n + 1 → r ≡ d.vectors + (n + 1) → put_in j (with_vectors (with_vectors d (n + 1)) 1) bits r ss ≡ put_in j (with_vectors d (m + 1)) bits (d.vectors + m) ss
moved j d bits n m r ss e f =
    let count : d.vectors + (n + 1) + 1 ≡ d.vectors + (m + 1) = omega (arith, e) in
    let last : r ≡ d.vectors + m = omega (arith, e, f) in
    λ i. put_in j (record { scalars = d.scalars; vectors = count i; names = d.names; held = d.held; built = d.built }) bits (last i) ss

first-in : (j : Job) (d : Draft) (bits low width : ℕ) (w : Wanted) (ss : List Slot) → IsIn j d bits ss → IsIn j d bits (slot low width w ∷ ss)
first-in j d bits low width (Value v) ss rest n =
    let whole = moved j d bits n (n + 1) (d.vectors + (n + 1)) ss refl refl ∙ rest (n + 1) in
    let count : n + 1 + 1 + length (valued ss) ≡ n + 1 + suc (length (valued ss)) = omega arith in
    let last : d.vectors + (n + 1) + length (valued ss) ≡ d.vectors + n + suc (length (valued ss)) = omega arith in
    let next : d.vectors + (n + 1) ≡ d.vectors + n + 1 = omega arith in
    let own : Line = line.Insert (d.vectors + n) bits (low / width) (width_for width) (number_for j d (Value v)) in
    let before : Placed → Placed = λ p. record { lines = own ∷ p.lines; draft = p.draft; register = p.register } in
    ap before whole
    ∙ (λ i. record { lines = own ∷ inserts j d bits (next i) (valued ss); draft = with_vectors d (count i); register = last i })
first-in j d bits low width (Constant m k) ss rest n = rest n
first-in j d bits low width Nothing ss rest n = rest n

slots-in : (j : Job) (d : Draft) (bits : ℕ) (ss : List Slot) → IsIn j d bits ss
slots-in j d bits [] n =
    let count : n + 1 ≡ n + 1 + 0 = omega arith in
    let last : d.vectors + n ≡ d.vectors + n + 0 = omega arith in
    λ i. record { lines = []; draft = with_vectors d (count i); register = last i }
slots-in j d bits (s ∷ ss) n = first-in j d bits s.low s.width s.wanted ss (slots-in j d bits ss) n

own-in : (j : Job) (d : Draft) (own : Operand) → put_in j (with_vectors d 1) own.register d.vectors own.slots
    ≡ record {
      lines = inserts j d own.register d.vectors (value_slots own);
      draft = with_vectors (with_vectors d 1) (length (value_slots own));
      register = d.vectors + length (value_slots own);
    }
own-in j d own =
    let k = length (value_slots own) in
    let first : d.vectors ≡ d.vectors + 0 = omega arith in
    let count : d.vectors + (0 + 1 + k) ≡ d.vectors + 1 + k = omega arith in
    let last : d.vectors + 0 + k ≡ d.vectors + k = omega arith in
    ap (λ r. put_in j (with_vectors d 1) own.register r own.slots) first
    ∙ slots-in j d own.register own.slots 0
    ∙ (λ i. record {
      lines = inserts j d own.register (sym first i) (value_slots own);
      draft = record { scalars = d.scalars; vectors = count i; names = d.names; held = d.held; built = d.built };
      register = last i;
    })

pub inserts-placed : (j : Job) (d : Draft) (o : ℕ) (own : Operand) → own ≡ operand_at j o → put_inserts j d o own ≡ place j d o recipe.Inserts
inserts-placed j d o own e =
    ap (λ (p : Placed). record {
      lines = line.Constant (constant_bytes own) ∷ p.lines;
      draft = with_built p.draft o p.register;
      register = p.register;
    }) (own-in j d own)
    ∙ ap (λ (x : Operand). record {
      lines = line.Constant (constant_bytes x) ∷ inserts j d x.register d.vectors (value_slots x);
      draft = with_built (with_vectors (with_vectors d 1) (length (value_slots x))) o (d.vectors + length (value_slots x));
      register = d.vectors + length (value_slots x);
    }) e

-- an operand that is not there is a register of no bits
pub none-placed : (j : Job) (d : Draft) (o : ℕ) (bs : List ℕ) → bs ≡ [] → record { register = 0; slots = [] } ≡ operand_at j o
    → record {
      lines = line.Constant bs ∷ [];
      draft = with_built (with_vectors d 1) o d.vectors;
      register = d.vectors;
    } ≡ place j d o recipe.Inserts
unfolding bytes
none-placed j d o bs e is =
    ap (λ cs. record {
      lines = line.Constant cs ∷ [];
      draft = with_built (with_vectors d 1) o d.vectors;
      register = d.vectors;
    }) e
    ∙ inserts-placed j d o (record { register = 0; slots = [] }) is
