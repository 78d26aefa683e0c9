use Rattle.std.proofs.Common.{arith, ◌+◌, ◌*◌, ◌∙◌, ap}
use Rattle.vg_terms.specs.declared.term.TwoOp.TheVariants.{Or, Xor, Cat}
use Rattle.vg_terms.proofs.value.value_of_two.Goals as goal
use Rattle.vg_terms.proofs.Values.{two-below_at, cat-whole}
use Rattle.vg_base.proofs.LowBits.{low-low, pow-le}

pub overflow_add-result : goal.overflow_add-result
overflow_add-result c =
    let whole = cat-whole c.args.op c.args.width c.args.first_width c.args.second_width c.args.first c.in-Cat.is c.requires.width.1 c.requires.fits c.requires.first_number in
    let below = two-below_at c.args.op Cat c.args.width c.args.first_width c.args.second_width c.args.first c.args.second c.in-Cat.is c.requires.fits c.requires.first_number c.requires.second_number in
    omega (arith, whole, below, pow-le c.args.width 128 c.requires.width.1)

pub returns-in-Add-clause-is : goal.returns-in-Add-clause-is
returns-in-Add-clause-is c = rw c.in-Add.is (c.low_bits.ensures.is ∙ low-low (c.args.first + c.args.second) 128 c.args.width c.requires.width.1)

pub returns-in-Mul-clause-is : goal.returns-in-Mul-clause-is
returns-in-Mul-clause-is c = rw c.in-Mul.is (c.low_bits-in-Mul.ensures.is ∙ low-low (c.args.first * c.args.second) 128 c.args.width c.requires.width.1)

pub returns-in-Or-clause-below : goal.returns-in-Or-clause-below
returns-in-Or-clause-below c =
    two-below_at c.args.op Or c.args.width c.args.first_width c.args.second_width c.args.first c.args.second c.in-Or.is c.requires.fits c.requires.first_number c.requires.second_number

pub returns-in-Xor-clause-below : goal.returns-in-Xor-clause-below
returns-in-Xor-clause-below c =
    two-below_at c.args.op Xor c.args.width c.args.first_width c.args.second_width c.args.first c.args.second c.in-Xor.is c.requires.fits c.requires.first_number c.requires.second_number

pub returns-in-Cat-clause-is : goal.returns-in-Cat-clause-is
returns-in-Cat-clause-is c =
    let whole = cat-whole c.args.op c.args.width c.args.first_width c.args.second_width c.args.first c.in-Cat.is c.requires.width.1 c.requires.fits c.requires.first_number in
    rw c.in-Cat.is (ap (λ v. v + c.args.second) whole)

pub returns-in-Cat-clause-below : goal.returns-in-Cat-clause-below
returns-in-Cat-clause-below c =
    let whole = cat-whole c.args.op c.args.width c.args.first_width c.args.second_width c.args.first c.in-Cat.is c.requires.width.1 c.requires.fits c.requires.first_number in
    let below = two-below_at c.args.op Cat c.args.width c.args.first_width c.args.second_width c.args.first c.args.second c.in-Cat.is c.requires.fits c.requires.first_number c.requires.second_number in
    omega (arith, whole, below)
