-- What each function says holds of whatever spot the first expression has, and so of the one that it has.
use Rattle.std.proofs.Common.{◌≡◌, subst}
use Rattle.vg_pseudo.specs.Same.{same}
use Rattle.vg_pseudo.specs.Tree.{expression_of, arguments_of}
use Rattle.vg_pseudo.specs.Tree as tree
use Rattle.vg_names.proofs.same.+same.Goals as goal

pub same-returns-in-Number : goal.same-returns-in-Number
same-returns-in-Number t c = rw c.in-Number.is (c.is_number.ensures c.in-Number.spot)

pub same-returns-in-Name : goal.same-returns-in-Name
same-returns-in-Name t c =
    let second = expression_of c.args.second.now in
    rw c.in-Name.is (subst (λ x. c.is_name.result ≡ same (tree.name c.in-Name.spot x) second) c.bytes.ensures
    (c.is_name.ensures c.in-Name.spot))

pub same-returns-in-Slice : goal.same-returns-in-Slice
same-returns-in-Slice t c =
    let second = expression_of c.args.second.now in
    rw c.in-Slice.is (subst (λ x. c.is_slice.result ≡ same (tree.slice c.in-Slice.spot c.in-Slice.name (expression_of c.in-Slice.high.value) (expression_of x)) second) c.deref-in-Slice.ensures
    (subst (λ x. c.is_slice.result ≡ same (tree.slice c.in-Slice.spot c.in-Slice.name (expression_of x) (expression_of c.deref-in-Slice.result.now)) second) c.deref.ensures
    (subst (λ x. c.is_slice.result ≡ same (tree.slice c.in-Slice.spot x (expression_of c.deref.result.now) (expression_of c.deref-in-Slice.result.now)) second) c.bytes-in-Slice.ensures
    (c.is_slice.ensures c.in-Slice.spot))))

pub same-returns-in-Bit : goal.same-returns-in-Bit
same-returns-in-Bit t c =
    let second = expression_of c.args.second.now in
    rw c.in-Bit.is (subst (λ x. c.is_bit.result ≡ same (tree.bit c.in-Bit.spot c.in-Bit.name (expression_of x)) second) c.deref-in-Bit.ensures
    (subst (λ x. c.is_bit.result ≡ same (tree.bit c.in-Bit.spot x (expression_of c.deref-in-Bit.result.now)) second) c.bytes-in-Bit.ensures
    (c.is_bit.ensures c.in-Bit.spot)))

pub same-returns-in-Element : goal.same-returns-in-Element
same-returns-in-Element t c =
    let second = expression_of c.args.second.now in
    rw c.in-Element.is (subst (λ x. c.is_element.result ≡ same (tree.element c.in-Element.spot c.in-Element.name c.in-Element.size (expression_of x)) second) c.deref-in-Element.ensures
    (subst (λ x. c.is_element.result ≡ same (tree.element c.in-Element.spot x c.in-Element.size (expression_of c.deref-in-Element.result.now)) second) c.bytes-in-Element.ensures
    (c.is_element.ensures c.in-Element.spot)))

pub same-returns-in-Part : goal.same-returns-in-Part
same-returns-in-Part t c =
    let second = expression_of c.args.second.now in
    rw c.in-Part.is (subst (λ x. c.is_part.result ≡ same (tree.part c.in-Part.spot x c.in-Part.size) second) c.bytes-in-Part.ensures
    (c.is_part.ensures c.in-Part.spot))

pub same-returns-in-Unary : goal.same-returns-in-Unary
same-returns-in-Unary t c =
    let second = expression_of c.args.second.now in
    rw c.in-Unary.is (subst (λ x. c.is_unary.result ≡ same (tree.unary c.in-Unary.spot c.in-Unary.op (expression_of x)) second) c.deref-in-Unary.ensures
    (c.is_unary.ensures c.in-Unary.spot))

pub same-returns-in-Binary : goal.same-returns-in-Binary
same-returns-in-Binary t c =
    let second = expression_of c.args.second.now in
    rw c.in-Binary.is (subst (λ x. c.is_binary.result ≡ same (tree.binary c.in-Binary.spot c.in-Binary.op (expression_of c.in-Binary.left.value) (expression_of x)) second) c.deref-in-Binary-2.ensures
    (subst (λ x. c.is_binary.result ≡ same (tree.binary c.in-Binary.spot c.in-Binary.op (expression_of x) (expression_of c.deref-in-Binary-2.result.now)) second) c.deref-in-Binary.ensures
    (c.is_binary.ensures c.in-Binary.spot)))

pub same-returns-in-Choice : goal.same-returns-in-Choice
same-returns-in-Choice t c =
    let second = expression_of c.args.second.now in
    rw c.in-Choice.is (subst (λ x. c.is_choice.result ≡ same (tree.choice c.in-Choice.spot (expression_of c.in-Choice.condition.value) (expression_of c.in-Choice.x.value) (expression_of x)) second) c.deref-in-Choice-3.ensures
    (subst (λ x. c.is_choice.result ≡ same (tree.choice c.in-Choice.spot (expression_of c.in-Choice.condition.value) (expression_of x) (expression_of c.deref-in-Choice-3.result.now)) second) c.deref-in-Choice-2.ensures
    (subst (λ x. c.is_choice.result ≡ same (tree.choice c.in-Choice.spot (expression_of x) (expression_of c.deref-in-Choice-2.result.now) (expression_of c.deref-in-Choice-3.result.now)) second) c.deref-in-Choice.ensures
    (c.is_choice.ensures c.in-Choice.spot))))

pub same-returns-in-Call : goal.same-returns-in-Call
same-returns-in-Call t c =
    let second = expression_of c.args.second.now in
    rw c.in-Call.is (subst (λ x. c.is_call.result ≡ same (tree.call c.in-Call.spot x (arguments_of c.in-Call.arguments)) second) c.bytes-in-Call.ensures
    (c.is_call.ensures c.in-Call.spot))
