use Rattle.std.proofs.Common.{◌≡◌, OnOk, ap, subst}
use Rattle.vg_rewrite.specs.Making.{narrowing}
use Rattle.vg_rewrite.proofs.OperationForms.{compares, forms-made}
use Rattle.vg_rewrite.proofs.narrowing.Narrowing.make_operation.Goals as goal

pub returns-in-Two-clause-is : goal.returns-in-Two-clause-is
returns-in-Two-clause-is c =
    subst (λ h. OnOk c.make_forms.result (narrowing c.make_forms.new.self ≡ h))
    (forms-made c.args.spans.now c.args.all.now c.args.value c.args.op c.args.width c.args.amount c.args.xs (narrowing c.args.self.now) (ap compares c.in-Two.is))
    c.make_forms.ensures.is

pub returns-in-Shift-clause-is : goal.returns-in-Shift-clause-is
returns-in-Shift-clause-is c =
    subst (λ h. OnOk c.make_forms-in-Shift.result (narrowing c.make_forms-in-Shift.new.self ≡ h))
    (forms-made c.args.spans.now c.args.all.now c.args.value c.args.op c.args.width c.args.amount c.args.xs (narrowing c.args.self.now) (ap compares c.in-Shift.is))
    c.make_forms-in-Shift.ensures.is

pub returns-in-Resize-clause-is : goal.returns-in-Resize-clause-is
returns-in-Resize-clause-is c =
    subst (λ h. OnOk c.make_forms-in-Resize.result (narrowing c.make_forms-in-Resize.new.self ≡ h))
    (forms-made c.args.spans.now c.args.all.now c.args.value c.args.op c.args.width c.args.amount c.args.xs (narrowing c.args.self.now) (ap compares c.in-Resize.is))
    c.make_forms-in-Resize.ensures.is

pub returns-in-Select-clause-is : goal.returns-in-Select-clause-is
returns-in-Select-clause-is c =
    subst (λ h. OnOk c.make_forms-in-Select.result (narrowing c.make_forms-in-Select.new.self ≡ h))
    (forms-made c.args.spans.now c.args.all.now c.args.value c.args.op c.args.width c.args.amount c.args.xs (narrowing c.args.self.now) (ap compares c.in-Select.is))
    c.make_forms-in-Select.ensures.is
