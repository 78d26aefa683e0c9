use Rattle.std.proofs.Common.{List, subst}
use Rattle.std.specs.Prelude.{IfSome}
use Rattle.vg_catalog.specs.Catalogs.{entries_in}
use Rattle.vg_catalog.specs.Entries.{Entry}
use Rattle.vg_verify.specs.Instances.{Answers}
use Rattle.vg_verify.proofs.Calling.{found_answers, if_found, same_key}
use Rattle.vg_verify.proofs.called.Called.lanes.Goals as goal

pub returns-in-Some : goal.returns-in-Some
returns-in-Some c =
    let es = entries_in c.self.inside.catalog.now in
    subst (λ (xs : List Entry). IfSome c.get.result (λ l. Answers xs c.args.name.now c.args.imm l.now)) c.self.view_is
    (if_found (λ l. l.now) (λ l. Answers es c.args.name.now c.args.imm l) c.get.result _ c.get.ensures.value
    (λ l e. found_answers es c.args.name.now c.args.imm c.in-Some.entry c.imm_number-imm.result c.self.inside.instances.entries _ l c.in-Some.ensures.place c.imm_number-imm.ensures c.self.invariant
    (λ d t. same_key (record { entry = c.in-Some.entry; imm = c.imm_number-imm.result }) d t) e))
