-- An accepted instance that is not dynamic has a static script.
use Rattle.std.proofs.Common.{◌≡◌, ℕ, Bool, true, false, sym, ap, ◌∙◌, subst, List, []}
use Rattle.std.specs.Prelude.{Option, Result, Ok}
use Rattle.vg_base.proofs.Bind.{bind_ok}
use Rattle.vg_pseudo.specs.Resolved.{Resolved}
use Rattle.vg_pseudo.specs.Resolve.{resolve}
use Rattle.vg_script.specs.Views.{Whole}
use Rattle.vg_interval.specs.declared.fault.RangeFault.{RangeFault}
use Rattle.vg_range.specs.Acceptance.{named}
use Rattle.vg_range.specs.Unrolled.{unrolled, whole_from}
use Rattle.vg_range.specs.Walk.{WalkState, walk, walks_from, context_of, imm_constant, begun, instance_at}
use Rattle.vg_range_laws.specs.Static.{IsStatic}
use Rattle.vg_range_laws.specs.StaticInstances.{InstancesAreStatic}
use Rattle.vg_range_laws.proofs.Settled.{Settled}
use Rattle.vg_range_laws.proofs.Statements.{StateStatic, met, walk-settled, walks-settled, no_calls}

instance-settled : (r : Resolved) (imm : Option ℕ) → Settled met StateStatic false (instance_at true r imm)
instance-settled r imm =
    let walks = walks_from true [] r.functions in
    let x = context_of true walks r.body.widths (imm_constant r.result imm r.body.widths) in
    walk-settled x (walks-settled true [] r.functions no_calls) r.body.code (begun r.body (record { steps = 0; is_dynamic = false })) (λ e. tt)

abbrev accepted : Whole → Result Whole RangeFault
accepted i = Ok i

same_whole : {a b : Whole} → accepted a ≡ accepted b → a ≡ b
same_whole e = cc

pub instances-are-static : InstancesAreStatic
instances-are-static h o imm i e flag =
    let p = bind_ok (named (resolve h o)) _ e in
    let q = bind_ok (instance_at true p.0 imm) _ p.2 in
    let same : whole_from p.0 q.0 ≡ i = same_whole q.2 in
    let settled : Settled met StateStatic false (Ok q.0) = subst (Settled met StateStatic false) q.1 (instance-settled p.0 imm) in
    let found = settled (ap (λ (w : Whole). w.is_dynamic) same ∙ flag) in
    subst (λ (w : Whole). IsStatic w.script) same found.1
