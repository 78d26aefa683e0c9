use Rattle.std.proofs.Common.{◌≡◌, [], IfOk, subst, rules}
use Rattle.vg_emission.specs.Emission.{operand_at}
use Rattle.vg_emit.specs.Views.{job_of, known, made_of, placed_behind, placed_of}
use Rattle.vg_emit.proofs.Inserted.{inserts-placed, none-placed}
use Rattle.vg_emit.proofs.placing.put_inserts_at.Goals as goal

pub returns-in-Some : goal.returns-in-Some
returns-in-Some c =
    let is : c.in-Some.operand.now ≡ operand_at (job_of c.args.job.now) c.args.number = search rules in
    subst (λ p. IfOk c.put_inserts.result (λ r. placed_of c.put_inserts.new.draft r ≡ placed_behind (made_of c.args.draft.now) p))
    (inserts-placed (job_of c.args.job.now) (known c.args.draft.now) c.args.number c.in-Some.operand.now is)
    c.put_inserts.ensures

pub returns-in_ok-bytes-in-None : goal.returns-in_ok-bytes-in-None
returns-in_ok-bytes-in-None c =
    let is : record { register = 0; slots = [] } ≡ operand_at (job_of c.args.job.now) c.args.number = search rules in
    subst (λ p. IfOk c.put_placed.result (λ r. placed_of c.put_placed.new.draft r ≡ placed_behind (made_of c.args.draft.now) p))
    (none-placed (job_of c.args.job.now) (known c.args.draft.now) c.args.number c.in_ok-bytes-in-None.bytes c.in_ok-bytes-in-None.ensures is)
    c.put_placed.ensures
