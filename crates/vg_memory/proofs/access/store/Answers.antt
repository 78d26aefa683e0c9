use Rattle.std.proofs.Common.{◌≡◌, length, None, rules}
use Rattle.vg_memory.specs.Access.{index_of}
use Rattle.vg_memory.proofs.AccessLaws.{stored-none}
use Rattle.vg_memory.proofs.access.store.Goals as goal

pub returns-in-None-clause-outcome : goal.returns-in-None-clause-outcome
returns-in-None-clause-outcome c =
    let size = c.args.size in
    let outside : index_of (length c.args.memory.now) c.args.address size ≡ None = search rules in
    stored-none c.args.memory.now c.args.address size c.args.number outside
