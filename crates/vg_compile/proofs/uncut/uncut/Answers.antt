use Rattle.std.proofs.Common.{rules}
use Rattle.vg_compile.proofs.WithoutCuts.{uncut-sound}
use Rattle.vg_compile.proofs.uncut.uncut.Goals as goal

pub returns-clause-sound : goal.returns-clause-sound
returns-clause-sound c =
    uncut-sound c.args.ssa.now
    (record { name = c.in_ok-name.name; params = c.from_vec.result; units = c.from_vec-2.result; terms = c.from_vec-3.result; cuts = c.from_vec-4.result })
    (search rules) c.requires
