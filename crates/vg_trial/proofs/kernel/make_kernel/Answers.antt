use Rattle.vg_trial.proofs.Accepted.{kernel_text-accepted}
use Rattle.vg_trial.proofs.kernel.make_kernel.Goals as goal

pub returns-in_err-extend_from_slice-clause-accepted : goal.returns-in_err-extend_from_slice-clause-accepted
returns-in_err-extend_from_slice-clause-accepted c = kernel_text-accepted c.args.number

pub returns-in_err-put_groups-clause-accepted : goal.returns-in_err-put_groups-clause-accepted
returns-in_err-put_groups-clause-accepted c = kernel_text-accepted c.args.number

pub returns-in_err-extend_from_slice-2-clause-accepted : goal.returns-in_err-extend_from_slice-2-clause-accepted
returns-in_err-extend_from_slice-2-clause-accepted c = kernel_text-accepted c.args.number

pub returns-clause-accepted : goal.returns-clause-accepted
returns-clause-accepted c = kernel_text-accepted c.args.number
