use Rattle.vg_verify.proofs.unit_reads.+push_numbers.Given as goal

abbrev pub decreases-push_numbers : goal.decreases-push_numbers
decreases-push_numbers l = l.count
