-- What is found, as a difference.
use Rattle.vg_known.specs.Difference.{Difference, access, order}
use Rattle.vg_paired.specs.declared.turned.Turned.{Turned}
use Rattle.vg_paired.specs.declared.uneven.Uneven.{Uneven}
use Rattle.vg_paired.specs.ByteLabels.{label_of}

abbrev pub access_of : Uneven → Difference
access_of u = access (label_of u.label) u.in_kernel u.in_program

abbrev pub order_of : Turned → Difference
order_of t = order t.first t.second
