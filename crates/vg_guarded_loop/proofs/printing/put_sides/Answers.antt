use Rattle.vg_guarded_loop.proofs.Printed.{on_ok-map, sides-put}
use Rattle.vg_guarded_loop.proofs.printing.put_sides.Goals as goal

pub returns : goal.returns
returns c =
    on_ok-map c.put_end_line.result _ _
    (λ last. sides-put c.args.guarded.now c.as_slice.result.now c.as_slice-checks.result.now c.args.to.now.items
    c.put_checks.new.to.items c.extend_from_slice.new.self.items c.extend_from_slice-2.new.self.items c.put_body.new.to.items
    c.extend_from_slice-3.new.self.items c.extend_from_slice-4.new.self.items c.put_body-2.new.to.items c.put_end_line.new.to.items
    c.as_slice.ensures c.as_slice-checks.ensures
    c.in_ok-put_checks.ensures c.in_ok-extend_from_slice.ensures.items c.in_ok-extend_from_slice-2.ensures.items c.in_ok-put_body.ensures.done
    c.in_ok-extend_from_slice-3.ensures.items c.in_ok-extend_from_slice-4.ensures.items c.in_ok-put_body-2.ensures.done last)
    c.put_end_line.ensures
