use Rattle.vg_verify.specs.Views.{given_of, known_of}
use Rattle.vg_verify.proofs.Calling.{called_is}
use Rattle.vg_verify.proofs.known.Knowing.call.Goals as goal

pub returns-in_ok-push_terms-in-Some : goal.returns-in_ok-push_terms-in-Some
returns-in_ok-push_terms-in-Some c =
    called_is (given_of c.args.given) (known_of c.args.self.now) (known_of c.lane_terms.new.self) (known_of c.push_terms.new.self) c.args.name.now c.args.imm c.args.registers.now c.in-Some.lanes.now
    c.deref.result.now c.in_ok-terms-in-Some.terms.items c.deref-in-Some.result.now c.in-Some.ensures c.deref.ensures.value c.in_ok-terms-in-Some.ensures.terms c.in_ok-terms-in-Some.ensures.same c.deref-in-Some.ensures.value
    c.in_ok-push_terms-in-Some.ensures
