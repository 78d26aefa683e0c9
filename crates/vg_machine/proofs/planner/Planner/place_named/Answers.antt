use Rattle.std.proofs.Common.{sym}
use Rattle.vg_machine.specs.Planner.{planned_of}
use Rattle.vg_machine.proofs.FirstPlaces.{place_within}
use Rattle.vg_machine.proofs.Planning.{answered_ok, sound_kept}
use Rattle.vg_machine.proofs.planner.Planner.place_named.Goals as goal

pub place-requires-clause-entry : goal.place-requires-clause-entry
place-requires-clause-entry c = place_within (planned_of c.args.self.now).entries c.args.name.now c.in-Some.entry (sym c.in-Some.ensures.place)

pub returns-clause-answered : goal.returns-clause-answered
returns-clause-answered c =
    answered_ok (planned_of c.args.self.now) (planned_of c.place.new.self) c.args.name.now c.args.imm c.in-Some.entry c.place.result c.in-Some.ensures.place c.place.ensures.placed (sound_kept c.place.new.self c.place.result c.place.ensures.sound)
