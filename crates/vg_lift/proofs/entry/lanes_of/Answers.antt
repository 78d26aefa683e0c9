use Rattle.std.proofs.Common.{◌/◌, subst, ap}
use Rattle.std.specs.Prelude.{Ok}
use Rattle.vg_range.specs.Checks.{header_in, operation_in}
use Rattle.vg_shapes.specs.Lane.{dynamic}
use Rattle.vg_lift.specs.Lifts.{Lifts}
use Rattle.vg_lift.specs.Lanes.{sized}
use Rattle.vg_lift.specs.LaneTerm as terms
use Rattle.vg_lift.specs.Views.{bits_of}
use Rattle.vg_lift.proofs.InstanceLanes.{lanes_fill, lanes_meant, lanes_there, no_lanes_meant}
use Rattle.vg_lift.proofs.entry.lanes_of.Goals as goal

pub returns-in-None-clause-means : goal.returns-in-None-clause-means
returns-in-None-clause-means c =
    let entry = c.args.checked.now in
    let now = c.header-header.result.now in
    no_lanes_meant (header_in entry) (operation_in entry) c.args.imm (now.register / now.lane_width) c.all_dynamic.result c.all_dynamic.ensures.is

pub returns-in-None-clause-fill : goal.returns-in-None-clause-fill
returns-in-None-clause-fill c =
    let entry = c.args.checked.now in
    let now = c.header-header.result.now in
    lanes_fill (header_in entry) (λ k. dynamic) (now.register / now.lane_width) c.all_dynamic.result c.requires.lanes
    (ap (λ g. g.register / g.lane_width) c.header-header.ensures.header) c.all_dynamic.ensures.is

pub returns-in-Some-clause-is : goal.returns-in-Some-clause-is
returns-in-Some-clause-is c =
    let entry = c.args.checked.now in
    let h = header_in entry in
    let o = operation_in entry in
    let pool = c.lift_entry.new.pool in
    let d = subst (λ x. Lifts pool h o c.args.imm (Ok x)) c.in-Some.is c.in_ok-lift_entry.ensures.lifts in
    let header = c.header-header.ensures.header in
    let now = c.header-header.result.now in
    lanes_there pool h o c.args.imm now.lane_width (now.register / now.lane_width) c.in-Some.lifted c.all_lanes.result d
    (ap (λ g. g.lane_width) header) (ap (λ g. g.register / g.lane_width) header) c.all_lanes.ensures.is

pub returns-in-Some-clause-means : goal.returns-in-Some-clause-means
returns-in-Some-clause-means c =
    let entry = c.args.checked.now in
    let h = header_in entry in
    let o = operation_in entry in
    let pool = c.lift_entry.new.pool in
    let d = subst (λ x. Lifts pool h o c.args.imm (Ok x)) c.in-Some.is c.in_ok-lift_entry.ensures.lifts in
    let header = c.header-header.ensures.header in
    let now = c.header-header.result.now in
    lanes_meant pool h o c.args.imm now.lane_width (now.register / now.lane_width) c.in-Some.lifted c.all_lanes.result d c.requires.lanes
    (ap (λ g. g.lane_width) header) (ap (λ g. g.register / g.lane_width) header) c.all_lanes.ensures.is

pub returns-in-Some-clause-fill : goal.returns-in-Some-clause-fill
returns-in-Some-clause-fill c =
    let entry = c.args.checked.now in
    let h = header_in entry in
    let header = c.header-header.ensures.header in
    let now = c.header-header.result.now in
    lanes_fill h (λ k. sized (terms.lane_of (bits_of c.lift_entry.new.pool c.in-Some.lifted.bits) now.lane_width k)) (now.register / now.lane_width) c.all_lanes.result c.requires.lanes
    (ap (λ g. g.register / g.lane_width) header) c.all_lanes.ensures.is
