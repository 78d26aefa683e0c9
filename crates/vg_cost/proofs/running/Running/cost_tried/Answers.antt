use Rattle.std.proofs.Common.{◌≡◌, ℕ, Bool, List, ◌∙◌, ◌+◌, ◌++◌, ◌∷◌, [], ap, arith, length, map, subst, sym}
use Rattle.std.specs.List.{flat_map, sum_by}
use Rattle.std.proofs.lemmas.List.{with_items_is}
use Rattle.vg_shapes.specs.Description.{description_of}
use Rattle.vg_shapes.specs.Pack.{units_of}
use Rattle.vg_shapes.specs.Units.{arguments}
use Rattle.std.specs.Vec.{with_items}
use Rattle.vg_cost.specs.Marks.{Has, Marked}
use Rattle.vg_cost.specs.Moves.{Moves}
use Rattle.vg_cost.specs.declared.change.Change.{Change}
use Rattle.vg_cost.specs.Needs.{AreNeeds, AreNeedsFor}
use Rattle.vg_cost.specs.Running.{taken_by}
use Rattle.vg_cost.specs.Taken.{inserted_for}
use Rattle.vg_cost.specs.Touch.{MarkUnits}
use Rattle.vg_cost.proofs.Growing.{costs-counted}
use Rattle.vg_cost.proofs.Moving.{copied_moves}
use Rattle.vg_cost.proofs.NeedsLaw.{needs-for}
use Rattle.vg_cost.proofs.Settled.{begins-tried, stands-tried}
use Rattle.vg_cost.proofs.MarkTests.{marked_longer, own_count}
use Rattle.vg_cost.proofs.running.Running.cost_tried.Goals as goal

tried-long : (counts : List ℕ) (changed : List Bool) (before : List ℕ) (own : List Bool) {n : ℕ} → counts ≡ before → changed ≡ own
    → length own ≡ n → length before ≡ n → length changed ≡ length counts
tried-long counts changed before own e f k l = ap length f ∙ k ∙ sym (ap length e ∙ l)

pub recipes_with-requires : goal.recipes_with-requires
recipes_with-requires c =
    let ssa = c.args.ssa.now in
    let p = c.args.pack.now in
    let plan = c.args.self.now.packs.items in
    let same = sym c.as_slice-packs.ensures.value in
    record {
      long = tried-long c.as_mut_slice-counts.result.now c.as_mut_slice-changed.result.now _ _
          (c.as_mut_slice-counts.ensures.value ∙ c.count.ensures.counts ∙ c.as_slice-before.ensures.value) (c.as_mut_slice-changed.ensures.value ∙ c.count.ensures.changed)
          (c.enter.ensures.own.long ∙ c.requires.tried.own) ((c.requires.stands.needs c.args.plan.now c.requires.marks).long ∙ c.requires.marks.long);
      operands = c.requires.operands;
      stands = c.requires.stands;
      packs = c.as_slice-packs.ensures.value;
      plan = record {
        shuffles = c.requires.stands.shuffles;
        marks = subst (λ q. MarkUnits (q ++ p ∷ []) c.as_slice-marks.result.now) same
            (subst (MarkUnits (plan ++ p ∷ [])) (sym (c.as_slice-marks.ensures.value ∙ ap (λ v. v.items) c.count.ensures.longer))
            (own_count _ _ _ (marked_longer (arguments ssa + length ssa.units) plan p _ _ c.requires.marks c.enter.ensures.longer)));
        own = subst (λ l. Has (length l) (units_of p) l) (sym (c.as_slice-own.ensures.value ∙ ap (λ v. v.items) c.count.ensures.own))
            (own_count _ _ _ c.enter.ensures.own);
      };
    }

pub settle-requires : goal.settle-requires
settle-requires c =
    let ssa = c.args.ssa.now in
    let p = c.args.pack.now in
    let needs = c.requires.stands.needs c.args.plan.now c.requires.marks in
    let counted = subst (λ l. AreNeeds ssa c.args.plan.now (flat_map inserted_for c.args.self.now.taken.items) l c.args.self.now.needs.lines)
    (sym c.as_slice-before.ensures.value) needs in
    let longer : Marked (units_of p) c.args.plan.now c.as_slice-marks.result.now =
    subst (Marked (units_of p) c.args.plan.now) (sym c.as_slice-marks.ensures.value)
    (subst (λ l. Marked (units_of p) c.args.plan.now l.items) (sym c.count.ensures.longer) c.enter.ensures.longer) in
    let own : length c.enter.new.self.own.items ≡ length c.as_slice-marks.result.now =
    c.enter.ensures.own.long ∙ c.requires.tried.own ∙ sym (longer.long ∙ c.requires.marks.long) in
    let moves = copied_moves (flat_map inserted_for c.args.self.now.taken.items) _ _ _ _ _ c.as_slice-before.result.now c.enter.new.self.own.items
    (c.as_mut_slice-counts.ensures.value ∙ c.count.ensures.counts) (c.as_mut_slice-changed.ensures.value ∙ c.count.ensures.changed)
    c.in_ok-recipes.ensures.counts in
    let change : Change = record {
      ssa = c.args.ssa;
      first = c.arguments-first.result;
      packed = c.args.plan;
      counts = c.as_slice-before.result;
      longer = c.as_slice-marks.result;
    } in
    record {
      first = c.arguments-first.ensures;
      fits = record {
        packed = sym longer.long;
        before = counted.long ∙ sym longer.long;
        counted = moves.long ∙ counted.long ∙ sym longer.long;
        marked = moves.marks ∙ own;
      };
      stands = stands-tried change p (flat_map inserted_for c.args.self.now.taken.items) _ _ c.enter.new.self.own.items _ c.args.self.now.needs.lines
          (sym longer.long) counted moves longer (subst (λ n. Has n (units_of p) c.enter.new.self.own.items) (sym c.enter.ensures.own.long ∙ own) c.enter.ensures.own);
    }

pub returns : goal.returns
returns c =
    let ds = map description_of c.args.descriptions.now in
    let matches = c.args.table.now in
    let ssa = c.args.ssa.now in
    let p = c.args.pack.now in
    let plan = c.args.self.now.packs.items in
    let same = c.as_slice-packs.ensures.value in
    let end = arguments ssa + length ssa.units in
    let gone = flat_map inserted_for c.args.self.now.taken.items in
    let come = flat_map inserted_for (taken_by ds matches ssa (plan ++ p ∷ [])) in
    let needs = c.requires.stands.needs c.args.plan.now c.requires.marks in
    let counted = subst (λ l. AreNeeds ssa c.args.plan.now gone l c.args.self.now.needs.lines) (sym c.as_slice-before.ensures.value) needs in
    let marks = c.as_slice-marks.ensures.value ∙ ap (λ v. v.items) c.count.ensures.longer in
    let long : length c.args.plan.now ≡ length c.as_slice-marks.result.now = sym (ap length marks ∙ c.enter.ensures.longer.long) in
    let has = marked_longer end plan p _ _ c.requires.marks c.enter.ensures.longer in
    let there : Has end (flat_map units_of (plan ++ p ∷ [])) c.as_slice-marks.result.now =
    subst (Has end (flat_map units_of (plan ++ p ∷ []))) (sym marks) has in
    let moves : Moves gone come c.as_slice-before.result.now c.recipes_with.new.counts c.enter.new.self.own.items c.recipes_with.new.changed =
    subst (λ q. Moves gone (flat_map inserted_for (taken_by ds matches ssa (q ++ p ∷ []))) c.as_slice-before.result.now c.recipes_with.new.counts
    c.enter.new.self.own.items c.recipes_with.new.changed) same
    (copied_moves gone _ _ _ _ _ c.as_slice-before.result.now c.enter.new.self.own.items
    (c.as_mut_slice-counts.ensures.value ∙ c.count.ensures.counts) (c.as_mut_slice-changed.ensures.value ∙ c.count.ensures.changed)
    c.in_ok-recipes.ensures.counts) in
    let change : Change = record {
      ssa = c.args.ssa;
      first = c.arguments-first.result;
      packed = c.args.plan;
      counts = c.as_slice-before.result;
      longer = c.as_slice-marks.result;
    } in
    let is = c.in_ok-lines.ensures come (begins-tried change p gone come _ c.enter.new.self.own.items _ c.args.self.now.needs.lines long counted moves) in
    let paid = c.in_ok-price.ensures ∙ ap (λ n. c.args.self.now.price + n) c.price_of.ensures in
    let counts_long = ap length c.count.ensures.counts ∙ counted.long ∙ c.requires.marks.long in
    let new_long = is.long in
    let marks_long = there.long in
    let written = with_items_is c.count.new.self.counts c.settle.new.counts
    (omega (arith, counts_long, new_long, marks_long, c.count.new.self.counts.ok.0)) in
    record {
      tried = record {
        longer = ap (λ v. length v.items) c.count.ensures.longer ∙ c.enter.ensures.longer.long ∙ c.requires.marks.long;
        own = ap (λ v. length v.items) c.count.ensures.own ∙ c.enter.ensures.own.long ∙ c.requires.tried.own;
        counts =
            let new = (with_items c.count.new.self.counts c.settle.new.counts).ok.0 in
            let old = c.count.new.self.counts.ok.0 in
            let before = ap length c.count.ensures.counts ∙ counted.long ∙ c.requires.marks.long in
            omega (arith, new, old, before);
        changed =
            let new = (with_items c.count.new.self.changed c.settle.new.changed).ok.0 in
            let old = c.count.new.self.changed.ok.0 in
            let before = ap length c.count.ensures.changed ∙ c.enter.ensures.own.long ∙ c.requires.tried.own in
            omega (arith, new, old, before);
      };
      longer = subst (λ v. Has end (flat_map units_of (plan ++ p ∷ [])) v.items) (sym c.count.ensures.longer) has;
      own = subst (λ v. Has (length v.items) (units_of p) v.items) (sym c.count.ensures.own) (own_count _ _ _ c.enter.ensures.own);
      price = paid;
      cost = λ deps.
          costs-counted ds matches ssa deps c.args.self.now p c.as_slice-marks.result.now c.settle.new.counts c.in_ok-price.price
          c.in_ok-recipes.recipes c.in_ok-packed.packed c.in_ok-lines.lines c.in_ok-cost.cost c.requires.stands there is paid
          (c.in_ok-recipes.ensures.cost ∙ ap (λ q. sum_by (λ t. t.recipe.lines) (taken_by ds matches ssa (q ++ p ∷ []))) same)
          c.in_ok-packed.ensures c.in_ok-cost.ensures;
      needs = subst (λ l. AreNeedsFor ssa (plan ++ p ∷ []) come l c.in_ok-lines.lines) (sym written)
          (needs-for ssa (plan ++ p ∷ []) c.as_slice-marks.result.now come c.settle.new.counts c.in_ok-lines.lines there is);
    }
