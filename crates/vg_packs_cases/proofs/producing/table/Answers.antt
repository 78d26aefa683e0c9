use Rattle.std.proofs.Common.{◌≡◌, ℕ, ◌∙◌, true, [], sym, subst, refl}
use Rattle.std.specs.Prelude.{◌&&◌, ◌||◌, nat_eq, nat_lt}
use Rattle.vg_kernel_plans.specs.Taken.{AreNear, MatchesNear}
use Rattle.vg_shapes.specs.declared.match_table.Match.{Match}
use Rattle.vg_shapes.specs.MatchTable.{IsTable, stands_before}
use Rattle.vg_packs_cases.proofs.producing.table.Goals as goal

record At (d l v : ℕ) (m : Match) : Type 0 where
  description : m.description ≡ d
  lane : m.lane ≡ l
  value : m.value ≡ v

before : (m n : Match) (d l v e k w : ℕ) → At d l v m → At e k w n
    → (nat_lt v w || (nat_eq v w && (nat_lt d e || (nat_eq d e && nat_lt l k)))) ≡ true
    → stands_before n.description n.lane n.value m ≡ true
before m n d l v e k w a b t = rw (a.description, a.lane, a.value, b.description, b.lane, b.value) t

near : (m : Match) → m.bound ≡ [] → AreNear m.bound
near m e = subst AreNear (sym e) tt

pub from_vec-requires : goal.from_vec-requires
from_vec-requires c =
    let a : At 0 0 2 c.matched.result = record { description = c.matched.ensures.description; lane = c.matched.ensures.lane; value = c.matched.ensures.value } in
    let b : At 2 0 2 c.matched-2.result = record { description = c.matched-2.ensures.description; lane = c.matched-2.ensures.lane; value = c.matched-2.ensures.value } in
    let d : At 0 1 6 c.matched-3.result = record { description = c.matched-3.ensures.description; lane = c.matched-3.ensures.lane; value = c.matched-3.ensures.value } in
    let e : At 2 1 6 c.matched-4.result = record { description = c.matched-4.ensures.description; lane = c.matched-4.ensures.lane; value = c.matched-4.ensures.value } in
    subst IsTable (sym c.in_ok-matches.ensures.items) (
      (before _ _ _ _ _ _ _ _ a b refl, (before _ _ _ _ _ _ _ _ a d refl, (before _ _ _ _ _ _ _ _ a e refl, tt))),
      (
        (before _ _ _ _ _ _ _ _ b d refl, (before _ _ _ _ _ _ _ _ b e refl, tt)),
        ((before _ _ _ _ _ _ _ _ d e refl, tt), (tt, tt)),
      ),
    )

pub returns : goal.returns
returns c = record {
  near =
      subst MatchesNear (sym (c.from_vec.ensures ∙ c.in_ok-matches.ensures.items)) (
        near c.matched.result c.matched.ensures.bound,
        (
          near c.matched-2.result c.matched-2.ensures.bound,
          (near c.matched-3.result c.matched-3.ensures.bound, (near c.matched-4.result c.matched-4.ensures.bound, tt)),
        ),
      );
}
