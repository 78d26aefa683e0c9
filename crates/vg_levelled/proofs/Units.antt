-- The loads that are made once more, unit by unit.
use Rattle.std.proofs.Common.{◌≡◌, ℕ, zero, suc, ◌+◌, ◌-◌, ◌<◌, ◌≤◌, Bool, false, List, [], ◌∷◌, ◌++◌, length, map, take, drop, replicate, get_or, refl, sym, ap, subst, ◌∙◌, arith, append_assoc, append-nil, length-append}
use Rattle.std.specs.Prelude.{nat_le}
use Rattle.std.proofs.lemmas.Bool.{lt-leb}
use Rattle.std.proofs.lemmas.List.{map-append}
use Rattle.vg_shapes.specs.declared.access.Access.{Access}
use Rattle.vg_shapes.specs.declared.ssa_unit.SsaUnit.{SsaUnit}
use Rattle.vg_shapes.specs.Layout.{access_of}
use Rattle.vg_events.specs.Events.{Label, labels, labels_in, unit_labels}
use Rattle.vg_paired.specs.declared.tally.Tally.{Tally}
use Rattle.vg_paired.specs.Tallies.{Adds, Counts, count_in}
use Rattle.vg_paired.proofs.Counts.{labels-append, labels-push}
use Rattle.vg_paired.proofs.Tallying.{adds-more}
use Rattle.vg_levelled.specs.declared.sides.Sides.{Sides}
use Rattle.vg_levelled.specs.Adding.{Counted, FindsUnits, IsOnWay}
use Rattle.vg_levelled.specs.Levelled.{added_units, copies_of, counts}

-- ---- copies

pub replicate-push : (n : ℕ) (u : SsaUnit) → replicate (n + 1) u ≡ replicate n u ++ u ∷ []
replicate-push n u = (let e : n + 1 ≡ suc n = omega arith in ap (λ k. replicate k u) e) ∙ by n
  where
    by : (n : ℕ) → replicate (suc n) u ≡ replicate n u ++ u ∷ []
    by zero = refl
    by (suc n) = ap (λ l. u ∷ l) (by n)

pub units-append : (us vs : List SsaUnit) → unit_labels (us ++ vs) ≡ unit_labels us ++ unit_labels vs
units-append us vs = ap labels (map-append access_of us vs) ∙ labels-append (map access_of us) (map access_of vs)

-- one copy more
pub copies-turn : (old now new : Tally) (n : ℕ) (u : SsaUnit) → Adds old now (unit_labels (replicate n u))
    → Adds now new (labels_in (access_of u)) →
    Adds old new (unit_labels (replicate (n + 1) u))
copies-turn old now new n u before more =
    subst (Adds old new)
    (ap (λ l. unit_labels (replicate n u) ++ l) (sym (append-nil (labels_in (access_of u))))
    ∙ sym (units-append (replicate n u) (u ∷ [])) ∙ ap unit_labels (sym (replicate-push n u)))
    (adds-more old now new (unit_labels (replicate n u)) (labels_in (access_of u)) before more)

-- ---- one unit more

drop-next : (us : List SsaUnit) (i : ℕ) (u d : SsaUnit) → i < length us → u ≡ get_or us i d
    → drop i us ≡ u ∷ drop (i + 1) us
drop-next [] i u d h e = absurd (omega arith)
drop-next (x ∷ us) zero u d h e = ap (λ y. y ∷ us) (sym e)
drop-next (x ∷ us) (suc i) u d h e = (let n : suc (i + 1) ≡ suc i + 1 = omega arith in drop-next us i u d (omega arith)
    e ∙ ap (λ k. u ∷ drop k (x ∷ us)) n)

length-replicate : (n : ℕ) (u : SsaUnit) → length (replicate n u) ≡ n
length-replicate zero u = refl
length-replicate (suc n) u = ap suc (length-replicate n u)

-- what is added from a unit on
step : (old now : Sides) (us : List SsaUnit) (i : ℕ) (u d : SsaUnit) (n : ℕ) (done : List SsaUnit) (ks ps : List Label)
    → i < length us → u ≡ get_or us i d
    → n ≡ copies_of now.met.items (count_in now.kernel) (count_in now.program) u
    → Counted (ks ++ unit_labels done) ps now → now.met ≡ old.met →
    added_units old.met.items (ks ++ unit_labels done) ps (drop i us)
    ≡ replicate n u ++ added_units old.met.items ((ks ++ unit_labels done) ++ unit_labels (replicate n u)) ps
    (drop (i + 1) us)
step old now us i u d n done ks ps inside is many counted met =
    let front = ks ++ unit_labels done in
    let own : copies_of old.met.items (counts front) (counts ps) u ≡ n =
    (λ j. copies_of ((sym met j).items) (λ l. sym (counted.kernel l) j) (λ l. sym (counted.program l) j) u)
    ∙ sym many in
    ap (added_units old.met.items front ps) (drop-next us i u d inside is)
    ∙ ap (λ k. replicate k u ++ added_units old.met.items (front ++ unit_labels (replicate k u)) ps (drop (i + 1) us))
    own

pub on-begin : (s : Sides) (us : List SsaUnit) → IsOnWay s s us 0 []
on-begin s us = (
  omega arith,
  λ ks ps counted.
      let e = append-nil ks in (
        ap (λ l. added_units s.met.items l ps us) e,
        record { kernel = subst (λ l. Counts l s.kernel) (sym e) counted.kernel; program = counted.program },
        refl,
      ),
)

pub on-turn : (old now : Sides) (more : Tally) (us : List SsaUnit) (i : ℕ) (u d : SsaUnit) (n : ℕ)
    (done : List SsaUnit) → i < length us → u ≡ get_or us i d
    → n ≡ copies_of now.met.items (count_in now.kernel) (count_in now.program) u → n ≤ 8192 - length done
    → Adds now.kernel more (unit_labels (replicate n u)) →
    IsOnWay old now us i done → IsOnWay old (record { met = now.met; kernel = more; program = now.program }) us (i + 1)
    (done ++ replicate n u)
on-turn old now more us i u d n done inside is many few adds way = (
  (let l = length-append done (replicate n u) in let k = length-replicate n u in let w = way.0 in omega arith),
  λ ks ps counted.
      let on = way.1 ks ps counted in
      let front : (ks ++ unit_labels done) ++ unit_labels (replicate n u) ≡ ks ++ unit_labels (done ++ replicate n u) =
      append_assoc ks (unit_labels done) (unit_labels (replicate n u))
      ∙ ap (λ l. ks ++ l) (sym (units-append done (replicate n u))) in (
        append_assoc done (replicate n u) _
            ∙ ap (λ l. done ++ (replicate n u ++ added_units old.met.items l ps (drop (i + 1) us))) (sym front)
            ∙ ap (λ l. done ++ l) (sym (step old now us i u d n done ks ps inside is many on.1 on.2)) ∙ on.0,
        record {
          kernel = subst (λ l. Counts l more) front (adds (ks ++ unit_labels done) on.1.kernel);
          program = on.1.program;
        },
        on.2,
      ),
)

pub on-end : (old now : Sides) (us : List SsaUnit) (i : ℕ) (done : List SsaUnit) → drop i us ≡ []
    → IsOnWay old now us i done → (ks ps : List Label) → Counted ks ps old →
    (done ≡ added_units old.met.items ks ps us) × Counted (ks ++ unit_labels done) ps now × (now.met ≡ old.met)
on-end old now us i done none way ks ps counted =
    let on = way.1 ks ps counted in (
      sym (append-nil done) ∙ ap (λ l. done ++ added_units old.met.items (ks ++ unit_labels done) ps l) (sym none)
          ∙ on.0,
      on.1,
      on.2,
    )

-- too many
pub on-past : (old now : Sides) (us : List SsaUnit) (i : ℕ) (u d : SsaUnit) (n : ℕ) (done : List SsaUnit)
    → i < length us → u ≡ get_or us i d
    → n ≡ copies_of now.met.items (count_in now.kernel) (count_in now.program) u → 8192 - length done < n
    → IsOnWay old now us i done →
    (ks ps : List Label) → Counted ks ps old → nat_le (length (added_units old.met.items ks ps us)) 8192 ≡ false
on-past old now us i u d n done inside is many past way ks ps counted =
    let on = way.1 ks ps counted in
    let rest = added_units old.met.items ((ks ++ unit_labels done) ++ unit_labels (replicate n u)) ps (drop (i + 1) us)
    in
    let all : done ++ (replicate n u ++ rest) ≡ added_units old.met.items ks ps us =
    ap (λ l. done ++ l) (sym (step old now us i u d n done ks ps inside is many on.1 on.2)) ∙ on.0 in
    let a = ap length all in
    let b = length-append done (replicate n u ++ rest) in
    let d = length-append (replicate n u) rest in
    let e = length-replicate n u in
    let w = way.0 in
    lt-leb _ 8192 (omega arith)

pub drop-past : (us : List SsaUnit) (i : ℕ) → length us ≤ i → drop i us ≡ []
drop-past [] zero h = refl
drop-past [] (suc i) h = refl
drop-past (u ∷ us) zero h = absurd (omega arith)
drop-past (u ∷ us) (suc i) h = drop-past us i (omega arith)
