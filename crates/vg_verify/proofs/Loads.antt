-- The first load of those that read the same, looked for from the last unit back.
use Rattle.std.proofs.Common.{◌≡◌, ℕ, suc, ◌+◌, ◌<◌, ◌≤◌, Bool, true, false, List, [], ◌∷◌, ◌++◌, length, drop, take, get_or, Option, Some, refl, sym, ap, subst, ◌∙◌, arith, drop-cons}
use Rattle.std.specs.Prelude.{◌||◌, ◌&&◌, not, unwrap_or, if◌then◌else◌}
use Rattle.std.specs.List.{filter_map, list_any}
use Rattle.std.proofs.lemmas.List.{take-append-drop, length-take-le}
use Rattle.std.proofs.Math.Seq.{drop-length}
use Rattle.vg_base.specs.declared.address.Address.{Address}
use Rattle.vg_base.specs.declared.width.Width.{Width}
use Rattle.vg_shapes.specs.declared.access.Access.{Access}
use Rattle.vg_shapes.specs.declared.ssa_unit.SsaUnit.{SsaUnit}
use Rattle.vg_shapes.specs.declared.ssa_unit.SsaUnit.TheVariants.{Load, Store, Operation}
use Rattle.vg_shapes.specs.Depends.{conflict}
use Rattle.vg_shapes.specs.Layout.{access_of}
use Rattle.vg_known.specs.FirstLoads.{are_quiet, first_in, first_load, is_load, read_of}
use Rattle.vg_verify.specs.Loads.{is_disturbed}

-- whether one of these units disturbs a read
some_disturb : (flags : List Bool) (x : Access) (u : SsaUnit) (us : List SsaUnit) → are_quiet flags x (u ∷ us) ≡ not (is_disturbed flags x u || list_any (λ y. conflict flags y x) (filter_map access_of us))
some_disturb flags x (Load a w) us = refl
some_disturb flags x (Store a w v) us = refl
some_disturb flags x (Operation op w k xs) us = refl

pub quiet_more : (flags : List Bool) (x : Access) (u : SsaUnit) (us : List SsaUnit) → is_disturbed flags x u ≡ false → are_quiet flags x us ≡ true → are_quiet flags x (u ∷ us) ≡ true
quiet_more flags x u us h q = some_disturb flags x u us ∙ rw h q

quiet_less : (flags : List Bool) (x : Access) (u : SsaUnit) (us : List SsaUnit) → is_disturbed flags x u ≡ true → are_quiet flags x (u ∷ us) ≡ false
quiet_less flags x u us h = some_disturb flags x u us ∙ rw h refl

-- a unit more at the front makes it no quieter
turned : (a b : Bool) → not b ≡ false → not (a || b) ≡ false
turned true b h = refl
turned false b h = h

loud_front : (flags : List Bool) (x : Access) (v : SsaUnit) (us : List SsaUnit) → are_quiet flags x us ≡ false → are_quiet flags x (v ∷ us) ≡ false
loud_front flags x v us h = some_disturb flags x v us ∙ turned (is_disturbed flags x v) _ h

loud : (flags : List Bool) (x : Access) (xs : List SsaUnit) (u : SsaUnit) (us : List SsaUnit) → is_disturbed flags x u ≡ true → are_quiet flags x (xs ++ u ∷ us) ≡ false
loud flags x [] u us h = quiet_less flags x u us h
loud flags x (v ∷ xs) u us h = loud_front flags x v (xs ++ u ∷ us) (loud flags x xs u us h)

-- a load disturbs no read
store_disturbs : (flags : List Bool) (a b : Address) (w v : Width) (u : SsaUnit) → is_disturbed flags (read_of a w) u ≡ true → is_load b v u ≡ false
store_disturbs flags a b w v (Load c z) h = absurd (cc)
store_disturbs flags a b w v (Store c z x) h = refl
store_disturbs flags a b w v (Operation op z k xs) h = refl

unfound : (c d : Bool) (n : ℕ) (o : Option ℕ) → d ≡ false → (if c && d then Some n else o) ≡ o
unfound true d n o h = rw h refl
unfound false d n o h = refl

unloaded : (c d : Bool) (n : ℕ) (o : Option ℕ) → c ≡ false → (if c && d then Some n else o) ≡ o
unloaded c d n o h = rw h refl

pub found_behind : (flags : List Bool) (a : Address) (w : Width) (n : ℕ) (xs : List SsaUnit) (u : SsaUnit) (us : List SsaUnit) → is_disturbed flags (read_of a w) u ≡ true
    → first_in flags a w n (xs ++ u ∷ us) ≡ first_in flags a w (n + length xs + 1) us
found_behind flags a w n [] u us h =
    let e : n + 1 ≡ n + 0 + 1 = omega arith in
    unloaded (is_load a w u) (are_quiet flags (read_of a w) us) n (first_in flags a w (n + 1) us) (store_disturbs flags a a w w u h)
    ∙ ap (λ m. first_in flags a w m us) e
found_behind flags a w n (v ∷ xs) u us h =
    let e : n + 1 + length xs + 1 ≡ n + suc (length xs) + 1 = omega arith in
    unfound (is_load a w v) (are_quiet flags (read_of a w) (xs ++ u ∷ us)) n (first_in flags a w (n + 1) (xs ++ u ∷ us)) (loud flags (read_of a w) xs u us h)
    ∙ found_behind flags a w (n + 1) xs u us h ∙ ap (λ m. first_in flags a w m us) e

both : (c : Bool) (n : ℕ) (o : Option ℕ) → (if c && true then Some n else o) ≡ (if c then Some n else o)
both true n o = refl
both false n o = refl

pub found_more : (flags : List Bool) (a : Address) (w : Width) (n : ℕ) (u : SsaUnit) (us : List SsaUnit) → are_quiet flags (read_of a w) us ≡ true
    → first_in flags a w n (u ∷ us) ≡ (if is_load a w u then Some n else first_in flags a w (n + 1) us)
found_more flags a w n u us h = rw h (both (is_load a w u) n (first_in flags a w (n + 1) us))

-- ---- by places

-- what is known when the units from a place on were looked at
pub record Looked (flags : List Bool) (a : Address) (w : Width) (first own : ℕ) (done : List SsaUnit) (place found : ℕ) : Type 0 where
  pub within : place ≤ length done
  pub quiet : are_quiet flags (read_of a w) (drop place done) ≡ true
  pub is : found ≡ unwrap_or (first_in flags a w (first + place) (drop place done)) own

pub looked_none : (flags : List Bool) (a : Address) (w : Width) (first own : ℕ) (done : List SsaUnit) → Looked flags a w first own done (length done) own
looked_none flags a w first own done = record { within = omega arith; quiet = rw (drop-length done) refl; is = rw (drop-length done) refl }

next : (done : List SsaUnit) (place : ℕ) (u : SsaUnit) → place < length done → u ≡ get_or done place u → drop place done ≡ u ∷ drop (place + 1) done
next done place u h e =
    let f : suc place ≡ place + 1 = omega arith in
    drop-cons done place u h ∙ ap (λ x. x ∷ drop (suc place) done) (sym e) ∙ ap (λ k. u ∷ drop k done) f

out : (flags : List Bool) (a : Address) (w : Width) (first own : ℕ) (done : List SsaUnit) (place found : ℕ) (u : SsaUnit) → Looked flags a w first own done (place + 1) found
    → place < length done → u ≡ get_or done place u → is_disturbed flags (read_of a w) u ≡ true → found ≡ first_load flags first done own a w
out flags a w first own done place found u l h e d =
    let before = take place done in
    let long : length before ≡ place = length-take-le place done (omega (arith, h)) in
    let split : before ++ u ∷ drop (place + 1) done ≡ done = ap (λ x. before ++ x) (sym (next done place u h e)) ∙ take-append-drop place done in
    let m : first + place + 1 ≡ first + (place + 1) = omega arith in
    l.is
    ∙ ap (λ k. unwrap_or (first_in flags a w k (drop (place + 1) done)) own) (sym m)
    ∙ ap (λ k. unwrap_or (first_in flags a w (first + k + 1) (drop (place + 1) done)) own) (sym long)
    ∙ ap (λ o. unwrap_or o own) (sym (found_behind flags a w first before u (drop (place + 1) done) d))
    ∙ ap (λ us. unwrap_or (first_in flags a w first us) own) split

pub looked_end : (flags : List Bool) (a : Address) (w : Width) (first own : ℕ) (done : List SsaUnit) (found : ℕ) → Looked flags a w first own done 0 found → found ≡ first_load flags first done own a w
looked_end flags a w first own done found l =
    let e : first + 0 ≡ first = omega arith in
    l.is ∙ ap (λ k. unwrap_or (first_in flags a w k done) own) e

chosen : (c : Bool) (n : ℕ) (o : Option ℕ) (own : ℕ) → (if c then n else unwrap_or o own) ≡ unwrap_or (if c then Some n else o) own
chosen true n o own = refl
chosen false n o own = refl

-- one unit further back
more : (flags : List Bool) (a : Address) (w : Width) (first own : ℕ) (done : List SsaUnit) (place found new : ℕ) (u : SsaUnit) → Looked flags a w first own done (place + 1) found
    → place < length done → u ≡ get_or done place u → is_disturbed flags (read_of a w) u ≡ false
    → new ≡ (if is_load a w u then first + place else found)
    → Looked flags a w first own done place new
more flags a w first own done place found new u l h e d n =
    let rest = drop (place + 1) done in
    let x = next done place u h e in
    let m : first + place + 1 ≡ first + (place + 1) = omega arith in
    record {
      within = omega (arith, h);
      quiet = rw x (quiet_more flags (read_of a w) u rest d l.quiet);
      is = rw x (n ∙ ap (λ y. if is_load a w u then first + place else y) (l.is ∙ ap (λ k. unwrap_or (first_in flags a w k rest) own) (sym m))
          ∙ chosen (is_load a w u) (first + place) (first_in flags a w (first + place + 1) rest) own
          ∙ ap (λ o. unwrap_or o own) (sym (found_more flags a w (first + place) u rest l.quiet)));
    }

-- ---- the same, where the place before is given apart

pub looked_out : (flags : List Bool) (a : Address) (w : Width) (first own : ℕ) (done : List SsaUnit) (from place found : ℕ) (u : SsaUnit) → Looked flags a w first own done from found → from ≡ place + 1
    → place < length done → u ≡ get_or done place u → is_disturbed flags (read_of a w) u ≡ true → found ≡ first_load flags first done own a w
looked_out flags a w first own done from place found u l f h e d = out flags a w first own done place found u (subst (λ p. Looked flags a w first own done p found) f l) h e d

pub looked_more : (flags : List Bool) (a : Address) (w : Width) (first own : ℕ) (done : List SsaUnit) (from place found new : ℕ) (u : SsaUnit) → Looked flags a w first own done from found → from ≡ place + 1
    → place < length done → u ≡ get_or done place u → is_disturbed flags (read_of a w) u ≡ false
    → new ≡ (if is_load a w u then first + place else found)
    → Looked flags a w first own done place new
looked_more flags a w first own done from place found new u l f h e d n = more flags a w first own done place found new u (subst (λ p. Looked flags a w first own done p found) f l) h e d n
