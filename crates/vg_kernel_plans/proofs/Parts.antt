-- Runs of loads and their parts, one after the other.
use Rattle.std.proofs.Common.{◌≡◌, ℕ, zero, suc, ◌+◌, ◌-◌, ◌/◌, ◌<◌, ◌≤◌, false, List, [], ◌∷◌, ◌++◌, take, drop, length, refl, sym, ◌∙◌, ap, arith, append_assoc, append-nil}
use Rattle.std.specs.Prelude.{find, ℤ, pos, ◌+ℤ◌, nat_eq, nat_le, Option, Some, None}
use Rattle.std.proofs.lemmas.Bool.Decides.{nat_tests}
use Rattle.std.proofs.lemmas.List.{drop-drop, length-drop}
use Rattle.vg_base.specs.declared.address.Address.{Address}
use Rattle.vg_base.specs.declared.width.Width.{Width}
use Rattle.vg_base.specs.Width.{size_of}
use Rattle.vg_shapes.specs.declared.pack.Pack.{Pack}
use Rattle.vg_shapes.specs.declared.pack.Pack.TheVariants.{Loads}
use Rattle.vg_shapes.specs.Pack.{behind}
use Rattle.vg_kernel_plans.specs.declared.first_loads.PlacedLoad.{PlacedLoad}
use Rattle.vg_kernel_plans.specs.LoadGroups.{cut_from, is_part, loads_at, run_at, sizes_in}
use Rattle.vg_kernel_plans.specs.LoadTable.{part_or, place}
use Rattle.vg_kernel_plans.proofs.LoadPacks.{at-place, found-is}
use Rattle.vg_kernel_plans.proofs.SameTests.{both-true}

-- ---- runs

found-run : (loads : List PlacedLoad) (a : Address) (w : Width) (n : ℕ) (l : PlacedLoad) → find (loads_at a w) loads ≡ Some l
    → run_at loads a w (suc n) ≡ l.unit ∷ run_at loads (behind a (size_of w)) w n
found-run loads a w n l e = by_found (find (loads_at a w) loads) e
  where
    by_found : (o : Option PlacedLoad) → o ≡ Some l →
        (elim o as (λ l. List ℕ) [ None ↦ [] | Some m ↦ m.unit ∷ run_at loads (behind a (size_of w)) w n ])
        ≡ l.unit ∷ run_at loads (behind a (size_of w)) w n
    by_found o e = rw e refl

pub run-goes : (loads : List PlacedLoad) (p : ℕ) (o next : ℤ) (w : Width) (left : ℕ) (l : PlacedLoad) (found : Option PlacedLoad) (us more whole : List ℕ)
    → 0 < left → found ≡ find (loads_at (place p o) w) loads → found ≡ Some l → more ≡ us ++ l.unit ∷ []
    → next ≡ l.address.offset +ℤ pos (size_of w)
    → us ++ run_at loads (place p o) w left ≡ whole → more ++ run_at loads (place p next) w (left - 1) ≡ whole
run-goes loads p o next w zero l found us more whole z f s m e h = absurd (omega (arith, z))
run-goes loads p o next w (suc n) l found us more whole z f s m e h =
    let is : find (loads_at (place p o) w) loads ≡ Some l = sym f ∙ s in
    let k = found-is (loads_at (place p o) w) loads l is in
    let at : l.address ≡ place p o = (at-place (place p o) w l k.1).0 in
    let same : next ≡ o +ℤ pos (size_of w) = e ∙ ap (λ (a : Address). a.offset +ℤ pos (size_of w)) at in
    let one : suc n - 1 ≡ n = omega arith in
    ap (λ xs. xs ++ run_at loads (place p next) w (suc n - 1)) m
    ∙ append_assoc us (l.unit ∷ []) (run_at loads (place p next) w (suc n - 1))
    ∙ ap (λ j. us ++ l.unit ∷ run_at loads (place p next) w j) one
    ∙ ap (λ z. us ++ l.unit ∷ run_at loads (place p z) w n) same
    ∙ ap (λ xs. us ++ xs) (sym (found-run loads (place p o) w n l is))
    ∙ h

none-run : (loads : List PlacedLoad) (a : Address) (w : Width) (n : ℕ) → find (loads_at a w) loads ≡ None → run_at loads a w n ≡ []
none-run loads a w zero e = refl
none-run loads a w (suc n) e = by_found (find (loads_at a w) loads) e
  where
    by_found : (o : Option PlacedLoad) → o ≡ None →
        (elim o as (λ l. List ℕ) [ None ↦ [] | Some m ↦ m.unit ∷ run_at loads (behind a (size_of w)) w n ]) ≡ []
    by_found o e = rw e refl

pub run-stops : (loads : List PlacedLoad) (a : Address) (w : Width) (left : ℕ) (found : Option PlacedLoad) (us whole : List ℕ)
    → found ≡ find (loads_at a w) loads → found ≡ None → us ++ run_at loads a w left ≡ whole → us ≡ whole
run-stops loads a w left found us whole f n h =
    sym (append-nil us) ∙ ap (λ xs. us ++ xs) (sym (none-run loads a w left (sym f ∙ n))) ∙ h

pub run-ends : (loads : List PlacedLoad) (a : Address) (w : Width) (left : ℕ) (us whole : List ℕ) → left ≤ 0
    → us ++ run_at loads a w left ≡ whole → us ≡ whole
run-ends loads a w zero us whole l h = sym (append-nil us) ∙ h
run-ends loads a w (suc n) us whole l h = absurd (omega (arith, l))

-- ---- parts

-- what the largest part is
pub part-fits : (register : ℕ) (w : Width) (left size : ℕ) (found : Option ℕ) → found ≡ find (is_part w left) (sizes_in register)
    → found ≡ Some size → size / size_of w ≤ left
part-fits register w left size found f s =
    let k = found-is (is_part w left) (sizes_in register) size (sym f ∙ s) in
    let b = both-true (nat_le 2 (size / size_of w)) (nat_le (size / size_of w) left) k.1 in
    grind (arith, nat_tests, b.1)

found-cut : (register : ℕ) (w : Width) (n : ℕ) (us : List ℕ) (size : ℕ) → find (is_part w (length us)) (sizes_in register) ≡ Some size
    → cut_from register w (suc n) us ≡ Loads (take (size / size_of w) us) ∷ cut_from register w n (drop (size / size_of w) us)
found-cut register w n us size e = by_found (find (is_part w (length us)) (sizes_in register)) e
  where
    by_found : (o : Option ℕ) → o ≡ Some size →
        (elim o as (λ s. List Pack) [ None ↦ [] | Some s ↦ Loads (take (s / size_of w) us) ∷ cut_from register w n (drop (s / size_of w) us) ])
        ≡ Loads (take (size / size_of w) us) ∷ cut_from register w n (drop (size / size_of w) us)
    by_found o e = rw e refl

pub none-cut : (register : ℕ) (w : Width) (n : ℕ) (us : List ℕ) → find (is_part w (length us)) (sizes_in register) ≡ None
    → cut_from register w n us ≡ []
none-cut register w zero us e = refl
none-cut register w (suc n) us e = by_found (find (is_part w (length us)) (sizes_in register)) e
  where
    by_found : (o : Option ℕ) → o ≡ None →
        (elim o as (λ s. List Pack) [ None ↦ [] | Some s ↦ Loads (take (s / size_of w) us) ∷ cut_from register w n (drop (s / size_of w) us) ]) ≡ []
    by_found o e = rw e refl

pub cut-goes : (register : ℕ) (w : Width) (us : List ℕ) (from next count size turns : ℕ) (found : Option ℕ) (part : Pack) (groups more whole : List Pack)
    → 0 < turns → found ≡ find (is_part w (length us - from)) (sizes_in register) → found ≡ Some size
    → count ≡ size / size_of w → part ≡ Loads (take count (drop from us)) → more ≡ groups ++ part ∷ [] → next ≡ from + count
    → groups ++ cut_from register w turns (drop from us) ≡ whole → more ++ cut_from register w (turns - 1) (drop next us) ≡ whole
cut-goes register w us from next count size zero found part groups more whole z f s c p m n h = absurd (omega (arith, z))
cut-goes register w us from next count size (suc turns) found part groups more whole z f s c p m n h =
    let left = length-drop from us in
    let is : find (is_part w (length (drop from us))) (sizes_in register) ≡ Some size =
    ap (λ k. find (is_part w k) (sizes_in register)) left ∙ sym f ∙ s
    in
    let one : suc turns - 1 ≡ turns = omega arith in
    let rest : drop next us ≡ drop (size / size_of w) (drop from us) =
    ap (λ k. drop k us) (n ∙ ap (λ k. from + k) c) ∙ sym (drop-drop (size / size_of w) from us)
    in
    ap (λ xs. xs ++ cut_from register w (suc turns - 1) (drop next us)) m
    ∙ append_assoc groups (part ∷ []) (cut_from register w (suc turns - 1) (drop next us))
    ∙ ap (λ j. groups ++ part ∷ cut_from register w j (drop next us)) one
    ∙ ap (λ q. groups ++ q ∷ cut_from register w turns (drop next us)) (p ∙ ap (λ k. Loads (take k (drop from us))) c)
    ∙ ap (λ xs. groups ++ Loads (take (size / size_of w) (drop from us)) ∷ cut_from register w turns xs) rest
    ∙ ap (λ xs. groups ++ xs) (sym (found-cut register w turns (drop from us) size is))
    ∙ h

pub cut-stops : (register : ℕ) (w : Width) (us : List ℕ) (from turns : ℕ) (found : Option ℕ) (groups whole : List Pack)
    → found ≡ find (is_part w (length us - from)) (sizes_in register) → found ≡ None
    → groups ++ cut_from register w turns (drop from us) ≡ whole → groups ≡ whole
cut-stops register w us from turns found groups whole f n h =
    let left = length-drop from us in
    let is : find (is_part w (length (drop from us))) (sizes_in register) ≡ None =
    ap (λ k. find (is_part w k) (sizes_in register)) left ∙ sym f ∙ n
    in
    sym (append-nil groups) ∙ ap (λ xs. groups ++ xs) (sym (none-cut register w turns (drop from us) is)) ∙ h

pub cut-ends : (register : ℕ) (w : Width) (us : List ℕ) (from turns : ℕ) (groups whole : List Pack) → turns ≤ 0
    → groups ++ cut_from register w turns (drop from us) ≡ whole → groups ≡ whole
cut-ends register w us from zero groups whole l h = sym (append-nil groups) ∙ h
cut-ends register w us from (suc turns) groups whole l h = absurd (omega (arith, l))

-- ---- sizes of registers

pub part-512 : (register : ℕ) (w : Width) (left : ℕ) → register ≡ 512
    → find (is_part w left) (sizes_in register) ≡ part_or w left 64 None
part-512 register w left e = rw e refl

pub part-256 : (register : ℕ) (w : Width) (left : ℕ) → register ≡ 256
    → find (is_part w left) (sizes_in register) ≡ part_or w left 32 None
part-256 register w left e = rw e refl

pub part-128 : (register : ℕ) (w : Width) (left : ℕ) → register ≡ 128
    → find (is_part w left) (sizes_in register) ≡ part_or w left 16 (part_or w left 8 (part_or w left 4 None))
part-128 register w left e = rw e refl

pub flipped : (a b : ℕ) → nat_eq a b ≡ false → nat_eq b a ≡ false
flipped a b t = grind (arith, nat_tests, t)

pub part-none : (register : ℕ) (w : Width) (left : ℕ) → nat_eq register 512 ≡ false → nat_eq register 256 ≡ false → nat_eq register 128 ≡ false
    → find (is_part w left) (sizes_in register) ≡ None
part-none register w left a b c = rw (flipped register 512 a, flipped register 256 b, flipped register 128 c) refl
