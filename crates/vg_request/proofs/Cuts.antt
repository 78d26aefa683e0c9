-- Parts that are cut off in front.
use Rattle.std.proofs.Common.{◌≡◌, ◌∙◌, ◌<◌, ap, ap₂, Bool, true, false, not, ◌&&◌, ℕ, List, [], ◌∷◌, Some, None, Option, refl, length, arith}
use Rattle.vg_request.specs.declared.part.Flag.{Flag}
use Rattle.vg_request.specs.declared.part.Flag.TheVariants.{Guard, More}
use Rattle.vg_request.specs.declared.reading.Free.{Free}
use Rattle.vg_request.specs.Parts.{Part, width, extension, flag, word, flag_word, parts_of, before, widths_in, flags_in}
use Rattle.vg_request.specs.Readable.{at_most_one, are_few, may_follow, is_one_more, free_behind}

and_three : (a b c : Bool) → a ≡ true → b ≡ true → c ≡ true → (a && (b && c)) ≡ true
and_three a b c x y z = rw (x, y, z) refl

none_few : (free : Bool) → are_few free [] ≡ true
none_few true = refl
none_few false = refl

nothing_left : (free : Free) → may_follow free (parts_of []) ≡ true
unfolding parts_of
nothing_left free = and_three _ _ _ (none_few free.width) (none_few free.guard) (none_few free.more)

pub no_parts_left : (ws left : List (List ℕ)) (free : Free) (all : Bool) → length left ≡ 0 → may_follow free (parts_of left) ≡ all → true ≡ all
no_parts_left ws [] free all none same = let is = nothing_left free in cc
no_parts_left ws (v ∷ left) free all none same = absurd (omega arith)

-- one value more, where it is free to stand, and where it is not
one_few : (free : Bool) (v : List ℕ) (vs : List (List ℕ)) → not free ≡ false → are_few false vs ≡ are_few free (v ∷ vs)
one_few true v vs e = refl
one_few false v vs e = cc

one_stops : (free : Bool) (v : List ℕ) (vs : List (List ℕ)) → not free ≡ true → are_few free (v ∷ vs) ≡ false
one_stops true v vs e = cc
one_stops false v vs e = refl

-- one part more
pub once_more : (p : Part) (o : Option (List Part)) (free : Free) → is_one_more free p ≡ false → may_follow (free_behind free p) o ≡ may_follow free (before (Some p) o)
once_more p None free e = refl
once_more (width v) (Some ps) free e = ap (λ a. a && (are_few free.guard (flags_in Guard ps) && are_few free.more (flags_in More ps))) (one_few free.width v (widths_in ps) e)
once_more (extension v) (Some ps) free e = refl
once_more (flag Guard) (Some ps) free e = ap (λ a. are_few free.width (widths_in ps) && (a && are_few free.more (flags_in More ps))) (one_few free.guard (flag_word Guard) (flags_in Guard ps) e)
once_more (flag More) (Some ps) free e = ap (λ a. are_few free.width (widths_in ps) && (are_few free.guard (flags_in Guard ps) && a)) (one_few free.more (flag_word More) (flags_in More ps) e)
once_more (word v) (Some ps) free e = refl

and_false : (a : Bool) → (a && false) ≡ false
and_false true = refl
and_false false = refl

-- a part that may not stand there
pub second_stops : (p : Part) (o : Option (List Part)) (free : Free) → is_one_more free p ≡ true → may_follow free (before (Some p) o) ≡ false
second_stops p None free e = refl
second_stops (width v) (Some ps) free e = rw (one_stops free.width v (widths_in ps) e) refl
second_stops (extension v) (Some ps) free e = cc
second_stops (flag Guard) (Some ps) free e = rw (one_stops free.guard (flag_word Guard) (flags_in Guard ps) e) (and_false (are_few free.width (widths_in ps)))
second_stops (flag More) (Some ps) free e = rw (one_stops free.more (flag_word More) (flags_in More ps) e, and_false (are_few free.guard (flags_in Guard ps))) (and_false (are_few free.width (widths_in ps)))
second_stops (word v) (Some ps) free e = cc

pub none_stops : (o : Option (List Part)) (free : Free) → o ≡ None → may_follow free o ≡ false
none_stops o free e = rw e refl

pub few : (xs : List (List ℕ)) → at_most_one xs ≡ true → length xs < 2
few [] e = omega arith
few (x ∷ []) e = omega arith
few (x ∷ y ∷ xs) e = cc
