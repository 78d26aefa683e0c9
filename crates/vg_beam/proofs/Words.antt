-- Words of packs: packs are the same where their words are.
use Rattle.std.proofs.Common.{◌≡◌, ℕ, ◌≤◌, Bool, true, false, List, [], ◌∷◌, ◌++◌, map, length, refl, sym, ◌∙◌, ap, arith, flat_map, inl, inr}
use Rattle.std.specs.Prelude.{◌||◌, ◌&&◌, Option, Some, None, bytes_eq, nat_eq, suc, if◌then◌else◌}
use Rattle.std.specs.Cmp.Lexicographic.{pointwise}
use Rattle.std.specs.List.{list_any}
use Rattle.indexmap.specs.IndexSet.{insert_key}
use Rattle.std.proofs.lemmas.Bool.{cases_Bool}
use Rattle.vg_kernel_plans.specs.SameAs.{same_lane, same_pack}
use Rattle.vg_shapes.specs.declared.pack.Pack.{Pack}
use Rattle.vg_shapes.specs.declared.pack.Pack.TheVariants.{Stores, Loads, Call}
use Rattle.vg_beam.specs.Key.{first_place}
use Rattle.vg_beam.specs.PackWords.{lane_words, words_of}
use Rattle.vg_beam.proofs.Numbers.{length-map}

pub place-map : {X Y : Type 0} (f : X → Y) (test : Y → Bool) (xs : List X) → first_place (λ x. test (f x)) xs ≡ first_place test (map f xs)
place-map f test [] = refl
place-map f test (x ∷ xs) = ap (λ n. if test (f x) then 0 else suc n) (place-map f test xs)

pub place-same : {X : Type 0} (test other : X → Bool) → ((x : X) → test x ≡ other x) → (xs : List X) → first_place test xs ≡ first_place other xs
place-same test other same [] = refl
place-same test other same (x ∷ xs) =
    ap (λ n. if test x then 0 else suc n) (place-same test other same xs)
    ∙ ap (λ b. if b then 0 else suc (first_place other xs)) (same x)

any-map : {X Y : Type 0} (f : X → Y) (test : Y → Bool) (xs : List X) → list_any (λ x. test (f x)) xs ≡ list_any test (map f xs)
any-map f test [] = refl
any-map f test (x ∷ xs) = ap (λ b. test (f x) || b) (any-map f test xs)

map-last : {X Y : Type 0} (f : X → Y) (xs : List X) (x : X) → map f (xs ++ x ∷ []) ≡ map f xs ++ f x ∷ []
map-last f [] x = refl
map-last f (y ∷ xs) x = ap (λ l. f y ∷ l) (map-last f xs x)

pub insert-map : {X Y : Type 0} (f : X → Y) (same : Y → Y → Bool) (xs : List X) (x : X)
    → map f (insert_key (λ a b. same (f a) (f b)) xs x) ≡ insert_key same (map f xs) (f x)
insert-map f same xs x = elim (cases_Bool (list_any (same (f x)) (map f xs))) [
  | inl t ↦ rw (any-map f (same (f x)) xs, t) refl
  | inr g ↦ rw (any-map f (same (f x)) xs, g) (map-last f xs x)
]

none-any : {X : Type 0} (test : X → Bool) (xs : List X) → length xs ≤ first_place test xs → list_any test xs ≡ false
none-any test [] l = refl
none-any test (x ∷ xs) l = elim (cases_Bool (test x)) [
  | inl t ↦ absurd (let h : length (x ∷ xs) ≤ 0 = rw t at l in omega (arith, h))
  | inr f ↦ rw f (none-any test xs (let j : length (x ∷ xs) ≤ suc (first_place test xs) = rw f at l in omega (arith, j)))
]

-- a key that has no place goes last
pub insert-last : {X : Type 0} (same : X → X → Bool) (xs : List X) (x : X) → length xs ≤ first_place (same x) xs
    → insert_key same xs x ≡ xs ++ x ∷ []
insert-last same xs x l = rw (none-any (same x) xs l) refl

-- ---- words of packs

and-both : (a b c : Bool) → ((a && b) && c) ≡ (a && (b && c))
and-both true b c = refl
and-both false b c = refl

lanes-same : (ls ms : List (Option ℕ)) → bytes_eq (flat_map lane_words ls) (flat_map lane_words ms) ≡ pointwise same_lane ls ms
lanes-same [] [] = refl
lanes-same [] (None ∷ ms) = refl
lanes-same [] (Some u ∷ ms) = refl
lanes-same (None ∷ ls) [] = refl
lanes-same (Some v ∷ ls) [] = refl
lanes-same (None ∷ ls) (None ∷ ms) = lanes-same ls ms
lanes-same (None ∷ ls) (Some u ∷ ms) = refl
lanes-same (Some v ∷ ls) (None ∷ ms) = refl
lanes-same (Some v ∷ ls) (Some u ∷ ms) = ap (λ b. nat_eq v u && b) (lanes-same ls ms)

pub words-same : (p q : Pack) → bytes_eq (words_of p) (words_of q) ≡ same_pack p q
words-same (Stores us) (Stores vs) = refl
words-same (Stores us) (Loads vs) = refl
words-same (Stores us) (Call e ms) = refl
words-same (Loads us) (Stores vs) = refl
words-same (Loads us) (Loads vs) = refl
words-same (Loads us) (Call e ms) = refl
words-same (Call d ls) (Stores vs) = refl
words-same (Call d ls) (Loads vs) = refl
words-same (Call d ls) (Call e ms) = ap (λ b. nat_eq d e && b) (lanes-same ls ms)

-- the place of the words of a pack is its own
pub place-words : (p : Pack) (packs : List Pack) (keys : List (List ℕ)) → keys ≡ map words_of packs
    → first_place (bytes_eq (words_of p)) keys ≡ first_place (same_pack p) packs
place-words p packs keys e =
    ap (first_place (bytes_eq (words_of p))) e ∙ sym (place-map words_of (bytes_eq (words_of p)) packs)
    ∙ place-same (λ q. bytes_eq (words_of p) (words_of q)) (same_pack p) (words-same p) packs

-- a pack that has no place, with its words
pub words-more : (p : Pack) (packs more : List Pack) (words : List ℕ) (keys new_keys : List (List ℕ)) → keys ≡ map words_of packs → words ≡ words_of p
    → length packs ≤ first_place (same_pack p) packs → more ≡ packs ++ p ∷ [] → new_keys ≡ insert_key bytes_eq keys words
    → new_keys ≡ map words_of more
words-more p packs more words keys new_keys e is l em en =
    let long : length keys ≡ length packs = ap length e ∙ length-map words_of packs in
    let few : length keys ≤ first_place (bytes_eq (words_of p)) keys = (let k = place-words p packs keys e in omega (arith, k, l, long)) in
    en ∙ ap (insert_key bytes_eq keys) is ∙ insert-last bytes_eq keys (words_of p) few
    ∙ ap (λ l. l ++ words_of p ∷ []) e ∙ sym (map-last words_of packs p) ∙ ap (map words_of) (sym em)
