-- What a catalogue keeps beside its entries, and what is found in it.
use Rattle.std.proofs.Common.{◌≡◌, ℕ, ◌+◌, ◌≤◌, Bool, false, cond, List, [], ◌∷◌, ◌++◌, map, length, refl, arith}
use Rattle.std.specs.List.{list_any, position, position_or_len}
use Rattle.std.proofs.lemmas.List.{map-append}
use Rattle.vg_pseudo.specs.declared.header.Header.{Header}
use Rattle.vg_catalog.specs.Entries.{Entry, IsKept, name_of, instances, instances_of}

-- a test of what a map makes
pub any-map : {A B : Type 0} (p : B → Bool) (f : A → B) (xs : List A) → list_any p (map f xs) ≡ list_any (λ x. p (f x)) xs
any-map p f [] = refl
any-map p f (x ∷ xs) = rw (any-map p f xs) refl

len-map : {A B : Type 0} (p : B → Bool) (f : A → B) (xs : List A) → position_or_len p (map f xs) ≡ position_or_len (λ x. p (f x)) xs
len-map p f [] = refl
len-map p f (x ∷ xs) = rw (len-map p f xs) refl

length-map : {A B : Type 0} (f : A → B) (xs : List A) → length (map f xs) ≡ length xs
length-map f [] = refl
length-map f (x ∷ xs) = rw (length-map f xs) refl

pub position-map : {A B : Type 0} (p : B → Bool) (f : A → B) (xs : List A) → position p (map f xs) ≡ position (λ x. p (f x)) xs
position-map p f xs = rw (len-map p f xs, length-map f xs) refl

instances-append : (es : List Entry) (e : Entry) → instances (es ++ e ∷ []) ≡ instances es + instances_of e.header.imm
unfolding instances
instances-append [] e = omega arith
instances-append (x ∷ es) e = let rest = instances-append es e in omega (arith, rest)

-- one entry more
pub kept_more : (entries : List Entry) (headers : List Header) (names : List (List ℕ)) (count : ℕ) (e : Entry) (h : Header) (n : List ℕ) (k : ℕ)
    → IsKept entries headers names count → h ≡ e.header → n ≡ name_of e → k ≡ instances_of e.header.imm → instances entries + instances_of e.header.imm ≤ 4096
    → IsKept (entries ++ e ∷ []) (headers ++ h ∷ []) (names ++ n ∷ []) (count + k)
kept_more entries headers names count e h n k kept header name more room =
    record {
      headers_same = rw (kept.headers_same, header, map-append) refl;
      names_same = rw (kept.names_same, name, map-append) refl;
      counted = let all = instances-append entries e in omega (arith, all, kept.counted, more);
      few = omega (arith, kept.counted, more, room);
    }

-- nothing is kept beside no entry
pub kept_none : IsKept [] [] [] 0
unfolding instances
kept_none = record { headers_same = refl; names_same = refl; counted = refl; few = omega arith }

-- one name more, where none of the names is this one
pub names_more : {K : Type 0} (items : K → List ℕ) (known : Bool) (keys new : List K) (k : K) → known ≡ false → new ≡ cond known keys (keys ++ k ∷ []) → map items new ≡ map items keys ++ items k ∷ []
names_more items known keys new k fresh is = rw (is, fresh, map-append) refl
