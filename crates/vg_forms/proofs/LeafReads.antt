-- What the leaves of lanes read, by registers as bits.
use Rattle.std.proofs.Common.{◌≡◌, ℕ, zero, suc, refl, ap, ◌∙◌, List, [], ◌∷◌, map, take, drop, get_or, Option, Some, None}
use Rattle.std.specs.Prelude.{slice_get}
use Rattle.std.specs.Option.{option_map_or}
use Rattle.vg_bits.specs.Range.{range}
use Rattle.vg_terms.specs.declared.term.LeafKey.{LeafKey}
use Rattle.vg_terms.specs.Term.{Tree}
use Rattle.vg_shapes.specs.Fits.{replaced}
use Rattle.vg_shapes.specs.Leaves.{bit_number}
use Rattle.vg_lift.specs.Gather.{gather}
use Rattle.vg_known.specs.Calls.{read_leaf}
use Rattle.vg_known.specs.Cuts.{cut_bit, cut_bits}
use Rattle.vg_forms.specs.declared.run.Run.{Run}
use Rattle.vg_forms.specs.declared.lane.Parts.TheVariants.{Whole, Cut}
use Rattle.vg_forms.specs.Runs.{bits_in}
use Rattle.vg_forms.specs.Lanes.{lane_term, leaf_term, register_at, registers_of}

pub at-map : {A B : Type 0} (f : A → B) (xs : List A) (k : ℕ) (d : A) → get_or (map f xs) k (f d) ≡ f (get_or xs k d)
at-map f [] k d = refl
at-map f (x ∷ xs) zero d = refl
at-map f (x ∷ xs) (suc k) d = at-map f xs k d

at-register : {B : Type 0} (f : ℕ → B) (d : B) (vs : List ℕ) (p : ℕ) → get_or (map f vs) p d ≡ option_map_or f (slice_get vs p) d
at-register f d [] p = refl
at-register f d (v ∷ vs) zero = refl
at-register f d (v ∷ vs) (suc p) = at-register f d vs p

inside-option : {A B C : Type 0} (g : B → C) (f : A → B) (o : Option A) (d : B) → option_map_or (λ x. g (f x)) o (g d) ≡ g (option_map_or f o d)
inside-option g f None d = refl
inside-option g f (Some x) d = refl

-- the bits of the register of a number
register-bits : (vectors : List (List Run)) (vs : List ℕ) (p : ℕ) → get_or (registers_of vectors vs) p [] ≡ bits_in (register_at vectors vs p)
register-bits vectors vs p =
    at-register (λ v. get_or (map bits_in vectors) v []) [] vs p
    ∙ ap (λ f. option_map_or f (slice_get vs p) []) (λ i v. at-map bits_in vectors v [] i)
    ∙ inside-option bits_in (λ v. get_or vectors v []) (slice_get vs p) []

take-map : {A B : Type 0} (f : A → B) (n : ℕ) (xs : List A) → take n (map f xs) ≡ map f (take n xs)
take-map f zero xs = refl
take-map f (suc n) [] = refl
take-map f (suc n) (x ∷ xs) = ap (λ ys. f x ∷ ys) (take-map f n xs)

drop-map : {A B : Type 0} (f : A → B) (n : ℕ) (xs : List A) → drop n (map f xs) ≡ map f (drop n xs)
drop-map f zero xs = refl
drop-map f (suc n) [] = refl
drop-map f (suc n) (x ∷ xs) = drop-map f n xs

range-map : {A B : Type 0} (f : A → B) (low n : ℕ) (xs : List A) → range low n (map f xs) ≡ map f (range low n xs)
range-map f low n xs = ap (take n) (drop-map f low xs) ∙ take-map f n (drop low xs)

whole-leaf : (met : List Tree) (vectors : List (List Run)) (vs : List ℕ) (w : ℕ) (k : LeafKey) → read_leaf (registers_of vectors vs) w k ≡ leaf_term Whole met vectors vs w k
whole-leaf met vectors vs w k = ap (λ bs. gather (range (bit_number k.second) w bs)) (register-bits vectors vs k.first)

cut-leaf : (met : List Tree) (vectors : List (List Run)) (vs : List ℕ) (w : ℕ) (k : LeafKey) → read_leaf (map (cut_bits met) (registers_of vectors vs)) w k ≡ leaf_term Cut met vectors vs w k
cut-leaf met vectors vs w k =
    ap (λ bs. gather (range (bit_number k.second) w bs)) (at-map (cut_bits met) (registers_of vectors vs) k.first [] ∙ ap (cut_bits met) (register-bits vectors vs k.first))
    ∙ ap gather (range-map (cut_bit met) (bit_number k.second) w (bits_in (register_at vectors vs k.first)))

pub whole_lane : (met : List Tree) (vectors : List (List Run)) (vs : List ℕ) (t : Tree) → replaced (read_leaf (registers_of vectors vs)) t ≡ lane_term Whole met vectors vs t
whole_lane met vectors vs t = ap (λ f. replaced f t) (λ i w k. whole-leaf met vectors vs w k i)

pub cut_lane : (met : List Tree) (vectors : List (List Run)) (vs : List ℕ) (t : Tree) → replaced (read_leaf (map (cut_bits met) (registers_of vectors vs))) t ≡ lane_term Cut met vectors vs t
cut_lane met vectors vs t = ap (λ f. replaced f t) (λ i w k. cut-leaf met vectors vs w k i)
