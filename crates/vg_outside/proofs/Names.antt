-- The files of a map from texts, looked up and changed by name.
use Rattle.std.proofs.Common.{◌≡◌, ℕ, ◌+◌, false, cond, List, [], ◌∷◌, map, take, Option, Some, refl, sym, ap, ◌∙◌, option_map, ok_or}
use Rattle.std.specs.declared.alloc.Global.{Global}
use Rattle.std.specs.declared.string.String.{String}
use Rattle.std.specs.String.{string_bytes, string_cmp}
use Rattle.std.specs.Str.{bytes_eq}
use Rattle.std.specs.Map.{lookup}
use Rattle.std.specs.BTreeMap.{BTreeMap, Updates, get_by_text}
use Rattle.std.specs.Ordering.{nat_cmp, is_eq, eq_by_cmp}
use Rattle.std.specs.Cmp.{eq_by_cmp_equiv}
use Rattle.std.specs.Cmp.Lexicographic.{slice_cmp, nat_list_cmp_total}
use Rattle.std.specs.FinMap.{find, get, insert, get-from_entries, get-insert, same_map, slice_cmp-IsAntisymmetric, nat_cmp-IsAntisymmetric}
use Rattle.std.proofs.lemmas.Map.Text.{is_eq-slice_cmp, btree_map_updates_text}
use Rattle.vg_outside.specs.declared.shelf.ShelfFault.TheVariants.{Absent}
use Rattle.vg_outside.specs.Held.{held_by}
use Rattle.vg_outside.specs.MemShelf.{ShelfState, is_failing, answer_of}

found : (name : List ℕ) (entries : List (String Global × List ℕ)) → find (slice_cmp nat_cmp) name (map (λ e. (string_bytes e.0, e.1)) entries) ≡ lookup (λ k. is_eq (slice_cmp nat_cmp name (string_bytes k))) entries
found name [] = refl
found name (e ∷ es) = ap (λ (o : Option (List ℕ)). cond (is_eq (slice_cmp nat_cmp name (string_bytes e.0))) (Some e.1) o) (found name es)

-- a name has the bytes that the map has at its text
pub get-held_by : (files : BTreeMap (String Global) (List ℕ)) (name : List ℕ) → get (held_by files.entries) name ≡ get_by_text files name
get-held_by files name = get-from_entries nat_list_cmp_total _ name ∙ found name files.entries

same_text : (a b : List ℕ) → bytes_eq a b ≡ eq_by_cmp (slice_cmp nat_cmp) b a
same_text a b = sym (is_eq-slice_cmp a b) ∙ (eq_by_cmp_equiv nat_list_cmp_total).symm a b

-- a new entry of the map is a new file of its text
pub held_by-insert : (old new : BTreeMap (String Global) (List ℕ)) (key : String Global) (bytes : List ℕ) → Updates string_cmp old new key (Some bytes) → held_by new.entries ≡ insert (held_by old.entries) (string_bytes key) bytes
held_by-insert old new key bytes updated =
    same_map nat_list_cmp_total (slice_cmp-IsAntisymmetric nat_cmp-IsAntisymmetric) _ _ (λ name.
    get-held_by new name
    ∙ btree_map_updates_text (string_bytes key) old new (Some bytes) updated name
    ∙ (λ i. cond (same_text (string_bytes key) name i) (Some bytes) (sym (get-held_by old name) i))
    ∙ sym (get-insert nat_list_cmp_total (held_by old.entries) (string_bytes key) bytes name))

-- where no fault is due, what the shelf has at the name decides
pub answer_by : (s : ShelfState) (name : List ℕ) (limit : ℕ) (file : Option (List ℕ)) → is_failing s ≡ false → get s.held name ≡ file → answer_of s name limit ≡ ok_or (option_map (take (limit + 1)) file) Absent
answer_by s name limit file fine at_name = rw (fine, at_name) refl
