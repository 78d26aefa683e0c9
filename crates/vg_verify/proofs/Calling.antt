-- Instances that are called by names, and the terms of their lanes on registers.
use Rattle.std.proofs.Common.{◌≡◌, ℕ, zero, suc, ◌+◌, ◌-◌, ◌<◌, ◌≤◌, Bool, true, false, List, [], ◌∷◌, ◌++◌, length, map, take, drop, get_or, Option, Some, None, refl, sym, ap, subst, ◌∙◌, inl, inr, arith, append_assoc, append-nil, true≢false}
use Rattle.std.specs.Prelude.{IfSome, IsSomeAnd, slice_get, ◌&&◌, ◌==◌, if◌then◌else◌}
use Rattle.std.specs.List.{AllByRecursion, flat_map, list_any, position_from}
use Rattle.std.specs.Map.{lookup}
use Rattle.std.specs.Option.{is_some, option_map, option_map_or}
use Rattle.std.specs.Str.{bytes_eq}
use Rattle.std.proofs.lemmas.Bool.{cases_Bool, eqb-true}
use Rattle.std.proofs.lemmas.Iterator.Adapters.{position_from-zero}
use Rattle.std.proofs.lemmas.Slice.Eq.{bytes_eq-Decides}
use Rattle.indexmap.specs.IndexMap.{insert_entry}
use Rattle.vg_terms.specs.Term.{Tree}
use Rattle.vg_canon.specs.Canonical.{canonical}
use Rattle.vg_names.specs.Written.{IsWritten}
use Rattle.vg_shapes.specs.Lane.{Lane, known, big, dynamic}
use Rattle.vg_lift.specs.Gather.{Bit, bits_from}
use Rattle.vg_catalog.specs.Called.{entry_named, imm_number}
use Rattle.vg_catalog.specs.Entries.{Entry, entry_place, name_of}
use Rattle.vg_catalog.specs.Written.{AllWritten}
use Rattle.vg_known.specs.Calls.{bits_of_terms, call_terms, calls_opaque, is_opaque, lane_bits, lanes_of, term_on}
use Rattle.vg_known.specs.Known.{Given, Known, known_bits}
use Rattle.vg_forms.specs.declared.run.Run.{Run}
use Rattle.vg_forms.specs.declared.run.Run.TheVariants.{Bits}
use Rattle.vg_forms.specs.Runs.{bits_in}
use Rattle.vg_forms.proofs.Ranges.{bits_in_append}
use Rattle.vg_verify.specs.declared.instance.Instance.{Instance}
use Rattle.vg_verify.specs.declared.instance.Lanes.{Lanes}
use Rattle.vg_verify.specs.Forms.{called_forms, form_on, forms_of}
use Rattle.vg_verify.specs.Instances.{Answers, AreKept, IsInstance, IsKept}
use Rattle.vg_verify.specs.Views.{with_call, with_lanes}
use Rattle.vg_verify.proofs.Events.{behind_is}

-- ---- the entry of a name

turned : (a b : List ℕ) → bytes_eq a b ≡ bytes_eq b a
turned a b = by (bytes_eq a b) refl (bytes_eq b a) refl
  where
    by : (x : Bool) → bytes_eq a b ≡ x → (y : Bool) → bytes_eq b a ≡ y → bytes_eq a b ≡ bytes_eq b a
    by true e true f = e ∙ sym f
    by false e false f = e ∙ sym f
    by true e false f = absurd (true≢false (sym ((bytes_eq-Decides b a).1 (sym ((bytes_eq-Decides a b).0 e))) ∙ f))
    by false e true f = absurd (true≢false (sym ((bytes_eq-Decides a b).1 (sym ((bytes_eq-Decides b a).0 f))) ∙ e))

abbrev place_from : ℕ → List Entry → List ℕ → Option ℕ
place_from k entries name = position_from (λ e. bytes_eq name (name_of e)) k entries

place_least : (k : ℕ) (es : List Entry) (name : List ℕ) (p : ℕ) → place_from k es name ≡ Some p → k ≤ p
place_least k [] name p e = absurd cc
place_least k (x ∷ es) name p e = by (bytes_eq name (name_of x)) refl (place_least (k + 1) es name p)
  where
    by : (b : Bool) → bytes_eq name (name_of x) ≡ b → (place_from (k + 1) es name ≡ Some p → k + 1 ≤ p) → k ≤ p
    by true h g = let is : Some k ≡ Some p = rw h at e in let same : k ≡ p = cc in omega (arith, same)
    by false h g = let is : place_from (k + 1) es name ≡ Some p = rw h at e in let rest = g is in omega (arith, rest)

named_from : (k : ℕ) (es : List Entry) (name : List ℕ) (p : ℕ) → place_from k es name ≡ Some p → slice_get es (p - k) ≡ entry_named es name
named_from k [] name p e = absurd cc
named_from k (x ∷ es) name p e = by (bytes_eq name (name_of x)) refl (named_from (k + 1) es name p)
  where
    by : (b : Bool) → bytes_eq name (name_of x) ≡ b → (place_from (k + 1) es name ≡ Some p → slice_get es (p - (k + 1)) ≡ entry_named es name) → slice_get (x ∷ es) (p - k) ≡ entry_named (x ∷ es) name
    by true h g =
        let is : Some k ≡ Some p = rw h at e in
        let same : k ≡ p = cc in
        let none : p - k ≡ zero = omega (arith, same) in
        rw (turned (name_of x) name ∙ h) (ap (λ (n : ℕ). slice_get (x ∷ es) n) none)
    by false h g =
        let is : place_from (k + 1) es name ≡ Some p = rw h at e in
        let least = place_least (k + 1) es name p is in
        let step : p - k ≡ suc (p - (k + 1)) = omega (arith, least) in
        rw (turned (name_of x) name ∙ h) (ap (λ (n : ℕ). slice_get (x ∷ es) n) step ∙ g is)

named_at : (es : List Entry) (name : List ℕ) (p : ℕ) → entry_place es name ≡ Some p → slice_get es p ≡ entry_named es name
named_at es name p e =
    ap (λ (n : ℕ). slice_get es n) (omega arith)
    ∙ named_from 0 es name p (sym (position_from-zero (λ (x : Entry). bytes_eq name (name_of x)) es) ∙ e)

-- ---- what is kept

some_same : {A : Type 0} (x y : A) → Some x ≡ Some y → x ≡ y
some_same x y e = cc

pub written_at : (es : List Entry) (k : ℕ) (e : Entry) → AllWritten es → slice_get es k ≡ Some e → IsWritten e.header e.operation
written_at [] k e all at = absurd cc
written_at (x ∷ es) zero e all at = subst (λ (y : Entry). IsWritten y.header y.operation) (some_same x e at) all.0
written_at (x ∷ es) (suc k) e all at = written_at es k e all.1 at

kept_behind : (es : List Entry) (table : List (Instance × Lanes)) (p : Instance × Lanes) → AreKept es table → IsKept es p → AreKept es (table ++ p ∷ [])
kept_behind es [] p all one = (one, tt)
kept_behind es (x ∷ table) p all one = (all.0, kept_behind es table p all.1 one)

pub kept_more : (es : List Entry) (table new : List (Instance × Lanes)) (key : Instance) (e : Entry) (l : Lanes) → AreKept es table → slice_get es key.entry ≡ Some e → IsInstance e key.imm l
    → new ≡ table ++ (key, l) ∷ [] → AreKept es new
kept_more es table new key e l all at is grown =
    let one : IsKept es (key, l) = subst (λ (o : Option Entry). IsSomeAnd o (λ x. IsInstance x key.imm l)) (sym at) is in
    subst (λ (t : List (Instance × Lanes)). AreKept es t) (sym grown) (kept_behind es table (key, l) all one)

pub new_last : (eq : Instance → Instance → Bool) (table : List (Instance × Lanes)) (k : Instance) (l : Lanes) → is_some (lookup (eq k) table) ≡ false → insert_entry eq table k l ≡ table ++ (k, l) ∷ []
new_last eq [] k l none = refl
new_last eq (p ∷ ps) k l none = by (eq k p.0) refl (new_last eq ps k l)
  where
    by : (b : Bool) → eq k p.0 ≡ b → (is_some (lookup (eq k) ps) ≡ false → insert_entry eq ps k l ≡ ps ++ (k, l) ∷ []) → insert_entry eq (p ∷ ps) k l ≡ (p ∷ ps) ++ (k, l) ∷ []
    by true e g = let is : true ≡ false = rw e at none in absurd (true≢false is)
    by false e g = let rest : is_some (lookup (eq k) ps) ≡ false = rw e at none in rw e (ap (λ t. p ∷ t) (g rest))

pub if_found : {R : Type 0} (now : R → Lanes) (P : Lanes → Type 0) (r : Option R) (o : Option Lanes) → option_map now r ≡ o → ((l : Lanes) → Some l ≡ o → P l) → IfSome r (λ x. P (now x))
if_found now P None o e h = tt
if_found now P (Some x) o e h = h (now x) e

both_true : (x y : Bool) → (x && y) ≡ true → (x ≡ true) × (y ≡ true)
both_true true y e = (refl, e)
both_true false y e = absurd cc

-- a key that tests as another is it
pub same_key : (a b : Instance) → (a.entry == b.entry && a.imm == b.imm) ≡ true → b ≡ a
same_key a b e =
    let both = both_true (a.entry == b.entry) (a.imm == b.imm) e in
    let entry = eqb-true a.entry b.entry both.0 in
    let imm = eqb-true a.imm b.imm both.1 in
    λ i. record { entry = sym entry i; imm = sym imm i }

kept_found : (es : List Entry) (table : List (Instance × Lanes)) (test : Instance → Bool) (key : Instance) (l : Lanes) → ((d : Instance) → test d ≡ true → d ≡ key) → AreKept es table
    → lookup test table ≡ Some l → IsKept es (key, l)
kept_found es [] test key l decides all e = absurd cc
kept_found es (x ∷ table) test key l decides all e = by (test x.0) refl (kept_found es table test key l decides all.1)
  where
    by : (b : Bool) → test x.0 ≡ b → (lookup test table ≡ Some l → IsKept es (key, l)) → IsKept es (key, l)
    by true h g =
        let is : Some x.1 ≡ Some l = rw h at e in
        subst (λ (p : Instance × Lanes). IsKept es p) (λ i. (decides x.0 h i, some_same x.1 l is i)) all.0
    by false h g = let is : lookup test table ≡ Some l = rw h at e in g is

-- ---- what is kept of a name

forms_named : (o : Option Entry) (imm : Option ℕ) (l : Lanes) → IsSomeAnd o (λ e. IsInstance e (imm_number imm) l) → l.forms.items ≡ option_map_or (λ e. forms_of (lanes_of e imm)) o []
forms_named None imm l h = absurd h
forms_named (Some e) imm l h = h.forms

width_named : (o : Option Entry) (imm : Option ℕ) (l : Lanes) → IsSomeAnd o (λ e. IsInstance e (imm_number imm) l) → l.width ≡ option_map_or (λ e. e.header.lane_width) o 0
width_named None imm l h = absurd h
width_named (Some e) imm l h = h.width

none_named : (o : Option Entry) (imm : Option ℕ) (l : Lanes) → IsSomeAnd o (λ e. IsInstance e (imm_number imm) l) → l.is_opaque ≡ option_map_or (λ e. list_any is_opaque (lanes_of e imm)) o false
none_named None imm l h = absurd h
none_named (Some e) imm l h = h.none

answers : (es : List Entry) (name : List ℕ) (imm : Option ℕ) (l : Lanes) → IsSomeAnd (entry_named es name) (λ e. IsInstance e (imm_number imm) l) → Answers es name imm l
answers es name imm l h = record {
  forms = forms_named (entry_named es name) imm l h;
  width = width_named (entry_named es name) imm l h;
  none = none_named (entry_named es name) imm l h;
}

pub found_answers : (es : List Entry) (name : List ℕ) (imm : Option ℕ) (entry number : ℕ) (table : List (Instance × Lanes)) (test : Instance → Bool) (l : Lanes)
    → Some entry ≡ entry_place es name → number ≡ imm_number imm → AreKept es table
    → ((d : Instance) → test d ≡ true → d ≡ record { entry = entry; imm = number }) → Some l ≡ lookup test table → Answers es name imm l
found_answers es name imm entry number table test l place is all decides e =
    let kept = kept_found es table test (record { entry = entry; imm = number }) l decides all (sym e) in
    let named : IsSomeAnd (entry_named es name) (λ x. IsInstance x number l) = subst (λ (o : Option Entry). IsSomeAnd o (λ x. IsInstance x number l)) (named_at es name entry (sym place)) kept in
    answers es name imm l (subst (λ (n : ℕ). IsSomeAnd (entry_named es name) (λ x. IsInstance x n l)) is named)

-- ---- the terms of lanes

terms_on : (met : List Tree) (registers : List (List Bit)) (ls : List Lane) → flat_map (term_on met registers) ls ≡ map (form_on met registers) (forms_of ls)
terms_on met registers [] = refl
terms_on met registers (known t ∷ ls) = ap (λ ts. form_on met registers (canonical t) ∷ ts) (terms_on met registers ls)
terms_on met registers (big ∷ ls) = terms_on met registers ls
terms_on met registers (dynamic ∷ ls) = terms_on met registers ls

call_terms_on : (es : List Entry) (met : List Tree) (name : List ℕ) (imm : Option ℕ) (registers : List (List Bit))
    → call_terms es met name imm registers ≡ map (form_on met registers) (called_forms es name imm)
call_terms_on es met name imm registers = named (entry_named es name)
  where
    named : (o : Option Entry)
        → option_map_or (λ e. flat_map (term_on met registers) (lanes_of e imm)) o []
        ≡ map (form_on met registers) (option_map_or (λ e. forms_of (lanes_of e imm)) o [])
    named None = refl
    named (Some e) = terms_on met registers (lanes_of e imm)

pub called_is : (g : Given) (k mid new : Known) (name : List ℕ) (imm : Option ℕ) (vs : List ℕ) (l : Lanes) (forms made terms : List Tree) → Answers g.entries name imm l
    → forms ≡ l.forms.items → made ≡ map (form_on k.met (map (known_bits k) vs)) forms → mid ≡ k → terms ≡ made → new ≡ with_lanes mid l.width terms → new ≡ with_call g k name imm vs
called_is g k mid new name imm vs l forms made terms a own is same given e =
    let w = lane_bits g.entries name in
    let regs = map (known_bits k) vs in
    e ∙ ap (λ (m : Known). with_lanes m l.width terms) same
    ∙ ap (λ (n : ℕ). with_lanes k n terms) a.width
    ∙ ap (with_lanes k w) (given ∙ is ∙ ap (map (form_on k.met regs)) (own ∙ a.forms) ∙ sym (call_terms_on g.entries k.met name imm regs))

-- ---- the bits of terms

more_bits : (old mid new : List Run) (t : Tree) (ts : List Tree) (w : ℕ) → mid ≡ old ++ Bits t 0 w ∷ [] → bits_in new ≡ bits_in mid ++ bits_of_terms w ts → bits_in new ≡ bits_in old ++ bits_of_terms w (t ∷ ts)
more_bits old mid new t ts w grown more =
    more
    ∙ ap (λ bs. bs ++ bits_of_terms w ts) (ap bits_in grown ∙ bits_in_append old (Bits t 0 w ∷ []) ∙ ap (λ bs. bits_in old ++ bs) (append-nil (bits_from t 0 w)))
    ∙ append_assoc (bits_in old) (bits_from t 0 w) (bits_of_terms w ts)

pub bits_more : (terms : List Tree) (old mid new : List Run) (t f : Tree) (w : ℕ) → 1 ≤ length terms → t ≡ get_or terms 0 t → f ≡ t → mid ≡ old ++ Bits f 0 w ∷ []
    → bits_in new ≡ bits_in mid ++ bits_of_terms w (take (length terms - 1) (drop 1 terms)) → bits_in new ≡ bits_in old ++ bits_of_terms w terms
bits_more [] old mid new t f w some is shared grown more = absurd (omega (arith, some))
bits_more (x ∷ xs) old mid new t f w some is shared grown more =
    more_bits old mid new x xs w (grown ∙ ap (λ (y : Tree). old ++ Bits y 0 w ∷ []) (shared ∙ is)) (more ∙ ap (λ ts. bits_in mid ++ bits_of_terms w ts) (behind_is x xs))
