-- What a use adds to the values of an id.
use Rattle.std.proofs.Common.{◌≡◌, ◌∙◌, ap, Bool, true, false, ℕ, List, [], ◌∷◌, ◌++◌, Some, None, refl, sym, subst, option_map, cond, ◌||◌}
use Rattle.std.specs.Prelude.{unwrap_or, find}
use Rattle.std.specs.Str.{bytes_eq}
use Rattle.std.proofs.lemmas.Slice.Eq.{bytes_eq-Decides}
use Rattle.clap.specs.Walk.{Row, Rule, Text, all_of, one_of, at_row, more_values, with_values, with_default, without, has_row, is_empty}
use Rattle.clap.specs.declared.parser.matches.ValueSource.{ValueSource}
use Rattle.clap.specs.Values.{read_as}
use Rattle.clap.specs.declared.builder.value_parser.Reading.{Reading}

abbrev pub vals : Text → List Row → List Text
vals id rows = unwrap_or (all_of id rows) []

pub same_id : (id : Text) (how : Reading) (s : ValueSource) (vs : List Text) (rows : List Row) → bytes_eq id id ≡ true → vals id (with_values id how s vs rows) ≡ vals id rows ++ vs
same_id id how s vs [] e = rw e refl
same_id id how s vs (r ∷ rs) e = by (same_id id how s vs rs e) (bytes_eq r.id id) refl
  where
    by : vals id (with_values id how s vs rs) ≡ vals id rs ++ vs → (b : Bool) → bytes_eq r.id id ≡ b → vals id (with_values id how s vs (r ∷ rs)) ≡ vals id (r ∷ rs) ++ vs
    by rest true is = rw (is, is) refl
    by rest false is = rw (is, is) rest

pub other_id : (id own : Text) (how : Reading) (s : ValueSource) (vs : List Text) (rows : List Row) → bytes_eq own id ≡ false → vals id (with_values own how s vs rows) ≡ vals id rows
other_id id own how s vs [] e = rw e refl
other_id id own how s vs (r ∷ rs) e = by (other_id id own how s vs rs e) (bytes_eq r.id own) refl (bytes_eq r.id id) refl
  where
    by : vals id (with_values own how s vs rs) ≡ vals id rs → (b : Bool) → bytes_eq r.id own ≡ b → (c : Bool) → bytes_eq r.id id ≡ c → vals id (with_values own how s vs (r ∷ rs)) ≡ vals id (r ∷ rs)
    by rest true is c at =
        let not_id : bytes_eq r.id id ≡ false = subst (λ t. bytes_eq t id ≡ false) (sym ((bytes_eq-Decides r.id own).0 is)) e in
        rw (is, not_id) refl
    by rest false is true at = rw (is, at) refl
    by rest false is false at = rw (is, at) rest

pub no_default : (rows : List Row) (a : Rule) → a.defaults ≡ [] → with_default rows a ≡ rows
no_default rows a none = by (has_row a.id rows) refl
  where
    by : (b : Bool) → has_row a.id rows ≡ b → with_default rows a ≡ rows
    by true is = rw is refl
    by false is = rw (is, none) refl

-- where there is no row of an id, none is left out
pub none_without : (id : Text) (rows : List Row) → has_row id rows ≡ false → without id rows ≡ rows
none_without id [] e = refl
none_without id (r ∷ rs) e = by (none_without id rs) (bytes_eq r.id id) refl
  where
    by : (has_row id rs ≡ false → without id rs ≡ rs) → (b : Bool) → bytes_eq r.id id ≡ b → without id (r ∷ rs) ≡ r ∷ rs
    by others true is =
        let bad : true ≡ false = rw is at e in
        cc
    by others false is =
        let rest : has_row id rs ≡ false = rw is at e in
        rw is (ap (λ l. r ∷ l) (others rest))

pub other_row : (id own : Text) (how : Reading) (s : ValueSource) (vs : List Text) (rows : List Row) → bytes_eq own id ≡ false → has_row id (with_values own how s vs rows) ≡ has_row id rows
other_row id own how s vs [] e = rw e refl
other_row id own how s vs (r ∷ rs) e = by (other_row id own how s vs rs e) (bytes_eq r.id own) refl
  where
    by : has_row id (with_values own how s vs rs) ≡ has_row id rs → (b : Bool) → bytes_eq r.id own ≡ b → has_row id (with_values own how s vs (r ∷ rs)) ≡ has_row id (r ∷ rs)
    by rest true is = rw is refl
    by rest false is = rw is (ap (λ b. bytes_eq r.id id || b) rest)

-- the text of a flag
pub other_one : (id own : Text) (how : Reading) (s : ValueSource) (vs : List Text) (rows : List Row) → bytes_eq own id ≡ false → one_of id (with_values own how s vs rows) ≡ one_of id rows
other_one id own how s vs [] e = rw e refl
other_one id own how s vs (r ∷ rs) e = by (other_one id own how s vs rs e) (bytes_eq r.id own) refl (bytes_eq r.id id) refl
  where
    by : one_of id (with_values own how s vs rs) ≡ one_of id rs → (b : Bool) → bytes_eq r.id own ≡ b → (c : Bool) → bytes_eq r.id id ≡ c → one_of id (with_values own how s vs (r ∷ rs)) ≡ one_of id (r ∷ rs)
    by rest true is c at =
        let not_id : bytes_eq r.id id ≡ false = subst (λ t. bytes_eq t id ≡ false) (sym ((bytes_eq-Decides r.id own).0 is)) e in
        rw (is, not_id) refl
    by rest false is true at = rw (is, at) refl
    by rest false is false at = rw (is, at) rest

pub first_row : (id : Text) (how : Reading) (s : ValueSource) (v : Text) (rows : List Row) → bytes_eq id id ≡ true → has_row id rows ≡ false
    → (has_row id (with_values id how s (v ∷ []) rows) ≡ true) × (one_of id (with_values id how s (v ∷ []) rows) ≡ Some (read_as how v))
first_row id how s v [] same none = (rw same refl, rw same refl)
first_row id how s v (r ∷ rs) same none = by (first_row id how s v rs same) (bytes_eq r.id id) refl
  where
    by : (has_row id rs ≡ false → (has_row id (with_values id how s (v ∷ []) rs) ≡ true) × (one_of id (with_values id how s (v ∷ []) rs) ≡ Some (read_as how v)))
        → (b : Bool) → bytes_eq r.id id ≡ b → (has_row id (with_values id how s (v ∷ []) (r ∷ rs)) ≡ true) × (one_of id (with_values id how s (v ∷ []) (r ∷ rs)) ≡ Some (read_as how v))
    by others true is =
        let bad : true ≡ false = rw is at none in
        absurd (cc)
    by others false is =
        let behind : has_row id rs ≡ false = rw is at none in
        let rest = others behind in
        let step : with_values id how s (v ∷ []) (r ∷ rs) ≡ r ∷ with_values id how s (v ∷ []) rs = rw is refl in
        (rw (step, is) rest.0, rw (step, is) rest.1)
