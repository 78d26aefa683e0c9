-- The tables of a pool stay such as it grows by a content that it has not.
use Rattle.std.proofs.Common.{◌≡◌, ◌≢◌, ℕ, zero, suc, ◌<◌, ◌^◌, List, [], ◌∷◌, ◌++◌, length, get_or, refl, sym, ◌∙◌, ap, subst, arith, Bool, true, false, Some, None, Option, slice_get, ◌⊎◌, inl, inr, true≢false}
use Rattle.std.specs.Map.{keys_of, lookup}
use Rattle.std.proofs.lemmas.Option.{slice_get_within, slice_get-get_or}
use Rattle.std.proofs.lemmas.List.{map-append}
use Rattle.std.proofs.lemmas.Map.Entries.{length-keys_of, place_from_lookup}
use Rattle.std.proofs.Math.ListN.{length-append}
use Rattle.slab.specs.Slab.{Slab, get, Updates}
use Rattle.vg_terms.specs.Term.{IsWidth, width_of}
use Rattle.vg_pool.specs.declared.content.Content.{Content}
use Rattle.vg_pool.specs.declared.content.Content.TheVariants.{Const}
use Rattle.vg_pool.specs.declared.content.Entry.{Entry}
use Rattle.vg_pool.specs.Content.{NamesBelow, RootFits, content_width, rooted}
use Rattle.vg_pool.specs.Pool.{IsPool, IsEntry, IsTable, StandsFor, Keeps, trees_of, tree_at, counted}
use Rattle.vg_pool.proofs.Trees.{kept, last, rooted_kept, names_more, content_width-rooted, is_width}
use Rattle.vg_pool.specs.Laws.Equal.{eq, own, same}
use Rattle.vg_pool.proofs.Grown.{same_content, grows}

-- a place that is found by its key
pub found_at : (d : Content) (es : List (Content × ℕ)) (place : ℕ) → Some place ≡ lookup (eq d) es
    → (i : ℕ) × (slice_get es i ≡ Some (d, place))
found_at d es place p =
    let q = place_from_lookup (eq d) es place (sym p) in
    (q.0, q.2 ∙ ap (λ (k : Content). Some (k, place)) (sym (same d q.1 q.3)))

-- a list with one item more, at each place
pub push_at : {X : Type 0} (xs : List X) (x y : X) (i : ℕ) → slice_get (xs ++ x ∷ []) i ≡ Some y
    → ((i < length xs) × (slice_get xs i ≡ Some y)) ⊎ ((i ≡ length xs) × (x ≡ y))
push_at [] x y zero h = inr (refl, (cc))
push_at [] x y (suc i) h = absurd (cc)
push_at (z ∷ xs) x y zero h = inl (omega arith, h)
push_at (z ∷ xs) x y (suc i) h =
    elim (push_at xs x y i h) as
    (λ _. ((suc i < length (z ∷ xs)) × (slice_get (z ∷ xs) (suc i) ≡ Some y)) ⊎ ((suc i ≡ length (z ∷ xs)) × (x ≡ y)))
    [ inl p ↦ inl (omega (arith, p.0), p.1) | inr q ↦ inr (omega (arith, q.0), q.1) ]

-- a key that is not found is none of the list
apart_behind : (test : Content → Bool) (y : Content × ℕ) (es : List (Content × ℕ)) (x : Content × ℕ) (b : Bool)
    → test y.0 ≡ b → lookup test (y ∷ es) ≡ None → (i : ℕ) → slice_get (y ∷ es) i ≡ Some x
    → (lookup test es ≡ None → (k : ℕ) → slice_get es k ≡ Some x → test x.0 ≡ false) → test x.0 ≡ false
apart_behind test y es x true e none i at rest =
    let no : lookup test (y ∷ es) ≡ Some y.1 = rw e refl in
    absurd (cc)
apart_behind test y es x false e none zero at rest =
    let q : y ≡ x = cc in
    subst (λ (z : Content × ℕ). test z.0 ≡ false) q e
apart_behind test y es x false e none (suc i) at rest =
    let behind : lookup test es ≡ None = rw e at none in
    rest behind i at

pub apart : (test : Content → Bool) (es : List (Content × ℕ)) (x : Content × ℕ) → lookup test es ≡ None
    → (i : ℕ) → slice_get es i ≡ Some x → test x.0 ≡ false
apart test [] x none i at = absurd (cc)
apart test (y ∷ es) x none i at = apart_behind test y es x (test y.0) refl none i at (apart test es x)

-- the keys with a place more
pub keys_next : (es : List (Content × ℕ)) (d : Content) (place : ℕ)
    → keys_of (es ++ (d, place) ∷ []) ≡ keys_of es ++ d ∷ []
keys_next es d place = map-append (λ (x : Content × ℕ). x.0) es ((d, place) ∷ [])

-- what a node's place says of it
module _ (nodes : Slab Entry) (es : List (Content × ℕ)) (h : IsTable nodes es) (node : ℕ) (d : Content) (place : ℕ)
    (at : slice_get es node ≡ Some (d, place)) where
  abbrev pool : List Content
  pool = keys_of es

  within : node < length pool
  within = let lt = slice_get_within es node (d, place) at in omega (arith, lt, length-keys_of es)

  -- it stands for the content's tree
  pub stands_at : StandsFor (keys_of es) place (rooted (trees_of (keys_of es)) d)
  stands_at =
      subst (λ (k : ℕ). StandsFor pool k (rooted (trees_of pool) d)) (sym (h.place node d place at))
      (record { within = within; is = sym (h.entry node d place at).2.is })

  pub width_at : IsWidth (content_width d)
  width_at =
      let is = (h.entry node d place at).2.is in
      subst IsWidth (sym (content_width-rooted (trees_of pool) d ∙ ap width_of is))
      (is_width (tree_at pool node) (h.pool.well_formed node within))

-- what is read at a number is the node's content and count
module _ (nodes : Slab Entry) (es : List (Content × ℕ)) (h : IsTable nodes es) (node : ℕ) (lt : node < length (keys_of es)) where
  abbrev item : Content × ℕ
  item = get_or es node (Const 0 0, 0)

  placed : slice_get es node ≡ Some (item.0, item.1)
  placed = let le : node < length es = omega (arith, lt, length-keys_of es) in slice_get-get_or es node (Const 0 0, 0) le

  is_read : (read : Entry) → Some read ≡ get nodes node → read ≡ record { content = item.0; count = (h.entry node item.0 item.1 placed).0 }
  is_read read at = let e = (h.entry node item.0 item.1 placed).1 in cc

  pub present : None ≡ get nodes node → ⊥
  present none = let e = (h.entry node item.0 item.1 placed).1 in cc

  pub entry_at : (read : Entry) → Some read ≡ get nodes node → IsEntry (keys_of es) node read.content read.count
  entry_at read at =
      subst (λ (r : Entry). IsEntry (keys_of es) node r.content r.count) (sym (is_read read at)) (h.entry node item.0 item.1 placed).2

  pub width_read : (read : Entry) → Some read ≡ get nodes node → IsWidth (content_width read.content)
  width_read read at =
      subst (λ (r : Entry). IsWidth (content_width r.content)) (sym (is_read read at)) (width_at nodes es h node item.0 item.1 placed)

-- the tables with a content more that they did not have
module _ (nodes new : Slab Entry) (es : List (Content × ℕ)) (d : Content) (count : ℕ) (h : IsTable nodes es)
    (room : length es < 2 ^ 24) (names : NamesBelow (length (keys_of es)) d) (fits : RootFits (trees_of (keys_of es)) d)
    (none : lookup (eq d) es ≡ None) (counts : count ≡ counted (rooted (trees_of (keys_of es)) d))
    (updates : Updates nodes new (length es) (Some (record { content = d; count = count }))) where
  abbrev contents : List Content
  contents = keys_of es

  abbrev next : List (Content × ℕ)
  next = es ++ (d, length es) ∷ []

  same_keys : keys_of next ≡ contents ++ d ∷ []
  same_keys = keys_next es d (length es)

  fresh : (node : ℕ) → node < length contents → tree_at contents node ≡ rooted (trees_of contents) d → ⊥
  fresh node lt same_tree =
      let le : node < length es = omega (arith, length-keys_of es) in
      let at : slice_get es node ≡ Some (get_or es node (d, 0)) = slice_get-get_or es node (d, 0) le in
      let x : Content × ℕ = get_or es node (d, 0) in
      let entry = (h.entry node x.0 x.1 at).2 in
      let below : NamesBelow (length contents) x.0 =
      names_more node (length contents) x.0 (omega arith) entry.names
      in
      let e : d ≡ x.0 = same_content contents h.pool d x.0 names below (sym same_tree ∙ sym entry.is) in
      true≢false (sym (own d) ∙ ap (eq d) e ∙ apart (eq d) es x none node at)

  abbrev Stored : ℕ → Content → Type 0
  Stored node e =
      (n : ℕ) × (get new node ≡ Some (record { content = e; count = n })) × IsEntry (contents ++ d ∷ []) node e n

  old : (node : ℕ) (e : Content) (place : ℕ) → node < length es → slice_get es node ≡ Some (e, place) → Stored node e
  old node e place lt at =
      let stored = h.entry node e place at in
      let entry = stored.2 in
      let le : node < length contents = omega (arith, length-keys_of es) in
      let below : NamesBelow (length contents) e = names_more node (length contents) e (omega arith) entry.names in
      let other : node ≢ length es = omega arith in (
        stored.0,
        updates.others node other ∙ stored.1,
        record {
          names = entry.names;
          is = rooted_kept contents d e below ∙ entry.is ∙ sym (kept contents d node le);
          counts = entry.counts ∙ ap counted (sym (kept contents d node le));
        },
      )

  stored_new : Stored (length es) d
  stored_new =
      let place : length contents ≡ length es = length-keys_of es in (
        count,
        updates.changed,
        subst (λ (k : ℕ). IsEntry (contents ++ d ∷ []) k d count) place (record {
          names = names;
          is = rooted_kept contents d d names ∙ sym (last contents d (length contents) refl);
          counts = counts ∙ ap counted (sym (last contents d (length contents) refl));
        }),
      )

  entry_next : (node : ℕ) (e : Content) (place : ℕ) → slice_get next node ≡ Some (e, place) → Stored node e
  entry_next node e place at =
      elim (push_at es (d, length es) (e, place) node at) as (λ _. Stored node e) [
        | inl p ↦ old node e place p.0 p.1
        | inr q ↦
            subst (λ (k : ℕ). Stored k e) (sym q.0)
            (subst (Stored (length es)) (ap (λ (x : Content × ℕ). x.0) q.1) stored_new)
      ]

  place_next : (node : ℕ) (e : Content) (place : ℕ) → slice_get next node ≡ Some (e, place) → place ≡ node
  place_next node e place at =
      elim (push_at es (d, length es) (e, place) node at) as (λ _. place ≡ node) [
        | inl p ↦ h.place node e place p.1
        | inr q ↦ sym (ap (λ (x : Content × ℕ). x.1) q.1) ∙ sym q.0
      ]

  pub table_grows : IsTable new (es ++ (d, length es) ∷ [])
  table_grows = record {
    pool =
        subst IsPool (sym same_keys)
        (grows contents d h.pool (omega (arith, length-keys_of es)) names fits fresh);
    place = place_next;
    entry = λ node e place at.
        let stored = entry_next node e place at in
        (stored.0, stored.1, subst (λ (p : List Content). IsEntry p node e stored.0) (sym same_keys) stored.2);
  }

-- room that was made leaves what each key has
pub reserved : (nodes middle new : Slab Entry) (key : ℕ) (slot : Option Entry)
    → middle ≡ record nodes { capacity = middle.capacity } → Updates middle new key slot → Updates nodes new key slot
reserved nodes middle new key slot same_slots updates = record {
  changed = updates.changed;
  others = λ other differs. updates.others other differs ∙ ap (λ (s : Slab Entry). get s other) same_slots;
}

-- a node more: it stands for its tree, and the others are kept
pub stands : (pool : List Content) (d : Content) (node : ℕ) → node ≡ length pool
    → StandsFor (pool ++ d ∷ []) node (rooted (trees_of pool) d)
stands pool d node e = record { within = omega (arith, length-append pool (d ∷ [])); is = last pool d node e }

pub keeps : (pool : List Content) (d : Content) → Keeps pool (pool ++ d ∷ [])
keeps pool d = record {
  nodes = omega (arith, length-append pool (d ∷ []));
  trees = λ node lt. kept pool d node lt;
}
