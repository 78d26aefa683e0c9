use Rattle.std.proofs.Common.{◌≡◌, ℕ, ◌<◌, ◌^◌, length, None, Some, List, ◌∷◌, [], ◌++◌, sym, ap, subst, ◌∙◌, arith}
use Rattle.std.specs.Map.{keys_of, lookup}
use Rattle.std.proofs.lemmas.Map.Entries.{length-keys_of}
use Rattle.indexmap.proofs.CallerLemmas.{insert_entry-new}
use Rattle.slab.specs.Slab.{Slab, Updates}
use Rattle.vg_pool.specs.declared.content.Content.{Content}
use Rattle.vg_pool.specs.declared.content.Entry.{Entry}
use Rattle.vg_pool.specs.Content.{NamesBelow, RootFits, rooted}
use Rattle.vg_pool.specs.Pool.{IsTable, StandsFor, Keeps, counted, trees_of}
use Rattle.vg_pool.specs.Laws.Equal.{eq}
use Rattle.vg_pool.proofs.Tables.{found_at, stands_at, reserved, table_grows, keys_next, stands, keeps}
use Rattle.vg_pool.proofs.pool.Pool.place.Goals as goal

pub returns-in-Some-clause-node : goal.returns-in-Some-clause-node
returns-in-Some-clause-node c =
    let es = c.self.inside.places.entries in
    let at = found_at c.args.content es c.in-Some.place.now c.in-Some.ensures.value in
    subst (λ (p : List Content). StandsFor p c.in-Some.place.now (rooted (trees_of p) c.args.content)) c.self.view_is
    (stands_at c.self.inside.nodes es c.self.invariant at.0 c.args.content c.in-Some.place.now at.1)

pub invariant_of-self-2 : goal.invariant_of-self-2
invariant_of-self-2 c =
    let es = c.self.inside.places.entries in
    let none : lookup (eq c.args.content) es ≡ None = sym c.in_default.ensures.value in
    let grown = c.in_ok-insert.ensures.entries ∙ insert_entry-new eq c.self.inside.places c.args.content c.len-node.result none in
    let number : c.len-node.result ≡ length es = c.len-node.ensures.len in
    let room : length es < 2 ^ 24 = omega arith in
    let view = sym c.self.view_is in
    let key : c.insert_reserved.result ≡ length es =
    c.insert_reserved.ensures.key ∙ ap (λ (s : Slab Entry). s.vacant_key) c.in_ok-reserve.ensures.rest_kept
    ∙ sym c.vacant_key-key.ensures.value ∙ c.if-key-node.false ∙ number
    in
    let new : Entry = record { content = c.args.content; count = c.count_of-count.result } in
    let updates =
    reserved c.self.inside.nodes c.reserve.new.self c.insert_reserved.new.self c.insert_reserved.result (Some new)
    c.in_ok-reserve.ensures.rest_kept c.insert_reserved.ensures.updates
    in
    let made =
    table_grows c.self.inside.nodes c.insert_reserved.new.self es c.args.content c.count_of-count.result c.self.invariant room
    (subst (λ (p : List Content). NamesBelow (length p) c.args.content) view c.requires.names)
    (subst (λ (p : List Content). RootFits (trees_of p) c.args.content) view c.requires.fits)
    none
    (subst (λ (p : List Content). c.count_of-count.result ≡ counted (rooted (trees_of p) c.args.content)) view c.count_of-count.ensures)
    (subst (λ (k : ℕ). Updates c.self.inside.nodes c.insert_reserved.new.self k (Some new)) key updates)
    in
    subst (IsTable c.insert_reserved.new.self) (sym (grown ∙ ap (λ (k : ℕ). es ++ (c.args.content, k) ∷ []) number)) made

pub returns-clause-node : goal.returns-clause-node
returns-clause-node c =
    let es = c.self.inside.places.entries in
    let none : lookup (eq c.args.content) es ≡ None = sym c.in_default.ensures.value in
    let grown = c.in_ok-insert.ensures.entries ∙ insert_entry-new eq c.self.inside.places c.args.content c.len-node.result none in
    let same = ap keys_of grown ∙ keys_next es c.args.content c.len-node.result in
    let all = same ∙ ap (λ (p : List Content). p ++ c.args.content ∷ []) c.self.view_is in
    let number : c.len-node.result ≡ length c.args.self.now = c.len-node.ensures.len ∙ sym (length-keys_of es) ∙ ap length c.self.view_is in
    subst (λ (p : List Content). StandsFor p c.len-node.result (rooted (trees_of c.args.self.now) c.args.content)) (sym all)
    (stands c.args.self.now c.args.content c.len-node.result number)

pub returns-clause-keeps : goal.returns-clause-keeps
returns-clause-keeps c =
    let es = c.self.inside.places.entries in
    let none : lookup (eq c.args.content) es ≡ None = sym c.in_default.ensures.value in
    let grown = c.in_ok-insert.ensures.entries ∙ insert_entry-new eq c.self.inside.places c.args.content c.len-node.result none in
    let same = ap keys_of grown ∙ keys_next es c.args.content c.len-node.result in
    let all = same ∙ ap (λ (p : List Content). p ++ c.args.content ∷ []) c.self.view_is in
    subst (Keeps c.args.self.now) (sym all) (keeps c.args.self.now c.args.content)
