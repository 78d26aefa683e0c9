use Rattle.std.proofs.Common.{◌≡◌, List, ◌∷◌, [], ◌++◌, refl, sym, ap, subst, ◌∙◌, map, None, length}
use Rattle.std.specs.Map.{lookup}
use Rattle.std.proofs.lemmas.List.{map-append}
use Rattle.indexmap.proofs.CallerLemmas.{insert_entry-new}
use Rattle.vg_catalog.specs.Entries.{Entry, entry_of}
use Rattle.vg_machine.specs.declared.instances.KeptInstance.{KeptInstance}
use Rattle.vg_machine.specs.ReadyInstance.{ReadyInstance, Placed, AreKept, AreFound, kept_of}
use Rattle.vg_machine.proofs.Calls.{map-length}
use Rattle.vg_machine.proofs.Planning.{written_at, same_key, found_stands, placed_new, is_kept, kept_more, found_more}
use Rattle.vg_machine.proofs.planner.Planner.place.Goals as goal

pub returns-in-Some-clause-placed : goal.returns-in-Some-clause-placed
returns-in-Some-clause-placed c = record {
  same = refl;
  stays = λ at k e. e;
  stands = found_stands _ c.args.called c.args.self.now.places.entries (map kept_of c.args.self.now.kept.items) c.in-Some.place.now (λ d e. same_key c.args.called d e) c.requires.sound.1 c.in-Some.ensures.value;
}

pub ready_for-requires : goal.ready_for-requires
ready_for-requires c = written_at (map entry_of c.args.self.now.entries.entries.now) c.args.called.entry (entry_of c.entry_at-checked.result.now) c.requires.written c.entry_at-checked.ensures

pub returns-clause-placed : goal.returns-clause-placed
returns-clause-placed c =
    let es = map entry_of c.args.self.now.entries.entries.now in
    let all = c.args.self.now.kept.items in
    let one : KeptInstance = record { called = c.args.called; prepared = c.in_ok-prepared.prepared } in
    let grown : map kept_of c.push.new.self.items ≡ map kept_of all ++ kept_of one ∷ [] = ap (map kept_of) c.in_ok-push.ensures.items ∙ map-append kept_of all (one ∷ []) in
    let count = ap length c.as_slice-place.ensures.value ∙ sym (map-length kept_of all) in
    subst (λ (ks : List ReadyInstance). Placed (record { entries = es; kept = map kept_of all }) (record { entries = es; kept = ks }) c.args.called (length c.as_slice-place.result.now)) (sym grown)
    (placed_new es (map kept_of all) (kept_of one) (length c.as_slice-place.result.now) count)

pub returns-clause-sound : goal.returns-clause-sound
returns-clause-sound c =
    let es = map entry_of c.args.self.now.entries.entries.now in
    let all = c.args.self.now.kept.items in
    let one : KeptInstance = record { called = c.args.called; prepared = c.in_ok-prepared.prepared } in
    let grown : map kept_of c.push.new.self.items ≡ map kept_of all ++ kept_of one ∷ [] = ap (map kept_of) c.in_ok-push.ensures.items ∙ map-append kept_of all (one ∷ []) in
    let count = ap length c.as_slice-place.ensures.value ∙ sym (map-length kept_of all) in
    let table = c.in_ok-insert.ensures.entries ∙ insert_entry-new _ c.args.self.now.places c.args.called (length c.as_slice-place.result.now) (sym c.in_default.ensures.value) in
    let kept = kept_more es (map kept_of all) (kept_of one) c.requires.sound.0 (is_kept es (kept_of one) (entry_of c.entry_at-checked.result.now) c.entry_at-checked.ensures c.in_ok-prepared.ensures) in
    let found = found_more c.args.self.now.places.entries c.insert.new.self.entries (map kept_of all) (kept_of one) (length c.as_slice-place.result.now) count table c.requires.sound.1 in (
      subst (λ (ks : List ReadyInstance). AreKept es ks) (sym grown) kept,
      subst (λ (ks : List ReadyInstance). AreFound c.insert.new.self.entries ks) (sym grown) found,
    )
