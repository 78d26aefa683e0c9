-- What is read as a file is one.
use Rattle.std.proofs.Common.{◌≡◌, ℕ, zero, suc, ◌+◌, ◌≤◌, true, List, [], ◌∷◌, ◌++◌, length, Result, Ok, Err, refl, sym, ◌∙◌, ap, subst, inl, inr, append_assoc, append-nil, arith}
use Rattle.std.specs.Prelude.{nat_lt, nat_le, is_ok}
use Rattle.vg_base.proofs.Bind.{bind_ok, tested_ok, refused_ok, either_way}
use Rattle.vg_text.specs.declared.place.Place.{Place}
use Rattle.vg_text.specs.Token.{Lexemes, token, finish, fault}
use Rattle.vg_text.specs.Words.{Reading, Spelled, reading_of}
use Rattle.vg_pseudo.specs.declared.header.Header.{Header}
use Rattle.vg_pseudo.specs.Operations.{operation_at}
use Rattle.vg_pseudo.specs.declared.fault.PseudoFault.{PseudoFault}
use Rattle.vg_pseudo.proofs.Taking.{ok_once}
use Rattle.vg_pseudo_laws.proofs.OperationsFound.{operation-found}
use Rattle.vg_interval.specs.declared.fault.RangeFault.{RangeFault}
use Rattle.vg_range.specs.Acceptance.{checked}
use Rattle.vg_catalog.specs.declared.fault.CatalogFault.{CatalogFault}
use Rattle.vg_catalog.specs.Words.{next_word}
use Rattle.vg_catalog.specs.Headers.{header_at}
use Rattle.vg_catalog.specs.Entries.{Entry, is_known, instances, instances_of}
use Rattle.vg_catalog.specs.Files.{as_text, as_judged, counted, judged, end_from, entry_at, entries_from, file_of}
use Rattle.vg_catalog.specs.Grammar.{IsEntryText, AreEntries, IsFile}
use Rattle.vg_catalog.proofs.HeaderWords.{end_at}
use Rattle.vg_catalog.proofs.HeadersFound.{header-found}
use Rattle.vg_catalog.proofs.Standing.{true-le}

text-some : {X : Type 0} (r : Result X PseudoFault) (x : X) → as_text r ≡ Ok x → r ≡ Ok x
text-some (Ok y) x e = ap Ok (ok_once y x e)
text-some (Err f) x e = cc

judged-some : {X : Type 0} (r : Result X RangeFault) (x : X) → as_judged r ≡ Ok x → is_ok r ≡ true
judged-some (Ok y) x e = refl
judged-some (Err f) x e = cc

-- an entry was read after those that are done
record FoundEntry (done : List Entry) (r : Reading) (x : List Entry × Reading) : Type 0 where
  entry : Entry
  is : IsEntryText done r entry x.1
  all : x.0 ≡ done ++ entry ∷ []

entry-found : (place : Place) (done : List Entry) (r : Reading) (x : List Entry × Reading) → entry_at place done r ≡ Ok x → FoundEntry done r x
unfolding entry_at
entry-found place done r x e =
    let h = bind_ok (header_at (is_known done) r) _ e in
    let c = bind_ok (counted place done h.0.0) _ h.2 in
    let o = bind_ok (as_text (operation_at h.0.1)) _ c.2 in
    let j = bind_ok (judged c.0 o.0.0) _ o.2 in
    let room = tested_ok (nat_le (instances done + instances_of h.0.0.imm) 4096) (Ok h.0.0) _ c.1 in
    let same : h.0.0 ≡ c.0 = ok_once h.0.0 c.0 room.1 in
    let k = bind_ok (as_judged (checked c.0 o.0.0)) _ j.1 in
    let header = header-found (is_known done) r h.0 h.1 in
    subst (FoundEntry done r) (ok_once _ x j.2)
    (record {
      entry = j.0;
      is = subst (λ (f : Entry). IsEntryText done r f o.0.1) (ap (λ (g : Header). (let f : Entry = record { header = g; operation = o.0.0 } in f)) same ∙ ok_once _ j.0 k.2)
          (record {
            words = header.words;
            middle = h.0.1;
            stand = header.reads.stand;
            is_header = header.is;
            few = true-le _ _ room.0;
            is_operation = operation-found h.0.1 o.0.0 o.0.1 (text-some (operation_at h.0.1) o.0 o.1);
            is_accepted = ap (λ (g : Header). is_ok (checked g o.0.0)) same ∙ judged-some (checked c.0 o.0.0) k.0 k.1;
          });
      all = refl;
    })

-- entries were read after those that are done
record FoundEntries (done : List Entry) (room : ℕ) (r : Reading) (x : List Entry) : Type 0 where
  entries : List Entry
  are : AreEntries done r entries
  few : length entries ≤ room
  all : x ≡ done ++ entries

ended : (done : List Entry) (room : ℕ) (r : Reading) (w : Spelled × Reading) (x : List Entry) → next_word r ≡ Ok w → w.0.is_end ≡ true → (let whole : Result (List Entry) CatalogFault = Ok done in whole ≡ Ok x) → FoundEntries done room r x
ended done room r w x read end e = record { entries = []; are = (w.0, w.1, read, end); few = omega arith; all = sym (ok_once done x e) ∙ sym (append-nil done) }

more : (done : List Entry) (room : ℕ) (r : Reading) (y : List Entry × Reading) (x : List Entry) → FoundEntry done r y → FoundEntries y.0 room y.1 x → FoundEntries done (suc room) r x
more done room r y x one rest =
    let behind : FoundEntries (done ++ one.entry ∷ []) room y.1 x = subst (λ (l : List Entry). FoundEntries l room y.1 x) one.all rest in
    record {
      entries = one.entry ∷ behind.entries;
      are = (y.1, one.is, behind.are);
      few = (let few = behind.few in omega arith);
      all = behind.all ∙ append_assoc done (one.entry ∷ []) behind.entries;
    }

last-found : (done : List Entry) (text : List ℕ) (left : Lexemes) (x : List Entry) → end_from text left done ≡ Ok x → FoundEntries done zero (record { text = text; left = left }) x
last-found done text (token t rest) x e = absurd (cc)
last-found done text (finish t) x e = ended done zero (record { text = text; left = finish t }) (end_at t.place, record { text = text; left = finish t }) x refl refl e
last-found done text (fault p) x e = absurd (cc)

entries-found : (room : ℕ) (done : List Entry) (r : Reading) (x : List Entry) → entries_from room done r ≡ Ok x → FoundEntries done room r x
unfolding entries_from
entries-found zero done r x e = last-found done r.text r.left x e
entries-found (suc room) done r x e =
    let w = bind_ok (next_word r) _ e in
    elim (either_way w.0.0.is_end (Ok done) _ w.2) [
      | inl end ↦ ended done (suc room) r w.0 x w.1 end.0 end.1
      | inr other ↦
          let y = bind_ok (entry_at w.0.0.place done r) _ other.1 in
          more done room r y.0 x (entry-found w.0.0.place done r y.0 y.1) (entries-found room y.0.0 y.0.1 x y.2)
    ]

pub file-found : (text : List ℕ) (entries : List Entry) → file_of text ≡ Ok entries → IsFile text entries
unfolding file_of
file-found text entries e =
    let t = refused_ok (nat_lt 1048576 (length text)) _ _ e in
    let f = entries-found 1024 [] (reading_of text) entries t.1 in
    record {
      short = grind arith;
      few = subst (λ (l : List Entry). length l ≤ 1024) (sym f.all) f.few;
      are = subst (λ (l : List Entry). AreEntries [] (reading_of text) l) (sym f.all) f.are;
    }
