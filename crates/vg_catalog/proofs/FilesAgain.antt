-- Files that are in the language are read.
use Rattle.std.proofs.Common.{◌≡◌, ℕ, zero, suc, ◌+◌, ◌≤◌, true, false, List, [], ◌∷◌, ◌++◌, length, Result, Ok, Err, refl, sym, ◌∙◌, ap, subst, append_assoc, append-nil, arith, true≢false}
use Rattle.std.specs.Prelude.{nat_lt, nat_le, is_ok, codes}
use Rattle.vg_base.proofs.Bind.{bind_ok, bind_to}
use Rattle.vg_text.specs.declared.place.Place.{Place}
use Rattle.vg_text.specs.Token.{Lexemes, token, finish, fault}
use Rattle.vg_text.specs.Words.{Reading, Spelled, reading_of}
use Rattle.vg_pseudo.specs.Operations.{operation_at}
use Rattle.vg_pseudo.proofs.Taking.{ok_once}
use Rattle.vg_pseudo_laws.proofs.OperationsAgain.{operation-again}
use Rattle.vg_range.specs.Acceptance.{checked}
use Rattle.vg_catalog.specs.Words.{next_word, word_from, end_of_word}
use Rattle.vg_catalog.specs.Headers.{header_at}
use Rattle.vg_catalog.specs.Entries.{Entry, is_known, instances, instances_of}
use Rattle.vg_catalog.specs.Files.{as_text, counted, judged, end_from, entry_at, entries_from, file_of}
use Rattle.vg_catalog.specs.Grammar.{IsEntryText, AreEntries, IsFile}
use Rattle.vg_catalog.proofs.Standing.{Reads, next-again, le-true}
use Rattle.vg_catalog.proofs.HeadersAgain.{header-again}

ok_some : {X E : Type 0} (r : Result X E) → is_ok r ≡ true → (x : X) × (r ≡ Ok x)
ok_some (Ok x) e = (x, refl)
ok_some (Err f) e = cc

entry-again : (place : Place) (done : List Entry) (r q : Reading) (e : Entry) → IsEntryText done r e q → entry_at place done r ≡ Ok (done ++ e ∷ [], q)
unfolding entry_at
entry-again place done r q e is =
    let accepted = ok_some (checked e.header e.operation) is.is_accepted in
    let fits : nat_le (instances done + instances_of e.header.imm) 4096 ≡ true = le-true _ _ is.few in
    bind_to (header_at (is_known done) r) _ (header-again (is_known done) is.words e.header r is.middle is.is_header (record { stand = is.stand }))
    (bind_to (counted place done e.header) _ (rw fits refl)
    (bind_to (as_text (operation_at is.middle)) _ (rw (operation-again is.middle e.operation q is.is_operation) refl)
    (bind_to (judged e.header e.operation) _ (rw accepted.1 refl) refl)))

-- a word with bytes is not the end
real-word : (r : Reading) (x : Spelled × Reading) → next_word r ≡ Ok x → (x.0.bytes ≡ [] → ⊥) → x.0.is_end ≡ false
real-word r x e some = by r.text r.left e
  where
    by : (text : List ℕ) (ls : Lexemes) → word_from text ls ≡ Ok x → x.0.is_end ≡ false
    by text (token t rest) e =
        let w = bind_ok (end_of_word text t.end rest) _ e in
        sym (ap (λ (y : Spelled × Reading). y.0.is_end) (ok_once _ x w.2))
    by text (finish t) e = absurd (some (sym (ap (λ (y : Spelled × Reading). y.0.bytes) (ok_once _ x e))))
    by text (fault p) e = cc

-- an entry begins with a word that is not the end
record Begins (r : Reading) : Type 0 where
  word : Spelled
  behind : Reading
  next : next_word r ≡ Ok (word, behind)
  goes_on : word.is_end ≡ false

entry-begins : (done : List Entry) (r q : Reading) (e : Entry) → IsEntryText done r e q → Begins r
entry-begins done r q e is =
    let reads : Reads is.words r is.middle = record { stand = is.stand } in
    let a = next-again (subst (λ ws. Reads ws r is.middle) is.is_header.whole reads) in
    record {
      word = is.is_header.first;
      behind = a.behind;
      next = a.next;
      goes_on = real-word r (is.is_header.first, a.behind) a.next (λ none. let no_word : [] ≡ codes "INSTRUCTION" = sym none ∙ is.is_header.is_first in cc);
    }

-- where the file ends no entry more stands
last-again : (text : List ℕ) (left : Lexemes) (done : List Entry) (x : Spelled × Reading) → word_from text left ≡ Ok x → x.0.is_end ≡ true → end_from text left done ≡ Ok done
last-again text (token t rest) done x e end =
    let w = bind_ok (end_of_word text t.end rest) _ e in
    absurd (true≢false (sym end ∙ sym (ap (λ (y : Spelled × Reading). y.0.is_end) (ok_once _ x w.2))))
last-again text (finish t) done x e end = refl
last-again text (fault p) done x e end = absurd (cc)

entries-again : (room : ℕ) (done : List Entry) (r : Reading) (es : List Entry) → AreEntries done r es → length es ≤ room → entries_from room done r ≡ Ok (done ++ es)
unfolding entries_from
entries-again zero done r [] (w, q, read, end) few = last-again r.text r.left done (w, q) read end ∙ ap (λ (l : List Entry). Ok l) (sym (append-nil done))
entries-again (suc room) done r [] (w, q, read, end) few = bind_to (next_word r) _ read (rw end (ap (λ (l : List Entry). Ok l) (sym (append-nil done))))
entries-again zero done r (e ∷ es) are few = absurd (omega arith)
entries-again (suc room) done r (e ∷ es) (q, one, more) few =
    let begins = entry-begins done r q e one in
    bind_to (next_word r) _ begins.next
    (rw begins.goes_on
    (bind_to (entry_at begins.word.place done r) _ (entry-again begins.word.place done r q e one)
    (entries-again room (done ++ e ∷ []) q es more (omega arith) ∙ ap (λ (l : List Entry). Ok l) (append_assoc done (e ∷ []) es))))

pub file-again : (text : List ℕ) (entries : List Entry) → IsFile text entries → file_of text ≡ Ok entries
unfolding file_of
file-again text entries is =
    let fits : nat_lt 1048576 (length text) ≡ false = (let short = is.short in grind arith) in
    rw fits (entries-again 1024 [] (reading_of text) entries is.are is.few)
