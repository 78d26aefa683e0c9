-- Entries of a file, one step of reading them.
use Rattle.std.proofs.Common.{◌≡◌, ℕ, zero, suc, ◌+◌, ◌<◌, Bool, true, false, List, [], ◌∷◌, ◌++◌, Result, Ok, Err, nat_le, refl, sym, ◌∙◌, ap, subst, arith, true≢false}
use Rattle.std.specs.Prelude.{codes}
use Rattle.vg_base.proofs.Bind.{bind_ok, refused_ok, tested_ok}
use Rattle.vg_base.proofs.Gives.{fails_bind}
use Rattle.vg_text.specs.declared.place.Place.{Place}
use Rattle.vg_text.specs.declared.token.Token.{Token}
use Rattle.vg_text.specs.Token.{Lexemes, token, finish, fault, Takes}
use Rattle.vg_text.specs.Words.{Reading, Spelled, EndsOnce, is_end, word_from}
use Rattle.vg_pseudo.specs.declared.header.Header.{Header}
use Rattle.vg_pseudo.specs.Tree.{Operation}
use Rattle.vg_pseudo.specs.Grammar.{Words, Stand}
use Rattle.vg_pseudo.specs.Operations.{operation_at}
use Rattle.vg_pseudo.specs.Words.{is_free}
use Rattle.vg_pseudo_laws.specs.Laws.{IsSound}
use Rattle.vg_range.specs.Acceptance.{checked}
use Rattle.vg_catalog.specs.declared.fault.CatalogFault.{CatalogFault}
use Rattle.vg_catalog.specs.declared.fault.CatalogFault.TheVariants as catalog
use Rattle.vg_catalog.specs.Gives.{told, Fails}
use Rattle.vg_catalog.specs.Words.{next_word, this_word}
use Rattle.vg_catalog.specs.Headers.{entry_name_at, params_at, imm_at, closing_at, header_at}
use Rattle.vg_catalog.specs.Entries.{Entry, is_known, instances, instances_of}
use Rattle.vg_catalog.specs.Files.{as_text, as_judged, judged, end_from, entry_at, entries_from}

-- what went well gave one thing
pub ok_once : {A E : Type 0} (x y : A) → (let r : Result A E = Ok x in r ≡ Ok y) → x ≡ y
ok_once x y e = cc

-- a word is of the text
word-text : (text : List ℕ) (left : Lexemes) (x : Spelled × Reading) → word_from text left ≡ Ok x → x.1.text ≡ text
word-text text (token t rest) x e = sym (ap (λ (y : Spelled × Reading). y.1.text) (ok_once _ x e))
word-text text (finish t) x e = sym (ap (λ (y : Spelled × Reading). y.1.text) (ok_once _ x e))
word-text text (fault p) x e = cc

-- words are of one text
words-text : (ws : Words) (r q : Reading) → Stand ws r q → q.text ≡ r.text
unfolding Stand
words-text [] r q same = ap (λ (x : Reading). x.text) (sym same)
words-text (w ∷ ws) r q (m, read, some, rest) = words-text ws m q rest ∙ word-text r.text r.left (w, m) read

-- what is left after an operation is of the same text
pub text_kept : IsSound → (r q : Reading) (o : Operation) → operation_at r ≡ Ok (o, q) → q.text ≡ r.text
text_kept sound r q o e = let found = sound r o q e in words-text found.0 r q found.1

-- a header that was read has a new name
pub name_new : (known : List ℕ → Bool) (r q : Reading) (h : Header) → header_at known r ≡ Ok (h, q) → known h.name ≡ false
unfolding header_at
name_new known r q h e =
    let word = bind_ok (this_word (codes "INSTRUCTION") r) _ e in
    let name = bind_ok (entry_name_at known word.0.1) _ word.2 in
    let params = bind_ok (params_at name.0.1) _ name.2 in
    let imm = bind_ok (imm_at params.0.0 params.0.1) _ params.2 in
    let closing = bind_ok (closing_at imm.0.1) _ imm.2 in
    let same : name.0.0.bytes ≡ h.name = ap (λ (y : Header × Reading). y.0.name) (ok_once _ (h, q) closing.2) in
    let read = bind_ok (next_word word.0.1) _ name.1 in
    let free = tested_ok (is_free read.0.0.bytes) _ _ read.2 in
    let new = refused_ok (known read.0.0.bytes) (Ok read.0) _ free.1 in
    subst (λ (n : List ℕ). known n ≡ false) (ap (λ (y : Spelled × Reading). y.0.bytes) (ok_once read.0 name.0 new.1) ∙ same) new.0

-- an accepted entry is made of what was judged
pub judged_is : (h : Header) (o : Operation) (e : Entry) → judged h o ≡ Ok e → e ≡ record { header = h; operation = o }
judged_is h o e j = let r = bind_ok (as_judged (checked h o)) _ j in sym (ok_once _ e r.2)

-- an entry that is not accepted
pub entry_fails : (place : Place) (done : List Entry) (r q s : Reading) (h : Header) (o : Operation) (f : CatalogFault)
    → header_at (is_known done) r ≡ Ok (h, q) → nat_le (instances done + instances_of h.imm) 4096 ≡ true → as_text (operation_at q) ≡ Ok (o, s) → Fails f (judged h o) → Fails f (entry_at place done r)
unfolding entry_at
entry_fails place done r q s h o f header room operation bad = rw (header, room, operation) (fails_bind (told f) (judged h o) _ bad)

-- an entry that is
pub entry_ok : (place : Place) (done : List Entry) (r q s : Reading) (h : Header) (o : Operation) (e : Entry)
    → header_at (is_known done) r ≡ Ok (h, q) → nat_le (instances done + instances_of h.imm) 4096 ≡ true → as_text (operation_at q) ≡ Ok (o, s) → judged h o ≡ Ok e → entry_at place done r ≡ Ok (done ++ e ∷ [], s)
unfolding entry_at
entry_ok place done r q s h o e header room operation good = rw (header, room, operation, good) refl

-- the end of the file, or what stands in its place
at-end : (text : List ℕ) (left rest : Lexemes) (done : List Entry) (t : Token) → EndsOnce left → Takes left (Ok t) rest → is_end t.kind ≡ true → end_from text left done ≡ Ok done
unfolding EndsOnce
at-end text (token u more) rest done t once taken kind = let same : t ≡ u = cc in absurd (true≢false (sym kind ∙ ap (λ (x : Token). is_end x.kind) same ∙ once.0))
at-end text (finish u) rest done t once taken kind = refl
at-end text (fault p) rest done t once taken kind = cc

one-more : (text : List ℕ) (left rest : Lexemes) (done : List Entry) (t : Token) → EndsOnce left → Takes left (Ok t) rest → is_end t.kind ≡ false → end_from text left done ≡ Err (catalog.TooMany t.place)
unfolding EndsOnce
one-more text (token u more) rest done t once taken kind = let same : t ≡ u = cc in rw same refl
one-more text (finish u) rest done t once taken kind = let same : t ≡ u = cc in absurd (true≢false (sym once.0 ∙ ap (λ (x : Token). is_end x.kind) (sym same) ∙ kind))
one-more text (fault p) rest done t once taken kind = cc

pub ends-well : (done : List Entry) (r : Reading) (rest : Lexemes) (t : Token) → EndsOnce r.left → Takes r.left (Ok t) rest → is_end t.kind ≡ true → entries_from 0 done r ≡ Ok done
unfolding entries_from
ends-well done r rest t once taken kind = at-end r.text r.left rest done t once taken kind

pub too-many : (done : List Entry) (r : Reading) (rest : Lexemes) (t : Token) → EndsOnce r.left → Takes r.left (Ok t) rest → is_end t.kind ≡ false → entries_from 0 done r ≡ Err (catalog.TooMany t.place)
unfolding entries_from
too-many done r rest t once taken kind = one-more r.text r.left rest done t once taken kind

-- the first word of an entry is none
pub word-fails : (room : ℕ) (done : List Entry) (r : Reading) (f : CatalogFault) → 0 < room → Fails f (next_word r) → Fails f (entries_from room done r)
unfolding entries_from
word-fails zero done r f some e = absurd (omega arith)
word-fails (suc room) done r f some e = fails_bind (told f) (next_word r) _ e

-- the file ends
pub file-ends : (room : ℕ) (done : List Entry) (r : Reading) (x : Spelled × Reading) → 0 < room → next_word r ≡ Ok x → x.0.is_end ≡ true → entries_from room done r ≡ Ok done
unfolding entries_from
file-ends zero done r x some e end = absurd (omega arith)
file-ends (suc room) done r x some e end = rw (e, end) refl

-- an entry follows
pub entry-more : (room less : ℕ) (done more : List Entry) (r s : Reading) (x : Spelled × Reading) → room ≡ less + 1 → next_word r ≡ Ok x → x.0.is_end ≡ false → entry_at x.0.place done r ≡ Ok (more, s) → entries_from less more s ≡ entries_from room done r
unfolding entries_from
entry-more zero less done more r s x e word some read = absurd (omega (arith, e))
entry-more (suc room) less done more r s x e word some read = let same : room ≡ less = omega (arith, e) in rw (word, some, read, same) refl

-- and is refused
pub entry-fails : (room : ℕ) (done : List Entry) (r : Reading) (x : Spelled × Reading) (f : CatalogFault) → 0 < room → next_word r ≡ Ok x → x.0.is_end ≡ false → Fails f (entry_at x.0.place done r) → Fails f (entries_from room done r)
unfolding entries_from
entry-fails zero done r x f some word e bad = absurd (omega arith)
entry-fails (suc room) done r x f some word e bad = rw (word, e) (fails_bind (told f) (entry_at x.0.place done r) _ bad)
