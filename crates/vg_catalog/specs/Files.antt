-- Reading and judging a file: entries one after the other, with the first fault that is met.
use Rattle.std.specs.Prelude.{ℕ, zero, suc, ◌+◌, List, [], ◌∷◌, ◌++◌, length, Result, Ok, Err, nat_le, nat_lt, if◌then◌else◌}
use Rattle.vg_base.specs.Bind.{◌>>=◌}
use Rattle.vg_text.specs.declared.place.Place.{Place}
use Rattle.vg_text.specs.Place.{first_place}
use Rattle.vg_text.specs.Token.{Lexemes, token, finish}
use Rattle.vg_text.specs.Token as lexemes
use Rattle.vg_text.specs.Words.{Reading, reading_of}
use Rattle.vg_pseudo.specs.declared.header.Header.{Header}
use Rattle.vg_pseudo.specs.declared.fault.PseudoFault.{PseudoFault}
use Rattle.vg_pseudo.specs.Tree.{Operation}
use Rattle.vg_pseudo.specs.Operations.{operation_at}
use Rattle.vg_interval.specs.declared.fault.RangeFault.{RangeFault}
use Rattle.vg_range.specs.Acceptance.{checked}
use Rattle.vg_catalog.specs.declared.fault.CatalogFault.{CatalogFault}
use Rattle.vg_catalog.specs.declared.fault.CatalogFault.TheVariants as fault
use Rattle.vg_catalog.specs.Comments.{is_in_comment}
use Rattle.vg_catalog.specs.Entries.{Entry, is_known, instances, instances_of}
use Rattle.vg_catalog.specs.Faults.{text_fault, range_fault}
use Rattle.vg_catalog.specs.Words.{next_word}
use Rattle.vg_catalog.specs.Headers.{header_at}

-- a text of an operation, with its fault as one of the file
abbrev pub as_text : {X : Type 0} → Result X PseudoFault → Result X CatalogFault
as_text (Ok x) = Ok x
as_text (Err e) = Err (text_fault e)

-- what was judged, with its fault as one of the file
abbrev pub as_judged : {X : Type 0} → Result X RangeFault → Result X CatalogFault
as_judged (Ok x) = Ok x
as_judged (Err e) = Err (range_fault e)

-- the header of an entry that begins at this place, where its instances still fit
abbrev pub counted : Place → List Entry → Header → Result Header CatalogFault
counted place done h = if nat_le (instances done + instances_of h.imm) 4096 then Ok h else Err (fault.TooMany place)

-- the entry, where its names can be resolved and all its instances are accepted
abbrev pub judged : Header → Operation → Result Entry CatalogFault
judged h o = as_judged (checked h o) >>= λ r. Ok (record { header = h; operation = o })

-- An entry that begins at this place, after those that are done: its header, from left to right; the number of
-- instances; the text of its operation, from left to right; the names in it; and its instances.
unfoldable pub entry_at : Place → List Entry → Reading → Result (List Entry × Reading) CatalogFault
entry_at place done r = do
  header ← header_at (is_known done) r
  header_counted ← counted place done header.0
  operation ← as_text (operation_at header.1)
  entry ← judged header_counted operation.0
  Ok (done ++ entry ∷ [], operation.1)

-- What stands where no entry more may: the end of the file, or one entry too many at whatever is neither white
-- space nor of a comment. A byte that may not stand in a comment is no token there either.
abbrev pub end_from : List ℕ → Lexemes → List Entry → Result (List Entry) CatalogFault
end_from text (token t rest) done = Err (fault.TooMany t.place)
end_from text (finish t) done = Ok done
end_from text (lexemes.fault p) done = Err (if is_in_comment text p then fault.Token p else fault.TooMany p)

-- entries after those that are done up to the end of the file, this many at most
unfoldable pub entries_from : ℕ → List Entry → Reading → Result (List Entry) CatalogFault
entries_from zero done r = end_from r.text r.left done
entries_from (suc room) done r = do
  word ← next_word r
  if word.0.is_end then Ok done
      else (entry_at word.0.place done r >>= λ e. entries_from room e.0 e.1)

-- the entries of a file
unfoldable pub file_of : List ℕ → Result (List Entry) CatalogFault
file_of text =
    if nat_lt 1048576 (length text) then Err (fault.TooLarge first_place) else entries_from 1024 [] (reading_of text)
