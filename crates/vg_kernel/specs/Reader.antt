-- Reading a kernel from left to right, word by word: single words and places. Each function reads a
-- part at the front of what is left and gives it with what is left after it, or the first fault
-- that it meets.
use Rattle.std.specs.Prelude.{ℕ, Bool, true, false, List, Option, Some, None, Result, Ok, Err, pos, codes, if◌then◌else◌}
use Rattle.std.specs.Str.{bytes_eq}
use Rattle.vg_base.specs.Bind.{◌>>=◌, or_fault}
use Rattle.vg_base.specs.declared.address.Address.{Address}
use Rattle.vg_base.specs.declared.width.Width.{Width}
use Rattle.vg_text.specs.declared.place.Place.{Place}
use Rattle.vg_text.specs.Number.{decimal_value}
use Rattle.vg_text.specs.Words.{Reading, Spelled, word_at}
use Rattle.vg_kernel.specs.declared.fault.KernelFault.{KernelFault}
use Rattle.vg_kernel.specs.declared.fault.KernelFault.TheVariants.{Token, Shape, UnknownName, WidthMismatch, LiteralRange}
use Rattle.vg_kernel.specs.declared.given.Given.{Given}
use Rattle.vg_kernel.specs.declared.given.Given.TheVariants as given
use Rattle.vg_text.specs.Sized.{width_behind}
use Rattle.vg_kernel.specs.Words.{is_free, offset_of}
use Rattle.vg_kernel.specs.Names.{Names, given_as}

-- a word, or the fault of bytes that are none
abbrev pub or_token : {X : Type 0} → Result X Place → Result X KernelFault
or_token (Ok x) = Ok x
or_token (Err p) = Err (Token p)

-- the next word
abbrev pub next_at : Reading → Result (Spelled × Reading) KernelFault
next_at r = or_token (word_at r)

-- this very word
abbrev pub expect_at : List ℕ → Reading → Result Reading KernelFault
expect_at text r =
    next_at r >>= λ w. if bytes_eq w.0.bytes text then Ok w.1 else Err (Shape w.0.place)

-- the end
abbrev pub end_at : Reading → Result Reading KernelFault
end_at r = next_at r >>= λ w. if w.0.is_end then Ok w.1 else Err (Shape w.0.place)

-- a word that may be a name
abbrev pub name_at : Reading → Result (Spelled × Reading) KernelFault
name_at r = next_at r >>= λ w. if is_free w.0.bytes then Ok w else Err (Shape w.0.place)

-- a stem and a width
abbrev pub sized_at : List ℕ → Reading → Result (Width × Reading) KernelFault
sized_at stem r =
    next_at r >>= λ w.
    or_fault (width_behind stem w.0.bytes) (Shape w.0.place) >>= λ width. Ok (width, w.1)

-- the pointer that a name at this place stands for
abbrev pub pointer_of : Option Given → Place → Result ℕ KernelFault
pointer_of (Some (given.Pointer k)) place = Ok k
pointer_of (Some _) place = Err (WidthMismatch place)
pointer_of None place = Err (UnknownName place)

-- the distance after `+` or `-`
unfoldable pub offset_at : Bool → ℕ → Reading → Result (Address × Reading) KernelFault
offset_at negative pointer r = do
  number ← next_at r
  distance ← or_fault (decimal_value number.0.bytes) (Shape number.0.place)
  offset ← or_fault (offset_of negative distance) (LiteralRange number.0.place)
  Ok (record { pointer = pointer; offset = offset }, number.1)

-- where an access begins: `p`, `p + n` or `p - n`
unfoldable pub address_at : Names → Reading → Result (Address × Reading) KernelFault
address_at names r = do
  name ← name_at r
  pointer ← pointer_of (given_as names name.0.bytes) name.0.place
  sign ← next_at name.1
  if bytes_eq sign.0.bytes (codes "+") then offset_at false pointer sign.1
      else if bytes_eq sign.0.bytes (codes "-") then offset_at true pointer sign.1
      else Ok (record { pointer = pointer; offset = pos 0 }, name.1)
