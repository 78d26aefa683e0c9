-- The words `name=number` that bind the parameters of a kernel or a program.
use Rattle.std.specs.Prelude.{ℕ, ◌+◌, Bool, true, false, not, ◌&&◌, List, length, take, drop, Option, None, is_some, ◌==◌, nat_lt, nat_le, slice_index, if◌then◌else◌}
use Rattle.std.specs.List.{prefix_len, filter_map}
use Rattle.std.specs.Option.{option_map}
use Rattle.vg_text.specs.Byte.{is_name_text}
use Rattle.vg_text.specs.Number.{decimal_value}
use Rattle.vg_request.specs.declared.binding.SignedNumber.{SignedNumber}
use Rattle.vg_request.specs.declared.binding.Bound.{Bound}

-- a number with its sign
pub record Signed : Type 0 where
  pub negative : Bool
  pub distance : ℕ

-- a name and the number that it is given
pub record Binding : Type 0 where
  pub name : List ℕ
  pub number : Signed

-- one to twenty digits
abbrev pub digits_of : List ℕ → Option ℕ
digits_of text = if nat_le (length text) 20 then decimal_value text else None

-- an optional `-`, and digits
abbrev pub signed_of : List ℕ → Option Signed
signed_of text =
    if slice_index text 0 == 45
    then option_map (λ n. record { negative = true; distance = n }) (digits_of (drop 1 text))
    else option_map (λ n. record { negative = false; distance = n }) (digits_of text)

-- the bytes up to the first `=`
abbrev pub name_len : List ℕ → ℕ
name_len word = prefix_len (λ b. not (b == 61)) word

-- a name, `=` and a number
unfoldable pub binding_of : List ℕ → Option Binding
binding_of word =
    if nat_lt (name_len word) (length word) && is_name_text (take (name_len word) word)
    then option_map (λ n. record { name = take (name_len word) word; number = n })
    (signed_of (drop (name_len word + 1) word))
    else None

-- whether a word is a binding
abbrev pub is_binding : List ℕ → Bool
is_binding word = is_some (binding_of word)

-- the bindings among words
abbrev pub bindings_in : List (List ℕ) → List Binding
bindings_in words = filter_map binding_of words

-- the number that the code's value stands for
abbrev pub signed_number : SignedNumber → Signed
signed_number n = record { negative = n.negative; distance = n.distance }

-- the binding that the code's value stands for
abbrev pub binding_seen : Bound → Binding
binding_seen b = record { name = b.name.now; number = signed_number b.number }
