-- The words after a command taken apart: options with their values, and the words that are left.
use Rattle.std.specs.Prelude.{◌≡◌, ℕ, List, [], ◌∷◌, take, drop, length, Option, Some, None, Bool, true, false, codes, if◌then◌else◌}
use Rattle.std.specs.List.{filter_map}
use Rattle.std.specs.Str.{bytes_eq}
use Rattle.std.specs.Option.{option_and_then, option_map}
use Rattle.vg_request.specs.declared.part.Flag.{Flag}
use Rattle.vg_request.specs.declared.part.Flag.TheVariants.{Guard, More}
use Rattle.vg_request.specs.declared.part.Part as code
use Rattle.vg_request.specs.declared.part.Part.TheVariants as seen
use Rattle.vg_request.specs.declared.part.Cut.{Cut}
use Rattle.vg_request.specs.Word.{plain_word}

-- the word of an option without a value
abbrev pub flag_word : Flag → List ℕ
flag_word Guard = codes "--guard"
flag_word More = codes "--more"

-- `--width` with its value, `--with` with its value, an option without one, or a word that is left
pub data Part : Type 0 where
  width : List ℕ → Part
  extension : List ℕ → Part
  flag : Flag → Part
  word : List ℕ → Part

-- the word begins with these bytes
abbrev pub begins : List ℕ → List ℕ → Bool
begins bytes w = bytes_eq (take (length bytes) w) bytes

-- a word by itself: `--width=N`, `--with=EXTENSION`, `--guard`, `--more`, or a word that is left
abbrev pub part_of : List ℕ → Option Part
part_of w =
    if begins (codes "--width=") w then option_map (λ v. width v) (plain_word (drop 8 w))
    else if begins (codes "--with=") w then option_map (λ v. extension v) (plain_word (drop 7 w))
    else if bytes_eq w (flag_word Guard) then Some (flag Guard)
    else if bytes_eq w (flag_word More) then Some (flag More)
    else option_map (λ v. word v) (plain_word w)

-- a part in front of those of other words
abbrev pub before : Option Part → Option (List Part) → Option (List Part)
before part parts = option_and_then (λ p. option_map (λ ps. p ∷ ps) parts) part

-- the parts of words in order: after the words `--width` and `--with` stands their value
unfoldable pub parts_of : List (List ℕ) → Option (List Part)
parts_of [] = Some []
parts_of (w ∷ []) = before (part_of w) (Some [])
parts_of (w ∷ v ∷ ws) =
    if bytes_eq w (codes "--width")
    then before (option_map (λ n. width n) (plain_word v)) (parts_of ws)
    else if bytes_eq w (codes "--with")
    then before (option_map (λ name. extension name) (plain_word v)) (parts_of ws)
    else before (part_of w) (parts_of (v ∷ ws))

abbrev width_at : Part → Option (List ℕ)
width_at (width n) = Some n
width_at _ = None

abbrev extension_at : Part → Option (List ℕ)
extension_at (extension name) = Some name
extension_at _ = None

abbrev same_flag : Flag → Flag → Bool
same_flag Guard Guard = true
same_flag More More = true
same_flag _ _ = false

abbrev flag_at : Flag → Part → Option (List ℕ)
flag_at f (flag g) = if same_flag f g then Some (flag_word g) else None
flag_at f _ = None

abbrev word_at : Part → Option (List ℕ)
word_at (word w) = Some w
word_at _ = None

-- the values of `--width`
abbrev pub widths_in : List Part → List (List ℕ)
widths_in parts = filter_map width_at parts

-- the values of `--with`
abbrev pub extensions_in : List Part → List (List ℕ)
extensions_in parts = filter_map extension_at parts

-- each word of an option without a value
abbrev pub flags_in : Flag → List Part → List (List ℕ)
flags_in f parts = filter_map (flag_at f) parts

-- the words that are left
abbrev pub words_in : List Part → List (List ℕ)
words_in parts = filter_map word_at parts

-- the part that the code's value stands for
abbrev pub part_seen : code.Part → Part
part_seen (seen.Width n) = width n.now
part_seen (seen.Extension name) = extension name.now
part_seen (seen.Flag f) = flag f
part_seen (seen.Word w) = word w.now

-- the words have this part in front of those of what is after it, or they have no parts
abbrev pub IsFirst : List (List ℕ) → Option Cut → Type 0
IsFirst ws (Some cut) = parts_of ws ≡ before (Some (part_seen cut.part)) (parts_of cut.behind.now)
IsFirst ws None = parts_of ws ≡ None
