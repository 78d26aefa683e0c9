-- Reading an operation from left to right, word by word: single words, and lists. Each function reads a part at
-- the front of what is left and gives it with what is left after it, or the first fault that it meets.
use Rattle.std.specs.Prelude.{ℕ, zero, suc, Bool, true, false, List, [], ◌∷◌, ◌++◌, Result, Ok, Err, if◌then◌else◌}
use Rattle.std.specs.Str.{bytes_eq}
use Rattle.vg_base.specs.Bind.{◌>>=◌, or_fault}
use Rattle.vg_text.specs.declared.place.Place.{Place}
use Rattle.vg_text.specs.Token.{Lexemes, token, finish, fault}
use Rattle.vg_text.specs.Words.{Reading, Spelled, word_at}
use Rattle.vg_pseudo.specs.declared.fault.PseudoFault.{PseudoFault}
use Rattle.vg_pseudo.specs.declared.fault.PseudoFault.TheVariants.{Token, Shape}
use Rattle.vg_pseudo.specs.Words.{is_free, number_of}

-- a word, or the fault of bytes that are none
abbrev pub or_token : {X : Type 0} → Result X Place → Result X PseudoFault
or_token (Ok x) = Ok x
or_token (Err p) = Err (Token p)

-- the next word
abbrev pub next_at : Reading → Result (Spelled × Reading) PseudoFault
next_at r = or_token (word_at r)

-- this very word
abbrev pub expect_at : List ℕ → Reading → Result (Spelled × Reading) PseudoFault
expect_at text r = next_at r >>= λ w. if bytes_eq w.0.bytes text then Ok w else Err (Shape w.0.place)

-- whether this very word comes next, which is taken then
abbrev pub accept_at : List ℕ → Reading → Result (Bool × Reading) PseudoFault
accept_at text r = next_at r >>= λ w. if bytes_eq w.0.bytes text then Ok (true, w.1) else Ok (false, r)

-- a name
abbrev pub name_at : Reading → Result (Spelled × Reading) PseudoFault
name_at r = next_at r >>= λ w. if is_free w.0.bytes then Ok w else Err (Shape w.0.place)

-- a number
abbrev pub number_at : Reading → Result (ℕ × Reading) PseudoFault
number_at r = next_at r >>= λ w. or_fault (number_of w.0.bytes) (Shape w.0.place) >>= λ n. Ok (n, w.1)

-- how many words are left, up to the end or to a fault
unfoldable pub words_in : Lexemes → ℕ
words_in (token t rest) = suc (words_in rest)
words_in (finish t) = 0
words_in (fault p) = 0

abbrev pub unread : Reading → ℕ
unread r = words_in r.left

-- whether one more item of a list follows; what announces it may be taken with that
abbrev pub Follows : Type 0
Follows = Reading → Result (Bool × Reading) PseudoFault

-- Items after those that are done, as long as one follows. An item has a word or more, so that `room` never runs out
-- where it is greater than the number of words left.
unfoldable pub items_from : {X : Type 0} → Follows → (Reading → Result (X × Reading) PseudoFault) → ℕ →
    List X → Reading → Result (List X × Reading) PseudoFault
items_from follows item zero done r = Ok (done, r)
items_from follows item (suc room) done r = do
  next ← follows r
  if next.0 then (item next.1 >>= λ x. items_from follows item room (done ++ x.0 ∷ []) x.1)
      else Ok (done, next.1)

-- items after those that are done, as long as one follows
abbrev pub items_behind : {X : Type 0} → Follows → (Reading → Result (X × Reading) PseudoFault) → List X →
    Reading → Result (List X × Reading) PseudoFault
items_behind follows item done r = items_from follows item (suc (unread r)) done r
