-- Words that are text, and what they begin with.
use Rattle.std.proofs.Common.{◌≡◌, true, ℕ, List, ◌++◌, codes, refl}
use Rattle.std.specs.Str.{is_utf8, chars}
use Rattle.std.specs.Char.{encode_utf8}
use Rattle.std.proofs.lemmas.Str.{is_utf8-from_IsUtf8, IsUtf8-from_is_utf8, IsUtf8-append}
use Rattle.vg_outside.specs.Text.{text_or_empty}
use Rattle.vg_request.specs.declared.part.Flag.{Flag}
use Rattle.vg_request.specs.declared.part.Flag.TheVariants.{Guard, More}
use Rattle.vg_request.specs.Parts.{flag_word}

pub shown : (w : List ℕ) → is_utf8 w ≡ true → text_or_empty w ≡ w
shown w e = rw e refl

width_text : is_utf8 (codes "--width=") ≡ true
unfolding is_utf8 chars encode_utf8
width_text = refl

with_text : is_utf8 (codes "--with=") ≡ true
unfolding is_utf8 chars encode_utf8
with_text = refl

pub width_word : is_utf8 (codes "--width") ≡ true
unfolding is_utf8 chars encode_utf8
width_word = refl

pub with_word : is_utf8 (codes "--with") ≡ true
unfolding is_utf8 chars encode_utf8
with_word = refl

pub width_and : (v : List ℕ) → is_utf8 v ≡ true → is_utf8 (codes "--width=" ++ v) ≡ true
width_and v e = is_utf8-from_IsUtf8 _ (IsUtf8-append (codes "--width=") v (IsUtf8-from_is_utf8 _ width_text) (IsUtf8-from_is_utf8 v e))

pub with_and : (v : List ℕ) → is_utf8 v ≡ true → is_utf8 (codes "--with=" ++ v) ≡ true
with_and v e = is_utf8-from_IsUtf8 _ (IsUtf8-append (codes "--with=") v (IsUtf8-from_is_utf8 _ with_text) (IsUtf8-from_is_utf8 v e))

pub word_is_text : (f : Flag) → is_utf8 (flag_word f) ≡ true
unfolding is_utf8 chars encode_utf8
word_is_text Guard = refl
word_is_text More = refl
