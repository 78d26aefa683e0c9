-- Where a header word ends, one token after the other.
use Rattle.std.proofs.Common.{◌≡◌, ℕ, ◌<◌, true, false, List, [], drop, slice_range, Ok, Err, refl, sym, ◌∙◌, ap, subst, true≢false, arith}
use Rattle.vg_text.specs.declared.place.Place.{Place}
use Rattle.vg_text.specs.declared.token.Token.{Token}
use Rattle.vg_text.specs.Token.{Lexemes, token, finish, fault, Takes}
use Rattle.vg_base.specs.Bind.{◌>>=◌}
use Rattle.vg_base.proofs.Gives.{fails_bind}
use Rattle.vg_text.specs.Words.{Spelled, EndsOnce, is_end}
use Rattle.vg_pseudo.specs.Reader.{words_in}
use Rattle.vg_catalog.specs.declared.fault.CatalogFault.TheVariants as catalog
use Rattle.vg_catalog.specs.declared.fault.CatalogFault.{CatalogFault}
use Rattle.vg_catalog.specs.Gives.{told, Fails}
use Rattle.vg_catalog.specs.Words.{ends_word, end_of_word, word_from}

-- it ends here
pub ends : (text : List ℕ) (end : ℕ) (left : Lexemes) → ends_word (drop end text) ≡ true → end_of_word text end left ≡ Ok (end, left)
unfolding end_of_word
ends text end (token t rest) e = rw e refl
ends text end (finish t) e = refl
ends text end (fault p) e = rw e refl

-- a token belongs to it
pub goes : (text : List ℕ) (end : ℕ) (left rest : Lexemes) (t : Token) → ends_word (drop end text) ≡ false → EndsOnce left → Takes left (Ok t) rest → is_end t.kind ≡ false → end_of_word text t.end rest ≡ end_of_word text end left
unfolding end_of_word EndsOnce
goes text end (token u more) rest t e once taken kind = let same : t ≡ u = cc in rw (e, same, taken.1) refl
goes text end (finish u) rest t e once taken kind = let same : t ≡ u = cc in absurd (true≢false (sym once.0 ∙ ap (λ (x : Token). is_end x.kind) (sym same) ∙ kind))
goes text end (fault p) rest t e once taken kind = cc

-- the text ends
pub stops : (text : List ℕ) (end : ℕ) (left rest : Lexemes) (t : Token) → EndsOnce left → Takes left (Ok t) rest → is_end t.kind ≡ true → end_of_word text end left ≡ Ok (end, rest)
unfolding end_of_word EndsOnce
stops text end (token u more) rest t once taken kind = let same : t ≡ u = cc in absurd (true≢false (sym kind ∙ ap (λ (x : Token). is_end x.kind) same ∙ once.0))
stops text end (finish u) rest t once taken kind = rw taken.1 refl
stops text end (fault p) rest t once taken kind = cc

-- what is no token belongs to it
pub fails : (text : List ℕ) (end : ℕ) (left rest : Lexemes) (p : Place) → ends_word (drop end text) ≡ false → Takes left (Err p) rest → end_of_word text end left ≡ Err (catalog.Token p)
unfolding end_of_word
fails text end (token u more) rest p e taken = cc
fails text end (finish u) rest p e taken = cc
fails text end (fault q) rest p e taken = let same : p ≡ q = cc in rw (e, same) refl

-- a token less is left
pub fewer : (left rest : Lexemes) (t : Token) → EndsOnce left → Takes left (Ok t) rest → is_end t.kind ≡ false → words_in rest < words_in left
unfolding words_in EndsOnce
fewer (token u more) rest t once taken kind = rw taken.1 (omega arith)
fewer (finish u) rest t once taken kind = let same : t ≡ u = cc in absurd (true≢false (sym once.0 ∙ ap (λ (x : Token). is_end x.kind) (sym same) ∙ kind))
fewer (fault p) rest t once taken kind = cc

-- the word that begins with a token and ends at this byte
abbrev pub word_of : List ℕ → Token → ℕ → Spelled
word_of text t e = record { bytes = slice_range text t.start e; place = t.place; is_end = false }

-- the end of the text as a word
abbrev pub end_at : Place → Spelled
end_at p = record { bytes = []; place = p; is_end = true }

-- at the end of the text
pub at_end : (text same : List ℕ) (left rest : Lexemes) (t : Token) → same ≡ text → EndsOnce left → Takes left (Ok t) rest → is_end t.kind ≡ true → word_from text left ≡ Ok (end_at t.place, record { text = same; left = rest })
unfolding EndsOnce
at_end text same (token u more) rest t e once taken kind = let same : t ≡ u = cc in absurd (true≢false (sym kind ∙ ap (λ (x : Token). is_end x.kind) same ∙ once.0))
at_end text same (finish u) rest t e once taken kind = let one : t ≡ u = cc in rw (e, taken.1, one) refl
at_end text same (fault p) rest t e once taken kind = cc

-- a word begins with a token
pub begins : (text : List ℕ) (left rest : Lexemes) (t : Token) → EndsOnce left → Takes left (Ok t) rest → is_end t.kind ≡ false
    → word_from text left ≡ (end_of_word text t.end rest >>= λ e. Ok (word_of text t e.0, record { text = text; left = e.1 }))
unfolding EndsOnce
begins text (token u more) rest t once taken kind = let one : t ≡ u = cc in rw (taken.1, one) refl
begins text (finish u) rest t once taken kind = let same : t ≡ u = cc in absurd (true≢false (sym once.0 ∙ ap (λ (x : Token). is_end x.kind) (sym same) ∙ kind))
begins text (fault p) rest t once taken kind = cc

-- no word begins
pub begins_wrong : (text : List ℕ) (left rest : Lexemes) (p : Place) → Takes left (Err p) rest → word_from text left ≡ Err (catalog.Token p)
begins_wrong text (token u more) rest p taken = cc
begins_wrong text (finish u) rest p taken = cc
begins_wrong text (fault q) rest p taken = let same : p ≡ q = cc in rw same refl

-- a word that was read, the text being known under other names
pub begins_ok : (text source after known bytes : List ℕ) (left rest behind : Lexemes) (t : Token) (e : ℕ) → source ≡ text → after ≡ known → known ≡ text → bytes ≡ slice_range known t.start e
    → EndsOnce left → Takes left (Ok t) rest → is_end t.kind ≡ false → end_of_word text t.end rest ≡ Ok (e, behind)
    → word_from source left ≡ Ok (record { bytes = bytes; place = t.place; is_end = false }, record { text = after; left = behind })
begins_ok text source after known bytes left rest behind t e same one other is once taken kind read =
    rw (same, is, one, other) (begins text left rest t once taken kind ∙ rw read refl)

-- a word of which a part is no token
pub begins_bad : (text source : List ℕ) (left rest : Lexemes) (t : Token) (f : CatalogFault) → source ≡ text → EndsOnce left → Takes left (Ok t) rest → is_end t.kind ≡ false
    → Fails f (end_of_word text t.end rest) → Fails f (word_from source left)
begins_bad text source left rest t f same once taken kind bad =
    rw same (subst (Fails f) (sym (begins text left rest t once taken kind)) (fails_bind (told f) (end_of_word text t.end rest) _ bad))
