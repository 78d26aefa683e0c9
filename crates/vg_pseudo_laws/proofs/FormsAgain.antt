-- Forms that begin with a name are read.
use Rattle.std.proofs.Common.{◌≡◌, ℕ, false, List, [], ◌∷◌, ◌++◌, Some, Ok, refl, ◌∙◌, ap}
use Rattle.std.specs.Prelude.{codes}
use Rattle.std.specs.Str.{bytes_eq}
use Rattle.vg_base.specs.Bind.{or_fault}
use Rattle.vg_base.proofs.Bind.{bind_to}
use Rattle.vg_base.specs.declared.width.Width.{Width}
use Rattle.vg_text.specs.Words.{Reading, Spelled}
use Rattle.vg_pseudo.specs.declared.fault.PseudoFault.{PseudoFault}
use Rattle.vg_pseudo.specs.Tree.{name, slice, bit, element, part}
use Rattle.vg_pseudo.specs.Spots.{spot_at}
use Rattle.vg_pseudo.specs.Words.{element_named}
use Rattle.vg_pseudo.specs.Grammar.{Words, Is}
use Rattle.vg_pseudo.specs.Reader.{next_at, expect_at, accept_at}
use Rattle.vg_pseudo.specs.Expressions.{Part, Index, leaf, above_one, above_two, slice_end, bracket_at, element_end, element_at, form_at}
use Rattle.vg_pseudo_laws.proofs.Standing.{Reads}
use Rattle.vg_pseudo_laws.proofs.WordsAgain.{next-again, no-more, split, expect-again, accept-again, accept-not, Ends, ends-text}

-- an index of these words is read
abbrev pub GivesIndex : Index → Words → Part → Type 0
GivesIndex index ws x = (r m : Reading) → Reads ws r m → Ends 7 m → index r ≡ Ok (x, m)

-- what stands after the name
abbrev pub GivesForm : Index → Spelled → Words → Part → Type 0
GivesForm index w ws x = (r m : Reading) → Reads ws r m → Ends 0 m → form_at index w r ≡ Ok (x, m)

pub named-form : (index : Index) (w : Spelled) → GivesForm index w [] (leaf (name (spot_at w.place) w.bytes))
unfolding form_at
named-form index w r m h end =
    let same = no-more h in
    let at : next_at r ≡ Ok (end.word, end.behind) = ap next_at same ∙ end.next in
    bind_to (accept_at (codes "[") r) _ (accept-not (codes "[") end.word r end.behind end.square at)
    (bind_to (accept_at (codes ".") r) _ (accept-not (codes ".") end.word r end.behind end.dot at) (ap (λ (q : Reading). Ok (leaf (name (spot_at w.place) w.bytes), q)) same))

pub indexed-form : (index : Index) (w opening closing : Spelled) (ks : Words) (k : Part) → Is opening (codes "[") → GivesIndex index ks k → Is closing (codes "]")
    → GivesForm index w (opening ∷ (ks ++ closing ∷ [])) (above_one (bit (spot_at w.place) w.bytes k.expression) k)
unfolding form_at bracket_at
indexed-form index w opening closing ks k opening_is k_law closing_is r m h end =
    let a = next-again h in
    let b = split ks a.rest in
    let c = next-again b.second in
    let same = no-more c.rest in
    let last : Ends 7 b.middle = ends-text 7 (codes "]") closing c.behind b.middle c.next closing_is refl in
    let no_colon = ap (λ (t : List ℕ). bytes_eq t (codes ":")) closing_is in
    bind_to (accept_at (codes "[") r) _ (accept-again (codes "[") opening r a.behind opening_is a.next)
    (bind_to (index a.behind) _ (k_law a.behind b.middle b.first last)
    (bind_to (accept_at (codes ":") b.middle) _ (accept-not (codes ":") closing b.middle c.behind no_colon c.next)
    (bind_to (expect_at (codes "]") b.middle) _ (expect-again (codes "]") closing b.middle c.behind closing_is c.next) (ap (λ (q : Reading). Ok (above_one (bit (spot_at w.place) w.bytes k.expression) k, q)) same))))

pub sliced-form : (index : Index) (w opening colon closing : Spelled) (hs ls : Words) (h l : Part) → Is opening (codes "[") → GivesIndex index hs h → Is colon (codes ":") → GivesIndex index ls l → Is closing (codes "]")
    → GivesForm index w (opening ∷ (hs ++ colon ∷ (ls ++ closing ∷ []))) (above_two (slice (spot_at w.place) w.bytes h.expression l.expression) h l)
unfolding form_at bracket_at slice_end
sliced-form index w opening colon closing hs ls h l opening_is h_law colon_is l_law closing_is r m reads end =
    let a = next-again reads in
    let b = split hs a.rest in
    let c = next-again b.second in
    let d = split ls c.rest in
    let e = next-again d.second in
    let same = no-more e.rest in
    let first : Ends 7 b.middle = ends-text 7 (codes ":") colon c.behind b.middle c.next colon_is refl in
    let last : Ends 7 d.middle = ends-text 7 (codes "]") closing e.behind d.middle e.next closing_is refl in
    bind_to (accept_at (codes "[") r) _ (accept-again (codes "[") opening r a.behind opening_is a.next)
    (bind_to (index a.behind) _ (h_law a.behind b.middle b.first first)
    (bind_to (accept_at (codes ":") b.middle) _ (accept-again (codes ":") colon b.middle c.behind colon_is c.next)
    (bind_to (index c.behind) _ (l_law c.behind d.middle d.first last)
    (bind_to (expect_at (codes "]") d.middle) _ (expect-again (codes "]") closing d.middle e.behind closing_is e.next) (ap (λ (q : Reading). Ok (above_two (slice (spot_at w.place) w.bytes h.expression l.expression) h l, q)) same)))))

-- an element's size
size-again : (text : Spelled) (size : Width) (r n : Reading) (fault : PseudoFault) → element_named text.bytes ≡ Some size → or_fault (element_named text.bytes) fault ≡ Ok size
size-again text size r n fault e = rw e refl

not_dot : (dot : Spelled) → Is dot (codes ".") → bytes_eq dot.bytes (codes "[") ≡ false
not_dot dot is = ap (λ (t : List ℕ). bytes_eq t (codes "[")) is

pub parted-form : (index : Index) (w dot text : Spelled) (size : Width) → Is dot (codes ".") → element_named text.bytes ≡ Some size → GivesForm index w (dot ∷ text ∷ []) (leaf (part (spot_at w.place) w.bytes size))
unfolding form_at element_at
parted-form index w dot text size dot_is text_is r m h end =
    let a = next-again h in
    let b = next-again a.rest in
    let same = no-more b.rest in
    let at : next_at b.behind ≡ Ok (end.word, end.behind) = ap next_at same ∙ end.next in
    bind_to (accept_at (codes "[") r) _ (accept-not (codes "[") dot r a.behind (not_dot dot dot_is) a.next)
    (bind_to (accept_at (codes ".") r) _ (accept-again (codes ".") dot r a.behind dot_is a.next)
    (bind_to (next_at a.behind) _ b.next
    (bind_to (or_fault (element_named text.bytes) _) _ (size-again text size r m _ text_is)
    (bind_to (accept_at (codes "[") b.behind) _ (accept-not (codes "[") end.word b.behind end.behind end.square at) (ap (λ (q : Reading). Ok (leaf (part (spot_at w.place) w.bytes size), q)) same)))))

pub placed-form : (index : Index) (w dot text opening closing : Spelled) (size : Width) (ks : Words) (k : Part) → Is dot (codes ".") → element_named text.bytes ≡ Some size → Is opening (codes "[") → GivesIndex index ks k → Is closing (codes "]")
    → GivesForm index w (dot ∷ text ∷ opening ∷ (ks ++ closing ∷ [])) (above_one (element (spot_at w.place) w.bytes size k.expression) k)
unfolding form_at element_at element_end
placed-form index w dot text opening closing size ks k dot_is text_is opening_is k_law closing_is r m h end =
    let a = next-again h in
    let b = next-again a.rest in
    let c = next-again b.rest in
    let d = split ks c.rest in
    let e = next-again d.second in
    let same = no-more e.rest in
    let last : Ends 7 d.middle = ends-text 7 (codes "]") closing e.behind d.middle e.next closing_is refl in
    bind_to (accept_at (codes "[") r) _ (accept-not (codes "[") dot r a.behind (not_dot dot dot_is) a.next)
    (bind_to (accept_at (codes ".") r) _ (accept-again (codes ".") dot r a.behind dot_is a.next)
    (bind_to (next_at a.behind) _ b.next
    (bind_to (or_fault (element_named text.bytes) _) _ (size-again text size r m _ text_is)
    (bind_to (accept_at (codes "[") b.behind) _ (accept-again (codes "[") opening b.behind c.behind opening_is c.next)
    (bind_to (index c.behind) _ (k_law c.behind d.middle d.first last)
    (bind_to (expect_at (codes "]") d.middle) _ (expect-again (codes "]") closing d.middle e.behind closing_is e.next) (ap (λ (q : Reading). Ok (above_one (element (spot_at w.place) w.bytes size k.expression) k, q)) same)))))))
