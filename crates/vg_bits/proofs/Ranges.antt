-- Laws of ranges of any list: what is read beside, inside and across a replacement, and replacements one after the other.
use Rattle.std.proofs.Common.{◌≡◌, ◌⊎◌, inl, inr, ℕ, ◌+◌, ◌-◌, ◌<◌, ◌≤◌, List, [], ◌++◌, length, get_or, take, drop, refl, sym, ap, ◌∙◌, arith, length-append, length-drop, take-append-drop}
use Rattle.std.proofs.lemmas.Bool.{cases_lt}
use Rattle.std.proofs.lemmas.List.{length-take-le, take_all, take-take, drop-drop, drop_at, drop_all, drop-take, get_or-take, get_or-drop, get_or_append_left, get_or-append_right, same_lists, append-nil}
use Rattle.vg_bits.specs.Range.{range, replaced}

module _ {A : Type 0} where
  pub length-range : (low width : ℕ) (l : List A) → low + width ≤ length l → length (range low width l) ≡ width
  length-range low width l fits = length-take-le width (drop low l) (omega (arith, length-drop low l))

  pub length-replaced : (low : ℕ) (new l : List A) → low + length new ≤ length l → length (replaced low new l) ≡ length l
  length-replaced low new l fits =
      omega (
        arith,
        length-append (take low l) (new ++ drop (low + length new) l),
        length-append new (drop (low + length new) l),
        length-take-le low l (omega arith),
        length-drop (low + length new) l,
      )

  -- ---- single members

  get_or-range : (low width : ℕ) (l : List A) (k : ℕ) (d : A) → k < width → get_or (range low width l) k d ≡ get_or l (low + k) d
  get_or-range low width l k d lt = get_or-take width (drop low l) k d lt ∙ get_or-drop low l k d

  get_or-before : (low : ℕ) (new l : List A) (i : ℕ) (d : A) → low + length new ≤ length l → i < low → get_or (replaced low new l) i d ≡ get_or l i d
  get_or-before low new l i d fits lt =
      get_or_append_left (take low l) (new ++ drop (low + length new) l) d i (omega (arith, length-take-le low l (omega arith)))
      ∙ get_or-take low l i d lt

  get_or-inside : (low : ℕ) (new l : List A) (i k : ℕ) (d : A) → low + length new ≤ length l → i ≡ low + k → k < length new → get_or (replaced low new l) i d ≡ get_or new k d
  get_or-inside low new l i k d fits is lt =
      let same : i - low ≡ k = omega arith in
      get_or-append_right (take low l) (new ++ drop (low + length new) l) low i d (length-take-le low l (omega arith)) (omega arith)
      ∙ ap (λ (n : ℕ). get_or (new ++ drop (low + length new) l) n d) same
      ∙ get_or_append_left new (drop (low + length new) l) d k lt

  get_or-behind : (low : ℕ) (new l : List A) (i : ℕ) (d : A) → low + length new ≤ length l → low + length new ≤ i → get_or (replaced low new l) i d ≡ get_or l i d
  get_or-behind low new l i d fits le =
      let same : low + length new + (i - low - length new) ≡ i = omega arith in
      get_or-append_right (take low l) (new ++ drop (low + length new) l) low i d (length-take-le low l (omega arith)) (omega arith)
      ∙ get_or-append_right new (drop (low + length new) l) (length new) (i - low) d refl (omega arith)
      ∙ get_or-drop (low + length new) l (i - low - length new) d
      ∙ ap (λ (n : ℕ). get_or l n d) same

  -- ---- ranges of ranges

  pub range-append : (low m n : ℕ) (l : List A) → range low (m + n) l ≡ range low m l ++ range (low + m) n l
  range-append low m n l =
      sym (take-append-drop m (take (m + n) (drop low l)))
      ∙ (λ i. take-take m (m + n) (drop low l) (omega arith) i ++ (drop-take m n (drop low l) ∙ ap (take n) (drop-drop m low l)) i)

  pub range-range : (inner m outer n : ℕ) (l : List A) → inner + m ≤ n → range inner m (range outer n l) ≡ range (outer + inner) m l
  range-range inner m outer n l fits =
      let split : inner + (n - inner) ≡ n = omega arith in
      ap (λ (w : ℕ). take m (drop inner (take w (drop outer l)))) (sym split)
      ∙ ap (take m) (drop-take inner (n - inner) (drop outer l))
      ∙ take-take m (n - inner) (drop inner (drop outer l)) (omega arith)
      ∙ ap (take m) (drop-drop inner outer l)

  pub range_all : (l : List A) → range 0 (length l) l ≡ l
  range_all l = take_all (length l) l (omega arith)

  -- the two halves, and any two parts, are the whole
  pub range-halves : (n : ℕ) (l : List A) → range 0 n l ++ drop n l ≡ l
  range-halves n l = take-append-drop n l

  pub range-append_left : (low width : ℕ) (xs ys : List A) → low + width ≤ length xs → range low width (xs ++ ys) ≡ range low width xs
  range-append_left low width xs ys fits =
      same_lists _ _
      (length-range low width (xs ++ ys) (omega (arith, length-append xs ys)) ∙ sym (length-range low width xs fits))
      (λ k d lt.
      let below : k < width = omega (arith, length-range low width (xs ++ ys) (omega (arith, length-append xs ys))) in
      get_or-range low width (xs ++ ys) k d below ∙ get_or_append_left xs ys d (low + k) (omega arith) ∙ sym (get_or-range low width xs k d below))

  pub range-append_right : (low width : ℕ) (xs ys : List A) → range (length xs + low) width (xs ++ ys) ≡ range low width ys
  range-append_right low width xs ys =
      ap (take width) (sym (drop-drop low (length xs) (xs ++ ys)) ∙ ap (drop low) (drop_at xs ys (length xs) refl))

  -- ---- a read after a replacement

  pub range-replaced_inside : (at width low : ℕ) (new l : List A) → low + length new ≤ length l → at + width ≤ length new → range (low + at) width (replaced low new l) ≡ range at width new
  range-replaced_inside at width low new l fits inside =
      let len : length (range (low + at) width (replaced low new l)) ≡ width = length-range (low + at) width (replaced low new l) (omega (arith, length-replaced low new l fits)) in
      same_lists _ _
      (len ∙ sym (length-range at width new inside))
      (λ k d lt.
      let below : k < width = omega (arith, len) in
      get_or-range (low + at) width (replaced low new l) k d below
      ∙ get_or-inside low new l (low + at + k) (at + k) d fits (omega arith) (omega arith)
      ∙ sym (get_or-range at width new k d below))

  pub range-replaced_same : (low : ℕ) (new l : List A) → low + length new ≤ length l → range low (length new) (replaced low new l) ≡ new
  range-replaced_same low new l fits =
      let here : low + 0 ≡ low = omega arith in
      ap (λ (n : ℕ). range n (length new) (replaced low new l)) (sym here)
      ∙ range-replaced_inside 0 (length new) low new l fits (omega arith)
      ∙ range_all new

  pub range-replaced_beside : (at width low : ℕ) (new l : List A) → low + length new ≤ length l → at + width ≤ length l → (at + width ≤ low) ⊎ (low + length new ≤ at) → range at width (replaced low new l) ≡ range at width l
  range-replaced_beside at width low new l fits within apart =
      let len : length (range at width (replaced low new l)) ≡ width = length-range at width (replaced low new l) (omega (arith, length-replaced low new l fits)) in
      same_lists _ _
      (len ∙ sym (length-range at width l within))
      (λ k d lt.
      let below : k < width = omega (arith, len) in
      get_or-range at width (replaced low new l) k d below
      ∙ elim apart [
        | inl before ↦ get_or-before low new l (at + k) d fits (omega arith)
        | inr behind ↦ get_or-behind low new l (at + k) d fits (omega arith)
      ]
      ∙ sym (get_or-range at width l k d below))

  -- a range that holds all that was replaced
  pub range-replaced_around : (at width skip : ℕ) (new l : List A) → skip + length new ≤ width → at + width ≤ length l → range at width (replaced (at + skip) new l) ≡ replaced skip new (range at width l)
  range-replaced_around at width skip new l inside within =
      let fits : at + skip + length new ≤ length l = omega arith in
      let len : length (range at width (replaced (at + skip) new l)) ≡ width = length-range at width (replaced (at + skip) new l) (omega (arith, length-replaced (at + skip) new l fits)) in
      let room : skip + length new ≤ length (range at width l) = omega (arith, length-range at width l within) in
      same_lists _ _
      (len ∙ sym (length-range at width l within) ∙ sym (length-replaced skip new (range at width l) room))
      (λ k d lt.
      let below : k < width = omega (arith, len) in
      get_or-range at width (replaced (at + skip) new l) k d below
      ∙ elim (cases_lt k skip) [
        | inl before ↦
            get_or-before (at + skip) new l (at + k) d fits (omega arith)
            ∙ sym (get_or-range at width l k d below)
            ∙ sym (get_or-before skip new (range at width l) k d room before)
        | inr past ↦ elim (cases_lt k (skip + length new)) [
          | inl here ↦
              get_or-inside (at + skip) new l (at + k) (k - skip) d fits (omega arith) (omega arith)
              ∙ sym (get_or-inside skip new (range at width l) k (k - skip) d room (omega arith) (omega arith))
          | inr behind ↦
              get_or-behind (at + skip) new l (at + k) d fits (omega arith)
              ∙ sym (get_or-range at width l k d below)
              ∙ sym (get_or-behind skip new (range at width l) k d room behind)
        ]
      ])

  -- a range that begins before what was replaced and ends inside it
  pub range-replaced_front : (at m n : ℕ) (new l : List A) → n ≤ length new → at + m + length new ≤ length l → range at (m + n) (replaced (at + m) new l) ≡ range at m l ++ take n new
  range-replaced_front at m n new l inside fits =
      let here : at + m + 0 ≡ at + m = omega arith in
      range-append at m n (replaced (at + m) new l)
      ∙ (λ i. range-replaced_beside at m (at + m) new l fits (omega arith) (inl (omega arith)) i
      ++ (ap (λ (p : ℕ). range p n (replaced (at + m) new l)) (sym here) ∙ range-replaced_inside 0 n (at + m) new l fits (omega arith)) i)

  -- a range that begins inside what was replaced and ends after it
  pub range-replaced_back : (low m n k : ℕ) (new l : List A) → m + n ≡ length new → low + length new + k ≤ length l → range (low + m) (n + k) (replaced low new l) ≡ range m n new ++ range (low + length new) k l
  range-replaced_back low m n k new l inside fits =
      let behind : low + m + n ≡ low + length new = omega arith in
      range-append (low + m) n k (replaced low new l)
      ∙ (λ i. range-replaced_inside m n low new l (omega arith) (omega arith) i
      ++ (ap (λ (p : ℕ). range p k (replaced low new l)) behind ∙ range-replaced_beside (low + length new) k low new l (omega arith) fits (inr (omega arith))) i)

  -- ---- replacements one after the other

  pub replaced-range : (low width : ℕ) (l : List A) → low + width ≤ length l → replaced low (range low width l) l ≡ l
  replaced-range low width l fits =
      let end : low + length (range low width l) ≡ low + width = omega (arith, length-range low width l fits) in
      ap (λ (n : ℕ). take low l ++ (range low width l ++ drop n l)) end
      ∙ ap (λ (rest : List A). take low l ++ (range low width l ++ rest)) (sym (drop-drop width low l))
      ∙ ap (λ (rest : List A). take low l ++ rest) (take-append-drop width (drop low l))
      ∙ take-append-drop low l

  -- two replacements side by side are one
  pub replaced-append : (low : ℕ) (xs ys l : List A) → low + length xs + length ys ≤ length l → replaced low (xs ++ ys) l ≡ replaced (low + length xs) ys (replaced low xs l)
  replaced-append low xs ys l fits =
      let first : low + length xs ≤ length l = omega arith in
      let both : low + length (xs ++ ys) ≤ length l = omega (arith, length-append xs ys) in
      let second : low + length xs + length ys ≤ length (replaced low xs l) = omega (arith, length-replaced low xs l first) in
      same_lists _ _
      (length-replaced low (xs ++ ys) l both ∙ sym (length-replaced low xs l first) ∙ sym (length-replaced (low + length xs) ys (replaced low xs l) second))
      (λ k d lt. elim (cases_lt k low) [
        | inl before ↦
            get_or-before low (xs ++ ys) l k d both before
            ∙ sym (get_or-before low xs l k d first before)
            ∙ sym (get_or-before (low + length xs) ys (replaced low xs l) k d second (omega arith))
        | inr past ↦ elim (cases_lt k (low + length xs)) [
          | inl in_first ↦
              get_or-inside low (xs ++ ys) l k (k - low) d both (omega arith) (omega (arith, length-append xs ys))
              ∙ get_or_append_left xs ys d (k - low) (omega arith)
              ∙ sym (get_or-inside low xs l k (k - low) d first (omega arith) (omega arith))
              ∙ sym (get_or-before (low + length xs) ys (replaced low xs l) k d second in_first)
          | inr past_first ↦ elim (cases_lt k (low + length xs + length ys)) [
            | inl in_second ↦
                get_or-inside low (xs ++ ys) l k (k - low) d both (omega arith) (omega (arith, length-append xs ys))
                ∙ get_or-append_right xs ys (length xs) (k - low) d refl (omega arith)
                ∙ sym (get_or-inside (low + length xs) ys (replaced low xs l) k (k - low - length xs) d second (omega arith) (omega arith))
            | inr behind ↦
                get_or-behind low (xs ++ ys) l k d both (omega (arith, length-append xs ys))
                ∙ sym (get_or-behind low xs l k d first past_first)
                ∙ sym (get_or-behind (low + length xs) ys (replaced low xs l) k d second behind)
          ]
        ]
      ])

  -- the later of two replacements of one range stands
  pub replaced-replaced : (low : ℕ) (xs ys l : List A) → length xs ≡ length ys → low + length xs ≤ length l → replaced low ys (replaced low xs l) ≡ replaced low ys l
  replaced-replaced low xs ys l alike fits =
      let room : low + length ys ≤ length l = omega arith in
      let again : low + length ys ≤ length (replaced low xs l) = omega (arith, length-replaced low xs l fits) in
      same_lists _ _
      (length-replaced low ys (replaced low xs l) again ∙ length-replaced low xs l fits ∙ sym (length-replaced low ys l room))
      (λ k d lt. elim (cases_lt k low) [
        | inl before ↦
            get_or-before low ys (replaced low xs l) k d again before
            ∙ get_or-before low xs l k d fits before
            ∙ sym (get_or-before low ys l k d room before)
        | inr past ↦ elim (cases_lt k (low + length ys)) [
          | inl here ↦
              get_or-inside low ys (replaced low xs l) k (k - low) d again (omega arith) (omega arith)
              ∙ sym (get_or-inside low ys l k (k - low) d room (omega arith) (omega arith))
          | inr behind ↦
              get_or-behind low ys (replaced low xs l) k d again behind
              ∙ get_or-behind low xs l k d fits (omega arith)
              ∙ sym (get_or-behind low ys l k d room behind)
        ]
      ])

  -- replacements that do not meet may be made in either order
  pub replaced_apart : (a b : ℕ) (xs ys l : List A) → a + length xs ≤ b → b + length ys ≤ length l → replaced a xs (replaced b ys l) ≡ replaced b ys (replaced a xs l)
  replaced_apart a b xs ys l apart fits =
      let lower : a + length xs ≤ length l = omega arith in
      let len_a : length (replaced a xs l) ≡ length l = length-replaced a xs l lower in
      let len_b : length (replaced b ys l) ≡ length l = length-replaced b ys l fits in
      let room_a : a + length xs ≤ length (replaced b ys l) = omega arith in
      let room_b : b + length ys ≤ length (replaced a xs l) = omega arith in
      same_lists _ _
      (length-replaced a xs (replaced b ys l) room_a ∙ len_b ∙ sym len_a ∙ sym (length-replaced b ys (replaced a xs l) room_b))
      (λ k d lt. elim (cases_lt k (a + length xs)) [
        | inl low ↦
            elim (cases_lt k a) [
              | inl before ↦ get_or-before a xs (replaced b ys l) k d room_a before ∙ get_or-before b ys l k d fits (omega arith) ∙ sym (get_or-before a xs l k d lower before)
              | inr here ↦ get_or-inside a xs (replaced b ys l) k (k - a) d room_a (omega arith) (omega arith) ∙ sym (get_or-inside a xs l k (k - a) d lower (omega arith) (omega arith))
            ]
            ∙ sym (get_or-before b ys (replaced a xs l) k d room_b (omega arith))
        | inr past ↦
            get_or-behind a xs (replaced b ys l) k d room_a past
            ∙ elim (cases_lt k b) [
              | inl before ↦ get_or-before b ys l k d fits before ∙ sym (get_or-behind a xs l k d lower past) ∙ sym (get_or-before b ys (replaced a xs l) k d room_b before)
              | inr from ↦ elim (cases_lt k (b + length ys)) [
                | inl here ↦ get_or-inside b ys l k (k - b) d fits (omega arith) (omega arith) ∙ sym (get_or-inside b ys (replaced a xs l) k (k - b) d room_b (omega arith) (omega arith))
                | inr behind ↦ get_or-behind b ys l k d fits behind ∙ sym (get_or-behind a xs l k d lower past) ∙ sym (get_or-behind b ys (replaced a xs l) k d room_b behind)
              ]
            ]
      ])

  -- to replace in a range, and put the range back, is to replace in the whole
  pub replaced-within : (skip at width : ℕ) (new l : List A) → skip + length new ≤ width → at + width ≤ length l → replaced at (replaced skip new (range at width l)) l ≡ replaced (at + skip) new l
  replaced-within skip at width new l inside within =
      let part = range at width l in
      let len : length part ≡ width = length-range at width l within in
      let room : skip + length new ≤ length part = omega arith in
      let fits : at + skip + length new ≤ length l = omega arith in
      let len_new : length (replaced skip new part) ≡ width = length-replaced skip new part room ∙ len in
      let outer : at + length (replaced skip new part) ≤ length l = omega arith in
      same_lists _ _
      (length-replaced at (replaced skip new part) l outer ∙ sym (length-replaced (at + skip) new l fits))
      (λ k d lt. elim (cases_lt k at) [
        | inl before ↦
            get_or-before at (replaced skip new part) l k d outer before ∙ sym (get_or-before (at + skip) new l k d fits (omega arith))
        | inr past ↦ elim (cases_lt k (at + width)) [
          | inl here ↦
              get_or-inside at (replaced skip new part) l k (k - at) d outer (omega arith) (omega arith)
              ∙ elim (cases_lt k (at + skip)) [
                | inl low ↦
                    get_or-before skip new part (k - at) d room (omega arith)
                    ∙ get_or-range at width l (k - at) d (omega arith)
                    ∙ ap (λ (n : ℕ). get_or l n d) (omega arith)
                    ∙ sym (get_or-before (at + skip) new l k d fits low)
                | inr from ↦ elim (cases_lt k (at + skip + length new)) [
                  | inl in_new ↦
                      get_or-inside skip new part (k - at) (k - at - skip) d room (omega arith) (omega arith)
                      ∙ sym (get_or-inside (at + skip) new l k (k - at - skip) d fits (omega arith) (omega arith))
                  | inr high ↦
                      get_or-behind skip new part (k - at) d room (omega arith)
                      ∙ get_or-range at width l (k - at) d (omega arith)
                      ∙ ap (λ (n : ℕ). get_or l n d) (omega arith)
                      ∙ sym (get_or-behind (at + skip) new l k d fits high)
                ]
              ]
          | inr behind ↦
              get_or-behind at (replaced skip new part) l k d outer (omega arith) ∙ sym (get_or-behind (at + skip) new l k d fits (omega arith))
        ]
      ])

  pub replaced_all : (new l : List A) → length new ≡ length l → replaced 0 new l ≡ new
  replaced_all new l same = ap (λ (rest : List A). new ++ rest) (drop_all (0 + length new) l (omega arith)) ∙ append-nil new

  pub replaced_none : (low : ℕ) (l : List A) → replaced low [] l ≡ l
  replaced_none low l =
      let here : low + 0 ≡ low = omega arith in
      ap (λ (n : ℕ). take low l ++ drop n l) here ∙ take-append-drop low l
