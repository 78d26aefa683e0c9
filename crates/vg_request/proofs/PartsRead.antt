-- What `clap` reads of words that are parts.
use Rattle.std.proofs.Common.{◌≡◌, ◌∙◌, ap, ap₂, Bool, true, false, ℕ, List, [], ◌∷◌, ◌++◌, Some, None, Option, refl, sym, subst, codes, map, fold, ◌==◌, ◌&&◌, ◌<◌, arith, nat_lt, option_map, take, drop, is_some, length, cond}
use Rattle.std.specs.Prelude.{slice_index, unwrap_or}
use Rattle.std.specs.List.{list_all}
use Rattle.std.specs.Str.{bytes_eq, is_utf8}
use Rattle.std.proofs.lemmas.Bool.{and_parts}
use Rattle.std.proofs.lemmas.List.{append-nil, append_assoc, take-append-drop}
use Rattle.std.proofs.lemmas.Slice.Eq.{bytes_eq-Decides}
use Rattle.clap.specs.Words.{app_of, built, found_of, matches_of, is_simple, one_text, rows_of, takes}
use Rattle.clap.specs.Simple.{entered}
use Rattle.clap.specs.Takes.{default_passes, entered_passes, is_valid, settle_passes, turn_passes, walk_passes}
use Rattle.clap.specs.Walk.{Row, Rule, Text, Walk, finished, has_row, nothing_held, one_of, reading_by, used, walked, walk, with_default, with_values}
use Rattle.clap.specs.declared.builder.value_parser.Reading.{Reading}
use Rattle.clap.specs.declared.parser.matches.ValueSource.{ValueSource}
use Rattle.clap.specs.declared.parser.matches.ValueSource.TheVariants.{CommandLine, DefaultValue}
use Rattle.clap.specs.declared.parser.matches.ArgMatches.{ArgMatches}
use Rattle.clap.proofs.WalkLemmas.{raw_values-rows, one_text-rows}
use Rattle.vg_request.specs.Word.{plain_word}
use Rattle.vg_outside.specs.Text.{text_or_empty}
use Rattle.vg_request.specs.declared.part.Flag.{Flag}
use Rattle.vg_request.specs.declared.part.Flag.TheVariants.{Guard, More}
use Rattle.vg_request.specs.Parts.{Part, width, extension, flag, word, flag_word, parts_of, part_of, before, begins, widths_in, extensions_in, flags_in, words_in}
use Rattle.vg_request.specs.Found.{HasParts, flag_text, values_of}
use Rattle.vg_request.specs.Readable.{at_most_one, may_follow, free_first, are_options}
use Rattle.vg_request.proofs.Cuts.{few}
use Rattle.vg_request.proofs.Command.{app, is_simple_app, shape, rules, flag_id, width_built, with_built, flag_built, files_built}
use Rattle.vg_request.proofs.Rows.{vals, same_id, other_id, no_default, none_without, other_row, other_one, first_row}
use Rattle.vg_request.proofs.Texts.{shown, width_word, with_word, width_and, with_and, word_is_text}
use Rattle.vg_request.proofs.Walks.{Calm, IsFresh, IsPlain, Rest, none, of_file, of_width, of_with, between, use_of, after_option, at_width, at_with, at_value, at_name, at_width_is, at_with_is, at_file, at_flag}

-- what the words of a flag leave of its rows: the flag as it was, or set
abbrev Sets : Text → List Text → List Row → List Row → Type 0
Sets id [] old new = (has_row id new ≡ has_row id old) × (one_of id new ≡ one_of id old)
Sets id (g ∷ gs) old new = (has_row id new ≡ true) × (one_of id new ≡ Some (codes "true"))

kept_then : (id : Text) (l : List Text) (old mid new : List Row) → Sets id [] old mid → Sets id l mid new → Sets id l old new
kept_then id [] old mid new a b = (b.0 ∙ a.0, b.1 ∙ a.1)
kept_then id (g ∷ l) old mid new a b = b

set_then : (id g : Text) (l : List Text) (old mid new : List Row) → Sets id (g ∷ []) old mid → Sets id l mid new → Sets id (g ∷ l) old new
set_then id g [] old mid new a b = (b.0 ∙ a.0, b.1 ∙ a.1)
set_then id g (h ∷ l) old mid new a b = b

then_kept : (id : Text) (l : List Text) (old mid new : List Row) → Sets id l old mid → Sets id [] mid new → Sets id l old new
then_kept id [] old mid new a b = (b.0 ∙ a.0, b.1 ∙ a.1)
then_kept id (g ∷ l) old mid new a b = (b.0 ∙ a.0, b.1 ∙ a.1)

flag_then : (f : Flag) (p : Part) (ps : List Part) (old mid new : List Row) → Sets (flag_id f) (flags_in f (p ∷ [])) old mid → Sets (flag_id f) (flags_in f ps) mid new → Sets (flag_id f) (flags_in f (p ∷ ps)) old new
flag_then f (width v) ps old mid new a b = kept_then (flag_id f) (flags_in f ps) old mid new a b
flag_then f (extension v) ps old mid new a b = kept_then (flag_id f) (flags_in f ps) old mid new a b
flag_then Guard (flag Guard) ps old mid new a b = set_then (codes "guard") (codes "--guard") (flags_in Guard ps) old mid new a b
flag_then Guard (flag More) ps old mid new a b = kept_then (codes "guard") (flags_in Guard ps) old mid new a b
flag_then More (flag Guard) ps old mid new a b = kept_then (codes "more") (flags_in More ps) old mid new a b
flag_then More (flag More) ps old mid new a b = set_then (codes "more") (codes "--more") (flags_in More ps) old mid new a b
flag_then f (word v) ps old mid new a b = kept_then (flag_id f) (flags_in f ps) old mid new a b

-- the id of no flag
abbrev NoFlag : Text → Type 0
NoFlag id = (f : Flag) → (bytes_eq id (flag_id f) ≡ false) × (bytes_eq (flag_id f) id ≡ false)

no_width : NoFlag (codes "width")
no_width Guard = (refl, refl)
no_width More = (refl, refl)

no_with : NoFlag (codes "with")
no_with Guard = (refl, refl)
no_with More = (refl, refl)

no_file : NoFlag (codes "files")
no_file Guard = (refl, refl)
no_file More = (refl, refl)

-- the values of one part more
record Adds (p : Part) (old new : List Row) : Type 0 where
  pub widths : vals (codes "width") new ≡ vals (codes "width") old ++ widths_in (p ∷ [])
  pub names : vals (codes "with") new ≡ vals (codes "with") old ++ extensions_in (p ∷ [])
  pub files : vals (codes "files") new ≡ vals (codes "files") old ++ words_in (p ∷ [])
  pub flags : (f : Flag) → Sets (flag_id f) (flags_in f (p ∷ [])) old new

-- a use of another id leaves a flag as it was
kept_by : (own : Text) (how : Reading) (s : ValueSource) (vs : List Text) (rows : List Row) (f : Flag) → bytes_eq own (flag_id f) ≡ false → Sets (flag_id f) [] rows (with_values own how s vs rows)
kept_by own how s vs rows f other = (other_row (flag_id f) own how s vs rows other, other_one (flag_id f) own how s vs rows other)

-- no row of the width
abbrev Clear : List Row → Type 0
Clear rows = has_row (codes "width") rows ≡ false

first_width : (v : Text) (rows : List Row) → Adds (width v) rows (with_values (codes "width") (reading_by width_built) CommandLine (v ∷ []) rows)
first_width v rows = record {
  widths = same_id (codes "width") _ _ (v ∷ []) rows refl;
  names = other_id (codes "with") (codes "width") _ _ (v ∷ []) rows refl ∙ sym (append-nil _);
  files = other_id (codes "files") (codes "width") _ _ (v ∷ []) rows refl ∙ sym (append-nil _);
  flags = λ f. kept_by (codes "width") _ _ (v ∷ []) rows f (no_width f).0;
}

adds_width : (v : Text) (rows : List Row) → Clear rows → Adds (width v) rows (used width_built (v ∷ []) rows)
adds_width v rows clear =
    let is : used width_built (v ∷ []) rows ≡ with_values (codes "width") (reading_by width_built) CommandLine (v ∷ []) rows = ap (λ l. with_values (codes "width") (reading_by width_built) CommandLine (v ∷ []) l) (none_without (codes "width") rows clear) in
    subst (Adds (width v) rows) (sym is) (first_width v rows)

adds_name : (v : Text) (rows : List Row) → Adds (extension v) rows (used with_built (v ∷ []) rows)
adds_name v rows = record {
  widths = other_id (codes "width") (codes "with") _ _ (v ∷ []) rows refl ∙ sym (append-nil _);
  names = same_id (codes "with") _ _ (v ∷ []) rows refl;
  files = other_id (codes "files") (codes "with") _ _ (v ∷ []) rows refl ∙ sym (append-nil _);
  flags = λ f. kept_by (codes "with") _ _ (v ∷ []) rows f (no_with f).0;
}

adds_file : (v : Text) (rows : List Row) → Adds (word v) rows (used files_built (v ∷ []) rows)
adds_file v rows = record {
  widths = other_id (codes "width") (codes "files") _ _ (v ∷ []) rows refl ∙ sym (append-nil _);
  names = other_id (codes "with") (codes "files") _ _ (v ∷ []) rows refl ∙ sym (append-nil _);
  files = same_id (codes "files") _ _ (v ∷ []) rows refl;
  flags = λ f. kept_by (codes "files") _ _ (v ∷ []) rows f (no_file f).0;
}

-- no row of a flag
abbrev Unset : Flag → List Row → Type 0
Unset f rows = has_row (flag_id f) rows ≡ false

set_flag : Flag → List Row → List Row
set_flag f rows = with_values (flag_id f) (reading_by (flag_built f)) CommandLine (codes "true" ∷ []) rows

given : (f g : Flag) (rows : List Row) → Unset f rows → Sets (flag_id g) (flags_in g (flag f ∷ [])) rows (set_flag f rows)
unfolding set_flag
given Guard Guard rows unset = first_row (codes "guard") (reading_by (flag_built Guard)) CommandLine (codes "true") rows refl unset
given Guard More rows unset = kept_by (codes "guard") (reading_by (flag_built Guard)) CommandLine (codes "true" ∷ []) rows More refl
given More Guard rows unset = kept_by (codes "more") (reading_by (flag_built More)) CommandLine (codes "true" ∷ []) rows Guard refl
given More More rows unset = first_row (codes "more") (reading_by (flag_built More)) CommandLine (codes "true") rows refl unset

first_flag : (f : Flag) (rows : List Row) → Unset f rows → Adds (flag f) rows (set_flag f rows)
unfolding set_flag
first_flag f rows unset = record {
  widths = other_id (codes "width") (flag_id f) _ _ (codes "true" ∷ []) rows (no_width f).1 ∙ sym (append-nil _);
  names = other_id (codes "with") (flag_id f) _ _ (codes "true" ∷ []) rows (no_with f).1 ∙ sym (append-nil _);
  files = other_id (codes "files") (flag_id f) _ _ (codes "true" ∷ []) rows (no_file f).1 ∙ sym (append-nil _);
  flags = λ g. given f g rows unset;
}

flag_used : (f : Flag) (rows : List Row) → Unset f rows → used (flag_built f) [] rows ≡ set_flag f rows
unfolding set_flag
flag_used Guard rows unset = ap (set_flag Guard) (none_without (codes "guard") rows unset)
flag_used More rows unset = ap (set_flag More) (none_without (codes "more") rows unset)

adds_flag : (f : Flag) (rows : List Row) → Unset f rows → Adds (flag f) rows (used (flag_built f) [] rows)
adds_flag f rows unset = subst (Adds (flag f) rows) (sym (flag_used f rows unset)) (first_flag f rows unset)

flag_stays : (f : Flag) (rows : List Row) → Unset f rows → has_row (codes "width") (used (flag_built f) [] rows) ≡ has_row (codes "width") rows
unfolding set_flag
flag_stays f rows unset = ap (has_row (codes "width")) (flag_used f rows unset) ∙ other_row (codes "width") (flag_id f) _ _ (codes "true" ∷ []) rows (no_width f).1

-- what a part asks of what stands before it, and what it keeps
abbrev Asks : Part → List Row → Type 0
Asks (width v) rows = Clear rows
Asks (flag f) rows = Unset f rows
Asks _ rows = Unit {0}

abbrev Stays : Part → List Row → List Row → Type 0
Stays (width v) old new = Unit {0}
Stays _ old new = has_row (codes "width") new ≡ has_row (codes "width") old

-- the parts may follow
record May (ps : List Part) (rows : List Row) (r : Rest) : Type 0 where
  pub calm : Calm rows r
  pub once : length (widths_in ps) < 2
  pub clear : 0 < length (widths_in ps) → Clear (use_of r rows)
  pub once_each : (f : Flag) → length (flags_in f ps) < 2
  pub unset : (f : Flag) → 0 < length (flags_in f ps) → Unset f (use_of r rows)

some_flag : (f : Flag) (ps : List Part) → 0 < length (flags_in f (flag f ∷ ps))
some_flag Guard ps = omega arith
some_flag More ps = omega arith

asks : (p : Part) (ps : List Part) (rows : List Row) (r : Rest) → May (p ∷ ps) rows r → Asks p (use_of r rows)
asks (width v) ps rows r m = m.clear (omega arith)
asks (extension v) ps rows r m = tt
asks (flag f) ps rows r m = m.unset f (some_flag f ps)
asks (word v) ps rows r m = tt

-- what is left of the flags after one of them
fewer : (f g : Flag) (ps : List Part) → length (flags_in g (flag f ∷ ps)) < 2 → length (flags_in g ps) < 2
fewer Guard Guard ps few = omega (arith, few)
fewer Guard More ps few = few
fewer More Guard ps few = few
fewer More More ps few = omega (arith, few)

unset_behind : (f g : Flag) (ps : List Part) (old new : List Row) → length (flags_in g (flag f ∷ ps)) < 2 → (0 < length (flags_in g (flag f ∷ ps)) → Unset g old)
    → Sets (flag_id g) (flags_in g (flag f ∷ [])) old new → 0 < length (flags_in g ps) → Unset g new
unset_behind Guard Guard ps old new few unset sets some = absurd (omega (arith, few, some))
unset_behind Guard More ps old new few unset sets some = sets.0 ∙ unset some
unset_behind More Guard ps old new few unset sets some = sets.0 ∙ unset some
unset_behind More More ps old new few unset sets some = absurd (omega (arith, few, some))

may_behind : (p : Part) (ps : List Part) (rows behind : List Row) (r rest : Rest) → May (p ∷ ps) rows r → Calm behind rest → Stays p (use_of r rows) (use_of rest behind)
    → ((f : Flag) → Sets (flag_id f) (flags_in f (p ∷ [])) (use_of r rows) (use_of rest behind)) → May ps behind rest
may_behind (width v) ps rows behind r rest m calm stays sets =
    let few = m.once in
    record { calm = calm; once = omega (arith, few); clear = λ some. absurd (omega (arith, few, some)); once_each = m.once_each; unset = λ f some. (sets f).0 ∙ m.unset f some }
may_behind (extension v) ps rows behind r rest m calm stays sets = record { calm = calm; once = m.once; clear = λ some. stays ∙ m.clear some; once_each = m.once_each; unset = λ f some. (sets f).0 ∙ m.unset f some }
may_behind (flag f) ps rows behind r rest m calm stays sets = record {
  calm = calm;
  once = m.once;
  clear = λ some. stays ∙ m.clear some;
  once_each = λ g. fewer f g ps (m.once_each g);
  unset = λ g. unset_behind f g ps (use_of r rows) (use_of rest behind) (m.once_each g) (m.unset g) (sets g);
}
may_behind (word v) ps rows behind r rest m calm stays sets = record { calm = calm; once = m.once; clear = λ some. stays ∙ m.clear some; once_each = m.once_each; unset = λ f some. (sets f).0 ∙ m.unset f some }

-- the walk over the words of parts, from between two parts
record Walked (words : List Text) (ps : List Part) (rows : List Row) (r : Rest) : Type 0 where
  pub behind : List Row
  pub rest : Rest
  pub is : fold (walked rules []) (between rows r) words ≡ between behind rest
  pub calm : Calm behind rest
  pub passes : walk_passes shape [] (between rows r) words ≡ true
  pub widths : vals (codes "width") (use_of rest behind) ≡ vals (codes "width") (use_of r rows) ++ widths_in ps
  pub names : vals (codes "with") (use_of rest behind) ≡ vals (codes "with") (use_of r rows) ++ extensions_in ps
  pub files : vals (codes "files") (use_of rest behind) ≡ vals (codes "files") (use_of r rows) ++ words_in ps
  pub flags : (f : Flag) → Sets (flag_id f) (flags_in f ps) (use_of r rows) (use_of rest behind)

reads_none : (rows : List Row) (r : Rest) → Calm rows r → Walked [] [] rows r
unfolding walk_passes
reads_none rows r calm = record {
  behind = rows;
  rest = r;
  is = refl;
  calm = calm;
  passes = refl;
  widths = sym (append-nil _);
  names = sym (append-nil _);
  files = sym (append-nil _);
  flags = λ f. (refl, refl);
}

-- one part, of one word
record Step (w : Text) (p : Part) (rows : List Row) (r : Rest) : Type 0 where
  pub behind : List Row
  pub rest : Rest
  pub is : walked rules [] (between rows r) w ≡ between behind rest
  pub passes : turn_passes shape [] (between rows r) w ≡ true
  pub adds : Adds p (use_of r rows) (use_of rest behind)
  pub calm : Calm behind rest
  pub stays : Stays p (use_of r rows) (use_of rest behind)

split_widths : (p : Part) (ps : List Part) → widths_in (p ∷ []) ++ widths_in ps ≡ widths_in (p ∷ ps)
split_widths (width v) ps = refl
split_widths (extension v) ps = refl
split_widths (flag f) ps = refl
split_widths (word v) ps = refl

split_names : (p : Part) (ps : List Part) → extensions_in (p ∷ []) ++ extensions_in ps ≡ extensions_in (p ∷ ps)
split_names (width v) ps = refl
split_names (extension v) ps = refl
split_names (flag f) ps = refl
split_names (word v) ps = refl

split_words : (p : Part) (ps : List Part) → words_in (p ∷ []) ++ words_in ps ≡ words_in (p ∷ ps)
split_words (width v) ps = refl
split_words (extension v) ps = refl
split_words (flag f) ps = refl
split_words (word v) ps = refl

chain : (new mid old one more all : List Text) → new ≡ mid ++ more → mid ≡ old ++ one → one ++ more ≡ all → new ≡ old ++ all
chain new mid old one more all a b c = a ∙ ap (λ l. l ++ more) b ∙ append_assoc old one more ∙ ap (λ l. old ++ l) c

one_more : (w : Text) (p : Part) (words : List Text) (ps : List Part) (rows : List Row) (r : Rest) → Step w p rows r → May (p ∷ ps) rows r → ((rows2 : List Row) (r2 : Rest) → May ps rows2 r2 → Walked words ps rows2 r2)
    → Walked (w ∷ words) (p ∷ ps) rows r
unfolding walk_passes
one_more w p words ps rows r step may others =
    let more = others step.behind step.rest (may_behind p ps rows step.behind r step.rest may step.calm step.stays step.adds.flags) in
    record {
      behind = more.behind;
      rest = more.rest;
      calm = more.calm;
      is = ap (λ z. fold (walked rules []) z words) step.is ∙ more.is;
      passes = ap₂ (λ a z. a && walk_passes shape [] z words) step.passes step.is ∙ more.passes;
      widths = chain _ _ _ _ _ _ more.widths step.adds.widths (split_widths p ps);
      names = chain _ _ _ _ _ _ more.names step.adds.names (split_names p ps);
      files = chain _ _ _ _ _ _ more.files step.adds.files (split_words p ps);
      flags = λ f. flag_then f p ps _ _ _ (step.adds.flags f) (more.flags f);
    }

-- one part, of two words
record Steps (w v : Text) (p : Part) (rows : List Row) (r : Rest) : Type 0 where
  pub middle : Walk
  pub behind : List Row
  pub rest : Rest
  pub first : walked rules [] (between rows r) w ≡ middle
  pub second : walked rules [] middle v ≡ between behind rest
  pub passes : turn_passes shape [] (between rows r) w ≡ true
  pub passes_too : turn_passes shape [] middle v ≡ true
  pub adds : Adds p (use_of r rows) (use_of rest behind)
  pub calm : Calm behind rest
  pub stays : Stays p (use_of r rows) (use_of rest behind)

two_more : (w v : Text) (p : Part) (words : List Text) (ps : List Part) (rows : List Row) (r : Rest) → Steps w v p rows r → May (p ∷ ps) rows r → ((rows2 : List Row) (r2 : Rest) → May ps rows2 r2 → Walked words ps rows2 r2)
    → Walked (w ∷ v ∷ words) (p ∷ ps) rows r
unfolding walk_passes
two_more w v p words ps rows r step may others =
    let more = others step.behind step.rest (may_behind p ps rows step.behind r step.rest may step.calm step.stays step.adds.flags) in
    record {
      behind = more.behind;
      rest = more.rest;
      calm = more.calm;
      is = ap (λ z. fold (walked rules []) (walked rules [] z v) words) step.first ∙ ap (λ z. fold (walked rules []) z words) step.second ∙ more.is;
      passes = ap₂ (λ a z. a && (turn_passes shape [] z v && walk_passes shape [] (walked rules [] z v) words)) step.passes step.first
          ∙ ap₂ (λ a z. a && walk_passes shape [] z words) step.passes_too step.second ∙ more.passes;
      widths = chain _ _ _ _ _ _ more.widths step.adds.widths (split_widths p ps);
      names = chain _ _ _ _ _ _ more.names step.adds.names (split_names p ps);
      files = chain _ _ _ _ _ _ more.files step.adds.files (split_words p ps);
      flags = λ f. flag_then f p ps _ _ _ (step.adds.flags f) (more.flags f);
    }

-- what a word that is no option is
plain_is : (v u : Text) → plain_word v ≡ Some u → (u ≡ v) × IsPlain v × (is_utf8 v ≡ true)
plain_is v u e = by (slice_index v 0 == 45) refl (is_utf8 v) refl
  where
    by : (b : Bool) → (slice_index v 0 == 45) ≡ b → (t : Bool) → is_utf8 v ≡ t → (u ≡ v) × IsPlain v × (is_utf8 v ≡ true)
    by true x t y =
        let bad : None ≡ Some u = rw x at e in
        cc
    by false x false y =
        let bad : None ≡ Some u = rw (x, y) at e in
        cc
    by false x true y =
        let is : Some v ≡ Some u = rw (x, y) at e in
        (ap (λ o. unwrap_or o v) (sym is), x, y)

mapped : {X Y : Type 0} (f : X → Y) (o : Option X) (y : Y) → option_map f o ≡ Some y → (x : X) × (o ≡ Some x) × (f x ≡ y)
mapped f None y e = cc
mapped f (Some x) y e = (x, refl, ap (λ o. unwrap_or o (f x)) e)

parted : (p : Option Part) (o : Option (List Part)) (ps : List Part) → before p o ≡ Some ps → (q : Part) × (qs : List Part) × (p ≡ Some q) × (o ≡ Some qs) × (q ∷ qs ≡ ps)
parted None o ps e = cc
parted (Some q) None ps e = cc
parted (Some q) (Some qs) ps e = (q, qs, refl, refl, ap (λ o. unwrap_or o (q ∷ qs)) e)

begun : (front w : Text) → begins front w ≡ true → w ≡ front ++ drop (length front) w
begun front w e = sym (take-append-drop (length front) w) ∙ ap (λ l. l ++ drop (length front) w) ((bytes_eq-Decides _ front).0 e)

-- a part of one word, as `clap` is shown it
abbrev Single : Text → Part → Type 0
Single w p = (rows : List Row) (r : Rest) → Calm rows r → Asks p (use_of r rows) → Step (text_or_empty w) p rows r

single_width : (w u v : Text) → w ≡ codes "--width=" ++ v → plain_word v ≡ Some u → Single w (width u)
single_width w u v begun e rows r calm clear =
    let plain = plain_is v u e in
    let is_w : text_or_empty w ≡ codes "--width=" ++ v = ap text_or_empty begun ∙ shown _ (width_and v plain.2) in
    let at = at_width_is rows r v calm clear in
    subst (λ t. Step t (width u) rows r) (sym is_w) (subst (λ t. Step (codes "--width=" ++ v) (width t) rows r) (sym plain.0) (record {
      behind = used width_built (v ∷ []) (use_of r rows);
      rest = none;
      is = at.0;
      passes = at.1;
      adds = adds_width v (use_of r rows) clear;
      calm = tt;
      stays = tt;
    }))

single_with : (w u v : Text) → w ≡ codes "--with=" ++ v → plain_word v ≡ Some u → Single w (extension u)
single_with w u v begun e rows r calm clear =
    let plain = plain_is v u e in
    let is_w : text_or_empty w ≡ codes "--with=" ++ v = ap text_or_empty begun ∙ shown _ (with_and v plain.2) in
    let at = at_with_is rows r v calm in
    subst (λ t. Step t (extension u) rows r) (sym is_w) (subst (λ t. Step (codes "--with=" ++ v) (extension t) rows r) (sym plain.0) (record {
      behind = used with_built (v ∷ []) (use_of r rows);
      rest = none;
      is = at.0;
      passes = at.1;
      adds = adds_name v (use_of r rows);
      calm = tt;
      stays = other_row (codes "width") (codes "with") _ _ (v ∷ []) (use_of r rows) refl;
    }))

single_word : (w u : Text) → plain_word w ≡ Some u → Single w (word u)
single_word w u e rows r calm clear =
    let plain = plain_is w u e in
    let at = at_file rows r w plain.1 calm in
    subst (λ t. Step t (word u) rows r) (sym (shown w plain.2)) (subst (λ t. Step w (word t) rows r) (sym plain.0) (record {
      behind = use_of r rows;
      rest = of_file w;
      is = at.0;
      passes = at.1;
      adds = adds_file w (use_of r rows);
      calm = tt;
      stays = other_row (codes "width") (codes "files") _ _ (w ∷ []) (use_of r rows) refl;
    }))

single_flag : (f : Flag) (w : Text) → w ≡ flag_word f → Single w (flag f)
single_flag f w option rows r calm unset =
    let is_w : text_or_empty w ≡ flag_word f = ap text_or_empty option ∙ shown _ (word_is_text f) in
    let at = at_flag f rows r calm unset in
    subst (λ t. Step t (flag f) rows r) (sym is_w) (record {
      behind = used (flag_built f) [] (use_of r rows);
      rest = none;
      is = at.0;
      passes = at.1;
      adds = adds_flag f (use_of r rows) unset;
      calm = tt;
      stays = flag_stays f (use_of r rows) unset;
    })

single : (w : Text) (p : Part) → part_of w ≡ Some p → Single w p
single w p e = by (begins (codes "--width=") w) refl (begins (codes "--with=") w) refl (bytes_eq w (codes "--guard")) refl (bytes_eq w (codes "--more")) refl
  where
    by : (a : Bool) → begins (codes "--width=") w ≡ a → (b : Bool) → begins (codes "--with=") w ≡ b → (c : Bool) → bytes_eq w (codes "--guard") ≡ c → (d : Bool) → bytes_eq w (codes "--more") ≡ d → Single w p
    by true x b y c z d u =
        let is : option_map (λ v. width v) (plain_word (drop 8 w)) ≡ Some p = rw x at e in
        let m = mapped (λ v. width v) _ p is in
        subst (Single w) m.2 (single_width w m.0 (drop 8 w) (begun (codes "--width=") w x) m.1)
    by false x true y c z d u =
        let is : option_map (λ v. extension v) (plain_word (drop 7 w)) ≡ Some p = rw (x, y) at e in
        let m = mapped (λ v. extension v) _ p is in
        subst (Single w) m.2 (single_with w m.0 (drop 7 w) (begun (codes "--with=") w y) m.1)
    by false x false y true z d u =
        let is : Some (flag Guard) ≡ Some p = rw (x, y, z) at e in
        subst (Single w) (ap (λ o. unwrap_or o p) is) (single_flag Guard w ((bytes_eq-Decides w (codes "--guard")).0 z))
    by false x false y false z true u =
        let is : Some (flag More) ≡ Some p = rw (x, y, z, u) at e in
        subst (Single w) (ap (λ o. unwrap_or o p) is) (single_flag More w ((bytes_eq-Decides w (codes "--more")).0 u))
    by false x false y false z false u =
        let is : option_map (λ v. word v) (plain_word w) ≡ Some p = rw (x, y, z, u) at e in
        let m = mapped (λ v. word v) _ p is in
        subst (Single w) m.2 (single_word w m.0 m.1)

abbrev Double : Text → Text → Part → Type 0
Double w v p = (rows : List Row) (r : Rest) → Calm rows r → Asks p (use_of r rows) → Steps (text_or_empty w) (text_or_empty v) p rows r

double_width : (w v u : Text) → w ≡ codes "--width" → plain_word v ≡ Some u → Double w v (width u)
double_width w v u option e rows r calm clear =
    let plain = plain_is v u e in
    let is_w : text_or_empty w ≡ codes "--width" = ap text_or_empty option ∙ shown _ width_word in
    let at = at_width rows r calm in
    let then_ = at_value (use_of r rows) v plain.1 in
    subst (λ t. Steps t (text_or_empty v) (width u) rows r) (sym is_w) (subst (λ t. Steps (codes "--width") t (width u) rows r) (sym (shown v plain.2)) (subst (λ t. Steps (codes "--width") v (width t) rows r) (sym plain.0) (record {
      middle = after_option (codes "width") (use_of r rows);
      behind = use_of r rows;
      rest = of_width v;
      first = at.0;
      second = then_.0;
      passes = at.1;
      passes_too = then_.1;
      adds = adds_width v (use_of r rows) clear;
      calm = clear;
      stays = tt;
    })))

double_with : (w v u : Text) → w ≡ codes "--with" → plain_word v ≡ Some u → Double w v (extension u)
double_with w v u option e rows r calm clear =
    let plain = plain_is v u e in
    let is_w : text_or_empty w ≡ codes "--with" = ap text_or_empty option ∙ shown _ with_word in
    let at = at_with rows r calm in
    let then_ = at_name (use_of r rows) v plain.1 in
    subst (λ t. Steps t (text_or_empty v) (extension u) rows r) (sym is_w) (subst (λ t. Steps (codes "--with") t (extension u) rows r) (sym (shown v plain.2)) (subst (λ t. Steps (codes "--with") v (extension t) rows r) (sym plain.0) (record {
      middle = after_option (codes "with") (use_of r rows);
      behind = use_of r rows;
      rest = of_with v;
      first = at.0;
      second = then_.0;
      passes = at.1;
      passes_too = then_.1;
      adds = adds_name v (use_of r rows);
      calm = tt;
      stays = other_row (codes "width") (codes "with") _ _ (v ∷ []) (use_of r rows) refl;
    })))

-- the words, as `clap` is shown them
abbrev pub texts_of : List Text → List Text
texts_of = map text_or_empty

abbrev AreRead : List Text → List Part → Type 0
AreRead ws ps = (rows : List Row) (r : Rest) → May ps rows r → Walked (texts_of ws) ps rows r

by_single : (w : Text) (ws : List Text) (ps : List Part) → ((qs : List Part) → parts_of ws ≡ Some qs → AreRead ws qs) → before (part_of w) (parts_of ws) ≡ Some ps → AreRead (w ∷ ws) ps
by_single w ws ps others e rows r may0 =
    let b = parted (part_of w) (parts_of ws) ps e in
    let may = subst (λ l. May l rows r) (sym b.4) may0 in
    subst (λ l. Walked (texts_of (w ∷ ws)) l rows r) b.4
    (one_more (text_or_empty w) b.0 (texts_of ws) b.1 rows r (single w b.0 b.2 rows r may.calm (asks b.0 b.1 rows r may)) may (others b.1 b.3))

by_width : (w v : Text) (ws : List Text) (ps : List Part) → w ≡ codes "--width" → ((qs : List Part) → parts_of ws ≡ Some qs → AreRead ws qs)
    → before (option_map (λ n. width n) (plain_word v)) (parts_of ws) ≡ Some ps → AreRead (w ∷ v ∷ ws) ps
by_width w v ws ps option others e rows r may0 =
    let b = parted _ (parts_of ws) ps e in
    let may = subst (λ l. May l rows r) (sym b.4) may0 in
    let m = mapped (λ n. width n) (plain_word v) b.0 b.2 in
    subst (λ l. Walked (texts_of (w ∷ v ∷ ws)) l rows r) b.4
    (two_more (text_or_empty w) (text_or_empty v) b.0 (texts_of ws) b.1 rows r ((subst (Double w v) m.2 (double_width w v m.0 option m.1)) rows r may.calm (asks b.0 b.1 rows r may)) may (others b.1 b.3))

by_with : (w v : Text) (ws : List Text) (ps : List Part) → w ≡ codes "--with" → ((qs : List Part) → parts_of ws ≡ Some qs → AreRead ws qs)
    → before (option_map (λ n. extension n) (plain_word v)) (parts_of ws) ≡ Some ps → AreRead (w ∷ v ∷ ws) ps
by_with w v ws ps option others e rows r may0 =
    let b = parted _ (parts_of ws) ps e in
    let may = subst (λ l. May l rows r) (sym b.4) may0 in
    let m = mapped (λ n. extension n) (plain_word v) b.0 b.2 in
    subst (λ l. Walked (texts_of (w ∷ v ∷ ws)) l rows r) b.4
    (two_more (text_or_empty w) (text_or_empty v) b.0 (texts_of ws) b.1 rows r ((subst (Double w v) m.2 (double_with w v m.0 option m.1)) rows r may.calm (asks b.0 b.1 rows r may)) may (others b.1 b.3))

read : (ws : List Text) (ps : List Part) → parts_of ws ≡ Some ps → AreRead ws ps
unfolding parts_of
read [] ps e = λ rows r may. subst (λ l. Walked [] l rows r) (ap (λ o. unwrap_or o []) e) (reads_none rows r may.calm)
read (w ∷ []) ps e = by_single w [] ps (read []) e
read (w ∷ v ∷ ws) ps e = by (read ws) (read (v ∷ ws)) (bytes_eq w (codes "--width")) refl (bytes_eq w (codes "--with")) refl
  where
    by : ((qs : List Part) → parts_of ws ≡ Some qs → AreRead ws qs) → ((qs : List Part) → parts_of (v ∷ ws) ≡ Some qs → AreRead (v ∷ ws) qs)
        → (a : Bool) → bytes_eq w (codes "--width") ≡ a → (b : Bool) → bytes_eq w (codes "--with") ≡ b → AreRead (w ∷ v ∷ ws) ps
    by others behind true x b y = by_width w v ws ps ((bytes_eq-Decides w (codes "--width")).0 x) others (rw x at e)
    by others behind false x true y = by_with w v ws ps ((bytes_eq-Decides w (codes "--with")).0 y) others (rw (x, y) at e)
    by others behind false x false y = by_single w (v ∷ ws) ps behind (rw (x, y) at e)

-- the tests after the walk pass
abbrev ends_well : Walk → Bool → Bool
ends_well w passes = entered_passes (built app) w.stopped && (passes
    && (settle_passes rules false w.held && (list_all default_passes rules
    && is_valid shape (finished rules w.held) (is_some (entered (built app) w.stopped)))))

all_ends : (rows : List Row) (r : Rest) → Calm rows r → ends_well (between rows r) true ≡ true
all_ends rows none h = refl
all_ends rows (of_file v) h = refl
all_ends rows (of_width v) h = rw h refl
all_ends rows (of_with v) h = refl

-- each flag that is not given has its default
with_flags : List Row → List Row
with_flags rows = with_default (with_default rows (flag_built Guard)) (flag_built More)

only_flags : (rows : List Row) → fold with_default rows rules ≡ with_flags rows
unfolding with_flags
only_flags rows =
    let unchanged : with_default (with_default rows width_built) with_built ≡ rows = no_default _ with_built refl ∙ no_default _ width_built refl in
    no_default _ files_built refl ∙ ap (λ l. with_default (with_default l (flag_built Guard)) (flag_built More)) unchanged

at_end : (rows : List Row) (r : Rest) → finished rules (between rows r).held ≡ with_flags (use_of r rows)
at_end rows none = only_flags (use_of none rows)
at_end rows (of_file v) = only_flags (use_of (of_file v) rows)
at_end rows (of_width v) = only_flags (use_of (of_width v) rows)
at_end rows (of_with v) = only_flags (use_of (of_with v) rows)

-- after the default of a flag
vals_default : (f : Flag) (id : Text) (rows : List Row) → bytes_eq (flag_id f) id ≡ false → vals id (with_default rows (flag_built f)) ≡ vals id rows
vals_default f id rows e = by (has_row (flag_id f) rows) refl
  where
    by : (b : Bool) → has_row (flag_id f) rows ≡ b → vals id (with_default rows (flag_built f)) ≡ vals id rows
    by true is = rw is refl
    by false is = rw is (other_id id (flag_id f) (reading_by (flag_built f)) DefaultValue (codes "false" ∷ []) rows e)

kept_default : (f g : Flag) (rows : List Row) → bytes_eq (flag_id f) (flag_id g) ≡ false → Sets (flag_id g) [] rows (with_default rows (flag_built f))
kept_default f g rows e = by (has_row (flag_id f) rows) refl
  where
    by : (b : Bool) → has_row (flag_id f) rows ≡ b → Sets (flag_id g) [] rows (with_default rows (flag_built f))
    by true is = rw is (refl, refl)
    by false is = rw is (kept_by (flag_id f) (reading_by (flag_built f)) DefaultValue (codes "false" ∷ []) rows g e)

same_flag_id : (f : Flag) → bytes_eq (flag_id f) (flag_id f) ≡ true
same_flag_id Guard = refl
same_flag_id More = refl

flag_default : (f : Flag) (gs : List Text) (rows : List Row) → Sets (flag_id f) gs [] rows → one_of (flag_id f) (with_default rows (flag_built f)) ≡ Some (flag_text gs)
flag_default f [] rows sets = rw sets.0 (first_row (flag_id f) (reading_by (flag_built f)) DefaultValue (codes "false") rows (same_flag_id f) sets.0).1
flag_default f (g ∷ gs) rows sets = rw sets.0 sets.1

vals_flags : (id : Text) (rows : List Row) → NoFlag id → vals id (with_flags rows) ≡ vals id rows
unfolding with_flags
vals_flags id rows no_flag = vals_default More id (with_default rows (flag_built Guard)) (no_flag More).1 ∙ vals_default Guard id rows (no_flag Guard).1

flag_is : (f : Flag) (gs : List Text) (rows : List Row) → Sets (flag_id f) gs [] rows → one_of (flag_id f) (with_flags rows) ≡ Some (flag_text gs)
unfolding with_flags
flag_is Guard gs rows sets = (kept_default More Guard (with_default rows (flag_built Guard)) refl).1 ∙ flag_default Guard gs rows sets
flag_is More gs rows sets = flag_default More gs (with_default rows (flag_built Guard)) (then_kept (codes "more") gs [] rows _ sets (kept_default Guard More rows refl))

from_nothing : (ps : List Part) → may_follow (free_first true) (Some ps) ≡ true → May ps [] none
from_nothing ps once =
    let all = and_parts (at_most_one (widths_in ps)) _ once in
    let flags = and_parts (at_most_one (flags_in Guard ps)) (at_most_one (flags_in More ps)) all.1 in
    record { calm = tt; once = few (widths_in ps) all.0; clear = λ some. refl; once_each = λ f. by f flags; unset = λ f some. refl }
  where
    by : (f : Flag) → (at_most_one (flags_in Guard ps) ≡ true) × (at_most_one (flags_in More ps) ≡ true) → length (flags_in f ps) < 2
    by Guard flags = few (flags_in Guard ps) flags.0
    by More flags = few (flags_in More ps) flags.1

taken_with : (ws : List Text) (ps : List Part) → parts_of ws ≡ Some ps → may_follow (free_first true) (Some ps) ≡ true → takes app (texts_of ws) ≡ true
taken_with ws ps e once =
    let walked_over = read ws ps e [] none (from_nothing ps once) in
    ap₂ (λ a b. a && b) is_simple_app (ap₂ ends_well walked_over.is walked_over.passes ∙ all_ends walked_over.behind walked_over.rest walked_over.calm)

pub is_taken : (ws : List Text) → are_options true ws ≡ true → takes app (texts_of ws) ≡ true
is_taken ws some = by (parts_of ws) refl
  where
    by : (o : Option (List Part)) → parts_of ws ≡ o → takes app (texts_of ws) ≡ true
    by None e =
        let bad : false ≡ true = rw e at some in
        cc
    by (Some ps) e = taken_with ws ps e (rw e at some)

found_with : (ws : List Text) (ps : List Part) → parts_of ws ≡ Some ps → may_follow (free_first true) (Some ps) ≡ true → (m : ArgMatches) → rows_of (found_of m) ≡ matches_of app (texts_of ws) → HasParts (Some ps) m
found_with ws ps e once m rows =
    let walked_over = read ws ps e [] none (from_nothing ps once) in
    let left = use_of walked_over.rest walked_over.behind in
    let all : rows_of (found_of m) ≡ with_flags left = rows ∙ ap (λ (w : Walk). finished rules w.held) walked_over.is ∙ at_end walked_over.behind walked_over.rest in
    let seen : (id : Text) → NoFlag id → values_of id m ≡ vals id left = λ id other. ap (λ o. unwrap_or o []) (raw_values-rows (found_of m) id) ∙ ap (vals id) all ∙ vals_flags id left other in
    let tells : (f : Flag) → one_text (found_of m) (flag_id f) ≡ Some (flag_text (flags_in f ps)) = λ f. one_text-rows (found_of m) (flag_id f) ∙ ap (one_of (flag_id f)) all ∙ flag_is f (flags_in f ps) left (walked_over.flags f) in (
      seen (codes "width") no_width ∙ walked_over.widths,
      seen (codes "with") no_with ∙ walked_over.names,
      seen (codes "files") no_file ∙ walked_over.files,
      tells Guard,
      tells More,
    )

pub is_found : (ws : List Text) → are_options true ws ≡ true → (m : ArgMatches) → rows_of (found_of m) ≡ matches_of app (texts_of ws) → HasParts (parts_of ws) m
is_found ws some m rows = by (parts_of ws) refl
  where
    by : (o : Option (List Part)) → parts_of ws ≡ o → HasParts (parts_of ws) m
    by None e =
        let bad : false ≡ true = rw e at some in
        cc
    by (Some ps) e = subst (λ o. HasParts o m) (sym e) (found_with ws ps e (rw e at some) m rows)
