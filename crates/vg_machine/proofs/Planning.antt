-- What answers the calls of lines.
use Rattle.std.proofs.Common.{◌≡◌, ℕ, zero, suc, ◌+◌, ◌-◌, ◌*◌, ◌/◌, ◌%◌, ◌≤◌, ◌<◌, List, [], ◌∷◌, ◌++◌, length, map, take, drop, slice_get, get_or, Bool, true, false, Option, Some, None, refl, sym, ap, subst, ◌∙◌, inl, inr, append-nil, append_assoc, length-append, arith}
use Rattle.std.specs.Prelude.{IsSomeAnd, IfOk, OnOk, Result, Ok, Err, nat_le, ◌&&◌, ◌==◌}
use Rattle.std.specs.declared.alloc.AllocError.{AllocError}
use Rattle.std.specs.Option.{option_map, option_map_or}
use Rattle.std.specs.List.{find}
use Rattle.std.specs.Str.{bytes_eq}
use Rattle.std.proofs.lemmas.Bool.{cases_Bool, leb-true, eqb-true}
use Rattle.std.proofs.lemmas.Option.{same_Some}
use Rattle.std.proofs.lemmas.List.{take_all}
use Rattle.vg_base.specs.Bits.{bits, num}
use Rattle.vg_pseudo.specs.declared.header.Header.{Header}
use Rattle.vg_names.specs.Written.{IsWritten}
use Rattle.vg_catalog.specs.Entries.{Entry}
use Rattle.vg_catalog.specs.Written.{AllWritten}
use Rattle.vg_catalog.specs.Called.{headers_of, entry_named, answer_of, imm_number}
use Rattle.vg_pmean.specs.Entries.{AnswersOne}
use Rattle.vg_program.specs.declared.program.Program.{Program}
use Rattle.vg_program.specs.declared.defined.Defined.{Defined}
use Rattle.vg_program.specs.declared.defined.Defined.TheVariants as defines
use Rattle.vg_program.specs.declared.line.Line.{Line}
use Rattle.vg_program.specs.declared.line.Line.TheVariants.{Load, Store, Two, Shift, Resize, Compare, Select, VectorLoad, VectorStore, Constant, Insert, Extract, Call}
use Rattle.vg_program.specs.Before.{Before, nothing_before, with_defined}
use Rattle.vg_program.specs.Text.{defined}
use Rattle.vg_program.specs.Valid.{IsLine, IsCallOf, AreLines, KeepsRules, header_of}
use Rattle.vg_machine.specs.declared.instances.Called.{Called}
use Rattle.vg_machine.specs.ReadyInstance.{ReadyInstance, Instances, IsKept, AreKept, Stays, StandsAt, AreFound, DoesCall, IsPlanned, ArePlanned, Placed, Answered, Planned, IsCalled, AreCalled}
use Rattle.std.specs.Map.{lookup}
use Rattle.std.proofs.lemmas.Map.Entries.{place_from_lookup}
use Rattle.vg_machine.specs.FirstPlaces.{place_from}
use Rattle.vg_machine.proofs.FirstPlaces.{named_at}
use Rattle.vg_machine.proofs.Calls.{map-length}
use Rattle.vg_machine.specs.declared.planner.Planner.{Planner}
use Rattle.vg_machine.specs.Planner.{planned_of, has_room, IsSound}

-- ---- what a valid program calls

found_header : (es : List Entry) (name : List ℕ) → header_of (headers_of es) name ≡ option_map (λ e. e.header) (entry_named es name)
found_header [] name = refl
found_header (e ∷ es) name = elim (cases_Bool (bytes_eq e.header.name name)) [
  | inl hit ↦ rw hit refl
  | inr miss ↦ rw miss (found_header es name)
]

same_count : {A B C : Type 0} (f : A → C) (g : B → C) (xs : List A) (ys : List B) → map f xs ≡ map g ys → length xs ≡ length ys
same_count f g xs ys e = sym (map-length f xs) ∙ ap length e ∙ map-length g ys

entry_called : (b : Before) (o : Option Entry) (rs : List ℕ) (imm : Option ℕ) (width cost : ℕ) → IsSomeAnd (option_map (λ (e : Entry). e.header) o) (λ h. IsCallOf b h rs imm width cost)
    → IsSomeAnd o (λ e. (length rs ≡ length e.header.params) × (width ≡ e.header.register))
entry_called b None rs imm width cost h = absurd h
entry_called b (Some e) rs imm width cost h = (same_count _ _ rs e.header.params h.passed, h.width)

line_calls : (es : List Entry) (b : Before) (l : Line) → b.headers ≡ headers_of es → IsLine b l → IsCalled es l
line_calls es b (Load w a) same rule = tt
line_calls es b (Store w a v) same rule = tt
line_calls es b (Two op w l r) same rule = tt
line_calls es b (Shift op w v n) same rule = tt
line_calls es b (Resize op w from v) same rule = tt
line_calls es b (Compare op w l r) same rule = tt
line_calls es b (Select w c x y) same rule = tt
line_calls es b (VectorLoad z a) same rule = tt
line_calls es b (VectorStore z a v) same rule = tt
line_calls es b (Constant bs) same rule = tt
line_calls es b (Insert v width n w x) same rule = tt
line_calls es b (Extract v n w) same rule = tt
line_calls es b (Call name rs imm width cost) same rule =
    let own = subst (λ (hs : List Header). IsSomeAnd (header_of hs name) (λ h. IsCallOf b h rs imm width cost)) same rule.1 in
    entry_called b (entry_named es name) rs imm width cost (subst (λ (o : Option Header). IsSomeAnd o (λ h. IsCallOf b h rs imm width cost)) (found_header es name) own)

headers_with : (b : Before) (d : Defined) → (with_defined b d).headers ≡ b.headers
headers_with b defines.Nothing = refl
headers_with b (defines.Scalar width) = refl
headers_with b (defines.Vector width) = refl

lines_call : (es : List Entry) (b : Before) (ls : List Line) → b.headers ≡ headers_of es → AreLines b ls → AreCalled es ls
lines_call es b [] same rules = tt
lines_call es b (l ∷ ls) same rules =
    (line_calls es b l same rules.0, lines_call es (with_defined b (defined l)) ls (headers_with b (defined l) ∙ same) rules.1)

pub rules_call : (es : List Entry) (p : Program) → KeepsRules (headers_of es) p → AreCalled es p.lines
rules_call es p k = lines_call es (nothing_before (headers_of es) p.params) p.lines refl k.lines

both_true : (x y : Bool) → (x && y) ≡ true → (x ≡ true) × (y ≡ true)
both_true true y e = (refl, e)
both_true false y e = absurd cc

some_of : {A : Type 0} (o : Option A) (P : A → Type 0) → IsSomeAnd o P → (x : A) × (o ≡ Some x) × P x
some_of None P h = absurd h
some_of (Some x) P h = (x, refl, h)

-- ---- what is kept

pub written_at : (es : List Entry) (k : ℕ) (e : Entry) → AllWritten es → slice_get es k ≡ Some e → IsWritten e.header e.operation
written_at [] k e all at = absurd cc
written_at (x ∷ es) zero e all at = subst (λ (y : Entry). IsWritten y.header y.operation) (same_Some x e at) all.0
written_at (x ∷ es) (suc k) e all at = written_at es k e all.1 at

-- what stands in a list with one item more
pub push_stays : {A : Type 0} (xs : List A) (x : A) (i : ℕ) (y : A) → slice_get xs i ≡ Some y → slice_get (xs ++ x ∷ []) i ≡ Some y
push_stays [] x i y h = absurd cc
push_stays (z ∷ xs) x zero y h = h
push_stays (z ∷ xs) x (suc i) y h = push_stays xs x i y h

pub push_last : {A : Type 0} (xs : List A) (x : A) → slice_get (xs ++ x ∷ []) (length xs) ≡ Some x
push_last [] x = refl
push_last (z ∷ xs) x = push_last xs x

-- a fact on each item of a list with one item more
pub push_each : {A : Type 0} (P : A → Type 0) (xs : List A) (x : A) → ((i : ℕ) (y : A) → slice_get xs i ≡ Some y → P y) → P x → (i : ℕ) (y : A) → slice_get (xs ++ x ∷ []) i ≡ Some y → P y
push_each P [] x all last zero y h = subst P (same_Some x y h) last
push_each P [] x all last (suc i) y h = absurd cc
push_each P (z ∷ xs) x all last zero y h = all zero y h
push_each P (z ∷ xs) x all last (suc i) y h = push_each P xs x (λ j w at. all (suc j) w at) last i y h

-- a key that tests as another is it
pub same_key : (a b : Called) → (a.entry == b.entry && a.imm == b.imm) ≡ true → b ≡ a
same_key a b e =
    let both = both_true (a.entry == b.entry) (a.imm == b.imm) e in
    let entry = eqb-true a.entry b.entry both.0 in
    let imm = eqb-true a.imm b.imm both.1 in
    λ i. record { entry = sym entry i; imm = sym imm i }

-- what is found under a key is kept at its place
pub found_stands : (test : Called → Bool) (c : Called) (table : List (Called × ℕ)) (ks : List ReadyInstance) (place : ℕ) → ((d : Called) → test d ≡ true → d ≡ c) → AreFound table ks → Some place ≡ lookup test table → StandsAt ks place c
found_stands test c table ks place decides are e =
    let at = place_from_lookup test table place (sym e) in
    let stands = are at.0 at.1 place at.2 in
    (stands.0, stands.1, stands.2 ∙ decides at.1 at.3)

pub answered_from : (before after : Instances) (name : List ℕ) (imm entry place : ℕ) → place_from 0 before.entries name ≡ Some entry → AreKept after.entries after.kept
    → Placed before after (record { entry = entry; imm = imm }) place
    → Answered before after name imm place
answered_from before after name imm entry place found kept p =
    let k = p.stands.0 in
    let own : IsKept before.entries k = subst (λ (es : List Entry). IsKept es k) p.same (kept place k p.stands.1) in
    let e = some_of (slice_get before.entries k.called.entry) _ own in
    let at : k.called.entry ≡ entry = ap (λ (c : Called). c.entry) p.stands.2 in
    let imm_is : k.called.imm ≡ imm = ap (λ (c : Called). c.imm) p.stands.2 in
    record {
      same = p.same;
      stays = p.stays;
      entry = e.0;
      named = sym (named_at before.entries name entry found) ∙ ap (slice_get before.entries) (sym at) ∙ e.1;
      instance = k;
      there = p.stands.1;
      answers = subst (λ (n : ℕ). AnswersOne e.0.header e.0.operation n k.ready) imm_is e.2;
    }

abbrev none_kept : List ReadyInstance
none_kept = []

-- nothing is kept yet
pub kept_none : (es : List Entry) (ks : List ReadyInstance) → ks ≡ [] → AreKept es ks
kept_none es ks none at k e = let is : slice_get none_kept at ≡ Some k = subst (λ (l : List ReadyInstance). slice_get l at ≡ Some k) none e in absurd cc

pub found_none : (table : List (Called × ℕ)) (ks : List ReadyInstance) → table ≡ [] → AreFound table ks
found_none table ks none i c place e = absurd (nothing_at i (subst (λ (t : List (Called × ℕ)). slice_get t i ≡ Some (c, place)) none e))
  where
    nothing_at : (i : ℕ) → (let t : List (Called × ℕ) = [] in slice_get t i ≡ Some (c, place)) → ⊥
    nothing_at i e = cc

-- one more is kept
pub kept_more : (es : List Entry) (ks : List ReadyInstance) (k : ReadyInstance) → AreKept es ks → IsKept es k → AreKept es (ks ++ k ∷ [])
kept_more es ks k all one = push_each (IsKept es) ks k all one

pub found_more : (table new : List (Called × ℕ)) (ks : List ReadyInstance) (k : ReadyInstance) (place : ℕ) → place ≡ length ks → new ≡ table ++ (k.called, place) ∷ [] → AreFound table ks → AreFound new (ks ++ k ∷ [])
found_more table new ks k place count grown are i c p at =
    let all = push_each (λ (x : Called × ℕ). StandsAt (ks ++ k ∷ []) x.1 x.0) table (k.called, place)
    (λ j y e. let s = are j y.0 y.1 e in (s.0, push_stays ks k y.1 s.0 s.1, s.2))
    (k, subst (λ (n : ℕ). slice_get (ks ++ k ∷ []) n ≡ Some k) (sym count) (push_last ks k), refl) in
    all i (c, p) (subst (λ (t : List (Called × ℕ)). slice_get t i ≡ Some (c, p)) grown at)

pub placed_new : (es : List Entry) (ks : List ReadyInstance) (k : ReadyInstance) (place : ℕ) → place ≡ length ks → Placed (record { entries = es; kept = ks }) (record { entries = es; kept = ks ++ k ∷ [] }) k.called place
placed_new es ks k place count = record {
  same = refl;
  stays = λ at y e. push_stays ks k at y e;
  stands = (k, subst (λ (n : ℕ). slice_get (ks ++ k ∷ []) n ≡ Some k) (sym count) (push_last ks k), refl);
}

pub is_kept : (es : List Entry) (k : ReadyInstance) (e : Entry) → slice_get es k.called.entry ≡ Some e → AnswersOne e.header e.operation k.called.imm k.ready → IsKept es k
is_kept es k e at answers = subst (λ (o : Option Entry). IsSomeAnd o (λ x. AnswersOne x.header x.operation k.called.imm k.ready)) (sym at) answers

pub answered_ok : (before after : Instances) (name : List ℕ) (imm entry : ℕ) (r : Result ℕ AllocError) → Some entry ≡ place_from 0 before.entries name
    → IfOk r (λ p. Placed before after (record { entry = entry; imm = imm }) p) → OnOk r (AreKept after.entries after.kept) → IfOk r (λ p. Answered before after name imm p)
answered_ok before after name imm entry (Ok p) found placed kept = answered_from before after name imm entry p (sym found) kept placed
answered_ok before after name imm entry (Err e) found placed kept = tt

pub sound_kept : (p : Planner) (r : Result ℕ AllocError) → OnOk r (IsSound p) → OnOk r (AreKept (planned_of p).entries (planned_of p).kept)
sound_kept p (Ok n) h = h.0
sound_kept p (Err e) h = tt

-- ---- a line

room_is : (count width : ℕ) → has_room count width ≡ true → (count ≤ 4) × (width ≤ 512) × (8 * (width / 8) ≡ width)
room_is count width e =
    let a = both_true (nat_le count 4) (nat_le width 512 && width / 8 * 8 == width) e in
    let b = both_true (nat_le width 512) (width / 8 * 8 == width) a.1 in
    let same = eqb-true (width / 8 * 8) width b.1 in
    (leb-true count 4 a.0, leb-true width 512 b.0, omega (arith, same))

-- what answers a call, from what is kept for its name and immediate
pub does_call : (before after : Instances) (name : List ℕ) (count : ℕ) (imm : Option ℕ) (width place : ℕ)
    → Answered before after name (imm_number imm) place
    → IsSomeAnd (entry_named before.entries name) (λ e. (count ≡ length e.header.params) × (width ≡ e.header.register))
    → count ≤ 4 → width ≤ 512 → 8 * (width / 8) ≡ width
    → DoesCall after place name count imm width
does_call before after name count imm width place p called few most whole =
    let e = p.entry in
    let fits : (count ≡ length e.header.params) × (width ≡ e.header.register) =
    subst (λ (o : Option Entry). IsSomeAnd o (λ x. (count ≡ length x.header.params) × (width ≡ x.header.register))) p.named called in
    let found : entry_named after.entries name ≡ Some e = ap (λ (es : List Entry). entry_named es name) p.same ∙ p.named in
    record {
      instance = p.instance;
      there = p.there;
      few = few;
      most = most;
      whole = whole;
      same = λ registers long.
          ap (λ (o : Option Entry). option_map_or (λ x. answer_of x registers imm) o []) found
          ∙ (λ j. bits (sym fits.1 j) (num (sym (p.answers (imm_number imm) refl (map num registers) (map-length num registers ∙ long ∙ fits.0)) j)));
    }

pub planned_ok : (before after : Instances) (name rs : List ℕ) (imm : Option ℕ) (width cost : ℕ) (r : Result ℕ AllocError) → has_room (length rs) width ≡ true → IsCalled before.entries (Call name rs imm width cost)
    → IfOk r (λ p. Answered before after name (imm_number imm) p) → IfOk r (λ p. Planned before after (Call name rs imm width cost) p)
planned_ok before after name rs imm width cost (Ok p) room called answered =
    let fits = room_is (length rs) width room in
    record { same = answered.same; stays = answered.stays; planned = does_call before after name (length rs) imm width p answered called fits.0 fits.1 fits.2 }
planned_ok before after name rs imm width cost (Err e) room called answered = tt

stays_planned : (before after : Instances) (place : ℕ) (l : Line) → after.entries ≡ before.entries → Stays before.kept after.kept → IsPlanned before place l → IsPlanned after place l
stays_planned i j place (Load w a) same stays h = tt
stays_planned i j place (Store w a v) same stays h = tt
stays_planned i j place (Two op w l r) same stays h = tt
stays_planned i j place (Shift op w v n) same stays h = tt
stays_planned i j place (Resize op w from v) same stays h = tt
stays_planned i j place (Compare op w l r) same stays h = tt
stays_planned i j place (Select w c x y) same stays h = tt
stays_planned i j place (VectorLoad z a) same stays h = tt
stays_planned i j place (VectorStore z a v) same stays h = tt
stays_planned i j place (Constant bs) same stays h = tt
stays_planned i j place (Insert v width n w x) same stays h = tt
stays_planned i j place (Extract v n w) same stays h = tt
stays_planned i j place (Call name rs imm width cost) same stays h =
    let there : slice_get j.kept place ≡ Some h.instance = stays place h.instance h.there in
    let few = h.few in
    let most = h.most in
    let whole = h.whole in
    let does = subst (λ (es : List Entry). DoesCall (record { entries = es; kept = j.kept }) place name (length rs) imm width) (sym same) (record {
      instance = h.instance;
      there = there;
      few = few;
      most = most;
      whole = whole;
      same = h.same;
    }) in
    record { instance = does.instance; there = does.there; few = does.few; most = does.most; whole = does.whole; same = does.same }

-- ---- lines, one after the other

-- Whatever is kept and planned after these lines, they are planned where the lines that are left are.
pub PlannedUpTo : Instances → List ℕ → List Line → List Line → Type 0
PlannedUpTo i plan left lines =
    (after : Instances) (more : List ℕ) → after.entries ≡ i.entries → Stays i.kept after.kept
    → ArePlanned after (plan ++ more) (length plan) left → ArePlanned after (plan ++ more) 0 lines

pub planned_begins : (i : Instances) (plan : List ℕ) (lines : List Line) → plan ≡ [] → PlannedUpTo i plan lines lines
unfolding PlannedUpTo
planned_begins i plan lines e after more same stays h =
    subst (λ (n : ℕ). ArePlanned after (plan ++ more) n lines) (ap length e) h

last_of : (plan more : List ℕ) (place : ℕ) → get_or (plan ++ place ∷ more) (length plan) 0 ≡ place
last_of [] more place = refl
last_of (p ∷ plan) more place = last_of plan more place

behind_is : (l : Line) (ls : List Line) → take (length (l ∷ ls) - 1) (drop 1 (l ∷ ls)) ≡ ls
behind_is l ls = take_all (length (l ∷ ls) - 1) ls (omega arith)

-- one line more
pub planned_turn : (before after : Instances) (plan : List ℕ) (place : ℕ) (left : List Line) (line : Line) (lines : List Line) → 1 ≤ length left → line ≡ get_or left 0 line → Planned before after line place
    → PlannedUpTo before plan left lines → PlannedUpTo after (plan ++ place ∷ []) (take (length left - 1) (drop 1 left)) lines
unfolding PlannedUpTo
planned_turn before after plan place [] line lines some is p done last more same stays h = absurd (omega (arith, some))
planned_turn before after plan place (l ∷ ls) line lines some is p done last more same stays h =
    let group : (plan ++ place ∷ []) ++ more ≡ plan ++ (place ∷ more) = append_assoc plan (place ∷ []) more in
    let count : length (plan ++ place ∷ []) ≡ length plan + 1 = length-append plan (place ∷ []) in
    let mine : IsPlanned after place l = subst (λ (x : Line). IsPlanned after place x) is p.planned in
    let first : IsPlanned last (get_or (plan ++ (place ∷ more)) (length plan) 0) l =
    subst (λ (k : ℕ). IsPlanned last k l) (sym (last_of plan more place)) (stays_planned after last place l same stays mine) in
    let rest : ArePlanned last (plan ++ (place ∷ more)) (length plan + 1) ls =
    subst (λ (ps : List ℕ). ArePlanned last ps (length plan + 1) ls) group
    (subst (λ (n : ℕ). ArePlanned last ((plan ++ place ∷ []) ++ more) n ls) count
    (subst (λ (xs : List Line). ArePlanned last ((plan ++ place ∷ []) ++ more) (length (plan ++ place ∷ [])) xs) (behind_is l ls) h)) in
    subst (λ (ps : List ℕ). ArePlanned last ps 0 lines) (sym group)
    (done last (place ∷ more) (same ∙ p.same) (λ at k e. stays at k (p.stays at k e)) (first, rest))

-- no line is left
pub planned_ends : (i : Instances) (plan : List ℕ) (left lines : List Line) → length left < 1 → PlannedUpTo i plan left lines → ArePlanned i plan 0 lines
unfolding PlannedUpTo
planned_ends i plan [] lines none done =
    subst (λ (ps : List ℕ). ArePlanned i ps 0 lines) (append-nil plan) (done i [] refl (λ at k e. e) tt)
planned_ends i plan (l ∷ ls) lines none done = absurd (omega (arith, none))

pub called_first : (es : List Entry) (left : List Line) (line : Line) → 1 ≤ length left → line ≡ get_or left 0 line → AreCalled es left → IsCalled es line
called_first es [] line some is h = absurd (omega (arith, some))
called_first es (l ∷ ls) line some is h = subst (λ (x : Line). IsCalled es x) (sym is) h.0

pub called_rest : (es : List Entry) (left : List Line) → 1 ≤ length left → AreCalled es left → AreCalled es (take (length left - 1) (drop 1 left))
called_rest es [] some h = absurd (omega (arith, some))
called_rest es (l ∷ ls) some h = subst (λ (xs : List Line). AreCalled es xs) (sym (behind_is l ls)) h.1
