use Rattle.std.proofs.Common.{List, [], inl, arith, ◌≡◌, ◌≢◌, ◌∙◌, ℕ, sym, subst, ap, length, Option, Some, None, Result, Ok, Err, refl}
use Rattle.std.specs.Prelude.{Vec}
use Rattle.std.specs.declared.alloc.Global.{Global}
use Rattle.std.specs.Option.{IfSome, option_map}
use Rattle.vg_outside.specs.Shelf.{Held}
use Rattle.vg_outside.specs.Sink.{Appends, AppendsFront}
use Rattle.vg_top.specs.declared.ending.Ending.{Ending}
use Rattle.vg_top.specs.declared.ending.Ending.TheVariants.{WriteFault, Memory}
use Rattle.vg_top.specs.declared.status.Status.{Status}
use Rattle.vg_top.specs.declared.status.Status.TheVariants as status
use Rattle.vg_top.specs.Causes.{MayEnd}
use Rattle.vg_top.specs.Ending.{status_of}
use Rattle.vg_top.specs.Line.{Says, line_of}
use Rattle.vg_request.specs.Request.{Asked, asked_of, files_in, request_of}
use Rattle.vg_top.specs.Works.{Reads}
use Rattle.vg_top.specs.Outcome.{Outcome, VecAnswers}
use Rattle.vg_top.specs.Verdict.{asked_outcome, status_told, EndedBy, IsAnswered}
use Rattle.vg_top.specs.Files.{Tells}
use Rattle.std.proofs.lemmas.List.{append-nil}
use Rattle.vg_top.proofs.Works.{begins}
use Rattle.vg_top.proofs.Endings.{memory_may, usage_from, written_may, unwritten_may, stopped_may, status_from_verdict, not_rose, not_read_fault, not_write_fault}
use Rattle.vg_top.proofs.top.vegen.Goals as goal
use Rattle.vg_top.proofs.top.vegen.Goals.{in-Ok-answer+in-Err-write, in-Err}

-- the answer was written
pub returns-in-Ok-write-clause-causes : goal.returns-in-Ok-write-clause-causes
returns-in-Ok-write-clause-causes g c =
    subst (λ (a : Option Asked). MayEnd a status.Ok) c.in-Ok.ensures.asked
    (written_may (option_map asked_of c.in-Ok.request) c.in-Ok-answer.ensures.shelf.may_end)

-- the ending of the code, which may be that the answer was not written
pub returns-clause-causes : goal.returns-clause-causes
returns-clause-causes g c =
    let asked = option_map asked_of c.in-Ok.request in
    let may : MayEnd asked (status_of c.match-answer.ending) = elim c.match-answer.branch [
      | in-Ok-answer+in-Err-write w ↦ subst (λ (e : Ending). MayEnd asked (status_of e)) (sym w.ending-is) (unwritten_may asked w.in-Ok-answer.ensures.shelf.may_end)
      | in-Err w ↦ subst (λ (e : Ending). MayEnd asked (status_of e)) (sym w.ending-is) (stopped_may asked w.in-Err.ending w.in-Err.ensures.shelf.may_end)
    ] in
    subst (λ (s : Status). MayEnd (request_of c.args.words.now) s) (sym c.status.ensures) (subst (λ (a : Option Asked). MayEnd a (status_of c.match-answer.ending)) c.in-Ok.ensures.asked may)

pub returns-clause-usage : goal.returns-clause-usage
returns-clause-usage g c = usage_from (request_of c.args.words.now) c.status.result (returns-clause-causes g c)

-- the ending against the verdict
abbrev ended : Option Held → Option Asked → Ending → Type 0
ended holds a e = IfSome holds (λ held. EndedBy (Some e) (asked_outcome held a))

unwritten_ended : (holds : Option Held) (a : Option Asked) → ended holds a WriteFault
unwritten_ended None a = tt
unwritten_ended (Some held) a = tt

-- where it is not one of the outside, the status is the verdict's
told_by : (holds : Option Held) (a : Option Asked) (e : Ending) → ended holds a e → status_of e ≢ status.NoMemory → status_of e ≢ status.ReadFault → status_of e ≢ status.WriteFault
    → IfSome holds (λ held. status_of e ≡ status_told (asked_outcome held a))
told_by None a e told memory read write = tt
told_by (Some held) a e told memory read write = status_from_verdict e (asked_outcome held a) told memory read write

pub returns-clause-told : goal.returns-clause-told
returns-clause-told g c =
    let holds = g.S.Shelf.holds c.args.shelf.now in
    let asked = option_map asked_of c.in-Ok.request in
    let ending = c.match-answer.ending in
    let told : ended holds asked ending = elim c.match-answer.branch [
      | in-Ok-answer+in-Err-write w ↦ subst (λ (e : Ending). ended holds asked e) (sym w.ending-is) (unwritten_ended holds asked)
      | in-Err w ↦ subst (λ (e : Ending). ended holds asked e) (sym w.ending-is) w.in-Err.ensures.told
    ] in
    subst (λ (s : Status). s ≢ status.NoMemory → s ≢ status.ReadFault → s ≢ status.WriteFault → IfSome holds (λ held. s ≡ status_told (asked_outcome held (request_of c.args.words.now)))) (sym c.status.ensures)
    (told_by holds (request_of c.args.words.now) ending (subst (λ (a : Option Asked). ended holds a ending) c.in-Ok.ensures.asked told))

unwritten_is_no_read : status_of WriteFault ≢ status.ReadFault
unwritten_is_no_read = λ is. absurd (cc)

-- counts that stayed tell that nothing went wrong outside
pub returns-clause-complete : goal.returns-clause-complete
returns-clause-complete g c = λ shelf_same shelf_below out_same out_below memory.
    let asked = option_map asked_of c.in-Ok.request in
    let faults = g.O.Sink.faults in
    let read : status_of c.match-answer.ending ≢ status.ReadFault = elim c.match-answer.branch [
      | in-Ok-answer+in-Err-write w ↦ subst (λ (e : Ending). status_of e ≢ status.ReadFault) (sym w.ending-is) unwritten_is_no_read
      | in-Err w ↦ subst (λ (e : Ending). status_of e ≢ status.ReadFault) (sym w.ending-is) (not_read_fault w.in-Err.ending _ _ w.in-Err.ensures.shelf.fault shelf_same shelf_below)
    ] in
    let write : status_of c.match-answer.ending ≢ status.WriteFault = elim c.match-answer.branch [
      | in-Ok-answer+in-Err-write w ↦ λ _. not_rose _ _ w.in-Err-write.ensures.fault (ap faults (sym w.out-is) ∙ out_same) out_below
      | in-Err w ↦ subst (λ (e : Ending). status_of e ≢ status.WriteFault) (sym w.ending-is) (not_write_fault asked w.in-Err.ending w.in-Err.ensures.shelf.may_end)
    ] in
    returns-clause-told g c memory
    (subst (λ (s : Status). s ≢ status.ReadFault) (sym c.status.ensures) read)
    (subst (λ (s : Status). s ≢ status.WriteFault) (sym c.status.ensures) write)

pub returns-clause-said : goal.returns-clause-said
returns-clause-said g c =
    let holds = g.S.Shelf.holds c.args.shelf.now in
    let reads = g.S.Shelf.reads in
    let asked = option_map asked_of c.in-Ok.request in
    let ending = c.match-answer.ending in
    let told : ended holds asked ending = elim c.match-answer.branch [
      | in-Ok-answer+in-Err-write w ↦ subst (λ (e : Ending). ended holds asked e) (sym w.ending-is) (unwritten_ended holds asked)
      | in-Err w ↦ subst (λ (e : Ending). ended holds asked e) (sym w.ending-is) w.in-Err.ensures.told
    ] in
    let read : Reads (length (files_in asked)) (reads c.args.shelf.now) (reads c.answer.new.shelf) (Some ending) = elim c.match-answer.branch [
      | in-Ok-answer+in-Err-write w ↦ subst (λ (e : Ending). Reads (length (files_in asked)) (reads c.args.shelf.now) (reads c.answer.new.shelf) (Some e)) (sym w.ending-is) w.in-Ok-answer.ensures.shelf.read
      | in-Err w ↦ subst (λ (e : Ending). Reads (length (files_in asked)) (reads c.args.shelf.now) (reads c.answer.new.shelf) (Some e)) (sym w.ending-is) w.in-Err.ensures.shelf.read
    ] in
    let same = c.in-Ok.ensures.asked in (
      Some ending,
      sym c.status.ensures,
      subst (λ (a : Option Asked). Says g.E.Sink (line_of (files_in a) ending) c.args.err.now c.say-2.new.err) same c.say-2.ensures.says,
      subst (λ (a : Option Asked). ended holds a ending) same told,
      subst (λ (a : Option Asked). Reads (length (files_in a)) (reads c.args.shelf.now) (reads c.answer.new.shelf) (Some ending)) same read,
    )

-- the bytes of the code answer what was asked
told_answered : (holds : Option Held) (a : Option Asked) (bytes : Vec ℕ Global) → IfSome holds (λ held. Tells VecAnswers (Ok bytes) (asked_outcome held a))
    → IfSome holds (λ held. IsAnswered (asked_outcome held a) bytes.items)
told_answered None a bytes t = tt
told_answered (Some held) a bytes t = by (asked_outcome held a) t
  where
    by : (v : Result Outcome Ending) → Tells VecAnswers (Ok bytes) v → IsAnswered v bytes.items
    by (Ok outcome) t = t
    by (Err e) t = t

-- and the status is the verdict's
told_well : (holds : Option Held) (a : Option Asked) (bytes : Vec ℕ Global) → IfSome holds (λ held. Tells VecAnswers (Ok bytes) (asked_outcome held a))
    → IfSome holds (λ held. status.Ok ≡ status_told (asked_outcome held a))
told_well None a bytes t = tt
told_well (Some held) a bytes t = by (asked_outcome held a) t
  where
    by : (v : Result Outcome Ending) → Tells VecAnswers (Ok bytes) v → status.Ok ≡ status_told v
    by (Ok outcome) t = refl
    by (Err e) t = absurd t

pub returns-in-Ok-write-clause-answered : goal.returns-in-Ok-write-clause-answered
returns-in-Ok-write-clause-answered g c = λ _.
    let holds = g.S.Shelf.holds c.args.shelf.now in
    let written = g.O.Sink.written in
    let bytes = c.in-Ok-answer.bytes in (
      bytes.items,
      subst (λ bs. Appends (written c.args.out.now) bs (written c.write.new.self)) c.as_slice.ensures.value c.in-Ok-write.ensures.whole,
      subst (λ (a : Option Asked). IfSome holds (λ held. IsAnswered (asked_outcome held a) bytes.items)) c.in-Ok.ensures.asked
          (told_answered holds (option_map asked_of c.in-Ok.request) bytes c.in-Ok-answer.ensures.told),
    )

pub returns-in-Ok-write-clause-told : goal.returns-in-Ok-write-clause-told
returns-in-Ok-write-clause-told g c = λ _ _ _.
    let holds = g.S.Shelf.holds c.args.shelf.now in
    subst (λ (a : Option Asked). IfSome holds (λ held. status.Ok ≡ status_told (asked_outcome held a))) c.in-Ok.ensures.asked
    (told_well holds (option_map asked_of c.in-Ok.request) c.in-Ok-answer.bytes c.in-Ok-answer.ensures.told)

pub returns-in-Ok-write-clause-complete : goal.returns-in-Ok-write-clause-complete
returns-in-Ok-write-clause-complete g c = λ _ _ _ _ _.
    let holds = g.S.Shelf.holds c.args.shelf.now in
    subst (λ (a : Option Asked). IfSome holds (λ held. status.Ok ≡ status_told (asked_outcome held a))) c.in-Ok.ensures.asked
    (told_well holds (option_map asked_of c.in-Ok.request) c.in-Ok-answer.bytes c.in-Ok-answer.ensures.told)

pub returns-clause-cut_off : goal.returns-clause-cut_off
returns-clause-cut_off g c = elim c.match-answer.branch [
  | in-Ok-answer+in-Err-write w ↦ λ _.
      let holds = g.S.Shelf.holds c.args.shelf.now in
      let written = g.O.Sink.written in
      let bytes = w.in-Ok-answer.bytes in (
        bytes.items,
        subst (λ now. AppendsFront (written c.args.out.now) bytes.items now) (ap written (sym w.out-is))
            (subst (λ bs. AppendsFront (written c.args.out.now) bs (written w.write.new.self)) w.as_slice.ensures.value w.in-Err-write.ensures.front),
        subst (λ (a : Option Asked). IfSome holds (λ held. IsAnswered (asked_outcome held a) bytes.items)) c.in-Ok.ensures.asked
            (told_answered holds (option_map asked_of c.in-Ok.request) bytes w.in-Ok-answer.ensures.told),
      )
  | in-Err w ↦ λ is.
      absurd (not_write_fault (option_map asked_of c.in-Ok.request) w.in-Err.ending w.in-Err.ensures.shelf.may_end
      (ap status_of (sym w.ending-is) ∙ sym c.status.ensures ∙ is))
]

-- there was no memory to read the words
pub returns-in_default-clause-causes : goal.returns-in_default-clause-causes
returns-in_default-clause-causes g c = memory_may (request_of c.args.words.now)

memory_ended : (holds : Option Held) (a : Option Asked) → ended holds a Memory
memory_ended None a = tt
memory_ended (Some held) a = tt

pub returns-in_default-clause-said : goal.returns-in_default-clause-said
returns-in_default-clause-said g c = (
  Some Memory,
  refl,
  c.say.ensures.says,
  memory_ended (g.S.Shelf.holds c.args.shelf.now) (request_of c.args.words.now),
  (0, omega arith, (begins g.S.Shelf c.args.shelf.now).reads),
)

-- nothing is said of an answer
no_line : (w : Option (List ℕ)) → Appends w [] w
no_line None = refl
no_line (Some b) = ap Some (sym (append-nil b))

told_ok : (holds : Option Held) (a : Option Asked) (bytes : Vec ℕ Global) → IfSome holds (λ held. Tells VecAnswers (Ok bytes) (asked_outcome held a))
    → IfSome holds (λ held. EndedBy None (asked_outcome held a))
told_ok None a bytes t = tt
told_ok (Some held) a bytes t = by (asked_outcome held a) t
  where
    by : (v : Result Outcome Ending) → Tells VecAnswers (Ok bytes) v → EndedBy None v
    by (Ok outcome) t = refl
    by (Err e) t = absurd t

pub returns-in-Ok-write-clause-said : goal.returns-in-Ok-write-clause-said
returns-in-Ok-write-clause-said g c =
    let holds = g.S.Shelf.holds c.args.shelf.now in
    let reads = g.S.Shelf.reads in
    let asked = option_map asked_of c.in-Ok.request in
    let same = c.in-Ok.ensures.asked in (
      None,
      refl,
      inl (no_line (g.E.Sink.written c.args.err.now)),
      subst (λ (a : Option Asked). IfSome holds (λ held. EndedBy None (asked_outcome held a))) same (told_ok holds asked c.in-Ok-answer.bytes c.in-Ok-answer.ensures.told),
      subst (λ (a : Option Asked). Reads (length (files_in a)) (reads c.args.shelf.now) (reads c.answer.new.shelf) None) same c.in-Ok-answer.ensures.shelf.read,
    )
