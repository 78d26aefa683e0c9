-- What is told, as numbers and a text.
use Rattle.std.specs.Prelude.{◌≡◌, ℕ, ◌≤◌, ◌<◌, List, [], length, take, Result, Ok, Err, Vec}
use Rattle.std.specs.declared.alloc.Global.{Global}
use Rattle.vg_top.specs.declared.ending.Ending.{Ending}
use Rattle.vg_top.specs.declared.ending.Ending.TheVariants.{ReadFault, WriteFault}
use Rattle.vg_top.specs.Ending.{status_of}
use Rattle.vg_top.specs.Status.{code_of}
use Rattle.vg_top.specs.Outcome.{Outcome, IsAnswer}
use Rattle.vg_answers.specs.declared.report.Report.{Report}
use Rattle.vg_answers.specs.Refusals.{Refusal, no_refusal, refusal_of, refusal_seen, difference_in}

-- bytes that are what was to be written, and those that are the memory
abbrev pub BytesAnswer : List ℕ → Outcome → Type 0
BytesAnswer bytes outcome = IsAnswer outcome bytes

abbrev pub BytesLeft : List ℕ → List ℕ → Type 0
BytesLeft bytes memory = bytes ≡ memory

-- the status is 0 and the text the answer, or the status and the refusal are those of the ending and the
-- text is that of the first difference
abbrev pub AnsweredBy : {Y : Type 0} → (List ℕ → Y → Type 0) → Result Y Ending → ℕ → Refusal → List ℕ → Type 0
AnsweredBy same (Ok y) status refusal text =
    (status ≡ 0) × (refusal ≡ no_refusal) × same text y
AnsweredBy same (Err e) status refusal text =
    (status ≡ code_of (status_of e)) × (refusal ≡ refusal_of e) × (text ≡ difference_in e)

-- Where a text fits into the room it stands at its front and the result is the status, else the result is
-- 20. The count is that of its bytes either way.
pub record IsLaidText
    (status : ℕ) (text : List ℕ) (result counted : ℕ) (before now : List ℕ) : Type 0 where
  pub count : counted ≡ length text
  pub whole : length text ≤ length before → result ≡ status
  pub spelt : length text ≤ length before → take (length text) now ≡ text
  pub short : length before < length text → result ≡ 20

-- what is told, laid into the room
pub record IsLaid {Y : Type 0}
    (same : List ℕ → Y → Type 0) (told : Result Y Ending) (result : ℕ) (report : Report)
    (before now : List ℕ) : Type 0 where
  pub status : ℕ
  pub text : List ℕ
  pub answer : AnsweredBy same told status (refusal_seen report) text
  pub laid : IsLaidText status text result report.count before now

-- the ending that is told, by numbers
pub record IsRefusedBy {Y : Type 0} (told : Result Y Ending) (status : ℕ) (report : Report) : Type 0 where
  pub ending : Ending
  pub is : told ≡ Err ending
  pub code : status ≡ code_of (status_of ending)
  pub refusal : refusal_seen report ≡ refusal_of ending

-- nothing outside has a part in it
abbrev pub IsOfTexts : Ending → Type 0
IsOfTexts (ReadFault n) = ⊥
IsOfTexts WriteFault = ⊥
IsOfTexts e = Unit {0}

-- the status of what the code has, and its text
abbrev pub status_in : Result (Vec ℕ Global) Ending → ℕ
status_in (Ok bytes) = 0
status_in (Err e) = code_of (status_of e)

abbrev pub text_in : Result (Vec ℕ Global) Ending → List ℕ
text_in (Ok bytes) = bytes.items
text_in (Err e) = difference_in e
