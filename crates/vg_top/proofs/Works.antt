-- The work on a request as its files are read one after the other.
use Rattle.std.proofs.Common.{◌≡◌, ℕ, ◌+◌, ◌≤◌, true, Option, Some, None, Result, Ok, Err, refl, sym, ◌∙◌, ap, subst, arith, length}
use Rattle.std.specs.Result.{IfErr}
use Rattle.vg_outside.specs.Shelf.{CountsRead}
use Rattle.vg_outside.specs.declared.shelf.Shelf as shelf
use Rattle.vg_top.specs.declared.ending.FileNumber.{FileNumber}
use Rattle.vg_top.specs.declared.ending.Ending.{Ending}
use Rattle.vg_top.specs.declared.ending.Ending.TheVariants.{Usage, Instructions, Kernel, Program, Absent, ReadFault, TooLarge, Bindings, Trap, WriteFault, Memory, Differs}
use Rattle.vg_top.specs.Causes.{MayStop, reads_instructions, reads_kernel, reads_program, runs, compares}
use Rattle.vg_request.specs.Request.{Asked, files_of}
use Rattle.vg_top.specs.Works.{GrewBy, IsReadCount, CountsAbsence, CountsFault, Works, ReadsFile, IsOfFile, IsOfInstructions, IsOfKernel, IsOfProgram, IsOfRun, IsOfComparison, ending_of}

one_more : (n : ℕ) (before middle now : Option ℕ) → n ≤ 9 → GrewBy n before middle → CountsRead middle now → GrewBy (n + 1) before now
one_more n (Some b) middle now few so_far read = λ small.
    let again : CountsRead (Some (b + n)) now = subst (λ (m : Option ℕ). CountsRead m now) (so_far small) read in
    again (omega arith) ∙ ap Some (omega arith)
one_more n None middle now few so_far read = tt

-- so many files were read, and each was there
pub record HasRead {S : Type 0} (g : shelf.Ghosts S) (n : ℕ) (before now : S) : Type 0 where
  pub keeps : g.holds now ≡ g.holds before
  pub reads : GrewBy n (g.reads before) (g.reads now)
  pub absents : g.absents now ≡ g.absents before
  pub faults : g.faults now ≡ g.faults before

no_read : (before : Option ℕ) → GrewBy 0 before before
no_read (Some b) = λ small. ap Some (omega arith)
no_read None = tt

pub begins : {S : Type 0} (g : shelf.Ghosts S) (s : S) → HasRead g 0 s s
begins g s = record { keeps = refl; reads = no_read (g.reads s); absents = refl; faults = refl }

-- one file more
pub reads_on : {S : Type 0} (g : shelf.Ghosts S) (n : ℕ) (number : FileNumber) (before middle now : S) → n ≤ 9 → HasRead g n before middle → ReadsFile g number middle now None → HasRead g (n + 1) before now
reads_on g n number before middle now few h r = record {
  keeps = r.keeps ∙ h.keeps;
  reads = one_more n (g.reads before) (g.reads middle) (g.reads now) few h.reads r.counted;
  absents = r.absence ∙ h.absents;
  faults = r.fault ∙ h.faults;
}

-- the reading of a file may end the work on each request
stops_file : (asked : Asked) (number : FileNumber) (e : Ending) → IsOfFile number e → MayStop (Some asked) (Some e)
stops_file asked number (Absent n) is = tt
stops_file asked number (ReadFault n) is = tt
stops_file asked number (TooLarge n) is = tt
stops_file asked number Memory is = tt
stops_file asked number Usage is = absurd is
stops_file asked number (Instructions n f) is = absurd is
stops_file asked number (Kernel n f) is = absurd is
stops_file asked number (Program n f) is = absurd is
stops_file asked number Bindings is = absurd is
stops_file asked number Trap is = absurd is
stops_file asked number WriteFault is = absurd is
stops_file asked number (Differs t) is = absurd is

counts_file : (files : ℕ) (number : FileNumber) (e : Ending) → 1 ≤ number.0 → number.0 ≤ files → IsOfFile number e → IsReadCount files number.0 (Some e)
counts_file files number (Absent n) low high is = (ap (λ (m : FileNumber). m.0) (sym is), low, high)
counts_file files number (ReadFault n) low high is = (ap (λ (m : FileNumber). m.0) (sym is), low, high)
counts_file files number (TooLarge n) low high is = (ap (λ (m : FileNumber). m.0) (sym is), low, high)
counts_file files number Memory low high is = high
counts_file files number Usage low high is = absurd is
counts_file files number (Instructions n f) low high is = absurd is
counts_file files number (Kernel n f) low high is = absurd is
counts_file files number (Program n f) low high is = absurd is
counts_file files number Bindings low high is = absurd is
counts_file files number Trap low high is = absurd is
counts_file files number WriteFault low high is = absurd is
counts_file files number (Differs t) low high is = absurd is

-- the file after those that were read is refused
pub stops_at : {S : Type 0} (g : shelf.Ghosts S) (asked : Asked) (n : ℕ) (number : FileNumber) (before middle now : S) (e : Ending)
    → number.0 ≡ n + 1 → n ≤ 9 → number.0 ≤ length (files_of asked) → HasRead g n before middle → ReadsFile g number middle now (Some e) → Works g (Some asked) before now (Some e)
stops_at g asked n number before middle now e is few inside h r = record {
  may_end = stops_file asked number e r.may_end;
  keeps = r.keeps ∙ h.keeps;
  read = (
    number.0,
    counts_file (length (files_of asked)) number e (omega arith) inside r.may_end,
    subst (λ (m : ℕ). GrewBy m (g.reads before) (g.reads now)) (sym is) (one_more n (g.reads before) (g.reads middle) (g.reads now) few h.reads r.counted),
  );
  absence = subst (λ (m : ℕ). CountsAbsence m (g.absents now) (Some e)) h.absents r.absence;
  fault = subst (λ (m : ℕ). CountsFault m (g.faults now) (Some e)) h.faults r.fault;
  absents_never_fall = let a = r.absents_never_fall in let b = h.absents in omega (arith, a, b);
  faults_never_fall = let a = r.faults_never_fall in let b = h.faults in omega (arith, a, b);
}

-- an ending in which no file was read
abbrev IsQuiet : Option Ending → Type 0
IsQuiet (Some (Absent n)) = ⊥
IsQuiet (Some (ReadFault n)) = ⊥
IsQuiet e = Unit {0}

quiet_absence : (before now : ℕ) (e : Option Ending) → IsQuiet e → now ≡ before → CountsAbsence before now e
quiet_absence before now None quiet same = same
quiet_absence before now (Some Usage) quiet same = same
quiet_absence before now (Some (Instructions n f)) quiet same = same
quiet_absence before now (Some (Kernel n f)) quiet same = same
quiet_absence before now (Some (Program n f)) quiet same = same
quiet_absence before now (Some (Absent n)) quiet same = absurd quiet
quiet_absence before now (Some (ReadFault n)) quiet same = same
quiet_absence before now (Some (TooLarge n)) quiet same = same
quiet_absence before now (Some Bindings) quiet same = same
quiet_absence before now (Some Trap) quiet same = same
quiet_absence before now (Some WriteFault) quiet same = same
quiet_absence before now (Some Memory) quiet same = same
quiet_absence before now (Some (Differs t)) quiet same = same

quiet_fault : (before now : ℕ) (e : Option Ending) → IsQuiet e → now ≡ before → CountsFault before now e
quiet_fault before now None quiet same = same
quiet_fault before now (Some Usage) quiet same = same
quiet_fault before now (Some (Instructions n f)) quiet same = same
quiet_fault before now (Some (Kernel n f)) quiet same = same
quiet_fault before now (Some (Program n f)) quiet same = same
quiet_fault before now (Some (Absent n)) quiet same = same
quiet_fault before now (Some (ReadFault n)) quiet same = absurd quiet
quiet_fault before now (Some (TooLarge n)) quiet same = same
quiet_fault before now (Some Bindings) quiet same = same
quiet_fault before now (Some Trap) quiet same = same
quiet_fault before now (Some WriteFault) quiet same = same
quiet_fault before now (Some Memory) quiet same = same
quiet_fault before now (Some (Differs t)) quiet same = same

-- after so many files the work ends with no further read
ends : {S : Type 0} (g : shelf.Ghosts S) (asked : Asked) (n : ℕ) (before now : S) (e : Option Ending)
    → HasRead g n before now → IsQuiet e → MayStop (Some asked) e → IsReadCount (length (files_of asked)) n e → Works g (Some asked) before now e
ends g asked n before now e h quiet may count = record {
  may_end = may;
  keeps = h.keeps;
  read = (n, count, h.reads);
  absence = quiet_absence (g.absents before) (g.absents now) e quiet h.absents;
  fault = quiet_fault (g.faults before) (g.faults now) e quiet h.faults;
  absents_never_fall = let b = h.absents in omega (arith, b);
  faults_never_fall = let b = h.faults in omega (arith, b);
}

-- the instruction file, which is the last that was read, is refused
pub stops_instructions : {S : Type 0} (g : shelf.Ghosts S) (asked : Asked) (number : FileNumber) (before now : S) (e : Ending)
    → 1 ≤ number.0 → number.0 ≤ length (files_of asked) → reads_instructions asked ≡ true → HasRead g number.0 before now → IsOfInstructions number e → Works g (Some asked) before now (Some e)
stops_instructions g asked number before now (Instructions n f) low high reads h is = ends g asked number.0 before now (Some (Instructions n f)) h tt reads (ap (λ (m : FileNumber). m.0) (sym is), low, high)
stops_instructions g asked number before now Memory low high reads h is = ends g asked number.0 before now (Some Memory) h tt tt high
stops_instructions g asked number before now Usage low high reads h is = absurd is
stops_instructions g asked number before now (Kernel n f) low high reads h is = absurd is
stops_instructions g asked number before now (Program n f) low high reads h is = absurd is
stops_instructions g asked number before now (Absent n) low high reads h is = absurd is
stops_instructions g asked number before now (ReadFault n) low high reads h is = absurd is
stops_instructions g asked number before now (TooLarge n) low high reads h is = absurd is
stops_instructions g asked number before now Bindings low high reads h is = absurd is
stops_instructions g asked number before now Trap low high reads h is = absurd is
stops_instructions g asked number before now WriteFault low high reads h is = absurd is
stops_instructions g asked number before now (Differs t) low high reads h is = absurd is

-- the kernel in the last file that was read is refused
pub stops_kernel : {S : Type 0} (g : shelf.Ghosts S) (asked : Asked) (number : FileNumber) (before now : S) (e : Ending)
    → 1 ≤ number.0 → number.0 ≤ length (files_of asked) → reads_kernel asked ≡ true → HasRead g number.0 before now → IsOfKernel number e → Works g (Some asked) before now (Some e)
stops_kernel g asked number before now (Kernel n f) low high reads h is = ends g asked number.0 before now (Some (Kernel n f)) h tt reads (ap (λ (m : FileNumber). m.0) (sym is), low, high)
stops_kernel g asked number before now Memory low high reads h is = ends g asked number.0 before now (Some Memory) h tt tt high
stops_kernel g asked number before now Usage low high reads h is = absurd is
stops_kernel g asked number before now (Instructions n f) low high reads h is = absurd is
stops_kernel g asked number before now (Program n f) low high reads h is = absurd is
stops_kernel g asked number before now (Absent n) low high reads h is = absurd is
stops_kernel g asked number before now (ReadFault n) low high reads h is = absurd is
stops_kernel g asked number before now (TooLarge n) low high reads h is = absurd is
stops_kernel g asked number before now Bindings low high reads h is = absurd is
stops_kernel g asked number before now Trap low high reads h is = absurd is
stops_kernel g asked number before now WriteFault low high reads h is = absurd is
stops_kernel g asked number before now (Differs t) low high reads h is = absurd is

-- the program in the last file that was read is refused
pub stops_program : {S : Type 0} (g : shelf.Ghosts S) (asked : Asked) (number : FileNumber) (before now : S) (e : Ending)
    → 1 ≤ number.0 → number.0 ≤ length (files_of asked) → reads_program asked ≡ true → HasRead g number.0 before now → IsOfProgram number e → Works g (Some asked) before now (Some e)
stops_program g asked number before now (Program n f) low high reads h is = ends g asked number.0 before now (Some (Program n f)) h tt reads (ap (λ (m : FileNumber). m.0) (sym is), low, high)
stops_program g asked number before now Memory low high reads h is = ends g asked number.0 before now (Some Memory) h tt tt high
stops_program g asked number before now Usage low high reads h is = absurd is
stops_program g asked number before now (Instructions n f) low high reads h is = absurd is
stops_program g asked number before now (Kernel n f) low high reads h is = absurd is
stops_program g asked number before now (Absent n) low high reads h is = absurd is
stops_program g asked number before now (ReadFault n) low high reads h is = absurd is
stops_program g asked number before now (TooLarge n) low high reads h is = absurd is
stops_program g asked number before now Bindings low high reads h is = absurd is
stops_program g asked number before now Trap low high reads h is = absurd is
stops_program g asked number before now WriteFault low high reads h is = absurd is
stops_program g asked number before now (Differs t) low high reads h is = absurd is

-- after all files the bindings or the run end the work
stops_run : {S : Type 0} (g : shelf.Ghosts S) (asked : Asked) (before now : S) (e : Ending)
    → runs asked ≡ true → HasRead g (length (files_of asked)) before now → IsOfRun e → Works g (Some asked) before now (Some e)
stops_run g asked before now Bindings may h is = ends g asked (length (files_of asked)) before now (Some Bindings) h tt may refl
stops_run g asked before now Trap may h is = ends g asked (length (files_of asked)) before now (Some Trap) h tt may refl
stops_run g asked before now Memory may h is = ends g asked (length (files_of asked)) before now (Some Memory) h tt tt (omega arith)
stops_run g asked before now Usage may h is = absurd is
stops_run g asked before now (Instructions n f) may h is = absurd is
stops_run g asked before now (Kernel n f) may h is = absurd is
stops_run g asked before now (Program n f) may h is = absurd is
stops_run g asked before now (Absent n) may h is = absurd is
stops_run g asked before now (ReadFault n) may h is = absurd is
stops_run g asked before now (TooLarge n) may h is = absurd is
stops_run g asked before now WriteFault may h is = absurd is
stops_run g asked before now (Differs t) may h is = absurd is

-- after all files the comparison ends the work
stops_comparison : {S : Type 0} (g : shelf.Ghosts S) (asked : Asked) (before now : S) (e : Ending)
    → compares asked ≡ true → HasRead g (length (files_of asked)) before now → IsOfComparison e → Works g (Some asked) before now (Some e)
stops_comparison g asked before now (Differs t) may h is = ends g asked (length (files_of asked)) before now (Some (Differs t)) h tt may refl
stops_comparison g asked before now Memory may h is = ends g asked (length (files_of asked)) before now (Some Memory) h tt tt (omega arith)
stops_comparison g asked before now Usage may h is = absurd is
stops_comparison g asked before now (Instructions n f) may h is = absurd is
stops_comparison g asked before now (Kernel n f) may h is = absurd is
stops_comparison g asked before now (Program n f) may h is = absurd is
stops_comparison g asked before now (Absent n) may h is = absurd is
stops_comparison g asked before now (ReadFault n) may h is = absurd is
stops_comparison g asked before now (TooLarge n) may h is = absurd is
stops_comparison g asked before now Bindings may h is = absurd is
stops_comparison g asked before now Trap may h is = absurd is
stops_comparison g asked before now WriteFault may h is = absurd is

-- the kernel in the last file is judged, and nothing else ends the work
pub kernel_last : {S X : Type 0} (g : shelf.Ghosts S) (asked : Asked) (number : FileNumber) (before now : S) (r : Result X Ending)
    → 1 ≤ number.0 → number.0 ≡ length (files_of asked) → reads_kernel asked ≡ true → HasRead g number.0 before now → IfErr r (IsOfKernel number) → Works g (Some asked) before now (ending_of r)
kernel_last g asked number before now (Ok x) low all reads h is = ends g asked number.0 before now None h tt tt all
kernel_last g asked number before now (Err e) low all reads h is = stops_kernel g asked number before now e low (omega (arith, all)) reads h is

-- the entries of the last file are judged, and nothing else ends the work
pub instructions_last : {S X : Type 0} (g : shelf.Ghosts S) (asked : Asked) (number : FileNumber) (before now : S) (r : Result X Ending)
    → 1 ≤ number.0 → number.0 ≡ length (files_of asked) → reads_instructions asked ≡ true → HasRead g number.0 before now → IfErr r (IsOfInstructions number) → Works g (Some asked) before now (ending_of r)
instructions_last g asked number before now (Ok x) low all reads h is = ends g asked number.0 before now None h tt tt all
instructions_last g asked number before now (Err e) low all reads h is = stops_instructions g asked number before now e low (omega (arith, all)) reads h is

-- something is run on the files, and nothing else ends the work
pub run_last : {S X : Type 0} (g : shelf.Ghosts S) (asked : Asked) (before now : S) (r : Result X Ending)
    → runs asked ≡ true → HasRead g (length (files_of asked)) before now → IfErr r IsOfRun → Works g (Some asked) before now (ending_of r)
run_last g asked before now (Ok x) may h is = ends g asked (length (files_of asked)) before now None h tt tt refl
run_last g asked before now (Err e) may h is = stops_run g asked before now e may h is

-- the program is compared, and nothing else ends the work
pub comparison_last : {S X : Type 0} (g : shelf.Ghosts S) (asked : Asked) (before now : S) (r : Result X Ending)
    → compares asked ≡ true → HasRead g (length (files_of asked)) before now → IfErr r IsOfComparison → Works g (Some asked) before now (ending_of r)
comparison_last g asked before now (Ok x) may h is = ends g asked (length (files_of asked)) before now None h tt tt refl
comparison_last g asked before now (Err e) may h is = stops_comparison g asked before now e may h is
