-- A shelf in memory: what a read of it answers, and what it is afterwards.
use Rattle.std.specs.Prelude.{◌≡◌, ℕ, ◌+◌, ◌==◌, Bool, List, [], take, Result, Ok, Err, IsOk, if◌then◌else◌, option_map, ok_or, Vec, refl}
use Rattle.std.specs.List.{list_any}
use Rattle.std.specs.Coded.{Coded, code_by, coded×, coded_ℕ, coded_list}
use Rattle.std.specs.FinMap as map
use Rattle.std.specs.declared.alloc.Global.{Global}
use Rattle.vg_outside.specs.declared.shelf.ShelfFault.{ShelfFault}
use Rattle.vg_outside.specs.declared.shelf.ShelfFault.TheVariants.{Absent, Failed, Memory}
use Rattle.vg_outside.specs.Count.{raised}
use Rattle.vg_outside.specs.Shelf.{Held}

-- its files, the numbers of the reads that fail, and its counts
pub record ShelfState : Type 0 where
  pub held : Held
  pub failing : List ℕ
  pub reads : ℕ
  pub absents : ℕ
  pub faults : ℕ

-- it is stored as the pairs of its parts
abbrev pub state_code : Coded ShelfState
state_code = code_by (Held × (List ℕ × (ℕ × (ℕ × ℕ))))
    (coded× (map.code (coded_list coded_ℕ) (coded_list coded_ℕ))
    (coded× (coded_list coded_ℕ) (coded× coded_ℕ (coded× coded_ℕ coded_ℕ))))
    (λ s. (s.held, (s.failing, (s.reads, (s.absents, s.faults)))))
    (λ p. record {
      held = p.0;
      failing = p.1.0;
      reads = p.1.1.0;
      absents = p.1.1.1.0;
      faults = p.1.1.1.1;
    })
    (λ _. refl)

-- nothing held, nothing read, no read that fails
abbrev pub new_shelf : ShelfState
new_shelf = record { held = map.empty; failing = []; reads = 0; absents = 0; faults = 0 }

-- the next read is one of those that fail
abbrev pub is_failing : ShelfState → Bool
is_failing s = list_any (λ number. number == s.reads) s.failing

-- what a read answers, want of memory aside
abbrev pub answer_of : ShelfState → List ℕ → ℕ → Result (List ℕ) ShelfFault
answer_of s name limit =
    if is_failing s then Err Failed
    else ok_or (option_map (take (limit + 1)) (map.get s.held name)) Absent

-- the answer is the one told; want of memory may come in place of bytes alone
abbrev pub Answers : Result (List ℕ) ShelfFault → Result (Vec ℕ Global) ShelfFault → Type 0
Answers told (Ok bytes) = told ≡ Ok bytes.items
Answers told (Err (Memory _)) = IsOk told
Answers told (Err fault) = told ≡ Err fault

-- each read is counted, and so is each absence and each fault
abbrev pub after_read : {T : Type 0} → ShelfState → Result T ShelfFault → ShelfState
after_read s (Err Absent) = record s { reads = raised s.reads; absents = raised s.absents }
after_read s (Err Failed) = record s { reads = raised s.reads; faults = raised s.faults }
after_read s _ = record s { reads = raised s.reads }
