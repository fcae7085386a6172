-- The evidence on the sheet. Assumes nothing.
use Rattle.std.specs.Prelude.{◌≡◌, ℕ, zero, suc, ◌<◌, true, ℤ, pos, negsuc, ◌-ℤ◌, ◌*ℤ◌, Some, None, Ok, Err, Option, Result, slice_index_or}
use Rattle.terms.specs.Declines.{Says}
use Rattle.terms.specs.Sums.{sum_to}
use Rattle.terms.specs.declared.decline.Decline.{Decline}
use Rattle.terms.specs.declared.decline.Layer.TheVariants.{Docket}
use Rattle.fleet.specs.Rows.{Fault, wanted_of}
use Rattle.fleet.specs.declared.rows.NeedRow.{NeedRow}
use Rattle.settlement.specs.declared.standing.Standing.{Standing}
use Rattle.settlement.specs.declared.sheet.Sheet.{Sheet}
use Rattle.settlement.specs.declared.verdicts.Verdict.{Verdict}
use Rattle.settlement.specs.declared.verdicts.Verdict.TheVariants.{Least, Within}
use Rattle.settlement.specs.Ledger.{has}
use Rattle.settlement.specs.Reasons.{FirstNot, reason, nothing}
use Rattle.settlement.specs.Standings.{mixed_of}

-- P holds at every number below n, or k is the first at which it fails
abbrev pub FoundFirst : ℕ → (ℕ → Type 0) → Option ℕ → Type 0
FoundFirst n P None = (i : ℕ) → i < n → P i
FoundFirst n P (Some k) = FirstNot n P k

-- best gain less the run's gain, 0 without a run
abbrev pub pay_at : Option Standing → ℤ
pay_at None = pos 0
pay_at (Some s) = s.best -ℤ s.gain

abbrev pub verdict_of : ℤ → Verdict
verdict_of (pos zero) = Least
verdict_of (pos (suc n)) = Within
verdict_of (negsuc n) = Within

-- the conditions of 41 to 44 on the sheet

abbrev pub Stood : Sheet → ℕ → Type 0
Stood s u = has (slice_index_or s.units u None) ≡ true

abbrev pub RunsMatch : NeedRow → Sheet → ℕ → Type 0
RunsMatch needs s t = slice_index_or s.runs t (pos 0) ≡ pos 1 *ℤ slice_index_or (wanted_of needs) t (pos 0)

abbrev pub Heavy : ℕ → Sheet → ℕ → Type 0
Heavy W s u = mixed_of (slice_index_or s.units u None) ≡ W

abbrev pub MixesMatch : ℕ → NeedRow → Sheet → ℕ → Type 0
MixesMatch W needs s t = slice_index_or s.mixes t (pos 0) ≡ pos W *ℤ slice_index_or (wanted_of needs) t (pos 0)

pub record SheetShows (N T W : ℕ) (needs : NeedRow) (s : Sheet) : Type 0 where
  pub stood : (u : ℕ) → u < N → Stood s u
  pub runs_match : (t : ℕ) → t < T → RunsMatch needs s t
  pub heavy : (u : ℕ) → u < N → Heavy W s u
  pub mixes_match : (t : ℕ) → t < T → MixesMatch W needs s t

abbrev pub sheet_wrong : ℕ → ℕ → ℕ → NeedRow → Sheet → Fault → Type 0
sheet_wrong N T W needs s =
    reason 41 (FirstNot N (Stood s))
    (reason 42 (FirstNot T (RunsMatch needs s))
    (reason 43 (FirstNot N (Heavy W s))
    (reason 44 (FirstNot T (MixesMatch W needs s)) nothing)))

-- the uplift of N units over T periods, or the first of 41 to 44
abbrev pub Weighed : ℕ → ℕ → ℕ → NeedRow → Sheet → Result ℤ Decline → Type 0
Weighed N T W needs s (Ok x) = (x ≡ sum_to N (λ u. pay_at (slice_index_or s.units u None))) × SheetShows N T W needs s
Weighed N T W needs s (Err d) = (f : Fault) × sheet_wrong N T W needs s f × Says Docket f.number f.place d
