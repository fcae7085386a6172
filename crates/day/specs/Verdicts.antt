-- What a verdict that is printed says. Assumes nothing.
use Rattle.std.specs.Prelude.{ℕ, ℤ, Option, Result}
use Rattle.arrayvec.specs.ArrayVec.{ArrayVec}
use Rattle.terms.specs.declared.decline.Decline.{Decline}
use Rattle.reader.specs.declared.form.Form.{Form}
use Rattle.settlement.specs.declared.verdicts.Judgement.{Judgement}
use Rattle.settlement.specs.Ledger.{ledger}
use Rattle.settlement.specs.Verdicts.{Bound}
use Rattle.replies.specs.declared.reply.Reply.TheVariants.{Verdict}
use Rattle.day.specs.Said.{Said, nothing, begun, opened, fleet_of}
use Rattle.day.specs.Answering.{LineReply}

-- only an open docket has a verdict, and it binds every price row whatever, for the runs that the file has entered:
-- after LEAST none has less uplift in money than the row posted
abbrev pub Binds : Said → Judgement → Type 0
Binds nothing j = ⊥
Binds (begun T W os xs) j = ⊥
Binds (opened T W os xs cs) j = Bound (fleet_of os xs) T W (ledger (fleet_of os xs) T W cs) j

abbrev pub VerdictLaw : Type 0
VerdictLaw = (s : Said) (reading : Result (Option Form) Decline) (line : ℕ) (pays : ArrayVec ℤ) (j : Judgement) → LineReply s reading line (Verdict pays j) → Binds s j
