-- A list of requests is settled in one way. Assumes nothing.
use Rattle.std.specs.Prelude.{◌≡◌, ℕ, List, length, Option, Result}
use Rattle.terms.specs.declared.decline.Decline.{Decline}
use Rattle.fleet.specs.Units.{Meaning}
use Rattle.settlement.specs.declared.verdicts.Judgement.{Judgement}
use Rattle.settlement.specs.Calls.{open_fault}
use Rattle.requests.specs.declared.request.Request.{Request}
use Rattle.requests.specs.declared.request.Answer.{Answer}
use Rattle.requests.specs.Requests.{Shared}
use Rattle.requests.specs.Settling.{SettleAnswer}

-- the same buffers, and work tables of the same lengths: what a table holds is free
pub record Alike (s s' : Shared) : Type 0 where
  pub gains : length s.gains ≡ length s'.gains
  pub fewer : length s.fewer ≡ length s'.fewer
  pub more : length s.more ≡ length s'.more
  pub schedule : s.schedule ≡ s'.schedule
  pub pays : s.pays ≡ s'.pays

-- over one meaning, T and W, where the same was lent and the answers were the same before, two outcomes have the same
-- last judgement or decline, the same answers, and the same buffers
abbrev pub OneSettlementLaw : Type 0
OneSettlementLaw =
    (m : Meaning) (T W : ℕ) (requests : List Request) (lent lent' left left' : Shared) (old new new' : List (Option (Result Answer Decline))) (r r' : Result Judgement Decline) →
    Alike lent lent' →
    SettleAnswer (open_fault m T W) m T W requests lent left old new r →
    SettleAnswer (open_fault m T W) m T W requests lent' left' old new' r' →
    (r ≡ r') × (new ≡ new') × Alike left left'
