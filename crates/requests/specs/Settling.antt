-- A whole list of requests on a fresh docket. Assumes nothing.
use Rattle.std.specs.Prelude.{◌≡◌, ℕ, ◌<◌, List, [], ◌∷◌, map, length, Some, None, Ok, Err, Option, Result, slice_index_or}
use Rattle.terms.specs.Declines.{Says}
use Rattle.terms.specs.declared.decline.Decline.{Decline}
use Rattle.terms.specs.declared.decline.Layer.TheVariants.{Fleet as FleetLayer}
use Rattle.fleet.specs.Units.{Meaning}
use Rattle.fleet.specs.Rows.{Fault}
use Rattle.settlement.specs.declared.verdicts.Judgement.{Judgement}
use Rattle.settlement.specs.Ledger.{Ledger, Call, fresh, step, ledger}
use Rattle.settlement.specs.Verdicts.{Judges}
use Rattle.requests.specs.declared.request.Request.{Request}
use Rattle.requests.specs.declared.request.Answer.{Answer}
use Rattle.requests.specs.Requests.{Shared, called_by, RequestAnswered}

-- the same lengths
pub record SameLengths (s s' : Shared) : Type 0 where
  pub gains : length s'.gains ≡ length s.gains
  pub fewer : length s'.fewer ≡ length s.fewer
  pub more : length s'.more ≡ length s.more
  pub schedule : length s'.schedule ≡ length s.schedule
  pub pays : length s'.pays ≡ length s.pays

-- the calls of a list of requests
abbrev pub calls_of : Shared → List Request → List Call
calls_of lent qs = map (called_by lent) qs

-- the requests in order, each answered at the ledger of those before it, on what they left in the tables and buffers
abbrev pub Through : Meaning → ℕ → ℕ → Shared → Ledger → Shared → List Request → List (Result Answer Decline) → Shared → Type 0
Through m T W lent l s [] [] s' = s' ≡ s
Through m T W lent l s [] (r ∷ rs) s' = ⊥
Through m T W lent l s (q ∷ qs) [] s' = ⊥
Through m T W lent l s (q ∷ qs) (r ∷ rs) s' = (mid : Shared) × RequestAnswered q s mid r m T W l × Through m T W lent (step m T W l (called_by lent q)) mid qs rs s'

-- as many answers as there is room for; past them all as it was
pub record Written (rs : List (Result Answer Decline)) (old new : List (Option (Result Answer Decline))) : Type 0 where
  pub long : length new ≡ length old
  pub each : (i : ℕ) → i < length old → slice_index_or new i None ≡ slice_index_or (map Some rs) i (slice_index_or old i None)

-- every request's answer, and the last judge at the ledger of the whole list
pub record Settles (m : Meaning) (T W : ℕ) (requests : List Request) (lent left : Shared) (old new : List (Option (Result Answer Decline))) (r : Result Judgement Decline) : Type 0 where
  pub replies : List (Result Answer Decline)
  pub last : Shared
  pub answered : Through m T W lent fresh lent requests replies last
  pub written : Written replies old new
  pub judged : Judges m T W (ledger m T W (calls_of lent requests)) last.pays left.pays r
  pub rest : left ≡ record { gains = last.gains; fewer = last.fewer; more = last.more; schedule = last.schedule; pays = left.pays }

-- by what opening meets: 11 or 12 and all as it was, else the list
abbrev pub SettleAnswer : Option Fault → Meaning → ℕ → ℕ → List Request → Shared → Shared → List (Option (Result Answer Decline)) → List (Option (Result Answer Decline)) → Result Judgement Decline → Type 0
SettleAnswer None m T W requests lent left old new r = Settles m T W requests lent left old new r
SettleAnswer (Some f) m T W requests lent left old new (Ok j) = ⊥
SettleAnswer (Some f) m T W requests lent left old new (Err d) = Says FleetLayer f.number f.place d × (left ≡ lent) × (new ≡ old)
