-- Requests: which call each makes, and what it answers and leaves. Assumes nothing.
use Rattle.std.specs.Prelude.{◌≡◌, ℕ, min, List, ◌++◌, length, take, drop, ℤ, Ok, Err, Option, Result}
use Rattle.terms.specs.declared.decline.Decline.{Decline}
use Rattle.terms.specs.declared.entry.Entry.{Entry}
use Rattle.fleet.specs.declared.scores.Gain.{Gain}
use Rattle.fleet.specs.Scores.{FewerLots, MoreLots}
use Rattle.fleet.specs.Units.{Meaning}
use Rattle.settlement.specs.declared.verdicts.Judgement.{Judgement}
use Rattle.settlement.specs.Ledger.{Ledger, Call, need, price, run, mix, supply, show, judge}
use Rattle.settlement.specs.Calls.{Enters, Supplies, Shows, WorkTable}
use Rattle.settlement.specs.Verdicts.{Judges}
use Rattle.std.specs.Borrow.{MutBor}
use Rattle.requests.specs.declared.desk.Desk.{Desk}
use Rattle.requests.specs.declared.request.Request.{Request}
use Rattle.requests.specs.declared.request.Request.TheVariants.{Need, Price, Run, Mix, Supply, Show, Judge}
use Rattle.requests.specs.declared.request.Answer.{Answer}
use Rattle.requests.specs.declared.request.Answer.TheVariants.{Entered, Supplied, Shown, Judged}

-- what the shared tables and buffers hold
pub record Shared : Type 0 where
  pub gains : List (Option Gain)
  pub fewer : List (Option FewerLots)
  pub more : List (Option MoreLots)
  pub schedule : List Entry
  pub pays : List ℤ

abbrev pub shared : List (Option Gain) → List (Option FewerLots) → List (Option MoreLots) → List Entry → List ℤ → Shared
shared gains fewer more schedule pays = record { gains = gains; fewer = fewer; more = more; schedule = schedule; pays = pays }

-- what a desk has as it is passed
abbrev pub held : Desk → Shared
held d = shared d.gains.now d.fewer.now d.more.now d.schedule.now d.pays.now

-- and at the return, by what its loans end with
abbrev pub left : {R : Type 0} → MutBor (List (Option Gain)) × (MutBor (List (Option FewerLots)) × (MutBor (List (Option MoreLots)) × (MutBor (List Entry) × (MutBor (List ℤ) × R)))) → Shared
left d = shared d.0.now d.1.0.now d.1.1.0.now d.1.1.1.0.now d.1.1.1.1.0.now

-- of n, where so much is asked
abbrev pub lent : ℕ → ℕ → ℕ
lent asked n = min asked n

-- the call of a request, with what is lent of the shared tables and buffers
abbrev pub called_by : Shared → Request → Call
called_by s (Need xs) = need xs.now
called_by s (Price d ns) = price d ns.now
called_by s (Run u es slots) = run u es.now (lent slots (length s.gains))
called_by s (Mix u w es) = mix u w es.now
called_by s (Supply u fewer more) = supply u (lent fewer (length s.fewer)) (lent more (length s.more))
called_by s (Show u slots room) = show u (lent slots (length s.gains)) (lent room (length s.schedule))
called_by s (Judge room) = judge (lent room (length s.pays))

-- a call's answer as a request's
abbrev pub saying : {X : Type 0} → (X → Answer) → Result X Decline → Result Answer Decline
saying K (Ok x) = Ok (K x)
saying K (Err d) = Err d

abbrev pub supplied : ℤ × ℤ × ℤ → Answer
supplied s = Supplied s.0 s.1 s.2

-- the first k are lent and become a part that is so; the rest is as it was
abbrev pub Lent : {X : Type 0} → ℕ → (List X → List X → Type 0) → List X → List X → Type 0
Lent {X} k Becomes old new = (part : List X) × Becomes (take k old) part × (new ≡ part ++ drop k old)

-- need, price and mix lend nothing
abbrev pub EnteredBy : Call → Result Answer Decline → Meaning → ℕ → ℕ → Ledger → Type 0
EnteredBy c r m T W l = (q : Result (Unit {0}) Decline) × Enters c q m T W l × (r ≡ saying (λ _. Entered) q)

abbrev pub RunBy : ℕ → List Entry → ℕ → List (Option Gain) → List (Option Gain) → Result Answer Decline → Meaning → ℕ → ℕ → Ledger → Type 0
RunBy u es k old new r m T W l = (q : Result (Unit {0}) Decline) × Enters (run u es k) q m T W l × (r ≡ saying (λ _. Entered) q) × Lent k (λ a b. WorkTable a b q) old new

abbrev pub SupplyBy : ℕ → ℕ → ℕ → List (Option FewerLots) → List (Option FewerLots) → List (Option MoreLots) → List (Option MoreLots) → Result Answer Decline → Meaning → ℕ → ℕ → Ledger → Type 0
SupplyBy u a b fewer fewer' more more' r m T W l = (q : Result (ℤ × ℤ × ℤ) Decline) × Supplies u a b q m T W l × (r ≡ saying supplied q) × Lent a (λ x y. WorkTable x y q) fewer fewer' × Lent b (λ x y. WorkTable x y q) more more'

abbrev pub ShowBy : ℕ → ℕ → ℕ → List (Option Gain) → List (Option Gain) → List Entry → List Entry → Result Answer Decline → Meaning → ℕ → ℕ → Ledger → Type 0
ShowBy u k room table table' buffer buffer' r m T W l = (q : Result (Unit {0}) Decline) × (r ≡ saying (λ _. Shown) q) × Lent k (λ x y. WorkTable x y q) table table' × Lent room (λ x y. Shows u k x y q m T W l) buffer buffer'

abbrev pub JudgeBy : ℕ → List ℤ → List ℤ → Result Answer Decline → Meaning → ℕ → ℕ → Ledger → Type 0
JudgeBy room pays pays' r m T W l = (q : Result Judgement Decline) × (r ≡ saying Judged q) × Lent room (λ x y. Judges m T W l x y q) pays pays'

-- what a request answers at a ledger, and what it makes of the shared tables and buffers
abbrev pub RequestAnswered : Request → Shared → Shared → Result Answer Decline → Meaning → ℕ → ℕ → Ledger → Type 0
RequestAnswered (Need xs) s s' r m T W l = EnteredBy (need xs.now) r m T W l × (s' ≡ s)
RequestAnswered (Price d ns) s s' r m T W l = EnteredBy (price d ns.now) r m T W l × (s' ≡ s)
RequestAnswered (Run u es slots) s s' r m T W l = RunBy u es.now (lent slots (length s.gains)) s.gains s'.gains r m T W l × (s' ≡ record { gains = s'.gains; fewer = s.fewer; more = s.more; schedule = s.schedule; pays = s.pays })
RequestAnswered (Mix u w es) s s' r m T W l = EnteredBy (mix u w es.now) r m T W l × (s' ≡ s)
RequestAnswered (Supply u fewer more) s s' r m T W l = SupplyBy u (lent fewer (length s.fewer)) (lent more (length s.more)) s.fewer s'.fewer s.more s'.more r m T W l × (s' ≡ record { gains = s.gains; fewer = s'.fewer; more = s'.more; schedule = s.schedule; pays = s.pays })
RequestAnswered (Show u slots room) s s' r m T W l = ShowBy u (lent slots (length s.gains)) (lent room (length s.schedule)) s.gains s'.gains s.schedule s'.schedule r m T W l × (s' ≡ record { gains = s'.gains; fewer = s.fewer; more = s.more; schedule = s'.schedule; pays = s.pays })
RequestAnswered (Judge room) s s' r m T W l = JudgeBy (lent room (length s.pays)) s.pays s'.pays r m T W l × (s' ≡ record { gains = s.gains; fewer = s.fewer; more = s.more; schedule = s.schedule; pays = s'.pays })
