-- What a list of forms says as a whole, told from all of them at once. Assumes nothing.
use Rattle.std.specs.Prelude.{◌≡◌, ℕ, cond, ◌&&◌, List, [], ◌∷◌, ◌++◌, length, take, ℤ, fold, filter_map, Some, None, Ok, Err, Option, Result, nat_lt, nat_le}
use Rattle.std.specs.List.{Contains, cons_option}
use Rattle.arrayvec.specs.ArrayVec.{ArrayVec}
use Rattle.terms.specs.declared.decline.Decline.{Decline}
use Rattle.fleet.specs.Units.{Meaning}
use Rattle.fleet_kinds.specs.declared.outages.Outage.{Outage}
use Rattle.reader.specs.declared.offer.Offer.{Offer as AnOffer}
use Rattle.reader.specs.declared.form.Form.{Form}
use Rattle.reader.specs.declared.form.Form.TheVariants.{Day, Offer, Out, Need}
use Rattle.settlement.specs.Ledger.{Call, need}
use Rattle.settlement.specs.Calls.{Opens}
use Rattle.day.specs.Said.{Said, nothing, begun, opened, fleet_of, call_of, after_line}

-- the forms of lines, by what these were read to; a blank or declined line has none
abbrev pub form_of : Result (Option Form) Decline → Option Form
form_of (Ok o) = o
form_of (Err d) = None

abbrev pub forms_in : List (Result (Option Form) Decline) → List Form
forms_in outcomes = filter_map form_of outcomes

-- what stands in a list of forms --

abbrev pub offer_of : Form → Option AnOffer
offer_of (Offer o) = Some o
offer_of f = None

-- a day has room for 64 offers
abbrev pub offers_in : List Form → List AnOffer
offers_in fs = take 64 (filter_map offer_of fs)

-- a form that puts one of so many units out, from a period to one that is not before it, within 48 periods
abbrev pub outage_of : ℕ → Form → Option Outage
outage_of units (Out u a b) = cond (nat_lt u units && (nat_le a b && nat_le b 47)) (Some (record { unit = u; first = a; last = b })) None
outage_of units f = None

-- the outages of forms that follow others, each of a unit that is offered above it
abbrev pub outages_after : List Form → List Form → List Outage
outages_after above [] = []
outages_after above (f ∷ fs) = cons_option (outage_of (length (offers_in above)) f) (outages_after (above ++ (f ∷ [])) fs)

-- a day has room for 16 outages
abbrev pub outages_in : List Form → List Outage
outages_in fs = take 16 (outages_after [] fs)

abbrev pub fleet_in : List Form → Meaning
fleet_in fs = fleet_of (offers_in fs) (outages_in fs)

abbrev pub calls_in : List Form → List Call
calls_in fs = filter_map call_of fs

-- what they say --

abbrev pub NoDay : List Form → Type 0
NoDay fs = (T W : ℕ) → Contains fs (Day T W) → ⊥

-- no need among the forms opens a docket over the fleet above it
abbrev pub NoneOpens : ℕ → ℕ → List Form → Type 0
NoneOpens T W fs = (above : List Form) (wanted : ArrayVec ℤ) (below : List Form) → fs ≡ above ++ (Need wanted ∷ below) → Opens (fleet_in above) T W → ⊥

-- the first day form begins the day, no need after it opens a docket, and the forms after it bring the offers and the
-- outages
pub record SayBegun (fs : List Form) (T W : ℕ) (os : List AnOffer) (xs : List Outage) : Type 0 where
  pub before : List Form
  pub after : List Form
  pub parts : fs ≡ before ++ (Day T W ∷ after)
  pub first_day : NoDay before
  pub offers : os ≡ offers_in after
  pub outages : xs ≡ outages_in after
  pub none_opens : NoneOpens T W after

-- after the first day form comes the first need that opens a docket: the forms between them bring the offers and the
-- outages, the need and the forms after it the calls
pub record SayOpened (fs : List Form) (T W : ℕ) (os : List AnOffer) (xs : List Outage) (cs : List Call) : Type 0 where
  pub before : List Form
  pub between : List Form
  pub wanted : ArrayVec ℤ
  pub later : List Form
  pub parts : fs ≡ before ++ (Day T W ∷ (between ++ (Need wanted ∷ later)))
  pub first_day : NoDay before
  pub offers : os ≡ offers_in between
  pub outages : xs ≡ outages_in between
  pub none_opens : NoneOpens T W between
  pub opens : Opens (fleet_in between) T W
  pub calls : cs ≡ need wanted.items ∷ calls_in later

abbrev pub Say : List Form → Said → Type 0
Say fs nothing = NoDay fs
Say fs (begun T W os xs) = SayBegun fs T W os xs
Say fs (opened T W os xs cs) = SayOpened fs T W os xs cs

-- whatever the lines, what the file has said after them is what their forms say, and forms say one thing
pub record SessionLaw : Type 0 where
  pub says : (outcomes : List (Result (Option Form) Decline)) → Say (forms_in outcomes) (fold after_line nothing outcomes)
  pub one : (fs : List Form) (s t : Said) → Say fs s → Say fs t → s ≡ t
