-- A call has one answer. Assumes nothing.
use Rattle.std.specs.Prelude.{◌≡◌, ℕ, List, length, take, ℤ, Ok, Result}
use Rattle.terms.specs.declared.decline.Decline.{Decline}
use Rattle.terms.specs.declared.entry.Entry.{Entry}
use Rattle.fleet.specs.Units.{Meaning}
use Rattle.settlement.specs.declared.verdicts.Judgement.{Judgement}
use Rattle.settlement.specs.Ledger.{Ledger, Call}
use Rattle.settlement.specs.Calls.{Enters, Supplies, Shows}
use Rattle.settlement.specs.Verdicts.{Judges}

-- at a ledger two answers of the same call are one, and so is what its buffer holds of the day's periods or of the units
pub record OneAnswerLaw : Type 0 where
  pub enters : (m : Meaning) (T W : ℕ) (l : Ledger) (c : Call) (q r : Result (Unit {0}) Decline) → Enters c q m T W l → Enters c r m T W l → q ≡ r
  pub supplies : (m : Meaning) (T W : ℕ) (l : Ledger) (u fewer more : ℕ) (q r : Result (ℤ × ℤ × ℤ) Decline) → Supplies u fewer more q m T W l → Supplies u fewer more r m T W l → q ≡ r
  pub shows : (m : Meaning) (T W : ℕ) (l : Ledger) (u slots : ℕ) (old new old' new' : List Entry) (q r : Result (Unit {0}) Decline) → length old ≡ length old' → Shows u slots old new q m T W l → Shows u slots old' new' r m T W l → q ≡ r
  pub shown : (m : Meaning) (T W : ℕ) (l : Ledger) (u slots : ℕ) (old new old' new' : List Entry) (q r : Unit {0}) → Shows u slots old new (Ok q) m T W l → Shows u slots old' new' (Ok r) m T W l → take T new ≡ take T new'
  pub judges : (m : Meaning) (T W : ℕ) (l : Ledger) (old new old' new' : List ℤ) (q r : Result Judgement Decline) → length old ≡ length old' → Judges m T W l old new q → Judges m T W l old' new' r → q ≡ r
  pub paid : (m : Meaning) (T W : ℕ) (l : Ledger) (old new old' new' : List ℤ) (j k : Judgement) → Judges m T W l old new (Ok j) → Judges m T W l old' new' (Ok k) → take m.units new ≡ take m.units new'
