-- No two causes have one number, so number and place tell a decline from all others. Assumes nothing.
use Rattle.std.proofs.Common.{◌≡◌, ℕ, List, [], ◌∷◌, get_or, sym, refl, ap, ◌∙◌}
use Rattle.terms.specs.declared.decline.Cause.{Cause}
use Rattle.terms.specs.declared.decline.Cause.TheVariants.{FileTooLong, LineTooLong, ForeignByte, UnknownForm, UnexpectedWord, NotANumeral, NumeralOutOfRange, OfferDisagrees, FormOutOfPlace, TooManyOffers, NoUnits, PeriodsOrWeight, TooManyOutages, BadOutage, WrongStage, RowLength, RowValue, NoSuchUnit, RunStands, ScheduleLength, ScheduleNotAllowed, MixBeforeRun, MixWeight, TooLittleRoom, BeyondRange, NoSchedule, UnitWithoutRun, RunsMissNeed, MixesTooLight, MixesMissNeed}
use Rattle.terms.specs.declared.decline.Decline.{Decline}
use Rattle.terms.specs.Declines.{number_of}

-- the cause of each number; where there is none, any
abbrev by_number : List Cause
by_number =
    FileTooLong ∷ FileTooLong ∷ LineTooLong ∷ ForeignByte ∷ UnknownForm ∷ UnexpectedWord ∷ NotANumeral ∷ NumeralOutOfRange
    ∷ OfferDisagrees ∷ FormOutOfPlace ∷ TooManyOffers ∷ NoUnits ∷ PeriodsOrWeight ∷ TooManyOutages ∷ BadOutage ∷ FileTooLong
    ∷ FileTooLong ∷ FileTooLong ∷ FileTooLong ∷ FileTooLong ∷ FileTooLong ∷ WrongStage ∷ RowLength ∷ RowValue
    ∷ NoSuchUnit ∷ RunStands ∷ ScheduleLength ∷ ScheduleNotAllowed ∷ MixBeforeRun ∷ MixWeight ∷ TooLittleRoom ∷ BeyondRange
    ∷ NoSchedule ∷ FileTooLong ∷ FileTooLong ∷ FileTooLong ∷ FileTooLong ∷ FileTooLong ∷ FileTooLong ∷ FileTooLong
    ∷ FileTooLong ∷ UnitWithoutRun ∷ RunsMissNeed ∷ MixesTooLight ∷ MixesMissNeed
    ∷ []

abbrev cause_at : ℕ → Cause
cause_at n = get_or by_number n FileTooLong

back : (c : Cause) → cause_at (number_of c) ≡ c
back FileTooLong = refl
back LineTooLong = refl
back ForeignByte = refl
back UnknownForm = refl
back UnexpectedWord = refl
back NotANumeral = refl
back NumeralOutOfRange = refl
back OfferDisagrees = refl
back FormOutOfPlace = refl
back TooManyOffers = refl
back NoUnits = refl
back PeriodsOrWeight = refl
back TooManyOutages = refl
back BadOutage = refl
back WrongStage = refl
back RowLength = refl
back RowValue = refl
back NoSuchUnit = refl
back RunStands = refl
back ScheduleLength = refl
back ScheduleNotAllowed = refl
back MixBeforeRun = refl
back MixWeight = refl
back TooLittleRoom = refl
back BeyondRange = refl
back NoSchedule = refl
back UnitWithoutRun = refl
back RunsMissNeed = refl
back MixesTooLight = refl
back MixesMissNeed = refl

same_cause : (c d : Cause) → number_of c ≡ number_of d → c ≡ d
same_cause c d e = sym (back c) ∙ ap cause_at e ∙ back d

pub same_decline : (d e : Decline) → number_of d.cause ≡ number_of e.cause → d.place ≡ e.place → d ≡ e
same_decline d e n p = λ i. record { cause = same_cause d.cause e.cause n i; place = p i }
