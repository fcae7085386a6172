-- The pool's number and layer of each cause, and what a decline says. Assumes nothing.
use Rattle.std.specs.Prelude.{◌≡◌, ℕ}
use Rattle.terms.specs.declared.decline.Cause.{Cause}
use Rattle.terms.specs.declared.decline.Cause.TheVariants.{FileTooLong, LineTooLong, ForeignByte, UnknownForm, UnexpectedWord, NotANumeral, NumeralOutOfRange, OfferDisagrees, FormOutOfPlace, TooManyOffers, NoUnits, PeriodsOrWeight, TooManyOutages, BadOutage, WrongStage, RowLength, RowValue, NoSuchUnit, RunStands, ScheduleLength, ScheduleNotAllowed, MixBeforeRun, MixWeight, TooLittleRoom, BeyondRange, NoSchedule, UnitWithoutRun, RunsMissNeed, MixesTooLight, MixesMissNeed}
use Rattle.terms.specs.declared.decline.Layer.{Layer}
use Rattle.terms.specs.declared.decline.Layer.TheVariants.{Reader, Fleet, Docket}
use Rattle.terms.specs.declared.decline.Decline.{Decline}

abbrev pub number_of : Cause → ℕ
number_of FileTooLong = 1
number_of LineTooLong = 2
number_of ForeignByte = 3
number_of UnknownForm = 4
number_of UnexpectedWord = 5
number_of NotANumeral = 6
number_of NumeralOutOfRange = 7
number_of OfferDisagrees = 8
number_of FormOutOfPlace = 9
number_of TooManyOffers = 10
number_of NoUnits = 11
number_of PeriodsOrWeight = 12
number_of TooManyOutages = 13
number_of BadOutage = 14
number_of WrongStage = 21
number_of RowLength = 22
number_of RowValue = 23
number_of NoSuchUnit = 24
number_of RunStands = 25
number_of ScheduleLength = 26
number_of ScheduleNotAllowed = 27
number_of MixBeforeRun = 28
number_of MixWeight = 29
number_of TooLittleRoom = 30
number_of BeyondRange = 31
number_of NoSchedule = 32
number_of UnitWithoutRun = 41
number_of RunsMissNeed = 42
number_of MixesTooLight = 43
number_of MixesMissNeed = 44

abbrev pub layer_of : Cause → Layer
layer_of FileTooLong = Reader
layer_of LineTooLong = Reader
layer_of ForeignByte = Reader
layer_of UnknownForm = Reader
layer_of UnexpectedWord = Reader
layer_of NotANumeral = Reader
layer_of NumeralOutOfRange = Reader
layer_of OfferDisagrees = Reader
layer_of FormOutOfPlace = Reader
layer_of TooManyOffers = Reader
layer_of NoUnits = Fleet
layer_of PeriodsOrWeight = Fleet
layer_of TooManyOutages = Fleet
layer_of BadOutage = Fleet
layer_of WrongStage = Docket
layer_of RowLength = Docket
layer_of RowValue = Docket
layer_of NoSuchUnit = Docket
layer_of RunStands = Docket
layer_of ScheduleLength = Docket
layer_of ScheduleNotAllowed = Docket
layer_of MixBeforeRun = Docket
layer_of MixWeight = Docket
layer_of TooLittleRoom = Docket
layer_of BeyondRange = Docket
layer_of NoSchedule = Docket
layer_of UnitWithoutRun = Docket
layer_of RunsMissNeed = Docket
layer_of MixesTooLight = Docket
layer_of MixesMissNeed = Docket

-- the decline is of this layer, with this number, at this place
pub record Says (l : Layer) (n p : ℕ) (d : Decline) : Type 0 where
  pub layer : layer_of d.cause ≡ l
  pub number : number_of d.cause ≡ n
  pub place : d.place ≡ p
