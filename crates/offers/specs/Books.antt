-- What a book of offers means, and what one offer more does to that. Assumes nothing.
use Rattle.std.specs.Prelude.{◌≡◌, ◌≢◌, ℕ, ◌+◌, false, List, length, pos, Some, None, Option}
use Rattle.std.specs.List.{slice_get}
use Rattle.fleet.specs.Units.{UnitModel, Meaning}
use Rattle.reader.specs.declared.offer.Offer.{Offer}
use Rattle.units.specs.Links.{model_of}
use Rattle.units.specs.Offers.{offer_links}

-- what is answered of a unit that the book lacks
abbrev pub no_unit : UnitModel
no_unit = record { states = 1; start = 0; arc = λ t a b. None; cost = λ t a b q. pos 0; ends = λ a. false }

abbrev pub unit_of : Option Offer → UnitModel
unit_of None = no_unit
unit_of (Some o) = model_of (offer_links o)

-- units are the offers in the order added
abbrev pub book_meaning : List Offer → Meaning
book_meaning os = record { units = length os; model = λ u. unit_of (slice_get os u) }

-- what a book without offers means
abbrev pub no_units : Meaning
no_units = record { units = 0; model = λ u. no_unit }

-- one unit more: at the next number there is this offer's, and every other number has what it had
pub record AddsUnit (old new : Meaning) (offer : Offer) : Type 0 where
  pub units : new.units ≡ old.units + 1
  pub added : new.model old.units ≡ model_of (offer_links offer)
  pub others : (u : ℕ) → u ≢ old.units → new.model u ≡ old.model u
