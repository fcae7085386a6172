-- What a session holds of what the file has said. Assumes nothing.
use Rattle.std.specs.Prelude.{◌≡◌, length}
use Rattle.fleet.specs.Units.{Meaning}
use Rattle.fleet_kinds.specs.declared.outages.Outages.{Outages}
use Rattle.fleet_kinds.specs.OutageLists.{out_meaning}
use Rattle.offers.specs.declared.book.Book.{Book}
use Rattle.offers.specs.Books.{book_meaning}
use Rattle.settlement.specs.Ledger.{ledger}
use Rattle.settlement.specs.Follow.{Follows}
use Rattle.day.specs.declared.session.Session.{Session}
use Rattle.day.specs.declared.session.Session.TheVariants.{Before, Begun, Open}
use Rattle.day.specs.Lasting.{Lasting}
use Rattle.day.specs.Said.{Said, nothing, begun, opened, fleet_of}

-- the meaning of a book under outages
abbrev pub mean : Outages Book → Meaning
mean f = out_meaning f.list.items (book_meaning f.fleet.offers.items)

abbrev pub Holds : Session → Said → Type 0
Holds Before nothing = Unit {0}
Holds Before (begun T W os xs) = ⊥
Holds Before (opened T W os xs cs) = ⊥
Holds (Begun b) nothing = ⊥
Holds (Begun b) (begun T W os xs) = (b.periods ≡ T) × (b.weight ≡ W) × (b.fleet.fleet.offers.items ≡ os) × (b.fleet.list.items ≡ xs)
Holds (Begun b) (opened T W os xs cs) = ⊥
Holds (Open o) nothing = ⊥
Holds (Open o) (begun T W os xs) = ⊥
Holds (Open o) (opened T W os xs cs) =
    (o.periods ≡ T) × (o.units ≡ length os) × Follows mean (fleet_of os xs) T W cs o.docket
    × Lasting (fleet_of os xs) T W (ledger (fleet_of os xs) T W cs) o.known.supplies o.known.shows
