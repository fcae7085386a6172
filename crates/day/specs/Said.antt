-- What a file has said so far, and what each form adds to it. Assumes nothing.
use Rattle.std.specs.Prelude.{ℕ, cond, List, [], ◌∷◌, ◌++◌, length, Some, None, Ok, Err, Option, Result, nat_lt}
use Rattle.terms.specs.declared.decline.Decline.{Decline}
use Rattle.fleet.specs.Units.{Meaning}
use Rattle.fleet.specs.Rows.{Fault}
use Rattle.fleet_kinds.specs.declared.outages.Outage.{Outage}
use Rattle.fleet_kinds.specs.OutageLists.{out_meaning, outage_fault}
use Rattle.reader.specs.declared.offer.Offer.{Offer as AnOffer}
use Rattle.reader.specs.declared.form.Form.{Form}
use Rattle.reader.specs.declared.form.Form.TheVariants.{Day, Offer, Out, Need, Price, Run, Mix, Supply, Show, Judge}
use Rattle.offers.specs.Books.{book_meaning}
use Rattle.settlement.specs.Ledger.{Call, need, price, run, mix, supply, show, judge}
use Rattle.settlement.specs.Calls.{open_fault}

-- nothing; or a day of T periods and weight W, with its offers and outages; or an open docket over these, with the calls
-- that were made of it
pub data Said : Type 0 where
  nothing : Said
  begun : (T W : ℕ) → List AnOffer → List Outage → Said
  opened : (T W : ℕ) → List AnOffer → List Outage → List Call → Said

-- the offers under the outages, as a fleet
abbrev pub fleet_of : List AnOffer → List Outage → Meaning
fleet_of os xs = out_meaning xs (book_meaning os)

-- the call of a docket's form; the day lends whole work tables, and buffers for 48 entries and 64 pays
abbrev pub call_of : Form → Option Call
call_of (Day T W) = None
call_of (Offer o) = None
call_of (Out u a b) = None
call_of (Need d) = Some (need d.items)
call_of (Price d n) = Some (price d n.items)
call_of (Run u x) = Some (run u x.items 3920)
call_of (Mix u w x) = Some (mix u w x.items)
call_of (Supply u) = Some (supply u 3920 3920)
call_of (Show u) = Some (show u 3920 48)
call_of Judge = Some (judge 64)

-- the same with one more, where nothing is wrong
abbrev pub added : {X : Type 0} → Option ℕ → List X → X → List X
added None xs x = xs ++ (x ∷ [])
added (Some n) xs x = xs

abbrev pub with_call : ℕ → ℕ → List AnOffer → List Outage → List Call → Option Call → Said
with_call T W os xs cs None = opened T W os xs cs
with_call T W os xs cs (Some c) = opened T W os xs (cs ++ (c ∷ []))

-- a need opens the docket, unless that is declined
abbrev pub opening : Option Fault → ℕ → ℕ → List AnOffer → List Outage → Call → Said
opening None T W os xs c = opened T W os xs (c ∷ [])
opening (Some f) T W os xs c = begun T W os xs

-- what a day that is begun says after one more form
abbrev pub after_begun : ℕ → ℕ → List AnOffer → List Outage → Form → Said
after_begun T W os xs (Day t w) = begun T W os xs
after_begun T W os xs (Offer o) = begun T W (cond (nat_lt (length os) 64) (os ++ (o ∷ [])) os) xs
after_begun T W os xs (Out u a b) = begun T W os (added (outage_fault (length os) (length xs) (record { unit = u; first = a; last = b })) xs (record { unit = u; first = a; last = b }))
after_begun T W os xs (Need d) = opening (open_fault (fleet_of os xs) T W) T W os xs (need d.items)
after_begun T W os xs (Price d n) = begun T W os xs
after_begun T W os xs (Run u x) = begun T W os xs
after_begun T W os xs (Mix u w x) = begun T W os xs
after_begun T W os xs (Supply u) = begun T W os xs
after_begun T W os xs (Show u) = begun T W os xs
after_begun T W os xs Judge = begun T W os xs

-- before a day, only the form that begins it says anything
abbrev pub after_nothing : Form → Said
after_nothing (Day T W) = begun T W [] []
after_nothing (Offer o) = nothing
after_nothing (Out u a b) = nothing
after_nothing (Need d) = nothing
after_nothing (Price d n) = nothing
after_nothing (Run u x) = nothing
after_nothing (Mix u w x) = nothing
after_nothing (Supply u) = nothing
after_nothing (Show u) = nothing
after_nothing Judge = nothing

abbrev pub after_form : Said → Form → Said
after_form nothing f = after_nothing f
after_form (begun T W os xs) f = after_begun T W os xs f
after_form (opened T W os xs cs) f = with_call T W os xs cs (call_of f)

-- a blank or declined line says nothing
abbrev pub after_line : Said → Result (Option Form) Decline → Said
after_line s (Ok None) = s
after_line s (Ok (Some f)) = after_form s f
after_line s (Err d) = s
