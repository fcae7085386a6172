-- Which parts make an offer, and what the offer then says. Assumes nothing.
use Rattle.std.specs.Prelude.{◌≡◌, Bool, true, false, ◌&&◌, List, Some, None, Ok, Err, Option, Result, ◌==◌, nat_le}
use Rattle.terms.specs.declared.decline.Decline.{Decline}
use Rattle.terms.specs.declared.decline.Cause.TheVariants.{OfferDisagrees}
use Rattle.reader.specs.declared.steps.Step.{Step}
use Rattle.reader.specs.declared.offer.Offer.{Offer}
use Rattle.reader.specs.declared.form.Form.{Form}
use Rattle.reader.specs.declared.form.Form.TheVariants as form
use Rattle.reader.specs.Offers.{fair_run, fair_times, fair_costs, fair_was, fair_rate, fair_money, fair_output, narrow, no_price_below}
use Rattle.reader.specs.Steps.{fair_list, lots_in}
use Rattle.reader.specs.OfferParts.{SteamValues, RampValues}
use Rattle.reader.specs.Forms.{Line, offer_line}

abbrev pub fair_steam_parts : SteamValues → Bool
fair_steam_parts v = fair_list v.1.1.1.1.0 && ((fair_run v.0 && fair_times v.1.0) && (fair_costs v.1.1.0 v.1.1.1.0 && (fair_was v.1.1.1.1.1 && lots_in v.1.1.1.1.0 == v.0.hi)))

abbrev pub fair_ramp_parts : RampValues → Bool
fair_ramp_parts v =
    fair_list v.1.1.1.1.0 && (((fair_run v.0 && narrow v.0) && fair_rate v.1.0 v.0)
    && ((fair_money v.1.1.0 && fair_money v.1.1.1.0) && (fair_output v.1.1.1.1.1 v.0 && lots_in v.1.1.1.1.0 == v.0.hi)))

abbrev pub fair_buyer_parts : List Step → Bool
fair_buyer_parts ss = fair_list ss && (no_price_below ss && nat_le (lots_in ss) 500)

-- an offer where the test holds, and then it says this line
abbrev pub OfferIs : Bool → Line → Option Offer → Type 0
OfferIs b l None = b ≡ false
OfferIs b l (Some o) = (b ≡ true) × (offer_line o ≡ l)

-- an offer's form, or 8 at place 1
abbrev pub checked : Option Offer → Result Form Decline
checked None = Err (record { cause = OfferDisagrees; place = 1 })
checked (Some o) = Ok (form.Offer o)
