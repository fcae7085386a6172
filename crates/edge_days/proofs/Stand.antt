-- The days at the edge: what computes is computed, and what speaks of all schedules goes by the units' rules. Assumes
-- nothing.
use Rattle.std.proofs.Common.{◌≡◌, ℕ, zero, suc, ◌<◌, true, false, List, [], ◌∷◌, ℤ, pos, ◌≤ℤ◌, ◌<ℤ◌, Some, None, ◌⊎◌, refl, ap, subst, ◌∙◌, inl, inr, arith}
use Rattle.std.proofs.lemmas.Int.{ints}
use Rattle.std.proofs.lemmas.Bool.{cases_Bool}
use Rattle.terms.specs.declared.entry.Entry.{Entry}
use Rattle.fleet.specs.Units.{UnitModel, SoundUnit, Sound, among}
use Rattle.fleet.specs.Schedules.{Prices, Allowed, Schedule, NoSchedule, Goes, Precedes, gain_of, lots_of}
use Rattle.fleet.specs.Gains.{best_from, greatest, BestGain, IsBest, Gains, Supply, First, best_gain}
use Rattle.fleet.specs.Rows.{Fault}
use Rattle.fleet.proofs.Arcs.{among_low}
use Rattle.fleet.proofs.BestGains.{best_gain_law}
use Rattle.fleet.proofs.Totals.{best_unique}
use Rattle.reader.specs.declared.offer.Offer.TheVariants.{Steam, Ramp, Lake}
use Rattle.units.specs.Agree.{ScheduleOf}
use Rattle.units.specs.SteamUnits.{steam_links}
use Rattle.units.specs.SteamRules.{runs}
use Rattle.units.specs.RampRules.{RampObeys}
use Rattle.units.specs.LakeRules.{Flows, moved}
use Rattle.units.proofs.Follow.{held}
use Rattle.units.proofs.LakeStands.{moved_rise}
use Rattle.units.proofs.Rules.{keeps_rule, offer_sound}
use Rattle.offers.specs.BookSound.{book_sound}
use Rattle.settlement.specs.Ledger.{Ledger, Call, judge, supply, ledger, held_back}
use Rattle.settlement.specs.Evidence.{Evidence, AllBest, Ran, RunsMeet, Whole, MixesMeet}
use Rattle.settlement.specs.Reasons.{Declined, FirstNot, wrong}
use Rattle.settlement.proofs.Carries.{no_fault}
use Rattle.settlement.proofs.Finding.{none_fails}
use Rattle.settlement.proofs.Never.{never_31}
use Rattle.edge_days.specs.Days.{first, second, both, on, off, calls, half_off, never_off, day_at, ramp, ramping, lake, filling, nothing_asked}
use Rattle.edge_days.specs.EdgeDays.{ComesTo, EdgeDays, at_place}

-- best gains, computed --

abbrev prices : ℕ → Prices
prices cents = record { over = 1; numerators = pos cents ∷ [] }

first_six : best_gain (both.model 0) 1 (prices 6) ≡ Some (pos 10)
unfolding best_from greatest
first_six = refl

second_six : best_gain (both.model 1) 1 (prices 6) ≡ Some (pos 0)
unfolding best_from greatest
second_six = refl

first_five : best_gain (both.model 0) 1 (prices 5) ≡ Some (pos 0)
unfolding best_from greatest
first_five = refl

second_five : best_gain (both.model 1) 1 (prices 5) ≡ Some (pos 0)
unfolding best_from greatest
second_five = refl

is_best : (p : UnitModel) (r : Prices) (g : ℤ) → SoundUnit p → best_gain p 1 r ≡ Some g → BestGain p 1 r g
is_best p r g s e = subst (IsBest p 1 r) e (best_gain_law p s 1 r)

pub first_best_six : BestGain (both.model 0) 1 (prices 6) (pos 10)
first_best_six = is_best (both.model 0) (prices 6) (pos 10) (offer_sound (Steam first)) first_six

second_best_six : BestGain (both.model 1) 1 (prices 6) (pos 0)
second_best_six = is_best (both.model 1) (prices 6) (pos 0) (offer_sound (Steam second)) second_six

first_best_five : BestGain (both.model 0) 1 (prices 5) (pos 0)
first_best_five = is_best (both.model 0) (prices 5) (pos 0) (offer_sound (Steam first)) first_five

second_best_five : BestGain (both.model 1) 1 (prices 5) (pos 0)
second_best_five = is_best (both.model 1) (prices 5) (pos 0) (offer_sound (Steam second)) second_five

-- unit 0 at 5 cents --

-- one period on puts out 1 to 10 lots, one off nothing
few : (q : ℤ) → (runs q ≡ true → (pos 1 ≤ℤ q) × (q ≤ℤ pos 10)) → (runs q ≡ false → q ≡ pos 0) → (pos 0 ≤ℤ q) × (q ≤ℤ pos 10)
few q a b =
    elim (cases_Bool (runs q)) [
      | inl y ↦ let p = a y in let l = p.0 in let h = p.1 in (omega (arith, ints), h)
      | inr z ↦ let e = b z in (omega (arith, ints), omega (arith, ints))
    ]

between : (es : List Entry) → Schedule (both.model 0) 1 es → (pos 0 ≤ℤ lots_of es) × (lots_of es ≤ℤ pos 10)
between [] s = let l = s.long in absurd (omega arith)
between (e ∷ []) s =
    let p = (keeps_rule (Steam first)).0.schedules.obeys (e ∷ []) s.allowed 0 (omega arith) in
    let f = few e.output p.on p.off in
    let l = f.0 in
    let h = f.1 in
    (omega (arith, ints), omega (arith, ints))
between (e ∷ f ∷ es) s = let l = s.long in absurd (omega arith)

pub gains_on : (lots : ℕ) → gain_of (both.model 0) (prices 5) (on lots) ≡ pos 0 → Allowed (both.model 0) (on lots) → Gains (both.model 0) 1 (prices 5) (pos 0) (on lots)
gains_on lots e a = record { scheduled = record { long = refl; allowed = a }; gains = e }

gains_off : Gains (both.model 0) 1 (prices 5) (pos 0) off
gains_off = record { scheduled = record { long = refl; allowed = (refl, refl) }; gains = refl }

pub ten : Gains (both.model 0) 1 (prices 5) (pos 0) (on 10)
ten = gains_on 10 refl (refl, refl)

pub supply_five : Supply (both.model 0) 1 (prices 5) (pos 0, pos 0, pos 10)
supply_five = record {
  best = first_best_five;
  few = off;
  few_gains = gains_off;
  few_lots = refl;
  many = on 10;
  many_gains = gains_on 10 refl (refl, refl);
  many_lots = refl;
  between = λ es g. between es g.scheduled;
}

on_low : (y : Entry) → Goes (both.model 0) 0 0 y → y.state ≡ 0 → (y.output <ℤ pos 1) ⊎ ((y.output ≡ pos 1) × Precedes [] []) → ⊥
on_low y g e (inl l) =
    let h = held (steam_links first.numbers) 0 0 y.state y.output g in
    let a = subst (λ b. among ((steam_links first.numbers).outputs 0 b) y.output ≡ true) e h.among in
    let low = among_low (record { lo = pos 1; hi = pos 10 }) y.output a in
    absurd (omega (arith, ints))
on_low y g e (inr p) = p.1

-- no schedule into state 0 has less than one lot
first_on : (y : Entry) → Goes (both.model 0) 0 0 y → Precedes (y ∷ []) (on 1) → ⊥
first_on y g (inl l) = absurd (omega arith)
first_on y g (inr r) = on_low y g r.0 r.1

earliest : (ys : List Entry) → Schedule (both.model 0) 1 ys → Precedes ys (on 1) → ⊥
earliest [] s p = p
earliest (y ∷ []) s p = first_on y s.allowed.0 p
earliest (y ∷ z ∷ ys) s p = let l = s.long in absurd (omega arith)

pub show_five : First (both.model 0) 1 (prices 5) (on 1)
show_five = record {
  gain = pos 0;
  best = first_best_five;
  gains = gains_on 1 refl (refl, refl);
  earliest = λ ys g p. earliest ys g.scheduled p;
}

-- the ramp and the lake --

ramp_25 : RampObeys ramp.numbers (pos 25 ∷ [])
ramp_25 zero l = record { low = omega (arith, ints); high = omega (arith, ints); rises = omega (arith, ints); falls = omega (arith, ints) }
ramp_25 (suc t) l = absurd (omega arith)

ramp_26 : RampObeys ramp.numbers (pos 26 ∷ []) → ⊥
ramp_26 o = let r = (o 0 (omega arith)).rises in absurd (omega (arith, ints))

not_26 : ScheduleOf (ramping.model 0) (pos 26 ∷ []) → ⊥
not_26 s = ramp_26 (subst (RampObeys ramp.numbers) s.outputs ((keeps_rule (Ramp ramp)).0.schedules.obeys s.entries s.allowed))

rises_few : (q : ℤ) → Flows lake.numbers q → moved q ≤ℤ pos 2
rises_few q (inl f) = let e = ap moved f.out in omega (arith, ints)
rises_few q (inr r) = let e = ap moved r.out ∙ moved_rise r.rise r.some in let l = r.few in omega (arith, ints)

no_schedule : NoSchedule (filling.model 0) 2
no_schedule [] s = let l = s.long in absurd (omega arith)
no_schedule (e ∷ []) s = let l = s.long in absurd (omega arith)
no_schedule (e ∷ f ∷ []) s =
    let o = (keeps_rule (Lake lake)).0.schedules.obeys (e ∷ f ∷ []) s.allowed in
    let x = rises_few e.output (o.flows 0 (omega arith)) in
    let y = rises_few f.output (o.flows 1 (omega arith)) in
    let z = o.ends in
    absurd (omega (arith, ints))
no_schedule (e ∷ f ∷ g ∷ es) s = let l = s.long in absurd (omega arith)

too_empty : Declined filling 2 1 nothing_asked (supply 0 3920 3920) (at_place 32 0)
too_empty = inr (refl, inr (λ p h. no_schedule h.1.1.best.by h.1.1.best.attained.scheduled, inl (refl, (refl, no_schedule))))

-- the evidence --

pub both_units : (P : ℕ → Type 0) → P 0 → P 1 → (u : ℕ) → u < 2 → P u
both_units P a b zero l = a
both_units P a b (suc zero) l = b
both_units P a b (suc (suc u)) l = absurd (omega arith)

pub one_period : (P : ℕ → Type 0) → P 0 → (t : ℕ) → t < 1 → P t
one_period P a zero l = a
one_period P a (suc t) l = absurd (omega arith)

pub both_sound : Sound both
both_sound = book_sound (Steam first ∷ Steam second ∷ []) (omega arith)

abbrev pub short : Ledger
short = ledger both 1 2 (calls 6 never_off)

pub none_wrong : (cs : List Call) → Evidence both 1 2 (ledger both 1 2 cs) → held_back both 1 2 (ledger both 1 2 cs) (judge 2) ≡ None → (f : Fault) → wrong both 1 2 (ledger both 1 2 cs) (judge 2) f → ⊥
none_wrong cs e h f (inl x) = never_31 both both_sound 1 2 (omega arith) cs (judge 2) f (inr (h, inl x)) x.0
none_wrong cs e h f (inr (a, inl x)) = none_fails e.ran f.place x.1
none_wrong cs e h f (inr (a, inr (b, inl x))) = none_fails e.runs_meet f.place x.1
none_wrong cs e h f (inr (a, inr (b, inr (c, inl x)))) = none_fails e.whole f.place x.1
none_wrong cs e h f (inr (a, inr (b, inr (c, inr (d, inl x))))) = none_fails e.mixes_meet f.place x.1
none_wrong cs e h f (inr (a, inr (b, inr (c, inr (d, inr x))))) = x.1

-- with the whole evidence, nothing is wrong with a judge that has room
nothing_wrong : (cs : List Call) → Evidence both 1 2 (ledger both 1 2 cs) → held_back both 1 2 (ledger both 1 2 cs) (judge 2) ≡ None → (f : Fault) → Declined both 1 2 (ledger both 1 2 cs) (judge 2) f → ⊥
nothing_wrong cs e h f d = no_fault both 1 2 (ledger both 1 2 cs) (judge 2) h (none_wrong cs e h) f d

pub evidence_six : Evidence both 1 2 (day_at 6)
evidence_six = record {
  ran = both_units _ refl refl;
  runs_meet = one_period _ refl;
  whole = both_units _ refl refl;
  mixes_meet = one_period _ refl;
}

pub evidence_five : Evidence both 1 2 (day_at 5)
evidence_five = record {
  ran = both_units _ refl refl;
  runs_meet = one_period _ refl;
  whole = both_units _ refl refl;
  mixes_meet = one_period _ refl;
}

pub at_six : ComesTo (day_at 6) (pos 2) (pos 0) (pos 2) (pos 0)
unfolding best_from greatest
at_six = record {
  evidence = evidence_six;
  answered = nothing_wrong (calls 6 half_off) evidence_six refl;
  uplift_is = refl;
  gap_is = refl;
  first_pay = refl;
  second_pay = refl;
}

pub at_five : ComesTo (day_at 5) (pos 4) (pos 4) (pos 0) (pos 4)
unfolding best_from greatest
at_five = record {
  evidence = evidence_five;
  answered = nothing_wrong (calls 5 half_off) evidence_five refl;
  uplift_is = refl;
  gap_is = refl;
  first_pay = refl;
  second_pay = refl;
}

-- 4 lots gain -4 there, and off gains 0
pub not_best : AllBest both 1 (day_at 5) → ⊥
not_best a = let e = best_unique (both.model 1) 1 (prices 5) _ _ a.1.0 second_best_five in absurd (omega (arith, ints, e))

-- 28 lots are not 24
pub missed : FirstNot 1 (MixesMeet 2 short) 0
missed = record { below = omega arith; fails = λ e. absurd (omega (arith, ints, e)); before = λ i l. absurd (omega arith) }

pub miss : (room : ℕ) → held_back both 1 2 short (judge room) ≡ None → Declined both 1 2 short (judge room) (at_place 44 0)
miss room held = inr (
  held,
  inr (
    λ p h. never_31 both both_sound 1 2 (omega arith) (calls 6 never_off) (judge room) (at_place 31 0) (inr (held, inl (refl, (refl, h.1)))) refl,
    inr (
      none_fails (both_units (Ran short) refl refl),
      inr (
        none_fails (one_period (RunsMeet both short) refl),
        inr (
          none_fails (both_units (Whole 2 short) refl refl),
          inl (refl, missed),
        ),
      ),
    ),
  ),
)

pub edge_days : EdgeDays
edge_days = record {
  at_six = at_six;
  least = (first_best_six, (second_best_six, (second_best_six, tt)));
  says_least = λ old new r l j. (j.exactly refl l).so_least evidence_six (first_best_six, (second_best_six, (second_best_six, tt)));
  at_five = at_five;
  within = not_best;
  says_within = λ old new r l j. (j.exactly refl l).so_within evidence_five not_best;
  miss = miss 2 refl;
  supply_at_five = supply_five;
  show_at_five = show_five;
  draw_ten = refl;
  draw_most = refl;
  to_25 = (keeps_rule (Ramp ramp)).0.schedules.found (pos 25 ∷ []) (omega arith) ramp_25;
  not_to_26 = not_26;
  too_empty = too_empty;
}
