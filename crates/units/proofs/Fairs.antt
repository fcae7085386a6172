-- What the numbers of each offer keep. Assumes nothing.
use Rattle.std.proofs.Common.{◌≡◌, ℕ, ◌+◌, ◌<◌, ◌≤◌, true, nat_le, arith}
use Rattle.std.proofs.lemmas.Bool.{and_parts, leb-true}
use Rattle.std.proofs.lemmas.Bool.Decides.{nat_tests}
use Rattle.reader.specs.declared.steam.Steam.{Steam}
use Rattle.reader.specs.declared.ramp.Ramp.{Ramp}
use Rattle.reader.specs.declared.lake.Lake.{Lake}
use Rattle.reader.specs.declared.numbers.Run.{Run}
use Rattle.reader.specs.declared.numbers.Was.{Was}
use Rattle.reader.specs.declared.numbers.Was.TheVariants.{On, Off}
use Rattle.reader.specs.declared.numbers.SteamNumbers.{SteamNumbers}
use Rattle.reader.specs.declared.numbers.RampNumbers.{RampNumbers}
use Rattle.reader.specs.declared.numbers.LakeNumbers.{LakeNumbers}
use Rattle.reader.specs.Steps.{fair_places}
use Rattle.reader.specs.Offers.{between, fair_run, fair_was, fair_output}
use Rattle.units.specs.SteamUnits.{was_for}

le2 : (lo hi n : ℕ) → between lo hi n ≡ true → (lo ≤ n) × (n ≤ hi)
le2 lo hi n h = let p = and_parts (nat_le lo n) _ h in (leb-true lo n p.0, leb-true n hi p.1)

pub record FairRun (r : Run) : Type 0 where
  pub lo : 1 ≤ r.lo
  pub order : r.lo ≤ r.hi
  pub hi : r.hi ≤ 500

run_of : (r : Run) → fair_run r ≡ true → FairRun r
run_of r h = let p = and_parts (nat_le 1 r.lo) _ h in let q = le2 r.lo 500 r.hi p.1 in record { lo = leb-true 1 r.lo p.0; order = q.0; hi = q.1 }

pub record FairSteam (n : SteamNumbers) : Type 0 where
  pub run : FairRun n.run
  pub up : 1 ≤ n.rest.up
  pub few_up : n.rest.up ≤ 24
  pub down : 1 ≤ n.rest.down
  pub few_down : n.rest.down ≤ 24
  pub rest : n.rest.down ≤ n.rest.cold
  pub few_cold : n.rest.cold ≤ 48
  pub hot : n.start.hot ≤ 100000000
  pub frost : n.start.frost ≤ 100000000
  pub idle : n.idle ≤ 100000000
  pub steps : fair_places n.steps.places ≡ true
  pub since : 1 ≤ was_for n.was
  pub few_since : was_for n.was ≤ 48

was_of : (w : Was) → fair_was w ≡ true → (1 ≤ was_for w) × (was_for w ≤ 48)
was_of (On m) h = le2 1 48 m h
was_of (Off m) h = le2 1 48 m h

pub fair_steam_of : (o : Steam) → FairSteam o.numbers
fair_steam_of o =
    let n = o.numbers in
    let p = and_parts _ _ o.times in
    let q = and_parts _ _ p.1 in
    let u = le2 1 24 n.rest.up p.0 in
    let d = le2 1 24 n.rest.down q.0 in
    let c = le2 n.rest.down 48 n.rest.cold q.1 in
    let s = and_parts _ _ o.costs in
    let t = and_parts _ _ s.1 in
    let w = was_of n.was o.was in
    record {
      run = run_of n.run o.run;
      up = u.0;
      few_up = u.1;
      down = d.0;
      few_down = d.1;
      rest = c.0;
      few_cold = c.1;
      hot = leb-true n.start.hot 100000000 s.0;
      frost = leb-true n.start.frost 100000000 t.0;
      idle = leb-true n.idle 100000000 t.1;
      steps = n.steps.fair;
      since = w.0;
      few_since = w.1;
    }

pub record FairRamp (n : RampNumbers) : Type 0 where
  pub run : FairRun n.run
  pub narrow : n.run.hi ≤ n.run.lo + 78
  pub step : n.rate.step ≤ 500
  pub edge : n.rate.edge ≤ 500
  pub reach : n.run.lo ≤ n.rate.edge
  pub start : n.start ≤ 100000000
  pub idle : n.idle ≤ 100000000
  pub steps : fair_places n.steps.places ≡ true
  -- it was off, or within lo and hi
  pub was_low : 0 < n.was → n.run.lo ≤ n.was
  pub was_high : n.was ≤ n.run.hi

low_of : (n : ℕ) (r : Run) → fair_output n r ≡ true → 0 < n → r.lo ≤ n
low_of n r h l = grind (arith, nat_tests)

high_of : (n : ℕ) (r : Run) → fair_output n r ≡ true → n ≤ r.hi
high_of n r h = grind (arith, nat_tests)

pub fair_ramp_of : (o : Ramp) → FairRamp o.numbers
fair_ramp_of o =
    let n = o.numbers in
    let p = and_parts _ _ o.rate in
    let v = le2 1 500 n.rate.step p.0 in
    let b = le2 n.run.lo 500 n.rate.edge p.1 in
    record {
      run = run_of n.run o.run;
      narrow = leb-true n.run.hi (n.run.lo + 78) o.narrow;
      step = v.1;
      edge = b.1;
      reach = b.0;
      start = leb-true n.start 100000000 o.start;
      idle = leb-true n.idle 100000000 o.idle;
      steps = n.steps.fair;
      was_low = low_of n.was n.run o.was;
      was_high = high_of n.was n.run o.was;
    }

pub record FairLake (n : LakeNumbers) : Type 0 where
  pub full : n.full ≤ 79
  pub fall : n.flow.fall ≤ 79
  pub rise : n.flow.rise ≤ 79
  pub wear : n.wear ≤ 100000
  pub was : n.was ≤ n.full
  pub end : n.end ≤ n.full

pub fair_lake_of : (o : Lake) → FairLake o.numbers
fair_lake_of o =
    let n = o.numbers in
    let p = and_parts _ _ o.fair in
    let a = and_parts _ _ p.0 in
    let f = and_parts _ _ a.1 in
    let b = and_parts _ _ p.1 in
    let w = and_parts _ _ b.1 in
    record {
      full = (le2 1 79 n.full a.0).1;
      fall = leb-true n.flow.fall 79 f.0;
      rise = leb-true n.flow.rise 79 f.1;
      wear = leb-true n.wear 100000 b.0;
      was = leb-true n.was n.full w.0;
      end = leb-true n.end n.full w.1;
    }
