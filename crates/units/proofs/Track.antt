-- A state of a steam unit tells the run of its history. Assumes nothing.
use Rattle.std.proofs.Common.{◌≡◌, ℕ, zero, suc, ◌+◌, ◌-◌, ◌<◌, ◌≤◌, min, Bool, true, false, cond, not, ◌⊎◌, ◌≢◌, nat_le, nat_lt, refl, sym, ap, subst, ◌∙◌, inl, inr, arith}
use Rattle.std.proofs.lemmas.Bool.Decides.{nat_tests}
use Rattle.std.proofs.lemmas.Bool.{cases_lt, cases_Bool, cond-true, cond-false, le-leb, lt-leb, lt-ltb, le-ltb, leb-true, leb-false, and_parts, and_from, not-true, not_from_false, true≢false}
use Rattle.reader.specs.declared.numbers.Rest.{Rest}
use Rattle.reader.specs.declared.numbers.Was.{Was}
use Rattle.reader.specs.declared.numbers.Was.TheVariants.{On, Off}
use Rattle.reader.specs.declared.numbers.SteamNumbers.{SteamNumbers}
use Rattle.units.specs.SteamUnits.{was_on, was_for, after_periods, goes_to, starting}
use Rattle.units.specs.SteamRules.{before_day, all_off, start_cost, RunsFor, run_state, StateAfter}
use Rattle.units.proofs.Fairs.{FairSteam}
use Rattle.units.proofs.History.{push}

-- the last n + 1 periods were b, and the one before was not, unless n + 1 is the cap
pub record Run (h : ℕ → Bool) (b : Bool) (n cap : ℕ) : Type 0 where
  pub same : (k : ℕ) → k ≤ n → h k ≡ b
  pub short : suc n < cap → h (suc n) ≡ not b
  pub fits : n < cap

-- the run at the end of a history, up to the cap
run_to : (h : ℕ → Bool) (b : Bool) (i cap : ℕ) → 1 ≤ cap → RunsFor h b i → Run h b (min i cap - 1) cap
run_to h b i cap c r = let s = r.some in record {
  same = λ k l. r.same k (omega arith);
  short = λ l. let e : i ≡ suc (min i cap - 1) = omega arith in subst (λ k. h k ≡ not b) e r.other;
  fits = omega arith;
}

never : (b : Bool) → b ≢ not b
never true e = true≢false e
never false e = true≢false (sym e)

-- a window of b is no longer than the run
pub run_window : (h : ℕ → Bool) (b : Bool) (n cap w : ℕ) → Run h b n cap → w ≤ cap → ((k : ℕ) → k < w → h k ≡ b) → w ≤ n + 1
run_window h b n cap w r l all =
    elim (cases_lt (suc n) w) [
      | inl i ↦ absurd (never b (sym (all (suc n) i) ∙ r.short (omega arith)))
      | inr i ↦ omega arith
    ]

-- the state of an on run, and of an off run
pub record OnAt (r : SteamNumbers) (h : ℕ → Bool) (a : ℕ) : Type 0 where
  pub at : a < r.rest.up
  pub run : Run h true a r.rest.up

pub record OffAt (r : SteamNumbers) (h : ℕ → Bool) (a : ℕ) : Type 0 where
  pub at : r.rest.up ≤ a
  pub run : Run h false (a - r.rest.up) r.rest.cold

abbrev pub Tracks : SteamNumbers → (ℕ → Bool) → ℕ → Type 0
Tracks r h a = OnAt r h a ⊎ OffAt r h a

pub tracks_within : (r : SteamNumbers) (h : ℕ → Bool) (a : ℕ) → Tracks r h a → a < r.rest.up + r.rest.cold
tracks_within r h a (inl x) = let l = x.at in omega arith
tracks_within r h a (inr x) = let l = x.at in let f = x.run.fits in omega arith

cold_some : (r : SteamNumbers) → FairSteam r → 1 ≤ r.rest.cold
cold_some r f = let d = f.down in let c = f.rest in omega arith

state_tracks : (r : SteamNumbers) (f : FairSteam r) (h : ℕ → Bool) (b : Bool) (i : ℕ) → RunsFor h b i → Tracks r h (run_state r.rest b i)
state_tracks r f h true i x = let u = f.up in let s = x.some in inl (record { at = omega arith; run = run_to h true i r.rest.up u x })
state_tracks r f h false i x =
    let c = cold_some r f in
    let s = x.some in
    let e : min i r.rest.cold - 1 ≡ r.rest.up + min i r.rest.cold - 1 - r.rest.up = omega arith in
    inr (record { at = omega arith; run = subst (λ n. Run h false n r.rest.cold) e (run_to h false i r.rest.cold c x) })

pub tracks_of : (r : SteamNumbers) (f : FairSteam r) (h : ℕ → Bool) (a : ℕ) → StateAfter r.rest h a → Tracks r h a
tracks_of r f h a x = subst (Tracks r h) (sym x.is) (state_tracks r f h x.on x.periods x.run)

-- one period more
on_same : (h : ℕ → Bool) (b : Bool) (i : ℕ) → ((k : ℕ) → k < i → h k ≡ b) → (k : ℕ) → k < suc i → push b h k ≡ b
on_same h b i s zero l = refl
on_same h b i s (suc k) l = s k (omega arith)

new_same : (h : ℕ → Bool) (b : Bool) (k : ℕ) → k < 1 → push b h k ≡ b
new_same h b zero l = refl
new_same h b (suc k) l = absurd (omega arith)

run_on : (h : ℕ → Bool) (b : Bool) (i : ℕ) → RunsFor h b i → RunsFor (push b h) b (suc i)
run_on h b i r = record { some = omega arith; same = on_same h b i r.same; other = r.other }

run_new : (h : ℕ → Bool) (b : Bool) (i : ℕ) → RunsFor h (not b) i → RunsFor (push b h) b 1
run_new h b i r = let s = r.some in record { some = omega arith; same = new_same h b; other = r.same 0 (omega arith) }

state_next : (r : SteamNumbers) (f : FairSteam r) (h : ℕ → Bool) (b s : Bool) (i : ℕ) → RunsFor h b i → StateAfter r.rest (push s h) (goes_to r.rest (run_state r.rest b i) s)
state_next r f h true true i x = let u = f.up in let n = x.some in record { on = true; periods = suc i; run = run_on h true i x; is = grind (arith, nat_tests) }
state_next r f h false true i x = let u = f.up in let c = cold_some r f in let n = x.some in record { on = true; periods = 1; run = run_new h true i x; is = grind (arith, nat_tests) }
state_next r f h true false i x = let u = f.up in let c = cold_some r f in let n = x.some in record { on = false; periods = 1; run = run_new h false i x; is = grind (arith, nat_tests) }
state_next r f h false false i x = let u = f.up in let c = cold_some r f in let n = x.some in record { on = false; periods = suc i; run = run_on h false i x; is = grind (arith, nat_tests) }

-- the state after tells the history after
pub state_more : (r : SteamNumbers) (f : FairSteam r) (h : ℕ → Bool) (a : ℕ) (s : Bool) → StateAfter r.rest h a → StateAfter r.rest (push s h) (goes_to r.rest a s)
state_more r f h a s x = subst (λ z. StateAfter r.rest (push s h) (goes_to r.rest z s)) (sym x.is) (state_next r f h x.on s x.periods x.run)

-- the run that stands before the day
run_at : (b : Bool) (m : ℕ) → 1 ≤ m → RunsFor (λ k. cond (nat_le (suc k) m) b (not b)) b m
run_at b m i = record {
  some = i;
  same = λ k l. cond-true (nat_le (suc k) m) b (not b) (le-leb (suc k) m (omega arith));
  other = cond-false (nat_le (suc m) m) b (not b) (lt-leb (suc m) m (omega arith));
}

run_before : (w : Was) → 1 ≤ was_for w → RunsFor (before_day w) (was_on w) (was_for w)
run_before (On m) i = run_at true m i
run_before (Off m) i = run_at false m i

same_state : (r : Rest) (b : Bool) (m : ℕ) → after_periods r b m ≡ run_state r b m
same_state r true m = refl
same_state r false m = refl

pub state_first : (r : SteamNumbers) (f : FairSteam r) → StateAfter r.rest (before_day r.was) (after_periods r.rest (was_on r.was) (was_for r.was))
state_first r f = record { on = was_on r.was; periods = was_for r.was; run = run_before r.was f.since; is = same_state r.rest (was_on r.was) (was_for r.was) }

-- a window of off periods, as a test
all_off_true : (was : ℕ → Bool) (n : ℕ) → all_off was n ≡ true → (k : ℕ) → k < n → was (suc k) ≡ false
all_off_true was zero e k l = absurd (omega arith)
all_off_true was (suc n) e k l =
    let p = and_parts (not (was (suc n))) (all_off was n) e in
    elim (cases_lt k n) [
      | inl i ↦ all_off_true was n p.1 k i
      | inr i ↦ let s : n ≡ k = omega arith in subst (λ j. was (suc j) ≡ false) s (not-true (was (suc n)) p.0)
    ]

all_off_from : (was : ℕ → Bool) (n : ℕ) → ((k : ℕ) → k < n → was (suc k) ≡ false) → all_off was n ≡ true
all_off_from was zero h = refl
all_off_from was (suc n) h = and_from (not (was (suc n))) (all_off was n) (not_from_false (was (suc n)) (h n (omega arith))) (all_off_from was n (λ k l. h k (omega arith)))

pub all_off_run : (h : ℕ → Bool) (s : Bool) (n cap : ℕ) → Run h false n cap → nat_le cap (n + 1) ≡ all_off (push s h) cap
all_off_run h s n cap r =
    elim (cases_Bool (nat_le cap (n + 1))) [
      | inl y ↦ let l = leb-true cap (n + 1) y in y ∙ sym (all_off_from (push s h) cap (λ k i. r.same k (omega arith)))
      | inr x ↦ let l = leb-false cap (n + 1) x in
          elim (cases_Bool (all_off (push s h) cap)) [
            | inl y ↦ let w = run_window h false n cap cap r (omega arith) (all_off_true (push s h) cap y) in absurd (omega arith)
            | inr z ↦ x ∙ sym z
          ]
    ]

pub same_start : (r : SteamNumbers) (h : ℕ → Bool) (s : Bool) (a : ℕ) → Tracks r h a → starting r a ≡ start_cost r (push s h)
same_start r h s a (inl x) =
    cond-true (nat_lt a r.rest.up) 0 _ (lt-ltb a r.rest.up x.at) ∙ sym (cond-true (h 0) 0 _ (x.run.same 0 (omega arith)))
same_start r h s a (inr x) =
    let l = x.at in
    let e : a + 1 - r.rest.up ≡ a - r.rest.up + 1 = omega arith in
    cond-false (nat_lt a r.rest.up) 0 _ (le-ltb a r.rest.up x.at)
    ∙ ap (λ b. cond b r.start.frost r.start.hot) (ap (nat_le r.rest.cold) e ∙ all_off_run h s (a - r.rest.up) r.rest.cold x.run)
    ∙ sym (cond-false (h 0) 0 _ (x.run.same 0 (omega arith)))
