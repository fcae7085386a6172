-- A steam unit is sound, and its schedules are those that obey the rule. Assumes nothing.
use Rattle.std.proofs.Common.{◌≡◌, ℕ, zero, suc, ◌+◌, ◌-◌, ◌<◌, ◌≤◌, Bool, true, false, ◌&&◌, ℤ, pos, ◌+ℤ◌, ◌≤ℤ◌, Some, ◌==◌, nat_le, nat_lt, unsigned_abs, refl, sym, ap, subst, ◌∙◌, inl, inr, arith}
use Rattle.std.proofs.lemmas.Int.{ints}
use Rattle.std.proofs.lemmas.Bool.Decides.{nat_tests}
use Rattle.std.proofs.lemmas.Bool.{cond-true, cond-false, le-leb, leb-true, lt-ltb, le-ltb, eq-eqb, eqb-true, and_parts, and_from, true≢false, false≢true, both_ways}
use Rattle.terms.specs.Numbers.{Near}
use Rattle.terms.proofs.Bounds.{near_zero, near_pos, near_add, near_more, near_abs, near_between}
use Rattle.fleet.specs.Units.{SoundArc, among}
use Rattle.fleet.proofs.Arcs.{among_low, among_high, among_from}
use Rattle.reader.specs.declared.numbers.SteamNumbers.{SteamNumbers}
use Rattle.units.specs.Fill.{fill}
use Rattle.units.specs.Links.{model_of}
use Rattle.units.specs.SteamUnits.{is_on, goes_to, may, steam_linked, steam_outputs, starting, steam_charge, steam_links}
use Rattle.units.specs.SteamRules.{runs, before_day, Period, period_cost, SteamObeys, StateAfter, SteamIn, steam_cost, SteamRule}
use Rattle.units.proofs.Fairs.{FairSteam}
use Rattle.units.proofs.Fills.{fill_small}
use Rattle.units.specs.Agree.{Agrees}
use Rattle.units.proofs.KindFacts.{of_open_kind}
use Rattle.units.proofs.Follow.{Told, told_cost, past, Tracking, Moves, Moved, follows, reworded}
use Rattle.units.proofs.SoundLinks.{SoundLinks}
use Rattle.units.proofs.History.{push, story, to_each, from_each, same_total, past_history}
use Rattle.units.proofs.Track.{Tracks, tracks_within, tracks_of, state_more, state_first, run_window, same_start}

-- an output of the arcs into on, or off, states is on, or off
runs_as : (n : SteamNumbers) (f : FairSteam n) (s : Bool) (q : ℤ) → among (steam_outputs n.run s) q ≡ true → runs q ≡ s
runs_as n f true q h = let l = f.run.lo in let g = among_low (steam_outputs n.run true) q h in grind (arith, ints)
runs_as n f false q h = let g = among_low (steam_outputs n.run false) q h in let k = among_high (steam_outputs n.run false) q h in grind (arith, ints)

goes_class : (n : SteamNumbers) (f : FairSteam n) (a : ℕ) (s : Bool) → is_on n.rest (goes_to n.rest a s) ≡ s
goes_class n f a true = let u = f.up in grind (arith, nat_tests)
goes_class n f a false = grind (arith, nat_tests)

goes_within : (n : SteamNumbers) (f : FairSteam n) (a : ℕ) (s : Bool) → goes_to n.rest a s < n.rest.up + n.rest.cold
goes_within n f a true = let u = f.up in grind (arith, nat_tests)
goes_within n f a false = let d = f.down in let e = f.rest in grind (arith, nat_tests)

zero_only : (q : ℤ) → pos 0 ≤ℤ q → q ≤ℤ pos 0 → q ≡ pos 0
zero_only q h k = omega (arith, ints)

window : (h : ℕ → Bool) (s b : Bool) (w n : ℕ) → ((k : ℕ) → k ≤ n → h k ≡ b) → w ≤ n + 1 → (k : ℕ) → 1 ≤ k → k ≤ w → push s h k ≡ b
window h s b w n same l zero i j = absurd (omega arith)
window h s b w n same l (suc k) i j = same k (omega arith)

-- what the state allows obeys the rule
period_from : (n : SteamNumbers) (h : ℕ → Bool) (a : ℕ) (q : ℤ) (s : Bool) → Tracks n h a → may n.rest a s ≡ true → among (steam_outputs n.run s) q ≡ true → Period n (push s h) q
period_from n h a q true (inl x) m o = record {
  on = λ _. (among_low (steam_outputs n.run true) q o, among_high (steam_outputs n.run true) q o);
  off = λ e. absurd (true≢false e);
  stops = λ e. absurd (true≢false e);
  starts = λ _ e. absurd (both_ways (h 0) e (x.run.same 0 (omega arith)));
}
period_from n h a q true (inr x) m o =
    let u = x.at in
    let d = leb-true n.rest.down (a + 1 - n.rest.up) (sym (cond-false (nat_lt a n.rest.up) true (nat_le n.rest.down (a + 1 - n.rest.up)) (le-ltb a n.rest.up u)) ∙ m) in
    record {
      on = λ _. (among_low (steam_outputs n.run true) q o, among_high (steam_outputs n.run true) q o);
      off = λ e. absurd (true≢false e);
      stops = λ e. absurd (true≢false e);
      starts = λ _ _. window h true false n.rest.down (a - n.rest.up) x.run.same (omega arith);
    }
period_from n h a q false (inl x) m o =
    let d = eqb-true (a + 1) n.rest.up (sym (cond-true (nat_lt a n.rest.up) (a + 1 == n.rest.up) true (lt-ltb a n.rest.up x.at)) ∙ m) in
    record {
      on = λ e. absurd (false≢true e);
      off = λ _. zero_only q (among_low (steam_outputs n.run false) q o) (among_high (steam_outputs n.run false) q o);
      stops = λ _ _. window h false true n.rest.up a x.run.same (omega arith);
      starts = λ e. absurd (false≢true e);
    }
period_from n h a q false (inr x) m o = record {
  on = λ e. absurd (false≢true e);
  off = λ _. zero_only q (among_low (steam_outputs n.run false) q o) (among_high (steam_outputs n.run false) q o);
  stops = λ _ e. absurd (both_ways (h 0) (x.run.same 0 (omega arith)) e);
  starts = λ e. absurd (false≢true e);
}

off_output : (n : SteamNumbers) (q : ℤ) → q ≡ pos 0 → among (steam_outputs n.run false) q ≡ true
off_output n q e = among_from (steam_outputs n.run false) q (omega (arith, ints)) (omega (arith, ints))

outputs_of_period : (n : SteamNumbers) (h : ℕ → Bool) (q : ℤ) (s : Bool) → Period n (push s h) q → among (steam_outputs n.run s) q ≡ true
outputs_of_period n h q true p = let o = p.on refl in among_from (steam_outputs n.run true) q o.0 o.1
outputs_of_period n h q false p = off_output n q (p.off refl)

-- and what obeys the rule, the state allows
may_from : (n : SteamNumbers) (f : FairSteam n) (h : ℕ → Bool) (a : ℕ) (q : ℤ) (s : Bool) → Tracks n h a → Period n (push s h) q → may n.rest a s ≡ true
may_from n f h a q true (inl x) p = cond-true (nat_lt a n.rest.up) true _ (lt-ltb a n.rest.up x.at)
may_from n f h a q true (inr x) p =
    let u = x.at in
    let w = run_window h false (a - n.rest.up) n.rest.cold n.rest.down x.run f.rest (λ k l. p.starts refl (x.run.same 0 (omega arith)) (suc k) (omega arith) l) in
    cond-false (nat_lt a n.rest.up) true _ (le-ltb a n.rest.up x.at) ∙ le-leb n.rest.down (a + 1 - n.rest.up) (omega arith)
may_from n f h a q false (inl x) p =
    let u = x.at in
    let w = run_window h true a n.rest.up n.rest.up x.run (omega arith) (λ k l. p.stops refl (x.run.same 0 (omega arith)) (suc k) (omega arith) l) in
    cond-true (nat_lt a n.rest.up) _ true (lt-ltb a n.rest.up x.at) ∙ eq-eqb (a + 1) n.rest.up (omega arith)
may_from n f h a q false (inr x) p = cond-false (nat_lt a n.rest.up) _ true (le-ltb a n.rest.up x.at)

same_cost : (n : SteamNumbers) (h : ℕ → Bool) (a : ℕ) (q : ℤ) (s : Bool) → Tracks n h a → steam_charge n a (unsigned_abs q) s ≡ period_cost n (push s h) q
same_cost n h a q true x = ap (λ z. pos (n.idle + z) +ℤ fill n.steps.places (unsigned_abs q)) (same_start n h true a x)
same_cost n h a q false x = refl

abbrev go : SteamNumbers → ℕ → ℤ → ℕ
go n a q = goes_to n.rest a (runs q)

moves : (n : SteamNumbers) (f : FairSteam n) (a b : ℕ) (h : ℕ → Bool) (q : ℤ) → Tracks n h a → steam_linked n.rest a b ≡ true → among (steam_outputs n.run (is_on n.rest b)) q ≡ true → Moves (steam_links n) (story n) (go n) h a b q
moves n f a b h q x y o =
    let p = and_parts (b == goes_to n.rest a (is_on n.rest b)) _ y in
    let s : is_on n.rest b ≡ runs q = sym (runs_as n f (is_on n.rest b) q o) in
    record {
      to = subst (λ z. b ≡ goes_to n.rest a z) s (eqb-true b _ p.0);
      keeps = period_from n h a q (runs q) x (subst (λ z. may n.rest a z ≡ true) s p.1) (subst (λ z. among (steam_outputs n.run z) q ≡ true) s o);
      price = ap (steam_charge n a (unsigned_abs q)) s ∙ same_cost n h a q (runs q) x;
    }

linked_from : (n : SteamNumbers) (f : FairSteam n) (a : ℕ) (s : Bool) → may n.rest a s ≡ true → steam_linked n.rest a (goes_to n.rest a s) ≡ true
linked_from n f a s m =
    subst (λ z. (goes_to n.rest a s == goes_to n.rest a z && may n.rest a z) ≡ true) (sym (goes_class n f a s))
    (and_from _ _ (eq-eqb (goes_to n.rest a s) (goes_to n.rest a s) refl) m)

moved : (n : SteamNumbers) (f : FairSteam n) (a : ℕ) (h : ℕ → Bool) (q : ℤ) → Tracks n h a → Period n (push (runs q) h) q → Moved (steam_links n) (go n) a q
moved n f a h q x k = record {
  within = goes_within n f a (runs q);
  linked = linked_from n f a (runs q) (may_from n f h a q (runs q) x k);
  among = subst (λ z. among (steam_outputs n.run z) q ≡ true) (sym (goes_class n f a (runs q))) (outputs_of_period n h q (runs q) k);
}

tracking : (n : SteamNumbers) → FairSteam n → Tracking (steam_links n) (story n) (go n) (StateAfter n.rest)
tracking n f = record {
  within = λ a h x. tracks_within n h a (tracks_of n f h a x);
  moves = λ a b h q x l y o. moves n f a b h q (tracks_of n f h a x) y o;
  moved = λ a h q x k. moved n f a h q (tracks_of n f h a x) k;
  next = λ a h q x k. state_more n f h a (runs q) x;
  ends = λ a h x e. tt;
  ended = λ a h x e. refl;
}

steam_agrees : (n : SteamNumbers) → FairSteam n → Agrees (model_of (steam_links n)) (SteamObeys n) (SteamIn n) (steam_cost n)
steam_agrees n f =
    let h = before_day n.was in
    reworded (model_of (steam_links n)) (Told (story n) h) (SteamObeys n) (λ qs t a. StateAfter n.rest (past (story n) h qs t) a) (SteamIn n) (told_cost (story n) h) (steam_cost n) (from_each n h) (to_each n h) (λ qs t a l. subst (λ w. StateAfter n.rest w a) (past_history n h qs t l)) (λ qs. sym (same_total n h qs))
    (follows (steam_links n) (story n) (go n) (StateAfter n.rest) (tracking n f) h (state_first n f))

pub steam_stands : (n : SteamNumbers) → FairSteam n → SteamRule n
steam_stands n f = (of_open_kind (steam_links n) (SteamObeys n) (SteamIn n) (steam_cost n) (λ a. refl) (steam_agrees n f), λ w. record { number = refl; arcs = λ t a b. refl; costs = λ t a b x. refl; ends = λ a. refl })

-- bounds --

pub starting_few : (n : SteamNumbers) (f : FairSteam n) (a : ℕ) → starting n a ≤ 100000000
starting_few n f a = let h = f.hot in let g = f.frost in grind (arith, nat_tests)

charge_near : (n : SteamNumbers) (f : FairSteam n) (a q : ℕ) (s : Bool) → q ≤ 500 → Near 500000000 (steam_charge n a q s)
charge_near n f a q true l =
    let i = f.idle in
    let s = starting_few n f a in
    near_more 450000000 500000000 (steam_charge n a q true) (omega arith)
    (near_add 200000000 250000000 (pos (n.idle + starting n a)) (fill n.steps.places q) (near_pos 200000000 (n.idle + starting n a) (omega arith)) (fill_small n.steps.places q l f.steps))
charge_near n f a q false l = near_zero 500000000

sound_outputs : (n : SteamNumbers) (f : FairSteam n) (s : Bool) → SoundArc (Some (steam_outputs n.run s))
sound_outputs n f true = let o = f.run.order in let h = f.run.hi in (near_pos 500 n.run.lo (omega arith), near_pos 500 n.run.hi h, omega (arith, ints))
sound_outputs n f false = (near_zero 500, near_zero 500, omega (arith, ints))

output_near : (n : SteamNumbers) (f : FairSteam n) (s : Bool) (q : ℤ) → among (steam_outputs n.run s) q ≡ true → Near 500 q
output_near n f s q o = let b = sound_outputs n f s in near_between 500 _ _ q b.0 b.1 (among_low (steam_outputs n.run s) q o) (among_high (steam_outputs n.run s) q o)

pub steam_sound : (n : SteamNumbers) → FairSteam n → SoundLinks (steam_links n)
steam_sound n f =
    let u = f.up in
    let m = f.few_up in
    let c = f.few_cold in
    record {
      some_state = omega arith;
      few_states = omega arith;
      starts = tracks_within n _ _ (tracks_of n f _ _ (state_first n f));
      outputs = λ a b i j y. sound_outputs n f (is_on n.rest b);
      costs = λ a b q i j y o. charge_near n f a (unsigned_abs q) (is_on n.rest b) (near_abs 500 q (output_near n f (is_on n.rest b) q o));
    }
