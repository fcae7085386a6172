-- No list of calls leads to a number that signed 64 bits do not hold. Assumes nothing.
use Rattle.std.proofs.Common.{◌≡◌, ℕ, zero, suc, ◌+◌, ◌-◌, ◌*◌, ◌<◌, ◌≤◌, Bool, true, false, cond, not, ◌&&◌, eqb, ltb, leb, ◌⊎◌, List, [], ◌∷◌, length, ℤ, pos, ◌+ℤ◌, ◌*ℤ◌, ◌≤ℤ◌, Some, None, Option, sym, ap, ◌∙◌, subst, inl, inr, ⊎_elim, mul-le-mul, arith}
use Rattle.std.proofs.lemmas.Int.{ints}
use Rattle.std.proofs.ByRecursion.{All-weaker}
use Rattle.std.proofs.lemmas.List.{get_or_past}
use Rattle.std.proofs.lemmas.Bool.{cases_lt}
use Rattle.std.specs.List.{prefix_len, AllByRecursion}
use Rattle.terms.specs.Numbers.{Near, near}
use Rattle.terms.specs.Sums.{sum_to, sum_of}
use Rattle.terms.proofs.Ints.{mul_leℤ}
use Rattle.terms.proofs.Bounds.{near_zero, near_pos, near_more, near_add, near_sub, near_mul}
use Rattle.terms.proofs.Sums.{sum_to_same}
use Rattle.terms.proofs.Places.{only_at, by_place}
use Rattle.terms.specs.declared.entry.Entry.{Entry}
use Rattle.fleet.specs.Units.{Meaning, UnitModel, Sound, SoundUnit}
use Rattle.fleet.specs.Schedules.{Prices, Allowed, AllowedFrom, gain_of, lots_of}
use Rattle.fleet.specs.Rows.{Fault, SoundPrices, row_fault}
use Rattle.fleet.specs.Gains.{IsBest, Supply, best_gain}
use Rattle.fleet.specs.Uplifts.{best, or_zero, pay_of}
use Rattle.fleet.proofs.Arcs.{arc_within, holds_near}
use Rattle.fleet.proofs.RowFacts.{Priced}
use Rattle.fleet.proofs.GainBounds.{gain_near, best_near}
use Rattle.fleet.proofs.BestGains.{best_gain_law}
use Rattle.settlement.specs.Ledger.{Ledger, Call, need, price, run, mix, supply, show, judge, is_blank, is_needed, is_priced, has, weighs, bad_at, check, allow, held_back, ledger}
use Rattle.settlement.specs.Evidence.{run_of, gap_at, uplift_at}
use Rattle.settlement.specs.Reasons.{Beyond, wrong, JudgeBeyond, Never31Law}
use Rattle.settlement.proofs.Ledgers.{Kept, kept, check_passed, allow_passed, bad_none, some_none}
use Rattle.settlement.proofs.Duality.{weighs_is, ran_schedule, gap_nonneg}

-- what holds a call back has a number of at most 30 --

-- a record, so that its option is found
record Low (o : Option Fault) : Type 0 where
  low : (f : Fault) → o ≡ Some f → f.number ≤ 30

low_none : Low None
low_none = record { low = λ f e. some_none f (sym e) }

low_some : (n p : ℕ) → n ≤ 30 → Low (Some (record { number = n; place = p }))
low_some n p h = record { low = λ f e. let is : ◌≡◌ {A = Fault} (record { number = n; place = p }) f = cc in let same : n ≡ f.number = ap (λ (g : Fault). g.number) is in omega arith }

low_cond : (b : Bool) (x y : Option Fault) → Low x → Low y → Low (cond b x y)
low_cond true x y h k = h
low_cond false x y h k = k

low_check : (ok : Bool) (n p : ℕ) (o : Option Fault) → n ≤ 30 → Low o → Low (check ok n p o)
low_check ok n p o h k = low_cond ok o _ k (low_some n p h)

low_allow : (b : Option ℕ) (o : Option Fault) → Low o → Low (allow b o)
low_allow None o h = h
low_allow (Some t) o h = low_some 27 t (omega arith)

low_row : (T m : ℕ) (xs : List ℤ) (o : Option Fault) → Low o → Low (row_fault T m xs o)
low_row T m xs o h = low_cond (eqb (length xs) T) _ _ (low_cond (ltb (prefix_len (near m) xs) (length xs)) _ _ (low_some 23 _ (omega arith)) h) (low_some 22 0 (omega arith))

low_held : (m : Meaning) (T W : ℕ) (l : Ledger) (c : Call) → Low (held_back m T W l c)
low_held m T W l (need xs) = low_check (is_blank l.stage) 21 0 _ (omega arith) (low_row T 32000 xs None low_none)
low_held m T W l (price d ns) = low_check (is_needed l.stage) 21 0 _ (omega arith) (low_row T 1000000000 ns _ (low_cond (leb 1 d && leb d 1000) None _ low_none (low_some 23 T (omega arith))))
low_held m T W l (run u es slots) =
    low_check (is_priced l.stage) 21 u _ (omega arith)
    (low_check (ltb u m.units) 24 u _ (omega arith)
    (low_check (not (has (l.runs u))) 25 u _ (omega arith)
    (low_check (eqb (length es) T) 26 u _ (omega arith)
    (low_allow (bad_at (m.model u) es) _
    (low_check (leb 3920 slots) 30 u None (omega arith) low_none)))))
low_held m T W l (mix u w es) =
    low_check (is_priced l.stage) 21 u _ (omega arith)
    (low_check (ltb u m.units) 24 u _ (omega arith)
    (low_check (eqb (length es) T) 26 u _ (omega arith)
    (low_allow (bad_at (m.model u) es) _
    (low_check (has (l.runs u)) 28 u _ (omega arith)
    (low_check (leb 1 w && leb w (W - weighs u l.mixes)) 29 u None (omega arith) low_none)))))
low_held m T W l (supply u fewer more) =
    low_check (is_priced l.stage) 21 u _ (omega arith)
    (low_check (ltb u m.units) 24 u _ (omega arith)
    (low_check (leb 3920 fewer && leb 3920 more) 30 u None (omega arith) low_none))
low_held m T W l (show u slots room) =
    low_check (is_priced l.stage) 21 u _ (omega arith)
    (low_check (ltb u m.units) 24 u _ (omega arith)
    (low_check (leb 3920 slots && leb T room) 30 u None (omega arith) low_none))
low_held m T W l (judge room) =
    low_check (is_priced l.stage) 21 0 _ (omega arith)
    (low_check (leb m.units room) 30 0 None (omega arith) low_none)

-- bounds --

pub held_64 : (n : ℕ) (z : ℤ) → n ≤ 9223372036854775807 → Near n z → Beyond z → ⊥
held_64 n z le h (inl b) = omega (arith, ints)
held_64 n z le h (inr b) = omega (arith, ints)

sum_to_near : (n b : ℕ) (f : ℕ → ℤ) → ((i : ℕ) → i < n → Near b (f i)) → Near (n * b) (sum_to n f)
sum_to_near zero b f h = near_zero (0 * b)
sum_to_near (suc n) b f h = near_more (n * b + b) (suc n * b) (sum_to n f +ℤ f n) (omega arith) (near_add (n * b) b (sum_to n f) (f n) (sum_to_near n b f (λ i lt. h i (omega arith))) (h n (omega arith)))

sum_of_le : {X : Type 0} (f g : X → ℤ) (xs : List X) → AllByRecursion (λ x. f x ≤ℤ g x) xs → sum_of f xs ≤ℤ sum_of g xs
sum_of_le f g [] h = omega (arith, ints)
sum_of_le f g (x ∷ xs) (h, hs) = let r = sum_of_le f g xs hs in omega (arith, ints, h, r)

many : (n b k : ℕ) → n ≤ k → n * b ≤ k * b
many n b k h = mul-le-mul h (omega arith)

-- a row that passed its check
pub sound_priced : (T : ℕ) (r : Prices) → SoundPrices T r.over r.numerators → Priced r
sound_priced T r s = record {
  few = s.high;
  each = λ t.
      ⊎_elim
      (λ lt. s.bounded.each t lt)
      (λ le. let long = s.bounded.long in subst (Near 1000000000) (sym (get_or_past r.numerators t (pos 0) (omega arith))) (near_zero 1000000000))
      (cases_lt t T);
}

module _ (p : UnitModel) (sp : SoundUnit p) where
  lots_from : (room t a : ℕ) (es : List Entry) → t + room ≡ 48 → AllowedFrom p t a es → Near (room * 500) (lots_of es)
  lots_from room t a [] end h = near_zero (room * 500)
  lots_from zero t a (e ∷ es) end h = let lt = arc_within p sp t a e.state e.output h.0 in absurd (omega arith)
  lots_from (suc room) t a (e ∷ es) end h =
      near_more (500 + room * 500) (suc room * 500) (e.output +ℤ lots_of es) (omega arith)
      (near_add 500 (room * 500) e.output (lots_of es) (holds_near (p.arc t a e.state) e.output (sp.arcs t a e.state) h.0) (lots_from room (t + 1) e.state es (omega arith) h.1))

  pub lots_near : (es : List Entry) → Allowed p es → Near 24000 (lots_of es)
  lots_near es h = lots_from 48 0 p.start es (omega arith) h

  -- also where no schedule is allowed
  pub best_within : (T : ℕ) (r : Prices) → Priced r → Near 48000000000000 (best p T r)
  best_within T r pr = by (best_gain p T r) (best_gain_law p sp T r)
    where
      by : (o : Option ℤ) → IsBest p T r o → Near 48000000000000 (or_zero o)
      by None h = near_zero 48000000000000
      by (Some g) h = best_near p sp T r pr g h

  pub pay_near : (T : ℕ) (r : Prices) → Priced r → (es : List Entry) → Allowed p es → Near 96000000000000 (pay_of p T r es)
  pay_near T r pr es h = near_sub 48000000000000 48000000000000 (best p T r) (gain_of p r es) (best_within T r pr) (gain_near p sp r pr es h)

  pub supply_held : (T : ℕ) (r : Prices) → Priced r → (s : ℤ × ℤ × ℤ) → Supply p T r s → Beyond s.0 ⊎ (Beyond s.1 ⊎ Beyond s.2) → ⊥
  supply_held T r pr s h b =
      ⊎_elim
      (λ g. held_64 48000000000000 s.0 (omega arith) (best_near p sp T r pr s.0 h.best) g)
      (λ q.
      ⊎_elim
      (λ f. held_64 24000 s.1 (omega arith) (subst (Near 24000) h.few_lots (lots_near h.few h.few_gains.scheduled.allowed)) f)
      (λ f. held_64 24000 s.2 (omega arith) (subst (Near 24000) h.many_lots (lots_near h.many h.many_gains.scheduled.allowed)) f)
      q)
      b

-- the numbers of other reasons
clash : (f : Fault) (n : ℕ) → f.number ≡ 31 → f.number ≡ n → 31 < n → ⊥
clash f n e h lt = omega arith

module _ (m : Meaning) (sound : Sound m) (T W : ℕ) (few : W ≤ 1000) (l : Ledger) (k : Kept m T W l) where
  there : is_priced l.stage ≡ true → Priced l.prices
  there e = sound_priced T l.prices (k.sound_prices e)

  -- what a unit's mixes can lack together
  unit_near : (u : ℕ) → Near 96000000000000000 (pos (weighs u l.mixes) *ℤ pos 96000000000000)
  unit_near u = let light = k.light u in near_mul 1000 96000000000000 (pos (weighs u l.mixes)) (pos 96000000000000) (near_pos 1000 (weighs u l.mixes) (omega arith)) (near_pos 96000000000000 96000000000000 (omega arith))

  pub gap_near : Priced l.prices → Near 6144000000000000000 (gap_at m T l.prices l)
  gap_near pr =
      let low = gap_nonneg m sound T W l k l.prices in
      let terms = All-weaker _ (λ x. (pos x.weight *ℤ pay_of (m.model x.unit) T l.prices x.schedule) ≤ℤ (pos x.weight *ℤ pos 96000000000000)) (λ x h. mul_leℤ x.weight (pay_of (m.model x.unit) T l.prices x.schedule) (pos 96000000000000) (pay_near (m.model x.unit) (sound.each x.unit) T l.prices pr x.schedule h.1.allowed).high) l.mixes k.mixed in
      let all = sum_of_le (λ x. pos x.weight *ℤ pay_of (m.model x.unit) T l.prices x.schedule) (λ x. pos x.weight *ℤ pos 96000000000000) l.mixes terms in
      let known = All-weaker _ (λ x. x.unit < m.units) (λ x h. h.0) l.mixes k.mixed in
      let placed = by_place m.units (λ x. x.unit) (λ x. pos x.weight) (λ _. pos 96000000000000) l.mixes known in
      let same = sum_to_same m.units (λ i. sum_of (λ x. only_at x.unit (pos x.weight) i) l.mixes *ℤ pos 96000000000000) (λ i. pos (weighs i l.mixes) *ℤ pos 96000000000000) (λ i lt. ap (λ z. z *ℤ pos 96000000000000) (weighs_is i l.mixes)) in
      let sum = near_more (m.units * 96000000000000000) 6144000000000000000 (sum_to m.units (λ i. pos (weighs i l.mixes) *ℤ pos 96000000000000)) (many m.units 96000000000000000 64 sound.few) (sum_to_near m.units 96000000000000000 (λ i. pos (weighs i l.mixes) *ℤ pos 96000000000000) (λ i lt. unit_near i)) in
      within (gap_at m T l.prices l) _ _ low all (sym placed ∙ same) sum
    where
      within : (g s z : ℤ) → pos 0 ≤ℤ g → g ≤ℤ s → s ≡ z → Near 6144000000000000000 z → Near 6144000000000000000 g
      within g s z low le e h = record { low = omega (arith, ints); high = omega (arith, ints) }

  pub judge_held : Priced l.prices → JudgeBeyond m T W l → ⊥
  judge_held pr (inl h) = held_64 96000000000000 _ (omega arith) (pay_near (m.model h.0) (sound.each h.0) T l.prices pr (run_of l h.0) (ran_schedule m sound T W l k h.0 h.2).allowed) h.3
  judge_held pr (inr (inl h)) = held_64 6144000000000000000 (gap_at m T l.prices l) (omega arith) (gap_near pr) h
  judge_held pr (inr (inr h)) =
      held_64 6144000000000000 (uplift_at m T l.prices l) (omega arith)
      (near_more (m.units * 96000000000000) 6144000000000000 (uplift_at m T l.prices l) (many m.units 96000000000000 64 sound.few)
      (sum_to_near m.units 96000000000000 (λ u. pay_of (m.model u) T l.prices (run_of l u)) (λ u lt. pay_near (m.model u) (sound.each u) T l.prices pr (run_of l u) (ran_schedule m sound T W l k u (h.0 u lt)).allowed)))
      h.1

  not_wrong : (c : Call) (f : Fault) → held_back m T W l c ≡ None → wrong m T W l c f → f.number ≡ 31 → ⊥
  not_wrong (need xs) f e w n = w
  not_wrong (price d ns) f e w n = w
  not_wrong (run u es slots) f e w n =
      let p = check_passed (is_priced l.stage) 21 u _ e in
      let q = check_passed (ltb u m.units) 24 u _ p.1 in
      let r = check_passed (not (has (l.runs u))) 25 u _ q.1 in
      let s = check_passed (eqb (length es) T) 26 u _ r.1 in
      let a = allow_passed (bad_at (m.model u) es) _ s.1 in
      ⊎_elim
      (λ h. ⊎_elim
      (λ b. held_64 48000000000000 (gain_of (m.model u) l.prices es) (omega arith) (gain_near (m.model u) (sound.each u) l.prices (there p.0) es (bad_none (m.model u) es a.0)) b)
      (λ b. held_64 48000000000000 (best (m.model u) T l.prices) (omega arith) (best_within (m.model u) (sound.each u) T l.prices (there p.0)) b)
      h.1.1)
      (λ h. h.1)
      w
  not_wrong (mix u w es) f e x n = x
  not_wrong (supply u fewer more) f e w n =
      let p = check_passed (is_priced l.stage) 21 u _ e in
      ⊎_elim
      (λ h. let s = h.1.1 in supply_held (m.model u) (sound.each u) T l.prices (there p.0) s.0 s.1 s.2)
      (λ h. ⊎_elim (λ i. clash f 32 n i.0 (omega arith)) (λ i. i.1) h.1)
      w
  not_wrong (show u slots room) f e w n =
      let p = check_passed (is_priced l.stage) 21 u _ e in
      ⊎_elim
      (λ h. held_64 48000000000000 (best (m.model u) T l.prices) (omega arith) (best_within (m.model u) (sound.each u) T l.prices (there p.0)) h.1.1)
      (λ h. ⊎_elim (λ i. clash f 32 n i.0 (omega arith)) (λ i. i.1) h.1)
      w
  not_wrong (judge room) f e w n =
      let p = check_passed (is_priced l.stage) 21 0 _ e in
      ⊎_elim
      (λ h. judge_held (there p.0) h.1.1)
      (λ h. ⊎_elim (λ i. clash f 41 n i.0 (omega arith)) (λ i. ⊎_elim (λ j. clash f 42 n j.0 (omega arith)) (λ j. ⊎_elim (λ a. clash f 43 n a.0 (omega arith)) (λ a. ⊎_elim (λ b. clash f 44 n b.0 (omega arith)) (λ b. b.1) a.1) j.1) i.1) h.1)
      w

pub never_31 : Never31Law
never_31 m sound T W few cs c f (inl h) n = let low = (low_held m T W (ledger m T W cs) c).low f h in omega arith
never_31 m sound T W few cs c f (inr h) n = not_wrong m sound T W few (ledger m T W cs) (kept m T W cs) c f h.0 h.1 n
