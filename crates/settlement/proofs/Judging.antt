-- What judge finds on a sheet is what the ledger says. Assumes nothing.
use Rattle.std.proofs.Common.{◌≡◌, ℕ, zero, suc, ◌<◌, ◌≤◌, true, false, leb, List, length, get_or, drop, ℤ, pos, negsuc, ◌-ℤ◌, ◌*ℤ◌, ◌≤ℤ◌, Some, None, Ok, Err, Option, sym, refl, ap, ◌∙◌, subst, inl, inr, arith}
use Rattle.std.proofs.lemmas.Bool.{le-leb, lt-leb}
use Rattle.terms.specs.Declines.{Says}
use Rattle.terms.specs.declared.decline.Decline.{Decline}
use Rattle.terms.specs.declared.decline.Layer.TheVariants.{Docket}
use Rattle.terms.proofs.Ints.{one_mulℤ}
use Rattle.terms.proofs.Sums.{sum_to_same}
use Rattle.fleet.specs.Units.{Meaning, Sound}
use Rattle.fleet.specs.Schedules.{Prices, gain_of}
use Rattle.fleet.specs.Rows.{Fault, wanted_of}
use Rattle.fleet.specs.Uplifts.{best, or_zero, pay_of}
use Rattle.settlement.specs.declared.stages.Stage.{Stage}
use Rattle.settlement.specs.declared.stages.Stage.TheVariants.{Blank, Needed, Priced}
use Rattle.settlement.specs.declared.stages.Rows.{Rows}
use Rattle.settlement.specs.declared.standing.Standing.{Standing}
use Rattle.settlement.specs.declared.sheet.Sheet.{Sheet}
use Rattle.settlement.specs.declared.verdicts.Judgement.{Judgement}
use Rattle.settlement.specs.declared.verdicts.Verdict.{Verdict}
use Rattle.settlement.specs.declared.verdicts.Verdict.TheVariants.{Least, Within}
use Rattle.settlement.specs.Ledger.{Ledger, Call, judge, is_priced, has, weighs, check, held_back, ledger}
use Rattle.settlement.specs.Evidence.{Evidence, AllBest, Ran, RunsMeet, Whole, MixesMeet, schedule_of, run_of, uplift_at, gap_at}
use Rattle.settlement.specs.Reasons.{FirstNot, JudgeBeyond, reason, nothing, wrong}
use Rattle.settlement.specs.Sheets.{RowsAt}
use Rattle.settlement.specs.Standings.{mixed_of}
use Rattle.settlement.specs.Weighing.{Weighed, SheetShows, Stood, RunsMatch, Heavy, MixesMatch, pay_at, sheet_wrong, verdict_of}
use Rattle.settlement.specs.Follow.{StageFollows, UnitFollows, SheetFollows}
use Rattle.settlement.specs.Calls.{at_priced}
use Rattle.settlement.specs.Verdicts.{Bound, Pays, Judges}
use Rattle.settlement.proofs.Ledgers.{Kept, kept, no_clash, some_none}
use Rattle.settlement.proofs.Duality.{bests, pay_nonneg, every_row, least_row, gap_zero, zero_gap}
use Rattle.settlement.proofs.Never.{never_31}
use Rattle.settlement.proofs.SheetFacts.{rows_yes}
use Rattle.settlement.proofs.Holds.{Held, check_no, check_yes, held_by, stage_priced, stands_has}
use Rattle.settlement.proofs.Carries.{held_answer, no_fault}
use Rattle.settlement.proofs.Finding.{none_fails}

-- the stage --

pub no_rows : (st : Stage) (place : ℕ) (d : Decline) → RowsAt st place (Err d) → (at_priced st ≡ false) × Says Docket 21 place d
no_rows Blank place d h = (refl, h)
no_rows (Needed needs) place d h = (refl, h)
no_rows (Priced rows) place d h = absurd h

-- the verdict --

least_zero : (z : ℤ) → verdict_of z ≡ Least → z ≡ pos 0
least_zero (pos zero) e = refl
least_zero (pos (suc n)) e = let z : ◌≡◌ {A = ℕ} 0 1 = cc in absurd (omega arith)
least_zero (negsuc n) e = let z : ◌≡◌ {A = ℕ} 0 1 = cc in absurd (omega arith)

within_else : (z : ℤ) → (z ≡ pos 0 → ⊥) → verdict_of z ≡ Within
within_else (pos zero) h = absurd (h refl)
within_else (pos (suc n)) h = refl
within_else (negsuc n) h = refl

not_both : (v : Verdict) → v ≡ Least → v ≡ Within → ⊥
not_both v p q = let z : ◌≡◌ {A = ℕ} 0 1 = cc in omega arith

-- conditions that hold at the same numbers --

record Alike (n : ℕ) (P Q : ℕ → Type 0) : Type 0 where
  to : (i : ℕ) → i < n → P i → Q i
  from : (i : ℕ) → i < n → Q i → P i

turned : (n : ℕ) (P Q : ℕ → Type 0) → Alike n P Q → Alike n Q P
turned n P Q a = record { to = a.from; from = a.to }

first_alike : (n : ℕ) (P Q : ℕ → Type 0) → Alike n P Q → (k : ℕ) → FirstNot n P k → FirstNot n Q k
first_alike n P Q a k f = let lt = f.below in record { below = lt; fails = λ q. f.fails (a.from k lt q); before = λ i h. a.to i (omega arith) (f.before i h) }

-- records, so that their reasons are found
record Told (A B : Fault → Type 0) : Type 0 where
  told : (x : Fault) → A x → B x

record Absent (A : Fault → Type 0) : Type 0 where
  none : (x : Fault) → A x → ⊥

tells_alike : (number n : ℕ) (P Q : ℕ → Type 0) (after other : Fault → Type 0) → Alike n P Q → Told after other → Told (reason number (FirstNot n P) after) (reason number (FirstNot n Q) other)
tells_alike number n P Q after other a next = record { told = by }
  where
    by : (x : Fault) → reason number (FirstNot n P) after x → reason number (FirstNot n Q) other x
    by x (inl h) = inl (h.0, first_alike n P Q a x.place h.1)
    by x (inr h) = inr (λ p q. h.0 p (first_alike n Q P (turned n P Q a) p q), next.told x h.1)

absent_reason : (number : ℕ) (At : ℕ → Type 0) (after : Fault → Type 0) → ((p : ℕ) → At p → ⊥) → Absent after → Absent (reason number At after)
absent_reason number At after nowhere rest = record { none = by }
  where
    by : (x : Fault) → reason number At after x → ⊥
    by x (inl h) = nowhere x.place h.1
    by x (inr h) = rest.none x h.1

-- the units --

module _ (m : Meaning) (T W : ℕ) (l : Ledger) (k : Kept m T W l) where
  mixed_is : (u : ℕ) (o : Option Standing) → UnitFollows m T l u o → mixed_of o ≡ weighs u l.mixes
  mixed_is u None h = sym (k.without u h)
  mixed_is u (Some st) h = h.mixed_is

  pay_is : (u : ℕ) (o : Option Standing) → UnitFollows m T l u o → Ran l u → pay_at o ≡ pay_of (m.model u) T l.prices (run_of l u)
  pay_is u None h ran = no_clash (sym ran ∙ ap has h)
  pay_is u (Some st) h ran =
      let top : st.best ≡ best (m.model u) T l.prices = sym (ap or_zero h.best_is) in
      let gained : st.gain ≡ gain_of (m.model u) l.prices (run_of l u) = h.gain_is ∙ ap (λ o. gain_of (m.model u) l.prices (schedule_of o)) (sym h.ran) in
      ap (λ z. z -ℤ st.gain) top ∙ ap (λ z. best (m.model u) T l.prices -ℤ z) gained

-- what holds judge back --

module _ (m : Meaning) (T W : ℕ) (l : Ledger) where
  unheld : (room : ℕ) → is_priced l.stage ≡ true → m.units ≤ room → held_back m T W l (judge room) ≡ None
  unheld room p fits = check_yes (is_priced l.stage) 21 0 (check (leb m.units room) 30 0 None) p ∙ check_yes (leb m.units room) 30 0 None (le-leb m.units room fits)

  -- the buffer stays
  pub judge_held : (old : List ℤ) (d : Decline) → Held (held_back m T W l (judge (length old))) d → Judges m T W l old old (Err d)
  judge_held old d h = record {
    answer = held_answer {X = Judgement} m T W l (judge (length old)) (λ _. Unit {0}) d h;
    bound = tt;
    pays = tt;
    exactly = λ p fits. some_none h.fault (sym h.is ∙ unheld (length old) p fits);
    kept = refl;
  }

  pub held_21 : (st : Stage) (room : ℕ) (d : Decline) → StageFollows T l st → RowsAt st 0 (Err d) → Held (held_back m T W l (judge room)) d
  held_21 st room d f h = let r = no_rows st 0 d h in check_no (is_priced l.stage) 21 0 (check (leb m.units room) 30 0 None) d (stage_priced T l st false f r.0) r.1

  pub held_30 : (st : Stage) (rows : Rows) (room : ℕ) (d : Decline) → StageFollows T l st → RowsAt st 0 (Ok rows) → room < m.units → Says Docket 30 0 d → Held (held_back m T W l (judge room)) d
  held_30 st rows room d f h short says =
      held_by (held_back m T W l (judge room)) (check (leb m.units room) 30 0 None) d
      (check_yes (is_priced l.stage) 21 0 (check (leb m.units room) 30 0 None) (stage_priced T l st true f (ap at_priced (rows_yes st 0 rows h))))
      (check_no (leb m.units room) 30 0 None d (lt-leb m.units room short) says)

-- the evidence --

module _ (m : Meaning) (sound : Sound m) (T W : ℕ) (some : 1 ≤ W) (most : W ≤ 1000) (cs : List Call) (s : Sheet) (f : SheetFollows m T (ledger m T W cs) s) (rows : Rows) (at : RowsAt s.stage 0 (Ok rows)) (old : List ℤ) (fits : m.units ≤ length old) where
  abbrev l : Ledger
  l = ledger m T W cs

  k : Kept m T W l
  k = kept m T W cs

  here : StageFollows T l (Priced rows)
  here = subst (StageFollows T l) (rows_yes s.stage 0 rows at) f.stage_is

  free : held_back m T W l (judge (length old)) ≡ None
  free = unheld m T W l (length old) (ap is_priced here.0) fits

  need_is : (t : ℕ) → get_or (wanted_of rows.needs) t (pos 0) ≡ get_or l.needs t (pos 0)
  need_is t = ap (λ xs. get_or xs t (pos 0)) here.1.needs

  stood_ran : (u : ℕ) → has (l.runs u) ≡ has (get_or s.units u None)
  stood_ran u = stands_has m T l u (get_or s.units u None) (f.units_are u)

  weight_is : (u : ℕ) → mixed_of (get_or s.units u None) ≡ weighs u l.mixes
  weight_is u = mixed_is m T W l k u (get_or s.units u None) (f.units_are u)

  stood : Alike m.units (Stood s) (Ran l)
  stood = record { to = λ u _ h. stood_ran u ∙ h; from = λ u _ h. sym (stood_ran u) ∙ h }

  runs : Alike T (RunsMatch rows.needs s) (RunsMeet m l)
  runs = record {
    to = λ t _ h. sym (f.runs_are t) ∙ h ∙ one_mulℤ (get_or (wanted_of rows.needs) t (pos 0)) ∙ need_is t;
    from = λ t _ h. f.runs_are t ∙ h ∙ sym (need_is t) ∙ sym (one_mulℤ (get_or (wanted_of rows.needs) t (pos 0)));
  }

  heavy : Alike m.units (Heavy W s) (Whole W l)
  heavy = record { to = λ u _ h. sym (weight_is u) ∙ h; from = λ u _ h. weight_is u ∙ h }

  mixes : Alike T (MixesMatch W rows.needs s) (MixesMeet W l)
  mixes = record {
    to = λ t _ h. sym (f.mixes_are t) ∙ h ∙ ap (λ z. pos W *ℤ z) (need_is t);
    from = λ t _ h. f.mixes_are t ∙ h ∙ ap (λ z. pos W *ℤ z) (sym (need_is t));
  }

  not_beyond : JudgeBeyond m T W l → ⊥
  not_beyond b = never_31 m sound T W most cs (judge (length old)) (record { number = 31; place = 0 }) (inr (free, inl (refl, (refl, b)))) refl

  -- with the evidence nothing is wrong
  faultless : Evidence m T W l → Absent (wrong m T W l (judge (length old)))
  faultless e =
      absent_reason 31 _ _ (λ p h. not_beyond h.1)
      (absent_reason 41 _ _ (none_fails e.ran)
      (absent_reason 42 _ _ (none_fails e.runs_meet)
      (absent_reason 43 _ _ (none_fails e.whole)
      (absent_reason 44 _ _ (none_fails e.mixes_meet) (record { none = λ x h. h })))))

  wrong_after : Told (sheet_wrong m.units T W rows.needs s) (reason 41 (FirstNot m.units (Ran l)) (reason 42 (FirstNot T (RunsMeet m l)) (reason 43 (FirstNot m.units (Whole W l)) (reason 44 (FirstNot T (MixesMeet W l)) nothing))))
  wrong_after =
      tells_alike 41 _ _ _ _ _ stood
      (tells_alike 42 _ _ _ _ _ runs
      (tells_alike 43 _ _ _ _ _ heavy
      (tells_alike 44 _ _ _ _ _ mixes (record { told = λ x h. h }))))

  wrong_is : (x : Fault) → sheet_wrong m.units T W rows.needs s x → wrong m T W l (judge (length old)) x
  wrong_is x h = inr (λ p b. not_beyond b.1, wrong_after.told x h)

  pub judge_wrong : (d : Decline) → Weighed m.units T W rows.needs s (Err d) → Judges m T W l old old (Err d)
  judge_wrong d h =
      let x = h.0 in
      let bad = wrong_is x h.1 in
      record {
        answer = (x, inr (free, bad), h.2);
        bound = tt;
        pays = tt;
        exactly = λ _ _. record {
          least = λ v. absurd v;
          so_least = λ e _. (faultless e).none x bad;
          within = λ v. absurd v;
          so_within = λ e _. (faultless e).none x bad;
        };
        kept = refl;
      }

  shown : SheetShows m.units T W rows.needs s → Evidence m T W l
  shown h = record {
    ran = λ u lt. stood.to u lt (h.stood u lt);
    runs_meet = λ t lt. runs.to t lt (h.runs_match t lt);
    whole = λ u lt. heavy.to u lt (h.heavy u lt);
    mixes_meet = λ t lt. mixes.to t lt (h.mixes_match t lt);
  }

  module _ (new : List ℤ) (j : Judgement) (weighed : Weighed m.units T W rows.needs s (Ok j.uplift)) (gap : j.gap ≡ s.gap) (verdict : j.verdict ≡ verdict_of s.gap) (over : j.over ≡ rows.prices.over) (weight : j.weight ≡ W) (each : (u : ℕ) → u < m.units → get_or new u (pos 0) ≡ pay_at (get_or s.units u None)) (long : length new ≡ length old) (past : drop m.units new ≡ drop m.units old) where
    e : Evidence m T W l
    e = shown weighed.1

    unit_pay : (u : ℕ) → u < m.units → pay_at (get_or s.units u None) ≡ pay_of (m.model u) T l.prices (run_of l u)
    unit_pay u lt = pay_is m T W l k u (get_or s.units u None) (f.units_are u) (e.ran u lt)

    gap_here : j.gap ≡ gap_at m T l.prices l
    gap_here = gap ∙ f.gap_is

    uplift_here : j.uplift ≡ uplift_at m T l.prices l
    uplift_here = weighed.0 ∙ sum_to_same m.units (λ u. pay_at (get_or s.units u None)) (λ u. pay_of (m.model u) T l.prices (run_of l u)) unit_pay

    -- LEAST exactly without a gap
    no_gap : j.verdict ≡ Least → gap_at m T l.prices l ≡ pos 0
    no_gap v = sym f.gap_is ∙ least_zero s.gap (sym verdict ∙ v)

    bound : Bound m T W l j
    bound = record {
      bests = bests m sound T W l k e;
      every_row = λ r.
          subst (λ (u : ℤ). (pos r.over *ℤ (pos W *ℤ u -ℤ j.gap)) ≤ℤ (pos l.prices.over *ℤ (pos W *ℤ uplift_at m T r l))) (sym uplift_here)
          (subst (λ (g : ℤ). (pos r.over *ℤ (pos W *ℤ uplift_at m T l.prices l -ℤ g)) ≤ℤ (pos l.prices.over *ℤ (pos W *ℤ uplift_at m T r l))) (sym gap_here)
          (every_row m sound T W l k e r));
      no_gap = λ v. gap_here ∙ no_gap v;
      least = λ v r. subst (λ (u : ℤ). (pos r.over *ℤ u) ≤ℤ (pos l.prices.over *ℤ uplift_at m T r l)) (sym uplift_here) (least_row m sound T W l k e some (no_gap v) r);
    }

    pays : Pays m T W l old new j
    pays = record {
      most = bests m sound T W l k e l.prices;
      pay = λ u lt. each u lt ∙ unit_pay u lt;
      not_below = λ u lt. subst (λ (z : ℤ). pos 0 ≤ℤ z) (sym (each u lt ∙ unit_pay u lt)) (pay_nonneg m sound T W l k e u lt);
      adds_up = weighed.0 ∙ sum_to_same m.units (λ u. pay_at (get_or s.units u None)) (λ u. get_or new u (pos 0)) (λ u lt. sym (each u lt));
      gap = gap_here;
      over = over ∙ ap (λ (r : Prices). r.over) here.2.prices;
      weight = weight;
      long = long;
      past = past;
    }

    least_best : AllBest m T l → j.verdict ≡ Least
    least_best a = verdict ∙ ap verdict_of (f.gap_is ∙ zero_gap m sound T W l k a)

    pub judged : Judges m T W l old new (Ok j)
    judged = record {
      answer = (no_fault m T W l (judge (length old)) free (faultless e).none, tt);
      bound = bound;
      pays = pays;
      exactly = λ _ _. record {
        least = λ v. (e, gap_zero m sound T W l k (no_gap v));
        so_least = λ _ a. least_best a;
        within = λ v. (e, λ a. not_both j.verdict (least_best a) v);
        so_within = λ _ n. verdict ∙ within_else s.gap (λ z. n (gap_zero m sound T W l k (sym f.gap_is ∙ z)));
      };
      kept = tt;
    }
