-- What every ledger keeps. Assumes nothing.
use Rattle.std.proofs.Common.{◌≡◌, ℕ, ◌+◌, ◌-◌, ◌<◌, ◌≤◌, Bool, true, false, cond, not, ◌&&◌, eqb, ltb, leb, ◌⊎◌, List, [], ◌∷◌, ◌++◌, length, Some, None, fold, Option, sym, refl, ap, ◌∙◌, inl, inr, ⊎_elim, arith}
use Rattle.std.proofs.lemmas.Bool.Decides.{eqb_tells}
use Rattle.std.proofs.lemmas.Bool.{cond-true, cond-false, both_ways, and_parts, ltb-true, leb-true, eqb-true}
use Rattle.std.proofs.ByRecursion.{All-push}
use Rattle.std.proofs.lemmas.List.Sums.{fold_push, sum_by_push}
use Rattle.terms.specs.declared.entry.Entry.{Entry}
use Rattle.fleet.specs.Units.{Meaning, UnitModel, holds}
use Rattle.fleet.specs.Schedules.{Schedule, Allowed, AllowedFrom, FirstBad, FirstBadFrom}
use Rattle.fleet.specs.Rows.{Fault}
use Rattle.fleet.proofs.RowLaws.{price_row_law}
pub use Rattle.settlement.specs.Laws.{Kept}
use Rattle.settlement.specs.Laws.{LedgerLaw, CheckLaw}
use Rattle.settlement.specs.Ledger.{Ledger, Mix, Stage, blank, needed, priced, Call, need, price, run, mix, supply, show, judge, is_blank, is_needed, is_priced, has, weighs, bad_from, bad_at, check, allow, held_back, entered, unless, step, fresh, ledger}

pub no_clash : {P : Type 0} → true ≡ false → P
no_clash e = absurd (both_ways true e refl)

pub some_none : {X P : Type 0} (x : X) → Some x ≡ None → P
some_none x e = let z : ◌≡◌ {A = ℕ} 0 1 = cc in absurd (omega arith)

-- a test of what comes after --

cond_none : {X : Type 0} (ok : Bool) (o : Option X) (x : X) → cond ok o (Some x) ≡ None → (ok ≡ true) × (o ≡ None)
cond_none true o x e = (refl, e)
cond_none false o x e = some_none x e

cond_some : {X : Type 0} (ok : Bool) (o : Option X) (x k : X) → cond ok o (Some x) ≡ Some k → ((ok ≡ true) × (o ≡ Some k)) ⊎ ((ok ≡ false) × (k ≡ x))
cond_some true o x k e = inl (refl, e)
cond_some false o x k e = inr (refl, cc)

pub check_passed : (ok : Bool) (n p : ℕ) (o : Option Fault) → check ok n p o ≡ None → (ok ≡ true) × (o ≡ None)
check_passed ok n p o e = cond_none ok o (record { number = n; place = p }) e

pub allow_passed : (b : Option ℕ) (o : Option Fault) → allow b o ≡ None → (b ≡ None) × (o ≡ None)
allow_passed None o e = (refl, e)
allow_passed (Some t) o e = some_none _ e

-- the schedule check finds nothing exactly where the schedule is allowed, else its first bad period --

module _ (p : UnitModel) where
  none_allowed : (t a : ℕ) (es : List Entry) → bad_from p t a es ≡ None → AllowedFrom p t a es
  none_allowed t a [] e = (cond_none (p.ends a) None t e).0
  none_allowed t a (x ∷ xs) e =
      let k = cond_none (holds (p.arc t a x.state) x.output) (bad_from p (t + 1) x.state xs) t e in
      (k.0, none_allowed (t + 1) x.state xs k.1)

  none_from : (t a : ℕ) (es : List Entry) → AllowedFrom p t a es → bad_from p t a es ≡ None
  none_from t a [] h = cond-true (p.ends a) None (Some t) h
  none_from t a (x ∷ xs) h = cond-true (holds (p.arc t a x.state) x.output) (bad_from p (t + 1) x.state xs) (Some t) h.0 ∙ none_from (t + 1) x.state xs h.1

  refuted : (b : Bool) → (b ≡ true → ⊥) → b ≡ false
  refuted true h = absurd (h refl)
  refuted false h = refl

  first_from : (t a : ℕ) (es : List Entry) (k : ℕ) → FirstBadFrom p t a es k → bad_from p t a es ≡ Some k
  first_from t a [] k h = cond-false (p.ends a) None (Some t) h.0 ∙ ap Some (sym h.1)
  first_from t a (x ∷ xs) k (inl h) = cond-false (holds (p.arc t a x.state) x.output) (bad_from p (t + 1) x.state xs) (Some t) (refuted _ h.0) ∙ ap Some (sym h.1)
  first_from t a (x ∷ xs) k (inr h) = cond-true (holds (p.arc t a x.state) x.output) (bad_from p (t + 1) x.state xs) (Some t) h.0 ∙ first_from (t + 1) x.state xs k h.1

  from_first : (t a : ℕ) (es : List Entry) (k : ℕ) → bad_from p t a es ≡ Some k → FirstBadFrom p t a es k
  from_first t a [] k e =
      ⊎_elim (λ h. some_none k (sym h.1)) (λ h. h) (cond_some (p.ends a) None t k e)
  from_first t a (x ∷ xs) k e =
      ⊎_elim
      (λ h. inr (h.0, from_first (t + 1) x.state xs k h.1))
      (λ h. inl (λ g. both_ways (holds (p.arc t a x.state) x.output) h.0 g, h.1))
      (cond_some (holds (p.arc t a x.state) x.output) (bad_from p (t + 1) x.state xs) t k e)

pub bad_none : (p : UnitModel) (es : List Entry) → bad_at p es ≡ None → Allowed p es
bad_none p es e = none_allowed p 0 p.start es e

pub allowed_none : (p : UnitModel) (es : List Entry) → Allowed p es → bad_at p es ≡ None
allowed_none p es h = none_from p 0 p.start es h

pub first_bad : (p : UnitModel) (es : List Entry) (k : ℕ) → FirstBad p es k → bad_at p es ≡ Some k
first_bad p es k h = first_from p 0 p.start es k h

pub bad_first : (p : UnitModel) (es : List Entry) (k : ℕ) → bad_at p es ≡ Some k → FirstBad p es k
bad_first p es k e = from_first p 0 p.start es k e

-- what the ledger took --

blank_early : (s : Stage) → is_blank s ≡ true → is_priced s ≡ false
blank_early blank e = refl
blank_early needed e = refl
blank_early priced e = no_clash (sym e)

-- one place of a function is changed
put_some : (u v : ℕ) (es xs : List Entry) (o : Option (List Entry)) → cond (eqb u v) (Some es) o ≡ Some xs → ((u ≡ v) × (es ≡ xs)) ⊎ (o ≡ Some xs)
put_some u v es xs o e = elim (eqb_tells u v) [ inl h ↦ inl (h.1, (let q = rw h.0 at e in cc)) | inr h ↦ inr (rw h.0 at e) ]

put_none : (u v : ℕ) (es : List Entry) (o : Option (List Entry)) → cond (eqb u v) (Some es) o ≡ None → o ≡ None
put_none u v es o e = elim (eqb_tells u v) [ inl h ↦ some_none es (rw h.0 at e) | inr h ↦ (rw h.0 at e) ]

here_only : (u v w : ℕ) → ((u ≡ v) × (cond (eqb u v) w 0 ≡ w)) ⊎ ((u ≡ v → ⊥) × (cond (eqb u v) w 0 ≡ 0))
here_only u v w = elim (eqb_tells u v) [ inl h ↦ inl (h.1, (rw h.0)) | inr h ↦ inr (h.1, (rw h.0)) ]

one_more : (u v w : ℕ) (es : List Entry) (xs : List Mix) → weighs v (xs ++ (record { unit = u; weight = w; schedule = es } ∷ [])) ≡ weighs v xs + cond (eqb u v) w 0
one_more u v w es xs = sum_by_push (λ (x : Mix). cond (eqb x.unit v) x.weight 0) xs (record { unit = u; weight = w; schedule = es })

module _ (m : Meaning) (T W : ℕ) where
  moved : (u v : ℕ) (es xs : List Entry) → u ≡ v → es ≡ xs → (u < m.units) × Schedule (m.model u) T es → (v < m.units) × Schedule (m.model v) T xs
  moved u v es xs p q h = rw (← p, ← q) h

  unless_as : (P : Ledger → Type 0) (o : Option Fault) (new old : Ledger) → P old → (o ≡ None → P new) → P (unless m T W o new old)
  unless_as P None new old p q = q refl
  unless_as P (Some d) new old p q = p

  -- the weights with a mix more
  still_light : (u v w : ℕ) (es : List Entry) (xs : List Mix) → weighs v xs ≤ W → 1 ≤ w → w ≤ W - weighs u xs → weighs v (xs ++ (record { unit = u; weight = w; schedule = es } ∷ [])) ≤ W
  still_light u v w es xs le one fits =
      let s = one_more u v w es xs in
      elim (here_only u v w) [
        | inl h ↦ let same : weighs u xs ≡ weighs v xs = ap (λ i. weighs i xs) h.0 in let z = h.1 in omega (arith, s, same, z)
        | inr h ↦ let z = h.1 in omega (arith, s, z)
      ]

  still_without : (u v w : ℕ) (es : List Entry) (xs : List Mix) (runs : ℕ → Option (List Entry)) → (runs v ≡ None → weighs v xs ≡ 0) → has (runs u) ≡ true → runs v ≡ None → weighs v (xs ++ (record { unit = u; weight = w; schedule = es } ∷ [])) ≡ 0
  still_without u v w es xs runs none ran here =
      let s = one_more u v w es xs in
      let zero = none here in
      elim (here_only u v w) [
        | inl h ↦ no_clash (sym ran ∙ ap (λ i. has (runs i)) h.0 ∙ ap has here)
        | inr h ↦ let z = h.1 in omega (arith, s, z, zero)
      ]

  entered_kept : (l : Ledger) (c : Call) → Kept m T W l → held_back m T W l c ≡ None → Kept m T W (entered m T W l c)
  entered_kept l (need xs) k e =
      let p = check_passed (is_blank l.stage) 21 0 _ e in
      record { mixed = k.mixed; ran = k.ran; early = λ _. k.early (blank_early l.stage p.0); light = k.light; without = k.without; sound_prices = λ h. no_clash (sym h) }
  entered_kept l (price d ns) k e =
      let p = check_passed (is_needed l.stage) 21 0 _ e in
      record { mixed = k.mixed; ran = k.ran; early = λ h. no_clash h; light = k.light; without = k.without; sound_prices = λ _. (price_row_law.none T d ns).0 p.1 }
  entered_kept l (run u es slots) k e =
      let p = check_passed (is_priced l.stage) 21 u _ e in
      let q = check_passed (ltb u m.units) 24 u _ p.1 in
      let r = check_passed (not (has (l.runs u))) 25 u _ q.1 in
      let s = check_passed (eqb (length es) T) 26 u _ r.1 in
      let a = allow_passed (bad_at (m.model u) es) _ s.1 in
      let fine : Schedule (m.model u) T es = record { long = eqb-true (length es) T s.0; allowed = bad_none (m.model u) es a.0 } in
      record {
        mixed = k.mixed;
        ran = λ v xs h. ⊎_elim (λ z. moved u v es xs z.0 z.1 (ltb-true u m.units q.0, fine)) (λ z. k.ran v xs z) (put_some u v es xs (l.runs v) h);
        early = λ h. no_clash (sym p.0 ∙ h);
        light = k.light;
        without = λ v h. k.without v (put_none u v es (l.runs v) h);
        sound_prices = k.sound_prices;
      }
  entered_kept l (mix u w es) k e =
      let p = check_passed (is_priced l.stage) 21 u _ e in
      let q = check_passed (ltb u m.units) 24 u _ p.1 in
      let s = check_passed (eqb (length es) T) 26 u _ q.1 in
      let a = allow_passed (bad_at (m.model u) es) _ s.1 in
      let r = check_passed (has (l.runs u)) 28 u _ a.1 in
      let b = check_passed (leb 1 w && leb w (W - weighs u l.mixes)) 29 u None r.1 in
      let f = and_parts (leb 1 w) (leb w (W - weighs u l.mixes)) b.0 in
      let one = leb-true 1 w f.0 in
      let fits = leb-true w (W - weighs u l.mixes) f.1 in
      let fine : Schedule (m.model u) T es = record { long = eqb-true (length es) T s.0; allowed = bad_none (m.model u) es a.0 } in
      record {
        mixed = All-push _ l.mixes _ k.mixed (ltb-true u m.units q.0, fine, one);
        ran = k.ran;
        early = λ h. no_clash (sym p.0 ∙ h);
        light = λ v. still_light u v w es l.mixes (k.light v) one fits;
        without = λ v h. still_without u v w es l.mixes l.runs (k.without v) r.0 h;
        sound_prices = k.sound_prices;
      }
  entered_kept l (supply u fewer slots) k e = k
  entered_kept l (show u slots room) k e = k
  entered_kept l (judge room) k e = k

  step_kept : (l : Ledger) (c : Call) → Kept m T W l → Kept m T W (step m T W l c)
  step_kept l c k = unless_as (Kept m T W) (held_back m T W l c) (entered m T W l c) l k (entered_kept l c k)

  steps_kept : (l : Ledger) (cs : List Call) → Kept m T W l → Kept m T W (fold (step m T W) l cs)
  steps_kept l [] k = k
  steps_kept l (c ∷ cs) k = steps_kept (step m T W l c) cs (step_kept l c k)

  fresh_kept : Kept m T W fresh
  fresh_kept = record {
    mixed = tt;
    ran = λ u es e. some_none es (sym e);
    early = λ _. (λ _. refl, refl);
    light = λ u. omega arith;
    without = λ u _. refl;
    sound_prices = λ h. no_clash (sym h);
  }

  pub kept : (cs : List Call) → Kept m T W (ledger m T W cs)
  kept cs = steps_kept fresh cs fresh_kept

  pub more : (cs : List Call) (c : Call) → ledger m T W (cs ++ (c ∷ [])) ≡ step m T W (ledger m T W cs) c
  more cs c = fold_push (step m T W) fresh cs c

pub ledger_law : LedgerLaw
ledger_law = kept

pub check_law : CheckLaw
check_law = record { none = bad_none; allowed = allowed_none; bad = bad_first; first = first_bad }
