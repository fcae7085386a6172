-- What the sheet keeps goes on following the ledger when a call is entered. Assumes nothing.
use Rattle.std.proofs.Common.{◌≡◌, ℕ, ◌+◌, ◌<◌, false, cond, eqb, List, [], length, get_or, ℤ, pos, ◌+ℤ◌, ◌-ℤ◌, ◌*ℤ◌, Some, None, Option, sym, refl, ap, ◌∙◌, subst, inl, inr, arith}
use Rattle.std.proofs.lemmas.List.{get_or-set_same, get_or-set_other}
use Rattle.std.proofs.lemmas.Int.{ints}
use Rattle.std.proofs.lemmas.List.Sums.{sum_by_push}
use Rattle.std.proofs.lemmas.Bool.{cases_eq}
use Rattle.std.proofs.lemmas.Bool.Decides.{nat_tests}
use Rattle.terms.specs.Sums.{sum_of}
use Rattle.terms.proofs.Sums.{sum_of_push}
use Rattle.terms.proofs.Places.{sum_to_one}
use Rattle.terms.specs.declared.entry.Entry.{Entry}
use Rattle.fleet.specs.declared.rows.NeedRow.{NeedRow}
use Rattle.fleet.specs.declared.rows.PriceRow.{PriceRow}
use Rattle.fleet.specs.Units.{Meaning}
use Rattle.fleet.specs.Schedules.{gain_of}
use Rattle.fleet.specs.Rows.{NeedRowOf, PriceRowOf}
use Rattle.fleet.specs.Gains.{best_gain}
use Rattle.fleet.specs.Uplifts.{or_zero, pay_of}
use Rattle.settlement.specs.declared.stages.Stage.{Stage}
use Rattle.settlement.specs.declared.stages.Stage.TheVariants.{Blank, Needed, Priced}
use Rattle.settlement.specs.declared.standing.Standing.{Standing}
use Rattle.settlement.specs.declared.sheet.Sheet.{Sheet}
use Rattle.settlement.specs.Ledger.{Ledger, Mix, need, price, run, mix, entered, is_priced, weighs}
use Rattle.settlement.specs.Evidence.{lots_at, run_of, schedule_of, run_lots, gap_at}
use Rattle.settlement.specs.Sheets.{SameSums, RunNoted, MixNoted}
use Rattle.settlement.specs.Follow.{StageFollows, Stands, UnitFollows, SheetFollows}
use Rattle.settlement.proofs.Ledgers.{Kept, some_none}

entered_here : {X : Type 0} (u : ℕ) (x y : X) → cond (eqb u u) x y ≡ x
entered_here u x y = grind (arith, nat_tests)

entered_there : {X : Type 0} (u v : ℕ) (x y : X) → (u ≡ v → ⊥) → cond (eqb u v) x y ≡ y
entered_there u v x y h = grind (arith, nat_tests)

add_to_nothing : (z x y : ℤ) → z ≡ pos 0 → y ≡ x → y ≡ z +ℤ x
add_to_nothing z x y e h = omega (arith, ints)

module _ (m : Meaning) (T W : ℕ) (l : Ledger) where
  -- need and price --

  -- units and sums that speak of the same prices, runs and mixes
  pub need_put : (xs : List ℤ) (s s' : Sheet) (row : NeedRow) → SheetFollows m T l s → SameSums s s' → s'.stage ≡ Needed row → NeedRowOf T xs row → SheetFollows m T (entered m T W l (need xs)) s'
  need_put xs s s' row f same at made =
      record {
        stage_is = subst (StageFollows T (entered m T W l (need xs))) (sym at) (refl, made);
        units_are = λ u. unit u (get_or s'.units u None) (subst (λ us. UnitFollows m T l u (get_or us u None)) (sym same.units_are) (f.units_are u));
        runs_are = λ t. ap (λ ys. get_or ys t (pos 0)) same.runs_are ∙ f.runs_are t;
        mixes_are = λ t. ap (λ ys. get_or ys t (pos 0)) same.mixes_are ∙ f.mixes_are t;
        gap_is = same.gap_is ∙ f.gap_is;
      }
    where
      unit : (u : ℕ) (o : Option Standing) → UnitFollows m T l u o → UnitFollows m T (entered m T W l (need xs)) u o
      unit u None h = h
      unit u (Some k) h = record { run = h.run; ran = h.ran; gain_is = h.gain_is; best_is = h.best_is; mixed_is = h.mixed_is }

  pub price_put : (d : ℕ) (ns : List ℤ) (s s' : Sheet) (needs : NeedRow) (row : PriceRow) → Kept m T W l → SheetFollows m T l s → is_priced l.stage ≡ false → SameSums s s' → NeedRowOf T l.needs needs → s'.stage ≡ Priced (record { needs = needs; prices = row }) → PriceRowOf T d ns row → SheetFollows m T (entered m T W l (price d ns)) s'
  price_put d ns s s' needs row k f early same wants at made =
      let none = k.early early in
      record {
        stage_is = subst (StageFollows T (entered m T W l (price d ns))) (sym at) (refl, wants, made);
        units_are = λ u. unit u (get_or s'.units u None) (none.0 u) (subst (λ us. UnitFollows m T l u (get_or us u None)) (sym same.units_are) (f.units_are u));
        runs_are = λ t. ap (λ ys. get_or ys t (pos 0)) same.runs_are ∙ f.runs_are t;
        mixes_are = λ t. ap (λ ys. get_or ys t (pos 0)) same.mixes_are ∙ f.mixes_are t;
        gap_is = same.gap_is ∙ f.gap_is ∙ no_gap l.mixes none.1;
      }
    where
      unit : (u : ℕ) (o : Option Standing) → l.runs u ≡ None → UnitFollows m T l u o → UnitFollows m T (entered m T W l (price d ns)) u o
      unit u None e h = h
      unit u (Some x) e h = some_none h.run (sym h.ran ∙ e)

      no_gap : (xs : List Mix) → xs ≡ [] → sum_of (λ x. pos x.weight *ℤ pay_of (m.model x.unit) T l.prices x.schedule) xs ≡ sum_of (λ x. pos x.weight *ℤ pay_of (m.model x.unit) T (record { over = d; numerators = ns }) x.schedule) xs
      no_gap xs e = rw e refl

  -- run --

  module _ (u slots : ℕ) (es : List Entry) (g b : ℤ) (s s' : Sheet) (k : Kept m T W l) (f : SheetFollows m T l s) (noted : RunNoted u g b es s s') (known : u < m.units) (within : u < length s.units) (first : l.runs u ≡ None) (gain_is : g ≡ gain_of (m.model u) l.prices es) (best_is : best_gain (m.model u) T l.prices ≡ Some b) where
    abbrev after_run : Ledger
    after_run = entered m T W l (run u es slots)

    run_here : UnitFollows m T after_run u (Some noted.standing)
    run_here = record { run = es; ran = entered_here u (Some es) (l.runs u); gain_is = noted.gain_is ∙ gain_is; best_is = best_is ∙ ap Some (sym noted.best_is); mixed_is = noted.mixed_is ∙ sym (k.without u first) }

    run_there : (v : ℕ) (o : Option Standing) → (u ≡ v → ⊥) → UnitFollows m T l v o → UnitFollows m T after_run v o
    run_there v None d h = entered_there u v (Some es) (l.runs v) d ∙ h
    run_there v (Some x) d h = record { run = h.run; ran = entered_there u v (Some es) (l.runs v) d ∙ h.ran; gain_is = h.gain_is; best_is = h.best_is; mixed_is = h.mixed_is }

    run_units : (v : ℕ) → UnitFollows m T after_run v (get_or s'.units v None)
    run_units v =
        elim (cases_eq u v) [
          | inl e ↦ subst (λ i. UnitFollows m T after_run i (get_or s'.units i None)) e (subst (UnitFollows m T after_run u) (sym (ap (λ us. get_or us u None) noted.units_are ∙ get_or-set_same s.units u _ None within)) run_here)
          | inr d ↦ subst (UnitFollows m T after_run v) (sym (ap (λ us. get_or us v None) noted.units_are ∙ get_or-set_other s.units u v _ None (λ e. d (sym e)))) (run_there v (get_or s.units v None) d (f.units_are v))
        ]

    run_lots_put : (t : ℕ) → run_lots m after_run t ≡ run_lots m l t +ℤ lots_at es t
    run_lots_put t =
        sum_to_one m.units u (λ v. lots_at (run_of l v) t) (λ v. lots_at (run_of after_run v) t) (lots_at es t) known
        (add_to_nothing (lots_at (run_of l u) t) (lots_at es t) (lots_at (run_of after_run u) t) (ap (λ o. lots_at (schedule_of o) t) first) (ap (λ o. lots_at (schedule_of o) t) (entered_here u (Some es) (l.runs u))))
        (λ v d. ap (λ o. lots_at (schedule_of o) t) (entered_there u v (Some es) (l.runs v) d))

    pub run_put : SheetFollows m T (entered m T W l (run u es slots)) s'
    run_put =
        record {
          stage_is = subst (StageFollows T after_run) (sym noted.stage_is) (stage s.stage f.stage_is);
          units_are = run_units;
          runs_are = λ t. noted.runs_are t ∙ ap (λ z. z +ℤ lots_at es t) (f.runs_are t) ∙ sym (run_lots_put t);
          mixes_are = λ t. ap (λ ys. get_or ys t (pos 0)) noted.mixes_are ∙ f.mixes_are t;
          gap_is = noted.gap_is ∙ f.gap_is;
        }
      where
        stage : (x : Stage) → StageFollows T l x → StageFollows T after_run x
        stage Blank h = h
        stage (Needed needs) h = h
        stage (Priced rows) h = h

  -- mix --

  module _ (u w : ℕ) (es : List Entry) (g : ℤ) (old : Standing) (s s' : Sheet) (f : SheetFollows m T l s) (stood : get_or s.units u None ≡ Some old) (noted : MixNoted u old w g es s s') (within : u < length s.units) (gain_is : g ≡ gain_of (m.model u) l.prices es) where
    abbrev after_mix : Ledger
    after_mix = entered m T W l (mix u w es)

    abbrev one_more : Mix
    one_more = record { unit = u; weight = w; schedule = es }

    weighs_more : (v : ℕ) → weighs v after_mix.mixes ≡ weighs v l.mixes + cond (eqb u v) w 0
    weighs_more v = sum_by_push (λ x. cond (eqb x.unit v) x.weight 0) l.mixes one_more

    stands_old : Stands m T l u old
    stands_old = subst (UnitFollows m T l u) stood (f.units_are u)

    mix_here : UnitFollows m T after_mix u (Some noted.standing)
    mix_here =
        let h = stands_old in
        let grown : old.mixed + w ≡ weighs u after_mix.mixes = let a = weighs_more u in let c = entered_here u w 0 in let e = h.mixed_is in omega arith in
        record { run = h.run; ran = h.ran; gain_is = noted.gain_is ∙ h.gain_is; best_is = h.best_is ∙ ap Some (sym noted.best_is); mixed_is = noted.mixed_is ∙ grown }

    mix_there : (v : ℕ) (o : Option Standing) → (u ≡ v → ⊥) → UnitFollows m T l v o → UnitFollows m T after_mix v o
    mix_there v None d h = h
    mix_there v (Some x) d h =
        let same : x.mixed ≡ weighs v after_mix.mixes = let a = weighs_more v in let c = entered_there u v w 0 d in let e = h.mixed_is in omega arith in
        record { run = h.run; ran = h.ran; gain_is = h.gain_is; best_is = h.best_is; mixed_is = same }

    mix_units : (v : ℕ) → UnitFollows m T after_mix v (get_or s'.units v None)
    mix_units v =
        elim (cases_eq u v) [
          | inl e ↦ subst (λ i. UnitFollows m T after_mix i (get_or s'.units i None)) e (subst (UnitFollows m T after_mix u) (sym (ap (λ us. get_or us u None) noted.units_are ∙ get_or-set_same s.units u _ None within)) mix_here)
          | inr d ↦ subst (UnitFollows m T after_mix v) (sym (ap (λ us. get_or us v None) noted.units_are ∙ get_or-set_other s.units u v _ None (λ e. d (sym e)))) (mix_there v (get_or s.units v None) d (f.units_are v))
        ]

    lacks_is : pos w *ℤ (old.best -ℤ g) ≡ pos w *ℤ pay_of (m.model u) T l.prices es
    lacks_is = ap (λ z. pos w *ℤ (old.best -ℤ z)) gain_is ∙ ap (λ z. pos w *ℤ (z -ℤ gain_of (m.model u) l.prices es)) (sym (ap or_zero stands_old.best_is))

    pub mix_put : SheetFollows m T (entered m T W l (mix u w es)) s'
    mix_put =
        record {
          stage_is = subst (StageFollows T after_mix) (sym noted.stage_is) (stage s.stage f.stage_is);
          units_are = mix_units;
          runs_are = λ t. ap (λ ys. get_or ys t (pos 0)) noted.runs_are ∙ f.runs_are t;
          mixes_are = λ t. noted.mixes_are t ∙ ap (λ z. z +ℤ (pos w *ℤ lots_at es t)) (f.mixes_are t) ∙ sym (sum_of_push (λ x. pos x.weight *ℤ lots_at x.schedule t) l.mixes one_more);
          gap_is = noted.gap_is ∙ ap (λ z. z +ℤ (pos w *ℤ (old.best -ℤ g))) f.gap_is ∙ ap (λ z. gap_at m T l.prices l +ℤ z) lacks_is ∙ sym (sum_of_push (λ x. pos x.weight *ℤ pay_of (m.model x.unit) T l.prices x.schedule) l.mixes one_more);
        }
      where
        stage : (x : Stage) → StageFollows T l x → StageFollows T after_mix x
        stage Blank h = h
        stage (Needed needs) h = h
        stage (Priced rows) h = h
