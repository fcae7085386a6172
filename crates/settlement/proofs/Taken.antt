-- A ledger holds what was taken, and only that. Assumes nothing.
use Rattle.std.proofs.Common.{◌≡◌, ◌≢◌, ℕ, ◌⊎◌, ◌↔◌, true, false, eqb, List, [], ◌∷◌, ◌++◌, ℤ, Some, None, fold, Option, sym, refl, ap, ◌∙◌, subst, inl, inr, ⊎_elim, arith}
use Rattle.std.specs.List.{Contains}
use Rattle.std.proofs.lemmas.Bool.Decides.{eqb_tells}
use Rattle.std.proofs.lemmas.List.Elements.{Contains-append_left, Contains-push, Contains-push_cases}
use Rattle.terms.specs.declared.entry.Entry.{Entry}
use Rattle.fleet.specs.Units.{Meaning}
use Rattle.fleet.specs.Schedules.{Prices}
use Rattle.fleet.specs.Rows.{Fault}
use Rattle.settlement.specs.Ledger.{Ledger, Mix, blank, priced, Call, need, price, run, mix, supply, show, judge, held_back, entered, unless, step, fresh, ledger}
use Rattle.settlement.specs.Entering.{Fits, Taken, TakenLaw}
use Rattle.settlement.proofs.Ledgers.{some_none}
use Rattle.settlement.proofs.Fits.{fits_law}

module _ (m : Meaning) (T W : ℕ) where
  -- P holds of a ledger where it held before, or the call is one of these and fits
  abbrev Before : {A : Type 0} → (A → Call) → (Ledger → Type 0) → Ledger → Call → Type 0
  Before {A} these P l c = P l ⊎ ((a : A) × (c ≡ these a) × Fits m T W l c)

  record Moves {A : Type 0} (these : A → Call) (P : Ledger → Type 0) (l l' : Ledger) (c : Call) : Type 0 where
    to : P l' → Before these P l c
    from : Before these P l c → P l'

  record Step {A : Type 0} (these : A → Call) (P : Ledger → Type 0) : Type 0 where
    each : (l : Ledger) (c : Call) → Fits m T W l c → Moves these P l (entered m T W l c) c

  -- another call alters nothing of P
  other : {A : Type 0} (these : A → Call) (P : Ledger → Type 0) (l l' : Ledger) (c : Call) → (P l' → P l) → (P l → P l') → ((a : A) → c ≡ these a → ⊥) → Moves these P l l' c
  other these P l l' c back there never = record { to = λ p. inl (back p); from = λ h. ⊎_elim there (λ k. absurd (never k.0 k.1)) h }

  stepped : {A : Type 0} (these : A → Call) (P : Ledger → Type 0) → Step these P → (l : Ledger) (c : Call) → Moves these P l (step m T W l c) c
  stepped these P s l c = by (held_back m T W l c) refl
    where
      by : (o : Option Fault) → held_back m T W l c ≡ o → Moves these P l (unless m T W o (entered m T W l c) l) c
      by None e = s.each l c ((fits_law m T W l c).0 e)
      by (Some f) e = record { to = λ p. inl p; from = λ h. ⊎_elim (λ p. p) (λ k. some_none f (sym e ∙ (fits_law m T W l c).1 k.2)) h }

  -- after a list of calls --

  abbrev From : Ledger → List Call → Call → Type 0
  From l cs c = (before : List Call) × (after : List Call) × (cs ≡ before ++ (c ∷ after)) × Fits m T W (fold (step m T W) l before) c

  module _ {A : Type 0} (these : A → Call) (P : Ledger → Type 0) (s : Step these P) where
    all_to : (l : Ledger) (cs : List Call) → P (fold (step m T W) l cs) → P l ⊎ ((a : A) × From l cs (these a))
    all_to l [] p = inl p
    all_to l (c ∷ cs) p = ⊎_elim now (λ k. inr (k.0, (c ∷ k.1.0, k.1.1, ap (λ xs. c ∷ xs) k.1.2, k.1.3))) (all_to (step m T W l c) cs p)
      where
        now : P (step m T W l c) → P l ⊎ ((a : A) × From l (c ∷ cs) (these a))
        now q = ⊎_elim inl (λ k. inr (k.0, ([], cs, ap (λ x. x ∷ cs) k.1, subst (Fits m T W l) k.1 k.2))) ((stepped these P s l c).to q)

    all_from : (l : Ledger) (cs : List Call) → P l ⊎ ((a : A) × From l cs (these a)) → P (fold (step m T W) l cs)
    all_from l [] (inl p) = p
    all_from l [] (inr (a, ([], after, e, f))) = cc
    all_from l [] (inr (a, (b ∷ before, after, e, f))) = cc
    all_from l (c ∷ cs) (inl p) = all_from (step m T W l c) cs (inl ((stepped these P s l c).from (inl p)))
    all_from l (c ∷ cs) (inr (a, ([], after, e, f))) =
        let same : c ≡ these a = cc in
        all_from (step m T W l c) cs (inl ((stepped these P s l c).from (inr (a, same, subst (Fits m T W l) (sym same) f))))
    all_from l (c ∷ cs) (inr (a, (b ∷ before, after, e, f))) =
        let same : b ≡ c = cc in
        let rest : cs ≡ before ++ (these a ∷ after) = cc in
        all_from (step m T W l c) cs (inr (a, (before, after, rest, subst (λ x. Fits m T W (fold (step m T W) (step m T W l x) before) (these a)) same f)))

    -- from the fresh ledger, of which P does not hold
    taken : (P fresh → ⊥) → (cs : List Call) → P (ledger m T W cs) ↔ ((a : A) × Taken m T W cs (these a))
    taken never cs = (λ p. ⊎_elim (λ q. absurd (never q)) (λ k. k) (all_to fresh cs p), λ k. all_from fresh cs (inr k))

  -- each kind of call --

  abbrev Needs : List ℤ → Ledger → Type 0
  Needs xs l = (l.stage ≢ blank) × (l.needs ≡ xs)

  needs_step : (xs : List ℤ) → Step {A = Unit {0}} (λ _. need xs) (Needs xs)
  needs_step xs = record { each = by }
    where
      by : (l : Ledger) (c : Call) → Fits m T W l c → Moves {A = Unit {0}} (λ _. need xs) (Needs xs) l (entered m T W l c) c
      by l (need ys) f = record {
        to = λ p. inr (tt, ap need p.1, f);
        from = λ h. ⊎_elim (λ p. absurd (p.0 f.0)) (λ k. ((λ e. cc), let e = k.1 in cc)) h;
      }
      by l (price d ns) f = other _ _ _ _ _ (λ p. ((λ e. let z = f.0 in cc), p.1)) (λ p. ((λ e. cc), p.1)) (λ a e. cc)
      by l (run u es k) f = other _ _ _ _ _ (λ p. p) (λ p. p) (λ a e. cc)
      by l (mix u w es) f = other _ _ _ _ _ (λ p. p) (λ p. p) (λ a e. cc)
      by l (supply u a b) f = other _ _ _ _ _ (λ p. p) (λ p. p) (λ a e. cc)
      by l (show u a b) f = other _ _ _ _ _ (λ p. p) (λ p. p) (λ a e. cc)
      by l (judge a) f = other _ _ _ _ _ (λ p. p) (λ p. p) (λ a e. cc)

  abbrev PricesAre : ℕ → List ℤ → Ledger → Type 0
  PricesAre d ns l = (l.stage ≡ priced) × (l.prices ≡ record { over = d; numerators = ns })

  prices_step : (d : ℕ) (ns : List ℤ) → Step {A = Unit {0}} (λ _. price d ns) (PricesAre d ns)
  prices_step d ns = record { each = by }
    where
      by : (l : Ledger) (c : Call) → Fits m T W l c → Moves {A = Unit {0}} (λ _. price d ns) (PricesAre d ns) l (entered m T W l c) c
      by l (need xs) f = other _ _ _ _ _ (λ p. let e = p.0 in cc) (λ p. let e = p.0 in let z = f.0 in cc) (λ a e. cc)
      by l (price o ks) f = record {
        to = λ p. inr (tt, ap (λ (r : Prices). price r.over r.numerators) p.1, f);
        from = λ h. ⊎_elim (λ p. let e = p.0 in let z = f.0 in cc) (λ k. (refl, let e = k.1 in cc)) h;
      }
      by l (run u es k) f = other _ _ _ _ _ (λ p. p) (λ p. p) (λ a e. cc)
      by l (mix u w es) f = other _ _ _ _ _ (λ p. p) (λ p. p) (λ a e. cc)
      by l (supply u a b) f = other _ _ _ _ _ (λ p. p) (λ p. p) (λ a e. cc)
      by l (show u a b) f = other _ _ _ _ _ (λ p. p) (λ p. p) (λ a e. cc)
      by l (judge a) f = other _ _ _ _ _ (λ p. p) (λ p. p) (λ a e. cc)

  abbrev RunIs : ℕ → List Entry → Ledger → Type 0
  RunIs u es l = l.runs u ≡ Some es

  run_step : (u : ℕ) (es : List Entry) → Step (run u es) (RunIs u es)
  run_step u es = record { each = by }
    where
      by : (l : Ledger) (c : Call) → Fits m T W l c → Moves (run u es) (RunIs u es) l (entered m T W l c) c
      by l (run v fs k) f = at (eqb_tells v u)
        where
          at : ((eqb v u ≡ true) × (v ≡ u)) ⊎ ((eqb v u ≡ false) × (v ≢ u)) → Moves (run u es) (RunIs u es) l (entered m T W l (run v fs k)) (run v fs k)
          at (inl h) = record {
            to = λ p. let s = h.1 in let e : Some fs ≡ Some es = rw h.0 at p in inr (k, cc, f);
            from = λ q. ⊎_elim (λ p. let s = ap l.runs h.1 in let z = f.2 in cc) (λ q. let e = q.1 in let same : fs ≡ es = cc in rw h.0 (ap Some same)) q;
          }
          at (inr h) = other _ _ _ _ _ (λ p. rw h.0 at p) (λ p. rw h.0 p) (λ a e. absurd (h.1 (let z = e in cc)))
      by l (need xs) f = other _ _ _ _ _ (λ p. p) (λ p. p) (λ a e. cc)
      by l (price o ks) f = other _ _ _ _ _ (λ p. p) (λ p. p) (λ a e. cc)
      by l (mix v w fs) f = other _ _ _ _ _ (λ p. p) (λ p. p) (λ a e. cc)
      by l (supply v a b) f = other _ _ _ _ _ (λ p. p) (λ p. p) (λ a e. cc)
      by l (show v a b) f = other _ _ _ _ _ (λ p. p) (λ p. p) (λ a e. cc)
      by l (judge a) f = other _ _ _ _ _ (λ p. p) (λ p. p) (λ a e. cc)

  abbrev Mixed : Mix → Ledger → Type 0
  Mixed x l = Contains l.mixes x

  mix_step : (x : Mix) → Step {A = Unit {0}} (λ _. mix x.unit x.weight x.schedule) (Mixed x)
  mix_step x = record { each = by }
    where
      by : (l : Ledger) (c : Call) → Fits m T W l c → Moves {A = Unit {0}} (λ _. mix x.unit x.weight x.schedule) (Mixed x) l (entered m T W l c) c
      by l (mix u w es) f = record {
        to = λ p. ⊎_elim inl (λ e. inr (tt, ap (λ (y : Mix). mix y.unit y.weight y.schedule) e, f)) (Contains-push_cases l.mixes y x p);
        from = λ h. ⊎_elim (λ p. Contains-append_left l.mixes (y ∷ []) x p) (λ k. subst (Contains (l.mixes ++ (y ∷ []))) (same k.1) (Contains-push l.mixes y)) h;
      }
        where
          y : Mix
          y = record { unit = u; weight = w; schedule = es }

          same : mix u w es ≡ mix x.unit x.weight x.schedule → y ≡ x
          same e =
              let unit : u ≡ x.unit = cc in
              let weight : w ≡ x.weight = cc in
              let schedule : es ≡ x.schedule = cc in
              λ i. record { unit = unit i; weight = weight i; schedule = schedule i }
      by l (need xs) f = other _ _ _ _ _ (λ p. p) (λ p. p) (λ a e. cc)
      by l (price o ks) f = other _ _ _ _ _ (λ p. p) (λ p. p) (λ a e. cc)
      by l (run u es k) f = other _ _ _ _ _ (λ p. p) (λ p. p) (λ a e. cc)
      by l (supply u a b) f = other _ _ _ _ _ (λ p. p) (λ p. p) (λ a e. cc)
      by l (show u a b) f = other _ _ _ _ _ (λ p. p) (λ p. p) (λ a e. cc)
      by l (judge a) f = other _ _ _ _ _ (λ p. p) (λ p. p) (λ a e. cc)

  no_choice : {P Q : Type 0} → P ↔ (Unit {0} × Q) → P ↔ Q
  no_choice h = (λ p. (h.0 p).1, λ q. h.1 (tt, q))

pub taken_law : TakenLaw
taken_law m T W cs = record {
  needs = λ xs. no_choice m T W (taken m T W (λ _. need xs) (Needs m T W xs) (needs_step m T W xs) (λ p. p.0 refl) cs);
  prices = λ d ns. no_choice m T W (taken m T W (λ _. price d ns) (PricesAre m T W d ns) (prices_step m T W d ns) (λ p. let e = p.0 in cc) cs);
  runs = λ u es. taken m T W (run u es) (RunIs m T W u es) (run_step m T W u es) (λ p. some_none es (sym p)) cs;
  mixes = λ x. no_choice m T W (taken m T W (λ _. mix x.unit x.weight x.schedule) (Mixed m T W x) (mix_step m T W x) (λ p. let z = p.1 in absurd (omega arith)) cs);
}
