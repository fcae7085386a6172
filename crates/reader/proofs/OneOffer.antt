-- Offers that are written alike are the same offer. Assumes nothing.
use Rattle.std.proofs.Common.{◌≡◌, Bool, true, List, [], ◌∷◌, length, pos, sym, refl, ap, ◌∙◌, inl, inr, arith}
use mathlib.Core.Path.{PathP}
use mathlib.Core.HLevel.{is_prop→PathP}
use Rattle.std.specs.Coded.{Coded-set, coded_bool, coded_ℕ, le_prop}
use Rattle.std.specs.Prelude.{◌≤◌, ◌==◌, ◌&&◌, nat_le}
use Rattle.std.specs.List.{list_all}
use Rattle.std.proofs.lemmas.Int.{ints}
use Rattle.std.proofs.lemmas.Bool.{cases_Bool, and_parts, cond-true, cond-false, leb-true, eqb-true, ne_eqb}
use Rattle.terms.proofs.Bounds.{near_test}
use Rattle.reader.specs.declared.steps.Step.{Step}
use Rattle.reader.specs.declared.steps.Steps.{Steps}
use Rattle.reader.specs.declared.numbers.LakeNumbers.{LakeNumbers}
use Rattle.reader.specs.declared.steam.Steam.{Steam as ASteam}
use Rattle.reader.specs.declared.ramp.Ramp.{Ramp as ARamp}
use Rattle.reader.specs.declared.lake.Lake.{Lake as ALake}
use Rattle.reader.specs.declared.buyer.Buyer.{Buyer as ABuyer}
use Rattle.reader.specs.declared.offer.Offer.{Offer}
use Rattle.reader.specs.declared.offer.Offer.TheVariants.{Steam, Ramp, Lake, Buyer}
use Rattle.reader.specs.declared.names.FormName.{FormName}
use Rattle.reader.specs.declared.names.FormName.TheVariants as name
use Rattle.reader.specs.Agreement.{used}
use Rattle.reader.specs.OfferParts.{SteamValues, RampValues}
use Rattle.reader.specs.Steps.{fair_step, fair_places, fair_rest, lots_in, unused}
use Rattle.reader.specs.Offers.{fair_run, fair_times, fair_costs, fair_was, fills, narrow, fair_rate, fair_money, fair_output, fair_lake, no_price_below}
use Rattle.reader.specs.Forms.{Values, Line, offer_line}

-- the places of steps --

same_step : (s t : Step) → s.lots ≡ t.lots → s.price ≡ t.price → s ≡ t
same_step s t l p = λ i. record { lots = l i; price = p i }

no_price : (s : Step) → unused s ≡ true → s.price ≡ pos 0
no_price s h = let n = near_test 0 s.price (and_parts (s.lots == 0) _ h).1 in omega (arith, ints, n.low, n.high)

no_lots : (s : Step) → unused s ≡ true → s.lots ≡ 0
no_lots s h = eqb-true s.lots 0 (and_parts (s.lots == 0) _ h).0

same_unused : (ss ts : List Step) → length ss ≡ length ts → list_all unused ss ≡ true → list_all unused ts ≡ true → ss ≡ ts
same_unused [] [] n h k = refl
same_unused [] (t ∷ ts) n h k = absurd (omega arith)
same_unused (s ∷ ss) [] n h k = absurd (omega arith)
same_unused (s ∷ ss) (t ∷ ts) n h k =
    let p = and_parts (unused s) _ h in
    let q = and_parts (unused t) _ k in
    let first = same_step s t (no_lots s p.0 ∙ sym (no_lots t q.0)) (no_price s p.0 ∙ sym (no_price t q.0)) in
    let others = same_unused ss ts (omega arith) p.1 q.1 in
    λ i. first i ∷ others i

no_clash : {P : Type 0} (s : Step) (ss : List Step) → [] ≡ s ∷ ss → P
no_clash s ss e = cc

heads : (s t : Step) (ss ts : List Step) → s ∷ ss ≡ t ∷ ts → s ≡ t
heads s t ss ts e = cc

tails : (s t : Step) (ss ts : List Step) → s ∷ ss ≡ t ∷ ts → ss ≡ ts
tails s t ss ts e = cc

-- steps in places of the same number, and after the last of them places that are not used
same_rest : (ss ts : List Step) → length ss ≡ length ts → fair_rest ss ≡ true → fair_rest ts ≡ true → used ss ≡ used ts → ss ≡ ts
same_rest [] [] n h k e = refl
same_rest [] (t ∷ ts) n h k e = absurd (omega arith)
same_rest (s ∷ ss) [] n h k e = absurd (omega arith)
same_rest (s ∷ ss) (t ∷ ts) n h k e =
    elim (cases_Bool (s.lots == 0)) [
      | inl y ↦ elim (cases_Bool (t.lots == 0)) [
        | inl z ↦ same_unused (s ∷ ss) (t ∷ ts) n (sym (cond-true (s.lots == 0) _ _ y) ∙ h) (sym (cond-true (t.lots == 0) _ _ z) ∙ k)
        | inr z ↦ no_clash t (used ts) (sym (cond-true (s.lots == 0) [] _ y) ∙ e ∙ cond-false (t.lots == 0) _ _ z)
      ]
      | inr y ↦ elim (cases_Bool (t.lots == 0)) [
        | inl z ↦ no_clash s (used ss) (sym (cond-true (t.lots == 0) [] _ z) ∙ sym e ∙ cond-false (s.lots == 0) _ _ y)
        | inr z ↦
            let both = sym (cond-false (s.lots == 0) [] _ y) ∙ e ∙ cond-false (t.lots == 0) _ _ z in
            let p = and_parts (fair_step s) _ (sym (cond-false (s.lots == 0) _ _ y) ∙ h) in
            let q = and_parts (fair_step t) _ (sym (cond-false (t.lots == 0) _ _ z) ∙ k) in
            let first = heads s t (used ss) (used ts) both in
            let others = same_rest ss ts (omega arith) p.1 q.1 (tails s t (used ss) (used ts) both) in
            λ i. first i ∷ others i
      ]
    ]

rest_of : (ss : List Step) → fair_places ss ≡ true → fair_rest ss ≡ true
rest_of [] h = refl
rest_of (s ∷ ss) h =
    let p = and_parts (nat_le 1 s.lots && nat_le s.lots 500) _ (and_parts (fair_step s) _ h).0 in
    let l = leb-true 1 s.lots (and_parts (nat_le 1 s.lots) _ p.0).0 in
    cond-false (s.lots == 0) _ _ (ne_eqb s.lots 0 (λ e. omega arith)) ∙ h

-- a test has one outcome, so a fact of the form `test ≡ true` moves along
along : {A : Type 0} (f : A → Bool) (x y : A) (e : x ≡ y) (h : f x ≡ true) (k : f y ≡ true) → PathP (λ i. f (e i) ≡ true) h k
along f x y e h k = is_prop→PathP (λ i. f (e i) ≡ true) (λ i. Coded-set coded_bool (f (e i)) true) h k

same_steps : (a b : Steps) → used a.places ≡ used b.places → a ≡ b
same_steps a b e =
    let p = same_rest a.places b.places (a.four ∙ sym b.four) (rest_of a.places a.fair) (rest_of b.places b.fair) e in
    λ i. record {
      places = p i;
      four = is_prop→PathP (λ j. length (p j) ≡ 4) (λ j. Coded-set coded_ℕ (length (p j)) 4) a.four b.four i;
      fair = along fair_places a.places b.places p a.fair b.fair i;
    }

-- offers of the same numbers --

same_steam : (a b : ASteam) → a.numbers ≡ b.numbers → a ≡ b
same_steam a b e =
    λ i. record {
      numbers = e i;
      run = along (λ n. fair_run n.run) a.numbers b.numbers e a.run b.run i;
      times = along (λ n. fair_times n.rest) a.numbers b.numbers e a.times b.times i;
      costs = along (λ n. fair_costs n.start n.idle) a.numbers b.numbers e a.costs b.costs i;
      was = along (λ n. fair_was n.was) a.numbers b.numbers e a.was b.was i;
      steps = along (λ n. fills n.steps n.run) a.numbers b.numbers e a.steps b.steps i;
    }

same_ramp : (a b : ARamp) → a.numbers ≡ b.numbers → a ≡ b
same_ramp a b e =
    λ i. record {
      numbers = e i;
      run = along (λ n. fair_run n.run) a.numbers b.numbers e a.run b.run i;
      narrow = along (λ n. narrow n.run) a.numbers b.numbers e a.narrow b.narrow i;
      rate = along (λ n. fair_rate n.rate n.run) a.numbers b.numbers e a.rate b.rate i;
      start = along (λ n. fair_money n.start) a.numbers b.numbers e a.start b.start i;
      idle = along (λ n. fair_money n.idle) a.numbers b.numbers e a.idle b.idle i;
      was = along (λ n. fair_output n.was n.run) a.numbers b.numbers e a.was b.was i;
      steps = along (λ n. fills n.steps n.run) a.numbers b.numbers e a.steps b.steps i;
    }

same_lake : (a b : ALake) → a.numbers ≡ b.numbers → a ≡ b
same_lake a b e = λ i. record { numbers = e i; fair = along fair_lake a.numbers b.numbers e a.fair b.fair i }

same_buyer : (a b : ABuyer) → a.steps ≡ b.steps → a ≡ b
same_buyer a b e =
    λ i. record {
      steps = e i;
      prices = along (λ s. no_price_below s.places) a.steps b.steps e a.prices b.prices i;
      few = is_prop→PathP (λ j. lots_in (e j).places ≤ 500) (λ j. le_prop) a.few b.few i;
    }

-- the values of an offer's line --

data Written : Type 0 where
  steam : SteamValues → Written
  ramp : RampValues → Written
  lake : LakeNumbers → Written
  buyer : List Step → Written
  other : Written

abbrev values_of : (k : FormName) → Values k → Written
values_of name.Day v = other
values_of name.Steam v = steam v
values_of name.Ramp v = ramp v
values_of name.Lake v = lake v
values_of name.Buyer v = buyer v
values_of name.Out v = other
values_of name.Need v = other
values_of name.Price v = other
values_of name.Run v = other
values_of name.Mix v = other
values_of name.Supply v = other
values_of name.Show v = other
values_of name.Judge v = other

abbrev written : Line → Written
written l = values_of l.name l.values

of_steam : (v w : SteamValues) → steam v ≡ steam w → v ≡ w
of_steam v w e = cc

of_ramp : (v w : RampValues) → ramp v ≡ ramp w → v ≡ w
of_ramp v w e = cc

of_lake : (v w : LakeNumbers) → lake v ≡ lake w → v ≡ w
of_lake v w e = cc

of_buyer : (v w : List Step) → buyer v ≡ buyer w → v ≡ w
of_buyer v w e = cc

clash : {P : Type 0} (a b : Written) → a ≡ b → (a ≡ b → ⊥) → P
clash a b e n = absurd (n e)

pub same_offer : (o p : Offer) → offer_line o ≡ offer_line p → o ≡ p
same_offer (Steam a) (Steam b) e =
    let v = of_steam _ _ (ap written e) in
    let s = same_steps a.numbers.steps b.numbers.steps (λ i. (v i).1.1.1.1.0) in
    let n : a.numbers ≡ b.numbers = λ i. record { run = (v i).0; rest = (v i).1.0; start = (v i).1.1.0; idle = (v i).1.1.1.0; steps = s i; was = (v i).1.1.1.1.1 } in
    ap Steam (same_steam a b n)
same_offer (Steam a) (Ramp b) e = clash _ _ (ap written e) (λ z. cc)
same_offer (Steam a) (Lake b) e = clash _ _ (ap written e) (λ z. cc)
same_offer (Steam a) (Buyer b) e = clash _ _ (ap written e) (λ z. cc)
same_offer (Ramp a) (Steam b) e = clash _ _ (ap written e) (λ z. cc)
same_offer (Ramp a) (Ramp b) e =
    let v = of_ramp _ _ (ap written e) in
    let s = same_steps a.numbers.steps b.numbers.steps (λ i. (v i).1.1.1.1.0) in
    let n : a.numbers ≡ b.numbers = λ i. record { run = (v i).0; rate = (v i).1.0; start = (v i).1.1.0; idle = (v i).1.1.1.0; steps = s i; was = (v i).1.1.1.1.1 } in
    ap Ramp (same_ramp a b n)
same_offer (Ramp a) (Lake b) e = clash _ _ (ap written e) (λ z. cc)
same_offer (Ramp a) (Buyer b) e = clash _ _ (ap written e) (λ z. cc)
same_offer (Lake a) (Steam b) e = clash _ _ (ap written e) (λ z. cc)
same_offer (Lake a) (Ramp b) e = clash _ _ (ap written e) (λ z. cc)
same_offer (Lake a) (Lake b) e = ap Lake (same_lake a b (of_lake _ _ (ap written e)))
same_offer (Lake a) (Buyer b) e = clash _ _ (ap written e) (λ z. cc)
same_offer (Buyer a) (Steam b) e = clash _ _ (ap written e) (λ z. cc)
same_offer (Buyer a) (Ramp b) e = clash _ _ (ap written e) (λ z. cc)
same_offer (Buyer a) (Lake b) e = clash _ _ (ap written e) (λ z. cc)
same_offer (Buyer a) (Buyer b) e = ap Buyer (same_buyer a b (same_steps a.steps b.steps (of_buyer _ _ (ap written e))))
