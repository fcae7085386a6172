-- Chains of checks, and what they tell. Assumes nothing.
use Rattle.std.proofs.Common.{◌≡◌, ◌≢◌, ℕ, ◌+◌, ◌-◌, ◌<◌, ◌≤◌, Bool, true, false, cond, not, ◌&&◌, eqb, ltb, leb, ◌⊎◌, List, length, get_or, ℤ, pos, Some, None, Option, sym, refl, ap, ◌∙◌, subst, inl, inr, arith}
use Rattle.std.specs.List.{prefix_len}
use Rattle.std.proofs.lemmas.Bool.{both_ways, ltb-true, ltb-false, eqb-true, eqb-false}
use Rattle.std.proofs.lemmas.Bool.Decides.{nat_tests}
use Rattle.std.proofs.lemmas.Option.{same_Some}
use Rattle.std.proofs.lemmas.List.Sums.{prefix_len_passes, prefix_len_stops}
use Rattle.terms.specs.Numbers.{Near, near}
use Rattle.terms.specs.declared.entry.Entry.{Entry}
use Rattle.terms.proofs.Bounds.{near_test, near_true}
use Rattle.fleet.specs.Units.{UnitModel}
use Rattle.fleet.specs.Schedules.{Allowed, FirstBad}
use Rattle.fleet.specs.Rows.{Fault, row_fault}
use Rattle.settlement.specs.Ledger.{has, bad_at, check, allow}
use Rattle.settlement.specs.Reasons.{FirstNot, here, reason, nothing}
use Rattle.settlement.specs.Entering.{row_held_by}
use Rattle.settlement.proofs.Ledgers.{no_clash, some_none, bad_none, allowed_none, bad_first, first_bad}
use Rattle.settlement.proofs.OneFault.{same_fault, first_not_one}

-- what a test tells --

pub record Test (ok : Bool) (Good Bad : Type 0) : Type 0 where
  pub good : ok ≡ true → Good
  pub bad : ok ≡ false → Bad
  pub never : Good → Bad → ⊥

pub test_true : {Good Bad : Type 0} → Good → (Bad → ⊥) → Test true Good Bad
test_true g h = record { good = λ e. g; bad = λ e. no_clash e; never = λ _ b. h b }

pub test_false : {Good Bad : Type 0} → Bad → (Good → ⊥) → Test false Good Bad
test_false b h = record { good = λ e. no_clash (sym e); bad = λ e. b; never = λ g _. h g }

pub ran_test : {X : Type 0} (o : Option X) → Test (has o) (has o ≡ true) (o ≡ None)
ran_test None = test_false refl (λ e. no_clash (sym e))
ran_test (Some x) = test_true refl (λ e. some_none x e)

pub idle_test : {X : Type 0} (o : Option X) → Test (not (has o)) (o ≡ None) (has o ≡ true)
idle_test None = test_true refl (λ e. no_clash (sym e))
idle_test (Some x) = test_false refl (λ e. some_none x e)

pub below_test : (u n : ℕ) → Test (ltb u n) (u < n) (n ≤ u)
below_test u n = record { good = λ e. grind (arith, nat_tests); bad = λ e. grind (arith, nat_tests); never = λ g b. omega arith }

pub same_test : (n k : ℕ) → Test (eqb n k) (n ≡ k) (n ≢ k)
same_test n k = record { good = λ e. eqb-true n k e; bad = λ e. eqb-false n k e; never = λ g b. b g }

pub room_test : (n a : ℕ) → Test (leb n a) (n ≤ a) (a < n)
room_test n a = record { good = λ e. grind (arith, nat_tests); bad = λ e. grind (arith, nat_tests); never = λ g b. omega arith }

pub rooms_test : (n a k b : ℕ) → Test (leb n a && leb k b) ((n ≤ a) × (k ≤ b)) ((a < n) ⊎ (b < k))
rooms_test n a k b = record { good = λ e. (grind (arith, nat_tests), grind (arith, nat_tests)); bad = λ e. grind (arith, nat_tests); never = λ g h. grind arith }

pub weight_test : (w W x : ℕ) → Test (leb 1 w && leb w (W - x)) ((1 ≤ w) × (w + x ≤ W)) ((w < 1) ⊎ (W < w + x))
weight_test w W x = record { good = λ e. (grind (arith, nat_tests), grind (arith, nat_tests)); bad = λ e. grind (arith, nat_tests); never = λ g h. grind arith }

-- a chain of checks --

-- nothing holds back where all is fit; what holds back, or what is wrong after that, is what the reasons say
pub record Chain (after : Fault → Type 0) (o : Option Fault) (fit : Type 0) (why : Fault → Type 0) : Type 0 where
  pub none : o ≡ None → fit
  pub free : fit → o ≡ None
  pub to : (f : Fault) → (o ≡ Some f) ⊎ ((o ≡ None) × after f) → why f
  pub from : (f : Fault) → why f → (o ≡ Some f) ⊎ ((o ≡ None) × after f)

same_parts : (a b : Fault) → Some a ≡ Some b → (b.number ≡ a.number) × (b.place ≡ a.place)
same_parts a b e = let s = sym (same_Some a b e) in (ap (λ (x : Fault). x.number) s, ap (λ (x : Fault). x.place) s)

module _ {after : Fault → Type 0} where
  pub chain_end : Chain after None (Unit {0}) after
  chain_end = record { none = λ e. tt; free = λ h. refl; to = go; from = λ f h. inr (refl, h) }
    where
      go : (f : Fault) → (◌≡◌ {A = Option Fault} None (Some f)) ⊎ (◌≡◌ {A = Option Fault} None None × after f) → after f
      go f (inl e) = some_none f (sym e)
      go f (inr h) = h.1

  pub chain_as : {o : Option Fault} {fit fit' : Type 0} {why : Fault → Type 0} → Chain after o fit why → (fit → fit') → (fit' → fit) → Chain after o fit' why
  chain_as t there back = record { none = λ e. there (t.none e); free = λ h. t.free (back h); to = t.to; from = t.from }

  -- where a check passes its reason holds nowhere
  chain_passed : {o : Option Fault} {good fit : Type 0} {why : Fault → Type 0} (n : ℕ) (At : ℕ → Type 0) → good → ((p : ℕ) → At p → ⊥) → Chain after o fit why → Chain after o (good × fit) (reason n At why)
  chain_passed {o = o} {why = why} n At g never t = record { none = λ e. (g, t.none e); free = λ h. t.free h.1; to = λ f h. inr (never, t.to f h); from = go }
    where
      go : (f : Fault) → reason n At why f → (o ≡ Some f) ⊎ ((o ≡ None) × after f)
      go f (inl h) = absurd (never f.place h.1)
      go f (inr h) = t.from f h.1

  -- where it fails its reason holds at this place only_held
  chain_failed : {good fit : Type 0} {why : Fault → Type 0} (n place : ℕ) (At : ℕ → Type 0) → (good → ⊥) → At place → ((p : ℕ) → At p → place ≡ p) → Chain after (Some (record { number = n; place = place })) (good × fit) (reason n At why)
  chain_failed {why = why} n place At bad holds only = record { none = λ e. some_none _ e; free = λ h. absurd (bad h.0); to = go; from = back }
    where
      this : Fault
      this = record { number = n; place = place }

      go : (f : Fault) → (Some this ≡ Some f) ⊎ ((Some this ≡ None) × after f) → reason n At why f
      go f (inl e) = let s = same_parts this f e in inl (s.0, subst At (sym s.1) holds)
      go f (inr h) = some_none this h.0

      back : (f : Fault) → reason n At why f → (Some this ≡ Some f) ⊎ ((Some this ≡ None) × after f)
      back f (inl h) = inl (ap Some (same_fault this f (sym h.0) (only f.place h.1)))
      back f (inr h) = absurd (h.0 place holds)

  pub chain_check : {ok : Bool} {o : Option Fault} {good bad fit : Type 0} {why : Fault → Type 0} (n p : ℕ) → Test ok good bad → Chain after o fit why → Chain after (check ok n p o) (good × fit) (reason n (here p bad) why)
  chain_check {ok = true} {bad = bad} n p test t = let g = test.good refl in chain_passed n (here p bad) g (λ q h. test.never g h.1) t
  chain_check {ok = false} {bad = bad} n p test t = let b = test.bad refl in chain_failed n p (here p bad) (λ g. test.never g b) (refl, b) (λ q h. sym h.0)

  pub chain_allow : {o : Option Fault} {fit : Type 0} {why : Fault → Type 0} (u : UnitModel) (es : List Entry) → Chain after o fit why → Chain after (allow (bad_at u es) o) (Allowed u es × fit) (reason 27 (FirstBad u es) why)
  chain_allow {o = o} {fit = fit} {why = why} u es t = by (bad_at u es) refl
    where
      by : (b : Option ℕ) → bad_at u es ≡ b → Chain after (allow b o) (Allowed u es × fit) (reason 27 (FirstBad u es) why)
      by None e = chain_passed 27 (FirstBad u es) (bad_none u es e) (λ k h. some_none k (sym (first_bad u es k h) ∙ e)) t
      by (Some k) e = chain_failed 27 k (FirstBad u es) (λ h. some_none k (sym e ∙ allowed_none u es h)) (bad_first u es k e) (λ j h. same_Some k j (sym e ∙ first_bad u es j h))

  module _ {o : Option Fault} {fit : Type 0} {why : Fault → Type 0} (T b : ℕ) (xs : List ℤ) (t : Chain after o fit why) where
    -- the numbers before the first that is beyond
    abbrev good : ℕ
    good = prefix_len (near b) xs

    abbrev Fine : ℕ → Type 0
    Fine k = Near b (get_or xs k (pos 0))

    passes : (k : ℕ) → k < good → Fine k
    passes k lt = near_test b (get_or xs k (pos 0)) (prefix_len_passes (near b) xs k (pos 0) lt)

    stops : good < length xs → Fine good → ⊥
    stops lt h = both_ways (near b (get_or xs good (pos 0))) (prefix_len_stops (near b) xs (pos 0) lt) (near_true b (get_or xs good (pos 0)) h)

    chain_values : length xs ≡ T → Chain after (cond (ltb good (length xs)) (Some (record { number = 23; place = good })) o) (((k : ℕ) → k < T → Fine k) × fit) (reason 23 (FirstNot T Fine) why)
    chain_values long = by (ltb good (length xs)) refl
      where
        by : (k : Bool) → ltb good (length xs) ≡ k → Chain after (cond k (Some (record { number = 23; place = good })) o) (((k : ℕ) → k < T → Fine k) × fit) (reason 23 (FirstNot T Fine) why)
        by true e =
            let lt = ltb-true good (length xs) e in
            let first : FirstNot T Fine good = record { below = omega arith; fails = stops lt; before = passes } in
            chain_failed 23 good (FirstNot T Fine) (λ h. stops lt (h good (omega arith))) first (λ p h. first_not_one T Fine good p first h)
        by false e =
            let all = ltb-false good (length xs) e in
            let fine : (k : ℕ) → k < T → Fine k = λ k lt. passes k (omega arith) in
            chain_passed 23 (FirstNot T Fine) fine (λ p h. h.fails (fine p h.below)) t

    pub chain_row : Chain after (row_fault T b xs o) ((length xs ≡ T) × (((k : ℕ) → k < T → Fine k) × fit)) (row_held_by T b xs why)
    chain_row = by (eqb (length xs) T) refl
      where
        by : (k : Bool) → eqb (length xs) T ≡ k → Chain after (cond k (cond (ltb good (length xs)) (Some (record { number = 23; place = good })) o) (Some (record { number = 22; place = 0 }))) ((length xs ≡ T) × (((k : ℕ) → k < T → Fine k) × fit)) (row_held_by T b xs why)
        by true e = let long = eqb-true (length xs) T e in chain_passed 22 (here 0 (length xs ≢ T)) long (λ p h. h.1 long) (chain_values long)
        by false e = let short = eqb-false (length xs) T e in chain_failed 22 0 (here 0 (length xs ≢ T)) short (refl, short) (λ p h. sym h.0)

-- where nothing comes after
pub only_held : (o : Option Fault) (f : Fault) → (o ≡ Some f) ⊎ ((o ≡ None) × nothing f) → o ≡ Some f
only_held o f (inl e) = e
only_held o f (inr h) = absurd h.1
