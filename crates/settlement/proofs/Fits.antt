-- Which calls a ledger takes, and why it holds one back. Assumes nothing.
use Rattle.std.proofs.Common.{◌≡◌, ◌≢◌, ℕ, ◌⊎◌, true, false, cond, eqb, length, Some, None, Option, refl, sym, ◌∙◌, subst, inl, inr}
use Rattle.std.proofs.lemmas.Bool.{cond-true, cond-false}
use Rattle.std.proofs.lemmas.Bool.Decides.{eqb_tells}
use Rattle.fleet.specs.Units.{Meaning}
use Rattle.fleet.specs.Rows.{Fault}
use Rattle.settlement.specs.Ledger.{Ledger, Stage, blank, needed, priced, Call, need, price, run, mix, supply, show, judge, is_blank, is_needed, is_priced, weighs, held_back, entered, unless, ledger}
use Rattle.settlement.specs.Reasons.{nothing, wrong}
use Rattle.settlement.specs.Entering.{Fits, held_by, FitsLaw, HeldLaw, DeclinedLaw, Leaves, EntersLaw}
use Rattle.settlement.proofs.Ledgers.{some_none, more}
use Rattle.settlement.proofs.Chains.{Test, test_true, test_false, ran_test, idle_test, below_test, same_test, room_test, rooms_test, weight_test, Chain, chain_end, chain_as, chain_check, chain_allow, chain_row, only_held}

-- stages --

blank_test : (s : Stage) → Test (is_blank s) (s ≡ blank) (s ≢ blank)
blank_test blank = test_true refl (λ h. h refl)
blank_test needed = test_false (λ e. cc) (λ e. cc)
blank_test priced = test_false (λ e. cc) (λ e. cc)

needed_test : (s : Stage) → Test (is_needed s) (s ≡ needed) (s ≢ needed)
needed_test blank = test_false (λ e. cc) (λ e. cc)
needed_test needed = test_true refl (λ h. h refl)
needed_test priced = test_false (λ e. cc) (λ e. cc)

priced_test : (s : Stage) → Test (is_priced s) (s ≡ priced) (s ≢ priced)
priced_test blank = test_false (λ e. cc) (λ e. cc)
priced_test needed = test_false (λ e. cc) (λ e. cc)
priced_test priced = test_true refl (λ h. h refl)

-- calls --

module _ (after : Fault → Type 0) (m : Meaning) (T W : ℕ) (l : Ledger) where
  chain : (c : Call) → Chain after (held_back m T W l c) (Fits m T W l c) (held_by m T W l c after)
  chain (need xs) =
      chain_as
      (chain_check 21 0 (blank_test l.stage)
      (chain_row T 32000 xs chain_end))
      (λ h. (h.0, record { long = h.1.0; each = h.1.1.0 }))
      (λ h. (h.0, (h.1.long, (h.1.each, tt))))
  chain (price d ns) =
      chain_as
      (chain_check 21 0 (needed_test l.stage)
      (chain_row T 1000000000 ns
      (chain_check 23 T (rooms_test 1 d d 1000) chain_end)))
      (λ h. (h.0, record { bounded = record { long = h.1.0; each = h.1.1.0 }; low = h.1.1.1.0.0; high = h.1.1.1.0.1 }))
      (λ h. (h.0, (h.1.bounded.long, (h.1.bounded.each, ((h.1.low, h.1.high), tt)))))
  chain (run u es slots) =
      chain_as
      (chain_check 21 u (priced_test l.stage)
      (chain_check 24 u (below_test u m.units)
      (chain_check 25 u (idle_test (l.runs u))
      (chain_check 26 u (same_test (length es) T)
      (chain_allow (m.model u) es
      (chain_check 30 u (room_test 3920 slots) chain_end))))))
      (λ h. (h.0, h.1.0, h.1.1.0, record { long = h.1.1.1.0; allowed = h.1.1.1.1.0 }, h.1.1.1.1.1.0))
      (λ h. (h.0, (h.1, (h.2, (h.3.long, (h.3.allowed, (h.4, tt)))))))
  chain (mix u w es) =
      chain_as
      (chain_check 21 u (priced_test l.stage)
      (chain_check 24 u (below_test u m.units)
      (chain_check 26 u (same_test (length es) T)
      (chain_allow (m.model u) es
      (chain_check 28 u (ran_test (l.runs u))
      (chain_check 29 u (weight_test w W (weighs u l.mixes)) chain_end))))))
      (λ h. (h.0, h.1.0, record { long = h.1.1.0; allowed = h.1.1.1.0 }, h.1.1.1.1.0, h.1.1.1.1.1.0.0, h.1.1.1.1.1.0.1))
      (λ h. (h.0, (h.1, (h.2.long, (h.2.allowed, (h.3, ((h.4, h.5), tt)))))))
  chain (supply u fewer more) =
      chain_as
      (chain_check 21 u (priced_test l.stage)
      (chain_check 24 u (below_test u m.units)
      (chain_check 30 u (rooms_test 3920 fewer 3920 more) chain_end)))
      (λ h. (h.0, h.1.0, h.1.1.0.0, h.1.1.0.1))
      (λ h. (h.0, (h.1, ((h.2, h.3), tt))))
  chain (show u slots room) =
      chain_as
      (chain_check 21 u (priced_test l.stage)
      (chain_check 24 u (below_test u m.units)
      (chain_check 30 u (rooms_test 3920 slots T room) chain_end)))
      (λ h. (h.0, h.1.0, h.1.1.0.0, h.1.1.0.1))
      (λ h. (h.0, (h.1, ((h.2, h.3), tt))))
  chain (judge room) =
      chain_as
      (chain_check 21 0 (priced_test l.stage)
      (chain_check 30 0 (room_test m.units room) chain_end))
      (λ h. (h.0, h.1.0))
      (λ h. (h.0, (h.1, tt)))

pub fits_law : FitsLaw
fits_law m T W l c = let t = chain nothing m T W l c in (t.none, t.free)

pub held_law : HeldLaw
held_law m T W l c f = let t = chain nothing m T W l c in (λ e. t.to f (inl e), λ h. only_held (held_back m T W l c) f (t.from f h))

pub declined_law : DeclinedLaw
declined_law m T W l c f = let t = chain (wrong m T W l c) m T W l c in (t.to f, t.from f)

module _ (m : Meaning) (T W : ℕ) (new old : Ledger) where
  unless_free : (o : Option Fault) → o ≡ None → unless m T W o new old ≡ new
  unless_free None e = refl
  unless_free (Some f) e = some_none f e

  unless_held : (o : Option Fault) → (o ≡ None → ⊥) → unless m T W o new old ≡ old
  unless_held None h = absurd (h refl)
  unless_held (Some f) h = refl

module _ (m : Meaning) (T W : ℕ) where
  leaves : (l : Ledger) (c : Call) → Leaves l c (entered m T W l c)
  leaves l (need xs) = (refl, refl, refl, λ u. refl, refl)
  leaves l (price d ns) = (refl, refl, refl, λ u. refl, refl)
  leaves l (run u es slots) = (refl, refl, refl, this (eqb_tells u u), λ v n. other v n (eqb_tells u v), refl)
    where
      this : ((eqb u u ≡ true) × (u ≡ u)) ⊎ ((eqb u u ≡ false) × (u ≢ u)) → cond (eqb u u) (Some es) (l.runs u) ≡ Some es
      this (inl h) = cond-true (eqb u u) (Some es) (l.runs u) h.0
      this (inr h) = absurd (h.1 refl)

      other : (v : ℕ) → v ≢ u → ((eqb u v ≡ true) × (u ≡ v)) ⊎ ((eqb u v ≡ false) × (u ≢ v)) → cond (eqb u v) (Some es) (l.runs v) ≡ l.runs v
      other v n (inl h) = absurd (n (sym h.1))
      other v n (inr h) = cond-false (eqb u v) (Some es) (l.runs v) h.0
  leaves l (mix u w es) = (refl, refl, refl, λ v. refl, refl)
  leaves l (supply u fewer more) = refl
  leaves l (show u slots room) = refl
  leaves l (judge room) = refl

pub enters_law : EntersLaw
enters_law = record {
  fits = λ m T W cs c h.
      let l = ledger m T W cs in
      let is = more m T W cs c ∙ unless_free m T W (entered m T W l c) l (held_back m T W l c) ((fits_law m T W l c).1 h) in
      subst (Leaves l c) (sym is) (leaves m T W l c);
  others = λ m T W cs c h. let l = ledger m T W cs in more m T W cs c ∙ unless_held m T W (entered m T W l c) l (held_back m T W l c) (λ e. h ((fits_law m T W l c).0 e));
}
