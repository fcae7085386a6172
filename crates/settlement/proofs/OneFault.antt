-- A call is declined with one number and place. Assumes nothing.
use Rattle.std.proofs.Common.{◌≡◌, ℕ, Some, sym, ◌∙◌, inl, inr, ⊎_elim, arith}
use Rattle.std.proofs.lemmas.Bool.{cases_lt}
use Rattle.fleet.specs.Units.{Meaning}
use Rattle.fleet.specs.Rows.{Fault}
use Rattle.settlement.specs.Ledger.{Ledger, Call, need, price, run, mix, supply, show, judge}
use Rattle.settlement.specs.Evidence.{Ran, RunsMeet, Whole, MixesMeet}
use Rattle.settlement.specs.Reasons.{FirstNot, here, reason, nothing, wrong, OneFaultLaw}
use Rattle.settlement.proofs.Ledgers.{some_none}

pub same_fault : (f g : Fault) → f.number ≡ g.number → f.place ≡ g.place → f ≡ g
same_fault f g n p = make f.number f.place g.number g.place n p
  where
    make : (a b c d : ℕ) → a ≡ c → b ≡ d → ◌≡◌ {A = Fault} (record { number = a; place = b }) (record { number = c; place = d })
    make a b c d p q = cc

-- at most one place, at most one fault
record SinglePlace (At : ℕ → Type 0) : Type 0 where
  one : (p q : ℕ) → At p → At q → p ≡ q

record SingleFault (After : Fault → Type 0) : Type 0 where
  one : (f g : Fault) → After f → After g → f ≡ g

one_here : (place : ℕ) (A : Type 0) → SinglePlace (here place A)
one_here place A = record { one = λ p q h k. h.0 ∙ sym k.0 }

pub first_not_one : (n : ℕ) (P : ℕ → Type 0) (p q : ℕ) → FirstNot n P p → FirstNot n P q → p ≡ q
first_not_one n P p q h k =
    ⊎_elim
    (λ lt. absurd (h.fails (k.before p lt)))
    (λ ge. ⊎_elim (λ lt. absurd (k.fails (h.before q lt))) (λ le. let same : p ≡ q = omega arith in same) (cases_lt q p))
    (cases_lt p q)

one_first : (n : ℕ) (P : ℕ → Type 0) → SinglePlace (FirstNot n P)
one_first n P = record { one = first_not_one n P }

one_nothing : SingleFault nothing
one_nothing = record { one = λ f g h k. absurd h }

one_reason : (n : ℕ) (At : ℕ → Type 0) (after : Fault → Type 0) → SinglePlace At → SingleFault after → SingleFault (reason n At after)
one_reason n At after place rest = record { one = by }
  where
    by : (f g : Fault) → reason n At after f → reason n At after g → f ≡ g
    by f g (inl h) (inl k) = same_fault f g (h.0 ∙ sym k.0) (place.one f.place g.place h.1 k.1)
    by f g (inl h) (inr k) = absurd (k.0 f.place h.1)
    by f g (inr h) (inl k) = absurd (h.0 g.place k.1)
    by f g (inr h) (inr k) = rest.one f g h.1 k.1

one_wrong : (m : Meaning) (T W : ℕ) (l : Ledger) (c : Call) → SingleFault (wrong m T W l c)
one_wrong m T W l (need xs) = one_nothing
one_wrong m T W l (price d ns) = one_nothing
one_wrong m T W l (run u es slots) = one_reason 31 _ _ (one_here u _) one_nothing
one_wrong m T W l (mix u w es) = one_nothing
one_wrong m T W l (supply u fewer more) = one_reason 31 _ _ (one_here u _) (one_reason 32 _ _ (one_here u _) one_nothing)
one_wrong m T W l (show u slots room) = one_reason 31 _ _ (one_here u _) (one_reason 32 _ _ (one_here u _) one_nothing)
one_wrong m T W l (judge room) =
    one_reason 31 _ _ (one_here 0 _)
    (one_reason 41 _ _ (one_first m.units (Ran l))
    (one_reason 42 _ _ (one_first T (RunsMeet m l))
    (one_reason 43 _ _ (one_first m.units (Whole W l))
    (one_reason 44 _ _ (one_first T (MixesMeet W l)) one_nothing))))

same_some : (f g : Fault) → Some f ≡ Some g → f ≡ g
same_some f g e = cc

pub one_fault : OneFaultLaw
one_fault m T W l c f g (inl h) (inl k) = same_some f g (sym h ∙ k)
one_fault m T W l c f g (inl h) (inr k) = some_none f (sym h ∙ k.0)
one_fault m T W l c f g (inr h) (inl k) = some_none g (sym k ∙ h.0)
one_fault m T W l c f g (inr h) (inr k) = (one_wrong m T W l c).one f g h.1 k.1
