-- The rule of steam units period by period, each with the history before it. Assumes nothing.
use Rattle.std.proofs.Common.{◌≡◌, ℕ, zero, suc, ◌-◌, ◌≤◌, Bool, List, [], ◌∷◌, length, ℤ, pos, ◌+ℤ◌, nat_le, slice_index_or, refl, sym, ap, subst, ◌∙◌, inl, inr, suc-le-suc, le_of_suc-le-suc, arith}
use Rattle.std.proofs.Math.Path.{fun_ext}
use Rattle.std.proofs.lemmas.Bool.{cases_order, cond-true, cond-false, le-leb, lt-leb}
use Rattle.terms.specs.Sums.{sum_to}
use Rattle.terms.proofs.Sums.{sum_to_first}
use Rattle.reader.specs.declared.numbers.SteamNumbers.{SteamNumbers}
use Rattle.units.proofs.Follow.{Story, Told, told_cost, past}
use Rattle.units.specs.SteamRules.{runs, status, Period, period_cost, ObeysAfter, cost_after, history}

-- a history with one more period
abbrev pub push : Bool → (ℕ → Bool) → ℕ → Bool
push b h zero = b
push b h (suc k) = h k

abbrev pub story : SteamNumbers → Story (ℕ → Bool)
story n = record {
  then = λ h q. push (runs q) h;
  Keeps = λ h q. Period n (push (runs q) h) q;
  Ends = λ h. Unit {0};
  price = λ h q. period_cost n (push (runs q) h) q;
}

status_begin : (h : ℕ → Bool) (qs : List ℤ) (k : ℕ) → status h qs 0 (suc k) ≡ h k
status_begin h qs k = let e : suc k - 0 - 1 ≡ k = omega arith in cond-false (nat_le (suc k) 0) _ _ (lt-leb (suc k) 0 (omega arith)) ∙ ap h e

status_first : (h : ℕ → Bool) (q : ℤ) (qs : List ℤ) (k : ℕ) → status h (q ∷ qs) 0 k ≡ push (runs q) h k
status_first h q qs zero = refl
status_first h q qs (suc k) = status_begin h (q ∷ qs) k

status_next : (h : ℕ → Bool) (q : ℤ) (qs : List ℤ) (t k : ℕ) → status h (q ∷ qs) (suc t) k ≡ status (push (runs q) h) qs t k
status_next h q qs t k =
    elim (cases_order k (suc t)) [
      | inl e ↦
          let d : suc t - k ≡ 0 = omega arith in
          let f : k - t - 1 ≡ 0 = omega arith in
          cond-true (nat_le k (suc t)) _ _ (le-leb k (suc t) (omega arith)) ∙ ap (λ i. runs (slice_index_or (q ∷ qs) i (pos 0))) d
          ∙ sym (cond-false (nat_le k t) _ _ (lt-leb k t (omega arith)) ∙ ap (push (runs q) h) f)
      | inr o ↦ elim o [
        | inl l ↦
            let d : suc t - k ≡ suc (t - k) = omega arith in
            cond-true (nat_le k (suc t)) _ _ (le-leb k (suc t) (omega arith)) ∙ ap (λ i. runs (slice_index_or (q ∷ qs) i (pos 0))) d
            ∙ sym (cond-true (nat_le k t) _ _ (le-leb k t (omega arith)))
        | inr g ↦
            let f : k - t - 1 ≡ suc (k - suc t - 1) = omega arith in
            cond-false (nat_le k (suc t)) _ _ (lt-leb k (suc t) (omega arith))
            ∙ sym (cond-false (nat_le k t) _ _ (lt-leb k t (omega arith)) ∙ ap (push (runs q) h) f)
      ]
    ]

at_first : (h : ℕ → Bool) (q : ℤ) (qs : List ℤ) → status h (q ∷ qs) 0 ≡ push (runs q) h
at_first h q qs = fun_ext (status_first h q qs)

at_next : (h : ℕ → Bool) (q : ℤ) (qs : List ℤ) (t : ℕ) → status h (q ∷ qs) (suc t) ≡ status (push (runs q) h) qs t
at_next h q qs t = fun_ext (status_next h q qs t)

pub to_each : (n : SteamNumbers) (h : ℕ → Bool) (qs : List ℤ) → ObeysAfter n h qs → Told (story n) h qs
to_each n h [] o = tt
to_each n h (q ∷ qs) o = (
  subst (λ w. Period n w q) (at_first h q qs) (o 0 (omega arith)),
  to_each n (push (runs q) h) qs (λ t l. subst (λ w. Period n w (slice_index_or qs t (pos 0))) (at_next h q qs t) (o (suc t) (suc-le-suc l))),
)

pub from_each : (n : SteamNumbers) (h : ℕ → Bool) (qs : List ℤ) → Told (story n) h qs → ObeysAfter n h qs
from_each n h [] o t l = absurd (omega arith)
from_each n h (q ∷ qs) o zero l = subst (λ w. Period n w q) (sym (at_first h q qs)) o.0
from_each n h (q ∷ qs) o (suc t) l =
    subst (λ w. Period n w (slice_index_or qs t (pos 0))) (sym (at_next h q qs t)) (from_each n (push (runs q) h) qs o.1 t (le_of_suc-le-suc l))

pub same_total : (n : SteamNumbers) (h : ℕ → Bool) (qs : List ℤ) → cost_after n h qs ≡ told_cost (story n) h qs
same_total n h [] = refl
same_total n h (q ∷ qs) =
    sum_to_first (length qs) (λ t. period_cost n (status h (q ∷ qs) t) (slice_index_or (q ∷ qs) t (pos 0)))
    ∙ ap (λ w. period_cost n w q +ℤ sum_to (length qs) (λ t. period_cost n (status h (q ∷ qs) (suc t)) (slice_index_or qs t (pos 0)))) (at_first h q qs)
    ∙ ap (λ f. period_cost n (push (runs q) h) q +ℤ sum_to (length qs) f) (fun_ext (λ t. ap (λ w. period_cost n w (slice_index_or qs t (pos 0))) (at_next h q qs t)))
    ∙ ap (λ z. period_cost n (push (runs q) h) q +ℤ z) (same_total n (push (runs q) h) qs)

pub past_history : (n : SteamNumbers) (h : ℕ → Bool) (qs : List ℤ) (t : ℕ) → t ≤ length qs → past (story n) h qs t ≡ history h qs t
past_history n h qs zero l = fun_ext (λ k. sym (status_begin h qs k))
past_history n h [] (suc t) l = absurd (omega arith)
past_history n h (q ∷ qs) (suc t) l = past_history n (push (runs q) h) qs t (le_of_suc-le-suc l) ∙ fun_ext (λ k. sym (status_next h q qs t (suc k)))
