-- A ramp unit is sound, and its schedules are those that keep the inequalities. Assumes nothing.
use Rattle.std.proofs.Common.{◌≡◌, ℕ, zero, suc, ◌+◌, ◌-◌, ◌<◌, ◌≤◌, Bool, true, false, cond, ◌&&◌, List, [], ◌∷◌, length, ℤ, pos, negsuc, ◌+ℤ◌, ◌≤ℤ◌, nat_le, nat_lt, slice_index_or, unsigned_abs, refl, sym, ap, subst, ◌∙◌, suc-le-suc, le_of_suc-le-suc, arith}
use Rattle.std.proofs.lemmas.Int.{ints}
use Rattle.std.proofs.lemmas.Bool.Decides.{nat_tests}
use Rattle.std.proofs.lemmas.Bool.{cond_both, ltb-true, ltb-false, le-leb, leb-true, and_parts, and_from}
use Rattle.terms.specs.Numbers.{Near}
use Rattle.terms.specs.Sums.{sum_to}
use Rattle.terms.proofs.Bounds.{near_zero, near_pos, near_add, near_more}
use Rattle.terms.proofs.Sums.{sum_to_first}
use Rattle.fleet.specs.Units.{among}
use Rattle.fleet.proofs.Arcs.{among_low, among_high, among_from}
use Rattle.reader.specs.declared.numbers.Run.{Run}
use Rattle.reader.specs.declared.numbers.Rate.{Rate}
use Rattle.reader.specs.declared.numbers.RampNumbers.{RampNumbers}
use Rattle.units.specs.Fill.{fill}
use Rattle.units.specs.Links.{model_of}
use Rattle.units.specs.RampUnits.{output_in, state_at, may_move, just, ramp_charge, ramp_links}
use Rattle.units.specs.SteamRules.{runs}
use Rattle.units.specs.RampRules.{RampedBy, Ramped, RampObeys, StateOf, RampIn, ramp_period, ramp_cost, RampRule}
use Rattle.units.proofs.Fairs.{FairRun, FairRamp}
use Rattle.units.proofs.Fills.{fill_small}
use Rattle.units.specs.Agree.{Agrees}
use Rattle.units.proofs.KindFacts.{of_open_kind}
use Rattle.units.proofs.Follow.{Story, Told, told_cost, past, Tracking, Moves, Moved, follows, reworded}
use Rattle.units.proofs.SoundLinks.{SoundLinks}

-- 0, or lo to hi
record Within (r : Run) (n : ℕ) : Type 0 where
  pub low : 0 < n → r.lo ≤ n
  pub high : n ≤ r.hi

abbrev states_of : Run → ℕ
states_of r = r.hi - r.lo + 2

output_state : (r : Run) (f : FairRun r) (n : ℕ) → (0 < n → r.lo ≤ n) → output_in r (state_at r n) ≡ n
output_state r f n i = let l = f.lo in grind (arith, nat_tests)

state_within : (r : Run) (n : ℕ) → n ≤ r.hi → state_at r n < states_of r
state_within r n i = grind (arith, nat_tests)

state_output : (r : Run) (f : FairRun r) (b : ℕ) → state_at r (output_in r b) ≡ b
state_output r f b = let l = f.lo in grind (arith, nat_tests)

output_low : (r : Run) (b : ℕ) → 0 < output_in r b → r.lo ≤ output_in r b
output_low r b h = grind (arith, nat_tests)

output_high : (r : Run) (f : FairRun r) (b : ℕ) → b < states_of r → output_in r b ≤ r.hi
output_high r f b h = let l = f.order in grind (arith, nat_tests)

abbrev moving : Rate → ℕ → ℕ → Bool → Bool → Bool
moving v m n x y = cond x (cond y (nat_le n (m + v.step) && nat_le m (n + v.step)) (nat_le m v.edge)) (cond y (nat_le n v.edge) true)

ramped_by : (k : RampNumbers) (m n : ℕ) (x y : Bool) → nat_lt 0 m ≡ x → nat_lt 0 n ≡ y → Within k.run n → moving k.rate m n x y ≡ true → RampedBy k (pos m) (pos n) (cond x 1 0) (cond y 1 0)
ramped_by k m n true true e d j h =
    let p = and_parts (nat_le n (m + k.rate.step)) _ h in
    let u = leb-true n (m + k.rate.step) p.0 in
    let v = leb-true m (n + k.rate.step) p.1 in
    let l = j.low (ltb-true 0 n d) in
    let i = j.high in
    record { low = omega (arith, ints); high = omega (arith, ints); rises = omega (arith, ints); falls = omega (arith, ints) }
ramped_by k m n true false e d j h =
    let u = leb-true m k.rate.edge h in
    let z = ltb-false 0 n d in
    record { low = omega (arith, ints); high = omega (arith, ints); rises = omega (arith, ints); falls = omega (arith, ints) }
ramped_by k m n false true e d j h =
    let u = leb-true n k.rate.edge h in
    let z = ltb-false 0 m e in
    let l = j.low (ltb-true 0 n d) in
    let i = j.high in
    record { low = omega (arith, ints); high = omega (arith, ints); rises = omega (arith, ints); falls = omega (arith, ints) }
ramped_by k m n false false e d j h =
    let z = ltb-false 0 m e in
    let w = ltb-false 0 n d in
    record { low = omega (arith, ints); high = omega (arith, ints); rises = omega (arith, ints); falls = omega (arith, ints) }

moving_by : (k : RampNumbers) (m n : ℕ) (x y : Bool) → nat_lt 0 m ≡ x → nat_lt 0 n ≡ y → RampedBy k (pos m) (pos n) (cond x 1 0) (cond y 1 0) → moving k.rate m n x y ≡ true
moving_by k m n true true e d h =
    let u = h.rises in
    let v = h.falls in
    and_from (nat_le n (m + k.rate.step)) _ (le-leb n (m + k.rate.step) (omega (arith, ints))) (le-leb m (n + k.rate.step) (omega (arith, ints)))
moving_by k m n true false e d h = let z = ltb-false 0 n d in let v = h.falls in le-leb m k.rate.edge (omega (arith, ints))
moving_by k m n false true e d h = let z = ltb-false 0 m e in let u = h.rises in le-leb n k.rate.edge (omega (arith, ints))
moving_by k m n false false e d h = refl

within_by : (k : RampNumbers) (p : ℤ) (n x : ℕ) (y : Bool) → nat_lt 0 n ≡ y → RampedBy k p (pos n) x (cond y 1 0) → Within k.run n
within_by k p n x true d h = let l = h.low in let i = h.high in record { low = λ _. omega (arith, ints); high = omega (arith, ints) }
within_by k p n x false d h = let z = ltb-false 0 n d in record { low = λ i. absurd (omega arith); high = omega arith }

whole : (q : ℤ) (n : ℕ) → pos n ≤ℤ q → q ≡ pos (unsigned_abs q)
whole (pos m) n h = refl
whole (negsuc m) n h = absurd (omega (arith, ints))

same : (q : ℤ) (n : ℕ) → pos n ≤ℤ q → q ≤ℤ pos n → q ≡ pos n
same q n h k = omega (arith, ints)

just_itself : (n : ℕ) → among (just n) (pos n) ≡ true
just_itself n = among_from (just n) (pos n) (omega (arith, ints)) (omega (arith, ints))

-- the state is that of the output before
record At (k : RampNumbers) (p : ℤ) (a : ℕ) : Type 0 where
  pub within : a < states_of k.run
  pub is : p ≡ pos (output_in k.run a)

abbrev state_of : RampNumbers → ℤ → ℕ
state_of k q = cond (runs q) (unsigned_abs q + 1 - k.run.lo) 0

abbrev go : RampNumbers → ℕ → ℤ → ℕ
go k a q = state_of k q

abbrev story : RampNumbers → Story ℤ
story k = record { then = λ p q. q; Keeps = Ramped k; Ends = λ p. Unit {0}; price = ramp_period k }

module _ (k : RampNumbers) (f : FairRamp k) where
  moves : (a b : ℕ) (p q : ℤ) → At k p a → b < states_of k.run → may_move k.rate (output_in k.run a) (output_in k.run b) ≡ true → among (just (output_in k.run b)) q ≡ true → Moves (ramp_links k) (story k) (go k) p a b q
  moves a b p q x i y o =
      let m = output_in k.run a in
      let n = output_in k.run b in
      let qe : q ≡ pos n = same q n (among_low (just n) q o) (among_high (just n) q o) in
      let high = output_high k.run f.run b i in
      let keeps : Ramped k (pos m) (pos n) = ramped_by k m n (nat_lt 0 m) (nat_lt 0 n) refl refl (record { low = output_low k.run b; high = high }) y in
      record {
        to = sym (ap (state_of k) qe ∙ state_output k.run f.run b);
        keeps = subst (λ z. Ramped k z q) (sym x.is) (subst (Ramped k (pos m)) (sym qe) keeps);
        price = ap (ramp_period k (pos m)) (sym qe) ∙ ap (λ z. ramp_period k z q) (sym x.is);
      }

  moved_at : (a n : ℕ) → a < states_of k.run → Ramped k (pos (output_in k.run a)) (pos n) → Moved (ramp_links k) (λ a q. state_at k.run n) a (pos n)
  moved_at a n i o =
      let w = within_by k (pos (output_in k.run a)) n _ (nat_lt 0 n) refl o in
      let e : output_in k.run (state_at k.run n) ≡ n = output_state k.run f.run n w.low in
      let y = moving_by k (output_in k.run a) n (nat_lt 0 (output_in k.run a)) (nat_lt 0 n) refl refl o in
      record {
        within = state_within k.run n w.high;
        linked = subst (λ z. may_move k.rate (output_in k.run a) z ≡ true) (sym e) y;
        among = subst (λ z. among (just z) (pos n) ≡ true) (sym e) (just_itself n);
      }

  moved : (a : ℕ) (p q : ℤ) → At k p a → Ramped k p q → Moved (ramp_links k) (go k) a q
  moved a p q x o =
      let e = whole q _ o.low in
      let m = moved_at a (unsigned_abs q) x.within (subst (λ z. Ramped k z (pos (unsigned_abs q))) x.is (subst (Ramped k p) e o)) in
      subst (Moved (ramp_links k) (go k) a) (sym e) (record { within = m.within; linked = m.linked; among = m.among })

  next_at : (p : ℤ) (n : ℕ) → Ramped k p (pos n) → At k (pos n) (state_at k.run n)
  next_at p n o =
      let w = within_by k p n _ (nat_lt 0 n) refl o in
      record { within = state_within k.run n w.high; is = ap pos (sym (output_state k.run f.run n w.low)) }

  tracking : Tracking (ramp_links k) (story k) (go k) (At k)
  tracking = record {
    within = λ a p x. x.within;
    moves = λ a b p q x i y o. moves a b p q x i y o;
    moved = λ a p q x o. moved a p q x o;
    next = λ a p q x o. let e = whole q _ o.low in subst (λ z. At k z (state_of k z)) (sym e) (next_at p (unsigned_abs q) (subst (Ramped k p) e o));
    ends = λ a p x l. tt;
    ended = λ a p x l. refl;
  }

  starts : At k (pos k.was) (ramp_links k).start
  starts = record { within = state_within k.run k.was f.was_high; is = ap pos (sym (output_state k.run f.run k.was f.was_low)) }

-- period by period, and over all periods
abbrev AllPeriods : RampNumbers → ℤ → List ℤ → Type 0
AllPeriods k p qs = (t : ℕ) → t < length qs → Ramped k (slice_index_or (p ∷ qs) t (pos 0)) (slice_index_or qs t (pos 0))

to_all : (k : RampNumbers) (p : ℤ) (qs : List ℤ) → Told (story k) p qs → AllPeriods k p qs
to_all k p [] o t l = absurd (omega arith)
to_all k p (q ∷ qs) o zero l = o.0
to_all k p (q ∷ qs) o (suc t) l = to_all k q qs o.1 t (le_of_suc-le-suc l)

from_all : (k : RampNumbers) (p : ℤ) (qs : List ℤ) → AllPeriods k p qs → Told (story k) p qs
from_all k p [] o = tt
from_all k p (q ∷ qs) o = (o 0 (omega arith), from_all k q qs (λ t l. o (suc t) (suc-le-suc l)))

same_cost : (k : RampNumbers) (p : ℤ) (qs : List ℤ) → told_cost (story k) p qs ≡ sum_to (length qs) (λ t. ramp_period k (slice_index_or (p ∷ qs) t (pos 0)) (slice_index_or qs t (pos 0)))
same_cost k p [] = refl
same_cost k p (q ∷ qs) =
    ap (λ z. ramp_period k p q +ℤ z) (same_cost k q qs)
    ∙ sym (sum_to_first (length qs) (λ t. ramp_period k (slice_index_or (p ∷ q ∷ qs) t (pos 0)) (slice_index_or (q ∷ qs) t (pos 0))))

past_output : (k : RampNumbers) (p : ℤ) (qs : List ℤ) (t : ℕ) → t ≤ length qs → past (story k) p qs t ≡ slice_index_or (p ∷ qs) t (pos 0)
past_output k p qs zero l = refl
past_output k p [] (suc t) l = absurd (omega arith)
past_output k p (q ∷ qs) (suc t) l = past_output k q qs t (le_of_suc-le-suc l)

state_as : (k : RampNumbers) (p : ℤ) (a : ℕ) → p ≡ pos (output_in k.run a) → StateOf k p a
state_as k p zero e = e
state_as k p (suc j) e = let o : output_in k.run (suc j) ≡ k.run.lo + j = grind (arith, nat_tests) in e ∙ ap pos o

ramp_agrees : (k : RampNumbers) → FairRamp k → Agrees (model_of (ramp_links k)) (RampObeys k) (RampIn k) (ramp_cost k)
ramp_agrees k f =
    let p = pos k.was in
    reworded (model_of (ramp_links k)) (Told (story k) p) (RampObeys k) (λ qs t a. At k (past (story k) p qs t) a) (RampIn k) (told_cost (story k) p) (ramp_cost k) (to_all k p) (from_all k p) (λ qs t a l x. state_as k _ a (sym (past_output k p qs t l) ∙ x.is)) (same_cost k p)
    (follows (ramp_links k) (story k) (go k) (At k) (tracking k f) p (starts k f))

pub ramp_stands : (k : RampNumbers) → FairRamp k → RampRule k
ramp_stands k f = (of_open_kind (ramp_links k) (RampObeys k) (RampIn k) (ramp_cost k) (λ a. refl) (ramp_agrees k f), λ a. record { number = refl; arcs = λ t a b. refl; costs = λ t a b x. refl; ends = λ b. refl })

-- bounds --

start_few : (k : RampNumbers) (f : FairRamp k) (m : ℕ) → cond (nat_lt 0 m) 0 k.start ≤ 100000000
start_few k f m = let s = f.start in grind (arith, nat_tests)

charge_on : (k : RampNumbers) (f : FairRamp k) (m n : ℕ) → n ≤ 500 → Near 500000000 (pos (k.idle + cond (nat_lt 0 m) 0 k.start) +ℤ fill k.steps.places n)
charge_on k f m n l =
    let i = f.idle in
    let s = start_few k f m in
    near_more 450000000 500000000 _ (omega arith)
    (near_add 200000000 250000000 _ _ (near_pos 200000000 (k.idle + cond (nat_lt 0 m) 0 k.start) (omega arith)) (fill_small k.steps.places n l f.steps))

charge_near : (k : RampNumbers) (f : FairRamp k) (m n : ℕ) → n ≤ 500 → Near 500000000 (ramp_charge k m n)
charge_near k f m n l =
    cond_both (nat_lt 0 n) (pos (k.idle + cond (nat_lt 0 m) 0 k.start) +ℤ fill k.steps.places n) (pos 0) (Near 500000000) (λ e. charge_on k f m n l) (λ e. near_zero 500000000)

output_few : (k : RampNumbers) (f : FairRamp k) (b : ℕ) → b < states_of k.run → output_in k.run b ≤ 500
output_few k f b i = let h = output_high k.run f.run b i in let l = f.run.hi in omega arith

itself : (x : ℤ) → x ≤ℤ x
itself x = omega (arith, ints)

pub ramp_sound : (k : RampNumbers) → FairRamp k → SoundLinks (ramp_links k)
ramp_sound k f =
    let u = f.narrow in
    record {
      some_state = omega arith;
      few_states = omega arith;
      starts = (starts k f).within;
      outputs = λ a b i j y. let n = near_pos 500 (output_in k.run b) (output_few k f b j) in (n, n, itself _);
      costs = λ a b q i j y o. charge_near k f (output_in k.run a) (output_in k.run b) (output_few k f b j);
    }
