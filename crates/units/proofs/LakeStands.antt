-- A lake is sound, and its schedules are those of its rule. Assumes nothing.
use Rattle.std.proofs.Common.{◌≡◌, ℕ, zero, suc, ◌+◌, ◌-◌, ◌*◌, ◌<◌, ◌≤◌, true, List, [], ◌∷◌, length, ℤ, pos, negsuc, ◌+ℤ◌, neg_ℤ, ◌≤ℤ◌, nat_le, slice_index_or, unsigned_abs, refl, sym, ap, subst, ◌∙◌, inl, inr, suc-le-suc, le_of_suc-le-suc, mul-le-mul, arith}
use Rattle.std.proofs.lemmas.Int.{ints}
use Rattle.std.proofs.lemmas.Bool.{cases_Bool, cond-true, cond-false, le-leb, lt-leb, leb-true, leb-false}
use Rattle.terms.specs.Numbers.{Near}
use Rattle.terms.proofs.Bounds.{near_pos}
use Rattle.terms.proofs.Sums.{sum_to_first}
use Rattle.fleet.specs.Units.{among}
use Rattle.fleet.proofs.Arcs.{among_low, among_high, among_from}
use Rattle.reader.specs.declared.numbers.LakeNumbers.{LakeNumbers}
use Rattle.units.specs.Links.{model_of}
use Rattle.units.specs.LakeUnits.{drawn, flow, may_flow, distance, lake_links}
use Rattle.units.specs.LakeRules.{rise_of, Flows, moved, level_before, LakeFrom, LakeObeys, LakeIn, lake_cost, LakeRule, LakeSoFar}
use Rattle.units.proofs.Draws.{one_to_one, draws_something}
use Rattle.units.proofs.Fairs.{FairLake}
use Rattle.units.specs.Agree.{Agrees, open_ended}
use Rattle.units.proofs.KindFacts.{ends_all, of_kind}
use Rattle.units.proofs.Follow.{Story, Told, told_cost, past, Tracking, Moves, Moved, follows, reworded}
use Rattle.units.proofs.SoundLinks.{SoundLinks}

-- what an output says of the level --

at_draw : (s d : ℕ) → 1 ≤ d → drawn s ≡ d → moved (neg_ℤ (pos d)) ≡ pos s
at_draw s zero l e = absurd (omega arith)
at_draw s (suc d) l e = ap (λ x. pos (rise_of x)) (sym e) ∙ ap pos (one_to_one s)

-- minus the draw of a rise moves the level by that rise
pub moved_rise : (s : ℕ) → 1 ≤ s → moved (neg_ℤ (pos (drawn s))) ≡ pos s
moved_rise s l = at_draw s (drawn s) (draws_something s l) refl

-- what goes out between two levels tells how the level moves
moved_flow : (a b : ℕ) → pos a +ℤ moved (flow a b) ≡ pos b
moved_flow a b =
    elim (cases_Bool (nat_le b a)) [
      | inl y ↦
          let l = leb-true b a y in
          let e = ap moved (cond-true (nat_le b a) (pos (a - b)) (neg_ℤ (pos (drawn (b - a)))) y) in
          omega (arith, ints)
      | inr z ↦
          let l = leb-false b a z in
          let e = ap moved (cond-false (nat_le b a) (pos (a - b)) (neg_ℤ (pos (drawn (b - a)))) z) ∙ moved_rise (b - a) (omega arith) in
          omega (arith, ints)
    ]

exactly : (x q : ℤ) → among (record { lo = x; hi = x }) q ≡ true → q ≡ x
exactly x q o = let l = among_low (record { lo = x; hi = x }) q o in let h = among_high (record { lo = x; hi = x }) q o in omega (arith, ints)

itself : (x : ℤ) → among (record { lo = x; hi = x }) x ≡ true
itself x = among_from (record { lo = x; hi = x }) x (omega (arith, ints)) (omega (arith, ints))

-- the rule step by step --

record Keeps (n : LakeNumbers) (l q : ℤ) : Type 0 where
  pub flows : Flows n q
  pub low : pos 0 ≤ℤ (l +ℤ moved q)
  pub high : (l +ℤ moved q) ≤ℤ pos n.full

abbrev story : LakeNumbers → Story ℤ
story n = record {
  then = λ l q. l +ℤ moved q;
  Keeps = Keeps n;
  Ends = λ l. pos n.end ≤ℤ l;
  price = λ l q. pos (n.wear * unsigned_abs (moved q));
}

-- the level is the state
record At (n : LakeNumbers) (l : ℤ) (a : ℕ) : Type 0 where
  pub is : l ≡ pos a
  pub within : a ≤ n.full

abbrev go : ℕ → ℤ → ℕ
go a q = unsigned_abs (pos a +ℤ moved q)

flows_of : (n : LakeNumbers) (a b : ℕ) → may_flow n.flow a b ≡ true → Flows n (flow a b)
flows_of n a b y =
    elim (cases_Bool (nat_le b a)) [
      | inl t ↦ inl (record {
        fall = a - b;
        few = leb-true (a - b) n.flow.fall (sym (cond-true (nat_le b a) _ _ t) ∙ y);
        out = cond-true (nat_le b a) (pos (a - b)) (neg_ℤ (pos (drawn (b - a)))) t;
      })
      | inr z ↦
          let l = leb-false b a z in
          inr (record {
            rise = b - a;
            some = omega arith;
            few = leb-true (b - a) n.flow.rise (sym (cond-false (nat_le b a) _ _ z) ∙ y);
            out = cond-false (nat_le b a) (pos (a - b)) (neg_ℤ (pos (drawn (b - a)))) z;
          })
    ]

distance_is : (a b : ℕ) (m : ℤ) → pos a +ℤ m ≡ pos b → distance a b ≡ unsigned_abs m
distance_is a b (pos m) e = let f : a + m ≡ b = omega (arith, ints) in omega arith
distance_is a b (negsuc m) e = let f : a ≡ b + suc m = omega (arith, ints) in omega arith

moves : (n : LakeNumbers) (a b : ℕ) (l q : ℤ) → At n l a → b < n.full + 1 → may_flow n.flow a b ≡ true → among (record { lo = flow a b; hi = flow a b }) q ≡ true → Moves (lake_links n) (story n) go l a b q
moves n a b l q x i y o =
    let e = exactly (flow a b) q o in
    let m : pos a +ℤ moved q ≡ pos b = ap (λ z. pos a +ℤ moved z) e ∙ moved_flow a b in
    let s = x.is in
    let level : l +ℤ moved q ≡ pos b = ap (λ z. z +ℤ moved q) s ∙ m in
    record {
      to = sym (ap unsigned_abs m);
      keeps = record { flows = subst (Flows n) (sym e) (flows_of n a b y); low = omega (arith, ints); high = omega (arith, ints) };
      price = ap (λ d. pos (n.wear * d)) (distance_is a b (moved q) m);
    }

-- the level after, as a state
after : (x : ℤ) → pos 0 ≤ℤ x → x ≡ pos (unsigned_abs x)
after (pos m) h = refl
after (negsuc m) h = absurd (omega (arith, ints))

record Goes (n : LakeNumbers) (a b : ℕ) (q : ℤ) : Type 0 where
  pub linked : may_flow n.flow a b ≡ true
  pub out : flow a b ≡ q

goes_fall : (n : LakeNumbers) (a b f : ℕ) → f ≤ n.flow.fall → pos a +ℤ neg_ℤ (pos f) ≡ pos b → Goes n a b (pos f)
goes_fall n a b f l e =
    let d : a ≡ b + f = omega (arith, ints) in
    let y = le-leb b a (omega arith) in
    let s : a - b ≡ f = omega arith in
    record {
      linked = cond-true (nat_le b a) _ _ y ∙ le-leb (a - b) n.flow.fall (omega arith);
      out = cond-true (nat_le b a) (pos (a - b)) (neg_ℤ (pos (drawn (b - a)))) y ∙ ap pos s;
    }

goes_rise : (n : LakeNumbers) (a b s : ℕ) → 1 ≤ s → s ≤ n.flow.rise → pos a +ℤ pos s ≡ pos b → Goes n a b (neg_ℤ (pos (drawn s)))
goes_rise n a b s l k e =
    let d : a + s ≡ b = omega (arith, ints) in
    let z = lt-leb b a (omega arith) in
    let r : b - a ≡ s = omega arith in
    record {
      linked = cond-false (nat_le b a) _ _ z ∙ le-leb (b - a) n.flow.rise (omega arith);
      out = cond-false (nat_le b a) (pos (a - b)) (neg_ℤ (pos (drawn (b - a)))) z ∙ ap (λ x. neg_ℤ (pos (drawn x))) r;
    }

goes : (n : LakeNumbers) (a b : ℕ) (q : ℤ) → Flows n q → pos a +ℤ moved q ≡ pos b → Goes n a b q
goes n a b q (inl f) e = subst (Goes n a b) (sym f.out) (goes_fall n a b f.fall f.few (ap (λ z. pos a +ℤ moved z) (sym f.out) ∙ e))
goes n a b q (inr r) e = subst (Goes n a b) (sym r.out) (goes_rise n a b r.rise r.some r.few (ap (λ z. pos a +ℤ z) (sym (moved_rise r.rise r.some)) ∙ ap (λ z. pos a +ℤ moved z) (sym r.out) ∙ e))

moved_to : (n : LakeNumbers) (a : ℕ) (l q : ℤ) → At n l a → Keeps n l q → pos a +ℤ moved q ≡ pos (go a q)
moved_to n a l q x k = let s = x.is in after (pos a +ℤ moved q) (subst (λ z. pos 0 ≤ℤ (z +ℤ moved q)) s k.low)

state_few : (n : LakeNumbers) (a : ℕ) (l q : ℤ) → At n l a → Keeps n l q → go a q ≤ n.full
state_few n a l q x k =
    let m = moved_to n a l q x k in
    let h = subst (λ z. (z +ℤ moved q) ≤ℤ pos n.full) x.is k.high in
    omega (arith, ints)

moved_at : (n : LakeNumbers) (a : ℕ) (l q : ℤ) → At n l a → Keeps n l q → Moved (lake_links n) go a q
moved_at n a l q x k =
    let g = goes n a (go a q) q k.flows (moved_to n a l q x k) in
    let s = state_few n a l q x k in
    record {
      within = omega arith;
      linked = g.linked;
      among = subst (λ z. among (record { lo = flow a (go a q); hi = flow a (go a q) }) z ≡ true) g.out (itself (flow a (go a q)));
    }

next : (n : LakeNumbers) (a : ℕ) (l q : ℤ) → At n l a → Keeps n l q → At n (l +ℤ moved q) (go a q)
next n a l q x k = record { is = ap (λ z. z +ℤ moved q) x.is ∙ moved_to n a l q x k; within = state_few n a l q x k }

tracking : (n : LakeNumbers) → Tracking (lake_links n) (story n) go (At n)
tracking n = record {
  within = λ a l x. let w = x.within in omega arith;
  moves = λ a b l q x i y o. moves n a b l q x i y o;
  moved = λ a l q x k. moved_at n a l q x k;
  next = λ a l q x k. next n a l q x k;
  ends = λ a l x e. let k = leb-true n.end a e in let s = x.is in omega (arith, ints);
  ended = λ a l x e. let s = x.is in le-leb n.end a (omega (arith, ints));
}

-- period by period, and over all periods --

level_next : (l q : ℤ) (qs : List ℤ) (t : ℕ) → level_before l (q ∷ qs) (suc t) ≡ level_before (l +ℤ moved q) qs t
level_next l q qs t = let s = sum_to_first t (λ s. moved (slice_index_or (q ∷ qs) s (pos 0))) in omega (arith, ints)

whole_low : (n : LakeNumbers) (l q : ℤ) (qs : List ℤ) → pos 0 ≤ℤ l → LakeFrom n (l +ℤ moved q) qs → (t : ℕ) → t ≤ length (q ∷ qs) → pos 0 ≤ℤ level_before l (q ∷ qs) t
whole_low n l q qs h w zero i = omega (arith, ints)
whole_low n l q qs h w (suc t) i = subst (λ z. pos 0 ≤ℤ z) (sym (level_next l q qs t)) (w.low t (le_of_suc-le-suc i))

whole_high : (n : LakeNumbers) (l q : ℤ) (qs : List ℤ) → l ≤ℤ pos n.full → LakeFrom n (l +ℤ moved q) qs → (t : ℕ) → t ≤ length (q ∷ qs) → level_before l (q ∷ qs) t ≤ℤ pos n.full
whole_high n l q qs h w zero i = omega (arith, ints)
whole_high n l q qs h w (suc t) i = subst (λ z. z ≤ℤ pos n.full) (sym (level_next l q qs t)) (w.high t (le_of_suc-le-suc i))

whole_flows : (n : LakeNumbers) (l q : ℤ) (qs : List ℤ) → Flows n q → LakeFrom n (l +ℤ moved q) qs → (t : ℕ) → t < length (q ∷ qs) → Flows n (slice_index_or (q ∷ qs) t (pos 0))
whole_flows n l q qs f w zero i = f
whole_flows n l q qs f w (suc t) i = w.flows t (le_of_suc-le-suc i)

at_first : (l : ℤ) (qs : List ℤ) → level_before l qs 0 ≡ l
at_first l qs = omega (arith, ints)

to_whole : (n : LakeNumbers) (l : ℤ) (qs : List ℤ) → pos 0 ≤ℤ l → l ≤ℤ pos n.full → Told (story n) l qs → LakeFrom n l qs
to_whole n l [] h k o = record {
  flows = λ t i. absurd (omega arith);
  low = λ t i. let z : t ≡ 0 = omega arith in subst (λ s. pos 0 ≤ℤ level_before l [] s) (sym z) (omega (arith, ints));
  high = λ t i. let z : t ≡ 0 = omega arith in subst (λ s. level_before l [] s ≤ℤ pos n.full) (sym z) (omega (arith, ints));
  ends = omega (arith, ints);
}
to_whole n l (q ∷ qs) h k o =
    let w = to_whole n (l +ℤ moved q) qs o.0.low o.0.high o.1 in
    record {
      flows = whole_flows n l q qs o.0.flows w;
      low = whole_low n l q qs h w;
      high = whole_high n l q qs k w;
      ends = subst (λ z. pos n.end ≤ℤ z) (sym (level_next l q qs (length qs))) w.ends;
    }

from_whole : (n : LakeNumbers) (l : ℤ) (qs : List ℤ) → LakeFrom n l qs → Told (story n) l qs
from_whole n l [] w = let e = w.ends in omega (arith, ints)
from_whole n l (q ∷ qs) w =
    let step = λ (t : ℕ). level_next l q qs t in
    let low = w.low 1 (omega arith) in
    let high = w.high 1 (omega arith) in
    let e = level_next l q qs 0 in (
      record { flows = w.flows 0 (omega arith); low = omega (arith, ints); high = omega (arith, ints) },
      from_whole n (l +ℤ moved q) qs (record {
        flows = λ t i. w.flows (suc t) (suc-le-suc i);
        low = λ t i. subst (λ z. pos 0 ≤ℤ z) (step t) (w.low (suc t) (suc-le-suc i));
        high = λ t i. subst (λ z. z ≤ℤ pos n.full) (step t) (w.high (suc t) (suc-le-suc i));
        ends = subst (λ z. pos n.end ≤ℤ z) (step (length qs)) w.ends;
      }),
    )

same_wear : (n : LakeNumbers) (l : ℤ) (qs : List ℤ) → told_cost (story n) l qs ≡ lake_cost n qs
same_wear n l [] = refl
same_wear n l (q ∷ qs) =
    ap (λ z. pos (n.wear * unsigned_abs (moved q)) +ℤ z) (same_wear n (l +ℤ moved q) qs)
    ∙ sym (sum_to_first (length qs) (λ t. pos (n.wear * unsigned_abs (moved (slice_index_or (q ∷ qs) t (pos 0))))))

past_level : (n : LakeNumbers) (l : ℤ) (qs : List ℤ) (t : ℕ) → t ≤ length qs → past (story n) l qs t ≡ level_before l qs t
past_level n l qs zero i = sym (at_first l qs)
past_level n l [] (suc t) i = absurd (omega arith)
past_level n l (q ∷ qs) (suc t) i = past_level n (l +ℤ moved q) qs t (le_of_suc-le-suc i) ∙ sym (level_next l q qs t)

level_few : (n : LakeNumbers) → FairLake n → pos n.was ≤ℤ pos n.full
level_few n f = let w = f.was in omega (arith, ints)

some_level : (a : ℕ) → pos 0 ≤ℤ pos a
some_level a = omega (arith, ints)

lake_agrees : (n : LakeNumbers) → FairLake n → Agrees (model_of (lake_links n)) (LakeObeys n) (LakeIn n) (lake_cost n)
lake_agrees n f =
    let l = pos n.was in
    reworded (model_of (lake_links n)) (Told (story n) l) (LakeObeys n) (λ qs t a. At n (past (story n) l qs t) a) (LakeIn n) (told_cost (story n) l) (lake_cost n)
    (λ qs o. to_whole n l qs (some_level n.was) (level_few n f) o) (from_whole n l) (λ qs t a i x. sym x.is ∙ past_level n l qs t i) (same_wear n l)
    (follows (lake_links n) (story n) go (At n) (tracking n) l (record { is = refl; within = f.was }))

-- a lake that may end at every level is open-ended
lake_so_far : (n : LakeNumbers) → FairLake n → Agrees (open_ended (model_of (lake_links n))) (LakeSoFar n) (LakeIn n) (lake_cost n)
lake_so_far n f =
    let low = record n { end = 0 } in
    subst (λ p. Agrees p (LakeObeys low) (LakeIn low) (lake_cost low)) (ends_all (lake_links low) (λ a. le-leb 0 a (omega arith)))
    (lake_agrees low (record { full = f.full; fall = f.fall; rise = f.rise; wear = f.wear; was = f.was; end = omega arith }))

pub lake_stands : (n : LakeNumbers) → FairLake n → LakeRule n
lake_stands n f = (
  of_kind (lake_links n) (LakeObeys n) (LakeSoFar n) (LakeIn n) (lake_cost n) (lake_agrees n f) (lake_so_far n f),
  λ l. record { number = refl; arcs = λ t a b. refl; costs = λ t a b x. refl; ends = λ a. refl },
  one_to_one,
)

-- bounds --

draw_near : (s : ℕ) → s ≤ 79 → Near 500 (neg_ℤ (pos (drawn s)))
draw_near s l = let d : drawn s ≤ 500 = omega arith in record { low = omega (arith, ints); high = omega (arith, ints) }

flow_near : (a b : ℕ) → a ≤ 79 → b ≤ 79 → Near 500 (flow a b)
flow_near a b h k =
    elim (cases_Bool (nat_le b a)) [
      | inl y ↦ subst (Near 500) (sym (cond-true (nat_le b a) (pos (a - b)) (neg_ℤ (pos (drawn (b - a)))) y)) (near_pos 500 (a - b) (omega arith))
      | inr z ↦ subst (Near 500) (sym (cond-false (nat_le b a) (pos (a - b)) (neg_ℤ (pos (drawn (b - a)))) z)) (draw_near (b - a) (omega arith))
    ]

wear_near : (w d : ℕ) → w ≤ 100000 → d ≤ 158 → Near 500000000 (pos (w * d))
wear_near w d h k = let l = mul-le-mul h k in near_pos 500000000 (w * d) (omega arith)

not_more : (x : ℤ) → x ≤ℤ x
not_more x = omega (arith, ints)

pub lake_sound : (n : LakeNumbers) → FairLake n → SoundLinks (lake_links n)
lake_sound n f =
    let u = f.full in
    let w = f.was in
    record {
      some_state = omega arith;
      few_states = omega arith;
      starts = omega arith;
      outputs = λ a b i j y. let z = flow_near a b (omega arith) (omega arith) in (z, z, not_more (flow a b));
      costs = λ a b q i j y o. wear_near n.wear (distance a b) f.wear (omega arith);
    }
