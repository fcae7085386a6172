-- Schedules against a rule, for any unit whose states tell what the rule needs of the past. Assumes nothing.
use Rattle.std.proofs.Common.{◌≡◌, ℕ, zero, suc, ◌+◌, ◌<◌, ◌≤◌, true, List, [], ◌∷◌, length, ℤ, pos, ◌+ℤ◌, Some, None, Option, nat_lt, refl, sym, ap, subst, ◌∙◌, inl, inr, arith}
use Rattle.std.proofs.lemmas.Int.{ints}
use Rattle.std.proofs.lemmas.Bool.{cases_Bool, cond-true, cond-false, and_parts, and_from, lt-ltb, ltb-true, false≢true}
use Rattle.terms.specs.declared.entry.Entry.{Entry}
use Rattle.fleet.specs.declared.records.Range.{Range}
use Rattle.fleet.specs.Units.{UnitModel, among, holds}
use Rattle.fleet.specs.Schedules.{AllowedFrom, cost_from}
use Rattle.units.specs.Links.{Links, joined, link_arc, model_of}
use Rattle.units.specs.Agree.{outputs_of, state_before, Agrees}

-- an arc that contains an output --

pub record Held (l : Links) (t a b : ℕ) (q : ℤ) : Type 0 where
  pub period : t < 48
  pub from : a < l.states
  pub to : b < l.states
  pub linked : l.linked a b ≡ true
  pub among : among (l.outputs a b) q ≡ true
  pub cost : (model_of l).cost t a b q ≡ l.charge a b q

pub held : (l : Links) (t a b : ℕ) (q : ℤ) → holds (link_arc l t a b) q ≡ true → Held l t a b q
held l t a b q h =
    elim (cases_Bool (joined l t a b)) [
      | inr z ↦ absurd (false≢true (sym (ap (λ (o : Option Range). holds o q) (cond-false (joined l t a b) (Some (l.outputs a b)) None z)) ∙ h))
      | inl y ↦
          let p = and_parts (nat_lt t 48) _ y in
          let both = and_parts (nat_lt a l.states) _ p.1 in
          let last = and_parts (nat_lt b l.states) _ both.1 in
          record {
            period = ltb-true t 48 p.0;
            from = ltb-true a l.states both.0;
            to = ltb-true b l.states last.0;
            linked = last.1;
            among = sym (ap (λ (o : Option Range). holds o q) (cond-true (joined l t a b) (Some (l.outputs a b)) None y)) ∙ h;
            cost = cond-true (holds (link_arc l t a b) q) (l.charge a b q) (pos 0) h;
          }
    ]

pub holds_from : (l : Links) (t a b : ℕ) (q : ℤ) → t < 48 → a < l.states → b < l.states → l.linked a b ≡ true → among (l.outputs a b) q ≡ true → holds (link_arc l t a b) q ≡ true
holds_from l t a b q i j k g o =
    let y : joined l t a b ≡ true = and_from _ _ (lt-ltb t 48 i) (and_from _ _ (lt-ltb a l.states j) (and_from _ _ (lt-ltb b l.states k) g)) in
    ap (λ (o : Option Range). holds o q) (cond-true (joined l t a b) (Some (l.outputs a b)) None y) ∙ o

-- a rule told step by step --

-- what a period must keep where the past is H, what it costs, and what the past then is
pub record Story (H : Type 0) : Type 1 where
  pub then : H → ℤ → H
  pub Keeps : H → ℤ → Type 0
  pub Ends : H → Type 0
  pub price : H → ℤ → ℤ

abbrev pub Told : {H : Type 0} → Story H → H → List ℤ → Type 0
Told s h [] = s.Ends h
Told s h (q ∷ qs) = s.Keeps h q × Told s (s.then h q) qs

abbrev pub told_cost : {H : Type 0} → Story H → H → List ℤ → ℤ
told_cost s h [] = pos 0
told_cost s h (q ∷ qs) = s.price h q +ℤ told_cost s (s.then h q) qs

-- the past before period t
abbrev pub past : {H : Type 0} → Story H → H → List ℤ → ℕ → H
past s h qs zero = h
past s h [] (suc t) = h
past s h (q ∷ qs) (suc t) = past s (s.then h q) qs t

-- from state a into state b with output q
pub record Moves {H : Type 0} (l : Links) (s : Story H) (go : ℕ → ℤ → ℕ) (h : H) (a b : ℕ) (q : ℤ) : Type 0 where
  pub to : b ≡ go a q
  pub keeps : s.Keeps h q
  pub price : l.charge a b q ≡ s.price h q

pub record Moved (l : Links) (go : ℕ → ℤ → ℕ) (a : ℕ) (q : ℤ) : Type 0 where
  pub within : go a q < l.states
  pub linked : l.linked a (go a q) ≡ true
  pub among : among (l.outputs a (go a q)) q ≡ true

-- the states of l track the past of the story s; an output leads from a state into one state alone
pub record Tracking {H : Type 0} (l : Links) (s : Story H) (go : ℕ → ℤ → ℕ) (Tracks : H → ℕ → Type 0) : Type 0 where
  pub within : (a : ℕ) (h : H) → Tracks h a → a < l.states
  pub moves : (a b : ℕ) (h : H) (q : ℤ) → Tracks h a → b < l.states → l.linked a b ≡ true → among (l.outputs a b) q ≡ true → Moves l s go h a b q
  pub moved : (a : ℕ) (h : H) (q : ℤ) → Tracks h a → s.Keeps h q → Moved l go a q
  pub next : (a : ℕ) (h : H) (q : ℤ) → Tracks h a → s.Keeps h q → Tracks (s.then h q) (go a q)
  pub ends : (a : ℕ) (h : H) → Tracks h a → l.ends a ≡ true → s.Ends h
  pub ended : (a : ℕ) (h : H) → Tracks h a → s.Ends h → l.ends a ≡ true

abbrev step : (ℕ → ℤ → ℕ) → ℕ → ℤ → Entry
step go a q = record { state = go a q; output = q }

abbrev path : (ℕ → ℤ → ℕ) → ℕ → List ℤ → List Entry
path go a [] = []
path go a (q ∷ qs) = step go a q ∷ path go (go a q) qs

record Found {H : Type 0} (l : Links) (s : Story H) (go : ℕ → ℤ → ℕ) (h : H) (t a : ℕ) (es : List Entry) : Type 0 where
  pub told : Told s h (outputs_of es)
  pub costs : cost_from (model_of l) t a es ≡ told_cost s h (outputs_of es)
  pub is : es ≡ path go a (outputs_of es)

abbrev onto : (ℕ → ℤ → ℕ) → List ℤ → Entry → List Entry
onto go qs e = e ∷ path go e.state qs

pub as_long : (es : List Entry) → length (outputs_of es) ≡ length es
as_long [] = refl
as_long (e ∷ es) = ap suc (as_long es)

module _ {H : Type 0} (l : Links) (s : Story H) (go : ℕ → ℤ → ℕ) (Tracks : H → ℕ → Type 0) (k : Tracking l s go Tracks) where
  goes : (t a b : ℕ) (h : H) (q : ℤ) → Tracks h a → holds (link_arc l t a b) q ≡ true → Moves l s go h a b q
  goes t a b h q x o = let d = held l t a b q o in k.moves a b h q x d.to d.linked d.among

  after : (t a b : ℕ) (h : H) (q : ℤ) → Tracks h a → holds (link_arc l t a b) q ≡ true → Tracks (s.then h q) b
  after t a b h q x o = let m = goes t a b h q x o in subst (Tracks (s.then h q)) (sym m.to) (k.next a h q x m.keeps)

  tracked : (t a : ℕ) (h : H) → Tracks h a → (es : List Entry) → AllowedFrom (model_of l) t a es → (i : ℕ) → Tracks (past s h (outputs_of es) i) (state_before a es i)
  tracked t a h x es al zero = x
  tracked t a h x [] al (suc i) = x
  tracked t a h x (e ∷ es) al (suc i) = tracked (t + 1) e.state (s.then h e.output) (after t a e.state h e.output x al.0) es al.1 i

  found : (t a : ℕ) (h : H) → Tracks h a → (es : List Entry) → AllowedFrom (model_of l) t a es → Found l s go h t a es
  found t a h x [] al = record { told = k.ends a h x (and_parts (nat_lt a l.states) _ al).1; costs = refl; is = refl }
  found t a h x (e ∷ es) al =
      let m = goes t a e.state h e.output x al.0 in
      let g = found (t + 1) e.state (s.then h e.output) (after t a e.state h e.output x al.0) es al.1 in
      let c = (held l t a e.state e.output al.0).cost in
      let p = m.price in
      let r = g.costs in
      let here : e ≡ step go a e.output = ap (λ b. record { state = b; output = e.output }) m.to in
      record {
        told = (m.keeps, g.told);
        costs = omega (arith, ints);
        is = ap (λ z. e ∷ z) g.is ∙ ap (onto go (outputs_of es)) here;
      }

  walked : (t a : ℕ) (h : H) → Tracks h a → (qs : List ℤ) → t + length qs ≤ 48 → Told s h qs → AllowedFrom (model_of l) t a (path go a qs)
  walked t a h x [] i o = and_from _ _ (lt-ltb a l.states (k.within a h x)) (k.ended a h x o)
  walked t a h x (q ∷ qs) i o =
      let m = k.moved a h q x o.0 in (
        holds_from l t a (go a q) q (omega arith) (k.within a h x) m.within m.linked m.among,
        walked (t + 1) (go a q) (s.then h q) (k.next a h q x o.0) qs (omega arith) o.1,
      )

  outputs_path : (a : ℕ) (qs : List ℤ) → outputs_of (path go a qs) ≡ qs
  outputs_path a [] = refl
  outputs_path a (q ∷ qs) = ap (λ z. q ∷ z) (outputs_path (go a q) qs)

  pub follows : (h : H) → Tracks h l.start → Agrees (model_of l) (Told s h) (λ qs t a. Tracks (past s h qs t) a) (told_cost s h)
  follows h x = record {
    found = λ qs i o. record { entries = path go l.start qs; allowed = walked 0 l.start h x qs (omega arith) o; outputs = outputs_path l.start qs };
    obeys = λ es al. (found 0 l.start h x es al).told;
    one = λ es fs al bl e. (found 0 l.start h x es al).is ∙ ap (path go l.start) e ∙ sym (found 0 l.start h x fs bl).is;
    costs = λ es al. (found 0 l.start h x es al).costs;
    states = λ es al t _. tracked 0 l.start h x es al t;
  }

-- the same rule in other words
pub reworded : (p : UnitModel) (R S : List ℤ → Type 0) (I J : List ℤ → ℕ → ℕ → Type 0) (f g : List ℤ → ℤ) → ((qs : List ℤ) → R qs → S qs) → ((qs : List ℤ) → S qs → R qs) → ((qs : List ℤ) (t a : ℕ) → t ≤ length qs → I qs t a → J qs t a) → ((qs : List ℤ) → f qs ≡ g qs) → Agrees p R I f → Agrees p S J g
reworded p R S I J f g to from in_state same h = record {
  found = λ qs i o. h.found qs i (from qs o);
  obeys = λ es al. to (outputs_of es) (h.obeys es al);
  one = h.one;
  costs = λ es al. h.costs es al ∙ same (outputs_of es);
  states = λ es al t i. in_state (outputs_of es) t _ (subst (λ z. t ≤ z) (sym (as_long es)) i) (h.states es al t i);
}
