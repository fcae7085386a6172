-- The first of the best ways, entry by entry. Assumes nothing.
use Rattle.std.proofs.Common.{◌≡◌, ℕ, ◌+◌, ◌<◌, true, List, [], ◌∷◌, ◌++◌, length, take, set, Some, sym, refl, ap, ◌∙◌, subst, ⊎_elim, arith}
use Rattle.std.proofs.lemmas.List.{take_more_set, append_assoc, append-nil}
use Rattle.terms.specs.declared.entry.Entry.{Entry}
use Rattle.fleet.specs.Scores.{Scale, Lawful}
use Rattle.fleet.specs.Units.{UnitModel, SoundUnit}
use Rattle.fleet.specs.Schedules.{Prices, AllowedFrom, Precedes}
use Rattle.fleet.specs.Table.{Best, ToGo, Through, Step, FirstWay, worth, score_from}
use Rattle.fleet.specs.ScoreLaws.{pair}
use Rattle.fleet.proofs.Arcs.{arc_to}
use Rattle.fleet.proofs.Bests.{cancel}
use Rattle.fleet.proofs.Steps.{through_togo}

pub entry_same : (x y : Entry) → x.state ≡ y.state → x.output ≡ y.output → x ≡ y
entry_same x y p q = pair (λ a b. record { state = a; output = b }) p q

module _ {S : Type 0} {s : Scale S} (l : Lawful s) (p : UnitModel) (sp : SoundUnit p) (r : Prices) (T : ℕ) where
  step_sum : (t a : ℕ) (x y : S) (e : Entry) → Step s p r T t a x e → Best s (ToGo s p r T t a) (Some x) → Best s (ToGo s p r T (t + 1) e.state) (Some y) → x ≡ s.add (worth s p r t a e.state e.output) y
  step_sum t a x y e st best next =
      let k = st.attains in
      let w = worth s p r t a e.state e.output in
      l.one x (s.add w y)
      (subst (λ z. s.at_most z (s.add w y) ≡ true) (sym k.sums) (l.keeps_left w k.rest y (next.1 k.rest k.togo)))
      (best.1 (s.add w y) (through_togo l p sp r T t a e.state e.output (s.add w y) (record { goes = k.goes; rest = y; togo = next.0; sums = refl })))

  first_nil : (a : ℕ) (x : S) → Best s (ToGo s p r T T a) (Some x) → FirstWay s p r T T a x []
  first_nil a x h = nil h.0.way h.0.long h.0.allowed h.0.score where
    none : (ys : List Entry) → Precedes ys [] → ⊥
    none [] h = h
    none (y ∷ ys) h = h

    nil : (way : List Entry) → T + length way ≡ T → AllowedFrom p T a way → score_from s p r T a way ≡ x → FirstWay s p r T T a x []
    nil [] long ok is = record { long = long; allowed = ok; score = is; earliest = λ ys _ _ _. none ys }
    nil (e ∷ es) long ok is = absurd (omega arith)

  first_cons : (t a : ℕ) (x y : S) (e : Entry) (es : List Entry) → t < T → Step s p r T t a x e → Best s (ToGo s p r T t a) (Some x) → Best s (ToGo s p r T (t + 1) e.state) (Some y) → FirstWay s p r T (t + 1) e.state y es → FirstWay s p r T t a x (e ∷ es)
  first_cons t a x y e es before st best next f =
      let w = worth s p r t a e.state e.output in
      let long = f.long in
      record {
        long = omega arith;
        allowed = (st.attains.goes, f.allowed);
        score = ap (s.add w) f.score ∙ sym (step_sum t a x y e st best next);
        earliest = early;
      } where
        later : (z : Entry) (zs : List Entry) → t + 1 + length zs ≡ T → AllowedFrom p (t + 1) z.state zs → score_from s p r t a (z ∷ zs) ≡ x → z ≡ e → Precedes zs es → ⊥
        later z zs long ok is same =
            let ok2 = subst (λ k. AllowedFrom p (t + 1) k.state zs) same ok in
            let is2 = subst (λ k. score_from s p r t a (k ∷ zs) ≡ x) same is in
            f.earliest zs long ok2 (cancel l (worth s p r t a e.state e.output) (score_from s p r (t + 1) e.state zs) y (is2 ∙ step_sum t a x y e st best next))

        early : (ys : List Entry) → t + length ys ≡ T → AllowedFrom p t a ys → score_from s p r t a ys ≡ x → Precedes ys (e ∷ es) → ⊥
        early [] long ok is h = h
        early (z ∷ zs) long ok is h =
            let at : Through s p r T t a z.state z.output x = record { goes = ok.0; rest = score_from s p r (t + 1) z.state zs; togo = record { way = zs; long = omega arith; allowed = ok.1; score = refl }; sums = sym is } in
            ⊎_elim
            (λ lt. st.lower_state z.state z.output lt at)
            (λ k. ⊎_elim
            (λ lt. st.lower_output z.output lt (subst (λ b. Through s p r T t a b z.output x) k.0 at))
            (λ m. later z zs (omega arith) ok.1 is (entry_same z e k.0 m.0) m.1)
            k.1)
            h

-- t entries are written, and the first of the ways that score want is still to come
pub record Showing {S : Type 0} (s : Scale S) (p : UnitModel) (r : Prices) (T : ℕ) (best : S) (t a : ℕ) (want : S) (out : List Entry) : Type 0 where
  pub inside : a < p.states
  pub top : Best s (ToGo s p r T t a) (Some want)
  pub rest : (es : List Entry) → FirstWay s p r T t a want es → FirstWay s p r T 0 p.start best (take t out ++ es)

module _ {S : Type 0} {s : Scale S} (l : Lawful s) (p : UnitModel) (sp : SoundUnit p) (r : Prices) (T : ℕ) (best : S) where
  pub showing_next : (t a : ℕ) (w y : S) (e : Entry) (out : List Entry) → t < T → t < length out → Step s p r T t a w e → Best s (ToGo s p r T (t + 1) e.state) (Some y) → Showing s p r T best t a w out → Showing s p r T best (t + 1) e.state y (set out t e)
  showing_next t a w y e out lt fits st next sh =
      record {
        inside = arc_to p sp t a e.state e.output st.attains.goes;
        top = next;
        rest = λ es f.
            let whole = sh.rest (e ∷ es) (first_cons l p sp r T t a w y e es lt st sh.top next f) in
            let cut : take t out ++ (e ∷ es) ≡ take (t + 1) (set out t e) ++ es = sym (ap (λ v. v ++ es) (take_more_set out t e fits) ∙ append_assoc (take t out) (e ∷ []) es) in
            subst (FirstWay s p r T 0 p.start best) cut whole;
      }

  pub showing_all : (t a : ℕ) (w : S) (out : List Entry) → t ≡ T → Showing s p r T best t a w out → FirstWay s p r T 0 p.start best (take T out)
  showing_all t a w out e sh =
      let top = subst (λ k. Best s (ToGo s p r T k a) (Some w)) e sh.top in
      let nil = subst (λ k. FirstWay s p r T k a w []) (sym e) (first_nil l p sp r T a w top) in
      subst (FirstWay s p r T 0 p.start best) (append-nil (take t out) ∙ ap (λ k. take k out) e) (sh.rest [] nil)
