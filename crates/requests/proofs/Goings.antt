-- How far a list of requests has come. Assumes nothing.
use Rattle.std.proofs.Common.{◌≡◌, ℕ, zero, suc, ◌+◌, ◌<◌, ◌≤◌, List, [], ◌∷◌, ◌++◌, map, length, get_or, take, set, ℤ, Some, None, fold, Option, Result, sym, refl, ap, ◌∙◌, subst, inl, inr, arith, length-set}
use lib.ListN.{length-map}
use Rattle.std.proofs.lemmas.List.{take_more, get_or-set_same, get_or-set_other, get_or_push, length_push, map_push, take_all}
use Rattle.std.proofs.lemmas.Bool.{cases_eq}
use Rattle.terms.specs.declared.decline.Decline.{Decline}
use Rattle.fleet.specs.Units.{Meaning}
use Rattle.settlement.specs.declared.docket.Docket.{Docket}
use Rattle.settlement.specs.declared.verdicts.Judgement.{Judgement}
use Rattle.settlement.specs.Ledger.{Ledger, judge, fresh, step, ledger}
use Rattle.settlement.specs.Verdicts.{Judges}
use Rattle.settlement.specs.Follow.{Follows, GoesOn}
use Rattle.requests.specs.declared.request.Request.{Request}
use Rattle.requests.specs.declared.request.Request.TheVariants.{Need, Price, Run, Mix, Supply, Show, Judge}
use Rattle.requests.specs.declared.request.Answer.{Answer}
use Rattle.requests.specs.Requests.{Shared, called_by, RequestAnswered}
use Rattle.requests.specs.Settling.{SameLengths, calls_of, Through, Written, Settles}

-- the call of a request goes by lengths alone
pub called_same : (s s' : Shared) (q : Request) → SameLengths s s' → called_by s' q ≡ called_by s q
called_same s s' (Need xs) h = refl
called_same s s' (Price d ns) h = refl
called_same s s' (Run u es slots) h = rw h.gains refl
called_same s s' (Mix u w es) h = refl
called_same s s' (Supply u fewer more) h = rw (h.fewer, h.more) refl
called_same s s' (Show u slots room) h = rw (h.gains, h.schedule) refl
called_same s s' (Judge room) h = rw h.pays refl

pub same_lengths : (a b c : Shared) → SameLengths a b → SameLengths b c → SameLengths a c
same_lengths a b c h k = record { gains = k.gains ∙ h.gains; fewer = k.fewer ∙ h.fewer; more = k.more ∙ h.more; schedule = k.schedule ∙ h.schedule; pays = k.pays ∙ h.pays }

-- one request more at the end
pub through_push : (m : Meaning) (T W : ℕ) (a : Shared) (l : Ledger) (s : Shared) (qs : List Request) (rs : List (Result Answer Decline)) (mid s' : Shared) (q : Request) (r : Result Answer Decline) → Through m T W a l s qs rs mid → RequestAnswered q mid s' r m T W (fold (step m T W) l (calls_of a qs)) → Through m T W a l s (qs ++ (q ∷ [])) (rs ++ (r ∷ [])) s'
through_push m T W a l s [] [] mid s' q r h k = (s', subst (λ x. RequestAnswered q x s' r m T W l) h k, refl)
through_push m T W a l s [] (x ∷ rs) mid s' q r h k = absurd h
through_push m T W a l s (p ∷ qs) [] mid s' q r h k = absurd h
through_push m T W a l s (p ∷ qs) (x ∷ rs) mid s' q r h k = (h.0, h.1, through_push m T W a (step m T W l (called_by a p)) h.0 qs rs mid s' q r h.2 k)

-- after the requests below `at`
pub record Going {F : Type 0} (mean : F → Meaning) (fleet : F) (T W : ℕ) (requests : List Request) (a : Shared) (old : List (Option (Result Answer Decline))) (at : ℕ) (d : Docket F) (s : Shared) (new : List (Option (Result Answer Decline))) : Type 0 where
  pub fleet_is : d.fleet ≡ fleet
  pub long : SameLengths a s
  pub follows : Follows mean (mean fleet) T W (calls_of a (take at requests)) d
  pub replies : List (Result Answer Decline)
  pub counted : length replies ≡ at
  pub through : Through (mean fleet) T W a fresh a (take at requests) replies s
  pub written : Written replies old new

push_other : {X : Type 0} (xs : List X) (y d : X) (i : ℕ) → (i ≡ length xs → ⊥) → get_or (xs ++ (y ∷ [])) i d ≡ get_or xs i d
push_other [] y d zero h = absurd (h refl)
push_other [] y d (suc i) h = refl
push_other (x ∷ xs) y d zero h = refl
push_other (x ∷ xs) y d (suc i) h = push_other xs y d i (λ e. h (ap suc e))

-- one answer more, written where there is room
written_other : (rs : List (Result Answer Decline)) (old new : List (Option (Result Answer Decline))) (at i : ℕ) (r : Result Answer Decline) → Written rs old new → length rs ≡ at → i < length old → (i ≡ at → ⊥) → get_or new i None ≡ get_or (map Some (rs ++ (r ∷ []))) i (get_or old i None)
written_other rs old new at i r w e lt d =
    w.each i lt
    ∙ sym (push_other (map Some rs) (Some r) (get_or old i None) i (λ h. d (h ∙ length-map rs Some ∙ e)))
    ∙ ap (λ xs. get_or xs i (get_or old i None)) (sym (map_push Some rs r))

pub written_set : (rs : List (Result Answer Decline)) (old new : List (Option (Result Answer Decline))) (at : ℕ) (r : Result Answer Decline) → Written rs old new → length rs ≡ at → at < length new → Written (rs ++ (r ∷ [])) old (set new at (Some r))
written_set rs old new at r w e lt =
    record {
      long = length-set new at (Some r) ∙ w.long;
      each = λ i below.
          elim (cases_eq i at) [
            | inl same ↦
                subst (λ k. get_or (set new at (Some r)) k None ≡ get_or (map Some (rs ++ (r ∷ []))) k (get_or old k None)) (sym same)
                (get_or-set_same new at (Some r) None lt ∙ sym (get_or_push (map Some rs) (Some r) (get_or old at None) at (length-map rs Some ∙ e)) ∙ ap (λ xs. get_or xs at (get_or old at None)) (sym (map_push Some rs r)))
            | inr other ↦ get_or-set_other new at i (Some r) None other ∙ written_other rs old new at i r w e below other
          ];
    }

pub written_past : (rs : List (Result Answer Decline)) (old new : List (Option (Result Answer Decline))) (at : ℕ) (r : Result Answer Decline) → Written rs old new → length rs ≡ at → length new ≤ at → Written (rs ++ (r ∷ [])) old new
written_past rs old new at r w e le =
    record {
      long = w.long;
      each = λ i below. let same = w.long in written_other rs old new at i r w e below (λ h. omega arith);
    }

module _ {F : Type 0} (mean : F → Meaning) (fleet : F) (T W : ℕ) (requests : List Request) (a : Shared) (old : List (Option (Result Answer Decline))) where
  pub going_more : (at : ℕ) (d d' : Docket F) (s s' : Shared) (new new' : List (Option (Result Answer Decline))) (q : Request) (r : Result Answer Decline) (k : Going mean fleet T W requests a old at d s new) → at < length requests → get_or requests at q ≡ q → GoesOn mean d d' (called_by s q) (RequestAnswered q s s' r) → d'.fleet ≡ d.fleet → SameLengths s s' → Written (k.replies ++ (r ∷ [])) old new' → Going mean fleet T W requests a old (at + 1) d' s' new'
  going_more at d d' s s' new new' q r k lt is goes same long written =
      let m = mean fleet in
      let next : take (at + 1) requests ≡ take at requests ++ (q ∷ []) = take_more requests at q lt ∙ ap (λ x. take at requests ++ (x ∷ [])) is in
      let h = goes m T W (calls_of a (take at requests)) k.follows in
      let calls : calls_of a (take at requests) ++ (called_by s q ∷ []) ≡ calls_of a (take (at + 1) requests) = ap (λ c. calls_of a (take at requests) ++ (c ∷ [])) (called_same a s q k.long) ∙ sym (map_push (called_by a) (take at requests) q) ∙ ap (calls_of a) (sym next) in
      record {
        fleet_is = same ∙ k.fleet_is;
        long = same_lengths a s s' k.long long;
        follows = subst (λ cs. Follows mean m T W cs d') calls h.0;
        replies = k.replies ++ (r ∷ []);
        counted = length_push k.replies r ∙ ap (λ n. n + 1) k.counted;
        through = subst (λ qs. Through m T W a fresh a qs (k.replies ++ (r ∷ [])) s') (sym next) (through_push m T W a fresh a (take at requests) k.replies s s' q r k.through h.1);
        written = written;
      }

  pub going_start : (d : Docket F) → d.fleet ≡ fleet → Follows mean (mean fleet) T W [] d → Going mean fleet T W requests a old 0 d a old
  going_start d is follows =
      record {
        fleet_is = is;
        long = record { gains = refl; fewer = refl; more = refl; schedule = refl; pays = refl };
        follows = follows;
        replies = [];
        counted = refl;
        through = refl;
        written = record { long = refl; each = λ i lt. refl };
      }

  pub going_done : (at : ℕ) (d : Docket F) (s : Shared) (new : List (Option (Result Answer Decline))) (pays : List ℤ) (r : Result Judgement Decline) → Going mean fleet T W requests a old at d s new → length requests ≤ at → GoesOn mean d d (judge (length s.pays)) (λ m T W l. Judges m T W l s.pays pays r) → Settles (mean fleet) T W requests a (record { gains = s.gains; fewer = s.fewer; more = s.more; schedule = s.schedule; pays = pays }) old new r
  going_done at d s new pays r k all goes =
      let m = mean fleet in
      let whole : take at requests ≡ requests = take_all at requests all in
      record {
        replies = k.replies;
        last = s;
        answered = subst (λ qs. Through m T W a fresh a qs k.replies s) whole k.through;
        written = k.written;
        judged = subst (λ qs. Judges m T W (ledger m T W (calls_of a qs)) s.pays pays r) whole (goes m T W (calls_of a (take at requests)) k.follows).1;
        rest = refl;
      }
