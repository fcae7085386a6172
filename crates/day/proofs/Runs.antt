-- What a file has said after its lines is what their forms say as a whole. Assumes nothing.
use Rattle.std.proofs.Common.{◌≡◌, ℕ, ◌<◌, ◌≤◌, Bool, true, false, cond, ◌⊎◌, List, [], ◌∷◌, ◌++◌, length, take, ℤ, Some, None, Ok, Err, Option, Result, fold, refl, sym, ap, ◌∙◌, subst, inl, inr, ⊎_elim, append_assoc, append-nil, arith}
use Rattle.std.specs.Prelude.{nat_lt, filter_map}
use Rattle.std.specs.List.{Contains, cons_option}
use Rattle.std.proofs.lemmas.Bool.{cases_lt, lt-ltb, le-ltb}
use Rattle.std.proofs.lemmas.List.{length-append, length_push, take_all, take-append-le, length-take-le}
use Rattle.std.proofs.lemmas.List.Elements.{Contains-push, Contains-push_cases, Contains-append_left, filter_map-append}
use Rattle.arrayvec.specs.ArrayVec.{ArrayVec}
use Rattle.terms.specs.declared.decline.Decline.{Decline}
use Rattle.fleet.specs.Rows.{Fault}
use Rattle.fleet_kinds.specs.declared.outages.Outage.{Outage}
use Rattle.reader.specs.declared.offer.Offer.{Offer as AnOffer}
use Rattle.reader.specs.declared.form.Form.{Form}
use Rattle.reader.specs.declared.form.Form.TheVariants.{Day, Offer, Out, Need, Price, Run, Mix, Supply, Show, Judge}
use Rattle.settlement.specs.Ledger.{Call, need}
use Rattle.settlement.specs.Calls.{Opens, open_fault}
use Rattle.settlement.proofs.Opens.{open_law}
use Rattle.settlement.proofs.Ledgers.{some_none}
use Rattle.day.specs.Said.{Said, nothing, begun, opened, fleet_of, call_of, added, with_call, opening, after_begun, after_nothing, after_form, after_line}
use Rattle.day.specs.Runs.{forms_in, offer_of, offers_in, outage_of, outages_after, outages_in, fleet_in, calls_in, NoDay, NoneOpens, SayBegun, SayOpened, Say, SessionLaw}

-- lists --

-- two ways to part one list around an element
parting : {X : Type 0} (ls : List X) (x : X) (bs cs : List X) (y : X) (ds : List X) → ls ++ (x ∷ bs) ≡ cs ++ (y ∷ ds) → ((ls ≡ cs) × (x ≡ y) × (bs ≡ ds)) ⊎ (((es : List X) × (cs ≡ ls ++ (x ∷ es))) ⊎ ((es : List X) × (ls ≡ cs ++ (y ∷ es))))
parting [] x bs [] y ds e = inl (refl, cc, cc)
parting [] x bs (c ∷ cs) y ds e = let h : c ≡ x = cc in inr (inl (cs, ap (λ z. z ∷ cs) h))
parting (a ∷ ls) x bs [] y ds e = let h : a ≡ y = cc in inr (inr (ls, ap (λ z. z ∷ ls) h))
parting (a ∷ ls) x bs (c ∷ cs) y ds e =
    let h : a ≡ c = cc in
    let rest : ls ++ (x ∷ bs) ≡ cs ++ (y ∷ ds) = cc in
    ⊎_elim (λ s. inl ((λ i. h i ∷ s.0 i), s.1, s.2))
    (λ o. inr (⊎_elim (λ s. inl (s.0, λ i. sym h i ∷ s.1 i)) (λ s. inr (s.0, λ i. h i ∷ s.1 i)) o))
    (parting ls x bs cs y ds rest)

holds_at : {X : Type 0} (xs ls : List X) (x : X) (bs : List X) → xs ≡ ls ++ (x ∷ bs) → Contains xs x
holds_at xs ls x bs e =
    subst (λ z. Contains z x) (append_assoc ls (x ∷ []) bs ∙ sym e) (Contains-append_left (ls ++ (x ∷ [])) bs x (Contains-push ls x))

onto : {X : Type 0} (o : Option X) (xs ys : List X) → cons_option o (xs ++ ys) ≡ cons_option o xs ++ ys
onto None xs ys = refl
onto (Some x) xs ys = refl

-- one more, where there is one and room for it
abbrev kept : {X : Type 0} → Bool → List X → Option X → List X
kept room xs None = xs
kept room xs (Some x) = cond room (xs ++ (x ∷ [])) xs

first_more : {X : Type 0} (n : ℕ) (xs : List X) (o : Option X) → take n (xs ++ cons_option o []) ≡ kept (nat_lt (length (take n xs)) n) (take n xs) o
first_more n xs None = ap (take n) (append-nil xs)
first_more n xs (Some x) = ⊎_elim short long (cases_lt (length xs) n)
  where
    short : length xs < n → take n (xs ++ (x ∷ [])) ≡ cond (nat_lt (length (take n xs)) n) (take n xs ++ (x ∷ [])) (take n xs)
    short h =
        let long = length_push xs x in
        let all = take_all n xs (omega arith) in
        take_all n (xs ++ (x ∷ [])) (omega arith)
        ∙ sym ((λ i. cond (nat_lt (length (all i)) n) (all i ++ (x ∷ [])) (all i)) ∙ ap (λ b. cond b (xs ++ (x ∷ [])) xs) (lt-ltb (length xs) n h))

    long : n ≤ length xs → take n (xs ++ (x ∷ [])) ≡ cond (nat_lt (length (take n xs)) n) (take n xs ++ (x ∷ [])) (take n xs)
    long h =
        let full = length-take-le n xs h in
        take-append-le n xs (x ∷ []) h ∙ sym (ap (λ b. cond b (take n xs ++ (x ∷ [])) (take n xs)) (le-ltb (length (take n xs)) n (omega arith)))

-- one form more --

offers_more : (fs : List Form) (f : Form) → offers_in (fs ++ (f ∷ [])) ≡ kept (nat_lt (length (offers_in fs)) 64) (offers_in fs) (offer_of f)
offers_more fs f = ap (take 64) (filter_map-append offer_of fs (f ∷ [])) ∙ first_more 64 (filter_map offer_of fs) (offer_of f)

outages_push : (above fs : List Form) (f : Form) → outages_after above (fs ++ (f ∷ [])) ≡ outages_after above fs ++ cons_option (outage_of (length (offers_in (above ++ fs))) f) []
outages_push above [] f = ap (λ z. cons_option (outage_of (length (offers_in z)) f) []) (sym (append-nil above))
outages_push above (g ∷ fs) f =
    let o = outage_of (length (offers_in above)) g in
    let last = λ (z : List Form). cons_option (outage_of (length (offers_in z)) f) [] in
    let rest = outages_after (above ++ (g ∷ [])) fs in
    ap (cons_option o) (outages_push (above ++ (g ∷ [])) fs f)
    ∙ onto o rest (last ((above ++ (g ∷ [])) ++ fs))
    ∙ ap (λ z. cons_option o rest ++ last z) (append_assoc above (g ∷ []) fs)

outages_more : (fs : List Form) (f : Form) → outages_in (fs ++ (f ∷ [])) ≡ kept (nat_lt (length (outages_in fs)) 16) (outages_in fs) (outage_of (length (offers_in fs)) f)
outages_more fs f = ap (take 16) (outages_push [] fs f) ∙ first_more 16 (outages_after [] fs) (outage_of (length (offers_in fs)) f)

none_more : (T W : ℕ) (fs : List Form) (f : Form) → NoneOpens T W fs → ((wanted : ArrayVec ℤ) → f ≡ Need wanted → Opens (fleet_in fs) T W → ⊥) → NoneOpens T W (fs ++ (f ∷ []))
none_more T W fs f none last above wanted below e o =
    ⊎_elim (λ s. last wanted s.1 (subst (λ z. Opens (fleet_in z) T W) (sym s.0) o))
    (⊎_elim (λ s. absurd (past s.0 s.1)) (λ s. none above wanted s.0 s.1 o))
    (parting fs f [] above (Need wanted) below e)
  where
    past : (es : List Form) → above ≡ fs ++ (f ∷ es) → ⊥
    past es at =
        let a = ap length e in
        let b = ap length at in
        omega (arith, length-append fs (f ∷ []), length-append above (Need wanted ∷ below), length-append fs (f ∷ es), a, b)

begun_more : (fs : List Form) (T W : ℕ) (os : List AnOffer) (xs : List Outage) (f : Form) → SayBegun fs T W os xs → ((wanted : ArrayVec ℤ) → f ≡ Need wanted → Opens (fleet_of os xs) T W → ⊥) → SayBegun (fs ++ (f ∷ [])) T W (kept (nat_lt (length os) 64) os (offer_of f)) (kept (nat_lt (length xs) 16) xs (outage_of (length os) f))
begun_more fs T W os xs f b last = record {
  before = b.before;
  after = b.after ++ (f ∷ []);
  parts = ap (λ z. z ++ (f ∷ [])) b.parts ∙ append_assoc b.before (Day T W ∷ b.after) (f ∷ []);
  first_day = b.first_day;
  offers = ap (λ z. kept (nat_lt (length z) 64) z (offer_of f)) b.offers ∙ sym (offers_more b.after f);
  outages = (λ i. kept (nat_lt (length (b.outages i)) 16) (b.outages i) (outage_of (length (b.offers i)) f)) ∙ sym (outages_more b.after f);
  none_opens = none_more T W b.after f b.none_opens (λ wanted e o. last wanted e (subst (λ z. Opens z T W) (λ i. fleet_of (sym b.offers i) (sym b.outages i)) o));
}

opened_more : (fs : List Form) (T W : ℕ) (os : List AnOffer) (xs : List Outage) (cs : List Call) (f : Form) → SayOpened fs T W os xs cs → SayOpened (fs ++ (f ∷ [])) T W os xs (cs ++ cons_option (call_of f) [])
opened_more fs T W os xs cs f b = record {
  before = b.before;
  between = b.between;
  wanted = b.wanted;
  later = b.later ++ (f ∷ []);
  parts =
      ap (λ z. z ++ (f ∷ [])) b.parts
      ∙ append_assoc b.before (Day T W ∷ (b.between ++ (Need b.wanted ∷ b.later))) (f ∷ [])
      ∙ ap (λ z. b.before ++ (Day T W ∷ z)) (append_assoc b.between (Need b.wanted ∷ b.later) (f ∷ []));
  first_day = b.first_day;
  offers = b.offers;
  outages = b.outages;
  none_opens = b.none_opens;
  opens = b.opens;
  calls = ap (λ z. z ++ cons_option (call_of f) []) b.calls ∙ ap (λ z. need b.wanted.items ∷ z) (sym (filter_map-append call_of b.later (f ∷ [])));
}

-- what a form adds --

no_day : (fs : List Form) (f : Form) → NoDay fs → ((T W : ℕ) → f ≡ Day T W → ⊥) → NoDay (fs ++ (f ∷ []))
no_day fs f none last T W h = ⊎_elim (none T W) (last T W) (Contains-push_cases fs f (Day T W) h)

a_day : (fs : List Form) (T W : ℕ) → NoDay fs → SayBegun (fs ++ (Day T W ∷ [])) T W [] []
a_day fs T W none = record {
  before = fs;
  after = [];
  parts = refl;
  first_day = none;
  offers = refl;
  outages = refl;
  none_opens = λ above wanted below e o. let z = ap length e in omega (arith, length-append above (Need wanted ∷ below), z);
}

nothing_step : (fs : List Form) (f : Form) → NoDay fs → Say (fs ++ (f ∷ [])) (after_nothing f)
nothing_step fs (Day T W) h = a_day fs T W h
nothing_step fs (Offer o) h = no_day fs _ h (λ T W e. cc)
nothing_step fs (Out u a b) h = no_day fs _ h (λ T W e. cc)
nothing_step fs (Need d) h = no_day fs _ h (λ T W e. cc)
nothing_step fs (Price d n) h = no_day fs _ h (λ T W e. cc)
nothing_step fs (Run u x) h = no_day fs _ h (λ T W e. cc)
nothing_step fs (Mix u w x) h = no_day fs _ h (λ T W e. cc)
nothing_step fs (Supply u) h = no_day fs _ h (λ T W e. cc)
nothing_step fs (Show u) h = no_day fs _ h (λ T W e. cc)
nothing_step fs Judge h = no_day fs _ h (λ T W e. cc)

-- an outage is added exactly where it is one of those kept
added_kept : (room good : Bool) (xs : List Outage) (x : Outage) → kept room xs (cond good (Some x) None) ≡ added (cond room (cond good None (Some 14)) (Some 13)) xs x
added_kept true true xs x = refl
added_kept true false xs x = refl
added_kept false true xs x = refl
added_kept false false xs x = refl

opening_step : (fs : List Form) (T W : ℕ) (os : List AnOffer) (xs : List Outage) (wanted : ArrayVec ℤ) → SayBegun fs T W os xs → (o : Option Fault) → open_fault (fleet_of os xs) T W ≡ o → Say (fs ++ (Need wanted ∷ [])) (opening o T W os xs (need wanted.items))
opening_step fs T W os xs wanted b None e = record {
  before = b.before;
  between = b.after;
  wanted = wanted;
  later = [];
  parts = ap (λ z. z ++ (Need wanted ∷ [])) b.parts ∙ append_assoc b.before (Day T W ∷ b.after) (Need wanted ∷ []);
  first_day = b.first_day;
  offers = b.offers;
  outages = b.outages;
  none_opens = b.none_opens;
  opens = subst (λ z. Opens z T W) (λ i. fleet_of (b.offers i) (b.outages i)) ((open_law.none (fleet_of os xs) T W).0 e);
  calls = refl;
}
opening_step fs T W os xs wanted b (Some f) e = begun_more fs T W os xs (Need wanted) b (λ w h o. some_none f (sym e ∙ (open_law.none (fleet_of os xs) T W).1 o))

begun_step : (fs : List Form) (T W : ℕ) (os : List AnOffer) (xs : List Outage) (f : Form) → SayBegun fs T W os xs → Say (fs ++ (f ∷ [])) (after_begun T W os xs f)
begun_step fs T W os xs (Day t w) b = begun_more fs T W os xs _ b (λ d e. cc)
begun_step fs T W os xs (Offer o) b = begun_more fs T W os xs (Offer o) b (λ d e. cc)
begun_step fs T W os xs (Out u a c) b = subst (SayBegun (fs ++ (Out u a c ∷ [])) T W os) (added_kept _ _ xs _) (begun_more fs T W os xs (Out u a c) b (λ d e. cc))
begun_step fs T W os xs (Need d) b = opening_step fs T W os xs d b (open_fault (fleet_of os xs) T W) refl
begun_step fs T W os xs (Price d n) b = begun_more fs T W os xs _ b (λ d e. cc)
begun_step fs T W os xs (Run u x) b = begun_more fs T W os xs _ b (λ d e. cc)
begun_step fs T W os xs (Mix u w x) b = begun_more fs T W os xs _ b (λ d e. cc)
begun_step fs T W os xs (Supply u) b = begun_more fs T W os xs _ b (λ d e. cc)
begun_step fs T W os xs (Show u) b = begun_more fs T W os xs _ b (λ d e. cc)
begun_step fs T W os xs Judge b = begun_more fs T W os xs _ b (λ d e. cc)

called : (fs : List Form) (T W : ℕ) (os : List AnOffer) (xs : List Outage) (cs : List Call) (o : Option Call) → SayOpened fs T W os xs (cs ++ cons_option o []) → Say fs (with_call T W os xs cs o)
called fs T W os xs cs None b = subst (SayOpened fs T W os xs) (append-nil cs) b
called fs T W os xs cs (Some c) b = b

step : (fs : List Form) (s : Said) (f : Form) → Say fs s → Say (fs ++ (f ∷ [])) (after_form s f)
step fs nothing f h = nothing_step fs f h
step fs (begun T W os xs) f h = begun_step fs T W os xs f h
step fs (opened T W os xs cs) f h = called (fs ++ (f ∷ [])) T W os xs cs (call_of f) (opened_more fs T W os xs cs f h)

says_on : (fs : List Form) (s : Said) (outcomes : List (Result (Option Form) Decline)) → Say fs s → Say (fs ++ forms_in outcomes) (fold after_line s outcomes)
says_on fs s [] h = subst (λ z. Say z s) (sym (append-nil fs)) h
says_on fs s (Ok None ∷ rs) h = says_on fs s rs h
says_on fs s (Ok (Some f) ∷ rs) h = subst (λ z. Say z (fold after_line (after_form s f) rs)) (append_assoc fs (f ∷ []) (forms_in rs)) (says_on (fs ++ (f ∷ [])) (after_form s f) rs (step fs s f h))
says_on fs s (Err d ∷ rs) h = says_on fs s rs h

-- one thing --

record FirstDay (T W t w : ℕ) (ls bs : List Form) : Type 0 where
  periods : T ≡ t
  weight : W ≡ w
  after : ls ≡ bs

first_day : (before ls other bs : List Form) (T W t w : ℕ) → before ++ (Day T W ∷ ls) ≡ other ++ (Day t w ∷ bs) → NoDay before → NoDay other → FirstDay T W t w ls bs
first_day before ls other bs T W t w e h k =
    ⊎_elim (λ s. let d = s.1 in record { periods = cc; weight = cc; after = s.2 })
    (⊎_elim (λ s. absurd (k T W (holds_at other before (Day T W) s.0 s.1))) (λ s. absurd (h t w (holds_at before other (Day t w) s.0 s.1))))
    (parting before (Day T W) ls other (Day t w) bs e)

one_begun : (fs : List Form) (T W t w : ℕ) (os ps : List AnOffer) (xs ys : List Outage) → SayBegun fs T W os xs → SayBegun fs t w ps ys → begun T W os xs ≡ begun t w ps ys
one_begun fs T W t w os ps xs ys h k =
    let d = first_day h.before h.after k.before k.after T W t w (sym h.parts ∙ k.parts) h.first_day k.first_day in
    let offers : os ≡ ps = h.offers ∙ ap offers_in d.after ∙ sym k.offers in
    let outages : xs ≡ ys = h.outages ∙ ap outages_in d.after ∙ sym k.outages in
    λ i. begun (d.periods i) (d.weight i) (offers i) (outages i)

not_both : {P : Type 0} (fs : List Form) (T W t w : ℕ) (os ps : List AnOffer) (xs ys : List Outage) (cs : List Call) → SayBegun fs T W os xs → SayOpened fs t w ps ys cs → P
not_both fs T W t w os ps xs ys cs h k =
    let d = first_day h.before h.after k.before (k.between ++ (Need k.wanted ∷ k.later)) T W t w (sym h.parts ∙ k.parts) h.first_day k.first_day in
    absurd (h.none_opens k.between k.wanted k.later d.after (subst (λ z. Opens (fleet_in k.between) z W) (sym d.periods) (subst (λ z. Opens (fleet_in k.between) t z) (sym d.weight) k.opens)))

one_opened : (fs : List Form) (T W t w : ℕ) (os ps : List AnOffer) (xs ys : List Outage) (cs ds : List Call) → SayOpened fs T W os xs cs → SayOpened fs t w ps ys ds → opened T W os xs cs ≡ opened t w ps ys ds
one_opened fs T W t w os ps xs ys cs ds h k =
    ⊎_elim same (⊎_elim (λ s. absurd (k.none_opens h.between h.wanted s.0 s.1 there)) (λ s. absurd (h.none_opens k.between k.wanted s.0 s.1 back)))
    (parting h.between (Need h.wanted) h.later k.between (Need k.wanted) k.later d.after)
  where
    d : FirstDay T W t w (h.between ++ (Need h.wanted ∷ h.later)) (k.between ++ (Need k.wanted ∷ k.later))
    d = first_day h.before _ k.before _ T W t w (sym h.parts ∙ k.parts) h.first_day k.first_day

    there : Opens (fleet_in h.between) t w
    there = subst (λ z. Opens (fleet_in h.between) z w) d.periods (subst (λ z. Opens (fleet_in h.between) T z) d.weight h.opens)

    back : Opens (fleet_in k.between) T W
    back = subst (λ z. Opens (fleet_in k.between) z W) (sym d.periods) (subst (λ z. Opens (fleet_in k.between) t z) (sym d.weight) k.opens)

    same : (h.between ≡ k.between) × (Need h.wanted ≡ Need k.wanted) × (h.later ≡ k.later) → opened T W os xs cs ≡ opened t w ps ys ds
    same s =
        let e = s.1 in
        let wanted : h.wanted ≡ k.wanted = cc in
        let offers : os ≡ ps = h.offers ∙ ap offers_in s.0 ∙ sym k.offers in
        let outages : xs ≡ ys = h.outages ∙ ap outages_in s.0 ∙ sym k.outages in
        let calls : cs ≡ ds = h.calls ∙ (λ i. need (wanted i).items ∷ calls_in (s.2 i)) ∙ sym k.calls in
        λ i. opened (d.periods i) (d.weight i) (offers i) (outages i) (calls i)

one_say : (fs : List Form) (s t : Said) → Say fs s → Say fs t → s ≡ t
one_say fs nothing nothing h k = refl
one_say fs nothing (begun t w ps ys) h k = absurd (h t w (holds_at fs k.before (Day t w) k.after k.parts))
one_say fs nothing (opened t w ps ys ds) h k = absurd (h t w (holds_at fs k.before (Day t w) _ k.parts))
one_say fs (begun T W os xs) nothing h k = absurd (k T W (holds_at fs h.before (Day T W) h.after h.parts))
one_say fs (begun T W os xs) (begun t w ps ys) h k = one_begun fs T W t w os ps xs ys h k
one_say fs (begun T W os xs) (opened t w ps ys ds) h k = not_both fs T W t w os ps xs ys ds h k
one_say fs (opened T W os xs cs) nothing h k = absurd (k T W (holds_at fs h.before (Day T W) _ h.parts))
one_say fs (opened T W os xs cs) (begun t w ps ys) h k = not_both fs t w T W ps os ys xs cs k h
one_say fs (opened T W os xs cs) (opened t w ps ys ds) h k = one_opened fs T W t w os ps xs ys cs ds h k

pub session_law : SessionLaw
session_law = record {
  says = λ outcomes. says_on [] nothing outcomes (λ T W h. let z = h.1 in absurd (omega arith));
  one = one_say;
}
