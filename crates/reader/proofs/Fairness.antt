-- Where every number is in its range, what is left to ask of an offer is whether they agree.
use Rattle.std.proofs.Common.{◌≡◌, ℕ, Bool, true, false, List, [], ◌∷◌, ℤ, pos, neg_ℤ, ◌≤ℤ◌, refl, ap, ◌∙◌, arith}
use Rattle.std.specs.Prelude.{◌==◌, ◌&&◌, nat_le}
use Rattle.std.specs.List.{list_all}
use Rattle.std.proofs.lemmas.Bool.{and_from, le-leb}
use Rattle.std.proofs.lemmas.Int.{ints}
use Rattle.terms.proofs.Ints.{le_test}
use Rattle.words.specs.Shapes.{Fits, EachFits}
use Rattle.reader.specs.declared.steps.Step.{Step}
use Rattle.reader.specs.declared.numbers.Run.{Run}
use Rattle.reader.specs.declared.numbers.Rest.{Rest}
use Rattle.reader.specs.declared.numbers.Was.{Was}
use Rattle.reader.specs.declared.numbers.Was.TheVariants.{On, Off}
use Rattle.reader.specs.declared.numbers.LakeNumbers.{LakeNumbers}
use Rattle.reader.specs.declared.names.FormName.TheVariants as name
use Rattle.reader.specs.Lists.{step_shape, steps_shape}
use Rattle.reader.specs.Groups.{run_shape, rest_shape, was_shape}
use Rattle.reader.specs.Steps.{fair_step, fair_list, lots_in}
use Rattle.reader.specs.Offers.{between, fair_run, fair_times, fair_was, fair_money, fair_output, narrow, no_price_below, fair_lake}
use Rattle.reader.specs.OfferParts.{SteamValues, RampValues, steam_shape, ramp_shape, lake_shape}
use Rattle.reader.specs.OfferMade.{fair_steam_parts, fair_ramp_parts, fair_buyer_parts}
use Rattle.reader.specs.Agreement.{steam_agrees, ramp_agrees, lake_agrees, buyer_agrees}
use Rattle.reader.specs.Forms.{shape_of}

-- n lies between two numbers
abbrev In : ℕ → ℕ → ℕ → Type 0
In lo hi n = (pos lo ≤ℤ pos n) × (pos n ≤ℤ pos hi)

above : (lo hi n : ℕ) → In lo hi n → nat_le lo n ≡ true
above lo hi n h = let l = h.0 in le-leb lo n (omega (arith, ints))

below : (lo hi n : ℕ) → In lo hi n → nat_le n hi ≡ true
below lo hi n h = let l = h.1 in le-leb n hi (omega (arith, ints))

inside : (lo hi n : ℕ) → In lo hi n → between lo hi n ≡ true
inside lo hi n h = and_from _ _ (above lo hi n h) (below lo hi n h)

and_true : (x : Bool) → (x && true) ≡ x
and_true true = refl
and_true false = refl

fair_each : (lo hi : ℤ) → neg_ℤ (pos 500000) ≤ℤ lo → hi ≤ℤ pos 500000 → (ss : List Step) → EachFits (Fits (step_shape lo hi)) ss → list_all fair_step ss ≡ true
fair_each lo hi l u [] h = refl
fair_each lo hi l u (s ∷ ss) h =
    let a = h.0.1.0 in
    let b = h.0.1.1 in
    let low : neg_ℤ (pos 500000) ≤ℤ s.price = omega (arith, ints) in
    let high : s.price ≤ℤ pos 500000 = omega (arith, ints) in
    and_from _ _ (and_from _ _ (inside 1 500 s.lots h.0.0) (and_from _ _ (le_test _ _ low) (le_test _ _ high))) (fair_each lo hi l u ss h.1)

fair_steps_read : (lo hi : ℤ) → neg_ℤ (pos 500000) ≤ℤ lo → hi ≤ℤ pos 500000 → (ss : List Step) → Fits (steps_shape lo hi) ss → fair_list ss ≡ true
fair_steps_read lo hi l u ss h = and_from _ _ (and_from _ _ (le-leb _ _ h.0) (le-leb _ _ h.1)) (fair_each lo hi l u ss h.2)

not_below : (hi : ℤ) (ss : List Step) → EachFits (Fits (step_shape (pos 0) hi)) ss → no_price_below ss ≡ true
not_below hi [] h = refl
not_below hi (s ∷ ss) h = and_from _ _ (le_test _ _ h.0.1.0) (not_below hi ss h.1)

run_read : (r : Run) → Fits run_shape r → fair_run r ≡ nat_le r.lo r.hi
run_read r h = (λ i. above 1 500 r.lo h.0 i && (nat_le r.lo r.hi && below 1 500 r.hi h.1 i)) ∙ and_true (nat_le r.lo r.hi)

rest_read : (r : Rest) → Fits rest_shape r → fair_times r ≡ nat_le r.down r.cold
rest_read r h = (λ i. inside 1 24 r.up h.0 i && (inside 1 24 r.down h.1.0 i && (nat_le r.down r.cold && below 1 48 r.cold h.1.1 i))) ∙ and_true (nat_le r.down r.cold)

was_read : (w : Was) → Fits was_shape w → fair_was w ≡ true
was_read (On m) h = inside 1 48 m h
was_read (Off m) h = inside 1 48 m h

money_read : (n : ℕ) → In 0 100000000 n → fair_money n ≡ true
money_read n h = below 0 100000000 n h

together : (x y z : Bool) → ((x && y) && z) ≡ (x && (y && z))
together true y z = refl
together false y z = refl

pub steam_fair : (v : SteamValues) → Fits steam_shape v → fair_steam_parts v ≡ steam_agrees v
steam_fair v h =
    let f = fair_steps_read _ _ (omega (arith, ints)) (omega (arith, ints)) v.1.1.1.1.0 h.1.1.1.1.0 in
    let r = run_read v.0 h.0 in
    let t = rest_read v.1.0 h.1.0 in
    let m = and_from _ _ (money_read v.1.1.0.hot h.1.1.0.0) (and_from _ _ (money_read v.1.1.0.frost h.1.1.0.1) (money_read v.1.1.1.0 h.1.1.1.0)) in
    let w = was_read v.1.1.1.1.1 h.1.1.1.1.1 in
    (λ i. f i && ((r i && t i) && (m i && (w i && lots_in v.1.1.1.1.0 == v.0.hi)))) ∙ together (nat_le v.0.lo v.0.hi) (nat_le v.1.0.down v.1.0.cold) (lots_in v.1.1.1.1.0 == v.0.hi)

pub ramp_fair : (v : RampValues) → Fits ramp_shape v → fair_ramp_parts v ≡ ramp_agrees v
ramp_fair v h =
    let f = fair_steps_read _ _ (omega (arith, ints)) (omega (arith, ints)) v.1.1.1.1.0 h.1.1.1.1.0 in
    let r = run_read v.0 h.0 in
    let s = inside 1 500 v.1.0.step h.1.0.0 in
    let e = below 1 500 v.1.0.edge h.1.0.1 in
    let a = money_read v.1.1.0 h.1.1.0 in
    let b = money_read v.1.1.1.0 h.1.1.1.0 in
    (λ i. f i && (((r i && narrow v.0) && (s i && (nat_le v.0.lo v.1.0.edge && e i))) && ((a i && b i) && (fair_output v.1.1.1.1.1 v.0 && lots_in v.1.1.1.1.0 == v.0.hi))))
    ∙ ap (λ c. ((nat_le v.0.lo v.0.hi && narrow v.0) && c) && (fair_output v.1.1.1.1.1 v.0 && lots_in v.1.1.1.1.0 == v.0.hi)) (and_true (nat_le v.0.lo v.1.0.edge))
    ∙ together (nat_le v.0.lo v.0.hi && narrow v.0) (nat_le v.0.lo v.1.0.edge) (fair_output v.1.1.1.1.1 v.0 && lots_in v.1.1.1.1.0 == v.0.hi)

pub lake_fair : (n : LakeNumbers) → Fits lake_shape n → fair_lake n ≡ lake_agrees n
lake_fair n h =
    let c = inside 1 79 n.full h.0 in
    let g = below 0 79 n.flow.fall h.1.0.0 in
    let r = below 0 79 n.flow.rise h.1.0.1 in
    let w = below 0 100000 n.wear h.1.1.0 in
    λ i. (c i && (g i && r i)) && (w i && (nat_le n.was n.full && nat_le n.end n.full))

pub buyer_fair : (ss : List Step) → Fits (shape_of name.Buyer) ss → fair_buyer_parts ss ≡ buyer_agrees ss
buyer_fair ss h =
    let f = fair_steps_read _ _ (omega (arith, ints)) (omega (arith, ints)) ss h in
    let p = not_below (pos 500000) ss h.2 in
    λ i. f i && (p i && nat_le (lots_in ss) 500)
