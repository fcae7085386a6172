-- Steps in the places of an offer, and the offers that parts make.
use Rattle.std.proofs.Common.{◌≡◌, ℕ, zero, suc, ◌+◌, ◌-◌, ◌≤◌, Bool, true, List, [], ◌∷◌, ◌++◌, length, replicate, pos, sym, refl, ap, ◌∙◌, arith}
use Rattle.std.specs.Prelude.{◌==◌, ◌&&◌, nat_le, int_le}
use Rattle.std.proofs.lemmas.Bool.{and_parts, cond-false, leb-true, ne_eqb}
use Rattle.reader.specs.declared.steps.Step.{Step}
use Rattle.reader.specs.declared.steps.Steps.{Steps}
use Rattle.reader.specs.declared.numbers.SteamNumbers.{SteamNumbers}
use Rattle.reader.specs.declared.numbers.RampNumbers.{RampNumbers}
use Rattle.reader.specs.declared.names.FormName.TheVariants as name
use Rattle.reader.specs.Steps.{fair_step, fair_steps, fair_list, lots_in, no_step}
use Rattle.reader.specs.Offers.{fair_run, fair_times, fair_costs, fair_was, fair_rate, fair_money, fair_output, narrow, no_price_below, fair_steam, fair_ramp, fair_buyer}
use Rattle.reader.specs.OfferMade.{fair_steam_parts, fair_ramp_parts, fair_buyer_parts}
use Rattle.reader.specs.Agreement.{used}
use Rattle.reader.specs.Forms.{Line}

none_lots : (n : ℕ) → lots_in (replicate n no_step) ≡ 0
none_lots zero = refl
none_lots (suc n) = omega (arith, none_lots n)

lots_padded : (ss : List Step) (n : ℕ) → lots_in (ss ++ replicate n no_step) ≡ lots_in ss
lots_padded [] n = none_lots n
lots_padded (s ∷ ss) n = ap (λ l. s.lots + l) (lots_padded ss n)

none_used : (n : ℕ) → used (replicate n no_step) ≡ []
none_used zero = refl
none_used (suc n) = refl

some_lots : (s : Step) → fair_step s ≡ true → 1 ≤ s.lots
some_lots s h = leb-true 1 s.lots (and_parts (nat_le 1 s.lots) _ (and_parts (nat_le 1 s.lots && nat_le s.lots 500) _ h).0).0

used_padded : (ss : List Step) (n : ℕ) → fair_steps ss ≡ true → used (ss ++ replicate n no_step) ≡ ss
used_padded [] n h = none_used n
used_padded (s ∷ ss) n h =
    let p = and_parts (fair_step s) _ h in
    let l = some_lots s p.0 in
    cond-false (s.lots == 0) _ _ (ne_eqb s.lots 0 (λ e. omega arith)) ∙ ap (λ l. s ∷ l) (used_padded ss n p.1)

none_below : (n : ℕ) → no_price_below (replicate n no_step) ≡ true
none_below zero = refl
none_below (suc n) = none_below n

below_padded : (ss : List Step) (n : ℕ) → no_price_below (ss ++ replicate n no_step) ≡ no_price_below ss
below_padded [] n = none_below n
below_padded (s ∷ ss) n = ap (λ b. int_le (pos 0) s.price && b) (below_padded ss n)

-- an offer's places hold a list of steps
module _ (ss : List Step) (steps : Steps) (fair : fair_list ss ≡ true) (padded : steps.places ≡ ss ++ replicate (4 - length ss) no_step) where
  lots_same : lots_in steps.places ≡ lots_in ss
  lots_same = ap lots_in padded ∙ lots_padded ss (4 - length ss)

  pub used_same : used steps.places ≡ ss
  used_same = ap used padded ∙ used_padded ss (4 - length ss) (and_parts (nat_le 1 (length ss) && nat_le (length ss) 4) _ fair).1

  below_same : no_price_below steps.places ≡ no_price_below ss
  below_same = ap no_price_below padded ∙ below_padded ss (4 - length ss)

  pub buyer_test : (b : Bool) → fair_buyer steps ≡ b → fair_buyer_parts ss ≡ b
  buyer_test b h = ap (λ t. t && (no_price_below ss && nat_le (lots_in ss) 500)) fair ∙ sym (λ i. below_same i && nat_le (lots_same i) 500) ∙ h

  pub steam_test : (n : SteamNumbers) (b : Bool) → n.steps ≡ steps → fair_steam n ≡ b → fair_steam_parts (n.run, (n.rest, (n.start, (n.idle, (ss, n.was))))) ≡ b
  steam_test n b e h =
      ap (λ t. t && ((fair_run n.run && fair_times n.rest) && (fair_costs n.start n.idle && (fair_was n.was && lots_in ss == n.run.hi)))) fair
      ∙ ap (λ l. (fair_run n.run && fair_times n.rest) && (fair_costs n.start n.idle && (fair_was n.was && l == n.run.hi))) (sym lots_same ∙ ap (λ (s : Steps). lots_in s.places) (sym e)) ∙ h

  pub ramp_test : (n : RampNumbers) (b : Bool) → n.steps ≡ steps → fair_ramp n ≡ b → fair_ramp_parts (n.run, (n.rate, (n.start, (n.idle, (ss, n.was))))) ≡ b
  ramp_test n b e h =
      ap (λ t. t && (((fair_run n.run && narrow n.run) && fair_rate n.rate n.run) && ((fair_money n.start && fair_money n.idle) && (fair_output n.was n.run && lots_in ss == n.run.hi)))) fair
      ∙ ap (λ l. ((fair_run n.run && narrow n.run) && fair_rate n.rate n.run) && ((fair_money n.start && fair_money n.idle) && (fair_output n.was n.run && l == n.run.hi))) (sym lots_same ∙ ap (λ (s : Steps). lots_in s.places) (sym e)) ∙ h

  pub steam_line : (m n : SteamNumbers) → m ≡ n → n.steps ≡ steps → ◌≡◌ {A = Line} (record { name = name.Steam; values = (m.run, (m.rest, (m.start, (m.idle, (used m.steps.places, m.was))))) }) (record { name = name.Steam; values = (n.run, (n.rest, (n.start, (n.idle, (ss, n.was))))) })
  steam_line m n e f =
      (λ i. record { name = name.Steam; values = ((e i).run, ((e i).rest, ((e i).start, ((e i).idle, (used (e i).steps.places, (e i).was))))) })
      ∙ ap (λ l. record { name = name.Steam; values = (n.run, (n.rest, (n.start, (n.idle, (l, n.was))))) }) (ap (λ (s : Steps). used s.places) f ∙ used_same)

  pub ramp_line : (m n : RampNumbers) → m ≡ n → n.steps ≡ steps → ◌≡◌ {A = Line} (record { name = name.Ramp; values = (m.run, (m.rate, (m.start, (m.idle, (used m.steps.places, m.was))))) }) (record { name = name.Ramp; values = (n.run, (n.rate, (n.start, (n.idle, (ss, n.was))))) })
  ramp_line m n e f =
      (λ i. record { name = name.Ramp; values = ((e i).run, ((e i).rate, ((e i).start, ((e i).idle, (used (e i).steps.places, (e i).was))))) })
      ∙ ap (λ l. record { name = name.Ramp; values = (n.run, (n.rate, (n.start, (n.idle, (l, n.was))))) }) (ap (λ (s : Steps). used s.places) f ∙ used_same)

  pub buyer_line : (s : Steps) → s ≡ steps → ◌≡◌ {A = Line} (record { name = name.Buyer; values = used s.places }) (record { name = name.Buyer; values = ss })
  buyer_line s e = ap (λ l. record { name = name.Buyer; values = l }) (ap (λ (t : Steps). used t.places) e ∙ used_same)
