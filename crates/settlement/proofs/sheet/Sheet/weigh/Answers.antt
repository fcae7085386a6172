use Rattle.std.proofs.Common.{◌≡◌, ℕ, ◌≤◌, true, length, get_or, take, Some, None, Option, refl, sym, ◌∙◌, inl, inr, arith, w64, SFits, rules}
use Rattle.std.proofs.lemmas.Int.{to_z-of_z}
use Rattle.std.proofs.lemmas.Option.{same_Some}
use Rattle.terms.specs.declared.decline.Cause.TheVariants.{UnitWithoutRun, RunsMissNeed, MixesTooLight, MixesMissNeed}
use Rattle.settlement.specs.declared.sheet.Sheet.{Sheet}
use Rattle.settlement.specs.Ledger.{has}
use Rattle.settlement.specs.Standings.{mixed_of}
use Rattle.settlement.specs.Weighing.{FoundFirst, Stood, Heavy}
use Rattle.settlement.proofs.Finding.{none_fails, some_of, found_in_front, pays_in_front}
use Rattle.terms.proofs.Says.{says}
use Rattle.settlement.proofs.sheet.Sheet.weigh.Goals as goal

within : (s : Sheet) (n : ℕ) → n ≤ 64 → n ≤ length s.units
within s n few = omega (arith, s.long)

-- what is found among the first units is found on the sheet
idle : (s : Sheet) (n : ℕ) → n ≤ 64 → (r : Option ℕ) → FoundFirst (length (take n s.units)) (λ u. has (get_or (take n s.units) u None) ≡ true) r → FoundFirst n (Stood s) r
idle s n few r h = found_in_front (λ u o. has o ≡ true) None n s.units r (within s n few) h

light : (s : Sheet) (n W : ℕ) → n ≤ 64 → (r : Option ℕ) → FoundFirst (length (take n s.units)) (λ u. mixed_of (get_or (take n s.units) u None) ≡ W) r → FoundFirst n (Heavy W s) r
light s n W few r h = found_in_front (λ u o. mixed_of o ≡ W) None n s.units r (within s n few) h

pub returns : goal.returns
returns c =
    let s = c.args.self.now in
    let n = c.args.units in
    let uplift = c.in_ok-uplift.uplift in
    let fits : SFits w64 uplift = search rules in (
      to_z-of_z w64 uplift fits ∙ same_Some uplift _ (sym (some_of c.uplift.result c.at.result c.ok_or.result uplift c.ok_or.ensures.value c.in_ok-uplift.was) ∙ c.uplift.ensures) ∙ pays_in_front n s.units (within s n c.requires),
      record {
        stood = idle s n c.requires None c.in_default.ensures;
        runs_match = c.in_default-first_missed.ensures;
        heavy = light s n c.args.weight c.requires None c.in_default-first_light.ensures;
        mixes_match = c.in_default-first_missed-2.ensures;
      },
    )

pub returns-in-Some : goal.returns-in-Some
returns-in-Some c =
    let place = c.in-Some.unit in
    let told = says UnitWithoutRun place c.at-in-Some.result c.at-in-Some.ensures in
    (record { number = 41; place = place }, inl (refl, idle c.args.self.now c.args.units c.requires (Some place) c.in-Some.ensures), told)

pub returns-in-Some-first_missed : goal.returns-in-Some-first_missed
returns-in-Some-first_missed c =
    let place = c.in-Some-first_missed.period in
    let told = says RunsMissNeed place c.at-in-Some-first_missed.result c.at-in-Some-first_missed.ensures in (
      record { number = 42; place = place },
      inr (
        none_fails (idle c.args.self.now c.args.units c.requires None c.in_default.ensures),
        inl (refl, c.in-Some-first_missed.ensures),
      ),
      told,
    )

pub returns-in-Some-first_light : goal.returns-in-Some-first_light
returns-in-Some-first_light c =
    let place = c.in-Some-first_light.unit in
    let told = says MixesTooLight place c.at-in-Some-first_light.result c.at-in-Some-first_light.ensures in (
      record { number = 43; place = place },
      inr (
        none_fails (idle c.args.self.now c.args.units c.requires None c.in_default.ensures),
        inr (
          none_fails c.in_default-first_missed.ensures,
          inl (refl, light c.args.self.now c.args.units c.args.weight c.requires (Some place) c.in-Some-first_light.ensures),
        ),
      ),
      told,
    )

pub returns-in-Some-first_missed-2 : goal.returns-in-Some-first_missed-2
returns-in-Some-first_missed-2 c =
    let place = c.in-Some-first_missed-2.period in
    let told = says MixesMissNeed place c.at-in-Some-first_missed-2.result c.at-in-Some-first_missed-2.ensures in (
      record { number = 44; place = place },
      inr (
        none_fails (idle c.args.self.now c.args.units c.requires None c.in_default.ensures),
        inr (
          none_fails c.in_default-first_missed.ensures,
          inr (
            none_fails (light c.args.self.now c.args.units c.args.weight c.requires None c.in_default-first_light.ensures),
            inl (refl, c.in-Some-first_missed-2.ensures),
          ),
        ),
      ),
      told,
    )
