-- Rows that are made, and a sheet with nothing on it. Assumes nothing.
use Rattle.std.proofs.Common.{◌≡◌, ℕ, zero, suc, ◌≤◌, true, List, length, get_or, replicate, ℤ, pos, ◌+ℤ◌, ◌*ℤ◌, ◌*◌, Some, None, Ok, Err, Option, Result, sym, refl, ap, ◌∙◌, arith}
use denote.Struct.Props.{props}
use lib.IntN.{*ℤ-zero}
use Rattle.std.proofs.lemmas.List.{get_or_past}
use Rattle.std.proofs.lemmas.Int.{ints}
use Rattle.terms.specs.Numbers.{near}
use Rattle.terms.proofs.Bounds.{near_true, near_zero}
use Rattle.terms.specs.declared.decline.Decline.{Decline}
use Rattle.fleet.specs.Rows.{Fault, Made}
use Rattle.settlement.specs.declared.stages.Stage.{Stage}
use Rattle.settlement.specs.declared.stages.Stage.TheVariants.{Blank, Needed, Priced}
use Rattle.settlement.specs.declared.stages.Rows.{Rows}
use Rattle.settlement.specs.declared.stages.Call.{Call}
use Rattle.settlement.specs.declared.stages.Call.TheVariants.{Need, Price}
use Rattle.settlement.specs.Stages.{StageTakes}
use Rattle.settlement.specs.declared.sheet.Sheet.{Sheet}
use Rattle.settlement.specs.Standings.{runs_in, weight_in}
use Rattle.settlement.specs.Reasons.{KeptAtDecline}
use Rattle.settlement.specs.Sheets.{RowsAt}
use Rattle.terms.specs.declared.entry.Entry.{Entry}
use Rattle.settlement.specs.Evidence.{lots_at}

pub made_yes : {X : Type 0} (o : Option Fault) (Is : X → Type 0) (x : X) → Made o Is (Ok x) → (o ≡ None) × Is x
made_yes None Is x h = (refl, h)
made_yes (Some f) Is x h = absurd h

pub always : {A : Type 0} (n k : ℕ) (d : A) → get_or (replicate n d) k d ≡ d
always zero k d = refl
always (suc n) zero d = refl
always (suc n) (suc k) d = always n k d

pub zero_near : (b n k : ℕ) (xs : List ℤ) → xs ≡ replicate n (pos 0) → near b (get_or xs k (pos 0)) ≡ true
zero_near b n k xs e = ap (λ ys. near b (get_or ys k (pos 0))) e ∙ ap (near b) (always n k (pos 0)) ∙ near_true b (pos 0) (near_zero b)

-- past its end a schedule adds nothing
pub nothing_added : (x w : ℤ) (es : List Entry) (t : ℕ) → length es ≤ t → x ≡ x +ℤ (w *ℤ lots_at es t)
nothing_added x w es t le =
    let e : lots_at es t ≡ pos 0 = ap (λ (s : Entry). s.output) (get_or_past es t (record { state = 0; output = pos 0 }) le) in
    let z = ap (λ y. w *ℤ y) e ∙ *ℤ-zero w in
    plus_none x (w *ℤ lots_at es t) z
  where
    plus_none : (a b : ℤ) → b ≡ pos 0 → a ≡ a +ℤ b
    plus_none a b h = omega (arith, ints)

-- a call that is declined leaves the stage
pub stage_stays : (T : ℕ) (s : Stage) (c : Call) (new : Stage) (d : Decline) → StageTakes T s c new (Err d) → new ≡ s
stage_stays T Blank (Need xs) new d h = h.0
stage_stays T (Needed needs) (Price n ns) new d h = h.0
stage_stays T (Priced rows) (Need xs) new d h = h.1
stage_stays T (Priced rows) (Price n ns) new d h = h.1
stage_stays T (Priced rows) c new d h = absurd h
stage_stays T s c new d h = h.1

-- rows are given at priced alone
pub rows_yes : (s : Stage) (p : ℕ) (rows : Rows) → RowsAt s p (Ok rows) → s ≡ Priced rows
rows_yes (Priced x) p rows h = ap Priced (sym h)
rows_yes Blank p rows h = absurd h
rows_yes (Needed needs) p rows h = absurd h

-- with the stage as it was, the sheet is as it was
pub sheet_kept : {Y : Type 0} (s : Sheet) (x : Stage) (r : Result Y Decline) (a : length s.units ≡ 64) (b : (t : ℕ) → near (500 * runs_in s.units) (get_or s.runs t (pos 0)) ≡ true) (e : (t : ℕ) → near (500 * weight_in s.units) (get_or s.mixes t (pos 0)) ≡ true) (g : near (96000000000000 * weight_in s.units) s.gap ≡ true) → KeptAtDecline s.stage x r → KeptAtDecline s (record { stage = x; units = s.units; runs = s.runs; mixes = s.mixes; gap = s.gap; long = a; counted = b; weighted = e; narrow = g }) r
sheet_kept s x (Ok y) a b e g k = tt
sheet_kept s x (Err d) a b e g k =
    let long : IsProp (length s.units ≡ 64) = hlevel props in
    let counted : IsProp ((t : ℕ) → near (500 * runs_in s.units) (get_or s.runs t (pos 0)) ≡ true) = hlevel props in
    let weighted : IsProp ((t : ℕ) → near (500 * weight_in s.units) (get_or s.mixes t (pos 0)) ≡ true) = hlevel props in
    let narrow : IsProp (near (96000000000000 * weight_in s.units) s.gap ≡ true) = hlevel props in
    λ i. record {
      stage = k i;
      units = s.units;
      runs = s.runs;
      mixes = s.mixes;
      gap = s.gap;
      long = long a s.long i;
      counted = counted b s.counted i;
      weighted = weighted e s.weighted i;
      narrow = narrow g s.narrow i;
    }
