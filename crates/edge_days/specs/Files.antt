-- The worked days as files, and what they print. Assumes nothing.
use Rattle.std.specs.Prelude.{◌≡◌, ℕ, List, codes}
use Rattle.day.specs.Settling.{Settled}

-- the definitions let the file have this text, and no other
pub record Prints (file text : List ℕ) : Type 0 where
  pub settled : Settled file text
  pub alone : (t : List ℕ) → Settled file t → t ≡ text

-- the worked day, at 6 cents
abbrev pub worked_day : List ℕ
worked_day =
    codes "(day 1 2)\n(steam (run 1 10) (rest 1 1 1) (start 0 0) (idle 0) (steps (10 5)) (was on 1))\n(steam (run 4 4) (rest 1 1 1) (start 16 16) (idle 0) (steps (4 2)) (was off 1))\n(need 12)\n(price 1 6)\n(run 0 (0 8))\n(run 1 (0 4))\n(mix 0 2 (0 10))\n(mix 1 1 (0 4))\n(mix 1 1 (1 0))\n(judge)\n"

abbrev pub worked_text : List ℕ
worked_text = codes "(pay 0 2)\n(pay 1 0)\n(verdict least (uplift 2) (over 1) (gap 0) (weight 2))\n"

-- the same at 5 cents, and what supply and show say before the runs and after judge
abbrev pub within_day : List ℕ
within_day =
    codes "(day 1 2)\n(steam (run 1 10) (rest 1 1 1) (start 0 0) (idle 0) (steps (10 5)) (was on 1))\n(steam (run 4 4) (rest 1 1 1) (start 16 16) (idle 0) (steps (4 2)) (was off 1))\n(need 12)\n(price 1 5)\n(supply 0)\n(show 0)\n(run 0 (0 8))\n(run 1 (0 4))\n(mix 0 2 (0 10))\n(mix 1 1 (0 4))\n(mix 1 1 (1 0))\n(judge)\n(supply 0)\n(show 0)\n"

abbrev pub within_text : List ℕ
within_text = codes "(supply 0 0 0 10)\n(show 0 (0 1))\n(pay 0 0)\n(pay 1 4)\n(verdict within (uplift 4) (over 1) (gap 4) (weight 2))\n(supply 0 0 0 10)\n(show 0 (0 1))\n"

-- unit 1 at 4 lots alone
abbrev pub missed_day : List ℕ
missed_day =
    codes "(day 1 2)\n(steam (run 1 10) (rest 1 1 1) (start 0 0) (idle 0) (steps (10 5)) (was on 1))\n(steam (run 4 4) (rest 1 1 1) (start 16 16) (idle 0) (steps (4 2)) (was off 1))\n(need 12)\n(price 1 6)\n(run 0 (0 8))\n(run 1 (0 4))\n(mix 0 2 (0 10))\n(mix 1 2 (0 4))\n(judge)\n"

abbrev pub missed_text : List ℕ
missed_text = codes "(no docket 44 10 0)\n"

pub record FileDays : Type 0 where
  pub worked : Prints worked_day worked_text
  pub within : Prints within_day within_text
  pub missed : Prints missed_day missed_text
