-- Every form's shape is sound, so the law holds of it.
use Rattle.std.proofs.Common.{◌≡◌, ℕ, ◌^◌, ◌<◌, ◌≤◌, pos, neg_ℤ, ℤ, ◌≤ℤ◌, ◌⊎◌, inl, inr, refl, lit<, lit≤, arith}
use Rattle.std.proofs.lemmas.Int.{ints}
use Rattle.words.specs.Laws.{TenDigits, Sound, Law}
use Rattle.words.proofs.Laws.{law}
use Rattle.words.proofs.ShapeStops.{Clear}
use Rattle.reader.specs.declared.numbers.Was.{Was}
use Rattle.reader.specs.declared.numbers.Was.TheVariants.{On, Off}
use Rattle.reader.specs.declared.names.FormName.{FormName}
use Rattle.reader.specs.declared.names.FormName.TheVariants as name
use Rattle.reader.specs.Lists.{entry_shape, amounts_shape, schedule_shape, steps_shape}
use Rattle.reader.specs.Groups.{run_shape, rest_shape, start_shape, rate_shape, flow_shape, was_shape, was_of, was_words}
use Rattle.reader.specs.Forms.{shape_of}

abbrev SoundNatural : ℕ → ℕ → Type 0
SoundNatural lo hi = (pos 0 ≤ℤ pos lo) × TenDigits (pos lo) (pos hi)

from_to : (lo hi : ℕ) → lo < 10 ^ 10 → hi < 10 ^ 10 → SoundNatural lo hi
from_to lo hi l h = (omega (arith, ints), record { low = l; high = h })

count : SoundNatural 0 2147483647
count = from_to 0 2147483647 (lit< tt) (lit< tt)

lots : SoundNatural 1 500
lots = from_to 1 500 (lit< tt) (lit< tt)

money : SoundNatural 0 100000000
money = from_to 0 100000000 (lit< tt) (lit< tt)

short : SoundNatural 1 24
short = from_to 1 24 (lit< tt) (lit< tt)

periods : SoundNatural 1 48
periods = from_to 1 48 (lit< tt) (lit< tt)

level : SoundNatural 0 79
level = from_to 0 79 (lit< tt) (lit< tt)

amount : TenDigits (neg_ℤ (pos 2147483648)) (pos 2147483647)
amount = record { low = lit< tt; high = lit< tt }

entry : Sound (entry_shape (neg_ℤ (pos 2147483648)) (pos 2147483647))
entry = (λ _. refl, λ _. refl, (count, amount))

amounts : Sound amounts_shape
amounts = (lit≤ tt, refl, amount)

schedule : Sound schedule_shape
schedule = (lit≤ tt, refl, entry)

steps : (lo hi : ℤ) → TenDigits lo hi → Sound (steps_shape lo hi)
steps lo hi t = (lit≤ tt, refl, (λ _. refl, λ _. refl, (lots, t)))

run : Sound run_shape
run = (λ _. refl, λ _. refl, (lots, lots))

rest : Sound rest_shape
rest = (λ _. refl, λ _. refl, (short, (short, periods)))

start : Sound start_shape
start = (λ _. refl, λ _. refl, (money, money))

rate : Sound rate_shape
rate = (λ _. refl, λ _. refl, (lots, lots))

flow : Sound flow_shape
flow = (λ _. refl, λ _. refl, (level, level))

words_of_was : (x : ℕ ⊎ ℕ) → was_words (was_of x) ≡ x
words_of_was (inl m) = refl
words_of_was (inr m) = refl

was_of_words : (w : Was) → was_of (was_words w) ≡ w
was_of_words (On m) = refl
was_of_words (Off m) = refl

was : Sound was_shape
was = (words_of_was, was_of_words, (refl, periods, periods))

pub sound : (k : FormName) → Sound (shape_of k)
sound name.Day = (periods, from_to 1 1000 (lit< tt) (lit< tt))
sound name.Steam = (run, (rest, (start, (money, (steps (neg_ℤ (pos 500000)) (pos 500000) (record { low = lit< tt; high = lit< tt }), was)))))
sound name.Ramp = (run, (rate, (money, (money, (steps (neg_ℤ (pos 500000)) (pos 500000) (record { low = lit< tt; high = lit< tt }), from_to 0 500 (lit< tt) (lit< tt))))))
sound name.Lake = (λ _. refl, λ _. refl, (from_to 1 79 (lit< tt) (lit< tt), (flow, (from_to 0 100000 (lit< tt) (lit< tt), (level, level)))))
sound name.Buyer = steps (pos 0) (pos 500000) (record { low = lit< tt; high = lit< tt })
sound name.Out = (count, (count, count))
sound name.Need = amounts
sound name.Price = (count, amounts)
sound name.Run = (count, schedule)
sound name.Mix = (count, (count, schedule))
sound name.Supply = count
sound name.Show = count
sound name.Judge = tt

pub form_law : (k : FormName) → Law (shape_of k)
form_law k = law (shape_of k) (sound k)

-- and clear: no range is empty, and no word is a numeral

up : (lo hi : ℕ) → lo ≤ hi → pos lo ≤ℤ pos hi
up lo hi h = omega (arith, ints)

clear_count : pos 0 ≤ℤ pos 2147483647
clear_count = up 0 2147483647 (lit≤ tt)

clear_lots : pos 1 ≤ℤ pos 500
clear_lots = up 1 500 (lit≤ tt)

clear_money : pos 0 ≤ℤ pos 100000000
clear_money = up 0 100000000 (lit≤ tt)

clear_short : pos 1 ≤ℤ pos 24
clear_short = up 1 24 (lit≤ tt)

clear_periods : pos 1 ≤ℤ pos 48
clear_periods = up 1 48 (lit≤ tt)

clear_level : pos 0 ≤ℤ pos 79
clear_level = up 0 79 (lit≤ tt)

clear_amount : neg_ℤ (pos 2147483648) ≤ℤ pos 2147483647
clear_amount = omega (arith, ints)

clear_schedule : Clear schedule_shape
clear_schedule = (refl, (clear_count, clear_amount))

clear_steps : (lo hi : ℤ) → lo ≤ℤ hi → Clear (steps_shape lo hi)
clear_steps lo hi h = (refl, (refl, (refl, (clear_lots, h))))

clear_price : neg_ℤ (pos 500000) ≤ℤ pos 500000
clear_price = omega (arith, ints)

pub clear : (k : FormName) → Clear (shape_of k)
clear name.Day = (clear_periods, up 1 1000 (lit≤ tt))
clear name.Steam = (
  (refl, (refl, (clear_lots, clear_lots))),
  (
    (refl, (refl, (clear_short, (clear_short, clear_periods)))),
    (
      (refl, (refl, (clear_money, clear_money))),
      ((refl, (refl, clear_money)), (clear_steps _ _ clear_price, (refl, (refl, (refl, refl, clear_periods, clear_periods))))),
    ),
  ),
)
clear name.Ramp = (
  (refl, (refl, (clear_lots, clear_lots))),
  (
    (refl, (refl, (clear_lots, clear_lots))),
    (
      (refl, (refl, clear_money)),
      (
        (refl, (refl, clear_money)),
        (clear_steps _ _ clear_price, (refl, (refl, up 0 500 (lit≤ tt)))),
      ),
    ),
  ),
)
clear name.Lake = (
  (refl, (refl, up 1 79 (lit≤ tt))),
  (
    (refl, (refl, (clear_level, clear_level))),
    (
      (refl, (refl, up 0 100000 (lit≤ tt))),
      (
        (refl, (refl, clear_level)),
        (refl, (refl, clear_level)),
      ),
    ),
  ),
)
clear name.Buyer = clear_steps (pos 0) (pos 500000) (up 0 500000 (lit≤ tt))
clear name.Out = (clear_count, (clear_count, clear_count))
clear name.Need = clear_amount
clear name.Price = (clear_count, clear_amount)
clear name.Run = (clear_count, clear_schedule)
clear name.Mix = (clear_count, (clear_count, clear_schedule))
clear name.Supply = clear_count
clear name.Show = clear_count
clear name.Judge = tt
