use Rattle.std.proofs.Common.{rules}
use Rattle.words.proofs.numerals.digits_after.Goals as goal
use Rattle.words.proofs.Scans.{digits_more, digits_low, digits_high, digits_end, tens, tens_most}

pub returns-in_default : goal.returns-in_default
returns-in_default c = search (rules, digits_low)

pub returns-in_default-2 : goal.returns-in_default-2
returns-in_default-2 c = search (rules, digits_high)

pub loop-digit-preserved : goal.loop-digit-preserved
loop-digit-preserved c = (search (rules, tens), search (rules, digits_more))

pub returns : goal.returns
returns c = record { value = search (rules, digits_end); bound = search (rules, tens_most) }
