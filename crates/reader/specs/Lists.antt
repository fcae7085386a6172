-- What forms repeat. Assumes nothing.
use Rattle.std.specs.Prelude.{List, ℤ, pos, neg_ℤ, codes}
use Rattle.arrayvec.specs.ArrayVec.{ArrayVec}
use Rattle.terms.specs.declared.entry.Entry.{Entry}
use Rattle.words.specs.Shapes.{Shape, natural, whole, after, both, many, put, bracketed}
use Rattle.words.specs.Grammar.{open_text}
use Rattle.reader.specs.declared.steps.Step.{Step}

abbrev pub items_of : {A : Type 0} → ArrayVec A → List A
items_of v = v.items

-- (a q): a state, and an output from lo to hi
abbrev pub entry_shape : ℤ → ℤ → Shape Entry
entry_shape lo hi =
    put (λ v. record { state = v.0; output = v.1 }) (λ e. (e.state, e.output))
    (bracketed (both (natural (pos 0) (pos 2147483647)) (whole lo hi)))

-- (Q P): lots, and a price from lo to hi
abbrev pub step_shape : ℤ → ℤ → Shape Step
step_shape lo hi =
    put (λ v. record { lots = v.0; price = v.1 }) (λ s. (s.lots, s.price))
    (bracketed (both (natural (pos 1) (pos 500)) (whole lo hi)))

-- one to 48 numbers, or entries
abbrev pub amounts_shape : Shape (List ℤ)
amounts_shape = many 48 (whole (neg_ℤ (pos 2147483648)) (pos 2147483647))

abbrev pub schedule_shape : Shape (List Entry)
schedule_shape = many 48 (entry_shape (neg_ℤ (pos 2147483648)) (pos 2147483647))

-- (steps (Q P) ..), one to four steps
abbrev pub steps_shape : ℤ → ℤ → Shape (List Step)
steps_shape lo hi = after open_text (after (codes "steps") (many 4 (step_shape lo hi)))
