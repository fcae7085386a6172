-- What reading a numeral comes to, by the word that stands next.
use Rattle.std.proofs.Common.{◌≡◌, ℕ, Bool, true, false, cond, List, ℤ, Some, None, ap, ◌∙◌}
use Rattle.words.specs.Grammar.{State, got, no, first, past, kind_of_text, number_at, number_in, number}
use Rattle.words.specs.declared.word.Word.{Word as WordParts}
use Rattle.words.specs.declared.line.Words.{Words}
use Rattle.terms.specs.declared.decline.Cause.TheVariants.{NumeralOutOfRange}
use Rattle.std.specs.Option.{ok_or}
use Rattle.words.specs.Answers.{answer_of}
use Rattle.words.specs.Seen.{kind_of, state_of}

-- the number that lies in the range, or 7
pub tested : (z : ℤ) (p : ℕ) (s : State) (w : Words) (b : Bool) → state_of w ≡ past s → answer_of (ok_or (cond b (Some z) None) (record { cause = NumeralOutOfRange; place = p })) w ≡ cond b (got z (past s)) (no 7 p)
tested z p s w true e = ap (got z) e
tested z p s w false e = λ i. no 7 p

module _ (lo hi : ℤ) (s : State) (w : WordParts) (t : List ℕ) (p : ℕ) (e : Some (record { text = t; place = p }) ≡ first s) (k : kind_of w ≡ kind_of_text t) where
  -- by the kind of the word alone
  pub by_kind : number_at lo hi s p (kind_of w) ≡ number lo hi s
  unfolding number
  by_kind = ap (number_at lo hi s p) k ∙ ap (number_in lo hi s) e
