-- The first 65,537 bytes tell the text of a file. Assumes nothing.
use Rattle.std.proofs.Common.{◌≡◌, ℕ, ◌<◌, cond, List, [], ◌++◌, length, take, Some, None, Option, Ok, Err, Result, sym, refl, ◌∙◌, subst, inl, inr, arith}
use Rattle.std.specs.Prelude.{IfSome, OnOk}
use Rattle.std.specs.Option.{option_map}
use Rattle.std.specs.Io.KnownBytes.{Appends}
use Rattle.std.proofs.lemmas.Bool.{cases_lt, lt-ltb}
use Rattle.std.proofs.lemmas.List.{length-take-le, take_all}
use Rattle.terms.specs.declared.decline.Cause.TheVariants.{FileTooLong}
use Rattle.replies.specs.Texts.{no_text}
use Rattle.day.specs.Cutting.{lines_of}
use Rattle.day.specs.Said.{nothing}
use Rattle.day.specs.Settling.{TextOfLines, Settled, WritesText}

-- the two texts of a file that is too long are one
too_long : (file other text : List ℕ) → 65536 < length file → 65536 < length other → Settled other text → Settled file text
too_long file other text l m h =
    let declined = text ≡ no_text (record { cause = FileTooLong; place = 1 }) 1 in
    let said : declined = subst (λ b. cond b declined (TextOfLines (lines_of other) nothing 1 text)) (lt-ltb 65536 (length other) m) h in
    subst (λ b. cond b declined (TextOfLines (lines_of file) nothing 1 text)) (sym (lt-ltb 65536 (length file) l)) said

pub enough : (file text : List ℕ) → Settled (take 65537 file) text → Settled file text
enough file text h =
    elim (cases_lt 65536 (length file)) [
      | inl l ↦ let n = length-take-le 65537 file (omega arith) in too_long file (take 65537 file) text l (omega (arith, n)) h
      | inr s ↦ subst (λ f. Settled f text) (take_all 65537 file (omega arith)) h
    ]

pub written : {E : Type 0} (r : Result (Unit {0}) E) (input old new : Option (List ℕ)) (read text : List ℕ) → IfSome input (λ file. read ≡ take 65537 file) → Settled read text → OnOk r (Appends old new text) → OnOk r (WritesText input old new)
written (Err e) input old new read text is h a = tt
written (Ok x) None old new read text is h a = record { file = read; is_input = tt; text = text; settled = h; written = a }
written (Ok x) (Some file) old new read text is h a = record { file = file; is_input = refl; text = text; settled = enough file text (subst (λ f. Settled f text) is h); written = a }

-- what a reader gave of its first 65,537 bytes
pub taken : (input : Option (List ℕ)) (limit : ℕ) (old read : List ℕ) → limit ≡ 65537 → old ≡ [] → IfSome (option_map (take limit) input) (λ xs. read ≡ old ++ xs) → IfSome input (λ file. read ≡ take 65537 file)
taken None limit old read l e h = tt
taken (Some file) limit old read l e h = h ∙ (λ i. e i ++ take (l i) file)
