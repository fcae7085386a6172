-- Each line of a file, by what the forms above it say. Assumes nothing.
use Rattle.std.proofs.Common.{◌≡◌, ℕ, ◌+◌, cond, List, [], ◌∷◌, ◌++◌, length, map, fold, Option, Result, sym, refl, ap, ◌∙◌, subst, add-zero, arith}
use Rattle.std.specs.Prelude.{flat_map}
use Rattle.std.proofs.lemmas.Bool.{le-ltb}
use Rattle.terms.specs.declared.decline.Decline.{Decline}
use Rattle.terms.specs.declared.decline.Cause.TheVariants.{FileTooLong}
use Rattle.reader.specs.declared.form.Form.{Form}
use Rattle.reader.specs.Forms.{line_told, told_of}
use Rattle.replies.specs.declared.reply.Reply.{Reply}
use Rattle.replies.specs.Texts.{no_text, reply_text}
use Rattle.day.specs.Cutting.{lines_of}
use Rattle.day.specs.Said.{Said, nothing, after_line}
use Rattle.day.specs.Answering.{LineReply}
use Rattle.day.specs.Settling.{TextOfLines}
use Rattle.day.specs.EachLine.{EachLineLaw}
use Rattle.day.proofs.Runs.{session_law}

heads : {X : Type 0} (x y : X) (xs ys : List X) → x ∷ xs ≡ y ∷ ys → x ≡ y
heads x y xs ys e = cc

tails : {X : Type 0} (x y : X) (xs ys : List X) → x ∷ xs ≡ y ∷ ys → xs ≡ ys
tails x y xs ys e = cc

none : {P X : Type 0} (xs ys : List X) (x : X) → [] ≡ xs ++ (x ∷ ys) → P
none [] ys x e = cc
none (y ∷ xs) ys x e = cc

-- the reply in this place answers the reading in the same place, after the outcomes above it
abbrev Answers : Said → ℕ → List (Result (Option Form) Decline) → List Reply → Type 0
Answers s n outcomes replies =
    (above below : List (Result (Option Form) Decline)) (reading : Result (Option Form) Decline) (before after : List Reply) (reply : Reply) → outcomes ≡ above ++ (reading ∷ below) → replies ≡ before ++ (reply ∷ after) → length before ≡ length above → LineReply (fold after_line s above) reading (n + length above) reply

one_more : (s : Said) (n : ℕ) (reading : Result (Option Form) Decline) (reply : Reply) (outcomes : List (Result (Option Form) Decline)) (replies : List Reply) → LineReply s reading n reply → Answers (after_line s reading) (n + 1) outcomes replies → Answers s n (reading ∷ outcomes) (reply ∷ replies)
one_more s n reading reply outcomes replies h k [] below r [] after p e f l =
    subst (λ z. LineReply s r z p) (sym (add-zero n))
    (subst (λ z. LineReply s z n p) (heads reading r outcomes below e) (subst (LineReply s reading n) (heads reply p replies after f) h))
one_more s n reading reply outcomes replies h k [] below r (b ∷ before) after p e f l = absurd (omega arith)
one_more s n reading reply outcomes replies h k (a ∷ above) below r [] after p e f l = absurd (omega arith)
one_more s n reading reply outcomes replies h k (a ∷ above) below r (b ∷ before) after p e f l =
    let first = heads reading a outcomes (above ++ (r ∷ below)) e in
    let others = k above below r before after p (tails reading a outcomes (above ++ (r ∷ below)) e) (tails reply b replies (before ++ (p ∷ after)) f) (omega arith) in
    let far : n + 1 + length above ≡ n + length (a ∷ above) = omega arith in
    subst (λ z. LineReply (fold after_line s (a ∷ above)) r z p) far (subst (λ z. LineReply (fold after_line (after_line s z) above) r (n + 1 + length above) p) first others)

-- the same of lines from number n on, after what was said
record Each (s : Said) (n : ℕ) (lines : List (List ℕ)) (text : List ℕ) : Type 0 where
  outcomes : List (Result (Option Form) Decline)
  read : map told_of outcomes ≡ map line_told lines
  replies : List Reply
  count : length replies ≡ length lines
  answers : Answers s n outcomes replies
  text_is : text ≡ flat_map reply_text replies

each : (lines : List (List ℕ)) (s : Said) (n : ℕ) (text : List ℕ) → TextOfLines lines s n text → Each s n lines text
each [] s n text h = record {
  outcomes = [];
  read = refl;
  replies = [];
  count = refl;
  answers = λ above below r before after p e f l. none above below r e;
  text_is = h;
}
each (line ∷ lines) s n text h =
    let r = each lines (after_line s h.reading) (n + 1) h.rest h.others in
    record {
      outcomes = h.reading ∷ r.outcomes;
      read = λ i. h.read i ∷ r.read i;
      replies = h.reply ∷ r.replies;
      count = let k = r.count in omega arith;
      answers = one_more s n h.reading h.reply r.outcomes r.replies h.answered r.answers;
      text_is = h.text_is ∙ ap (λ t. reply_text h.reply ++ t) r.text_is;
    }

pub each_line_law : EachLineLaw
each_line_law file text short h =
    let lines : TextOfLines (lines_of file) nothing 1 text = subst (λ b. cond b (text ≡ no_text (record { cause = FileTooLong; place = 1 }) 1) (TextOfLines (lines_of file) nothing 1 text)) (le-ltb 65536 (length file) short) h in
    let r = each (lines_of file) nothing 1 text lines in
    record {
      outcomes = r.outcomes;
      read = r.read;
      replies = r.replies;
      count = r.count;
      answered = λ above below reading before after reply e f l. record {
        said = fold after_line nothing above;
        says = session_law.says above;
        answered = r.answers above below reading before after reply e f l;
      };
      text_is = r.text_is;
    }
