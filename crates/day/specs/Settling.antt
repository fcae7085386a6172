-- A whole file and the text that it is answered with. Assumes nothing.
use Rattle.std.specs.Io.KnownBytes.{Appends}
use Rattle.std.specs.Prelude.{IfSome, ◌≡◌, ℕ, ◌+◌, List, [], ◌∷◌, ◌++◌, length, Option, Result, cond, nat_lt}
use Rattle.terms.specs.declared.decline.Decline.{Decline}
use Rattle.terms.specs.declared.decline.Cause.TheVariants.{FileTooLong}
use Rattle.reader.specs.declared.form.Form.{Form}
use Rattle.reader.specs.Forms.{line_told, told_of}
use Rattle.replies.specs.declared.reply.Reply.{Reply}
use Rattle.replies.specs.Texts.{no_text, reply_text}
use Rattle.day.specs.Cutting.{lines_of}
use Rattle.day.specs.Said.{Said, nothing, after_line}
use Rattle.day.specs.Answering.{LineReply}

-- the first line, of this number, is read and answered, and then the others are
pub record LineOf (line : List ℕ) (s : Said) (n : ℕ) (text : List ℕ) (Rest : Said → List ℕ → Type 0) : Type 0 where
  pub reading : Result (Option Form) Decline
  pub read : told_of reading ≡ line_told line
  pub reply : Reply
  pub answered : LineReply s reading n reply
  pub rest : List ℕ
  pub others : Rest (after_line s reading) rest
  pub text_is : text ≡ reply_text reply ++ rest

-- lines from this number on, after what the file has said, are answered with the text
abbrev pub TextOfLines : List (List ℕ) → Said → ℕ → List ℕ → Type 0
TextOfLines [] s n text = text ≡ []
TextOfLines (line ∷ lines) s n text = LineOf line s n text (λ after rest. TextOfLines lines after (n + 1) rest)

-- 1 where the file is over 65,536 bytes, and nothing else is read
abbrev pub Settled : List ℕ → List ℕ → Type 0
Settled file text =
    cond (nat_lt 65536 (length file)) (text ≡ no_text (record { cause = FileTooLong; place = 1 }) 1) (TextOfLines (lines_of file) nothing 1 text)

-- a file has one text
abbrev pub OneTextLaw : Type 0
OneTextLaw = (file t u : List ℕ) → Settled file t → Settled file u → t ≡ u

-- a file is settled, and a writer that held these bytes holds its text after them; the file is what the reader had, where
-- that is known
pub record WritesText (input old new : Option (List ℕ)) : Type 0 where
  pub file : List ℕ
  pub is_input : IfSome input (λ bytes. file ≡ bytes)
  pub text : List ℕ
  pub settled : Settled file text
  pub written : Appends old new text
