-- Each line of a file, by what the forms above it say. Assumes nothing.
use Rattle.std.specs.Prelude.{◌≡◌, ◌≤◌, ℕ, ◌+◌, List, ◌∷◌, ◌++◌, length, map, flat_map, Option, Result}
use Rattle.terms.specs.declared.decline.Decline.{Decline}
use Rattle.reader.specs.declared.form.Form.{Form}
use Rattle.reader.specs.Forms.{line_told, told_of}
use Rattle.replies.specs.declared.reply.Reply.{Reply}
use Rattle.replies.specs.Texts.{reply_text}
use Rattle.day.specs.Cutting.{lines_of}
use Rattle.day.specs.Said.{Said}
use Rattle.day.specs.Answering.{LineReply}
use Rattle.day.specs.Settling.{Settled}
use Rattle.day.specs.Runs.{forms_in, Say}

-- the line that is read so is answered with the reply, by what the forms of the lines above it say
pub record LineAnswered (above : List (Result (Option Form) Decline)) (reading : Result (Option Form) Decline) (reply : Reply) : Type 0 where
  pub said : Said
  pub says : Say (forms_in above) said
  pub answered : LineReply said reading (1 + length above) reply

-- each line is read and has one reply, which answers it, and the replies' texts in their order are the text
pub record EachAnswered (lines : List (List ℕ)) (text : List ℕ) : Type 0 where
  pub outcomes : List (Result (Option Form) Decline)
  pub read : map told_of outcomes ≡ map line_told lines
  pub replies : List Reply
  pub count : length replies ≡ length lines
  pub answered : (above below : List (Result (Option Form) Decline)) (reading : Result (Option Form) Decline) (before after : List Reply) (reply : Reply) → outcomes ≡ above ++ (reading ∷ below) → replies ≡ before ++ (reply ∷ after) → length before ≡ length above → LineAnswered above reading reply
  pub text_is : text ≡ flat_map reply_text replies

-- so it is of every file that is not too long
abbrev pub EachLineLaw : Type 0
EachLineLaw = (file text : List ℕ) → length file ≤ 65536 → Settled file text → EachAnswered (lines_of file) text
