-- A form of a day that is begun, and the lines of a file one after the other. Assumes nothing.
use Rattle.std.proofs.Common.{◌≡◌, ℕ, ◌+◌, ◌<◌, List, [], ◌∷◌, ◌++◌, length, take, drop, Result, refl, sym, ap, subst, ◌∙◌, append_assoc, append-nil, arith}
use Rattle.std.specs.List.{position_or_len}
use Rattle.terms.specs.declared.decline.Decline.{Decline}
use Rattle.reader.specs.declared.form.Form.{Form}
use Rattle.replies.specs.declared.reply.Reply.{Reply}
use Rattle.replies.specs.Texts.{reply_text}
use Rattle.day.specs.declared.session.Session.{Session}
use Rattle.day.specs.declared.session.BegunDay.{BegunDay}
use Rattle.day.specs.declared.session.Session.TheVariants.{Begun}
use Rattle.day.specs.Cutting.{is_newline, lines_of}
use Rattle.day.specs.Said.{Said, nothing, begun, opened, after_form, after_line}
use Rattle.day.specs.Holding.{Holds}
use Rattle.day.specs.Answering.{enters, BegunReply, FormReply}
use Rattle.day.specs.Going.{BegunGoes, LineGoes}
use Rattle.day.specs.Settling.{TextOfLines}
use Rattle.day.proofs.Cuts.{lines_cut}

pub begun_goes : (day : BegunDay) (form : Form) (after : Session) (answer : Result (Unit {0}) Decline) (line : ℕ) (reply : Reply) → BegunGoes day form after answer → reply ≡ enters line answer → (said : Said) → Holds (Begun day) said → FormReply said form line reply × Holds after (after_form said form)
begun_goes day form after answer line reply goes e nothing h = absurd h
begun_goes day form after answer line reply goes e (begun T W os xs) h =
    let g = goes T W os xs h in
    (subst (λ r. BegunReply os xs form line r T W) (sym e) (g.0 line), g.1)
begun_goes day form after answer line reply goes e (opened T W os xs cs) h = absurd h

-- after so many lines the session holds what the file has said, and the text so far is that of the lines, whatever text the
-- others are answered with
pub record Going (file : List ℕ) (session : Session) (rest : List ℕ) (n : ℕ) (text : List ℕ) : Type 0 where
  pub said : Said
  pub held : Holds session said
  pub so_far : (others : List ℕ) → TextOfLines (lines_of rest) said n others → TextOfLines (lines_of file) nothing 1 (text ++ others)

pub going_more : (file : List ℕ) (session next : Session) (rest line after : List ℕ) (n : ℕ) (text : List ℕ) (reply : Reply) → Going file session rest n text → 0 < length rest → line ≡ take (position_or_len is_newline rest) rest → after ≡ drop (position_or_len is_newline rest + 1) rest → LineGoes session line n next reply → Going file next after (n + 1) (text ++ reply_text reply)
going_more file session next rest line after n text reply g some is rests goes =
    let h = goes g.said g.held in
    let cut : lines_of rest ≡ line ∷ lines_of after = lines_cut rest some ∙ ap (λ l. l ∷ lines_of (drop (position_or_len is_newline rest + 1) rest)) (sym is) ∙ ap (λ z. line ∷ lines_of z) (sym rests) in
    record {
      said = after_line g.said h.0;
      held = h.3;
      so_far = λ others a.
          subst (λ t. TextOfLines (lines_of file) nothing 1 t) (sym (append_assoc text (reply_text reply) others))
          (g.so_far (reply_text reply ++ others)
          (subst (λ ls. TextOfLines ls g.said n (reply_text reply ++ others)) (sym cut)
          (record { reading = h.0; read = h.1; reply = reply; answered = h.2; rest = others; others = a; text_is = refl })));
    }

pub going_done : (file : List ℕ) (session : Session) (rest : List ℕ) (n : ℕ) (text : List ℕ) → Going file session rest n text → length rest ≡ 0 → TextOfLines (lines_of file) nothing 1 text
going_done file session [] n text g e = subst (λ t. TextOfLines (lines_of file) nothing 1 t) (append-nil text) (g.so_far [] refl)
going_done file session (b ∷ bs) n text g e = absurd (omega arith)
