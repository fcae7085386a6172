-- An offer's form: the parts that are read, and then whether they make an offer.
use Rattle.std.proofs.Common.{◌≡◌, Bool, Some, None, Option, sym, ap, ◌∙◌}
use Rattle.std.proofs.lemmas.Bool.{cond-true, cond-false}
use Rattle.words.specs.declared.line.Words.{Words}
use Rattle.words.specs.Grammar.{State, bind, got, end}
use Rattle.words.specs.Shapes.{read, Fits}
use Rattle.words.specs.Answers.{answer_by}
use Rattle.words.specs.Seen.{state_of}
use Rattle.words.proofs.ReaderFacts.{join}
use Rattle.reader.specs.declared.names.FormName.{FormName}
use Rattle.reader.specs.declared.offer.Offer.{Offer}
use Rattle.reader.specs.OfferMade.{OfferIs, checked}
use Rattle.reader.specs.Forms.{Values, Line, shape_of, agrees, agreed, read_form, line_of}
use Rattle.reader.proofs.Soundness.{form_law}

answered : (b : Bool) (l : Line) (o : Option Offer) (w : Words) → OfferIs b l o → answer_by line_of (checked o) w ≡ agreed b l (state_of w)
answered b l None w h = sym (cond-false b _ _ h)
answered b l (Some o) w h = ap (λ k. got k (state_of w)) h.1 ∙ sym (cond-true b _ _ h.0)

pub offer_read : (k : FormName) (v : Values k) (s t : State) (w : Words) (b : Bool) (o : Option Offer) → got v t ≡ read (shape_of k) s → got tt (state_of w) ≡ end t → (Fits (shape_of k) v → b ≡ agrees k v) → OfferIs b (record { name = k; values = v }) o → answer_by line_of (checked o) w ≡ read_form k s
offer_read k v s t w b o e f g h =
    let l : Line = record { name = k; values = v } in
    let fits = ((form_law k).only s t v (sym e)).fits in
    answered b l o w h ∙ ap (λ c. agreed c l (state_of w)) (g fits)
    ∙ sym (join (read (shape_of k) s) (λ u s₁. bind (end s₁) (λ _. agreed (agrees k u) (record { name = k; values = u }))) v t (sym e) ∙ join (end t) (λ _. agreed (agrees k v) l) tt (state_of w) (sym f))
