-- What is told of an answer leaves nothing of it open. Assumes nothing.
use Rattle.std.proofs.Common.{◌≡◌, ℕ, Some, None, Ok, Err, Option, sym, refl, ap, ◌∙◌}
use Rattle.terms.specs.Declines.{number_of}
use Rattle.terms.proofs.Causes.{same_decline}
use Rattle.reader.specs.declared.names.FormName.{FormName}
use Rattle.reader.specs.declared.names.FormName.TheVariants as name
use Rattle.reader.specs.declared.offer.Offer.{Offer}
use Rattle.reader.specs.declared.offer.Offer.TheVariants as offer
use Rattle.reader.specs.declared.form.Form.{Form}
use Rattle.reader.specs.declared.form.Form.TheVariants as form
use Rattle.reader.specs.Forms.{Values, Line, line_of, Told, says, declined}
use Rattle.reader.specs.LineLaws.{ToldLaw}
use Rattle.reader.proofs.OneOffer.{same_offer}

-- the form with these numbers, but for the offers
abbrev plain : (k : FormName) → Values k → Option Form
plain name.Day v = Some (form.Day v.0 v.1)
plain name.Steam v = None
plain name.Ramp v = None
plain name.Lake v = None
plain name.Buyer v = None
plain name.Out v = Some (form.Out v.0 v.1.0 v.1.1)
plain name.Need v = Some (form.Need (record { items = v }))
plain name.Price v = Some (form.Price v.0 (record { items = v.1 }))
plain name.Run v = Some (form.Run v.0 (record { items = v.1 }))
plain name.Mix v = Some (form.Mix v.0 v.1.0 (record { items = v.1.1 }))
plain name.Supply v = Some (form.Supply v)
plain name.Show v = Some (form.Show v)
plain name.Judge v = Some form.Judge

abbrev back : Line → Option Form
back l = plain l.name l.values

no_offer : (o : Offer) → back (line_of (form.Offer o)) ≡ None
no_offer (offer.Steam o) = refl
no_offer (offer.Ramp o) = refl
no_offer (offer.Lake o) = refl
no_offer (offer.Buyer o) = refl

-- a form is an offer, or has its line's numbers
kinds : {P : Form → Type 0} → ((o : Offer) → P (form.Offer o)) → ((f : Form) → back (line_of f) ≡ Some f → P f) → (f : Form) → P f
kinds with_offer with_plain (form.Day t w) = with_plain (form.Day t w) refl
kinds with_offer with_plain (form.Offer o) = with_offer o
kinds with_offer with_plain (form.Out u a b) = with_plain (form.Out u a b) refl
kinds with_offer with_plain (form.Need d) = with_plain (form.Need d) refl
kinds with_offer with_plain (form.Price d n) = with_plain (form.Price d n) refl
kinds with_offer with_plain (form.Run u x) = with_plain (form.Run u x) refl
kinds with_offer with_plain (form.Mix u w x) = with_plain (form.Mix u w x) refl
kinds with_offer with_plain (form.Supply u) = with_plain (form.Supply u) refl
kinds with_offer with_plain (form.Show u) = with_plain (form.Show u) refl
kinds with_offer with_plain form.Judge = with_plain form.Judge refl

same_some : (f g : Form) → Some f ≡ Some g → f ≡ g
same_some f g e = cc

none_some : {P : Type 0} (f : Form) → None ≡ Some f → P
none_some f e = cc

same_form : (f g : Form) → line_of f ≡ line_of g → f ≡ g
same_form =
    kinds {P = λ f. (g : Form) → line_of f ≡ line_of g → f ≡ g}
    (λ o. kinds {P = λ g. line_of (form.Offer o) ≡ line_of g → form.Offer o ≡ g}
    (λ p e. ap form.Offer (same_offer o p e))
    (λ g k e. none_some g (sym (no_offer o) ∙ ap back e ∙ k)))
    (λ f h. kinds {P = λ g. line_of f ≡ line_of g → f ≡ g}
    (λ p e. none_some f (sym (no_offer p) ∙ ap back (sym e) ∙ h))
    (λ g k e. same_some f g (sym h ∙ ap back e ∙ k)))

same_line : (l m : Line) → says l ≡ says m → l ≡ m
same_line l m e = cc

same_number : (n p o q : ℕ) → declined n p ≡ declined o q → n ≡ o
same_number n p o q e = cc

same_place : (n p o q : ℕ) → declined n p ≡ declined o q → p ≡ q
same_place n p o q e = cc

clash : {P : Type 0} (a b : Told) → a ≡ b → (a ≡ b → ⊥) → P
clash a b e n = absurd (n e)

pub told_law : ToldLaw
told_law (Ok None) (Ok None) e = refl
told_law (Ok None) (Ok (Some g)) e = clash _ _ e (λ z. cc)
told_law (Ok None) (Err d) e = clash _ _ e (λ z. cc)
told_law (Ok (Some f)) (Ok None) e = clash _ _ e (λ z. cc)
told_law (Ok (Some f)) (Ok (Some g)) e = ap (λ x. Ok (Some x)) (same_form f g (same_line (line_of f) (line_of g) e))
told_law (Ok (Some f)) (Err d) e = clash _ _ e (λ z. cc)
told_law (Err c) (Ok None) e = clash _ _ e (λ z. cc)
told_law (Err c) (Ok (Some g)) e = clash _ _ e (λ z. cc)
told_law (Err c) (Err d) e =
    ap Err (same_decline c d (same_number _ c.place _ d.place e) (same_place (number_of c.cause) _ (number_of d.cause) _ e))
