-- What a line of a day file says, by its form. Assumes nothing.
use Rattle.std.specs.Prelude.{ℕ, ◌+◌, Bool, true, cond, List, length, ℤ, pos, Some, None, Ok, Err, Option, Result}
use Rattle.terms.specs.declared.decline.Decline.{Decline}
use Rattle.terms.specs.declared.entry.Entry.{Entry}
use Rattle.terms.specs.Declines.{number_of}
use Rattle.words.specs.Classes.{fault_of}
use Rattle.words.specs.Lines.{words_from}
use Rattle.words.specs.Grammar.{State, Answer, Reader, bind, got, no, word, end, ends, open_text}
use Rattle.words.specs.Shapes.{Shape, nothing, natural, ended, both, read}
use Rattle.reader.specs.declared.steps.Step.{Step}
use Rattle.reader.specs.declared.numbers.LakeNumbers.{LakeNumbers}
use Rattle.reader.specs.declared.names.FormName.{FormName}
use Rattle.reader.specs.declared.names.FormName.TheVariants as name
use Rattle.reader.specs.declared.offer.Offer.{Offer}
use Rattle.reader.specs.declared.offer.Offer.TheVariants as offer
use Rattle.reader.specs.declared.form.Form.{Form}
use Rattle.reader.specs.declared.form.Form.TheVariants as form
use Rattle.reader.specs.Names.{read_name}
use Rattle.reader.specs.Lists.{amounts_shape, schedule_shape}
use Rattle.reader.specs.OfferParts.{SteamValues, RampValues, steam_shape, ramp_shape, lake_shape, buyer_shape}
use Rattle.reader.specs.Agreement.{steam_agrees, ramp_agrees, lake_agrees, buyer_agrees, used}

-- the numbers of each form
abbrev pub Values : FormName → Type 0
Values name.Day = ℕ × ℕ
Values name.Steam = SteamValues
Values name.Ramp = RampValues
Values name.Lake = LakeNumbers
Values name.Buyer = List Step
Values name.Out = ℕ × (ℕ × ℕ)
Values name.Need = List ℤ
Values name.Price = ℕ × List ℤ
Values name.Run = ℕ × List Entry
Values name.Mix = ℕ × (ℕ × List Entry)
Values name.Supply = ℕ
Values name.Show = ℕ
Values name.Judge = Unit {0}

-- a unit, a state, a period, a weight or a denominator
abbrev pub count : Shape ℕ
count = natural (pos 0) (pos 2147483647)

-- each form after its name, with the closing bracket
abbrev pub shape_of : (k : FormName) → Shape (Values k)
shape_of name.Day = ended (both (natural (pos 1) (pos 48)) (natural (pos 1) (pos 1000)))
shape_of name.Steam = steam_shape
shape_of name.Ramp = ramp_shape
shape_of name.Lake = lake_shape
shape_of name.Buyer = buyer_shape
shape_of name.Out = ended (both count (both count count))
shape_of name.Need = amounts_shape
shape_of name.Price = both count amounts_shape
shape_of name.Run = both count schedule_shape
shape_of name.Mix = both count (both count schedule_shape)
shape_of name.Supply = ended count
shape_of name.Show = ended count
shape_of name.Judge = ended nothing

-- whether an offer's numbers agree; the numbers of other forms do
abbrev pub agrees : (k : FormName) → Values k → Bool
agrees name.Day v = true
agrees name.Steam v = steam_agrees v
agrees name.Ramp v = ramp_agrees v
agrees name.Lake v = lake_agrees v
agrees name.Buyer v = buyer_agrees v
agrees name.Out v = true
agrees name.Need v = true
agrees name.Price v = true
agrees name.Run v = true
agrees name.Mix v = true
agrees name.Supply v = true
agrees name.Show v = true
agrees name.Judge v = true

-- a form with its numbers
pub record Line : Type 0 where
  pub name : FormName
  pub values : Values name

abbrev pub offer_line : Offer → Line
offer_line (offer.Steam o) =
    let n = o.numbers in
    record { name = name.Steam; values = (n.run, (n.rest, (n.start, (n.idle, (used n.steps.places, n.was))))) }
offer_line (offer.Ramp o) =
    let n = o.numbers in
    record { name = name.Ramp; values = (n.run, (n.rate, (n.start, (n.idle, (used n.steps.places, n.was))))) }
offer_line (offer.Lake o) = record { name = name.Lake; values = o.numbers }
offer_line (offer.Buyer o) = record { name = name.Buyer; values = used o.steps.places }

abbrev pub line_of : Form → Line
line_of (form.Day t w) = record { name = name.Day; values = (t, w) }
line_of (form.Offer o) = offer_line o
line_of (form.Out u a b) = record { name = name.Out; values = (u, (a, b)) }
line_of (form.Need d) = record { name = name.Need; values = d.items }
line_of (form.Price d n) = record { name = name.Price; values = (d, n.items) }
line_of (form.Run u x) = record { name = name.Run; values = (u, x.items) }
line_of (form.Mix u w x) = record { name = name.Mix; values = (u, (w, x.items)) }
line_of (form.Supply u) = record { name = name.Supply; values = u }
line_of (form.Show u) = record { name = name.Show; values = u }
line_of form.Judge = record { name = name.Judge; values = tt }

-- numbers that disagree: 8, at place 1
abbrev pub agreed : Bool → Line → Reader Line
agreed b l s = cond b (got l s) (no 8 1)

-- a form after its name, up to the end of the line
abbrev pub read_form : FormName → Reader Line
read_form k s = bind (read (shape_of k) s) (λ v s₁. bind (end s₁) (λ _. agreed (agrees k v) (record { name = k; values = v })))

abbrev pub read_any : Reader Line
read_any s = bind (word open_text s) (λ _ s₁. bind (read_name s₁) (λ k. read_form k))

-- what reading a whole line comes to: nothing on a blank line, a form, or a decline with number and place
pub data Told : Type 0 where
  blank : Told
  says : Line → Told
  declined : ℕ → ℕ → Told

abbrev pub told : Answer Line → Told
told (got l s) = says l
told (no n p) = declined n p

abbrev pub told_by : Option (ℕ × ℕ) → State → Told
told_by (Some f) s = declined f.0 f.1
told_by None s = cond (ends s) blank (told (read_any s))

-- all the words of a line
abbrev pub line_state : List ℕ → State
line_state line = record { left = words_from 1 line; end = 1 + length line }

-- 2, then 3, then the words from the left, and 8 last
abbrev pub line_told : List ℕ → Told
line_told line = told_by (fault_of line) (line_state line)

-- the same of what the code answers
abbrev pub told_of : Result (Option Form) Decline → Told
told_of (Ok None) = blank
told_of (Ok (Some f)) = says (line_of f)
told_of (Err d) = declined (number_of d.cause) d.place
