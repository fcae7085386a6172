-- What each line of a file is answered, by what the file has said before it. Assumes nothing.
use Rattle.std.specs.Prelude.{◌≡◌, ℕ, List, length, take, ℤ, Some, None, Ok, Err, Option, Result, nat_lt, cond}
use Rattle.terms.specs.Declines.{Says}
use Rattle.terms.specs.declared.decline.Decline.{Decline}
use Rattle.terms.specs.declared.decline.Layer.{Layer}
use Rattle.terms.specs.declared.decline.Layer.TheVariants.{Reader as ReaderLayer, Fleet as FleetLayer}
use Rattle.terms.specs.declared.entry.Entry.{Entry}
use Rattle.fleet.specs.Units.{Meaning}
use Rattle.fleet.specs.Rows.{Fault}
use Rattle.fleet_kinds.specs.declared.outages.Outage.{Outage}
use Rattle.fleet_kinds.specs.OutageLists.{outage_fault}
use Rattle.reader.specs.declared.offer.Offer.{Offer as AnOffer}
use Rattle.reader.specs.declared.form.Form.{Form}
use Rattle.reader.specs.declared.form.Form.TheVariants.{Day, Offer, Out, Need, Price, Run, Mix, Supply, Show, Judge}
use Rattle.settlement.specs.declared.verdicts.Judgement.{Judgement}
use Rattle.settlement.specs.Ledger.{Ledger, Call, need, price, run, mix, fresh, ledger}
use Rattle.settlement.specs.Calls.{Enters, Supplies, Shows, open_fault}
use Rattle.settlement.specs.Verdicts.{Judges}
use Rattle.replies.specs.declared.reply.Reply.{Reply}
use Rattle.replies.specs.declared.reply.Reply.TheVariants.{Nothing, No, Verdict}
use Rattle.replies.specs.declared.reply.Reply.TheVariants.{Supply as SupplyReply, Show as ShowReply}
use Rattle.day.specs.Said.{Said, nothing, begun, opened, fleet_of}

-- the line is declined with this number at this place
abbrev pub Declines : Layer → ℕ → ℕ → ℕ → Reply → Type 0
Declines layer number place line (No d k) = Says layer number place d × (k ≡ line)
Declines layer number place line Nothing = ⊥
Declines layer number place line (SupplyReply u b l m) = ⊥
Declines layer number place line (ShowReply u x) = ⊥
Declines layer number place line (Verdict p j) = ⊥

-- declined with the number, at place 0, where there is one; else not answered
abbrev pub DeclinesIf : Layer → Option ℕ → ℕ → Reply → Type 0
DeclinesIf layer None line r = r ≡ Nothing
DeclinesIf layer (Some n) line r = Declines layer n 0 line r

-- a form out of its place: 9
abbrev pub OutOfPlace : ℕ → Reply → Type 0
OutOfPlace line r = Declines ReaderLayer 9 1 line r

-- need, price, run and mix: nothing, or why they are declined
abbrev pub enters : ℕ → Result (Unit {0}) Decline → Reply
enters line (Ok x) = Nothing
enters line (Err d) = No d line

abbrev pub EntersReply : Call → ℕ → Reply → Meaning → ℕ → ℕ → Ledger → Type 0
EntersReply c line r m T W l = (q : Result (Unit {0}) Decline) × Enters c q m T W l × (r ≡ enters line q)

abbrev pub supplies : ℕ → ℕ → Result (ℤ × ℤ × ℤ) Decline → Reply
supplies u line (Ok s) = SupplyReply u s.0 s.1 s.2
supplies u line (Err d) = No d line

abbrev pub SupplyReplied : ℕ → ℕ → Reply → Meaning → ℕ → ℕ → Ledger → Type 0
SupplyReplied u line r m T W l = (q : Result (ℤ × ℤ × ℤ) Decline) × Supplies u 3920 3920 q m T W l × (r ≡ supplies u line q)

-- the buffer's entries of the day
abbrev pub ShownAs : ℕ → ℕ → ℕ → List Entry → Result (Unit {0}) Decline → Reply → Type 0
ShownAs u T line new (Ok x) (ShowReply v xs) = (v ≡ u) × (xs.items ≡ take T new)
ShownAs u T line new (Ok x) Nothing = ⊥
ShownAs u T line new (Ok x) (No d k) = ⊥
ShownAs u T line new (Ok x) (SupplyReply v b l m) = ⊥
ShownAs u T line new (Ok x) (Verdict p j) = ⊥
ShownAs u T line new (Err d) r = r ≡ No d line

abbrev pub ShowReplied : ℕ → ℕ → Reply → Meaning → ℕ → ℕ → Ledger → Type 0
ShowReplied u line r m T W l = (q : Result (Unit {0}) Decline) × (old : List Entry) × (new : List Entry) × (length old ≡ 48) × Shows u 3920 old new q m T W l × ShownAs u T line new q r

-- the buffer's pays of the units, and the judgement
abbrev pub JudgedAs : ℕ → ℕ → List ℤ → Result Judgement Decline → Reply → Type 0
JudgedAs units line new (Ok j) (Verdict pays k) = (k ≡ j) × (pays.items ≡ take units new)
JudgedAs units line new (Ok j) Nothing = ⊥
JudgedAs units line new (Ok j) (No d k) = ⊥
JudgedAs units line new (Ok j) (SupplyReply v b l m) = ⊥
JudgedAs units line new (Ok j) (ShowReply v xs) = ⊥
JudgedAs units line new (Err d) r = r ≡ No d line

-- the whole theorem on the verdict, at the ledger of the calls so far
abbrev pub JudgeReplied : ℕ → Reply → Meaning → ℕ → ℕ → Ledger → Type 0
JudgeReplied line r m T W l = (q : Result Judgement Decline) × (old : List ℤ) × (new : List ℤ) × (length old ≡ 64) × Judges m T W l old new q × JudgedAs m.units line new q r

-- a form while the docket is open, at the ledger of the calls so far
abbrev pub DocketReply : Form → ℕ → Reply → Meaning → ℕ → ℕ → Ledger → Type 0
DocketReply (Day t w) line r m T W l = OutOfPlace line r
DocketReply (Offer o) line r m T W l = OutOfPlace line r
DocketReply (Out u a b) line r m T W l = OutOfPlace line r
DocketReply (Need d) line r m T W l = EntersReply (need d.items) line r m T W l
DocketReply (Price d n) line r m T W l = EntersReply (price d n.items) line r m T W l
DocketReply (Run u x) line r m T W l = EntersReply (run u x.items 3920) line r m T W l
DocketReply (Mix u w x) line r m T W l = EntersReply (mix u w x.items) line r m T W l
DocketReply (Supply u) line r m T W l = SupplyReplied u line r m T W l
DocketReply (Show u) line r m T W l = ShowReplied u line r m T W l
DocketReply Judge line r m T W l = JudgeReplied line r m T W l

-- a need while no docket is open: why it does not open, or what the fresh docket answers
abbrev pub OpeningReply : Option Fault → List ℤ → ℕ → Reply → Meaning → ℕ → ℕ → Type 0
OpeningReply None d line r m T W = EntersReply (need d) line r m T W fresh
OpeningReply (Some f) d line r m T W = Declines FleetLayer f.number f.place line r

abbrev pub BegunReply : List AnOffer → List Outage → Form → ℕ → Reply → ℕ → ℕ → Type 0
BegunReply os xs (Day t w) line r T W = OutOfPlace line r
BegunReply os xs (Offer o) line r T W = cond (nat_lt (length os) 64) (r ≡ Nothing) (Declines ReaderLayer 10 1 line r)
BegunReply os xs (Out u a b) line r T W = DeclinesIf FleetLayer (outage_fault (length os) (length xs) (record { unit = u; first = a; last = b })) line r
BegunReply os xs (Need d) line r T W = OpeningReply (open_fault (fleet_of os xs) T W) d.items line r (fleet_of os xs) T W
BegunReply os xs (Price d n) line r T W = OutOfPlace line r
BegunReply os xs (Run u x) line r T W = OutOfPlace line r
BegunReply os xs (Mix u w x) line r T W = OutOfPlace line r
BegunReply os xs (Supply u) line r T W = OutOfPlace line r
BegunReply os xs (Show u) line r T W = OutOfPlace line r
BegunReply os xs Judge line r T W = OutOfPlace line r

abbrev pub FirstReply : Form → ℕ → Reply → Type 0
FirstReply (Day T W) line r = r ≡ Nothing
FirstReply (Offer o) line r = OutOfPlace line r
FirstReply (Out u a b) line r = OutOfPlace line r
FirstReply (Need d) line r = OutOfPlace line r
FirstReply (Price d n) line r = OutOfPlace line r
FirstReply (Run u x) line r = OutOfPlace line r
FirstReply (Mix u w x) line r = OutOfPlace line r
FirstReply (Supply u) line r = OutOfPlace line r
FirstReply (Show u) line r = OutOfPlace line r
FirstReply Judge line r = OutOfPlace line r

-- a form after what the file has said
abbrev pub FormReply : Said → Form → ℕ → Reply → Type 0
FormReply nothing f line r = FirstReply f line r
FormReply (begun T W os xs) f line r = BegunReply os xs f line r T W
FormReply (opened T W os xs cs) f line r = DocketReply f line r (fleet_of os xs) T W (ledger (fleet_of os xs) T W cs)

-- a line by what it was read to
abbrev pub LineReply : Said → Result (Option Form) Decline → ℕ → Reply → Type 0
LineReply s (Ok None) line r = r ≡ Nothing
LineReply s (Ok (Some f)) line r = FormReply s f line r
LineReply s (Err d) line r = r ≡ No d line
